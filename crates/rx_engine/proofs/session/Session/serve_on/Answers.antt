use Rattle.session_history.specs.declared.ends.Stop.TheVariants.{Breaks, Ends}
use Rattle.rx_engine.proofs.Terms.{Err, ap, arith, refl, subst, sym, ◌+◌, ◌-◌, ◌∙◌, ◌≡◌, Seen, Stop, StaysKnown, Rules, CanGive, served_off, known_same, known_then, left_by, answers_broken, answers_finished, notes_broken, notes_finished, between_counted, between_fits, between_lost, between_under, frame_then, lost_all, lost_beside, lost_last, lost_then, turned_smaller, cause_then, stops_under, watched_kept, same_rules, LeavesBy, keeping_of, HasWatched, IsCounted, IsFinishing, StopsBy, TakesBy, TrimsAt, TrimsBy, UnlessBroken, outcome_of, rules_by, SessionState, IsBetween, Since}
use Rattle.rx_engine.proofs.session.Session.serve_on.Goals as goal

pub turns-init : goal.turns-init
turns-init g c =
    let marked : IsCounted c.args.self.now = between_counted c.requires.is in
    let stood = marked.steps in
    record {
      stands = λ image began is. between_lost (record began { noted = (g.N.Notes.shown c.args.notes.now).told; tables = g.W.Watch.tables c.args.watch.now }) (let none : began.lost ≡ began.lost + 0 = omega arith in none) is;
      may = c.requires.may;
      frame = record { options = refl; rule = refl; before = refl; hold = refl };
      known = known_same refl;
      marked = marked;
      trimmed = c.requires.trimmed;
      keeping = refl;
      lost = 0;
      counted = omega (arith, stood);
      no_takes_fell = omega arith;
      no_gives_fell = omega arith;
      no_faults_fell = omega arith;
      outside = (g.met.K.Link.went_same c.args.link.now, refl);
    }

pub turn-requires : goal.turn-requires
turn-requires g c =
    let same = same_rules g.R.AccessRule.rule c.turns.invariant.frame in
    record {
      may = c.turns.invariant.may;
      tables_are = refl;
      image = c.requires.image;
      began = record c.requires.began { noted = (g.N.Notes.shown c.turns.notes).told; tables = g.W.Watch.tables c.turns.watch; lost = c.requires.began.lost + c.turns.invariant.lost };
      is = between_under (sym same) (c.turns.invariant.stands c.requires.image c.requires.began c.requires.is);
    }

pub turns-smaller : goal.turns-smaller
turns-smaller g c =
    let ranges = c.requires.in_range in
    turned_smaller c.args.self.now c.turns.self c.turn.new.self c.turns.invariant.frame.options
    (between_fits {rules = rules_by g.R.AccessRule.rule c.args.self.now} ranges.few_budget ranges.few_items (c.turns.invariant.stands c.requires.image c.requires.began c.requires.is)) c.in-Ok.ensures.keeps.later

pub turns-preserved : goal.turns-preserved
turns-preserved g c =
    let same = same_rules g.R.AccessRule.rule c.turns.invariant.frame in
    let cause = cause_then {before = (g.K.Link.seen c.args.link.now).counts} c.turns.invariant.no_takes_fell c.turns.invariant.no_gives_fell c.in-Ok.ensures.keeps.link.cause in
    let marked : IsCounted c.turn.new.self = c.in-Ok.ensures.keeps.marked in
    let all : g.W.Watch.ran c.args.watch.now + c.turn.new.steps + c.args.self.now.steps ≡ g.W.Watch.ran c.turn.new.watch + c.args.steps.now + ((lost_then c.turns.invariant.lost c.turns.self.cpu.slots.live.steps c.turn.new.self.steps (g.W.Watch.ran c.turn.new.watch + c.turns.steps) (g.W.Watch.ran c.turns.watch + c.turn.new.steps)) + c.turn.new.self.steps) = (lost_all c.args.self.now.steps c.args.steps.now c.turns.invariant.lost c.turns.self.cpu.slots.live.steps c.turn.new.self.steps c.turns.steps c.turn.new.steps (g.W.Watch.ran c.args.watch.now) (g.W.Watch.ran c.turns.watch) (g.W.Watch.ran c.turn.new.watch) c.turns.invariant.counted c.in-Ok.ensures.least) in
    let steps = marked.steps in
    record {
      stands = λ image began is. between_under same (c.in-Ok.ensures.turns image (record began { lost = began.lost + c.turns.invariant.lost }) (began.lost + (lost_then c.turns.invariant.lost c.turns.self.cpu.slots.live.steps c.turn.new.self.steps (g.W.Watch.ran c.turn.new.watch + c.turns.steps) (g.W.Watch.ran c.turns.watch + c.turn.new.steps))) (between_under (sym same) (c.turns.invariant.stands image began is)) (lost_beside began.lost c.turns.invariant.lost c.turns.self.cpu.slots.live.steps c.turn.new.self.steps (g.W.Watch.ran c.turn.new.watch + c.turns.steps) (g.W.Watch.ran c.turns.watch + c.turn.new.steps) c.in-Ok.ensures.least));
      frame = frame_then c.turns.invariant.frame c.in-Ok.ensures.keeps.frame;
      known = known_then (g.K.Link.seen c.args.link.now).coming (g.K.Link.seen c.turns.link).coming (g.K.Link.seen c.turn.new.link).coming c.turns.invariant.known c.in-Ok.ensures.keeps.link.known;
      may = record { takes = c.in-Ok.ensures.keeps.link.takes; gives = c.in-Ok.ensures.keeps.link.gives };
      marked = marked;
      trimmed = c.in-Ok.ensures.keeps.trimmed c.turns.invariant.trimmed;
      keeping = c.in-Ok.ensures.keeps.keeping ∙ c.turns.invariant.keeping;
      lost = (lost_then c.turns.invariant.lost c.turns.self.cpu.slots.live.steps c.turn.new.self.steps (g.W.Watch.ran c.turn.new.watch + c.turns.steps) (g.W.Watch.ran c.turns.watch + c.turn.new.steps));
      counted = omega (arith, all, steps);
      no_takes_fell = cause.takes;
      no_gives_fell = cause.gives;
      no_faults_fell = let fell = c.turns.invariant.no_faults_fell in let more = c.in-Ok.ensures.keeps.notes.cause.later in omega (arith, fell, more);
      outside = (g.met.K.Link.went_on c.args.link.now c.turns.link c.turn.new.link c.turns.invariant.outside.0 c.in-Ok.ensures.outside.0, c.in-Ok.ensures.outside.1 ∙ c.turns.invariant.outside.1);
    }

pub returns-in-Err-Breaks-clause-served : goal.returns-in-Err-Breaks-clause-served
returns-in-Err-Breaks-clause-served g c = record {
  why = Breaks c.in-Err-Breaks.why;
  is = c.answer.ensures;
  served = by;
  keeping = c.in-Err-Breaks.ensures.keeps.keeping ∙ c.turns.invariant.keeping;
  link = answers_broken {ledger = c.turn.new.self.replies} c.turns.invariant.known c.turns.invariant.no_takes_fell c.turns.invariant.no_gives_fell c.in-Err-Breaks.field-0-is c.in-Err-Breaks.ensures.keeps.link;
  notes = notes_broken c.turns.invariant.no_faults_fell c.in-Err-Breaks.field-0-is c.in-Err-Breaks.ensures.keeps.notes;
}
  where
    by : (image : _) (began : Since) (first : Seen) → StaysKnown first.coming (g.K.Link.seen c.args.link.now).coming
        → IsBetween (rules_by g.R.AccessRule.rule c.args.self.now) image (record began { told = first.told; noted = (g.N.Notes.shown c.args.notes.now).told; tables = g.W.Watch.tables c.args.watch.now }) (g.K.Link.seen c.args.link.now) c.args.self.now
        → (watched : HasWatched (rules_by g.R.AccessRule.rule c.args.self.now) image (keeping_of c.args.self.now) first (g.K.Link.seen c.turn.new.link) (outcome_of (Breaks c.in-Err-Breaks.why) c.turn.new.self) began.noted_before (g.N.Notes.shown c.turn.new.notes).told (began.lost + ((g.W.Watch.ran c.args.watch.now + c.turn.new.steps + c.args.self.now.steps) - (g.W.Watch.ran c.turn.new.watch + c.args.steps.now))) began.tables_before (g.W.Watch.tables c.turn.new.watch))
        × LeavesBy (rules_by g.R.AccessRule.rule c.args.self.now) image began.noted_before.unnoted (g.N.Notes.shown c.turn.new.notes).told.unnoted watched.recovered.telling c.turn.new.self (Breaks c.in-Err-Breaks.why)
    by image began first known is =
        let the_rules : Rules = rules_by g.R.AccessRule.rule c.args.self.now in
        let here : Rules = rules_by g.R.AccessRule.rule c.turns.self in
        let same = same_rules g.R.AccessRule.rule c.turns.invariant.frame in
        let since : Since = record began { told = first.told } in
        let behind : Since = record since { noted = (g.N.Notes.shown c.turn.new.notes).told; tables = g.W.Watch.tables c.turn.new.watch; lost = since.lost + (lost_then c.turns.invariant.lost c.turns.self.cpu.slots.live.steps c.turn.new.self.steps (g.W.Watch.ran c.turn.new.watch + c.turns.steps) (g.W.Watch.ran c.turns.watch + c.turn.new.steps)) } in
        let off = stops_under image behind (g.K.Link.seen c.turn.new.link) c.turn.new.self (Breaks c.in-Err-Breaks.why) same
        (subst (λ why. StopsBy here image behind (g.K.Link.seen c.turn.new.link) c.turn.new.self why) c.in-Err-Breaks.field-0-is
        (c.in-Err-Breaks.ensures.turns image (record since { lost = since.lost + c.turns.invariant.lost }) (since.lost + (lost_then c.turns.invariant.lost c.turns.self.cpu.slots.live.steps c.turn.new.self.steps (g.W.Watch.ran c.turn.new.watch + c.turns.steps) (g.W.Watch.ran c.turns.watch + c.turn.new.steps))) (between_under (sym same) (c.turns.invariant.stands image since is)) (lost_beside since.lost c.turns.invariant.lost c.turns.self.cpu.slots.live.steps c.turn.new.self.steps (g.W.Watch.ran c.turn.new.watch + c.turns.steps) (g.W.Watch.ran c.turns.watch + c.turn.new.steps) c.in-Err-Breaks.ensures.least))) in
        let all = (lost_all c.args.self.now.steps c.args.steps.now c.turns.invariant.lost c.turns.self.cpu.slots.live.steps c.turn.new.self.steps c.turns.steps c.turn.new.steps (g.W.Watch.ran c.args.watch.now) (g.W.Watch.ran c.turns.watch) (g.W.Watch.ran c.turn.new.watch) c.turns.invariant.counted c.in-Err-Breaks.ensures.least) in
        watched_kept (λ telling. LeavesBy the_rules image began.noted_before.unnoted (g.N.Notes.shown c.turn.new.notes).told.unnoted telling c.turn.new.self (Breaks c.in-Err-Breaks.why)) (c.in-Err-Breaks.ensures.keeps.keeping ∙ c.turns.invariant.keeping)
        (served_off (λ telling. LeavesBy the_rules image began.noted_before.unnoted (g.N.Notes.shown c.turn.new.notes).told.unnoted telling c.turn.new.self (Breaks c.in-Err-Breaks.why)) behind {first = first} off.0 off.1
        (lost_last began.lost c.args.self.now.steps c.args.steps.now c.turn.new.steps (g.W.Watch.ran c.args.watch.now) (g.W.Watch.ran c.turn.new.watch) (lost_then c.turns.invariant.lost c.turns.self.cpu.slots.live.steps c.turn.new.self.steps (g.W.Watch.ran c.turn.new.watch + c.turns.steps) (g.W.Watch.ran c.turns.watch + c.turn.new.steps)) c.turn.new.self.steps all)
        (left_by began.noted_before.unnoted (g.N.Notes.shown c.turn.new.notes).told.unnoted off.0.telling c.in-Err-Breaks.why
        (subst (λ u. TrimsAt u (g.N.Notes.shown c.turn.new.notes).told.unnoted c.turn.new.self (Breaks c.in-Err-Breaks.why)) (c.turns.invariant.stands image since is).going.answers.unnoted
        (subst (λ (why : Stop). TrimsBy (g.N.Notes.shown c.turns.notes) (g.N.Notes.shown c.turn.new.notes) c.turn.new.self (Err why)) c.in-Err-Breaks.field-0-is (c.in-Err-Breaks.ensures.keeps.trimmed c.turns.invariant.trimmed))) off.0.holds off.0.handled))

pub finish-requires : goal.finish-requires
finish-requires g c =
    let here : Rules = rules_by g.R.AccessRule.rule c.turns.self in
    let same = same_rules g.R.AccessRule.rule c.turns.invariant.frame in
    let then = same_rules g.R.AccessRule.rule c.in-Err-Ends.ensures.keeps.frame in
    let image = c.requires.image in
    let since : Since = c.requires.began in
    let behind : Since = record since { noted = (g.N.Notes.shown c.turn.new.notes).told; tables = g.W.Watch.tables c.turn.new.watch; lost = since.lost + (lost_then c.turns.invariant.lost c.turns.self.cpu.slots.live.steps c.turn.new.self.steps (g.W.Watch.ran c.turn.new.watch + c.turns.steps) (g.W.Watch.ran c.turns.watch + c.turn.new.steps)) } in
    record {
      image = image;
      began = behind;
      is = (stops_under image behind (g.K.Link.seen c.turn.new.link) c.turn.new.self (Ends c.in-Err-Ends.end) (sym then)
          (subst (λ why. StopsBy here image behind (g.K.Link.seen c.turn.new.link) c.turn.new.self why) c.in-Err-Ends.field-0-is
          (c.in-Err-Ends.ensures.turns image (record since { lost = since.lost + c.turns.invariant.lost }) (since.lost + (lost_then c.turns.invariant.lost c.turns.self.cpu.slots.live.steps c.turn.new.self.steps (g.W.Watch.ran c.turn.new.watch + c.turns.steps) (g.W.Watch.ran c.turns.watch + c.turn.new.steps))) (between_under (sym same) (c.turns.invariant.stands image since c.requires.is)) (lost_beside since.lost c.turns.invariant.lost c.turns.self.cpu.slots.live.steps c.turn.new.self.steps (g.W.Watch.ran c.turn.new.watch + c.turns.steps) (g.W.Watch.ran c.turns.watch + c.turn.new.steps) c.in-Err-Ends.ensures.least)))).0;
      gives = subst (λ (why : Stop). UnlessBroken {X = Unit {0}} (Err why) (CanGive (g.K.Link.seen c.turn.new.link) c.turn.new.self.replies)) c.in-Err-Ends.field-0-is c.in-Err-Ends.ensures.keeps.link.gives;
    }

pub returns-in-Err-Ends-clause-served : goal.returns-in-Err-Ends-clause-served
returns-in-Err-Ends-clause-served g c = record {
  why = c.finish.result;
  is = c.answer-in-Err-Ends.ensures;
  served = by;
  keeping = ap (λ (s : SessionState _). keeping_of s) c.finish.ensures.same ∙ (c.in-Err-Ends.ensures.keeps.keeping ∙ c.turns.invariant.keeping);
  link = answers_finished {ledger = c.turn.new.self.replies} c.turns.invariant.known c.turns.invariant.no_takes_fell c.turns.invariant.no_gives_fell c.in-Err-Ends.field-0-is c.in-Err-Ends.ensures.keeps.link c.finish.ensures.shows.link;
  notes = notes_finished c.turns.invariant.no_faults_fell c.in-Err-Ends.field-0-is c.in-Err-Ends.ensures.keeps.notes c.finish.ensures.shows.notes;
}
  where
    by : (image : _) (began : Since) (first : Seen) → StaysKnown first.coming (g.K.Link.seen c.args.link.now).coming
        → IsBetween (rules_by g.R.AccessRule.rule c.args.self.now) image (record began { told = first.told; noted = (g.N.Notes.shown c.args.notes.now).told; tables = g.W.Watch.tables c.args.watch.now }) (g.K.Link.seen c.args.link.now) c.args.self.now
        → (watched : HasWatched (rules_by g.R.AccessRule.rule c.args.self.now) image (keeping_of c.args.self.now) first (g.K.Link.seen c.finish.new.link) (outcome_of c.finish.result c.finish.new.self) began.noted_before (g.N.Notes.shown c.finish.new.notes).told (began.lost + ((g.W.Watch.ran c.args.watch.now + c.turn.new.steps + c.args.self.now.steps) - (g.W.Watch.ran c.turn.new.watch + c.args.steps.now))) began.tables_before (g.W.Watch.tables c.turn.new.watch))
        × LeavesBy (rules_by g.R.AccessRule.rule c.args.self.now) image began.noted_before.unnoted (g.N.Notes.shown c.finish.new.notes).told.unnoted watched.recovered.telling c.finish.new.self c.finish.result
    by image began first known is =
        let the_rules : Rules = rules_by g.R.AccessRule.rule c.args.self.now in
        let here : Rules = rules_by g.R.AccessRule.rule c.turns.self in
        let later : Rules = rules_by g.R.AccessRule.rule c.turn.new.self in
        let same = same_rules g.R.AccessRule.rule c.turns.invariant.frame in
        let then = same_rules g.R.AccessRule.rule c.in-Err-Ends.ensures.keeps.frame in
        let since : Since = record began { told = first.told } in
        let behind : Since = record since { noted = (g.N.Notes.shown c.turn.new.notes).told; tables = g.W.Watch.tables c.turn.new.watch; lost = since.lost + (lost_then c.turns.invariant.lost c.turns.self.cpu.slots.live.steps c.turn.new.self.steps (g.W.Watch.ran c.turn.new.watch + c.turns.steps) (g.W.Watch.ran c.turns.watch + c.turn.new.steps)) } in
        let stops = stops_under image behind (g.K.Link.seen c.turn.new.link) c.turn.new.self (Ends c.in-Err-Ends.end) (sym then)
        (subst (λ why. StopsBy here image behind (g.K.Link.seen c.turn.new.link) c.turn.new.self why) c.in-Err-Ends.field-0-is
        (c.in-Err-Ends.ensures.turns image (record since { lost = since.lost + c.turns.invariant.lost }) (since.lost + (lost_then c.turns.invariant.lost c.turns.self.cpu.slots.live.steps c.turn.new.self.steps (g.W.Watch.ran c.turn.new.watch + c.turns.steps) (g.W.Watch.ran c.turns.watch + c.turn.new.steps))) (between_under (sym same) (c.turns.invariant.stands image since is)) (lost_beside since.lost c.turns.invariant.lost c.turns.self.cpu.slots.live.steps c.turn.new.self.steps (g.W.Watch.ran c.turn.new.watch + c.turns.steps) (g.W.Watch.ran c.turns.watch + c.turn.new.steps) c.in-Err-Ends.ensures.least))) in
        let finishing : IsFinishing later first (g.K.Link.seen c.turn.new.link) stops.0.story c.in-Err-Ends.end = record {
          asked = stops.1;
          takes = subst (λ (why : Stop). TakesBy {X = Unit {0}} (g.K.Link.seen c.turn.new.link).takes (Err why)) c.in-Err-Ends.field-0-is c.in-Err-Ends.ensures.keeps.link.takes;
          known =
              known_then first.coming (g.K.Link.seen c.turns.link).coming (g.K.Link.seen c.turn.new.link).coming (known_then first.coming (g.K.Link.seen c.args.link.now).coming (g.K.Link.seen c.turns.link).coming known c.turns.invariant.known)
              (subst (λ (why : Stop). UnlessBroken {X = Unit {0}} (Err why) (StaysKnown (g.K.Link.seen c.turns.link).coming (g.K.Link.seen c.turn.new.link).coming)) c.in-Err-Ends.field-0-is c.in-Err-Ends.ensures.keeps.link.known);
        } in
        let all = (lost_all c.args.self.now.steps c.args.steps.now c.turns.invariant.lost c.turns.self.cpu.slots.live.steps c.turn.new.self.steps c.turns.steps c.turn.new.steps (g.W.Watch.ran c.args.watch.now) (g.W.Watch.ran c.turns.watch) (g.W.Watch.ran c.turn.new.watch) c.turns.invariant.counted c.in-Err-Ends.ensures.least) in
        watched_kept (λ telling. LeavesBy the_rules image began.noted_before.unnoted (g.N.Notes.shown c.finish.new.notes).told.unnoted telling c.finish.new.self c.finish.result)
        (ap (λ (s : SessionState _). keeping_of s) c.finish.ensures.same ∙ (c.in-Err-Ends.ensures.keeps.keeping ∙ c.turns.invariant.keeping))
        (subst
        (λ (r : Rules). (watched : HasWatched r image (keeping_of c.finish.new.self) first (g.K.Link.seen c.finish.new.link) (outcome_of c.finish.result c.finish.new.self) began.noted_before (g.N.Notes.shown c.finish.new.notes).told (began.lost + ((g.W.Watch.ran c.args.watch.now + c.turn.new.steps + c.args.self.now.steps) - (g.W.Watch.ran c.turn.new.watch + c.args.steps.now))) began.tables_before (g.W.Watch.tables c.turn.new.watch))
        × LeavesBy r image began.noted_before.unnoted (g.N.Notes.shown c.finish.new.notes).told.unnoted watched.recovered.telling c.finish.new.self c.finish.result)
        (then ∙ same)
        (subst (λ n. (watched : HasWatched later image (keeping_of c.finish.new.self) first (g.K.Link.seen c.finish.new.link) (outcome_of c.finish.result c.finish.new.self) began.noted_before (g.N.Notes.shown c.finish.new.notes).told n began.tables_before (g.W.Watch.tables c.turn.new.watch))
        × LeavesBy later image began.noted_before.unnoted (g.N.Notes.shown c.finish.new.notes).told.unnoted watched.recovered.telling c.finish.new.self c.finish.result)
        (sym (lost_last began.lost c.args.self.now.steps c.args.steps.now c.turn.new.steps (g.W.Watch.ran c.args.watch.now) (g.W.Watch.ran c.turn.new.watch) (lost_then c.turns.invariant.lost c.turns.self.cpu.slots.live.steps c.turn.new.self.steps (g.W.Watch.ran c.turn.new.watch + c.turns.steps) (g.W.Watch.ran c.turns.watch + c.turn.new.steps)) c.turn.new.self.steps all))
        (c.finish.ensures.served image behind first stops.0 finishing
        (subst (λ (why : Stop). TrimsBy (g.N.Notes.shown c.turns.notes) (g.N.Notes.shown c.turn.new.notes) c.turn.new.self (Err why)) c.in-Err-Ends.field-0-is (c.in-Err-Ends.ensures.keeps.trimmed c.turns.invariant.trimmed)))))

pub returns-in-Err-Breaks-clause-counted_at_least : goal.returns-in-Err-Breaks-clause-counted_at_least
returns-in-Err-Breaks-clause-counted_at_least g c =
    let least = c.in-Err-Breaks.ensures.least in
    let before = c.turns.invariant.counted in
    omega (arith, least, before)

pub returns-in-Err-Ends-clause-counted_at_least : goal.returns-in-Err-Ends-clause-counted_at_least
returns-in-Err-Ends-clause-counted_at_least g c =
    omega (arith, c.in-Err-Ends.ensures.least, c.turns.invariant.counted, ap (λ (s : SessionState _). s.steps) c.finish.ensures.same)

pub returns-in-Err-Breaks-clause-outside : goal.returns-in-Err-Breaks-clause-outside
returns-in-Err-Breaks-clause-outside g c =
    (g.met.K.Link.went_on c.args.link.now c.turns.link c.turn.new.link c.turns.invariant.outside.0 c.in-Err-Breaks.ensures.outside.0, c.in-Err-Breaks.ensures.outside.1 ∙ c.turns.invariant.outside.1)

pub returns-in-Err-Ends-clause-outside : goal.returns-in-Err-Ends-clause-outside
returns-in-Err-Ends-clause-outside g c =
    (g.met.K.Link.went_on c.args.link.now c.turn.new.link c.finish.new.link (g.met.K.Link.went_on c.args.link.now c.turns.link c.turn.new.link c.turns.invariant.outside.0 c.in-Err-Ends.ensures.outside.0) c.finish.ensures.outside.0, c.finish.ensures.outside.1 ∙ (c.in-Err-Ends.ensures.outside.1 ∙ c.turns.invariant.outside.1))
