use Rattle.session_history.specs.declared.ends.Stop.TheVariants as stop
use Rattle.reply_ledger.specs.Trimming as ledgers
use Rattle.rx_engine.proofs.Terms.{ap, arith, length, refl, subst, sym, ◌+◌, ◌∙◌, ◌≡◌, ◌≤◌, IfSome, oldest_of, stands_of, end_of, ending_moved, can_forget_sends, end_requests, left_end, left_noting, left_passing, finish_broken, finish_unnoted_link, finish_well, notes_passing, notes_rest_done, notes_rest_failed, ending_few, may_pass, ending_can, ending_ready, finish_fault, finish_ok, finish_unnoted, held_by, trimmed_still, CanForgetSends, HandledAt, HasLeft, IsTrimmed, LeavesBy, keeping_of, HasWatched, StandsEnding, outcome_of, rules_by, SessionState, IsEnding, entries, sends}
use Rattle.rx_engine.proofs.session.Session.finish.Goals as goal

pub pass_until-requires : goal.pass_until-requires
pass_until-requires g c =
    let e = subst (λ (s : SessionState _). StandsEnding (rules_by g.R.AccessRule.rule c.args.self.now) (g.K.Link.seen c.args.link.now) c.args.end s) (sym c.self.view_is) c.requires in
    may_pass (record { can = ending_can e.is; gives = e.gives }) c.received-stamp.ensures.count

pub returns-in-Err-clause-served : goal.returns-in-Err-clause-served
returns-in-Err-clause-served g c image since first ends finishing trimmed =
    let the_rules = rules_by g.R.AccessRule.rule c.args.self.now in
    let here = (g.N.Notes.shown c.args.notes.now).told in
    let both = ending_moved (sym c.self.view_is) ends finishing in
    let e = both.0 in
    let counts : since.lost + c.args.self.now.steps ≡ since.lost + c.self.inside.steps = ap (λ (s : SessionState _). since.lost + s.steps) (sym c.self.view_is) in
    finish_fault (λ telling. LeavesBy the_rules image since.noted_before.unnoted here.unnoted telling _ (stop.Breaks c.answer_to.result)) (record since { noted = here }) 18446744073709551615 c.pass_until.new.replies c.in-Err.fault e c.in-Err.ensures.keeps.shows.rest c.answer_to.ensures c.in-Err.ensures.keeps.shows.stops
    (c.in-Err.ensures.passes the_rules (sends e.story) (end_of e.story) (sym e.received_are ∙ sym c.received-stamp.ensures.count) (ending_ready e)) both.1 here refl refl refl counts
    (λ more broken. left_passing since.noted_before.unnoted here.unnoted _ c.in-Err.fault c.answer_to.result c.answer_to.ensures
    (trimmed_still (record { oldest = ap (λ (t : SessionState _). oldest_of t.cpu.slots.saved) c.self.view_is; first = ap (λ (t : SessionState _). t.log.first) c.self.view_is; recorded = ap (λ (t : SessionState _). t.recorded) c.self.view_is; sends = c.in-Err.ensures.keeps.sends.first ∙ ap (λ (t : SessionState _). t.replies.first) c.self.view_is; keeping = ap (λ (t : SessionState _). keeping_of t) c.self.view_is }) trimmed)
    (held_by the_rules image e.story.earlier (entries e.story) e.story.recoveries e.story.survivor _ _ refl refl e.holds))

pub note_rest-requires : goal.note_rest-requires
note_rest-requires g c =
    omega (arith, subst (λ (s : SessionState _). s.recorded + length s.choices ≤ s.steps) (sym c.self.view_is) (ending_few c.requires.is), c.self.ranges)

pub returns-in-Err-note_rest-clause-served : goal.returns-in-Err-note_rest-clause-served
returns-in-Err-note_rest-clause-served g c image since first ends finishing trimmed =
    let the_rules = rules_by g.R.AccessRule.rule c.args.self.now in
    let here = (g.N.Notes.shown c.args.notes.now).told in
    let told = (g.N.Notes.shown c.note_rest.new.notes).told in
    let both = ending_moved (sym c.self.view_is) ends finishing in
    let e = both.0 in
    let counts : since.lost + c.args.self.now.steps ≡ since.lost + c.self.inside.steps = ap (λ (s : SessionState _). since.lost + s.steps) (sym c.self.view_is) in
    let passes = c.in_default.ensures.passes the_rules (sends e.story) (end_of e.story) (sym e.received_are ∙ sym c.received-stamp.ensures.count) (ending_ready e) in
    subst (λ (s : SessionState _). (watched : HasWatched the_rules image (keeping_of s) first (g.K.Link.seen c.pass_until.new.link) (outcome_of (stop.Breaks c.in-Err-note_rest.fault) s) since.noted_before told (since.lost + c.args.self.now.steps) since.tables_before since.tables)
    × LeavesBy the_rules image since.noted_before.unnoted told.unnoted watched.recovered.telling s (stop.Breaks c.in-Err-note_rest.fault)) (sym c.in-Err-note_rest.ensures.noted.1)
    (finish_unnoted (λ telling. LeavesBy the_rules image since.noted_before.unnoted told.unnoted telling _ (stop.Breaks c.in-Err-note_rest.fault)) (record since { noted = here }) 18446744073709551615 e c.in_default.ensures.keeps.shows.rest
    passes both.1 c.in-Err-note_rest.ensures.noted.2 told c.in-Err-note_rest.ensures.noted.0 c.in-Err-note_rest.ensures.shows.episodes c.in-Err-note_rest.ensures.noted.3 counts (λ more broken. left_noting since.noted_before.unnoted told.unnoted _ c.in-Err-note_rest.fault c.in-Err-note_rest.ensures.noted.2
    (trimmed_still (record { oldest = ap (λ (t : SessionState _). oldest_of t.cpu.slots.saved) c.self.view_is; first = ap (λ (t : SessionState _). t.log.first) c.self.view_is; recorded = ap (λ (t : SessionState _). t.recorded) c.self.view_is; sends = c.in_default.ensures.keeps.sends.first ∙ ap (λ (t : SessionState _). t.replies.first) c.self.view_is; keeping = ap (λ (t : SessionState _). keeping_of t) c.self.view_is }) trimmed)
    (held_by the_rules image e.story.earlier (entries e.story) e.story.recoveries e.story.survivor _ _ refl refl e.holds)))

pub returns-clause-served : goal.returns-clause-served
returns-clause-served g c image since first ends finishing trimmed =
    let the_rules = rules_by g.R.AccessRule.rule c.args.self.now in
    let here = (g.N.Notes.shown c.args.notes.now).told in
    let told = (g.N.Notes.shown c.note_rest.new.notes).told in
    let both = ending_moved (sym c.self.view_is) ends finishing in
    let e = both.0 in
    let counts : since.lost + c.args.self.now.steps ≡ since.lost + c.self.inside.steps = ap (λ (s : SessionState _). since.lost + s.steps) (sym c.self.view_is) in
    let passes = c.in_default.ensures.passes the_rules (sends e.story) (end_of e.story) (sym e.received_are ∙ sym c.received-stamp.ensures.count) (ending_ready e) in
    let low : c.self.inside.taken ≤ 18446744073709551615 = omega (arith, c.self.ranges) in
    let last_session = c.forget_sends.new.self in
    let Whole : SessionState _ → Type 0 = λ (s : SessionState _). (watched : HasWatched the_rules image (keeping_of s) first (g.K.Link.seen c.pass_until.new.link) (outcome_of (stop.Ends c.args.end) s) since.noted_before told (since.lost + c.args.self.now.steps) since.tables_before since.tables)
    × HasLeft the_rules image watched.recovered.telling last_session (stop.Ends c.args.end) in
    let stood = subst (λ (s : SessionState _). IsTrimmed s) (sym c.self.view_is) trimmed in
    subst Whole (sym c.forget_sends.ensures.same)
    (subst Whole (sym c.in_default-note_rest.ensures.noted.1)
    (finish_ok (λ telling. HasLeft the_rules image telling last_session (stop.Ends c.args.end)) (record since { noted = here }) e c.in_default.ensures.keeps.shows.rest low
    passes both.1 told c.in_default-note_rest.ensures.noted.0 c.in_default-note_rest.ensures.shows.episodes c.in_default-note_rest.ensures.shows.unnoted counts
    (λ more broken.
    left_end c.pass_until.new.replies stood e.holds
    (subst (λ (t : SessionState _). HandledAt (stop.Ends c.args.end) the_rules image (keeping_of t) e.story.earlier (entries e.story) e.story.recoveries e.story.survivor (stands_of t.cpu.slots.saved))
    (sym (c.forget_sends.ensures.same ∙ ap (λ (t : SessionState _). record t { replies = last_session.replies }) c.in_default-note_rest.ensures.noted.1))
    (end_requests _ c.args.end e.stands e.holds.requests e.handled)) e.live
    (ap (λ (s : SessionState _). s.cpu) c.forget_sends.ensures.same ∙ ap (λ (s : SessionState _). s.cpu) c.in_default-note_rest.ensures.noted.1)
    (ap (λ (s : SessionState _). keeping_of s) c.forget_sends.ensures.same ∙ ap (λ (s : SessionState _). keeping_of s) c.in_default-note_rest.ensures.noted.1)
    (ap (λ (s : SessionState _). s.log) c.forget_sends.ensures.same ∙ ap (λ (s : SessionState _). s.log) c.in_default-note_rest.ensures.noted.1)
    c.in_default.ensures.keeps.sends.first passes.3.0.shows.kept passes.3.0.shows.counted e.told.serving.carries.timed (let same = e.answers.taken in omega (arith, low, same)) passes.3.1
    (subst (λ (s : SessionState _). IfSome (oldest_of s.cpu.slots.saved) (λ oldest. last_session.replies ≡ ledgers.trimmed s.replies oldest.state.sends)) c.in_default-note_rest.ensures.noted.1 c.forget_sends.ensures.trimmed))))

pub forget_sends-requires : goal.forget_sends-requires
forget_sends-requires g c =
    let the_rules = rules_by g.R.AccessRule.rule c.args.self.now in
    let ends = c.requires in
    let e = subst (λ (s : SessionState _). IsEnding the_rules ends.image ends.began (g.K.Link.seen c.args.link.now) s c.args.end) (sym c.self.view_is) ends.is in
    let passes = c.in_default.ensures.passes the_rules (sends e.story) (end_of e.story) (sym e.received_are ∙ sym c.received-stamp.ensures.count) (ending_ready e) in
    let can = can_forget_sends e.holds {ledger = c.pass_until.new.replies} passes.3.0.shows.kept passes.3.0.shows.counted (c.in_default.ensures.keeps.sends.trial ∙ e.no_trial) in
    record { can = subst (λ (s : SessionState _). CanForgetSends s) (sym c.in_default-note_rest.ensures.noted.1) (record { some = can.some; trial = can.trial; sends = can.sends }) }

pub returns-in-Err-clause-shows : goal.returns-in-Err-clause-shows
returns-in-Err-clause-shows g c = record {
  link = finish_broken c.args.end c.in-Err.fault c.answer_to.result c.in-Err.ensures.keeps c.answer_to.ensures;
  notes = notes_passing c.in-Err.fault c.answer_to.result c.answer_to.ensures;
}

pub returns-in-Err-note_rest-clause-shows : goal.returns-in-Err-note_rest-clause-shows
returns-in-Err-note_rest-clause-shows g c = record {
  link = finish_unnoted_link c.args.end c.in-Err-note_rest.fault c.in_default.ensures.keeps c.in-Err-note_rest.ensures.noted.2;
  notes = notes_rest_failed c.in-Err-note_rest.fault c.in-Err-note_rest.ensures.shows c.in-Err-note_rest.ensures.noted.2;
}

pub returns-clause-shows : goal.returns-clause-shows
returns-clause-shows g c = record { link = finish_well c.args.end c.in_default.ensures.keeps; notes = notes_rest_done c.args.end c.in_default-note_rest.ensures.shows }
