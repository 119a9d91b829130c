use Rattle.guest_cpu.specs.declared.event.Question.TheVariants as question
use Rattle.replay.specs.declared.difference.Difference.TheVariants as difference
use Rattle.standby.proofs.Terms.{Some, arith, refl, subst, sym, ◌+◌, ◌<◌, ◌≡◌, IfOk-weaker, Err, Answer, live_of, ended_differs, judge_differs, left_differs, comes_to, ok_always, rises_behind, ComesTo, comes_by, same_sends, DiffersBy, HasFound, FollowsBy}
use Rattle.standby.proofs.FollowLemmas.{asks_asking, comes_at_end, emits_kept, exits_by, failed_breaks, few_used, keeps_differs, keeps_none, keeps_player, link_same, memory_breaks, reached_by, wants_used}
use Rattle.standby.proofs.follower.Follower.turn.Goals as goal

pub ask-requires-clause-stands : goal.ask-requires-clause-stands
ask-requires-clause-stands g c =
    let comes : ComesTo c.args.recorded.now.steps c.args.self.now.player.cpu.slots.live question.Asks c.run_recorded.new.self.slots.live =
    comes_to c.args.recorded.now.steps c.requires.stands.is.lives c.in-Ok-Asks.field-0-is c.in-Ok-Asks.ensures.question in
    let k = c.requires.stands in
    record { image = k.image; began = k.began; is = asks_asking k.is (record c.args.self.now { player = record c.args.self.now.player { cpu = c.run_recorded.new.self } }) (record { stage = refl; kept = refl }) refl comes; takes = k.takes; gives = k.gives }

pub choose-requires : goal.choose-requires
choose-requires g c =
    let k = c.requires.stands in
    let until = c.args.recorded.now.steps in
    let comes : ComesTo until c.args.self.now.player.cpu.slots.live (question.Wants c.in-Ok-Wants.ask) c.run_recorded.new.self.slots.live =
    comes_to until k.is.lives c.in-Ok-Wants.field-0-is c.in-Ok-Wants.ensures.question in
    record { wants = comes.3; bare = comes.0.bare k.is.follows.bare; shorter = comes.1; lives = comes.2; room = omega (arith, comes.1, c.requires.short) }

pub returns-in-Ok-Reached-clause-turns : goal.returns-in-Ok-Reached-clause-turns
returns-in-Ok-Reached-clause-turns g c image began under =
    let comes : ComesTo c.args.recorded.now.steps c.args.self.now.player.cpu.slots.live question.Reached c.run_recorded.new.self.slots.live =
    comes_to c.args.recorded.now.steps under.lives c.in-Ok-Reached.field-0-is c.in-Ok-Reached.ensures.question in
    reached_by under (record c.args.self.now { player = record c.args.self.now.player { cpu = c.run_recorded.new.self; difference = c.left_over-self.result } }) (record { stage = refl; kept = refl }) c.requires.stands.takes c.requires.stands.gives comes.0 _ c.judge.result c.judge.ensures c.left_over-self.ensures comes.1 comes.2 refl

pub returns-in-Ok-Asks-clause-turns : goal.returns-in-Ok-Asks-clause-turns
returns-in-Ok-Asks-clause-turns g c image began under =
    let comes : ComesTo c.args.recorded.now.steps c.args.self.now.player.cpu.slots.live question.Asks c.run_recorded.new.self.slots.live =
    comes_to c.args.recorded.now.steps under.lives c.in-Ok-Asks.field-0-is c.in-Ok-Asks.ensures.question in
    c.ask.ensures.turns image began (asks_asking under (record c.args.self.now { player = record c.args.self.now.player { cpu = c.run_recorded.new.self } }) (record { stage = refl; kept = refl }) refl comes)

pub returns-in-Ok-Asks-clause-steps : goal.returns-in-Ok-Asks-clause-steps
returns-in-Ok-Asks-clause-steps g c =
    let comes : ComesTo c.args.recorded.now.steps c.args.self.now.player.cpu.slots.live question.Asks c.run_recorded.new.self.slots.live =
    comes_to c.args.recorded.now.steps c.requires.stands.is.lives c.in-Ok-Asks.field-0-is c.in-Ok-Asks.ensures.question in
    record {
      later = IfOk-weaker c.ask.result (λ _. c.run_recorded.new.self.slots.live.steps < c.ask.new.self.player.cpu.slots.live.steps) (λ _. c.args.self.now.player.cpu.slots.live.steps < c.ask.new.self.player.cpu.slots.live.steps)
          (λ _ low. rises_behind same_sends same_sends comes.0 low) c.ask.ensures.steps.later;
      counted = omega (arith, c.run_recorded.ensures.counted, c.ask.ensures.steps.counted);
    }

pub returns-in-Ok-Emits-clause-turns : goal.returns-in-Ok-Emits-clause-turns
returns-in-Ok-Emits-clause-turns g c image began under =
    let comes : ComesTo c.args.recorded.now.steps c.args.self.now.player.cpu.slots.live (question.Emits c.in-Ok-Emits.conn c.in-Ok-Emits.bytes) c.run_recorded.new.self.slots.live =
    comes_to c.args.recorded.now.steps under.lives c.in-Ok-Emits.field-0-is c.in-Ok-Emits.ensures.question in
    emits_kept under (record c.args.self.now { player = record c.args.self.now.player { cpu = c.run_recorded.new.self } }) (record { stage = refl; kept = refl }) c.keep.new.self c.keep.result c.requires.stands.takes refl comes c.keep.ensures

pub returns-in-Ok-Emits-clause-differs : goal.returns-in-Ok-Emits-clause-differs
returns-in-Ok-Emits-clause-differs g c =
    keeps_differs (HasFound c.args.recorded.now c.keep.new.self.player.cpu.slots.live) c.in-Ok-Emits.conn c.in-Ok-Emits.bytes (record c.args.self.now { player = record c.args.self.now.player { cpu = c.run_recorded.new.self } }) c.keep.new.self c.keep.result c.keep.ensures

pub returns-in-Ok-Emits-clause-steps : goal.returns-in-Ok-Emits-clause-steps
returns-in-Ok-Emits-clause-steps g c =
    let comes : ComesTo c.args.recorded.now.steps c.args.self.now.player.cpu.slots.live (question.Emits c.in-Ok-Emits.conn c.in-Ok-Emits.bytes) c.run_recorded.new.self.slots.live =
    comes_to c.args.recorded.now.steps c.requires.stands.is.lives c.in-Ok-Emits.field-0-is c.in-Ok-Emits.ensures.question in
    let same = keeps_player c.in-Ok-Emits.conn c.in-Ok-Emits.bytes (record c.args.self.now { player = record c.args.self.now.player { cpu = c.run_recorded.new.self } }) c.keep.new.self c.keep.result c.keep.ensures in
    record {
      later = ok_always c.keep.result (c.args.self.now.player.cpu.slots.live.steps < c.keep.new.self.player.cpu.slots.live.steps)
          (subst (λ player. c.args.self.now.player.cpu.slots.live.steps < player.cpu.slots.live.steps) (sym same) comes.3);
      counted = subst (λ player. c.run_recorded.new.steps + c.args.self.now.player.cpu.slots.live.steps ≡ c.args.steps.now + player.cpu.slots.live.steps) (sym same) c.run_recorded.ensures.counted;
    }

pub returns-in-Ok-Emits-clause-link : goal.returns-in-Ok-Emits-clause-link
returns-in-Ok-Emits-clause-link g c =
    link_same c.keep.result c.requires.stands.takes c.requires.stands.gives (keeps_none c.in-Ok-Emits.conn c.in-Ok-Emits.bytes (record c.args.self.now { player = record c.args.self.now.player { cpu = c.run_recorded.new.self } }) c.keep.new.self c.keep.result c.keep.ensures)

pub returns-in-Ok-Wants-clause-turns : goal.returns-in-Ok-Wants-clause-turns
returns-in-Ok-Wants-clause-turns g c image began under =
    let comes : ComesTo c.args.recorded.now.steps c.args.self.now.player.cpu.slots.live (question.Wants c.in-Ok-Wants.ask) c.run_recorded.new.self.slots.live =
    comes_to c.args.recorded.now.steps under.lives c.in-Ok-Wants.field-0-is c.in-Ok-Wants.ensures.question in
    wants_used under (record c.args.self.now { player = record c.args.self.now.player { cpu = c.run_recorded.new.self } }) (record { stage = refl; kept = refl }) (record c.args.self.now { player = c.choose.new.self }) c.choose.result c.requires.stands.takes refl refl comes c.choose.ensures.uses

pub returns-in-Ok-Wants-clause-steps : goal.returns-in-Ok-Wants-clause-steps
returns-in-Ok-Wants-clause-steps g c =
    let comes : ComesTo c.args.recorded.now.steps c.args.self.now.player.cpu.slots.live (question.Wants c.in-Ok-Wants.ask) c.run_recorded.new.self.slots.live =
    comes_to c.args.recorded.now.steps c.requires.stands.is.lives c.in-Ok-Wants.field-0-is c.in-Ok-Wants.ensures.question in
    record {
      later = IfOk-weaker c.choose.result (λ _. c.run_recorded.new.self.slots.live.steps < c.choose.new.self.cpu.slots.live.steps) (λ _. c.args.self.now.player.cpu.slots.live.steps < c.choose.new.self.cpu.slots.live.steps)
          (λ _ low. rises_behind same_sends same_sends comes.0 low) c.choose.ensures.steps.later;
      counted = omega (arith, c.run_recorded.ensures.counted, c.choose.ensures.steps.counted);
    }

pub returns-in-Ok-Wants-clause-link : goal.returns-in-Ok-Wants-clause-link
returns-in-Ok-Wants-clause-link g c =
    link_same c.choose.result c.requires.stands.takes c.requires.stands.gives c.choose.ensures.no_fault

pub returns-in-Ok-Exits-clause-turns : goal.returns-in-Ok-Exits-clause-turns
returns-in-Ok-Exits-clause-turns g c image began under =
    let comes : ComesTo c.args.recorded.now.steps c.args.self.now.player.cpu.slots.live (question.Exits c.in-Ok-Exits.code) c.run_recorded.new.self.slots.live =
    comes_to c.args.recorded.now.steps under.lives c.in-Ok-Exits.field-0-is c.in-Ok-Exits.ensures.question in
    exits_by under (record c.args.self.now { player = record c.args.self.now.player { cpu = c.run_recorded.new.self; difference = c.ended_apart-self.result }; exited = Some c.in-Ok-Exits.code }) (record { stage = refl; kept = refl }) c.requires.stands.takes c.requires.stands.gives comes.0 c.in-Ok-Exits.code _ c.judge-in-Ok-Exits.result c.judge-in-Ok-Exits.ensures c.ended_apart-self.ensures comes.1 refl

pub returns-in-Ok-Failed-clause-turns : goal.returns-in-Ok-Failed-clause-turns
returns-in-Ok-Failed-clause-turns g c image began under =
    let comes : ComesTo c.args.recorded.now.steps c.args.self.now.player.cpu.slots.live (question.Failed c.in-Ok-Failed.cause) c.run_recorded.new.self.slots.live =
    comes_to c.args.recorded.now.steps under.lives c.in-Ok-Failed.field-0-is c.in-Ok-Failed.ensures.question in
    subst (λ (end : Answer). FollowsBy image c.args.recorded.now began (g.K.Link.seen c.args.link.now) (record c.args.self.now { player = record c.args.self.now.player { cpu = c.run_recorded.new.self; difference = Some (difference.Failed c.in-Ok-Failed.cause) } }) (Err end)) (sym c.mismatch.ensures)
    (failed_breaks under (record c.args.self.now { player = record c.args.self.now.player { cpu = c.run_recorded.new.self; difference = Some (difference.Failed c.in-Ok-Failed.cause) } }) (record { stage = refl; kept = refl }) c.requires.stands.takes c.in-Ok-Failed.cause comes)

pub returns-in-Err-clause-turns : goal.returns-in-Err-clause-turns
returns-in-Err-clause-turns g c image began under =
    memory_breaks under (record c.args.self.now { player = record c.args.self.now.player { cpu = c.run_recorded.new.self } }) (record { stage = refl; kept = refl }) c.requires.stands.takes
    (comes_by c.args.recorded.now.steps c.args.self.now.player.cpu.base (live_of c.args.self.now.player.cpu) (live_of c.run_recorded.new.self) (Err _) under.lives c.in-Err.ensures.question).0

pub returns-in-Ok-Reached-clause-differs : goal.returns-in-Ok-Reached-clause-differs
returns-in-Ok-Reached-clause-differs g c =
    let comes : ComesTo c.args.recorded.now.steps c.args.self.now.player.cpu.slots.live question.Reached c.run_recorded.new.self.slots.live =
    comes_to c.args.recorded.now.steps c.requires.stands.is.lives c.in-Ok-Reached.field-0-is c.in-Ok-Reached.ensures.question in
    judge_differs (HasFound c.args.recorded.now c.run_recorded.new.self.slots.live) c.judge.result c.run_recorded.new.self.slots.live.steps c.requires.none c.left_over-self.ensures c.judge.ensures
    (left_differs c.args.recorded.now c.run_recorded.new.self.slots.live (comes_at_end c.requires.stands.is comes) (few_used c.requires.stands.is comes.0))

pub returns-in-Ok-Exits-clause-differs : goal.returns-in-Ok-Exits-clause-differs
returns-in-Ok-Exits-clause-differs g c =
    let comes : ComesTo c.args.recorded.now.steps c.args.self.now.player.cpu.slots.live (question.Exits c.in-Ok-Exits.code) c.run_recorded.new.self.slots.live =
    comes_to c.args.recorded.now.steps c.requires.stands.is.lives c.in-Ok-Exits.field-0-is c.in-Ok-Exits.ensures.question in
    judge_differs (HasFound c.args.recorded.now c.run_recorded.new.self.slots.live) c.judge-in-Ok-Exits.result c.run_recorded.new.self.slots.live.steps c.requires.none c.ended_apart-self.ensures c.judge-in-Ok-Exits.ensures
    (ended_differs c.args.recorded.now c.run_recorded.new.self.slots.live c.in-Ok-Exits.code comes.1 (comes.0.within c.requires.stands.is.follows.is.steps) (few_used c.requires.stands.is comes.0))

pub returns-in-Ok-Failed-clause-differs : goal.returns-in-Ok-Failed-clause-differs
returns-in-Ok-Failed-clause-differs g c =
    let comes : ComesTo c.args.recorded.now.steps c.args.self.now.player.cpu.slots.live (question.Failed c.in-Ok-Failed.cause) c.run_recorded.new.self.slots.live =
    comes_to c.args.recorded.now.steps c.requires.stands.is.lives c.in-Ok-Failed.field-0-is c.in-Ok-Failed.ensures.question in
    subst (λ (end : Answer). DiffersBy (HasFound c.args.recorded.now c.run_recorded.new.self.slots.live) c.args.self.now.player.difference (Some (difference.Failed c.in-Ok-Failed.cause)) (Err end)) (sym c.mismatch.ensures)
    (comes.1, comes.2, comes.3)
