use Rattle.guest_cpu.specs.declared.event.Question.TheVariants as question
use Rattle.replay.proofs.Terms.{Option, Some, ap, arith, subst, sym, ◌+◌, ◌<◌, ◌∙◌, ◌≡◌, Err, Answer, CpuState, live_of, Difference, IsLastSend, DiffersBy, HasFound, IsWholeEnd, stage_of, judged}
use Rattle.replay.specs.declared.difference.Difference.TheVariants as difference
use Rattle.replay.proofs.DifferLemmas.{differs_never, ended_differs, judge_differs, left_differs}
use Rattle.replay.proofs.RunLemmas.{same_sends, ComesTo, comes_by}
use Rattle.replay.proofs.QuestionLemmas.{reached_end, exits_end, failed_end, memory_end, comes_at_end, few_used, asks_waiting, wants_wanting, emits_sending, comes_to, rises_behind, ok_always, whole_end, whole_goes}
use Rattle.replay.proofs.player.Player.turn.Goals as goal
use Rattle.std.proofs.lemmas.Result.{IfOk-weaker}

pub ask-requires-clause-waits : goal.ask-requires-clause-waits
ask-requires-clause-waits g c =
    let k = c.requires.stands in
    let until = c.args.recorded.now.steps in
    let comes : ComesTo until c.args.self.now.cpu.slots.live question.Asks c.run_recorded.new.self.slots.live =
    comes_to until k.is.lives c.in-Ok-Asks.field-0-is c.in-Ok-Asks.ensures.question in
    record { image = k.image; began = k.began; is = asks_waiting k.is comes; takes = k.takes; gives = k.gives }

pub send-requires : goal.send-requires
send-requires g c =
    let k = c.requires.stands in
    let until = c.args.recorded.now.steps in
    let comes : ComesTo until c.args.self.now.cpu.slots.live (question.Emits c.in-Ok-Emits.conn c.in-Ok-Emits.bytes) c.run_recorded.new.self.slots.live =
    comes_to until k.is.lives c.in-Ok-Emits.field-0-is c.in-Ok-Emits.ensures.question in
    record {
      sends = record {
        image = k.image;
        recorded = c.args.recorded.now;
        began = k.began;
        is = emits_sending k.is comes;
        takes = k.takes;
        gives = k.gives;
      };
    }

pub choose-requires : goal.choose-requires
choose-requires g c =
    let k = c.requires.stands in
    let until = c.args.recorded.now.steps in
    let comes : ComesTo until c.args.self.now.cpu.slots.live (question.Wants c.in-Ok-Wants.ask) c.run_recorded.new.self.slots.live =
    comes_to until k.is.lives c.in-Ok-Wants.field-0-is c.in-Ok-Wants.ensures.question in
    record { wants = comes.3; bare = comes.0.bare k.is.playing.base.bare; shorter = comes.1; lives = comes.2; room = omega (arith, comes.1, c.requires.short) }

pub returns-in-Ok-Reached-clause-turns : goal.returns-in-Ok-Reached-clause-turns
returns-in-Ok-Reached-clause-turns g c image began between =
    let until = c.args.recorded.now.steps in
    let comes : ComesTo until c.args.self.now.cpu.slots.live question.Reached c.run_recorded.new.self.slots.live =
    comes_to until between.lives c.in-Ok-Reached.field-0-is c.in-Ok-Reached.ensures.question in
    whole_end (IsLastSend began (g.K.Link.seen c.args.link.now).told (g.G.Giver.Gave c.args.link.now c.args.link.now)) c.requires.stands.gives
    (subst (λ (end : Answer). IsWholeEnd image c.args.recorded.now began (g.K.Link.seen c.args.link.now) (record (stage_of c.args.self.now) { live = c.run_recorded.new.self.slots.live }) end) (sym (c.judge.ensures ∙ ap (λ (found : Option Difference). judged found c.run_recorded.new.self.slots.live.steps) c.left_over-self.ensures))
    (reached_end between c.requires.stands.takes comes))

pub returns-in-Ok-Asks-clause-turns : goal.returns-in-Ok-Asks-clause-turns
returns-in-Ok-Asks-clause-turns g c image began between =
    let until = c.args.recorded.now.steps in
    let comes : ComesTo until c.args.self.now.cpu.slots.live question.Asks c.run_recorded.new.self.slots.live =
    comes_to until between.lives c.in-Ok-Asks.field-0-is c.in-Ok-Asks.ensures.question in
    whole_goes image c.args.recorded.now began (g.K.Link.seen c.ask.new.link) (IsLastSend began (g.K.Link.seen c.args.link.now).told (g.G.Giver.Gave c.args.link.now c.ask.new.link)) (stage_of c.ask.new.self) c.ask.result
    (c.ask.ensures.link.gives ∙ c.requires.stands.gives)
    (c.ask.ensures.turns image began (asks_waiting between comes))

pub returns-in-Ok-Asks-clause-steps : goal.returns-in-Ok-Asks-clause-steps
returns-in-Ok-Asks-clause-steps g c =
    let until = c.args.recorded.now.steps in
    let comes : ComesTo until c.args.self.now.cpu.slots.live question.Asks c.run_recorded.new.self.slots.live =
    comes_to until c.requires.stands.is.lives c.in-Ok-Asks.field-0-is c.in-Ok-Asks.ensures.question in
    record {
      later = IfOk-weaker c.ask.result (λ _. c.run_recorded.new.self.slots.live.steps < c.ask.new.self.cpu.slots.live.steps) (λ _. c.args.self.now.cpu.slots.live.steps < c.ask.new.self.cpu.slots.live.steps)
          (λ _ low. rises_behind same_sends same_sends comes.0 low) c.ask.ensures.steps.later;
      counted = omega (arith, c.run_recorded.ensures.counted, c.ask.ensures.steps.counted);
    }

pub returns-in-Ok-Emits-clause-turns : goal.returns-in-Ok-Emits-clause-turns
returns-in-Ok-Emits-clause-turns g c image began between =
    let until = c.args.recorded.now.steps in
    let comes : ComesTo until c.args.self.now.cpu.slots.live (question.Emits c.in-Ok-Emits.conn c.in-Ok-Emits.bytes) c.run_recorded.new.self.slots.live =
    comes_to until between.lives c.in-Ok-Emits.field-0-is c.in-Ok-Emits.ensures.question in
    c.send.ensures.sends image c.args.recorded.now began
    (emits_sending between comes)

pub returns-in-Ok-Emits-clause-steps : goal.returns-in-Ok-Emits-clause-steps
returns-in-Ok-Emits-clause-steps g c =
    let until = c.args.recorded.now.steps in
    let comes : ComesTo until c.args.self.now.cpu.slots.live (question.Emits c.in-Ok-Emits.conn c.in-Ok-Emits.bytes) c.run_recorded.new.self.slots.live =
    comes_to until c.requires.stands.is.lives c.in-Ok-Emits.field-0-is c.in-Ok-Emits.ensures.question in
    record {
      later = ok_always c.send.result (c.args.self.now.cpu.slots.live.steps < c.send.new.self.cpu.slots.live.steps)
          (subst (λ (cpu : CpuState _). c.args.self.now.cpu.slots.live.steps < cpu.slots.live.steps) (sym c.send.ensures.cpu) comes.3);
      counted = subst (λ (cpu : CpuState _). c.run_recorded.new.steps + c.args.self.now.cpu.slots.live.steps ≡ c.args.steps.now + cpu.slots.live.steps) (sym c.send.ensures.cpu) c.run_recorded.ensures.counted;
    }

pub returns-in-Ok-Wants-clause-turns : goal.returns-in-Ok-Wants-clause-turns
returns-in-Ok-Wants-clause-turns g c image began between =
    let until = c.args.recorded.now.steps in
    let comes : ComesTo until c.args.self.now.cpu.slots.live (question.Wants c.in-Ok-Wants.ask) c.run_recorded.new.self.slots.live =
    comes_to until between.lives c.in-Ok-Wants.field-0-is c.in-Ok-Wants.ensures.question in
    whole_goes image c.args.recorded.now began (g.K.Link.seen c.args.link.now) (IsLastSend began (g.K.Link.seen c.args.link.now).told (g.G.Giver.Gave c.args.link.now c.args.link.now)) (stage_of c.choose.new.self) c.choose.result c.requires.stands.gives
    (c.choose.ensures.turns image began (g.K.Link.seen c.args.link.now) c.requires.stands.takes
    (wants_wanting between comes))

pub returns-in-Ok-Wants-clause-steps : goal.returns-in-Ok-Wants-clause-steps
returns-in-Ok-Wants-clause-steps g c =
    let until = c.args.recorded.now.steps in
    let comes : ComesTo until c.args.self.now.cpu.slots.live (question.Wants c.in-Ok-Wants.ask) c.run_recorded.new.self.slots.live =
    comes_to until c.requires.stands.is.lives c.in-Ok-Wants.field-0-is c.in-Ok-Wants.ensures.question in
    record {
      later = IfOk-weaker c.choose.result (λ _. c.run_recorded.new.self.slots.live.steps < c.choose.new.self.cpu.slots.live.steps) (λ _. c.args.self.now.cpu.slots.live.steps < c.choose.new.self.cpu.slots.live.steps)
          (λ _ low. rises_behind same_sends same_sends comes.0 low) c.choose.ensures.steps.later;
      counted = omega (arith, c.run_recorded.ensures.counted, c.choose.ensures.steps.counted);
    }

pub returns-in-Ok-Exits-clause-turns : goal.returns-in-Ok-Exits-clause-turns
returns-in-Ok-Exits-clause-turns g c image began between =
    let until = c.args.recorded.now.steps in
    let comes : ComesTo until c.args.self.now.cpu.slots.live (question.Exits c.in-Ok-Exits.code) c.run_recorded.new.self.slots.live =
    comes_to until between.lives c.in-Ok-Exits.field-0-is c.in-Ok-Exits.ensures.question in
    whole_end (IsLastSend began (g.K.Link.seen c.args.link.now).told (g.G.Giver.Gave c.args.link.now c.args.link.now)) c.requires.stands.gives
    (subst (λ (end : Answer). IsWholeEnd image c.args.recorded.now began (g.K.Link.seen c.args.link.now) (record (stage_of c.args.self.now) { live = c.run_recorded.new.self.slots.live }) end) (sym (c.judge-in-Ok-Exits.ensures ∙ ap (λ (found : Option Difference). judged found c.run_recorded.new.self.slots.live.steps) c.ended_apart-self.ensures))
    (exits_end between c.requires.stands.takes c.in-Ok-Exits.code comes))

pub returns-in-Ok-Failed-clause-turns : goal.returns-in-Ok-Failed-clause-turns
returns-in-Ok-Failed-clause-turns g c image began between =
    let until = c.args.recorded.now.steps in
    let comes : ComesTo until c.args.self.now.cpu.slots.live (question.Failed c.in-Ok-Failed.cause) c.run_recorded.new.self.slots.live =
    comes_to until between.lives c.in-Ok-Failed.field-0-is c.in-Ok-Failed.ensures.question in
    whole_end (IsLastSend began (g.K.Link.seen c.args.link.now).told (g.G.Giver.Gave c.args.link.now c.args.link.now)) c.requires.stands.gives
    (subst (λ (end : Answer). IsWholeEnd image c.args.recorded.now began (g.K.Link.seen c.args.link.now) (record (stage_of c.args.self.now) { live = c.run_recorded.new.self.slots.live }) end) (sym c.mismatch.ensures)
    (failed_end between c.requires.stands.takes c.in-Ok-Failed.cause comes))

pub returns-in-Err-clause-turns : goal.returns-in-Err-clause-turns
returns-in-Err-clause-turns g c image began between =
    whole_end (IsLastSend began (g.K.Link.seen c.args.link.now).told (g.G.Giver.Gave c.args.link.now c.args.link.now)) c.requires.stands.gives
    (memory_end between c.requires.stands.takes
    (comes_by c.args.recorded.now.steps c.args.self.now.cpu.base (live_of c.args.self.now.cpu) (live_of c.run_recorded.new.self) (Err _) between.lives c.in-Err.ensures.question).0)

-- ---- what is found to differ

pub returns-in-Ok-Reached-clause-differs : goal.returns-in-Ok-Reached-clause-differs
returns-in-Ok-Reached-clause-differs g c =
    let k = c.requires.stands in
    let comes : ComesTo c.args.recorded.now.steps c.args.self.now.cpu.slots.live question.Reached c.run_recorded.new.self.slots.live =
    comes_to c.args.recorded.now.steps k.is.lives c.in-Ok-Reached.field-0-is c.in-Ok-Reached.ensures.question in
    judge_differs (HasFound c.args.recorded.now c.run_recorded.new.self.slots.live) c.judge.result c.run_recorded.new.self.slots.live.steps c.requires.none c.left_over-self.ensures c.judge.ensures
    (left_differs c.args.recorded.now c.run_recorded.new.self.slots.live (comes_at_end k.is comes) (few_used k.is comes.0))

pub returns-in-Ok-Exits-clause-differs : goal.returns-in-Ok-Exits-clause-differs
returns-in-Ok-Exits-clause-differs g c =
    let k = c.requires.stands in
    let comes : ComesTo c.args.recorded.now.steps c.args.self.now.cpu.slots.live (question.Exits c.in-Ok-Exits.code) c.run_recorded.new.self.slots.live =
    comes_to c.args.recorded.now.steps k.is.lives c.in-Ok-Exits.field-0-is c.in-Ok-Exits.ensures.question in
    judge_differs (HasFound c.args.recorded.now c.run_recorded.new.self.slots.live) c.judge-in-Ok-Exits.result c.run_recorded.new.self.slots.live.steps c.requires.none c.ended_apart-self.ensures c.judge-in-Ok-Exits.ensures
    (ended_differs c.args.recorded.now c.run_recorded.new.self.slots.live c.in-Ok-Exits.code comes.1 (comes.0.within k.is.playing.base.is.steps) (few_used k.is comes.0))

pub returns-in-Ok-Failed-clause-differs : goal.returns-in-Ok-Failed-clause-differs
returns-in-Ok-Failed-clause-differs g c =
    let comes : ComesTo c.args.recorded.now.steps c.args.self.now.cpu.slots.live (question.Failed c.in-Ok-Failed.cause) c.run_recorded.new.self.slots.live =
    comes_to c.args.recorded.now.steps c.requires.stands.is.lives c.in-Ok-Failed.field-0-is c.in-Ok-Failed.ensures.question in
    subst (λ (end : Answer). DiffersBy (HasFound c.args.recorded.now c.run_recorded.new.self.slots.live) c.args.self.now.difference (Some (difference.Failed c.in-Ok-Failed.cause)) (Err end)) (sym c.mismatch.ensures)
    (comes.1, comes.2, comes.3)

pub returns-in-Ok-Emits-clause-differs : goal.returns-in-Ok-Emits-clause-differs
returns-in-Ok-Emits-clause-differs g c =
    differs_never (HasFound c.args.recorded.now c.send.new.self.cpu.slots.live) c.args.self.now.difference c.send.new.self.difference c.send.result c.send.ensures.differs
