use Rattle.session_state.proofs.standing.NeedLemmas.{emits_later}
use Rattle.rx_engine.proofs.Terms.{ap, arith, rules, subst, sym, ◌∙◌, ◌≡◌, Seen, Ledger, NotBefore, is_open, times_of, nothing_passed, run_breaks, comes_between, comes_lost, gives_same, going_can, going_told, sent_going, still_takes, keeping_of, rules_by, SessionState}
use Rattle.rx_engine.proofs.session.Session.send.Goals as goal

pub sent-requires-clause-later : goal.sent-requires-clause-later
sent-requires-clause-later g c =
    subst (λ (s : SessionState _). NotBefore s.taken (times_of s.replies.kept)) (sym c.self.view_is) (emits_later c.requires.is)

pub returns-in-Err-clause-turns : goal.returns-in-Err-clause-turns
returns-in-Err-clause-turns g c image began lost takes h counts =
    (run_breaks h (ap (λ (s : SessionState _). keeping_of s) c.self.view_is) (ap (λ (s : SessionState _). s.cpu.slots.saved) c.self.view_is) (ap (λ (s : SessionState _). s.recorded) c.self.view_is) (ap (λ (s : SessionState _). s.choices) c.self.view_is) (ap (λ (s : SessionState _). s.taken) c.self.view_is) (ap (λ (s : SessionState _). s.steps) c.self.view_is) counts, λ none. still_takes _ takes none)

pub returns-in-Err-clause-keeps : goal.returns-in-Err-clause-keeps
returns-in-Err-clause-keeps g c = record { link = nothing_passed; until = search rules; options = search rules; before = search rules; hold = search rules; cpu = search rules; oldest = search rules; keeping = search rules; marked = search rules; low = search rules }

pub returns-clause-keeps : goal.returns-clause-keeps
returns-clause-keeps g c = record { link = search rules; until = search rules; options = search rules; before = search rules; hold = search rules; cpu = search rules; oldest = search rules; keeping = search rules; marked = search rules; low = search rules }

pub pass_due-requires : goal.pass_due-requires
pass_due-requires g c = record {
  can = going_can (sent_going c.requires.is c.self.view_is c.in_default.ensures.ok c.count_run.ensures);
  gives = gives_same (λ conn. ap (λ (s : SessionState _). is_open s.replies.connections conn) c.count_run.ensures
      ∙ (ap (λ (l : Ledger). is_open l.connections conn) c.in_default.ensures.ok ∙ ap (λ (s : SessionState _). is_open s.replies.connections conn) c.self.view_is)) c.requires.gives;
}

pub returns-clause-turns : goal.returns-clause-turns
returns-clause-turns g c image began lost takes h counts =
    let going = sent_going h c.self.view_is c.in_default.ensures.ok c.count_run.ensures in
    let hold = sym (ap (λ (s : SessionState _). s.hold) c.count_run.ensures ∙ ap (λ (s : SessionState _). s.hold) c.self.view_is) in
    let steps : c.pass_due.new.self.steps ≡ c.args.self.now.cpu.slots.live.steps =
    ap (λ (s : SessionState _). s.steps) c.pass_due.ensures.keeps.only.same ∙ (ap (λ (s : SessionState _). s.steps) c.count_run.ensures ∙ ap (λ (s : SessionState _). s.cpu.slots.live.steps) c.self.view_is) in
    comes_lost (rules_by g.R.AccessRule.rule c.args.self.now) image began (g.K.Link.seen c.pass_due.new.link) c.pass_due.new.self c.pass_due.result (omega (arith, counts, steps))
    (comes_between _ going _ c.pass_due.ensures.keeps.only.same c.pass_due.ensures.keeps.only.first (λ conn. ap (λ (s : Seen). s.phases conn) c.pass_due.ensures.keeps.link.rest) (ap (λ (s : Seen). s.takes) c.pass_due.ensures.keeps.link.rest ∙ takes)
    (c.pass_due.ensures.passes (rules_by g.R.AccessRule.rule c.args.self.now) image began going.story hold (going_told going) going.passed))
