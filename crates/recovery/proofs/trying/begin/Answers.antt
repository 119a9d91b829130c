use Rattle.recovery.proofs.Terms.{List, ap, arith, length, subst, sym, ◌∙◌, ◌≡◌, Choice, Ledger, begun, discarded, Marks, Standing, IsTrying}
use Rattle.recovery.proofs.Starting.{begins, restored_at, restored_keeps, restored_none, restored_sends}
use Rattle.recovery.proofs.trying.begin.Goals as goal

pub begin_trial-requires : goal.begin_trial-requires
begin_trial-requires g c =
    let first : c.discard.new.self.first ≡ c.args.replies.now.first = ap (λ (l : Ledger). l.first) c.discard.ensures in
    let sends = restored_sends c.args.cpu.now c.restore.new.self c.args.index c.restore.ensures.restored c.requires.failed.3 c.requires.within in
    let here = ap (λ (m : Marks). m.sends) c.marks.ensures in
    record { survivor = ap (λ (l : Ledger). l.trial) c.discard.ensures; kept = omega (arith, here, first, sends.0); within = omega (arith, here, first, ap (λ (l : Ledger). length l.kept) c.discard.ensures, sends.1) }

pub returns-clause-begins : goal.returns-clause-begins
returns-clause-begins g c point items failure checkpoint env failed found =
    let is = c.restore.ensures.restored in
    let stands = restored_at failed c.args.index found c.restore.new.self is in
    let sends : c.marks.result.sends ≡ length checkpoint.state.sends = ap (λ (m : Marks). m.sends) c.marks.ensures ∙ ap (λ (s : Standing). s.sends) stands in
    subst (λ (all : List Choice). IsTrying failure point checkpoint env c.restore.new.self all items c.begin_trial.new.self) (sym {A = List Choice} c.clear.ensures.items)
    (begins failed c.args.index found env (restored_keeps c.args.cpu.now c.restore.new.self c.args.index is (ap (λ p. p.0) c.restore.ensures.fixed) (ap (λ p. p.1) c.restore.ensures.fixed)) stands
    (restored_none c.args.cpu.now c.restore.new.self c.args.index is c.sound.ensures.written c.sound.ensures.pages)
    (c.begin_trial.ensures.begun ∙ (ap (λ (l : Ledger). begun l c.marks.result.sends) c.discard.ensures ∙ ap (begun (discarded c.args.replies.now)) sends)) c.begin_trial.ensures.agrees)
