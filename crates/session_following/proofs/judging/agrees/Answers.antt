use Rattle.session_following.proofs.Terms.{arith, get_or, subst, sym, ℕ, ◌≡◌, IsTrue, ◌↔◌}
use Rattle.session_following.proofs.Agreement.{agree_past, told_or}
use Rattle.session_following.proofs.judging.agrees.Goals as goal

pub returns-then-handed-index : goal.returns-then-handed-index
returns-then-handed-index c = λ choices count agree. agree_past c.args.handed.now.choices.now choices c.args.choice agree (omega (arith, count, c.if-handed-index.true))

pub returns : goal.returns
returns c =
    λ choices count agree.
    told_or c.args.handed.now.choices.now choices c.args.choice c.is_told.result agree (omega (arith, count, c.if-handed-index.false))
    (subst (λ (n : ℕ). IsTrue c.is_told.result ↔ (get_or c.args.handed.now.choices.now n c.args.choice ≡ c.args.choice)) (sym count) c.is_told.ensures)
