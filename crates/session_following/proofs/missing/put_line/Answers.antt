use Rattle.session_following.proofs.Terms.{arith, length, subst, ℕ, ◌<◌, ◌∙◌, ◌≡◌}
use Rattle.session_following.proofs.Lacking.{line_put}
use Rattle.session_following.proofs.missing.put_line.Goals as goal

pub returns-clause-put : goal.returns-clause-put
returns-clause-put c = λ lines are. line_put c.lengthen.new.numbers.items (c.args.conn, c.args.count) lines (omega (arith, c.in_ok-lengthen.ensures.many)) (λ conn. c.lengthen.ensures.same conn ∙ are conn)
