use Rattle.guest_space.proofs.Terms.{false, rules, sym, ◌∙◌, ◌≡◌, false≢true}
use Rattle.guest_space.proofs.span.each_has.Goals as goal

pub returns-then-not-some_has : goal.returns-then-not-some_has
returns-then-not-some_has c =
    let miss : c.some_has.result ≡ false = search rules in
    λ held. false≢true (sym miss ∙ c.some_has.ensures ∙ held c.loop-k.k c.loop-k-test.true)
