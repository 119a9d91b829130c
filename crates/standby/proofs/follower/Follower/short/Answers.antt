use Rattle.standby.proofs.Terms.{rules, subst, ◌≡◌}
use Rattle.standby.proofs.KeptLemmas.{FewBelow, few_all}
use Rattle.standby.proofs.follower.Follower.short.Goals as goal

pub returns : goal.returns
returns c =
    let all : c.connections.conn ≡ 4096 = search rules in
    few_all c.args.counts.now c.args.self.now.kept.items c.requires.counts (subst (FewBelow c.args.counts.now c.args.self.now.kept.items) all c.connections.invariant)
