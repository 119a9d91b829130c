use Rattle.two_hosts.proofs.Both.{items_go_on}

pub returns : Rattle.two_hosts.proofs.laws.items_go_on.Goals.returns
returns c = items_go_on
