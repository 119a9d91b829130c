use Rattle.two_hosts.proofs.Both.{hosts_are_one}

pub returns : Rattle.two_hosts.proofs.laws.hosts_are_one.Goals.returns
returns c = hosts_are_one
