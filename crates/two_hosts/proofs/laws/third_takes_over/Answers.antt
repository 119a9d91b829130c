use Rattle.two_hosts.proofs.Both.{third_takes_over}

pub returns : Rattle.two_hosts.proofs.laws.third_takes_over.Goals.returns
returns c = third_takes_over
