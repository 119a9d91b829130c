use Rattle.two_hosts.proofs.Both.{all_are_one}

pub returns : Rattle.two_hosts.proofs.laws.all_are_one.Goals.returns
returns c = all_are_one
