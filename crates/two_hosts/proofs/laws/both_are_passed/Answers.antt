use Rattle.two_hosts.proofs.Both.{both_are_passed}

pub returns : Rattle.two_hosts.proofs.laws.both_are_passed.Goals.returns
returns c = both_are_passed
