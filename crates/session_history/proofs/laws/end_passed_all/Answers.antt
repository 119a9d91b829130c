use Rattle.session_history.proofs.Endings.{passed_all}

pub returns : Rattle.session_history.proofs.laws.end_passed_all.Goals.returns
returns c rules image session account owes = passed_all rules image session account.passed owes
