use Rattle.follow.proofs.Told.{plan_of_report}

pub returns : Rattle.follow.proofs.laws.plan_of_report.Goals.returns
returns c = plan_of_report
