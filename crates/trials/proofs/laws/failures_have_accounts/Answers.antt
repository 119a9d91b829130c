use Rattle.trials.proofs.Failed.{failures_have_accounts}

pub returns : Rattle.trials.proofs.laws.failures_have_accounts.Goals.returns
returns c = failures_have_accounts
