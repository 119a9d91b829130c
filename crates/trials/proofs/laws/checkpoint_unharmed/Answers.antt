use Rattle.trials.proofs.Agreeing.{checkpoint_unharmed}

pub returns : Rattle.trials.proofs.laws.checkpoint_unharmed.Goals.returns
returns c = checkpoint_unharmed
