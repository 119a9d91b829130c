use Rattle.session_history.proofs.Heeding.{refused_unheeded}

pub returns : Rattle.session_history.proofs.laws.refused_unheeded.Goals.returns
returns c = refused_unheeded
