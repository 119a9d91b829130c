use Rattle.session_state.proofs.Lacking.{noted_is_told}

pub returns : Rattle.session_state.proofs.laws.noted_is_told.Goals.returns
returns c = noted_is_told
