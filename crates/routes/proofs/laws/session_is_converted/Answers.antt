use Rattle.routes.proofs.SameBytes.{session_converted}

pub returns : Rattle.routes.proofs.laws.session_is_converted.Goals.returns
returns c = session_converted
