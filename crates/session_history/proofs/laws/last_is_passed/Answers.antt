use Rattle.session_history.proofs.Endings.{ending_piece}

pub returns : Rattle.session_history.proofs.laws.last_is_passed.Goals.returns
returns c = ending_piece
