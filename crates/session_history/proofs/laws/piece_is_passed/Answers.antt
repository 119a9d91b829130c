use Rattle.session_history.proofs.Sessions.{serving_piece}

pub returns : Rattle.session_history.proofs.laws.piece_is_passed.Goals.returns
returns c = serving_piece
