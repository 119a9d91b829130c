use Rattle.session_following.proofs.Held.{held_then}

pub returns : Rattle.session_following.proofs.laws.held_grows.Goals.returns
returns c = held_then
