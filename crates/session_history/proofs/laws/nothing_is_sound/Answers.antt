use Rattle.session_history.proofs.Accounts.{nothing_is_sound}

pub returns : Rattle.session_history.proofs.laws.nothing_is_sound.Goals.returns
returns c = nothing_is_sound
