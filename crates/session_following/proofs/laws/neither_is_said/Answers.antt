use Rattle.session_following.proofs.Answered.{neither_is_said}

pub returns : Rattle.session_following.proofs.laws.neither_is_said.Goals.returns
returns c = neither_is_said
