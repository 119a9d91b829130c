use Rattle.session_history.proofs.Sessions.{serving_event}

pub returns : Rattle.session_history.proofs.laws.event_is_taken.Goals.returns
returns c = serving_event
