use Rattle.session_history.proofs.Turns.{links_open_once}

pub returns : Rattle.session_history.proofs.account_laws.links_open_once.Goals.returns
returns c = links_open_once
