use Rattle.session_following.proofs.Answered.{files_and_clients}

pub returns : Rattle.session_following.proofs.laws.files_and_clients.Goals.returns
returns c = files_and_clients
