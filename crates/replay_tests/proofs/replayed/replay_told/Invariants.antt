use Rattle.replay_tests.proofs.replayed.replay_told.Given as goal

abbrev pub ghosts-replay_counted : goal.ghosts-replay_counted
ghosts-replay_counted g a = record { name = a.blank.name; parts = a.blank.parts }
