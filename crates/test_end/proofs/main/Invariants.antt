use Rattle.test_end.proofs.main.Given as goal

-- the counter of the run is the one that was handed in
abbrev pub ghosts-run : goal.ghosts-run
ghosts-run a = record { name = a.blank.name; parts = a.blank.parts }
