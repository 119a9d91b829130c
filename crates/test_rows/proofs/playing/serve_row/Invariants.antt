use Rattle.test_rows.proofs.playing.serve_row.Given as goal

abbrev pub ghosts-serve_counted : goal.ghosts-serve_counted
ghosts-serve_counted a = record { name = a.blank.name; parts = a.blank.parts }
