use Rattle.drill_tests.proofs.lines_tests.drills_print_their_lines.Given as goal

abbrev pub ghosts-try_drills : goal.ghosts-try_drills
ghosts-try_drills g a = record { name = a.blank.name; parts = a.blank.parts }
