use Rattle.session_tests.proofs.guests_tests.guests_are_given_blocks_by_the_table.Given as goal

abbrev pub ghosts-try_guests : goal.ghosts-try_guests
ghosts-try_guests g a = record { name = a.blank.name; parts = a.blank.parts }
