use Rattle.program_tests.proofs.order_tests.a_reply_is_written_before_the_next_read.Given as goal

abbrev pub ghosts-run_logged : goal.ghosts-run_logged
ghosts-run_logged g a = record { name = a.blank.name; parts = a.blank.parts }
