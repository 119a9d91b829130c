use Rattle.execution_tests.proofs.guest_cpu_tests.each_environment_answers_a_guest.Given as goal

abbrev pub ghosts-play : goal.ghosts-play
ghosts-play g a = record { name = a.blank.name; parts = a.blank.parts }
