use Rattle.execution_tests.proofs.guest_cpu_tests.a_restored_guest_does_the_same_again.Given as goal

abbrev pub ghosts-play : goal.ghosts-play
ghosts-play g a = record { name = a.blank.name; parts = a.blank.parts }
