use Rattle.execution_tests.proofs.rv_exec_tests.each_instruction_does_what_the_manual_says.Given as goal

abbrev pub ghosts-try_all : goal.ghosts-try_all
ghosts-try_all g a = record { name = a.blank.name; parts = a.blank.parts }
