use Rattle.wait_tests.proofs.readers.a_process_goes.Given as goal

abbrev pub ghosts-one_process_goes : goal.ghosts-one_process_goes
ghosts-one_process_goes g a = record { name = a.blank.name; parts = a.blank.parts }
