use Rattle.wait_tests.proofs.readers.a_write_settles_its_reader.Given as goal

abbrev pub ghosts-one_write : goal.ghosts-one_write
ghosts-one_write g a = record { name = a.blank.name; parts = a.blank.parts }
