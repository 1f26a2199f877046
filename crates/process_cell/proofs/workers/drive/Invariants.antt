use Rattle.process_cell.proofs.workers.drive.Given as goal

abbrev pub ghosts-run_named : goal.ghosts-run_named
ghosts-run_named g a = record { table = a.begun.table; launch = a.begun.launch; keeps_all = a.begun.keeps_all }
