-- The code of what contracts see of a process, by which proofs distinguish that: the tuple of its fields.
use Rattle.std.specs.Prelude.{ℕ, List, refl}
use Rattle.std.specs.FinMap.{code}
use Rattle.std.specs.Coded.{Coded, code_by, coded×, coded_list, coded_ℕ}
use Rattle.run_types.specs.contracts.history.Entry as entry
use Rattle.run_types.specs.declared.history.Entry.{Entry}
use Rattle.kernel_cell.specs.Results.{Threads}
use Rattle.process_cell.specs.Standing.{Standing}
use Rattle.kernel_cell.specs.contracts.results.Doing as doing
use Rattle.process_cell.specs.contracts.results.Phase as phase
use Rattle.process_cell.specs.declared.results.Phase.{Phase}

abbrev pub threads_code : Coded Threads
threads_code = code coded_ℕ doing.the_row.coded

abbrev StandingFields : Type 0
StandingFields = ℕ × (Phase × (Threads × (ℕ × (List ℕ × (List Entry × List Entry)))))

abbrev fields_code : Coded StandingFields
fields_code =
    coded× coded_ℕ
    (coded× phase.the_row.coded
    (coded× threads_code (coded× coded_ℕ (coded× (coded_list coded_ℕ) (coded× (coded_list entry.the_row.coded) (coded_list entry.the_row.coded))))))

abbrev pub standing_code : Coded Standing
standing_code =
    code_by StandingFields fields_code (λ s. (s.pid, (s.phase, (s.threads, (s.left, (s.turns, (s.seen, s.own)))))))
    (λ f. record { pid = f.0; phase = f.1.0; threads = f.1.1.0; left = f.1.1.1.0; turns = f.1.1.1.1.0; seen = f.1.1.1.1.1.0; own = f.1.1.1.1.1.1 }) (λ _. refl)
