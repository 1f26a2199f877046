-- The code of a state, by which proofs distinguish states: the tuple of its fields.
use Rattle.std.specs.Prelude.{ℕ, refl}
use Rattle.std.specs.Ordering.{nat_cmp}
use Rattle.std.specs.FinMap.{FinMap, code}
use Rattle.std.specs.Coded.{Coded, code_by, coded×, coded_list, coded_ℕ}
use Rattle.abi_types.specs.declared.node.Node.{Node}
use Rattle.abi_types.specs.declared.open_kind.OpenKind.{OpenKind}
use Rattle.abi_types.specs.declared.status.Status.{Status}
use Rattle.abi_types.specs.declared.counts.Counts.{Counts}
use Rattle.abi_types.specs.declared.stream.Stream.{Stream}
use Rattle.abi_types.specs.contracts.counts.Counts as counts
use Rattle.abi_types.specs.contracts.node.Node as node
use Rattle.abi_types.specs.contracts.open_kind.OpenKind as open_kind
use Rattle.abi_types.specs.contracts.status.Status as status
use Rattle.abi_types.specs.contracts.stream.Stream as stream
use Rattle.abi_types.specs.contracts.thread.Thread as thread
use Rattle.fd_table.specs.Table.{table_code}
use Rattle.channels.specs.Channels.{Channel, channel_code}
use Rattle.kernel_model.specs.State.{State, Table, Threads, ProcessState, Names}

abbrev pub threads_code : Coded Threads
threads_code = code coded_ℕ thread.the_row.coded

abbrev pub names_code : Coded Names
names_code = code (coded_list coded_ℕ) coded_ℕ

abbrev pub process_code : Coded ProcessState
process_code =
    code_by (Threads × (Counts × ℕ)) (coded× threads_code (coded× counts.the_row.coded coded_ℕ)) (λ own. (own.threads, (own.counts, own.depth)))
    (λ f. record { threads = f.0; counts = f.1.0; depth = f.1.1 }) (λ _. refl)

-- the fields as nested pairs
abbrev Fields : Type 0
Fields =
    ℕ × (FinMap nat_cmp Table × (FinMap nat_cmp ProcessState × (FinMap nat_cmp Status × (FinMap nat_cmp OpenKind × (FinMap nat_cmp Node × (FinMap nat_cmp Names × (FinMap nat_cmp Stream × FinMap nat_cmp Channel)))))))

abbrev fields_code : Coded Fields
fields_code =
    coded× coded_ℕ
    (coded× (code coded_ℕ table_code)
    (coded× (code coded_ℕ process_code)
    (coded× (code coded_ℕ status.the_row.coded)
    (coded× (code coded_ℕ open_kind.the_row.coded)
    (coded× (code coded_ℕ node.the_row.coded)
    (coded× (code coded_ℕ names_code)
    (coded× (code coded_ℕ stream.the_row.coded) (code coded_ℕ channel_code))))))))

abbrev pub state_code : Coded State
state_code =
    code_by Fields fields_code (λ S. (S.clock, (S.tables, (S.processes, (S.statuses, (S.opens, (S.nodes, (S.names, (S.terms, S.chans)))))))))
    (λ f. record { clock = f.0; tables = f.1.0; processes = f.1.1.0; statuses = f.1.1.1.0; opens = f.1.1.1.1.0; nodes = f.1.1.1.1.1.0; names = f.1.1.1.1.1.1.0; terms = f.1.1.1.1.1.1.1.0; chans = f.1.1.1.1.1.1.1.1 }) (λ _. refl)
