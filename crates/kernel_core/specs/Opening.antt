-- What the call that opens comes to, by what was planned for it.
use Rattle.std.specs.Prelude.{◌≡◌, ℕ, ◌+◌, true, List}
use Rattle.std.specs.FinMap.{get}
use Rattle.abi_structures.specs.declared.structures.FdStat.{FdStat}
use Rattle.abi_types.specs.declared.call.Lookup.{Lookup}
use Rattle.fd_table.specs.Table.{IsLowestFree}
use Rattle.kernel_model.specs.Families.DescriptorCalls.{lowest_free}
use Rattle.kernel_model.specs.Families.FilePaths.{walked}
use Rattle.kernel_model.specs.Families.Numbers.{can_number, next_object}
use Rattle.kernel_model.specs.Families.Opening.{Opened, open_at, open_mode, open_walked, opened_descriptor}
use Rattle.kernel_model.specs.Outcome.{Outcome}
use Rattle.kernel_model.specs.State.{State, Table, tree_of}
use Rattle.entry_calls.specs.Plans.{kind_of, new_nodes_of, opened_by}
use Rattle.kernel_parts.specs.Entries.{open_in}
use Rattle.kernel_parts.specs.declared.opens.Opening.{Opening}

-- what is opened at this time, by the open of a descriptor of the table, where a node that is made has the number new
abbrev pub opened_at : ℕ → ℕ → State → Table → Lookup → List ℕ → ℕ → FdStat → Opened
opened_at now new S table lookup path oflags stat =
    open_walked oflags stat.flags path now new (tree_of S)
    (walked (tree_of S) (open_mode oflags lookup.flags) path (open_in S.opens (get table lookup.fd)))

-- what the call of process p comes to, whose table is this
abbrev pub open_outcome : ℕ → State → ℕ → Table → Lookup → List ℕ → ℕ → FdStat → Outcome
open_outcome now S p table lookup path oflags stat =
    open_at p (get S.processes p) table stat (opened_at now (next_object p (get S.processes p) 1) S table lookup path oflags stat) (lowest_free table)

-- that is opened: under the lowest free number, by a plan for the path, with the numbers that the process makes next
pub record IsOpening (S : State) (p : ℕ) (table : Table) (lookup : Lookup) (path : List ℕ) (oflags : ℕ) (stat : FdStat) (o : Opening) : Type 0 where
  pub free : IsLowestFree table o.fd
  pub can : can_number p (new_nodes_of o.plan + 1) (get S.processes p) ≡ true
  pub new : o.new ≡ next_object p (get S.processes p) 1
  pub kind : o.kind ≡ kind_of o.plan stat.flags o.new
  pub descriptor : o.descriptor ≡ opened_descriptor (next_object p (get S.processes p) (new_nodes_of o.plan + 1)) o.kind stat
  pub opened : (now new : ℕ) → opened_at now new S table lookup path oflags stat ≡ opened_by o.plan path (tree_of S) stat.flags now new
