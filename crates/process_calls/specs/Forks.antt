-- The child that a process makes, in the parts of the kernel's state.
use Rattle.std.specs.Prelude.{◌≡◌, ◌≢◌, ◌+◌, ◌<◌, ◌^◌, ℕ, true, Option, None, Some, IsSome}
use Rattle.std.specs.Ordering.{nat_cmp}
use Rattle.std.specs.FinMap.{FinMap, get, insert}
use Rattle.abi_types.specs.declared.descriptor.Descriptor.{Descriptor}
use Rattle.abi_types.specs.declared.open_kind.OpenKind.{OpenKind}
use Rattle.abi_types.specs.declared.open_kind.OpenKind.TheVariants.{Process}
use Rattle.abi_types.specs.declared.status.Status.{Status}
use Rattle.abi_types.specs.declared.status.Status.TheVariants.{Live}
use Rattle.fd_table.specs.Table.{IsLowestFree, IsTable}
use Rattle.kernel_model.specs.Families.ForkCalls.{can_fork, child_descriptor, child_number, child_object, child_open, child_process}
use Rattle.kernel_model.specs.Families.Numbers.{made_more}
use Rattle.kernel_model.specs.OwnChanges.{may_bear, with_next_child}
use Rattle.kernel_model.specs.State.{ProcessState, Table}
use Rattle.process_calls.specs.declared.forks.NewChild.{NewChild}

-- The child that thread t of process p makes, which has this of its own, these descriptors, and so many turns left.
pub record IsPlan (left p t : ℕ) (own : ProcessState) (table : Table) (plan : NewChild) : Type 0 where
  pub can : can_fork left p t own ≡ true
  pub parent_is : plan.parent ≡ p
  pub tid_is : plan.tid ≡ t
  pub child_is : plan.child ≡ child_number p own
  pub object_is : plan.object ≡ child_object p own
  pub open_is : plan.open ≡ child_open p own
  pub free : IsLowestFree table plan.fd

-- the descriptor, if there is one, is of an open that there is
abbrev pub IsOpenOf : FinMap nat_cmp OpenKind → Option Descriptor → Type 0
IsOpenOf kinds None = Unit {0}
IsOpenOf kinds (Some d) = IsSome (get kinds d.id)

-- The parent is there with the thread that makes the child and may have a child more, the child isn't there, and the number of the descriptor and that of the open are free.
pub record MayPut (plan : NewChild) (tables : FinMap nat_cmp Table) (processes : FinMap nat_cmp ProcessState) (statuses : FinMap nat_cmp Status)
    (kinds : FinMap nat_cmp OpenKind) : Type 0 where
  pub table : Table
  pub has_table : get tables plan.parent ≡ Some table
  pub small : IsTable table
  pub own : ProcessState
  pub has_own : get processes plan.parent ≡ Some own
  pub bears : may_bear own ≡ true
  pub there : IsSome (get own.threads plan.tid)
  pub can_number : own.counts.objects + 2 < 2 ^ 32
  pub child_is : plan.child ≡ child_number plan.parent own
  pub object_is : plan.object ≡ child_object plan.parent own
  pub open_is : plan.open ≡ child_open plan.parent own
  pub free : IsLowestFree table plan.fd
  pub other : plan.child ≢ plan.parent
  pub no_table : get tables plan.child ≡ None
  pub no_own : get processes plan.child ≡ None
  pub no_status : get statuses plan.child ≡ None
  pub no_open : get kinds plan.open ≡ None

-- The child was made: it has its parent's descriptors and its parent's thread, and lives; the parent has counted a child and two objects more, and
-- has the descriptor of the child.
pub record ChildIsPut (plan : NewChild) (tables : FinMap nat_cmp Table) (processes : FinMap nat_cmp ProcessState) (statuses : FinMap nat_cmp Status)
    (kinds : FinMap nat_cmp OpenKind) (tables' : FinMap nat_cmp Table) (processes' : FinMap nat_cmp ProcessState) (statuses' : FinMap nat_cmp Status)
    (kinds' : FinMap nat_cmp OpenKind) : Type 0 where
  pub tables_are : (table : Table) (own : ProcessState) → get tables plan.parent ≡ Some table → get processes plan.parent ≡ Some own
      → tables' ≡ insert (insert tables plan.child table) plan.parent (insert table plan.fd (child_descriptor plan.parent own))
  pub processes_are : (own : ProcessState) → get processes plan.parent ≡ Some own
      → processes' ≡ insert (insert processes plan.parent (made_more 2 (with_next_child own))) plan.child (child_process plan.tid own)
  pub statuses_are : statuses' ≡ insert statuses plan.child Live
  pub kinds_are : kinds' ≡ insert kinds plan.open (Process plan.child plan.object)
