-- The errors of the calls on descriptors themselves: the statement that is the contract of a function of src/laws.rt.
use Rattle.std.specs.Prelude.{ℕ, ◌<◌, Option, None, Some, IsSome}
use Rattle.std.specs.FinMap.{get}
use Rattle.abi_base.specs.declared.errno.Errno.TheVariants.{Badf, Mfile}
use Rattle.abi_structures.specs.declared.structures.FdStat.{FdStat}
use Rattle.abi_types.specs.declared.call.Call.TheVariants.{FdClose, FdDatasync, FdDup, FdReplace, FdStatGet, FdStatPut, FdSync, FileAdvise}
use Rattle.abi_types.specs.declared.open_kind.OpenKind.{OpenKind}
use Rattle.kernel_model.specs.State.{Table}
use Rattle.file_errors.specs.Tables.{IsListed, IsListedBy, Rows, refuses, row, succeeds}

-- each number that a descriptor may have has one
abbrev pub IsFull : Table → Type 0
IsFull table = (k : ℕ) → k < 1024 → IsSome (get table k)

-- an open that is there, whatever it is of
abbrev pub opened_rows : Option OpenKind → Rows
opened_rows None = refuses Badf
opened_rows (Some kind) = succeeds

-- Where it is allowed, a call on a descriptor itself succeeds, but for fd_dup, which is MFILE exactly where no number is free.
pub record DescriptorErrorsAreListed : Type 0 where
  pub fd_close : (fd : ℕ) → IsListed (FdClose fd) (λ S who table. succeeds)
  pub fd_datasync : (fd : ℕ) → IsListed (FdDatasync fd) (λ S who table. succeeds)
  pub fd_sync : (fd : ℕ) → IsListed (FdSync fd) (λ S who table. succeeds)
  pub file_advise : (fd offset length advice : ℕ) → IsListed (FileAdvise fd offset length advice) (λ S who table. succeeds)
  pub fd_dup : (fd : ℕ) → IsListed (FdDup fd) (λ S who table. row (IsFull table) Mfile succeeds)
  pub fd_replace : (from to : ℕ) → IsListed (FdReplace from to) (λ S who table. succeeds)
  pub fd_stat_get : (fd : ℕ) → IsListedBy (FdStatGet fd) fd (λ S who table. opened_rows)
  pub fd_stat_put : (fd : ℕ) (stat : FdStat) (flags : ℕ) → IsListedBy (FdStatPut fd stat flags) fd (λ S who table. opened_rows)
