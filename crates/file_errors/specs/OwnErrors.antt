-- The errors of the calls on clocks, for random bytes and on the process's memory: the statement that is the contract of a function of src/laws.rt.
use Rattle.std.specs.Prelude.{ℕ, ◌+◌, ◌/◌, ◌≤◌, ◌^◌, Option, None, Some}
use Rattle.std.specs.FinMap.{get}
use Rattle.abi_base.specs.Rights.{Has}
use Rattle.abi_base.specs.declared.errno.Errno.{Errno}
use Rattle.abi_base.specs.declared.errno.Errno.TheVariants.{Again, Badf, Nosys}
use Rattle.abi_types.specs.declared.call.Call.TheVariants.{ClockResGet, ClockTimeGet, MemMap, Memory, RandomGet, Refused, Unknown}
use Rattle.abi_types.specs.declared.call_number.CallNumber.{CallNumber}
use Rattle.abi_types.specs.declared.open_kind.OpenKind.{OpenKind}
use Rattle.abi_types.specs.declared.open_kind.OpenKind.TheVariants.{File}
use Rattle.abi_types.specs.declared.place.Place.{Place}
use Rattle.abi_types.specs.declared.place.Place.TheVariants as place
use Rattle.kernel_model.specs.State.{ProcessState}
use Rattle.file_errors.specs.Tables.{IsListed, IsListedBy, Rows, refuses, row, succeeds}

-- AGAIN: with the words of four bytes that are drawn the process would have drawn 2^63 or more
abbrev pub drawing_rows : ℕ → Option ProcessState → Rows
drawing_rows length None = refuses Again
drawing_rows length (Some own) = row (2 ^ 63 ≤ own.counts.words + (length + 3) / 4) Again succeeds

-- a mapping that has a place goes there; one that has none is refused for the reason that its process's memory gives
abbrev pub place_rows : Place → Rows
place_rows (place.At address) = succeeds
place_rows (place.Refused errno) = refuses errno

-- only a file is mapped
abbrev pub map_rows : Place → Option OpenKind → Rows
map_rows place (Some (File node offset flags)) = place_rows place
map_rows place other = refuses Badf

pub record OwnErrorsAreListed : Type 0 where
  pub clock_res_get : (clock : ℕ) → IsListed (ClockResGet clock) (λ S who table. succeeds)
  pub clock_time_get : (clock precision : ℕ) → IsListed (ClockTimeGet clock precision) (λ S who table. succeeds)
  pub random_get : (length : ℕ) → IsListed (RandomGet length) (λ S who table. drawing_rows length (get S.processes who.pid))
  -- mem_map with ANON (bit 0), and without
  pub mapped_zeros : (place : Place) (length prot flags fd offset : ℕ) → Has flags 0
      → IsListed (MemMap place length prot flags fd offset) (λ S who table. place_rows place)
  pub mapped_file : (place : Place) (length prot flags fd offset : ℕ) → ¬ Has flags 0
      → IsListedBy (MemMap place length prot flags fd offset) fd (λ S who table. map_rows place)
  -- What the caller's registers and memory alone decide is answered so, by mem_advise, mem_protect, mem_sync and mem_unmap with SUCCESS too.
  pub memory : (number : CallNumber) (errno : Errno) → IsListed (Memory number errno) (λ S who table. refuses errno)
  pub refused : (number : CallNumber) (errno : Errno) → IsListed (Refused number errno) (λ S who table. refuses errno)
  pub unknown : (number : ℕ) → IsListed (Unknown number) (λ S who table. refuses Nosys)
