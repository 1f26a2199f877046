-- The errors of the calls that read and write, and of fd_seek: the statement that is the contract of a function of src/laws.rt.
use Rattle.std.specs.Prelude.{◌≡◌, ◌≢◌, ◌⊎◌, ℕ, ◌+◌, ◌<◌, ◌≤◌, ◌^◌, List, [], length, Option, None, Some}
use Rattle.std.specs.FinMap.{get}
use Rattle.abi_base.specs.Rights.{Has}
use Rattle.abi_base.specs.declared.errno.Errno.TheVariants.{Badf, Fbig, Inval}
use Rattle.abi_types.specs.declared.call.Call.TheVariants.{FdPread, FdPwrite, FdRead, FdSeek, FdWrite}
use Rattle.abi_types.specs.declared.open_kind.OpenKind.{OpenKind}
use Rattle.abi_types.specs.declared.open_kind.OpenKind.TheVariants.{File, End, Terminal}
use Rattle.tree_model.specs.Changes.{bytes_of}
use Rattle.kernel_model.specs.State.{State, tree_of}
use Rattle.file_errors.specs.Tables.{IsListedBy, IsListedWhere, Rows, refuses, row, succeeds}

-- ---- reading and writing

-- only a file can be read at an offset of the call's own
abbrev pub pread_rows : Option OpenKind → Rows
pread_rows (Some (File node offset flags)) = succeeds
pread_rows other = refuses Badf

-- FBIG: there are bytes to write, and no file has a byte at this offset
abbrev pub write_rows : List ℕ → ℕ → Rows
write_rows bytes at = row ((bytes ≢ []) × (67108864 ≤ at)) Fbig succeeds

abbrev pub pwrite_rows : List ℕ → ℕ → Option OpenKind → Rows
pwrite_rows bytes at (Some (File node offset flags)) = write_rows bytes at
pwrite_rows bytes at other = refuses Badf

-- A standard stream is written and read wherever it is there. What an end answers laws of channels say.
abbrev pub stream_rows : State → ℕ → Rows
stream_rows S which = row (get S.terms which ≡ None) Badf succeeds

-- a file is written at its open's offset, and with APPEND (bit 0) at its end
abbrev pub fd_write_rows : List ℕ → State → Option OpenKind → Rows
fd_write_rows bytes S (Some (File node offset flags)) =
    row ((bytes ≢ []) × (¬ Has flags 0) × (67108864 ≤ offset)) Fbig
    (row ((bytes ≢ []) × Has flags 0 × (67108864 ≤ length (bytes_of (tree_of S) node))) Fbig
    succeeds)
fd_write_rows bytes S (Some (Terminal which flags)) = stream_rows S which
fd_write_rows bytes S other = refuses Badf

abbrev pub fd_read_rows : State → Option OpenKind → Rows
fd_read_rows S (Some (File node offset flags)) = succeeds
fd_read_rows S (Some (Terminal which flags)) = stream_rows S which
fd_read_rows S other = refuses Badf

-- the open is no end of channels
abbrev pub IsNoEnd : Option OpenKind → Type 0
IsNoEnd (Some (End reads writes flags form)) = ⊥
IsNoEnd other = Unit {0}

-- ---- fd_seek

-- Bits of a signed number of 64 bits, added to a place: the sum is below 0; or it is 2^63 or more, which no offset is.
abbrev pub IsBelowZero : ℕ → ℕ → Type 0
IsBelowZero place bits = (2 ^ 63 ≤ bits) × (place + bits < 2 ^ 64)

abbrev pub IsTooFar : ℕ → ℕ → Type 0
IsTooFar place bits = ((bits < 2 ^ 63) × (2 ^ 63 ≤ place + bits)) ⊎ ((2 ^ 63 ≤ bits) × (2 ^ 64 + 2 ^ 63 ≤ place + bits))

abbrev pub from_place : ℕ → ℕ → Rows
from_place place bits = row (IsBelowZero place bits) Inval (row (IsTooFar place bits) Inval succeeds)

-- ---- the law

-- only a file has an offset
abbrev pub seek_rows : (ℕ → ℕ → Rows) → Option OpenKind → Rows
seek_rows from (Some (File node offset flags)) = from node offset
seek_rows from other = refuses Badf

pub record OffsetErrorsAreListed : Type 0 where
  pub fd_pread : (fd length offset : ℕ) → IsListedBy (FdPread fd length offset) fd (λ S who table. pread_rows)
  pub fd_pwrite : (fd : ℕ) (bytes : List ℕ) (offset : ℕ) → IsListedBy (FdPwrite fd bytes offset) fd (λ S who table. pwrite_rows bytes offset)
  -- fd_seek from the open's offset (CUR), from the file's end (END), to an offset (SET), and from nowhere
  pub from_offset : (fd bits : ℕ) → IsListedBy (FdSeek fd bits 1) fd (λ S who table. seek_rows (λ node offset. from_place offset bits))
  pub from_end : (fd bits : ℕ)
      → IsListedBy (FdSeek fd bits 2) fd (λ S who table. seek_rows (λ node offset. from_place (length (bytes_of (tree_of S) node)) bits))
  pub to_offset : (fd bits : ℕ) → IsListedBy (FdSeek fd bits 3) fd (λ S who table. seek_rows (λ node offset. row (2 ^ 63 ≤ bits) Inval succeeds))
  pub from_nowhere : (fd bits whence : ℕ) → whence ≢ 1 → whence ≢ 2 → whence ≢ 3
      → IsListedBy (FdSeek fd bits whence) fd (λ S who table. seek_rows (λ node offset. refuses Inval))
  -- of what is no end
  pub fd_read : (fd length : ℕ) → IsListedWhere IsNoEnd (FdRead fd length) fd (λ S who table. fd_read_rows S)
  pub fd_write : (fd : ℕ) (bytes : List ℕ) → IsListedWhere IsNoEnd (FdWrite fd bytes) fd (λ S who table. fd_write_rows bytes S)
