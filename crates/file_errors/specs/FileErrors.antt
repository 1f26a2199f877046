-- The errors of the calls on what a descriptor's open is of: the statement that is the contract of a function of src/laws.rt.
use Rattle.std.specs.Prelude.{◌≡◌, ℕ, ◌+◌, ◌<◌, Option, None, Some}
use Rattle.std.specs.FinMap.{get}
use Rattle.abi_base.specs.Rights.{Has}
use Rattle.abi_base.specs.declared.errno.Errno.TheVariants.{Badf, Fbig}
use Rattle.abi_structures.specs.declared.structures.FileStat.{FileStat}
use Rattle.abi_types.specs.declared.call.Call.TheVariants.{FileAllocate, FileReaddir, FileStatFget, FileStatFput}
use Rattle.abi_types.specs.declared.open_kind.OpenKind.{OpenKind}
use Rattle.abi_types.specs.declared.open_kind.OpenKind.TheVariants.{File, Directory, End}
use Rattle.kernel_model.specs.State.{State}
use Rattle.file_errors.specs.Tables.{IsListedBy, Rows, refuses, row, succeeds}

-- it succeeds where the node is there
abbrev pub node_rows : State → ℕ → Rows
node_rows S n = row (get S.nodes n ≡ None) Badf succeeds

-- FBIG: no file has so many bytes
abbrev pub allocate_rows : ℕ → State → Option OpenKind → Rows
allocate_rows size S (Some (File node offset flags)) = row (67108864 < size) Fbig (node_rows S node)
allocate_rows size S other = refuses Badf

-- With SIZE (bit 4) FBIG where no file has so many bytes. A directory has no size that is set.
abbrev pub stat_fput_rows : FileStat → ℕ → State → Option OpenKind → Rows
stat_fput_rows stat flags S (Some (File node offset open_flags)) = row (Has flags 4 × (67108864 < stat.size)) Fbig (node_rows S node)
stat_fput_rows stat flags S (Some (Directory node open_flags)) = row (Has flags 4) Badf (node_rows S node)
stat_fput_rows stat flags S other = refuses Badf

-- each open is of something that is reported
abbrev pub stat_fget_rows : State → Option OpenKind → Rows
stat_fget_rows S (Some (File node offset flags)) = node_rows S node
stat_fget_rows S (Some (Directory node flags)) = node_rows S node
stat_fget_rows S (Some (End None None flags form)) = refuses Badf
stat_fget_rows S (Some other) = succeeds
stat_fget_rows S None = refuses Badf

-- only a directory is read so
abbrev pub readdir_rows : State → Option OpenKind → Rows
readdir_rows S (Some (Directory node flags)) = row (get S.names node ≡ None) Badf succeeds
readdir_rows S other = refuses Badf

pub record FileErrorsAreListed : Type 0 where
  pub file_allocate : (fd offset length : ℕ) → IsListedBy (FileAllocate fd offset length) fd (λ S who table. allocate_rows (offset + length) S)
  pub file_stat_fput : (fd : ℕ) (stat : FileStat) (flags : ℕ) → IsListedBy (FileStatFput fd stat flags) fd (λ S who table. stat_fput_rows stat flags S)
  pub file_stat_fget : (fd : ℕ) → IsListedBy (FileStatFget fd) fd (λ S who table. stat_fget_rows S)
  pub file_readdir : (fd length cookie : ℕ) → IsListedBy (FileReaddir fd length cookie) fd (λ S who table. readdir_rows S)
