-- What reading and writing make of a file, and the calls that do so at a place of their own.
use Rattle.std.specs.Prelude.{ℕ, ◌+◌, ◌*◌, ◌-◌, ◌/◌, List, [], ◌∷◌, length, Option, Some, if◌then◌else◌}
use Rattle.std.specs.FinMap.{get}
use Rattle.abi_base.specs.declared.address_space.TheConstants.{PAGE_SIZE}
use Rattle.abi_base.specs.declared.errno.Errno.TheVariants.{Badf, Fbig}
use Rattle.abi_base.specs.declared.rights.TheConstants.Rights.{FD_READ, FD_SEEK, FD_WRITE}
use Rattle.abi_types.specs.declared.open_kind.OpenKind.{OpenKind}
use Rattle.abi_types.specs.declared.open_kind.OpenKind.TheVariants.{File}
use Rattle.abi_types.specs.declared.reply.Answer.TheVariants as answer
use Rattle.tree_model.specs.Changes.{bytes_of, with_bytes}
use Rattle.tree_model.specs.Files.{after_write, fitting, is_beyond, read_bytes}
use Rattle.kernel_model.specs.Families.FileChanges.{changing, modified, retimed}
use Rattle.kernel_model.specs.Families.FileLooks.{looking}
use Rattle.kernel_model.specs.Families.FileMeaning.{on_open}
use Rattle.kernel_model.specs.Meaning.{Meaning}
use Rattle.kernel_model.specs.Outcome.{Outcome, replies}
use Rattle.kernel_model.specs.Reply.{content, refused, success}
use Rattle.kernel_model.specs.Rows.{base_row, both}
use Rattle.kernel_model.specs.State.{Tree}
use Rattle.kernel_model.specs.Families.TreeUpdates.{node_update}

-- ---- reading

-- n bytes of a file from a place on, or as many as there are
abbrev pub bytes_at : Tree → ℕ → ℕ → ℕ → List ℕ
bytes_at t node at n = read_bytes (bytes_of t node) at n

abbrev pub read_at : ℕ → ℕ → Tree → Option OpenKind → Outcome
read_at n at t (Some (File node offset flags)) = replies (content (bytes_at t node at n))
read_at n at t _ = replies (refused Badf)

abbrev pub fd_pread : ℕ → ℕ → ℕ → Meaning
fd_pread fd n at = on_open (base_row fd (both FD_READ FD_SEEK)) (looking (read_at n at))

-- the bytes of whole pages, as many as this many bytes need
unfoldable pub page_bytes : ℕ → ℕ
page_bytes n = (n + (PAGE_SIZE - 1)) / PAGE_SIZE * PAGE_SIZE

-- ---- writing

-- the tree in which these bytes stand in the file from a place on, as many as it has room for, written now
abbrev pub overwritten : Tree → ℕ → ℕ → ℕ → List ℕ → Tree
overwritten t node now at bytes = retimed (with_bytes t node (after_write (bytes_of t node) at bytes)) node (modified now)

-- how many of the bytes are written
abbrev pub written_count : ℕ → List ℕ → ℕ
written_count at bytes = length (fitting at bytes)

-- they are written, and their count is the result
abbrev pub overwrites : Tree → ℕ → ℕ → ℕ → List ℕ → Outcome
overwrites t node now at bytes = record {
  answer = answer.Reply (success (written_count at bytes) 0);
  updates = node_update node (get (overwritten t node now at bytes).nodes node);
}

-- No bytes change nothing. Where the file has no room for any it would be too large.
abbrev pub write_bytes : Tree → ℕ → ℕ → ℕ → List ℕ → Outcome
write_bytes t node now at [] = replies (success 0 0)
write_bytes t node now at (b ∷ bytes) =
    if is_beyond at (b ∷ bytes) then replies (refused Fbig) else overwrites t node now at (b ∷ bytes)

-- with APPEND too they are written there
abbrev pub write_at : List ℕ → ℕ → ℕ → Tree → Option OpenKind → Outcome
write_at bytes at now t (Some (File node offset flags)) = write_bytes t node now at bytes
write_at bytes at now t _ = replies (refused Badf)

abbrev pub fd_pwrite : ℕ → List ℕ → ℕ → Meaning
fd_pwrite fd bytes at = on_open (base_row fd (both FD_WRITE FD_SEEK)) (changing (write_at bytes at))
