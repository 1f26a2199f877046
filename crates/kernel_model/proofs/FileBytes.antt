-- What is made of a file's bytes, and the meanings of the calls that read and write at a place of their own.
--     overwritten_reworks, overwritten_alike      writing makes another node of the file, by the node before it alone
--     write_keeps_well, read_keeps_well      those meanings keep well
use Rattle.std.proofs.Common.{◌≡◌, ℕ, true, cond, List, [], ◌∷◌, Option, Some, None, refl, sym, ap, ◌∙◌}
use Rattle.std.specs.FinMap.{get}
use Rattle.abi_base.specs.declared.errno.Errno.TheVariants.{Badf, Fbig}
use Rattle.abi_types.specs.declared.node.Node.{Node}
use Rattle.abi_types.specs.declared.open_kind.OpenKind.{OpenKind}
use Rattle.abi_types.specs.declared.open_kind.OpenKind.TheVariants.{File, Directory, End, Terminal, Process}
use Rattle.abi_types.specs.declared.reply.Answer.TheVariants as answer
use Rattle.tree_model.specs.Changes.{bytes_in, bytes_of, is_file, with_bytes}
use Rattle.tree_model.specs.Files.{after_write, is_beyond, read_bytes}
use Rattle.kernel_model.specs.Families.FileBytes.{fd_pread, fd_pwrite, overwritten, read_at, write_at, write_bytes, written_count}
use Rattle.kernel_model.specs.Families.FileChanges.{changing, modified, retimed}
use Rattle.kernel_model.specs.Families.FileLooks.{looking}
use Rattle.kernel_model.specs.Outcome.{Outcome, replies}
use Rattle.kernel_model.specs.Proper.{IsProper}
use Rattle.kernel_model.specs.Reply.{content, refused, success}
use Rattle.kernel_model.specs.State.{Tree}
use Rattle.kernel_model.specs.Families.TreeUpdates.{node_update}
use Rattle.kernel_model.proofs.Branches.{IsSeen}
use Rattle.kernel_model.proofs.FileChanges.{IsChange, badf_among_changes, changing_keeps_well, either_change, fbig_among_changes, new_nodes, refuses, succeeds}
use Rattle.kernel_model.proofs.FileLooks.{Answers, answers_refused, answers_done, looking_keeps_well}
use Rattle.kernel_model.proofs.FileMeanings.{KeepsWell, file_is_proper}
use Rattle.kernel_model.proofs.Reworks.{Alike, Reworks, reworks_twice, retimed_alike, retimed_reworks, with_bytes_alike, with_bytes_reworks}

-- ---- what writing makes of a file

pub overwritten_reworks : (t : Tree) (n now at : ℕ) (bytes : List ℕ) → is_file t n ≡ true → Reworks t (overwritten t n now at bytes) n
overwritten_reworks t n now at bytes file =
    let other : Tree = with_bytes t n (after_write (bytes_of t n) at bytes) in
    reworks_twice t other (overwritten t n now at bytes) n (with_bytes_reworks t n (after_write (bytes_of t n) at bytes) file)
    (retimed_reworks other n (modified now))

-- the tree once a file with the old bytes is written to
abbrev overwritten_by : Tree → ℕ → ℕ → ℕ → List ℕ → List ℕ → Tree
overwritten_by t n now at bytes old = retimed (with_bytes t n (after_write old at bytes)) n (modified now)

pub overwritten_alike : (t u : Tree) (n now at : ℕ) (bytes : List ℕ) → Alike t u n → Alike (overwritten t n now at bytes) (overwritten u n now at bytes) n
overwritten_alike t u n now at bytes same =
    retimed_alike (with_bytes t n (after_write (bytes_of t n) at bytes)) (with_bytes u n (after_write (bytes_of t n) at bytes)) n (modified now)
    (with_bytes_alike t u n (after_write (bytes_of t n) at bytes) same)
    ∙ ap (λ o. get (overwritten_by u n now at bytes (bytes_in o)).nodes n) same

-- ---- fd_pwrite

module _ (node now at : ℕ) where
  -- the outcome of a write after which the file's node is this one
  abbrev written_node : List ℕ → Option Node → Outcome
  written_node bytes new = record { answer = answer.Reply (success (written_count at bytes) 0); updates = node_update node new }

  write_bytes_alike : (t u : Tree) (bytes : List ℕ) → Alike t u node → write_bytes u node now at bytes ≡ write_bytes t node now at bytes
  write_bytes_alike t u [] same = refl
  write_bytes_alike t u (b ∷ bytes) same =
      ap (λ new. cond (is_beyond at (b ∷ bytes)) (replies (refused Fbig)) (written_node (b ∷ bytes) new))
      (sym (overwritten_alike t u node now at (b ∷ bytes) same))

write_alike : (bytes : List ℕ) (at now : ℕ) (t u : Tree) (kind : Option OpenKind) → IsSeen t u kind
    → write_at bytes at now u kind ≡ write_at bytes at now t kind
write_alike bytes at now t u None seen = refl
write_alike bytes at now t u (Some (File node offset flags)) seen = write_bytes_alike node now at t u bytes seen
write_alike bytes at now t u (Some (Directory node flags)) seen = refl
write_alike bytes at now t u (Some (End reads writes flags form)) seen = refl
write_alike bytes at now t u (Some (Terminal which flags)) seen = refl
write_alike bytes at now t u (Some (Process p object)) seen = refl

write_bytes_is : (t : Tree) (node offset flags now at : ℕ) (bytes : List ℕ) → IsChange t (Some (File node offset flags)) (write_bytes t node now at bytes)
write_bytes_is t node offset flags now at [] = succeeds t (Some (File node offset flags)) 0
write_bytes_is t node offset flags now at (b ∷ bytes) =
    either_change (is_beyond at (b ∷ bytes)) t (Some (File node offset flags)) Fbig _ fbig_among_changes
    (new_nodes t (Some (File node offset flags)) node (overwritten t node now at (b ∷ bytes)) refl
    (λ file. overwritten_reworks t node now at (b ∷ bytes) file) (written_count at (b ∷ bytes)))

write_is : (bytes : List ℕ) (at now : ℕ) (t : Tree) (kind : Option OpenKind) → IsChange t kind (write_at bytes at now t kind)
write_is bytes at now t None = refuses t None Badf badf_among_changes
write_is bytes at now t (Some (File node offset flags)) = write_bytes_is t node offset flags now at bytes
write_is bytes at now t (Some (Directory node flags)) = refuses t (Some (Directory node flags)) Badf badf_among_changes
write_is bytes at now t (Some (End reads writes flags form)) = refuses t (Some (End reads writes flags form)) Badf badf_among_changes
write_is bytes at now t (Some (Terminal which flags)) = refuses t (Some (Terminal which flags)) Badf badf_among_changes
write_is bytes at now t (Some (Process p object)) = refuses t (Some (Process p object)) Badf badf_among_changes

pub write_keeps_well : (bytes : List ℕ) (at : ℕ) → KeepsWell (changing (write_at bytes at))
write_keeps_well bytes at = changing_keeps_well (write_at bytes at) (write_alike bytes at) (write_is bytes at)

pub fd_pwrite_is_proper : (fd : ℕ) (bytes : List ℕ) (at : ℕ) → IsProper (fd_pwrite fd bytes at)
fd_pwrite_is_proper fd bytes at = file_is_proper (changing (write_at bytes at)) (write_keeps_well bytes at) _

-- ---- fd_pread

read_alike : (n at : ℕ) (t u : Tree) (kind : Option OpenKind) → IsSeen t u kind → read_at n at u kind ≡ read_at n at t kind
read_alike n at t u None seen = refl
read_alike n at t u (Some (File node offset flags)) seen = ap (λ o. replies (content (read_bytes (bytes_in o) at n))) (sym seen)
read_alike n at t u (Some (Directory node flags)) seen = refl
read_alike n at t u (Some (End reads writes flags form)) seen = refl
read_alike n at t u (Some (Terminal which flags)) seen = refl
read_alike n at t u (Some (Process p object)) seen = refl

read_answers : (n at : ℕ) (t : Tree) (kind : Option OpenKind) → Answers (Badf ∷ []) (read_at n at t kind)
read_answers n at t None = answers_refused (Badf ∷ []) Badf ([], [], refl)
read_answers n at t (Some (File node offset flags)) = answers_done (Badf ∷ []) _ refl refl
read_answers n at t (Some (Directory node flags)) = answers_refused (Badf ∷ []) Badf ([], [], refl)
read_answers n at t (Some (End reads writes flags form)) = answers_refused (Badf ∷ []) Badf ([], [], refl)
read_answers n at t (Some (Terminal which flags)) = answers_refused (Badf ∷ []) Badf ([], [], refl)
read_answers n at t (Some (Process p object)) = answers_refused (Badf ∷ []) Badf ([], [], refl)

pub read_keeps_well : (n at : ℕ) → KeepsWell (looking (read_at n at))
read_keeps_well n at = looking_keeps_well (read_at n at) (read_alike n at) (read_answers n at)

pub fd_pread_is_proper : (fd n at : ℕ) → IsProper (fd_pread fd n at)
fd_pread_is_proper fd n at = file_is_proper (looking (read_at n at)) (read_keeps_well n at) _
