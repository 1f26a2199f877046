-- Calls that change a file's size, or the times of a file, a directory or a symlink.
use Rattle.std.specs.Prelude.{ℕ, ◌+◌, ◌==◌, max, bit_and, nat_lt, Bool, true, false, not, List, [], ◌∷◌, length, Option, None, Some, if◌then◌else◌}
use Rattle.std.specs.FinMap.{get}
use Rattle.abi_base.specs.declared.errno.Errno.TheVariants.{Badf, Fbig}
use Rattle.abi_base.specs.declared.rights.TheConstants.Rights.{FILE_ALLOCATE, FILE_STAT_FPUT_SIZE, FILE_STAT_FPUT_TIMES, FILE_STAT_PUT_TIMES}
use Rattle.abi_base.specs.declared.flags.TheConstants.{FILESTAT_ATIM, FILESTAT_ATIM_NOW, FILESTAT_MTIM, FILESTAT_MTIM_NOW, FILESTAT_SIZE, FILESTAT_TIMES}
use Rattle.abi_structures.specs.declared.structures.FileStat.{FileStat}
use Rattle.abi_types.specs.declared.call.Lookup.{Lookup}
use Rattle.abi_types.specs.declared.node.Node.{Node}
use Rattle.abi_types.specs.declared.node.Times.{Times}
use Rattle.abi_types.specs.declared.open_kind.OpenKind.{OpenKind}
use Rattle.abi_types.specs.declared.open_kind.OpenKind.TheVariants.{File, Directory}
use Rattle.abi_types.specs.declared.reply.Answer.TheVariants as answer
use Rattle.path_lookup.specs.declared.ends.WalkMode.{WalkMode}
use Rattle.tree_model.specs.Changes.{bytes_of, with_bytes, with_times}
use Rattle.tree_model.specs.Files.{resized}
use Rattle.tree_model.specs.declared.limits.TheConstants.{MOST_FILE_BYTES}
use Rattle.kernel_model.specs.Families.FileMeaning.{FileMeaning, on_open}
use Rattle.kernel_model.specs.Families.FilePaths.{by_path, found_part, lookup_mode, walked}
use Rattle.kernel_model.specs.Meaning.{Meaning}
use Rattle.kernel_model.specs.Outcome.{Outcome, replies}
use Rattle.kernel_model.specs.Reply.{refused, success}
use Rattle.kernel_model.specs.Rows.{base_row, both, where_set}
use Rattle.kernel_model.specs.State.{Part, Tree, at_node, set_node}

-- ---- changes of one node of a tree

-- the node's times are what this makes of them
abbrev pub retimed_in : Tree → ℕ → (Times → Times) → Option Node → Tree
retimed_in t n new None = t
retimed_in t n new (Some node) = with_times t n (new node.times)

abbrev pub retimed : Tree → ℕ → (Times → Times) → Tree
retimed t n new = retimed_in t n new (get t.nodes n)

-- the times of a file whose bytes have changed now
abbrev pub modified : ℕ → Times → Times
modified now times = record times { mtim = now; ctim = now }

-- The file has this size: its bytes are cut, or zeros come behind them. A size that it has already changes nothing.
abbrev pub sized : Tree → ℕ → ℕ → ℕ → Tree
sized t n now size =
    if length (bytes_of t n) == size then t else retimed (with_bytes t n (resized (bytes_of t n) size)) n (modified now)

-- the file has at least this size
abbrev pub allocated : Tree → ℕ → ℕ → ℕ → Tree
allocated t n now size = sized t n now (max (length (bytes_of t n)) size)

-- a time by the flags: with the first it is given, with the second it is now, and else it stays
abbrev pub chosen : ℕ → ℕ → ℕ → ℕ → ℕ → ℕ → ℕ
chosen flags give set_now given now old =
    if not (bit_and flags give == 0) then given else (if not (bit_and flags set_now == 0) then now else old)

-- the times by the flags: ATIM, ATIM_NOW, MTIM and MTIM_NOW
abbrev pub times_put : ℕ → FileStat → ℕ → Times → Times
times_put flags stat now times = record {
  atim = chosen flags FILESTAT_ATIM FILESTAT_ATIM_NOW stat.atim now times.atim;
  mtim = chosen flags FILESTAT_MTIM FILESTAT_MTIM_NOW stat.mtim now times.mtim;
  ctim = now;
}

-- the times are set, where some of these flags is
abbrev pub put_times : ℕ → FileStat → ℕ → Tree → ℕ → Tree
put_times flags stat now t n = if bit_and flags FILESTAT_TIMES == 0 then t else retimed t n (times_put flags stat now)

-- whether the flags have SIZE
abbrev pub has_size : ℕ → Bool
has_size flags = not (bit_and flags FILESTAT_SIZE == 0)

-- the size is set, where that flag is
abbrev pub put_size : ℕ → FileStat → ℕ → Tree → ℕ → Tree
put_size flags stat now t n = if has_size flags then sized t n now stat.size else t

-- the size first, and then the times
abbrev pub put_stat : ℕ → FileStat → ℕ → Tree → ℕ → Tree
put_stat flags stat now t n = put_times flags stat now (put_size flags stat now t n) n

-- ---- what a call makes of a node

-- the call is done, and the node of this number is this one
abbrev pub becomes : ℕ → Option Node → Outcome
becomes n None = replies (refused Badf)
becomes n (Some node) = record { answer = answer.Reply (success 0 0); updates = set_node n node ∷ [] }

-- the node is what it is in this tree
abbrev pub becomes_in : ℕ → Tree → Outcome
becomes_in n t = becomes n (get t.nodes n)

-- a file would be too large
abbrev pub unless_large : ℕ → Outcome → Outcome
unless_large size outcome = if nat_lt MOST_FILE_BYTES size then replies (refused Fbig) else outcome

-- the node that an open is of
abbrev pub node_part : Tree → Option OpenKind → List Part
node_part t (Some (File node offset flags)) = at_node node ∷ []
node_part t (Some (Directory node flags)) = at_node node ∷ []
node_part t _ = []

-- the meaning of a call that changes an open's node so
abbrev pub changing : (ℕ → Tree → Option OpenKind → Outcome) → FileMeaning
changing effect = record {
  effect = effect;
  outside = λ t kind. None;
  touched = node_part;
  errors = Badf ∷ Fbig ∷ [];
  takes_memory = true;
}

-- ---- file_allocate

abbrev pub allocate : ℕ → ℕ → Tree → Option OpenKind → Outcome
allocate size now t (Some (File node offset flags)) = unless_large size (becomes_in node (allocated t node now size))
allocate size now t _ = replies (refused Badf)

abbrev pub file_allocate : ℕ → ℕ → ℕ → Meaning
file_allocate fd offset length = on_open (base_row fd FILE_ALLOCATE) (changing (allocate (offset + length)))

-- ---- file_stat_fput

-- the size that is asked
abbrev pub asked_size : ℕ → FileStat → ℕ
asked_size flags stat = if has_size flags then stat.size else 0

-- a directory has no size, and no descriptor of it has the right to set one
abbrev pub put_open : ℕ → FileStat → ℕ → Tree → Option OpenKind → Outcome
put_open flags stat now t (Some (File node offset open_flags)) =
    unless_large (asked_size flags stat) (becomes_in node (put_stat flags stat now t node))
put_open flags stat now t (Some (Directory node open_flags)) =
    if has_size flags then replies (refused Badf) else becomes_in node (put_times flags stat now t node)
put_open flags stat now t _ = replies (refused Badf)

-- the size is set by FILE_STAT_FPUT_SIZE, a time by FILE_STAT_FPUT_TIMES
abbrev pub file_stat_fput : ℕ → FileStat → ℕ → Meaning
file_stat_fput fd stat flags =
    on_open (base_row fd (both (where_set flags FILESTAT_SIZE FILE_STAT_FPUT_SIZE) (where_set flags FILESTAT_TIMES FILE_STAT_FPUT_TIMES)))
    (changing (put_open flags stat))

-- ---- file_stat_put

abbrev pub put_found : ℕ → FileStat → ℕ → Tree → ℕ → Outcome
put_found flags stat now t n = becomes_in n (put_times flags stat now t n)

abbrev pub put_by_path : WalkMode → List ℕ → ℕ → FileStat → FileMeaning
put_by_path mode path flags stat = record (by_path mode path (put_found flags stat)) {
  touched = λ t kind. found_part (walked t mode path kind);
  takes_memory = false;
}

abbrev pub file_stat_put : Lookup → List ℕ → FileStat → ℕ → Meaning
file_stat_put lookup path stat flags =
    on_open (base_row lookup.fd FILE_STAT_PUT_TIMES) (put_by_path (lookup_mode lookup.flags) path flags stat)
