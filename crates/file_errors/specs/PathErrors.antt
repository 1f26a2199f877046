-- The errors of a path, and of the calls that look at the node where a path ends: the statement that is the contract of a function of src/laws.rt.
use Rattle.std.specs.Prelude.{◌≡◌, ℕ, ◌<◌, true, false, List, length, Option, None, Some, Ok, Err}
use Rattle.std.specs.FinMap.{get}
use Rattle.std.specs.Str.{is_utf8}
use Rattle.abi_base.specs.Rights.{Has}
use Rattle.abi_base.specs.declared.errno.Errno.TheVariants.{Badf, Ilseq, Inval, Loop, NameTooLong, Noent, Notdir}
use Rattle.abi_structures.specs.declared.structures.FileStat.{FileStat}
use Rattle.abi_types.specs.declared.call.Call.TheVariants.{FileReadlink, FileStatGet, FileStatPut}
use Rattle.abi_types.specs.declared.call.Lookup.{Lookup}
use Rattle.abi_types.specs.declared.node.Node.{Node}
use Rattle.abi_types.specs.declared.node.NodeKind.TheVariants as kind
use Rattle.abi_types.specs.declared.open_kind.OpenKind.{OpenKind}
use Rattle.abi_types.specs.declared.open_kind.OpenKind.TheVariants.{Directory}
use Rattle.maps.specs.Closure.{member}
use Rattle.path_lookup.specs.Walk.{WalkEnd, walk_of}
use Rattle.path_lookup.specs.declared.ends.End.{End}
use Rattle.path_lookup.specs.declared.ends.End.TheVariants as end
use Rattle.path_lookup.specs.declared.ends.WalkFault.TheVariants as fault
use Rattle.path_lookup.specs.declared.ends.WalkMode.{WalkMode}
use Rattle.path_lookup.specs.declared.ends.WalkMode.TheVariants.{Follow, NoFollow, Parent}
use Rattle.tree_model.specs.Finds.{finds}
use Rattle.kernel_model.specs.State.{State, Tree, tree_of}
use Rattle.file_errors.specs.FileErrors.{node_rows}
use Rattle.file_errors.specs.Tables.{IsListedBy, Rows, leads_out, refuses, row, succeeds}

-- ---- the errors of a path

-- a walk goes on at its end, or has none for a fault
abbrev pub walk_rows : (End → Rows) → WalkEnd → Rows
walk_rows goes (Ok end) = goes end
walk_rows goes (Err fault.NotDir) = refuses Notdir
walk_rows goes (Err fault.NoEntry) = refuses Noent
walk_rows goes (Err fault.Loop) = refuses Loop
walk_rows goes (Err fault.TooLong) = refuses NameTooLong
walk_rows goes (Err (fault.Outside component)) = leads_out component

-- why bytes are no path: there are over 1024, they are no UTF-8, or one is zero
abbrev pub byte_rows : List ℕ → Rows → Rows
byte_rows path others = row (1024 < length path) NameTooLong (row (is_utf8 path ≡ false) Ilseq (row (member 0 path ≡ true) Inval others))

-- a path goes on where its walk ends, from the directory that an open is of; no other open has the right that a path needs
abbrev pub path_rows : Tree → WalkMode → List ℕ → (End → Rows) → Option OpenKind → Rows
path_rows t mode path goes (Some (Directory start flags)) = byte_rows path (walk_rows goes (walk_of (finds t) mode start path))
path_rows t mode path goes other = refuses Badf

-- NOENT: nothing stands at the end; else it goes on at the node
abbrev pub found_rows : (ℕ → Rows) → End → Rows
found_rows goes (end.Found n) = goes n
found_rows goes (end.Absent d from len) = refuses Noent
found_rows goes (end.Last d from len) = refuses Noent

-- a symlink at the end is followed with SYMLINK_FOLLOW (bit 0)
abbrev pub IsMode : ℕ → WalkMode → Type 0
IsMode flags Follow = Has flags 0
IsMode flags NoFollow = ¬ Has flags 0
IsMode flags Parent = ⊥

-- ---- the calls

abbrev pub IsLink : State → ℕ → Type 0
IsLink S n = (node : Node) × (get S.nodes n ≡ Some node) × (text : List ℕ) × (node.kind ≡ kind.Link text)

-- INVAL: what stands there is no symlink
abbrev pub readlink_rows : State → ℕ → Rows
readlink_rows S n = row (get S.nodes n ≡ None) Badf (row (¬ IsLink S n) Inval succeeds)

pub record PathErrorsAreListed : Type 0 where
  pub file_stat_get : (lookup : Lookup) (path : List ℕ) (mode : WalkMode) → IsMode lookup.flags mode
      → IsListedBy (FileStatGet lookup path) lookup.fd (λ S who table. path_rows (tree_of S) mode path (found_rows (node_rows S)))
  pub file_stat_put : (lookup : Lookup) (path : List ℕ) (stat : FileStat) (flags : ℕ) (mode : WalkMode) → IsMode lookup.flags mode
      → IsListedBy (FileStatPut lookup path stat flags) lookup.fd (λ S who table. path_rows (tree_of S) mode path (found_rows (node_rows S)))
  pub file_readlink : (fd : ℕ) (path : List ℕ) (length : ℕ)
      → IsListedBy (FileReadlink fd path length) fd (λ S who table. path_rows (tree_of S) NoFollow path (found_rows (readlink_rows S)))
