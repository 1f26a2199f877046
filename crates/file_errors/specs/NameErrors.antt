-- The errors of the calls that make names, move them or take them away: the statement that is the contract of a function of src/laws.rt.
use Rattle.std.specs.Prelude.{◌≡◌, ◌⊎◌, ℕ, ◌+◌, ◌≤◌, ◌^◌, true, false, List, [], ◌∷◌, take, drop, Option, None, Some}
use Rattle.std.specs.FinMap.{get}
use Rattle.abi_base.specs.Rights.{Has}
use Rattle.abi_base.specs.declared.errno.Errno.TheVariants.{Again, Exist, Inval, Isdir, Mlink, Noent, Notdir, Notempty, Perm}
use Rattle.abi_types.specs.declared.call.Call.TheVariants.{FileCreate, FileLink, FileRename, FileSymlink, FileUnlink}
use Rattle.abi_types.specs.declared.call.Lookup.{Lookup}
use Rattle.abi_types.specs.declared.open_kind.OpenKind.{OpenKind}
use Rattle.maps.specs.Closure.{member}
use Rattle.path_lookup.specs.declared.ends.End.{End}
use Rattle.path_lookup.specs.declared.ends.End.TheVariants as end
use Rattle.path_lookup.specs.declared.ends.WalkMode.{WalkMode}
use Rattle.path_lookup.specs.declared.ends.WalkMode.TheVariants.{Parent}
use Rattle.tree_model.specs.Changes.{has_names, is_removed}
use Rattle.tree_model.specs.Tree.{HasName, below, is_directory, links_of}
use Rattle.kernel_model.specs.State.{ProcessState, Tree, tree_of}
use Rattle.file_errors.specs.PathErrors.{IsMode, byte_rows, found_rows, path_rows}
use Rattle.file_errors.specs.Tables.{IsListedBy, IsListedByTwo, Rows, refuses, row, succeeds}

-- ---- the last component of a path

-- nothing, which a slash at the end adds, `.` (46) or `..`
abbrev pub IsDots : List ℕ → Type 0
IsDots name = (name ≡ []) ⊎ (name ≡ 46 ∷ []) ⊎ (name ≡ 46 ∷ 46 ∷ [])

-- INVAL: it is no name; else it goes on with the directory and the name. A walk that leaves the last component has no other end.
abbrev pub last_rows : List ℕ → (ℕ → List ℕ → Rows) → End → Rows
last_rows path goes (end.Last d from len) = row (IsDots (take len (drop from path))) Inval (goes d (take len (drop from path)))
last_rows path goes (end.Absent d from len) = refuses Noent
last_rows path goes (end.Found n) = refuses Inval

-- the last component of the path, from the directory that an open is of
abbrev pub named_rows : Tree → List ℕ → (ℕ → List ℕ → Rows) → Option OpenKind → Rows
named_rows t path goes = path_rows t Parent path (last_rows path goes)

-- ---- making a name

-- AGAIN: the process has no number left for so many objects
abbrev pub number_rows : ℕ → ℕ → Option ProcessState → Rows
number_rows p count None = refuses Again
number_rows p count (Some own) = row (0xffffffff ≤ p) Again (row (2 ^ 32 ≤ own.counts.objects + count) Again succeeds)

-- where a name is made: no node has the directory's number, or another one than a directory; the directory was removed
abbrev pub place_rows : Tree → ℕ → Rows → Rows
place_rows t d others = row (get t.nodes d ≡ None) Noent (row (is_directory t d ≡ false) Notdir (row (is_removed t d ≡ true) Noent others))

-- the directory has such a name
abbrev pub IsTaken : Tree → ℕ → List ℕ → Type 0
IsTaken t d name = (n : ℕ) × HasName t d name n

-- EXIST: the name is there
abbrev pub make_rows : Tree → ℕ → List ℕ → Rows → Rows
make_rows t d name others = place_rows t d (row (IsTaken t d name) Exist others)

-- one more name of a node: it is a directory, the name is there, or it has 65,535 names
abbrev pub link_rows : Tree → ℕ → ℕ → List ℕ → Rows
link_rows t n d name =
    place_rows t d
    (row (get t.nodes n ≡ None) Noent
    (row (is_directory t n ≡ true) Perm
    (row (IsTaken t d name) Exist
    (row (65535 ≤ links_of t n) Mlink
    succeeds))))

-- ---- taking a name away

-- the name is of a node that isn't there, as no name of a tree
abbrev pub IsLost : Tree → ℕ → List ℕ → Type 0
IsLost t d name = (n : ℕ) × HasName t d name n × (get t.nodes n ≡ None)

-- there are names below the name's node; it is a directory, or none
abbrev pub IsOfFull : Tree → ℕ → List ℕ → Type 0
IsOfFull t d name = (n : ℕ) × HasName t d name n × (has_names t n ≡ true)

abbrev pub IsOfDirectory : Tree → ℕ → List ℕ → Type 0
IsOfDirectory t d name = (n : ℕ) × HasName t d name n × (is_directory t n ≡ true)

abbrev pub IsOfOther : Tree → ℕ → List ℕ → Type 0
IsOfOther t d name = (n : ℕ) × HasName t d name n × (is_directory t n ≡ false)

-- REMOVEDIR is bit 0
abbrev pub unlink_rows : ℕ → Tree → ℕ → List ℕ → Rows
unlink_rows flags t d name =
    row (IsLost t d name) Noent
    (row (get t.nodes d ≡ None) Noent
    (row (is_directory t d ≡ false) Notdir
    (row (¬ IsTaken t d name) Noent
    (row (IsOfFull t d name × (¬ Has flags 0)) Perm
    (row (IsOfFull t d name) Notempty
    (row (IsOfDirectory t d name × (¬ Has flags 0)) Perm
    (row (IsOfOther t d name × Has flags 0) Notdir
    succeeds)))))))

-- ---- moving a name

-- both are names of one node
abbrev pub IsSame : Tree → ℕ → List ℕ → ℕ → List ℕ → Type 0
IsSame t from name to new = (n : ℕ) × HasName t from name n × HasName t to new n

-- the directory is the name's node, or stands below it
abbrev pub IsWithin : Tree → ℕ → List ℕ → ℕ → Type 0
IsWithin t from name to = (n : ℕ) × HasName t from name n × (member to (below t n) ≡ true)

-- Of two names of one node nothing is refused. Else INVAL: the directory would be in itself; NOTDIR, ISDIR: one of the two is a directory, and the other one is
-- there and is none; NOTEMPTY: a directory that has names would be replaced.
abbrev pub rename_rows : Tree → ℕ → List ℕ → ℕ → List ℕ → Rows
rename_rows t from name to new =
    row (IsLost t from name) Noent
    (row (IsLost t to new) Noent
    (row (get t.nodes from ≡ None) Noent
    (row (is_directory t from ≡ false) Notdir
    (row (¬ IsTaken t from name) Noent
    (place_rows t to
    (row ((¬ IsSame t from name to new) × IsWithin t from name to) Inval
    (row ((¬ IsSame t from name to new) × IsOfDirectory t from name × IsOfOther t to new) Notdir
    (row ((¬ IsSame t from name to new) × IsOfOther t from name × IsOfDirectory t to new) Isdir
    (row ((¬ IsSame t from name to new) × IsOfFull t to new) Notempty
    succeeds)))))))))

-- ---- the law

pub record NameErrorsAreListed : Type 0 where
  pub file_create : (fd : ℕ) (path : List ℕ) (type : ℕ)
      → IsListedBy (FileCreate fd path type) fd
      (λ S who table. named_rows (tree_of S) path (λ d name. make_rows (tree_of S) d name (number_rows who.pid 1 (get S.processes who.pid))))
  -- the text is looked at first; an empty one is NOENT
  pub file_symlink : (text : List ℕ) (fd : ℕ) (path : List ℕ)
      → IsListedBy (FileSymlink text fd path) fd
      (λ S who table kind. byte_rows text (row (text ≡ []) Noent
      (named_rows (tree_of S) path (λ d name. make_rows (tree_of S) d name (number_rows who.pid 1 (get S.processes who.pid))) kind)))
  pub file_unlink : (fd : ℕ) (path : List ℕ) (flags : ℕ)
      → IsListedBy (FileUnlink fd path flags) fd (λ S who table. named_rows (tree_of S) path (unlink_rows flags (tree_of S)))
  -- of two paths the first is done with before the second is looked at
  pub file_link : (lookup : Lookup) (path : List ℕ) (new_fd : ℕ) (new_path : List ℕ) (mode : WalkMode) → IsMode lookup.flags mode
      → IsListedByTwo (FileLink lookup path new_fd new_path) lookup.fd new_fd
      (λ S kind other. path_rows (tree_of S) mode path (found_rows (λ n. named_rows (tree_of S) new_path (link_rows (tree_of S) n) other)) kind)
  pub file_rename : (fd : ℕ) (path : List ℕ) (new_fd : ℕ) (new_path : List ℕ)
      → IsListedByTwo (FileRename fd path new_fd new_path) fd new_fd
      (λ S kind other. named_rows (tree_of S) path (λ from name. named_rows (tree_of S) new_path (rename_rows (tree_of S) from name) other) kind)
