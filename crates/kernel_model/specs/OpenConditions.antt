-- What file_open comes to where its path ends, in other words than its definition: a line for each case, with all of its
-- conditions. The flags of opening are CREAT, DIRECTORY, EXCL and TRUNC.
use Rattle.std.specs.Prelude.{◌≡◌, ◌↔◌, ◌⊎◌, ℕ, List, [], ◌∷◌, None, Some}
use Rattle.std.specs.FinMap.{get}
use Rattle.abi_base.specs.Rights.{Has}
use Rattle.abi_base.specs.declared.errno.Errno.TheVariants.{Badf, Exist, Isdir, Loop, Noent, Notdir}
use Rattle.abi_types.specs.declared.node.Node.{Node}
use Rattle.abi_types.specs.declared.node.NodeKind.{NodeKind}
use Rattle.abi_types.specs.declared.node.NodeKind.TheVariants as kind
use Rattle.abi_types.specs.declared.open_kind.OpenKind.TheVariants.{File, Directory}
use Rattle.path_lookup.specs.declared.ends.End.{End}
use Rattle.path_lookup.specs.declared.ends.End.TheVariants as end
use Rattle.tree_model.specs.Changes.{first_fault, make_faults}
use Rattle.tree_model.specs.declared.fault.TreeFault.{TreeFault}
use Rattle.kernel_model.specs.Families.FileChanges.{sized}
use Rattle.kernel_model.specs.Families.LastNames.{name_at}
use Rattle.kernel_model.specs.Families.NameMaking.{errno_of, with_node}
use Rattle.kernel_model.specs.Families.Opening.{Opened, NotOpened, Opens, open_end}
use Rattle.kernel_model.specs.Families.TreeUpdates.{no_change}
use Rattle.kernel_model.specs.State.{Tree}

-- the flags, by their bits
abbrev pub HasCreat : ℕ → Type 0
HasCreat oflags = Has oflags 0

abbrev pub HasDirectory : ℕ → Type 0
HasDirectory oflags = Has oflags 1

abbrev pub HasExcl : ℕ → Type 0
HasExcl oflags = Has oflags 2

abbrev pub HasTrunc : ℕ → Type 0
HasTrunc oflags = Has oflags 3

-- a new file is asked for, and nothing else will do
abbrev pub AsksNew : ℕ → Type 0
AsksNew oflags = HasCreat oflags × HasExcl oflags

-- the node is there, and is of this kind
abbrev pub IsOfKind : Tree → ℕ → NodeKind → Type 0
IsOfKind t n kind = (node : Node) × (get t.nodes n ≡ Some node) × (node.kind ≡ kind)

-- What a path's end comes to that is opened with these flags, at this time, where a new node has this number.
pub data ComesTo (oflags flags : ℕ) (path : List ℕ) (now new : ℕ) (t : Tree) : End → Opened → Type 0 where
  -- EXIST: something stands there, and a new file is asked for
  exists : (n : ℕ) (kind : NodeKind) → IsOfKind t n kind → AsksNew oflags → ComesTo oflags flags path now new t (end.Found n) (NotOpened Exist)
  -- LOOP: a symlink stands there that the walk did not follow
  symlink : (n : ℕ) (text : List ℕ) → IsOfKind t n (kind.Link text) → ¬ AsksNew oflags
      → ComesTo oflags flags path now new t (end.Found n) (NotOpened Loop)
  -- ISDIR: a directory stands there, which is neither made nor cut to no bytes
  directory_changed : (n : ℕ) → IsOfKind t n kind.Directory → ¬ AsksNew oflags → HasCreat oflags ⊎ HasTrunc oflags
      → ComesTo oflags flags path now new t (end.Found n) (NotOpened Isdir)
  -- NOTDIR: a file stands there, and a directory is asked for
  file_for_directory : (n : ℕ) (bytes : List ℕ) → IsOfKind t n (kind.File bytes) → ¬ AsksNew oflags → HasDirectory oflags
      → ComesTo oflags flags path now new t (end.Found n) (NotOpened Notdir)
  -- NOENT: nothing stands there, and no file is to be made
  absent : (d from len : ℕ) → ¬ HasCreat oflags → ComesTo oflags flags path now new t (end.Absent d from len) (NotOpened Noent)
  -- the fault of the tree for which no file can be made there
  not_made : (d from len : ℕ) (fault : TreeFault) → HasCreat oflags → first_fault (make_faults t d (name_at path from len)) ≡ Some fault
      → ComesTo oflags flags path now new t (end.Absent d from len) (NotOpened (errno_of fault))
  -- the directory is opened, and nothing changes
  directory_opened : (n : ℕ) → IsOfKind t n kind.Directory → ¬ HasCreat oflags → ¬ HasTrunc oflags
      → ComesTo oflags flags path now new t (end.Found n) (Opens (Directory n flags) (no_change t) 0)
  -- the file is opened at its first byte, as it is
  file_opened : (n : ℕ) (bytes : List ℕ) → IsOfKind t n (kind.File bytes) → ¬ AsksNew oflags → ¬ HasDirectory oflags → ¬ HasTrunc oflags
      → ComesTo oflags flags path now new t (end.Found n) (Opens (File n 0 flags) (no_change t) 0)
  -- the file is opened, and has no bytes any more
  file_cut : (n : ℕ) (bytes : List ℕ) → IsOfKind t n (kind.File bytes) → ¬ AsksNew oflags → ¬ HasDirectory oflags → HasTrunc oflags
      → ComesTo oflags flags path now new t (end.Found n)
      (Opens (File n 0 flags) (record { tree = sized t n now 0; nodes = n ∷ []; directories = [] }) 0)
  -- an empty file is made, and opened
  file_made : (d from len : ℕ) → HasCreat oflags → first_fault (make_faults t d (name_at path from len)) ≡ None
      → ComesTo oflags flags path now new t (end.Absent d from len)
      (Opens (File new 0 flags) (with_node (kind.File []) now new t d (name_at path from len)) 1)
  -- no node has the number that the walk ends at, as in no tree of a valid state
  missing : (n : ℕ) → get t.nodes n ≡ None → ComesTo oflags flags path now new t (end.Found n) (NotOpened Badf)
  -- the last component is left, as no mode of file_open leaves it
  left : (d from len : ℕ) → ComesTo oflags flags path now new t (end.Last d from len) (NotOpened Noent)

-- What is opened is as listed, and nothing else is listed.
abbrev pub OpenIsListed : Type 0
OpenIsListed =
    (oflags flags : ℕ) (path : List ℕ) (now new : ℕ) (t : Tree) (end : End) (o : Opened)
    → ComesTo oflags flags path now new t end o ↔ (o ≡ open_end oflags flags path now new t end)
