-- Which file an open is of, and that it stays so: the statements that are the contracts of the functions of src/open_laws.rt.
use Rattle.std.specs.Prelude.{◌≡◌, ◌⊎◌, ℕ, true, List, Some, slice_get}
use Rattle.std.specs.FinMap.{get}
use Rattle.abi_base.specs.declared.grant.Grant.{Grant}
use Rattle.abi_base.specs.declared.grant.GrantTarget.{GrantTarget}
use Rattle.abi_base.specs.declared.grant.GrantTarget.TheVariants as target
use Rattle.abi_types.specs.declared.call.Call.{Call}
use Rattle.abi_types.specs.declared.constants.Constants.{Constants}
use Rattle.abi_types.specs.declared.descriptor.Descriptor.{Descriptor}
use Rattle.abi_types.specs.declared.open_kind.OpenKind.{OpenKind}
use Rattle.abi_types.specs.declared.open_kind.OpenKind.TheVariants.{File, Directory, End, Terminal, Process}
use Rattle.abi_types.specs.declared.reply.Answer.{Answer}
use Rattle.abi_types.specs.declared.status.Status.{Status}
use Rattle.abi_types.specs.declared.who.Who.{Who}
use Rattle.maps.specs.Closure.{member}
use Rattle.path_lookup.specs.declared.ends.WalkMode.{WalkMode}
use Rattle.tree_model.specs.Changes.{is_file}
use Rattle.tree_model.specs.Grants.{MayBegin}
use Rattle.tree_model.specs.Tree.{HasName, below, is_directory}
use Rattle.kernel_model.specs.Families.FilePaths.{walked}
use Rattle.kernel_model.specs.Families.Opening.{Opened, NotOpened, OpenedOutside, Opens, open_walked}
use Rattle.kernel_model.specs.Families.TreeUpdates.{Change}
use Rattle.kernel_model.specs.Start.{start_state}
use Rattle.kernel_model.specs.State.{State, Table, Tree, tree_of}
use Rattle.kernel_model.specs.Step.{IsStep, end_state}
use Rattle.kernel_model.specs.Valid.{IsValid}

-- ---- file_open

-- once the tree has changed so, a directory below this one has the node under some name
abbrev pub IsMadeBelow : Tree → Change → ℕ → ℕ → Type 0
IsMadeBelow t change start n = (d : ℕ) × (name : List ℕ) × (member d (below t start) ≡ true) × HasName change.tree d name n

-- the open is of a file or a directory below this one, or of the new file, which is made below it
abbrev pub IsOpenBelow : Tree → Change → ℕ → ℕ → OpenKind → Type 0
IsOpenBelow t change start new (File n offset flags) = (member n (below t start) ≡ true) ⊎ ((n ≡ new) × IsMadeBelow t change start n)
IsOpenBelow t change start new (Directory n flags) = member n (below t start) ≡ true
IsOpenBelow t change start new _ = ⊥

abbrev pub LeadsBelow : Tree → ℕ → ℕ → Opened → Type 0
LeadsBelow t start new (NotOpened errno) = Unit {0}
LeadsBelow t start new (OpenedOutside component) = Unit {0}
LeadsBelow t start new (Opens kind change new_nodes) = IsOpenBelow t change start new kind

-- What a path opens from a directory is below that directory, or is made there.
abbrev pub OpensLeadBelow : Type 0
OpensLeadBelow =
    (oflags flags : ℕ) (path : List ℕ) (now new : ℕ) (t : Tree) (mode : WalkMode) (start held : ℕ)
    → LeadsBelow t start new (open_walked oflags flags path now new t (walked t mode path (Some (Directory start held))))

-- ---- grants

-- the open is of the stream, or of the file or the directory, that a grant is of, from offset 0 and with no flag
abbrev pub IsOpenOf : Tree → GrantTarget → OpenKind → Type 0
IsOpenOf t (target.Terminal which) kind = kind ≡ Terminal which 0
IsOpenOf t (target.Node n) kind = ((is_file t n ≡ true) × (kind ≡ File n 0 0)) ⊎ ((is_directory t n ≡ true) × (kind ≡ Directory n 0))

-- process 0 has the grant's rights under this number, and their open is of what the grant is of
pub record IsHeldAs (S : State) (k : ℕ) (grant : Grant) : Type 0 where
  pub table : Table
  pub descriptor : Descriptor
  pub kind : OpenKind
  pub there : get S.tables 0 ≡ Some table
  pub held : get table k ≡ Some descriptor
  pub base : descriptor.base ≡ grant.base
  pub inheriting : descriptor.inheriting ≡ grant.inheriting
  pub opened : get S.opens descriptor.id ≡ Some kind
  pub of : IsOpenOf (tree_of S) grant.target kind

-- A launch begins with each of its grants held as it says.
abbrev pub GrantsAreHeld : Type 0
GrantsAreHeld =
    (tree : Tree) (grants : List Grant) (stdin : List ℕ) (k : ℕ) (grant : Grant) → MayBegin tree grants → slice_get grants k ≡ Some grant
    → IsHeldAs (start_state tree grants stdin) k grant

-- ---- what an open is of

-- both opens are of the same file, the same directory, the same standard stream, the same channels or the same process, whatever
-- their offsets and their flags
abbrev pub IsOfSame : OpenKind → OpenKind → Type 0
IsOfSame (File n offset flags) (File m other_offset other_flags) = n ≡ m
IsOfSame (Directory n flags) (Directory m other_flags) = n ≡ m
IsOfSame (End reads writes flags form) (End other_reads other_writes other_flags other_form) = (reads ≡ other_reads) × (writes ≡ other_writes) × (form ≡ other_form)
IsOfSame (Terminal which flags) (Terminal other other_flags) = which ≡ other
IsOfSame (Process p object) (Process q other) = (p ≡ q) × (object ≡ other)
IsOfSame _ _ = ⊥

-- each open that is there in both states is of the same in both
abbrev pub OpensStay : State → State → Type 0
OpensStay S T = (o : ℕ) (before after : OpenKind) → get S.opens o ≡ Some before → get T.opens o ≡ Some after → IsOfSame before after

-- An open that is there before and after a call is after it of what it was of before.
abbrev pub OpensStayOfWhatTheyAre : Type 0
OpensStayOfWhatTheyAre =
    (constants : Constants) (S : State) (who : Who) (call : Call) (given : Answer) (T : State) → IsValid S → IsStep constants S who call given T
    → OpensStay S T

-- So it is where a process ends from outside.
abbrev pub EndsKeepOpens : Type 0
EndsKeepOpens = (S : State) (p : ℕ) (status : Status) → OpensStay S (end_state S p status)
