-- What no grant lets a run change: it is at the end as the launch had it.
use Rattle.std.specs.Prelude.{◌≡◌, ◌⊎◌, ◌↔◌, ℕ, true, false, List, ◌∷◌, ◌++◌, Some, IsSome}
use Rattle.std.specs.FinMap.{get}
use Rattle.abi_base.specs.Rights.{Has}
use Rattle.abi_types.specs.declared.call.Call.{Call}
use Rattle.abi_types.specs.declared.constants.Constants.{Constants}
use Rattle.abi_types.specs.declared.descriptor.Descriptor.{Descriptor}
use Rattle.abi_types.specs.declared.needed.Needed.{Needed}
use Rattle.abi_types.specs.declared.reply.Answer.{Answer}
use Rattle.abi_types.specs.declared.who.Who.{Who}
use Rattle.run_types.specs.declared.history.Entry.{Entry}
use Rattle.run_types.specs.declared.launch.Launch.{Launch}
use Rattle.kernel_model.specs.Calls.{need}
use Rattle.kernel_model.specs.Need.{has_needed}
use Rattle.kernel_model.specs.Proper.{IsIn}
use Rattle.kernel_model.specs.Sight.{behind}
use Rattle.kernel_model.specs.State.{State, Table, Part, at_names, at_node, at_open, has_part, tree_of}
use Rattle.kernel_model.specs.Step.{IsStep, made_by, touch, unreleased}
use Rattle.kernel_model.specs.Valid.{IsValid}
use Rattle.tree_model.specs.Grants.{MayBegin}
use Rattle.tree_model.specs.Tree.{Tree, HasName}
use Rattle.tree_model.specs.declared.limits.TheConstants.{ROOT}
use Rattle.tree_document.specs.Building.{node_at}
use Rattle.tree_document.specs.Printing.{Row, listing, row_text}
use Rattle.tree_records.specs.Paths.{Path}
use Rattle.run_model.specs.Legal.{Legal}
use Rattle.run_model.specs.World.{world}
use Rattle.confinement_laws.specs.Leading.{IsLedTo, IsWriting, writing}

-- ---- steps

-- the part is a node, or the names in one
abbrev pub IsOfTree : Part → Type 0
IsOfTree part = (n : ℕ) × ((part ≡ at_node n) ⊎ (part ≡ at_names n))

-- The call needs, of a descriptor that its process has and that has all that is needed of it, a right by which a tree is changed, or
-- asks it of the rights that the descriptor passes on; and the part is behind that descriptor's open.
pub record IsWrittenBy (S : State) (who : Who) (call : Call) (part : Part) : Type 0 where
  pub table : Table
  pub own : get S.tables who.pid ≡ Some table
  pub row : Needed
  pub asked : IsIn row (need call)
  pub k : ℕ
  pub writing : IsWriting k
  pub needs : Has row.base.0 k ⊎ Has row.inheriting.0 k
  pub d : Descriptor
  pub there : get table row.fd ≡ Some d
  pub has : has_needed d row ≡ true
  pub reached : has_part (at_open d.id ∷ behind S (get S.opens d.id)) part ≡ true

-- the call leaves the whole file tree as it is
abbrev pub LeavesTree : State → Who → Call → Type 0
LeavesTree S who call = (constants : Constants) → tree_of (unreleased constants S who call) ≡ tree_of S

-- What a call touches of the file tree, and doesn't make, it touches by such a right; or it leaves the tree as it is, as a file_stat_fput
-- does that sets no size and no time, which no program's registers give.
abbrev pub TreeIsWrittenByRight : Type 0
TreeIsWrittenByRight =
    (S : State) (who : Who) (call : Call) (part : Part) → IsOfTree part → has_part (touch S who call) part ≡ true → has_part (made_by S who call) part ≡ false
    → IsWrittenBy S who call part ⊎ LeavesTree S who call

-- the call touches the node, or it touches a directory that has a name of it
abbrev pub IsTouchedOrMoved : State → Who → Call → ℕ → Type 0
IsTouchedOrMoved S who call n =
    (has_part (touch S who call) (at_node n) ≡ true)
    ⊎ ((d : ℕ) × (name : List ℕ) × HasName (tree_of S) d name n × (has_part (touch S who call) (at_names d) ≡ true))

-- A name that is there after a call and wasn't before it is of a node that the call touches, or whose name it moves.
abbrev pub NamesAreTouched : Type 0
NamesAreTouched =
    (constants : Constants) (S : State) (who : Who) (call : Call) (given : Answer) (T : State) (d : ℕ) (name : List ℕ) (n : ℕ) → IsValid S
    → IsStep constants S who call given T → HasName (tree_of T) d name n → HasName (tree_of S) d name n ⊎ IsTouchedOrMoved S who call n

-- ---- whole runs

-- after these entries the node is what it was in the launch's tree, and so are the names in it
pub record IsAsLaunched (launch : Launch) (history : List Entry) (n : ℕ) : Type 0 where
  pub node : get (world launch history).state.nodes n ≡ get launch.tree.nodes n
  pub names : get (world launch history).state.names n ≡ get launch.tree.names n

-- the same paths lead to the node from the root in both trees
abbrev pub HasSamePaths : Tree → Tree → ℕ → Type 0
HasSamePaths t u n = (path : Path) → (node_at t ROOT path ≡ Some n) ↔ (node_at u ROOT path ≡ Some n)

-- the document of a tree has this record of a name, which is of this node
pub record HasRecord (t : Tree) (path : List ℕ) (n : ℕ) (text : List ℕ) : Type 0 where
  pub before : List Row
  pub after : List Row
  pub listed : listing t ≡ before ++ (path, n) ∷ after
  pub text_is : text ≡ row_text t before (path, n)

-- the documents of both trees have the same records of the node's names
abbrev pub HasSameRecords : Tree → Tree → ℕ → Type 0
HasSameRecords t u n = (path text : List ℕ) → HasRecord t path n text ↔ HasRecord u path n text

-- A node of the launch's tree to which no grant leads that has a right by which trees are changed, or passes one on: after these entries
-- it is as it was, with the same paths, and the same records in the document of the file tree.
pub record IsUntouched (launch : Launch) (history : List Entry) (n : ℕ) : Type 0 where
  pub stays : IsAsLaunched launch history n
  pub paths : HasSamePaths launch.tree (tree_of (world launch history).state) n
  pub records : HasSameRecords launch.tree (tree_of (world launch history).state) n

-- So is each such node.
abbrev pub UnwrittenStays : Launch → List Entry → Type 0
UnwrittenStays launch history = (n : ℕ) → IsSome (get launch.tree.nodes n) → ¬ IsLedTo writing launch n → IsUntouched launch history n

-- So it is in each legal history of a launch with proper grants.
abbrev pub LegalLeavesUnwritten : Type 0
LegalLeavesUnwritten = (launch : Launch) (history : List Entry) → MayBegin launch.tree launch.grants → Legal launch history → UnwrittenStays launch history
