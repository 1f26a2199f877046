-- What calls tell of files, directories and symlinks, and which flags fd_stat_put sets: the statements that are the contracts of `files_are_told` and
-- `flags_are_set` in src/laws.rt.
use Rattle.std.specs.Prelude.{◌≡◌, ◌≢◌, ℕ, ◌+◌, ◌≤◌, true, false, List, [], ◌∷◌, ◌++◌, length, min, bit_and, Option, Some, None, replicate}
use Rattle.std.specs.FinMap.{get, entries, insert}
use Rattle.maps.specs.Closure.{member}
use Rattle.std.specs.Str.{is_utf8}
use Rattle.abi_layout.specs.Layout.{written}
use Rattle.abi_layout.specs.Structures.{dirent_layout, dirent_values}
use Rattle.abi_structures.specs.declared.structures.Dirent.{Dirent}
use Rattle.abi_structures.specs.declared.structures.FdStat.{FdStat}
use Rattle.abi_types.specs.declared.call.Call.{Call}
use Rattle.abi_types.specs.declared.call.Call.TheVariants.{FdStatPut, FileReaddir, FileReadlink, FileStatGet}
use Rattle.abi_types.specs.declared.call.Lookup.{Lookup}
use Rattle.abi_types.specs.declared.constants.Constants.{Constants}
use Rattle.abi_types.specs.declared.descriptor.Descriptor.{Descriptor}
use Rattle.abi_types.specs.declared.node.Node.{Node}
use Rattle.abi_types.specs.declared.node.NodeKind.TheVariants as kind
use Rattle.abi_types.specs.declared.open_kind.OpenKind.{OpenKind}
use Rattle.abi_types.specs.declared.open_kind.OpenKind.TheVariants.{File, Directory, End, Terminal, Process}
use Rattle.abi_types.specs.declared.reply.Answer.TheVariants as answer
use Rattle.abi_types.specs.declared.reply.Payload.TheVariants as payload
use Rattle.abi_types.specs.declared.who.Who.{Who}
use Rattle.kernel_model.specs.Calls.{refusal}
use Rattle.kernel_model.specs.Reply.{content, success}
use Rattle.kernel_model.specs.State.{State, Table, Names}
use Rattle.kernel_model.specs.Step.{step_answer, unreleased}
use Rattle.call_laws.specs.DescriptorLaws.{told_node, told_node_type}
use Rattle.call_laws.specs.NameLaws.{IsOfDirectory, LeadsTo}

-- the call is of a process with this table, and isn't refused for lack of a descriptor or of a right
pub record IsAllowed (S : State) (who : Who) (call : Call) (table : Table) : Type 0 where
  pub own : get S.tables who.pid ≡ Some table
  pub allowed : refusal table call ≡ None

-- the bytes may be a path's: there are few, they are UTF-8, and none is 0
pub record IsPath (path : List ℕ) : Type 0 where
  pub short : length path ≤ 1024
  pub text : is_utf8 path ≡ true
  pub no_zero : member 0 path ≡ false

-- The piece is what so many bytes have room for of all, from the first one on; no call gives more than 65,536.
pub record IsFront (room : ℕ) (all piece : List ℕ) : Type 0 where
  pub rest : List ℕ
  pub whole : all ≡ piece ++ rest
  pub count : length piece ≡ min (min room 65536) (length all)

-- ---- directories

-- the head of an entry, in the bytes that docs/ABI.md says
abbrev pub head_bytes : Dirent → List ℕ
head_bytes head = written dirent_layout.fields (dirent_values head) (replicate 24 0)

-- the type of a node, and 0 where there is none, as in no tree
abbrev pub type_in : Option Node → ℕ
type_in None = 0
type_in (Some node) = told_node_type node.kind

-- These bytes tell of the names, of which the first has this place: of each its head, with the place of the next one, and then itself.
pub data AreTold (S : State) : ℕ → List (List ℕ × ℕ) → List ℕ → Type 0 where
  tells_none : (place : ℕ) → AreTold S place [] []
  tells_one : (place : ℕ) (name : List ℕ) (n : ℕ) (others : List (List ℕ × ℕ)) (bytes : List ℕ) → AreTold S (place + 1) others bytes
      → AreTold S place ((name, n) ∷ others)
      ((head_bytes (record { next = place + 1; ino = n; namlen = length name; kind = type_in (get S.nodes n) }) ++ name) ++ bytes)

-- they are the names of a directory from this place on, in the order of their bytes
pub record AreFrom (place : ℕ) (all listed : List (List ℕ × ℕ)) : Type 0 where
  pub before : List (List ℕ × ℕ)
  pub whole : all ≡ before ++ listed
  pub count : length before ≡ min place (length all)

pub record FilesAreTold : Type 0 where
  -- a file_stat_get tells what the node is to which its path leads
  pub stats : (constants : Constants) (S : State) (who : Who) (lookup : Lookup) (path : List ℕ) (n : ℕ) (node : Node) (table : Table)
      → IsAllowed S who (FileStatGet lookup path) table → IsPath path → LeadsTo S table lookup path n → get S.nodes n ≡ Some node
      → step_answer constants S who (FileStatGet lookup path) ≡ answer.Reply (record (success 0 0) { payload = payload.FileStat (told_node n node) })
  -- a file_readlink tells the text of a symlink
  pub links : (constants : Constants) (S : State) (who : Who) (fd : ℕ) (path : List ℕ) (room n : ℕ) (node : Node) (text : List ℕ) (table : Table)
      → IsAllowed S who (FileReadlink fd path room) table → IsPath path → LeadsTo S table (record { fd = fd; flags = 0 }) path n
      → get S.nodes n ≡ Some node → node.kind ≡ kind.Link text
      → (piece : List ℕ) × IsFront room text piece × (step_answer constants S who (FileReadlink fd path room) ≡ answer.Reply (content piece))
  -- a file_readdir tells of the names in a directory, from the place that its cookie says
  pub names : (constants : Constants) (S : State) (who : Who) (fd room cookie n : ℕ) (table : Table) (named : Names)
      → IsAllowed S who (FileReaddir fd room cookie) table → IsOfDirectory S table fd n → get S.names n ≡ Some named
      → (listed : List (List ℕ × ℕ)) × (all piece : List ℕ) × AreFrom cookie (entries named) listed × AreTold S cookie listed all × IsFront room all piece
      × (step_answer constants S who (FileReaddir fd room cookie) ≡ answer.Reply (content piece))

-- ---- fd_stat_put

-- the open is what it was, with these flags; one of a process has none
abbrev pub IsWithFlags : OpenKind → ℕ → OpenKind → Type 0
IsWithFlags (File node offset flags) new now = now ≡ File node offset new
IsWithFlags (Directory node flags) new now = now ≡ Directory node new
IsWithFlags (End reads writes flags form) new now = now ≡ End reads writes new form
IsWithFlags (Terminal which flags) new now = now ≡ Terminal which new
IsWithFlags (Process p object) new now = now ≡ Process p object

-- An fd_stat_put with FLAGS (1) sets the flags of the open, and without it leaves every open as it was.
pub record FlagsAreSet : Type 0 where
  pub sets : (constants : Constants) (S : State) (who : Who) (fd : ℕ) (stat : FdStat) (flags : ℕ) (d : Descriptor) (was : OpenKind) (table : Table)
      → IsAllowed S who (FdStatPut fd stat flags) table → get table fd ≡ Some d → get S.opens d.id ≡ Some was → bit_and flags 1 ≢ 0
      → (now : OpenKind) × IsWithFlags was stat.flags now × ((unreleased constants S who (FdStatPut fd stat flags)).opens ≡ insert S.opens d.id now)
  pub leaves : (constants : Constants) (S : State) (who : Who) (fd : ℕ) (stat : FdStat) (flags : ℕ) (table : Table)
      → IsAllowed S who (FdStatPut fd stat flags) table → bit_and flags 1 ≡ 0
      → (unreleased constants S who (FdStatPut fd stat flags)).opens ≡ S.opens
