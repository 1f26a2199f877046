-- Which names calls make, move and take away: the statements that are the contract of `names_change_as_asked` in src/laws.rt. Each is of a call
-- that is done, and of the state that it leaves before the release, by which what nothing holds any more ends.
use Rattle.std.specs.Prelude.{◌≡◌, ◌≢◌, ◌⊎◌, ℕ, ◌+◌, ◌-◌, List, take, drop, bit_and, Ok, None, Some}
use Rattle.std.specs.FinMap.{get}
use Rattle.abi_types.specs.declared.call.Call.{Call}
use Rattle.abi_types.specs.declared.call.Call.TheVariants.{FileCreate, FileLink, FileRename, FileSymlink, FileUnlink}
use Rattle.abi_types.specs.declared.call.Lookup.{Lookup}
use Rattle.abi_types.specs.declared.constants.Constants.{Constants}
use Rattle.abi_types.specs.declared.descriptor.Descriptor.{Descriptor}
use Rattle.abi_types.specs.declared.node.Node.{Node}
use Rattle.abi_types.specs.declared.node.NodeKind.{NodeKind}
use Rattle.abi_types.specs.declared.node.NodeKind.TheVariants as kind
use Rattle.abi_types.specs.declared.open_kind.OpenKind.TheVariants.{Directory}
use Rattle.abi_types.specs.declared.reply.Answer.TheVariants as answer
use Rattle.abi_types.specs.declared.who.Who.{Who}
use Rattle.path_lookup.specs.Walk.{walk_of}
use Rattle.path_lookup.specs.declared.ends.End.TheVariants as end
use Rattle.path_lookup.specs.declared.ends.WalkMode.{WalkMode}
use Rattle.path_lookup.specs.declared.ends.WalkMode.TheVariants.{Follow, NoFollow, Parent}
use Rattle.tree_model.specs.Finds.{finds}
use Rattle.tree_model.specs.Tree.{HasName, entry_of}
use Rattle.kernel_model.specs.Calls.{refusal}
use Rattle.kernel_model.specs.Reply.{success}
use Rattle.kernel_model.specs.State.{State, Table, tree_of}
use Rattle.kernel_model.specs.Step.{step_answer, unreleased}
use Rattle.kernel_model.specs.Valid.{IsValid}

-- ---- paths

-- The call is of a process of a valid state with this table, isn't refused for lack of a descriptor or of a right, and is done.
pub record IsDone (constants : Constants) (S : State) (who : Who) (call : Call) (table : Table) : Type 0 where
  pub valid : IsValid S
  pub own : get S.tables who.pid ≡ Some table
  pub allowed : refusal table call ≡ None
  pub done : step_answer constants S who call ≡ answer.Reply (success 0 0)

-- the number has a descriptor of this directory
pub record IsOfDirectory (S : State) (table : Table) (fd start : ℕ) : Type 0 where
  pub d : Descriptor
  pub there : get table fd ≡ Some d
  pub flags : ℕ
  pub opened : get S.opens d.id ≡ Some (Directory start flags)

-- The path from that directory, without its last component, leads to directory d, and this is the last component.
pub record EndsAt (S : State) (table : Table) (fd : ℕ) (path : List ℕ) (d : ℕ) (name : List ℕ) : Type 0 where
  pub start : ℕ
  pub begins : IsOfDirectory S table fd start
  pub from : ℕ
  pub len : ℕ
  pub ends : walk_of (finds (tree_of S)) Parent start path ≡ Ok (end.Last d from len)
  pub last : name ≡ take len (drop from path)

-- It leads to the node n; a symlink at its end is followed with SYMLINK_FOLLOW (1).
pub record LeadsTo (S : State) (table : Table) (lookup : Lookup) (path : List ℕ) (n : ℕ) : Type 0 where
  pub start : ℕ
  pub begins : IsOfDirectory S table lookup.fd start
  pub mode : WalkMode
  pub follows : ((bit_and lookup.flags 1 ≡ 0) × (mode ≡ NoFollow)) ⊎ ((bit_and lookup.flags 1 ≢ 0) × (mode ≡ Follow))
  pub ends : walk_of (finds (tree_of S)) mode start path ≡ Ok (end.Found n)

-- ---- names

-- it is another name, or one in another directory
abbrev pub IsOther : ℕ → List ℕ → ℕ → List ℕ → Type 0
IsOther d name e other = e ≡ d → other ≡ name → ⊥

-- the name is of node n now, and each other name is of what it was
pub record Gains (S T : State) (d : ℕ) (name : List ℕ) (n : ℕ) : Type 0 where
  pub has : HasName (tree_of T) d name n
  pub others : (e : ℕ) (other : List ℕ) → IsOther d name e other → entry_of (tree_of T) e other ≡ entry_of (tree_of S) e other

-- the name is gone, and each other name is of what it was
pub record Loses (S T : State) (d : ℕ) (name : List ℕ) : Type 0 where
  pub gone : entry_of (tree_of T) d name ≡ None
  pub others : (e : ℕ) (other : List ℕ) → IsOther d name e other → entry_of (tree_of T) e other ≡ entry_of (tree_of S) e other

-- The node of the first name has the second one, and the first is gone, unless both were names of that node. Each other name is of what it was.
pub record Moves (S T : State) (from : ℕ) (name : List ℕ) (to : ℕ) (new : List ℕ) (n : ℕ) : Type 0 where
  pub has : HasName (tree_of T) to new n
  pub gone : entry_of (tree_of S) to new ≢ Some n → entry_of (tree_of T) from name ≡ None
  pub stays : entry_of (tree_of S) to new ≡ Some n → HasName (tree_of T) from name n
  pub others : (e : ℕ) (other : List ℕ) → IsOther from name e other → IsOther to new e other → entry_of (tree_of T) e other ≡ entry_of (tree_of S) e other

-- the name is of a node of this kind that wasn't there, with one name, and with the times of the call
pub record Makes (constants : Constants) (S T : State) (d : ℕ) (name : List ℕ) (kind : NodeKind) : Type 0 where
  pub n : ℕ
  pub absent : get S.nodes n ≡ None
  pub there : get T.nodes n
      ≡ Some (record {
        kind = kind;
        times = record { atim = S.clock + 1000 + constants.epoch; mtim = S.clock + 1000 + constants.epoch; ctim = S.clock + 1000 + constants.epoch };
        links = 1;
      })
  pub gains : Gains S T d name n

-- the time of the call: 1000 nanoseconds after the state's moment, since 1970
abbrev pub call_time : Constants → State → ℕ
call_time constants S = S.clock + 1000 + constants.epoch

-- the names in the directory were changed by the call
abbrev pub Stamps : Constants → State → State → ℕ → Type 0
Stamps constants S T d =
    (was : Node) → get S.nodes d ≡ Some was
    → get T.nodes d ≡ Some (record was { times = record was.times { mtim = call_time constants S; ctim = call_time constants S } })

-- the node has so many names after the call, which changed it
abbrev pub Counts : Constants → State → State → ℕ → (ℕ → ℕ) → Type 0
Counts constants S T n count =
    (was : Node) → get S.nodes n ≡ Some was
    → get T.nodes n ≡ Some (record was { links = count was.links; times = record was.times { ctim = call_time constants S } })

-- ---- the calls

pub record NamesChange : Type 0 where
  -- file_create makes a directory, and file_symlink a symlink with the text
  pub creates : (constants : Constants) (S : State) (who : Who) (fd : ℕ) (path : List ℕ) (type d : ℕ) (name : List ℕ) (table : Table)
      → IsDone constants S who (FileCreate fd path type) table → EndsAt S table fd path d name
      → Makes constants S (unreleased constants S who (FileCreate fd path type)) d name kind.Directory
      × Stamps constants S (unreleased constants S who (FileCreate fd path type)) d
  pub symlinks : (constants : Constants) (S : State) (who : Who) (text : List ℕ) (fd : ℕ) (path : List ℕ) (d : ℕ) (name : List ℕ) (table : Table)
      → IsDone constants S who (FileSymlink text fd path) table → EndsAt S table fd path d name
      → Makes constants S (unreleased constants S who (FileSymlink text fd path)) d name (kind.Link text)
      × Stamps constants S (unreleased constants S who (FileSymlink text fd path)) d
  -- file_link makes one more name of a node
  pub links : (constants : Constants) (S : State) (who : Who) (lookup : Lookup) (path : List ℕ) (fd : ℕ) (new_path : List ℕ) (n d : ℕ) (name : List ℕ)
      (table : Table) → IsDone constants S who (FileLink lookup path fd new_path) table → LeadsTo S table lookup path n → EndsAt S table fd new_path d name
      → Gains S (unreleased constants S who (FileLink lookup path fd new_path)) d name n
      × Stamps constants S (unreleased constants S who (FileLink lookup path fd new_path)) d
      × Counts constants S (unreleased constants S who (FileLink lookup path fd new_path)) n (λ links. links + 1)
  -- file_unlink takes a name away
  pub unlinks : (constants : Constants) (S : State) (who : Who) (fd : ℕ) (path : List ℕ) (flags d : ℕ) (name : List ℕ) (table : Table)
      → IsDone constants S who (FileUnlink fd path flags) table → EndsAt S table fd path d name
      → Loses S (unreleased constants S who (FileUnlink fd path flags)) d name × Stamps constants S (unreleased constants S who (FileUnlink fd path flags)) d
      × ((n : ℕ) → HasName (tree_of S) d name n → Counts constants S (unreleased constants S who (FileUnlink fd path flags)) n (λ links. links - 1))
  -- file_rename moves one
  pub renames : (constants : Constants) (S : State) (who : Who) (fd : ℕ) (path : List ℕ) (new_fd : ℕ) (new_path : List ℕ) (from : ℕ) (name : List ℕ) (to : ℕ)
      (new : List ℕ) (n : ℕ) (table : Table) → IsDone constants S who (FileRename fd path new_fd new_path) table → EndsAt S table fd path from name
      → EndsAt S table new_fd new_path to new → HasName (tree_of S) from name n
      → Moves S (unreleased constants S who (FileRename fd path new_fd new_path)) from name to new n
      × (entry_of (tree_of S) to new ≢ Some n
      → Stamps constants S (unreleased constants S who (FileRename fd path new_fd new_path)) from
      × Stamps constants S (unreleased constants S who (FileRename fd path new_fd new_path)) to
      × ((m : ℕ) → HasName (tree_of S) to new m → Counts constants S (unreleased constants S who (FileRename fd path new_fd new_path)) m (λ links. links - 1)))
