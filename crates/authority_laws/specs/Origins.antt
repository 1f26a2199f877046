-- Where a descriptor that a process holds comes from, and how what it holds may change.
use Rattle.std.specs.Prelude.{◌≡◌, ◌≢◌, ◌↔◌, ◌⊎◌, ℕ, true, false, List, None, Some, slice_get}
use Rattle.std.specs.FinMap.{get}
use Rattle.abi_base.specs.declared.grant.Grant.{Grant}
use Rattle.abi_base.specs.Rights.{Has}
use Rattle.abi_base.specs.declared.rights.TheConstants.Rights.{FILE_OPEN}
use Rattle.abi_structures.specs.declared.structures.FdStat.{FdStat}
use Rattle.abi_types.specs.declared.descriptor.Descriptor.{Descriptor}
use Rattle.abi_types.specs.declared.open_kind.OpenKind.{OpenKind}
use Rattle.abi_types.specs.declared.open_kind.OpenKind.TheVariants.{File, Directory}
use Rattle.maps.specs.Closure.{member}
use Rattle.tree_model.specs.Changes.{is_file}
use Rattle.tree_model.specs.Tree.{HasName, below}
use Rattle.run_types.specs.declared.history.Entry.{Entry}
use Rattle.kernel_model.specs.Families.Opening.{opened_descriptor}
use Rattle.kernel_model.specs.ForkLaws.{nth_held}
use Rattle.kernel_model.specs.Proper.{IsIn}
use Rattle.kernel_model.specs.Start.{granted_descriptor}
use Rattle.kernel_model.specs.State.{State, Tree, tree_of}
use Rattle.kernel_model.specs.Fits.{fits, fits_inheriting}
use Rattle.authority_laws.specs.Ledger.{Row, no_row, put_each, with_held, Ledger, Made, After, is_new, new_held}
use Rattle.authority_laws.specs.Recorded.{acted_child}

-- each of the rights is among the others
abbrev pub AreAmong : ℕ → ℕ → Type 0
AreAmong rights others = (k : ℕ) → Has rights k → Has others k

-- d names the open that x names, with no right that x lacks
pub record IsNoMoreThan (d x : Descriptor) : Type 0 where
  pub id : d.id ≡ x.id
  pub base : AreAmong d.base.0 x.base.0
  pub inheriting : AreAmong d.inheriting.0 x.inheriting.0

-- each right of d, to base rights too, is among those that x passes on
pub record InheritsFrom (d x : Descriptor) : Type 0 where
  pub base : AreAmong d.base.0 x.inheriting.0
  pub inheriting : AreAmong d.inheriting.0 x.inheriting.0

-- d passes on no right
abbrev pub PassesOnNothing : Descriptor → Type 0
PassesOnNothing d = (k : ℕ) → ¬ Has d.inheriting.0 k

-- d has no right, nor does it pass on one
pub record HasNoRight (d : Descriptor) : Type 0 where
  pub base : (k : ℕ) → ¬ Has d.base.0 k
  pub inheriting : PassesOnNothing d

-- What process q held before an entry process p may hold after it: it is p itself, or it did the entry, by which p was made.
abbrev pub Gives : After → Entry → ℕ → ℕ → Type 0
Gives after e q p = (q ≡ p) ⊎ ((q ≡ e.pid) × (acted_child after e.act ≡ Some p))

-- How a descriptor that process p holds after an entry came there, by the ledger before it and what the state after it shows. Each
-- way in which an entry may give a process a descriptor has a line.
pub data Origin (after : After) (l : Ledger) (e : Entry) (p : ℕ) (d : Descriptor) : Type 0 where
  -- a process that gives to p held one that names the same open, under whatever number, and d has no right that that one lacked
  was_held : (q m : ℕ) (x : Descriptor) → Gives after e q p → l.held q m ≡ Some x → IsNoMoreThan d x → Origin after l e p d
  -- p did the entry, d is of the open that it made last, and its rights are among those that a descriptor passes on which it held
  was_opened : (m : ℕ) (x : Descriptor) → p ≡ e.pid → l.held p m ≡ Some x → d.id ≡ (after.made 0).number → InheritsFrom d x
      → Origin after l e p d
  -- p did the entry, and d is of an open that it made, which is a process's or an end of channels; d passes on nothing
  was_made : (k : ℕ) (kind : OpenKind) → p ≡ e.pid → d.id ≡ (after.made k).number → (after.made k).kind ≡ Some kind → is_new kind ≡ true
      → PassesOnNothing d → Origin after l e p d
  -- p did the entry, and d was carried by the first send that waited for the open of a descriptor which p held
  was_received : (m : ℕ) (x : Descriptor) → p ≡ e.pid → l.held p m ≡ Some x → IsIn d (after.came x.id) → Origin after l e p d

-- each descriptor that a process holds by the one ledger has an origin in the other
abbrev pub ComesFrom : After → Entry → Ledger → Ledger → Type 0
ComesFrom after e before then = (p n : ℕ) (d : Descriptor) → then.held p n ≡ Some d → Origin after before e p d

-- what each send carries by the one ledger it carried by the other, or the entry's process held it by that
abbrev pub SendsComeFrom : Entry → Ledger → Ledger → Type 0
SendsComeFrom e before then =
    (c j : ℕ) (d : Descriptor) → IsIn d (then.sent c j) → IsIn d (before.sent c j) ⊎ ((n : ℕ) × (before.held e.pid n ≡ Some d))

-- the descriptor is no more than what the grant of this number gave, or has no right but those which that passes on
pub record ComesFromGrant (tree : Tree) (grants : List Grant) (number : ℕ) (d : Descriptor) : Type 0 where
  pub grant : Grant
  pub listed : slice_get grants number ≡ Some grant
  pub comes : IsNoMoreThan d (granted_descriptor tree number grant) ⊎ InheritsFrom d (granted_descriptor tree number grant)

-- ---- how what a process holds may change

-- How what the process of an entry holds after it may differ from what it held before it, by what the state after it shows.
pub data Change (after : After) (before then : Row) : Type 0 where
  -- all stands as it did
  stays : then ≡ before → Change after before then
  -- nothing is held any more
  ends : then ≡ no_row → Change after before then
  -- nothing stands under n any more
  closes : (n : ℕ) → then ≡ with_held before n None → Change after before then
  -- under `to` stands what stood under `from`
  copies : (from to : ℕ) (d : Descriptor) → before from ≡ Some d → then ≡ with_held before to (Some d) → Change after before then
  -- under n stands the same open as before, with no right more
  lowers : (n : ℕ) (d x : Descriptor) → before n ≡ Some x → IsNoMoreThan d x → then ≡ with_held before n (Some d) → Change after before then
  -- under n stands the open that was made last, with rights of its type that are asked
  opens : (n : ℕ) (kind : OpenKind) (stat : FdStat) → (after.made 0).kind ≡ Some kind
      → then ≡ with_held before n (Some (opened_descriptor (after.made 0).number kind stat)) → Change after before then
  -- under n stands the open that was made last, if it is a process's or an end of channels
  makes : (n : ℕ) → then ≡ with_held before n (new_held (after.made 0)) → Change after before then
  -- so it is under m, and under n stands the open that was made before that
  makes_both : (n m : ℕ) → then ≡ with_held (with_held before n (new_held (after.made 1))) m (new_held (after.made 0)) → Change after before then
  -- under each number stands what stood under the one that is listed in its place
  lists : (fds : List ℕ) → then ≡ nth_held before fds → Change after before then
  -- under these numbers stands what the first send carried that waited for the open of what stands under fd
  receives : (fd : ℕ) (x : Descriptor) (fds : List ℕ) → before fd ≡ Some x → then ≡ put_each before fds (after.came x.id) → Change after before then

-- How what another process q holds after an entry may differ from what it held before it, where the entry's process held `own`.
pub data ChangeOfOther (after : After) (e : Entry) (q : ℕ) (own before then : Row) : Type 0 where
  -- all stands as it did
  remains : then ≡ before → ChangeOfOther after e q own before then
  -- q isn't live after the entry, and holds nothing
  is_over : after.live q ≡ false → then ≡ no_row → ChangeOfOther after e q own before then
  -- the entry made q, which holds what the entry's process held
  is_born : acted_child after e.act ≡ Some q → then ≡ own → ChangeOfOther after e q own before then

-- under `to` stands what stood under `from`, the same open with the same rights, and under each other number what stood there
pub record IsCopied (before after : Row) (from to : ℕ) : Type 0 where
  pub d : Descriptor
  pub source : before from ≡ Some d
  pub copy : after to ≡ Some d
  pub others : (n : ℕ) → n ≢ to → after n ≡ before n

-- under n stands d, which names the open of x that stood there, with exactly those of its rights that are asked, and under each
-- other number stands what stood there
pub record IsLowered (before after : Row) (n : ℕ) (stat : FdStat) : Type 0 where
  pub d : Descriptor
  pub x : Descriptor
  pub stood : before n ≡ Some x
  pub stands : after n ≡ Some d
  pub id : d.id ≡ x.id
  pub base : (k : ℕ) → Has d.base.0 k ↔ (Has x.base.0 k × Has stat.base.0 k)
  pub inheriting : (k : ℕ) → Has d.inheriting.0 k ↔ (Has x.inheriting.0 k × Has stat.inheriting.0 k)
  pub others : (m : ℕ) → m ≢ n → after m ≡ before m

-- ---- where an open leads, by the file trees before and after an entry

-- n is a file that was not there before, and a directory that was below this one then has it under some name
pub record IsNewBelow (before after : Tree) (start n : ℕ) : Type 0 where
  pub absent : get before.nodes n ≡ None
  pub file : is_file after n ≡ true
  pub directory : ℕ
  pub name : List ℕ
  pub under : member directory (below before start) ≡ true
  pub named : HasName after directory name n

-- the open is of a file or a directory that was below this directory, or of a new file below it
abbrev pub IsOpenedBelow : Tree → Tree → ℕ → OpenKind → Type 0
IsOpenedBelow before after start (File n offset flags) = (member n (below before start) ≡ true) ⊎ IsNewBelow before after start n
IsOpenedBelow before after start (Directory n flags) = member n (below before start) ≡ true
IsOpenedBelow before after start _ = ⊥

-- under `to`, under which nothing stood, stands d, which names the open that was made, with exactly those of the rights asked that
-- are of its type; these are among the rights that x passes on, which stood under fd and has the right to open; the open of x, in the
-- state S before, was of a directory, and the open that was made, which was not there in that state, is in the state U after of what is
-- below that; and under each other number stands what stood there
pub record IsOpened (S U : State) (made : Made) (before after : Row) (fd to : ℕ) (stat : FdStat) : Type 0 where
  pub d : Descriptor
  pub x : Descriptor
  pub kind : OpenKind
  pub start : ℕ
  pub flags : ℕ
  pub source : before fd ≡ Some x
  pub right : AreAmong FILE_OPEN.0 x.base.0
  pub directory : get S.opens x.id ≡ Some (Directory start flags)
  pub free : before to ≡ None
  pub stands : after to ≡ Some d
  pub id : d.id ≡ made.number
  pub absent : get S.opens d.id ≡ None
  pub opened : get U.opens d.id ≡ Some kind
  pub leads : IsOpenedBelow (tree_of S) (tree_of U) start kind
  pub base : (k : ℕ) → Has d.base.0 k ↔ (Has (fits kind) k × Has stat.base.0 k)
  pub inheriting : (k : ℕ) → Has d.inheriting.0 k ↔ (Has (fits_inheriting kind) k × Has stat.inheriting.0 k)
  pub within : InheritsFrom d x
  pub others : (n : ℕ) → n ≢ to → after n ≡ before n
