-- Which names each call brings into the file tree.
--     Brings S who call table n      the call makes the node n, or may change it, or n has a name in a directory whose names it may change
--     naming      each call sets no names, or brings none but such ones
--     IsBrought, names_brought      so it is of each name in the state that a call leaves before the release;  a release brings none
--     names_are_touched      a name that comes is of a node that the call touches, or whose name it moves
use Rattle.std.proofs.Common.{◌≡◌, inl, inr, ℕ, ◌+◌, ◌==◌, ◌||◌, Bool, true, false, cond, List, [], ◌∷◌, ◌++◌, length, Option, Some, None, refl, sym, ap, subst, ◌∙◌}
use Rattle.std.proofs.lemmas.Bool.{eq-eqb}
use Rattle.std.specs.Prelude.{⊤}
use Rattle.std.specs.FinMap.{empty, get, insert}
use Rattle.abi_base.specs.declared.errno.Errno.{Errno}
use Rattle.abi_base.specs.declared.errno.Errno.TheVariants.{Exist, Isdir, Noent, Notdir, Perm}
use Rattle.abi_base.specs.declared.rights.TheConstants.Rights.{FD_READ, FD_WRITE, SOCK_SHUTDOWN}
use Rattle.abi_structures.specs.declared.structures.FdStat.{FdStat}
use Rattle.abi_structures.specs.declared.events.Subscription.{Subscription}
use Rattle.abi_types.specs.Families.{is_anonymous}
use Rattle.abi_types.specs.declared.call.Call.{Call}
use Rattle.abi_types.specs.declared.call.Call.TheVariants as call
use Rattle.abi_types.specs.declared.call.Lookup.{Lookup}
use Rattle.abi_types.specs.declared.constants.Constants.{Constants}
use Rattle.abi_types.specs.declared.node.Node.{Node}
use Rattle.abi_types.specs.declared.node.NodeKind.{NodeKind}
use Rattle.abi_types.specs.declared.node.NodeKind.TheVariants as kind
use Rattle.abi_types.specs.declared.descriptor.Descriptor.{Descriptor}
use Rattle.abi_types.specs.declared.open_kind.OpenKind.{OpenKind}
use Rattle.abi_types.specs.declared.open_kind.OpenKind.TheVariants.{File, Directory, End, Terminal, Process}
use Rattle.abi_types.specs.declared.needed.Needed.{Needed}
use Rattle.abi_types.specs.declared.place.Place.{Place}
use Rattle.abi_types.specs.declared.reply.Answer.{Answer}
use Rattle.abi_types.specs.declared.who.Who.{Who}
use Rattle.path_lookup.specs.declared.ends.End.{End as PathEnd}
use Rattle.path_lookup.specs.declared.ends.End.TheVariants as end
use Rattle.path_lookup.specs.declared.ends.WalkMode.{WalkMode}
use Rattle.tree_model.specs.Changes.{bytes_of, first_fault, link_faults, make_faults, rename_faults, unlink_faults, with_bytes}
use Rattle.tree_model.specs.Entries.{empty_answers, with_bytes-changes}
use Rattle.tree_model.specs.Files.{resized}
use Rattle.tree_model.specs.Tree.{HasName, entry_of, is_directory, names_in}
use Rattle.tree_model.specs.declared.fault.TreeFault.{TreeFault}
use Rattle.kernel_model.specs.Calls.{meaning_of, refusal}
use Rattle.kernel_model.specs.Families.ClockCalls.{real_time}
use Rattle.kernel_model.specs.Families.DescriptorCalls.{lowest_free}
use Rattle.kernel_model.specs.Families.FileChanges.{modified, node_part, retimed, sized}
use Rattle.kernel_model.specs.Families.FileMeaning.{on_open, open_of}
use Rattle.kernel_model.specs.Families.FilePaths.{Walked, Ends, Fails, LeadsOutside, found_part, lookup_mode, walked}
use Rattle.kernel_model.specs.Families.ForkCalls.{can_fork, fork_at, fork_if}
use Rattle.kernel_model.specs.Families.MemoryCalls.{map_row, map_zeros, mapping}
use Rattle.kernel_model.specs.Families.LastNames.{LastName, StandsIn, directory_parts, last_name, name_at}
use Rattle.kernel_model.specs.Families.NameMaking.{errno_of, make_in, making, making_unless, text_error, with_node}
use Rattle.kernel_model.specs.Families.NameMeaning.{NameMeaning, Refuses, Changes, at_name}
use Rattle.kernel_model.specs.Families.NameMoving.{link_errno, link_in, linking, move_or_stay, rename_in, renaming, with_link}
use Rattle.kernel_model.specs.Families.NameRemoving.{named_parts, removes_directory, unlink_errno, unlink_in, unlink_node, unlinking, without_name}
use Rattle.kernel_model.specs.Families.Numbers.{can_number, new_parts, next_object, object_parts}
use Rattle.kernel_model.specs.Families.OpenMeaning.{moved_part, touched_at}
use Rattle.kernel_model.specs.Families.Opening.{Opened, NotOpened, OpenedOutside, Opens, creates, make_file, open_absent, open_at, open_directory, open_end, open_file, open_kind, open_mode, open_node, open_walked, makes_new, opened_descriptor, truncated, truncates, wants_directory}
use Rattle.kernel_model.specs.Families.Polls.{begins_with_lock, poll_by}
use Rattle.kernel_model.specs.Families.SocketCalls.{Pair, can_create, count_of, create, create_first, create_if, create_second, made_of, pair, pipe, receiving, sending, shutting, with_first}
use Rattle.kernel_model.specs.Families.StreamCalls.{has_offset, reading, seek_row, seeking, writing, written_part}
use Rattle.kernel_model.specs.Families.TreeUpdates.{Change, no_change}
use Rattle.kernel_model.specs.Outcome.{Outcome}
use Rattle.kernel_model.specs.OwnChanges.{born_of, child_parts, made_parts}
use Rattle.kernel_model.specs.Proper.{IsUnset}
use Rattle.kernel_model.specs.Release.{is_released, release}
use Rattle.kernel_model.specs.Rows.{base_row}
use Rattle.kernel_model.specs.Sight.{process_parts}
use Rattle.kernel_model.specs.State.{ProcessState, State, Table, Part, Tree, at_chan, at_names, at_node, has_part, put_all, put_one, set_open, set_table, tree_of}
use Rattle.kernel_model.specs.Step.{IsStep, outcome, tick, unreleased}
use Rattle.kernel_model.specs.View.{whole}
use Rattle.kernel_model.proofs.Calls.{proper}
use Rattle.kernel_model.proofs.LastNames.{at_name_holds}
use Rattle.kernel_model.proofs.NameLinking.{at_found_holds}
use Rattle.kernel_model.proofs.NameMaking.{unless_holds}
use Rattle.kernel_model.proofs.NameMoving.{unless_lost_holds}
use Rattle.kernel_model.proofs.Opening.{opened_by}
use Rattle.kernel_model.proofs.Outcomes.{outcome_by_cases}
use Rattle.kernel_model.proofs.Parts.{has_left, has_right}
use Rattle.kernel_model.proofs.Reworks.{retimed_reworks}
use Rattle.kernel_model.proofs.Tests.{none_is_no}
use Rattle.kernel_model.proofs.Touches.{release_ends, release_keeps}
use Rattle.confinement_laws.specs.Untouched.{IsTouchedOrMoved, NamesAreTouched}
use Rattle.confinement_laws.proofs.NewNames.{ComesBy, ComesOf, counted_change_comes, kept_comes, link_comes, move_comes, node_comes, none_comes, outcome_comes, same_comes, same_name, unlink_comes}
use Rattle.confinement_laws.proofs.Writing.{HasNoTree, NoTree, changed_is_touched, made_is_touched, neither}
use Rattle.confinement_laws.proofs.WritingCalls.{channel_beside, map_beside, moved_beside, on_open_beside, open_beside, poll_beside, received_beside, sent_beside, shut_beside, stream_beside, waits_tree}

-- ---- what a name that comes may be of

-- The call makes the node, and can; or it may change it; or the node has a name in a directory in which the call may change the names.
pub data Brings (S : State) (who : Who) (call : Call) (table : Table) (n : ℕ) : Type 0 where
  made_now : can_number who.pid (meaning_of call).numbers (get S.processes who.pid) ≡ true
      → has_part (made_parts (meaning_of call).own who.pid (meaning_of call).numbers (get S.processes who.pid)) (at_node n) ≡ true
      → Brings S who call table n
  may_change : has_part ((meaning_of call).touched S table) (at_node n) ≡ true → Brings S who call table n
  may_move : (d : ℕ) (name : List ℕ) → HasName (tree_of S) d name n → has_part ((meaning_of call).touched S table) (at_names d) ≡ true
      → Brings S who call table n

-- what a call leaves that isn't refused
abbrev after : Constants → State → Who → Call → Table → Tree
after constants S who call table = tree_of (put_all ((meaning_of call).effect constants (whole (tick S)) who table).updates (tick S))

-- The call makes nothing and changes no names; or it sets none; or each that it brings is of such a node.
data Naming (call : Call) : Type 0 where
  keeps : (meaning_of call).numbers ≡ 0 → ((S : State) (table : Table) (d : ℕ) → has_part ((meaning_of call).touched S table) (at_names d) ≡ false)
      → Naming call
  sets_none : ((constants : Constants) (S : State) (who : Who) (table : Table) (d : ℕ)
      → IsUnset ((meaning_of call).effect constants (whole (tick S)) who table) (at_names d)) → Naming call
  brings : ((constants : Constants) (S : State) (who : Who) (table : Table)
      → ComesBy (Brings S who call table) (tree_of S) (after constants S who call table)) → Naming call

child_beside : (child : Option ℕ) → HasNoTree (child_parts child)
child_beside None n = (refl, refl)
child_beside (Some q) n = (refl, refl)

keeps_unset : (call : Call) → (meaning_of call).numbers ≡ 0
    → ((S : State) (table : Table) (d : ℕ) → has_part ((meaning_of call).touched S table) (at_names d) ≡ false)
    → (constants : Constants) (S : State) (who : Who) (table : Table) (d : ℕ)
    → IsUnset ((meaning_of call).effect constants (whole (tick S)) who table) (at_names d)
keeps_unset call none apart constants S who table d =
    let own : Option ProcessState = get S.processes who.pid in
    let child : List Part = child_parts (born_of (meaning_of call).own who.pid own) in
    let objects : List Part = new_parts who.pid (meaning_of call).numbers own in
    (proper call).sets constants S who table (at_names d)
    (neither (process_parts who.pid) ((child ++ objects) ++ (meaning_of call).touched S table) (at_names d) refl
    (neither (child ++ objects) ((meaning_of call).touched S table) (at_names d)
    (neither child objects (at_names d) (child_beside (born_of (meaning_of call).own who.pid own) d).1
    (ap (λ count. has_part (new_parts who.pid count own) (at_names d)) none))
    (apart S table d)))

naming_comes : (constants : Constants) (S : State) (who : Who) (call : Call) (table : Table) → Naming call
    → ComesBy (Brings S who call table) (tree_of S) (after constants S who call table)
naming_comes constants S who call table (keeps none apart) =
    kept_comes (Brings S who call table) (tick S) ((meaning_of call).effect constants (whole (tick S)) who table)
    (keeps_unset call none apart constants S who table)
naming_comes constants S who call table (sets_none unset) =
    kept_comes (Brings S who call table) (tick S) ((meaning_of call).effect constants (whole (tick S)) who table) (unset constants S who table)
naming_comes constants S who call table (brings by) = by constants S who table

-- ---- calls that make objects, and no names

create_if_unset : (b : Bool) (made : Pair) (p : ℕ) (own : Option ProcessState) (table : Table) (first second d : ℕ)
    → IsUnset (create_if b made p own table first second) (at_names d)
create_if_unset false made p own table first second d = refl
create_if_unset true pipe p None table first second d = refl
create_if_unset true pipe p (Some own) table first second d = refl
create_if_unset true pair p None table first second d = refl
create_if_unset true pair p (Some own) table first second d = refl

second_unset : (made : Pair) (p t : ℕ) (own : Option ProcessState) (table : Table) (first d : ℕ) (free : Option ℕ)
    → IsUnset (create_second made p t own table first free) (at_names d)
second_unset made p t own table first d None = refl
second_unset made p t own table first d (Some second) = create_if_unset (can_create p t (count_of made) own) made p own table first second d

first_unset : (made : Pair) (p t : ℕ) (own : Option ProcessState) (table : Table) (d : ℕ) (free : Option ℕ)
    → IsUnset (create_first made p t own table free) (at_names d)
first_unset made p t own table d None = refl
first_unset made p t own table d (Some first) = second_unset made p t own table first d (lowest_free (with_first made p own table first))

create_unset : (made : Option Pair) (p t : ℕ) (own : Option ProcessState) (table : Table) (d : ℕ) → IsUnset (create made p t own table) (at_names d)
create_unset None p t own table d = refl
create_unset (Some made) p t own table d = first_unset made p t own table d (lowest_free table)

fork_if_unset : (b : Bool) (p t : ℕ) (own : ProcessState) (table : Table) (fd d : ℕ) → IsUnset (fork_if b p t own table fd) (at_names d)
fork_if_unset false p t own table fd d = refl
fork_if_unset true p t own table fd d = refl

fork_unset : (left p t : ℕ) (own : Option ProcessState) (table : Table) (d : ℕ) (free : Option ℕ) → IsUnset (fork_at left p t own table free) (at_names d)
fork_unset left p t own table d None = refl
fork_unset left p t None table d (Some fd) = refl
fork_unset left p t (Some own) table d (Some fd) = fork_if_unset (can_fork left p t own) p t own table fd d

-- ---- calls on names

-- the first object of those that are made
new_is_made : (o : ℕ) (more : List Part) → has_part (object_parts o ++ more) (at_node o) ≡ true
new_is_made o more = ap (λ b. b || has_part (at_names o ∷ at_chan o ∷ more) (at_node o)) (eq-eqb o o refl)

directory_has : (last : LastName) (d : ℕ) (name : List ℕ) → last ≡ StandsIn d name → has_part (directory_parts last) (at_names d) ≡ true
directory_has last d name is = ap (λ l. has_part (directory_parts l) (at_names d)) is ∙ ap (λ b. b || false) (eq-eqb d d refl)

found_has : (w : Walked) (n : ℕ) → w ≡ Ends (end.Found n) → has_part (found_part w) (at_node n) ≡ true
found_has w n is = ap (λ x. has_part (found_part x) (at_node n)) is ∙ ap (λ b. b || false) (eq-eqb n n refl)

either_holds : {X : Type 0} (P : X → Type 0) (b : Bool) (x y : X) → P x → P y → P (cond b x y)
either_holds P true x y first second = first
either_holds P false x y first second = second

module _ (R : ℕ → Type 0) (t : Tree) where
  making_comes : (kind : NodeKind) (path : List ℕ) (now new : ℕ) (here : Option OpenKind) → R new
      → ComesOf R t ((making kind path).effect now new t here None)
  making_comes kind path now new here is =
      at_name_holds (ComesOf R t) (make_in kind now new t) (λ _. tt) (λ _. tt) (last_name t path here)
      (λ d name _.
      unless_holds (ComesOf R t) errno_of (first_fault (make_faults t d name)) (Changes (with_node kind now new t d name)) (λ _. tt)
      (λ _. node_comes R kind now new t d name is))

  unless_comes : (error : Option Errno) (kind : NodeKind) (path : List ℕ) (now new : ℕ) (here : Option OpenKind) → R new
      → ComesOf R t ((making_unless error (making kind path)).effect now new t here None)
  unless_comes None kind path now new here is = making_comes kind path now new here is
  unless_comes (Some errno) kind path now new here is = tt

  linking_comes : (mode : WalkMode) (path new_path : List ℕ) (now new : ℕ) (here there : Option OpenKind)
      → ((n : ℕ) → walked t mode path here ≡ Ends (end.Found n) → R n) → ComesOf R t ((linking mode path new_path).effect now new t here there)
  linking_comes mode path new_path now new here there found =
      at_found_holds (ComesOf R t) (λ n. at_name (link_in now t n) (last_name t new_path there)) (λ _. tt) (λ _. tt) (walked t mode path here)
      (λ n is.
      at_name_holds (ComesOf R t) (link_in now t n) (λ _. tt) (λ _. tt) (last_name t new_path there)
      (λ d name _.
      unless_holds (ComesOf R t) link_errno (first_fault (link_faults t d name n)) (Changes (with_link now t n d name)) (λ _. tt)
      (λ _. link_comes R now t n d name (found n is))))

  unlink_node_comes : (flags now d : ℕ) (name : List ℕ) (o : Option ℕ) → ComesOf R t (unlink_node flags now t d name o)
  unlink_node_comes flags now d name None = tt
  unlink_node_comes flags now d name (Some n) =
      let goes = Changes (without_name now t d name n) in
      let by : ComesOf R t goes = unlink_comes R now t d name n in
      either_holds (ComesOf R t) (is_directory t n) (cond (removes_directory flags) goes (Refuses Perm)) (cond (removes_directory flags) (Refuses Notdir) goes)
      (either_holds (ComesOf R t) (removes_directory flags) goes (Refuses Perm) by tt)
      (either_holds (ComesOf R t) (removes_directory flags) (Refuses Notdir) goes tt by)

  unlinking_comes : (flags : ℕ) (path : List ℕ) (now new : ℕ) (here : Option OpenKind) → ComesOf R t ((unlinking flags path).effect now new t here None)
  unlinking_comes flags path now new here =
      at_name_holds (ComesOf R t) (unlink_in flags now t) (λ _. tt) (λ _. tt) (last_name t path here)
      (λ d name _.
      unless_lost_holds (ComesOf R t) t (entry_of t d name) _ tt
      (λ _.
      unless_holds (ComesOf R t) (unlink_errno flags) (first_fault (unlink_faults t d name)) (unlink_node flags now t d name (entry_of t d name)) (λ _. tt)
      (λ _. unlink_node_comes flags now d name (entry_of t d name))))

  renaming_comes : (path new_path : List ℕ) (now new : ℕ) (here there : Option OpenKind)
      → ((from : ℕ) (name : List ℕ) → last_name t path here ≡ StandsIn from name → (n : ℕ) → HasName t from name n → R n)
      → ComesOf R t ((renaming path new_path).effect now new t here there)
  renaming_comes path new_path now new here there moved =
      at_name_holds (ComesOf R t) (λ from name. at_name (rename_in now t from name) (last_name t new_path there)) (λ _. tt) (λ _. tt) (last_name t path here)
      (λ from name is.
      at_name_holds (ComesOf R t) (rename_in now t from name) (λ _. tt) (λ _. tt) (last_name t new_path there)
      (λ to new_name _.
      unless_lost_holds (ComesOf R t) t (entry_of t from name) _ tt
      (λ _.
      unless_lost_holds (ComesOf R t) t (entry_of t to new_name) _ tt
      (λ _.
      unless_holds (ComesOf R t) errno_of (first_fault (rename_faults t from name to new_name)) (Changes (move_or_stay now t from name to new_name)) (λ _. tt)
      (λ _. move_comes R t from name to new_name (moved from name is) now)))))

-- ---- file_open

-- the names that come by what is opened, where the process can number the node and the open
abbrev OpensOf : (ℕ → Type 0) → ℕ → Option ProcessState → Tree → Opened → Type 0
OpensOf R p own t (NotOpened errno) = ⊤
OpensOf R p own t (OpenedOutside component) = ⊤
OpensOf R p own t (Opens kind c new_nodes) = can_number p (new_nodes + 1) own ≡ true → ComesBy R t c.tree

module _ (R : ℕ → Type 0) (p : ℕ) (own : Option ProcessState) (oflags flags : ℕ) (path : List ℕ) (now new : ℕ) (t : Tree)
    (fresh : can_number p 2 own ≡ true → R new) where
  sized_comes : (n : ℕ) → ComesBy R t (sized t n now 0)
  sized_comes n =
      let cut : Tree = with_bytes t n (resized (bytes_of t n) 0) in
      either_holds (ComesBy R t) (length (bytes_of t n) == 0) t (retimed cut n (modified now)) (none_comes R t)
      (same_comes R t (retimed cut n (modified now))
      ((retimed_reworks cut n (modified now)).names ∙ (with_bytes-changes t n (resized (bytes_of t n) 0)).names))

  truncated_comes : (n : ℕ) → ComesBy R t (truncated oflags now t n).tree
  truncated_comes n =
      either_holds (λ (c : Change). ComesBy R t c.tree) (truncates oflags) (record { tree = sized t n now 0; nodes = n ∷ []; directories = [] }) (no_change t)
      (sized_comes n) (none_comes R t)

  file_opens : (n : ℕ) → OpensOf R p own t (open_file oflags flags now t n)
  file_opens n =
      either_holds (OpensOf R p own t) (wants_directory oflags) (NotOpened Notdir) (Opens (File n 0 flags) (truncated oflags now t n) 0) tt
      (λ _. truncated_comes n)

  directory_opens : (n : ℕ) → OpensOf R p own t (open_directory oflags flags t n)
  directory_opens n =
      either_holds (OpensOf R p own t) (creates oflags || truncates oflags) (NotOpened Isdir) (Opens (Directory n flags) (no_change t) 0) tt
      (λ _. none_comes R t)

  kind_opens : (n : ℕ) (kind : NodeKind) → OpensOf R p own t (open_kind oflags flags now t n kind)
  kind_opens n (kind.File bytes) = file_opens n
  kind_opens n kind.Directory = directory_opens n
  kind_opens n (kind.Link text) = tt

  node_opens : (n : ℕ) (node : Option Node) → OpensOf R p own t (open_node oflags flags now t n node)
  node_opens n None = tt
  node_opens n (Some node) =
      either_holds (OpensOf R p own t) (makes_new oflags) (NotOpened Exist) (open_kind oflags flags now t n node.kind) tt (kind_opens n node.kind)

  made_opens : (d : ℕ) (name : List ℕ) (fault : Option TreeFault) → OpensOf R p own t (make_file flags now new t d name fault)
  made_opens d name None = λ can. node_comes R (kind.File []) now new t d name (fresh can)
  made_opens d name (Some fault) = tt

  absent_opens : (d : ℕ) (name : List ℕ) → OpensOf R p own t (open_absent oflags flags now new t d name)
  absent_opens d name =
      either_holds (OpensOf R p own t) (creates oflags) (make_file flags now new t d name (first_fault (make_faults t d name))) (NotOpened Noent)
      (made_opens d name (first_fault (make_faults t d name))) tt

  end_opens : (e : PathEnd) → OpensOf R p own t (open_end oflags flags path now new t e)
  end_opens (end.Found n) = node_opens n (get t.nodes n)
  end_opens (end.Absent dir from len) = absent_opens dir (name_at path from len)
  end_opens (end.Last dir from len) = tt

  walk_opens : (w : Walked) → OpensOf R p own t (open_walked oflags flags path now new t w)
  walk_opens (Ends e) = end_opens e
  walk_opens (Fails errno) = tt
  walk_opens (LeadsOutside component) = tt

open_comes : (R : ℕ → Type 0) (U : State) (p : ℕ) (own : Option ProcessState) (table : Table) (stat : FdStat) (o : Opened) (free : Option ℕ)
    → OpensOf R p own (tree_of U) o → ComesBy R (tree_of U) (tree_of (put_all (open_at p own table stat o free).updates U))
open_comes R U p own table stat o None by = none_comes R (tree_of U)
open_comes R U p own table stat o (Some fd) by =
    opened_by p own table stat (λ (x : Outcome). ComesBy R (tree_of U) (tree_of (put_all x.updates U))) (λ reply. none_comes R (tree_of U)) fd o
    (λ kind c new_nodes is can. (
    let opens : OpensOf R p own (tree_of U) (Opens kind c new_nodes) = subst (OpensOf R p own (tree_of U)) is by in
    counted_change_comes R (tree_of U) p (new_nodes + 1) own c
    (put_one (set_table p (insert table fd (opened_descriptor (next_object p own (new_nodes + 1)) kind stat))) (put_one (set_open (next_object p own (new_nodes + 1)) kind) U))
    refl (opens can)))

-- ---- each call

module _ (constants : Constants) (S : State) (who : Who) (table : Table) where
  -- the time, and the first object that its process makes next
  abbrev now : ℕ
  now = real_time constants (tick S).clock

  abbrev own : Option ProcessState
  own = get S.processes who.pid

  abbrev new : ℕ
  new = next_object who.pid own 1

  abbrev open_under : ℕ → Option OpenKind
  open_under fd = open_of (whole (tick S)) (get table fd)

  -- what these names may be of
  abbrev By : Call → ℕ → Type 0
  By c n = Brings S who c table n

  create_brings : (fd : ℕ) (path : List ℕ) (type : ℕ) → ComesBy (By (call.FileCreate fd path type)) (tree_of S) (after constants S who (call.FileCreate fd path type) table)
  create_brings fd path type =
      let R = By (call.FileCreate fd path type) in
      outcome_comes R (tick S) who.pid 1 own ((making kind.Directory path).effect now new (tree_of S) (open_under fd) None)
      (λ can. making_comes R (tree_of S) kind.Directory path now new (open_under fd) (made_now can (new_is_made new [])))

  one_node : (error : Option Errno) (kind : NodeKind) (path : List ℕ) → (making_unless error (making kind path)).new_nodes ≡ 1
  one_node None kind path = refl
  one_node (Some errno) kind path = refl

  symlink_brings : (text : List ℕ) (fd : ℕ) (path : List ℕ)
      → ComesBy (By (call.FileSymlink text fd path)) (tree_of S) (after constants S who (call.FileSymlink text fd path) table)
  symlink_brings text fd path =
      let R = By (call.FileSymlink text fd path) in
      let m : NameMeaning = making_unless (text_error text) (making (kind.Link text) path) in
      let made : has_part (new_parts who.pid m.new_nodes own) (at_node new) ≡ true =
      ap (λ count. has_part (new_parts who.pid count own) (at_node new)) (one_node (text_error text) (kind.Link text) path) ∙ new_is_made new [] in
      outcome_comes R (tick S) who.pid m.new_nodes own (m.effect now new (tree_of S) (open_under fd) None)
      (λ can. unless_comes R (tree_of S) (text_error text) (kind.Link text) path now new (open_under fd) (made_now can made))

  link_brings : (lookup : Lookup) (path : List ℕ) (new_fd : ℕ) (new_path : List ℕ)
      → ComesBy (By (call.FileLink lookup path new_fd new_path)) (tree_of S) (after constants S who (call.FileLink lookup path new_fd new_path) table)
  link_brings lookup path new_fd new_path =
      let R = By (call.FileLink lookup path new_fd new_path) in
      let mode : WalkMode = lookup_mode lookup.flags in
      let w : Walked = walked (tree_of S) mode path (open_under lookup.fd) in
      let second : List Part = directory_parts (last_name (tree_of S) new_path (open_under new_fd)) in
      outcome_comes R (tick S) who.pid 0 own ((linking mode path new_path).effect now new (tree_of S) (open_under lookup.fd) (open_under new_fd))
      (λ _.
      linking_comes R (tree_of S) mode path new_path now new (open_under lookup.fd) (open_under new_fd)
      (λ n is. may_change (has_left (found_part w) second (at_node n) (found_has w n is))))

  unlink_brings : (fd : ℕ) (path : List ℕ) (flags : ℕ)
      → ComesBy (By (call.FileUnlink fd path flags)) (tree_of S) (after constants S who (call.FileUnlink fd path flags) table)
  unlink_brings fd path flags =
      let R = By (call.FileUnlink fd path flags) in
      outcome_comes R (tick S) who.pid 0 own ((unlinking flags path).effect now new (tree_of S) (open_under fd) None)
      (λ _. unlinking_comes R (tree_of S) flags path now new (open_under fd))

  rename_brings : (fd : ℕ) (path : List ℕ) (new_fd : ℕ) (new_path : List ℕ)
      → ComesBy (By (call.FileRename fd path new_fd new_path)) (tree_of S) (after constants S who (call.FileRename fd path new_fd new_path) table)
  rename_brings fd path new_fd new_path =
      let R = By (call.FileRename fd path new_fd new_path) in
      let first : LastName = last_name (tree_of S) path (open_under fd) in
      let second : LastName = last_name (tree_of S) new_path (open_under new_fd) in
      outcome_comes R (tick S) who.pid 0 own ((renaming path new_path).effect now new (tree_of S) (open_under fd) (open_under new_fd))
      (λ _.
      renaming_comes R (tree_of S) path new_path now new (open_under fd) (open_under new_fd)
      (λ from name is n has.
      may_move from name has
      (has_left (directory_parts first) (directory_parts second ++ named_parts (tree_of S) second) (at_names from) (directory_has first from name is))))

  open_brings : (lookup : Lookup) (path : List ℕ) (oflags : ℕ) (stat : FdStat)
      → ComesBy (By (call.FileOpen lookup path oflags stat)) (tree_of S) (after constants S who (call.FileOpen lookup path oflags stat) table)
  open_brings lookup path oflags stat =
      let R = By (call.FileOpen lookup path oflags stat) in
      let w : Walked = walked (tree_of S) (open_mode oflags lookup.flags) path (open_under lookup.fd) in
      open_comes R (tick S) who.pid own table stat (open_walked oflags stat.flags path now new (tree_of S) w) (lowest_free table)
      (walk_opens R who.pid own oflags stat.flags path now new (tree_of S)
      (λ can. made_now can (has_right (object_parts (next_object who.pid own 2)) (object_parts new ++ []) (at_node new) (new_is_made new []))) w)

-- what is written to, and the node of an open, have no names
written_apart : (kind : Option OpenKind) (d : ℕ) → has_part (written_part kind) (at_names d) ≡ false
written_apart None d = refl
written_apart (Some (Terminal which flags)) d = refl
written_apart (Some (File node offset flags)) d = refl
written_apart (Some (Directory node flags)) d = refl
written_apart (Some (End reads writes flags form)) d = (channel_beside writes d).1
written_apart (Some (Process p object)) d = refl

write_apart : (bytes : List ℕ) (S : State) (x : Option Descriptor) (d : ℕ) → has_part (touched_at (writing bytes) S x) (at_names d) ≡ false
write_apart bytes S None d = refl
write_apart bytes S (Some x) d =
    neither (moved_part (has_offset (get S.opens x.id)) x.id) (written_part (get S.opens x.id)) (at_names d) (moved_beside (has_offset (get S.opens x.id)) x.id d).1
    (written_apart (get S.opens x.id) d)

node_apart : (t : Tree) (kind : Option OpenKind) (d : ℕ) → has_part (node_part t kind) (at_names d) ≡ false
node_apart t None d = refl
node_apart t (Some (Terminal which flags)) d = refl
node_apart t (Some (File node offset flags)) d = refl
node_apart t (Some (Directory node flags)) d = refl
node_apart t (Some (End reads writes flags form)) d = refl
node_apart t (Some (Process p object)) d = refl

found_apart : (w : Walked) (d : ℕ) → has_part (found_part w) (at_names d) ≡ false
found_apart (Ends (end.Found n)) d = refl
found_apart (Ends (end.Absent dir from len)) d = refl
found_apart (Ends (end.Last dir from len)) d = refl
found_apart (Fails errno) d = refl
found_apart (LeadsOutside component) d = refl

-- a call that touches nothing of the tree changes no names
no_tree_keeps : (call : Call) → (meaning_of call).numbers ≡ 0 → NoTree (meaning_of call) → Naming call
no_tree_keeps call none apart = keeps none (λ S table d. (apart S table d).1)

map_numbers : (anonymous : Bool) (place : Place) (row : Needed) (length offset : ℕ) → (cond anonymous (map_zeros place) (on_open row (mapping place length offset))).numbers ≡ 0
map_numbers true place row length offset = refl
map_numbers false place row length offset = refl

poll_numbers : (of_lock : Bool) (subscriptions : List Subscription) → (poll_by of_lock subscriptions).numbers ≡ 0
poll_numbers true [] = refl
poll_numbers true (first ∷ rest) = refl
poll_numbers false subscriptions = refl

naming : (call : Call) → Naming call
naming (call.FileCreate fd path type) = brings (λ constants S who table. create_brings constants S who table fd path type)
naming (call.FileSymlink text fd path) = brings (λ constants S who table. symlink_brings constants S who table text fd path)
naming (call.FileLink lookup path new_fd new_path) = brings (λ constants S who table. link_brings constants S who table lookup path new_fd new_path)
naming (call.FileRename fd path new_fd new_path) = brings (λ constants S who table. rename_brings constants S who table fd path new_fd new_path)
naming (call.FileUnlink fd path flags) = brings (λ constants S who table. unlink_brings constants S who table fd path flags)
naming (call.FileOpen lookup path oflags stat) = brings (λ constants S who table. open_brings constants S who table lookup path oflags stat)
naming (call.FdCreate2 kind) = sets_none (λ constants S who table d. create_unset (made_of kind) who.pid who.tid (get S.processes who.pid) table d)
naming (call.ProcFork left) = sets_none (λ constants S who table d. fork_unset left who.pid who.tid (get S.processes who.pid) table d (lowest_free table))
naming (call.FdWrite fd bytes) = keeps refl (λ S table d. write_apart bytes S (get table fd) d)
naming (call.FdPwrite fd bytes offset) = keeps refl (λ S table d. node_apart (tree_of S) (open_of (whole S) (get table fd)) d)
naming (call.FileAllocate fd offset length) = keeps refl (λ S table d. node_apart (tree_of S) (open_of (whole S) (get table fd)) d)
naming (call.FileStatFput fd stat flags) = keeps refl (λ S table d. node_apart (tree_of S) (open_of (whole S) (get table fd)) d)
naming (call.FileStatPut lookup path stat flags) =
    keeps refl (λ S table d. found_apart (walked (tree_of S) (lookup_mode lookup.flags) path (open_of (whole S) (get table lookup.fd))) d)
naming (call.FdRead fd length) = no_tree_keeps (call.FdRead fd length) refl (on_open_beside (base_row fd FD_READ) (reading length) stream_beside)
naming (call.FdSeek fd offset whence) =
    no_tree_keeps (call.FdSeek fd offset whence) refl (on_open_beside (seek_row fd offset whence) (seeking offset whence) (λ kind n. (refl, refl)))
naming (call.FdStatPut fd stat flags) = no_tree_keeps (call.FdStatPut fd stat flags) refl (λ S table. open_beside (get table fd))
naming (call.MemMap place length prot flags fd offset) =
    no_tree_keeps (call.MemMap place length prot flags fd offset) (map_numbers (is_anonymous flags) place (map_row fd prot) length offset)
    (map_beside (is_anonymous flags) place (map_row fd prot) length offset)
naming (call.Poll subscriptions) =
    no_tree_keeps (call.Poll subscriptions) (poll_numbers (begins_with_lock subscriptions) subscriptions)
    (poll_beside (begins_with_lock subscriptions) subscriptions)
naming (call.SockRecv fd length fds flags) =
    no_tree_keeps (call.SockRecv fd length fds flags) refl (on_open_beside (base_row fd FD_READ) (receiving 0 empty length fds flags) received_beside)
naming (call.SockSend fd bytes fds flags) =
    no_tree_keeps (call.SockSend fd bytes fds flags) refl (on_open_beside (base_row fd FD_WRITE) (sending bytes []) sent_beside)
naming (call.SockShutdown fd how) =
    no_tree_keeps (call.SockShutdown fd how) refl (on_open_beside (base_row fd SOCK_SHUTDOWN) (shutting how) shut_beside)
naming _ = keeps refl (λ S table d. refl)

-- ---- before the release, and after it

-- the call isn't refused, and brings a name of the node
pub record IsBrought (S : State) (who : Who) (call : Call) (n : ℕ) : Type 0 where
  pub table : Table
  pub own : get S.tables who.pid ≡ Some table
  pub free : refusal table call ≡ None
  pub by : Brings S who call table n

pub names_brought : (constants : Constants) (S : State) (who : Who) (call : Call)
    → ComesBy (IsBrought S who call) (tree_of S) (tree_of (unreleased constants S who call))
names_brought constants S who call d name n h =
    let o : Outcome = outcome constants S who call in
    outcome_by_cases (λ (x : Outcome). ComesBy (IsBrought S who call) (tree_of S) (tree_of (put_all x.updates (tick S)))) constants S who call
    (λ reply _. none_comes (IsBrought S who call) (tree_of S))
    (λ table own free e other m has.
    elim (naming_comes constants S who call table (naming call) e other m has) [
      | inl before ↦ inl before
      | inr by ↦ inr (record { table = table; own = own; free = free; by = by })
    ])
    d name n (subst (λ t. HasName t d name n) (waits_tree o.answer who _ (put_all o.updates (tick S))) h)

-- a release brings no name
pub released_name : (U : State) (d : ℕ) (name : List ℕ) (n : ℕ) → HasName (tree_of (release U)) d name n → HasName (tree_of U) d name n
released_name U d name n h =
    elim (is_released U (at_names d)) as (λ b. is_released U (at_names d) ≡ b → HasName (tree_of U) d name n) [
      | true ↦ λ ends. absurd (none_is_no n (sym (ap (λ o. get (names_in o) name) (release_ends U (at_names d) ends) ∙ empty_answers name) ∙ h))
      | false ↦ λ stays. same_name (tree_of U) (tree_of (release U)) d name n (release_keeps U (at_names d) stays) h
    ] refl

pub step_names : (constants : Constants) (S : State) (who : Who) (call : Call) (given : Answer) (T : State) → IsStep constants S who call given T
    → ComesBy (IsBrought S who call) (tree_of S) (tree_of T)
step_names constants S who call given T (inl done) d name n h =
    names_brought constants S who call d name n
    (released_name (unreleased constants S who call) d name n (subst (λ V. HasName (tree_of V) d name n) done.1 h))
step_names constants S who call given T (inr lacking) d name n h = inl (subst (λ V. HasName (tree_of V) d name n) lacking.2 h)

brought_touched : (S : State) (who : Who) (call : Call) (n : ℕ) (table : Table) → get S.tables who.pid ≡ Some table → refusal table call ≡ None
    → Brings S who call table n → IsTouchedOrMoved S who call n
brought_touched S who call n table own free (made_now can made) = inl (made_is_touched S who call table own free (at_node n) made)
brought_touched S who call n table own free (may_change part) = inl (changed_is_touched S who call table own free (at_node n) part)
brought_touched S who call n table own free (may_move d name has part) =
    inr (d, name, has, changed_is_touched S who call table own free (at_names d) part)

pub names_are_touched : NamesAreTouched
names_are_touched constants S who call given T d name n valid step h =
    elim (step_names constants S who call given T step d name n h) [
      | inl before ↦ inl before
      | inr by ↦ inr (brought_touched S who call n by.table by.own by.free by.by)
    ]
