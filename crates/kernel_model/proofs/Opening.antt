-- The meaning of the call that opens is proper.
--     opened_by, open_by      what holds of each reply, and of what is set where something is opened, holds of the outcome
--     at_alike, at_plain      the outcome hangs on what is opened;  its reply is plain
--     open_unset, open_others, changes_reached      what it sets, and that it sees what it changes
--     open_reads, walk_seen      what it sees
--     open_own, open_valid      the state after it
--     file_open_is_proper      all of it
use Rattle.std.proofs.Common.{◌≡◌, ◌≢◌, inl, inr, ℕ, zero, suc, ◌+◌, ◌^◌, ◌<◌, ◌||◌, Bool, true, false, cond, List, [], ◌∷◌, ◌++◌, map, Option, Some, None, refl, sym, ap, subst, ◌∙◌, arith}
use Rattle.std.specs.FinMap.{FinMap, get, insert}
use Rattle.std.specs.Ordering.{nat_cmp}
use Rattle.std.specs.List.{AllByRecursion}
use Rattle.abi_base.specs.declared.errno.Errno.TheVariants.{Again, Badf, Exist, Isdir, Mfile, Nomem}
use Rattle.abi_structures.specs.declared.structures.FdStat.{FdStat}
use Rattle.abi_types.specs.declared.call.Lookup.{Lookup}
use Rattle.abi_types.specs.declared.descriptor.Descriptor.{Descriptor}
use Rattle.abi_types.specs.declared.open_kind.OpenKind.{OpenKind}
use Rattle.abi_types.specs.declared.open_kind.OpenKind.TheVariants.{File, Directory, End, Terminal, Process}
use Rattle.abi_types.specs.declared.reply.Answer.TheVariants as answer
use Rattle.abi_types.specs.declared.reply.Reply.{Reply}
use Rattle.maps.specs.Maps.{get-insert-same}
use Rattle.path_lookup.specs.declared.ends.End.{End as PathEnd}
use Rattle.path_lookup.specs.declared.ends.End.TheVariants as end
use Rattle.path_lookup.specs.declared.ends.WalkMode.{WalkMode}
use Rattle.tree_model.specs.Tree.{IsTree}
use Rattle.kernel_model.specs.Families.ClockCalls.{real_time}
use Rattle.kernel_model.specs.Families.DescriptorCalls.{lowest_free}
use Rattle.kernel_model.specs.Families.FileMeaning.{open_of}
use Rattle.kernel_model.specs.Families.FilePaths.{Walked, Ends, Fails, LeadsOutside, found_part, outside_of, path_errors, walked}
use Rattle.kernel_model.specs.Families.LastNames.{StandsIn}
use Rattle.kernel_model.specs.Families.Numbers.{can_number, next_object, new_parts, object_of, object_parts, process_updates}
use Rattle.kernel_model.specs.Families.Opening.{Opened, NotOpened, OpenedOutside, Opens, absent_end_parts, absent_parts, creates, file_open, open_at, open_mode, open_row, open_walked, opened_descriptor, opened_outcome, parts_where, truncates, where_free}
use Rattle.kernel_model.specs.Outcome.{Outcome, replies}
use Rattle.kernel_model.specs.OwnChanges.{IsChangedBy}
use Rattle.kernel_model.specs.Proper.{IsDeniedOutside, IsPlain, IsProper, IsUnset, AllCarryOn, CarriesOn}
use Rattle.kernel_model.specs.Reply.{refused, success}
use Rattle.kernel_model.specs.Sight.{process_parts, behind, reached_by}
use Rattle.kernel_model.specs.State.{State, ProcessState, Part, Table, Tree, Update, at_clock, at_node, at_names, at_chan, at_open, at_proc, at_status, counts_in, has_part, part_of, put_all, put_one, same_part, set_names, set_node, set_open, set_table, tree_of}
use Rattle.kernel_model.specs.Step.{tick}
use Rattle.kernel_model.specs.Families.TreeUpdates.{Change, change_updates}
use Rattle.kernel_model.specs.Fits.{fits, fits_inheriting}
use Rattle.kernel_model.specs.Valid.{AreSole, HasBehind, IsNamed, IsNearlyValid, IsUncounted}
use Rattle.kernel_model.specs.View.{View, restrict, whole}
use Rattle.kernel_model.proofs.Branches.{IsSeen}
use Rattle.kernel_model.proofs.DescriptorCalls.{met_within}
use Rattle.kernel_model.proofs.FileMeanings.{IsOfTree, tree_processes, tree_unset, tree_carries}
use Rattle.kernel_model.proofs.FilePaths.{FailsPlainly, found_is_seen, path_errors_lack, walked_plainly, walked_reads}
use Rattle.kernel_model.proofs.LastNames.{EndsBelow, WalksBelow, all_both, directory_seen, walks_below}
use Rattle.kernel_model.proofs.Lists.{all_weaker}
use Rattle.kernel_model.proofs.NameMeanings.{IsChangeOf}
use Rattle.kernel_model.proofs.NameProper.{HasReached, behind_is_reached, sees_behind, sees_open, process_carries}
use Rattle.kernel_model.proofs.SoleOpens.{more_sole}
use Rattle.kernel_model.proofs.NewOpens.{IsBeside, new_descriptor_nearly_valid, new_open_nearly_valid, put_last}
use Rattle.kernel_model.proofs.ObjectNumbers.{fewer_fit, next_is_absent}
use Rattle.kernel_model.proofs.Opened.{IsFew, IsThere, OpensAlike, OpensBeside, OpensPlainly, OpensWell, Unset, again_among, mfile_among, open_errors, opens_alike, opens_beside, opens_plainly, opens_well, path_among}
use Rattle.kernel_model.proofs.Parts.{KeepsOwn, own_stays, beyond_process, has_left, has_of_both, has_right, number_apart, of_first, of_second, outside_cons}
use Rattle.kernel_model.proofs.Sights.{first_seen}
use Rattle.kernel_model.proofs.Tests.{either_true, not_true}
use Rattle.kernel_model.proofs.TreeUpdates.{both_unset, change_nearly_valid, change_of_tree, counted, counted_holds, counted_more, counted_own, one_object, put_both, put_counted, with_tree}

-- ---- the outcome where something is opened

-- the updates, before those of the tree
abbrev pub open_updates : ℕ → Option ProcessState → Table → FdStat → ℕ → OpenKind → ℕ → List Update → List Update
open_updates p own table stat fd kind new_nodes us =
    set_open (next_object p own (new_nodes + 1)) kind
    ∷ set_table p (insert table fd (opened_descriptor (next_object p own (new_nodes + 1)) kind stat))
    ∷ (process_updates p (new_nodes + 1) own ++ us)

abbrev pub opening : ℕ → Option ProcessState → Table → FdStat → ℕ → OpenKind → ℕ → List Update → Outcome
opening p own table stat fd kind new_nodes us = record { answer = answer.Reply (success fd 0); updates = open_updates p own table stat fd kind new_nodes us }

-- what holds of a refusal, and of the outcome where the test is true
either_outcome : (Q : Outcome → Type 0) (b : Bool) (x y : Outcome) → (b ≡ true → Q x) → Q y → Q (cond b x y)
either_outcome Q true x y first second = first refl
either_outcome Q false x y first second = second

module _ (p : ℕ) (own : Option ProcessState) (table : Table) (stat : FdStat) where
  -- what holds of each reply with nothing set, and of what is set where something is opened, holds of the outcome
  module _ (Q : Outcome → Type 0) (answers : (reply : Reply) → Q (replies reply)) where
    pub opened_by : (fd : ℕ) (o : Opened)
        → ((kind : OpenKind) (c : Change) (new_nodes : ℕ) → o ≡ Opens kind c new_nodes → can_number p (new_nodes + 1) own ≡ true
        → Q (opening p own table stat fd kind new_nodes (change_updates c)))
        → Q (opened_outcome p own table stat fd o)
    opened_by fd (NotOpened errno) opens = answers _
    opened_by fd (OpenedOutside component) opens = answers _
    opened_by fd (Opens kind c new_nodes) opens =
        either_outcome Q (can_number p (new_nodes + 1) own) (opening p own table stat fd kind new_nodes (change_updates c)) _
        (opens kind c new_nodes refl) (answers _)

    open_by : (free : Option ℕ) (o : Opened)
        → ((fd : ℕ) (kind : OpenKind) (c : Change) (new_nodes : ℕ) → o ≡ Opens kind c new_nodes → can_number p (new_nodes + 1) own ≡ true
        → Q (opening p own table stat fd kind new_nodes (change_updates c)))
        → Q (open_at p own table stat o free)
    open_by None o opens = answers _
    open_by (Some fd) o opens = opened_by fd o (opens fd)

  -- ---- it hangs on what is opened, and on what the change of the tree sets

  outcome_alike : (fd : ℕ) (x y : Opened) → OpensAlike x y → opened_outcome p own table stat fd x ≡ opened_outcome p own table stat fd y
  outcome_alike fd (NotOpened errno) y same = ap (opened_outcome p own table stat fd) (sym same)
  outcome_alike fd (OpenedOutside component) y same = ap (opened_outcome p own table stat fd) (sym same)
  outcome_alike fd (Opens kind c new_nodes) y same =
      ap (λ us. cond (can_number p (new_nodes + 1) own) (opening p own table stat fd kind new_nodes us) (replies (refused Again))) same.2
      ∙ ap (opened_outcome p own table stat fd) (sym same.1)

  at_alike : (free : Option ℕ) (x y : Opened) → OpensAlike x y → open_at p own table stat x free ≡ open_at p own table stat y free
  at_alike None x y same = refl
  at_alike (Some fd) x y same = outcome_alike fd x y same

  -- ---- its reply

  opened_plain : (fd : ℕ) (o : Opened) → OpensPlainly o → IsPlain open_errors (opened_outcome p own table stat fd o)
  opened_plain fd (NotOpened errno) plain = (refl, inr (refl, plain))
  opened_plain fd (OpenedOutside component) plain = absurd plain
  opened_plain fd (Opens kind c new_nodes) plain =
      either_outcome (IsPlain open_errors) (can_number p (new_nodes + 1) own) (opening p own table stat fd kind new_nodes (change_updates c)) _
      (λ _. (refl, inl refl)) (refl, inr (refl, again_among))

  walk_plain : (oflags flags : ℕ) (path : List ℕ) (now new : ℕ) (t : Tree) (fd : ℕ) (w : Walked) → FailsPlainly w
      → IsDeniedOutside open_errors (outside_of w) (opened_outcome p own table stat fd (open_walked oflags flags path now new t w))
  walk_plain oflags flags path now new t fd (Ends end) h = opened_plain fd _ (opens_plainly oflags flags path now new t end)
  walk_plain oflags flags path now new t fd (Fails errno) h = (refl, inr (refl, path_among errno h))
  walk_plain oflags flags path now new t fd (LeadsOutside component) h = refl

  at_plain : (oflags flags : ℕ) (path : List ℕ) (now new : ℕ) (t : Tree) (free : Option ℕ) (w : Walked) → FailsPlainly w
      → IsDeniedOutside open_errors (where_free free (outside_of w)) (open_at p own table stat (open_walked oflags flags path now new t w) free)
  at_plain oflags flags path now new t None w h = (refl, inr (refl, mfile_among))
  at_plain oflags flags path now new t (Some fd) w h = walk_plain oflags flags path now new t fd w h

-- ---- what it sets

process_unset : (p count : ℕ) (own : Option ProcessState) (q : Part) → same_part (at_proc p) q ≡ false → Unset (process_updates p count own) q
process_unset p zero own q apart = refl
process_unset p (suc count) None q apart = refl
process_unset p (suc count) (Some own) q apart = ap (λ b. b || false) apart

opening_unset : (p : ℕ) (own : Option ProcessState) (table : Table) (stat : FdStat) (fd : ℕ) (kind : OpenKind) (new_nodes : ℕ) (us : List Update) (q : Part)
    → same_part (at_open (next_object p own (new_nodes + 1))) q ≡ false → same_part (at_proc p) q ≡ false → Unset us q
    → IsUnset (opening p own table stat fd kind new_nodes us) q
opening_unset p own table stat fd kind new_nodes us q apart proc change =
    let rest : List Update = process_updates p (new_nodes + 1) own ++ us in
    ap (λ b. b || (same_part (at_proc p) q || has_part (map part_of rest) q)) apart ∙ ap (λ b. b || has_part (map part_of rest) q) proc
    ∙ both_unset (process_updates p (new_nodes + 1) own) us q (process_unset p (new_nodes + 1) own q proc) change

open_apart : (o : ℕ) (q : Part) → has_part (object_parts o) q ≡ false → same_part (at_open o) q ≡ false
open_apart o q h = (outside_cons (at_open o) (at_node o ∷ at_names o ∷ at_chan o ∷ []) q h).0

-- a part apart from those of two new objects
apart_from_new : (p : ℕ) (own : Option ProcessState) (q : Part) → has_part (new_parts p 2 own) q ≡ false
    → (has_part (object_parts (next_object p own 1)) q ≡ false) × (has_part (object_parts (next_object p own 2)) q ≡ false)
apart_from_new p own q h =
    let second : List Part = object_parts (next_object p own 2) in
    let first : List Part = object_parts (next_object p own 1) in
    (of_first first [] q (of_second second (first ++ []) q h), of_first second (first ++ []) q h)

-- so it is none of the open's that comes behind at most one node
few_apart : (p : ℕ) (own : Option ProcessState) (q : Part) (new_nodes : ℕ) → IsFew new_nodes → has_part (object_parts (next_object p own 1)) q ≡ false
    → has_part (object_parts (next_object p own 2)) q ≡ false → has_part (object_parts (next_object p own (new_nodes + 1))) q ≡ false
few_apart p own q new_nodes (inl is) first second = subst (λ m. has_part (object_parts (next_object p own (m + 1))) q ≡ false) (sym is) first
few_apart p own q new_nodes (inr is) first second = subst (λ m. has_part (object_parts (next_object p own (m + 1))) q ≡ false) (sym is) second

-- what it may change, by where the path leads
abbrev open_changes : ℕ → Walked → List Part
open_changes oflags w = parts_where (creates oflags) (absent_parts w) ++ parts_where (truncates oflags) (found_part w)

walk_beside : (oflags flags : ℕ) (path : List ℕ) (now new : ℕ) (t : Tree) (q : Part) → has_part (object_parts new) q ≡ false
    → (w : Walked) → has_part (open_changes oflags w) q ≡ false → OpensBeside q (open_walked oflags flags path now new t w)
walk_beside oflags flags path now new t q apart (Ends end) h = opens_beside oflags flags path now new t q apart end h
walk_beside oflags flags path now new t q apart (Fails errno) h = tt
walk_beside oflags flags path now new t q apart (LeadsOutside component) h = tt

open_unset : (p : ℕ) (own : Option ProcessState) (table : Table) (stat : FdStat) (free : Option ℕ) (oflags : ℕ) (path : List ℕ) (now : ℕ) (t : Tree)
    (w : Walked) (q : Part)
    → has_part (process_parts p ++ (new_parts p 2 own ++ open_changes oflags w)) q ≡ false
    → IsUnset (open_at p own table stat (open_walked oflags stat.flags path now (next_object p own 1) t w) free) q
open_unset p own table stat free oflags path now t w q h =
    let both = beyond_process p (new_parts p 2 own ++ open_changes oflags w) q h in
    let proc = outside_cons (at_proc p) (at_status p ∷ []) q (outside_cons at_clock (at_proc p ∷ at_status p ∷ []) q both.0).1 in
    let rest = both.1 in
    let apart = apart_from_new p own q (of_first (new_parts p 2 own) (open_changes oflags w) q rest) in
    let beside = walk_beside oflags stat.flags path now (next_object p own 1) t q apart.0 w (of_second (new_parts p 2 own) (open_changes oflags w) q rest) in
    open_by p own table stat (λ o. IsUnset o q) (λ reply. refl) free (open_walked oflags stat.flags path now (next_object p own 1) t w)
    (λ fd kind c new_nodes is can. (
    let sets : OpensBeside q (Opens kind c new_nodes) = subst (OpensBeside q) is beside in
    opening_unset p own table stat fd kind new_nodes (change_updates c) q
    (open_apart (next_object p own (new_nodes + 1)) q (few_apart p own q new_nodes sets.0 apart.0 apart.1)) proc.0 sets.1))

-- nothing that another process has
open_others : (p : ℕ) (own : Option ProcessState) (table : Table) (stat : FdStat) (free : Option ℕ) (o : Opened) (q : ℕ) → q ≢ p
    → IsUnset (open_at p own table stat o free) (at_proc q) × IsUnset (open_at p own table stat o free) (at_status q)
open_others p own table stat free o q apart =
    open_by p own table stat (λ o. IsUnset o (at_proc q) × IsUnset o (at_status q)) (λ reply. (refl, refl)) free o
    (λ fd kind c new_nodes is can. (
    let tree = tree_unset (change_updates c) q (change_of_tree c) in (
      opening_unset p own table stat fd kind new_nodes (change_updates c) (at_proc q) refl (number_apart p q apart) tree.0,
      opening_unset p own table stat fd kind new_nodes (change_updates c) (at_status q) refl refl tree.1,
    )))

-- ---- what it changes it sees

absent_end_seen : (S : State) (kind : Option OpenKind) (end : PathEnd) (q : Part) → EndsBelow (tree_of S) kind end → has_part (absent_end_parts end) q ≡ true
    → has_part (behind S kind) q ≡ true
absent_end_seen S kind (end.Absent dir from len) q under here = directory_seen S kind (StandsIn dir []) q under here
absent_end_seen S kind (end.Found n) q under here = absurd (not_true here)
absent_end_seen S kind (end.Last dir from len) q under here = absurd (not_true here)

absent_seen : (S : State) (kind : Option OpenKind) (w : Walked) (q : Part) → WalksBelow (tree_of S) kind w → has_part (absent_parts w) q ≡ true
    → has_part (behind S kind) q ≡ true
absent_seen S kind (Ends end) q under here = absent_end_seen S kind end q under here
absent_seen S kind (Fails errno) q under here = absurd (not_true here)
absent_seen S kind (LeadsOutside component) q under here = absurd (not_true here)

-- a part of a list that may be left out
part_where : (b : Bool) (parts : List Part) (q : Part) → has_part (parts_where b parts) q ≡ true → has_part parts q ≡ true
part_where true parts q h = h
part_where false parts q h = absurd (not_true h)

changes_seen : (S : State) (oflags : ℕ) (mode : WalkMode) (path : List ℕ) (kind : Option OpenKind) (q : Part)
    → has_part (open_changes oflags (walked (tree_of S) mode path kind)) q ≡ true → has_part (behind S kind) q ≡ true
changes_seen S oflags mode path kind q h =
    let w : Walked = walked (tree_of S) mode path kind in
    let first = parts_where (creates oflags) (absent_parts w) in
    let second = parts_where (truncates oflags) (found_part w) in
    elim (either_true (has_part first q) (has_part second q) (sym (has_of_both first second q) ∙ h)) [
      | inl absent ↦ absent_seen S kind w q (walks_below (tree_of S) mode path kind) (part_where (creates oflags) (absent_parts w) q absent)
      | inr found ↦ found_is_seen S mode path kind q (part_where (truncates oflags) (found_part w) q found)
    ]

changes_reached : (S : State) (oflags : ℕ) (mode : WalkMode) (path : List ℕ) (o : Option Descriptor) (q : Part)
    → has_part (open_changes oflags (walked (tree_of S) mode path (open_of (whole S) o))) q ≡ true → has_part (reached_by S o ++ []) q ≡ true
changes_reached S oflags mode path o q h =
    has_left (reached_by S o) [] q (behind_is_reached S o q (changes_seen S oflags mode path (open_of (whole S) o) q h))

-- ---- what it sees

-- what is seen of a state by a descriptor
abbrev sight_by : State → ℕ → Option Descriptor → View
sight_by S p o = restrict S (process_parts p ++ (reached_by S o ++ []))

module _ (S : State) (p : ℕ) where
  process_seen : (o : Option Descriptor) → (sight_by S p o).process p ≡ get S.processes p
  process_seen o = first_seen p (has_part (at_status p ∷ (reached_by S o ++ [])) (at_proc p)) (get S.processes p)

  all_seen : (o : Option Descriptor) → HasReached S (process_parts p ++ (reached_by S o ++ [])) o
  all_seen o q h = has_right (process_parts p) (reached_by S o ++ []) q (has_left (reached_by S o) [] q h)

  opening_seen : (o : Option Descriptor) → open_of (sight_by S p o) o ≡ open_of (whole S) o
  opening_seen o = sees_open S (process_parts p ++ (reached_by S o ++ [])) o (all_seen o)

  branch_seen : (o : Option Descriptor) → IsSeen (tree_of S) (sight_by S p o).branch (open_of (whole S) o)
  branch_seen o = sees_behind S (process_parts p ++ (reached_by S o ++ [])) o (all_seen o)

  walk_seen : (mode : WalkMode) (path : List ℕ) (o : Option Descriptor)
      → walked (sight_by S p o).branch mode path (open_of (sight_by S p o) o) ≡ walked (tree_of S) mode path (open_of (whole S) o)
  walk_seen mode path o =
      ap (walked (sight_by S p o).branch mode path) (opening_seen o)
      ∙ walked_reads (tree_of S) (sight_by S p o).branch mode path (open_of (whole S) o) (branch_seen o)

-- what it opens, and what it does, by what its process has of its own, the tree and the open
abbrev opened_from : ℕ → FdStat → ℕ → WalkMode → List ℕ → ℕ → Option ProcessState → Tree → Option OpenKind → Opened
opened_from p stat oflags mode path now own t kind =
    open_walked oflags stat.flags path now (next_object p own 1) t (walked t mode path kind)

abbrev opens_by : ℕ → Table → FdStat → ℕ → WalkMode → List ℕ → ℕ → Option ℕ → Option ProcessState → Tree → Option OpenKind → Outcome
opens_by p table stat oflags mode path now free own t kind =
    open_at p own table stat (opened_from p stat oflags mode path now own t kind) free

open_reads : (S : State) (p : ℕ) (table : Table) (stat : FdStat) (oflags : ℕ) (mode : WalkMode) (path : List ℕ) (now : ℕ) (free : Option ℕ)
    (o : Option Descriptor)
    → opens_by p table stat oflags mode path now free ((sight_by S p o).process p) (sight_by S p o).branch (open_of (sight_by S p o) o)
    ≡ opens_by p table stat oflags mode path now free (get S.processes p) (tree_of S) (open_of (whole S) o)
open_reads S p table stat oflags mode path now free o =
    let own : Option ProcessState = get S.processes p in
    let kind : Option OpenKind = open_of (whole S) o in
    ap (λ x. opens_by p table stat oflags mode path now free x (sight_by S p o).branch (open_of (sight_by S p o) o)) (process_seen S p o)
    ∙ ap (opens_by p table stat oflags mode path now free own (sight_by S p o).branch) (opening_seen S p o)
    ∙ at_alike p own table stat free (opened_from p stat oflags mode path now own (sight_by S p o).branch kind)
    (opened_from p stat oflags mode path now own (tree_of S) kind)
    (opens_alike oflags stat.flags path now (next_object p own 1) (tree_of S) (sight_by S p o).branch mode kind (branch_seen S p o))

-- ---- the state after it

-- updates of what the process has of its own, and of the tree, are beside the open and the table
process_beside : (p count : ℕ) (own : Option ProcessState) → AllByRecursion IsBeside (process_updates p count own)
process_beside p zero own = tt
process_beside p (suc count) None = tt
process_beside p (suc count) (Some own) = (tt, tt)

tree_beside : (u : Update) → IsOfTree u → IsBeside u
tree_beside (set_node n node) h = tt
tree_beside (set_names d names) h = tt
tree_beside u h = absurd h

pub rest_beside : (p count : ℕ) (own : Option ProcessState) (c : Change) → AllByRecursion IsBeside (process_updates p count own ++ change_updates c)
rest_beside p count own c =
    all_both IsBeside (process_updates p count own) (change_updates c) (process_beside p count own)
    (all_weaker IsOfTree IsBeside tree_beside (change_updates c) (change_of_tree c))

open_own : (S : State) (p : ℕ) (table : Table) (stat : FdStat) (free : Option ℕ) (o : Opened)
    → KeepsOwn S p (open_at p (get S.processes p) table stat o free)
open_own S p table stat free o =
    open_by p (get S.processes p) table stat (KeepsOwn S p) (λ reply. own_stays (get S.processes p)) free o
    (λ fd kind c new_nodes is can. (
    let us : List Update = process_updates p (new_nodes + 1) (get S.processes p) ++ change_updates c in
    subst (IsChangedBy (λ own. own) (get S.processes p))
    (sym (ap (λ (T : State). get T.processes p) (put_last (next_object p (get S.processes p) (new_nodes + 1)) kind p _ us S (rest_beside p (new_nodes + 1) (get S.processes p) c))
    ∙ ap (λ (T : State). get T.processes p) (put_both (process_updates p (new_nodes + 1) (get S.processes p)) (change_updates c) S)
    ∙ ap (λ processes. get processes p) (tree_processes (change_updates c) (counted p (new_nodes + 1) S) (change_of_tree c))))
    (counted_own S p (new_nodes + 1))))

there_behind : (S : State) (u : Tree) (kind : OpenKind) → IsThere u kind → HasBehind (with_tree u S) kind
there_behind S u (File n offset flags) h = h
there_behind S u (Directory n flags) h = h
there_behind S u (End reads writes flags form) h = absurd h
there_behind S u (Terminal which flags) h = absurd h
there_behind S u (Process q object) h = absurd h

-- it is of no process and no end of a channel
there_sole : (opens : FinMap nat_cmp OpenKind) (o : ℕ) (u : Tree) (kind : OpenKind) → IsThere u kind → AreSole opens → AreSole (insert opens o kind)
there_sole opens o u (File n offset flags) h sole = more_sole opens o (File n offset flags) (λ k. (refl, refl, refl)) sole
there_sole opens o u (Directory n flags) h sole = more_sole opens o (Directory n flags) (λ k. (refl, refl, refl)) sole
there_sole opens o u (End reads writes flags form) h sole = absurd h
there_sole opens o u (Terminal which flags) h sole = absurd h
there_sole opens o u (Process q object) h sole = absurd h

-- a process has opened this, and changed the tree for it
module _ (S : State) (p : ℕ) (table : Table) (has_table : get S.tables p ≡ Some table) (v : IsNearlyValid S) (kind : OpenKind) (c : Change) (new_nodes : ℕ)
    (can : can_number p (new_nodes + 1) (get S.processes p) ≡ true) (change : IsChangeOf (tree_of S) (next_object p (get S.processes p) 1) new_nodes c)
    (there : IsThere c.tree kind) where
  -- the state before the open is there
  abbrev changed : State
  changed = with_tree c.tree (counted p (new_nodes + 1) S)

  abbrev new_open : ℕ
  new_open = next_object p (get S.processes p) (new_nodes + 1)

  changed_valid : IsNearlyValid changed
  changed_valid = change_nearly_valid S p (new_nodes + 1) (next_object p (get S.processes p) 1) new_nodes c can change (λ _. refl) (omega arith) v

  counted_opens : (counted p (new_nodes + 1) S).opens ≡ S.opens
  counted_opens = counted_holds (λ (T : State). T.opens ≡ S.opens) S p (new_nodes + 1) refl (λ own _. refl)

  counted_tables : (counted p (new_nodes + 1) S).tables ≡ S.tables
  counted_tables = counted_holds (λ (T : State). T.tables ≡ S.tables) S p (new_nodes + 1) refl (λ own _. refl)

  fit : (p < 0xffffffff) × ((counts_in (get S.processes p)).objects + (new_nodes + 1) < 2 ^ 32)
  fit = fewer_fit p (new_nodes + 1) (new_nodes + 1) (get S.processes p) (omega arith) (omega arith) can

  new_open_absent : get changed.opens new_open ≡ None
  new_open_absent = ap (λ m. get m new_open) counted_opens ∙ (next_is_absent S p (new_nodes + 1) (new_nodes + 1) v (omega arith) (omega arith) can).0

  -- its number is none that a process has yet to make
  new_open_apart : (q k : ℕ) → q < 0xffffffff → IsUncounted changed q k → k < 2 ^ 32 → object_of q k ≢ new_open
  new_open_apart q k small beyond fits is =
      let made : ℕ = (counts_in (get S.processes p)).objects in
      let at = one_object p q (made + (new_nodes + 1)) k is fits fit.1 in
      let number : k ≡ made + (new_nodes + 1) = at.1 in
      let total : (counts_in (get changed.processes p)).objects ≡ made + (new_nodes + 1) = counted_more S p (new_nodes + 1) can in
      let past : (counts_in (get changed.processes p)).objects < k = subst (λ r. (counts_in (get changed.processes r)).objects < k) at.0 beyond.1 in
      absurd (omega (arith, number, total, past))

  opened_valid : IsNearlyValid (put_one (set_open new_open kind) changed)
  opened_valid =
      new_open_nearly_valid changed new_open kind new_open_absent changed_valid (there_behind (counted p (new_nodes + 1) S) c.tree kind there)
      (there_sole changed.opens new_open c.tree kind there changed_valid.sole) new_open_apart

  new_descriptor_named : (stat : FdStat) → IsNamed (get (insert changed.opens new_open kind) new_open) (opened_descriptor new_open kind stat)
  new_descriptor_named stat =
      subst (λ o. IsNamed o (opened_descriptor new_open kind stat)) (sym (get-insert-same changed.opens new_open kind))
      (met_within (fits kind) stat.base.0, met_within (fits_inheriting kind) stat.inheriting.0)

  opening_valid : (stat : FdStat) (fd : ℕ)
      → IsNearlyValid (put_all (opening p (get S.processes p) table stat fd kind new_nodes (change_updates c)).updates S)
  opening_valid stat fd =
      let new_table : Table = insert table fd (opened_descriptor new_open kind stat) in
      let us : List Update = process_updates p (new_nodes + 1) (get S.processes p) ++ change_updates c in
      let state : put_all us S ≡ changed = put_counted S p (new_nodes + 1) (next_object p (get S.processes p) 1) new_nodes c can change (λ _. refl) (omega arith) v in
      subst IsNearlyValid
      (sym (put_last new_open kind p new_table us S (rest_beside p (new_nodes + 1) (get S.processes p) c)
      ∙ ap (λ (T : State). put_one (set_table p new_table) (put_one (set_open new_open kind) T)) state))
      (new_descriptor_nearly_valid (put_one (set_open new_open kind) changed) p table (ap (λ m. get m p) counted_tables ∙ has_table) opened_valid fd
      (opened_descriptor new_open kind stat) (new_descriptor_named stat))

pub walk_well : (oflags flags : ℕ) (path : List ℕ) (now new : ℕ) (t : Tree) (w : Walked) → IsTree t → get t.nodes new ≡ None
    → OpensWell t new (open_walked oflags flags path now new t w)
walk_well oflags flags path now new t (Ends end) tree none = opens_well oflags flags path now new t tree none end
walk_well oflags flags path now new t (Fails errno) tree none = tt
walk_well oflags flags path now new t (LeadsOutside component) tree none = tt

open_valid : (S : State) (p : ℕ) (table : Table) (stat : FdStat) (oflags : ℕ) (mode : WalkMode) (path : List ℕ) (now : ℕ) (free : Option ℕ) (fd : ℕ)
    (o : Option Descriptor) → get S.tables p ≡ Some table → get table fd ≡ o → IsNearlyValid S
    → IsNearlyValid (put_all (opens_by p table stat oflags mode path now free (get S.processes p) (tree_of S) (open_of (whole S) o)).updates S)
open_valid S p table stat oflags mode path now free fd None there here v =
    open_by p (get S.processes p) table stat (λ (x : Outcome). IsNearlyValid (put_all x.updates S)) (λ reply. v) free
    (opened_from p stat oflags mode path now (get S.processes p) (tree_of S) None)
    (λ number kind c new_nodes is can. absurd (not_opened kind c new_nodes is)) where
      not_opened : (kind : OpenKind) (c : Change) (new_nodes : ℕ) → NotOpened Badf ≢ Opens kind c new_nodes
      not_opened kind c new_nodes e = cc
open_valid S p table stat oflags mode path now free fd (Some d) there here v =
    let new : ℕ = next_object p (get S.processes p) 1 in
    let w : Walked = walked (tree_of S) mode path (get S.opens d.id) in
    open_by p (get S.processes p) table stat (λ (x : Outcome). IsNearlyValid (put_all x.updates S)) (λ reply. v) free
    (opened_from p stat oflags mode path now (get S.processes p) (tree_of S) (get S.opens d.id))
    (λ number kind c new_nodes is can. (
    let none = (next_is_absent S p 1 (new_nodes + 1) v (omega arith) (omega arith) can).1 in
    let well : OpensWell (tree_of S) new (Opens kind c new_nodes) =
    subst (OpensWell (tree_of S) new) is (walk_well oflags stat.flags path now new (tree_of S) w v.tree none) in
    opening_valid S p table there v kind c new_nodes can well.1 well.2 stat number))

-- ---- file_open

open_errors_lack : AllByRecursion (λ errno. errno ≢ Nomem) open_errors
open_errors_lack =
    all_both (λ errno. errno ≢ Nomem) path_errors (Mfile ∷ Exist ∷ Isdir ∷ Again ∷ []) path_errors_lack ((λ e. cc), ((λ e. cc), ((λ e. cc), ((λ e. cc), tt))))

pub file_open_is_proper : (lookup : Lookup) (path : List ℕ) (oflags : ℕ) (stat : FdStat) → IsProper (file_open lookup path oflags stat)
file_open_is_proper lookup path oflags stat = record {
  names = (([], [], refl), tt);
  sees = (inl (open_row lookup.fd oflags stat, ([], [], refl), refl), tt);
  reads = λ constants S who table.
      open_reads S who.pid table stat oflags (open_mode oflags lookup.flags) path (real_time constants S.clock) (lowest_free table) (get table lookup.fd);
  walks = λ S who table.
      ap (λ w. where_free (lowest_free table) (outside_of w)) (walk_seen S who.pid (open_mode oflags lookup.flags) path (get table lookup.fd));
  sets = λ constants S who table part h.
      open_unset who.pid (get S.processes who.pid) table stat (lowest_free table) oflags path (real_time constants (tick S).clock) (tree_of S)
      (walked (tree_of S) (open_mode oflags lookup.flags) path (open_of (whole S) (get table lookup.fd))) part h;
  touched = λ S table part h. changes_reached S oflags (open_mode oflags lookup.flags) path (get table lookup.fd) part h;
  plain = λ constants v who table.
      at_plain who.pid (v.process who.pid) table stat oflags stat.flags path (real_time constants v.clock) (next_object who.pid (v.process who.pid) 1) v.branch
      (lowest_free table) (walked v.branch (open_mode oflags lookup.flags) path (open_of v (get table lookup.fd)))
      (walked_plainly v.branch (open_mode oflags lookup.flags) path (open_of v (get table lookup.fd)));
  waits = λ h. absurd (not_true h);
  lacks = λ _. open_errors_lack;
  others = λ constants v who table q apart _.
      open_others who.pid (v.process who.pid) table stat (lowest_free table)
      (opened_from who.pid stat oflags (open_mode oflags lookup.flags) path (real_time constants v.clock) (v.process who.pid) v.branch
      (open_of v (get table lookup.fd)))
      q apart;
  own = λ constants S who table.
      inl (open_own S who.pid table stat (lowest_free table)
      (opened_from who.pid stat oflags (open_mode oflags lookup.flags) path (real_time constants S.clock) (get S.processes who.pid) (tree_of S)
      (open_of (whole S) (get table lookup.fd))));
  allows = λ constants S who table. tt;
  carries = λ constants S who table nearly.
      open_by who.pid (get S.processes who.pid) table stat (AllCarryOn S (table, [], false)) (λ reply. tt) (lowest_free table)
      (opened_from who.pid stat oflags (open_mode oflags lookup.flags) path (real_time constants S.clock) (get S.processes who.pid) (tree_of S)
      (open_of (whole S) (get table lookup.fd)))
      (λ fd kind c new_nodes is can. (
        tt,
        (
          tt,
          all_both (CarriesOn S (table, [], false)) (process_updates who.pid (new_nodes + 1) (get S.processes who.pid)) (change_updates c)
              (process_carries S (table, [], false) who.pid (new_nodes + 1) (get S.processes who.pid)) (tree_carries S (table, [], false) (change_updates c) (change_of_tree c)),
        ),
      ));
  valid = λ constants S who table there nearly.
      open_valid S who.pid table stat oflags (open_mode oflags lookup.flags) path (real_time constants S.clock) (lowest_free table) lookup.fd
      (get table lookup.fd) there refl nearly;
}
