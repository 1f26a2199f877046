-- What a meaning on the open of one descriptor keeps to, and that it is then proper.
--     IsOfTree, SetsTree, tree_unset, tree_processes, tree_tables      updates of the file tree alone set nothing of a process, and keep
--         what it has of its own and its descriptors
--     KeepsWell m      what is shown of each such meaning
--     file_is_proper      it is proper
use Rattle.std.proofs.Common.{◌≡◌, ◌≢◌, inl, ℕ, ◌||◌, true, false, List, [], ◌∷◌, ◌++◌, map, Option, Some, None, refl, ap, ◌∙◌}
use Rattle.std.specs.Prelude.{⊤}
use Rattle.std.specs.FinMap.{get}
use Rattle.std.specs.List.{AllByRecursion}
use Rattle.abi_base.specs.declared.errno.Errno.TheVariants.{Nomem}
use Rattle.abi_types.specs.declared.descriptor.Descriptor.{Descriptor}
use Rattle.abi_types.specs.declared.needed.Needed.{Needed}
use Rattle.abi_types.specs.declared.open_kind.OpenKind.{OpenKind}
use Rattle.kernel_model.specs.Families.ClockCalls.{real_time}
use Rattle.kernel_model.specs.Families.FileMeaning.{FileMeaning, open_of, on_open}
use Rattle.kernel_model.specs.Outcome.{Outcome}
use Rattle.kernel_model.specs.Proper.{CarriesOn, IsDeniedOutside, IsProper, IsUnset, Sender, may_send}
use Rattle.kernel_model.specs.Sight.{process_parts, behind, reached_by}
use Rattle.kernel_model.specs.State.{State, Tree, tree_of, Part, Update, at_proc, at_status, at_open, same_part, has_part, part_of, put_all, put_one, set_node, set_names, set_chan}
use Rattle.kernel_model.specs.Step.{tick}
use Rattle.kernel_model.specs.Valid.{HasBehind, IsNearlyValid}
use Rattle.kernel_model.specs.View.{restrict, whole}
use Rattle.kernel_model.proofs.Branches.{IsSeen, behind_is_seen}
use Rattle.kernel_model.proofs.Parts.{own_same, beyond_process, has_of_both}
use Rattle.kernel_model.proofs.Sights.{open_seen}
use Rattle.kernel_model.proofs.Tests.{none_is_no, not_true, or_false, or_true}

-- ---- updates of the file tree

-- the update is of a node or of the names in a directory
abbrev pub IsOfTree : Update → Type 0
IsOfTree (set_node n node) = ⊤
IsOfTree (set_names n names) = ⊤
IsOfTree _ = ⊥

-- the outcome sets parts of the tree alone
abbrev pub SetsTree : Outcome → Type 0
SetsTree o = AllByRecursion IsOfTree o.updates

-- such an update is none of what a process has of its own
one_unset : (u : Update) (q : ℕ) → IsOfTree u → (same_part (part_of u) (at_proc q) ≡ false) × (same_part (part_of u) (at_status q) ≡ false)
one_unset (set_node n node) q h = (refl, refl)
one_unset (set_names n names) q h = (refl, refl)
one_unset u q h = absurd h

pub tree_unset : (us : List Update) (q : ℕ) → AllByRecursion IsOfTree us
    → (has_part (map part_of us) (at_proc q) ≡ false) × (has_part (map part_of us) (at_status q) ≡ false)
tree_unset [] q h = (refl, refl)
tree_unset (u ∷ us) q h =
    let one = one_unset u q h.0 in
    let rest = tree_unset us q h.1 in (
      ap (λ b. b || has_part (map part_of us) (at_proc q)) one.0 ∙ rest.0,
      ap (λ b. b || has_part (map part_of us) (at_status q)) one.1 ∙ rest.1,
    )

one_processes : (u : Update) (S : State) → IsOfTree u → (put_one u S).processes ≡ S.processes
one_processes (set_node n node) S h = refl
one_processes (set_names n names) S h = refl
one_processes u S h = absurd h

pub tree_processes : (us : List Update) (S : State) → AllByRecursion IsOfTree us → (put_all us S).processes ≡ S.processes
tree_processes [] S h = refl
tree_processes (u ∷ us) S h = tree_processes us (put_one u S) h.1 ∙ one_processes u S h.0

one_tables : (u : Update) (S : State) → IsOfTree u → (put_one u S).tables ≡ S.tables
one_tables (set_node n node) S h = refl
one_tables (set_names n names) S h = refl
one_tables u S h = absurd h

one_carries : (S : State) (sender : Sender) (u : Update) → IsOfTree u → CarriesOn S sender u
one_carries S sender (set_chan c channel) h = absurd h
one_carries S sender u h = tt

pub tree_carries : (S : State) (sender : Sender) (us : List Update) → AllByRecursion IsOfTree us → AllByRecursion (CarriesOn S sender) us
tree_carries S sender [] h = tt
tree_carries S sender (u ∷ us) h = (one_carries S sender u h.0, tree_carries S sender us h.1)

pub tree_tables : (us : List Update) (S : State) → AllByRecursion IsOfTree us → (put_all us S).tables ≡ S.tables
tree_tables [] S h = refl
tree_tables (u ∷ us) S h = tree_tables us (put_one u S) h.1 ∙ one_tables u S h.0

-- what stands behind a descriptor's open is there
pub open_has_behind : (S : State) (o : Option Descriptor) → IsNearlyValid S → (k : OpenKind) → open_of (whole S) o ≡ Some k → HasBehind S k
open_has_behind S None nearly k is = absurd (none_is_no k is)
open_has_behind S (Some d) nearly k is = nearly.behind d.id k is

-- ---- meanings

pub record KeepsWell (m : FileMeaning) : Type 0 where
  -- by what it sees of the tree it does what it does by the whole, and its path leads where it does
  pub reads : (now : ℕ) (t u : Tree) (kind : Option OpenKind) → IsSeen t u kind → m.effect now u kind ≡ m.effect now t kind
  pub walks : (t u : Tree) (kind : Option OpenKind) → IsSeen t u kind → m.outside u kind ≡ m.outside t kind
  -- it sets parts of the tree, and none that it doesn't say; and it sees these
  pub tree : (now : ℕ) (t : Tree) (kind : Option OpenKind) → SetsTree (m.effect now t kind)
  pub sets : (now : ℕ) (t : Tree) (kind : Option OpenKind) (q : Part) → has_part (m.touched t kind) q ≡ false → IsUnset (m.effect now t kind) q
  pub seen : (S : State) (kind : Option OpenKind) (q : Part) → has_part (m.touched (tree_of S) kind) q ≡ true → has_part (behind S kind) q ≡ true
  -- its reply
  pub plain : (now : ℕ) (t : Tree) (kind : Option OpenKind) → IsDeniedOutside m.errors (m.outside t kind) (m.effect now t kind)
  pub lacks : m.takes_memory ≡ true → AllByRecursion (λ errno. errno ≢ Nomem) m.errors
  -- where what stands behind the open is there, it leaves a nearly valid state so
  pub valid : (now : ℕ) (S : State) (kind : Option OpenKind) → ((k : OpenKind) → kind ≡ Some k → HasBehind S k) → IsNearlyValid S
      → IsNearlyValid (put_all (m.effect now (tree_of S) kind).updates S)

module _ (m : FileMeaning) (well : KeepsWell m) where
  file_reads : (now : ℕ) (S : State) (p : ℕ) (o : Option Descriptor)
      → m.effect now (restrict S (process_parts p ++ (reached_by S o ++ []))).branch (open_of (restrict S (process_parts p ++ (reached_by S o ++ []))) o)
      ≡ m.effect now (tree_of S) (open_of (whole S) o)
  file_reads now S p None = well.reads now (tree_of S) (restrict S (process_parts p ++ [])).branch None tt
  file_reads now S p (Some d) =
      ap (m.effect now (restrict S (process_parts p ++ (reached_by S (Some d) ++ []))).branch) (open_seen S p d)
      ∙ well.reads now (tree_of S) (restrict S (process_parts p ++ (reached_by S (Some d) ++ []))).branch (get S.opens d.id)
      (behind_is_seen S p d.id (get S.opens d.id))

  file_walks : (S : State) (p : ℕ) (o : Option Descriptor)
      → m.outside (restrict S (process_parts p ++ (reached_by S o ++ []))).branch (open_of (restrict S (process_parts p ++ (reached_by S o ++ []))) o)
      ≡ m.outside (tree_of S) (open_of (whole S) o)
  file_walks S p None = well.walks (tree_of S) (restrict S (process_parts p ++ [])).branch None tt
  file_walks S p (Some d) =
      ap (m.outside (restrict S (process_parts p ++ (reached_by S (Some d) ++ []))).branch) (open_seen S p d)
      ∙ well.walks (tree_of S) (restrict S (process_parts p ++ (reached_by S (Some d) ++ []))).branch (get S.opens d.id)
      (behind_is_seen S p d.id (get S.opens d.id))

  file_seen : (S : State) (o : Option Descriptor) (q : Part) → has_part (m.touched (tree_of S) (open_of (whole S) o)) q ≡ true
      → has_part (reached_by S o ++ []) q ≡ true
  file_seen S None q h = well.seen S None q h
  file_seen S (Some d) q h =
      has_of_both (reached_by S (Some d)) [] q ∙ or_false (has_part (reached_by S (Some d)) q)
      ∙ ap (λ b. same_part (at_open d.id) q || b) (well.seen S (get S.opens d.id) q h) ∙ or_true (same_part (at_open d.id) q)

  pub file_is_proper : (row : Needed) → IsProper (on_open row m)
  file_is_proper row = record {
    names = (([], [], refl), tt);
    sees = (inl (row, ([], [], refl), refl), tt);
    reads = λ constants S who table. file_reads (real_time constants S.clock) S who.pid (get table row.fd);
    walks = λ S who table. file_walks S who.pid (get table row.fd);
    sets = λ constants S who table part h.
        well.sets (real_time constants (tick S).clock) (tree_of S) (open_of (whole S) (get table row.fd)) part
        (beyond_process who.pid (m.touched (tree_of S) (open_of (whole S) (get table row.fd))) part h).1;
    touched = λ S table part h. file_seen S (get table row.fd) part h;
    plain = λ constants v who table. well.plain (real_time constants v.clock) v.branch (open_of v (get table row.fd));
    waits = λ h. absurd (not_true h);
    lacks = well.lacks;
    others = λ constants v who table q apart _.
        tree_unset (m.effect (real_time constants v.clock) v.branch (open_of v (get table row.fd))).updates q
        (well.tree (real_time constants v.clock) v.branch (open_of v (get table row.fd)));
    own = λ constants S who table.
        inl (own_same (get S.processes who.pid) _
        (ap (λ processes. get processes who.pid)
        (tree_processes (m.effect (real_time constants S.clock) (tree_of S) (open_of (whole S) (get table row.fd))).updates S
        (well.tree (real_time constants S.clock) (tree_of S) (open_of (whole S) (get table row.fd))))));
    allows = λ constants S who table. tt;
    carries = λ constants S who table nearly.
        tree_carries S (table, [], may_send m.errors) (m.effect (real_time constants S.clock) (tree_of S) (open_of (whole S) (get table row.fd))).updates
        (well.tree (real_time constants S.clock) (tree_of S) (open_of (whole S) (get table row.fd)));
    valid = λ constants S who table there nearly.
        well.valid (real_time constants S.clock) S (open_of (whole S) (get table row.fd)) (open_has_behind S (get table row.fd) nearly) nearly;
  }
