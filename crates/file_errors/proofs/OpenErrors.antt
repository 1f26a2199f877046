-- The errors of file_open are as listed.
use Rattle.std.proofs.Common.{◌≡◌, ◌⊎◌, ℕ, ◌==◌, ◌||◌, Bool, true, false, cond, not, List, Option, Some, inl, inr, refl, sym, ap, ◌∙◌}
use Rattle.std.proofs.lemmas.Bool.Decides.{Decides-and, Decides-like, Decides-or}
use Rattle.std.specs.Bool.{Decides}
use Rattle.std.specs.FinMap.{get}
use Rattle.std.specs.Int.RustNames.{bit_and}
use Rattle.abi_base.specs.declared.errno.Errno.TheVariants.{Badf, Exist, Isdir, Loop, Mfile, Noent, Notdir}
use Rattle.abi_structures.specs.declared.structures.FdStat.{FdStat}
use Rattle.abi_types.specs.declared.call.Call.TheVariants.{FileOpen}
use Rattle.abi_types.specs.declared.node.Node.{Node}
use Rattle.abi_types.specs.declared.node.NodeKind.{NodeKind}
use Rattle.abi_types.specs.declared.node.NodeKind.TheVariants as kind
use Rattle.abi_types.specs.declared.open_kind.OpenKind.TheVariants.{File, Directory}
use Rattle.abi_types.specs.declared.reply.Answer.{Answer}
use Rattle.path_lookup.specs.declared.ends.End.{End as PathEnd}
use Rattle.path_lookup.specs.declared.ends.End.TheVariants as end
use Rattle.path_lookup.specs.declared.ends.WalkMode.{WalkMode}
use Rattle.path_lookup.specs.declared.ends.WalkMode.TheVariants.{Follow, NoFollow, Parent}
use Rattle.tree_model.specs.Changes.{first_fault, make_faults}
use Rattle.tree_model.specs.Tree.{is_directory, is_directory_kind, is_directory_node}
use Rattle.tree_model.specs.declared.fault.TreeFault.{TreeFault}
use Rattle.kernel_model.specs.Families.ClockCalls.{real_time}
use Rattle.kernel_model.specs.Families.DescriptorCalls.{lowest_free}
use Rattle.kernel_model.specs.Families.FileMeaning.{open_of}
use Rattle.kernel_model.specs.Families.FilePaths.{lookup_mode, walked}
use Rattle.kernel_model.specs.Families.LastNames.{name_at}
use Rattle.kernel_model.specs.Families.Numbers.{next_object}
use Rattle.kernel_model.specs.Families.Opening.{Opened, NotOpened, Opens, creates, make_file, makes_new, open_at, open_end, open_kind, open_mode, open_node, open_walked, opened_outcome, truncated, truncates, wants_directory}
use Rattle.kernel_model.specs.Families.TreeUpdates.{no_change}
use Rattle.kernel_model.specs.OpenConditions.{AsksNew, HasCreat, HasDirectory, HasTrunc}
use Rattle.kernel_model.specs.State.{ProcessState, State, Table, tree_of}
use Rattle.kernel_model.specs.Step.{tick}
use Rattle.kernel_model.specs.View.{whole}
use Rattle.kernel_model.proofs.Tests.{not_true}
use Rattle.file_errors.specs.DescriptorErrors.{IsFull}
use Rattle.file_errors.specs.NameErrors.{make_rows, number_rows}
use Rattle.file_errors.specs.OpenErrors.{IsOpenMode, OpenErrorsAreListed, open_rows}
use Rattle.file_errors.specs.PathErrors.{IsLink, path_rows}
use Rattle.file_errors.specs.Tables.{Answers, Rows, row}
use Rattle.file_errors.proofs.DescriptorErrors.{full_listed}
use Rattle.file_errors.proofs.Flags.{flag_decides}
use Rattle.file_errors.proofs.NameErrors.{make_listed, numbers_listed}
use Rattle.file_errors.proofs.PathErrors.{mode_is, no_link, path_listed}
use Rattle.file_errors.proofs.Rows.{Whatever, by_none, by_row, by_test, listed_on, tells}

-- ---- flags

new_decides : (oflags : ℕ) → Decides (makes_new oflags) (AsksNew oflags)
new_decides oflags = Decides-and (creates oflags) (not (bit_and oflags 4 == 0)) (flag_decides oflags 0) (flag_decides oflags 2)

mode_by : (asks : Bool) (oflags flags : ℕ) (mode : WalkMode) → Decides asks (AsksNew oflags) → IsOpenMode oflags flags mode
    → cond asks NoFollow (lookup_mode flags) ≡ mode
mode_by true oflags flags Follow new is = absurd (is.0 (new.0 refl))
mode_by false oflags flags Follow new is = mode_is flags Follow is.1
mode_by true oflags flags NoFollow new is = refl
mode_by false oflags flags NoFollow new (inl asks) = absurd (not_true (new.1 asks))
mode_by false oflags flags NoFollow new (inr unset) = mode_is flags NoFollow unset
mode_by asks oflags flags Parent new is = absurd is

open_mode_is : (oflags flags : ℕ) (mode : WalkMode) → IsOpenMode oflags flags mode → open_mode oflags flags ≡ mode
open_mode_is oflags flags mode is = mode_by (makes_new oflags) oflags flags mode (new_decides oflags) is

-- ---- what stands at the end of the path

module _ (oflags : ℕ) (stat : FdStat) (path : List ℕ) (now new p : ℕ) (S : State) (table : Table) (fd : ℕ) where
  abbrev own : Option ProcessState
  own = get S.processes p

  abbrev answer_of : Opened → Answer
  answer_of o = (opened_outcome p own table stat fd o).answer

  abbrev other_rows : ℕ → Rows
  other_rows n = row ((is_directory (tree_of S) n ≡ false) × HasDirectory oflags) Notdir (number_rows p 1 own)

  abbrev kind_rows : ℕ → Rows
  kind_rows n = row (IsLink S n) Loop (row ((is_directory (tree_of S) n ≡ true) × (HasCreat oflags ⊎ HasTrunc oflags)) Isdir (other_rows n))

  module _ (n : ℕ) (node : Node) (here : get S.nodes n ≡ Some node) where
    is_directory_by : (k : NodeKind) → node.kind ≡ k → is_directory (tree_of S) n ≡ is_directory_kind k
    is_directory_by k is = ap is_directory_node here ∙ ap is_directory_kind is

    kind_listed : (k : NodeKind) → node.kind ≡ k → Answers (kind_rows n) (answer_of (open_kind oflags stat.flags now (tree_of S) n k))
    kind_listed (kind.Link text) is = inl ((node, here, text, is), refl)
    kind_listed (kind.File bytes) is =
        let plain : is_directory (tree_of S) n ≡ false = is_directory_by (kind.File bytes) is in
        inr (
          no_link S n node (kind.File bytes) here is (λ text e. cc),
          inr (
            λ h. not_true (sym plain ∙ h.0),
            by_row answer_of (wants_directory oflags) (NotOpened Notdir) (Opens (File n 0 stat.flags) (truncated oflags now (tree_of S) n) 0)
                ((is_directory (tree_of S) n ≡ false) × HasDirectory oflags) Notdir (number_rows p 1 own)
                (Decides-like (wants_directory oflags) (λ asked. (plain, asked)) (λ h. h.1) (flag_decides oflags 1)) refl
                (λ _. numbers_listed _ refl p 0 own),
          ),
        )
    kind_listed kind.Directory is =
        let directory : is_directory (tree_of S) n ≡ true = is_directory_by kind.Directory is in
        inr (
          no_link S n node kind.Directory here is (λ text e. cc),
          by_row answer_of (creates oflags || truncates oflags) (NotOpened Isdir) (Opens (Directory n stat.flags) (no_change (tree_of S)) 0)
              ((is_directory (tree_of S) n ≡ true) × (HasCreat oflags ⊎ HasTrunc oflags)) Isdir (other_rows n)
              (Decides-like (creates oflags || truncates oflags) (λ changed. (directory, changed)) (λ h. h.1)
              (Decides-or (creates oflags) (truncates oflags) (flag_decides oflags 0) (flag_decides oflags 3))) refl
              (λ _. inr (λ h. not_true (sym h.0 ∙ directory), numbers_listed _ refl p 0 own)),
        )

  end_listed : (end : PathEnd) → Answers (open_rows oflags path p S end) (answer_of (open_end oflags stat.flags path now new (tree_of S) end))
  end_listed (end.Found n) =
      by_none (λ o. answer_of (open_node oflags stat.flags now (tree_of S) n o)) (get S.nodes n) Badf (row (AsksNew oflags) Exist (kind_rows n)) refl
      (λ node here.
      by_row answer_of (makes_new oflags) (NotOpened Exist) (open_kind oflags stat.flags now (tree_of S) n node.kind) (AsksNew oflags) Exist (kind_rows n)
      (new_decides oflags) refl (λ _. kind_listed n node here node.kind refl))
  end_listed (end.Absent d from len) =
      let name : List ℕ = name_at path from len in
      let made : Opened = make_file stat.flags now new (tree_of S) d name (first_fault (make_faults (tree_of S) d name)) in
      let rows : Rows = make_rows (tree_of S) d name (number_rows p 2 own) in
      by_test (λ (o : Opened). Answers (row (¬ HasCreat oflags) Noent rows) (answer_of o)) (creates oflags) made (NotOpened Noent)
      (tells (creates oflags) (flag_decides oflags 0))
      (λ creat. inr (
        λ h. h creat,
        make_listed (λ (x : Option TreeFault). answer_of (make_file stat.flags now new (tree_of S) d name x)) refl refl (tree_of S) d name (number_rows p 2 own)
            refl
            (numbers_listed _ refl p 1 own),
      ))
      (λ none. inl (none, refl))
  end_listed (end.Last d from len) = refl

-- ---- the law

pub open_errors_are_listed : OpenErrorsAreListed
open_errors_are_listed lookup path oflags stat mode is =
    listed_on Whatever (FileOpen lookup path oflags stat) lookup.fd
    (λ S who table k. row (IsFull table) Mfile (path_rows (tree_of S) mode path (open_rows oflags path who.pid S) k))
    (λ constants S who table k.
    open_at who.pid (get S.processes who.pid) table stat
    (open_walked oflags stat.flags path (real_time constants (tick S).clock) (next_object who.pid (get S.processes who.pid) 1) (tree_of S)
    (walked (tree_of S) mode path k)) (lowest_free table))
    (λ constants S who table.
    ap (λ m.
    open_at who.pid (get S.processes who.pid) table stat
    (open_walked oflags stat.flags path (real_time constants (tick S).clock) (next_object who.pid (get S.processes who.pid) 1) (tree_of S)
    (walked (tree_of S) m path (open_of (whole (tick S)) (get table lookup.fd)))) (lowest_free table)) (open_mode_is oflags lookup.flags mode is))
    (λ constants S who table k _.
    let now : ℕ = real_time constants (tick S).clock in
    let own : Option ProcessState = get S.processes who.pid in
    let new : ℕ = next_object who.pid own 1 in
    full_listed table
    (λ free. (open_at who.pid own table stat (open_walked oflags stat.flags path now new (tree_of S) (walked (tree_of S) mode path k)) free).answer)
    (path_rows (tree_of S) mode path (open_rows oflags path who.pid S) k) refl
    (λ fd.
    path_listed (λ w. (opened_outcome who.pid own table stat fd (open_walked oflags stat.flags path now new (tree_of S) w)).answer) (λ errno. refl)
    (λ component. refl) (open_rows oflags path who.pid S) (end_listed oflags stat path now new who.pid S table fd) (tree_of S) mode path k)
    (lowest_free table) refl)
