-- The errors of the calls on what a descriptor's open is of are as listed.
use Rattle.std.proofs.Common.{◌≡◌, ℕ, ◌+◌, ◌<◌, ◌==◌, Bool, true, false, cond, List, length, Option, Some, None, is_some, inl, inr, refl, sym, ap, ◌∙◌, arith}
use Rattle.std.proofs.lemmas.Bool.Decides.{Decides-like, Decides-ltb}
use Rattle.maps.specs.Maps.{get-insert-same}
use Rattle.std.specs.Bool.{Decides}
use Rattle.std.specs.FinMap.{get}
use Rattle.std.specs.Int.RustNames.{bit_and}
use Rattle.std.specs.Prelude.{max, nat_lt}
use Rattle.abi_base.specs.Rights.{Has}
use Rattle.abi_base.specs.declared.errno.Errno.TheVariants.{Badf, Fbig}
use Rattle.abi_structures.specs.declared.structures.FileStat.{FileStat}
use Rattle.abi_types.specs.declared.call.Call.TheVariants.{FileAllocate, FileReaddir, FileStatFget, FileStatFput}
use Rattle.abi_types.specs.declared.node.Node.{Node}
use Rattle.abi_types.specs.declared.node.NodeKind.TheVariants as kind
use Rattle.abi_types.specs.declared.node.Times.{Times}
use Rattle.abi_types.specs.declared.open_kind.OpenKind.{OpenKind}
use Rattle.abi_types.specs.declared.open_kind.OpenKind.TheVariants.{File, Directory, End, Terminal, Process}
use Rattle.tree_model.specs.Changes.{bytes_of, with_bytes, with_bytes_in, with_times_in}
use Rattle.tree_model.specs.Files.{resized}
use Rattle.kernel_model.specs.Families.ClockCalls.{real_time}
use Rattle.kernel_model.specs.Families.FileChanges.{allocate, allocated, becomes, becomes_in, has_size, modified, put_open, put_size, put_stat, put_times, retimed, retimed_in, sized, times_put}
use Rattle.kernel_model.specs.Families.FileLooks.{list_names, list_open, report_node, report_open}
use Rattle.kernel_model.specs.Outcome.{Outcome, replies}
use Rattle.kernel_model.specs.Reply.{refused}
use Rattle.kernel_model.specs.State.{State, Tree, tree_of}
use Rattle.kernel_model.specs.Step.{tick}
use Rattle.kernel_model.proofs.Tests.{none_is_no, not_true}
use Rattle.file_errors.specs.FileErrors.{FileErrorsAreListed, allocate_rows, node_rows, readdir_rows, stat_fget_rows, stat_fput_rows}
use Rattle.file_errors.specs.Tables.{Answers, row, succeeds}
use Rattle.file_errors.proofs.Flags.{flag_decides}
use Rattle.file_errors.proofs.Rows.{Whatever, by_none, by_row, listed_on}

-- ---- a node that is changed is there as it was

abbrev pub IsStill : Tree → Tree → ℕ → Type 0
IsStill t u n = is_some (get u.nodes n) ≡ is_some (get t.nodes n)

times_by : (t : Tree) (n : ℕ) (times : Times) (o : Option Node) → get t.nodes n ≡ o → IsStill t (with_times_in t n times o) n
times_by t n times None here = refl
times_by t n times (Some node) here = ap is_some (get-insert-same t.nodes n (record node { times = times })) ∙ sym (ap is_some here)

retimed_by : (t : Tree) (n : ℕ) (new : Times → Times) (o : Option Node) → IsStill t (retimed_in t n new o) n
retimed_by t n new None = refl
retimed_by t n new (Some node) = times_by t n (new node.times) (get t.nodes n) refl

bytes_by : (t : Tree) (n : ℕ) (bytes : List ℕ) (o : Option Node) → get t.nodes n ≡ o → IsStill t (with_bytes_in t n bytes o) n
bytes_by t n bytes None here = refl
bytes_by t n bytes (Some node) here = ap is_some (get-insert-same t.nodes n (record node { kind = kind.File bytes })) ∙ sym (ap is_some here)

either_still : (b : Bool) (t u w : Tree) (n : ℕ) → IsStill t u n → IsStill t w n → IsStill t (cond b u w) n
either_still true t u w n first second = first
either_still false t u w n first second = second

sized_still : (t : Tree) (n now size : ℕ) → IsStill t (sized t n now size) n
sized_still t n now size =
    let other : Tree = with_bytes t n (resized (bytes_of t n) size) in
    either_still (length (bytes_of t n) == size) t t (retimed other n (modified now)) n refl
    (retimed_by other n (modified now) (get other.nodes n) ∙ bytes_by t n (resized (bytes_of t n) size) (get t.nodes n) refl)

pub times_still : (flags : ℕ) (stat : FileStat) (now : ℕ) (t : Tree) (n : ℕ) → IsStill t (put_times flags stat now t n) n
times_still flags stat now t n =
    either_still (bit_and flags 15 == 0) t t (retimed t n (times_put flags stat now)) n refl (retimed_by t n (times_put flags stat now) (get t.nodes n))

stat_still : (flags : ℕ) (stat : FileStat) (now : ℕ) (t : Tree) (n : ℕ) → IsStill t (put_stat flags stat now t n) n
stat_still flags stat now t n =
    times_still flags stat now (put_size flags stat now t n) n
    ∙ either_still (has_size flags) t (sized t n now stat.size) t n (sized_still t n now stat.size) refl

-- it succeeds where the node is there
becomes_listed : (n : ℕ) (o after : Option Node) → is_some after ≡ is_some o → Answers (row (o ≡ None) Badf succeeds) (becomes n after).answer
becomes_listed n None None still = inl (refl, refl)
becomes_listed n None (Some node) still = absurd (not_true (sym still))
becomes_listed n (Some node) None still = absurd (not_true still)
becomes_listed n (Some node) (Some new) still = inr (λ e. none_is_no node (sym e), refl)

pub changed_listed : (S : State) (u : Tree) (n : ℕ) → IsStill (tree_of S) u n → Answers (node_rows S n) (becomes_in n u).answer
changed_listed S u n still = becomes_listed n (get S.nodes n) (get u.nodes n) still

pub reported_listed : (S : State) (n : ℕ) → Answers (node_rows S n) (report_node n (get S.nodes n)).answer
reported_listed S n = by_none (λ o. (report_node n o).answer) (get S.nodes n) Badf succeeds refl (λ node there. refl)

-- ---- the calls

allocate_listed : (size now : ℕ) (S : State) (k : Option OpenKind) → Answers (allocate_rows size S k) (allocate size now (tree_of S) k).answer
allocate_listed size now S None = refl
allocate_listed size now S (Some (File node offset flags)) =
    by_row (λ (o : Outcome). o.answer) (nat_lt 67108864 size) (replies (refused Fbig)) (becomes_in node (allocated (tree_of S) node now size))
    (67108864 < size) Fbig (node_rows S node) (Decides-ltb 67108864 size) refl
    (λ _. changed_listed S (allocated (tree_of S) node now size) node (sized_still (tree_of S) node now (max (length (bytes_of (tree_of S) node)) size)))
allocate_listed size now S (Some (Directory node flags)) = refl
allocate_listed size now S (Some (End reads writes flags form)) = refl
allocate_listed size now S (Some (Terminal which flags)) = refl
allocate_listed size now S (Some (Process p object)) = refl

size_decides : (flags size : ℕ) (b : Bool) → Decides b (Has flags 4) → Decides (nat_lt 67108864 (cond b size 0)) (Has flags 4 × (67108864 < size))
size_decides flags size true has = Decides-like (nat_lt 67108864 size) (λ h. (has.0 refl, h)) (λ h. h.1) (Decides-ltb 67108864 size)
size_decides flags size false has = (λ e. absurd (omega (arith, (Decides-ltb 67108864 0).0 e)), λ h. absurd (not_true (has.1 h.0)))

put_listed : (flags : ℕ) (stat : FileStat) (now : ℕ) (S : State) (k : Option OpenKind)
    → Answers (stat_fput_rows stat flags S k) (put_open flags stat now (tree_of S) k).answer
put_listed flags stat now S None = refl
put_listed flags stat now S (Some (File node offset open_flags)) =
    by_row (λ (o : Outcome). o.answer) (nat_lt 67108864 (cond (has_size flags) stat.size 0)) (replies (refused Fbig))
    (becomes_in node (put_stat flags stat now (tree_of S) node)) (Has flags 4 × (67108864 < stat.size)) Fbig (node_rows S node)
    (size_decides flags stat.size (has_size flags) (flag_decides flags 4)) refl
    (λ _. changed_listed S (put_stat flags stat now (tree_of S) node) node (stat_still flags stat now (tree_of S) node))
put_listed flags stat now S (Some (Directory node open_flags)) =
    by_row (λ (o : Outcome). o.answer) (has_size flags) (replies (refused Badf)) (becomes_in node (put_times flags stat now (tree_of S) node))
    (Has flags 4) Badf (node_rows S node) (flag_decides flags 4) refl
    (λ _. changed_listed S (put_times flags stat now (tree_of S) node) node (times_still flags stat now (tree_of S) node))
put_listed flags stat now S (Some (End reads writes open_flags form)) = refl
put_listed flags stat now S (Some (Terminal which open_flags)) = refl
put_listed flags stat now S (Some (Process p object)) = refl

fget_listed : (S : State) (k : Option OpenKind) → Answers (stat_fget_rows S k) (report_open (tree_of S) k).answer
fget_listed S None = refl
fget_listed S (Some (File node offset flags)) = reported_listed S node
fget_listed S (Some (Directory node flags)) = reported_listed S node
fget_listed S (Some (End (Some reads) writes flags form)) = refl
fget_listed S (Some (End None (Some writes) flags form)) = refl
fget_listed S (Some (End None None flags form)) = refl
fget_listed S (Some (Terminal which flags)) = refl
fget_listed S (Some (Process p object)) = refl

readdir_listed : (n position : ℕ) (S : State) (k : Option OpenKind) → Answers (readdir_rows S k) (list_open n position (tree_of S) k).answer
readdir_listed n position S None = refl
readdir_listed n position S (Some (File node offset flags)) = refl
readdir_listed n position S (Some (Directory node flags)) =
    by_none (λ o. (list_names (tree_of S) n position o).answer) (get S.names node) Badf succeeds refl (λ names there. refl)
readdir_listed n position S (Some (End reads writes flags form)) = refl
readdir_listed n position S (Some (Terminal which flags)) = refl
readdir_listed n position S (Some (Process p object)) = refl

-- ---- the law

pub file_errors_are_listed : FileErrorsAreListed
file_errors_are_listed = record {
  file_allocate = λ fd offset length.
      listed_on Whatever (FileAllocate fd offset length) fd (λ S who table. allocate_rows (offset + length) S)
      (λ constants S who table. allocate (offset + length) (real_time constants (tick S).clock) (tree_of S)) (λ constants S who table. refl)
      (λ constants S who table kind is. allocate_listed (offset + length) (real_time constants (tick S).clock) S kind);
  file_stat_fput = λ fd stat flags.
      listed_on Whatever (FileStatFput fd stat flags) fd (λ S who table. stat_fput_rows stat flags S)
      (λ constants S who table. put_open flags stat (real_time constants (tick S).clock) (tree_of S)) (λ constants S who table. refl)
      (λ constants S who table kind is. put_listed flags stat (real_time constants (tick S).clock) S kind);
  file_stat_fget = λ fd.
      listed_on Whatever (FileStatFget fd) fd (λ S who table. stat_fget_rows S)
      (λ constants S who table. report_open (tree_of S)) (λ constants S who table. refl) (λ constants S who table kind is. fget_listed S kind);
  file_readdir = λ fd length cookie.
      listed_on Whatever (FileReaddir fd length cookie) fd (λ S who table. readdir_rows S)
      (λ constants S who table. list_open length cookie (tree_of S)) (λ constants S who table. refl)
      (λ constants S who table kind is. readdir_listed length cookie S kind);
}
