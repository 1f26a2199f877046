-- The errors of a path, and of the calls that look at the node where a path ends, are as listed.
--     path_listed      a call that goes on where a path ends
--     found_listed      and there at the node
use Rattle.std.proofs.Common.{◌≡◌, ◌≢◌, ℕ, ◌<◌, ◌==◌, Bool, true, false, cond, not, List, [], ◌∷◌, length, Option, Some, None, Ok, Err, inl, inr, refl, sym, ap, ◌∙◌}
use Rattle.std.proofs.lemmas.Bool.Decides.{Decides-ltb}
use Rattle.std.specs.Bool.{Decides}
use Rattle.std.specs.FinMap.{get}
use Rattle.std.specs.Int.RustNames.{bit_and}
use Rattle.std.specs.Prelude.{nat_lt}
use Rattle.std.specs.Str.{is_utf8}
use Rattle.abi_base.specs.Rights.{Has}
use Rattle.abi_base.specs.declared.errno.Errno.{Errno}
use Rattle.abi_base.specs.declared.errno.Errno.TheVariants.{Badf, Ilseq, Inval, Loop, NameTooLong, Noent, Notdir}
use Rattle.abi_types.specs.declared.call.Call.TheVariants.{FileReadlink, FileStatGet, FileStatPut}
use Rattle.abi_types.specs.declared.descriptor.Denial.TheVariants.{Outside}
use Rattle.abi_types.specs.declared.node.Node.{Node}
use Rattle.abi_types.specs.declared.node.NodeKind.{NodeKind}
use Rattle.abi_types.specs.declared.node.NodeKind.TheVariants as kind
use Rattle.abi_types.specs.declared.open_kind.OpenKind.{OpenKind}
use Rattle.abi_types.specs.declared.open_kind.OpenKind.TheVariants.{File, Directory, End, Terminal, Process}
use Rattle.abi_types.specs.declared.reply.Answer.{Answer}
use Rattle.abi_types.specs.declared.reply.Answer.TheVariants as answer
use Rattle.maps.specs.Closure.{member}
use Rattle.path_lookup.specs.Walk.{WalkEnd, walk_of}
use Rattle.path_lookup.specs.declared.ends.End.{End as PathEnd}
use Rattle.path_lookup.specs.declared.ends.End.TheVariants as end
use Rattle.path_lookup.specs.declared.ends.WalkFault.TheVariants as fault
use Rattle.path_lookup.specs.declared.ends.WalkMode.{WalkMode}
use Rattle.path_lookup.specs.declared.ends.WalkMode.TheVariants.{Follow, NoFollow, Parent}
use Rattle.tree_model.specs.Finds.{finds}
use Rattle.kernel_model.specs.Families.ClockCalls.{real_time}
use Rattle.kernel_model.specs.Families.FileChanges.{put_found, put_times}
use Rattle.kernel_model.specs.Families.FileLooks.{read_link, read_link_in, read_node, report_in}
use Rattle.kernel_model.specs.Families.FileMeaning.{open_of}
use Rattle.kernel_model.specs.Families.FilePaths.{Walked, Ends, Fails, LeadsOutside, at_end, at_walked, lookup_mode, path_error, walked, walked_unless}
use Rattle.kernel_model.specs.Outcome.{Outcome}
use Rattle.kernel_model.specs.Reply.{denied, refused}
use Rattle.kernel_model.specs.State.{State, Tree, tree_of}
use Rattle.kernel_model.specs.Step.{tick}
use Rattle.kernel_model.specs.View.{whole}
use Rattle.kernel_model.proofs.Tests.{not_true, same_some}
use Rattle.file_errors.specs.PathErrors.{IsLink, IsMode, PathErrorsAreListed, byte_rows, found_rows, path_rows, readlink_rows, walk_rows}
use Rattle.file_errors.specs.FileErrors.{node_rows}
use Rattle.file_errors.specs.Tables.{Answers, Rows, row, succeeds}
use Rattle.file_errors.proofs.FileErrors.{changed_listed, reported_listed, times_still}
use Rattle.file_errors.proofs.Flags.{flag_decides}
use Rattle.file_errors.proofs.Rows.{Whatever, Tested, by_none, by_rows, itself, listed_on, tested, turned}

-- ---- paths

-- bytes that are looked at before something else is
pub bytes_listed : (path : List ℕ) (f : Option Errno → Answer) (others : Rows) → ((errno : Errno) → f (Some errno) ≡ answer.Reply (refused errno))
    → Answers others (f None) → Answers (byte_rows path others) (f (path_error path))
bytes_listed path f others refuses goes =
    let tests : List (Tested f) =
    tested f (1024 < length path) NameTooLong (nat_lt 1024 (length path)) (Some NameTooLong) (Decides-ltb 1024 (length path)) (refuses NameTooLong)
    ∷ tested f (is_utf8 path ≡ false) Ilseq (not (is_utf8 path)) (Some Ilseq) (turned (is_utf8 path)) (refuses Ilseq)
    ∷ tested f (member 0 path ≡ true) Inval (member 0 path) (Some Inval) (itself (member 0 path)) (refuses Inval) ∷ [] in
    by_rows f tests None others goes

module _ (f : Walked → Answer) (fails : (errno : Errno) → f (Fails errno) ≡ answer.Reply (refused errno))
    (leads : (component : ℕ) → f (LeadsOutside component) ≡ answer.Reply (denied (Outside component)))
    (goes : PathEnd → Rows) (ends : (end : PathEnd) → Answers (goes end) (f (Ends end))) where
  walk_listed : (w : WalkEnd) → Answers (walk_rows goes w) (f (walked_unless None w))
  walk_listed (Ok end) = ends end
  walk_listed (Err fault.NotDir) = fails Notdir
  walk_listed (Err fault.NoEntry) = fails Noent
  walk_listed (Err fault.Loop) = fails Loop
  walk_listed (Err fault.TooLong) = fails NameTooLong
  walk_listed (Err (fault.Outside component)) = leads component

  pub path_listed : (t : Tree) (mode : WalkMode) (path : List ℕ) (k : Option OpenKind) → Answers (path_rows t mode path goes k) (f (walked t mode path k))
  path_listed t mode path None = fails Badf
  path_listed t mode path (Some (File node offset flags)) = fails Badf
  path_listed t mode path (Some (Directory start flags)) =
      let w : WalkEnd = walk_of (finds t) mode start path in
      bytes_listed path (λ o. f (walked_unless o w)) (walk_rows goes w) fails (walk_listed w)
  path_listed t mode path (Some (End reads writes flags form)) = fails Badf
  path_listed t mode path (Some (Terminal which flags)) = fails Badf
  path_listed t mode path (Some (Process p object)) = fails Badf

-- ---- modes

mode_by : (unset : Bool) (flags : ℕ) (mode : WalkMode) → Decides (not unset) (Has flags 0) → IsMode flags mode → cond unset NoFollow Follow ≡ mode
mode_by true flags Follow sets is = absurd (not_true (sets.1 is))
mode_by false flags Follow sets is = refl
mode_by true flags NoFollow sets is = refl
mode_by false flags NoFollow sets is = absurd (is (sets.0 refl))
mode_by unset flags Parent sets is = absurd is

pub mode_is : (flags : ℕ) (mode : WalkMode) → IsMode flags mode → lookup_mode flags ≡ mode
mode_is flags mode is = mode_by (bit_and flags 1 == 0) flags mode (flag_decides flags 0) is

-- ---- the node where a path ends

found_listed : (goes : ℕ → Outcome) (rows : ℕ → Rows) → ((n : ℕ) → Answers (rows n) (goes n).answer) → (end : PathEnd)
    → Answers (found_rows rows end) (at_end goes end).answer
found_listed goes rows each (end.Found n) = each n
found_listed goes rows each (end.Absent d from len) = refl
found_listed goes rows each (end.Last d from len) = refl

at_node_listed : (goes : ℕ → Outcome) (rows : ℕ → Rows) → ((n : ℕ) → Answers (rows n) (goes n).answer) → (t : Tree) (mode : WalkMode) (path : List ℕ)
    (k : Option OpenKind) → Answers (path_rows t mode path (found_rows rows) k) (at_walked goes (walked t mode path k)).answer
at_node_listed goes rows each =
    path_listed (λ w. (at_walked goes w).answer) (λ errno. refl) (λ component. refl) (found_rows rows) (found_listed goes rows each)

pub no_link : (S : State) (n : ℕ) (node : Node) (k : NodeKind) → get S.nodes n ≡ Some node → node.kind ≡ k → ((text : List ℕ) → k ≢ kind.Link text) → ¬ IsLink S n
no_link S n node k here is other h = other h.2 (sym is ∙ ap (λ (m : Node). m.kind) (same_some node h.0 (sym here ∙ h.1)) ∙ h.3)

-- a symlink is read, and nothing else
link_listed : (S : State) (room n : ℕ) (node : Node) (k : NodeKind) → get S.nodes n ≡ Some node → node.kind ≡ k
    → Answers (row (¬ IsLink S n) Inval succeeds) (read_link room k).answer
link_listed S room n node (kind.Link text) here is = inr (λ h. h (node, here, text, is), refl)
link_listed S room n node (kind.File bytes) here is = inl (no_link S n node (kind.File bytes) here is (λ text e. cc), refl)
link_listed S room n node kind.Directory here is = inl (no_link S n node kind.Directory here is (λ text e. cc), refl)

readlink_listed : (S : State) (room n : ℕ) → Answers (readlink_rows S n) (read_link_in room (tree_of S) n).answer
readlink_listed S room n =
    by_none (λ o. (read_node room o).answer) (get S.nodes n) Badf (row (¬ IsLink S n) Inval succeeds) refl
    (λ node here. link_listed S room n node node.kind here refl)

-- ---- the law

pub path_errors_are_listed : PathErrorsAreListed
path_errors_are_listed = record {
  file_stat_get = λ lookup path mode is.
      listed_on Whatever (FileStatGet lookup path) lookup.fd (λ S who table. path_rows (tree_of S) mode path (found_rows (node_rows S)))
      (λ constants S who table k. at_walked (report_in (tree_of S)) (walked (tree_of S) mode path k))
      (λ constants S who table.
      ap (λ m. at_walked (report_in (tree_of S))
      (walked (tree_of S) m path (open_of (whole (tick S)) (get table lookup.fd)))) (mode_is lookup.flags mode is))
      (λ constants S who table k _. at_node_listed (report_in (tree_of S)) (node_rows S) (λ n. reported_listed S n) (tree_of S) mode path k);
  file_stat_put = λ lookup path stat flags mode is.
      listed_on Whatever (FileStatPut lookup path stat flags) lookup.fd (λ S who table. path_rows (tree_of S) mode path (found_rows (node_rows S)))
      (λ constants S who table k. at_walked (put_found flags stat (real_time constants (tick S).clock) (tree_of S)) (walked (tree_of S) mode path k))
      (λ constants S who table.
      ap (λ m.
      at_walked (put_found flags stat (real_time constants (tick S).clock) (tree_of S))
      (walked (tree_of S) m path (open_of (whole (tick S)) (get table lookup.fd))))
      (mode_is lookup.flags mode is))
      (λ constants S who table k _.
      let now : ℕ = real_time constants (tick S).clock in
      at_node_listed (put_found flags stat now (tree_of S)) (node_rows S)
      (λ n. changed_listed S (put_times flags stat now (tree_of S) n) n (times_still flags stat now (tree_of S) n)) (tree_of S) mode path k);
  file_readlink = λ fd path length.
      listed_on Whatever (FileReadlink fd path length) fd (λ S who table. path_rows (tree_of S) NoFollow path (found_rows (readlink_rows S)))
      (λ constants S who table k. at_walked (read_link_in length (tree_of S)) (walked (tree_of S) NoFollow path k)) (λ constants S who table. refl)
      (λ constants S who table k _. at_node_listed (read_link_in length (tree_of S)) (readlink_rows S) (readlink_listed S length) (tree_of S) NoFollow path k);
}
