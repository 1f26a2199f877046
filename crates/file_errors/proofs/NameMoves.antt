-- The errors of the calls on names are as listed: here those of the calls with two paths, and the law.
use Rattle.std.proofs.Common.{◌≡◌, ℕ, ◌≤◌, ◌==◌, ◌&&◌, true, false, cond, not, List, [], ◌∷◌, Option, Some, None, is_some, inl, inr, refl, sym, ap, subst, ◌∙◌}
use Rattle.std.proofs.lemmas.Bool.Decides.{Decides-and, Decides-eqb, Decides-like}
use Rattle.std.specs.Bool.{Decides}
use Rattle.std.specs.FinMap.{get}
use Rattle.std.specs.Prelude.{nat_le}
use Rattle.abi_base.specs.declared.errno.Errno.TheVariants.{Exist, Inval, Isdir, Mlink, Noent, Notdir, Notempty, Perm}
use Rattle.abi_types.specs.declared.call.Call.TheVariants.{FileCreate, FileLink, FileRename, FileSymlink, FileUnlink}
use Rattle.abi_types.specs.declared.node.NodeKind.TheVariants as kind
use Rattle.abi_types.specs.declared.open_kind.OpenKind.{OpenKind}
use Rattle.abi_types.specs.declared.reply.Answer.{Answer}
use Rattle.maps.specs.Closure.{member}
use Rattle.path_lookup.specs.declared.ends.End.{End as PathEnd}
use Rattle.path_lookup.specs.declared.ends.End.TheVariants as end
use Rattle.path_lookup.specs.declared.ends.WalkMode.{WalkMode}
use Rattle.tree_model.specs.Changes.{Faults, first_fault, has_names, is_absent, is_below, is_full, is_removed, is_same, lacks_name, leads_to_directory, rename_faults, replace_faults}
use Rattle.tree_model.specs.Tree.{below, entry_of, is_directory, links_of}
use Rattle.tree_model.specs.declared.fault.TreeFault.{TreeFault}
use Rattle.tree_model.specs.declared.fault.TreeFault.TheVariants.{Absent, Below, IsDirectory, Links, NotDirectory, NotEmpty, Taken}
use Rattle.kernel_model.specs.Families.ClockCalls.{real_time}
use Rattle.kernel_model.specs.Families.FileMeaning.{open_of}
use Rattle.kernel_model.specs.Families.FilePaths.{walked}
use Rattle.kernel_model.specs.Families.LastNames.{last_name}
use Rattle.kernel_model.specs.Families.NameMaking.{errno_of, making, making_unless, text_error}
use Rattle.kernel_model.specs.Families.NameMeaning.{NameOutcome, Changes, at_name, outcome_of, unless_fault}
use Rattle.kernel_model.specs.Families.NameMoving.{at_found, at_found_end, link_errno, link_in, linking, move_or_stay, rename_in, renaming, with_link}
use Rattle.kernel_model.specs.Families.NameRemoving.{unless_lost, unlinking}
use Rattle.kernel_model.specs.Families.Numbers.{next_object}
use Rattle.kernel_model.specs.State.{ProcessState, Tree, tree_of}
use Rattle.kernel_model.specs.Step.{tick}
use Rattle.kernel_model.specs.View.{whole}
use Rattle.kernel_model.proofs.Tests.{none_is_no, not_true, same_some}
use Rattle.file_errors.specs.NameErrors.{IsLost, IsOfDirectory, IsOfFull, IsOfOther, IsSame, IsTaken, IsWithin, NameErrorsAreListed, link_rows, make_rows, named_rows, number_rows, place_rows, rename_rows, unlink_rows}
use Rattle.file_errors.specs.PathErrors.{byte_rows, found_rows, path_rows}
use Rattle.file_errors.specs.Tables.{Answers, Rows, row, succeeds}
use Rattle.file_errors.proofs.NameErrors.{absent_test, answer_of, lacks_decides, lost_listed, making_listed, named_listed, other_test, removed_test, symlink_listed, taken_decides, unlink_listed}
use Rattle.file_errors.proofs.PathErrors.{mode_is, path_listed}
use Rattle.file_errors.proofs.Rows.{Whatever, absent, by_rows, by_test, itself, le_decides, listed_by_two, listed_on, tells, tested, turned}

-- ---- one more name

module _ (now p : ℕ) (own : Option ProcessState) (t : Tree) where
  node_linked : (n d : ℕ) (name : List ℕ) → Answers (link_rows t n d name) (answer_of p own 0 (link_in now t n d name))
  node_linked n d name =
      let f : Option TreeFault → Answer = λ x. answer_of p own 0 (unless_fault link_errno x (Changes (with_link now t n d name))) in
      by_rows f
      (absent_test f refl refl t d ∷ other_test f refl refl t d ∷ removed_test f refl refl t d
      ∷ tested f (get t.nodes n ≡ None) Noent (is_absent t n) (Some Absent) (absent (get t.nodes n)) refl
      ∷ tested f (is_directory t n ≡ true) Perm (is_directory t n) (Some IsDirectory) (itself (is_directory t n)) refl
      ∷ tested f (IsTaken t d name) Exist (not (lacks_name t d name)) (Some Taken) (taken_decides t d name) refl
      ∷ tested f (65535 ≤ links_of t n) Mlink (nat_le 65535 (links_of t n)) (Some Links) (le_decides 65535 (links_of t n)) refl ∷ [])
      None succeeds refl

  found_linked : (new_path : List ℕ) (other : Option OpenKind) (end : PathEnd)
      → Answers (found_rows (λ n. named_rows t new_path (link_rows t n) other) end)
      (answer_of p own 0 (at_found_end (λ n. at_name (link_in now t n) (last_name t new_path other)) end))
  found_linked new_path other (end.Found n) = named_listed p own 0 (link_in now t n) (link_rows t n) (node_linked n) t new_path other
  found_linked new_path other (end.Absent d from len) = refl
  found_linked new_path other (end.Last d from len) = refl

  link_listed : (mode : WalkMode) (path new_path : List ℕ) (k other : Option OpenKind)
      → Answers (path_rows t mode path (found_rows (λ n. named_rows t new_path (link_rows t n) other)) k)
      (answer_of p own 0 (at_found (λ n. at_name (link_in now t n) (last_name t new_path other)) (walked t mode path k)))
  link_listed mode path new_path k other =
      path_listed (λ w. answer_of p own 0 (at_found (λ n. at_name (link_in now t n) (last_name t new_path other)) w)) (λ errno. refl) (λ component. refl)
      (found_rows (λ n. named_rows t new_path (link_rows t n) other)) (found_linked new_path other) t mode path k

-- ---- a name that moves

-- what is said of the node that a name may have
module _ (t : Tree) where
  within_decides : (o : Option ℕ) (d : ℕ) → Decides (is_below t o d) ((n : ℕ) × (o ≡ Some n) × (member d (below t n) ≡ true))
  within_decides None d = (λ e. absurd (not_true e), λ h. absurd (none_is_no h.0 h.1))
  within_decides (Some n) d = (λ e. (n, refl, e), λ h. subst (λ m. member d (below t m) ≡ true) (sym (same_some n h.0 h.1)) h.2)

  full_decides : (o : Option ℕ) → Decides (is_full t o) ((n : ℕ) × (o ≡ Some n) × (has_names t n ≡ true))
  full_decides None = (λ e. absurd (not_true e), λ h. absurd (none_is_no h.0 h.1))
  full_decides (Some n) = (λ e. (n, refl, e), λ h. subst (λ m. has_names t m ≡ true) (sym (same_some n h.0 h.1)) h.2)

  directory_decides : (o : Option ℕ) → Decides (leads_to_directory t o) ((n : ℕ) × (o ≡ Some n) × (is_directory t n ≡ true))
  directory_decides None = (λ e. absurd (not_true e), λ h. absurd (none_is_no h.0 h.1))
  directory_decides (Some n) = (λ e. (n, refl, e), λ h. subst (λ m. is_directory t m ≡ true) (sym (same_some n h.0 h.1)) h.2)

  no_directory : (n : ℕ) → Decides (not (is_directory t n)) ((m : ℕ) × (Some n ≡ Some m) × (is_directory t m ≡ false))
  no_directory n =
      Decides-like (not (is_directory t n)) (λ e. (n, refl, e))
      (λ h. subst (λ m. is_directory t m ≡ false) (sym (same_some n h.0 h.1)) h.2) (turned (is_directory t n))

  other_replaced : (moved old : Option ℕ)
      → Decides (is_some old && (leads_to_directory t moved && not (leads_to_directory t old)))
      (((n : ℕ) × (moved ≡ Some n) × (is_directory t n ≡ true)) × ((m : ℕ) × (old ≡ Some m) × (is_directory t m ≡ false)))
  other_replaced moved None = (λ e. absurd (not_true e), λ h. absurd (none_is_no h.1.0 h.1.1))
  other_replaced moved (Some m) = Decides-and (leads_to_directory t moved) (not (is_directory t m)) (directory_decides moved) (no_directory m)

  directory_replaced : (moved old : Option ℕ) → is_some moved ≡ true
      → Decides (is_some old && (not (leads_to_directory t moved) && leads_to_directory t old))
      (((n : ℕ) × (moved ≡ Some n) × (is_directory t n ≡ false)) × ((m : ℕ) × (old ≡ Some m) × (is_directory t m ≡ true)))
  directory_replaced None old there = absurd (not_true there)
  directory_replaced (Some n) None there = (λ e. absurd (not_true e), λ h. absurd (none_is_no h.1.0 h.1.1))
  directory_replaced (Some n) (Some m) there = Decides-and (not (is_directory t n)) (is_directory t m) (no_directory n) (directory_decides (Some m))

  same_decides : (a b : Option ℕ) → Decides (is_same a b) ((n : ℕ) × (a ≡ Some n) × (b ≡ Some n))
  same_decides None b = (λ e. absurd (not_true e), λ h. absurd (none_is_no h.0 h.1))
  same_decides (Some n) None = (λ e. absurd (not_true e), λ h. absurd (none_is_no h.0 h.2))
  same_decides (Some n) (Some m) =
      Decides-like (n == m) (λ e. (n, refl, ap Some (sym e))) (λ h. same_some n h.0 h.1 ∙ sym (same_some m h.0 h.2)) (Decides-eqb n m)

module _ (now p : ℕ) (own : Option ProcessState) (t : Tree) (from : ℕ) (name : List ℕ) (to : ℕ) (new : List ℕ) where
  abbrev Differs : Type 0
  Differs = ¬ IsSame t from name to new

  abbrev replace_rows : Rows
  replace_rows =
      row (Differs × IsWithin t from name to) Inval
      (row (Differs × IsOfDirectory t from name × IsOfOther t to new) Notdir
      (row (Differs × IsOfOther t from name × IsOfDirectory t to new) Isdir
      (row (Differs × IsOfFull t to new) Notempty
      succeeds)))

  abbrev by_fault : Option TreeFault → Answer
  by_fault x = answer_of p own 0 (unless_fault errno_of x (Changes (move_or_stay now t from name to new)))

  abbrev moved : Option ℕ
  moved = entry_of t from name

  abbrev old : Option ℕ
  old = entry_of t to new

  replace_listed : is_some moved ≡ true → Answers replace_rows (by_fault (first_fault (cond (is_same moved old) [] (replace_faults t moved to old))))
  replace_listed there =
      by_test (λ (faults : Faults). Answers replace_rows (by_fault (first_fault faults))) (is_same moved old) [] (replace_faults t moved to old)
      (tells (is_same moved old) (same_decides t moved old))
      (λ same. inr (λ h. h.0 same, inr (λ h. h.0 same, inr (λ h. h.0 same, inr (λ h. h.0 same, refl)))))
      (λ differs.
      by_rows by_fault
      (tested by_fault (Differs × IsWithin t from name to) Inval (is_below t moved to) (Some Below)
      (Decides-like (is_below t moved to) (λ h. (differs, h)) (λ h. h.1) (within_decides t moved to)) refl
      ∷ tested by_fault (Differs × IsOfDirectory t from name × IsOfOther t to new) Notdir
      (is_some old && (leads_to_directory t moved && not (leads_to_directory t old))) (Some NotDirectory)
      (Decides-like (is_some old && (leads_to_directory t moved && not (leads_to_directory t old))) (λ h. (differs, h.0, h.1)) (λ h. (h.1, h.2))
      (other_replaced t moved old)) refl
      ∷ tested by_fault (Differs × IsOfOther t from name × IsOfDirectory t to new) Isdir
      (is_some old && (not (leads_to_directory t moved) && leads_to_directory t old)) (Some IsDirectory)
      (Decides-like (is_some old && (not (leads_to_directory t moved) && leads_to_directory t old)) (λ h. (differs, h.0, h.1)) (λ h. (h.1, h.2))
      (directory_replaced t moved old there)) refl
      ∷ tested by_fault (Differs × IsOfFull t to new) Notempty (is_full t old) (Some NotEmpty)
      (Decides-like (is_full t old) (λ h. (differs, h)) (λ h. h.1) (full_decides t old)) refl ∷ [])
      None succeeds refl)

  -- where the name that moves isn't there that is answered before
  moved_listed : (o : Option ℕ) → moved ≡ o
      → Answers (row (¬ IsTaken t from name) Noent (place_rows t to replace_rows))
      (by_fault (first_fault ((lacks_name t from name, Absent) ∷ (is_absent t to, Absent) ∷ (not (is_directory t to), NotDirectory) ∷ (is_removed t to, Absent)
      ∷ cond (is_same moved old) [] (replace_faults t moved to old))))
  moved_listed None here =
      inl (
        λ taken. none_is_no taken.0 (sym here ∙ taken.1),
        ap (λ (o : Option ℕ). by_fault (cond (not (is_some o)) (Some Absent)
            (first_fault ((is_absent t to, Absent) ∷ (not (is_directory t to), NotDirectory) ∷ (is_removed t to, Absent)
            ∷ cond (is_same moved old) [] (replace_faults t moved to old))))) here,
      )
  moved_listed (Some n) here =
      by_rows by_fault
      (tested by_fault (¬ IsTaken t from name) Noent (lacks_name t from name) (Some Absent) (lacks_decides moved) refl
      ∷ absent_test by_fault refl refl t to ∷ other_test by_fault refl refl t to ∷ removed_test by_fault refl refl t to ∷ [])
      (first_fault (cond (is_same moved old) [] (replace_faults t moved to old))) replace_rows (replace_listed (ap is_some here))

  -- and where both are there, or the second has no node
  abbrev there_rows : Rows
  there_rows =
      row (get t.nodes from ≡ None) Noent
      (row (is_directory t from ≡ false) Notdir
      (row (¬ IsTaken t from name) Noent
      (place_rows t to replace_rows)))

  abbrev comes : NameOutcome
  comes = unless_fault errno_of (first_fault (rename_faults t from name to new)) (Changes (move_or_stay now t from name to new))

  there_listed : Answers there_rows (answer_of p own 0 comes)
  there_listed =
      by_rows by_fault (absent_test by_fault refl refl t from ∷ other_test by_fault refl refl t from ∷ [])
      (first_fault ((lacks_name t from name, Absent) ∷ (is_absent t to, Absent) ∷ (not (is_directory t to), NotDirectory) ∷ (is_removed t to, Absent)
      ∷ cond (is_same moved old) [] (replace_faults t moved to old)))
      (row (¬ IsTaken t from name) Noent (place_rows t to replace_rows)) (moved_listed moved refl)

  rename_listed : Answers (rename_rows t from name to new) (answer_of p own 0 (rename_in now t from name to new))
  rename_listed =
      lost_listed p own 0 t from name moved (unless_lost t old comes) (row (IsLost t to new) Noent there_rows) refl
      (lost_listed p own 0 t to new old comes there_rows refl there_listed)

-- ---- the law

pub name_errors_are_listed : NameErrorsAreListed
name_errors_are_listed = record {
  file_create = λ fd path type.
      listed_on Whatever (FileCreate fd path type) fd
      (λ S who table. named_rows (tree_of S) path (λ d name. make_rows (tree_of S) d name (number_rows who.pid 1 (get S.processes who.pid))))
      (λ constants S who table k.
      outcome_of who.pid (get S.processes who.pid) 1
      ((making kind.Directory path).effect (real_time constants (tick S).clock) (next_object who.pid (get S.processes who.pid) 1) (tree_of S) k None))
      (λ constants S who table. refl)
      (λ constants S who table k _.
      making_listed kind.Directory path (real_time constants (tick S).clock) (next_object who.pid (get S.processes who.pid) 1) who.pid
      (get S.processes who.pid) (tree_of S) k);
  file_symlink = λ text fd path.
      listed_on Whatever (FileSymlink text fd path) fd
      (λ S who table k. byte_rows text (row (text ≡ []) Noent
      (named_rows (tree_of S) path (λ d name. make_rows (tree_of S) d name (number_rows who.pid 1 (get S.processes who.pid))) k)))
      (λ constants S who table k.
      outcome_of who.pid (get S.processes who.pid) (making_unless (text_error text) (making (kind.Link text) path)).new_nodes
      ((making_unless (text_error text) (making (kind.Link text) path)).effect (real_time constants (tick S).clock)
      (next_object who.pid (get S.processes who.pid) 1) (tree_of S) k None))
      (λ constants S who table. refl)
      (λ constants S who table k _.
      symlink_listed text path (kind.Link text) (real_time constants (tick S).clock) (next_object who.pid (get S.processes who.pid) 1) who.pid
      (get S.processes who.pid) (tree_of S) k);
  file_unlink = λ fd path flags.
      listed_on Whatever (FileUnlink fd path flags) fd (λ S who table. named_rows (tree_of S) path (unlink_rows flags (tree_of S)))
      (λ constants S who table k.
      outcome_of who.pid (get S.processes who.pid) 0
      ((unlinking flags path).effect (real_time constants (tick S).clock) (next_object who.pid (get S.processes who.pid) 1) (tree_of S) k None))
      (λ constants S who table. refl)
      (λ constants S who table k _.
      let now : ℕ = real_time constants (tick S).clock in
      let own : Option ProcessState = get S.processes who.pid in
      named_listed who.pid own 0 _ (unlink_rows flags (tree_of S)) (λ d name. unlink_listed flags now who.pid own (tree_of S) d name) (tree_of S) path k);
  file_link = λ lookup path new_fd new_path mode is.
      listed_by_two (FileLink lookup path new_fd new_path) lookup.fd new_fd
      (λ S k other. path_rows (tree_of S) mode path (found_rows (λ n. named_rows (tree_of S) new_path (link_rows (tree_of S) n) other)) k)
      (λ constants S who table k other.
      outcome_of who.pid (get S.processes who.pid) 0
      ((linking mode path new_path).effect (real_time constants (tick S).clock) (next_object who.pid (get S.processes who.pid) 1) (tree_of S) k other))
      (λ constants S who table.
      ap (λ m.
      outcome_of who.pid (get S.processes who.pid) 0
      ((linking m path new_path).effect (real_time constants (tick S).clock) (next_object who.pid (get S.processes who.pid) 1) (tree_of S)
      (open_of (whole (tick S)) (get table lookup.fd)) (open_of (whole (tick S)) (get table new_fd)))) (mode_is lookup.flags mode is))
      (λ constants S who table k other.
      link_listed (real_time constants (tick S).clock) who.pid (get S.processes who.pid) (tree_of S) mode path new_path k other);
  file_rename = λ fd path new_fd new_path.
      listed_by_two (FileRename fd path new_fd new_path) fd new_fd
      (λ S k other. named_rows (tree_of S) path (λ from name. named_rows (tree_of S) new_path (rename_rows (tree_of S) from name) other) k)
      (λ constants S who table k other.
      outcome_of who.pid (get S.processes who.pid) 0
      ((renaming path new_path).effect (real_time constants (tick S).clock) (next_object who.pid (get S.processes who.pid) 1) (tree_of S) k other))
      (λ constants S who table. refl)
      (λ constants S who table k other.
      let now : ℕ = real_time constants (tick S).clock in
      let own : Option ProcessState = get S.processes who.pid in
      named_listed who.pid own 0 (λ from name. at_name (rename_in now (tree_of S) from name) (last_name (tree_of S) new_path other))
      (λ from name. named_rows (tree_of S) new_path (rename_rows (tree_of S) from name) other)
      (λ from name.
      named_listed who.pid own 0 (rename_in now (tree_of S) from name) (rename_rows (tree_of S) from name)
      (λ to new. rename_listed now who.pid own (tree_of S) from name to new) (tree_of S) new_path other)
      (tree_of S) path k);
}
