-- The errors of the calls that make names and take them away are as listed.
--     numbers_listed      AGAIN where no number is left
--     named_listed      a call that goes on with a path's last name
--     lost_listed      and where the name's node is there
use Rattle.std.proofs.Common.{◌≡◌, ◌⊎◌, ℕ, suc, ◌+◌, ◌<◌, ◌≤◌, ◌^◌, ◌&&◌, ◌||◌, Bool, true, false, cond, not, List, [], ◌∷◌, Option, Some, None, is_none, inl, inr, refl, sym, subst, ◌∙◌, arith}
use Rattle.std.proofs.lemmas.Bool.Decides.{Decides-or}
use Rattle.std.proofs.lemmas.Slice.Eq.{bytes_eq-Decides}
use Rattle.std.specs.Bool.{Decides}
use Rattle.std.specs.FinMap.{get}
use Rattle.std.specs.Prelude.{nat_lt}
use Rattle.std.specs.Str.{bytes_eq}
use Rattle.abi_base.specs.Rights.{Has}
use Rattle.abi_base.specs.declared.errno.Errno.{Errno}
use Rattle.abi_base.specs.declared.errno.Errno.TheVariants.{Again, Exist, Inval, Noent, Notdir, Notempty, Perm}
use Rattle.abi_types.specs.declared.node.NodeKind.{NodeKind}
use Rattle.abi_types.specs.declared.open_kind.OpenKind.{OpenKind}
use Rattle.abi_types.specs.declared.reply.Answer.{Answer}
use Rattle.abi_types.specs.declared.reply.Answer.TheVariants as answer
use Rattle.path_lookup.specs.declared.ends.End.{End as PathEnd}
use Rattle.path_lookup.specs.declared.ends.End.TheVariants as end
use Rattle.path_lookup.specs.declared.ends.WalkMode.TheVariants.{Parent}
use Rattle.tree_model.specs.Changes.{first_fault, has_names, is_absent, is_full, is_removed, lacks_name, make_faults}
use Rattle.tree_model.specs.Tree.{entry_of, is_directory}
use Rattle.tree_model.specs.declared.fault.TreeFault.{TreeFault}
use Rattle.tree_model.specs.declared.fault.TreeFault.TheVariants.{Absent, Taken, NotDirectory, NotEmpty}
use Rattle.kernel_model.specs.Families.LastNames.{IsNone, StandsIn, has_no_bytes, is_dots, last_name, last_of, name_at}
use Rattle.kernel_model.specs.Families.NameMaking.{empty_error, errno_of, make_in, making, making_unless, or_else, text_error, with_node}
use Rattle.kernel_model.specs.Families.FilePaths.{Ends}
use Rattle.kernel_model.specs.Families.NameMeaning.{NameOutcome, Changes, Refuses, at_name, outcome_of, unless_fault}
use Rattle.kernel_model.specs.Families.NameRemoving.{removes_directory, unless_lost, unlink_errno, unlink_in, unlink_node, without_name}
use Rattle.kernel_model.specs.Families.Numbers.{can_number}
use Rattle.kernel_model.specs.Outcome.{Outcome, replies}
use Rattle.kernel_model.specs.Reply.{refused}
use Rattle.kernel_model.specs.State.{ProcessState, Tree}
use Rattle.kernel_model.proofs.Tests.{none_is_no, not_true, same_some}
use Rattle.file_errors.specs.NameErrors.{IsDots, IsLost, IsOfDirectory, IsOfFull, IsOfOther, IsTaken, last_rows, make_rows, named_rows, number_rows, unlink_rows}
use Rattle.file_errors.specs.PathErrors.{byte_rows}
use Rattle.file_errors.specs.Tables.{Answers, Rows, row, succeeds}
use Rattle.file_errors.proofs.Flags.{flag_decides}
use Rattle.file_errors.proofs.PathErrors.{bytes_listed, path_listed}
use Rattle.file_errors.proofs.Rows.{Tested, absent, by_row, by_rows, by_test, itself, knows, lt_tells, tells, tested, turned}

-- ---- numbers

module _ (done : Outcome) (success : Answers succeeds done.answer) where
  both_tests : (p top sum limit : ℕ) (a b : Bool) → ((a ≡ true) × (p < top)) ⊎ ((a ≡ false) × (top ≤ p))
      → ((b ≡ true) × (sum < limit)) ⊎ ((b ≡ false) × (limit ≤ sum))
      → Answers (row (top ≤ p) Again (row (limit ≤ sum) Again succeeds)) (cond (a && b) done (replies (refused Again))).answer
  both_tests p top sum limit true true (inl low) (inl few) = inr (λ h. omega (arith, h, low.1), inr (λ h. omega (arith, h, few.1), success))
  both_tests p top sum limit true true (inl low) (inr many) = absurd (not_true (sym many.0))
  both_tests p top sum limit true false (inl low) (inl few) = absurd (not_true few.0)
  both_tests p top sum limit true false (inl low) (inr many) = inr (λ h. omega (arith, h, low.1), inl (many.1, refl))
  both_tests p top sum limit true b (inr high) other = absurd (not_true (sym high.0))
  both_tests p top sum limit false b (inl low) other = absurd (not_true low.0)
  both_tests p top sum limit false b (inr high) other = inl (high.1, refl)

  pub numbers_listed : (p count : ℕ) (own : Option ProcessState)
      → Answers (number_rows p (suc count) own) (cond (can_number p (suc count) own) done (replies (refused Again))).answer
  numbers_listed p count None = refl
  numbers_listed p count (Some own) =
      let sum : ℕ = own.counts.objects + suc count in
      both_tests p 0xffffffff sum (2 ^ 32) (nat_lt p 0xffffffff) (nat_lt sum (2 ^ 32)) (lt_tells p 0xffffffff) (lt_tells sum (2 ^ 32))

-- ---- a path's last name

no_bytes : (name : List ℕ) → Decides (has_no_bytes name) (name ≡ [])
no_bytes [] = (λ e. refl, λ e. refl)
no_bytes (b ∷ bs) = (λ e. absurd (not_true e), λ e. cc)

dots_decides : (name : List ℕ) → Decides (is_dots name) (IsDots name)
dots_decides name =
    Decides-or (has_no_bytes name) (bytes_eq name (46 ∷ []) || bytes_eq name (46 ∷ 46 ∷ [])) (no_bytes name)
    (Decides-or (bytes_eq name (46 ∷ [])) (bytes_eq name (46 ∷ 46 ∷ [])) (bytes_eq-Decides name (46 ∷ [])) (bytes_eq-Decides name (46 ∷ 46 ∷ [])))

module _ (p : ℕ) (own : Option ProcessState) (new_nodes : ℕ) where
  -- what such a call answers
  abbrev pub answer_of : NameOutcome → Answer
  answer_of o = (outcome_of p own new_nodes o).answer

  module _ (goes : ℕ → List ℕ → NameOutcome) (rows : ℕ → List ℕ → Rows) (each : (d : ℕ) (name : List ℕ) → Answers (rows d name) (answer_of (goes d name))) where
    last_listed : (path : List ℕ) (end : PathEnd) → Answers (last_rows path rows end) (answer_of (at_name goes (last_of path (Ends end))))
    last_listed path (end.Last d from len) =
        let name : List ℕ = name_at path from len in
        by_row (λ l. answer_of (at_name goes l)) (is_dots name) (IsNone Inval) (StandsIn d name) (IsDots name) Inval (rows d name) (dots_decides name) refl
        (λ _. each d name)
    last_listed path (end.Absent d from len) = refl
    last_listed path (end.Found n) = refl

    pub named_listed : (t : Tree) (path : List ℕ) (k : Option OpenKind) → Answers (named_rows t path rows k) (answer_of (at_name goes (last_name t path k)))
    named_listed t path k =
        path_listed (λ w. answer_of (at_name goes (last_of path w))) (λ errno. refl) (λ component. refl) (last_rows path rows) (last_listed path) t Parent
        path k

  -- ---- names of nodes that aren't there

  pub lost_listed : (t : Tree) (d : ℕ) (name : List ℕ) (o : Option ℕ) (comes : NameOutcome) (others : Rows) → entry_of t d name ≡ o
      → Answers others (answer_of comes) → Answers (row (IsLost t d name) Noent others) (answer_of (unless_lost t o comes))
  lost_listed t d name None comes others here goes = inr (λ h. none_is_no h.0 (sym here ∙ h.1), goes)
  lost_listed t d name (Some n) comes others here goes =
      by_row answer_of (is_absent t n) (Refuses Noent) comes (IsLost t d name) Noent others (
        λ e. (n, here, (absent (get t.nodes n)).0 e),
        λ h. (absent (get t.nodes n)).1 (subst (λ m. get t.nodes m ≡ None) (same_some h.0 n (sym h.1 ∙ here)) h.2),
      ) refl (λ _. goes)

-- ---- making a name

some_decides : {X : Type 0} (o : Option X) → Decides (not (is_none o)) ((x : X) × (o ≡ Some x))
some_decides None = (λ e. absurd (not_true e), λ h. absurd (none_is_no h.0 h.1))
some_decides (Some x) = (λ e. (x, refl), λ h. refl)

pub taken_decides : (t : Tree) (d : ℕ) (name : List ℕ) → Decides (not (lacks_name t d name)) (IsTaken t d name)
taken_decides t d name = some_decides (entry_of t d name)

pub lacks_decides : {X : Type 0} (o : Option X) → Decides (is_none o) (¬ ((x : X) × (o ≡ Some x)))
lacks_decides None = (λ e h. none_is_no h.0 h.1, λ h. refl)
lacks_decides (Some x) = (λ e. absurd (not_true e), λ h. absurd (h (x, refl)))

-- the directory where a name is made, with two faults
module _ (f : Option TreeFault → Answer) (lacks : f (Some Absent) ≡ answer.Reply (refused Noent))
    (other : f (Some NotDirectory) ≡ answer.Reply (refused Notdir))
    (t : Tree) (d : ℕ) where
  abbrev pub absent_test : Tested f
  absent_test = tested f (get t.nodes d ≡ None) Noent (is_absent t d) (Some Absent) (absent (get t.nodes d)) lacks

  abbrev pub other_test : Tested f
  other_test = tested f (is_directory t d ≡ false) Notdir (not (is_directory t d)) (Some NotDirectory) (turned (is_directory t d)) other

  abbrev pub removed_test : Tested f
  removed_test = tested f (is_removed t d ≡ true) Noent (is_removed t d) (Some Absent) (itself (is_removed t d)) lacks

  pub make_listed : (name : List ℕ) (others : Rows) → f (Some Taken) ≡ answer.Reply (refused Exist) → Answers others (f None)
      → Answers (make_rows t d name others) (f (first_fault (make_faults t d name)))
  make_listed name others taken goes =
      by_rows f
      (absent_test ∷ other_test ∷ removed_test
      ∷ tested f (IsTaken t d name) Exist (not (lacks_name t d name)) (Some Taken) (taken_decides t d name) taken ∷ []) None others goes

pub making_listed : (kind : NodeKind) (path : List ℕ) (now new p : ℕ) (own : Option ProcessState) (t : Tree) (k : Option OpenKind)
    → Answers (named_rows t path (λ d name. make_rows t d name (number_rows p 1 own)) k) (answer_of p own 1 ((making kind path).effect now new t k None))
making_listed kind path now new p own t k =
    named_listed p own 1 (make_in kind now new t) (λ d name. make_rows t d name (number_rows p 1 own))
    (λ d name.
    make_listed (λ x. answer_of p own 1 (unless_fault errno_of x (Changes (with_node kind now new t d name)))) refl refl t d name (number_rows p 1 own) refl
    (numbers_listed _ refl p 0 own)) t path k

-- the text of a symlink
text_listed : (text : List ℕ) (others : Rows) (f : Option Errno → Answer) → ((errno : Errno) → f (Some errno) ≡ answer.Reply (refused errno))
    → Answers others (f None) → Answers (byte_rows text (row (text ≡ []) Noent others)) (f (text_error text))
text_listed text others f refuses goes =
    bytes_listed text (λ o. f (or_else o (empty_error text))) (row (text ≡ []) Noent others) refuses (empty text) where
      empty : (bytes : List ℕ) → Answers (row (bytes ≡ []) Noent others) (f (empty_error bytes))
      empty [] = inl (refl, refuses Noent)
      empty (b ∷ bytes) = inr (λ e. cc, goes)

-- ---- taking a name away

module _ (flags now : ℕ) (p : ℕ) (own : Option ProcessState) (t : Tree) (d : ℕ) (name : List ℕ) where
  abbrev kind_rows : Rows
  kind_rows = row (IsOfDirectory t d name × (¬ Has flags 0)) Perm (row (IsOfOther t d name × Has flags 0) Notdir succeeds)

  abbrev full_rows : Rows
  full_rows = row (IsOfFull t d name × (¬ Has flags 0)) Perm (row (IsOfFull t d name) Notempty kind_rows)

  module _ (n : ℕ) (here : entry_of t d name ≡ Some n) where
    -- what is said of the name's node is said of this one
    of_node : (test : ℕ → Bool) (b : Bool) → (m : ℕ) × (entry_of t d name ≡ Some m) × (test m ≡ b) → test n ≡ b
    of_node test b h = subst (λ m. test m ≡ b) (same_some h.0 n (sym h.1 ∙ here)) h.2

    full_decides : Decides (has_names t n) (IsOfFull t d name)
    full_decides = (λ e. (n, here, e), of_node (has_names t) true)

    abbrev gone : NameOutcome
    gone = Changes (without_name now t d name n)

    removes : ((removes_directory flags ≡ true) × Has flags 0) ⊎ ((removes_directory flags ≡ false) × (¬ Has flags 0))
    removes = tells (removes_directory flags) (flag_decides flags 0)

    kind_listed : Answers kind_rows (answer_of p own 0 (unlink_node flags now t d name (Some n)))
    kind_listed =
        let P : NameOutcome → Type 0 = λ o. Answers kind_rows (answer_of p own 0 o) in
        by_test P (is_directory t n) (cond (removes_directory flags) gone (Refuses Perm)) (cond (removes_directory flags) (Refuses Notdir) gone)
        (knows (is_directory t n))
        (λ directory.
        by_test P (removes_directory flags) gone (Refuses Perm) removes
        (λ asked. inr (λ h. h.1 asked, inr (λ h. not_true (sym (of_node (is_directory t) false h.0) ∙ directory), refl)))
        (λ unasked. inl (((n, here, directory), unasked), refl)))
        (λ other.
        let none : ¬ IsOfDirectory t d name = λ h. not_true (sym other ∙ of_node (is_directory t) true h) in
        by_test P (removes_directory flags) (Refuses Notdir) gone removes
        (λ asked. inr (λ h. none h.0, inl (((n, here, other), asked), refl)))
        (λ unasked. inr (λ h. none h.0, inr (λ h. unasked h.1, refl))))

    abbrev by_fault : Option TreeFault → Answer
    by_fault x = answer_of p own 0 (unless_fault (unlink_errno flags) x (unlink_node flags now t d name (Some n)))

    full_listed : Answers full_rows (by_fault (cond (has_names t n) (Some NotEmpty) None))
    full_listed =
        by_test (λ x. Answers full_rows (by_fault x)) (has_names t n) (Some NotEmpty) None (tells (has_names t n) full_decides)
        (λ full.
        by_test (λ errno. Answers full_rows (answer.Reply (refused errno))) (removes_directory flags) Notempty Perm removes
        (λ asked. inr (λ h. h.1 asked, inl (full, refl))) (λ unasked. inl ((full, unasked), refl)))
        (λ bare. inr (λ h. bare h.0, inr (bare, kind_listed)))

  abbrev there_rows : Rows
  there_rows =
      row (get t.nodes d ≡ None) Noent (row (is_directory t d ≡ false) Notdir (row (¬ IsTaken t d name) Noent full_rows))

  -- by the node that has the name
  unlink_by : (o : Option ℕ) → entry_of t d name ≡ o
      → Answers there_rows (answer_of p own 0 (unless_fault (unlink_errno flags)
      (first_fault ((is_absent t d, Absent) ∷ (not (is_directory t d), NotDirectory) ∷ (is_none o, Absent) ∷ (is_full t o, NotEmpty) ∷ []))
      (unlink_node flags now t d name o)))
  unlink_by None here =
      let f : Option TreeFault → Answer = λ x. answer_of p own 0 (unless_fault (unlink_errno flags) x (Refuses Noent)) in
      by_rows f (absent_test f refl refl t d ∷ other_test f refl refl t d ∷ []) (Some Absent) (row (¬ IsTaken t d name) Noent full_rows)
      (inl (λ taken. none_is_no taken.0 (sym here ∙ taken.1), refl))
  unlink_by (Some n) here =
      let f : Option TreeFault → Answer = by_fault n here in
      by_rows f (absent_test f refl refl t d ∷ other_test f refl refl t d ∷ []) (cond (has_names t n) (Some NotEmpty) None)
      (row (¬ IsTaken t d name) Noent full_rows) (inr (λ free. free (n, here), full_listed n here))

  pub unlink_listed : Answers (unlink_rows flags t d name) (answer_of p own 0 (unlink_in flags now t d name))
  unlink_listed = lost_listed p own 0 t d name (entry_of t d name) _ there_rows refl (unlink_by (entry_of t d name) refl)

pub symlink_listed : (text path : List ℕ) (kind : NodeKind) (now new p : ℕ) (own : Option ProcessState) (t : Tree) (k : Option OpenKind)
    → Answers (byte_rows text (row (text ≡ []) Noent (named_rows t path (λ d name. make_rows t d name (number_rows p 1 own)) k)))
    (answer_of p own (making_unless (text_error text) (making kind path)).new_nodes
    ((making_unless (text_error text) (making kind path)).effect now new t k None))
symlink_listed text path kind now new p own t k =
    text_listed text (named_rows t path (λ d name. make_rows t d name (number_rows p 1 own)) k)
    (λ o. answer_of p own (making_unless o (making kind path)).new_nodes ((making_unless o (making kind path)).effect now new t k None)) (λ errno. refl)
    (making_listed kind path now new p own t k)
