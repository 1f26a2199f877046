-- The meaning of the call that takes a name away keeps to what the meanings on names keep to.
--     unlink_holds      what holds of each of its errors, and of the change of each name that may go, holds of what it comes to
--     without_name_change, without_name_alike, without_name_unset      a name that goes: that is a change;  by what is seen it sets the
--         same;  and it sets the directory and the node of the name alone
--     named_is_seen      the node of a name is seen
--     unlinking_well, file_unlink_is_proper      the meaning;  the call is proper
use Rattle.std.proofs.Common.{◌≡◌, ◌≢◌, ℕ, ◌-◌, Bool, true, false, not, cond, List, [], ◌∷◌, ◌++◌, map, Option, Some, None, inl, inr, is_none, is_some, refl, sym, ap, subst, ◌∙◌}
use Rattle.std.specs.Prelude.{nat_lt}
use Rattle.std.specs.FinMap.{get, len, remove}
use Rattle.std.specs.Option.{option_map}
use Rattle.abi_base.specs.declared.errno.Errno.{Errno}
use Rattle.abi_base.specs.declared.errno.Errno.TheVariants.{Noent, Nomem, Notdir, Notempty, Perm}
use Rattle.abi_types.specs.declared.node.Node.{Node}
use Rattle.abi_types.specs.declared.open_kind.OpenKind.{OpenKind}
use Rattle.maps.specs.Maps.{get-insert-same}
use Rattle.tree_model.specs.Changes.{Faults, first_fault, is_absent, is_full, one_less, unlinked, unlink_faults, with_count, without_old}
use Rattle.tree_model.specs.Entries.{here_or_other, names-without_old, one_less-changes}
use Rattle.tree_model.specs.Tree.{HasName, IsTree, entry_of, is_directory, is_directory_node, names_in}
use Rattle.tree_model.specs.declared.fault.TreeFault.TheVariants.{Absent, NotDirectory, NotEmpty}
use Rattle.kernel_model.specs.Families.FileChanges.{modified}
use Rattle.kernel_model.specs.Families.FilePaths.{path_errors}
use Rattle.kernel_model.specs.Families.LastNames.{LastName, StandsIn, IsNone, IsOutside, directory_parts, last_name, last_outside}
use Rattle.kernel_model.specs.Families.NameMaking.{with_new_names}
use Rattle.kernel_model.specs.Families.NameMeaning.{NameOutcome, Refuses, Changes, unless_fault}
use Rattle.kernel_model.specs.Families.NameRemoving.{file_unlink, named_parts, node_parts_of, recounted, removes_directory, unless_lost, unlink_errno, unlink_in, unlink_node, unlinking, without_name}
use Rattle.kernel_model.specs.Proper.{IsIn, IsProper}
use Rattle.kernel_model.specs.Sight.{behind}
use Rattle.kernel_model.specs.State.{Part, State, Tree, at_names, at_node, has_part, part_of, same_part, tree_of}
use Rattle.kernel_model.specs.Families.TreeUpdates.{change_updates}
use Rattle.kernel_model.proofs.Branches.{IsSeen}
use Rattle.kernel_model.proofs.FilePaths.{noent_among, notdir_among, path_errors_lack}
use Rattle.kernel_model.proofs.LastNames.{HasBelow, StandsBelow, all_both, at_name_holds, at_name_plain, at_name_reads, below_alike, below_is_seen, directory_is_seen, directory_unset, entry_alike, entry_below, in_front, last_name_below, last_name_reads}
use Rattle.kernel_model.proofs.NameMaking.{seen_in_front, table_holds, unless_alike}
use Rattle.kernel_model.proofs.NameMeanings.{IsChangeOf, IsGood, IsPlainly, IsUnsetBy, NamesWell, SetsAlike}
use Rattle.kernel_model.proofs.NameProper.{by_name_is_proper}
use Rattle.kernel_model.proofs.Parts.{has_of_both, outside_cons, same_part_is}
use Rattle.kernel_model.proofs.Reworks.{retimed_reworks}
use Rattle.kernel_model.proofs.Tests.{either_false, either_true, not_false, not_true, or_false}
use Rattle.kernel_model.proofs.TreeChanges.{first_is_member, later_is_member, retimed_alike_at, retimed_change, unlinked_change, updates_alike, updates_unset}

-- ---- what it comes to

-- its errors beside those of paths
abbrev more_errors : List Errno
more_errors = Perm ∷ Notempty ∷ []

perm_among : IsIn Perm (path_errors ++ more_errors)
perm_among = (path_errors, Notempty ∷ [], refl)

notempty_among : IsIn Notempty (path_errors ++ more_errors)
notempty_among = (path_errors ++ Perm ∷ [], [], refl)

noent_of : IsIn Noent (path_errors ++ more_errors)
noent_of = in_front _ path_errors more_errors noent_among

notdir_of : IsIn Notdir (path_errors ++ more_errors)
notdir_of = in_front _ path_errors more_errors notdir_among

-- the faults and what it comes to, by the node that has the name
abbrev faults_by : Tree → ℕ → Option ℕ → Faults
faults_by t d o = (is_absent t d, Absent) ∷ (not (is_directory t d), NotDirectory) ∷ (is_none o, Absent) ∷ (is_full t o, NotEmpty) ∷ []

abbrev unlink_free : ℕ → ℕ → Tree → ℕ → List ℕ → Option ℕ → NameOutcome
unlink_free flags now t d name o = unless_fault (unlink_errno flags) (first_fault (faults_by t d o)) (unlink_node flags now t d name o)

abbrev unlink_by : ℕ → ℕ → Tree → ℕ → List ℕ → Option ℕ → NameOutcome
unlink_by flags now t d name o = unless_lost t o (unlink_free flags now t d name o)

module _ (P : NameOutcome → Type 0) (flags now : ℕ) (t : Tree) (d : ℕ) (name : List ℕ)
    (refuses : (errno : Errno) → IsIn errno (path_errors ++ more_errors) → P (Refuses errno)) where
  full_refused : (b : Bool) → P (Refuses (cond b Notempty Perm))
  full_refused true = refuses Notempty notempty_among
  full_refused false = refuses Perm perm_among

  node_holds : (c : NameOutcome) (directory removes : Bool) → P c → P (cond directory (cond removes c (Refuses Perm)) (cond removes (Refuses Notdir) c))
  node_holds c true true h = h
  node_holds c true false h = refuses Perm perm_among
  node_holds c false true h = refuses Notdir notdir_of
  node_holds c false false h = h

  lost_holds : (c : NameOutcome) (b : Bool) → (b ≡ false → P c) → P (cond b (Refuses Noent) c)
  lost_holds c true h = refuses Noent noent_of
  lost_holds c false h = h refl

  by_faults : (o : Option ℕ) → (first_fault (faults_by t d o) ≡ None → P (unlink_node flags now t d name o))
      → P (unlink_free flags now t d name o)
  by_faults o free =
      table_holds P (unlink_errno flags) (faults_by t d o) (unlink_node flags now t d name o)
      (refuses Noent noent_of, (refuses Notdir notdir_of, (refuses Noent noent_of, (full_refused (removes_directory flags), tt)))) free

  by_entry : (o : Option ℕ) → ((n : ℕ) → o ≡ Some n → is_absent t n ≡ false → first_fault (faults_by t d o) ≡ None → P (Changes (without_name now t d name n)))
      → P (unlink_by flags now t d name o)
  by_entry None goes = by_faults None (λ free. refuses Noent noent_of)
  by_entry (Some n) goes =
      lost_holds _ (is_absent t n)
      (λ there.
      by_faults (Some n)
      (λ free. node_holds (Changes (without_name now t d name n)) (is_directory t n) (removes_directory flags) (goes n refl there free)))

  pub unlink_holds : ((n : ℕ) → HasName t d name n → is_absent t n ≡ false → first_fault (unlink_faults t d name) ≡ None
      → P (Changes (without_name now t d name n))) → P (unlink_in flags now t d name)
  unlink_holds goes = by_entry (entry_of t d name) goes

-- ---- a name that goes

pub without_name_change : (now : ℕ) (t : Tree) (d : ℕ) (name : List ℕ) (n new new_nodes : ℕ) → IsTree t → HasName t d name n
    → first_fault (unlink_faults t d name) ≡ None → IsChangeOf t new new_nodes (without_name now t d name n)
without_name_change now t d name n new new_nodes tree named free =
    let has_node = later_is_member n d (n ∷ []) (first_is_member n []) in
    retimed_change t new new_nodes (record { tree = with_new_names now (unlinked t d name) d; nodes = d ∷ n ∷ []; directories = d ∷ [] }) n (recounted now) has_node
    (retimed_change t new new_nodes (record { tree = unlinked t d name; nodes = d ∷ n ∷ []; directories = d ∷ [] }) d (modified now) (first_is_member d (n ∷ []))
    (unlinked_change t d name n named new new_nodes (d ∷ n ∷ []) (d ∷ []) tree free has_node (first_is_member d [])))

pub one_less_alike : (t u : Tree) (n q : ℕ) → get t.nodes n ≡ get u.nodes n → get t.nodes q ≡ get u.nodes q
    → get (one_less t n).nodes q ≡ get (one_less u n).nodes q
one_less_alike t u n q same at =
    here_or_other (λ k. get (one_less t n).nodes k ≡ get (one_less u n).nodes k) n q
    ((one_less-changes t n).node ∙ ap (option_map (λ (node : Node). with_count node (node.links - 1))) same ∙ sym (one_less-changes u n).node)
    (λ other. (one_less-changes t n).others q other ∙ at ∙ sym ((one_less-changes u n).others q other))

module _ (now : ℕ) (t u : Tree) (d : ℕ) (name : List ℕ) (n : ℕ) (in_t : HasName t d name n) (in_u : HasName u d name n)
    (directory : get t.nodes d ≡ get u.nodes d) (names : get t.names d ≡ get u.names d) (node : get t.nodes n ≡ get u.nodes n) where
  unlinked_alike : (q : ℕ) → get t.nodes q ≡ get u.nodes q → get (unlinked t d name).nodes q ≡ get (unlinked u d name).nodes q
  unlinked_alike q at =
      ap (λ o. get (without_old t o).nodes q) in_t ∙ one_less_alike t u n q node at ∙ sym (ap (λ o. get (without_old u o).nodes q) in_u)

  with_names_alike : (q : ℕ) → get t.nodes q ≡ get u.nodes q
      → get (with_new_names now (unlinked t d name) d).nodes q ≡ get (with_new_names now (unlinked u d name) d).nodes q
  with_names_alike q at =
      retimed_alike_at (unlinked t d name) (unlinked u d name) d (modified now) q (unlinked_alike d directory) (unlinked_alike q at)

  without_node_alike : (q : ℕ) → get t.nodes q ≡ get u.nodes q
      → get (without_name now t d name n).tree.nodes q ≡ get (without_name now u d name n).tree.nodes q
  without_node_alike q at =
      retimed_alike_at (with_new_names now (unlinked t d name) d) (with_new_names now (unlinked u d name) d) n (recounted now) q
      (with_names_alike n node) (with_names_alike q at)

  pub without_name_alike : change_updates (without_name now u d name n) ≡ change_updates (without_name now t d name n)
  without_name_alike =
      updates_alike (without_name now t d name n).tree (without_name now u d name n).tree (d ∷ n ∷ []) (d ∷ [])
      (without_node_alike d directory, (without_node_alike n node, tt))
      (names_left now t d name n ∙ ap (λ o. Some (remove (names_in o) name)) names ∙ sym (names_left now u d name n), tt)
    where
      -- the names that are left
      names_left : (now : ℕ) (w : Tree) (d : ℕ) (name : List ℕ) (n : ℕ)
          → get (without_name now w d name n).tree.names d ≡ Some (remove (names_in (get w.names d)) name)
      names_left now w d name n =
          ap (λ m. get m d) ((retimed_reworks (with_new_names now (unlinked w d name) d) n (recounted now)).names
          ∙ (retimed_reworks (unlinked w d name) d (modified now)).names)
          ∙ get-insert-same (without_old w (entry_of w d name)).names d _
          ∙ ap (λ m. Some (remove (names_in (get m d)) name)) (names-without_old w (entry_of w d name))

pub without_name_unset : (now : ℕ) (t : Tree) (d : ℕ) (name : List ℕ) (n : ℕ) (q : Part)
    → (same_part (at_node d) q ≡ false) × (same_part (at_names d) q ≡ false) → same_part (at_node n) q ≡ false
    → has_part (map part_of (change_updates (without_name now t d name n))) q ≡ false
without_name_unset now t d name n q here node =
    updates_unset (without_name now t d name n).tree q (d ∷ n ∷ []) (d ∷ []) (here.0, (node, tt)) (here.1, tt)

-- ---- by what is seen

module _ (flags now : ℕ) (t u : Tree) (kind : Option OpenKind) (d : ℕ) (name : List ℕ) (seen : IsSeen t u kind) (under : HasBelow t kind d) where
  same_node : get t.nodes d ≡ get u.nodes d
  same_node = (below_alike t u kind d seen under).0

  same_names : get t.names d ≡ get u.names d
  same_names = (below_alike t u kind d seen under).1

  same_entry : entry_of u d name ≡ entry_of t d name
  same_entry = ap (λ o. get (names_in o) name) (sym same_names)

  lost_alike : (b : Bool) (c other : NameOutcome) → (b ≡ false → SetsAlike c other) → SetsAlike (cond b (Refuses Noent) c) (cond b (Refuses Noent) other)
  lost_alike true c other same = refl
  lost_alike false c other same = same refl

  pick_alike : (directory removes : Bool) (c other : NameOutcome) → SetsAlike c other
      → SetsAlike (cond directory (cond removes c (Refuses Perm)) (cond removes (Refuses Notdir) c))
      (cond directory (cond removes other (Refuses Perm)) (cond removes (Refuses Notdir) other))
  pick_alike true true c other same = same
  pick_alike true false c other same = refl
  pick_alike false true c other same = refl
  pick_alike false false c other same = same

  node_alike : (n : ℕ) → HasName t d name n → get t.nodes n ≡ get u.nodes n
      → SetsAlike (unlink_node flags now u d name (Some n)) (unlink_node flags now t d name (Some n))
  node_alike n named node =
      let was : NameOutcome = Changes (without_name now t d name n) in
      let is : NameOutcome = Changes (without_name now u d name n) in
      subst (λ b. SetsAlike (cond b (cond (removes_directory flags) is (Refuses Perm)) (cond (removes_directory flags) (Refuses Notdir) is))
      (unlink_node flags now t d name (Some n))) (ap is_directory_node node)
      (pick_alike (is_directory t n) (removes_directory flags) is was
      (without_name now t d name n, refl, without_name_alike now t u d name n named (same_entry ∙ named) same_node same_names node))

  some_alike : (n : ℕ) → HasName t d name n → SetsAlike (unlink_by flags now u d name (Some n)) (unlink_by flags now t d name (Some n))
  some_alike n named =
      let node = entry_alike t u kind d name n seen under named in
      subst (λ b. SetsAlike (cond b (Refuses Noent) (unlink_free flags now u d name (Some n))) (unlink_by flags now t d name (Some n))) (ap is_none node)
      (lost_alike (is_absent t n) (unlink_free flags now u d name (Some n)) (unlink_free flags now t d name (Some n))
      (λ there.
      let below = entry_below t kind d name n under named (not_false (is_some (get t.nodes n)) there) in
      let names = (below_alike t u kind n seen below).1 in
      unless_alike (unlink_errno flags) (first_fault (faults_by u d (Some n))) (first_fault (faults_by t d (Some n))) _ _
      (λ i. first_fault ((is_none (sym same_node i), Absent) ∷ (not (is_directory_node (sym same_node i)), NotDirectory) ∷ (false, Absent)
      ∷ (nat_lt 0 (len (names_in (sym names i))), NotEmpty) ∷ []))
      (node_alike n named node)))

  unlink_alike : SetsAlike (unlink_in flags now u d name) (unlink_in flags now t d name)
  unlink_alike =
      subst (λ o. SetsAlike (unlink_by flags now u d name o) (unlink_in flags now t d name)) (sym same_entry)
      (elim (entry_of t d name) as (λ o. entry_of t d name ≡ o → SetsAlike (unlink_by flags now u d name o) (unlink_by flags now t d name o)) [
        | None ↦ λ none.
            unless_alike (unlink_errno flags) (first_fault (faults_by u d None)) (first_fault (faults_by t d None)) (Refuses Noent) (Refuses Noent)
            (λ i. first_fault ((is_none (sym same_node i), Absent) ∷ (not (is_directory_node (sym same_node i)), NotDirectory) ∷ (true, Absent)
            ∷ (false, NotEmpty) ∷ [])) refl
        | Some n ↦ λ named. some_alike n named
      ] refl)

-- ---- the node of a name

part_unset : (n : ℕ) (q : Part) (b : Bool) → b ≡ false → has_part (cond b [] (at_node n ∷ [])) q ≡ false → same_part (at_node n) q ≡ false
part_unset n q true there h = absurd (not_true (sym there))
part_unset n q false there h = (outside_cons (at_node n) [] q h).0

pub named_unset : (t : Tree) (last : LastName) (q : Part) (d : ℕ) (name : List ℕ) (n : ℕ) → has_part (named_parts t last) q ≡ false → last ≡ StandsIn d name
    → HasName t d name n → is_absent t n ≡ false → same_part (at_node n) q ≡ false
named_unset t last q d name n h is named there =
    part_unset n q (is_absent t n) there
    (sym (ap (λ o. has_part (node_parts_of t o) q) named) ∙ sym (ap (λ l. has_part (named_parts t l) q) is) ∙ h)

part_seen : (parts : List Part) (n : ℕ) (q : Part) (b : Bool) → (b ≡ false → has_part parts (at_node n) ≡ true)
    → has_part (cond b [] (at_node n ∷ [])) q ≡ true → has_part parts q ≡ true
part_seen parts n q true seen h = absurd (not_true h)
part_seen parts n q false seen h =
    subst (λ part. has_part parts part ≡ true) (same_part_is (at_node n) q (sym (or_false (same_part (at_node n) q)) ∙ h)) (seen refl)

entry_seen : (S : State) (kind : Option OpenKind) (d : ℕ) (name : List ℕ) (q : Part) (o : Option ℕ) → HasBelow (tree_of S) kind d
    → entry_of (tree_of S) d name ≡ o → has_part (node_parts_of (tree_of S) o) q ≡ true → has_part (behind S kind) q ≡ true
entry_seen S kind d name q None under is h = absurd (not_true h)
entry_seen S kind d name q (Some n) under is h =
    part_seen (behind S kind) n q (is_absent (tree_of S) n)
    (λ there. (below_is_seen S kind n (entry_below (tree_of S) kind d name n under is (not_false (is_some (get S.nodes n)) there))).0) h

last_seen : (S : State) (kind : Option OpenKind) (q : Part) (last : LastName) → StandsBelow (tree_of S) kind last
    → has_part (named_parts (tree_of S) last) q ≡ true → has_part (behind S kind) q ≡ true
last_seen S kind q (StandsIn d name) under h = entry_seen S kind d name q (entry_of (tree_of S) d name) under refl h
last_seen S kind q (IsNone errno) under h = absurd (not_true h)
last_seen S kind q (IsOutside component) under h = absurd (not_true h)

pub named_is_seen : (S : State) (path : List ℕ) (kind : Option OpenKind) (q : Part)
    → has_part (named_parts (tree_of S) (last_name (tree_of S) path kind)) q ≡ true → has_part (behind S kind) q ≡ true
named_is_seen S path kind q h = last_seen S kind q (last_name (tree_of S) path kind) (last_name_below (tree_of S) path kind) h

-- ---- the meaning

pub unlinking_well : (flags : ℕ) (path : List ℕ) → NamesWell (unlinking flags path)
unlinking_well flags path = record {
  reads = λ now new t u here there seen second.
      at_name_reads (unlink_in flags now) t u path here (λ d name under. unlink_alike flags now t u here d name seen under) seen;
  walks = λ t u here there seen second. ap last_outside (last_name_reads t u path here seen);
  sets = λ now new t here there q h.
      let last = last_name t path here in
      let both = either_false (has_part (directory_parts last) q) (has_part (named_parts t last) q)
      (sym (has_of_both (directory_parts last) (named_parts t last) q) ∙ h) in
      at_name_holds (λ c. IsUnsetBy c q) (unlink_in flags now t) (λ _. tt) (λ _. tt) last
      (λ d name is.
      unlink_holds (λ c. IsUnsetBy c q) flags now t d name (λ _ _. tt)
      (λ n named there free.
      without_name_unset now t d name n q (directory_unset last q d name both.0 is) (named_unset t last q d name n both.1 is named there)));
  seen = λ S here there q h.
      let last = last_name (tree_of S) path here in
      seen_in_front _ _ q
      (elim (either_true (has_part (directory_parts last) q) (has_part (named_parts (tree_of S) last) q)
      (sym (has_of_both (directory_parts last) (named_parts (tree_of S) last) q) ∙ h)) [
        | inl first ↦ directory_is_seen S path here q first
        | inr other ↦ named_is_seen S path here q other
      ]);
  plain = λ now new t here there.
      at_name_plain more_errors (unlink_in flags now t) t path here
      (λ d name. unlink_holds (IsPlainly (path_errors ++ more_errors) None) flags now t d name (λ errno here. here) (λ n named there free. tt));
  again = inl refl;
  lacks = all_both (λ errno. errno ≢ Nomem) path_errors more_errors path_errors_lack ((λ e. cc), ((λ e. cc), tt));
  good = λ now new S here there first second tree none.
      at_name_holds (IsGood (tree_of S) new 0) (unlink_in flags now (tree_of S)) (λ _. tt) (λ _. tt) (last_name (tree_of S) path here)
      (λ d name is.
      unlink_holds (IsGood (tree_of S) new 0) flags now (tree_of S) d name (λ _ _. tt)
      (λ n named there free. without_name_change now (tree_of S) d name n new 0 tree named free));
}

pub file_unlink_is_proper : (fd : ℕ) (path : List ℕ) (flags : ℕ) → IsProper (file_unlink fd path flags)
file_unlink_is_proper fd path flags = by_name_is_proper (unlinking flags path) (unlinking_well flags path) _
