-- The meaning of the call that moves a name keeps to what the meanings on names keep to.
--     IsLed t o, unless_lost_holds, unless_lost_alike      where a name has a node, it is there;  what a call comes to unless it isn't
--     below_seen      the same is below a node that is seen
--     LedAlike t u o      the node of a name, if there is one, is alike as far as a move looks at it
--     rename_alike, rename_unset, rename_plain, rename_good      what a move comes to
--     renaming_well, file_rename_is_proper      the meaning;  the call is proper
use Rattle.std.proofs.Common.{◌≡◌, ◌≢◌, ℕ, ◌==◌, ◌&&◌, Bool, true, false, not, cond, List, [], ◌∷◌, ◌++◌, Option, Some, None, inl, inr, IsSome, is_none, is_some, refl, sym, ap, subst, ◌∙◌}
use Rattle.std.specs.Prelude.{nat_lt, if◌then◌else◌}
use Rattle.std.specs.FinMap.{get, len}
use Rattle.std.specs.List.{AllByRecursion}
use Rattle.abi_base.specs.declared.errno.Errno.{Errno}
use Rattle.abi_base.specs.declared.errno.Errno.TheVariants.{Isdir, Noent, Nomem, Notempty}
use Rattle.abi_types.specs.declared.node.Node.{Node}
use Rattle.abi_types.specs.declared.open_kind.OpenKind.{OpenKind}
use Rattle.abi_types.specs.declared.open_kind.OpenKind.TheVariants.{Directory}
use Rattle.maps.specs.Closure.{member}
use Rattle.tree_model.specs.Changes.{Faults, drop_name, first_fault, is_below, is_full, is_same, leads_to_directory, one_less, put_name, rename_faults, replace_faults, replaced, without_old}
use Rattle.tree_model.specs.Entries.{one_less-changes}
use Rattle.tree_model.specs.Finds.{below_alike as below_in_both}
use Rattle.tree_model.specs.Tree.{IsTree, below, entry_of, is_directory_node, links_in, names_in}
use Rattle.tree_model.specs.declared.fault.TreeFault.TheVariants.{Absent, NotDirectory, IsDirectory, NotEmpty, Below}
use Rattle.tree_model.specs.declared.limits.TheConstants.{ROOT}
use Rattle.kernel_model.specs.Families.FileChanges.{modified}
use Rattle.kernel_model.specs.Families.FilePaths.{path_errors}
use Rattle.kernel_model.specs.Families.LastNames.{LastName, StandsIn, IsNone, IsOutside, directory_parts, last_name, last_outside}
use Rattle.kernel_model.specs.Families.NameMaking.{errno_of, with_new_names}
use Rattle.kernel_model.specs.Families.NameMeaning.{NameOutcome, Refuses, Changes, at_name, unless_fault}
use Rattle.kernel_model.specs.Families.NameMoving.{file_rename, move_or_stay, node_of_name, rename_in, renaming, second_outside, with_move, with_new_count_of}
use Rattle.kernel_model.specs.Families.NameRemoving.{named_parts, node_parts_of, recounted, unless_lost}
use Rattle.kernel_model.specs.Proper.{IsIn, IsProper}
use Rattle.kernel_model.specs.Sight.{behind}
use Rattle.kernel_model.specs.State.{Part, State, Tree, at_names, at_node, has_part, same_part, tree_of}
use Rattle.kernel_model.specs.Families.TreeUpdates.{Change, change_updates, no_change}
use Rattle.kernel_model.proofs.Branches.{IsSeen}
use Rattle.kernel_model.proofs.FilePaths.{inval_among, noent_among, notdir_among, path_errors_lack}
use Rattle.kernel_model.proofs.LastNames.{HasBelow, LastPlainly, all_both, at_name_holds, at_name_plain, at_name_reads, below_alike, directory_is_seen, directory_unset, entry_alike, entry_below, in_front, last_name_reads, last_plainly}
use Rattle.kernel_model.proofs.MoveChanges.{move_change}
use Rattle.kernel_model.proofs.NameLinking.{seen_behind}
use Rattle.kernel_model.proofs.NameMaking.{table_holds, unless_alike, unless_holds}
use Rattle.kernel_model.proofs.NameMeanings.{IsGood, IsPlainly, IsUnsetBy, NamesWell, SetsAlike}
use Rattle.kernel_model.proofs.NameProper.{by_names_is_proper}
use Rattle.kernel_model.proofs.NameRemoving.{named_is_seen}
use Rattle.kernel_model.proofs.Parts.{has_of_both, outside_both, outside_cons}
use Rattle.kernel_model.proofs.Tests.{either_true, none_is_no, not_true, same_some}
use Rattle.kernel_model.proofs.TreeChanges.{updates_alike, updates_unset}
use Rattle.kernel_model.proofs.TreesAlike.{NamesAlike, NodeAlike, changed_names_alike, changed_node_alike, drop_name_alike, put_name_alike, retimed_names_alike, retimed_node_alike}

-- ---- the nodes of names

-- where the name has a node, it is there
abbrev pub IsLed : Tree → Option ℕ → Type 0
IsLed t o = (n : ℕ) → o ≡ Some n → IsSome (get t.nodes n)

none_led : (t : Tree) → IsLed t None
none_led t n is = absurd (none_is_no n is)

some_led : (t : Tree) (n : ℕ) → IsSome (get t.nodes n) → IsLed t (Some n)
some_led t n there m is = subst (λ k. IsSome (get t.nodes k)) (same_some n m is) there

pub unless_lost_holds : (P : NameOutcome → Type 0) (t : Tree) (o : Option ℕ) (a : NameOutcome) → P (Refuses Noent) → (IsLed t o → P a) → P (unless_lost t o a)
unless_lost_holds P t None a refused led = led (none_led t)
unless_lost_holds P t (Some n) a refused led =
    elim (get t.nodes n) as (λ o. get t.nodes n ≡ o → P (cond (is_none o) (Refuses Noent) a)) [
      | None ↦ λ _. refused
      | Some node ↦ λ there. led (some_led t n (ap is_some there))
    ] refl

lost_alike : (first second : Option Node) (a b : NameOutcome) → first ≡ second → (IsSome second → SetsAlike a b)
    → SetsAlike (cond (is_none first) (Refuses Noent) a) (cond (is_none second) (Refuses Noent) b)
lost_alike first None a b same alike = subst (λ o. SetsAlike (cond (is_none o) (Refuses Noent) a) (Refuses Noent)) (sym same) refl
lost_alike first (Some node) a b same alike = subst (λ o. SetsAlike (cond (is_none o) (Refuses Noent) a) b) (sym same) (alike refl)

pub unless_lost_alike : (t u : Tree) (o : Option ℕ) (a b : NameOutcome) → ((n : ℕ) → o ≡ Some n → NodeAlike t u n) → (IsLed t o → SetsAlike a b)
    → SetsAlike (unless_lost u o a) (unless_lost t o b)
unless_lost_alike t u None a b nodes alike = alike (none_led t)
unless_lost_alike t u (Some n) a b nodes alike =
    lost_alike (get u.nodes n) (get t.nodes n) a b (sym (nodes n refl)) (λ there. alike (some_led t n there))

-- ---- the node of a name, as far as a move looks at it

pub below_seen : (t u : Tree) (kind : Option OpenKind) (n : ℕ) → IsSeen t u kind → HasBelow t kind n → (q : ℕ) → member q (below u n) ≡ member q (below t n)
below_seen t u (Some (Directory node flags)) n seen under q = sym (below_in_both t u node seen n under q)
below_seen t u kind n seen under q = absurd under

pub record LedAlike (t u : Tree) (o : Option ℕ) : Type 0 where
  pub below : (d : ℕ) → is_below u o d ≡ is_below t o d
  pub directory : leads_to_directory u o ≡ leads_to_directory t o
  pub full : is_full u o ≡ is_full t o

-- so it is of a name in a directory below the open's, where it is there
pub led_alike : (t u : Tree) (kind : Option OpenKind) (d : ℕ) (name : List ℕ) (o : Option ℕ) → IsSeen t u kind → HasBelow t kind d
    → entry_of t d name ≡ o → IsLed t o → LedAlike t u o
led_alike t u kind d name None seen under is led = record { below = λ q. refl; directory = refl; full = refl }
led_alike t u kind d name (Some n) seen under is led =
    let inside = entry_below t kind d name n under is (led n refl) in
    let same = below_alike t u kind n seen inside in
    record {
      below = below_seen t u kind n seen inside;
      directory = ap is_directory_node (sym same.0);
      full = ap (λ names. nat_lt 0 (len (names_in names))) (sym same.1);
    }

-- ---- a move, by the nodes of both names

module _ (from : ℕ) (name : List ℕ) (to : ℕ) (new : List ℕ) where
  -- the tree after it, for a node that moves and one that had the new name
  abbrev moved_by : Tree → Option ℕ → Option ℕ → Tree
  moved_by t old None = t
  moved_by t old (Some n) = put_name (drop_name (without_old t old) from name) to new n

  abbrev renamed_by : Tree → Option ℕ → Option ℕ → Tree
  renamed_by t moved old = if is_same moved old then t else moved_by t old moved

  abbrev replaced_by : Option ℕ → Option ℕ → Option ℕ
  replaced_by moved old = if is_same moved old then None else old

  -- the table of faults
  abbrev faults_by : Tree → Option ℕ → Option ℕ → Faults
  faults_by t moved old =
      (is_none (get t.nodes from), Absent) ∷ (not (is_directory_node (get t.nodes from)), NotDirectory) ∷ (is_none moved, Absent)
      ∷ (is_none (get t.nodes to), Absent) ∷ (not (is_directory_node (get t.nodes to)), NotDirectory)
      ∷ ((links_in (get t.nodes to) == 0) && not (to == ROOT), Absent) ∷ (if is_same moved old then [] else replace_faults t moved to old)

  module _ (now : ℕ) where
    -- the tree with the times of both directories
    abbrev timed_by : Tree → Option ℕ → Option ℕ → Tree
    timed_by t moved old = with_new_names now (with_new_names now (renamed_by t moved old) from) to

    abbrev after_by : Tree → Option ℕ → Option ℕ → Tree
    after_by t moved old = with_new_count_of now (timed_by t moved old) (replaced_by moved old)

    abbrev move_by : Tree → Option ℕ → Option ℕ → Change
    move_by t moved old = record {
      tree = after_by t moved old;
      nodes = from ∷ to ∷ node_of_name (replaced_by moved old);
      directories = from ∷ to ∷ [];
    }

    abbrev rename_by : Tree → Option ℕ → Option ℕ → NameOutcome
    rename_by t moved old =
        unless_lost t moved
        (unless_lost t old
        (unless_fault errno_of (first_fault (faults_by t moved old)) (Changes (if is_same moved old then no_change t else move_by t moved old))))

    module _ (t u : Tree) where
      without_node_alike : (old : Option ℕ) (q : ℕ) → NodeAlike t u q → NodeAlike (without_old t old) (without_old u old) q
      without_node_alike None q same = same
      without_node_alike (Some m) q same = changed_node_alike t u (one_less t m) (one_less u m) m _ (one_less-changes t m) (one_less-changes u m) q same

      without_names_alike : (old : Option ℕ) (q : ℕ) → NamesAlike t u q → NamesAlike (without_old t old) (without_old u old) q
      without_names_alike None q same = same
      without_names_alike (Some m) q same = changed_names_alike t u (one_less t m) (one_less u m) m _ (one_less-changes t m) (one_less-changes u m) q same

      moved_node_alike : (moved old : Option ℕ) (q : ℕ) → NodeAlike t u q → NodeAlike (moved_by t old moved) (moved_by u old moved) q
      moved_node_alike None old q same = same
      moved_node_alike (Some n) old q same = without_node_alike old q same

      moved_names_alike : (moved old : Option ℕ) (q : ℕ) → NamesAlike t u q → NamesAlike (moved_by t old moved) (moved_by u old moved) q
      moved_names_alike None old q same = same
      moved_names_alike (Some n) old q same =
          put_name_alike (drop_name (without_old t old) from name) (drop_name (without_old u old) from name) to new n q
          (drop_name_alike (without_old t old) (without_old u old) from name q (without_names_alike old q same))

      renamed_node_alike : (moved old : Option ℕ) (q : ℕ) → NodeAlike t u q → NodeAlike (renamed_by t moved old) (renamed_by u moved old) q
      renamed_node_alike moved old q same =
          elim (is_same moved old) as (λ b. NodeAlike (if b then t else moved_by t old moved) (if b then u else moved_by u old moved) q) [
            | true ↦ same
            | false ↦ moved_node_alike moved old q same
          ]

      renamed_names_alike : (moved old : Option ℕ) (q : ℕ) → NamesAlike t u q → NamesAlike (renamed_by t moved old) (renamed_by u moved old) q
      renamed_names_alike moved old q same =
          elim (is_same moved old) as (λ b. NamesAlike (if b then t else moved_by t old moved) (if b then u else moved_by u old moved) q) [
            | true ↦ same
            | false ↦ moved_names_alike moved old q same
          ]

    new_count_node_alike : (t u : Tree) (o : Option ℕ) (q : ℕ) → NodeAlike t u q → NodeAlike (with_new_count_of now t o) (with_new_count_of now u o) q
    new_count_node_alike t u None q same = same
    new_count_node_alike t u (Some n) q same =
        retimed_node_alike t u n (recounted now) q same

    new_count_names_alike : (t u : Tree) (o : Option ℕ) (q : ℕ) → NamesAlike t u q → NamesAlike (with_new_count_of now t o) (with_new_count_of now u o) q
    new_count_names_alike t u None q same = same
    new_count_names_alike t u (Some n) q same =
        retimed_names_alike t u n (recounted now) q same

    module _ (t u : Tree) (moved old : Option ℕ) where
      after_node_alike : (q : ℕ) → NodeAlike t u q → NodeAlike (after_by t moved old) (after_by u moved old) q
      after_node_alike q same =
          new_count_node_alike (timed_by t moved old) (timed_by u moved old) (replaced_by moved old) q
          (retimed_node_alike (with_new_names now (renamed_by t moved old) from) (with_new_names now (renamed_by u moved old) from) to (modified now) q
          (retimed_node_alike (renamed_by t moved old) (renamed_by u moved old) from (modified now) q (renamed_node_alike t u moved old q same)))

      after_names_alike : (q : ℕ) → NamesAlike t u q → NamesAlike (after_by t moved old) (after_by u moved old) q
      after_names_alike q same =
          new_count_names_alike (timed_by t moved old) (timed_by u moved old) (replaced_by moved old) q
          (retimed_names_alike (with_new_names now (renamed_by t moved old) from) (with_new_names now (renamed_by u moved old) from) to (modified now) q
          (retimed_names_alike (renamed_by t moved old) (renamed_by u moved old) from (modified now) q (renamed_names_alike t u moved old q same)))

      -- what loses its name is alike, where what has the new name is
      replaced_alike : ((m : ℕ) → old ≡ Some m → NodeAlike t u m)
          → AllByRecursion (NodeAlike (after_by t moved old) (after_by u moved old)) (node_of_name (replaced_by moved old))
      replaced_alike nodes =
          elim (is_same moved old) as (λ b. AllByRecursion (NodeAlike (after_by t moved old) (after_by u moved old)) (node_of_name (if b then None else old))) [
            | true ↦ tt
            | false ↦ elim old as (λ o. old ≡ o → AllByRecursion (NodeAlike (after_by t moved old) (after_by u moved old)) (node_of_name o)) [
              | None ↦ λ _. tt
              | Some m ↦ λ is. (after_node_alike m (nodes m is), tt)
            ] refl
          ]

      module _ (source : NodeAlike t u from) (source_names : NamesAlike t u from) (target : NodeAlike t u to) (target_names : NamesAlike t u to) where
        move_alike : ((m : ℕ) → old ≡ Some m → NodeAlike t u m) → change_updates (move_by u moved old) ≡ change_updates (move_by t moved old)
        move_alike nodes =
            updates_alike (after_by t moved old) (after_by u moved old) (from ∷ to ∷ node_of_name (replaced_by moved old)) (from ∷ to ∷ [])
            (after_node_alike from source, (after_node_alike to target, replaced_alike nodes))
            (after_names_alike from source_names, (after_names_alike to target_names, tt))

        changes_alike : ((m : ℕ) → old ≡ Some m → NodeAlike t u m)
            → SetsAlike (Changes (if is_same moved old then no_change u else move_by u moved old))
            (Changes (if is_same moved old then no_change t else move_by t moved old))
        changes_alike nodes =
            elim (is_same moved old) as
            (λ b. SetsAlike (Changes (if b then no_change u else move_by u moved old)) (Changes (if b then no_change t else move_by t moved old))) [
              | true ↦ (no_change t, refl, refl)
              | false ↦ (move_by t moved old, refl, move_alike nodes)
            ]

        replace_alike : LedAlike t u moved → LedAlike t u old → replace_faults u moved to old ≡ replace_faults t moved to old
        replace_alike first second = λ i.
            (first.below to i, Below)
            ∷ (is_some old && (first.directory i && not (second.directory i)), NotDirectory)
            ∷ (is_some old && (not (first.directory i) && second.directory i), IsDirectory)
            ∷ (second.full i, NotEmpty) ∷ []

        faults_alike : LedAlike t u moved → LedAlike t u old → faults_by u moved old ≡ faults_by t moved old
        faults_alike first second = λ i.
            (is_none (sym source i), Absent) ∷ (not (is_directory_node (sym source i)), NotDirectory) ∷ (is_none moved, Absent)
            ∷ (is_none (sym target i), Absent) ∷ (not (is_directory_node (sym target i)), NotDirectory)
            ∷ ((links_in (sym target i) == 0) && not (to == ROOT), Absent) ∷ (if is_same moved old then [] else replace_alike first second i)

        by_alike : ((n : ℕ) → moved ≡ Some n → NodeAlike t u n) → ((m : ℕ) → old ≡ Some m → NodeAlike t u m)
            → (IsLed t moved → LedAlike t u moved) → (IsLed t old → LedAlike t u old) → SetsAlike (rename_by u moved old) (rename_by t moved old)
        by_alike nodes others first second =
            unless_lost_alike t u moved _ _ nodes (λ led.
            unless_lost_alike t u old _ _ others (λ led_too.
            unless_alike errno_of (first_fault (faults_by u moved old)) (first_fault (faults_by t moved old)) _ _
            (ap first_fault (faults_alike (first led) (second led_too))) (changes_alike others)))

    -- a move comes to the same by what two opens see, where its directories are below theirs
    pub rename_alike : (t u : Tree) (here there : Option OpenKind) → IsSeen t u here → IsSeen t u there → HasBelow t here from → HasBelow t there to
        → SetsAlike (rename_in now u from name to new) (rename_in now t from name to new)
    rename_alike t u here there seen other under inside =
        let source = below_alike t u here from seen under in
        let target = below_alike t u there to other inside in
        let moved : entry_of u from name ≡ entry_of t from name = ap (λ m. get (names_in m) name) (sym source.1) in
        let old : entry_of u to new ≡ entry_of t to new = ap (λ m. get (names_in m) new) (sym target.1) in
        subst (λ c. SetsAlike c (rename_in now t from name to new)) (λ i. rename_by u (sym moved i) (sym old i))
        (by_alike t u (entry_of t from name) (entry_of t to new) source.0 source.1 target.0 target.1
        (λ n is. entry_alike t u here from name n seen under is)
        (λ m is. entry_alike t u there to new m other inside is)
        (λ led. led_alike t u here from name (entry_of t from name) seen under refl led)
        (λ led. led_alike t u there to new (entry_of t to new) other inside refl led))

-- ---- what a move sets, and its errors

-- its errors beside those of paths
abbrev rename_errors : List Errno
rename_errors = Isdir ∷ Notempty ∷ []

-- the node of a name is unset where it is there and none of its parts is one that is set
led_unset : (t : Tree) (m : ℕ) (q : Part) → IsSome (get t.nodes m) → has_part (node_parts_of t (Some m)) q ≡ false → same_part (at_node m) q ≡ false
led_unset t m q =
    elim (get t.nodes m) as (λ o. IsSome o → has_part (if is_none o then [] else at_node m ∷ []) q ≡ false → same_part (at_node m) q ≡ false) [
      | None ↦ λ there. absurd (not_true there)
      | Some node ↦ λ _ h. (outside_cons (at_node m) [] q h).0
    ]

module _ (now : ℕ) (t : Tree) (from : ℕ) (name : List ℕ) (to : ℕ) (new : List ℕ) where
  -- what holds of each refusal and of the change holds of what a move comes to
  rename_holds : (P : NameOutcome → Type 0) → ((errno : Errno) → P (Refuses errno))
      → (IsLed t (entry_of t to new) → first_fault (rename_faults t from name to new) ≡ None → P (Changes (move_or_stay now t from name to new)))
      → P (rename_in now t from name to new)
  rename_holds P refused changed =
      unless_lost_holds P t (entry_of t from name) _ (refused Noent) (λ _.
      unless_lost_holds P t (entry_of t to new) _ (refused Noent) (λ led.
      unless_holds P errno_of (first_fault (rename_faults t from name to new)) _ refused (λ free. changed led free)))

  replaced_unset : (q : Part) → IsLed t (entry_of t to new) → has_part (node_parts_of t (entry_of t to new)) q ≡ false
      → AllByRecursion (λ n. same_part (at_node n) q ≡ false) (node_of_name (replaced t from name to new))
  replaced_unset q led h =
      elim (is_same (entry_of t from name) (entry_of t to new)) as
      (λ b. AllByRecursion (λ n. same_part (at_node n) q ≡ false) (node_of_name (if b then None else entry_of t to new))) [
        | true ↦ tt
        | false ↦ elim (entry_of t to new) as
            (λ o. IsLed t o → has_part (node_parts_of t o) q ≡ false → AllByRecursion (λ n. same_part (at_node n) q ≡ false) (node_of_name o)) [
              | None ↦ λ _ _. tt
              | Some m ↦ λ there apart. (led_unset t m q (there m refl) apart, tt)
            ] led h
      ]

  rename_unset : (q : Part) → (same_part (at_node from) q ≡ false) × (same_part (at_names from) q ≡ false)
      → (same_part (at_node to) q ≡ false) × (same_part (at_names to) q ≡ false) → has_part (node_parts_of t (entry_of t to new)) q ≡ false
      → IsUnsetBy (rename_in now t from name to new) q
  rename_unset q source target old =
      rename_holds (λ c. IsUnsetBy c q) (λ _. tt) (λ led free.
      elim (is_same (entry_of t from name) (entry_of t to new)) as (λ b. IsUnsetBy (Changes (if b then no_change t else with_move now t from name to new)) q) [
        | true ↦ refl
        | false ↦
            updates_unset (with_move now t from name to new).tree q (from ∷ to ∷ node_of_name (replaced t from name to new)) (from ∷ to ∷ [])
            (source.0, (target.0, replaced_unset q led old)) (source.1, (target.1, tt))
      ])

  rename_good : (number : ℕ) → IsTree t → IsGood t number 0 (rename_in now t from name to new)
  rename_good number tree = rename_holds (IsGood t number 0) (λ _. tt) (λ led free. move_change t from name to new tree free now number 0)

  -- the errors of what is looked at where the names differ in their nodes
  replace_errors : (same : Bool) → AllByRecursion (λ f. IsIn (errno_of f.1) (path_errors ++ rename_errors))
      (if same then [] else replace_faults t (entry_of t from name) to (entry_of t to new))
  replace_errors true = tt
  replace_errors false = (
    in_front _ path_errors rename_errors inval_among,
    (in_front _ path_errors rename_errors notdir_among, ((path_errors, Notempty ∷ [], refl), ((path_errors ++ Isdir ∷ [], [], refl), tt))),
  )

  rename_plain : IsPlainly (path_errors ++ rename_errors) None (rename_in now t from name to new)
  rename_plain =
      let plainly : NameOutcome → Type 0 = IsPlainly (path_errors ++ rename_errors) None in
      let absent : IsIn Noent (path_errors ++ rename_errors) = in_front Noent path_errors rename_errors noent_among in
      let notdir = in_front _ path_errors rename_errors notdir_among in
      let differ = replace_errors (is_same (entry_of t from name) (entry_of t to new)) in
      unless_lost_holds plainly t (entry_of t from name) _ absent (λ _.
      unless_lost_holds plainly t (entry_of t to new) _ absent (λ _.
      table_holds plainly errno_of (rename_faults t from name to new) (Changes (move_or_stay now t from name to new))
      (absent, (notdir, (absent, (absent, (notdir, (absent, differ)))))) (λ free. tt)))

-- ---- the meaning

second_plain : (more : List Errno) (goes : ℕ → List ℕ → NameOutcome) (second : Option ℕ) (last : LastName) → LastPlainly last
    → ((d : ℕ) (name : List ℕ) → IsPlainly (path_errors ++ more) second (goes d name))
    → IsPlainly (path_errors ++ more) (second_outside second last) (at_name goes last)
second_plain more goes second (StandsIn d name) h at = at d name
second_plain more goes second (IsNone errno) h at = in_front errno path_errors more h
second_plain more goes second (IsOutside component) h at = refl

module _ (path new_path : List ℕ) where
  -- the parts that it changes by the second path
  abbrev second_parts : Tree → Option OpenKind → List Part
  second_parts t there = directory_parts (last_name t new_path there) ++ named_parts t (last_name t new_path there)

  renaming_reads : (now number : ℕ) (t u : Tree) (here there : Option OpenKind) → IsSeen t u here → IsSeen t u there
      → SetsAlike ((renaming path new_path).effect now number u here there) ((renaming path new_path).effect now number t here there)
  renaming_reads now number t u here there seen other =
      at_name_reads (λ w from name. at_name (rename_in now w from name) (last_name w new_path there)) t u path here
      (λ from name under.
      at_name_reads (λ w. rename_in now w from name) t u new_path there
      (λ to new inside. rename_alike from name to new now t u here there seen other under inside) other) seen

  renaming_walks : (t u : Tree) (here there : Option OpenKind) → IsSeen t u here → IsSeen t u there
      → (renaming path new_path).outside u here there ≡ (renaming path new_path).outside t here there
  renaming_walks t u here there seen other =
      ap (λ l. second_outside (last_outside l) (last_name u path here)) (last_name_reads t u new_path there other)
      ∙ ap (second_outside (last_outside (last_name t new_path there))) (last_name_reads t u path here seen)

  renaming_sets : (now number : ℕ) (t : Tree) (here there : Option OpenKind) (q : Part)
      → has_part ((renaming path new_path).touched t here there) q ≡ false → IsUnsetBy ((renaming path new_path).effect now number t here there) q
  renaming_sets now number t here there q h =
      let first = outside_both (directory_parts (last_name t path here)) (second_parts t there) q h in
      let second = outside_both (directory_parts (last_name t new_path there)) (named_parts t (last_name t new_path there)) q first.1 in
      at_name_holds (λ c. IsUnsetBy c q) (λ from name. at_name (rename_in now t from name) (last_name t new_path there)) (λ _. tt) (λ _. tt)
      (last_name t path here)
      (λ from name is.
      at_name_holds (λ c. IsUnsetBy c q) (rename_in now t from name) (λ _. tt) (λ _. tt) (last_name t new_path there)
      (λ to new there_is.
      rename_unset now t from name to new q (directory_unset (last_name t path here) q from name first.0 is)
      (directory_unset (last_name t new_path there) q to new second.0 there_is)
      (sym (ap (λ l. has_part (named_parts t l) q) there_is) ∙ second.1)))

  second_is_seen : (S : State) (there : Option OpenKind) (q : Part) → has_part (second_parts (tree_of S) there) q ≡ true → has_part (behind S there) q ≡ true
  second_is_seen S there q h =
      let directory = directory_parts (last_name (tree_of S) new_path there) in
      let node = named_parts (tree_of S) (last_name (tree_of S) new_path there) in
      elim (either_true (has_part directory q) (has_part node q) (sym (has_of_both directory node q) ∙ h)) [
        | inl first ↦ directory_is_seen S new_path there q first
        | inr named ↦ named_is_seen S new_path there q named
      ]

  renaming_plain : (now number : ℕ) (t : Tree) (here there : Option OpenKind)
      → IsPlainly (path_errors ++ rename_errors) ((renaming path new_path).outside t here there) ((renaming path new_path).effect now number t here there)
  renaming_plain now number t here there =
      second_plain rename_errors (λ from name. at_name (rename_in now t from name) (last_name t new_path there)) (last_outside (last_name t new_path there))
      (last_name t path here) (last_plainly t path here)
      (λ from name. at_name_plain rename_errors (rename_in now t from name) t new_path there (λ to new. rename_plain now t from name to new))

  renaming_good : (now number : ℕ) (t : Tree) (here there : Option OpenKind) → IsTree t
      → IsGood t number 0 ((renaming path new_path).effect now number t here there)
  renaming_good now number t here there tree =
      at_name_holds (IsGood t number 0) (λ from name. at_name (rename_in now t from name) (last_name t new_path there)) (λ _. tt) (λ _. tt)
      (last_name t path here)
      (λ from name is.
      at_name_holds (IsGood t number 0) (rename_in now t from name) (λ _. tt) (λ _. tt) (last_name t new_path there)
      (λ to new there_is. rename_good now t from name to new number tree))

  pub renaming_well : NamesWell (renaming path new_path)
  renaming_well = record {
    reads = renaming_reads;
    walks = renaming_walks;
    sets = renaming_sets;
    seen = λ S here there q.
        seen_behind S here there q (directory_parts (last_name (tree_of S) path here)) (second_parts (tree_of S) there)
        (directory_is_seen S path here q) (second_is_seen S there q);
    plain = renaming_plain;
    again = inl refl;
    lacks = all_both (λ errno. errno ≢ Nomem) path_errors rename_errors path_errors_lack ((λ e. cc), ((λ e. cc), tt));
    good = λ now number S here there first second tree none. renaming_good now number (tree_of S) here there tree;
  }

pub file_rename_is_proper : (fd : ℕ) (path : List ℕ) (new_fd : ℕ) (new_path : List ℕ) → IsProper (file_rename fd path new_fd new_path)
file_rename_is_proper fd path new_fd new_path = by_names_is_proper (renaming path new_path) (renaming_well path new_path) _ _
