-- Which names calls make, move and take away.
use Rattle.std.proofs.Common.{◌≡◌, ◌≢◌, inl, inr, ℕ, ◌+◌, true, false, cond, List, Option, Some, None, is_none, refl, sym, ap, ◌∙◌, arith, ◌-◌, subst}
use Rattle.std.proofs.lemmas.Bool.Decides.{eqb_tells}
use Rattle.std.specs.FinMap.{get}
use Rattle.std.specs.List.{list_any}
use Rattle.std.specs.Option.{option_map}
use Rattle.abi_base.specs.declared.errno.Errno.{Errno}
use Rattle.abi_base.specs.declared.errno.Errno.TheVariants.{Noent, Notdir, Perm}
use Rattle.abi_types.specs.declared.call.Call.{Call}
use Rattle.abi_types.specs.declared.call.Call.TheVariants.{FileCreate, FileLink, FileRename, FileSymlink, FileUnlink}
use Rattle.abi_types.specs.declared.constants.Constants.{Constants}
use Rattle.abi_types.specs.declared.node.Node.{Node}
use Rattle.abi_types.specs.declared.node.NodeKind.{NodeKind}
use Rattle.abi_types.specs.declared.node.NodeKind.TheVariants as kind
use Rattle.abi_types.specs.declared.node.Times.{Times}
use Rattle.abi_types.specs.declared.open_kind.OpenKind.{OpenKind}
use Rattle.abi_types.specs.declared.who.Who.{Who}
use Rattle.tree_model.specs.Changes.{first_fault, is_same, link_faults, linked, made, make_faults, rename_faults, renamed, replaced, unlink_faults, unlinked}
use Rattle.tree_model.specs.Facts.{names_of_name}
use Rattle.tree_model.specs.Faults.{can_link, can_make, can_unlink}
use Rattle.tree_model.specs.Outcomes.{linked-name, linked-node, linked-other_names, linked-other_nodes, made-name, made-node, made-other_names, made-other_nodes, unlinked-name, unlinked-node, unlinked-other_names, unlinked-other_nodes}
use Rattle.tree_model.specs.Renames.{renamed-name, renamed-old_name, renamed-other_names, renamed-same}
use Rattle.tree_model.specs.Tree.{HasName, IsTree, entry_of, is_directory, is_directory_node, names_in, names_of}
use Rattle.kernel_model.specs.Calls.{meaning_of}
use Rattle.kernel_model.specs.Families.ClockCalls.{real_time}
use Rattle.kernel_model.specs.Families.FileChanges.{modified, retimed}
use Rattle.kernel_model.specs.Families.FileMeaning.{open_of}
use Rattle.kernel_model.specs.Families.FilePaths.{lookup_mode}
use Rattle.kernel_model.specs.Families.LastNames.{last_name}
use Rattle.kernel_model.specs.Families.NameMaking.{errno_of, make_in, making, making_unless, node_of, text_error, with_new_names, with_node}
use Rattle.kernel_model.specs.Families.NameMeaning.{Changes, NameMeaning, NameOutcome, Refuses, at_name, unless_fault}
use Rattle.kernel_model.specs.Families.NameMoving.{link_errno, link_in, linking, move_or_stay, rename_in, renaming, with_link, with_move, with_new_count_of}
use Rattle.kernel_model.specs.Families.NameRemoving.{recounted, removes_directory, unlink_errno, unlink_in, unlink_node, unless_lost, unlinking, without_name}
use Rattle.kernel_model.specs.Families.Numbers.{next_object}
use Rattle.kernel_model.specs.Families.TreeUpdates.{Change, no_change}
use Rattle.kernel_model.specs.OwnChanges.{is_success}
use Rattle.kernel_model.specs.State.{State, Table, Tree, tree_of}
use Rattle.kernel_model.specs.Step.{outcome, tick, unless, unreleased}
use Rattle.kernel_model.specs.View.{whole}
use Rattle.kernel_model.proofs.FileMeanings.{open_has_behind}
use Rattle.kernel_model.proofs.NameLinking.{linking_well}
use Rattle.kernel_model.proofs.NameMaking.{making_text_well, making_well}
use Rattle.kernel_model.proofs.NameMeanings.{IsBehind, NamesWell}
use Rattle.kernel_model.proofs.NameMoving.{renaming_well}
use Rattle.kernel_model.proofs.NameRemoving.{unlinking_well}
use Rattle.kernel_model.proofs.Outcomes.{outcome_of_table}
use Rattle.kernel_model.proofs.Reworks.{retimed_reworks}
use Rattle.kernel_model.proofs.Tests.{none_is_no, not_true, same_some}
use Rattle.kernel_model.proofs.Valids.{tick_valid}
use Rattle.call_laws.proofs.NameChanges.{Comes, IsChanged, at_end, at_node, changed, fault_none, lost_none, none_changes, same_change}
use Rattle.call_laws.proofs.Moved.{from_stamps, replaced_counts, to_stamps}
use Rattle.call_laws.proofs.Sizes.{times_set}
use Rattle.call_laws.specs.NameLaws.{IsDone, IsOther, Makes, NamesChange, Stamps}

-- ---- trees with the same names

same_names : (t u : Tree) → u.names ≡ t.names → (d : ℕ) (name : List ℕ) → entry_of u d name ≡ entry_of t d name
same_names t u is d name = ap (λ m. get (names_in (get m d)) name) is

retimed_names : (t : Tree) (n : ℕ) (new : Times → Times) (d : ℕ) (name : List ℕ) → entry_of (retimed t n new) d name ≡ entry_of t d name
retimed_names t n new = same_names t (retimed t n new) (retimed_reworks t n new).names

-- ---- each change

module _ (t : Tree) (now new : ℕ) (kind : NodeKind) (d : ℕ) (name : List ℕ) (tree : IsTree t) (c : Change) (none : get t.nodes new ≡ None)
    (is : Comes (make_in kind now new t d name) c) where
  free : (first_fault (make_faults t d name) ≡ None) × Comes (Changes (with_node kind now new t d name)) c
  free = fault_none errno_of (first_fault (make_faults t d name)) (Changes (with_node kind now new t d name)) c is

  made_is : with_node kind now new t d name ≡ c
  made_is = same_change c (with_node kind now new t d name) free.1

  abbrev made_tree : Tree
  made_tree = made t d name new (node_of kind now)

  made_has : HasName c.tree d name new
  made_has = ap (λ (x : Change). entry_of x.tree d name) (sym made_is) ∙ retimed_names made_tree d (modified now) d name ∙ made-name t d name new (node_of kind now)

  made_others : (e : ℕ) (other : List ℕ) → IsOther d name e other → entry_of c.tree e other ≡ entry_of t e other
  made_others e other away =
      ap (λ (x : Change). entry_of x.tree e other) (sym made_is) ∙ retimed_names made_tree d (modified now) e other
      ∙ made-other_names t d name new (node_of kind now) tree (ap is_none none) e other away

  made_apart : new ≢ d
  made_apart same =
      not_true (sym (ap is_directory_node none) ∙ ap (is_directory t) same ∙ (can_make t d name free.0).directory)

  made_there : get c.tree.nodes new ≡ Some (record (node_of kind now) { links = 1 })
  made_there =
      ap (λ (x : Change). get x.tree.nodes new) (sym made_is) ∙ (retimed_reworks made_tree d (modified now)).others new made_apart
      ∙ made-node t d name new (node_of kind now)

  made_stamps : (was : Node) → get t.nodes d ≡ Some was → get c.tree.nodes d ≡ Some (record was { times = modified now was.times })
  made_stamps was there =
      ap (λ (x : Change). get x.tree.nodes d) (sym made_is)
      ∙ times_set made_tree d now was (made-other_nodes t d name new (node_of kind now) d (λ e. made_apart (sym e)) ∙ there) (modified now)

module _ (t : Tree) (now n d : ℕ) (name : List ℕ) (c : Change) (is : Comes (link_in now t n d name) c) where
  linked_is : with_link now t n d name ≡ c
  linked_is =
      same_change c (with_link now t n d name) (fault_none link_errno (first_fault (link_faults t d name n)) (Changes (with_link now t n d name)) c is).1

  linked_apart : d ≢ n
  linked_apart same =
      let can = can_link t d name n (fault_none link_errno (first_fault (link_faults t d name n)) (Changes (with_link now t n d name)) c is).0 in
      not_true (sym can.kind ∙ ap (is_directory t) (sym same) ∙ can.directory)

  linked_stamps : (was : Node) → get t.nodes d ≡ Some was → get c.tree.nodes d ≡ Some (record was { times = modified now was.times })
  linked_stamps was there =
      ap (λ (x : Change). get x.tree.nodes d) (sym linked_is)
      ∙ (retimed_reworks (with_new_names now (linked t d name n) d) n (recounted now)).others d linked_apart
      ∙ times_set (linked t d name n) d now was (linked-other_nodes t d name n d linked_apart ∙ there) (modified now)

  linked_counts : (was : Node) → get t.nodes n ≡ Some was
      → get c.tree.nodes n ≡ Some (record was { links = was.links + 1; times = recounted now was.times })
  linked_counts was there =
      ap (λ (x : Change). get x.tree.nodes n) (sym linked_is)
      ∙ times_set (with_new_names now (linked t d name n) d) n now (record was { links = was.links + 1 })
      ((retimed_reworks (linked t d name n) d (modified now)).others n (λ e. linked_apart (sym e)) ∙ linked-node t d name n
      ∙ ap (option_map (λ (node : Node). record node { links = node.links + 1 })) there)
      (recounted now)

  linked_keeps : (e : ℕ) (other : List ℕ) → entry_of c.tree e other ≡ entry_of (linked t d name n) e other
  linked_keeps e other =
      ap (λ (x : Change). entry_of x.tree e other) (sym linked_is) ∙ retimed_names (with_new_names now (linked t d name n) d) n (recounted now) e other
      ∙ retimed_names (linked t d name n) d (modified now) e other

module _ (t : Tree) (flags now d : ℕ) (name : List ℕ) (c : Change) where
  unlinked_of : (o : Option ℕ) → Comes (unlink_node flags now t d name o) c → (n : ℕ) × (o ≡ Some n) × (without_name now t d name n ≡ c)
  unlinked_of None is = absurd (none_changes Noent c is)
  unlinked_of (Some n) is =
      elim (is_directory t n) as (λ b. Comes (cond b (cond (removes_directory flags) (Changes (without_name now t d name n)) (Refuses Perm))
      (cond (removes_directory flags) (Refuses Notdir) (Changes (without_name now t d name n)))) c → (k : ℕ) × (Some n ≡ Some k) × (without_name now t d name k ≡ c)) [
        | true ↦ elim (removes_directory flags) as (λ b. Comes (cond b (Changes (without_name now t d name n)) (Refuses Perm)) c
            → (k : ℕ) × (Some n ≡ Some k) × (without_name now t d name k ≡ c)) [
              | true ↦ λ e. (n, refl, same_change c (without_name now t d name n) e)
              | false ↦ λ e. absurd (none_changes Perm c e)
            ]
        | false ↦ elim (removes_directory flags) as (λ b. Comes (cond b (Refuses Notdir) (Changes (without_name now t d name n))) c
            → (k : ℕ) × (Some n ≡ Some k) × (without_name now t d name k ≡ c)) [
              | true ↦ λ e. absurd (none_changes Notdir c e)
              | false ↦ λ e. (n, refl, same_change c (without_name now t d name n) e)
            ]
      ] is

  module _ (is : Comes (unlink_in flags now t d name) c) where
    faultless : (first_fault (unlink_faults t d name) ≡ None) × Comes (unlink_node flags now t d name (entry_of t d name)) c
    faultless =
        fault_none (unlink_errno flags) (first_fault (unlink_faults t d name)) (unlink_node flags now t d name (entry_of t d name)) c
        (lost_none t (entry_of t d name)
        (unless_fault (unlink_errno flags) (first_fault (unlink_faults t d name)) (unlink_node flags now t d name (entry_of t d name))) c is)

    went : (n : ℕ) × (entry_of t d name ≡ Some n) × (without_name now t d name n ≡ c)
    went = unlinked_of (entry_of t d name) faultless.1

    unlinked_keeps : (e : ℕ) (other : List ℕ) → entry_of c.tree e other ≡ entry_of (unlinked t d name) e other
    unlinked_keeps e other =
        ap (λ (x : Change). entry_of x.tree e other) (sym went.2)
        ∙ retimed_names (with_new_names now (unlinked t d name) d) went.0 (recounted now) e other ∙ retimed_names (unlinked t d name) d (modified now) e other

    -- the directory is another node than that of the name, in which there are no names
    unlinked_apart : d ≢ went.0
    unlinked_apart same =
        let can = can_unlink t d name faultless.0 in
        names_of_name t d name went.0 went.1 (ap (names_of t) (same ∙ same_some went.0 can.node (sym went.1 ∙ can.named)) ∙ can.bare)

    unlinked_stamps : (was : Node) → get t.nodes d ≡ Some was → get c.tree.nodes d ≡ Some (record was { times = modified now was.times })
    unlinked_stamps was there =
        ap (λ (x : Change). get x.tree.nodes d) (sym went.2)
        ∙ (retimed_reworks (with_new_names now (unlinked t d name) d) went.0 (recounted now)).others d unlinked_apart
        ∙ times_set (unlinked t d name) d now was (unlinked-other_nodes t d name went.0 went.1 d unlinked_apart ∙ there) (modified now)

    unlinked_counts : (n : ℕ) → HasName t d name n → (was : Node) → get t.nodes n ≡ Some was
        → get c.tree.nodes n ≡ Some (record was { links = was.links - 1; times = recounted now was.times })
    unlinked_counts n named was there =
        let same : went.0 ≡ n = same_some went.0 n (sym went.1 ∙ named) in
        subst (λ k. get c.tree.nodes k ≡ Some (record was { links = was.links - 1; times = recounted now was.times })) same
        (ap (λ (x : Change). get x.tree.nodes went.0) (sym went.2)
        ∙ times_set (with_new_names now (unlinked t d name) d) went.0 now (record was { links = was.links - 1 })
        ((retimed_reworks (unlinked t d name) d (modified now)).others went.0 (λ e. unlinked_apart (sym e)) ∙ unlinked-node t d name went.0 went.1
        ∙ ap (λ k. option_map (λ (node : Node). record node { links = node.links - 1 }) (get t.nodes k)) same
        ∙ ap (option_map (λ (node : Node). record node { links = node.links - 1 })) there)
        (recounted now))

module _ (t : Tree) (now from : ℕ) (name : List ℕ) (to : ℕ) (new : List ℕ) (c : Change) where
  recounted_names : (u : Tree) (o : Option ℕ) (e : ℕ) (other : List ℕ) → entry_of (with_new_count_of now u o) e other ≡ entry_of u e other
  recounted_names u None e other = refl
  recounted_names u (Some n) e other = retimed_names u n (recounted now) e other

  stay_or_move : (e : ℕ) (other : List ℕ) → entry_of (move_or_stay now t from name to new).tree e other ≡ entry_of (renamed t from name to new) e other
  stay_or_move e other =
      elim (is_same (entry_of t from name) (entry_of t to new)) as (λ b. is_same (entry_of t from name) (entry_of t to new) ≡ b
      → entry_of (cond b (no_change t) (with_move now t from name to new)).tree e other ≡ entry_of (renamed t from name to new) e other) [
        | true ↦ λ same. ap (λ u. entry_of u e other) (sym (renamed-same t from name to new same))
        | false ↦ λ _.
            recounted_names (with_new_names now (with_new_names now (renamed t from name to new) from) to) (replaced t from name to new) e other
            ∙ retimed_names (with_new_names now (renamed t from name to new) from) to (modified now) e other
            ∙ retimed_names (renamed t from name to new) from (modified now) e other
      ] refl

  renames_to : Comes (rename_in now t from name to new) c
      → (first_fault (rename_faults t from name to new) ≡ None) × (move_or_stay now t from name to new ≡ c)
  renames_to is =
      let inner : NameOutcome = unless_fault errno_of (first_fault (rename_faults t from name to new)) (Changes (move_or_stay now t from name to new)) in
      let faultless = lost_none t (entry_of t to new) inner c (lost_none t (entry_of t from name) (unless_lost t (entry_of t to new) inner) c is) in
      let free = fault_none errno_of (first_fault (rename_faults t from name to new)) (Changes (move_or_stay now t from name to new)) c faultless in
      (free.0, same_change c (move_or_stay now t from name to new) free.1)

  renamed_keeps : Comes (rename_in now t from name to new) c → (e : ℕ) (other : List ℕ) → entry_of c.tree e other ≡ entry_of (renamed t from name to new) e other
  renamed_keeps is e other = ap (λ (x : Change). entry_of x.tree e other) (sym (renames_to is).1) ∙ stay_or_move e other

-- both are names of one node, or they aren't
is_same_node : (n : ℕ) (o : Option ℕ) → o ≡ Some n → is_same (Some n) o ≡ true
is_same_node n o is = ap (is_same (Some n)) is ∙ ap (λ b. b) (elim (eqb_tells n n) [ inl same ↦ same.0 | inr other ↦ absurd (other.1 refl) ])

is_other_node : (n : ℕ) (o : Option ℕ) → o ≢ Some n → is_same (Some n) o ≡ false
is_other_node n None differ = refl
is_other_node n (Some m) differ = elim (eqb_tells n m) [ inl same ↦ absurd (differ (ap (λ k. Some k) (sym same.1))) | inr other ↦ other.0 ]

renames_apart : (t : Tree) (from : ℕ) (name : List ℕ) (to : ℕ) (new : List ℕ) (n : ℕ) → HasName t from name n → entry_of t to new ≢ Some n
    → is_same (entry_of t from name) (entry_of t to new) ≡ false
renames_apart t from name to new n named differ = ap (λ o. is_same o (entry_of t to new)) named ∙ is_other_node n (entry_of t to new) differ

-- ---- the calls

module _ (constants : Constants) (S : State) (who : Who) (call : Call) (table : Table) (done : IsDone constants S who call table) where
  outcome_is : outcome constants S who call ≡ (meaning_of call).effect constants (whole (tick S)) who table
  outcome_is =
      outcome_of_table constants S who call table done.own ∙ ap (λ r. unless r ((meaning_of call).effect constants (whole (tick S)) who table)) done.allowed

  stands : (fd : ℕ) → IsBehind (tick S) (open_of (whole (tick S)) (get table fd))
  stands fd k is = open_has_behind (tick S) (get table fd) (tick_valid S done.valid).nearly k is

  none_stands : IsBehind (tick S) None
  none_stands k is = absurd (none_is_no k is)

  makes : (kind : NodeKind) (d : ℕ) (name : List ℕ) (m : NameMeaning) (well : NamesWell m) (few : list_any is_success m.errors ≡ false)
      (here there : Option OpenKind) (h : IsBehind (tick S) here) (b : IsBehind (tick S) there) (ch : IsChanged constants S who call m well few here there h b done.valid)
      → m.new_nodes ≢ 0
      → Comes (make_in kind (real_time constants (S.clock + 1000)) (next_object who.pid (get S.processes who.pid) 1) (tree_of S) d name) ch.change
      → Makes constants S (unreleased constants S who call) d name kind × Stamps constants S (unreleased constants S who call) d
  makes kind d name m well few here there h b ch some is =
      let now : ℕ = real_time constants (S.clock + 1000) in
      let new : ℕ = next_object who.pid (get S.processes who.pid) 1 in (
        record {
          n = new;
          absent = ch.absent some;
          there = ap (λ (t : Tree). get t.nodes new) ch.leaves ∙ made_there (tree_of S) now new kind d name done.valid.nearly.tree ch.change (ch.absent some) is;
          gains = record {
            has = ap (λ t. entry_of t d name) ch.leaves ∙ made_has (tree_of S) now new kind d name done.valid.nearly.tree ch.change (ch.absent some) is;
            others = λ e other away.
                ap (λ t. entry_of t e other) ch.leaves
                ∙ made_others (tree_of S) now new kind d name done.valid.nearly.tree ch.change (ch.absent some) is e other away;
          };
        },
        λ was stood.
            ap (λ (u : Tree). get u.nodes d) ch.leaves ∙ made_stamps (tree_of S) now new kind d name done.valid.nearly.tree ch.change (ch.absent some) is was stood,
      )

few_of_text : (o : Option Errno) (m : NameMeaning) → list_any is_success m.errors ≡ false → list_any is_success (making_unless o m).errors ≡ false
few_of_text None m few = few
few_of_text (Some errno) m few = few

nodes_of_text : (o : Option Errno) (m : NameMeaning) → m.new_nodes ≢ 0 → (making_unless o m).new_nodes ≢ 0
nodes_of_text None m some = some
nodes_of_text (Some errno) m some = some

text_goes : (o : Option Errno) (m : NameMeaning) (now new : ℕ) (t : Tree) (here there : Option OpenKind) (c : Change)
    → Comes ((making_unless o m).effect now new t here there) c → Comes (m.effect now new t here there) c
text_goes None m now new t here there c is = is
text_goes (Some errno) m now new t here there c is = absurd (none_changes errno c is)

pub names_change : NamesChange
names_change = record {
  creates = λ constants S who fd path type d name table done ends.
      let m : NameMeaning = making kind.Directory path in
      let call : Call = FileCreate fd path type in
      let here : Option OpenKind = open_of (whole (tick S)) (get table fd) in
      let h = stands constants S who call table done fd in
      let b = none_stands constants S who call table done in
      let ch = changed constants S who call m (making_well kind.Directory path) refl here None h b done.valid (outcome_is constants S who call table done) done.done in
      makes constants S who call table done kind.Directory d name m (making_well kind.Directory path) refl here None h b ch (λ e. omega (arith, e))
      (at_end S table (make_in kind.Directory (real_time constants (S.clock + 1000)) (next_object who.pid (get S.processes who.pid) 1) (tree_of S)) fd path d name
      ch.change ends ch.is);
  symlinks = λ constants S who text fd path d name table done ends.
      let plain : NameMeaning = making (kind.Link text) path in
      let m : NameMeaning = making_unless (text_error text) plain in
      let call : Call = FileSymlink text fd path in
      let here : Option OpenKind = open_of (whole (tick S)) (get table fd) in
      let few = few_of_text (text_error text) plain refl in
      let h = stands constants S who call table done fd in
      let b = none_stands constants S who call table done in
      let now : ℕ = real_time constants (S.clock + 1000) in
      let new : ℕ = next_object who.pid (get S.processes who.pid) 1 in
      let ch = changed constants S who call m (making_text_well text path) few here None h b done.valid (outcome_is constants S who call table done) done.done in
      makes constants S who call table done (kind.Link text) d name m (making_text_well text path) few here None h b ch
      (nodes_of_text (text_error text) plain (λ e. omega (arith, e)))
      (at_end S table (make_in (kind.Link text) now new (tree_of S)) fd path d name ch.change ends
      (text_goes (text_error text) plain now new (tree_of S) here None ch.change ch.is));
  links = λ constants S who lookup path fd new_path n d name table done leads ends.
      let m : NameMeaning = linking (lookup_mode lookup.flags) path new_path in
      let call : Call = FileLink lookup path fd new_path in
      let there : Option OpenKind = open_of (whole (tick S)) (get table fd) in
      let now : ℕ = real_time constants (S.clock + 1000) in
      let ch = changed constants S who call m (linking_well (lookup_mode lookup.flags) path new_path) refl (open_of (whole (tick S)) (get table lookup.fd)) there
      (stands constants S who call table done lookup.fd) (stands constants S who call table done fd) done.valid (outcome_is constants S who call table done) done.done in
      let is = at_end S table (link_in now (tree_of S) n) fd new_path d name ch.change ends
      (at_node S table (λ k. at_name (link_in now (tree_of S) k) (last_name (tree_of S) new_path there)) lookup path n ch.change leads ch.is) in (
        record {
          has = ap (λ t. entry_of t d name) ch.leaves ∙ linked_keeps (tree_of S) now n d name ch.change is d name ∙ linked-name (tree_of S) d name n;
          others = λ e other away.
              ap (λ t. entry_of t e other) ch.leaves ∙ linked_keeps (tree_of S) now n d name ch.change is e other ∙ linked-other_names (tree_of S) d name n e other away;
        },
        λ was stood. ap (λ (u : Tree). get u.nodes d) ch.leaves ∙ linked_stamps (tree_of S) now n d name ch.change is was stood,
        λ was stood. ap (λ (u : Tree). get u.nodes n) ch.leaves ∙ linked_counts (tree_of S) now n d name ch.change is was stood,
      );
  unlinks = λ constants S who fd path flags d name table done ends.
      let m : NameMeaning = unlinking flags path in
      let call : Call = FileUnlink fd path flags in
      let now : ℕ = real_time constants (S.clock + 1000) in
      let ch = changed constants S who call m (unlinking_well flags path) refl (open_of (whole (tick S)) (get table fd)) None
      (stands constants S who call table done fd) (none_stands constants S who call table done) done.valid (outcome_is constants S who call table done) done.done in
      let is = at_end S table (unlink_in flags now (tree_of S)) fd path d name ch.change ends ch.is in (
        record {
          gone = ap (λ t. entry_of t d name) ch.leaves ∙ unlinked_keeps (tree_of S) flags now d name ch.change is d name ∙ unlinked-name (tree_of S) d name;
          others = λ e other away.
              ap (λ t. entry_of t e other) ch.leaves ∙ unlinked_keeps (tree_of S) flags now d name ch.change is e other ∙ unlinked-other_names (tree_of S) d name e other away;
        },
        λ was stood. ap (λ (u : Tree). get u.nodes d) ch.leaves ∙ unlinked_stamps (tree_of S) flags now d name ch.change is was stood,
        λ n named was stood. ap (λ (u : Tree). get u.nodes n) ch.leaves ∙ unlinked_counts (tree_of S) flags now d name ch.change is n named was stood,
      );
  renames = λ constants S who fd path new_fd new_path from name to new n table done ends leads named.
      let m : NameMeaning = renaming path new_path in
      let call : Call = FileRename fd path new_fd new_path in
      let t : Tree = tree_of S in
      let there : Option OpenKind = open_of (whole (tick S)) (get table new_fd) in
      let now : ℕ = real_time constants (S.clock + 1000) in
      let ch = changed constants S who call m (renaming_well path new_path) refl (open_of (whole (tick S)) (get table fd)) there
      (stands constants S who call table done fd) (stands constants S who call table done new_fd) done.valid (outcome_is constants S who call table done) done.done in
      let is = at_end S table (rename_in now t from name) new_fd new_path to new ch.change leads
      (at_end S table (λ k old. at_name (rename_in now t k old) (last_name t new_path there)) fd path from name ch.change ends ch.is) in
      let free = renames_to t now from name to new ch.change is in (
        record {
          has = ap (λ u. entry_of u to new) ch.leaves ∙ renamed_keeps t now from name to new ch.change is to new ∙ renamed-name t from name to new n named;
          gone = λ differ.
              ap (λ u. entry_of u from name) ch.leaves ∙ renamed_keeps t now from name to new ch.change is from name
              ∙ renamed-old_name t from name to new n named (ap (λ o. is_same o (entry_of t to new)) named ∙ is_other_node n (entry_of t to new) differ);
          stays = λ same.
              ap (λ u. entry_of u from name) ch.leaves ∙ renamed_keeps t now from name to new ch.change is from name
              ∙ ap (λ u. entry_of u from name)
              (renamed-same t from name to new (ap (λ o. is_same o (entry_of t to new)) named ∙ is_same_node n (entry_of t to new) same))
              ∙ named;
          others = λ e other off away.
              ap (λ u. entry_of u e other) ch.leaves ∙ renamed_keeps t now from name to new ch.change is e other
              ∙ renamed-other_names t from name to new e other off away;
        },
        λ differ. (
          λ was stood. ap (λ (u : Tree). get u.nodes from) ch.leaves
              ∙ from_stamps t now from name to new n ch.change named (renames_apart t from name to new n named differ) free.0 free.1 was stood,
          λ was stood. ap (λ (u : Tree). get u.nodes to) ch.leaves
              ∙ to_stamps t now from name to new n ch.change named (renames_apart t from name to new n named differ) free.0 free.1 was stood,
          λ m old was stood. ap (λ (u : Tree). get u.nodes m) ch.leaves
              ∙ replaced_counts t now from name to new n ch.change named (renames_apart t from name to new n named differ) free.0 free.1 m old was stood,
        ),
      );
}
