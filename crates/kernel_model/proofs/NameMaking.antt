-- The meanings of the calls that make a directory or a symlink keep to what the meanings on names keep to.
--     first_holds, unless_holds, table_holds, unless_alike, seen_in_front      what holds of what a call comes to unless the tree has a fault for it
--     with_node_change, with_node_alike, with_node_unset      a new node with its first name: that is a change;  by what is seen it sets
--         the same;  and it sets the new node and its directory alone
--     making_well, making_unless_well, making_text_well      the meanings
--     file_create_is_proper, file_symlink_is_proper      the calls are proper
use Rattle.std.proofs.Common.{◌≡◌, ◌≢◌, ℕ, ◌==◌, ◌&&◌, ◌||◌, Bool, true, false, not, cond, List, [], ◌∷◌, ◌++◌, length, map, Option, Some, None, inr, is_none, refl, sym, ap, subst, ◌∙◌, arith}
use Rattle.std.specs.Prelude.{⊤, nat_lt}
use Rattle.std.specs.FinMap.{FinMap, empty, get, insert}
use Rattle.std.specs.List.{AllByRecursion}
use Rattle.std.specs.Ordering.{nat_cmp}
use Rattle.std.specs.Str.{is_utf8}
use Rattle.abi_base.specs.declared.errno.Errno.{Errno}
use Rattle.abi_base.specs.declared.errno.Errno.TheVariants.{Again, Exist, Ilseq, Inval, NameTooLong, Nomem}
use Rattle.abi_types.specs.declared.node.Node.{Node}
use Rattle.abi_types.specs.declared.node.NodeKind.{NodeKind}
use Rattle.abi_types.specs.declared.node.NodeKind.TheVariants as kind
use Rattle.maps.specs.Closure.{member}
use Rattle.maps.specs.Maps.{get-insert-same, get-insert-other}
use Rattle.tree_model.specs.Changes.{Faults, first_fault, made, make_faults, new_node, with_count}
use Rattle.tree_model.specs.Entries.{here_or_other, table-new_node-other}
use Rattle.tree_model.specs.Tree.{IsTree, is_directory_node, links_in, names_in}
use Rattle.tree_model.specs.declared.fault.TreeFault.{TreeFault}
use Rattle.tree_model.specs.declared.fault.TreeFault.TheVariants.{Absent, NotDirectory, Taken}
use Rattle.tree_model.specs.declared.limits.TheConstants.{ROOT}
use Rattle.kernel_model.specs.Families.FileChanges.{modified}
use Rattle.kernel_model.specs.Families.FilePaths.{longest_path, path_error, path_errors}
use Rattle.kernel_model.specs.Families.LastNames.{directory_parts, last_name, last_outside}
use Rattle.kernel_model.specs.Families.NameMaking.{empty_error, errno_of, file_create, file_symlink, make_in, making, making_unless, new_directories, node_of, or_else, text_error, with_node}
use Rattle.kernel_model.specs.Families.NameMeaning.{NameOutcome, Refuses, Changes, NameMeaning, unless_fault}
use Rattle.kernel_model.specs.Proper.{IsIn, IsProper}
use Rattle.kernel_model.specs.State.{Part, Tree, at_names, at_chan, at_node, at_open, has_part, part_of, same_part, tree_of}
use Rattle.kernel_model.specs.Families.TreeUpdates.{change_updates}
use Rattle.kernel_model.proofs.FilePaths.{ilseq_among, inval_among, name_too_long_among, noent_among, notdir_among, path_errors_lack}
use Rattle.kernel_model.proofs.LastNames.{all_both, at_name_holds, at_name_plain, at_name_reads, below_alike, directory_is_seen, directory_unset, in_front, last_name_reads}
use Rattle.kernel_model.proofs.Lists.{all_weaker}
use Rattle.kernel_model.proofs.NameMeanings.{IsChangeOf, IsGood, IsPlainly, IsUnsetBy, NamesWell, SetsAlike, new_node_parts}
use Rattle.kernel_model.proofs.NameProper.{by_name_is_proper}
use Rattle.kernel_model.proofs.Parts.{has_of_both, outside_cons}
use Rattle.kernel_model.proofs.Tests.{either_false, not_true}
use Rattle.kernel_model.proofs.TreeChanges.{first_is_member, later_is_member, made_change, not_member_apart, retimed_alike_at, retimed_change, updates_alike, updates_unset}
use Rattle.kernel_model.proofs.Reworks.{retimed_reworks}

-- ---- unless the tree has a fault

first_or : (Q : Option TreeFault → Type 0) (b : Bool) (fault : TreeFault) (rest : Option TreeFault) → Q (Some fault) → Q rest
    → Q (cond b (Some fault) rest)
first_or Q true fault rest one more = one
first_or Q false fault rest one more = more

-- what holds where there is no fault, and of each fault of a table, holds of its first one
pub first_holds : (Q : Option TreeFault → Type 0) (faults : Faults) → Q None → AllByRecursion (λ (f : Bool × TreeFault). Q (Some f.1)) faults
    → Q (first_fault faults)
first_holds Q [] none all = none
first_holds Q (f ∷ faults) none all = first_or Q f.0 f.1 (first_fault faults) all.0 (first_holds Q faults none all.1)

pub unless_holds : (P : NameOutcome → Type 0) (error : TreeFault → Errno) (o : Option TreeFault) (c : NameOutcome) → ((errno : Errno) → P (Refuses errno))
    → (o ≡ None → P c) → P (unless_fault error o c)
unless_holds P error None c refuses free = free refl
unless_holds P error (Some fault) c refuses free = refuses (error fault)

-- the same with each fault of a table, and where it has none
pub table_holds : (P : NameOutcome → Type 0) (error : TreeFault → Errno) (faults : Faults) (c : NameOutcome)
    → AllByRecursion (λ (f : Bool × TreeFault). P (Refuses (error f.1))) faults → (first_fault faults ≡ None → P c)
    → P (unless_fault error (first_fault faults) c)
table_holds P error faults c refuses free =
    first_holds (λ o. first_fault faults ≡ o → P (unless_fault error o c)) faults free
    (all_weaker (λ (f : Bool × TreeFault). P (Refuses (error f.1)))
    (λ f. first_fault faults ≡ Some f.1 → P (Refuses (error f.1))) (λ f one _. one) faults refuses)
    refl

same_unless : (error : TreeFault → Errno) (o : Option TreeFault) (c other : NameOutcome) → SetsAlike c other
    → SetsAlike (unless_fault error o c) (unless_fault error o other)
same_unless error None c other same = same
same_unless error (Some fault) c other same = refl

pub unless_alike : (error : TreeFault → Errno) (first second : Option TreeFault) (c other : NameOutcome) → first ≡ second → SetsAlike c other
    → SetsAlike (unless_fault error first c) (unless_fault error second other)
unless_alike error first second c other e same =
    subst (λ o. SetsAlike (unless_fault error first c) (unless_fault error o other)) e (same_unless error first c other same)

-- what is among the first parts is among all
pub seen_in_front : (first second : List Part) (q : Part) → has_part first q ≡ true → has_part (first ++ second) q ≡ true
seen_in_front first second q h = has_of_both first second q ∙ ap (λ b. b || has_part second q) h

-- ---- a new node with its first name

new_table : (kind : NodeKind) (now new : ℕ) (t : Tree) (d q : ℕ) → member q (d ∷ new_directories kind new) ≡ false
    → get (new_node t new (node_of kind now)).names q ≡ get t.names q
new_table (kind.File bytes) now new t d q lacks = refl
new_table kind.Directory now new t d q lacks =
    table-new_node-other t new (node_of kind.Directory now) q
    (not_member_apart new q (d ∷ new ∷ []) (later_is_member new d (new ∷ []) (first_is_member new [])) lacks)
new_table (kind.Link text) now new t d q lacks = refl

pub with_node_change : (kind : NodeKind) (now new : ℕ) (t : Tree) (d : ℕ) (name : List ℕ) (new_nodes : ℕ) → IsTree t → first_fault (make_faults t d name) ≡ None
    → get t.nodes new ≡ None → new_nodes ≢ 0 → IsChangeOf t new new_nodes (with_node kind now new t d name)
with_node_change kind now new t d name new_nodes tree free none some =
    retimed_change t new new_nodes
    (record { tree = made t d name new (node_of kind now); nodes = d ∷ new ∷ []; directories = d ∷ new_directories kind new }) d (modified now)
    (first_is_member d (new ∷ []))
    (made_change t d name new (node_of kind now) none new_nodes (d ∷ new ∷ []) (d ∷ new_directories kind new) tree free some
    (later_is_member new d (new ∷ []) (first_is_member new [])) (first_is_member d (new_directories kind new)) (new_table kind now new t d))

-- what is set in two maps is alike there, and elsewhere where they are
inserted_alike : {X : Type 0} (m n : FinMap nat_cmp X) (k : ℕ) (x : X) (q : ℕ) → (q ≢ k → get m q ≡ get n q) → get (insert m k x) q ≡ get (insert n k x) q
inserted_alike m n k x q same =
    here_or_other (λ j. get (insert m k x) j ≡ get (insert n k x) j) k q (get-insert-same m k x ∙ sym (get-insert-same n k x))
    (λ other. get-insert-other m k x q other ∙ same other ∙ sym (get-insert-other n k x q other))

module _ (now new : ℕ) (t u : Tree) (d : ℕ) (name : List ℕ) (node_same : get t.nodes d ≡ get u.nodes d) (names_same : get t.names d ≡ get u.names d) where
  made_nodes_alike : (kind : NodeKind) (q : ℕ) → (q ≢ new → get t.nodes q ≡ get u.nodes q)
      → get (with_node kind now new t d name).tree.nodes q ≡ get (with_node kind now new u d name).tree.nodes q
  made_nodes_alike kind q at =
      let node = with_count (node_of kind now) 1 in
      retimed_alike_at (made t d name new (node_of kind now)) (made u d name new (node_of kind now)) d (modified now) q
      (inserted_alike t.nodes u.nodes new node d (λ _. node_same)) (inserted_alike t.nodes u.nodes new node q at)

  named_alike : (node : Node) (q : ℕ) → get (new_node t new node).names d ≡ get (new_node u new node).names d
      → get (new_node t new node).names q ≡ get (new_node u new node).names q → get (made t d name new node).names q ≡ get (made u d name new node).names q
  named_alike node q here at =
      here_or_other (λ k. get (made t d name new node).names k ≡ get (made u d name new node).names k) d q
      (get-insert-same (new_node t new node).names d _ ∙ ap (λ o. Some (insert (names_in o) name new)) here
      ∙ sym (get-insert-same (new_node u new node).names d _))
      (λ other. get-insert-other (new_node t new node).names d _ q other ∙ at ∙ sym (get-insert-other (new_node u new node).names d _ q other))

  made_names_alike : (kind : NodeKind) (q : ℕ) → get (new_node t new (node_of kind now)).names d ≡ get (new_node u new (node_of kind now)).names d
      → get (new_node t new (node_of kind now)).names q ≡ get (new_node u new (node_of kind now)).names q
      → get (with_node kind now new t d name).tree.names q ≡ get (with_node kind now new u d name).tree.names q
  made_names_alike kind q here at =
      ap (λ m. get m q) (retimed_reworks (made t d name new (node_of kind now)) d (modified now)).names
      ∙ named_alike (node_of kind now) q here at
      ∙ sym (ap (λ m. get m q) (retimed_reworks (made u d name new (node_of kind now)) d (modified now)).names)

  directories_alike : (kind : NodeKind)
      → AllByRecursion (λ q. get (with_node kind now new t d name).tree.names q ≡ get (with_node kind now new u d name).tree.names q)
      (d ∷ new_directories kind new)
  directories_alike (kind.File bytes) = (made_names_alike (kind.File bytes) d names_same names_same, tt)
  directories_alike kind.Directory =
      let here = inserted_alike t.names u.names new empty d (λ _. names_same) in (
        made_names_alike kind.Directory d here here,
        (made_names_alike kind.Directory new here (inserted_alike t.names u.names new empty new (λ other. absurd (other refl))), tt),
      )
  directories_alike (kind.Link text) = (made_names_alike (kind.Link text) d names_same names_same, tt)

  pub with_node_alike : (kind : NodeKind) → change_updates (with_node kind now new u d name) ≡ change_updates (with_node kind now new t d name)
  with_node_alike kind =
      updates_alike (with_node kind now new t d name).tree (with_node kind now new u d name).tree (d ∷ new ∷ []) (d ∷ new_directories kind new)
      (made_nodes_alike kind d (λ _. node_same), (made_nodes_alike kind new (λ other. absurd (other refl)), tt)) (directories_alike kind)

  pub make_faults_alike : first_fault (make_faults u d name) ≡ first_fault (make_faults t d name)
  make_faults_alike = λ i.
      first_fault ((is_none (sym node_same i), Absent) ∷ (not (is_directory_node (sym node_same i)), NotDirectory)
      ∷ ((links_in (sym node_same i) == 0) && not (d == ROOT), Absent) ∷ (not (is_none (get (names_in (sym names_same i)) name)), Taken) ∷ [])

directories_unset : (kind : NodeKind) (new d : ℕ) (q : Part) → same_part (at_names d) q ≡ false → same_part (at_names new) q ≡ false
    → AllByRecursion (λ n. same_part (at_names n) q ≡ false) (d ∷ new_directories kind new)
directories_unset (kind.File bytes) new d q here fresh = (here, tt)
directories_unset kind.Directory new d q here fresh = (here, (fresh, tt))
directories_unset (kind.Link text) new d q here fresh = (here, tt)

pub with_node_unset : (kind : NodeKind) (now new : ℕ) (t : Tree) (d : ℕ) (name : List ℕ) (q : Part) → has_part (new_node_parts 1 new) q ≡ false
    → (same_part (at_node d) q ≡ false) × (same_part (at_names d) q ≡ false)
    → has_part (map part_of (change_updates (with_node kind now new t d name))) q ≡ false
with_node_unset kind now new t d name q fresh here =
    let node = outside_cons (at_node new) (at_names new ∷ at_chan new ∷ []) q
    (outside_cons (at_open new) (at_node new ∷ at_names new ∷ at_chan new ∷ []) q fresh).1 in
    let names = outside_cons (at_names new) (at_chan new ∷ []) q node.1 in
    updates_unset (with_node kind now new t d name).tree q (d ∷ new ∷ []) (d ∷ new_directories kind new) (here.0, (node.0, tt))
    (directories_unset kind new d q here.1 names.0)

-- ---- the meanings

exist_among : IsIn Exist (path_errors ++ Exist ∷ Again ∷ [])
exist_among = (path_errors, Again ∷ [], refl)

make_plain : (kind : NodeKind) (now new : ℕ) (t : Tree) (d : ℕ) (name : List ℕ)
    → IsPlainly (path_errors ++ Exist ∷ Again ∷ []) None (make_in kind now new t d name)
make_plain kind now new t d name =
    let more = Exist ∷ Again ∷ [] in
    let absent = in_front _ path_errors more noent_among in
    first_holds (λ o. IsPlainly (path_errors ++ more) None (unless_fault errno_of o (Changes (with_node kind now new t d name)))) (make_faults t d name)
    tt (absent, (in_front _ path_errors more notdir_among, (absent, (exist_among, tt))))

pub making_well : (kind : NodeKind) (path : List ℕ) → NamesWell (making kind path)
making_well kind path = record {
  reads = λ now new t u here there seen second.
      at_name_reads (make_in kind now new) t u path here
      (λ d name under.
      let same = below_alike t u here d seen under in
      unless_alike errno_of (first_fault (make_faults u d name)) (first_fault (make_faults t d name))
      (Changes (with_node kind now new u d name)) (Changes (with_node kind now new t d name))
      (make_faults_alike now new t u d name same.0 same.1)
      (with_node kind now new t d name, refl, with_node_alike now new t u d name same.0 same.1 kind)) seen;
  walks = λ t u here there seen second. ap last_outside (last_name_reads t u path here seen);
  sets = λ now new t here there q h.
      let both = either_false (has_part (new_node_parts 1 new) q) (has_part (directory_parts (last_name t path here)) q)
      (sym (has_of_both (new_node_parts 1 new) (directory_parts (last_name t path here)) q) ∙ h) in
      at_name_holds (λ c. IsUnsetBy c q) (make_in kind now new t) (λ _. tt) (λ _. tt) (last_name t path here)
      (λ d name is.
      unless_holds (λ c. IsUnsetBy c q) errno_of (first_fault (make_faults t d name)) (Changes (with_node kind now new t d name)) (λ _. tt)
      (λ free. with_node_unset kind now new t d name q both.0 (directory_unset (last_name t path here) q d name both.1 is)));
  seen = λ S here there q h. seen_in_front _ _ q (directory_is_seen S path here q h);
  plain = λ now new t here there. at_name_plain (Exist ∷ Again ∷ []) (make_in kind now new t) t path here (make_plain kind now new t);
  again = inr (path_errors ++ Exist ∷ [], [], refl);
  lacks = all_both (λ errno. errno ≢ Nomem) path_errors (Exist ∷ Again ∷ []) path_errors_lack ((λ e. cc), ((λ e. cc), tt));
  good = λ now new S here there first second tree none.
      at_name_holds (IsGood (tree_of S) new 1) (make_in kind now new (tree_of S)) (λ _. tt) (λ _. tt) (last_name (tree_of S) path here)
      (λ d name is.
      unless_holds (IsGood (tree_of S) new 1) errno_of (first_fault (make_faults (tree_of S) d name)) (Changes (with_node kind now new (tree_of S) d name))
      (λ _. tt) (λ free. with_node_change kind now new (tree_of S) d name 1 tree free (none (λ e. omega arith)) (λ e. omega arith)));
}

-- ---- a text that is looked at before

-- an error, if there is one, is one of these
abbrev pub IsAnyOf : List Errno → Option Errno → Type 0
IsAnyOf errors None = ⊤
IsAnyOf errors (Some errno) = IsIn errno errors

pub making_unless_well : (o : Option Errno) (m : NameMeaning) → IsAnyOf m.errors o → NamesWell m → NamesWell (making_unless o m)
making_unless_well None m any well = well
making_unless_well (Some errno) m any well = record {
  reads = λ now new t u here there seen second. refl;
  walks = λ t u here there seen second. refl;
  sets = λ now new t here there q h. tt;
  seen = λ S here there q h. absurd (not_true h);
  plain = λ now new t here there. any;
  again = well.again;
  lacks = well.lacks;
  good = λ now new S here there first second tree none. tt;
}

path_error_by : (more : List Errno) (long broken zeros : Bool)
    → IsAnyOf (path_errors ++ more) (cond long (Some NameTooLong) (cond broken (Some Ilseq) (cond zeros (Some Inval) None)))
path_error_by more true broken zeros = in_front _ path_errors more name_too_long_among
path_error_by more false true zeros = in_front _ path_errors more ilseq_among
path_error_by more false false true = in_front _ path_errors more inval_among
path_error_by more false false false = tt

empty_error_any : (more : List Errno) (text : List ℕ) → IsAnyOf (path_errors ++ more) (empty_error text)
empty_error_any more [] = in_front _ path_errors more noent_among
empty_error_any more (b ∷ bs) = tt

or_else_any : (errors : List Errno) (first second : Option Errno) → IsAnyOf errors first → IsAnyOf errors second → IsAnyOf errors (or_else first second)
or_else_any errors None second one other = other
or_else_any errors (Some errno) second one other = one

text_error_any : (more : List Errno) (text : List ℕ) → IsAnyOf (path_errors ++ more) (text_error text)
text_error_any more text =
    or_else_any (path_errors ++ more) (path_error text) (empty_error text)
    (path_error_by more (nat_lt longest_path (length text)) (not (is_utf8 text)) (member 0 text)) (empty_error_any more text)

pub making_text_well : (text path : List ℕ) → NamesWell (making_unless (text_error text) (making (kind.Link text) path))
making_text_well text path =
    making_unless_well (text_error text) (making (kind.Link text) path) (text_error_any (Exist ∷ Again ∷ []) text) (making_well (kind.Link text) path)

-- ---- the calls

pub file_create_is_proper : (fd : ℕ) (path : List ℕ) → IsProper (file_create fd path)
file_create_is_proper fd path = by_name_is_proper (making kind.Directory path) (making_well kind.Directory path) _

pub file_symlink_is_proper : (text : List ℕ) (fd : ℕ) (path : List ℕ) → IsProper (file_symlink text fd path)
file_symlink_is_proper text fd path = by_name_is_proper (making_unless (text_error text) (making (kind.Link text) path)) (making_text_well text path) _
