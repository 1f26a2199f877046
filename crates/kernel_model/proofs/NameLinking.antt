-- The meaning of the call that makes one more name of a node keeps to what the meanings on names keep to.
--     at_found_holds, at_found_reads, at_found_plain      what a call comes to at the node that a path leads to
--     link_alike, link_unset, link_plain, link_good      what one more name comes to
--     linking_well, file_link_is_proper      the meaning;  the call is proper
use Rattle.std.proofs.Common.{◌≡◌, ◌≢◌, ℕ, ◌==◌, ◌&&◌, true, false, not, List, [], ◌∷◌, ◌++◌, Option, None, inl, inr, is_none, refl, sym, ap, subst, ◌∙◌}
use Rattle.std.specs.Prelude.{nat_le}
use Rattle.std.specs.FinMap.{get}
use Rattle.abi_base.specs.declared.errno.Errno.{Errno}
use Rattle.abi_base.specs.declared.errno.Errno.TheVariants.{Exist, Mlink, Noent, Nomem, Perm}
use Rattle.abi_types.specs.declared.call.Lookup.{Lookup}
use Rattle.abi_types.specs.declared.node.Node.{Node}
use Rattle.abi_types.specs.declared.open_kind.OpenKind.{OpenKind}
use Rattle.path_lookup.specs.declared.ends.End.{End as PathEnd}
use Rattle.path_lookup.specs.declared.ends.End.TheVariants as end
use Rattle.path_lookup.specs.declared.ends.WalkMode.{WalkMode}
use Rattle.tree_model.specs.Changes.{Faults, first_fault, link_faults, linked, one_more}
use Rattle.tree_model.specs.Entries.{one_more-changes}
use Rattle.tree_model.specs.Tree.{IsTree, is_directory_node, links_in, names_in}
use Rattle.tree_model.specs.declared.fault.TreeFault.TheVariants.{Absent, Taken, NotDirectory, IsDirectory, Links}
use Rattle.tree_model.specs.declared.limits.TheConstants.{ROOT, MOST_LINKS}
use Rattle.kernel_model.specs.Families.FileChanges.{modified}
use Rattle.kernel_model.specs.Families.FilePaths.{Walked, Ends, Fails, LeadsOutside, found_part, lookup_mode, path_errors, walked}
use Rattle.kernel_model.specs.Families.LastNames.{directory_parts, last_name, last_outside}
use Rattle.kernel_model.specs.Families.NameMaking.{with_new_names}
use Rattle.kernel_model.specs.Families.NameMeaning.{NameOutcome, Refuses, LeadsOut, Changes, at_name}
use Rattle.kernel_model.specs.Families.NameMoving.{at_found, at_found_end, found_outside, found_outside_end, file_link, link_errno, link_in, linking, with_link}
use Rattle.kernel_model.specs.Families.NameRemoving.{recounted}
use Rattle.kernel_model.specs.Proper.{IsIn, IsProper}
use Rattle.kernel_model.specs.Sight.{behind}
use Rattle.kernel_model.specs.State.{Names, Part, State, Tree, at_names, at_node, has_part, same_part, tree_of}
use Rattle.kernel_model.proofs.Branches.{IsSeen}
use Rattle.kernel_model.proofs.FilePaths.{FailsPlainly, found_is_seen, noent_among, notdir_among, path_errors_lack, walked_plainly, walked_reads}
use Rattle.kernel_model.proofs.LastNames.{EndsBelow, HasBelow, WalksBelow, all_both, at_name_holds, at_name_plain, at_name_reads, below_alike, directory_is_seen, directory_unset, in_front, last_name_reads, walks_below}
use Rattle.kernel_model.proofs.MoveChanges.{with_link_change}
use Rattle.kernel_model.proofs.NameMaking.{table_holds, unless_alike, unless_holds}
use Rattle.kernel_model.proofs.NameMeanings.{IsGood, IsPlainly, IsUnsetBy, NamesWell, SetsAlike}
use Rattle.kernel_model.proofs.NameProper.{by_names_is_proper}
use Rattle.kernel_model.proofs.Parts.{has_left, has_of_both, has_right, outside_both, outside_cons}
use Rattle.kernel_model.proofs.Tests.{either_true}
use Rattle.kernel_model.proofs.TreeChanges.{updates_alike, updates_unset}
use Rattle.kernel_model.proofs.TreesAlike.{NamesAlike, NodeAlike, changed_names_alike, changed_node_alike, put_name_alike, retimed_names_alike, retimed_node_alike}

-- ---- at the node that a path leads to

module _ (P : NameOutcome → Type 0) (goes : ℕ → NameOutcome) (refuses : (errno : Errno) → P (Refuses errno)) (leads : (component : ℕ) → P (LeadsOut component)) where
  at_found_end_holds : (e : PathEnd) → ((n : ℕ) → e ≡ end.Found n → P (goes n)) → P (at_found_end goes e)
  at_found_end_holds (end.Found n) at = at n refl
  at_found_end_holds (end.Absent dir from len) at = refuses Noent
  at_found_end_holds (end.Last dir from len) at = refuses Noent

  pub at_found_holds : (w : Walked) → ((n : ℕ) → w ≡ Ends (end.Found n) → P (goes n)) → P (at_found goes w)
  at_found_holds (Ends end) at = at_found_end_holds end (λ n is. at n (ap Ends is))
  at_found_holds (Fails errno) at = refuses errno
  at_found_holds (LeadsOutside component) at = leads component

module _ (t : Tree) (kind : Option OpenKind) (goes other : ℕ → NameOutcome) (alike : (n : ℕ) → HasBelow t kind n → SetsAlike (goes n) (other n)) where
  at_found_end_alike : (end : PathEnd) → EndsBelow t kind end → SetsAlike (at_found_end goes end) (at_found_end other end)
  at_found_end_alike (end.Found n) under = alike n under
  at_found_end_alike (end.Absent dir from len) under = refl
  at_found_end_alike (end.Last dir from len) under = refl

  at_found_alike : (w : Walked) → WalksBelow t kind w → SetsAlike (at_found goes w) (at_found other w)
  at_found_alike (Ends end) under = at_found_end_alike end under
  at_found_alike (Fails errno) under = refl
  at_found_alike (LeadsOutside component) under = refl

-- it comes to the same by what is seen of the tree, where it does so at each node below the open's directory
pub at_found_reads : (goes : Tree → ℕ → NameOutcome) (t u : Tree) (mode : WalkMode) (path : List ℕ) (kind : Option OpenKind)
    → ((n : ℕ) → HasBelow t kind n → SetsAlike (goes u n) (goes t n)) → IsSeen t u kind
    → SetsAlike (at_found (goes u) (walked u mode path kind)) (at_found (goes t) (walked t mode path kind))
at_found_reads goes t u mode path kind alike seen =
    subst (λ w. SetsAlike (at_found (goes u) w) (at_found (goes t) (walked t mode path kind))) (sym (walked_reads t u mode path kind seen))
    (at_found_alike t kind (goes u) (goes t) alike (walked t mode path kind) (walks_below t mode path kind))

module _ (more : List Errno) (goes : ℕ → NameOutcome) (second : Option ℕ) (at : (n : ℕ) → IsPlainly (path_errors ++ more) second (goes n)) where
  end_plain : (end : PathEnd) → IsPlainly (path_errors ++ more) (found_outside_end second end) (at_found_end goes end)
  end_plain (end.Found n) = at n
  end_plain (end.Absent dir from len) = in_front Noent path_errors more noent_among
  end_plain (end.Last dir from len) = in_front Noent path_errors more noent_among

  walk_plain : (w : Walked) → FailsPlainly w → IsPlainly (path_errors ++ more) (found_outside second w) (at_found goes w)
  walk_plain (Ends end) plain = end_plain end
  walk_plain (Fails errno) plain = in_front errno path_errors more plain
  walk_plain (LeadsOutside component) plain = refl

  pub at_found_plain : (t : Tree) (mode : WalkMode) (path : List ℕ) (kind : Option OpenKind)
      → IsPlainly (path_errors ++ more) (found_outside second (walked t mode path kind)) (at_found goes (walked t mode path kind))
  at_found_plain t mode path kind = walk_plain (walked t mode path kind) (walked_plainly t mode path kind)

-- the node that is found is unset where none of its parts is one that is set
found_unset : (w : Walked) (q : Part) (n : ℕ) → has_part (found_part w) q ≡ false → w ≡ Ends (end.Found n) → same_part (at_node n) q ≡ false
found_unset w q n h is = (outside_cons (at_node n) [] q (sym (ap (λ x. has_part (found_part x) q) is) ∙ h)).0

-- ---- one more name

-- the table of faults, by the nodes and the names that it looks at
abbrev faults_by : ℕ → List ℕ → Option Node → Option Node → Option Names → Faults
faults_by d name dir node names =
    (is_none dir, Absent) ∷ (not (is_directory_node dir), NotDirectory) ∷ ((links_in dir == 0) && not (d == ROOT), Absent) ∷ (is_none node, Absent)
    ∷ (is_directory_node node, IsDirectory) ∷ (not (is_none (get (names_in names) name)), Taken) ∷ (nat_le MOST_LINKS (links_in node), Links) ∷ []

module _ (now : ℕ) (t u : Tree) (n d : ℕ) (name : List ℕ) (node : NodeAlike t u n) (directory : NodeAlike t u d) (names : NamesAlike t u d) where
  faults_alike : link_faults t d name n ≡ link_faults u d name n
  faults_alike = λ i. faults_by d name (directory i) (node i) (names i)

  linked_node_alike : (q : ℕ) → NodeAlike t u q → NodeAlike (with_link now t n d name).tree (with_link now u n d name).tree q
  linked_node_alike q same =
      retimed_node_alike (with_new_names now (linked t d name n) d) (with_new_names now (linked u d name n) d) n (recounted now) q
      (retimed_node_alike (linked t d name n) (linked u d name n) d (modified now) q
      (changed_node_alike t u (one_more t n) (one_more u n) n _ (one_more-changes t n) (one_more-changes u n) q same))

  linked_names_alike : (q : ℕ) → NamesAlike t u q → NamesAlike (with_link now t n d name).tree (with_link now u n d name).tree q
  linked_names_alike q same =
      retimed_names_alike (with_new_names now (linked t d name n) d) (with_new_names now (linked u d name n) d) n (recounted now) q
      (retimed_names_alike (linked t d name n) (linked u d name n) d (modified now) q
      (put_name_alike (one_more t n) (one_more u n) d name n q
      (changed_names_alike t u (one_more t n) (one_more u n) n _ (one_more-changes t n) (one_more-changes u n) q same)))

  pub link_alike : SetsAlike (link_in now u n d name) (link_in now t n d name)
  link_alike =
      unless_alike link_errno (first_fault (link_faults u d name n)) (first_fault (link_faults t d name n))
      (Changes (with_link now u n d name)) (Changes (with_link now t n d name)) (ap first_fault (sym faults_alike)) (
        with_link now t n d name,
        refl,
        updates_alike (with_link now t n d name).tree (with_link now u n d name).tree (d ∷ n ∷ []) (d ∷ [])
            (linked_node_alike d directory, (linked_node_alike n node, tt)) (linked_names_alike d names, tt),
      )

pub link_unset : (now : ℕ) (t : Tree) (n d : ℕ) (name : List ℕ) (q : Part) → same_part (at_node n) q ≡ false → same_part (at_node d) q ≡ false
    → same_part (at_names d) q ≡ false → IsUnsetBy (link_in now t n d name) q
link_unset now t n d name q node directory names =
    unless_holds (λ c. IsUnsetBy c q) link_errno (first_fault (link_faults t d name n)) (Changes (with_link now t n d name)) (λ _. tt)
    (λ free. updates_unset (with_link now t n d name).tree q (d ∷ n ∷ []) (d ∷ []) (directory, (node, tt)) (names, tt))

-- its errors beside those of paths
abbrev link_errors : List Errno
link_errors = Perm ∷ Exist ∷ Mlink ∷ []

link_plain : (now : ℕ) (t : Tree) (n d : ℕ) (name : List ℕ) → IsPlainly (path_errors ++ link_errors) None (link_in now t n d name)
link_plain now t n d name =
    let absent : IsIn Noent (path_errors ++ link_errors) = in_front Noent path_errors link_errors noent_among in
    table_holds (IsPlainly (path_errors ++ link_errors) None) link_errno (link_faults t d name n) (Changes (with_link now t n d name)) (
      absent,
      (
        in_front _ path_errors link_errors notdir_among,
        (
          absent,
          (
            absent,
            ((path_errors, Exist ∷ Mlink ∷ [], refl), ((path_errors ++ Perm ∷ [], Mlink ∷ [], refl), ((path_errors ++ Perm ∷ Exist ∷ [], [], refl), tt))),
          ),
        ),
      ),
    )
    (λ free. tt)

link_good : (now new : ℕ) (t : Tree) (n d : ℕ) (name : List ℕ) → IsTree t → IsGood t new 0 (link_in now t n d name)
link_good now new t n d name tree =
    unless_holds (IsGood t new 0) link_errno (first_fault (link_faults t d name n)) (Changes (with_link now t n d name)) (λ _. tt)
    (λ free. with_link_change t d name n tree free now new 0)

-- ---- the meaning

-- a part that is behind one of two opens
pub seen_behind : (S : State) (here there : Option OpenKind) (q : Part) (first second : List Part)
    → (has_part first q ≡ true → has_part (behind S here) q ≡ true) → (has_part second q ≡ true → has_part (behind S there) q ≡ true)
    → has_part (first ++ second) q ≡ true → has_part (behind S here ++ behind S there) q ≡ true
seen_behind S here there q first second one other h =
    elim (either_true (has_part first q) (has_part second q) (sym (has_of_both first second q) ∙ h)) [
      | inl front ↦ has_left (behind S here) (behind S there) q (one front)
      | inr later ↦ has_right (behind S here) (behind S there) q (other later)
    ]

module _ (mode : WalkMode) (path new_path : List ℕ) where
  linking_reads : (now new : ℕ) (t u : Tree) (here there : Option OpenKind) → IsSeen t u here → IsSeen t u there
      → SetsAlike ((linking mode path new_path).effect now new u here there) ((linking mode path new_path).effect now new t here there)
  linking_reads now new t u here there seen other =
      at_found_reads (λ w n. at_name (link_in now w n) (last_name w new_path there)) t u mode path here
      (λ n under.
      at_name_reads (λ w. link_in now w n) t u new_path there
      (λ d name inside.
      let dir = below_alike t u there d other inside in
      link_alike now t u n d name (below_alike t u here n seen under).0 dir.0 dir.1) other) seen

  linking_walks : (t u : Tree) (here there : Option OpenKind) → IsSeen t u here → IsSeen t u there
      → (linking mode path new_path).outside u here there ≡ (linking mode path new_path).outside t here there
  linking_walks t u here there seen other =
      ap (λ l. found_outside (last_outside l) (walked u mode path here)) (last_name_reads t u new_path there other)
      ∙ ap (found_outside (last_outside (last_name t new_path there))) (walked_reads t u mode path here seen)

  linking_sets : (now new : ℕ) (t : Tree) (here there : Option OpenKind) (q : Part)
      → has_part ((linking mode path new_path).touched t here there) q ≡ false → IsUnsetBy ((linking mode path new_path).effect now new t here there) q
  linking_sets now new t here there q h =
      let apart = outside_both (found_part (walked t mode path here)) (directory_parts (last_name t new_path there)) q h in
      at_found_holds (λ c. IsUnsetBy c q) (λ n. at_name (link_in now t n) (last_name t new_path there)) (λ _. tt) (λ _. tt) (walked t mode path here)
      (λ n found.
      at_name_holds (λ c. IsUnsetBy c q) (link_in now t n) (λ _. tt) (λ _. tt) (last_name t new_path there)
      (λ d name is.
      let dir = directory_unset (last_name t new_path there) q d name apart.1 is in
      link_unset now t n d name q (found_unset (walked t mode path here) q n apart.0 found) dir.0 dir.1))

  linking_good : (now new : ℕ) (t : Tree) (here there : Option OpenKind) → IsTree t → IsGood t new 0 ((linking mode path new_path).effect now new t here there)
  linking_good now new t here there tree =
      at_found_holds (IsGood t new 0) (λ n. at_name (link_in now t n) (last_name t new_path there)) (λ _. tt) (λ _. tt) (walked t mode path here)
      (λ n found.
      at_name_holds (IsGood t new 0) (link_in now t n) (λ _. tt) (λ _. tt) (last_name t new_path there) (λ d name is. link_good now new t n d name tree))

  pub linking_well : NamesWell (linking mode path new_path)
  linking_well = record {
    reads = linking_reads;
    walks = linking_walks;
    sets = linking_sets;
    seen = λ S here there q.
        seen_behind S here there q (found_part (walked (tree_of S) mode path here)) (directory_parts (last_name (tree_of S) new_path there))
        (found_is_seen S mode path here q) (directory_is_seen S new_path there q);
    plain = λ now new t here there.
        at_found_plain link_errors (λ n. at_name (link_in now t n) (last_name t new_path there)) (last_outside (last_name t new_path there))
        (λ n. at_name_plain link_errors (link_in now t n) t new_path there (link_plain now t n)) t mode path here;
    again = inl refl;
    lacks = all_both (λ errno. errno ≢ Nomem) path_errors link_errors path_errors_lack ((λ e. cc), ((λ e. cc), ((λ e. cc), tt)));
    good = λ now new S here there first second tree none. linking_good now new (tree_of S) here there tree;
  }

pub file_link_is_proper : (lookup : Lookup) (path : List ℕ) (new_fd : ℕ) (new_path : List ℕ) → IsProper (file_link lookup path new_fd new_path)
file_link_is_proper lookup path new_fd new_path =
    by_names_is_proper (linking (lookup_mode lookup.flags) path new_path) (linking_well (lookup_mode lookup.flags) path new_path) _ _
