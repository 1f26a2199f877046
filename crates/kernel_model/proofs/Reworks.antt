-- Trees that differ in one node, and states where one node is another.
--     Reworks t u n      u is the tree t with another node n, where it has one, of the same kind
--     with_bytes_reworks, retimed_reworks      other bytes of a file, and other times of a node, are such a change
--     with_bytes_alike, retimed_alike      and the node after it hangs on the node before it alone
--     put_tree      the tree of a state with such a node is u
--     set_node_nearly_valid      a nearly valid state with such a node is so
use Rattle.std.proofs.Common.{◌≡◌, ◌≢◌, ℕ, true, false, List, Option, Some, None, is_some, refl, sym, ap, subst, ◌∙◌}
use Rattle.std.specs.FinMap.{get, insert}
use Rattle.std.specs.Option.{option_map}
use Rattle.abi_types.specs.declared.node.Node.{Node}
use Rattle.abi_types.specs.declared.node.NodeKind.{NodeKind}
use Rattle.abi_types.specs.declared.node.NodeKind.TheVariants as kind
use Rattle.abi_types.specs.declared.node.Times.{Times}
use Rattle.maps.specs.Maps.{get-insert-same, get-insert-other, same_numbers}
use Rattle.tree_model.specs.Changes.{is_file, is_file_kind, is_file_node, with_bytes, with_times}
use Rattle.tree_model.specs.Entries.{here_or_other, with_bytes-changes, with_times-changes}
use Rattle.tree_model.specs.Keeps.{with_bytes-tree, with_times-tree}
use Rattle.tree_model.specs.Tree.{IsTree, is_directory, is_directory_kind, is_directory_node}
use Rattle.kernel_model.specs.Families.FileChanges.{retimed_in, retimed}
use Rattle.kernel_model.specs.Families.Numbers.{object_of}
use Rattle.kernel_model.specs.State.{State, Tree, tree_of, put_one, set_node}
use Rattle.kernel_model.specs.Valid.{IsNearlyValid}
use Rattle.kernel_model.proofs.Tests.{none_of, not_true}
use Rattle.kernel_model.proofs.TreeUpdates.{with_tree_nearly_valid}

-- ---- trees that differ in one node

-- u is the tree t with another node of this number, where it has one, of the same kind
pub record Reworks (t u : Tree) (n : ℕ) : Type 0 where
  pub names : u.names ≡ t.names
  pub others : (q : ℕ) → q ≢ n → get u.nodes q ≡ get t.nodes q
  pub here : is_some (get u.nodes n) ≡ is_some (get t.nodes n)
  pub file : is_file u n ≡ is_file t n
  pub directory : is_directory u n ≡ is_directory t n
  pub tree : IsTree t → IsTree u

pub reworks_self : (t : Tree) (n : ℕ) → Reworks t t n
reworks_self t n = record { names = refl; others = λ q other. refl; here = refl; file = refl; directory = refl; tree = λ tree. tree }

pub reworks_twice : (t u w : Tree) (n : ℕ) → Reworks t u n → Reworks u w n → Reworks t w n
reworks_twice t u w n first second = record {
  names = second.names ∙ first.names;
  others = λ q other. second.others q other ∙ first.others q other;
  here = second.here ∙ first.here;
  file = second.file ∙ first.file;
  directory = second.directory ∙ first.directory;
  tree = λ tree. second.tree (first.tree tree);
}

mapped_there : {X : Type 0} (f : X → X) (o : Option X) → is_some (option_map f o) ≡ is_some o
mapped_there f None = refl
mapped_there f (Some x) = refl

-- what a test says of a node with other times
retimed_node : {X : Type 0} (test : Option Node → X) (times : Times) → ((node : Node) → test (Some (record node { times = times })) ≡ test (Some node))
    → (o : Option Node) → test (option_map (λ (node : Node). record node { times = times }) o) ≡ test o
retimed_node test times same None = refl
retimed_node test times same (Some node) = same node

pub with_times_reworks : (t : Tree) (n : ℕ) (times : Times) → Reworks t (with_times t n times) n
with_times_reworks t n times =
    let c = with_times-changes t n times in
    record {
      names = c.names;
      others = c.others;
      here = ap is_some c.node ∙ mapped_there (λ (node : Node). record node { times = times }) (get t.nodes n);
      file = ap is_file_node c.node ∙ retimed_node is_file_node times (λ node. refl) (get t.nodes n);
      directory = ap is_directory_node c.node ∙ retimed_node is_directory_node times (λ node. refl) (get t.nodes n);
      tree = with_times-tree t n times;
    }

retimed_in_reworks : (t : Tree) (n : ℕ) (new : Times → Times) (o : Option Node) → Reworks t (retimed_in t n new o) n
retimed_in_reworks t n new None = reworks_self t n
retimed_in_reworks t n new (Some node) = with_times_reworks t n (new node.times)

pub retimed_reworks : (t : Tree) (n : ℕ) (new : Times → Times) → Reworks t (retimed t n new) n
retimed_reworks t n new = retimed_in_reworks t n new (get t.nodes n)

-- what was a file has other bytes
file_again : (bytes : List ℕ) (o : Option Node) → is_file_node o ≡ true
    → is_file_node (option_map (λ (node : Node). record node { kind = kind.File bytes }) o) ≡ is_file_node o
file_again bytes None file = absurd (not_true file)
file_again bytes (Some node) file = sym file

no_directory : (kind : NodeKind) → is_file_kind kind ≡ true → false ≡ is_directory_kind kind
no_directory (kind.File bytes) file = refl
no_directory kind.Directory file = absurd (not_true file)
no_directory (kind.Link text) file = absurd (not_true file)

directory_again : (bytes : List ℕ) (o : Option Node) → is_file_node o ≡ true
    → is_directory_node (option_map (λ (node : Node). record node { kind = kind.File bytes }) o) ≡ is_directory_node o
directory_again bytes None file = absurd (not_true file)
directory_again bytes (Some node) file = no_directory node.kind file

pub with_bytes_reworks : (t : Tree) (n : ℕ) (bytes : List ℕ) → is_file t n ≡ true → Reworks t (with_bytes t n bytes) n
with_bytes_reworks t n bytes file =
    let c = with_bytes-changes t n bytes in
    record {
      names = c.names;
      others = c.others;
      here = ap is_some c.node ∙ mapped_there (λ (node : Node). record node { kind = kind.File bytes }) (get t.nodes n);
      file = ap is_file_node c.node ∙ file_again bytes (get t.nodes n) file;
      directory = ap is_directory_node c.node ∙ directory_again bytes (get t.nodes n) file;
      tree = λ tree. with_bytes-tree t n bytes tree file;
    }

-- ---- the node after a change hangs on the node before it alone

-- the trees have the same node of this number, or none
abbrev pub Alike : Tree → Tree → ℕ → Type 0
Alike t u n = get t.nodes n ≡ get u.nodes n

pub with_bytes_alike : (t u : Tree) (n : ℕ) (bytes : List ℕ) → Alike t u n → Alike (with_bytes t n bytes) (with_bytes u n bytes) n
with_bytes_alike t u n bytes same =
    (with_bytes-changes t n bytes).node ∙ ap (option_map (λ (node : Node). record node { kind = kind.File bytes })) same
    ∙ sym (with_bytes-changes u n bytes).node

with_times_alike : (t u : Tree) (n : ℕ) (times : Times) → Alike t u n → Alike (with_times t n times) (with_times u n times) n
with_times_alike t u n times same =
    (with_times-changes t n times).node ∙ ap (option_map (λ (node : Node). record node { times = times })) same
    ∙ sym (with_times-changes u n times).node

retimed_in_alike : (t u : Tree) (n : ℕ) (new : Times → Times) (o : Option Node) → Alike t u n → Alike (retimed_in t n new o) (retimed_in u n new o) n
retimed_in_alike t u n new None same = same
retimed_in_alike t u n new (Some node) same = with_times_alike t u n (new node.times) same

pub retimed_alike : (t u : Tree) (n : ℕ) (new : Times → Times) → Alike t u n → Alike (retimed t n new) (retimed u n new) n
retimed_alike t u n new same =
    retimed_in_alike t u n new (get t.nodes n) same ∙ ap (λ o. get (retimed_in u n new o).nodes n) same

-- ---- a state with another node

module _ (S : State) (n : ℕ) (node : Node) (u : Tree) (works : Reworks (tree_of S) u n) (there : get u.nodes n ≡ Some node) where
  -- its tree is that tree
  pub put_tree : tree_of (put_one (set_node n node) S) ≡ u
  put_tree =
      let nodes : insert S.nodes n node ≡ u.nodes =
      same_numbers _ _ (λ q. here_or_other (λ k. get (insert S.nodes n node) k ≡ get u.nodes k) n q
      (get-insert-same S.nodes n node ∙ sym there)
      (λ other. get-insert-other S.nodes n node q other ∙ sym (works.others q other))) in
      let names : S.names ≡ u.names = sym works.names in
      λ i. record { nodes = nodes i; names = names i }

  file_stays : (q : ℕ) → is_file u q ≡ is_file (tree_of S) q
  file_stays q = here_or_other (λ k. is_file u k ≡ is_file (tree_of S) k) n q works.file (λ other. ap is_file_node (works.others q other))

  directory_stays : (q : ℕ) → is_directory u q ≡ is_directory (tree_of S) q
  directory_stays q =
      here_or_other (λ k. is_directory u k ≡ is_directory (tree_of S) k) n q works.directory (λ other. ap is_directory_node (works.others q other))

  -- a node that wasn't there isn't there still
  none_comes : (q : ℕ) → get S.nodes q ≡ None → get (insert S.nodes n node) q ≡ None
  none_comes q none =
      ap (λ (t : Tree). get t.nodes q) put_tree
      ∙ none_of (get u.nodes q) (here_or_other (λ k. is_some (get u.nodes k) ≡ is_some (get S.nodes k)) n q works.here
      (λ other. ap is_some (works.others q other)) ∙ ap is_some none)

  pub set_node_nearly_valid : IsNearlyValid S → IsNearlyValid (put_one (set_node n node) S)
  set_node_nearly_valid v =
      with_tree_nearly_valid S (tree_of (put_one (set_node n node) S))
      (record {
        tree = subst IsTree (sym put_tree) (works.tree v.tree);
        files = λ q h. ap (λ t. is_file t q) put_tree ∙ file_stays q ∙ h;
        directories = λ q h. ap (λ t. is_directory t q) put_tree ∙ directory_stays q ∙ h;
        made = λ p k small beyond fits. none_comes (object_of p k) (v.made_nodes p k small beyond fits);
      })
      v
