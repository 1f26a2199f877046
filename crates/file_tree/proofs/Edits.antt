-- A slot whose node changes, but for being a directory: the tree that is seen, and what is kept.
use Rattle.std.proofs.Common.{◌≡◌, ℕ, true, false, cond, List, [], Option, Some, None, IsSome, option_map, refl, sym, ap, ◌∙◌}
use Rattle.std.proofs.lemmas.Bool.{false≢true}
use Rattle.std.specs.FinMap.{get, insert}
use Rattle.abi_types.specs.declared.node.Node.{Node}
use Rattle.abi_types.specs.declared.node.NodeKind.{NodeKind}
use Rattle.abi_types.specs.declared.node.NodeKind.TheVariants as kind
use Rattle.abi_types.specs.declared.node.Times.{Times}
use Rattle.maps.specs.Closure.{changed-insert}
use Rattle.maps.specs.Maps.{get-insert-same, get-insert-other, insert_self, same_numbers}
use Rattle.tree_model.specs.Tree.{Tree, IsTree, entry_of, is_directory_kind, names_in}
use Rattle.tree_model.specs.Changes.{put_node, with_bytes, with_bytes_in, with_times, with_times_in, bytes_of, bytes_in, bytes_of_kind, is_file, is_file_kind, is_file_node}
use Rattle.tree_model.specs.Entries.{here_or_other}
use Rattle.tree_model.specs.Keeps.{with_bytes-tree, with_times-tree}
use Rattle.file_tree.specs.declared.slot.Slot.{Slot}
use Rattle.file_tree.specs.SlotBytes.{with_file}
use Rattle.file_tree.specs.Kept.{Slots, Numbers, names_of_slots, tree_of, is_directory_slot, parent_in, IsKept}
use Rattle.file_tree.proofs.Views.{names_found, node_found, names_at, directory_found}
use Rattle.file_tree.proofs.Stays.{parent_stays, listed_at, listed_all, is_nameless_slot, counts_as_before}

-- ---- a slot with another node

module _ (m : Slots) (n : ℕ) (s new : Slot) (there : get m n ≡ Some s) (names : new.names ≡ s.names) (kinds : is_directory_kind new.node.kind ≡ is_directory_kind s.node.kind) where
  -- what a slot is found to be is the same, where it is at the new slot what it was at the old one
  edited_at : {A : Type 0} (f : Option Slot → A) → f (Some new) ≡ f (Some s) → (q : ℕ) → f (get (insert m n new) q) ≡ f (get m q)
  edited_at f same q =
      here_or_other (λ x. f (get (insert m n new) x) ≡ f (get m x)) n q
      (ap f (get-insert-same m n new) ∙ same ∙ ap f (sym there))
      (λ other. ap f (get-insert-other m n new q other))

  edited_tables : names_of_slots (insert m n new) ≡ names_of_slots m
  edited_tables = same_numbers _ _ (λ q.
      names_at (insert m n new) q
      ∙ edited_at names_found (λ i. cond (kinds i) (Some (names i)) None) q
      ∙ sym (names_at m q))

  -- the tree has the new node
  pub edited_view : tree_of (insert m n new) ≡ put_node (tree_of m) n new.node
  edited_view = λ i. record { nodes = changed-insert (λ (_ : ℕ) (s : Slot). s.node) m n new i; names = edited_tables i }

  edited_entry : (d : ℕ) (name : List ℕ) → entry_of (tree_of (insert m n new)) d name ≡ entry_of (tree_of m) d name
  edited_entry d name = ap (λ tables. get (names_in (get tables d)) name) edited_tables

  -- where the slot names the same directory and counts as many names, what was kept is kept
  pub edited_kept : (nameless : Numbers) → new.parent ≡ s.parent → new.node.links ≡ s.node.links → IsKept m nameless → IsTree (tree_of (insert m n new))
      → IsKept (insert m n new) nameless
  edited_kept nameless parent links kept tree = record {
    tree = tree;
    parents = λ q is.
        let was = directory_found m q ∙ sym (edited_at is_directory_slot kinds q) ∙ sym (directory_found (insert m n new) q) ∙ is in
        parent_stays (tree_of m) (tree_of (insert m n new)) (parent_in (get m q)) _ q (kept.parents q was) (edited_at parent_in parent q)
        (λ d name. (λ has. sym (edited_entry d name) ∙ has, λ has. edited_entry d name ∙ has));
    listed = listed_all (insert m n new) nameless (λ q.
        listed_at m nameless kept.listed q ∙ sym (edited_at (is_nameless_slot q) (counts_as_before q s new links) q));
  }

-- ---- files and times, where contracts see the tree as t

-- a file's slot is there, and its kind is a file
file_there : (o : Option Slot) → is_file_node (option_map (λ s. s.node) o) ≡ true → IsSome o
file_there None e = absurd (false≢true e)
file_there (Some s) e = refl

file_no_directory : (k : NodeKind) → is_file_kind k ≡ true → is_directory_kind k ≡ false
file_no_directory (kind.File bytes) e = refl
file_no_directory kind.Directory e = absurd (false≢true e)
file_no_directory (kind.Link text) e = absurd (false≢true e)

-- a file with the bytes that it has
same_bytes : (k : NodeKind) → is_file_kind k ≡ true → kind.File (bytes_of_kind k) ≡ k
same_bytes (kind.File bytes) e = refl
same_bytes kind.Directory e = absurd (false≢true e)
same_bytes (kind.Link text) e = absurd (false≢true e)

module _ (m : Slots) (t : Tree) (view : tree_of m ≡ t) (n : ℕ) where
  seen_node : get t.nodes n ≡ option_map (λ s. s.node) (get m n)
  seen_node = sym (λ i. get (view i).nodes n) ∙ node_found m n

  pub seen_file_there : is_file t n ≡ true → IsSome (get m n)
  seen_file_there file = file_there (get m n) (sym (ap is_file_node seen_node) ∙ file)

  module _ (s : Slot) (there : Some s ≡ get m n) where
    node_is : get t.nodes n ≡ Some s.node
    node_is = seen_node ∙ ap (option_map (λ s. s.node)) (sym there)

    pub seen_file : is_file t n ≡ true → is_file_kind s.node.kind ≡ true
    seen_file file = sym (ap is_file_node node_is) ∙ file

    pub seen_bytes : bytes_of_kind s.node.kind ≡ bytes_of t n
    seen_bytes = sym (ap bytes_in node_is)

    -- a file gets other bytes
    pub seen_with_file : is_file t n ≡ true → (bytes : List ℕ) → tree_of (insert m n (with_file s bytes)) ≡ with_bytes t n bytes
    seen_with_file file bytes =
        edited_view m n s (with_file s bytes) (sym there) refl (sym (file_no_directory s.node.kind (seen_file file)))
        ∙ (λ i. put_node (view i) n (record s.node { kind = kind.File bytes }))
        ∙ sym (ap (with_bytes_in t n bytes) node_is)

    pub kept_with_file : (nameless : Numbers) → IsKept m nameless → is_file t n ≡ true → (bytes : List ℕ) → IsKept (insert m n (with_file s bytes)) nameless
    kept_with_file nameless kept file bytes =
        edited_kept m n s (with_file s bytes) (sym there) refl (sym (file_no_directory s.node.kind (seen_file file))) nameless refl refl kept
        (rw (seen_with_file file bytes) (with_bytes-tree t n bytes (rw (← view) kept.tree) file))

    -- a node gets other times
    pub seen_with_times : (times : Times) → tree_of (insert m n (record s { node = record s.node { times = times } })) ≡ with_times t n times
    seen_with_times times =
        edited_view m n s (record s { node = record s.node { times = times } }) (sym there) refl refl
        ∙ (λ i. put_node (view i) n (record s.node { times = times }))
        ∙ sym (ap (with_times_in t n times) node_is)

    pub kept_with_times : (nameless : Numbers) → IsKept m nameless → (times : Times) → IsKept (insert m n (record s { node = record s.node { times = times } })) nameless
    kept_with_times nameless kept times =
        edited_kept m n s (record s { node = record s.node { times = times } }) (sym there) refl refl nameless refl refl kept
        (rw (seen_with_times times) (with_times-tree t n times (rw (← view) kept.tree)))

  -- where there is no node, no times change
  pub seen_no_times : None ≡ get m n → (times : Times) → t ≡ with_times t n times
  seen_no_times none times = sym (ap (with_times_in t n times) (seen_node ∙ ap (option_map (λ s. s.node)) (sym none)))

  -- and no bytes are there
  pub seen_no_bytes : None ≡ get m n → [] ≡ bytes_of t n
  seen_no_bytes none = sym (ap bytes_in (seen_node ∙ ap (option_map (λ s. s.node)) (sym none)))

-- a slot that is put where it is
pub put_same : (m : Slots) (n : ℕ) (s new : Slot) → new ≡ s → Some s ≡ get m n → insert m n new ≡ m
put_same m n s new same there = ap (insert m n) same ∙ insert_self m n s (sym there)

-- a file that gets the bytes that it has
put_self : (t : Tree) (n : ℕ) (o : Option Node) → get t.nodes n ≡ o → is_file_node o ≡ true → t ≡ with_bytes_in t n (bytes_in o) o
put_self t n None is file = absurd (false≢true file)
put_self t n (Some node) is file =
    sym (ap (λ k. put_node t n (record node { kind = k })) (same_bytes node.kind file) ∙ (λ i. record t { nodes = insert_self t.nodes n node is i }))

pub seen_same_bytes : (t : Tree) (n : ℕ) (bytes : List ℕ) → is_file t n ≡ true → bytes ≡ bytes_of t n → t ≡ with_bytes t n bytes
seen_same_bytes t n bytes file same = put_self t n (get t.nodes n) refl file ∙ ap (with_bytes t n) (sym same)
