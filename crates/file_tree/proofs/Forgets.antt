-- The least node without a name, and that a node without a name goes.
use Rattle.std.proofs.Common.{◌≡◌, ◌≢◌, ℕ, Bool, true, false, ◌&&◌, List, Option, Some, None, is_some, refl, sym, ap, ◌∙◌}
use Rattle.std.proofs.lemmas.Bool.{false≢true}
use Rattle.std.specs.FinMap.{get, remove}
use Rattle.abi_types.specs.declared.node.Node.{Node}
use Rattle.maps.specs.Closure.{changed-remove}
use Rattle.maps.specs.Maps.{get-remove-same, get-remove-other, least_key, least_same, passes, same_numbers}
use Rattle.tree_model.specs.Tree.{Tree, entry_of, is_directory, links_of}
use Rattle.tree_model.specs.Changes.{forgotten, is_above, nameless_after}
use Rattle.tree_model.specs.Entries.{here_or_other}
use Rattle.tree_model.specs.Keeps.{forgotten-tree, forgotten_names}
use Rattle.file_tree.specs.declared.slot.Slot.{Slot}
use Rattle.file_tree.specs.Kept.{Slots, Numbers, nodes_of, names_of_slots, tree_of, is_directory_slot, is_nameless, parent_in, IsKept, IsListed}
use Rattle.file_tree.proofs.Views.{names_found, names_at, directory_found}
use Rattle.file_tree.proofs.Stays.{parent_stays, listed_at, listed_all, is_nameless_slot}

-- ---- the least one

-- a number of the list passes where its node does
passes_alike : (after : Option ℕ) (q : ℕ) (u : Option (Unit {0})) (o : Option Node) → is_some u ≡ passes is_nameless q o
    → passes (λ n _. is_above after n) q u ≡ passes (λ n node. is_above after n && is_nameless n node) q o
passes_alike after q None None same = refl
passes_alike after q (Some u) None same = absurd (false≢true (sym same))
passes_alike after q None (Some node) same = sym (ap (λ b. is_above after q && b) (sym same) ∙ and_false (is_above after q))
  where
    and_false : (b : Bool) → (b && false) ≡ false
    and_false true = refl
    and_false false = refl
passes_alike after q (Some u) (Some node) same = sym (ap (λ b. is_above after q && b) (sym same) ∙ and_true (is_above after q))
  where
    and_true : (b : Bool) → (b && true) ≡ b
    and_true true = refl
    and_true false = refl

pub seen_nameless : (m : Slots) (nameless : Numbers) (t : Tree) → tree_of m ≡ t → IsListed m nameless → (after : Option ℕ)
    → least_key (λ n _. is_above after n) nameless ≡ nameless_after t after
seen_nameless m nameless t view listed after =
    least_same (λ n _. is_above after n) (λ n node. is_above after n && is_nameless n node) nameless (nodes_of m)
    (λ q. passes_alike after q (get nameless q) (get (nodes_of m) q) (listed q))
    ∙ (λ i. nameless_after (view i) after)

-- ---- it goes

module _ (m : Slots) (n : ℕ) where
  gone_at : {A : Type 0} (f : Option Slot → A) (q : ℕ) → q ≢ n → f (get (remove m n) q) ≡ f (get m q)
  gone_at f q other = ap f (get-remove-other m n q other)

  gone_tables : names_of_slots (remove m n) ≡ remove (names_of_slots m) n
  gone_tables = same_numbers _ _ (λ q. names_at (remove m n) q ∙ here_or_other (λ x. names_found (get (remove m n) x) ≡ get (remove (names_of_slots m) n) x) n q
      (ap names_found (get-remove-same m n) ∙ sym (get-remove-same (names_of_slots m) n))
      (λ other. gone_at names_found q other ∙ sym (get-remove-other (names_of_slots m) n q other ∙ names_at m q)))

  gone_view : tree_of (remove m n) ≡ forgotten (tree_of m) n
  gone_view = λ i. record { nodes = changed-remove (λ (_ : ℕ) (s : Slot). s.node) m n i; names = gone_tables i }

  -- a directory that is left is another one, and was one
  left_directory : (q : ℕ) → is_directory (tree_of (remove m n)) q ≡ true → (q ≢ n) × (is_directory (tree_of m) q ≡ true)
  left_directory q is =
      let found = sym (directory_found (remove m n) q) ∙ is in
      let apart : q ≢ n = λ same. false≢true (sym (ap is_directory_slot (ap (get (remove m n)) same ∙ get-remove-same m n)) ∙ found) in
      (apart, directory_found m q ∙ sym (gone_at is_directory_slot q apart) ∙ found)

  gone_kept : (nameless : Numbers) → IsKept m nameless → links_of (tree_of m) n ≡ 0 → IsKept (remove m n) (remove nameless n)
  gone_kept nameless kept none =
      let entries = λ (d : ℕ) (name : List ℕ).
      ap (λ u. entry_of u d name) gone_view ∙ ap (λ names. get names name) (forgotten_names (tree_of m) n kept.tree none d) in
      record {
        tree = rw gone_view (forgotten-tree (tree_of m) n kept.tree none);
        parents = λ q is.
            let was = left_directory q is in
            parent_stays (tree_of m) (tree_of (remove m n)) (parent_in (get m q)) _ q (kept.parents q was.1) (gone_at parent_in q was.0)
            (λ d name. (λ has. sym (entries d name) ∙ has, λ has. entries d name ∙ has));
        listed = listed_all (remove m n) (remove nameless n) (λ q. here_or_other (λ x. is_some (get (remove nameless n) x) ≡ is_nameless_slot x (get (remove m n) x)) n q
            (ap is_some (get-remove-same nameless n) ∙ sym (ap (is_nameless_slot n) (get-remove-same m n)))
            (λ other. ap is_some (get-remove-other nameless n q other) ∙ listed_at m nameless kept.listed q ∙ sym (gone_at (is_nameless_slot q) q other)));
      }

-- where contracts see the tree as t and the number as id
module _ (m new : Slots) (nameless less : Numbers) (kept : IsKept m nameless) (t : Tree) (view : tree_of m ≡ t) (n id : ℕ) (is : n ≡ id) (slots : new ≡ remove m id) (numbers : less ≡ remove nameless n) where
  pub seen_forgotten : tree_of new ≡ forgotten t id
  seen_forgotten = ap tree_of slots ∙ gone_view m id ∙ (λ i. forgotten (view i) id)

  pub kept_forgotten : links_of t id ≡ 0 → IsKept new less
  kept_forgotten none =
      rw slots (rw numbers (rw is (gone_kept m id nameless kept ((λ i. links_of (view i) id) ∙ none))))
