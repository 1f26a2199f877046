-- Climbing from a directory, by what its slot names.
use Rattle.std.proofs.Common.{◌≡◌, ◌≢◌, ℕ, false, List, Option, Some, None, IfSome, IfNone, nat_lt, inl, inr, refl, sym, ap, ◌∙◌}
use Rattle.std.proofs.lemmas.Bool.{false_from_ne_true}
use Rattle.std.proofs.lemmas.Option.{none-some}
use Rattle.std.specs.FinMap.{get, len, len-empty}
use Rattle.maps.specs.Closure.{member}
use Rattle.maps.specs.Names as name_map
use Rattle.tree_model.specs.Tree.{Tree, Names, HasName, below, entry_of, names_in}
use Rattle.tree_model.specs.Below.{below_cases}
use Rattle.file_tree.specs.declared.slot.Slot.{Slot}
use Rattle.file_tree.specs.Kept.{Slots, tree_of, parent_in, ReportsParent}

-- two numbers whose insides are apart
pub apart : {x a y b : ℕ} → x ≡ a → y ≡ b → (x ≡ y → ⊥) → a ≢ b
apart p q other same = other (p ∙ same ∙ sym q)

-- what has no name, and is another one, is not below a node
pub not_below : (t : Tree) (n d : ℕ) → d ≢ n → ((p : ℕ) (name : List ℕ) → HasName t p name d → ⊥) → member d (below t n) ≡ false
not_below t n d other none =
    false_from_ne_true _ (λ under. elim (below_cases t n d under) [
      | inl same ↦ other same
      | inr last ↦ none last.0 last.1 last.3
    ])

-- no names are in what is no directory
pub no_names_there : (o : Option Names) → None ≡ o → false ≡ nat_lt 0 (len (names_in o))
no_names_there o none =
    sym (ap (nat_lt 0) (len-empty name_map.name_cmp ℕ)) ∙ ap (λ o. nat_lt 0 (len (names_in o))) none

module _ (m : Slots) (t : Tree) (view : tree_of m ≡ t) (n : ℕ) (o : Option Slot) (is : o ≡ get m n) (reports : ReportsParent (parent_in (get m n)) (tree_of m) n) where
  -- what a slot names is a directory that has a name of the node
  pub seen_parent : IfSome (parent_in o) (λ d. (name : List ℕ) × HasName t d name n)
  seen_parent =
      elim (parent_in o) as (λ p. parent_in o ≡ p → IfSome p (λ d. (name : List ℕ) × HasName t d name n)) [
        | None ↦ λ _. tt
        | Some d ↦ λ reported.
            let name = (reports d).0 (ap parent_in (sym is) ∙ reported) in
            (name.0, sym (λ i. entry_of (view i) d name.0) ∙ name.1)
      ] refl

  -- where it names none, the node has no name
  pub seen_no_parent : IfNone (parent_in o) ((d : ℕ) (name : List ℕ) → HasName t d name n → ⊥)
  seen_no_parent =
      elim (parent_in o) as (λ p. parent_in o ≡ p → IfNone p ((d : ℕ) (name : List ℕ) → HasName t d name n → ⊥)) [
        | None ↦ λ reported d name has. none-some d (sym (ap parent_in (sym is) ∙ reported) ∙ (reports d).1 (name, (λ i. entry_of (view i) d name) ∙ has))
        | Some d ↦ λ _. tt
      ] refl
