-- What is kept beside the slots: at a number whose slot or names change, and at all others, where it stays.
use Rattle.std.proofs.Common.{◌≡◌, ◌≢◌, ◌↔◌, ℕ, ◌==◌, ◌&&◌, not, Bool, false, List, Option, Some, None, is_some, option_map, inl, inr, refl, sym, ap, ◌∙◌}
use Rattle.std.proofs.lemmas.Option.{same_Some, none-some}
use Rattle.std.specs.FinMap.{get}
use Rattle.maps.specs.Maps.{passes}
use Rattle.tree_model.specs.declared.limits.TheConstants.{ROOT}
use Rattle.tree_model.specs.Tree.{Tree, HasName, entry_of}
use Rattle.tree_model.specs.Entries.{IsElsewhere, same_place_or_not}
use Rattle.file_tree.specs.declared.slot.Slot.{Slot}
use Rattle.file_tree.specs.Kept.{Slots, Numbers, nodes_of, ReportsParent, IsListed, is_nameless}
use Rattle.file_tree.proofs.Views.{node_found}

-- ---- the directory above

-- a number has the same names in both trees
abbrev pub SameNames : Tree → Tree → ℕ → Type 0
SameNames t u n = (d : ℕ) (name : List ℕ) → HasName u d name n ↔ HasName t d name n

-- where the entries are the same but at two places, and neither is of the number before or after, it has the same names
pub same_names : (t u : Tree) (from : ℕ) (name : List ℕ) (to : ℕ) (new : List ℕ) (n : ℕ)
    → ((d : ℕ) (other : List ℕ) → IsElsewhere from name d other → IsElsewhere to new d other → entry_of u d other ≡ entry_of t d other)
    → (entry_of t from name ≢ Some n) × (entry_of u from name ≢ Some n) → (entry_of t to new ≢ Some n) × (entry_of u to new ≢ Some n) → SameNames t u n
same_names t u from name to new n alike first second d other =
    elim (same_place_or_not from name d other) [
      | inl same ↦ (
        λ has. absurd (first.1 (sym (here u from name d other same) ∙ has)),
        λ has. absurd (first.0 (sym (here t from name d other same) ∙ has)),
      )
      | inr off ↦ elim (same_place_or_not to new d other) [
        | inl same ↦ (
          λ has. absurd (second.1 (sym (here u to new d other same) ∙ has)),
          λ has. absurd (second.0 (sym (here t to new d other same) ∙ has)),
        )
        | inr away ↦ (λ has. sym (alike d other off away) ∙ has, λ has. alike d other off away ∙ has)
      ]
    ]
  where
    here : (x : Tree) (d : ℕ) (name : List ℕ) (d' : ℕ) (name' : List ℕ) → (d' ≡ d) × (name' ≡ name) → entry_of x d' name' ≡ entry_of x d name
    here x d name d' name' same = λ i. entry_of x (same.0 i) (same.1 i)

-- the same at one place
pub same_names_but : (t u : Tree) (d : ℕ) (name : List ℕ) (n : ℕ)
    → ((d' : ℕ) (name' : List ℕ) → IsElsewhere d name d' name' → entry_of u d' name' ≡ entry_of t d' name')
    → entry_of t d name ≢ Some n → entry_of u d name ≢ Some n → SameNames t u n
same_names_but t u d name n alike before after =
    same_names t u d name d name n (λ d' name' off _. alike d' name' off) (before, after) (before, after)

module _ (t u : Tree) (reported new : Option ℕ) (n : ℕ) where
  pub parent_stays : ReportsParent reported t n → new ≡ reported → SameNames t u n → ReportsParent new u n
  parent_stays reports same names d = (
    λ is. let name = (reports d).0 (sym same ∙ is) in (name.0, (names d name.0).1 name.1),
    λ name. same ∙ (reports d).1 (name.0, (names d name.0).0 name.1),
  )

module _ (t : Tree) (reported : Option ℕ) (n : ℕ) where
  -- a node that has names in one directory alone, which is the one reported
  pub parent_is : (to : ℕ) (name : List ℕ) → reported ≡ Some to → HasName t to name n
      → ((d : ℕ) (other : List ℕ) → HasName t d other n → d ≡ to) → ReportsParent reported t n
  parent_is to name is named only d = (
    λ e. (name, ap (λ x. entry_of t x name) (sym (same_Some to d (sym is ∙ e))) ∙ named),
    λ other. is ∙ ap Some (sym (only d other.0 other.1)),
  )

  -- a node without a name, for which no directory is reported
  pub parent_none : reported ≡ None → ((d : ℕ) (name : List ℕ) → HasName t d name n → ⊥) → ReportsParent reported t n
  parent_none is none d = (λ e. absurd (none-some d (sym is ∙ e)), λ name. absurd (none d name.0 name.1))

-- ---- the nodes without a name

-- whether a number's slot is of a node to be found as having no name
abbrev pub is_nameless_slot : ℕ → Option Slot → Bool
is_nameless_slot n None = false
is_nameless_slot n (Some s) = is_nameless n s.node

found_nameless : (n : ℕ) (o : Option Slot) → passes is_nameless n (option_map (λ s. s.node) o) ≡ is_nameless_slot n o
found_nameless n None = refl
found_nameless n (Some s) = refl

-- the list says at a number what the slot there says
abbrev pub ListedAt : Slots → Numbers → ℕ → Type 0
ListedAt m nameless n = is_some (get nameless n) ≡ is_nameless_slot n (get m n)

pub nameless_found : (m : Slots) (n : ℕ) → passes is_nameless n (get (nodes_of m) n) ≡ is_nameless_slot n (get m n)
nameless_found m n = ap (passes is_nameless n) (node_found m n) ∙ found_nameless n (get m n)

pub listed_at : (m : Slots) (nameless : Numbers) → IsListed m nameless → (n : ℕ) → ListedAt m nameless n
listed_at m nameless listed n = listed n ∙ nameless_found m n

pub listed_all : (m : Slots) (nameless : Numbers) → ((n : ℕ) → ListedAt m nameless n) → IsListed m nameless
listed_all m nameless listed n = listed n ∙ sym (nameless_found m n)

-- a number whose slot counts as many names stays as it is
pub counts_as_before : (n : ℕ) (s new : Slot) → new.node.links ≡ s.node.links → is_nameless_slot n (Some new) ≡ is_nameless_slot n (Some s)
counts_as_before n s new same = ap (λ links. (links == 0) && not (n == ROOT)) same
