-- The names of a tree after a new node, or one more name of a node.
--     made_names, linked_names      each name is the new one, or was there
--     made_stay, linked_stay      each name that was there still is
use Rattle.std.proofs.Common.{◌≡◌, ◌⊎◌, inl, inr, ℕ, true, List, None, is_some, sym, ap, ◌∙◌}
use Rattle.std.proofs.lemmas.Bool.{false≢true}
use Rattle.abi_types.specs.declared.node.Node.{Node}
use Rattle.tree_model.specs.Changes.{is_absent, linked, made, new_node, one_more}
use Rattle.tree_model.specs.Entries.{HasName-put_name, IsElsewhere, entry_of-changed, entry_of-new_node, one_more-changes}
use Rattle.tree_model.specs.Facts.{absent, absent_no_directory, no_names_in}
use Rattle.tree_model.specs.Outcomes.{linked-other_names, made-other_names}
use Rattle.tree_model.specs.Tree.{HasName, IsTree, Tree, entry_of}

-- the name is the one that came, of this node
abbrev pub IsNew : ℕ → List ℕ → ℕ → ℕ → List ℕ → ℕ → Type 0
IsNew d name n x a k = (x ≡ d) × (a ≡ name) × (k ≡ n)

-- a name that was there is another one
elsewhere : (t : Tree) (d : ℕ) (name : List ℕ) → entry_of t d name ≡ None → (x : ℕ) (a : List ℕ) (k : ℕ) → HasName t x a k → IsElsewhere d name x a
elsewhere t d name new x a k named = λ same last.
    false≢true (ap is_some (sym new ∙ ap (entry_of t d) (sym last) ∙ ap (λ (y : ℕ). entry_of t y a) (sym same) ∙ named))

module _ (t : Tree) (d : ℕ) (name : List ℕ) (n : ℕ) where
  module _ (node : Node) (h : IsTree t) (fresh : is_absent t n ≡ true) where
    pub made_names : (x : ℕ) (a : List ℕ) (k : ℕ) → HasName (made t d name n node) x a k → IsNew d name n x a k ⊎ HasName t x a k
    made_names x a k named =
        elim (HasName-put_name (new_node t n node) d name n x a k named) [
          | inl new ↦ inl new
          | inr old ↦ inr (sym (entry_of-new_node t n node (no_names_in t h n (absent_no_directory t n (absent t n fresh))) x a) ∙ old.1)
        ]

    pub made_stay : entry_of t d name ≡ None → (x : ℕ) (a : List ℕ) (k : ℕ) → HasName t x a k → HasName (made t d name n node) x a k
    made_stay new x a k named = made-other_names t d name n node h fresh x a (elsewhere t d name new x a k named) ∙ named

  pub linked_names : (x : ℕ) (a : List ℕ) (k : ℕ) → HasName (linked t d name n) x a k → IsNew d name n x a k ⊎ HasName t x a k
  linked_names x a k named =
      elim (HasName-put_name (one_more t n) d name n x a k named) [
        | inl new ↦ inl new
        | inr old ↦ inr (sym (entry_of-changed t (one_more t n) n _ (one_more-changes t n) x a) ∙ old.1)
      ]

  pub linked_stay : entry_of t d name ≡ None → (x : ℕ) (a : List ℕ) (k : ℕ) → HasName t x a k → HasName (linked t d name n) x a k
  linked_stay new x a k named = linked-other_names t d name n x a (elsewhere t d name new x a k named) ∙ named
