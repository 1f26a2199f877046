-- What is seen of the file tree behind an open.
--     node_is_part, names_are_part      a node of a list, and the names in it, are among the parts of the list
--     IsSeen t u kind      u has what stands behind the open in the tree t, and no node that t lacks
--     all_behind_is_seen      what is seen of the tree has what stands behind an open, where the parts that are seen have that
--     behind_is_seen      so it is behind an open that is seen
use Rattle.std.proofs.Common.{◌≡◌, ℕ, ◌==◌, ◌||◌, Bool, true, false, cond, List, [], ◌∷◌, ◌++◌, Option, Some, None, inl, inr, refl, sym, ap, ◌∙◌}
use Rattle.std.proofs.lemmas.Bool.{eq-eqb}
use Rattle.std.proofs.lemmas.Bool.Decides.{eqb_tells}
use Rattle.std.specs.Prelude.{⊤}
use Rattle.std.specs.FinMap.{get}
use Rattle.maps.specs.Closure.{member}
use Rattle.maps.specs.Maps.{get-retain}
use Rattle.abi_types.specs.declared.open_kind.OpenKind.{OpenKind}
use Rattle.abi_types.specs.declared.open_kind.OpenKind.TheVariants.{File, Directory, End, Terminal, Process}
use Rattle.tree_model.specs.Finds.{HasSameBelow}
use Rattle.tree_model.specs.Tree.{below}
use Rattle.kernel_model.specs.Sight.{process_parts, behind, node_parts}
use Rattle.kernel_model.specs.State.{State, Tree, tree_of, Part, at_open, at_node, at_names, has_part}
use Rattle.kernel_model.specs.View.{restrict}
use Rattle.kernel_model.proofs.Parts.{has_left, has_right}
use Rattle.kernel_model.proofs.Tests.{not_true, or_true}

-- ---- the parts of nodes

-- a number of a list that isn't the first is one of the others
one_of_others : (n m : ℕ) (ms : List ℕ) → (n == m) ≡ false → member n (m ∷ ms) ≡ true → member n ms ≡ true
one_of_others n m ms other h = sym (ap (λ b. b || member n ms) other) ∙ h

pub node_is_part : (n : ℕ) (ms : List ℕ) → member n ms ≡ true → has_part (node_parts ms) (at_node n) ≡ true
node_is_part n [] h = absurd (not_true h)
node_is_part n (m ∷ ms) h =
    elim (eqb_tells n m) [
      | inl same ↦ ap (λ b. b || has_part (node_parts ms) (at_node n)) (eq-eqb m n (sym same.1))
      | inr other ↦ ap (λ b. (m == n) || b) (node_is_part n ms (one_of_others n m ms other.0 h)) ∙ or_true (m == n)
    ]

pub names_are_part : (n : ℕ) (ms : List ℕ) → member n ms ≡ true → has_part (node_parts ms) (at_names n) ≡ true
names_are_part n [] h = absurd (not_true h)
names_are_part n (m ∷ ms) h =
    elim (eqb_tells n m) [
      | inl same ↦ ap (λ b. b || has_part (node_parts ms) (at_names n)) (eq-eqb m n (sym same.1))
      | inr other ↦ ap (λ b. (m == n) || b) (names_are_part n ms (one_of_others n m ms other.0 h)) ∙ or_true (m == n)
    ]

-- ---- what is seen

-- u has what stands behind the open in the tree t, and no node that t lacks
abbrev pub IsSeen : Tree → Tree → Option OpenKind → Type 0
IsSeen t u None = ⊤
IsSeen t u (Some (File node offset flags)) = get t.nodes node ≡ get u.nodes node
IsSeen t u (Some (Directory node flags)) = HasSameBelow t u node
IsSeen t u (Some (End reads writes flags form)) = ⊤
IsSeen t u (Some (Terminal which flags)) = ⊤
IsSeen t u (Some (Process p object)) = ⊤

-- a value that is there to be seen
chosen : {X : Type 0} (b : Bool) (o : Option X) → b ≡ true → o ≡ cond b o None
chosen b o h = ap (λ c. cond c o None) (sym h)

none_chosen : {X : Type 0} (b : Bool) (o : Option X) → o ≡ None → cond b o None ≡ None
none_chosen true o h = h
none_chosen false o h = refl

module _ (S : State) (parts : List Part) where
  seen_node : (n : ℕ) → has_part parts (at_node n) ≡ true → get S.nodes n ≡ get (restrict S parts).branch.nodes n
  seen_node n h = chosen (has_part parts (at_node n)) (get S.nodes n) h ∙ sym (get-retain S.nodes (λ k. has_part parts (at_node k)) n)

  seen_names : (n : ℕ) → has_part parts (at_names n) ≡ true → get S.names n ≡ get (restrict S parts).branch.names n
  seen_names n h = chosen (has_part parts (at_names n)) (get S.names n) h ∙ sym (get-retain S.names (λ k. has_part parts (at_names k)) n)

  unseen_node : (n : ℕ) → get S.nodes n ≡ None → get (restrict S parts).branch.nodes n ≡ None
  unseen_node n h = get-retain S.nodes (λ k. has_part parts (at_node k)) n ∙ none_chosen (has_part parts (at_node n)) (get S.nodes n) h

-- the parts have all that stands behind the open
abbrev pub HasAllBehind : State → List Part → Option OpenKind → Type 0
HasAllBehind S parts kind = (q : Part) → has_part (behind S kind) q ≡ true → has_part parts q ≡ true

pub all_behind_is_seen : (S : State) (parts : List Part) (kind : Option OpenKind) → HasAllBehind S parts kind
    → IsSeen (tree_of S) (restrict S parts).branch kind
all_behind_is_seen S parts None all = tt
all_behind_is_seen S parts (Some (File node offset flags)) all =
    seen_node S parts node (all (at_node node) (ap (λ b. b || false) (eq-eqb node node refl)))
all_behind_is_seen S parts (Some (Directory node flags)) all =
    let nodes : List ℕ = below (tree_of S) node in
    record {
      nodes = λ n under. seen_node S parts n (all (at_node n) (node_is_part n nodes under));
      names = λ d under. seen_names S parts d (all (at_names d) (names_are_part d nodes under));
      fewer = λ n none. unseen_node S parts n none;
    }
all_behind_is_seen S parts (Some (End reads writes flags form)) all = tt
all_behind_is_seen S parts (Some (Terminal which flags)) all = tt
all_behind_is_seen S parts (Some (Process q object)) all = tt

-- the parts that a call sees of a process with number p, by an open with number o
abbrev pub seen_parts : State → ℕ → ℕ → Option OpenKind → List Part
seen_parts S p o kind = process_parts p ++ at_open o ∷ (behind S kind ++ [])

pub behind_is_seen : (S : State) (p o : ℕ) (kind : Option OpenKind) → IsSeen (tree_of S) (restrict S (seen_parts S p o kind)).branch kind
behind_is_seen S p o kind =
    all_behind_is_seen S (seen_parts S p o kind) kind
    (λ q h. has_right (process_parts p) (at_open o ∷ (behind S kind ++ [])) q
    (has_right (at_open o ∷ []) (behind S kind ++ []) q (has_left (behind S kind) [] q h)))
