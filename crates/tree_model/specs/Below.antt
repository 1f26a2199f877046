-- What is below a directory, by names.
--     some_name      where some names are the node's, there is one
--     has_node_exactly      whether some name in the directory is the node's
--     leads_exactly      whether some name in one of the directories is the node's
--     below_self      a directory is below itself
--     below_closed      what has a name in a directory below a, and is there, is below a
--     below_cases      what is below a is a, or has a name in a directory below a
--     below_induction      what holds of a, and along names, holds of all that is below a
--     below_least      each test that passes a, and passes along names, passes all that is below a
--     below_node      what is below a is a, or is there
--     below_trans, below_child      what is below a directory below a is below a
--     below_same      trees with the same numbers of nodes and the same names
use Rattle.std.proofs.Common.{◌≡◌, ◌↔◌, ◌⊎◌, ℕ, ◌<◌, ◌≤◌, Bool, true, false, cond, ◌||◌, inl, inr, List, [], ◌∷◌, Option, Some, None, IsSome, is_some, refl, sym, ap, subst, ◌∙◌, arith}
use Rattle.std.proofs.lemmas.Bool.{eq-eqb, false≢true, lt-ltb, ltb-true}
use Rattle.std.proofs.lemmas.Option.{none-some}
use Rattle.std.proofs.lemmas.Bool.Decides.{eqb_tells}
use Rattle.std.specs.Bool.{nat_eq}
use Rattle.std.specs.FinMap.{FinMap, get, get-empty, remove}
use Rattle.std.specs.Ordering.{nat_cmp}
use Rattle.abi_types.specs.declared.node.Node.{Node}
use Rattle.maps.specs.Closure.{member, IsSubset, IsMonotone, closure_induction, closure_start, closure_closed, closure_keys, closure_ready, closure_same}
use Rattle.maps.specs.Maps.{get-remove-same, get-remove-other}
use Rattle.maps.specs.Names as name_map
use Rattle.tree_model.specs.Counts.{one_for-same, one_for-other}
use Rattle.tree_model.specs.Tree.{Tree, Names, HasName, names_in, one_for, count_in, has_node, leads, below}

-- ---- the names in a directory

-- where some of the names are the node's, there is one of them
pub some_name : (n : ℕ) (names : Names) → 0 < count_in n names → (name : List ℕ) × (get names name ≡ Some n)
unfolding count_in
some_name n =
    name_map.map_induction (λ names. 0 < name_map.total (one_for n) names → (name : List ℕ) × (get names name ≡ Some n))
    (λ some. let none = name_map.total-empty (one_for n) in absurd (omega arith))
    (λ names k m new rest some.
    elim (eqb_tells m n) [
      | inl same ↦ (k, name_map.get-insert-same names k m ∙ ap Some same.1)
      | inr other ↦
          let sum = name_map.total-insert_new (one_for n) names k m new in
          let none = one_for-other n m other.1 in
          let found = rest (omega arith) in
          (found.0, name_map.get-insert-other names k m found.0 (λ same. none-some n (sym new ∙ ap (get names) (sym same) ∙ found.1)) ∙ found.1)
    ])

-- a name of the node is one of those that are the node's
name_counts : (n : ℕ) (names : Names) (name : List ℕ) → get names name ≡ Some n → 1 ≤ count_in n names
unfolding count_in
name_counts n names name e =
    let one = one_for-same n in
    let most = name_map.total_at_least (one_for n) names name n e in
    omega arith

has_node_name : (n : ℕ) (o : Option Names) → has_node n o ≡ true → (name : List ℕ) × (get (names_in o) name ≡ Some n)
has_node_name n None h = absurd (false≢true h)
has_node_name n (Some names) h = some_name n names (ltb-true 0 (count_in n names) h)

name_has_node : (n : ℕ) (o : Option Names) (name : List ℕ) → get (names_in o) name ≡ Some n → has_node n o ≡ true
name_has_node n None name e = absurd (none-some n (sym (get-empty name_map.name_cmp name) ∙ e))
name_has_node n (Some names) name e = lt-ltb 0 (count_in n names) (let one = name_counts n names name e in omega arith)

-- a directory has the node exactly where some name in it is the node's
pub has_node_exactly : (t : Tree) (d n : ℕ) → (has_node n (get t.names d) ≡ true) ↔ ((name : List ℕ) × HasName t d name n)
has_node_exactly t d n = (has_node_name n (get t.names d), λ h. name_has_node n (get t.names d) h.0 h.1)

-- ---- the names in several directories

member_first : (d : ℕ) (ds : List ℕ) → member d (d ∷ ds) ≡ true
member_first d ds = ap (λ b. b || member d ds) (eq-eqb d d refl)

member_later : (q d : ℕ) (ds : List ℕ) → member q ds ≡ true → member q (d ∷ ds) ≡ true
member_later q d ds h = elim (nat_eq q d) as (λ b. (b || member q ds) ≡ true) [ true ↦ refl | false ↦ h ]

-- the only number of a list of one
member_only : (q d : ℕ) → member q (d ∷ []) ≡ true → q ≡ d
member_only q d h = elim (eqb_tells q d) [ inl same ↦ same.1 | inr other ↦ absurd (false≢true (sym (ap (λ b. b || false) other.0) ∙ h)) ]

leads_name : (t : Tree) (found : List ℕ) (n : ℕ) → leads t found n ≡ true → (d : ℕ) × (name : List ℕ) × (member d found ≡ true) × HasName t d name n
leads_name t [] n h = absurd (false≢true h)
leads_name t (d ∷ ds) n h =
    elim (has_node n (get t.names d)) as (λ b. has_node n (get t.names d) ≡ b → cond b true (leads t ds n) ≡ true
    → (q : ℕ) × (name : List ℕ) × (member q (d ∷ ds) ≡ true) × HasName t q name n) [
      | true ↦ λ here _. let one = has_node_name n (get t.names d) here in (d, one.0, member_first d ds, one.1)
      | false ↦ λ _ later. let one = leads_name t ds n later in (one.0, one.1, member_later one.0 d ds one.2, one.3)
    ] refl h

name_leads : (t : Tree) (found : List ℕ) (n d : ℕ) (name : List ℕ) → member d found ≡ true → HasName t d name n → leads t found n ≡ true
name_leads t [] n d name there e = absurd (false≢true there)
name_leads t (first ∷ ds) n d name there e =
    elim (eqb_tells d first) [
      | inl same ↦ ap (λ b. cond b true (leads t ds n)) (name_has_node n (get t.names first) name (subst (λ x. HasName t x name n) same.1 e))
      | inr other ↦
          elim (has_node n (get t.names first)) as (λ b. cond b true (leads t ds n) ≡ true) [
            | true ↦ refl
            | false ↦ name_leads t ds n d name (sym (ap (λ b. b || member d ds) other.0) ∙ there) e
          ]
    ]

-- the directories lead to the node exactly where some name in one of them is the node's
pub leads_exactly : (t : Tree) (found : List ℕ) (n : ℕ)
    → (leads t found n ≡ true) ↔ ((d : ℕ) × (name : List ℕ) × (member d found ≡ true) × HasName t d name n)
leads_exactly t found n = (leads_name t found n, λ h. name_leads t found n h.0 h.1 h.2 h.3)

-- more directories lead to no fewer nodes
pub leads_monotone : (t : Tree) → IsMonotone (leads t)
leads_monotone t few many part k h = let one = leads_name t few k h in name_leads t many k one.0 one.1 (part one.0 one.2) one.3

-- ---- what is below a directory

-- a directory is below itself
pub below_self : (t : Tree) (a : ℕ) → member a (below t a) ≡ true
unfolding below
below_self t a = closure_start (leads t) t.nodes (a ∷ []) a (member_first a [])

-- what has a name in a directory below a, and is there, is below a
pub below_closed : (t : Tree) (a d : ℕ) (name : List ℕ) (n : ℕ)
    → member d (below t a) ≡ true → HasName t d name n → IsSome (get t.nodes n) → member n (below t a) ≡ true
unfolding below
below_closed t a d name n under e here = closure_closed (leads t) t.nodes (a ∷ []) n here (name_leads t (below t a) n d name under e)

-- what is below a is a, or has a name in a directory below a
pub below_cases : (t : Tree) (a q : ℕ) → member q (below t a) ≡ true
    → (q ≡ a) ⊎ ((d : ℕ) × (name : List ℕ) × (member d (below t a) ≡ true) × HasName t d name q)
unfolding below
below_cases t a q under =
    elim (member q (a ∷ [])) as (λ b. member q (a ∷ []) ≡ b → (q ≡ a) ⊎ ((d : ℕ) × (name : List ℕ) × (member d (below t a) ≡ true) × HasName t d name q)) [
      | true ↦ λ first. inl (member_only q a first)
      | false ↦ λ later. inr (leads_name t (below t a) q (closure_ready (leads t) (leads_monotone t) t.nodes (a ∷ []) q under later).1)
    ] refl

-- what is below a is a, or is there
pub below_node : (t : Tree) (a q : ℕ) → member q (below t a) ≡ true → (q ≡ a) ⊎ IsSome (get t.nodes q)
unfolding below
below_node t a q under = elim (closure_keys (leads t) t.nodes (a ∷ []) q under) [ inl first ↦ inl (member_only q a first) | inr here ↦ inr here ]

key_before : (m : FinMap nat_cmp Node) (k q : ℕ) → IsSome (get (remove m k) q) → IsSome (get m q)
key_before m k q h =
    elim (eqb_tells q k) [
      | inl same ↦ absurd (false≢true (sym (ap (λ x. is_some (get (remove m k) x)) same.1 ∙ ap is_some (get-remove-same m k)) ∙ h))
      | inr other ↦ sym (ap is_some (get-remove-other m k q other.1)) ∙ h
    ]

-- what holds of a, and of each node that has a name in a directory below a of which it holds, holds of all that is below a
pub below_induction : (t : Tree) (a : ℕ) (P : ℕ → Type 0) → P a
    → ((d : ℕ) (name : List ℕ) (n : ℕ) → member d (below t a) ≡ true → P d → HasName t d name n → IsSome (get t.nodes n) → P n)
    → (q : ℕ) → member q (below t a) ≡ true → P q
unfolding below
below_induction t a P first step =
    (closure_induction (leads t)
    (λ pending found result. IsSubset found result
    × (((q : ℕ) → IsSome (get pending q) → IsSome (get t.nodes q)) → IsSubset result (below t a)
    → ((q : ℕ) → member q found ≡ true → P q) → (q : ℕ) → member q result ≡ true → P q))
    (λ pending found none. (λ q h. h, λ keys all holds. holds))
    (λ pending found k result here now rest.
    let part : IsSubset found result = λ q h. rest.0 q (member_later q k found h) in (
      part,
      λ keys all holds.
          let one = leads_name t found k now in
          let new : P k = step one.0 one.1 k (all one.0 (part one.0 one.2)) (holds one.0 one.2) one.3 (keys k here) in
          rest.1 (λ q key. keys q (key_before pending k q key)) all
          (λ q h. elim (eqb_tells q k) [
            | inl same ↦ subst P (sym same.1) new
            | inr other ↦ holds q (sym (ap (λ b. b || member q found) other.0) ∙ h)
          ]),
    ))
    t.nodes (a ∷ [])).1
    (λ q h. h) (λ q h. h) (λ q h. subst P (sym (member_only q a h)) first)

-- a test that passes a, and each node that has a name in a directory that it passes, passes all that is below a
pub below_least : (C : ℕ → Bool) (t : Tree) (a : ℕ) → C a ≡ true
    → ((d : ℕ) (name : List ℕ) (n : ℕ) → C d ≡ true → HasName t d name n → C n ≡ true)
    → (q : ℕ) → member q (below t a) ≡ true → C q ≡ true
below_least C t a first step = below_induction t a (λ q. C q ≡ true) first (λ d name n _ passes e _. step d name n passes e)

-- what is below a directory that is below a is below a
pub below_trans : (t : Tree) (a b : ℕ) → member b (below t a) ≡ true → (q : ℕ) → member q (below t b) ≡ true → member q (below t a) ≡ true
below_trans t a b under = below_induction t b (λ q. member q (below t a) ≡ true) under (λ d name n _ inside e here. below_closed t a d name n inside e here)

-- what is below a node that has a name in a directory is below the directory
pub below_child : (t : Tree) (d : ℕ) (name : List ℕ) (n : ℕ) → HasName t d name n → IsSome (get t.nodes n)
    → (q : ℕ) → member q (below t n) ≡ true → member q (below t d) ≡ true
below_child t d name n e here = below_trans t d n (below_closed t d d name n (below_self t d) e here)

leads_same : (t u : Tree) → ((d : ℕ) → get t.names d ≡ get u.names d) → (found : List ℕ) (n : ℕ) → leads t found n ≡ leads u found n
leads_same t u names [] n = refl
leads_same t u names (d ∷ ds) n = λ i. cond (has_node n (names d i)) true (leads_same t u names ds n i)

-- trees with the same numbers of nodes and the same names have the same below each directory
pub below_same : (t u : Tree) (a : ℕ) → ((q : ℕ) → is_some (get t.nodes q) ≡ is_some (get u.nodes q))
    → ((d : ℕ) → get t.names d ≡ get u.names d) → below t a ≡ below u a
unfolding below
below_same t u a keys names = closure_same (leads t) (leads u) t.nodes u.nodes (a ∷ []) keys (λ numbers q _. leads_same t u names numbers q)
