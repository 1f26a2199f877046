-- Closures over maps that may have different keys.
--     closure_ended, closure_taken      one turn of a closure: it ends where no key is ready, and else the least ready key is taken
--     closure_decided      it hangs on nothing but which keys are ready at numbers that it finds
--     below_decided      so what is below a directory hangs on nothing but the nodes and the names there
use Rattle.std.proofs.Common.{◌≡◌, ℕ, zero, suc, ◌+◌, Bool, true, false, cond, ◌||◌, inl, inr, List, [], ◌∷◌, Option, Some, None, IsSome, is_some, refl, sym, ap, subst, ◌∙◌, arith}
use Rattle.std.proofs.lemmas.Bool.{eq-eqb}
use Rattle.std.proofs.lemmas.Bool.Decides.{eqb_tells}
use Rattle.std.specs.Bool.{nat_eq}
use Rattle.std.specs.Ordering.{nat_cmp}
use Rattle.std.specs.FinMap.{FinMap, get, get-empty, remove, len, empty_of_len}
use Rattle.maps.specs.Closure.{member, IsSubset, closure, closure_none, closure_start, closure_within, grown}
use Rattle.maps.specs.Maps.{passes, least_key, get-remove-same, get-remove-other, len-removed, least_key-entry, least_key-none, least_same}
use Rattle.tree_model.specs.Below.{below_closed, leads_exactly}
use Rattle.tree_model.specs.Tree.{Tree, HasName, below, has_node, leads}
use Rattle.kernel_model.proofs.Tests.{not_true}

-- ---- words

one_less : (a b n : ℕ) → a + 1 ≡ b → b ≡ suc n → a ≡ n
one_less a b n e f = omega arith

-- the first number of a list is in it, and so is each later one
pub member_first : (k : ℕ) (ks : List ℕ) → member k (k ∷ ks) ≡ true
member_first k ks = ap (λ b. b || member k ks) (eq-eqb k k refl)

pub member_later : (q k : ℕ) (ks : List ℕ) → member q ks ≡ true → member q (k ∷ ks) ≡ true
member_later q k ks h = elim (nat_eq q k) as (λ b. (b || member q ks) ≡ true) [ true ↦ refl | false ↦ h ]

module _ {X : Type 0} where
  no_key : (m : FinMap nat_cmp X) → len m ≡ 0 → (q : ℕ) → IsSome (get m q) → ⊥
  no_key m e q h = not_true (sym (ap (λ n. is_some (get n q)) (empty_of_len m e) ∙ ap is_some (get-empty nat_cmp q)) ∙ h)

  passes_key : (test : ℕ → Bool) (q : ℕ) (o : Option X) → IsSome o → passes (λ k _. test k) q o ≡ test q
  passes_key test q None h = absurd (not_true h)
  passes_key test q (Some x) h = refl

  passes_alike : (test other : ℕ → Bool) (q : ℕ) (o : Option X) → test q ≡ other q → passes (λ k _. test k) q o ≡ passes (λ k _. other k) q o
  passes_alike test other q None same = refl
  passes_alike test other q (Some x) same = same

  passes_none : (test : ℕ → Bool) (q : ℕ) (o : Option X) → test q ≡ false → passes (λ k _. test k) q o ≡ false
  passes_none test q None none = refl
  passes_none test q (Some x) none = none

-- ---- one turn

module _ {X : Type 0} (ready : List ℕ → ℕ → Bool) where
  pub closure_ended : (m : FinMap nat_cmp X) (found : List ℕ) → least_key (λ k _. ready found k) m ≡ None → closure ready m found ≡ found
  closure_ended m found none =
      closure_none ready m found (λ q key. sym (passes_key (ready found) q (get m q) key) ∙ least_key-none (λ k _. ready found k) m none q)

  taken_within : (turns : ℕ) (m : FinMap nat_cmp X) (found : List ℕ) (k : ℕ) → len m ≡ turns → least_key (λ q _. ready found q) m ≡ Some k
      → closure_within ready turns m found ≡ closure ready (remove m k) (k ∷ found)
  unfolding closure
  taken_within zero m found k e least = absurd (no_key m e k (ap is_some (least_key-entry (λ q _. ready found q) m k least).1))
  taken_within (suc turns) m found k e least =
      let entry = least_key-entry (λ q _. ready found q) m k least in
      let left : turns ≡ len (remove m k) = sym (one_less (len (remove m k)) (len m) turns (len-removed m k entry.0 entry.1) e) in
      ap (grown (λ q. closure_within ready turns (remove m q) (q ∷ found)) found) least
      ∙ ap (λ n. closure_within ready n (remove m k) (k ∷ found)) left

  pub closure_taken : (m : FinMap nat_cmp X) (found : List ℕ) (k : ℕ) → least_key (λ q _. ready found q) m ≡ Some k
      → closure ready m found ≡ closure ready (remove m k) (k ∷ found)
  unfolding closure
  closure_taken m found k least = taken_within (len m) m found k refl least

-- ---- the closures of two maps

module _ {X Y : Type 0} (ready other : List ℕ → ℕ → Bool) where
  -- at numbers among these the same keys are ready in both maps
  abbrev pub IsReadyAlike : FinMap nat_cmp X → FinMap nat_cmp Y → List ℕ → Type 0
  IsReadyAlike m n result =
      (numbers : List ℕ) → IsSubset numbers result
      → (q : ℕ) → passes (λ k _. ready numbers k) q (get m q) ≡ passes (λ k _. other numbers k) q (get n q)

  -- so it is once a key has gone from both
  alike_left : (m : FinMap nat_cmp X) (n : FinMap nat_cmp Y) (k : ℕ) (result : List ℕ) → IsReadyAlike m n result → IsReadyAlike (remove m k) (remove n k) result
  alike_left m n k result alike numbers part q =
      elim (eqb_tells q k) [
        | inl same ↦ subst (λ x. passes (λ j _. ready numbers j) x (get (remove m k) x) ≡ passes (λ j _. other numbers j) x (get (remove n k) x)) (sym same.1)
            (ap (passes (λ j _. ready numbers j) k) (get-remove-same m k) ∙ sym (ap (passes (λ j _. other numbers j) k) (get-remove-same n k)))
        | inr apart ↦
            ap (passes (λ j _. ready numbers j) q) (get-remove-other m k q apart.1)
            ∙ alike numbers part q
            ∙ sym (ap (passes (λ j _. other numbers j) q) (get-remove-other n k q apart.1))
      ]

  -- the closures are equal where they are so once the least ready key is taken
  decided_on : (m : FinMap nat_cmp X) (n : FinMap nat_cmp Y) (found : List ℕ) → IsReadyAlike m n (closure ready m found)
      → ((k : ℕ) → least_key (λ q _. ready found q) m ≡ Some k → closure ready (remove m k) (k ∷ found) ≡ closure other (remove n k) (k ∷ found))
      → closure ready m found ≡ closure other n found
  decided_on m n found alike rest =
      let least : least_key (λ q _. ready found q) m ≡ least_key (λ q _. other found q) n =
      least_same (λ q _. ready found q) (λ q _. other found q) m n (alike found (closure_start ready m found)) in
      elim (least_key (λ q _. ready found q) m) as (λ o. least_key (λ q _. ready found q) m ≡ o → closure ready m found ≡ closure other n found) [
        | None ↦ λ none. closure_ended ready m found none ∙ sym (closure_ended other n found (sym least ∙ none))
        | Some k ↦ λ some. closure_taken ready m found k some ∙ rest k some ∙ sym (closure_taken other n found k (sym least ∙ some))
      ] refl

  decided_within : (turns : ℕ) (m : FinMap nat_cmp X) (n : FinMap nat_cmp Y) (found : List ℕ) → len m ≡ turns → IsReadyAlike m n (closure ready m found)
      → closure ready m found ≡ closure other n found
  decided_within zero m n found e alike =
      decided_on m n found alike (λ k some. absurd (no_key m e k (ap is_some (least_key-entry (λ q _. ready found q) m k some).1)))
  decided_within (suc turns) m n found e alike =
      decided_on m n found alike (λ k some.
      let entry = least_key-entry (λ q _. ready found q) m k some in
      decided_within turns (remove m k) (remove n k) (k ∷ found) (one_less (len (remove m k)) (len m) turns (len-removed m k entry.0 entry.1) e)
      (subst (IsReadyAlike (remove m k) (remove n k)) (closure_taken ready m found k some) (alike_left m n k (closure ready m found) alike)))

  -- where the same keys are ready at numbers that the closure finds, the closure of the other map is the same, whatever other keys there are
  pub closure_decided : (m : FinMap nat_cmp X) (n : FinMap nat_cmp Y) (start : List ℕ) → IsReadyAlike m n (closure ready m start)
      → closure ready m start ≡ closure other n start
  closure_decided m n start alike = decided_within (len m) m n start refl alike

-- ---- what is below a directory

leads_alike : (t u : Tree) (numbers : List ℕ) → ((d : ℕ) → member d numbers ≡ true → get t.names d ≡ get u.names d) → (q : ℕ)
    → leads t numbers q ≡ leads u numbers q
leads_alike t u [] names q = refl
leads_alike t u (d ∷ ds) names q =
    λ i. cond (has_node q (names d (member_first d ds) i)) true (leads_alike t u ds (λ x there. names x (member_later x d ds there)) q i)

-- each node below the directory, and the names in it, are the same in both trees
abbrev pub IsSameBelow : Tree → Tree → ℕ → Type 0
IsSameBelow t u a = (n : ℕ) → member n (below t a) ≡ true → (get t.nodes n ≡ get u.nodes n) × (get t.names n ≡ get u.names n)

-- each name below the directory is of a node that is there
abbrev pub HasNodesBelow : Tree → ℕ → Type 0
HasNodesBelow t a = (d : ℕ) (name : List ℕ) (n : ℕ) → member d (below t a) ≡ true → HasName t d name n → IsSome (get t.nodes n)

led_alike : (t u : Tree) (a : ℕ) → IsSameBelow t u a → HasNodesBelow t a → (numbers : List ℕ) → IsSubset numbers (below t a)
    → (q : ℕ) → passes (λ k _. leads t numbers k) q (get t.nodes q) ≡ passes (λ k _. leads u numbers k) q (get u.nodes q)
led_alike t u a same there numbers part q =
    let leads_same : leads t numbers q ≡ leads u numbers q = leads_alike t u numbers (λ d found. (same d (part d found)).1) q in
    elim (leads t numbers q) as (λ b. leads t numbers q ≡ b
    → passes (λ k _. leads t numbers k) q (get t.nodes q) ≡ passes (λ k _. leads u numbers k) q (get u.nodes q)) [
      | true ↦ λ led.
          let one = (leads_exactly t numbers q).0 led in
          let under : member one.0 (below t a) ≡ true = part one.0 one.2 in
          let node = same q (below_closed t a one.0 one.1 q under one.3 (there one.0 one.1 q under one.3)) in
          ap (passes (λ k _. leads t numbers k) q) node.0 ∙ passes_alike (leads t numbers) (leads u numbers) q (get u.nodes q) leads_same
      | false ↦ λ none.
          (passes_none (leads t numbers) q (get t.nodes q) none ∙ sym (passes_none (leads u numbers) q (get u.nodes q) (sym leads_same ∙ none)))
    ] refl

-- where another tree has the same of all that is below a directory, and each name there is of a node that is there, the same is below it
pub below_decided : (t u : Tree) (a : ℕ) → IsSameBelow t u a → HasNodesBelow t a → below t a ≡ below u a
unfolding below
below_decided t u a same there = closure_decided (leads t) (leads u) t.nodes u.nodes (a ∷ []) (led_alike t u a same there)
