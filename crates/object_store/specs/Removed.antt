-- What is left where the opens go that nothing holds, one after another.
--     unheld_removed-once      an open that nothing holds may go first
--     unheld_removed-none      where each open is held, all are left
use Rattle.std.proofs.Common.{◌≡◌, ◌≢◌, ℕ, ◌==◌, Bool, true, false, cond, not, Option, Some, None, is_some, refl, sym, ap, ◌∙◌, inl, inr}
use Rattle.std.proofs.lemmas.Bool.Decides.{eqb_tells}
use Rattle.std.specs.Ordering.{nat_cmp}
use Rattle.std.specs.FinMap.{FinMap, get, remove, retain_keys}
use Rattle.maps.specs.Maps.{number, get-remove-same, get-remove-other, get-retain, same_numbers, same_around}
use Rattle.object_store.specs.Objects.{Held, HasCounts, is_held, unheld_removed}

-- nothing is left at a key that is not held
dropped : {X : Type 0} (m : FinMap nat_cmp X) (p : ℕ → Bool) (q : ℕ) → p q ≡ false → get (retain_keys m p) q ≡ None
dropped m p q e = get-retain m p q ∙ ap (λ b. cond b (get m q) None) e

-- a key that is not held may go first, whatever the map is of
retain-removed : {X : Type 0} (m : FinMap nat_cmp X) (counts : FinMap nat_cmp ℕ) (o : ℕ) → is_held counts o ≡ false
    → retain_keys (remove m o) (is_held (remove counts o)) ≡ retain_keys m (is_held counts)
retain-removed m counts o gone =
    same_around _ _ o
    (dropped (remove m o) _ o (ap (λ n. not (number n == 0)) (get-remove-same counts o)) ∙ sym (dropped m _ o gone))
    (λ q other.
    get-retain (remove m o) _ q
    ∙ ap (λ n. cond (not (number n == 0)) (get (remove m o) q) None) (get-remove-other counts o q other)
    ∙ ap (λ v. cond (is_held counts q) v None) (get-remove-other m o q other)
    ∙ sym (get-retain m _ q))

-- an open that nothing holds may go first
pub unheld_removed-once : (h : Held) (o : ℕ) → get h.counts o ≡ Some 0
    → unheld_removed (record { kinds = remove h.kinds o; counts = remove h.counts o }) ≡ unheld_removed h
unheld_removed-once h o zero =
    let unheld : is_held h.counts o ≡ false = ap (λ n. not (number n == 0)) zero in
    let kinds = retain-removed h.kinds h.counts o unheld in
    let counts = retain-removed h.counts h.counts o unheld in
    λ i. record { kinds = kinds i; counts = counts i }

-- what is there and isn't 0 is held
held_if : (n : Option ℕ) → is_some n ≡ true → n ≢ Some 0 → not (number n == 0) ≡ true
held_if None there nonzero = there
held_if (Some n) there nonzero = elim (eqb_tells n 0) [ inl h ↦ absurd (nonzero (ap Some h.1)) | inr h ↦ ap not h.0 ]

kept : {X : Type 0} (counts : FinMap nat_cmp ℕ) (q : ℕ) (v : Option X) → is_some v ≡ is_some (get counts q) → get counts q ≢ Some 0
    → cond (is_held counts q) v None ≡ v
kept {X} counts q None same nonzero = elim (is_held counts q) as (λ b. cond {A = Option X} b None None ≡ None) [ true ↦ refl | false ↦ refl ]
kept counts q (Some x) same nonzero = ap (λ b. cond b (Some x) None) (held_if (get counts q) (sym same) nonzero)

retain-all : {X : Type 0} (m : FinMap nat_cmp X) (counts : FinMap nat_cmp ℕ) → ((o : ℕ) → is_some (get m o) ≡ is_some (get counts o))
    → ((q : ℕ) → get counts q ≢ Some 0) → retain_keys m (is_held counts) ≡ m
retain-all m counts same none = same_numbers _ _ (λ q. get-retain m _ q ∙ kept counts q (get m q) (same q) (none q))

-- where each open is held, all are left
pub unheld_removed-none : (h : Held) → HasCounts h.kinds h.counts → ((o : ℕ) → get h.counts o ≢ Some 0) → unheld_removed h ≡ h
unheld_removed-none h all none =
    let kinds = retain-all h.kinds h.counts all none in
    let counts = retain-all h.counts h.counts (λ o. refl) none in
    λ i. record { kinds = kinds i; counts = counts i }
