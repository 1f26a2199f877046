-- What a walk that tests or touches leaves.
use Rattle.std.proofs.Common.{◌≡◌, ◌⊎◌, ℕ, ◌+◌, ◌<◌, ◌≤◌, Bool, true, false, cond, ◌&&◌, not, inl, inr, Option, Some, None, refl, sym, ap, subst, ◌∙◌, arith}
use Rattle.std.proofs.lemmas.Bool.Decides.{eqb_tells}
use Rattle.std.specs.Option.{option_map}
use Rattle.std.specs.FinMap.{get, insert}
use Rattle.maps.specs.Halves.{not_true}
use Rattle.maps.specs.Maps.{weight, total, total-empty, total-insert_new, map_induction, get-insert-same, get-insert-other}
use Rattle.maps.specs.Closure.{get-changed, total_below}
use Rattle.wait_set.specs.declared.waiting.Waiting.{Waiting}
use Rattle.wait_set.specs.declared.spot.Spot.{Spot}
use Rattle.wait_set.specs.Waits.{WaitMap, AreTested, IsExact, flag, counted, so_changed, where_so, tested, touched, is_left, is_ready, is_up, stands}
use Rattle.wait_set.specs.Next.{is_after, IsNext}
use Rattle.wait_set.proofs.Tying.{counted_put}

-- an entry of the changed set is one of the old, changed
entry_before : (p : Waiting → Bool) (g : ℕ → Waiting → Waiting) (w : WaitMap) (t : ℕ) (s : Waiting) → get (where_so p g w) t ≡ Some s
    → (r : Waiting) × (get w t ≡ Some r) × (s ≡ so_changed p g t r)
entry_before p g w t s at =
    elim (get w t) as (λ o. option_map (so_changed p g t) o ≡ Some s → (r : Waiting) × (o ≡ Some r) × (s ≡ so_changed p g t r)) [
      | None ↦ λ h. cc
      | Some r ↦ λ h. (r, refl, cc)
    ] (sym (get-changed (so_changed p g) w t) ∙ at)

-- ---- touched

pub touched_exact : (p : Waiting → Bool) (before now : ℕ → Bool) (w : WaitMap) → IsExact before w → ((t : ℕ) → flag p (get w t) ≡ false → before t ≡ now t)
    → IsExact now (where_so p (λ _ s. touched s) w)
touched_exact p before now w exact same t s at not_left =
    let was = entry_before p (λ _ r. touched r) w t s at in
    elim (p was.0) as (λ b. p was.0 ≡ b → s ≡ cond b (touched was.0) was.0 → s.ready ≡ now t) [
      | true ↦ λ _ is. absurd (not_true (sym not_left ∙ ap (λ (r : Waiting). r.left) is))
      | false ↦ λ fails is.
          ap (λ (r : Waiting). r.ready) is
          ∙ exact t was.0 was.1 (sym (ap (λ (r : Waiting). r.left) is) ∙ not_left)
          ∙ same t (ap (flag p) was.1 ∙ fails)
    ] refl was.2

total_plus : (f g : Waiting → ℕ) (w : WaitMap) → total (λ s. f s + g s) w ≡ total f w + total g w
total_plus f g =
    map_induction (λ w. total (λ s. f s + g s) w ≡ total f w + total g w)
    (let a = total-empty f in let b = total-empty g in let c = total-empty (λ s. f s + g s) in omega arith)
    (λ m k v new rest.
    let a = total-insert_new f m k v new in
    let b = total-insert_new g m k v new in
    let c = total-insert_new (λ s. f s + g s) m k v new in
    omega arith)

touched_weight : (p : Waiting → Bool) (t : ℕ) (o : Option Waiting)
    → weight (λ s. cond (is_left s) 1 0) (option_map (so_changed p (λ _ s. touched s) t) o) ≤ weight (λ s. cond (is_left s) 1 0 + cond (p s) 1 0) o
touched_weight p t None = omega arith
touched_weight p t (Some s) =
    elim (p s) as (λ b. cond (is_left (cond b (touched s) s)) 1 0 ≤ cond (is_left s) 1 0 + cond b 1 0) [
      | true ↦ let most = one_most (not s.runs) in omega arith
      | false ↦ omega arith
    ]
  where
    one_most : (b : Bool) → cond b 1 0 ≤ 1
    one_most true = omega arith
    one_most false = omega arith

pub touched_count : (p : Waiting → Bool) (w : WaitMap) → counted is_left (where_so p (λ _ s. touched s) w) ≤ counted is_left w + counted p w
touched_count p w =
    let most = total_below (λ s. cond (is_left s) 1 0) (λ s. cond (is_left s) 1 0 + cond (p s) 1 0) (where_so p (λ _ s. touched s) w) w
    (λ t. let is = ap (weight (λ s. cond (is_left s) 1 0)) (get-changed (so_changed p (λ _ s. touched s)) w t) in let bound = touched_weight p t (get w t) in omega arith) in
    let sum = total_plus (λ s. cond (is_left s) 1 0) (λ s. cond (p s) 1 0) w in
    omega arith

-- ---- places stay

pub stands_kept : (x : Spot) (p : Waiting → Bool) (g : ℕ → Waiting → Waiting) → ((t : ℕ) (s : Waiting) → stands x (g t s) ≡ stands x s)
    → (w : WaitMap) (t : ℕ) → flag (stands x) (get (where_so p g w) t) ≡ flag (stands x) (get w t)
stands_kept x p g same w t =
    ap (flag (stands x)) (get-changed (so_changed p g) w t)
    ∙ elim (get w t) as (λ o. flag (stands x) (option_map (so_changed p g t) o) ≡ flag (stands x) o) [
      | None ↦ refl
      | Some s ↦ elim (p s) as (λ b. stands x (cond b (g t s) s) ≡ stands x s) [ true ↦ same t s | false ↦ refl ]
    ]

-- ---- one thread is tested

pub tested_count : (b : Bool) (w : WaitMap) (k : ℕ) (s : Waiting) → get w k ≡ Some s → is_left s ≡ true → counted is_left (insert w k (tested b s)) + 1 ≡ counted is_left w
tested_count b w k s at left =
    let sum = counted_put is_left w k s (tested b s) at in
    let here : cond {A = ℕ} (is_left s) 1 0 ≡ 1 = ap (λ a. cond {A = ℕ} a 1 0) left in
    omega (arith, here, sum)

pub tested_more : (ready : ℕ → Bool) (v w : WaitMap) (k : ℕ) (s : Waiting) → AreTested ready v w → get w k ≡ Some s → is_left s ≡ true
    → AreTested ready v (insert w k (tested (ready k) s))
tested_more ready v w k s done at left t =
    elim (eqb_tells t k) [
      | inl same ↦
          subst (λ u. (get (insert w k (tested (ready k) s)) u ≡ get v u) ⊎ ((flag is_left (get v u) ≡ true) × (get (insert w k (tested (ready k) s)) u ≡ option_map (tested (ready u)) (get v u))))
          (sym same.1)
          (elim (done k) [
            | inl kept ↦
                let was : get v k ≡ Some s = sym kept ∙ at in
                inr (ap (flag is_left) was ∙ left, get-insert-same w k (tested (ready k) s) ∙ sym (ap (option_map (tested (ready k))) was))
            | inr past ↦ absurd (not_true (sym (not_left (ready k) (get v k)) ∙ ap (flag is_left) (sym past.1 ∙ at) ∙ left))
          ])
      | inr other ↦ subst (λ o. (o ≡ get v t) ⊎ ((flag is_left (get v t) ≡ true) × (o ≡ option_map (tested (ready t)) (get v t)))) (sym (get-insert-other w k (tested (ready k) s) t other.1)) (done t)
    ]
  where
    not_left : (b : Bool) (o : Option Waiting) → flag is_left (option_map (tested b) o) ≡ false
    not_left b None = refl
    not_left b (Some r) = refl

pub tested_exact : (ready : ℕ → Bool) (w : WaitMap) (k : ℕ) (s : Waiting) → IsExact ready w → IsExact ready (insert w k (tested (ready k) s))
tested_exact ready w k s exact t r at =
    elim (eqb_tells t k) [
      | inl same ↦ λ _.
          let is : Some (tested (ready k) s) ≡ Some r = sym (get-insert-same w k (tested (ready k) s)) ∙ ap (get (insert w k (tested (ready k) s))) (sym same.1) ∙ at in
          let one : tested (ready k) s ≡ r = cc in
          ap (λ (x : Waiting). x.ready) (sym one) ∙ ap ready (sym same.1)
      | inr other ↦ exact t r (sym (get-insert-other w k (tested (ready k) s) t other.1) ∙ at)
    ]

-- ---- what the marks say

marked : (l r run u : Bool) → (l && not run) ≡ false → (l ≡ false → r ≡ u) → (r && not run) ≡ (not run && u)
marked l true true u not_left is = refl
marked l false true u not_left is = refl
marked true r false u not_left is = absurd (not_true (sym not_left))
marked false true false u not_left is = is refl
marked false false false u not_left is = is refl

-- a thread that isn't left is marked by whether it is ready
up_by_mark : (ready : ℕ → Bool) (w : WaitMap) → IsExact ready w → (t : ℕ) → flag is_left (get w t) ≡ false → flag is_ready (get w t) ≡ is_up ready (get w t) t
up_by_mark ready w exact t =
    elim (get w t) as (λ o. get w t ≡ o → flag is_left o ≡ false → flag is_ready o ≡ is_up ready o t) [
      | None ↦ λ _ _. refl
      | Some s ↦ λ at not_left. marked s.left s.ready s.runs (ready t) not_left (exact t s at)
    ] refl

-- a marked thread before each that is left to be tested, after `after`
abbrev pub IsBefore : WaitMap → Option ℕ → Type 0
IsBefore w after = (t : ℕ) → is_after after t ≡ true → flag is_left (get w t) ≡ true → (k : ℕ) × (k < t) × (is_after after k ≡ true) × (flag is_ready (get w k) ≡ true)

-- who is ready is the same where some were tested
pub up_same : (ready : ℕ → Bool) (v w : WaitMap) → AreTested ready v w → (t : ℕ) → is_up ready (get w t) t ≡ is_up ready (get v t) t
up_same ready v w done t =
    elim (done t) [
      | inl kept ↦ ap (λ o. is_up ready o t) kept
      | inr past ↦ ap (λ o. is_up ready o t) past.1 ∙ elim (get v t) as (λ o. is_up ready (option_map (tested (ready t)) o) t ≡ is_up ready o t) [ None ↦ refl | Some s ↦ refl ]
    ]

-- then the next marked thread is the next ready one
pub next_exact : (ready : ℕ → Bool) (w : WaitMap) (after r : Option ℕ) → IsExact ready w → IsBefore w after
    → IsNext (λ t. flag is_ready (get w t)) after r → IsNext (λ t. is_up ready (get w t) t) after r
next_exact ready w after None exact before none = λ t later.
    elim (flag is_left (get w t)) as (λ b. flag is_left (get w t) ≡ b → is_up ready (get w t) t ≡ false) [
      | true ↦ λ left. let one = before t later left in absurd (not_true (sym (none one.0 one.2) ∙ one.3))
      | false ↦ λ tested_one. sym (up_by_mark ready w exact t tested_one) ∙ none t later
    ] refl
next_exact ready w after (Some k) exact before next = (
  next.0,
  elim (flag is_left (get w k)) as (λ b. flag is_left (get w k) ≡ b → is_up ready (get w k) k ≡ true) [
    | true ↦ λ left.
        let one = before k next.0 left in
        let least = next.2 one.0 one.2 one.3 in
        let less = one.1 in
        absurd (omega arith)
    | false ↦ λ tested_one. sym (up_by_mark ready w exact k tested_one) ∙ next.1
  ] refl,
  λ t later up. elim (flag is_left (get w t)) as (λ b. flag is_left (get w t) ≡ b → k ≤ t) [
    | true ↦ λ left.
        let one = before t later left in
        let least = next.2 one.0 one.2 one.3 in
        let less = one.1 in
        omega arith
    | false ↦ λ tested_one. next.2 t later (up_by_mark ready w exact t tested_one ∙ up)
  ] refl,
)
