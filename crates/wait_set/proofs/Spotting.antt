-- Who stands at each spot.
use Rattle.std.proofs.Common.{◌≡◌, ℕ, ◌+◌, ◌<◌, ◌≤◌, Bool, true, false, cond, ◌&&◌, ◌||◌, not, inl, inr, List, [], ◌∷◌, ◌++◌, length, take, get_or, refl, sym, ap, ◌∙◌, arith}
use Rattle.std.specs.Bool.{nat_eq}
use Rattle.std.specs.Ordering.{nat_cmp}
use Rattle.std.specs.FinMap.{empty, get-empty}
use Rattle.std.proofs.lemmas.Bool.{eq-eqb, eqb-true}
use Rattle.std.proofs.lemmas.Bool.Decides.{eqb_tells}
use Rattle.std.proofs.lemmas.List.{take_all, take_more}
use Rattle.std.proofs.lemmas.List.Folds.{list_any-append}
use Rattle.std.proofs.lemmas.Map.Views.{any-filter_same}
use Rattle.std.specs.List.{filter}
use Rattle.maps.specs.Halves.{not_true}
use Rattle.wait_set.specs.declared.spot.Spot.{Spot}
use Rattle.wait_set.specs.declared.spot.Spot.TheVariants.{Channel, Ended, Moment}
use Rattle.wait_set.specs.declared.spot_queues.SpotQueues.{SpotQueues}
use Rattle.wait_set.specs.Queued.{QueueMap, has_at, stands_in}
use Rattle.wait_set.specs.Spots.{same_spot, listed}
use Rattle.wait_set.specs.SpotQueues.{spot_has}
use Rattle.wait_set.specs.Waits.{lasts}

none_at : (m : QueueMap) → m ≡ empty → (n t : ℕ) → has_at m n t ≡ false
none_at m e n t = ap (λ (q : QueueMap). has_at q n t) e ∙ ap (λ o. stands_in o t) (get-empty nat_cmp n)

pub nobody : (q : SpotQueues) → q.channels ≡ empty → q.ended ≡ empty → q.moments ≡ empty
    → (x : Spot) (t : ℕ) → spot_has q x t ≡ false
nobody q a b c (Channel n) t = none_at q.channels a n t
nobody q a b c (Ended n) t = none_at q.ended b n t
nobody q a b c (Moment n) t = none_at q.moments c n t

-- ---- moments that are left

and_true : (b : Bool) → (b && true) ≡ b
and_true true = refl
and_true false = refl

-- the same spots last alike
lasts_same : (x y : Spot) → same_spot x y ≡ true → lasts x ≡ lasts y
lasts_same (Channel n) (Channel m) same = refl
lasts_same (Channel n) (Ended m) same = refl
lasts_same (Channel n) (Moment m) same = absurd (not_true same)
lasts_same (Ended n) (Channel m) same = refl
lasts_same (Ended n) (Ended m) same = refl
lasts_same (Ended n) (Moment m) same = absurd (not_true same)
lasts_same (Moment n) (Channel m) same = absurd (not_true same)
lasts_same (Moment n) (Ended m) same = absurd (not_true same)
lasts_same (Moment n) (Moment m) same = refl

-- the spots that last
pub listed_lasting : (x : Spot) (spots : List Spot) → listed x (filter lasts spots) ≡ (listed x spots && not (listed x spots && not (lasts x)))
listed_lasting x spots =
    any-filter_same (same_spot x) lasts (lasts x) (λ y same. sym (lasts_same x y same)) spots
    ∙ table (lasts x) (listed x spots)
  where
    table : (k l : Bool) → (k && l) ≡ (l && not (l && not k))
    table true true = refl
    table true false = refl
    table false true = refl
    table false false = refl

-- one more spot
pub one_more : (has : ℕ → Bool) (thread : ℕ) (x spot : Spot) (spots : List Spot) → has thread ≡ listed x spots → (t : ℕ)
    → (has t || (same_spot x spot && nat_eq t thread)) ≡ cond (nat_eq t thread) (listed x (spots ++ spot ∷ [])) (has t)
one_more has thread x spot spots was t =
    elim (eqb_tells t thread) [
      | inl is ↦
          ap (λ b. b || (same_spot x spot && nat_eq t thread)) (ap has is.1 ∙ was)
          ∙ ap (λ b. listed x spots || (same_spot x spot && b)) is.0
          ∙ or_last (listed x spots) (same_spot x spot)
          ∙ sym (list_any-append (same_spot x) spots (spot ∷ []))
          ∙ sym (ap (λ b. cond b (listed x (spots ++ spot ∷ [])) (has t)) is.0)
      | inr other ↦
          ap (λ b. has t || (same_spot x spot && b)) other.0
          ∙ or_none (has t) (same_spot x spot)
          ∙ sym (ap (λ b. cond b (listed x (spots ++ spot ∷ [])) (has t)) other.0)
    ]
  where
    or_last : (a b : Bool) → (a || (b && true)) ≡ (a || (b || false))
    or_last true b = refl
    or_last false true = refl
    or_last false false = refl

    or_none : (a b : Bool) → (a || (b && false)) ≡ a
    or_none true b = refl
    or_none false true = refl
    or_none false false = refl

-- none but these is left
pub as_before : (has : ℕ → Bool) (thread : ℕ) (b : Bool) → has thread ≡ b → (t : ℕ) → has t ≡ cond (nat_eq t thread) b (has t)
as_before has thread b was t =
    elim (eqb_tells t thread) [
      | inl is ↦ ap has is.1 ∙ was ∙ sym (ap (λ c. cond c b (has t)) is.0)
      | inr other ↦ sym (ap (λ c. cond c b (has t)) other.0)
    ]

-- all are left
pub all_left : (has : ℕ → Bool) (thread : ℕ) (x : Spot) (spots : List Spot) → has thread ≡ listed x spots → (t : ℕ)
    → (has t && not (listed x spots && nat_eq t thread)) ≡ cond (nat_eq t thread) false (has t)
all_left has thread x spots was t =
    elim (eqb_tells t thread) [
      | inl is ↦
          ap (λ b. b && not (listed x spots && nat_eq t thread)) (ap has is.1 ∙ was)
          ∙ ap (λ b. listed x spots && not (listed x spots && b)) is.0
          ∙ not_both (listed x spots)
          ∙ sym (ap (λ b. cond b false (has t)) is.0)
      | inr other ↦
          ap (λ b. has t && not (listed x spots && b)) other.0
          ∙ and_none (has t) (listed x spots)
          ∙ sym (ap (λ b. cond b false (has t)) other.0)
    ]
  where
    not_both : (a : Bool) → (a && not (a && true)) ≡ false
    not_both true = refl
    not_both false = refl

    and_none : (a b : Bool) → (a && not (b && false)) ≡ a
    and_none true true = refl
    and_none true false = refl
    and_none false b = refl

-- the same spots are equal
pub same_is : (x y : Spot) → same_spot x y ≡ true → x ≡ y
same_is (Channel n) (Channel m) same = ap Channel (eqb-true n m same)
same_is (Channel n) (Ended m) same = absurd (not_true same)
same_is (Channel n) (Moment m) same = absurd (not_true same)
same_is (Ended n) (Channel m) same = absurd (not_true same)
same_is (Ended n) (Ended m) same = ap Ended (eqb-true n m same)
same_is (Ended n) (Moment m) same = absurd (not_true same)
same_is (Moment n) (Channel m) same = absurd (not_true same)
same_is (Moment n) (Ended m) same = absurd (not_true same)
same_is (Moment n) (Moment m) same = ap Moment (eqb-true n m same)

-- two lists begin alike for one more spot
pub front_more : (xs ys : List Spot) (i : ℕ) (d : Spot) → i < length xs → i < length ys → take i ys ≡ take i xs → same_spot (get_or xs i d) (get_or ys i d) ≡ true
    → take (i + 1) ys ≡ take (i + 1) xs
front_more xs ys i d first second alike same =
    take_more ys i d second
    ∙ ap (λ (zs : List Spot). zs ++ get_or ys i d ∷ []) alike
    ∙ ap (λ (z : Spot). take i xs ++ z ∷ []) (sym (same_is (get_or xs i d) (get_or ys i d) same))
    ∙ sym (take_more xs i d first)

pub front_all : (xs ys own : List Spot) (i : ℕ) → xs ≡ own → i ≤ length xs → length xs ≤ i → take i ys ≡ take i xs → take (length own) ys ≡ own
front_all xs ys own i is most least alike =
    let size : length xs ≡ length own = ap (λ (zs : List Spot). length zs) is in
    let e : length own ≡ i = omega arith in
    ap (λ n. take n ys) e ∙ alike ∙ take_all i xs least ∙ is

-- at the thread itself
pub at_thread : (thread : ℕ) (a b c : Bool) → a ≡ cond (nat_eq thread thread) b c → a ≡ b
at_thread thread a b c is = is ∙ ap (λ e. cond e b c) (eq-eqb thread thread refl)

-- of two changes of a thread's places the second counts
pub put_twice : (e b c a : Bool) → cond e c (cond e b a) ≡ cond e c a
put_twice true b c a = refl
put_twice false b c a = refl
