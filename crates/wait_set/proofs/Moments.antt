-- A walk over moments, at each of which those that stand there are touched.
--     Reached old new after reached until      those at a moment after `after` and up to `reached` are touched
--     reached_first, reached_step, reached_last      a walk's beginning, step and end
--     moments_left, moments_fall      a measure, which falls
--     bounded_none, bounded_some, bounded_late      the next number up to a bound
use Rattle.std.proofs.Common.{◌≡◌, ℕ, ◌+◌, ◌-◌, ◌<◌, ◌≤◌, Bool, true, false, cond, not, ◌&&◌, ◌||◌, nat_lt, nat_le, inl, inr, List, [], ◌∷◌, Option, Some, None, refl, sym, ap, ◌∙◌, arith}
use Rattle.std.specs.Bool.{nat_eq}
use Rattle.std.specs.List.{list_any}
use Rattle.std.specs.Option.{option_map}
use Rattle.std.specs.FinMap.{get}
use Rattle.std.proofs.lemmas.Bool.{eq-eqb, lt-ltb, le-ltb, ltb-true, ltb-false, leb-true, le-leb}
use Rattle.std.proofs.lemmas.Bool.Decides.{eqb_tells}
use Rattle.maps.specs.Halves.{not_true}
use Rattle.maps.specs.Maps.{total-zero, same_numbers}
use Rattle.maps.specs.Closure.{get-changed}
use Rattle.wait_set.proofs.Tying.{weighs_none}
use Rattle.wait_set.specs.declared.spot.Spot.{Spot}
use Rattle.wait_set.specs.declared.spot.Spot.TheVariants.{Channel, Ended, Moment}
use Rattle.wait_set.specs.declared.waiting.Waiting.{Waiting}
use Rattle.wait_set.specs.Next.{is_after, IsNext}
use Rattle.wait_set.specs.Spots.{same_spot, listed}
use Rattle.wait_set.specs.Waits.{WaitMap, lists, counted, is_awaited, due_spot, is_due, so_changed, where_so, touched}

-- what is after a later one is after an earlier one
later : (r : Option ℕ) (m n : ℕ) → is_after r m ≡ true → nat_lt m n ≡ true → is_after r n ≡ true
later None m n first second = refl
later (Some a) m n first second =
    let one = ltb-true a m first in
    let two = ltb-true m n second in
    lt-ltb a n (omega arith)

-- ---- the next up to a bound

pub bounded_none : (p : ℕ → Bool) (until : ℕ) (after : Option ℕ) → IsNext p after None → IsNext (λ m. nat_le m until && p m) after None
bounded_none p until after none t is_later = ap (λ b. nat_le t until && b) (none t is_later) ∙ and_false (nat_le t until)
  where
    and_false : (a : Bool) → (a && false) ≡ false
    and_false true = refl
    and_false false = refl

second : (a b : Bool) → (a && b) ≡ true → b ≡ true
second true b h = h
second false b h = absurd (not_true h)

first : (a b : Bool) → (a && b) ≡ true → a ≡ true
first true b h = refl
first false b h = absurd (not_true h)

pub bounded_some : (p : ℕ → Bool) (until m : ℕ) (after : Option ℕ) → m ≤ until → IsNext p after (Some m) → IsNext (λ n. nat_le n until && p n) after (Some m)
bounded_some p until m after most next =
    (next.0, ap (λ b. b && p m) (le-leb m until most) ∙ next.1, λ t is_later at. next.2 t is_later (second (nat_le t until) (p t) at))

pub bounded_late : (p : ℕ → Bool) (until m : ℕ) (after : Option ℕ) → until < m → IsNext p after (Some m) → IsNext (λ n. nat_le n until && p n) after None
bounded_late p until m after late next t is_later =
    elim (nat_le t until && p t) as (λ b. (nat_le t until && p t) ≡ b → b ≡ false) [
      | true ↦ λ at.
          let least = next.2 t is_later (second (nat_le t until) (p t) at) in
          let most = leb-true t until (first (nat_le t until) (p t) at) in
          absurd (omega arith)
      | false ↦ λ _. refl
    ] refl

-- ---- which spots are due

and_not : (a : Bool) → (a && not a) ≡ false
and_not true = refl
and_not false = refl

-- none is due before anything was reached
none_due : (after : Option ℕ) (spots : List Spot) → list_any (due_spot after after) spots ≡ false
none_due after [] = refl
none_due after (Channel n ∷ ys) = none_due after ys
none_due after (Ended n ∷ ys) = none_due after ys
none_due after (Moment n ∷ ys) = ap (λ b. b || list_any (due_spot after after) ys) (and_not (is_after after n)) ∙ none_due after ys

head_none : (a b : Bool) → (a || b) ≡ false → a ≡ false
head_none true b h = h
head_none false b h = refl

tail_none : (a b : Bool) → (a || b) ≡ false → b ≡ false
tail_none true b h = absurd (not_true (sym h))
tail_none false b h = h

or_true : (a : Bool) → (a || true) ≡ true
or_true true = refl
or_true false = refl

or_none : (a : Bool) → (a || false) ≡ a
or_none true = refl
or_none false = refl

shuffled : (a b c d : Bool) → ((a || b) || (c || d)) ≡ ((a || c) || (b || d))
shuffled true b c d = refl
shuffled false true true d = refl
shuffled false true false d = refl
shuffled false false c d = refl

-- one moment: it is due up to m where it was due before, or is m
moment_split : (after r : Option ℕ) (m n : ℕ) → is_after after m ≡ true → is_after r m ≡ true → (is_after r n ≡ true → nat_lt n m ≡ true → ⊥)
    → (is_after after n && not (nat_lt m n)) ≡ ((is_after after n && not (is_after r n)) || nat_eq m n)
moment_split after r m n up from none =
    elim (eqb_tells m n) [
      | inl same ↦
          ap (λ k. is_after after k && not (nat_lt m k)) (sym same.1)
          ∙ ap (λ b. b && not (nat_lt m m)) up
          ∙ ap not (le-ltb m m (omega arith))
          ∙ sym (ap (λ b. (is_after after n && not (is_after r n)) || b) same.0 ∙ or_true (is_after after n && not (is_after r n)))
      | inr other ↦
          elim (nat_lt m n) as (λ b. nat_lt m n ≡ b → (is_after after n && not b) ≡ (is_after after n && not (is_after r n))) [
            | true ↦ λ high. ap (λ b. is_after after n && not b) (sym (later r m n from high))
            | false ↦ λ low. elim (is_after r n) as (λ b. is_after r n ≡ b → (is_after after n && true) ≡ (is_after after n && not b)) [
              | true ↦ λ beyond.
                  let most = ltb-false m n low in
                  let differs = other.1 in
                  absurd (none beyond (lt-ltb n m (omega arith)))
              | false ↦ λ _. refl
            ] refl
          ] refl
          ∙ sym (ap (λ b. (is_after after n && not (is_after r n)) || b) other.0 ∙ or_none (is_after after n && not (is_after r n)))
    ]

spot_split : (after r : Option ℕ) (m : ℕ) (y : Spot) → is_after after m ≡ true → is_after r m ≡ true
    → ((n : ℕ) → is_after r n ≡ true → nat_lt n m ≡ true → same_spot (Moment n) y ≡ false)
    → due_spot after (Some m) y ≡ (due_spot after r y || same_spot (Moment m) y)
spot_split after r m (Channel n) up from none = refl
spot_split after r m (Ended n) up from none = refl
spot_split after r m (Moment n) up from none =
    moment_split after r m n up from (λ beyond low. not_true (sym (none n beyond low) ∙ eq-eqb n n refl))

list_split : (after r : Option ℕ) (m : ℕ) (spots : List Spot) → is_after after m ≡ true → is_after r m ≡ true
    → ((n : ℕ) → is_after r n ≡ true → nat_lt n m ≡ true → listed (Moment n) spots ≡ false)
    → list_any (due_spot after (Some m)) spots ≡ (list_any (due_spot after r) spots || listed (Moment m) spots)
list_split after r m [] up from none = refl
list_split after r m (y ∷ ys) up from none =
    ap (λ b. b || list_any (due_spot after (Some m)) ys)
    (spot_split after r m y up from (λ n beyond low. head_none (same_spot (Moment n) y) (listed (Moment n) ys) (none n beyond low)))
    ∙ ap (λ b. (due_spot after r y || same_spot (Moment m) y) || b)
    (list_split after r m ys up from (λ n beyond low. tail_none (same_spot (Moment n) y) (listed (Moment n) ys) (none n beyond low)))
    ∙ shuffled (due_spot after r y) (same_spot (Moment m) y) (list_any (due_spot after r) ys) (listed (Moment m) ys)

-- where none is left up to `until`
moment_end : (after r : Option ℕ) (until n : ℕ) → (nat_lt until n ≡ true → is_after after n ≡ true → is_after r n ≡ true) → (is_after r n ≡ true → nat_lt until n ≡ false → ⊥)
    → (is_after after n && not (is_after r n)) ≡ (is_after after n && not (nat_lt until n))
moment_end after r until n within none =
    elim (nat_lt until n) as (λ b. nat_lt until n ≡ b → (is_after after n && not (is_after r n)) ≡ (is_after after n && not b)) [
      | true ↦ λ high. elim (is_after after n) as (λ a. is_after after n ≡ a → (a && not (is_after r n)) ≡ (a && false)) [
        | true ↦ λ up. ap not (within high up)
        | false ↦ λ _. refl
      ] refl
      | false ↦ λ low. elim (is_after r n) as (λ b. is_after r n ≡ b → (is_after after n && not b) ≡ (is_after after n && true)) [
        | true ↦ λ beyond. absurd (none beyond low)
        | false ↦ λ _. refl
      ] refl
    ] refl

spot_end : (after r : Option ℕ) (until : ℕ) (y : Spot) → ((n : ℕ) → nat_lt until n ≡ true → is_after after n ≡ true → is_after r n ≡ true)
    → ((n : ℕ) → is_after r n ≡ true → nat_lt until n ≡ false → same_spot (Moment n) y ≡ false) → due_spot after r y ≡ due_spot after (Some until) y
spot_end after r until (Channel n) within none = refl
spot_end after r until (Ended n) within none = refl
spot_end after r until (Moment n) within none =
    moment_end after r until n (within n) (λ beyond low. not_true (sym (none n beyond low) ∙ eq-eqb n n refl))

list_end : (after r : Option ℕ) (until : ℕ) (spots : List Spot) → ((n : ℕ) → nat_lt until n ≡ true → is_after after n ≡ true → is_after r n ≡ true)
    → ((n : ℕ) → is_after r n ≡ true → nat_lt until n ≡ false → listed (Moment n) spots ≡ false) → list_any (due_spot after r) spots ≡ list_any (due_spot after (Some until)) spots
list_end after r until [] within none = refl
list_end after r until (y ∷ ys) within none =
    ap (λ b. b || list_any (due_spot after r) ys) (spot_end after r until y within (λ n beyond low. head_none (same_spot (Moment n) y) (listed (Moment n) ys) (none n beyond low)))
    ∙ ap (λ b. due_spot after (Some until) y || b) (list_end after r until ys within (λ n beyond low. tail_none (same_spot (Moment n) y) (listed (Moment n) ys) (none n beyond low)))

-- ---- the set

-- at a moment that nobody awaits no list has it
unawaited : (w : WaitMap) (n t : ℕ) (s : Waiting) → is_awaited w n ≡ false → get w t ≡ Some s → lists (Moment n) s ≡ false
unawaited w n t s none at =
    let few = ltb-false 0 (counted (lists (Moment n)) w) none in
    let zero : counted (lists (Moment n)) w ≡ 0 = omega arith in
    weighs_none (lists (Moment n) s) (cond (lists (Moment n) s) 1 0) refl (total-zero (λ (x : Waiting). cond (lists (Moment n) x) 1 0) w t s zero at)

same_lists : (x : Spot) (p : Waiting → Bool) (t : ℕ) (s : Waiting) → (so_changed p (λ _ r. touched r) t s).spots ≡ s.spots
same_lists x p t s = elim (p s) as (λ b. (cond b (touched s) s).spots ≡ s.spots) [ true ↦ refl | false ↦ refl ]

pub record Reached (old new : WaitMap) (after reached : Option ℕ) (until : ℕ) : Type 0 where
  pub done : new ≡ where_so (is_due after reached) (λ _ s. touched s) old
  pub onward : (n : ℕ) → is_after reached n ≡ true → is_after after n ≡ true
  pub within : (n : ℕ) → nat_lt until n ≡ true → is_after after n ≡ true → is_after reached n ≡ true

-- a moment that nobody awaits now is in no list of the old set
unlisted : (old new : WaitMap) (after r : Option ℕ) (until n t : ℕ) (s : Waiting) → Reached old new after r until → is_awaited new n ≡ false → get old t ≡ Some s → listed (Moment n) s.spots ≡ false
unlisted old new after r until n t s now none at =
    let here : get new t ≡ Some (so_changed (is_due after r) (λ _ x. touched x) t s) =
    ap (λ (w : WaitMap). get w t) now.done ∙ get-changed (so_changed (is_due after r) (λ _ x. touched x)) old t ∙ ap (option_map (so_changed (is_due after r) (λ _ x. touched x) t)) at in
    ap (listed (Moment n)) (sym (same_lists (Moment n) (is_due after r) t s)) ∙ unawaited new n t (so_changed (is_due after r) (λ _ x. touched x) t s) none here

pub reached_first : (w : WaitMap) (after : Option ℕ) (until : ℕ) → Reached w w after after until
reached_first w after until =
    record {
      done = same_numbers w (where_so (is_due after after) (λ _ s. touched s) w) (λ t.
          sym (get-changed (so_changed (is_due after after) (λ _ s. touched s)) w t
          ∙ elim (get w t) as (λ o. option_map (so_changed (is_due after after) (λ _ s. touched s) t) o ≡ o) [
            | None ↦ refl
            | Some s ↦ ap (λ b. Some (cond b (touched s) s)) (none_due after s.spots)
          ]));
      onward = λ n beyond. beyond;
      within = λ n high up. up;
    }

twice : (p : Waiting → Bool) (m t : ℕ) (s : Waiting) (both : Bool) → both ≡ (p s || lists (Moment m) s)
    → so_changed (lists (Moment m)) (λ _ x. touched x) t (so_changed p (λ _ x. touched x) t s) ≡ cond both (touched s) s
twice p m t s both is =
    elim (p s) as (λ a. both ≡ (a || lists (Moment m) s) → so_changed (lists (Moment m)) (λ _ x. touched x) t (cond a (touched s) s) ≡ cond both (touched s) s) [
      | true ↦ λ e.
          elim (lists (Moment m) s) as (λ b. cond b (touched (touched s)) (touched s) ≡ touched s) [ true ↦ refl | false ↦ refl ]
          ∙ ap (λ b. cond b (touched s) s) (sym e)
      | false ↦ λ e. ap (λ b. cond b (touched s) s) (sym e)
    ] is

-- a moment between those reached and the next is awaited by nobody
skipped : (new : WaitMap) (r : Option ℕ) (until m n : ℕ) → IsNext (λ k. nat_le k until && is_awaited new k) r (Some m) → is_after r n ≡ true → nat_lt n m ≡ true → is_awaited new n ≡ false
skipped new r until m n next beyond low =
    elim (is_awaited new n) as (λ b. is_awaited new n ≡ b → b ≡ false) [
      | true ↦ λ at.
          let less = ltb-true n m low in
          let most = leb-true m until (first (nat_le m until) (is_awaited new m) next.1) in
          let least = next.2 n beyond (ap (λ b. b && is_awaited new n) (le-leb n until (omega arith)) ∙ at) in
          absurd (omega arith)
      | false ↦ λ _. refl
    ] refl

pub reached_step : (old new next : WaitMap) (after r : Option ℕ) (until m : ℕ) → Reached old new after r until → IsNext (λ k. nat_le k until && is_awaited new k) r (Some m)
    → next ≡ where_so (lists (Moment m)) (λ _ s. touched s) new → Reached old next after (Some m) until
reached_step old new next after r until m now is_next is =
    record {
      done = same_numbers next (where_so (is_due after (Some m)) (λ _ s. touched s) old) (λ t.
          ap (λ (w : WaitMap). get w t) is
          ∙ get-changed (so_changed (lists (Moment m)) (λ _ s. touched s)) new t
          ∙ ap (option_map (so_changed (lists (Moment m)) (λ _ s. touched s) t)) (ap (λ (w : WaitMap). get w t) now.done ∙ get-changed (so_changed (is_due after r) (λ _ s. touched s)) old t)
          ∙ elim (get old t) as (λ o. get old t ≡ o → option_map (so_changed (lists (Moment m)) (λ _ s. touched s) t) (option_map (so_changed (is_due after r) (λ _ s. touched s) t) o)
          ≡ option_map (so_changed (is_due after (Some m)) (λ _ s. touched s) t) o) [
            | None ↦ λ _. refl
            | Some s ↦ λ at. ap Some (twice (is_due after r) m t s (is_due after (Some m) s)
                (list_split after r m s.spots (now.onward m is_next.0) is_next.0
                (λ n beyond low. unlisted old new after r until n t s now (skipped new r until m n is_next beyond low) at)))
          ] refl
          ∙ sym (get-changed (so_changed (is_due after (Some m)) (λ _ s. touched s)) old t));
      onward = λ n beyond. now.onward n (later r m n is_next.0 beyond);
      within = λ n high up.
          let most = leb-true m until (first (nat_le m until) (is_awaited new m) is_next.1) in
          let more = ltb-true until n high in
          lt-ltb m n (omega arith);
    }

pub reached_last : (old new : WaitMap) (after r : Option ℕ) (until : ℕ) → Reached old new after r until → IsNext (λ k. nat_le k until && is_awaited new k) r None
    → new ≡ where_so (is_due after (Some until)) (λ _ s. touched s) old
reached_last old new after r until now none =
    now.done
    ∙ same_numbers (where_so (is_due after r) (λ _ s. touched s) old) (where_so (is_due after (Some until)) (λ _ s. touched s) old) (λ t.
    get-changed (so_changed (is_due after r) (λ _ s. touched s)) old t
    ∙ elim (get old t) as (λ o. get old t ≡ o → option_map (so_changed (is_due after r) (λ _ s. touched s) t) o ≡ option_map (so_changed (is_due after (Some until)) (λ _ s. touched s) t) o) [
      | None ↦ λ _. refl
      | Some s ↦ λ at. ap (λ b. Some (cond b (touched s) s))
          (list_end after r until s.spots now.within
          (λ n beyond low. unlisted old new after r until n t s now
          (sym (ap (λ b. b && is_awaited new n) (le-leb n until (ltb-false until n low))) ∙ none n beyond) at))
    ] refl
    ∙ sym (get-changed (so_changed (is_due after (Some until)) (λ _ s. touched s)) old t))

-- how far the bound is
abbrev pub moments_left : Option ℕ → ℕ → ℕ
moments_left None until = until + 2
moments_left (Some m) until = (until + 1) - m

pub moments_fall : (w : WaitMap) (r : Option ℕ) (m until : ℕ) → IsNext (λ k. nat_le k until && is_awaited w k) r (Some m) → moments_left (Some m) until < moments_left r until
moments_fall w None m until next = omega arith
moments_fall w (Some a) m until next =
    let more = ltb-true a m next.0 in
    let most = leb-true m until (first (nat_le m until) (is_awaited w m) next.1) in
    omega arith
