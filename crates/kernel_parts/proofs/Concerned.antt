-- A process's threads that wait on a number are spread, one after another.
--     done_until p fd threads last k      whether k is the number of such a thread, and it is at most the last one
--     spread_on      one more
--     spread_none, spread_all      none at first, and all in the end
--     concerned_own, concerned_other      of one's own threads those that wait on the number are, and none of another process
--     among_own, among_other, told_left      the same of those that are told of, which are left
use Rattle.std.proofs.Common.{◌≡◌, ◌≢◌, ℕ, ◌-◌, ◌^◌, ◌<◌, ◌≤◌, ◌&&◌, ◌||◌, not, Bool, true, false, cond, List, [], ◌∷◌, Option, None, Some, inl, inr, refl, sym, ap, ◌∙◌, arith}
use Rattle.std.proofs.lemmas.Bool.{cases_lt, eq-eqb, le-ltb, lt-ltb, ltb-true}
use Rattle.std.proofs.lemmas.Bool.Decides.{eqb_tells}
use Rattle.std.specs.Prelude.{nat_lt}
use Rattle.std.specs.Bool.{nat_eq}
use Rattle.std.specs.Option.{option_map}
use Rattle.std.specs.FinMap.{get}
use Rattle.guest_locks.specs.Told.{Told, has}
use Rattle.maps.specs.Closure.{member}
use Rattle.maps.specs.Maps.{least_key}
use Rattle.kernel_model.specs.State.{Threads}
use Rattle.kernel_model.proofs.Tests.{none_is_no, not_true}
use Rattle.tree_model.specs.Changes.{is_above}
use Rattle.wait_set.specs.declared.waiting.Waiting.{Waiting}
use Rattle.wait_set.specs.Waits.{WaitMap, spread_out, touched}
use Rattle.kernel_parts.specs.Keys.{is_own, key}
use Rattle.kernel_parts.specs.Touching.{HasEach, is_among, is_concerned, left_if, spread_if, told_entry, waits_on}
use Rattle.kernel_parts.proofs.Walks.{IsPast, next_above, passed, past_all, past_next}
use Rattle.kernel_parts.proofs.ThreadKeys.{key_apart, own_apart, own_from, own_key}

abbrev pub done_until : ℕ → ℕ → Threads → Option ℕ → ℕ → Bool
done_until p fd threads last k = is_concerned p fd threads k && not (is_above last (k - key p 0))

-- two times is once
spread_twice : (a b : Bool) (o : Option Waiting) → spread_if a (spread_if b o) ≡ spread_if (a || b) o
spread_twice true true None = refl
spread_twice true true (Some w) = refl
spread_twice true false o = refl
spread_twice false b o = refl

pub spread_none : (p fd : ℕ) (threads : Threads) (V : WaitMap) → HasEach (λ k. spread_if (done_until p fd threads None k)) V V
spread_none p fd threads V k = elim (is_concerned p fd threads k) as (λ b. get V k ≡ spread_if (b && false) (get V k)) [ true ↦ refl | false ↦ refl ]

absorbed : (a b : Bool) → (a || (a && b)) ≡ a
absorbed true b = refl
absorbed false b = refl

with_true : (a : Bool) → (a && true) ≡ a
with_true true = refl
with_true false = refl

with_false : (a : Bool) → (a && false) ≡ false
with_false true = refl
with_false false = refl

is_behind : (last : Option ℕ) (r : ℕ) → passed last ≤ r → is_above last r ≡ true
is_behind None r from = refl
is_behind (Some l) r from = lt-ltb l r (omega (arith, from))

isnt_behind : (last : Option ℕ) (r : ℕ) → IsPast last r → is_above last r ≡ false
isnt_behind None r past = absurd past
isnt_behind (Some l) r past = le-ltb l r past

module _ (p fd : ℕ) (threads : Threads) (last : Option ℕ) where
  -- ---- in the end

  pub spread_all : (V W : WaitMap) → None ≡ least_key (λ q _. is_above last q) threads → HasEach (λ k. spread_if (done_until p fd threads last k)) V W
      → HasEach (λ k. spread_if (is_concerned p fd threads k)) V W
  spread_all V W none before k =
      before k ∙ ap (λ b. spread_if b (get V k)) (elim (past_all threads last none (k - key p 0)) [
        | inl past ↦ ap (λ a. is_concerned p fd threads k && not a) (isnt_behind last (k - key p 0) past) ∙ with_true (is_concerned p fd threads k)
        | inr gone ↦ ap (λ a. a && not (is_above last (k - key p 0))) (unconcerned gone) ∙ sym (unconcerned gone)
      ])
    where
      unconcerned : get threads (k - key p 0) ≡ None → is_concerned p fd threads k ≡ false
      unconcerned gone = ap (λ o. is_own p k && waits_on fd o) gone ∙ with_false (is_own p k)

  -- ---- one more

  module _ (n : ℕ) (next : Some n ≡ least_key (λ q _. is_above last q) threads) where
    abbrev one : ℕ → Bool
    one k = nat_eq k (key p n) && (is_own p k && waits_on fd (get threads n))

    -- a thread that waits, and isn't the next, is behind the next one exactly where it is behind the last one
    above_as : (r : ℕ) → waits_on fd (get threads r) ≡ true → r ≢ n → is_above last r ≡ is_above (Some n) r
    above_as r so apart =
        elim (cases_lt n r) [
          | inl behind ↦ is_behind last r (let from = next_above threads last n next in omega (arith, from)) ∙ sym (lt-ltb n r behind)
          | inr most ↦ elim (past_next threads last n next r most) [
            | inl past ↦ isnt_behind last r past ∙ sym (le-ltb n r most)
            | inr rest ↦ elim rest [
              | inl same ↦ absurd (apart same)
              | inr none ↦ absurd (not_true (sym (ap (waits_on fd) none) ∙ so))
            ]
          ]
        ]

    -- the thread that it is, and another one
    joined_at : (r k : ℕ) → is_own p k ≡ true → k - key p 0 ≡ r → k ≡ key p r → (one k || done_until p fd threads last k) ≡ done_until p fd threads (Some n) k
    joined_at r k own at is =
        elim (eqb_tells k (key p n)) [
          | inl same ↦ same_one same.0 (let s = same.1 in omega arith)
          | inr other ↦ another other.0 (λ e. other.1 (is ∙ ap (key p) e))
        ]
      where
        waits : ℕ → Bool
        waits q = waits_on fd (get threads q)

        same_one : nat_eq k (key p n) ≡ true → r ≡ n → (one k || done_until p fd threads last k) ≡ done_until p fd threads (Some n) k
        same_one so e =
            (λ i. (so i && (own i && waits n)) || ((own i && waits (k - key p 0)) && not (is_above last (k - key p 0))))
            ∙ ap (λ w. w || (waits (k - key p 0) && not (is_above last (k - key p 0)))) (ap waits (sym e ∙ sym at))
            ∙ absorbed (waits (k - key p 0)) (not (is_above last (k - key p 0)))
            ∙ sym ((λ i. (own i && waits (k - key p 0)) && not (le-ltb n (k - key p 0) (omega (arith, at, e)) i)) ∙ with_true (waits (k - key p 0)))

        another : nat_eq k (key p n) ≡ false → r ≢ n → (one k || done_until p fd threads last k) ≡ done_until p fd threads (Some n) k
        another so e =
            (λ i. (so i && (is_own p k && waits n)) || done_until p fd threads last k)
            ∙ elim (waits (k - key p 0)) as (λ b. waits (k - key p 0) ≡ b
            → ((is_own p k && b) && not (is_above last (k - key p 0))) ≡ ((is_own p k && b) && not (is_above (Some n) (k - key p 0)))) [
              | true ↦ λ so. ap (λ a. (is_own p k && true) && not a) (above_as (k - key p 0) so (λ same. e (sym at ∙ same)))
              | false ↦ λ _. ap (λ a. a && not (is_above last (k - key p 0))) (with_false (is_own p k)) ∙ sym (ap (λ a. a && not (is_above (Some n) (k - key p 0))) (with_false (is_own p k)))
            ] refl

    pub spread_on : (V W X : WaitMap) → HasEach (λ k. spread_if (done_until p fd threads last k)) V W
        → HasEach (λ k. spread_if (one k)) W X
        → HasEach (λ k. spread_if (done_until p fd threads (Some n) k)) V X
    spread_on V W X before step k =
        step k ∙ ap (spread_if (one k)) (before k) ∙ spread_twice (one k) (done_until p fd threads last k) (get V k)
        ∙ ap (λ b. spread_if b (get V k)) (joined k)
      where
        joined : (k : ℕ) → (one k || done_until p fd threads last k) ≡ done_until p fd threads (Some n) k
        joined k =
            elim (is_own p k) as (λ b. is_own p k ≡ b → (one k || done_until p fd threads last k) ≡ done_until p fd threads (Some n) k) [
              | true ↦ λ own. (let at = own_from p k own in joined_at at.0 k own (let is = at.2 in omega arith) at.2)
              | false ↦ λ none.
                  (λ i. (nat_eq k (key p n) && (none i && waits_on fd (get threads n))) || ((none i && waits_on fd (get threads (k - key p 0))) && not (is_above last (k - key p 0))))
                  ∙ ap (λ a. a || false) (with_false (nat_eq k (key p n)))
                  ∙ sym (ap (λ a. (a && waits_on fd (get threads (k - key p 0))) && not (is_above (Some n) (k - key p 0))) none)
            ] refl

-- ---- by thread

pub concerned_own : (p fd t : ℕ) (threads : Threads) → p < 2 ^ 32 → t < 2 ^ 32 → key p t ≢ 2 ^ 64 - 1 → is_concerned p fd threads (key p t) ≡ waits_on fd (get threads t)
concerned_own p fd t threads few small apart =
    ap (λ b. b && waits_on fd (get threads (key p t - key p 0))) (own_key p t few small apart)
    ∙ ap (λ q. waits_on fd (get threads q)) (let same : key p t - key p 0 ≡ t = omega arith in same)

pub concerned_other : (p q fd t : ℕ) (threads : Threads) → t < 2 ^ 32 → q ≢ p → is_concerned p fd threads (key q t) ≡ false
concerned_other p q fd t threads small apart = ap (λ b. b && waits_on fd (get threads (key q t - key p 0))) (own_apart p q t small apart)

pub among_own : (p t : ℕ) (numbers : List ℕ) → t < 2 ^ 32 → is_among p numbers (key p t) ≡ member t numbers
among_own p t [] small = refl
among_own p t (n ∷ numbers) small =
    ap (λ b. (nat_lt n (2 ^ 32) && nat_eq (key p t) (key p n)) || b) (among_own p t numbers small) ∙ ap (λ b. b || member t numbers) one where
      one : (nat_lt n (2 ^ 32) && nat_eq (key p t) (key p n)) ≡ nat_eq t n
      one =
          elim (eqb_tells t n) [
            | inl same ↦
                ap (λ b. b && nat_eq (key p t) (key p n)) (lt-ltb n (2 ^ 32) (let e = same.1 in omega (arith, e, small)))
                ∙ eq-eqb (key p t) (key p n) (ap (key p) same.1) ∙ sym same.0
            | inr other ↦
                ap (λ b. nat_lt n (2 ^ 32) && b) (elim (eqb_tells (key p t) (key p n)) [
                  | inl same ↦ absurd (other.1 (let e = same.1 in omega (arith, e)))
                  | inr apart ↦ apart.0
                ])
                ∙ with_false (nat_lt n (2 ^ 32)) ∙ sym other.0
          ]

pub among_other : (p q t : ℕ) (numbers : List ℕ) → t < 2 ^ 32 → q ≢ p → is_among p numbers (key q t) ≡ false
among_other p q t [] small apart = refl
among_other p q t (n ∷ numbers) small apart =
    ap (λ b. (nat_lt n (2 ^ 32) && nat_eq (key q t) (key p n)) || b) (among_other p q t numbers small apart) ∙ ap (λ b. b || false) one where
      one : (nat_lt n (2 ^ 32) && nat_eq (key q t) (key p n)) ≡ false
      one =
          elim (nat_lt n (2 ^ 32)) as (λ b. nat_lt n (2 ^ 32) ≡ b → (b && nat_eq (key q t) (key p n)) ≡ false) [
            | true ↦ λ few. elim (eqb_tells (key q t) (key p n)) [
              | inl same ↦ absurd (apart (key_apart q p t n small (ltb-true n (2 ^ 32) few) same.1).0)
              | inr other ↦ other.0
            ]
            | false ↦ λ _. refl
          ] refl

-- the entry of a thread that is told of is left, if there is one
pub told_left : (p t : ℕ) (told : Told) (entry : Option Waiting) (w : Waiting) → p < 2 ^ 32 → t < 2 ^ 32 → key p t ≢ 2 ^ 64 - 1 → has t told ≡ true
    → told_entry p told (key p t) entry ≡ Some w → w.left ≡ true
told_left p t told entry w few small apart so is =
    elim told.all as (λ b. told.all ≡ b → w.left ≡ true) [
      | true ↦ λ all. spread_left entry (sym (ap (λ b. cond b (spread_if (is_own p (key p t)) entry) (left_if (is_among p told.numbers (key p t)) entry)) all
          ∙ ap (λ b. spread_if b entry) (own_key p t few small apart)) ∙ is)
      | false ↦ λ some. touched_left entry (sym (ap (λ b. cond b (spread_if (is_own p (key p t)) entry) (left_if (is_among p told.numbers (key p t)) entry)) some
          ∙ ap (λ b. left_if b entry) (among_own p t told.numbers small ∙ sym (ap (λ b. b || member t told.numbers) some) ∙ so)) ∙ is)
    ] refl
  where
    left_in : Option Waiting → Bool
    left_in None = true
    left_in (Some x) = x.left

    spread_left : (o : Option Waiting) → option_map spread_out o ≡ Some w → w.left ≡ true
    spread_left None e = absurd (none_is_no w e)
    spread_left (Some v) e = sym (ap left_in e)

    touched_left : (o : Option Waiting) → option_map touched o ≡ Some w → w.left ≡ true
    touched_left None e = absurd (none_is_no w e)
    touched_left (Some v) e = sym (ap left_in e)
