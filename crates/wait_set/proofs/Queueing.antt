-- Queues by number.
--     stood, left_kept, left_dropped      who stands where after one comes or goes
--     put_some      no queue is empty after one comes
--     least_next      the least key that passes is the next one
use Rattle.std.proofs.Common.{◌≡◌, ◌≢◌, ℕ, Bool, true, false, ◌&&◌, ◌||◌, not, inl, inr, Option, Some, None, is_some, Result, Ok, Err, refl, sym, ap, ◌∙◌}
use Rattle.std.specs.Result.{OnErr}
use Rattle.std.specs.Bool.{nat_eq}
use Rattle.std.specs.Ordering.{nat_cmp}
use Rattle.std.specs.FinMap.{FinMap, get, len, empty, insert, remove, contains_key, get-empty, empty_of_len}
use Rattle.std.proofs.lemmas.Bool.Decides.{eqb_tells}
use Rattle.maps.specs.Halves.{not_true}
use Rattle.maps.specs.Maps.{passes, least_key, get-insert-same, get-insert-other, get-remove-same, get-remove-other, least_key-entry, least_key-least, least_key-none}
use Rattle.wait_set.specs.Next.{is_after, IsNext}
use Rattle.wait_set.specs.Queued.{QueueMap, QueueSet, has_at, stands_in, NoneEmpty}

-- a set of threads
abbrev pub Queue : Type 0
Queue = QueueSet

or_false : (b : Bool) → b ≡ (b || false)
or_false true = refl
or_false false = refl

or_comm : (a b : Bool) → (a || b) ≡ (b || a)
or_comm true true = refl
or_comm true false = refl
or_comm false true = refl
or_comm false false = refl

and_comm : (a b : Bool) → (a && b) ≡ (b && a)
and_comm true true = refl
and_comm true false = refl
and_comm false true = refl
and_comm false false = refl

and_true : (b : Bool) → b ≡ (b && true)
and_true true = refl
and_true false = refl

-- ---- one queue

pub contains-insert : (queue : Queue) (thread t : ℕ) → contains_key (insert queue thread tt) t ≡ (nat_eq t thread || contains_key queue t)
contains-insert queue thread t =
    elim (eqb_tells t thread) [
      | inl same ↦ ap (λ q. is_some (get (insert queue thread tt) q)) same.1 ∙ ap is_some (get-insert-same queue thread tt) ∙ sym (ap (λ b. b || contains_key queue t) same.0)
      | inr other ↦ ap is_some (get-insert-other queue thread tt t other.1) ∙ sym (ap (λ b. b || contains_key queue t) other.0)
    ]

pub contains-remove : (queue : Queue) (thread t : ℕ) → contains_key (remove queue thread) t ≡ (not (nat_eq t thread) && contains_key queue t)
contains-remove queue thread t =
    elim (eqb_tells t thread) [
      | inl same ↦ ap (λ q. is_some (get (remove queue thread) q)) same.1 ∙ ap is_some (get-remove-same queue thread) ∙ sym (ap (λ b. not b && contains_key queue t) same.0)
      | inr other ↦ ap is_some (get-remove-other queue thread t other.1) ∙ sym (ap (λ b. not b && contains_key queue t) other.0)
    ]

-- ---- all of them

pub has_put : (m : QueueMap) (k : ℕ) (queue : Queue) (t : ℕ) → has_at (insert m k queue) k t ≡ contains_key queue t
has_put m k queue t = ap (λ o. stands_in o t) (get-insert-same m k queue)

pub has_other : (m : QueueMap) (k : ℕ) (queue : Queue) (n t : ℕ) → n ≢ k → has_at (insert m k queue) n t ≡ has_at m n t
has_other m k queue n t other = ap (λ o. stands_in o t) (get-insert-other m k queue n other)

pub stood : (old new : QueueMap) (number thread : ℕ) (queue : Queue) → new ≡ insert old number (insert queue thread tt)
    → ((t : ℕ) → contains_key queue t ≡ has_at old number t) → (n t : ℕ) → has_at new n t ≡ (has_at old n t || (nat_eq n number && nat_eq t thread))
stood old new number thread queue is before n t =
    ap (λ m. has_at m n t) is
    ∙ elim (eqb_tells n number) [
      | inl same ↦
          ap (λ k. has_at (insert old number (insert queue thread tt)) k t) same.1
          ∙ has_put old number (insert queue thread tt) t
          ∙ contains-insert queue thread t
          ∙ or_comm (nat_eq t thread) (contains_key queue t)
          ∙ ap (λ b. b || nat_eq t thread) (before t ∙ ap (λ k. has_at old k t) (sym same.1))
          ∙ ap (λ b. has_at old n t || (b && nat_eq t thread)) (sym same.0)
      | inr other ↦
          has_other old number (insert queue thread tt) n t other.1
          ∙ or_false (has_at old n t)
          ∙ ap (λ b. has_at old n t || (b && nat_eq t thread)) (sym other.0)
    ]

-- where the thread's queue is as it is without it
parted : (old new : QueueMap) (number thread : ℕ) → ((t : ℕ) → has_at new number t ≡ (not (nat_eq t thread) && has_at old number t))
    → ((n t : ℕ) → n ≢ number → has_at new n t ≡ has_at old n t) → (n t : ℕ) → has_at new n t ≡ (has_at old n t && not (nat_eq n number && nat_eq t thread))
parted old new number thread here there n t =
    elim (eqb_tells n number) [
      | inl same ↦
          ap (λ k. has_at new k t) same.1 ∙ here t ∙ ap (λ k. not (nat_eq t thread) && has_at old k t) (sym same.1)
          ∙ and_comm (not (nat_eq t thread)) (has_at old n t)
          ∙ ap (λ b. has_at old n t && not (b && nat_eq t thread)) (sym same.0)
      | inr other ↦
          there n t other.1
          ∙ and_true (has_at old n t)
          ∙ ap (λ b. has_at old n t && not (b && nat_eq t thread)) (sym other.0)
    ]

pub at_queue : (m : QueueMap) (number : ℕ) (queue : Queue) → Some queue ≡ get m number → (t : ℕ) → contains_key queue t ≡ has_at m number t
at_queue m number queue is t = ap (λ o. stands_in o t) is

pub left_kept : (old new : QueueMap) (number thread : ℕ) (queue : Queue) → Some queue ≡ get old number → new ≡ insert old number (remove queue thread)
    → (n t : ℕ) → has_at new n t ≡ (has_at old n t && not (nat_eq n number && nat_eq t thread))
left_kept old new number thread queue was is =
    parted old new number thread
    (λ t. ap (λ m. has_at m number t) is ∙ has_put old number (remove queue thread) t ∙ contains-remove queue thread t
    ∙ ap (λ b. not (nat_eq t thread) && b) (at_queue old number queue was t))
    (λ n t other. ap (λ m. has_at m n t) is ∙ has_other old number (remove queue thread) n t other)

not_both : (e : Bool) → (not e && (e || false)) ≡ false
not_both true = refl
not_both false = refl

-- where no other thread stands at the number
pub left_only : (old new : QueueMap) (number thread : ℕ) (queue : Queue) → Some queue ≡ get old number → queue ≡ insert empty thread tt → new ≡ remove old number
    → (n t : ℕ) → has_at new n t ≡ (has_at old n t && not (nat_eq n number && nat_eq t thread))
left_only old new number thread queue was only is =
    parted old new number thread
    (λ t. ap (λ m. has_at m number t) is ∙ ap (λ o. stands_in o t) (get-remove-same old number)
    ∙ sym (ap (λ b. not (nat_eq t thread) && b)
    (sym (at_queue old number queue was t) ∙ ap (λ (q : Queue). contains_key q t) only ∙ contains-insert empty thread t
    ∙ ap (λ b. nat_eq t thread || b) (ap is_some (get-empty nat_cmp t)))
    ∙ not_both (nat_eq t thread)))
    (λ n t other. ap (λ m. has_at m n t) is ∙ ap (λ o. stands_in o t) (get-remove-other old number n other))

-- a queue that is new, where there was none
pub at_none : (m : QueueMap) (number : ℕ) (queue : Queue) → queue ≡ empty → contains_key m number ≡ false → (t : ℕ) → contains_key queue t ≡ has_at m number t
at_none m number queue new none t =
    ap (λ (q : Queue). contains_key q t) new ∙ ap is_some (get-empty nat_cmp t)
    ∙ elim (get m number) as (λ o. is_some o ≡ false → false ≡ stands_in o t) [ None ↦ λ _. refl | Some q ↦ λ h. absurd (not_true (sym h)) ] none

pub on_err : {A E : Type 0} (r : Result A E) (P : Type 0) → P → OnErr r P
on_err (Ok x) P p = tt
on_err (Err e) P p = p

-- ---- no queue is empty

pub none_empty : NoneEmpty empty
none_empty = record { some = λ n q at _. not_true (ap is_some (sym (get-empty nat_cmp n) ∙ at)) }

pub put_some : (m : QueueMap) (k : ℕ) (queue : Queue) → NoneEmpty m → len queue ≢ 0 → NoneEmpty (insert m k queue)
put_some m k queue some here =
    record {
      some = λ n q at. elim (eqb_tells n k) [
        | inl same ↦ λ none.
            let is : queue ≡ q = cc (get-insert-same m k queue, ap (get (insert m k queue)) same.1, at) in
            here (ap (λ (x : Queue). len x) is ∙ none)
        | inr other ↦ some.some n q (sym (get-insert-other m k queue n other.1) ∙ at)
      ];
    }

pub inserted_some : (queue : Queue) (thread : ℕ) → len (insert queue thread tt) ≢ 0
inserted_some queue thread none =
    not_true (sym (ap is_some (ap (λ (q : Queue). get q thread) (empty_of_len _ none) ∙ get-empty nat_cmp thread)) ∙ ap is_some (get-insert-same queue thread tt))

pub remove_some : (m : QueueMap) (k : ℕ) → NoneEmpty m → NoneEmpty (remove m k)
remove_some m k some =
    record {
      some = λ n q at. elim (eqb_tells n k) [
        | inl same ↦ λ none. not_true (ap is_some (sym (get-remove-same m k) ∙ ap (get (remove m k)) (sym same.1) ∙ at))
        | inr other ↦ some.some n q (sym (get-remove-other m k n other.1) ∙ at)
      ];
    }

-- ---- the next key

module _ {X : Type 0} where
  some_passing : (test : ℕ → Bool) (t : ℕ) (o : Option X) → test t ≡ true → is_some o ≡ true → passes (λ q _. test q) t o ≡ true
  some_passing test t None at some = some
  some_passing test t (Some x) at some = at

  none_passing : (test : ℕ → Bool) (t : ℕ) (o : Option X) → test t ≡ true → passes (λ q _. test q) t o ≡ false → is_some o ≡ false
  none_passing test t None at none = refl
  none_passing test t (Some x) at none = absurd (not_true (sym none ∙ at))

  pub least_next : (test : ℕ → Bool) (after : Option ℕ) (m : FinMap nat_cmp X) → ((q : ℕ) → is_after after q ≡ test q)
      → IsNext (λ q. contains_key m q) after (least_key (λ q _. test q) m)
  least_next test after m same =
      elim (least_key (λ q (x : X). test q) m) as (λ o. least_key (λ q (x : X). test q) m ≡ o → IsNext (λ q. contains_key m q) after o) [
        | None ↦ λ e t later. none_passing test t (get m t) (sym (same t) ∙ later) (least_key-none (λ q _. test q) m e t)
        | Some k ↦ λ e.
            let there = least_key-entry (λ q _. test q) m k e in (
              same k ∙ there.2,
              ap is_some there.1,
              λ t later some. least_key-least (λ q _. test q) m k e t (some_passing test t (get m t) (sym (same t) ∙ later) some),
            )
      ] refl
