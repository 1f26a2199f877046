-- The threads of a process are few still as some are taken away, or change.
--     few_fewer      where no other are there
--     few_each      where each keeps its wait but for its lock
--     few_again, few_removed, few_kept, few_none, few_one      by what was done to them
--     few_new      where one is new
use Rattle.std.proofs.Common.{◌≡◌, ℕ, ◌<◌, ◌≤◌, ◌^◌, Bool, true, false, cond, inl, inr, Option, Some, None, IsSome, is_some, refl, sym, ap, subst, ◌∙◌, arith}
use Rattle.std.proofs.lemmas.Bool.Decides.{eqb_tells}
use Rattle.std.specs.Ordering.{nat_cmp}
use Rattle.std.specs.FinMap.{empty, get, insert, len, remove, retain_keys, get-empty, len-empty}
use Rattle.abi_types.specs.declared.thread.Thread.{Thread}
use Rattle.maps.specs.Closure.{total_below, total_ones}
use Rattle.maps.specs.Maps.{get-insert-other, get-remove-same, get-remove-other, get-retain, len-insert_new, weight}
use Rattle.guest_locks.specs.Queues.{AreFew}
use Rattle.kernel_model.specs.State.{Threads}
use Rattle.kernel_model.proofs.Locks.{KeepsEach}
use Rattle.kernel_model.proofs.Tests.{not_true}

ones : (o u : Option Thread) → (IsSome o → IsSome u) → weight (λ (x : Thread). 1) o ≤ weight (λ (x : Thread). 1) u
ones None u there = omega arith
ones (Some x) None there = absurd (not_true (there refl))
ones (Some x) (Some y) there = omega arith

no_more : (m n : Threads) → ((q : ℕ) → IsSome (get n q) → IsSome (get m q)) → len n ≤ len m
no_more m n there =
    let below = total_below (λ (x : Thread). 1) (λ (x : Thread). 1) n m (λ q. ones (get n q) (get m q) (there q)) in
    let before = total_ones m in
    let after = total_ones n in
    omega (arith, below, before, after)

pub few_fewer : (m n : Threads) → ((q : ℕ) → IsSome (get n q) → IsSome (get m q)) → AreFew m → AreFew n
few_fewer m n there few = record {
  low = λ t here. few.low t (there t here);
  few = (let fewer = no_more m n there in let most = few.few in omega (arith, fewer, most));
}

pub few_each : (m n : Threads) → KeepsEach m n → AreFew m → AreFew n
few_each m n keeps = few_fewer m n (λ q here. sym (keeps q).here ∙ here)

pub few_again : (m : Threads) (k : ℕ) (v : Thread) → IsSome (get m k) → AreFew m → AreFew (insert m k v)
few_again m k v there =
    few_fewer m (insert m k v) (λ q here. elim (eqb_tells q k) [
      | inl same ↦ subst (λ x. IsSome (get m x)) (sym same.1) there
      | inr other ↦ subst IsSome (get-insert-other m k v q other.1) here
    ])

pub few_removed : (m : Threads) (k : ℕ) → AreFew m → AreFew (remove m k)
few_removed m k =
    few_fewer m (remove m k) (λ q here. elim (eqb_tells q k) [
      | inl same ↦ absurd (not_true (sym (ap is_some (ap (get (remove m k)) same.1 ∙ get-remove-same m k)) ∙ here))
      | inr other ↦ subst IsSome (get-remove-other m k q other.1) here
    ])

kept_by : (b : Bool) (o : Option Thread) → IsSome (cond b o None) → IsSome o
kept_by true o here = here
kept_by false o here = absurd (not_true here)

pub few_kept : (m : Threads) (p : ℕ → Bool) → AreFew m → AreFew (retain_keys m p)
few_kept m p = few_fewer m (retain_keys m p) (λ q here. kept_by (p q) (get m q) (subst IsSome (get-retain m p q) here))

pub few_none : (m : Threads) → AreFew m → AreFew empty
few_none m = few_fewer m empty (λ q here. absurd (not_true (sym (ap is_some (get-empty nat_cmp q)) ∙ here)))

pub few_new : (m : Threads) (k : ℕ) (v : Thread) → get m k ≡ None → k < 2 ^ 30 → len m < 64 → AreFew m → AreFew (insert m k v)
few_new m k v new low room few = record {
  low = λ t here. elim (eqb_tells t k) [
    | inl same ↦ (let is = same.1 in omega (arith, is, low))
    | inr other ↦ few.low t (subst IsSome (get-insert-other m k v t other.1) here)
  ];
  few = (let more = len-insert_new m k v new in omega (arith, more, room));
}

no_threads : AreFew empty
no_threads = record {
  low = λ t here. absurd (not_true (sym (ap is_some (get-empty nat_cmp t)) ∙ here));
  few = (let none = len-empty nat_cmp Thread in omega (arith, none));
}

pub few_one : (k : ℕ) (v : Thread) → k < 2 ^ 30 → AreFew (insert empty k v)
few_one k v low = few_new empty k v (get-empty nat_cmp k) low (let none = len-empty nat_cmp Thread in omega (arith, none)) no_threads
