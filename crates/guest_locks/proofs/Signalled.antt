-- Threads that are signalled one after another.
--     sleeper_there      one of them is there
--     one_left, one_called      it is signalled
--     all_called      where there is none
use Rattle.std.proofs.Common.{◌≡◌, ℕ, zero, suc, ◌-◌, ◌<◌, Option, Some, None, IsSome, refl, sym, ap, ◌∙◌, arith}
use Rattle.std.specs.FinMap.{get}
use Rattle.kernel_model.specs.Families.Locks.{first_sleeper, signalled, sleeps_at, with_called}
use Rattle.kernel_model.specs.State.{Threads}
use Rattle.kernel_model.proofs.Tests.{none_is_no}
use Rattle.guest_locks.specs.Signals.{next_sleeper}
use Rattle.guest_locks.proofs.Firsts.{key_there}

pub sleeper_there : (at left : ℕ) (threads : Threads) (t : ℕ) → next_sleeper at left threads ≡ Some t → IsSome (get threads t)
sleeper_there at zero threads t is = absurd (none_is_no t is)
sleeper_there at (suc n) threads t is = key_there (sleeps_at at) threads _ t is

pub one_left : (at left : ℕ) (threads : Threads) (t : ℕ) → next_sleeper at left threads ≡ Some t → 0 < left
one_left at zero threads t is = absurd (none_is_no t is)
one_left at (suc n) threads t is = omega arith

pub one_called : (at left : ℕ) (threads : Threads) (t : ℕ) → next_sleeper at left threads ≡ Some t
    → signalled (left - 1) at (with_called (Some t) threads) ≡ signalled left at threads
one_called at zero threads t is = absurd (none_is_no t is)
one_called at (suc n) threads t is =
    let less : suc n - 1 ≡ n = omega arith in
    ap (λ k. signalled k at (with_called (Some t) threads)) less ∙ ap (λ (o : Option ℕ). signalled n at (with_called o threads)) (sym is)

none_called : (at n : ℕ) (threads : Threads) → first_sleeper at threads ≡ None → signalled n at threads ≡ threads
none_called at zero threads none = refl
none_called at (suc n) threads none = ap (λ (o : Option ℕ). signalled n at (with_called o threads)) none ∙ none_called at n threads none

pub all_called : (at left : ℕ) (threads : Threads) → next_sleeper at left threads ≡ None → signalled left at threads ≡ threads
all_called at zero threads none = refl
all_called at (suc n) threads none = none_called at (suc n) threads none
