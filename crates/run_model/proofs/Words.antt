-- Calls with another word of the lock that they wait for.
--     word_may_wait      a thread may wait in such a call where it may in the call itself
--     word_again      the last word counts
--     few_of_call      such a call has as few ranges
--     by_word, word_kept      what holds of such a call; one that is no poll is the call itself
use Rattle.std.proofs.Common.{◌≡◌, ℕ, Bool, true, false, List, [], ◌∷◌, refl, sym, ap, subst, ◌∙◌}
use Rattle.abi_base.specs.Registers.{Registers}
use Rattle.abi_structures.specs.declared.events.Subscription.{Subscription}
use Rattle.abi_structures.specs.declared.events.What.{What}
use Rattle.abi_structures.specs.declared.events.What.TheVariants.{Condvar, LockRdlock, LockWrlock}
use Rattle.abi_types.specs.declared.call.Call.{Call}
use Rattle.abi_types.specs.declared.call.Call.TheVariants.{Poll}
use Rattle.kernel_model.specs.Families.Locks.{with_lock_word, with_word}
use Rattle.kernel_model.specs.Families.Polls.{is_of_lock, poll_by}
use Rattle.kernel_model.specs.Waits.{may_wait}
use Rattle.kernel_model.proofs.Tests.{not_true}
use Rattle.call_codec.specs.Put.{HasFewRanges}
use Rattle.run_model.specs.Laws.{IsOfCall}

-- a thread may wait in each poll
poll_may_wait : (first : Subscription) (rest : List Subscription) → may_wait (Poll (first ∷ rest)) ≡ true
poll_may_wait first rest = elim (is_of_lock first.what) as (λ b. (poll_by b (first ∷ rest)).may_wait ≡ true) [ true ↦ refl | false ↦ refl ]

pub word_may_wait : (word : ℕ) (call : Call) → may_wait (with_word word call) ≡ may_wait call
word_may_wait word (Poll []) = refl
word_may_wait word (Poll (first ∷ rest)) =
    poll_may_wait (record first { what = with_lock_word word first.what }) rest ∙ sym (poll_may_wait first rest)
word_may_wait word _ = refl

what_again : (one other : ℕ) (what : What) → with_lock_word one (with_lock_word other what) ≡ with_lock_word one what
what_again one other (Condvar condvar condvar_word lock lock_word condvar_scope lock_scope) = refl
what_again one other (LockRdlock lock old scope) = refl
what_again one other (LockWrlock lock old scope) = refl
what_again one other _ = refl

pub word_again : (one other : ℕ) (call : Call) → with_word one (with_word other call) ≡ with_word one call
word_again one other (Poll []) = refl
word_again one other (Poll (first ∷ rest)) = ap (λ what. Poll (record first { what = what } ∷ rest)) (what_again one other first.what)
word_again one other _ = refl

-- with a word a call has as few ranges as without
few_worded : (r : Registers) (word : ℕ) (call : Call) → HasFewRanges r call → HasFewRanges r (with_word word call)
few_worded r word (Poll []) few = tt
few_worded r word (Poll (first ∷ rest)) few = tt
few_worded r word _ few = few

few_unworded : (r : Registers) (word : ℕ) (call : Call) → HasFewRanges r (with_word word call) → HasFewRanges r call
few_unworded r word (Poll subscriptions) few = tt
few_unworded r word _ few = few

pub few_of_call : (r : Registers) (asked call : Call) → IsOfCall asked call → HasFewRanges r asked → HasFewRanges r call
few_of_call r asked call same few = few_unworded r 0 call (subst (HasFewRanges r) same (few_worded r 0 asked few))

-- ---- what holds of each

-- what holds of every poll where it holds of one, holds of a call where it holds of it with another word
pub by_word : (P : Call → Type 0) → ((one other : List Subscription) → P (Poll one) → P (Poll other)) → (word : ℕ) (call : Call) → P (with_word word call) → P call
by_word P polls word (Poll []) holds = holds
by_word P polls word (Poll (first ∷ rest)) holds = polls (record first { what = with_lock_word word first.what } ∷ rest) (first ∷ rest) holds
by_word P polls word _ holds = holds

abbrev pub is_poll : Call → Bool
is_poll (Poll subscriptions) = true
is_poll _ = false

pub word_kept : (word : ℕ) (call other : Call) → is_poll other ≡ false → with_word word call ≡ other → call ≡ other
word_kept word (Poll []) other isnt is = is
word_kept word (Poll (first ∷ rest)) other isnt is = absurd (not_true (sym (ap is_poll is ∙ isnt)))
word_kept word _ other isnt is = is
