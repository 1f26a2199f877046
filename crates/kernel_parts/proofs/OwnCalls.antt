-- Calls that change what their process has of its own.
--     is_given, is_not_given      what a test says by a number that was given, or not
--     last_is      whether a thread is the last one, by how many there are
--     words_are      how many words are drawn for some bytes
--     can_be_given      what holds of the number that a new thread is given
--     made_with, not_made, drawn_with, not_drawn      what the calls come to by their tests
use Rattle.std.proofs.Common.{◌≡◌, ℕ, ◌+◌, ◌-◌, ◌<◌, ◌^◌, ◌==◌, ◌&&◌, nat_lt, not, Bool, true, false, cond, Option, None, Some, is_some, inl, inr, refl, sym, ap, ◌∙◌, arith}
use Rattle.std.proofs.lemmas.Bool.{ltb-true}
use Rattle.std.proofs.lemmas.Bool.Decides.{eqb_tells}
use Rattle.std.specs.Int.{div_ceil, from_bool}
use Rattle.std.specs.FinMap.{get, len, remove}
use Rattle.clock_random.specs.Random.{words_of}
use Rattle.abi_types.specs.declared.constants.Constants.{Constants}
use Rattle.abi_types.specs.declared.thread.Thread.{Thread}
use Rattle.maps.specs.Maps.{len-removed, remove_absent}
use Rattle.kernel_model.specs.Families.ClockCalls.{can_draw, drawn_by, drawn_if}
use Rattle.kernel_model.specs.Families.ProcessCalls.{can_make_thread, has_next_number, made_if, made_in}
use Rattle.kernel_model.specs.OwnChanges.{next_thread}
use Rattle.kernel_model.specs.State.{ProcessState, Threads}
use Rattle.kernel_model.proofs.Tests.{none_is_no, not_true, same_some}
use Rattle.kernel_parts.specs.OwnCalls.{new_thread, words_after}

-- ---- numbers that are given where a test says so

pub is_given : (b : Bool) (x n : ℕ) → Some n ≡ cond b (Some x) None → (b ≡ true) × (n ≡ x)
is_given true x n is = (refl, same_some n x is)
is_given false x n is = absurd (none_is_no n (sym is))

pub is_not_given : (b : Bool) (x : ℕ) → None ≡ cond b (Some x) None → b ≡ false
is_not_given true x is = absurd (none_is_no x is)
is_not_given false x is = refl

-- ---- tests

same_test : (a b c d : ℕ) → (a ≡ b → c ≡ d) → (c ≡ d → a ≡ b) → (a == b) ≡ (c == d)
same_test a b c d to from =
    elim (eqb_tells a b) [
      | inl is ↦ elim (eqb_tells c d) [
        | inl has ↦ is.0 ∙ sym has.0
        | inr other ↦ absurd (other.1 (to is.1))
      ]
      | inr apart ↦ elim (eqb_tells c d) [
        | inl has ↦ absurd (apart.1 (from has.1))
        | inr other ↦ apart.0 ∙ sym other.0
      ]
    ]

pub last_is : (m : Threads) (t : ℕ) → (len m == from_bool (is_some (get m t))) ≡ (len (remove m t) == 0)
last_is m t =
    elim (get m t) as (λ o. get m t ≡ o → (len m == from_bool (is_some o)) ≡ (len (remove m t) == 0)) [
      | None ↦ λ e. ap (λ (x : Threads). len x == 0) (sym (remove_absent m t e))
      | Some v ↦ (λ e.
          let one = len-removed m t v e in
          same_test (len m) 1 (len (remove m t)) 0 (λ h. omega (arith, one, h)) (λ h. omega (arith, one, h)))
    ] refl

-- ---- words

pub words_are : (n : ℕ) → div_ceil n 4 ≡ words_of n
words_are n = omega arith

-- ---- outcomes

pub made_with : (p t n : ℕ) (own : ProcessState) → Some n ≡ new_thread t own → (made_in p t (Some own) ≡ made_if true p own) × (n ≡ next_thread own)
made_with p t n own is =
    let given = is_given (can_make_thread t own) (next_thread own) n is in
    (ap (λ b. made_if b p own) given.0, given.1)

pub not_made : (p t : ℕ) (own : ProcessState) → None ≡ new_thread t own → made_in p t (Some own) ≡ made_if false p own
not_made p t own is = ap (λ b. made_if b p own) (is_not_given (can_make_thread t own) (next_thread own) is)

pub drawn_with : (constants : Constants) (p length words n : ℕ) (own : ProcessState) → words ≡ words_of length → Some n ≡ words_after words own
    → (drawn_by constants p (Some own) length ≡ drawn_if true constants p own length) × (n ≡ own.counts.words + words_of length)
drawn_with constants p length words n own same is =
    let given = is_given (can_draw (words_of length) own) (own.counts.words + words_of length) n (is ∙ ap (λ k. words_after k own) same) in
    (ap (λ b. drawn_if b constants p own length) given.0, given.1)

pub not_drawn : (constants : Constants) (p length words : ℕ) (own : ProcessState) → words ≡ words_of length → None ≡ words_after words own
    → drawn_by constants p (Some own) length ≡ drawn_if false constants p own length
not_drawn constants p length words own same is =
    ap (λ b. drawn_if b constants p own length)
    (is_not_given (can_draw (words_of length) own) (own.counts.words + words_of length) (is ∙ ap (λ k. words_after k own) same))

-- ---- a new thread

none_there : (o : Option Thread) → not (is_some o) ≡ true → o ≡ None
none_there None fresh = refl
none_there (Some thread) fresh = absurd (not_true fresh)

both : (a b : Bool) → (a && b) ≡ true → (a ≡ true) × (b ≡ true)
both true b h = (refl, h)
both false b h = absurd (not_true h)

-- no thread has the number that one is given, it is low, and there are fewer than 64
pub can_be_given : (t n : ℕ) (own : ProcessState) → Some n ≡ new_thread t own → (get own.threads n ≡ None) × (n < 2 ^ 30) × (len own.threads < 64)
can_be_given t n own is =
    let given = is_given (can_make_thread t own) (next_thread own) n is in
    let can = both (is_some (get own.threads t)) (nat_lt (len own.threads) 64 && has_next_number own) given.0 in
    let rest = both (nat_lt (len own.threads) 64) (has_next_number own) can.1 in
    let number = both (not (is_some (get own.threads (next_thread own)))) (nat_lt (next_thread own) (2 ^ 30 - 1)) rest.1 in
    let same = given.1 in
    let low = ltb-true (next_thread own) (2 ^ 30 - 1) number.1 in
    let few = ltb-true (len own.threads) 64 rest.0 in
    (ap (get own.threads) same ∙ none_there (get own.threads (next_thread own)) number.0, omega (arith, low, same), few)
