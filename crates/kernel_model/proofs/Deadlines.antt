-- Deadlines that have come, and those that count.
--     due_later      a deadline that has come has come at each later moment
--     soon_is_soon, soon_is, soon_kept      a deadline that counts is before 2^62, and it is what it was; and each such one counts
--     jump_goes_on, jump_is_bounded, jump_reaches      how far an idle jump goes
use Rattle.std.proofs.Common.{◌≡◌, ◌⊎◌, ℕ, ◌+◌, ◌^◌, ◌<◌, ◌≤◌, true, false, not, inl, inr, Option, Some, None, refl, ap, subst, arith}
use Rattle.std.proofs.lemmas.Bool.{lt-ltb, ltb-true, ltb-false}
use Rattle.std.specs.Prelude.{nat_lt, if◌then◌else◌}
use Rattle.kernel_model.specs.Deadlines.{is_due, jumped_to, soon}
use Rattle.kernel_model.proofs.Tests.{none_is_no, not_true, same_some}

-- a test that says that a moment is not before another
not_before : (now until : ℕ) → not (nat_lt now until) ≡ true → until ≤ now
not_before now until h =
    elim (nat_lt now until) as (λ b. nat_lt now until ≡ b → not b ≡ true → until ≤ now) [
      | true ↦ λ e i. absurd (not_true i)
      | false ↦ λ e i. ltb-false now until e
    ] refl h

at_or_after : (now until : ℕ) → until ≤ now → not (nat_lt now until) ≡ true
at_or_after now until h =
    elim (nat_lt now until) as (λ b. nat_lt now until ≡ b → not b ≡ true) [
      | true ↦ λ e. let before = ltb-true now until e in absurd (omega (arith, before, h))
      | false ↦ λ e. refl
    ] refl

pub due_later : (before now : ℕ) (until : Option ℕ) → before ≤ now → is_due before until ≡ true → is_due now until ≡ true
due_later before now None later due = absurd (not_true due)
due_later before now (Some until) later due =
    let come = not_before before until due in at_or_after now until (omega (arith, come, later))

pub due_at : (now until : ℕ) → until ≤ now → is_due now (Some until) ≡ true
due_at now until come = at_or_after now until come

pub soon_is_soon : (deadline : Option ℕ) (until : ℕ) → soon deadline ≡ Some until → until < 2 ^ 62
soon_is_soon None until e = absurd (none_is_no until e)
soon_is_soon (Some d) until e =
    elim (nat_lt d (2 ^ 62)) as (λ b. nat_lt d (2 ^ 62) ≡ b → (if b then Some d else None) ≡ Some until → until < 2 ^ 62) [
      | true ↦ λ l i. subst (λ n. n < 2 ^ 62) (same_some d until i) (ltb-true d (2 ^ 62) l)
      | false ↦ λ l i. absurd (none_is_no until i)
    ] refl e

pub soon_is : (deadline : Option ℕ) (until : ℕ) → soon deadline ≡ Some until → deadline ≡ Some until
soon_is None until e = e
soon_is (Some d) until e =
    elim (nat_lt d (2 ^ 62)) as (λ b. (if b then Some d else None) ≡ Some until → Some d ≡ Some until) [
      | true ↦ λ i. i
      | false ↦ λ i. absurd (none_is_no until i)
    ] e

pub soon_kept : (d : ℕ) → d < 2 ^ 62 → soon (Some d) ≡ Some d
soon_kept d h = ap (λ b. if b then Some d else None) (lt-ltb d (2 ^ 62) h)

-- ---- idle jumps

pub jump_goes_on : (now : ℕ) (least : Option ℕ) → now + 1000 ≤ jumped_to now least
jump_goes_on now None = omega arith
jump_goes_on now (Some until) =
    elim (nat_lt (now + 1000) until) as (λ b. nat_lt (now + 1000) until ≡ b → now + 1000 ≤ (if b then until else now + 1000)) [
      | true ↦ λ e. let later = ltb-true (now + 1000) until e in omega (arith, later)
      | false ↦ λ e. omega arith
    ] refl

pub jump_is_bounded : (now : ℕ) (least : Option ℕ) → (jumped_to now least ≡ now + 1000) ⊎ (least ≡ Some (jumped_to now least))
jump_is_bounded now None = inl refl
jump_is_bounded now (Some until) =
    elim (nat_lt (now + 1000) until) as (λ b. ((if b then until else now + 1000) ≡ now + 1000) ⊎ (Some until ≡ Some (if b then until else now + 1000))) [
      | true ↦ inr refl
      | false ↦ inl refl
    ]

pub jump_reaches : (now until : ℕ) → until ≤ jumped_to now (Some until)
jump_reaches now until =
    elim (nat_lt (now + 1000) until) as (λ b. nat_lt (now + 1000) until ≡ b → until ≤ (if b then until else now + 1000)) [
      | true ↦ λ e. omega arith
      | false ↦ λ e. ltb-false (now + 1000) until e
    ] refl
