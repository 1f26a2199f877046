-- What keeps at most one open of a process, and at most one end of each side of a channel.
--     PassesAsBefore, one_still      where each open that passes a test passed it before, still at most one does
--     one_more      so it is with one open more, or another value of one, that passes no test that was not passed there
--     more_sole      and with one that is of no process and no end of a channel
use Rattle.std.proofs.Common.{◌≡◌, ℕ, Bool, true, false, Option, Some, inl, inr, sym, ap, subst, ◌∙◌}
use Rattle.std.proofs.lemmas.Bool.Decides.{eqb_tells}
use Rattle.std.specs.Ordering.{nat_cmp}
use Rattle.std.specs.FinMap.{FinMap, get, insert}
use Rattle.abi_types.specs.declared.open_kind.OpenKind.{OpenKind}
use Rattle.maps.specs.Maps.{get-insert-same, get-insert-other}
use Rattle.kernel_model.specs.Release.{is_of_process, is_reader, is_writer}
use Rattle.kernel_model.specs.Valid.{AreSole, AtMostOne}
use Rattle.kernel_model.proofs.Tests.{not_true}

-- each open that passes a test after passed it before
abbrev pub PassesAsBefore : (Option OpenKind → Bool) → FinMap nat_cmp OpenKind → FinMap nat_cmp OpenKind → Type 0
PassesAsBefore test before after = (o : ℕ) → test (get after o) ≡ true → test (get before o) ≡ true

pub one_still : (test : Option OpenKind → Bool) (before after : FinMap nat_cmp OpenKind) → PassesAsBefore test before after → AtMostOne test before → AtMostOne test after
one_still test before after passes one o r h k = one o r (passes o h) (passes r k)

-- an open with this value passes no test that the one before it did not pass
passes_inserted : (test : Option OpenKind → Bool) (opens : FinMap nat_cmp OpenKind) (o : ℕ) (new : OpenKind) → (test (Some new) ≡ true → test (get opens o) ≡ true)
    → PassesAsBefore test opens (insert opens o new)
passes_inserted test opens o new passes r h =
    elim (eqb_tells r o) [
      | inl is ↦ subst (λ j. test (get opens j) ≡ true) (sym is.1)
          (passes (ap test (sym (get-insert-same opens o new)) ∙ subst (λ j. test (get (insert opens o new) j) ≡ true) is.1 h))
      | inr other ↦ ap test (sym (get-insert-other opens o new r other.1)) ∙ h
    ]

pub one_more : (test : Option OpenKind → Bool) (opens : FinMap nat_cmp OpenKind) (o : ℕ) (new : OpenKind) → (test (Some new) ≡ true → test (get opens o) ≡ true)
    → AtMostOne test opens → AtMostOne test (insert opens o new)
one_more test opens o new passes = one_still test opens (insert opens o new) (passes_inserted test opens o new passes)

-- it passes none at all
never : {X : Type 0} (b : Bool) → b ≡ false → b ≡ true → X
never b fails passes = absurd (not_true (sym fails ∙ passes))

-- an open that is of no process and no end of a channel leaves each of these one
pub more_sole : (opens : FinMap nat_cmp OpenKind) (o : ℕ) (new : OpenKind)
    → ((k : ℕ) → (is_of_process k (Some new) ≡ false) × (is_reader k (Some new) ≡ false) × (is_writer k (Some new) ≡ false)) → AreSole opens
    → AreSole (insert opens o new)
more_sole opens o new none sole k = (
  one_more (is_of_process k) opens o new (never (is_of_process k (Some new)) (none k).0) (sole k).0,
  one_more (is_reader k) opens o new (never (is_reader k (Some new)) (none k).1) (sole k).1,
  one_more (is_writer k) opens o new (never (is_writer k (Some new)) (none k).2) (sole k).2,
)
