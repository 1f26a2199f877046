-- What tests of bytes say.
use Rattle.std.proofs.Common.{◌≡◌, ℕ, ◌<◌, ◌≤◌, Bool, true, eqb, leb, not, List, [], ◌∷◌, length, Result, Ok, Err, refl, sym, ap, arith}
use Rattle.std.proofs.Math.Dec.{eqb-suc-zero}
use Rattle.std.proofs.lemmas.Bool.{and_from, and_parts, false_from_ne_true, false≢true, le-leb, leb-true, lt-ltb, ltb-true}
use Rattle.std.proofs.lemmas.Str.{IsUtf8-from_is_utf8, is_utf8-from_IsUtf8}
use Rattle.std.specs.List.{AllByRecursion, list_all}
use Rattle.std.specs.Result.{MatchResult, is_ok}
use Rattle.std.specs.Str.{IsUtf8, is_utf8}
use Rattle.tree_records.specs.Reading.{is_sized}

-- what a call that makes a text of bytes says of the test
pub utf8_reported : {A E : Type 0} (bytes : List ℕ) (Q : A → Type 0) (R : E → Type 0) (r : Result A E)
    → MatchResult r (λ s. Q s × IsUtf8 bytes) (λ e. (IsUtf8 bytes → ⊥) × R e) → is_ok r ≡ is_utf8 bytes
utf8_reported bytes Q R (Ok s) h = sym (is_utf8-from_IsUtf8 bytes h.1)
utf8_reported bytes Q R (Err e) h = sym (false_from_ne_true (is_utf8 bytes) (λ is. h.0 (IsUtf8-from_is_utf8 bytes is)))

-- a test that each passes, and what it says of each
pub all_from_test : {X : Type 0} (p : X → Bool) (P : X → Type 0) → ((x : X) → p x ≡ true → P x) → (xs : List X) → list_all p xs ≡ true → AllByRecursion P xs
all_from_test p P says [] h = tt
all_from_test p P says (x ∷ xs) h = let both = and_parts (p x) (list_all p xs) h in (says x both.0, all_from_test p P says xs both.1)

pub test_from_all : {X : Type 0} (p : X → Bool) (P : X → Type 0) → ((x : X) → P x → p x ≡ true) → (xs : List X) → AllByRecursion P xs → list_all p xs ≡ true
test_from_all p P says [] h = refl
test_from_all p P says (x ∷ xs) h = and_from (p x) (list_all p xs) (says x h.0) (test_from_all p P says xs h.1)

pub all_both : {X : Type 0} (P Q R : X → Type 0) → ((x : X) → P x → Q x → R x) → (xs : List X) → AllByRecursion P xs → AllByRecursion Q xs → AllByRecursion R xs
all_both P Q R join [] p q = tt
all_both P Q R join (x ∷ xs) p q = (join x p.0 q.0, all_both P Q R join xs p.1 q.1)

pub nonzero_from_test : (bytes : List ℕ) → list_all (λ b. leb 1 b) bytes ≡ true → AllByRecursion (λ b. 0 < b) bytes
nonzero_from_test = all_from_test (λ b. leb 1 b) (λ b. 0 < b) (λ b h. ltb-true 0 b h)

pub test_from_nonzero : (bytes : List ℕ) → AllByRecursion (λ b. 0 < b) bytes → list_all (λ b. leb 1 b) bytes ≡ true
test_from_nonzero = test_from_all (λ b. leb 1 b) (λ b. 0 < b) (λ b h. lt-ltb 0 b h)

-- not empty, and not too long
pub sized : (bytes : List ℕ) (most : ℕ) → is_sized bytes most ≡ true → (0 < length bytes) × (length bytes ≤ most)
sized [] most h = absurd (false≢true h)
sized (b ∷ bs) most h =
    let both = and_parts (not (eqb (length (b ∷ bs)) 0)) (leb (length (b ∷ bs)) most) h in
    (omega arith, leb-true (length (b ∷ bs)) most both.1)

pub is_sized_from : (bytes : List ℕ) (most : ℕ) → 0 < length bytes → length bytes ≤ most → is_sized bytes most ≡ true
is_sized_from [] most some short = absurd (omega arith)
is_sized_from (b ∷ bs) most some short =
    and_from (not (eqb (length (b ∷ bs)) 0)) (leb (length (b ∷ bs)) most) (ap not (eqb-suc-zero (length bs))) (le-leb (length (b ∷ bs)) most short)
