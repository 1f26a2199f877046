-- A field of 20 bits at its place in a word.
use Rattle.std.proofs.Common.{◌≡◌, ℕ, ◌*◌, ◌<◌, ◌≤◌, Bool, true, false, cond, ℤ, pos, ◌-ℤ◌, ◌*ℤ◌, nat_lt, refl, ap, ◌∙◌, arith}
use Rattle.std.proofs.lemmas.Bool.Decides.{nat_tests}
use Rattle.std.proofs.lemmas.Int.{ints}
use Rattle.rv_code.specs.Immediates.{signed_at}

-- a test of numbers, by what it says
is_below : (a b : ℕ) → a < b → nat_lt a b ≡ true
is_below a b h = grind (arith, nat_tests)

is_not_below : (a b : ℕ) → b ≤ a → nat_lt a b ≡ false
is_not_below a b h = grind (arith, nat_tests)

below : (a b : ℕ) → nat_lt a b ≡ true → a < b
below a b h = grind (arith, nat_tests)

not_below : (a b : ℕ) → nat_lt a b ≡ false → b ≤ a
not_below a b h = grind (arith, nat_tests)

-- a field of 20 bits at its place in 32
signed_cases : (f : ℕ) (h : ℤ) (b : Bool) → nat_lt f 524288 ≡ b → cond b (pos f) (pos f -ℤ pos (2 * 524288)) ≡ h → signed_at 2147483648 (f * 4096) ≡ pos 4096 *ℤ h
signed_cases f h true small is =
    let less : f < 524288 = below f 524288 small in
    ap (λ b. cond b (pos (f * 4096)) (pos (f * 4096) -ℤ pos (2 * 2147483648))) (is_below (f * 4096) 2147483648 (omega arith)) ∙ omega (arith, ints)
signed_cases f h false great is =
    let more : 524288 ≤ f = not_below f 524288 great in
    ap (λ b. cond b (pos (f * 4096)) (pos (f * 4096) -ℤ pos (2 * 2147483648))) (is_not_below (f * 4096) 2147483648 (omega arith)) ∙ omega (arith, ints)

pub at_place : (f : ℕ) (h : ℤ) → signed_at 524288 f ≡ h → signed_at 2147483648 (f * 4096) ≡ pos 4096 *ℤ h
at_place f h is = signed_cases f h (nat_lt f 524288) refl is
