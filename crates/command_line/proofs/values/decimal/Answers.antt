use Rattle.std.proofs.Common.{◌≡◌, ◌<◌, ◌≤◌, ◌∙◌, ◌==◌, ℕ, true, not, List, nat_le, refl, ap, arith, rules}
use Rattle.std.specs.Prelude.{Result, Ok}
use Rattle.std.specs.Char.{is_ascii_digit}
use Rattle.std.specs.List.{list_all}
use Rattle.std.specs.Result.{result_ok}
use Rattle.std.specs.Str.Parse.{ParsesUnsigned, digits_value}
use Rattle.std.proofs.lemmas.Bool.{and_parts}
use Rattle.std.proofs.lemmas.Bool.Decides.{nat_tests}
use Rattle.std.proofs.lemmas.Str.Parse.{IsNumeralModel, digits_value_short, numerals_by_value, parse_gives}
use Rattle.command_line.specs.Values.{is_decimal}
use Rattle.command_line.proofs.values.decimal.Goals as goal

digits : IsNumeralModel (λ ds. list_all is_ascii_digit ds ≡ true) (digits_value 10)
digits = numerals_by_value _ (search rules)

not_empty : (n : ℕ) → not (n == 0) ≡ true → 0 < n
not_empty n h = grind (arith, nat_tests)

at_most : (n : ℕ) → nat_le n 19 ≡ true → n ≤ 19
at_most n h = grind (arith, nat_tests)

gives : {E : Type 0} (bs : List ℕ) (r : Result ℕ E) → ParsesUnsigned 64 10 bs r → is_decimal bs ≡ true → r ≡ Ok (digits_value 10 bs)
gives bs r h e =
    let parts = and_parts _ _ e in
    let sizes = and_parts _ _ parts.0 in
    let small = digits_value_short digits bs 19 parts.1 (at_most _ sizes.1) in
    parse_gives digits 64 bs r h parts.1 (not_empty _ sizes.0) (omega (arith, small))

pub returns-then-is_decimal : goal.returns-then-is_decimal
returns-then-is_decimal c =
    let test : is_decimal c.args.text.now ≡ true = search rules in
    c.ok.ensures.value ∙ ap result_ok (gives c.args.text.now _ c.parse.ensures.value.0 test)
    ∙ rw test refl
