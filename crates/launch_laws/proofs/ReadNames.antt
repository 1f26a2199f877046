-- The name of a tag that is read is UTF-8 without control characters.
use Rattle.std.proofs.Common.{◌≡◌, ℕ, suc, ◌+◌, ◌/◌, ◌%◌, ◌<◌, ◌≤◌, ◌==◌, ◌&&◌, ◌||◌, if◌then◌else◌, Bool, true, false, ltb, List, [], ◌∷◌, ◌++◌, length, take, drop, codes, Option, Some, None, Result, Ok, refl, ap, ◌∙◌, arith}
use Rattle.std.specs.Prelude.{IfOk}
use Rattle.std.specs.Char.{encode_utf8, is_control}
use Rattle.std.specs.List.{AllByRecursion}
use Rattle.std.specs.Str.{IsUtf8, chars}
use Rattle.std.proofs.Math.Utf8.{encodes}
use Rattle.std.proofs.lemmas.Bool.{eq-eqb, le-ltb, lt-ltb, or_parts}
use Rattle.std.proofs.lemmas.Bool.Decides.{nat_tests}
use Rattle.std.proofs.lemmas.Str.{encodes-chars}
use Rattle.lists.proofs.Steps.{on_both}
use Rattle.launch_scalars.specs.declared.kind.YamlKind.TheVariants as kinds
use Rattle.launch_scalars.specs.declared.fault.LineFault.{LineFault}
use Rattle.launch_scalars.specs.Characters.{is_upper_control, control_at, invalid_at, earlier, bad_at}
use Rattle.launch_scalars.specs.Results.{fault}
use Rattle.launch_scalars.specs.Scalars.{unless_at}
use Rattle.launch_scalars.specs.Spaces.{is_one_of}
use Rattle.launch_scalars.proofs.ScalarSteps.{good_utf8}
use Rattle.launch_values.specs.Tags.{Tag, named, bytes_in_base64, ends_name, name_length, is_name, is_binary, tag_at}
use Rattle.launch_laws.specs.Printed.{IsTagName}
use Rattle.launch_laws.proofs.CleanTexts.{calm_parts, either}

-- ---- characters in bytes of which none is bad

first_none : (m n : Option ℕ) → earlier m n ≡ None → m ≡ None
first_none None n e = refl
first_none (Some a) None e = cc (e)
first_none (Some a) (Some b) e = cc (e)

calm_good : (bytes : List ℕ) → bad_at bytes ≡ None → control_at bytes ≡ None
unfolding bad_at
calm_good bytes e = first_none (control_at bytes) (invalid_at bytes) e

calm_behind : (xs ys : List ℕ) → control_at (xs ++ ys) ≡ None → control_at ys ≡ None
calm_behind [] ys e = e
calm_behind (x ∷ xs) ys e = calm_behind xs ys (calm_parts x (xs ++ ys) e).1

-- a control character of ASCII, and one of two bytes
low_control : (c : ℕ) (rest : List ℕ) → c < 128 → is_control c ≡ true → control_at (c ∷ rest) ≡ None → ⊥
low_control c rest small h e =
    let sides = or_parts (ltb c 32 || (c == 127)) ((c == 194) && is_upper_control rest) (calm_parts c rest e).0 in
    let parts = or_parts (ltb c 32) (c == 127) sides.0 in
    grind (arith, nat_tests, h, small, parts.0, parts.1)

high_control : (c : ℕ) (rest : List ℕ) → 128 ≤ c → c < 160 → control_at ((192 + c / 64) ∷ (128 + c % 64) ∷ rest) ≡ None → ⊥
high_control c rest low high e =
    let lead : ℕ = 192 + c / 64 in
    let behind : List ℕ = (128 + c % 64) ∷ rest in
    let sides = or_parts (ltb lead 32 || (lead == 127)) ((lead == 194) && is_upper_control behind) (calm_parts lead behind e).0 in
    let is : (lead == 194) ≡ true = eq-eqb lead 194 (omega (arith, low, high)) in
    let from : ltb (128 + c % 64) 128 ≡ false = le-ltb (128 + c % 64) 128 (omega arith) in
    let to : ltb (128 + c % 64) 160 ≡ true = lt-ltb (128 + c % 64) 160 (omega (arith, low, high)) in
    let all : ((lead == 194) && is_upper_control behind) ≡ true = rw (is, from, to) refl in
    absurd (differ _ sides.1 all)
  where
    differ : (t : Bool) → t ≡ false → t ≡ true → ⊥
    differ true e f = cc (e)
    differ false e f = cc (f)

-- a control character is bad
control_bad : (c : ℕ) (rest : List ℕ) → is_control c ≡ true → control_at (encode_utf8 c ++ rest) ≡ None → ⊥
unfolding encode_utf8
control_bad c rest h =
    let below : c < 160 = grind (arith, nat_tests, h) in
    either (λ (xs : List ℕ). control_at (xs ++ rest) ≡ None → ⊥) (ltb c 128) (c ∷ []) _
    (λ small e. low_control c rest (grind (arith, nat_tests, small)) h e)
    (λ large. either (λ (xs : List ℕ). control_at (xs ++ rest) ≡ None → ⊥) (ltb c 2048) ((192 + c / 64) ∷ (128 + c % 64) ∷ []) _
    (λ two e. high_control c rest (grind (arith, nat_tests, large)) below e)
    (λ more e. grind (arith, nat_tests, more, below)))

no_controls : (cs : List ℕ) → control_at (encodes cs) ≡ None → AllByRecursion (λ c. is_control c ≡ false) cs
no_controls [] e = tt
no_controls (c ∷ cs) e = (by_test (is_control c) refl, no_controls cs (calm_behind (encode_utf8 c) (encodes cs) e))
  where
    by_test : (t : Bool) → is_control c ≡ t → is_control c ≡ false
    by_test false is = is
    by_test true is = absurd (control_bad c (encodes cs) is e)

good_characters : (bytes : List ℕ) → bad_at bytes ≡ None → IsUtf8 bytes × AllByRecursion (λ c. is_control c ≡ false) (chars bytes)
good_characters bytes e =
    let utf8 = good_utf8 bytes e in
    (utf8, no_controls (chars bytes) (ap control_at (encodes-chars bytes utf8) ∙ calm_good bytes e))

-- ---- tags

-- no space is in what is taken for a name, in a flow value and on rows
no_spaces : (in_flow : Bool) (bytes : List ℕ) → AllByRecursion (λ b. ends_name false b ≡ false) (take (name_length in_flow bytes) bytes)
no_spaces in_flow [] = tt
no_spaces in_flow (b ∷ bs) = by_test (ends_name in_flow b) refl (no_spaces in_flow bs)
  where
    by_test : (t : Bool) → ends_name in_flow b ≡ t → AllByRecursion (λ c. ends_name false c ≡ false) (take (name_length in_flow bs) bs)
        → AllByRecursion (λ c. ends_name false c ≡ false) (take (if t then 0 else suc (name_length in_flow bs)) (b ∷ bs))
    by_test true is rest = tt
    by_test false is rest = (ap (λ (t : Bool). t || false) (or_parts (b == 32) (in_flow && is_one_of (codes ",[]{}") b) is).0, rest)

-- what a tag that was read may be called
abbrev pub IsReadTag : Tag → Type 0
IsReadTag (named name) = IsTagName false name
IsReadTag bytes_in_base64 = Unit {0}

pub tag_is_read : (in_flow : Bool) (bytes : List ℕ) → IfOk (tag_at in_flow bytes) (λ t. IsReadTag t.0)
unfolding tag_at
tag_is_read in_flow bytes =
    on_both (λ (t : Tag × List ℕ). IsReadTag t.0) (is_binary (take (name_length in_flow bytes) bytes)) (Ok (bytes_in_base64, drop (name_length in_flow bytes) bytes)) (if_name (is_name (take (name_length in_flow bytes) bytes))) tt
    (by_name (is_name (take (name_length in_flow bytes) bytes)) refl)
  where
    name : List ℕ
    name = take (name_length in_flow bytes) bytes

    good : Result (Tag × List ℕ) LineFault
    good = Ok (named (take (name_length in_flow bytes) bytes), drop (name_length in_flow bytes) bytes)

    if_name : Bool → Result (Tag × List ℕ) LineFault
    if_name t = if t then unless_at (length bytes) (bad_at (take (name_length in_flow bytes) bytes)) good else fault (suc (length bytes)) kinds.Tag

    by_bad : is_name (take (name_length in_flow bytes) bytes) ≡ true → (bad : Option ℕ) → bad_at (take (name_length in_flow bytes) bytes) ≡ bad → IfOk (unless_at (length bytes) bad good) (λ t. IsReadTag t.0)
    by_bad is (Some n) h = tt
    by_bad is None h = let cs = good_characters name h in (cs.0, cs.1, is, no_spaces in_flow bytes)

    by_name : (t : Bool) → is_name (take (name_length in_flow bytes) bytes) ≡ t → IfOk (if_name t) (λ t. IsReadTag t.0)
    by_name false is = tt
    by_name true is = by_bad is (bad_at name) refl
