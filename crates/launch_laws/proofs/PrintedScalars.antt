-- Scalars in a line: null, booleans, integers and bytes that are encoded are read.
use Rattle.std.proofs.Common.{◌≡◌, ℕ, ℤ, pos, negsuc, zero, suc, ◌+◌, ◌-◌, ◌*◌, ◌/◌, ◌%◌, ◌^◌, ◌<◌, ◌≤◌, ◌==◌, inl, inr, Bool, true, false, ltb, not, ◌&&◌, ◌||◌, if◌then◌else◌, List, [], ◌∷◌, ◌++◌, length, drop, codes, Option, Some, Result, Ok, refl, ap, ◌∙◌, arith}
use Rattle.std.specs.Prelude.{IsTrue, neg_ℤ, nat_eq, replicate, slice_index}
use Rattle.std.specs.Char.{digit_value}
use Rattle.std.specs.Fmt.{decimal, signed_decimal}
use Rattle.std.specs.Int.{IsInRange}
use Rattle.std.specs.List.{AllByRecursion}
use Rattle.std.specs.Str.Parse.{AllDigits, digits_value_after}
use Rattle.std.proofs.Math.Seq.{take-append_seam, drop-append_seam}
use Rattle.std.proofs.lemmas.Bool.{and_parts, cases_eq, cond-false, cond-true, lt-ltb, ltb-true, ne_eqb, or_parts}
use Rattle.std.proofs.lemmas.Bool.Decides.{nat_tests}
use Rattle.std.proofs.lemmas.Fmt.{decimal_is_IsNumeral}
use Rattle.std.proofs.lemmas.Str.{IsUtf8-from_ascii, digit_value_digit}
use Rattle.std.proofs.lemmas.Str.Parse.{tells_digits}
use Rattle.base64.specs.Engines.{standard}
use Rattle.base64.specs.GeneralPurpose.{IsBytes, encode_of}
use Rattle.base64.specs.Rfc4648.{encode_symbols, padding_len}
use Rattle.base64.proofs.EngineFacts.{IsAscii-encode_of, decode_of-encode_of}
use Rattle.lists.specs.Results.{◌>>=◌}
use Rattle.launch_scalars.specs.declared.kind.YamlKind.{YamlKind}
use Rattle.launch_scalars.specs.declared.fault.LineFault.{LineFault}
use Rattle.launch_scalars.specs.Characters.{bad_at}
use Rattle.launch_scalars.specs.Numbers.{is_in_range, is_word, is_below, all_digits, are_digits, number_behind, without_sign, integer_of}
use Rattle.launch_scalars.specs.Numbers as numbers
use Rattle.launch_scalars.specs.Plain.{begins_plain, ends_plain, is_behind_key, plain_length}
use Rattle.launch_scalars.specs.Quoted.{digit_of}
use Rattle.launch_scalars.specs.Results.{at_place}
use Rattle.launch_scalars.specs.Scalars.{Scalar, is_quote, unless_at, plain_at, quoted_scalar, quoted_at, scalar_at}
use Rattle.launch_scalars.specs.Spaces.{is_one_of, begins_with, without_last_spaces}
use Rattle.launch_scalars.proofs.Escaped.{AreNonzero}
use Rattle.launch_values.specs.declared.mode.Mode.{Mode}
use Rattle.launch_values.specs.declared.mode.Mode.TheVariants as modes
use Rattle.launch_values.specs.Documents.{IsText, IsSoundContent}
use Rattle.launch_values.specs.KeySets.{IsScalarKey}
use Rattle.launch_values.specs.Resolution.{decoded, meaning, number_or_text, ranged, resolved, scalar_value}
use Rattle.launch_values.specs.Shape.{Content, null, boolean, integer, text, binary, mapping, sequence}
use Rattle.launch_laws.specs.Printed.{in_quotes, printed_value}
use Rattle.launch_laws.proofs.CleanTexts.{IsClean, bad_none, clean_append, clean_byte, clean_nil, clean_visible}
use Rattle.launch_laws.proofs.PrintedTexts.{clean_quotes, text_read}

-- ---- tests of bytes

-- the test holds of so many numbers from one on
abbrev pub all_from : (ℕ → Bool) → ℕ → ℕ → Bool
all_from test low zero = true
all_from test low (suc count) = test (low + count) && all_from test low count

from_all : (test : ℕ → Bool) (low count : ℕ) → all_from test low count ≡ true → (b : ℕ) → low ≤ b → b < low + count → test b ≡ true
from_all test low zero h b p q = absurd (omega arith)
from_all test low (suc count) h b p q =
    let both = and_parts (test (low + count)) (all_from test low count) h in
    elim (cases_eq b (low + count)) [
      | inl e ↦ ap test e ∙ both.0
      | inr other ↦ from_all test low count both.1 b p (omega arith)
    ]

-- a byte is none of these characters
abbrev pub IsNone : List ℕ → ℕ → Type 0
IsNone characters b = AllByRecursion (λ c. nat_eq b c ≡ false) characters

is_none : (characters : List ℕ) (b : ℕ) → is_one_of characters b ≡ false → IsNone characters b
is_none [] b h = tt
is_none (c ∷ cs) b h = let p = or_parts (nat_eq b c) (is_one_of cs b) h in (p.0, is_none cs b p.1)

pub not_true : (t : Bool) → not t ≡ true → t ≡ false
not_true true h = cc (h)
not_true false h = refl

neither : (t : Bool) → (t && false) ≡ false
neither true = refl
neither false = refl

-- ---- where a plain scalar ends

-- a plain scalar ends before these bytes
abbrev pub IsEnd : Bool → List ℕ → Type 0
IsEnd in_flow rest = plain_length in_flow rest ≡ 0

-- a byte that ends no plain scalar, whatever stands behind it
abbrev pub is_inner : ℕ → Bool
is_inner b = not (b == 32) && (not (b == 58) && not (is_one_of (codes ",[]{}") b))

abbrev pub are_inner : List ℕ → Bool
are_inner [] = true
are_inner (b ∷ bs) = is_inner b && are_inner bs

none_ends : (space colon flow closing comment key : Bool) → space ≡ false → colon ≡ false → closing ≡ false
    → ((space && comment) || (colon && key) || (flow && closing)) ≡ false
none_ends space colon flow closing comment key p q r = rw (p, q, r) (neither flow)

goes_on : (in_flow : Bool) (b : ℕ) (bs : List ℕ) → is_inner b ≡ true → ends_plain in_flow b bs ≡ false
goes_on in_flow b bs h =
    let first = and_parts (not (b == 32)) (not (b == 58) && not (is_one_of (codes ",[]{}") b)) h in
    let second = and_parts (not (b == 58)) (not (is_one_of (codes ",[]{}") b)) first.1 in
    none_ends (b == 32) (b == 58) in_flow (is_one_of (codes ",[]{}") b) (begins_with 35 bs) (is_behind_key in_flow bs)
    (not_true (b == 32) first.0) (not_true (b == 58) second.0) (not_true (is_one_of (codes ",[]{}") b) second.1)

pub inner_length : (in_flow : Bool) (bytes rest : List ℕ) → are_inner bytes ≡ true → IsEnd in_flow rest → plain_length in_flow (bytes ++ rest) ≡ length bytes
inner_length in_flow [] rest h end = end
inner_length in_flow (b ∷ bs) rest h end =
    let p = and_parts (is_inner b) (are_inner bs) h in
    cond-false (ends_plain in_flow b (bs ++ rest)) 0 (suc (plain_length in_flow (bs ++ rest))) (goes_on in_flow b (bs ++ rest) p.0)
    ∙ ap suc (inner_length in_flow bs rest p.1 end)

no_last_spaces : (bytes : List ℕ) → are_inner bytes ≡ true → without_last_spaces bytes ≡ bytes
no_last_spaces [] h = refl
no_last_spaces (b ∷ bs) h =
    let p = and_parts (is_inner b) (are_inner bs) h in
    let first = and_parts (not (b == 32)) (not (b == 58) && not (is_one_of (codes ",[]{}") b)) p.0 in
    let last = length (without_last_spaces bs) == 0 in
    cond-false ((b == 32) && last) [] (b ∷ without_last_spaces bs) (ap (λ (t : Bool). t && last) (not_true (b == 32) first.0))
    ∙ ap (λ (xs : List ℕ). b ∷ xs) (no_last_spaces bs p.1)

-- ---- plain scalars

abbrev plain_whole : List ℕ → List ℕ → Scalar
plain_whole content rest = record { plain = true; content = content; rest = rest }

abbrev read_plain : List ℕ → List ℕ → Result Scalar LineFault
read_plain content rest = Ok (plain_whole content rest)

plain_is : (front rest : List ℕ) → are_inner front ≡ true → IsClean front → plain_at (length front) (front ++ rest) ≡ read_plain front rest
plain_is front rest inner clean =
    let left : ℕ = length (front ++ rest) in
    ap (λ (xs : List ℕ). unless_at left (bad_at xs) (read_plain (without_last_spaces xs) (drop (length front) (front ++ rest)))) (take-append_seam front rest)
    ∙ ap (λ (xs : List ℕ). unless_at left (bad_at front) (read_plain (without_last_spaces front) xs)) (drop-append_seam front rest)
    ∙ ap (λ (xs : List ℕ). unless_at left (bad_at front) (read_plain xs rest)) (no_last_spaces front inner)
    ∙ ap (λ (place : Option ℕ). unless_at left place (read_plain front rest)) (bad_none front clean)

plain_read : (in_flow : Bool) (b : ℕ) (bs rest : List ℕ) → is_quote b ≡ false → begins_plain in_flow b (bs ++ rest) ≡ true → are_inner (b ∷ bs) ≡ true → IsClean (b ∷ bs) → IsEnd in_flow rest
    → scalar_at in_flow (b ∷ bs ++ rest) ≡ read_plain (b ∷ bs) rest
unfolding scalar_at
plain_read in_flow b bs rest quote begins inner clean end =
    let whole : List ℕ = b ∷ bs ++ rest in
    cond-false (is_quote b) (quoted_at b (bs ++ rest)) _ quote
    ∙ cond-true (begins_plain in_flow b (bs ++ rest)) (plain_at (plain_length in_flow whole) whole) _ begins
    ∙ ap (λ (n : ℕ). plain_at n whole) (inner_length in_flow (b ∷ bs) rest inner end)
    ∙ plain_is (b ∷ bs) rest inner clean

-- ---- what scalars mean

pub value_of : (mode : Mode) (in_flow : Bool) (bytes : List ℕ) (s : Scalar) (c : Content) → scalar_at in_flow bytes ≡ Ok s → meaning mode s ≡ Ok c → scalar_value mode in_flow bytes ≡ Ok (c, s.rest)
unfolding scalar_value
value_of mode in_flow bytes s c read means =
    ap (λ (r : Result Scalar LineFault). r >>= λ t. at_place (length bytes) (meaning mode t) >>= λ value. Ok (value, t.rest)) read
    ∙ ap (λ (r : Result Content YamlKind). at_place (length bytes) r >>= λ value. Ok (value, s.rest)) means

word_read : (in_flow : Bool) (b : ℕ) (bs rest : List ℕ) (c : Content) → is_quote b ≡ false → begins_plain in_flow b (bs ++ rest) ≡ true → are_inner (b ∷ bs) ≡ true → IsClean (b ∷ bs) → IsEnd in_flow rest
    → resolved (b ∷ bs) ≡ Ok c → scalar_value modes.Resolved in_flow (b ∷ bs ++ rest) ≡ Ok (c, rest)
word_read in_flow b bs rest c quote begins inner clean end means =
    value_of modes.Resolved in_flow (b ∷ bs ++ rest) (plain_whole (b ∷ bs) rest) c (plain_read in_flow b bs rest quote begins inner clean end) means

null_means : resolved (codes "null") ≡ Ok null
unfolding resolved
null_means = refl

true_means : resolved (codes "true") ≡ Ok (boolean true)
unfolding resolved
true_means = refl

false_means : resolved (codes "false") ≡ Ok (boolean false)
unfolding resolved
false_means = refl

-- ---- digits

digit_is : (b : ℕ) → IsInRange 48 57 b → digit_of b ≡ Some (b - 48)
digit_is b h = cond-true (not (ltb b 48) && ltb b 58) (some_number (b - 48)) _ (grind (arith, nat_tests, h.0, h.1))
  where
    some_number : ℕ → Option ℕ
    some_number n = Some n

digits_all : (ds : List ℕ) → AllDigits 10 ds → all_digits 10 ds ≡ true
digits_all [] h = refl
digits_all (b ∷ bs) h =
    let parts = tells_digits.parts b bs h in
    let range = parts.0 in
    let small : ltb (b - 48) 10 ≡ true = lt-ltb (b - 48) 10 (omega (arith, range.0, range.1)) in
    ap (λ (d : Option ℕ). is_below 10 d && all_digits 10 bs) (digit_is b range) ∙ ap (λ (t : Bool). t && all_digits 10 bs) small ∙ digits_all bs parts.1

digits_number : (n : ℕ) (ds : List ℕ) → AllDigits 10 ds → number_behind 10 n ds ≡ digits_value_after 10 n ds
digits_number n [] h = refl
digits_number n (b ∷ bs) h =
    let parts = tells_digits.parts b bs h in
    let value = digit_value_digit b parts.0 in
    let same : 10 * n + (b - 48) ≡ n * 10 + digit_value b = omega (arith, value) in
    ap (λ (d : Option ℕ). number_behind 10 (10 * n + numbers.digit_value d) bs) (digit_is b parts.0)
    ∙ ap (λ (m : ℕ). number_behind 10 m bs) same ∙ digits_number (n * 10 + digit_value b) bs parts.1

pub digits_inner : (ds : List ℕ) → AllDigits 10 ds → are_inner ds ≡ true
digits_inner [] h = refl
digits_inner (b ∷ bs) h =
    let parts = tells_digits.parts b bs h in
    ap (λ (t : Bool). t && are_inner bs) (from_all is_inner 48 10 refl b parts.0.0 (omega (arith, parts.0.1))) ∙ digits_inner bs parts.1

digits_clean : (ds : List ℕ) → AllDigits 10 ds → IsClean ds
digits_clean [] h = clean_nil
digits_clean (b ∷ bs) h =
    let parts = tells_digits.parts b bs h in
    clean_append (b ∷ []) bs (clean_byte b (omega (arith, parts.0.0)) (omega (arith, parts.0.1))) (digits_clean bs parts.1)

-- ---- integers

-- no word begins with this byte
is_no_word : (b : ℕ) (bs : List ℕ) → b < 58 → (i : ℤ) → integer_of (b ∷ bs) ≡ Some i → IsTrue (is_in_range i) → resolved (b ∷ bs) ≡ Ok (integer i)
unfolding resolved
is_no_word b bs small i is range =
    let tilde = ne_eqb b 126 (λ e. omega arith) in
    let n = ne_eqb b 110 (λ e. omega arith) in
    let upper_n = ne_eqb b 78 (λ e. omega arith) in
    let t = ne_eqb b 116 (λ e. omega arith) in
    let upper_t = ne_eqb b 84 (λ e. omega arith) in
    let f = ne_eqb b 102 (λ e. omega arith) in
    let upper_f = ne_eqb b 70 (λ e. omega arith) in
    let nulls : is_word (codes "~" ∷ codes "null" ∷ codes "Null" ∷ codes "NULL" ∷ []) (b ∷ bs) ≡ false = rw (tilde, n, upper_n) refl in
    let trues : is_word (codes "true" ∷ codes "True" ∷ codes "TRUE" ∷ []) (b ∷ bs) ≡ false = rw (t, upper_t) refl in
    let falses : is_word (codes "false" ∷ codes "False" ∷ codes "FALSE" ∷ []) (b ∷ bs) ≡ false = rw (f, upper_f) refl in
    cond-false (is_word (codes "~" ∷ codes "null" ∷ codes "Null" ∷ codes "NULL" ∷ []) (b ∷ bs)) (means null) _ nulls
    ∙ cond-false (is_word (codes "true" ∷ codes "True" ∷ codes "TRUE" ∷ []) (b ∷ bs)) (means (boolean true)) _ trues
    ∙ cond-false (is_word (codes "false" ∷ codes "False" ∷ codes "FALSE" ∷ []) (b ∷ bs)) (means (boolean false)) (number_or_text (b ∷ bs) (integer_of (b ∷ bs))) falses
    ∙ ap (number_or_text (b ∷ bs)) is ∙ in_range i range
  where
    means : Content → Result Content YamlKind
    means c = Ok c

    in_range : (j : ℤ) → IsTrue (is_in_range j) → ranged j ≡ Ok (integer j)
    in_range j h = cond-true (is_in_range j) (means (integer j)) _ h

abbrev some_integer : ℤ → Option ℤ
some_integer i = Some i

digits_are : (d : ℕ) (ds : List ℕ) → AllDigits 10 (d ∷ ds) → are_digits 10 (d ∷ ds) ≡ true
digits_are d ds h = ap (λ (t : Bool). not t && all_digits 10 (d ∷ ds)) (ne_eqb (length (d ∷ ds)) 0 (λ e. omega arith)) ∙ digits_all (d ∷ ds) h

-- a digit passes a test that the ten characters pass
pub on_digit : (test : ℕ → Bool) → all_from test 48 10 ≡ true → (d : ℕ) (ds : List ℕ) → AllDigits 10 (d ∷ ds) → test d ≡ true
on_digit test all d ds h = let range = (tells_digits.parts d ds h).0 in from_all test 48 10 all d range.0 (omega (arith, range.1))

natural_is : (d : ℕ) (ds : List ℕ) → AllDigits 10 (d ∷ ds) → integer_of (d ∷ ds) ≡ some_integer (pos (digits_value_after 10 0 (d ∷ ds)))
natural_is d ds h =
    let unsigned : is_one_of (codes "+-") d ≡ false = not_true (is_one_of (codes "+-") d) (on_digit (λ b. not (is_one_of (codes "+-") b)) refl d ds h) in
    let bare : without_sign (d ∷ ds) ≡ d ∷ ds = cond-false (is_one_of (codes "+-") d) ds (d ∷ ds) unsigned in
    let no_minus : (d == 45) ≡ false = not_true (d == 45) (on_digit (λ b. not (b == 45)) refl d ds h) in
    let below : ℤ = neg_ℤ (pos (number_behind 10 0 ds)) in
    cond-true (are_digits 10 (without_sign (d ∷ ds))) (some_integer (if d == 45 then below else pos (number_behind 10 0 (without_sign (d ∷ ds))))) _ (ap (are_digits 10) bare ∙ digits_are d ds h)
    ∙ ap some_integer (cond-false (d == 45) below (pos (number_behind 10 0 (without_sign (d ∷ ds)))) no_minus)
    ∙ ap (λ (xs : List ℕ). some_integer (pos (number_behind 10 0 xs))) bare
    ∙ ap (λ (n : ℕ). some_integer (pos n)) (digits_number 0 (d ∷ ds) h)

negative_is : (d : ℕ) (ds : List ℕ) → AllDigits 10 (d ∷ ds) → integer_of (45 ∷ d ∷ ds) ≡ some_integer (neg_ℤ (pos (digits_value_after 10 0 (d ∷ ds))))
negative_is d ds h =
    cond-true (are_digits 10 (d ∷ ds)) (some_integer (neg_ℤ (pos (number_behind 10 0 (d ∷ ds))))) _ (digits_are d ds h)
    ∙ ap (λ (n : ℕ). some_integer (neg_ℤ (pos n))) (digits_number 0 (d ∷ ds) h)

natural_read : (in_flow : Bool) (ds rest : List ℕ) (n : ℕ) → 0 < length ds → AllDigits 10 ds → digits_value_after 10 0 ds ≡ n → IsTrue (is_in_range (pos n)) → IsEnd in_flow rest
    → scalar_value modes.Resolved in_flow (ds ++ rest) ≡ Ok (integer (pos n), rest)
natural_read in_flow [] rest n some h value range end = absurd (omega (arith, some))
natural_read in_flow (d ∷ ds) rest n some h value range end =
    word_read in_flow d ds rest (integer (pos n)) (not_true (is_quote d) (on_digit (λ b. not (is_quote b)) refl d ds h))
    (on_digit (λ b. begins_plain in_flow b (ds ++ rest)) refl d ds h) (digits_inner (d ∷ ds) h) (digits_clean (d ∷ ds) h) end
    (is_no_word d ds (ltb-true d 58 (on_digit (λ b. ltb b 58) refl d ds h)) (pos n) (natural_is d ds h ∙ ap (λ (m : ℕ). some_integer (pos m)) value) range)

negative_read : (in_flow : Bool) (ds rest : List ℕ) (n : ℕ) → 0 < length ds → AllDigits 10 ds → digits_value_after 10 0 ds ≡ suc n → IsTrue (is_in_range (negsuc n)) → IsEnd in_flow rest
    → scalar_value modes.Resolved in_flow (45 ∷ ds ++ rest) ≡ Ok (integer (negsuc n), rest)
negative_read in_flow [] rest n some h value range end = absurd (omega (arith, some))
negative_read in_flow (d ∷ ds) rest n some h value range end =
    word_read in_flow 45 (d ∷ ds) rest (integer (negsuc n)) refl (on_digit (λ b. not (b == 32)) refl d ds h) (digits_inner (d ∷ ds) h)
    (clean_append (45 ∷ []) (d ∷ ds) (clean_visible (45 ∷ []) refl) (digits_clean (d ∷ ds) h)) end
    (is_no_word 45 (d ∷ ds) (omega arith) (negsuc n) (negative_is d ds h ∙ ap (λ (m : ℕ). some_integer (neg_ℤ (pos m))) value) range)

integer_read : (in_flow : Bool) (i : ℤ) (rest : List ℕ) → IsTrue (is_in_range i) → IsEnd in_flow rest → scalar_value modes.Resolved in_flow (signed_decimal i ++ rest) ≡ Ok (integer i, rest)
integer_read in_flow (pos n) rest range end =
    let numeral = decimal_is_IsNumeral n (ltb-true n (2 ^ 64) range) in
    natural_read in_flow (decimal n) rest n numeral.0.0 numeral.0.1 numeral.1 range end
integer_read in_flow (negsuc n) rest range end =
    let below : n < 2 ^ 63 = ltb-true n (2 ^ 63) range in
    let numeral = decimal_is_IsNumeral (suc n) (omega arith) in
    negative_read in_flow (decimal (suc n)) rest n numeral.0.0 numeral.0.1 numeral.1 range end

-- ---- bytes in base64

symbol_some : (k : ℕ) → k < 64 → 0 < slice_index standard.encode_table k
symbol_some k small = ltb-true 0 (slice_index standard.encode_table k) (from_all (λ n. ltb 0 (slice_index standard.encode_table n)) 0 64 refl k (omega arith) (omega arith))

abbrev AreBytes : List ℕ → Type 0
AreBytes bytes = AllByRecursion (λ b. b < 256) bytes

symbols_some : (bytes : List ℕ) → AreBytes bytes → AreNonzero (encode_symbols standard.encode_table bytes)
unfolding encode_symbols
symbols_some [] h = tt
symbols_some (a ∷ []) h = (symbol_some (a / 4) (omega (arith, h.0)), (symbol_some (a % 4 * 16) (omega arith), tt))
symbols_some (a ∷ b ∷ []) h =
    (symbol_some (a / 4) (omega (arith, h.0)), (symbol_some (a % 4 * 16 + b / 16) (omega (arith, h.1.0)), (symbol_some (b % 16 * 4) (omega arith), tt)))
symbols_some (a ∷ b ∷ c ∷ rest) h = (
  symbol_some (a / 4) (omega (arith, h.0)),
  (symbol_some (a % 4 * 16 + b / 16) (omega (arith, h.1.0)), (symbol_some (b % 16 * 4 + c / 64) (omega (arith, h.1.1.0)), (symbol_some (c % 64) (omega arith), symbols_some rest h.1.1.1))),
)

both_some : (xs ys : List ℕ) → AreNonzero xs → AreNonzero ys → AreNonzero (xs ++ ys)
both_some [] ys h k = k
both_some (x ∷ xs) ys h k = (h.0, both_some xs ys h.1 k)

padding_some : (count : ℕ) → AreNonzero (replicate count 61)
padding_some zero = tt
padding_some (suc count) = (omega arith, padding_some count)

bytes_at : (bytes : List ℕ) → AreBytes bytes → IsBytes bytes
bytes_at [] h i = omega arith
bytes_at (b ∷ bs) h zero = h.0
bytes_at (b ∷ bs) h (suc i) = bytes_at bs h.1 i

pub base64_text : (bytes : List ℕ) → AreBytes bytes → IsText (encode_of standard bytes)
base64_text bytes h = (
  IsUtf8-from_ascii (encode_of standard bytes) (IsAscii-encode_of standard bytes),
  both_some (encode_symbols standard.encode_table bytes) (replicate (padding_len (length bytes)) 61) (symbols_some bytes h) (padding_some (padding_len (length bytes))),
)

pub bytes_read : (in_flow : Bool) (bytes rest : List ℕ) → AreBytes bytes → scalar_value modes.Base64 in_flow (in_quotes (encode_of standard bytes) ++ rest) ≡ Ok (binary bytes, rest)
bytes_read in_flow bytes rest h =
    value_of modes.Base64 in_flow (in_quotes (encode_of standard bytes) ++ rest) (quoted_scalar (encode_of standard bytes, rest)) (binary bytes)
    (text_read in_flow (encode_of standard bytes) rest (base64_text bytes h)) (ap decoded (decode_of-encode_of standard bytes refl (bytes_at bytes h)))

-- ---- scalars that may be keys

pub verbatim_read : (in_flow : Bool) (bytes rest : List ℕ) → IsText bytes → scalar_value modes.Verbatim in_flow (in_quotes bytes ++ rest) ≡ Ok (text bytes, rest)
verbatim_read in_flow bytes rest h = value_of modes.Verbatim in_flow (in_quotes bytes ++ rest) (quoted_scalar (bytes, rest)) (text bytes) (text_read in_flow bytes rest h) refl

pub scalar_read : (in_flow : Bool) (c : Content) (rest : List ℕ) → IsScalarKey c → IsSoundContent c → IsEnd in_flow rest
    → scalar_value modes.Resolved in_flow (printed_value c ++ rest) ≡ Ok (c, rest)
scalar_read in_flow null rest key sound end = word_read in_flow 110 (codes "ull") rest null refl refl refl (clean_visible (codes "null") refl) end null_means
scalar_read in_flow (boolean true) rest key sound end = word_read in_flow 116 (codes "rue") rest (boolean true) refl refl refl (clean_visible (codes "true") refl) end true_means
scalar_read in_flow (boolean false) rest key sound end = word_read in_flow 102 (codes "alse") rest (boolean false) refl refl refl (clean_visible (codes "false") refl) end false_means
scalar_read in_flow (integer i) rest key sound end = integer_read in_flow i rest sound end
scalar_read in_flow (text bytes) rest key sound end =
    value_of modes.Resolved in_flow (in_quotes bytes ++ rest) (quoted_scalar (bytes, rest)) (text bytes) (text_read in_flow bytes rest sound) refl
scalar_read in_flow (binary bytes) rest key sound end = cc (key)
scalar_read in_flow (mapping ps) rest key sound end = cc (key)
scalar_read in_flow (sequence xs) rest key sound end = cc (key)

-- ---- what they are

pub scalar_clean : (c : Content) → IsScalarKey c → IsSoundContent c → IsClean (printed_value c)
scalar_clean null key sound = clean_visible (codes "null") refl
scalar_clean (boolean true) key sound = clean_visible (codes "true") refl
scalar_clean (boolean false) key sound = clean_visible (codes "false") refl
scalar_clean (integer (pos n)) key sound = digits_clean (decimal n) (decimal_is_IsNumeral n (ltb-true n (2 ^ 64) sound)).0.1
scalar_clean (integer (negsuc n)) key sound =
    let below : n < 2 ^ 63 = ltb-true n (2 ^ 63) sound in
    clean_append (45 ∷ []) (decimal (suc n)) (clean_visible (45 ∷ []) refl) (digits_clean (decimal (suc n)) (decimal_is_IsNumeral (suc n) (omega arith)).0.1)
scalar_clean (text bytes) key sound = clean_quotes bytes sound
scalar_clean (binary bytes) key sound = cc (key)
scalar_clean (mapping ps) key sound = cc (key)
scalar_clean (sequence xs) key sound = cc (key)

-- bytes that begin with none of these characters
pub record Starts (characters bytes : List ℕ) : Type 0 where
  pub first : ℕ
  pub others : List ℕ
  pub same : bytes ≡ first ∷ others
  pub free : IsNone characters first

-- what no node begins with, and what no scalar does besides
abbrev pub outside : List ℕ
outside = 9 ∷ 10 ∷ 239 ∷ codes " #%,]}"

abbrev pub no_scalar : List ℕ
no_scalar = codes "![{" ++ outside

pub starts_with : (characters : List ℕ) (b : ℕ) (bs : List ℕ) → is_one_of characters b ≡ false → Starts characters (b ∷ bs)
starts_with characters b bs h = record { first = b; others = bs; same = refl; free = is_none characters b h }

digits_start : (ds : List ℕ) → 0 < length ds → AllDigits 10 ds → Starts no_scalar ds
digits_start [] some h = absurd (omega (arith, some))
digits_start (d ∷ ds) some h = starts_with no_scalar d ds (not_true (is_one_of no_scalar d) (on_digit (λ b. not (is_one_of no_scalar b)) refl d ds h))

pub quotes_start : (bytes : List ℕ) → Starts no_scalar (in_quotes bytes)
unfolding in_quotes
quotes_start bytes = starts_with no_scalar 34 _ refl

pub scalar_starts : (c : Content) → IsScalarKey c → IsSoundContent c → Starts no_scalar (printed_value c)
scalar_starts null key sound = starts_with no_scalar 110 _ refl
scalar_starts (boolean true) key sound = starts_with no_scalar 116 _ refl
scalar_starts (boolean false) key sound = starts_with no_scalar 102 _ refl
scalar_starts (integer (pos n)) key sound = let numeral = decimal_is_IsNumeral n (ltb-true n (2 ^ 64) sound) in digits_start (decimal n) numeral.0.0 numeral.0.1
scalar_starts (integer (negsuc n)) key sound = starts_with no_scalar 45 _ refl
scalar_starts (text bytes) key sound = quotes_start bytes
scalar_starts (binary bytes) key sound = cc (key)
scalar_starts (mapping ps) key sound = cc (key)
scalar_starts (sequence xs) key sound = cc (key)
