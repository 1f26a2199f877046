-- What base64 decodes to are bytes.
use Rattle.std.proofs.Common.{◌≡◌, ℕ, zero, suc, ◌+◌, ◌*◌, ◌/◌, ◌%◌, ◌<◌, inl, inr, true, ltb, List, [], ◌∷◌, ◌++◌, length, take, drop, slice_index, Option, Some, None, Result, Ok, Err, refl, sym, subst, arith}
use Rattle.std.specs.Prelude.{IfOk}
use Rattle.std.specs.Char.{encode_utf8, IsScalar}
use Rattle.std.specs.List.{AllByRecursion}
use Rattle.std.specs.Str.{IsUtf8, chars}
use Rattle.std.proofs.Math.Utf8.{encodes, scalars}
use Rattle.std.proofs.lemmas.Bool.{and_parts, eq-eqb}
use Rattle.std.proofs.lemmas.Bool.Decides.{nat_tests}
use Rattle.std.proofs.lemmas.Str.{encodes-chars, scalars-chars}
use Rattle.base64.specs.declared.decode.DecodeError.{DecodeError}
use Rattle.base64.specs.Decode.{decode_group, or_else, symbol_error, group_error, group_bytes, groups_error, groups_bytes, groups_before_last, no_leftover, push_leftover, scan, scan_bytes, leftover_bytes, suffix_bytes, decoded_bytes, decode_outcome, IsDecodeTable}
use Rattle.base64.specs.Engines.{standard}
use Rattle.base64.specs.GeneralPurpose.{decode_of}
use Rattle.base64.proofs.Decoding.{IsLeftover, IsLeftover_next, scan-cons_err, scan-cons_ok, scan-nil}
use Rattle.base64.proofs.Tables.{are_tables_inverse, IsDecodeTable_from}
use Rattle.launch_laws.proofs.CleanTexts.{either}

abbrev pub AreBytes : List ℕ → Type 0
AreBytes bytes = AllByRecursion (λ b. b < 256) bytes

both_bytes : (xs ys : List ℕ) → AreBytes xs → AreBytes ys → AreBytes (xs ++ ys)
both_bytes [] ys h k = k
both_bytes (x ∷ xs) ys h k = (h.0, both_bytes xs ys h.1 k)

fewer_bytes : (count : ℕ) (xs : List ℕ) → AreBytes xs → AreBytes (take count xs)
fewer_bytes zero xs h = tt
fewer_bytes (suc count) [] h = tt
fewer_bytes (suc count) (x ∷ xs) h = (h.0, fewer_bytes count xs h.1)

later_bytes : (count : ℕ) (xs : List ℕ) → AreBytes xs → AreBytes (drop count xs)
later_bytes zero xs h = h
later_bytes (suc count) [] h = tt
later_bytes (suc count) (x ∷ xs) h = later_bytes count xs h.1

-- ---- texts are bytes

encoded_bytes : (c : ℕ) → IsScalar c → AreBytes (encode_utf8 c)
unfolding encode_utf8
encoded_bytes c scalar =
    let high : c < 1114112 = grind (arith, nat_tests, scalar) in
    either AreBytes (ltb c 128) (c ∷ []) _ (λ small. let is : c < 128 = grind (arith, nat_tests, small) in (omega (arith, is), tt))
    (λ large. either AreBytes (ltb c 2048) ((192 + c / 64) ∷ (128 + c % 64) ∷ []) _ (λ two. let is : c < 2048 = grind (arith, nat_tests, two) in (omega (arith, is), (omega arith, tt)))
    (λ more. either AreBytes (ltb c 65536) ((224 + c / 4096) ∷ (128 + c / 64 % 64) ∷ (128 + c % 64) ∷ []) ((240 + c / 262144) ∷ (128 + c / 4096 % 64) ∷ (128 + c / 64 % 64) ∷ (128 + c % 64) ∷ [])
    (λ three. let is : c < 65536 = grind (arith, nat_tests, three) in (omega (arith, is), (omega arith, (omega arith, tt))))
    (λ four. (omega (arith, high), (omega arith, (omega arith, (omega arith, tt)))))))

characters_bytes : (cs : List ℕ) → scalars cs ≡ true → AreBytes (encodes cs)
characters_bytes [] e = tt
characters_bytes (c ∷ cs) e =
    let p = and_parts _ _ e in
    both_bytes (encode_utf8 c) (encodes cs) (encoded_bytes c p.0) (characters_bytes cs p.1)

text_bytes : (bytes : List ℕ) → IsUtf8 bytes → AreBytes bytes
text_bytes bytes utf8 = subst AreBytes (encodes-chars bytes utf8) (characters_bytes (chars bytes) (scalars-chars bytes utf8))

-- ---- groups of symbols

standard_table : IsDecodeTable standard.decode_table
standard_table = IsDecodeTable_from standard.encode_table standard.decode_table (are_tables_inverse standard.encode_table standard.decode_table standard.padding.value standard.tables)

both_none : (a b : Option DecodeError) → or_else a b ≡ None → (a ≡ None) × (b ≡ None)
both_none None b e = (refl, e)
both_none (Some a) b e = cc (e)

byte_at : (s : List ℕ) (i : ℕ) → AreBytes s → slice_index s i < 256
byte_at [] i h = omega arith
byte_at (b ∷ bs) zero h = h.0
byte_at (b ∷ bs) (suc i) h = byte_at bs i h.1

symbol_value : (dec s : List ℕ) (i : ℕ) → IsDecodeTable dec → AreBytes s → symbol_error dec s i ≡ None → slice_index dec (slice_index s i) < 64
symbol_value dec s i table bytes e = elim (table (slice_index s i) (byte_at s i bytes)) [
  | inl none ↦ cc (rw (eq-eqb (slice_index dec (slice_index s i)) 255 none) at e)
  | inr small ↦ small
]

four_values : (a b c d : ℕ) → a < 64 → b < 64 → c < 64 → d < 64 → AreBytes (decode_group a b c d)
four_values a b c d p q r s = (omega (arith, p, q), (omega (arith, q, r), (omega (arith, r, s), tt)))

group_is : (dec s : List ℕ) (i : ℕ) → IsDecodeTable dec → AreBytes s → group_error dec s i ≡ None → AreBytes (group_bytes dec s i)
group_is dec s i table bytes e =
    let first = both_none _ _ e in
    let second = both_none _ _ first.1 in
    let third = both_none _ _ second.1 in
    four_values _ _ _ _ (symbol_value dec s i table bytes first.0) (symbol_value dec s (i + 1) table bytes second.0)
    (symbol_value dec s (i + 2) table bytes third.0) (symbol_value dec s (i + 3) table bytes third.1)

groups_are : (dec s : List ℕ) (count : ℕ) → IsDecodeTable dec → AreBytes s → groups_error dec s count ≡ None → AreBytes (groups_bytes dec s count)
unfolding groups_error groups_bytes
groups_are dec s zero table bytes e = tt
groups_are dec s (suc count) table bytes e =
    let parts = both_none (groups_error dec s count) (group_error dec s (4 * count)) e in
    both_bytes (groups_bytes dec s count) (group_bytes dec s (4 * count)) (groups_are dec s count table bytes parts.0) (group_is dec s (4 * count) table bytes parts.1)

-- ---- the last group

leftover_is : (st : _) (i : ℕ) → IsLeftover st i → AreBytes (leftover_bytes st)
leftover_is st i kept = fewer_bytes (st.morsels_count * 6 / 8) _ (four_values _ _ _ _ (kept.3 0) (kept.3 1) (kept.3 2) (kept.3 3))

scan_is : (dec : List ℕ) (pad at : ℕ) (st : _) (i : ℕ) (bs : List ℕ) → IsDecodeTable dec → IsLeftover st i → AreBytes bs → AreBytes (scan_bytes (scan dec pad at st i bs))
scan_is dec pad at st i [] table kept bytes = subst (λ r. AreBytes (scan_bytes r)) (sym (scan-nil dec pad at st i)) (leftover_is st i kept)
scan_is dec pad at st i (b ∷ bs) table kept bytes = by_push (λ next k. scan_is dec pad at next (i + 1) bs table k bytes.1) (push_leftover dec pad at st i b) refl
  where
    by_push : ((next : _) → IsLeftover next (i + 1) → AreBytes (scan_bytes (scan dec pad at next (i + 1) bs))) → (r : Result _ DecodeError) → push_leftover dec pad at st i b ≡ r
        → AreBytes (scan_bytes (scan dec pad at st i (b ∷ bs)))
    by_push more (Ok next) is =
        subst (λ r. AreBytes (scan_bytes r)) (sym (scan-cons_ok dec pad at st i b bs next is)) (more next (IsLeftover_next dec pad at st i b next table kept bytes.0 is))
    by_push more (Err e) is = subst (λ r. AreBytes (scan_bytes r)) (sym (scan-cons_err dec pad at st i b bs e is)) tt

no_morsel : (k : ℕ) → slice_index no_leftover.morsels k < 64
no_morsel zero = omega arith
no_morsel (suc zero) = omega arith
no_morsel (suc (suc zero)) = omega arith
no_morsel (suc (suc (suc zero))) = omega arith
no_morsel (suc (suc (suc (suc k)))) = omega arith

suffix_is : (dec s : List ℕ) (pad at : ℕ) → IsDecodeTable dec → AreBytes s → AreBytes (suffix_bytes dec pad at s)
suffix_is dec s pad at table bytes = scan_is dec pad at no_leftover 0 (drop at s) table (omega arith, omega arith, omega arith, no_morsel) (later_bytes at s bytes)

-- ---- the whole

outcome_is : (error : Option DecodeError) (bytes : List ℕ) → (error ≡ None → AreBytes bytes) → IfOk (decode_outcome error bytes) AreBytes
outcome_is None bytes h = h refl
outcome_is (Some e) bytes h = tt

pub decoded_are_bytes : (content : List ℕ) → IsUtf8 content → IfOk (decode_of standard content) AreBytes
decoded_are_bytes content utf8 =
    let bytes = text_bytes content utf8 in
    let dec : List ℕ = standard.decode_table in
    let count : ℕ = groups_before_last (length content) in
    outcome_is _ (decoded_bytes dec standard.padding.value content) (λ e.
    both_bytes (groups_bytes dec content count) (suffix_bytes dec standard.padding.value (4 * count) content)
    (groups_are dec content count standard_table bytes (both_none _ _ (both_none _ _ e).1).0) (suffix_is dec content standard.padding.value (4 * count) standard_table bytes))
