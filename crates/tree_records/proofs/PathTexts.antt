-- Paths as they are written: what is read is written so, and what is written so is read.
use Rattle.std.proofs.Common.{◌≡◌, ◌≢◌, ℕ, zero, suc, ◌+◌, ◌-◌, ◌*◌, ◌/◌, ◌%◌, ◌<◌, ◌≤◌, true, false, eqb, ltb, not, ◌&&◌, ◌||◌, List, [], ◌∷◌, ◌++◌, length, Option, Some, None, inl, inr, sym, ap, subst, ◌∙◌, arith, length-append}
use Rattle.std.proofs.lemmas.Bool.{cases_Bool, cases_lt, cond-false, cond-true, eqb-true, le-ltb, lt-ltb, or_parts}
use Rattle.std.proofs.lemmas.Bool.Decides.{nat_tests}
use Rattle.std.specs.Fmt.{digit_glyph}
use Rattle.std.specs.Prelude.{if◌then◌else◌}
use Rattle.lists.specs.Options.{◌>>=◌}
use Rattle.lists.proofs.Chosen.{chosen, none_some, some_is}
use Rattle.lists.proofs.OptionSteps.{bind_some}
use Rattle.tree_records.specs.Escapes.{escape, escaped, is_escaped}
use Rattle.tree_records.specs.Paths.{Path, path_bytes, IsPath}
use Rattle.tree_records.specs.Reading.{are_path, byte_at, digit_of, escape_at, is_digit, names_in, path_at, unescaped}
use Rattle.tree_records.proofs.PathLaws.{names_in-path, path_bytes-names_in, path_from_test, test_from_path}
use Rattle.tree_records.proofs.PieceTexts.{Without, without_both}
use Rattle.tree_records.proofs.Unescaping.{byte_shorter, unescaped-nil, unescaped_more}

abbrev some_byte : ℕ → List ℕ → Option (ℕ × List ℕ)
some_byte b bs = Some (b, bs)

abbrev some_number : ℕ → Option ℕ
some_number n = Some n

abbrev some_bytes : List ℕ → Option (List ℕ)
some_bytes bs = Some bs

-- ---- hexadecimal digits

-- what a digit stands for is below 16, and is written by that digit
digit_found : (b n : ℕ) → digit_of b ≡ Some n → (n < 16) × (b ≡ digit_glyph true n)
digit_found b n e =
    elim (chosen (is_digit b) (some_number (b - 48)) _ (Some n) e) [
      | inl is ↦
          let same = some_is (b - 48) n is.1 in
          let low : 48 ≤ b = grind (arith, nat_tests, is.0) in
          let high : b < 58 = grind (arith, nat_tests, is.0) in
          (omega arith, let value : b ≡ 48 + n = omega arith in value ∙ sym (cond-true (ltb n 10) (48 + n) (55 + n) (grind (arith, nat_tests))))
      | inr other ↦ elim (chosen (not (ltb b 65) && ltb b 71) (some_number (b - 55)) None (Some n) other.1) [
        | inl is ↦
            let same = some_is (b - 55) n is.1 in
            let low : 65 ≤ b = grind (arith, nat_tests, is.0) in
            let high : b < 71 = grind (arith, nat_tests, is.0) in
            (omega arith, let value : b ≡ 55 + n = omega arith in value ∙ sym (cond-false (ltb n 10) (48 + n) (55 + n) (grind (arith, nat_tests))))
        | inr none ↦ absurd (none_some n none.1)
      ]
    ]

digit_again : (n : ℕ) → n < 16 → digit_of (digit_glyph true n) ≡ Some n
digit_again n small =
    elim (cases_lt n 10) [
      | inl low ↦
          ap digit_of (cond-true (ltb n 10) (48 + n) (55 + n) (lt-ltb n 10 low))
          ∙ cond-true (is_digit (48 + n)) (some_number (48 + n - 48)) _ (grind (arith, nat_tests, low))
          ∙ ap some_number (omega arith)
      | inr high ↦
          ap digit_of (cond-false (ltb n 10) (48 + n) (55 + n) (le-ltb n 10 high))
          ∙ cond-false (is_digit (55 + n)) (some_number (55 + n - 48)) _ (grind (arith, nat_tests, high))
          ∙ cond-true (not (ltb (55 + n) 65) && ltb (55 + n) 71) (some_number (55 + n - 55)) None (grind (arith, nat_tests, high, small))
          ∙ ap some_number (omega arith)
    ]

-- ---- bytes

escape_is : (b : ℕ) → is_escaped b ≡ true → escape b ≡ 37 ∷ digit_glyph true (b / 16) ∷ digit_glyph true (b % 16) ∷ []
escape_is b h = cond-true (is_escaped b) (37 ∷ digit_glyph true (b / 16) ∷ digit_glyph true (b % 16) ∷ []) (b ∷ []) h

plain_is : (b : ℕ) → is_escaped b ≡ false → escape b ≡ b ∷ []
plain_is b h = cond-false (is_escaped b) (37 ∷ digit_glyph true (b / 16) ∷ digit_glyph true (b % 16) ∷ []) (b ∷ []) h

-- the two digits of a byte below 256
digits_of_byte : (high low : ℕ) → high < 16 → low < 16 → ((16 * high + low) / 16 ≡ high) × ((16 * high + low) % 16 ≡ low)
digits_of_byte high low h l = (omega arith, omega arith)

escape_found : (bs rest : List ℕ) (b : ℕ) → escape_at bs ≡ Some (b, rest) → 37 ∷ bs ≡ escape b ++ rest
escape_found [] rest b e = absurd (none_some (b, rest) e)
escape_found (h ∷ []) rest b e = absurd (none_some (b, rest) e)
escape_found (h ∷ l ∷ bs) rest b e =
    let high = bind_some (digit_of h) _ (b, rest) e in
    let low = bind_some (digit_of l) _ (b, rest) high.2 in
    elim (chosen (is_escaped (16 * high.0 + low.0)) (some_byte (16 * high.0 + low.0) bs) None (Some (b, rest)) low.2) [
      | inl is ↦
          let same = some_is (16 * high.0 + low.0, bs) (b, rest) is.1 in
          let value : 16 * high.0 + low.0 ≡ b = ap (λ (s : ℕ × List ℕ). s.0) same in
          let behind : bs ≡ rest = ap (λ (s : ℕ × List ℕ). s.1) same in
          let first = digit_found h high.0 high.1 in
          let second = digit_found l low.0 low.1 in
          let parts = digits_of_byte high.0 low.0 first.0 second.0 in
          let upper : high.0 ≡ b / 16 = sym parts.0 ∙ ap (λ (n : ℕ). n / 16) value in
          let lower : low.0 ≡ b % 16 = sym parts.1 ∙ ap (λ (n : ℕ). n % 16) value in
          (λ i. 37 ∷ (first.1 ∙ ap (digit_glyph true) upper) i ∷ (second.1 ∙ ap (digit_glyph true) lower) i ∷ behind i)
          ∙ ap (λ (xs : List ℕ). xs ++ rest) (sym (escape_is b (sym (ap is_escaped value) ∙ is.0)))
      | inr other ↦ absurd (none_some (b, rest) other.1)
    ]

-- a byte that is read is written so
pub byte_found : (text rest : List ℕ) (b : ℕ) → byte_at text ≡ Some (b, rest) → text ≡ escape b ++ rest
byte_found [] rest b e = absurd (none_some (b, rest) e)
byte_found (c ∷ cs) rest b e =
    elim (chosen (eqb c 37) (escape_at cs) _ (Some (b, rest)) e) [
      | inl is ↦ ap (λ (x : ℕ). x ∷ cs) (eqb-true c 37 is.0) ∙ escape_found cs rest b is.1
      | inr other ↦ elim (chosen (is_escaped c) None (some_byte c cs) (Some (b, rest)) other.1) [
        | inl is ↦ absurd (none_some (b, rest) is.1)
        | inr plain ↦
            let same = some_is (c, cs) (b, rest) plain.1 in
            let value : c ≡ b = ap (λ (s : ℕ × List ℕ). s.0) same in
            let behind : cs ≡ rest = ap (λ (s : ℕ × List ℕ). s.1) same in
            (λ i. value i ∷ behind i) ∙ ap (λ (xs : List ℕ). xs ++ rest) (sym (plain_is b (sym (ap is_escaped value) ∙ plain.0)))
      ]
    ]

escape_again : (h l high low : ℕ) (rest : List ℕ) → digit_of h ≡ Some high → digit_of l ≡ Some low → is_escaped (16 * high + low) ≡ true
    → escape_at (h ∷ l ∷ rest) ≡ Some (16 * high + low, rest)
escape_again h l high low rest p q escaped =
    ap (λ (o : Option ℕ). o >>= λ x. digit_of l >>= λ y. if is_escaped (16 * x + y) then some_byte (16 * x + y) rest else None) p
    ∙ ap (λ (o : Option ℕ). o >>= λ y. if is_escaped (16 * high + y) then some_byte (16 * high + y) rest else None) q
    ∙ cond-true (is_escaped (16 * high + low)) (some_byte (16 * high + low) rest) None escaped

escaped_small : (b : ℕ) → is_escaped b ≡ true → b < 128
escaped_small b h = grind (arith, nat_tests, h)

-- a byte that is written is read, whatever stands behind it
pub byte_again : (b : ℕ) (rest : List ℕ) → byte_at (escape b ++ rest) ≡ Some (b, rest)
byte_again b rest =
    elim (cases_Bool (is_escaped b)) [
      | inl is ↦
          let small = escaped_small b is in
          let whole : 16 * (b / 16) + b % 16 ≡ b = omega arith in
          ap (λ (xs : List ℕ). byte_at (xs ++ rest)) (escape_is b is)
          ∙ escape_again (digit_glyph true (b / 16)) (digit_glyph true (b % 16)) (b / 16) (b % 16) rest
          (digit_again (b / 16) (omega arith)) (digit_again (b % 16) (omega arith)) (ap is_escaped whole ∙ is)
          ∙ ap (λ (x : ℕ). some_byte x rest) whole
      | inr plain ↦
          ap (λ (xs : List ℕ). byte_at (xs ++ rest)) (plain_is b plain)
          ∙ cond-false (eqb b 37) (escape_at rest) _ (not_percent b plain)
          ∙ cond-false (is_escaped b) None (some_byte b rest) plain
    ]
  where
    not_percent : (c : ℕ) → is_escaped c ≡ false → eqb c 37 ≡ false
    not_percent c h = (or_parts (ltb c 32 || eqb c 127) (eqb c 37) h).1

-- ---- texts

-- bytes that are read are written so
found_within : (n : ℕ) (text bytes : List ℕ) → length text ≤ n → unescaped text ≡ Some bytes → text ≡ escaped bytes
found_within n [] bytes short e = ap escaped (some_is [] bytes (sym unescaped-nil ∙ e))
found_within zero (b ∷ bs) bytes short e = absurd (omega arith)
found_within (suc n) (b ∷ bs) bytes short e =
    let first = bind_some (byte_at (b ∷ bs)) _ bytes (sym (unescaped_more (b ∷ bs) (omega arith)) ∙ e) in
    let more = bind_some (unescaped first.0.1) _ bytes first.2 in
    let shorter : length first.0.1 < suc (length bs) = byte_shorter (b ∷ bs) first.0.1 first.0.0 first.1 in
    byte_found (b ∷ bs) first.0.1 first.0.0 first.1
    ∙ ap (λ (xs : List ℕ). escape first.0.0 ++ xs) (found_within n first.0.1 more.0 (omega arith) more.1)
    ∙ ap escaped (some_is (first.0.0 ∷ more.0) bytes more.2)

pub unescaped_found : (text bytes : List ℕ) → unescaped text ≡ Some bytes → text ≡ escaped bytes
unescaped_found text bytes = found_within (length text) text bytes (omega arith)

escape_some : (b : ℕ) → 0 < length (escape b)
escape_some b = elim (is_escaped b) as (λ t. 0 < length (if t then 37 ∷ digit_glyph true (b / 16) ∷ digit_glyph true (b % 16) ∷ [] else b ∷ [])) [ true ↦ omega arith | false ↦ omega arith ]

-- bytes that are written are read
pub unescaped_again : (bytes : List ℕ) → unescaped (escaped bytes) ≡ Some bytes
unescaped_again [] = unescaped-nil
unescaped_again (b ∷ bs) =
    unescaped_more (escape b ++ escaped bs) (let some = escape_some b in omega (arith, length-append (escape b) (escaped bs)))
    ∙ ap (λ (o : Option (ℕ × List ℕ)). o >>= λ first. unescaped first.1 >>= λ more. some_bytes (first.0 ∷ more)) (byte_again b (escaped bs))
    ∙ ap (λ (o : Option (List ℕ)). o >>= λ more. some_bytes (b ∷ more)) (unescaped_again bs)

-- what is written has no line feed
escape_without : (b : ℕ) → Without 10 (escape b)
escape_without b =
    elim (cases_Bool (is_escaped b)) [
      | inl is ↦ subst (Without 10) (sym (escape_is b is)) ((λ e. omega arith), (glyph_is_none (b / 16), (glyph_is_none (b % 16), tt)))
      | inr plain ↦ subst (Without 10) (sym (plain_is b plain)) ((λ same. line_feed b plain same), tt)
    ]
  where
    glyph_is_none : (n : ℕ) → digit_glyph true n ≢ 10
    glyph_is_none n = elim (ltb n 10) as (λ t. (if t then 48 + n else 55 + n) ≢ 10) [ true ↦ λ e. omega arith | false ↦ λ e. omega arith ]

    line_feed : (c : ℕ) → is_escaped c ≡ false → c ≢ 10
    line_feed c h same = grind (arith, nat_tests, h, same)

pub escaped_without : (bytes : List ℕ) → Without 10 (escaped bytes)
escaped_without [] = tt
escaped_without (b ∷ bs) = without_both 10 (escape b) (escaped bs) (escape_without b) (escaped_without bs)

-- each byte is written in at most three
escape_short : (b : ℕ) → length (escape b) ≤ 3
escape_short b = elim (is_escaped b) as (λ t. length (if t then 37 ∷ digit_glyph true (b / 16) ∷ digit_glyph true (b % 16) ∷ [] else b ∷ []) ≤ 3) [ true ↦ omega arith | false ↦ omega arith ]

pub escaped_short : (bytes : List ℕ) → length (escaped bytes) ≤ 3 * length bytes
escaped_short [] = omega arith
escaped_short (b ∷ bs) =
    let first = escape_short b in
    let more = escaped_short bs in
    omega (arith, length-append (escape b) (escaped bs))

-- ---- paths

abbrev some_path : Path → Option Path
some_path p = Some p

-- a path that is read is written so
pub path_found : (text : List ℕ) (p : Path) → path_at text ≡ Some p → (text ≡ escaped (path_bytes p)) × IsPath p
unfolding path_at
path_found text p e =
    let read = bind_some (unescaped text) _ p e in
    elim (chosen (are_path read.0) (some_path (names_in read.0)) None (Some p) read.2) [
      | inl is ↦
          let same = some_is (names_in read.0) p is.1 in (
            unescaped_found text read.0 read.1 ∙ ap escaped (sym (path_bytes-names_in read.0) ∙ ap path_bytes same),
            subst IsPath same (path_from_test read.0 is.0),
          )
      | inr other ↦ absurd (none_some p other.1)
    ]

-- a path that is written is read
pub path_again : (p : Path) → IsPath p → path_at (escaped (path_bytes p)) ≡ Some p
unfolding path_at
path_again p h =
    ap (λ (o : Option (List ℕ)). o >>= λ bytes. if are_path bytes then some_path (names_in bytes) else None) (unescaped_again (path_bytes p))
    ∙ cond-true (are_path (path_bytes p)) (some_path (names_in (path_bytes p))) None (test_from_path p h)
    ∙ ap some_path (names_in-path p h)
