-- Texts in double quotes: what is encoded is read.
use Rattle.std.proofs.Common.{◌≡◌, ◌≢◌, ℕ, zero, suc, ◌+◌, ◌-◌, ◌*◌, ◌/◌, ◌%◌, ◌<◌, ◌==◌, inl, inr, Bool, true, false, ltb, not, ◌&&◌, ◌||◌, if◌then◌else◌, List, [], ◌∷◌, ◌++◌, length, take, Option, Some, None, option_map, Result, Ok, refl, sym, ap, subst, ◌∙◌, append_assoc, arith}
use Rattle.std.specs.Char.{encode_utf8, IsScalar, is_control}
use Rattle.std.specs.Fmt.{digit_glyph}
use Rattle.std.specs.List.{AllByRecursion, flat_map}
use Rattle.std.specs.Str.{chars}
use Rattle.std.proofs.Math.Utf8.{encodes, scalars}
use Rattle.std.proofs.Math.Seq.{take-append_seam}
use Rattle.std.proofs.lemmas.Bool.{and_parts, cases_eq, cases_lt, cond-false, cond-true, le-ltb, lt-ltb, ne_eqb}
use Rattle.std.proofs.lemmas.Bool.Decides.{nat_tests}
use Rattle.std.proofs.lemmas.List.{append-nil, length-append}
use Rattle.std.proofs.lemmas.Str.{encodes-chars, scalars-chars}
use Rattle.lists.specs.Results.{◌>>=◌}
use Rattle.launch_scalars.specs.declared.fault.LineFault.{LineFault}
use Rattle.launch_scalars.specs.Characters.{bad_at}
use Rattle.launch_scalars.specs.Quoted.{Quoted, closed, put, digit_of, with_digit, hexadecimal, is_escapable, character_of, escape, escaped, in_double, quoted, reported, taken_of}
use Rattle.launch_scalars.specs.Scalars.{Scalar, unless_at, unless_bad, quoted_scalar, quoted_at, scalar_at}
use Rattle.launch_scalars.proofs.Escaped.{AreNonzero}
use Rattle.launch_scalars.proofs.Utf8.{nonzero_left, nonzero_right}
use Rattle.launch_values.specs.Documents.{IsText}
use Rattle.launch_laws.specs.Printed.{escape_of, encoded, in_quotes}
use Rattle.launch_laws.proofs.CleanTexts.{IsClean, clean_nil, clean_append, clean_byte, clean_visible, clean_character, bad_none, either}

-- ---- hexadecimal digits

abbrev some_number : ℕ → Option ℕ
some_number n = Some n

digit_again : (d : ℕ) → d < 16 → digit_of (digit_glyph false d) ≡ Some d
digit_again d small = elim (cases_lt d 10) [
  | inl low ↦
      ap digit_of (cond-true (ltb d 10) (48 + d) (87 + d) (lt-ltb d 10 low))
      ∙ cond-true (not (ltb (48 + d) 48) && ltb (48 + d) 58) (some_number (48 + d - 48)) _ (grind (arith, nat_tests, low))
      ∙ ap some_number (omega arith)
  | inr high ↦
      ap digit_of (cond-false (ltb d 10) (48 + d) (87 + d) (le-ltb d 10 high))
      ∙ cond-false (not (ltb (87 + d) 48) && ltb (87 + d) 58) (some_number (87 + d - 48)) _ (grind (arith, nat_tests, high))
      ∙ cond-true (not (ltb (87 + d) 97) && ltb (87 + d) 103) (some_number (87 + d - 87)) _ (grind (arith, nat_tests, high, small))
      ∙ ap some_number (omega arith)
]

clean_digit : (d : ℕ) → d < 16 → IsClean (digit_glyph false d ∷ [])
clean_digit d small = elim (cases_lt d 10) [
  | inl low ↦ subst (λ (b : ℕ). IsClean (b ∷ [])) (sym (cond-true (ltb d 10) (48 + d) (87 + d) (lt-ltb d 10 low))) (clean_byte (48 + d) (omega arith) (omega arith))
  | inr high ↦ subst (λ (b : ℕ). IsClean (b ∷ [])) (sym (cond-false (ltb d 10) (48 + d) (87 + d) (le-ltb d 10 high))) (clean_byte (87 + d) (omega arith) (omega arith))
]

-- ---- control characters

abbrev some_bytes : List ℕ → Option (List ℕ)
some_bytes bs = Some bs

-- a character and how many bytes its escape takes behind the backslash
abbrev taking : ℕ → Option (List ℕ) → Option (List ℕ × ℕ)
taking count o = option_map {U = List ℕ × ℕ} (λ c. (c, count)) o

escapable : (c : ℕ) → 0 < c → c < 256 → is_escapable c ≡ true
escapable c some small =
    let low : ltb 0 c ≡ true = lt-ltb 0 c some in
    let high : ltb c 55296 ≡ true = lt-ltb c 55296 (omega arith) in
    rw (low, high) refl

number_again : (c : ℕ) (rest : List ℕ) → c < 256 → hexadecimal 2 (Some 0) (digit_glyph false (c / 16) ∷ digit_glyph false (c % 16) ∷ rest) ≡ Some c
number_again c rest small =
    ap (λ (o : Option ℕ). with_digit (with_digit (some_number 0) o) (digit_of (digit_glyph false (c % 16)))) (digit_again (c / 16) (omega arith))
    ∙ ap (λ (o : Option ℕ). with_digit (some_number (16 * 0 + c / 16)) o) (digit_again (c % 16) (omega arith))
    ∙ ap some_number (omega arith)

escape_again : (c : ℕ) (rest : List ℕ) → 0 < c → c < 256 → escape (120 ∷ digit_glyph false (c / 16) ∷ digit_glyph false (c % 16) ∷ rest) ≡ Some (encode_utf8 c, 3)
escape_again c rest some small =
    ap (λ (n : Option ℕ). taking 3 (character_of n)) (number_again c rest small)
    ∙ ap (λ (o : Option (List ℕ)). taking 3 o) (cond-true (is_escapable c) (some_bytes (encode_utf8 c)) None (escapable c some small))

control_read : (c : ℕ) (rest : List ℕ) → 0 < c → c < 256 → in_double 0 (escape_of c ++ rest) ≡ put (encode_utf8 c) (in_double 0 rest)
control_read c rest some small =
    let behind : List ℕ = 120 ∷ digit_glyph false (c / 16) ∷ digit_glyph false (c % 16) ∷ rest in
    ap (λ (e : Option (List ℕ × ℕ)). escaped (suc (length behind)) e (λ n. in_double n behind)) (escape_again c rest some small)

clean_escape : (c : ℕ) → c < 256 → IsClean (escape_of c)
clean_escape c small =
    clean_append (92 ∷ 120 ∷ []) (digit_glyph false (c / 16) ∷ digit_glyph false (c % 16) ∷ []) (clean_visible (92 ∷ 120 ∷ []) refl)
    (clean_append (digit_glyph false (c / 16) ∷ []) (digit_glyph false (c % 16) ∷ []) (clean_digit (c / 16) (omega arith)) (clean_digit (c % 16) (omega arith)))

-- ---- characters that stand for themselves

abbrev AreLiteral : List ℕ → Type 0
AreLiteral bytes = AllByRecursion (λ b. (b ≢ 34) × (b ≢ 92)) bytes

literal_read : (bytes rest : List ℕ) → AreLiteral bytes → in_double 0 (bytes ++ rest) ≡ put bytes (in_double 0 rest)
literal_read [] rest h = refl
literal_read (b ∷ bs) rest h =
    let behind : List ℕ = bs ++ rest in
    let more = put (b ∷ []) (in_double 0 behind) in
    let other = escaped (suc (length behind)) (escape behind) (λ n. in_double n behind) in
    cond-false (b == 34) (closed behind) (if b == 92 then other else more) (ne_eqb b 34 h.0.0)
    ∙ cond-false (b == 92) other more (ne_eqb b 92 h.0.1)
    ∙ ap (put (b ∷ [])) (literal_read bs rest h.1)

encoded_literal : (c : ℕ) → c ≢ 34 → c ≢ 92 → AreLiteral (encode_utf8 c)
unfolding encode_utf8
encoded_literal c h k =
    either AreLiteral (ltb c 128) (c ∷ []) _ (λ small. ((h, k), tt))
    (λ large. either AreLiteral (ltb c 2048) ((192 + c / 64) ∷ (128 + c % 64) ∷ []) _ (λ two. ((λ e. omega arith, λ e. omega arith), ((λ e. omega arith, λ e. omega arith), tt)))
    (λ more. either AreLiteral (ltb c 65536) ((224 + c / 4096) ∷ (128 + c / 64 % 64) ∷ (128 + c % 64) ∷ []) ((240 + c / 262144) ∷ (128 + c / 4096 % 64) ∷ (128 + c / 64 % 64) ∷ (128 + c % 64) ∷ [])
    (λ three. ((λ e. omega arith, λ e. omega arith), ((λ e. omega arith, λ e. omega arith), ((λ e. omega arith, λ e. omega arith), tt))))
    (λ four. ((λ e. omega arith, λ e. omega arith), ((λ e. omega arith, λ e. omega arith), ((λ e. omega arith, λ e. omega arith), ((λ e. omega arith, λ e. omega arith), tt)))))))

-- ---- characters

-- a character that is encoded is read, and may stand in a text
abbrev IsEncoded : ℕ → List ℕ → Type 0
IsEncoded c bytes = ((rest : List ℕ) → in_double 0 (bytes ++ rest) ≡ put (encode_utf8 c) (in_double 0 rest)) × IsClean bytes

encoded_quote : IsEncoded 34 (encoded 34)
unfolding encode_utf8
encoded_quote = (λ rest. refl, clean_visible (92 ∷ 34 ∷ []) refl)

encoded_backslash : IsEncoded 92 (encoded 92)
unfolding encode_utf8
encoded_backslash = (λ rest. refl, clean_visible (92 ∷ 92 ∷ []) refl)

encoded_other : (c : ℕ) → IsScalar c → 0 < c → c ≢ 34 → c ≢ 92 → IsEncoded c (encoded c)
encoded_other c scalar some h k =
    let first = ne_eqb c 34 h in
    let second = ne_eqb c 92 k in
    let neither : ((c == 34) || (c == 92)) ≡ false = rw (first, second) refl in
    subst (IsEncoded c) (sym (cond-false ((c == 34) || (c == 92)) (92 ∷ c ∷ []) (if is_control c then escape_of c else encode_utf8 c) neither))
    (either (IsEncoded c) (is_control c) (escape_of c) (encode_utf8 c)
    (λ control. let small : c < 256 = grind (arith, nat_tests, control) in (λ rest. control_read c rest some small, clean_escape c small))
    (λ other. (λ rest. literal_read (encode_utf8 c) rest (encoded_literal c h k), clean_character c scalar other)))

encoded_each : (c : ℕ) → IsScalar c → 0 < c → IsEncoded c (encoded c)
encoded_each c scalar some = elim (cases_eq c 34) [
  | inl e ↦ subst (λ (n : ℕ). IsEncoded n (encoded n)) (sym e) encoded_quote
  | inr h ↦ elim (cases_eq c 92) [
    | inl e ↦ subst (λ (n : ℕ). IsEncoded n (encoded n)) (sym e) encoded_backslash
    | inr k ↦ encoded_other c scalar some h k
  ]
]

-- ---- texts

encoded_some : (c : ℕ) → AreNonzero (encode_utf8 c) → 0 < c
unfolding encode_utf8
encoded_some zero h = h.0
encoded_some (suc c) h = omega arith

put_twice : (xs ys : List ℕ) (q : Quoted) → put xs (put ys q) ≡ put (xs ++ ys) q
put_twice xs ys q = ap (λ (content : List ℕ). with_content content) (sym (append_assoc xs ys q.content))
  where
    with_content : List ℕ → Quoted
    with_content content = record { content = content; rest = q.rest; wrong = q.wrong }

encoded_text : (cs : List ℕ) → scalars cs ≡ true → AreNonzero (encodes cs)
    → ((rest : List ℕ) → in_double 0 (flat_map encoded cs ++ rest) ≡ put (encodes cs) (in_double 0 rest)) × IsClean (flat_map encoded cs)
encoded_text [] e h = (λ rest. refl, clean_nil)
encoded_text (c ∷ cs) e h =
    let p = and_parts _ _ e in
    let one = encoded_each c p.0 (encoded_some c (nonzero_left (encode_utf8 c) (encodes cs) h)) in
    let more = encoded_text cs p.1 (nonzero_right (encode_utf8 c) (encodes cs) h) in (
      λ rest.
          ap (in_double 0) (append_assoc (encoded c) (flat_map encoded cs) rest) ∙ one.0 (flat_map encoded cs ++ rest)
          ∙ ap (put (encode_utf8 c)) (more.0 rest) ∙ put_twice (encode_utf8 c) (encodes cs) (in_double 0 rest),
      clean_append (encoded c) (flat_map encoded cs) one.1 more.1,
    )

pub clean_quotes : (bytes : List ℕ) → IsText bytes → IsClean (in_quotes bytes)
unfolding in_quotes
clean_quotes bytes h =
    let is = encodes-chars bytes h.0 in
    let inner = encoded_text (chars bytes) (scalars-chars bytes h.0) (subst AreNonzero (sym is) h.1) in
    clean_append (34 ∷ []) (flat_map encoded (chars bytes) ++ 34 ∷ []) (clean_visible (34 ∷ []) refl)
    (clean_append (flat_map encoded (chars bytes)) (34 ∷ []) inner.1 (clean_visible (34 ∷ []) refl))

-- what stands behind the opening quote, and what is read of it
abbrev quoted_whole : List ℕ → List ℕ → Quoted
quoted_whole content rest = record { content = content; rest = Some rest; wrong = None }

abbrev read_scalar : List ℕ → List ℕ → Result Scalar LineFault
read_scalar content rest = Ok (quoted_scalar (content, rest))

quoted_is : (front rest content : List ℕ) → quoted 34 (front ++ rest) ≡ quoted_whole content rest → bad_at (34 ∷ front) ≡ None → quoted_at 34 (front ++ rest) ≡ read_scalar content rest
quoted_is front rest content is none =
    let whole : List ℕ = front ++ rest in
    let count : length whole - length rest ≡ length front = omega (arith, length-append front rest) in
    ap (λ (q : Quoted). unless_bad (suc (taken_of (length whole) q.rest)) (34 ∷ whole) (reported q >>= λ c. Ok (quoted_scalar c))) is
    ∙ ap (λ (place : Option ℕ). unless_at (suc (length whole)) place (read_scalar content rest))
    (ap (λ (n : ℕ). bad_at (34 ∷ take n whole)) count ∙ ap (λ (xs : List ℕ). bad_at (34 ∷ xs)) (take-append_seam front rest) ∙ none)

pub double_read : (bytes rest : List ℕ) → IsText bytes → quoted 34 ((flat_map encoded (chars bytes) ++ 34 ∷ []) ++ rest) ≡ quoted_whole bytes rest
unfolding quoted
double_read bytes rest h =
    let is = encodes-chars bytes h.0 in
    let inner = encoded_text (chars bytes) (scalars-chars bytes h.0) (subst AreNonzero (sym is) h.1) in
    ap (in_double 0) (append_assoc (flat_map encoded (chars bytes)) (34 ∷ []) rest) ∙ inner.0 (34 ∷ rest)
    ∙ ap (λ (content : List ℕ). quoted_whole content rest) (append-nil (encodes (chars bytes)) ∙ is)

-- a text in double quotes is read, whatever stands behind it
pub text_read : (in_flow : Bool) (bytes rest : List ℕ) → IsText bytes → scalar_at in_flow (in_quotes bytes ++ rest) ≡ Ok (quoted_scalar (bytes, rest))
unfolding scalar_at in_quotes
text_read in_flow bytes rest h =
    let front : List ℕ = flat_map encoded (chars bytes) ++ 34 ∷ [] in
    quoted_is front rest bytes (double_read bytes rest h) (clean_front bytes h)
  where
    clean_front : (bs : List ℕ) → IsText bs → bad_at (34 ∷ flat_map encoded (chars bs) ++ 34 ∷ []) ≡ None
    clean_front bs k = bad_none (in_quotes bs) (clean_quotes bs k)
