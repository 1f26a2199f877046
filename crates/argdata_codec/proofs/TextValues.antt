-- A text that is read is one byte by byte, and the other way.
use Rattle.std.proofs.Common.{◌≡◌, ℕ, zero, suc, ◌+◌, ◌-◌, ◌*◌, ◌/◌, ◌%◌, ◌<◌, ◌≤◌, inl, inr, true, List, [], ◌∷◌, ◌++◌, length, Some, None, refl, sym, ap, subst, ◌∙◌, arith, append_assoc}
use Rattle.std.specs.List.{AllByRecursion}
use Rattle.std.proofs.Math.Utf8.{scalar, scalars, encode, encodes, low_scalar}
use Rattle.std.proofs.lemmas.Bool.{cases_lt, cases_eq, lt-ltb, le-ltb, le-leb, eqb-true, and_parts}
use Rattle.std.proofs.lemmas.Str.{encode_ascii}
use Rattle.argdata_codec.specs.Reading.{text_at}
use Rattle.argdata_codec.specs.Places.{Tail, tail_of, begins_in}
use Rattle.lists.proofs.Chosen.{none_some, some_is}
use Rattle.argdata_codec.proofs.Begins.{IsRead}
use Rattle.argdata_codec.proofs.Outcomes.{positive}
use Rattle.argdata_codec.proofs.Texts.{text_sound, text_again}
use Rattle.argdata_codec.proofs.TextBytes.{Texts, Anywhere, char_text, inner_of, three_bounds, four_bounds, low_three, high_three, low_four, high_four, lead_one, lead_inner, lead_two, lead_three, lead_four, lead_none}

abbrev AreSome : List ℕ → Type 0
AreSome bytes = AllByRecursion (λ b. 0 < b) bytes

some_parts : (xs ys : List ℕ) → AreSome (xs ++ ys) → AreSome xs × AreSome ys
some_parts [] ys h = (tt, h)
some_parts (x ∷ xs) ys h = let r = some_parts xs ys h.1 in ((h.0, r.0), r.1)

some_char : (c : ℕ) → AreSome (encode c) → 0 < c
unfolding encode
some_char zero h = h.0
some_char (suc c) h = omega arith

chars_text : (cs : List ℕ) → scalars cs ≡ true → AreSome (encodes cs) → Anywhere (encodes cs ++ 0 ∷ [])
chars_text [] ok some bounds = inl (refl, refl)
chars_text (c ∷ cs) ok some bounds =
    let p = and_parts (scalar c) (scalars cs) ok in
    let q = some_parts (encode c) (encodes cs) some in
    subst (Texts (0, bounds)) (sym (append_assoc (encode c) (encodes cs) (0 ∷ [])))
    (char_text c p.0 (some_char c q.0) (encodes cs ++ 0 ∷ []) (chars_text cs p.1 q.1) bounds)

pub text_there : (body : List ℕ) → IsRead (text_at body) → Texts (0, (0, 0)) body
text_there body h =
    let t = text_sound body h.0 h.1 in
    let encoded : encodes t.0.0.0 ≡ h.0 = t.0.0.1.1 in
    subst (Texts (0, (0, 0))) (ap (λ (p : List ℕ). p ++ 0 ∷ []) encoded ∙ sym t.1)
    (chars_text t.0.0.0 t.0.0.1.0 (subst AreSome (sym encoded) t.0.1) (0, 0))

-- ---- back

-- the characters before the zero byte
record Chars (body : List ℕ) : Type 0 where
  chars : List ℕ
  scalars : scalars chars ≡ true
  some : AreSome (encodes chars)
  whole : body ≡ encodes chars ++ 0 ∷ []

one_more : (c : ℕ) (front rest : List ℕ) → scalar c ≡ true → encode c ≡ front → AreSome front → Chars rest → Chars (front ++ rest)
one_more c front rest ok is some h = record {
  chars = c ∷ h.chars;
  scalars = rw ok h.scalars;
  some = subst (λ (p : List ℕ). AreSome (p ++ encodes h.chars)) (sym is) (some_on front (encodes h.chars) some h.some);
  whole = ap (λ (p : List ℕ). front ++ p) h.whole ∙ sym (append_assoc front (encodes h.chars) (0 ∷ [])) ∙ ap (λ (p : List ℕ). (p ++ encodes h.chars) ++ 0 ∷ []) (sym is);
}
  where
    some_on : (xs ys : List ℕ) → AreSome xs → AreSome ys → AreSome (xs ++ ys)
    some_on [] ys p q = q
    some_on (x ∷ xs) ys p q = (p.0, some_on xs ys p.1 q)

is_scalar_low : (c : ℕ) → c < 0xd800 → scalar c ≡ true
is_scalar_low c lt = low_scalar c lt

is_scalar_high : (c : ℕ) → 0xe000 ≤ c → c < 0x110000 → scalar c ≡ true
is_scalar_high c le lt = rw (le-ltb c 55296 (omega (arith, le)), le-leb 57344 c le, lt-ltb c 1114112 lt) refl

two_is : (b x : ℕ) → 0xc2 ≤ b → b < 0xe0 → 0x80 ≤ x → x ≤ 0xbf → encode ((b - 192) * 64 + (x - 128)) ≡ b ∷ x ∷ []
unfolding encode
two_is b x b_low b_high x_low x_high =
    let c = (b - 192) * 64 + (x - 128) in
    let first : 192 + c / 64 ≡ b = omega (arith, b_low, x_low, x_high) in
    let second : 128 + c % 64 ≡ x = omega (arith, b_low, x_low, x_high) in
    rw (le-ltb c 128 (omega (arith, b_low)), lt-ltb c 2048 (omega (arith, b_high, x_high)), first, second) refl

three_is : (b x y : ℕ) → 0xe0 ≤ b → b < 0xf0 → 0x80 ≤ x → x ≤ 0xbf → 0x80 ≤ y → y ≤ 0xbf → (b ≡ 0xe0 → 0xa0 ≤ x) → encode ((b - 224) * 4096 + (x - 128) * 64 + (y - 128)) ≡ b ∷ x ∷ y ∷ []
unfolding encode
three_is b x y b_low b_high x_low x_high y_low y_high long =
    let c = (b - 224) * 4096 + (x - 128) * 64 + (y - 128) in
    let first : 224 + c / 4096 ≡ b = omega (arith, b_low, x_low, x_high, y_low, y_high) in
    let second : 128 + (c / 64) % 64 ≡ x = omega (arith, b_low, x_low, x_high, y_low, y_high) in
    let third : 128 + c % 64 ≡ y = omega (arith, b_low, x_low, x_high, y_low, y_high) in
    let large : 2048 ≤ c = elim (cases_eq b 0xe0) [ inl e ↦ omega (arith, e, long e) | inr ne ↦ omega (arith, b_low, ne) ] in
    rw (le-ltb c 128 (omega (arith, large)), le-ltb c 2048 large, lt-ltb c 65536 (omega (arith, b_high, x_high, y_high)), first, second, third) refl

four_is : (b x y z : ℕ) → 0xf0 ≤ b → b < 0xf5 → 0x80 ≤ x → x ≤ 0xbf → 0x80 ≤ y → y ≤ 0xbf → 0x80 ≤ z → z ≤ 0xbf → (b ≡ 0xf0 → 0x90 ≤ x)
    → encode ((b - 240) * 262144 + (x - 128) * 4096 + (y - 128) * 64 + (z - 128)) ≡ b ∷ x ∷ y ∷ z ∷ []
unfolding encode
four_is b x y z b_low b_high x_low x_high y_low y_high z_low z_high long =
    let c = (b - 240) * 262144 + (x - 128) * 4096 + (y - 128) * 64 + (z - 128) in
    let first : 240 + c / 262144 ≡ b = omega (arith, b_low, x_low, x_high, y_low, y_high, z_low, z_high) in
    let second : 128 + (c / 4096) % 64 ≡ x = omega (arith, b_low, x_low, x_high, y_low, y_high, z_low, z_high) in
    let third : 128 + (c / 64) % 64 ≡ y = omega (arith, b_low, x_low, x_high, y_low, y_high, z_low, z_high) in
    let last : 128 + c % 64 ≡ z = omega (arith, b_low, x_low, x_high, y_low, y_high, z_low, z_high) in
    let large : 65536 ≤ c = elim (cases_eq b 0xf0) [ inl e ↦ omega (arith, e, long e) | inr ne ↦ omega (arith, b_low, ne) ] in
    rw (le-ltb c 128 (omega (arith, large)), le-ltb c 2048 (omega (arith, large)), le-ltb c 65536 large, first, second, third, last) refl

-- the characters that two, three and four bytes begin
two_chars : (b : ℕ) (bs : List ℕ) → 0xc2 ≤ b → b < 0xe0 → ((rest : List ℕ) → length rest ≤ length bs → Texts (0, (0x80, 0xbf)) rest → Chars rest) → Texts (1, (0x80, 0xbf)) bs → Chars (b ∷ bs)
two_chars b bs b_low b_high more h =
    let x = inner_of 0 0x80 0xbf bs h in
    let c = (b - 192) * 64 + (x.byte - 128) in
    subst (λ (p : List ℕ). Chars (b ∷ p)) (sym x.whole)
    (one_more c (b ∷ x.byte ∷ []) x.rest (is_scalar_low c (omega (arith, b_high, x.most))) (two_is b x.byte b_low b_high x.least x.most)
    (omega (arith, b_low), (omega (arith, x.least), tt)) (more x.rest (omega (arith, ap length x.whole)) x.texts))

three_chars : (b : ℕ) (bs : List ℕ) → 0xe0 ≤ b → b < 0xf0 → ((rest : List ℕ) → length rest ≤ length bs → Texts (0, (0x80, 0xbf)) rest → Chars rest) → Texts (2, (low_three b, high_three b)) bs → Chars (b ∷ bs)
three_chars b bs b_low b_high more h =
    let x = inner_of 1 (low_three b) (high_three b) bs h in
    let y = inner_of 0 0x80 0xbf x.rest x.texts in
    let bounds = three_bounds b in
    let x_low : 0x80 ≤ x.byte = elim (cases_eq b 0xe0) [ inl e ↦ omega (arith, x.least, bounds.first e) | inr ne ↦ omega (arith, x.least, bounds.others ne) ] in
    let x_high : x.byte ≤ 0xbf = elim (cases_eq b 0xed) [ inl e ↦ omega (arith, x.most, bounds.last e) | inr ne ↦ omega (arith, x.most, bounds.rest ne) ] in
    let c = (b - 224) * 4096 + (x.byte - 128) * 64 + (y.byte - 128) in
    let ok : scalar c ≡ true = elim (cases_lt b 0xee) [
      | inr over ↦ is_scalar_high c (omega (arith, over)) (omega (arith, b_high, x_high, y.most))
      | inl under ↦ elim (cases_eq b 0xed) [
        | inl e ↦ is_scalar_low c (omega (arith, e, x.most, bounds.last e, y.most))
        | inr ne ↦ is_scalar_low c (omega (arith, under, ne, x_high, y.most))
      ]
    ] in
    subst (λ (p : List ℕ). Chars (b ∷ p)) (sym (x.whole ∙ ap (λ (p : List ℕ). x.byte ∷ p) y.whole))
    (one_more c (b ∷ x.byte ∷ y.byte ∷ []) y.rest ok (three_is b x.byte y.byte b_low b_high x_low x_high y.least y.most (λ e. omega (arith, x.least, bounds.first e)))
    (omega (arith, b_low), (omega (arith, x_low), (omega (arith, y.least), tt))) (more y.rest (omega (arith, ap length x.whole, ap length y.whole)) y.texts))

four_chars : (b : ℕ) (bs : List ℕ) → 0xf0 ≤ b → b < 0xf5 → ((rest : List ℕ) → length rest ≤ length bs → Texts (0, (0x80, 0xbf)) rest → Chars rest) → Texts (3, (low_four b, high_four b)) bs → Chars (b ∷ bs)
four_chars b bs b_low b_high more h =
    let x = inner_of 2 (low_four b) (high_four b) bs h in
    let y = inner_of 1 0x80 0xbf x.rest x.texts in
    let z = inner_of 0 0x80 0xbf y.rest y.texts in
    let bounds = four_bounds b in
    let x_low : 0x80 ≤ x.byte = elim (cases_eq b 0xf0) [ inl e ↦ omega (arith, x.least, bounds.first e) | inr ne ↦ omega (arith, x.least, bounds.others ne) ] in
    let x_high : x.byte ≤ 0xbf = elim (cases_eq b 0xf4) [ inl e ↦ omega (arith, x.most, bounds.last e) | inr ne ↦ omega (arith, x.most, bounds.rest ne) ] in
    let c = (b - 240) * 262144 + (x.byte - 128) * 4096 + (y.byte - 128) * 64 + (z.byte - 128) in
    let large : 65536 ≤ c = elim (cases_eq b 0xf0) [ inl e ↦ omega (arith, e, x.least, bounds.first e) | inr ne ↦ omega (arith, b_low, ne) ] in
    let small : c < 0x110000 = elim (cases_eq b 0xf4) [
      | inl e ↦ omega (arith, e, x.most, bounds.last e, y.most, z.most)
      | inr ne ↦ omega (arith, b_high, ne, x_high, y.most, z.most)
    ] in
    subst (λ (p : List ℕ). Chars (b ∷ p)) (sym (x.whole ∙ ap (λ (p : List ℕ). x.byte ∷ p) y.whole ∙ ap (λ (p : List ℕ). x.byte ∷ y.byte ∷ p) z.whole))
    (one_more c (b ∷ x.byte ∷ y.byte ∷ z.byte ∷ []) z.rest (is_scalar_high c (omega (arith, large)) small)
    (four_is b x.byte y.byte z.byte b_low b_high x_low x_high y.least y.most z.least z.most (λ e. omega (arith, x.least, bounds.first e)))
    (omega (arith, b_low), (omega (arith, x_low), (omega (arith, y.least), (omega (arith, z.least), tt))))
    (more z.rest (omega (arith, ap length x.whole, ap length y.whole, ap length z.whole)) z.texts))

-- a first byte leads to one tail
led : (b : ℕ) (is next : Tail) (bs : List ℕ) → tail_of b ≡ Some is → begins_in None (tail_of b) ≡ Some next → Texts next bs → Texts is bs
led b is next bs e h t = subst (λ (x : Tail). Texts x bs) (some_is next is (sym h ∙ ap (begins_in None) e)) t

text_chars : (fuel : ℕ) (bounds : ℕ × ℕ) (body : List ℕ) → length body ≤ fuel → Texts (0, bounds) body → Chars body
text_chars fuel bounds [] le h = absurd h
text_chars zero bounds (b ∷ bs) le h = absurd (omega (arith, le))
text_chars (suc fuel) bounds (b ∷ bs) le (inl h) =
    subst (λ (p : List ℕ). Chars (b ∷ p)) (sym h.1) (subst (λ (x : ℕ). Chars (x ∷ [])) (sym (eqb-true b 0 h.0)) (record { chars = []; scalars = refl; some = tt; whole = refl }))
text_chars (suc fuel) bounds (b ∷ bs) le (inr h) =
    let next = h.1.0 in
    let is : begins_in None (tail_of b) ≡ Some next = h.1.1 in
    let texts = h.1.2 in
    let more : (rest : List ℕ) → length rest ≤ length bs → Texts (0, (0x80, 0xbf)) rest → Chars rest =
    λ rest short t. text_chars fuel (0x80, 0xbf) rest (omega (arith, short, le)) t in
    elim (cases_lt b 0x80) [
      | inl one ↦
          one_more b (b ∷ []) bs (is_scalar_low b (omega (arith, one))) (encode_ascii b one) (positive b h.0, tt)
          (text_chars fuel (0, 0) bs (omega (arith, le)) (led b (0, (0, 0)) next bs (lead_one b one) is texts))
      | inr large ↦ elim (cases_lt b 0xc2) [
        | inl inner ↦ absurd (none_some next (sym (ap (begins_in None) (lead_inner b large inner)) ∙ is))
        | inr larger ↦ elim (cases_lt b 0xe0) [
          | inl two ↦ two_chars b bs larger two more (led b (1, (0x80, 0xbf)) next bs (lead_two b larger two) is texts)
          | inr high ↦ elim (cases_lt b 0xf0) [
            | inl three ↦ three_chars b bs high three more (led b (2, (low_three b, high_three b)) next bs (lead_three b high three) is texts)
            | inr higher ↦ elim (cases_lt b 0xf5) [
              | inl four ↦ four_chars b bs higher four more (led b (3, (low_four b, high_four b)) next bs (lead_four b higher four) is texts)
              | inr none ↦ absurd (none_some next (sym (ap (begins_in None) (lead_none b none)) ∙ is))
            ]
          ]
        ]
      ]
    ]

pub text_back : (body : List ℕ) → Texts (0, (0, 0)) body → IsRead (text_at body)
text_back body h =
    let t = text_chars (length body) (0, 0) body (omega arith) h in
    (encodes t.chars, ap text_at t.whole ∙ text_again (encodes t.chars) ((t.chars, (t.scalars, refl)), t.some))
