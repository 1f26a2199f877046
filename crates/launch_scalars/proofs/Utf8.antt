-- What a scalar says is UTF-8 where the bytes are in which it stands.
use Rattle.std.proofs.Common.{◌≡◌, ℕ, zero, suc, ◌+◌, ◌<◌, Bool, true, false, not, ◌==◌, ◌&&◌, if◌then◌else◌, List, [], ◌∷◌, ◌++◌, length, drop, Option, Some, None, refl, sym, ap, subst, ◌∙◌, append_assoc, arith}
use Rattle.std.specs.Str.{IsUtf8}
use Rattle.std.proofs.Math.ListN.{get_or}
use Rattle.std.proofs.Math.Seq.{get_or-append_seam, take-append_seam, drop-append-add}
use Rattle.std.proofs.lemmas.Bool.Decides.{nat_tests}
use Rattle.std.proofs.lemmas.List.{append-nil, length-append}
use Rattle.std.proofs.lemmas.Str.{IsUtf8-append, IsUtf8-take, IsUtf8-drop, IsCharBoundary-before_ascii, IsCharBoundary-after_ascii}
use Rattle.launch_scalars.specs.Quoted.{Quoted, closed, unclosed, put, spoiled, in_single, escape, escaped, in_double, quoted}
use Rattle.launch_scalars.specs.Spaces.{without_last_spaces}
use Rattle.lists.proofs.Chosen.{some_is, none_some}
use Rattle.launch_scalars.proofs.Escaped.{AreAscii, AreNonzero, escape_read, ascii_utf8}

-- ---- an ASCII character parts a text

pub around_ascii : (front more : List ℕ) (b : ℕ) → b < 128 → IsUtf8 (front ++ b ∷ more) → IsUtf8 front × IsUtf8 more
around_ascii front more b small utf8 =
    let whole = front ++ b ∷ more in
    let inside : length front < length whole = omega (arith, length-append front (b ∷ more)) in
    let is : get_or whole (length front) 0 < 128 = rw (get_or-append_seam front b more 0) small in
    let before = IsUtf8-take whole (length front) utf8 (IsCharBoundary-before_ascii whole (length front) inside is) in
    let behind = IsUtf8-drop whole (length front + 1) utf8 (IsCharBoundary-after_ascii whole (length front) utf8 inside is) in
    (subst IsUtf8 (take-append_seam front (b ∷ more)) before, subst IsUtf8 (drop-append-add front (b ∷ more) 1) behind)

behind_all_ascii : (front more : List ℕ) → AreAscii front → IsUtf8 (front ++ more) → IsUtf8 more
behind_all_ascii [] more small utf8 = utf8
behind_all_ascii (b ∷ bs) more small utf8 = behind_all_ascii bs more small.1 (around_ascii [] (bs ++ more) b small.0 utf8).1

-- ---- bytes that aren't zero

pub nonzero_left : (xs ys : List ℕ) → AreNonzero (xs ++ ys) → AreNonzero xs
nonzero_left [] ys h = tt
nonzero_left (x ∷ xs) ys h = (h.0, nonzero_left xs ys h.1)

pub nonzero_right : (xs ys : List ℕ) → AreNonzero (xs ++ ys) → AreNonzero ys
nonzero_right [] ys h = h
nonzero_right (x ∷ xs) ys h = nonzero_right xs ys h.1

nonzero_both : (xs ys : List ℕ) → AreNonzero xs → AreNonzero ys → AreNonzero (xs ++ ys)
nonzero_both [] ys h k = k
nonzero_both (x ∷ xs) ys h k = (h.0, nonzero_both xs ys h.1 k)

-- ---- parts of a quoted scalar

-- Content stands for bytes: in whatever text the bytes stand last, the content may.
abbrev pub StandsFor : List ℕ → List ℕ → Type 0
StandsFor content bytes = (front : List ℕ) → IsUtf8 (front ++ bytes) → IsUtf8 (front ++ content)

-- a piece before such content stands for the bytes that it was read from
abbrev pub PieceFor : List ℕ → List ℕ → Type 0
PieceFor piece bytes = (content more : List ℕ) → StandsFor content more → StandsFor (piece ++ content) (bytes ++ more)

byte_for : (b : ℕ) → PieceFor (b ∷ []) (b ∷ [])
byte_for b content more inner front utf8 =
    subst IsUtf8 (append_assoc front (b ∷ []) content) (inner (front ++ b ∷ []) (subst IsUtf8 (sym (append_assoc front (b ∷ []) more)) utf8))

ascii_for : (piece bytes : List ℕ) (b : ℕ) → b < 128 → AreAscii bytes → IsUtf8 piece → PieceFor piece (b ∷ bytes)
ascii_for piece bytes b small all character content more inner front utf8 =
    let sides = around_ascii front (bytes ++ more) b small utf8 in
    let rest = inner [] (behind_all_ascii bytes more all sides.1) in
    IsUtf8-append front (piece ++ content) sides.0 (IsUtf8-append piece content character rest)

-- ---- what a quoted scalar says

-- what a quoted scalar without wrong escapes says, where it is closed, stands for the bytes that it takes
pub record ContentRead (bytes content rest : List ℕ) : Type 0 where
  pub taken : List ℕ
  pub whole : bytes ≡ taken ++ rest
  pub for : StandsFor content taken
  pub nonzero : AreNonzero taken → AreNonzero content

abbrev Read : List ℕ → Quoted → Type 0
Read bytes q = (rest : List ℕ) → q.rest ≡ Some rest → q.wrong ≡ None → ContentRead bytes q.content rest

nothing_for : (quote : ℕ) → quote < 128 → StandsFor [] (quote ∷ [])
nothing_for quote small front utf8 = subst IsUtf8 (sym (append-nil front)) (around_ascii front [] quote small utf8).0

unclosed_read : (bytes : List ℕ) → Read bytes unclosed
unclosed_read bytes rest e right = absurd (none_some rest e)

closed_read : (quote : ℕ) (bytes : List ℕ) → quote < 128 → Read (quote ∷ bytes) (closed bytes)
closed_read quote bytes small rest e right = record {
  taken = quote ∷ [];
  whole = ap (λ (xs : List ℕ). quote ∷ xs) (some_is bytes rest e);
  for = nothing_for quote small;
  nonzero = λ h. tt;
}

spoiled_read : (bytes : List ℕ) (place : ℕ) (q : Quoted) → Read bytes (spoiled place q)
spoiled_read bytes place q rest e right = absurd (none_some place (sym right))

put_read : (front piece more : List ℕ) (q : Quoted) → PieceFor piece front → (AreNonzero front → AreNonzero piece) → Read more q → Read (front ++ more) (put piece q)
put_read front piece more q for nonzero inner rest e right =
    let i = inner rest e right in
    record {
      taken = front ++ i.taken;
      whole = ap (λ (xs : List ℕ). front ++ xs) i.whole ∙ sym (append_assoc front i.taken rest);
      for = for q.content i.taken i.for;
      nonzero = λ h. nonzero_both piece q.content (nonzero (nonzero_left front i.taken h)) (i.nonzero (nonzero_right front i.taken h));
    }

byte_read : (b : ℕ) (bs : List ℕ) (q : Quoted) → Read bs q → Read (b ∷ bs) (put (b ∷ []) q)
byte_read b bs q inner = put_read (b ∷ []) (b ∷ []) bs q (byte_for b) (λ h. h) inner

by_test : (bytes : List ℕ) (t : Bool) (q r : Quoted) → (t ≡ true → Read bytes q) → (t ≡ false → Read bytes r) → Read bytes (if t then q else r)
by_test bytes true q r h k = h refl
by_test bytes false q r h k = k refl

single_read : (bytes : List ℕ) → Read bytes (in_single bytes)
single_read [] = unclosed_read []
single_read (b ∷ []) =
    by_test (b ∷ []) (b == 39) (closed []) (put (b ∷ []) unclosed) (λ e. closed_read b [] (grind (arith, nat_tests, e))) (λ e. byte_read b [] unclosed (unclosed_read []))
single_read (b ∷ c ∷ bs) =
    let second = if c == 39 then put (39 ∷ []) (in_single bs) else closed (c ∷ bs) in
    by_test (b ∷ c ∷ bs) (not (b == 39)) (put (b ∷ []) (in_single (c ∷ bs))) second
    (λ e. byte_read b (c ∷ bs) (in_single (c ∷ bs)) (single_read (c ∷ bs)))
    (λ e.
    let small : b < 128 = grind (arith, nat_tests, e) in
    by_test (b ∷ c ∷ bs) (c == 39) (put (39 ∷ []) (in_single bs)) (closed (c ∷ bs))
    (λ f.
    let two : c < 128 = grind (arith, nat_tests, f) in
    put_read (b ∷ c ∷ []) (39 ∷ []) bs (in_single bs) (ascii_for (39 ∷ []) (c ∷ []) b small (two, tt) (ascii_utf8 39 (omega arith))) (λ h. (omega arith, tt)) (single_read bs))
    (λ f. closed_read b (c ∷ bs) small))

escaped_read : (b place : ℕ) (bs : List ℕ) → b < 128 → (e : Option (List ℕ × ℕ)) → escape bs ≡ e → ((n : ℕ) → Read (drop n bs) (in_double n bs))
    → Read (b ∷ bs) (escaped place e (λ n. in_double n bs))
escaped_read b place bs small None is inner = spoiled_read (b ∷ bs) place (in_double 1 bs)
escaped_read b place bs small (Some e) is inner =
    let r = escape_read bs e.0 e.1 is in
    subst (λ (xs : List ℕ). Read (b ∷ xs) (put e.0 (in_double e.1 bs))) (sym r.taken.whole)
    (put_read (b ∷ r.taken.front) e.0 (drop e.1 bs) (in_double e.1 bs) (ascii_for e.0 r.taken.front b small r.taken.ascii r.utf8) (λ h. r.nonzero) (inner e.1))

double_read : (taken : ℕ) (bytes : List ℕ) → Read (drop taken bytes) (in_double taken bytes)
double_read taken [] = unclosed_read (drop taken [])
double_read (suc taken) (b ∷ bs) = double_read taken bs
double_read zero (b ∷ bs) =
    by_test (b ∷ bs) (b == 34) (closed bs) (if b == 92 then escaped (suc (length bs)) (escape bs) (λ n. in_double n bs) else put (b ∷ []) (in_double 0 bs))
    (λ e. closed_read b bs (grind (arith, nat_tests, e)))
    (λ e. by_test (b ∷ bs) (b == 92) (escaped (suc (length bs)) (escape bs) (λ n. in_double n bs)) (put (b ∷ []) (in_double 0 bs))
    (λ f. escaped_read b (suc (length bs)) bs (grind (arith, nat_tests, f)) (escape bs) refl (λ n. double_read n bs))
    (λ f. byte_read b bs (in_double 0 bs) (double_read 0 bs)))

pub quoted_read : (quote : ℕ) (bytes rest : List ℕ) → (quoted quote bytes).rest ≡ Some rest → (quoted quote bytes).wrong ≡ None → ContentRead bytes (quoted quote bytes).content rest
unfolding quoted
quoted_read quote bytes rest e right =
    by_test bytes (quote == 39) (in_single bytes) (in_double 0 bytes) (λ s. single_read bytes) (λ s. double_read 0 bytes) rest e right

-- ---- the bytes without the spaces at their end

left_true : (a b : Bool) → (a && b) ≡ true → a ≡ true
left_true true b e = refl
left_true false b e = e

pub trimmed_for : (bytes : List ℕ) → StandsFor (without_last_spaces bytes) bytes
trimmed_for [] front utf8 = utf8
trimmed_for (b ∷ bs) front utf8 = by_test (trimmed_for bs) ((b == 32) && (length (without_last_spaces bs) == 0)) refl
  where
    by_test : StandsFor (without_last_spaces bs) bs → (t : Bool) → ((b == 32) && (length (without_last_spaces bs) == 0)) ≡ t
        → IsUtf8 (front ++ (if t then [] else b ∷ without_last_spaces bs))
    by_test inner true is =
        let space = left_true (b == 32) (length (without_last_spaces bs) == 0) is in
        let small : b < 128 = grind (arith, nat_tests, space) in
        subst IsUtf8 (sym (append-nil front)) (around_ascii front bs b small utf8).0
    by_test inner false is = byte_for b (without_last_spaces bs) bs inner front utf8

pub trimmed_nonzero : (bytes : List ℕ) → AreNonzero bytes → AreNonzero (without_last_spaces bytes)
trimmed_nonzero [] h = tt
trimmed_nonzero (b ∷ bs) h = by_test ((b == 32) && (length (without_last_spaces bs) == 0)) (trimmed_nonzero bs h.1)
  where
    by_test : (t : Bool) → AreNonzero (without_last_spaces bs) → AreNonzero (if t then [] else b ∷ without_last_spaces bs)
    by_test true rest = tt
    by_test false rest = (h.0, rest)
