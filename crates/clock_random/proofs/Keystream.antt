-- The keystream from one place and from another behind it.
use Rattle.std.proofs.Common.{◌≡◌, ℕ, zero, suc, ◌+◌, ◌-◌, ◌*◌, ◌≤◌, List, [], ◌∷◌, ◌++◌, length, take, refl, sym, ap, ◌∙◌, arith, append_assoc, append-nil, length-append}
use Rattle.std.proofs.Math.Seq.{take-append-add}
use Rattle.std.proofs.lemmas.List.{length-take-le, take_all, take-append-le}
use Rattle.std.specs.Int.{w32, to_le_bytes}
use Rattle.clock_random.specs.Random.{keystream, random_bytes, random_word, words_of}
use Rattle.clock_random.specs.RandomLaws.{BeginsAlike, GoesOn, IsWhole}

-- a word has four bytes
four : (word : ℕ) → length (to_le_bytes w32 word) ≡ 4
four word = refl

pub length-keystream : (key : List ℕ) (stream place words : ℕ) → length (keystream key stream place words) ≡ 4 * words
unfolding keystream
length-keystream key stream place zero = refl
length-keystream key stream place (suc words) =
    let rest = length-keystream key stream (place + 1) words in
    let both = length-append (to_le_bytes w32 (random_word key stream place)) (keystream key stream (place + 1) words) in
    omega (arith, rest, both, four (random_word key stream place))

-- as many words, and as many behind them
pub keystream_on : (key : List ℕ) (stream place front behind : ℕ)
    → keystream key stream place (front + behind) ≡ keystream key stream place front ++ keystream key stream (place + front) behind
unfolding keystream
keystream_on key stream place zero behind =
    let none : zero + behind ≡ behind = omega arith in
    let here : place + zero ≡ place = omega arith in
    ap (keystream key stream place) none ∙ ap (λ (p : ℕ). keystream key stream p behind) (sym here)
keystream_on key stream place (suc front) behind =
    let more : suc front + behind ≡ suc (front + behind) = omega arith in
    let next : place + 1 + front ≡ place + suc front = omega arith in
    let word : List ℕ = to_le_bytes w32 (random_word key stream place) in
    let rest = keystream_on key stream (place + 1) front behind in
    ap (keystream key stream place) more
    ∙ ap (λ (bytes : List ℕ). word ++ bytes) rest
    ∙ ap (λ (p : ℕ). word ++ (keystream key stream (place + 1) front ++ keystream key stream p behind)) next
    ∙ sym (append_assoc word (keystream key stream (place + 1) front) (keystream key stream (place + suc front) behind))

-- one word more
pub keystream_more : (key : List ℕ) (stream place words : ℕ)
    → keystream key stream place (words + 1) ≡ keystream key stream place words ++ to_le_bytes w32 (random_word key stream (place + words))
unfolding keystream
keystream_more key stream place words =
    keystream_on key stream place words 1
    ∙ ap (λ (bytes : List ℕ). keystream key stream place words ++ bytes) (append-nil (to_le_bytes w32 (random_word key stream (place + words))))

pub is_whole : IsWhole
unfolding random_bytes
is_whole key stream place n =
    let enough : n ≤ length (keystream key stream place (words_of n)) = omega (arith, length-keystream key stream place (words_of n)) in
    length-take-le n (keystream key stream place (words_of n)) enough

take-take : (m n : ℕ) (xs : List ℕ) → m ≤ n → take m (take n xs) ≡ take m xs
take-take zero n xs h = refl
take-take (suc m) zero xs h = absurd (omega arith)
take-take (suc m) (suc n) [] h = refl
take-take (suc m) (suc n) (x ∷ xs) h = ap (λ (rest : List ℕ). x ∷ rest) (take-take m n xs (omega arith))

-- a keystream that is longer begins with a shorter one
begins : (key : List ℕ) (stream place front behind m : ℕ) → m ≤ 4 * front
    → take m (keystream key stream place (front + behind)) ≡ take m (keystream key stream place front)
begins key stream place front behind m within =
    let fits : m ≤ length (keystream key stream place front) = omega (arith, length-keystream key stream place front) in
    ap (take m) (keystream_on key stream place front behind)
    ∙ take-append-le m (keystream key stream place front) (keystream key stream (place + front) behind) fits

pub begins_alike : BeginsAlike
unfolding random_bytes
begins_alike key stream place m n shorter =
    let sum : words_of n ≡ words_of m + (words_of n - words_of m) = omega arith in
    let within : m ≤ 4 * words_of m = omega arith in
    take-take m n (keystream key stream place (words_of n)) shorter
    ∙ ap (λ (words : ℕ). take m (keystream key stream place words)) sum
    ∙ begins key stream place (words_of m) (words_of n - words_of m) m within

pub goes_on : GoesOn
unfolding random_bytes
goes_on key stream place words n =
    let front : List ℕ = keystream key stream place words in
    let behind : List ℕ = keystream key stream (place + words) (words_of n) in
    let size : length front ≡ 4 * words = length-keystream key stream place words in
    let sum : words_of (4 * words + n) ≡ words + words_of n = omega arith in
    let whole : words_of (4 * words) ≡ words = omega arith in
    let all : take (4 * words) front ≡ front = take_all (4 * words) front (omega (arith, size)) in
    ap (λ (count : ℕ). take (4 * words + n) (keystream key stream place count)) sum
    ∙ ap (take (4 * words + n)) (keystream_on key stream place words (words_of n))
    ∙ ap (λ (count : ℕ). take (count + n) (front ++ behind)) (sym size)
    ∙ take-append-add front behind n
    ∙ ap (λ (bytes : List ℕ). bytes ++ take n behind) (sym all ∙ ap (λ (count : ℕ). take (4 * words) (keystream key stream place count)) (sym whole))
