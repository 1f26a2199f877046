-- What a generator at a place fills a buffer with.
use Rattle.std.proofs.Common.{◌≡◌, ℕ, zero, suc, ◌+◌, ◌%◌, ◌^◌, List, [], take, sym, ap, ◌∙◌, arith, add-one}
use Rattle.std.specs.Int.{w32, to_le_bytes}
use Rattle.rand_core.specs.Steps.{steps_u32, stream_of, word_bytes}
use Rattle.rand_core.specs.Stream.{Stream, fill_bytes}
use Rattle.rand_core.proofs.StepsLemmas.{fill_bytes-value, word_bytes_more}
use Rattle.rand_chacha.specs.ChaCha.{ChaCha, key_of, next_word, of_seed}
use Rattle.clock_random.specs.Random.{keystream, random_bytes, random_word, words_of}
use Rattle.clock_random.proofs.Keystream.{keystream_more}

-- a generator of a key and a stream at a place
abbrev at_place : List ℕ → ℕ → ℕ → ChaCha
at_place key stream place = record { key = key_of key; stream = stream; word_pos = place % 2 ^ 68 }

-- the words that it gives, and the place behind them
drawn : (key : List ℕ) (stream place words : ℕ)
    → (keystream key stream place words, at_place key stream (place + words)) ≡ word_bytes (to_le_bytes w32) (next_word 10) words (at_place key stream place)
unfolding keystream word_bytes
drawn key stream place zero =
    let here : place + zero ≡ place = omega arith in
    ap (λ (p : ℕ). let no : List ℕ = [] in (no, at_place key stream p)) here
drawn key stream place (suc words) =
    let next : ((place + words) % 2 ^ 68 + 1) % 2 ^ 68 ≡ (place + suc words) % 2 ^ 68 = omega arith in
    let word : ℕ = random_word key stream (place + words) in
    let here : ChaCha = at_place key stream (place + words) in
    let behind : ChaCha = at_place key stream (place + suc words) in
    let now : (word, behind) ≡ next_word 10 here = ap (λ (p : ℕ). (word, record here { word_pos = p })) (sym next) in
    let more =
    word_bytes_more (to_le_bytes w32) (next_word 10) words (at_place key stream place) here behind (keystream key stream place words) word
    (drawn key stream place words) now in
    ap (λ (count : ℕ). (keystream key stream place count, behind)) (sym (add-one words))
    ∙ ap (λ (bytes : List ℕ). (bytes, behind)) (keystream_more key stream place words)
    ∙ more
    ∙ ap (λ (count : ℕ). word_bytes (to_le_bytes w32) (next_word 10) count (at_place key stream place)) (add-one words)

filled : (key : List ℕ) (stream place n : ℕ) (bytes : List ℕ) (left : Stream)
    → (bytes, left) ≡ fill_bytes n (stream_of (steps_u32 (next_word 10)) (at_place key stream place))
    → bytes ≡ random_bytes key stream place n
unfolding random_bytes
filled key stream place n bytes left is =
    fill_bytes-value (steps_u32 (next_word 10)) n (at_place key stream place) bytes left is
    ∙ ap (λ (all : List ℕ × ChaCha). take n all.0) (sym (drawn key stream place (words_of n)))

-- the same of a generator that was made of the key, given the stream, and set to the place
pub filled_from : (key : List ℕ) (stream place n given_stream given_place : ℕ) (first second third : ChaCha) (bytes : List ℕ) (left : Stream)
    → given_stream ≡ stream → given_place ≡ place
    → first ≡ of_seed key → second ≡ record first { stream = given_stream } → third ≡ record second { word_pos = given_place % 2 ^ 68 }
    → (bytes, left) ≡ fill_bytes n (stream_of (steps_u32 (next_word 10)) third)
    → bytes ≡ random_bytes key stream place n
filled_from key stream place n given_stream given_place first second third bytes left stream_is place_is is_first is_second is_third is =
    let there : third ≡ at_place key stream place =
    is_third
    ∙ ap (λ (g : ChaCha). record g { word_pos = given_place % 2 ^ 68 }) (is_second ∙ ap (λ (g : ChaCha). record g { stream = given_stream }) is_first)
    ∙ ap (λ (s : ℕ). at_place key s given_place) stream_is
    ∙ ap (at_place key stream) place_is in
    filled key stream place n bytes left (is ∙ ap (λ (g : ChaCha). fill_bytes n (stream_of (steps_u32 (next_word 10)) g)) there)
