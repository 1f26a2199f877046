-- Random bytes: those of the stream cipher ChaCha20 (RFC 8439, 2.3 and 2.4), with Bernstein's block counter and stream number of
-- 64 bits each in the state's last four words, as the crate rand_chacha has it. A key has 32 bytes.
use Rattle.std.specs.Prelude.{ℕ, zero, suc, ◌+◌, ◌/◌, ◌%◌, ◌^◌, List, [], ◌++◌, take}
use Rattle.std.specs.Int.{w32, to_le_bytes}
use Rattle.rand_chacha.specs.ChaCha.{key_of, word_at}

-- the word at a place of a stream, the first of which is at 0; a stream repeats after 2 ^ 68 words
abbrev pub random_word : List ℕ → ℕ → ℕ → ℕ
random_word key stream place = word_at 10 (key_of key) stream (place % 2 ^ 68)

-- the bytes of as many words from a place on, of each word the lowest first
unfoldable pub keystream : List ℕ → ℕ → ℕ → ℕ → List ℕ
keystream key stream place zero = []
keystream key stream place (suc words) = to_le_bytes w32 (random_word key stream place) ++ keystream key stream (place + 1) words

-- how many words are drawn for so many bytes: what the last one has over is lost
abbrev pub words_of : ℕ → ℕ
words_of n = (n + 3) / 4

-- n random bytes of a key and a stream, from a place on, which counts words
unfoldable pub random_bytes : List ℕ → ℕ → ℕ → ℕ → List ℕ
random_bytes key stream place n = take n (keystream key stream place (words_of n))
