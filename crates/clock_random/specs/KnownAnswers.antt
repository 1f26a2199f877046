-- Random bytes as others compute them: test vectors of RFC 8439 (A.1, the first and the second), and OpenSSL's ChaCha20 of a key, a
-- counter and a nonce that aren't zero.
use Rattle.std.specs.Prelude.{◌≡◌, ℕ, List, [], ◌∷◌, replicate}
use Rattle.clock_random.specs.Random.{random_bytes}

abbrev pub zero_key : List ℕ
zero_key = replicate 32 0

-- 0 to 31
abbrev pub counting_key : List ℕ
counting_key =
    0 ∷ 1 ∷ 2 ∷ 3 ∷ 4 ∷ 5 ∷ 6 ∷ 7 ∷ 8 ∷ 9 ∷ 10 ∷ 11 ∷ 12 ∷ 13 ∷ 14 ∷ 15 ∷ 16 ∷ 17 ∷ 18 ∷ 19 ∷ 20 ∷ 21 ∷ 22 ∷ 23 ∷ 24 ∷ 25 ∷ 26 ∷ 27 ∷ 28 ∷ 29
    ∷ 30 ∷ 31 ∷ []

-- The first bytes of the zero key.
abbrev pub FirstBlock : Type 0
FirstBlock = random_bytes zero_key 0 0 8 ≡ 0x76 ∷ 0xb8 ∷ 0xe0 ∷ 0xad ∷ 0xa0 ∷ 0xf1 ∷ 0x3d ∷ 0x90 ∷ []

-- Those of its second block, of 16 words.
abbrev pub SecondBlock : Type 0
SecondBlock = random_bytes zero_key 0 16 4 ≡ 0x9f ∷ 0x07 ∷ 0xe7 ∷ 0xbe ∷ []

-- Those of another key's sixth block in another stream.
abbrev pub OtherStream : Type 0
OtherStream = random_bytes counting_key 0x01020304 80 4 ≡ 0x54 ∷ 0xd4 ∷ 0xab ∷ 0xa1 ∷ []
