-- The bytes that encode a value.
use Rattle.std.specs.Prelude.{ℕ, ℤ, pos, negsuc, zero, suc, ◌+◌, ◌*◌, ◌^◌, ◌<◌, ◌≤◌, ◌≡◌, true, false, List, [], ◌∷◌, ◌++◌, length, take}
use Rattle.std.specs.List.{AllByRecursion}
use Rattle.std.specs.Int.{w32, w128, to_be_bytes, bytes_high_first, cast_unsigned}
use Rattle.std.specs.Str.{IsUtf8}
use Rattle.argdata_codec.specs.Shape.{Shape, Shapes, Pairs, null, binary, boolean, descriptor, integer, mapping, sequence, text, no_items, item, no_pairs, pair, depth_of}

-- The bytes bring a length from v, the groups of 7 bits before them, to n. Bit 7 is set in the last byte alone,
-- and the first group isn't 0 where others follow it: so each length is written in the fewest bytes.
abbrev pub IsLength : ℕ → List ℕ → ℕ → Type 0
IsLength v [] n = ⊥
IsLength v (b ∷ []) n = (128 ≤ b) × (b < 256) × (n + 128 ≡ 128 * v + b)
IsLength v (b ∷ c ∷ bs) n = (b < 128) × (0 < 128 * v + b) × IsLength (128 * v + b) (c ∷ bs) n

-- how far an integer is from 0, or from -1 where it is below 0
abbrev pub steps : ℤ → ℕ
steps (pos n) = n
steps (negsuc n) = n

-- so many bytes of two's complement hold the integer; no bytes hold 0
abbrev pub IsWithin : ℕ → ℤ → Type 0
IsWithin zero i = i ≡ pos 0
IsWithin (suc count) i = steps i < 128 * 256 ^ count

-- from -2^63 to 2^64 - 1
abbrev pub IsInRange : ℤ → Type 0
IsInRange (pos n) = n < 2 ^ 64
IsInRange (negsuc n) = n < 2 ^ 63

-- the lowest bytes of an integer's two's complement, the most significant first
abbrev pub complement_bytes : ℕ → ℤ → List ℕ
complement_bytes count i = bytes_high_first count (cast_unsigned w128 i)

-- the shortest two's complement of an integer, the most significant byte first
pub record IsInteger (i : ℤ) (body : List ℕ) : Type 0 where
  pub range : IsInRange i
  pub holds : IsWithin (length body) i
  pub shortest : (fewer : ℕ) → fewer < length body → IsWithin fewer i → ⊥
  pub bytes : body ≡ complement_bytes (length body) i

-- a text without a zero byte
abbrev pub IsText : List ℕ → Type 0
IsText bytes = IsUtf8 bytes × AllByRecursion (λ b. 0 < b) bytes

-- the bytes are a length and that many bytes, which are an encoding of what is asked
abbrev pub IsField : (List ℕ → Type 0) → List ℕ → Type 0
IsField encoded bytes = (front : List ℕ) × (body : List ℕ) × (bytes ≡ front ++ body) × IsLength 0 front (length body) × encoded body

abbrev mutual
  pub Encodes : Shape → List ℕ → Type 0
  Encodes null bytes = bytes ≡ []
  Encodes (binary content) bytes = bytes ≡ 1 ∷ content
  Encodes (boolean false) bytes = bytes ≡ 2 ∷ []
  Encodes (boolean true) bytes = bytes ≡ 2 ∷ 1 ∷ []
  Encodes (descriptor n) bytes = (n < 2 ^ 32) × (bytes ≡ 3 ∷ to_be_bytes w32 n)
  Encodes (integer i) bytes = (body : List ℕ) × (bytes ≡ 5 ∷ body) × IsInteger i body
  Encodes (mapping ps) bytes = (body : List ℕ) × (bytes ≡ 6 ∷ body) × ArePairs ps body
  Encodes (sequence xs) bytes = (body : List ℕ) × (bytes ≡ 7 ∷ body) × AreItems xs body
  Encodes (text content) bytes = IsText content × (bytes ≡ 8 ∷ (content ++ 0 ∷ []))

  -- the items as fields, one after the other
  pub AreItems : Shapes → List ℕ → Type 0
  AreItems no_items bytes = bytes ≡ []
  AreItems (item x xs) bytes =
      (front : List ℕ) × (rest : List ℕ) × (bytes ≡ front ++ rest) × IsField (λ body. Encodes x body) front × AreItems xs rest

  -- the keys and values in turn as fields
  pub ArePairs : Pairs → List ℕ → Type 0
  ArePairs no_pairs bytes = bytes ≡ []
  ArePairs (pair k v ps) bytes =
      (key : List ℕ) × (value : List ℕ) × (rest : List ℕ) × (bytes ≡ key ++ (value ++ rest))
      × IsField (λ body. Encodes k body) key × IsField (λ body. Encodes v body) value × ArePairs ps rest

-- the greatest depth of a value that has an encoding
abbrev pub greatest_depth : ℕ
greatest_depth = 64

-- argument data: the encoding of a value that isn't too deep
abbrev pub IsArgdata : Shape → List ℕ → Type 0
IsArgdata x bytes = (depth_of x ≤ greatest_depth) × Encodes x bytes

-- a value has an encoding, whatever its depth
abbrev mutual
  pub IsEncodable : Shape → Type 0
  IsEncodable null = Unit {0}
  IsEncodable (binary content) = Unit {0}
  IsEncodable (boolean b) = Unit {0}
  IsEncodable (descriptor n) = n < 2 ^ 32
  IsEncodable (integer i) = IsInRange i
  IsEncodable (mapping ps) = PairsAreEncodable ps
  IsEncodable (sequence xs) = ItemsAreEncodable xs
  IsEncodable (text content) = IsText content

  pub ItemsAreEncodable : Shapes → Type 0
  ItemsAreEncodable no_items = Unit {0}
  ItemsAreEncodable (item x xs) = IsEncodable x × ItemsAreEncodable xs

  pub PairsAreEncodable : Pairs → Type 0
  PairsAreEncodable no_pairs = Unit {0}
  PairsAreEncodable (pair k v ps) = IsEncodable k × IsEncodable v × PairsAreEncodable ps

-- what has an encoding and isn't too deep
abbrev pub CanBeEncoded : Shape → Type 0
CanBeEncoded x = (depth_of x ≤ greatest_depth) × IsEncodable x

-- Some value's encoding begins with these bytes.
abbrev pub BeginsArgdata : List ℕ → Type 0
BeginsArgdata bytes = (rest : List ℕ) × (x : Shape) × AllByRecursion (λ b. b < 256) rest × IsArgdata x (bytes ++ rest)

-- the length of the longest beginning of the bytes that begins some value's encoding
pub record IsLongest (bytes : List ℕ) (at : ℕ) : Type 0 where
  pub inside : at ≤ length bytes
  pub begins : BeginsArgdata (take at bytes)
  pub longest : (len : ℕ) → len ≤ length bytes → BeginsArgdata (take len bytes) → len ≤ at
