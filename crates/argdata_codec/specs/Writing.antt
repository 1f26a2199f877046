-- The one encoding of a value, as a function.
use Rattle.std.specs.Prelude.{ℕ, ℤ, pos, negsuc, zero, suc, ◌+◌, ◌/◌, ◌%◌, if◌then◌else◌, nat_lt, true, false, List, [], ◌∷◌, ◌++◌, length}
use Rattle.std.specs.Int.{w32, to_be_bytes}
use Rattle.argdata_codec.specs.Shape.{Shape, Shapes, Pairs, null, binary, boolean, descriptor, integer, mapping, sequence, text, no_items, item, no_pairs, pair}
use Rattle.argdata_codec.specs.Encoding.{complement_bytes}

-- the groups of 7 bits of a number, the most significant first; none of 0. The fuel is at least the number
abbrev pub groups : ℕ → ℕ → List ℕ
groups zero n = []
groups (suc fuel) zero = []
groups (suc fuel) (suc n) = groups fuel (suc n / 128) ++ ((suc n % 128) ∷ [])

unfoldable pub groups_of : ℕ → List ℕ
groups_of n = groups n n

-- a length
abbrev pub length_bytes : ℕ → List ℕ
length_bytes n = groups_of (n / 128) ++ ((128 + n % 128) ∷ [])

-- how many bytes hold the sign and so many steps, beside the first. The fuel is at least the steps
abbrev pub further : ℕ → ℕ → ℕ
further zero n = 0
further (suc fuel) n = if nat_lt n 128 then 0 else suc (further fuel (n / 256))

unfoldable pub further_bytes : ℕ → ℕ
further_bytes n = further n n

-- how many bytes hold an integer
abbrev pub width_of : ℤ → ℕ
width_of (pos zero) = 0
width_of (pos (suc n)) = suc (further_bytes (suc n))
width_of (negsuc n) = suc (further_bytes n)

abbrev pub field_of : List ℕ → List ℕ
field_of body = length_bytes (length body) ++ body

abbrev mutual
  pub encoding : Shape → List ℕ
  encoding null = []
  encoding (binary content) = 1 ∷ content
  encoding (boolean false) = 2 ∷ []
  encoding (boolean true) = 2 ∷ 1 ∷ []
  encoding (descriptor n) = 3 ∷ to_be_bytes w32 n
  encoding (integer i) = 5 ∷ complement_bytes (width_of i) i
  encoding (mapping ps) = 6 ∷ pair_fields ps
  encoding (sequence xs) = 7 ∷ item_fields xs
  encoding (text content) = 8 ∷ (content ++ 0 ∷ [])

  pub item_fields : Shapes → List ℕ
  item_fields no_items = []
  item_fields (item x xs) = field_of (encoding x) ++ item_fields xs

  pub pair_fields : Pairs → List ℕ
  pair_fields no_pairs = []
  pair_fields (pair k v ps) = field_of (encoding k) ++ (field_of (encoding v) ++ pair_fields ps)
