-- The value that bytes encode, read from their front.
use Rattle.std.specs.Prelude.{ℕ, ℤ, pos, negsuc, zero, suc, ◌+◌, ◌-◌, ◌*◌, ◌^◌, ◌==◌, ◌&&◌, ◌||◌, if◌then◌else◌, nat_lt, Bool, true, false, List, [], ◌∷◌, length, take, drop, Option, Some, None, option_map}
use Rattle.std.specs.Int.{w32, from_be_bytes}
use Rattle.std.specs.Str.{is_utf8}
use Rattle.lists.specs.Options.{◌>>=◌}
use Rattle.argdata_codec.specs.Shape.{Shape, null, binary, boolean, descriptor, integer, mapping, sequence, text, of_list, of_pairs}
use Rattle.argdata_codec.specs.Writing.{width_of}

-- The bytes of the field at the front, and the bytes after it. The groups of its length before these bytes are v.
abbrev pub field_at : ℕ → List ℕ → Option (List ℕ × List ℕ)
field_at v [] = None
field_at v (b ∷ bs) =
    if nat_lt b 128
    then (if (128 * v + b == 0) || nat_lt (length bs) (128 * v + b) then None else field_at (128 * v + b) bs)
    else (if nat_lt (length bs) (128 * v + b - 128) then None else Some (take (128 * v + b - 128) bs, drop (128 * v + b - 128) bs))

abbrev pub boolean_at : List ℕ → Option Bool
boolean_at [] = Some false
boolean_at (b ∷ []) = if b == 1 then Some true else None
boolean_at (a ∷ b ∷ bs) = None

abbrev pub descriptor_at : List ℕ → Option ℕ
descriptor_at body = if length body == 4 then Some (from_be_bytes w32 body) else None

-- the number that bytes bring to one in front of them
abbrev pub number_after : ℕ → List ℕ → ℕ
number_after n [] = n
number_after n (b ∷ bs) = number_after (256 * n + b) bs

-- a number below top as two's complement, where the upper half is below 0
abbrev pub signed : ℕ → ℕ → ℤ
signed top n = if nat_lt (2 * n) top then pos n else negsuc (top - suc n)

abbrev pub is_in_range : ℤ → Bool
is_in_range (pos n) = nat_lt n (2 ^ 64)
is_in_range (negsuc n) = nat_lt n (2 ^ 63)

-- an integer, where it is in range and no fewer bytes hold it
abbrev pub shortest_of : ℕ → ℤ → Option ℤ
shortest_of count i = if is_in_range i && (width_of i == count) then Some i else None

unfoldable pub integer_at : List ℕ → Option ℤ
integer_at body = if nat_lt 9 (length body) then None else shortest_of (length body) (signed (256 ^ length body) (number_after 0 body))

-- what stands before the first zero byte, which is the last byte
abbrev pub before_zero : List ℕ → Option (List ℕ)
before_zero [] = None
before_zero (b ∷ bs) = if b == 0 then (if length bs == 0 then Some [] else None) else option_map (λ front. b ∷ front) (before_zero bs)

unfoldable pub text_at : List ℕ → Option (List ℕ)
text_at body = before_zero body >>= λ content. if is_utf8 content then Some content else None

-- the value of the field at the front, and the bytes after it
abbrev pub entry_at : (List ℕ → Option Shape) → List ℕ → Option (Shape × List ℕ)
entry_at value bytes = field_at 0 bytes >>= λ f. value f.0 >>= λ x. Some (x, f.1)

-- the values of fields, one after the other; each takes a byte at least, so the fuel is enough if it is the length
abbrev pub items_with : (List ℕ → Option Shape) → ℕ → List ℕ → Option (List Shape)
items_with value fuel [] = Some []
items_with value zero (b ∷ bs) = None
items_with value (suc fuel) (b ∷ bs) =
    entry_at value (b ∷ bs) >>= λ first. items_with value fuel first.1 >>= λ xs. Some (first.0 ∷ xs)

unfoldable pub items_of : (List ℕ → Option Shape) → List ℕ → Option (List Shape)
items_of value bytes = items_with value (length bytes) bytes

abbrev pub pairs_with : (List ℕ → Option Shape) → ℕ → List ℕ → Option (List (Shape × Shape))
pairs_with value fuel [] = Some []
pairs_with value zero (b ∷ bs) = None
pairs_with value (suc fuel) (b ∷ bs) =
    entry_at value (b ∷ bs) >>= λ k. entry_at value k.1 >>= λ v. pairs_with value fuel v.1 >>= λ ps. Some ((k.0, v.0) ∷ ps)

unfoldable pub pairs_of : (List ℕ → Option Shape) → List ℕ → Option (List (Shape × Shape))
pairs_of value bytes = pairs_with value (length bytes) bytes

-- a value, where maps and sequences are read as given
abbrev pub value_with : (List ℕ → Option (List Shape)) → (List ℕ → Option (List (Shape × Shape))) → List ℕ → Option Shape
value_with items pairs [] = Some null
value_with items pairs (tag ∷ body) =
    if tag == 1 then Some (binary body)
    else if tag == 2 then option_map boolean (boolean_at body)
    else if tag == 3 then option_map descriptor (descriptor_at body)
    else if tag == 5 then option_map integer (integer_at body)
    else if tag == 6 then option_map (λ ps. mapping (of_pairs ps)) (pairs body)
    else if tag == 7 then option_map (λ xs. sequence (of_list xs)) (items body)
    else if tag == 8 then option_map text (text_at body)
    else None

-- the items and the pairs of a sequence and a map of at most some depth
unfoldable mutual
  pub items_at : ℕ → List ℕ → Option (List Shape)
  items_at zero bytes = None
  items_at (suc depth) bytes = items_of (value_with (items_at depth) (pairs_at depth)) bytes

  pub pairs_at : ℕ → List ℕ → Option (List (Shape × Shape))
  pairs_at zero bytes = None
  pairs_at (suc depth) bytes = pairs_of (value_with (items_at depth) (pairs_at depth)) bytes

-- a value of at most some depth
abbrev pub value_at : ℕ → List ℕ → Option Shape
value_at depth = value_with (items_at depth) (pairs_at depth)
