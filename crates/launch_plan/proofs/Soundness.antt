-- The arguments of a document can be encoded.
use Rattle.std.proofs.Common.{ℕ, ◌+◌, ◌≤◌, ◌^◌, ◌++◌, length, Some, None, arith}
use Rattle.std.specs.Prelude.{ℤ, pos, negsuc, IsTrue}
use Rattle.std.proofs.lemmas.Bool.{ltb-true}
use Rattle.std.proofs.lemmas.List.{length-append}
use Rattle.argdata_codec.specs.Shape as arguments
use Rattle.argdata_codec.specs.Encoding.{IsInRange, IsEncodable, ItemsAreEncodable, PairsAreEncodable, CanBeEncoded}
use Rattle.launch_values.specs.Shape.{Shape, Content, Shapes, Pairs, node, null, boolean, integer, text, binary, mapping, sequence, no_items, item, no_pairs, pair, depth_of, depth_of_content, depth_of_items, depth_of_pairs}
use Rattle.launch_scalars.specs.Numbers.{is_in_range}
use Rattle.launch_values.specs.Documents.{IsSound, IsSoundContent, AreSoundItems, AreSoundPairs, IsDocument}
use Rattle.launch_plan.specs.Tagged.{tagged, tagged_in, tagged_in_items, tagged_in_pairs}
use Rattle.launch_plan.specs.Values.{count, value_of, content_value, item_values, pair_values}

in_range : (i : ℤ) → IsTrue (is_in_range i) → IsInRange i
in_range (pos n) h = ltb-true _ _ h
in_range (negsuc n) h = ltb-true _ _ h

mutual
  encodable : (n : ℕ) (x : Shape) → IsSound x → n + count x ≤ 2 ^ 32 → IsEncodable (value_of n x)
  encodable n (node line (Some name) value) sound le = omega (arith, le)
  encodable n (node line None value) sound le = encodable_content n value sound le

  encodable_content : (n : ℕ) (c : Content) → IsSoundContent c → n + length (tagged_in c) ≤ 2 ^ 32 → IsEncodable (content_value n c)
  encodable_content n null sound le = tt
  encodable_content n (boolean b) sound le = tt
  encodable_content n (integer i) sound le = in_range i sound
  encodable_content n (text bytes) sound le = sound
  encodable_content n (binary bytes) sound le = tt
  encodable_content n (mapping ps) sound le = encodable_pairs n ps sound le
  encodable_content n (sequence xs) sound le = encodable_items n xs sound le

  encodable_items : (n : ℕ) (xs : Shapes) → AreSoundItems xs → n + length (tagged_in_items xs) ≤ 2 ^ 32 → ItemsAreEncodable (item_values n xs)
  encodable_items n no_items sound le = tt
  encodable_items n (item x xs) sound le =
      let both = length-append (tagged x) (tagged_in_items xs) in
      (encodable n x sound.0 (omega (arith, le, both)), encodable_items (n + count x) xs sound.1 (omega (arith, le, both)))

  encodable_pairs : (n : ℕ) (ps : Pairs) → AreSoundPairs ps → n + length (tagged_in_pairs ps) ≤ 2 ^ 32 → PairsAreEncodable (pair_values n ps)
  encodable_pairs n no_pairs sound le = tt
  encodable_pairs n (pair k v ps) sound le =
      let both = length-append (tagged k) (tagged v ++ tagged_in_pairs ps) in
      let rest = length-append (tagged v) (tagged_in_pairs ps) in (
        encodable n k sound.0 (omega (arith, le, both)),
        encodable (n + count k) v sound.1 (omega (arith, le, both, rest)),
        encodable_pairs (n + count k + count v) ps sound.2 (omega (arith, le, both, rest)),
      )

mutual
  no_deeper : (n : ℕ) (x : Shape) → arguments.depth_of (value_of n x) ≤ depth_of x
  no_deeper n (node line (Some name) value) = omega arith
  no_deeper n (node line None value) = content_no_deeper n value

  content_no_deeper : (n : ℕ) (c : Content) → arguments.depth_of (content_value n c) ≤ depth_of_content c
  content_no_deeper n null = omega arith
  content_no_deeper n (boolean b) = omega arith
  content_no_deeper n (integer i) = omega arith
  content_no_deeper n (text bytes) = omega arith
  content_no_deeper n (binary bytes) = omega arith
  content_no_deeper n (mapping ps) = omega (arith, pairs_no_deeper n ps)
  content_no_deeper n (sequence xs) = omega (arith, items_no_deeper n xs)

  items_no_deeper : (n : ℕ) (xs : Shapes) → arguments.depth_of_items (item_values n xs) ≤ depth_of_items xs
  items_no_deeper n no_items = omega arith
  items_no_deeper n (item x xs) = omega (arith, no_deeper n x, items_no_deeper (n + count x) xs)

  pairs_no_deeper : (n : ℕ) (ps : Pairs) → arguments.depth_of_pairs (pair_values n ps) ≤ depth_of_pairs ps
  pairs_no_deeper n no_pairs = omega arith
  pairs_no_deeper n (pair k v ps) =
      omega (arith, no_deeper n k, no_deeper (n + count k) v, pairs_no_deeper (n + count k + count v) ps)

-- at most so many nodes have a tag
pub can_be_encoded : (x : Shape) → IsDocument x → count x ≤ 1024 → CanBeEncoded (value_of 0 x)
can_be_encoded x document few = (omega (arith, document.0, no_deeper 0 x), encodable 0 x document.1 (omega (arith, few)))
