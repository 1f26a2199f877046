-- Each value in a list takes at least a byte of the encoding.
use Rattle.std.proofs.Common.{ℕ, suc, ◌+◌, ◌/◌, ◌%◌, ◌≤◌, List, [], ◌∷◌, ◌++◌, length, Some, None, arith}
use Rattle.std.proofs.lemmas.List.{length-append}
use Rattle.argdata_codec.specs.Writing.{encoding, item_fields, pair_fields, field_of, length_bytes, groups_of}
use Rattle.launch_values.specs.Shape.{Shape, Content, Shapes, Pairs, node, null, boolean, integer, text, binary, mapping, sequence, no_items, item, no_pairs, pair}
use Rattle.launch_plan.specs.Values.{count, value_of, content_value, item_values, pair_values}
use Rattle.launch_plan.specs.Sizes.{values_in, values_in_content, values_in_items, values_in_pairs}

field_longer : (body : List ℕ) → suc (length body) ≤ length (field_of body)
field_longer body =
    omega (arith, length-append (length_bytes (length body)) body, length-append (groups_of (length body / 128)) ((128 + length body % 128) ∷ []))

mutual
  pub at_least : (n : ℕ) (x : Shape) → values_in x ≤ length (encoding (value_of n x))
  at_least n (node line (Some name) value) = omega arith
  at_least n (node line None value) = content_at_least n value

  content_at_least : (n : ℕ) (c : Content) → values_in_content c ≤ length (encoding (content_value n c))
  content_at_least n null = omega arith
  content_at_least n (boolean b) = omega arith
  content_at_least n (integer i) = omega arith
  content_at_least n (text bytes) = omega arith
  content_at_least n (binary bytes) = omega arith
  content_at_least n (mapping ps) = omega (arith, pairs_at_least n ps)
  content_at_least n (sequence xs) = omega (arith, items_at_least n xs)

  items_at_least : (n : ℕ) (xs : Shapes) → values_in_items xs ≤ length (item_fields (item_values n xs))
  items_at_least n no_items = omega arith
  items_at_least n (item x xs) =
      let one = encoding (value_of n x) in
      omega (arith, at_least n x, items_at_least (n + count x) xs, field_longer one, length-append (field_of one) (item_fields (item_values (n + count x) xs)))

  pairs_at_least : (n : ℕ) (ps : Pairs) → values_in_pairs ps ≤ length (pair_fields (pair_values n ps))
  pairs_at_least n no_pairs = omega arith
  pairs_at_least n (pair k v ps) =
      let key = encoding (value_of n k) in
      let value = encoding (value_of (n + count k) v) in
      let rest = pair_fields (pair_values (n + count k + count v) ps) in
      omega (
        arith,
        at_least n k,
        at_least (n + count k) v,
        pairs_at_least (n + count k + count v) ps,
        field_longer key,
        field_longer value,
        length-append (field_of key) (field_of value ++ rest),
        length-append (field_of value) rest,
      )
