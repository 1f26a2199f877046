-- Each value has one encoding.
use Rattle.std.proofs.Common.{◌≡◌, ℕ, ◌+◌, ◌*◌, ◌/◌, ◌%◌, ◌<◌, ◌≤◌, ◌⊎◌, inl, inr, max, true, false, List, [], ◌∷◌, ◌++◌, length, sym, ap, ◌∙◌, append_assoc, arith, ℤ}
use Rattle.std.proofs.lemmas.Bool.{cases_lt}
use Rattle.argdata_codec.specs.Shape.{Shape, Shapes, Pairs, null, binary, boolean, descriptor, integer, mapping, sequence, text, no_items, item, no_pairs, pair, depth_of}
use Rattle.argdata_codec.specs.Encoding.{IsLength, IsInteger, IsField, complement_bytes, Encodes, AreItems, ArePairs, IsEncodable, ItemsAreEncodable, PairsAreEncodable}
use Rattle.argdata_codec.specs.Writing.{groups_of, length_bytes, width_of, field_of, encoding, item_fields, pair_fields}
use Rattle.lists.proofs.Chosen.{some_is}
use Rattle.argdata_codec.proofs.Groups.{no_groups, more_groups, width_within, width_least}
use Rattle.argdata_codec.proofs.Again.{value_again}

length_only_from : (v n : ℕ) (front : List ℕ) → IsLength v front n → groups_of v ++ front ≡ length_bytes n
length_only_from v n [] h = absurd h
length_only_from v n (b ∷ []) h =
    let high : v ≡ n / 128 = omega (arith, h.0, h.1, h.2) in
    let low : b ≡ 128 + n % 128 = omega (arith, h.0, h.1, h.2) in
    ap (λ (k : ℕ). groups_of k ++ b ∷ []) high ∙ ap (λ (k : ℕ). groups_of (n / 128) ++ k ∷ []) low
length_only_from v n (b ∷ c ∷ bs) h =
    let w = 128 * v + b in
    let high : w / 128 ≡ v = omega (arith, h.0) in
    let low : w % 128 ≡ b = omega (arith, h.0) in
    let one : groups_of w ≡ groups_of v ++ b ∷ [] = more_groups w h.1 ∙ ap (λ (k : ℕ). groups_of k ++ (w % 128) ∷ []) high ∙ ap (λ (k : ℕ). groups_of v ++ k ∷ []) low in
    sym (append_assoc (groups_of v) (b ∷ []) (c ∷ bs)) ∙ ap (λ (xs : List ℕ). xs ++ c ∷ bs) (sym one) ∙ length_only_from w n (c ∷ bs) h.2

length_only : (n : ℕ) (front : List ℕ) → IsLength 0 front n → front ≡ length_bytes n
length_only n front h = ap (λ (xs : List ℕ). xs ++ front) (sym no_groups) ∙ length_only_from 0 n front h

integer_only : (i : ℤ) (body : List ℕ) → IsInteger i body → body ≡ complement_bytes (width_of i) i
integer_only i body h = h.bytes ∙ ap (λ (k : ℕ). complement_bytes k i) (sym (least (cases_lt (width_of i) (length body)) (width_least (length body) i h.holds)))
  where
    least : (width_of i < length body) ⊎ (length body ≤ width_of i) → width_of i ≤ length body → width_of i ≡ length body
    least (inl lt) le = absurd (h.shortest (width_of i) lt (width_within i))
    least (inr ge) le = omega arith

field_only : (P : List ℕ → Type 0) (field body : List ℕ) → ((bytes : List ℕ) → P bytes → bytes ≡ body) → IsField P field → field ≡ field_of body
field_only P field body only h =
    let same : h.1 ≡ body = only h.1 h.4 in
    h.2 ∙ ap (λ (xs : List ℕ). xs ++ h.1) (length_only (length h.1) h.0 h.3) ∙ ap field_of same

mutual
  pub encoding_only : (x : Shape) (bytes : List ℕ) → Encodes x bytes → bytes ≡ encoding x
  encoding_only null bytes h = h
  encoding_only (binary content) bytes h = h
  encoding_only (boolean false) bytes h = h
  encoding_only (boolean true) bytes h = h
  encoding_only (descriptor n) bytes h = h.1
  encoding_only (integer i) bytes h = h.1 ∙ ap (λ (xs : List ℕ). 5 ∷ xs) (integer_only i h.0 h.2)
  encoding_only (mapping ps) bytes h = h.1 ∙ ap (λ (xs : List ℕ). 6 ∷ xs) (pairs_only ps h.0 h.2)
  encoding_only (sequence xs) bytes h = h.1 ∙ ap (λ (ys : List ℕ). 7 ∷ ys) (items_only xs h.0 h.2)
  encoding_only (text content) bytes h = h.1

  items_only : (xs : Shapes) (bytes : List ℕ) → AreItems xs bytes → bytes ≡ item_fields xs
  items_only no_items bytes h = h
  items_only (item x xs) bytes h =
      h.2 ∙ ap (λ (ys : List ℕ). ys ++ h.1) (field_only (λ body. Encodes x body) h.0 (encoding x) (encoding_only x) h.3)
      ∙ ap (λ (ys : List ℕ). field_of (encoding x) ++ ys) (items_only xs h.1 h.4)

  pairs_only : (ps : Pairs) (bytes : List ℕ) → ArePairs ps bytes → bytes ≡ pair_fields ps
  pairs_only no_pairs bytes h = h
  pairs_only (pair k v ps) bytes h =
      h.3 ∙ ap (λ (ys : List ℕ). ys ++ (h.1 ++ h.2)) (field_only (λ body. Encodes k body) h.0 (encoding k) (encoding_only k) h.4)
      ∙ ap (λ (ys : List ℕ). field_of (encoding k) ++ (ys ++ h.2)) (field_only (λ body. Encodes v body) h.1 (encoding v) (encoding_only v) h.5)
      ∙ ap (λ (ys : List ℕ). field_of (encoding k) ++ (field_of (encoding v) ++ ys)) (pairs_only ps h.2 h.6)

pub one_encoding : (x : Shape) (a b : List ℕ) → Encodes x a → Encodes x b → a ≡ b
one_encoding x a b p q = encoding_only x a p ∙ sym (encoding_only x b q)

pub one_value : (x y : Shape) (bytes : List ℕ) → Encodes x bytes → Encodes y bytes → x ≡ y
one_value x y bytes p q =
    let d = max (depth_of x) (depth_of y) in
    some_is x y (sym (value_again d x (omega arith) bytes p) ∙ value_again d y (omega arith) bytes q)

-- what has an encoding is encodable
mutual
  pub encodable : (x : Shape) (bytes : List ℕ) → Encodes x bytes → IsEncodable x
  encodable null bytes h = tt
  encodable (binary content) bytes h = tt
  encodable (boolean b) bytes h = tt
  encodable (descriptor n) bytes h = h.0
  encodable (integer i) bytes h = h.2.range
  encodable (mapping ps) bytes h = pairs_encodable ps h.0 h.2
  encodable (sequence xs) bytes h = items_encodable xs h.0 h.2
  encodable (text content) bytes h = h.0

  items_encodable : (xs : Shapes) (bytes : List ℕ) → AreItems xs bytes → ItemsAreEncodable xs
  items_encodable no_items bytes h = tt
  items_encodable (item x xs) bytes h = (encodable x h.3.1 h.3.4, items_encodable xs h.1 h.4)

  pairs_encodable : (ps : Pairs) (bytes : List ℕ) → ArePairs ps bytes → PairsAreEncodable ps
  pairs_encodable no_pairs bytes h = tt
  pairs_encodable (pair k v ps) bytes h = (encodable k h.4.1 h.4.4, encodable v h.5.1 h.5.4, pairs_encodable ps h.2 h.6)
