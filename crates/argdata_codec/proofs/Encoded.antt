-- Each value that has an encoding is encoded by the function `encoding`.
use Rattle.std.proofs.Common.{◌≡◌, ℕ, zero, suc, ◌+◌, ◌*◌, ◌/◌, ◌%◌, ◌≤◌, true, false, List, [], ◌∷◌, ◌++◌, length, refl, sym, ap, subst, ◌∙◌, append_assoc, arith, ℤ}
use Rattle.argdata_codec.specs.Shape.{Shape, Shapes, Pairs, null, binary, boolean, descriptor, integer, mapping, sequence, text, no_items, item, no_pairs, pair}
use Rattle.argdata_codec.specs.Encoding.{IsLength, IsInteger, IsInRange, IsField, complement_bytes, Encodes, AreItems, ArePairs, IsEncodable, ItemsAreEncodable, PairsAreEncodable}
use Rattle.argdata_codec.specs.Writing.{groups_of, length_bytes, width_of, field_of, encoding, item_fields, pair_fields}
use Rattle.argdata_codec.proofs.Groups.{no_groups, more_groups, width_within, width_least, length_high}

grouped : (fuel n m b : ℕ) (bs : List ℕ) → n ≤ fuel → IsLength n (b ∷ bs) m → IsLength 0 (groups_of n ++ b ∷ bs) m
grouped fuel zero m b bs le h = rw no_groups h
grouped zero (suc n) m b bs le h = absurd (omega arith)
grouped (suc fuel) (suc n) m b bs le h =
    let same : 128 * (suc n / 128) + suc n % 128 ≡ suc n = omega arith in
    let one : IsLength (suc n / 128) (suc n % 128 ∷ b ∷ bs) m = (omega arith, omega arith, subst (λ (k : ℕ). IsLength k (b ∷ bs) m) (sym same) h) in
    let whole : groups_of (suc n) ++ b ∷ bs ≡ groups_of (suc n / 128) ++ (suc n % 128 ∷ b ∷ bs) =
    ap (λ (front : List ℕ). front ++ b ∷ bs) (more_groups (suc n) (omega arith)) ∙ append_assoc (groups_of (suc n / 128)) ((suc n % 128) ∷ []) (b ∷ bs) in
    subst (λ (bytes : List ℕ). IsLength 0 bytes m) (sym whole) (grouped fuel (suc n / 128) m (suc n % 128) (b ∷ bs) (omega arith) one)

pub length_encoded : (n : ℕ) → IsLength 0 (length_bytes n) n
length_encoded n = grouped (n / 128) (n / 128) n (128 + n % 128) [] (omega arith) (omega arith, omega arith, omega arith)

integer_encoded : (i : ℤ) → IsInRange i → IsInteger i (complement_bytes (width_of i) i)
integer_encoded i range =
    let width : length (complement_bytes (width_of i) i) ≡ width_of i = length_high (width_of i) _ in
    record {
      range = range;
      holds = rw width (width_within i);
      shortest = λ fewer lt h. absurd (omega (arith, width, lt, width_least fewer i h));
      bytes = ap (λ (k : ℕ). complement_bytes k i) (sym width);
    }

abbrev field_encoded : (P : List ℕ → Type 0) (body : List ℕ) → P body → IsField P (field_of body)
field_encoded P body h = (length_bytes (length body), body, refl, length_encoded (length body), h)

mutual
  pub is_encoded : (x : Shape) → IsEncodable x → Encodes x (encoding x)
  is_encoded null h = refl
  is_encoded (binary content) h = refl
  is_encoded (boolean false) h = refl
  is_encoded (boolean true) h = refl
  is_encoded (descriptor n) h = (h, refl)
  is_encoded (integer i) h = (complement_bytes (width_of i) i, refl, integer_encoded i h)
  is_encoded (mapping ps) h = (pair_fields ps, refl, pairs_encoded ps h)
  is_encoded (sequence xs) h = (item_fields xs, refl, items_encoded xs h)
  is_encoded (text content) h = (h, refl)

  pub items_encoded : (xs : Shapes) → ItemsAreEncodable xs → AreItems xs (item_fields xs)
  items_encoded no_items h = refl
  items_encoded (item x xs) h =
      (field_of (encoding x), item_fields xs, refl, field_encoded (λ body. Encodes x body) (encoding x) (is_encoded x h.0), items_encoded xs h.1)

  pub pairs_encoded : (ps : Pairs) → PairsAreEncodable ps → ArePairs ps (pair_fields ps)
  pairs_encoded no_pairs h = refl
  pairs_encoded (pair k v ps) h = (
    field_of (encoding k),
    field_of (encoding v),
    pair_fields ps,
    refl,
    field_encoded (λ body. Encodes k body) (encoding k) (is_encoded k h.0),
    field_encoded (λ body. Encodes v body) (encoding v) (is_encoded v h.1),
    pairs_encoded ps h.2,
  )
