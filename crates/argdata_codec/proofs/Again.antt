-- What is encoded is read again: so no bytes encode two values.
use Rattle.std.proofs.Common.{◌≡◌, ℕ, zero, suc, ◌<◌, ◌≤◌, true, false, List, [], ◌∷◌, ◌++◌, length, Option, Some, option_map, refl, ap, ◌∙◌, append_assoc, arith}
use Rattle.std.proofs.lemmas.List.{length-append}
use Rattle.std.proofs.lemmas.Nat.{from_be_bytes-to_be_bytes_4}
use Rattle.argdata_codec.specs.Shape.{Shape, Shapes, Pairs, null, binary, boolean, descriptor, integer, mapping, sequence, text, no_items, item, no_pairs, pair, of_list, of_pairs, to_list, to_pairs, depth_of, depth_of_items, depth_of_pairs}
use Rattle.argdata_codec.specs.Encoding.{IsLength, IsField, Encodes, AreItems, ArePairs}
use Rattle.argdata_codec.specs.Reading.{entry_at, items_of, items_at, pairs_of, pairs_at, value_at}
use Rattle.argdata_codec.proofs.Fields.{field_again}
use Rattle.argdata_codec.proofs.Loops.{items_end, items_more, pairs_end, pairs_more}
use Rattle.argdata_codec.proofs.Numbers.{integer_again}
use Rattle.argdata_codec.proofs.Texts.{text_again}

of_to_list : (xs : Shapes) → of_list (to_list xs) ≡ xs
of_to_list no_items = refl
of_to_list (item x xs) = ap (item x) (of_to_list xs)

of_to_pairs : (ps : Pairs) → of_pairs (to_pairs ps) ≡ ps
of_to_pairs no_pairs = refl
of_to_pairs (pair k v ps) = ap (pair k v) (of_to_pairs ps)

-- a value that bytes encode is read from them
abbrev IsReadBy : (List ℕ → Option Shape) → Shape → Type 0
IsReadBy value x = (bytes : List ℕ) → Encodes x bytes → value bytes ≡ Some x

length_some : (v n : ℕ) (front : List ℕ) → IsLength v front n → 0 < length front
length_some v n [] h = absurd h
length_some v n (b ∷ bs) h = omega arith

entry_again : (value : List ℕ → Option Shape) (x : Shape) (field rest : List ℕ) → IsReadBy value x → IsField (λ body. Encodes x body) field → entry_at value (field ++ rest) ≡ Some (x, rest)
entry_again value x field rest reads h =
    let front = h.0 in
    let body = h.1 in
    let whole : field ++ rest ≡ front ++ (body ++ rest) = ap (λ (xs : List ℕ). xs ++ rest) h.2 ∙ append_assoc front body rest in
    ap (entry_at value) whole ∙ rw (field_again 0 front body rest h.3, reads body h.4) refl

field_some : (P : List ℕ → Type 0) (field rest : List ℕ) → IsField P field → 0 < length (field ++ rest)
field_some P field rest h = omega (arith, length-append field rest, ap length h.2, length-append h.0 h.1, length_some 0 (length h.1) h.0 h.3)

items_step : (value : List ℕ → Option Shape) (x : Shape) (bytes front rest : List ℕ) (xs : List Shape) → IsReadBy value x → bytes ≡ front ++ rest → IsField (λ body. Encodes x body) front
    → items_of value rest ≡ Some xs → items_of value bytes ≡ Some (x ∷ xs)
items_step value x bytes front rest xs reads whole field others =
    let some = field_some (λ body. Encodes x body) front rest field in
    ap (items_of value) whole ∙ items_more value (front ++ rest) some ∙ rw (entry_again value x front rest reads field, others) refl

pairs_step : (value : List ℕ → Option Shape) (k v : Shape) (bytes key val rest : List ℕ) (ps : List (Shape × Shape)) → IsReadBy value k → IsReadBy value v → bytes ≡ key ++ (val ++ rest)
    → IsField (λ body. Encodes k body) key → IsField (λ body. Encodes v body) val → pairs_of value rest ≡ Some ps → pairs_of value bytes ≡ Some ((k, v) ∷ ps)
pairs_step value k v bytes key val rest ps reads_key reads_value whole is_key is_value others =
    let some = field_some (λ body. Encodes k body) key (val ++ rest) is_key in
    ap (pairs_of value) whole ∙ pairs_more value (key ++ (val ++ rest)) some
    ∙ rw (entry_again value k key (val ++ rest) reads_key is_key, entry_again value v val rest reads_value is_value, others) refl

-- a reader of lists, one level up
up_items : (d : ℕ) (body : List ℕ) (xs : List Shape) → items_of (value_at d) body ≡ Some xs → items_at (suc d) body ≡ Some xs
unfolding items_at
up_items d body xs h = h

up_pairs : (d : ℕ) (body : List ℕ) (ps : List (Shape × Shape)) → pairs_of (value_at d) body ≡ Some ps → pairs_at (suc d) body ≡ Some ps
unfolding items_at
up_pairs d body ps h = h

mutual
  pub value_again : (d : ℕ) (x : Shape) → depth_of x ≤ d → (bytes : List ℕ) → Encodes x bytes → value_at d bytes ≡ Some x
  value_again d null le bytes h = ap (value_at d) h
  value_again d (binary content) le bytes h = ap (value_at d) h
  value_again d (boolean true) le bytes h = ap (value_at d) h
  value_again d (boolean false) le bytes h = ap (value_at d) h
  value_again d (descriptor n) le bytes h =
      ap (value_at d) h.1 ∙ ap (λ (m : ℕ). Some (descriptor m)) (from_be_bytes-to_be_bytes_4 n h.0)
  value_again d (integer i) le bytes h = ap (value_at d) h.1 ∙ ap (option_map integer) (integer_again h.0 i h.2)
  value_again zero (mapping ps) le bytes h = absurd (omega arith)
  value_again (suc d) (mapping ps) le bytes h =
      ap (value_at (suc d)) h.1
      ∙ ap (option_map (λ qs. mapping (of_pairs qs))) (up_pairs d h.0 (to_pairs ps) (pairs_again d ps (omega arith) h.0 h.2))
      ∙ ap (λ (qs : Pairs). Some (mapping qs)) (of_to_pairs ps)
  value_again zero (sequence xs) le bytes h = absurd (omega arith)
  value_again (suc d) (sequence xs) le bytes h =
      ap (value_at (suc d)) h.1
      ∙ ap (option_map (λ ys. sequence (of_list ys))) (up_items d h.0 (to_list xs) (items_again d xs (omega arith) h.0 h.2))
      ∙ ap (λ (ys : Shapes). Some (sequence ys)) (of_to_list xs)
  value_again d (text content) le bytes h = ap (value_at d) h.1 ∙ ap (option_map text) (text_again content h.0)

  items_again : (d : ℕ) (xs : Shapes) → depth_of_items xs ≤ d → (bytes : List ℕ) → AreItems xs bytes → items_of (value_at d) bytes ≡ Some (to_list xs)
  items_again d no_items le bytes h = ap (items_of (value_at d)) h ∙ items_end (value_at d)
  items_again d (item x xs) le bytes h =
      items_step (value_at d) x bytes h.0 h.1 (to_list xs) (value_again d x (omega arith)) h.2 h.3 (items_again d xs (omega arith) h.1 h.4)

  pairs_again : (d : ℕ) (ps : Pairs) → depth_of_pairs ps ≤ d → (bytes : List ℕ) → ArePairs ps bytes → pairs_of (value_at d) bytes ≡ Some (to_pairs ps)
  pairs_again d no_pairs le bytes h = ap (pairs_of (value_at d)) h ∙ pairs_end (value_at d)
  pairs_again d (pair k v ps) le bytes h =
      pairs_step (value_at d) k v bytes h.0 h.1 h.2 (to_pairs ps) (value_again d k (omega arith)) (value_again d v (omega arith)) h.3 h.4 h.5 (pairs_again d ps (omega arith) h.2 h.6)
