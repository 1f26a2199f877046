-- What is read is encoded so.
use Rattle.std.proofs.Common.{◌≡◌, ℕ, zero, suc, ◌<◌, ◌≤◌, inl, inr, Bool, true, false, eqb, List, [], ◌∷◌, ◌++◌, length, get_or, Option, Some, None, option_map, refl, sym, ap, subst, ◌∙◌, append_assoc, arith}
use Rattle.std.specs.Int.{w32, to_be_bytes, from_be_bytes}
use Rattle.std.proofs.lemmas.Bool.{eqb-true}
use Rattle.std.proofs.lemmas.Nat.{be_bytes_4}
use Rattle.argdata_codec.specs.Shape.{Shape, null, binary, boolean, descriptor, integer, mapping, sequence, text, of_list, of_pairs, depth_of, depth_of_items, depth_of_pairs}
use Rattle.argdata_codec.specs.Encoding.{IsField, Encodes, AreItems, ArePairs}
use Rattle.lists.specs.Options.{◌>>=◌}
use Rattle.argdata_codec.specs.Reading.{field_at, boolean_at, descriptor_at, integer_at, text_at, entry_at, items_with, items_of, items_at, pairs_with, pairs_of, pairs_at, value_with, value_at}
use Rattle.lists.proofs.Chosen.{chosen, none_some, some_is}
use Rattle.argdata_codec.proofs.Fields.{AreBytes, field_parts}
use Rattle.lists.proofs.OptionSteps.{bind_some}
use Rattle.argdata_codec.proofs.Numbers.{integer_sound}
use Rattle.argdata_codec.proofs.Texts.{text_sound}

-- what a reader of values of some depth gives is encoded by the bytes
unfoldable Sound : (List ℕ → Option Shape) → ℕ → Type 0
Sound value d = (bytes : List ℕ) (x : Shape) → AreBytes bytes → value bytes ≡ Some x → Encodes x bytes × (depth_of x ≤ d)

pub bytes_split : (xs ys : List ℕ) → AreBytes (xs ++ ys) → AreBytes xs × AreBytes ys
bytes_split [] ys all = (tt, all)
bytes_split (x ∷ xs) ys all = let r = bytes_split xs ys all.1 in ((all.0, r.0), r.1)

pub mapped_some : {A B : Type 0} (f : A → B) (r : Option A) (y : B) → option_map f r ≡ Some y → (x : A) × (r ≡ Some x) × (f x ≡ y)
mapped_some f None y e = absurd (none_some y e)
mapped_some f (Some x) y e = (x, refl, some_is (f x) y e)

record Entry (d : ℕ) (bytes : List ℕ) (x : Shape) (rest : List ℕ) : Type 0 where
  front : List ℕ
  whole : bytes ≡ front ++ rest
  field : IsField (λ body. Encodes x body) front
  fits : AreBytes rest
  depth : depth_of x ≤ d

entry_sound : (value : List ℕ → Option Shape) (d : ℕ) → Sound value d → (bytes : List ℕ) (e : Shape × List ℕ) → AreBytes bytes → entry_at value bytes ≡ Some e → Entry d bytes e.0 e.1
unfolding Sound
entry_sound value d sound bytes e all h =
    let f = bind_some (field_at 0 bytes) (λ f. value f.0 >>= λ x. Some (x, f.1)) e h in
    let v = bind_some (value f.0.0) (λ x. Some (x, f.0.1)) e f.2 in
    let p = field_parts 0 bytes f.0.0 f.0.1 f.1 in
    let some_bytes : AreBytes (p.front ++ (f.0.0 ++ f.0.1)) = subst AreBytes p.whole all in
    let behind = (bytes_split p.front (f.0.0 ++ f.0.1) some_bytes).1 in
    let parts = bytes_split f.0.0 f.0.1 behind in
    let encoded = sound f.0.0 v.0 parts.0 v.1 in
    let made : Entry d bytes v.0 f.0.1 = record {
      front = p.front ++ f.0.0;
      whole = p.whole ∙ sym (append_assoc p.front f.0.0 f.0.1);
      field = (p.front, f.0.0, refl, p.length all, encoded.0);
      fits = parts.1;
      depth = encoded.1;
    } in
    subst (λ (y : Shape × List ℕ). Entry d bytes y.0 y.1) (some_is (v.0, f.0.1) e v.2) made

items_sound : (value : List ℕ → Option Shape) (d : ℕ) → Sound value d → (fuel : ℕ) (bytes : List ℕ) (xs : List Shape) → AreBytes bytes → items_with value fuel bytes ≡ Some xs
    → AreItems (of_list xs) bytes × (depth_of_items (of_list xs) ≤ d)
items_sound value d sound fuel [] xs all h =
    subst (λ (ys : List Shape). AreItems (of_list ys) [] × (depth_of_items (of_list ys) ≤ d)) (some_is [] xs h) (refl, omega arith)
items_sound value d sound zero (b ∷ bs) xs all h = absurd (none_some xs h)
items_sound value d sound (suc fuel) (b ∷ bs) xs all h =
    let first = bind_some (entry_at value (b ∷ bs)) (λ e. items_with value fuel e.1 >>= λ ys. Some (e.0 ∷ ys)) xs h in
    let others = bind_some (items_with value fuel first.0.1) (λ ys. Some (first.0.0 ∷ ys)) xs first.2 in
    let e = entry_sound value d sound (b ∷ bs) first.0 all first.1 in
    let r = items_sound value d sound fuel first.0.1 others.0 e.fits others.1 in
    subst (λ (ys : List Shape). AreItems (of_list ys) (b ∷ bs) × (depth_of_items (of_list ys) ≤ d)) {x = first.0.0 ∷ others.0} (some_is (first.0.0 ∷ others.0) xs others.2)
    ((e.front, first.0.1, e.whole, e.field, r.0), omega (arith, e.depth, r.1))

pairs_sound : (value : List ℕ → Option Shape) (d : ℕ) → Sound value d → (fuel : ℕ) (bytes : List ℕ) (ps : List (Shape × Shape)) → AreBytes bytes → pairs_with value fuel bytes ≡ Some ps
    → ArePairs (of_pairs ps) bytes × (depth_of_pairs (of_pairs ps) ≤ d)
pairs_sound value d sound fuel [] ps all h =
    subst (λ (qs : List (Shape × Shape)). ArePairs (of_pairs qs) [] × (depth_of_pairs (of_pairs qs) ≤ d)) (some_is [] ps h) (refl, omega arith)
pairs_sound value d sound zero (b ∷ bs) ps all h = absurd (none_some ps h)
pairs_sound value d sound (suc fuel) (b ∷ bs) ps all h =
    let key = bind_some (entry_at value (b ∷ bs)) (λ k. entry_at value k.1 >>= λ v. pairs_with value fuel v.1 >>= λ qs. Some ((k.0, v.0) ∷ qs)) ps h in
    let val = bind_some (entry_at value key.0.1) (λ v. pairs_with value fuel v.1 >>= λ qs. Some ((key.0.0, v.0) ∷ qs)) ps key.2 in
    let others = bind_some (pairs_with value fuel val.0.1) (λ qs. Some ((key.0.0, val.0.0) ∷ qs)) ps val.2 in
    let k = entry_sound value d sound (b ∷ bs) key.0 all key.1 in
    let v = entry_sound value d sound key.0.1 val.0 k.fits val.1 in
    let r = pairs_sound value d sound fuel val.0.1 others.0 v.fits others.1 in
    subst (λ (qs : List (Shape × Shape)). ArePairs (of_pairs qs) (b ∷ bs) × (depth_of_pairs (of_pairs qs) ≤ d)) {x = (key.0.0, val.0.0) ∷ others.0} (some_is ((key.0.0, val.0.0) ∷ others.0) ps others.2)
    ((k.front, v.front, val.0.1, k.whole ∙ ap (λ (rest : List ℕ). k.front ++ rest) v.whole, k.field, v.field, r.0), omega (arith, k.depth, v.depth, r.1))

boolean_sound : (body : List ℕ) (b : Bool) → boolean_at body ≡ Some b → Encodes (boolean b) (2 ∷ body)
boolean_sound [] b e = subst (λ (t : Bool). Encodes (boolean t) (2 ∷ [])) (some_is false b e) refl
boolean_sound (x ∷ []) b e =
    elim (chosen (eqb x 1) _ _ _ e) [
      | inl p ↦ subst (λ (t : Bool). Encodes (boolean t) (2 ∷ x ∷ [])) (some_is true b p.1) (ap (λ (n : ℕ). 2 ∷ n ∷ []) (eqb-true x 1 p.0))
      | inr p ↦ absurd (none_some b p.1)
    ]
boolean_sound (x ∷ y ∷ bs) b e = absurd (none_some b e)

pub each_byte : (bytes : List ℕ) → AreBytes bytes → (i : ℕ) → get_or bytes i 0 < 256
each_byte [] all i = omega arith
each_byte (b ∷ bs) all zero = all.0
each_byte (b ∷ bs) all (suc i) = each_byte bs all.1 i

descriptor_sound : (body : List ℕ) (n : ℕ) → AreBytes body → descriptor_at body ≡ Some n → Encodes (descriptor n) (3 ∷ body)
descriptor_sound body n all e =
    elim (chosen (eqb (length body) 4) _ _ _ e) [
      | inr p ↦ absurd (none_some n p.1)
      | inl p ↦
          let fits = each_byte body all in
          let read = from_be_bytes w32 body in
          let bytes : to_be_bytes w32 read ≡ body = be_bytes_4 body read (eqb-true (length body) 4 p.0) fits refl in
          subst (λ (m : ℕ). Encodes (descriptor m) (3 ∷ body)) (some_is read n p.1)
          (omega (arith, fits 0, fits 1, fits 2, fits 3), ap (λ (xs : List ℕ). 3 ∷ xs) (sym bytes))
    ]

unfoldable ItemsSound : (List ℕ → Option (List Shape)) → ℕ → Type 0
ItemsSound items d = (bytes : List ℕ) (xs : List Shape) → AreBytes bytes → items bytes ≡ Some xs → AreItems (of_list xs) bytes × (suc (depth_of_items (of_list xs)) ≤ d)

unfoldable PairsSound : (List ℕ → Option (List (Shape × Shape))) → ℕ → Type 0
PairsSound pairs d = (bytes : List ℕ) (ps : List (Shape × Shape)) → AreBytes bytes → pairs bytes ≡ Some ps → ArePairs (of_pairs ps) bytes × (suc (depth_of_pairs (of_pairs ps)) ≤ d)

-- the tag is the literal that it was compared with
retag : (x : Shape) (d tag literal : ℕ) (body : List ℕ) → eqb tag literal ≡ true → Encodes x (literal ∷ body) × (depth_of x ≤ d) → Encodes x (tag ∷ body) × (depth_of x ≤ d)
retag x d tag literal body e h = (subst (λ (t : ℕ). Encodes x (t ∷ body)) (sym (eqb-true tag literal e)) h.0, h.1)

value_with_sound : (items : List ℕ → Option (List Shape)) (pairs : List ℕ → Option (List (Shape × Shape))) (d : ℕ) → ItemsSound items d → PairsSound pairs d → Sound (value_with items pairs) d
unfolding Sound ItemsSound PairsSound
value_with_sound items pairs d in_items in_pairs [] x all h = subst (λ (y : Shape). Encodes y [] × (depth_of y ≤ d)) (some_is null x h) (refl, omega arith)
value_with_sound items pairs d in_items in_pairs (tag ∷ body) x all h =
    elim (chosen (eqb tag 1) _ _ _ h) [
      | inl p ↦ retag x d tag 1 body p.0 (subst (λ (y : Shape). Encodes y (1 ∷ body) × (depth_of y ≤ d)) (some_is (binary body) x p.1) (refl, omega arith))
      | inr p ↦ elim (chosen (eqb tag 2) _ _ _ p.1) [
        | inl q ↦
            let m = mapped_some boolean (boolean_at body) x q.1 in
            retag x d tag 2 body q.0 (subst (λ (y : Shape). Encodes y (2 ∷ body) × (depth_of y ≤ d)) m.2 (boolean_sound body m.0 m.1, omega arith))
        | inr q ↦ elim (chosen (eqb tag 3) _ _ _ q.1) [
          | inl r ↦
              let m = mapped_some descriptor (descriptor_at body) x r.1 in
              retag x d tag 3 body r.0 (subst (λ (y : Shape). Encodes y (3 ∷ body) × (depth_of y ≤ d)) m.2 (descriptor_sound body m.0 all.1 m.1, omega arith))
          | inr r ↦ elim (chosen (eqb tag 5) _ _ _ r.1) [
            | inl s ↦
                let m = mapped_some integer (integer_at body) x s.1 in
                retag x d tag 5 body s.0 (subst (λ (y : Shape). Encodes y (5 ∷ body) × (depth_of y ≤ d)) m.2 ((body, refl, integer_sound body m.0 all.1 m.1), omega arith))
            | inr s ↦ elim (chosen (eqb tag 6) _ _ _ s.1) [
              | inl t ↦
                  let m = mapped_some (λ ps. mapping (of_pairs ps)) (pairs body) x t.1 in
                  let k = in_pairs body m.0 all.1 m.1 in
                  retag x d tag 6 body t.0 (subst (λ (y : Shape). Encodes y (6 ∷ body) × (depth_of y ≤ d)) m.2 ((body, refl, k.0), k.1))
              | inr t ↦ elim (chosen (eqb tag 7) _ _ _ t.1) [
                | inl u ↦
                    let m = mapped_some (λ xs. sequence (of_list xs)) (items body) x u.1 in
                    let k = in_items body m.0 all.1 m.1 in
                    retag x d tag 7 body u.0 (subst (λ (y : Shape). Encodes y (7 ∷ body) × (depth_of y ≤ d)) m.2 ((body, refl, k.0), k.1))
                | inr u ↦ elim (chosen (eqb tag 8) _ _ _ u.1) [
                  | inl v ↦
                      let m = mapped_some text (text_at body) x v.1 in
                      let k = text_sound body m.0 m.1 in
                      retag x d tag 8 body v.0 (subst (λ (y : Shape). Encodes y (8 ∷ body) × (depth_of y ≤ d)) m.2 ((k.0, ap (λ (xs : List ℕ). 8 ∷ xs) k.1), omega arith))
                  | inr v ↦ absurd (none_some x v.1)
                ]
              ]
            ]
          ]
        ]
      ]
    ]

mutual
  unfolding items_at items_of pairs_of Sound ItemsSound PairsSound

  items_at_sound : (d : ℕ) → ItemsSound (items_at d) d
  items_at_sound zero bytes xs all h = absurd (none_some xs h)
  items_at_sound (suc d) bytes xs all h =
      let r = items_sound (value_at d) d (value_with_sound (items_at d) (pairs_at d) d (items_at_sound d) (pairs_at_sound d)) (length bytes) bytes xs all h in
      (r.0, omega (arith, r.1))

  pairs_at_sound : (d : ℕ) → PairsSound (pairs_at d) d
  pairs_at_sound zero bytes ps all h = absurd (none_some ps h)
  pairs_at_sound (suc d) bytes ps all h =
      let r = pairs_sound (value_at d) d (value_with_sound (items_at d) (pairs_at d) d (items_at_sound d) (pairs_at_sound d)) (length bytes) bytes ps all h in
      (r.0, omega (arith, r.1))

pub value_sound : (d : ℕ) (bytes : List ℕ) (x : Shape) → AreBytes bytes → value_at d bytes ≡ Some x → Encodes x bytes × (depth_of x ≤ d)
unfolding Sound
value_sound d = value_with_sound (items_at d) (pairs_at d) d (items_at_sound d) (pairs_at_sound d)
