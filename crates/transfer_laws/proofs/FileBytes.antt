-- Pieces of files that are read, and what a write makes of a file's bytes.
use Rattle.std.proofs.Common.{◌≡◌, inl, inr, ℕ, zero, suc, ◌+◌, ◌-◌, ◌<◌, ◌≤◌, List, [], ◌∷◌, ◌++◌, length, take, drop, min, replicate, refl, sym, ap, ◌∙◌, arith}
use Rattle.std.proofs.lemmas.Bool.Decides.{leb_tells}
use Rattle.std.proofs.lemmas.List.{append_assoc, append-nil, length-append, length-drop, length-replicate, length-take, take_all, take-append-drop}
use Rattle.tree_model.specs.Files.{fitting, written}
use Rattle.transfer_laws.specs.FileLaws.{IsPiece, IsWritten}

-- ---- reads

pub piece_is : (place n : ℕ) (bytes : List ℕ) → IsPiece place n bytes (take n (drop place bytes))
piece_is place n bytes = record {
  front = take place bytes;
  behind = drop n (drop place bytes);
  whole = sym (take-append-drop place bytes) ∙ ap (λ rest. take place bytes ++ rest) (sym (take-append-drop n (drop place bytes)));
  begins = length-take place bytes;
  count = length-take n (drop place bytes) ∙ ap (min n) (length-drop place bytes);
}

-- ---- writes

-- zeros up to a place stand behind what is there
front_padded : (was : List ℕ) (place : ℕ) → take place (was ++ replicate (place - length was) 0) ≡ take place was ++ replicate (place - length was) 0
front_padded was place =
    elim (leb_tells place (length was)) [
      | inl within ↦ (
          let few : place ≤ length was = within.1 in
          let none : place - length was ≡ 0 = omega (arith, few) in
          ap (λ n. take place (was ++ replicate n 0)) none ∙ ap (take place) (append-nil was) ∙ sym (append-nil (take place was))
          ∙ ap (λ n. take place was ++ replicate n 0) (sym none))
      | inr beyond ↦ (
          let far : length was < place = beyond.1 in
          let zeros : List ℕ = replicate (place - length was) 0 in
          let count : length (was ++ zeros) ≡ length was + length zeros = length-append was zeros in
          let more : length zeros ≡ place - length was = length-replicate (place - length was) 0 in
          take_all place (was ++ zeros) (omega (arith, count, more, far))
          ∙ ap (λ front. front ++ zeros) (sym (take_all place was (omega (arith, far)))))
    ]

drop_none : (n : ℕ) (bytes : List ℕ) → bytes ≡ [] → drop n bytes ≡ bytes
drop_none zero bytes none = refl
drop_none (suc n) [] none = refl
drop_none (suc n) (b ∷ bytes) none = absurd (let some : length (b ∷ bytes) ≡ 0 = ap length none in omega (arith, some))

drop_twice : (n m : ℕ) (bytes : List ℕ) → drop (n + m) bytes ≡ drop m (drop n bytes)
drop_twice zero m bytes = ap (λ k. drop k bytes) (let k : 0 + m ≡ m = omega (arith) in k)
drop_twice (suc n) m [] = drop_none (suc n + m) [] refl ∙ sym (drop_none m [] refl)
drop_twice (suc n) m (b ∷ bytes) = ap (λ k. drop k (b ∷ bytes)) (let k : suc n + m ≡ suc (n + m) = omega (arith) in k) ∙ drop_twice n m bytes

module _ (place : ℕ) (bytes was : List ℕ) where
  abbrev sent : List ℕ
  sent = fitting place bytes

  written_is : written was place sent
      ≡ take place was ++ (replicate (place - length was) 0 ++ (sent ++ drop (length sent) (drop place was)))
  written_is =
      ap (λ front. front ++ (sent ++ drop (place + length sent) was)) (front_padded was place)
      ∙ append_assoc (take place was) (replicate (place - length was) 0) (sent ++ drop (place + length sent) was)
      ∙ ap (λ behind. take place was ++ (replicate (place - length was) 0 ++ (sent ++ behind))) (drop_twice place (length sent) was)

  sent_few : length sent ≡ min (length bytes) (67108864 - place)
  sent_few = let few = length-take (67108864 - place) bytes in omega (arith, few)

  pub is_written : IsWritten place bytes was (written was place sent) (length sent)
  is_written = record {
    sent = sent;
    unsent = drop (67108864 - place) bytes;
    first = sym (take-append-drop (67108864 - place) bytes);
    sent_count = sent_few;
    front = take place was;
    gone = take (length sent) (drop place was);
    behind = drop (length sent) (drop place was);
    before = sym (take-append-drop place was) ∙ ap (λ rest. take place was ++ rest) (sym (take-append-drop (length sent) (drop place was)));
    front_count = length-take place was;
    gone_count = length-take (length sent) (drop place was) ∙ ap (min (length sent)) (length-drop place was);
    after = written_is;
    told = refl;
  }
