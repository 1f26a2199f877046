-- What a buffer has after the first items of a ring were put at its beginning.
use Rattle.std.proofs.Common.{◌≡◌, ℕ, ◌+◌, ◌-◌, ◌≤◌, min, List, [], ◌++◌, length, take, drop, sym, ap, ◌∙◌, arith, append-nil}
use Rattle.std.proofs.lemmas.List.{length-append, length-take, length-take-le, drop_all}
use Rattle.circular_buffer.proofs.Items.{copied_out}
use Rattle.channels.specs.Channels.{IsFilled}

module _ {X : Type 0} where
  -- a part of the buffer, as long as is moved, was filled
  pub moved_out : (items out part : List X) (count moved : ℕ) → count ≤ length out → count ≤ length items → moved ≡ min (length (take count out)) (length items)
      → part ≡ take moved items ++ drop moved (take count out) → IsFilled (take count items) out (part ++ drop count out)
  moved_out items out part count moved fits there moved_is part_is =
      let same : moved ≡ count = omega (arith, length-take count out) in
      let nothing : drop count (take count out) ≡ [] = drop_all count (take count out) (omega (arith, length-take count out)) in
      let whole : part ≡ take count items =
      part_is
      ∙ ap (λ (k : ℕ). take k items ++ drop k (take count out)) same
      ∙ ap (λ (rest : List X). take count items ++ rest) nothing
      ∙ append-nil (take count items) in
      let size : length (take count items) ≡ count = length-take-le count items there in
      ap (λ (xs : List X). xs ++ drop count out) whole ∙ ap (λ (k : ℕ). take count items ++ drop k out) (sym size)

  -- the front and the back of the ring were copied one behind the other
  pub copied_first : (items front back out one two : List X) (f b count : ℕ) → front ++ back ≡ items → count ≤ length items → f ≡ min (length front) count
      → b ≡ min (length back) (count - f) → one ≡ take f front → two ≡ take b back
      → IsFilled (take count items) out (take f (one ++ drop f out) ++ (two ++ drop (f + b - f) (drop f (one ++ drop f out))))
  copied_first items front back out one two f b count whole there f_is b_is one_is two_is =
      let size : length (take count items) ≡ count = length-take-le count items there in
      let long : length front + length back ≡ length items = sym (length-append front back) ∙ ap (λ (xs : List X). length xs) whole in
      let all : f + b ≡ count = omega (arith, long) in
      copied_out front back out one two f b (omega arith) (λ some. omega arith) one_is two_is
      ∙ ap (λ (k : ℕ). take k (front ++ back) ++ drop k out) all
      ∙ ap (λ (xs : List X). take count xs ++ drop count out) whole
      ∙ ap (λ (k : ℕ). take count items ++ drop k out) (sym size)
