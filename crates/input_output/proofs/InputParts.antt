-- Reads of an input from its start on, piece after piece.
use Rattle.std.proofs.Common.{◌≡◌, ◌+◌, ◌-◌, ◌≤◌, ◌∙◌, ℕ, List, ◌++◌, length, take, drop, arith, ap, sym, subst, length-append}
use Rattle.std.specs.Prelude.{⊤}
use Rattle.std.proofs.Math.Seq.{take-add}
use Rattle.std.proofs.lemmas.List.{length-take, length-take-le}
use Rattle.input_output.specs.Source.{InputContent, Unknown, Lacking, Content, IsReadAt}

-- what was read so far is the start of what is known
abbrev pub IsReadSoFar : InputContent → List ℕ → Type 0
IsReadSoFar Unknown part = ⊤
IsReadSoFar Lacking part = ⊤
IsReadSoFar (Content bytes) part = part ≡ take (length part) bytes

-- the next piece is the start of what follows
pub piece_read : (content : InputContent) (part buffer : List ℕ) (count : ℕ) → count ≤ length buffer →
    IsReadSoFar content part → IsReadAt content (length part) count buffer →
    IsReadSoFar content (part ++ take count buffer)
piece_read Unknown part buffer count fits so_far next = tt
piece_read Lacking part buffer count fits so_far next = tt
piece_read (Content bytes) part buffer count fits so_far next =
    let size : length (part ++ take count buffer) ≡ length part + count =
    length-append part (take count buffer) ∙ ap (λ n. length part + n) (length-take-le count buffer fits) in
    let joined : part ++ take count buffer ≡ take (length part) bytes ++ take count (drop (length part) bytes) =
    ap (λ xs. xs ++ take count buffer) so_far ∙ ap (λ xs. take (length part) bytes ++ xs) next in
    joined ∙ sym (take-add (length part) count bytes) ∙ ap (λ n. take n bytes) (sym size)

-- the same, as a call of a source says it: the content before the read is the one at first
pub next_read : (content now : InputContent) (part buffer after : List ℕ) (place count : ℕ) → now ≡ content → place ≡ length part →
    after ≡ part ++ take count buffer → count ≤ length buffer →
    IsReadSoFar content part → IsReadAt now place count buffer → IsReadSoFar content after
next_read content now part buffer after place count same at appended fits so_far next =
    subst (IsReadSoFar content) (sym appended)
    (piece_read content part buffer count fits so_far
    (subst (λ t. IsReadAt t (length part) count buffer) same (subst (λ p. IsReadAt now p count buffer) at next)))

-- a piece that does not go beyond a limit leaves what was read within it
pub still_within : (part buffer after : List ℕ) (place count limit : ℕ) → after ≡ part ++ take count buffer →
    place ≡ length part → length part ≤ limit → count ≤ limit - place → length after ≤ limit
still_within part buffer after place count limit appended at early fits =
    omega (arith, ap length appended, length-append part (take count buffer), length-take count buffer)
