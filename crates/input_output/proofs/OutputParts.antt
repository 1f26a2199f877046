-- Writes of a piece, part after part.
use Rattle.std.proofs.Common.{◌≡◌, ◌+◌, ◌-◌, ◌≤◌, ◌∙◌, ℕ, List, ◌++◌, length, take, drop, min, ap, sym, arith, length-drop}
use Rattle.std.specs.Prelude.{Option, Result, Ok, Err, OnErr}
use Rattle.std.proofs.Math.Seq.{take-add, take-append-add}
use Rattle.std.proofs.lemmas.List.{take_all, take_min}
use Rattle.input_output.specs.Sink.{grown, GrewByPrefix}
use Rattle.input_output.proofs.OutsideLaws.{grown_twice}

-- what is left of a piece after its first bytes
abbrev pub left : List ℕ → ℕ → List ℕ
left piece done = take (length piece - done) (drop done piece)

-- what is left of a piece has all bytes after the first ones
pub left_is : (piece : List ℕ) (done : ℕ) → left piece done ≡ drop done piece
left_is piece done = take_all (length piece - done) (drop done piece) (omega (arith, length-drop done piece))

-- a part of what is left of a piece ends within the piece
pub within_piece : (piece : List ℕ) (done count : ℕ) → done ≤ length piece → count ≤ length (left piece done) → done + count ≤ length piece
within_piece piece done count early fits = omega (arith, ap length (left_is piece done), length-drop done piece)

-- a part of what is left of a piece, after the part that was written
pub part_written : (before between after : Option (List ℕ)) (piece : List ℕ) (done count : ℕ) →
    between ≡ grown before (take done piece) → after ≡ grown between (take count (left piece done)) →
    after ≡ grown before (take (done + count) piece)
part_written before between after piece done count first more =
    more ∙ ap (λ b. grown b (take count (left piece done))) first
    ∙ ap (λ xs. grown (grown before (take done piece)) (take count xs)) (left_is piece done)
    ∙ grown_twice before (take done piece) (take count (drop done piece))
    ∙ ap (grown before) (sym (take-add done count piece))

-- a write that failed within what is left failed within the piece
pub part_failed : (before between after : Option (List ℕ)) (piece : List ℕ) (done : ℕ) →
    between ≡ grown before (take done piece) → GrewByPrefix between after (left piece done) →
    GrewByPrefix before after piece
part_failed before between after piece done first more =
    record { count = done + more.count; grew = part_written before between after piece done more.count first more.grew }

-- what holds in any case holds for an error
pub for_err : {T E P : Type 0} (r : Result T E) → P → OnErr r P
for_err (Ok v) p = tt
for_err (Err e) p = p

-- as much of a piece as there is room for, after what is held
pub held_within : (held piece after : List ℕ) (room size count : ℕ) → after ≡ held ++ take count piece →
    count ≡ min (room - size) (length piece) → size ≡ length held → size ≤ room → after ≡ take room (held ++ piece)
held_within held piece after room size count appended counts at early =
    let fill : room ≡ length held + (room - size) = omega arith in
    let part : take count piece ≡ take (room - size) piece = ap (λ n. take n piece) counts ∙ take_min (room - size) piece in
    appended ∙ ap (λ xs. held ++ xs) part ∙ sym (take-append-add held piece (room - size)) ∙ ap (λ n. take n (held ++ piece)) (sym fill)
