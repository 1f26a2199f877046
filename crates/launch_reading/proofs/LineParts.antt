-- A line written in four parts.
use Rattle.std.proofs.Common.{◌≡◌, ◌∙◌, ◌≤◌, ℕ, List, [], ◌∷◌, ◌++◌, length, min, ap, sym, refl, subst, arith, append_assoc}
use Rattle.std.specs.Prelude.{Option, codes, decimal}
use Rattle.std.proofs.lemmas.List.{take-append-le, take_min}
use Rattle.input_output.specs.Sink.{grown, GrewByPrefix}
use Rattle.input_output.proofs.OutsideLaws.{grown_twice, grew_later}
use Rattle.launch_reading.specs.Refusal.{line_of, front_of, name_of, number_of, back_of, fault_name, fault_number}
use Rattle.launch_reading.specs.declared.refusal.LaunchRefusal.{LaunchRefusal}
use Rattle.launch_reading.specs.declared.refusal.LaunchRefusal.TheVariants.{Words, Input, TooLong, Program, Tree, LaunchText, Memory}

-- a line is its four parts
line_parts : (r : LaunchRefusal) → front_of r ++ (name_of r ++ (number_of r ++ back_of r)) ≡ line_of r
line_parts Words = refl
line_parts (Input name) = sym (append_assoc (codes "input: ") name.now (10 ∷ []))
line_parts (TooLong name) =
    sym (ap (λ (xs : List ℕ). xs ++ 10 ∷ []) (refl {a = codes "input: " ++ (name.now ++ codes " too long")}) ∙ append_assoc (codes "input: ") (name.now ++ codes " too long") (10 ∷ []) ∙ ap (λ (xs : List ℕ). codes "input: " ++ xs) (append_assoc name.now (codes " too long") (10 ∷ [])))
line_parts (Program found) =
    sym (append_assoc (codes "program: ") (fault_name found ++ fault_number found) (10 ∷ []) ∙ ap (λ (xs : List ℕ). codes "program: " ++ xs) (append_assoc (fault_name found) (fault_number found) (10 ∷ [])))
line_parts (Tree byte) = sym (append_assoc (codes "tree: byte ") (decimal byte) (10 ∷ []))
line_parts (LaunchText fault) = refl
line_parts Memory = refl

-- what grew by the first bytes of a piece grew by the first bytes of a longer one
longer : (before after : Option (List ℕ)) (piece more : List ℕ) → GrewByPrefix before after piece →
    GrewByPrefix before after (piece ++ more)
longer before after piece more p =
    let within : min p.count (length piece) ≤ length piece = omega arith in
    record {
      count = min p.count (length piece);
      grew = p.grew ∙ ap (grown before) (sym (take-append-le (min p.count (length piece)) piece more within ∙ take_min p.count piece));
    }

-- What was written so far is the first part of a line, and this is what is left.
pub record IsBegun (r : LaunchRefusal) (before now : Option (List ℕ)) (rest : List ℕ) : Type 0 where
  pub done : List ℕ
  pub grew : now ≡ grown before done
  pub whole : done ++ rest ≡ line_of r

-- the first part was written
pub began : (r : LaunchRefusal) (before now : Option (List ℕ)) (piece : List ℕ) → piece ≡ front_of r → now ≡ grown before piece →
    IsBegun r before now (name_of r ++ (number_of r ++ back_of r))
began r before now piece is wrote = record { done = front_of r; grew = wrote ∙ ap (grown before) is; whole = line_parts r }

-- the next part was written
pub went_on : (r : LaunchRefusal) (before now after : Option (List ℕ)) (part piece rest : List ℕ) → IsBegun r before now (part ++ rest) → piece ≡ part → after ≡ grown now piece →
    IsBegun r before after rest
went_on r before now after part piece rest b is wrote = record {
  done = b.done ++ part;
  grew = wrote ∙ ap (grown now) is ∙ ap (λ (o : Option (List ℕ)). grown o part) b.grew ∙ grown_twice before b.done part;
  whole = append_assoc b.done part rest ∙ b.whole;
}

-- the last part was written
pub ended_line : (r : LaunchRefusal) (before now after : Option (List ℕ)) (piece : List ℕ) → IsBegun r before now (back_of r) → piece ≡ back_of r → after ≡ grown now piece → after ≡ grown before (line_of r)
ended_line r before now after piece b is wrote =
    wrote ∙ ap (grown now) is ∙ ap (λ (o : Option (List ℕ)). grown o (back_of r)) b.grew ∙ grown_twice before b.done (back_of r) ∙ ap (grown before) b.whole

-- the write of the first part failed
pub failed_first : (r : LaunchRefusal) (before after : Option (List ℕ)) (piece : List ℕ) → piece ≡ front_of r → GrewByPrefix before after piece → GrewByPrefix before after (line_of r)
failed_first r before after piece is p =
    subst (GrewByPrefix before after) (line_parts r) (longer before after (front_of r) (name_of r ++ (number_of r ++ back_of r)) (subst (GrewByPrefix before after) is p))

-- the write of a later part failed
pub failed_later : (r : LaunchRefusal) (before now after : Option (List ℕ)) (part piece rest : List ℕ) → IsBegun r before now (part ++ rest) → piece ≡ part → GrewByPrefix now after piece → GrewByPrefix before after (line_of r)
failed_later r before now after part piece rest b is p =
    subst (GrewByPrefix before after) (append_assoc b.done part rest ∙ b.whole)
    (longer before after (b.done ++ part) rest (grew_later before now after b.done part b.grew (subst (GrewByPrefix now after) is p)))

-- the write of the last part failed
pub failed_last : (r : LaunchRefusal) (before now after : Option (List ℕ)) (piece : List ℕ) → IsBegun r before now (back_of r) → piece ≡ back_of r → GrewByPrefix now after piece → GrewByPrefix before after (line_of r)
failed_last r before now after piece b is p =
    subst (GrewByPrefix before after) b.whole (grew_later before now after b.done (back_of r) b.grew (subst (GrewByPrefix now after) is p))
