-- The rows of pieces.
use Rattle.std.proofs.Common.{◌≡◌, ◌∙◌, Bool, true, false, cond, ◌||◌, List, [], ◌∷◌, ◌++◌, map, Some, None, codes, refl, sym, ap}
use Rattle.std.specs.Str.{bytes_eq}
use Rattle.clap.specs.Walk.{Row, at_row, has_row, more_values, used}
use Rattle.clap.specs.declared.builder.value_parser.Reading.TheVariants.{AsWritten}
use Rattle.clap.specs.declared.parser.matches.ValueSource.TheVariants.{CommandLine}
use Rattle.command_line.specs.Pieces.{Piece, has, history, label, option, other}
use Rattle.command_line.specs.Values.{Word}
use Rattle.command_line.proofs.Rules.{history_rule, option_rule, program_rule}

-- the text that `clap` has for a piece
abbrev pub shown : Piece → Word
shown (option name value) = value
shown history = codes "true"
shown (other word) = word

abbrev pub row : Piece → Row
row piece = record { id = label piece; values = shown piece ∷ []; count = None; source = Some CommandLine; reading = AsWritten }

pub has_row-row : (pieces : List Piece) (name : Word) → has_row name (map row pieces) ≡ has pieces name
has_row-row [] name = refl
has_row-row (piece ∷ pieces) name = ap (λ b. bytes_eq (label piece) name || b) (has_row-row pieces name)

pub at_new_row : (name : Word) (change : Row → List Row) (missing rows : List Row) → has_row name rows ≡ false → at_row name change missing rows ≡ rows ++ missing
at_new_row name change missing [] h = refl
at_new_row name change missing (r ∷ rows) h = go (bytes_eq r.id name) h (at_new_row name change missing rows)
  where
    go : (t : Bool) → (t || has_row name rows) ≡ false → (has_row name rows ≡ false → at_row name change missing rows ≡ rows ++ missing)
        → cond t (change r ++ rows) (r ∷ at_row name change missing rows) ≡ r ∷ (rows ++ missing)
    go true h more = absurd (cc)
    go false h more = ap (λ rows. r ∷ rows) (more h)

append_nil : (rows : List Row) → rows ++ [] ≡ rows
append_nil [] = refl
append_nil (r ∷ rows) = ap (λ rows. r ∷ rows) (append_nil rows)

pub map-append : {A B : Type 0} (f : A → B) (xs ys : List A) → map f (xs ++ ys) ≡ map f xs ++ map f ys
map-append f [] ys = refl
map-append f (x ∷ xs) ys = ap (λ zs. f x ∷ zs) (map-append f xs ys)

-- a row that is set for the first time
new_row : (name : Word) (change : Row → List Row) (pieces : List Piece) (piece : Piece) → has pieces name ≡ false
    → at_row name change (row piece ∷ []) (at_row name (λ _. []) [] (map row pieces)) ≡ map row (pieces ++ piece ∷ [])
new_row name change pieces piece h =
    let none = has_row-row pieces name ∙ h in
    ap (at_row name change (row piece ∷ [])) (at_new_row name (λ _. []) [] (map row pieces) none ∙ append_nil (map row pieces))
    ∙ at_new_row name change (row piece ∷ []) (map row pieces) none
    ∙ sym (map-append row pieces (piece ∷ []))

pub used_option : (pieces : List Piece) (name value : Word) → has pieces name ≡ false → used (option_rule name) (value ∷ []) (map row pieces) ≡ map row (pieces ++ option name value ∷ [])
used_option pieces name value h = new_row name (more_values CommandLine (value ∷ [])) pieces (option name value) h

pub used_flag : (pieces : List Piece) → has pieces (codes "history") ≡ false → used history_rule [] (map row pieces) ≡ map row (pieces ++ history ∷ [])
used_flag pieces h = new_row (codes "history") (more_values CommandLine (codes "true" ∷ [])) pieces history h

pub used_name : (pieces : List Piece) (word : Word) → has pieces (codes "program") ≡ false → used program_rule (word ∷ []) (map row pieces) ≡ map row (pieces ++ other word ∷ [])
used_name pieces word h = new_row (codes "program") (more_values CommandLine (word ∷ [])) pieces (other word) h
