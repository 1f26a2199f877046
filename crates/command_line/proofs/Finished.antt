-- The rows at the end of a parse, with the flag's default, and what is read of them.
use Rattle.std.proofs.Common.{◌≡◌, ◌∙◌, Bool, true, false, cond, ◌||◌, List, [], ◌∷◌, ◌++◌, map, Option, Some, None, is_some, codes, refl, sym, ap, option_and_then, option_map, true≢false}
use Rattle.std.specs.List.{find, fold, list_all, slice_get}
use Rattle.std.specs.Option.{option_map_or}
use Rattle.std.specs.Str.{bytes_eq}
use Rattle.std.proofs.lemmas.Bool.{and_parts}
use Rattle.std.proofs.lemmas.Slice.Eq.{bytes_eq-Decides}
use Rattle.clap.specs.Facts.{explicit_source}
use Rattle.clap.specs.Takes.{is_given}
use Rattle.clap.specs.Values.{bool_text}
use Rattle.clap.specs.Walk.{Held, Row, at_row, finished, first_of, has_row, more_values, one_of, row_text, settled, with_default}
use Rattle.clap.specs.declared.builder.value_parser.Reading.TheVariants.{AsWritten}
use Rattle.clap.specs.declared.parser.matches.ValueSource.TheVariants.{DefaultValue}
use Rattle.clap.specs.Words.{Rule}
use Rattle.command_line.specs.Pieces.{Piece, has, history, label, option, option_names, other, text, text_of}
use Rattle.command_line.specs.Values.{Word}
use Rattle.command_line.proofs.Found.{at_new_row, has_row-row, row, shown}
use Rattle.command_line.proofs.Named.{is_named, is_option_name}
use Rattle.command_line.proofs.Rules.{history_rule, option_rule, program_rule, shape}

not_the_flag : (name : Word) → is_option_name name ≡ true → bytes_eq name (codes "history") ≡ false
not_the_flag name is = go (bytes_eq name (codes "history")) refl
  where
    go : (t : Bool) → bytes_eq name (codes "history") ≡ t → t ≡ false
    go true e = absurd (true≢false (sym is ∙ ap is_option_name ((bytes_eq-Decides name (codes "history")).0 e)))
    go false e = refl

-- the row of the flag that was not given
abbrev pub default_row : Row
default_row = record { id = codes "history"; values = codes "false" ∷ []; count = None; source = Some DefaultValue; reading = AsWritten }

-- the rows at the end
abbrev pub end_rows : List Piece → List Row
end_rows pieces = cond (has pieces (codes "history")) (map row pieces) (map row pieces ++ default_row ∷ [])

no_default : (name : Word) (rows : List Row) → with_default rows (option_rule name) ≡ rows
no_default name rows = go (has_row name rows)
  where
    go : (t : Bool) → cond t rows rows ≡ rows
    go true = refl
    go false = refl

no_defaults : (names : List Word) (tail : List Rule) (rows : List Row) → fold with_default rows (map option_rule names ++ tail) ≡ fold with_default rows tail
no_defaults [] tail rows = refl
no_defaults (name ∷ names) tail rows = ap (λ r. fold with_default r (map option_rule names ++ tail)) (no_default name rows) ∙ no_defaults names tail rows

program_default : (rows : List Row) → with_default rows program_rule ≡ rows
program_default rows = go (has_row (codes "program") rows)
  where
    go : (t : Bool) → cond t rows rows ≡ rows
    go true = refl
    go false = refl

flag_default : (rows : List Row) (t : Bool) → has_row (codes "history") rows ≡ t → with_default rows history_rule ≡ cond t rows (rows ++ default_row ∷ [])
flag_default rows true had = ap (λ t. cond t rows (at_row (codes "history") (more_values DefaultValue (codes "false" ∷ [])) (default_row ∷ []) rows)) had
flag_default rows false had =
    ap (λ t. cond t rows (at_row (codes "history") (more_values DefaultValue (codes "false" ∷ [])) (default_row ∷ []) rows)) had
    ∙ at_new_row (codes "history") (more_values DefaultValue (codes "false" ∷ [])) (default_row ∷ []) rows had

-- what a parse that ends with the rows of pieces has
pub finished-end : (h : Held) (pieces : List Piece) → (settled shape.rules h).rows ≡ map row pieces → finished shape.rules h ≡ end_rows pieces
finished-end h pieces is =
    no_defaults option_names (history_rule ∷ program_rule ∷ []) (settled shape.rules h).rows
    ∙ ap (λ r. with_default (with_default r history_rule) program_rule) is
    ∙ program_default (with_default (map row pieces) history_rule)
    ∙ flag_default (map row pieces) (has pieces (codes "history")) (has_row-row pieces (codes "history"))

-- ---- what is found of a label

find-row : (pieces : List Piece) (name : Word) → find (λ (r : Row). bytes_eq r.id name) (map row pieces) ≡ option_map row (find (λ piece. bytes_eq (label piece) name) pieces)
find-row [] name = refl
find-row (piece ∷ pieces) name = go (bytes_eq (label piece) name) (find-row pieces name)
  where
    go : (t : Bool) {o : Option Row} → o ≡ option_map row (find (λ piece. bytes_eq (label piece) name) pieces)
        → cond t (Some (row piece)) o ≡ option_map row (cond t (Some piece) (find (λ piece. bytes_eq (label piece) name) pieces))
    go true e = refl
    go false e = e

find_before : (rows : List Row) (name : Word) → bytes_eq (codes "history") name ≡ false
    → find (λ (r : Row). bytes_eq r.id name) (rows ++ default_row ∷ []) ≡ find (λ (r : Row). bytes_eq r.id name) rows
find_before [] name h = ap (λ t. cond t (Some default_row) None) h
find_before (r ∷ rows) name h = ap (λ o. cond (bytes_eq r.id name) (Some r) o) (find_before rows name h)

find_end : (pieces : List Piece) (name : Word) → bytes_eq (codes "history") name ≡ false
    → find (λ (r : Row). bytes_eq r.id name) (end_rows pieces) ≡ option_map row (find (λ piece. bytes_eq (label piece) name) pieces)
find_end pieces name h = go (has pieces (codes "history")) ∙ find-row pieces name
  where
    go : (t : Bool) → find (λ (r : Row). bytes_eq r.id name) (cond t (map row pieces) (map row pieces ++ default_row ∷ [])) ≡ find (λ (r : Row). bytes_eq r.id name) (map row pieces)
    go true = refl
    go false = find_before (map row pieces) name h

first_shown : (o : Option Piece) → option_and_then (λ (r : Row). slice_get r.values 0) (option_map row o) ≡ option_map shown o
first_shown None = refl
first_shown (Some piece) = refl

shown-text : (pieces : List Piece) (name : Word) → bytes_eq (codes "history") name ≡ false
    → option_map shown (find (λ piece. bytes_eq (label piece) name) pieces) ≡ text_of pieces name
shown-text [] name h = refl
shown-text (option mine value ∷ pieces) name h = go (bytes_eq mine name) (shown-text pieces name h)
  where
    go : (t : Bool) → option_map shown (find (λ piece. bytes_eq (label piece) name) pieces) ≡ text_of pieces name
        → option_map shown (cond t (Some (option mine value)) (find (λ piece. bytes_eq (label piece) name) pieces)) ≡ option_map text (cond t (Some (option mine value)) (find (λ piece. bytes_eq (label piece) name) pieces))
    go true e = refl
    go false e = e
shown-text (history ∷ pieces) name h =
    ap (λ t. option_map shown (cond t (Some history) (find (λ piece. bytes_eq (label piece) name) pieces))) h
    ∙ shown-text pieces name h
    ∙ sym (ap (λ t. option_map text (cond t (Some history) (find (λ piece. bytes_eq (label piece) name) pieces))) h)
shown-text (other word ∷ pieces) name h = go (bytes_eq (codes "program") name) (shown-text pieces name h)
  where
    go : (t : Bool) → option_map shown (find (λ piece. bytes_eq (label piece) name) pieces) ≡ text_of pieces name
        → option_map shown (cond t (Some (other word)) (find (λ piece. bytes_eq (label piece) name) pieces)) ≡ option_map text (cond t (Some (other word)) (find (λ piece. bytes_eq (label piece) name) pieces))
    go true e = refl
    go false e = e

-- the value of an option, or the program's name
pub first_of_end : (pieces : List Piece) (name : Word) → bytes_eq (codes "history") name ≡ false → first_of name (end_rows pieces) ≡ text_of pieces name
first_of_end pieces name h = ap (option_and_then (λ (r : Row). slice_get r.values 0)) (find_end pieces name h) ∙ first_shown _ ∙ shown-text pieces name h

found_given : (o : Option Piece) → option_map_or (λ (r : Row). explicit_source r.source) (option_map row o) false ≡ is_some o
found_given None = refl
found_given (Some piece) = refl

found_text : (o : Option Piece) → is_some (option_map text o) ≡ is_some o
found_text None = refl
found_text (Some piece) = refl

-- whether the program's name is given
pub given_end : (pieces : List Piece) → is_given (codes "program") (end_rows pieces) ≡ is_some (text_of pieces (codes "program"))
given_end pieces = ap (λ o. option_map_or (λ (r : Row). explicit_source r.source) o false) (find_end pieces (codes "program") refl) ∙ found_given _ ∙ sym (found_text _)

-- ---- the flag

flag_given : (pieces : List Piece) → list_all is_named pieces ≡ true → has pieces (codes "history") ≡ true → one_of (codes "history") (map row pieces) ≡ Some (codes "true")
flag_given [] names had = absurd (true≢false (sym had))
flag_given (option name value ∷ pieces) names had =
    let parts = and_parts _ _ names in
    let test = not_the_flag name parts.0 in
    ap (λ t. option_and_then row_text (cond t (Some (row (option name value))) (find (λ (r : Row). bytes_eq r.id (codes "history")) (map row pieces)))) test
    ∙ flag_given pieces parts.1 (sym (ap (λ t. t || has pieces (codes "history")) test) ∙ had)
flag_given (history ∷ pieces) names had = refl
flag_given (other word ∷ pieces) names had = flag_given pieces names had

flag_lacking : (pieces : List Piece) → has pieces (codes "history") ≡ false → one_of (codes "history") (map row pieces ++ default_row ∷ []) ≡ Some (codes "false")
flag_lacking [] lacks = refl
flag_lacking (piece ∷ pieces) lacks = go (bytes_eq (label piece) (codes "history")) lacks (flag_lacking pieces)
  where
    go : (t : Bool) → (t || has pieces (codes "history")) ≡ false → (has pieces (codes "history") ≡ false → one_of (codes "history") (map row pieces ++ default_row ∷ []) ≡ Some (codes "false"))
        → option_and_then row_text (cond t (Some (row piece)) (find (λ (r : Row). bytes_eq r.id (codes "history")) (map row pieces ++ default_row ∷ []))) ≡ Some (codes "false")
    go true lacks more = absurd (true≢false lacks)
    go false lacks more = more lacks

pub flag_end : (pieces : List Piece) → list_all is_named pieces ≡ true → one_of (codes "history") (end_rows pieces) ≡ Some (bool_text (has pieces (codes "history")))
flag_end pieces names = go (has pieces (codes "history")) refl
  where
    go : (t : Bool) → has pieces (codes "history") ≡ t → one_of (codes "history") (cond t (map row pieces) (map row pieces ++ default_row ∷ [])) ≡ Some (bool_text t)
    go true had = flag_given pieces names had
    go false lacks = flag_lacking pieces lacks
