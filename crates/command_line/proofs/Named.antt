-- The options among pieces have names of options.
use Rattle.std.proofs.Common.{◌≡◌, ◌∙◌, Bool, true, false, cond, not, ◌&&◌, ◌||◌, List, [], ◌∷◌, ◌++◌, map, Option, Some, None, is_some, codes, refl, ap₂, option_and_then, option_map, unwrap_or, IfSome}
use Rattle.std.specs.List.{find, list_all}
use Rattle.std.specs.Str.{bytes_eq}
use Rattle.std.proofs.lemmas.Bool.{and_parts}
use Rattle.std.proofs.lemmas.List.Folds.{list_all-append}
use Rattle.command_line.specs.Pieces.{Form, Piece, assigned, after_prefix, before_separator, after_separator, flag, history, named, option, option_form, option_names, other, plain, unknown, with_value, with_word}
use Rattle.command_line.specs.Values.{Word}
use Rattle.command_line.proofs.Loose.{loose_form_of, loose_option_pieces, loose_pieces_of}
use Rattle.std.specs.Str.Parse.{starts_with_minus}

abbrev pub is_option_name : Word → Bool
is_option_name name = is_some (find (λ option. bytes_eq option name) option_names)

abbrev pub is_named : Piece → Bool
is_named (option name value) = is_option_name name
is_named history = true
is_named (other word) = true

abbrev has_option_name : Form → Bool
has_option_name (assigned name value) = is_option_name name
has_option_name (named name) = is_option_name name
has_option_name flag = true
has_option_name plain = true
has_option_name unknown = true

option_form-names : (names : List Word) (word : Word) → list_all is_option_name names ≡ true → has_option_name (option_form names word) ≡ true
option_form-names [] word h = refl
option_form-names (name ∷ names) word h =
    let parts = and_parts _ _ h in
    go (bytes_eq (codes "--" ++ name) word) (after_prefix (codes "--" ++ name ++ codes "=") word) parts.0 (option_form-names names word parts.1)
  where
    go : (t : Bool) (o : Option Word) → is_option_name name ≡ true → has_option_name (option_form names word) ≡ true
        → has_option_name (unwrap_or (cond t (Some (named name)) (option_map (assigned name) o)) (option_form names word)) ≡ true
    go true o is more = is
    go false (Some value) is more = is
    go false None is more = more

form_of-names : (word : Word) → has_option_name (loose_form_of word) ≡ true
form_of-names word = go (not (starts_with_minus word)) (bytes_eq (codes "-") word) (bytes_eq (codes "--history") word)
  where
    go : (a b t : Bool) → has_option_name (cond (a || b) plain (cond t flag (option_form option_names word))) ≡ true
    go true b t = refl
    go false true t = refl
    go false false true = refl
    go false false false = option_form-names option_names word refl

with_value-names : (name : Word) (rest : List Piece) → is_option_name name ≡ true → list_all is_named rest ≡ true → IfSome (with_value name rest) (λ pieces. list_all is_named pieces ≡ true)
with_value-names name [] is all = tt
with_value-names name (option n v ∷ rest) is all = tt
with_value-names name (history ∷ rest) is all = tt
with_value-names name (other value ∷ rest) is all = ap₂ (λ a b. a && b) is all

with_word-names : (form : Form) (word : Word) (rest : List Piece) → has_option_name form ≡ true → list_all is_named rest ≡ true → IfSome (with_word form word rest) (λ pieces. list_all is_named pieces ≡ true)
with_word-names (assigned name value) word rest is all = ap₂ (λ a b. a && b) is all
with_word-names (named name) word rest is all = with_value-names name rest is all
with_word-names flag word rest is all = all
with_word-names plain word rest is all = all
with_word-names unknown word rest is all = tt

option_pieces-names : (words : List Word) → IfSome (loose_option_pieces words) (λ pieces. list_all is_named pieces ≡ true)
option_pieces-names [] = refl
option_pieces-names (word ∷ words) = go (loose_option_pieces words) (option_pieces-names words)
  where
    go : (o : Option (List Piece)) → IfSome o (λ pieces. list_all is_named pieces ≡ true) → IfSome (option_and_then (with_word (loose_form_of word) word) o) (λ pieces. list_all is_named pieces ≡ true)
    go None all = tt
    go (Some rest) all = with_word-names (loose_form_of word) word rest (form_of-names word) all

others : (words : List Word) → list_all is_named (map other words) ≡ true
others [] = refl
others (word ∷ words) = others words

pub pieces_of-names : (words : List Word) → IfSome (loose_pieces_of words) (λ pieces. list_all is_named pieces ≡ true)
pieces_of-names words = go (loose_option_pieces (before_separator words)) (option_pieces-names (before_separator words))
  where
    go : (o : Option (List Piece)) → IfSome o (λ pieces. list_all is_named pieces ≡ true)
        → IfSome (option_map (λ pieces. pieces ++ map other (after_separator words)) o) (λ pieces. list_all is_named pieces ≡ true)
    go None all = tt
    go (Some pieces) all = list_all-append is_named pieces (map other (after_separator words)) ∙ ap₂ (λ a b. a && b) all (others (after_separator words))
