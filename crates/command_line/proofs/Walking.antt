-- A parse of words comes to their pieces.
use Rattle.std.proofs.Common.{◌≡◌, ◌∙◌, ℕ, Bool, true, false, cond, not, ◌&&◌, ◌||◌, List, [], ◌∷◌, ◌++◌, map, Option, Some, None, codes, refl, sym, ap, ap₂, subst, option_and_then, option_map, true≢false, lit<}
use Rattle.std.specs.List.{find}
use Rattle.std.specs.Str.{IsUtf8, bytes_eq, chars}
use lib.Utf8.{encodes}
use Rattle.std.proofs.lemmas.Str.{encodes-IsAscii, encodes-chars}
use Rattle.std.proofs.lemmas.Str.Ascii.{IsAscii-cons, IsAscii-nil}
use Rattle.std.proofs.lemmas.Slice.Eq.{bytes_eq-Decides}
use Rattle.clap.specs.Faults.{turn_fault}
use Rattle.clap.specs.Lexer.{long_of, short_of}
use Rattle.clap.specs.Walk.{Held, Row, Waiting, Walk, has_row, idle, option as option_waits, used, walked}
use Rattle.command_line.specs.Pieces.{Form, Piece, assigned, before_separator, after_separator, flag, has, history, is_separator, label, named, option, option_names, other, plain, unknown, with_value, with_word}
use Rattle.command_line.specs.Values.{Word}
use Rattle.command_line.proofs.Loose.{loose_form_of, loose_option_pieces, loose_pieces_of}
use Rattle.command_line.proofs.Forms.{Reading, a_flag, a_short, an_option, form_by, no_flag, no_long, reading, too_many}
use Rattle.command_line.proofs.Found.{has_row-row, row, used_flag, used_name, used_option}
use Rattle.command_line.proofs.Rules.{IsName, by_id, by_long, history_rule, long_rule, option_rule, program_rule, shape}
use Rattle.command_line.proofs.Steps.{Fails, Turns, awaits, fails_flag, fails_short, fails_unknown, flags, gets, held, idle_at, lacks_flag, lacks_option, names, names_behind, passes, rows_of_held, separates, separates_waiting, sets, settled_name_rows, settled_rows, settles, settles_name, settling, strays, strays_behind, trails_at, unsettled, waits_at}

-- ---- what a parse comes to

-- the rows where every turn and the end pass
abbrev pub outcome : Walk → List Word → Option (List Row)
outcome w [] = cond (passes (settling shape w.held)) (Some (rows_of_held shape w.held)) None
outcome w (word ∷ words) = cond (passes (turn_fault shape [] w word)) (outcome (walked shape.rules [] w word) words) None

turns : (w : Walk) (word : Word) (words : List Word) (does : Bool) (after : Walk) → Turns shape w word does after → outcome w (word ∷ words) ≡ cond does (outcome after words) None
turns w word words does after t = ap₂ (λ b next. cond b (outcome next words) None) t.test t.next

fails : (w : Walk) (word : Word) (words : List Word) → Fails shape w word → outcome w (word ∷ words) ≡ None
fails w word words h = ap (λ b. cond b (outcome (walked shape.rules [] w word) words) None) h

-- ---- pieces, one after another

-- the rows of pieces, where no label stands twice
abbrev pub added : List Piece → List Piece → Option (List Row)
added pieces [] = Some (map row pieces)
added pieces (piece ∷ rest) = cond (has pieces (label piece)) None (added (pieces ++ piece ∷ []) rest)

-- the same of words, whose first pieces are made by a step
abbrev pub taken : List Piece → (List Piece → Option (List Piece)) → List Word → Option (List Row)
taken pieces step words = option_and_then (λ rest. added pieces (rest ++ map other (after_separator words))) (option_and_then step (loose_option_pieces (before_separator words)))

abbrev all_pieces : List Piece → Option (List Piece)
all_pieces pieces = Some pieces

abbrev position_of : List Piece → ℕ
position_of pieces = cond (has pieces (codes "program")) 2 1

pub has_more : (pieces : List Piece) (piece : Piece) (name : Word) → has (pieces ++ piece ∷ []) name ≡ (has pieces name || bytes_eq (label piece) name)
has_more [] piece name = go (bytes_eq (label piece) name)
  where
    go : (t : Bool) → (t || false) ≡ t
    go true = refl
    go false = refl
has_more (first ∷ pieces) piece name = ap (λ b. bytes_eq (label first) name || b) (has_more pieces piece name) ∙ go (bytes_eq (label first) name) _ _
  where
    go : (a b c : Bool) → (a || (b || c)) ≡ ((a || b) || c)
    go true b c = refl
    go false b c = refl

same_place : (pieces : List Piece) (piece : Piece) → bytes_eq (label piece) (codes "program") ≡ false → position_of pieces ≡ position_of (pieces ++ piece ∷ [])
same_place pieces piece h = ap (λ b. cond b 2 1) (sym (has_more pieces piece (codes "program") ∙ ap (λ b. has pieces (codes "program") || b) h ∙ go (has pieces (codes "program"))))
  where
    go : (t : Bool) → (t || false) ≡ t
    go true = refl
    go false = refl

last_place : (pieces : List Piece) (word : Word) → position_of (pieces ++ other word ∷ []) ≡ 2
last_place pieces word = ap (λ b. cond b 2 1) (has_more pieces (other word) (codes "program") ∙ go (has pieces (codes "program")))
  where
    go : (t : Bool) → (t || true) ≡ true
    go true = refl
    go false = refl

same_word : (word : Word) → bytes_eq word word ≡ true
same_word word = (bytes_eq-Decides word word).1 refl

pub name_is_no_program : (name : Word) → IsName name → bytes_eq name (codes "program") ≡ false
name_is_no_program name is = go (bytes_eq name (codes "program")) refl
  where
    go : (t : Bool) → bytes_eq name (codes "program") ≡ t → t ≡ false
    go true e = let none : None ≡ Some name = subst (λ w. find (λ o. bytes_eq o w) option_names ≡ Some name) ((bytes_eq-Decides name (codes "program")).0 e) is in absurd (cc)
    go false e = refl

long_of_name : (name : Word) → IsName name → long_rule (find (λ o. bytes_eq o name) option_names) (bytes_eq (codes "history") name) ≡ Some (option_rule name)
long_of_name name is = ap (λ o. long_rule o (bytes_eq (codes "history") name)) is

-- ---- the pieces of one word more

module _ (pieces : List Piece) (step : List Piece → Option (List Piece)) (word : Word) (words : List Word) where
  -- the rows that come of a step and the pieces of the words before `--`
  abbrev made : Option (List Piece) → Option (List Row)
  made o = option_and_then (λ rest. added pieces (rest ++ map other (after_separator words))) (option_and_then step o)

  taken_as : (form : Form) → is_separator word ≡ false → loose_form_of word ≡ form → taken pieces step (word ∷ words) ≡ made (option_and_then (with_word form word) (loose_option_pieces (before_separator words)))
  taken_as form separator is =
      ap (λ t. option_and_then (λ rest. added pieces (rest ++ map other (cond t words (after_separator words)))) (option_and_then step (loose_option_pieces (cond t [] (word ∷ before_separator words))))) separator
      ∙ ap (λ f. made (option_and_then (with_word f word) (loose_option_pieces (before_separator words)))) is

  taken_separator : is_separator word ≡ true → taken pieces step (word ∷ words) ≡ option_and_then (λ rest. added pieces (rest ++ map other words)) (step [])
  taken_separator separator =
      ap (λ t. option_and_then (λ rest. added pieces (rest ++ map other (cond t words (after_separator words)))) (option_and_then step (loose_option_pieces (cond t [] (word ∷ before_separator words))))) separator

  taken_unknown : is_separator word ≡ false → loose_form_of word ≡ unknown → taken pieces step (word ∷ words) ≡ None
  taken_unknown separator is = taken_as unknown separator is ∙ go (loose_option_pieces (before_separator words))
    where
      go : (o : Option (List Piece)) → made (option_and_then (with_word unknown word) o) ≡ None
      go None = refl
      go (Some rest) = refl

none_either : {A : Type 0} (t : Bool) → cond {A = Option A} t None None ≡ None
none_either true = refl
none_either false = refl

-- a piece of its own
pushes : (pieces : List Piece) (piece : Piece) (words : List Word) (o : Option (List Piece)) → made pieces all_pieces [] words (option_and_then (λ rest. Some (piece ∷ rest)) o)
    ≡ cond (has pieces (label piece)) None (made (pieces ++ piece ∷ []) all_pieces [] words o)
pushes pieces piece words None = sym (none_either (has pieces (label piece)))
pushes pieces piece words (Some rest) = refl

taken_assigned : (pieces : List Piece) (word : Word) (words : List Word) (name value : Word) → is_separator word ≡ false → loose_form_of word ≡ assigned name value
    → taken pieces all_pieces (word ∷ words) ≡ cond (has pieces name) None (taken (pieces ++ option name value ∷ []) all_pieces words)
taken_assigned pieces word words name value separator is = taken_as pieces all_pieces word words _ separator is ∙ pushes pieces (option name value) words (loose_option_pieces (before_separator words))

taken_flag : (pieces : List Piece) (word : Word) (words : List Word) → is_separator word ≡ false → loose_form_of word ≡ flag
    → taken pieces all_pieces (word ∷ words) ≡ cond (has pieces (codes "history")) None (taken (pieces ++ history ∷ []) all_pieces words)
taken_flag pieces word words separator is = taken_as pieces all_pieces word words _ separator is ∙ pushes pieces history words (loose_option_pieces (before_separator words))

taken_plain : (pieces : List Piece) (word : Word) (words : List Word) → is_separator word ≡ false → loose_form_of word ≡ plain
    → taken pieces all_pieces (word ∷ words) ≡ cond (has pieces (codes "program")) None (taken (pieces ++ other word ∷ []) all_pieces words)
taken_plain pieces word words separator is = taken_as pieces all_pieces word words _ separator is ∙ pushes pieces (other word) words (loose_option_pieces (before_separator words))

taken_named : (pieces : List Piece) (word : Word) (words : List Word) (name : Word) → is_separator word ≡ false → loose_form_of word ≡ named name
    → taken pieces all_pieces (word ∷ words) ≡ taken pieces (with_value name) words
taken_named pieces word words name separator is = taken_as pieces all_pieces word words _ separator is ∙ go (loose_option_pieces (before_separator words))
  where
    same : (o : Option (List Piece)) → option_and_then all_pieces o ≡ o
    same None = refl
    same (Some rest) = refl

    go : (o : Option (List Piece)) → made pieces all_pieces [] words (option_and_then (with_word (named name) word) o) ≡ made pieces (with_value name) [] words o
    go None = refl
    go (Some rest) = ap (option_and_then (λ rest. added pieces (rest ++ map other (after_separator words)))) (same (with_value name rest))

-- a word behind an option that has no value yet
value_plain : (pieces : List Piece) (word : Word) (words : List Word) (name : Word) → is_separator word ≡ false → loose_form_of word ≡ plain
    → taken pieces (with_value name) (word ∷ words) ≡ cond (has pieces name) None (taken (pieces ++ option name word ∷ []) all_pieces words)
value_plain pieces word words name separator is = taken_as pieces (with_value name) word words _ separator is ∙ go (loose_option_pieces (before_separator words))
  where
    go : (o : Option (List Piece)) → made pieces (with_value name) [] words (option_and_then (with_word plain word) o) ≡ cond (has pieces name) None (made (pieces ++ option name word ∷ []) all_pieces [] words o)
    go None = sym (none_either (has pieces name))
    go (Some rest) = refl

value_flag : (pieces : List Piece) (word : Word) (words : List Word) (name : Word) → is_separator word ≡ false → loose_form_of word ≡ flag → taken pieces (with_value name) (word ∷ words) ≡ None
value_flag pieces word words name separator is = taken_as pieces (with_value name) word words _ separator is ∙ go (loose_option_pieces (before_separator words))
  where
    go : (o : Option (List Piece)) → made pieces (with_value name) [] words (option_and_then (with_word flag word) o) ≡ None
    go None = refl
    go (Some rest) = refl

value_option : (pieces : List Piece) (word : Word) (words : List Word) (name mine : Word) (value : Option Word) → is_separator word ≡ false → loose_form_of word ≡ form_by value mine
    → taken pieces (with_value name) (word ∷ words) ≡ None
value_option pieces word words name mine (Some value) separator is = taken_as pieces (with_value name) word words _ separator is ∙ go (loose_option_pieces (before_separator words))
  where
    go : (o : Option (List Piece)) → made pieces (with_value name) [] words (option_and_then (with_word (assigned mine value) word) o) ≡ None
    go None = refl
    go (Some rest) = refl
value_option pieces word words name mine None separator is = taken_as pieces (with_value name) word words _ separator is ∙ go (loose_option_pieces (before_separator words))
  where
    go : (o : Option (List Piece)) → made pieces (with_value name) [] words (option_and_then (with_word (named mine) word) o) ≡ None
    go None = refl
    go (Some []) = refl
    go (Some (other value ∷ rest)) = refl
    go (Some (history ∷ rest)) = refl
    go (Some (option n v ∷ rest)) = refl

-- ---- text

abbrev pub AreTexts : List Word → Type 0
AreTexts [] = Unit {0}
AreTexts (word ∷ words) = IsUtf8 word × AreTexts words

first_char : (first : ℕ) (rest : Word) → chars (45 ∷ first ∷ rest) ≡ 45 ∷ chars (first ∷ rest)
unfolding chars
first_char first rest = refl

-- what stands behind `-` has a character
chars_of_rest : (first : ℕ) (rest : Word) → IsUtf8 (45 ∷ first ∷ rest) → (x : ℕ) × (xs : List ℕ) × (chars (first ∷ rest) ≡ x ∷ xs)
chars_of_rest first rest text = go (chars (first ∷ rest)) refl
  where
    go : (cs : List ℕ) → chars (first ∷ rest) ≡ cs → (x : ℕ) × (xs : List ℕ) × (chars (first ∷ rest) ≡ x ∷ xs)
    go (x ∷ xs) e = (x, xs, e)
    go [] e =
        let alone : encodes (45 ∷ []) ≡ 45 ∷ [] = encodes-IsAscii (45 ∷ []) (IsAscii-cons 45 [] (lit< tt) IsAscii-nil) in
        let whole : encodes (chars (45 ∷ first ∷ rest)) ≡ 45 ∷ first ∷ rest = encodes-chars (45 ∷ first ∷ rest) text in
        let same : 45 ∷ [] ≡ 45 ∷ first ∷ rest = sym alone ∙ ap (λ cs. encodes (45 ∷ cs)) (sym e) ∙ ap encodes (sym (first_char first rest)) ∙ whole in
        absurd (cc)

-- ---- words behind `--`

-- what is held, where it can be settled
abbrev IsAlive : List Piece → List Row → Option (Word × List Word) → Type 0
IsAlive pieces rows pending = passes (settling shape (held rows pending)) ≡ true → rows_of_held shape (held rows pending) ≡ map row pieces

not_had : (pieces : List Piece) (name : Word) (rows : List Row) → rows ≡ map row pieces → has_row name rows ≡ has pieces name
not_had pieces name rows is = ap (has_row name) is ∙ has_row-row pieces name

is_not : (t : Bool) → not t ≡ true → t ≡ false
is_not true h = absurd (cc)
is_not false h = refl

-- a name that is held
name_settles : (pieces : List Piece) (rows : List Row) (word : Word) → rows ≡ map row pieces → passes (settling shape (held rows (Some (codes "program", word ∷ [])))) ≡ not (has pieces (codes "program"))
name_settles pieces rows word is = settles_name shape rows word refl ∙ ap not (not_had pieces (codes "program") rows is)

name_lives : (pieces : List Piece) (rows : List Row) (word : Word) → rows ≡ map row pieces → IsAlive (pieces ++ other word ∷ []) rows (Some (codes "program", word ∷ []))
name_lives pieces rows word is e =
    settled_name_rows shape rows word refl ∙ ap (used program_rule (word ∷ [])) is
    ∙ used_name pieces word (is_not _ (sym (name_settles pieces rows word is) ∙ e))

module _ (pieces : List Piece) (rows : List Row) (pending : Option (Word × List Word)) (alive : IsAlive pieces rows pending) where
  at_end : (t : Bool) → passes (settling shape (held rows pending)) ≡ t → cond t (Some (rows_of_held shape (held rows pending))) None ≡ cond t (Some (map row pieces)) None
  at_end true e = ap (λ r. Some r) (alive e)
  at_end false e = refl

-- a name, where none is there yet
pub behind : (words : List Word) (pieces : List Piece) (rows : List Row) (pending : Option (Word × List Word)) (waiting : Waiting) → IsAlive pieces rows pending
    → outcome (trails_at waiting (held rows pending) (position_of pieces)) words ≡ cond (passes (settling shape (held rows pending))) (added pieces (map other words)) None
behind [] pieces rows pending waiting alive = at_end pieces rows pending alive _ refl
behind (word ∷ words) pieces rows pending waiting alive = go (has pieces (codes "program")) refl (passes (settling shape (held rows pending))) refl (behind words)
  where
    go : (t : Bool) → has pieces (codes "program") ≡ t → (s : Bool) → passes (settling shape (held rows pending)) ≡ s
        → ((pieces : List Piece) (rows : List Row) (pending : Option (Word × List Word)) (waiting : Waiting) → IsAlive pieces rows pending
        → outcome (trails_at waiting (held rows pending) (position_of pieces)) words ≡ cond (passes (settling shape (held rows pending))) (added pieces (map other words)) None)
        → outcome (trails_at waiting (held rows pending) (cond t 2 1)) (word ∷ words) ≡ cond s (cond t None (added (pieces ++ other word ∷ []) (map other words))) None
    go true had s e more = fails (trails_at waiting (held rows pending) 2) word words (strays_behind shape waiting (held rows pending) word refl) ∙ sym (none_either s)
    go false had false e more = turns _ word words _ _ (names_behind shape waiting (held rows pending) word refl) ∙ ap (λ b. cond b (outcome (trails_at idle (held (rows_of_held shape (held rows pending)) (Some (codes "program", word ∷ []))) 2) words) None) e
    go false had true e more =
        turns _ word words _ _ (names_behind shape waiting (held rows pending) word refl)
        ∙ ap (λ b. cond b (outcome (trails_at idle (held (rows_of_held shape (held rows pending)) (Some (codes "program", word ∷ []))) 2) words) None) e
        ∙ ap (λ n. outcome (trails_at idle (held (rows_of_held shape (held rows pending)) (Some (codes "program", word ∷ []))) n) words) (sym (last_place pieces word))
        ∙ more (pieces ++ other word ∷ []) (rows_of_held shape (held rows pending)) (Some (codes "program", word ∷ [])) idle (name_lives pieces (rows_of_held shape (held rows pending)) word (alive e))
        ∙ ap (λ b. cond b (added (pieces ++ other word ∷ []) (map other words)) None) (name_settles pieces (rows_of_held shape (held rows pending)) word (alive e) ∙ ap not had)

-- ---- words before it

pub record Claims (words : List Word) : Type 0 where
  pub idles : (pieces : List Piece) (rows : List Row) (pending : Option (Word × List Word)) → IsAlive pieces rows pending
      → outcome (idle_at (held rows pending) (position_of pieces)) words ≡ cond (passes (settling shape (held rows pending))) (taken pieces all_pieces words) None
  pub waits : (pieces : List Piece) (name : Word) → IsName name → outcome (waits_at name (held (map row pieces) (Some (name, []))) (position_of pieces)) words ≡ taken pieces (with_value name) words

no_words : Claims []
no_words = record {
  idles = λ pieces rows pending alive. at_end pieces rows pending alive _ refl;
  waits = λ pieces name is. ap (λ b. cond b (Some (rows_of_held shape (held (map row pieces) (Some (name, []))))) None) (unsettled shape name (same_word name) (by_id name is) (map row pieces));
}

module _ (word : Word) (words : List Word) (claims : Claims words) where
  -- a word that is a piece of its own
  set_piece : (pieces : List Piece) (rows after : List Row) (pending : Option (Word × List Word)) (piece : Piece) → IsAlive pieces rows pending
      → bytes_eq (label piece) (codes "program") ≡ false
      → (rows_of_held shape (held rows pending) ≡ map row pieces → has pieces (label piece) ≡ false → after ≡ map row (pieces ++ piece ∷ []))
      → (s : Bool) → passes (settling shape (held rows pending)) ≡ s
      → cond (s && not (has_row (label piece) (rows_of_held shape (held rows pending)))) (outcome (idle_at (held after None) (position_of pieces)) words) None
      ≡ cond s (cond (has pieces (label piece)) None (taken (pieces ++ piece ∷ []) all_pieces words)) None
  set_piece pieces rows after pending piece alive place is false e = refl
  set_piece pieces rows after pending piece alive place is true e =
      ap (λ b. cond (not b) (outcome (idle_at (held after None) (position_of pieces)) words) None) (not_had pieces (label piece) _ (alive e))
      ∙ go (has pieces (label piece)) refl
    where
      go : (t : Bool) → has pieces (label piece) ≡ t → cond (not t) (outcome (idle_at (held after None) (position_of pieces)) words) None ≡ cond t None (taken (pieces ++ piece ∷ []) all_pieces words)
      go true had = refl
      go false had = ap (λ n. outcome (idle_at (held after None) n) words) (same_place pieces piece place) ∙ claims.idles (pieces ++ piece ∷ []) after None (λ _. is (alive e) had)

  -- a word that goes to the program's name
  name_piece : (pieces : List Piece) (rows : List Row) (pending : Option (Word × List Word)) → IsAlive pieces rows pending
      → is_separator word ≡ false → long_of word ≡ None → short_of word ≡ None
      → (t : Bool) → has pieces (codes "program") ≡ t → (s : Bool) → passes (settling shape (held rows pending)) ≡ s
      → outcome (idle_at (held rows pending) (cond t 2 1)) (word ∷ words) ≡ cond s (cond t None (taken (pieces ++ other word ∷ []) all_pieces words)) None
  name_piece pieces rows pending alive separator long short true had s e =
      fails (idle_at (held rows pending) 2) word words (strays shape (held rows pending) word separator long short refl) ∙ sym (none_either s)
  name_piece pieces rows pending alive separator long short false had false e =
      turns _ word words _ _ (names shape (held rows pending) word separator long short refl)
      ∙ ap (λ b. cond b (outcome (idle_at (held (rows_of_held shape (held rows pending)) (Some (codes "program", word ∷ []))) 2) words) None) e
  name_piece pieces rows pending alive separator long short false had true e =
      turns _ word words _ _ (names shape (held rows pending) word separator long short refl)
      ∙ ap (λ b. cond b (outcome (idle_at (held (rows_of_held shape (held rows pending)) (Some (codes "program", word ∷ []))) 2) words) None) e
      ∙ ap (λ n. outcome (idle_at (held (rows_of_held shape (held rows pending)) (Some (codes "program", word ∷ []))) n) words) (sym (last_place pieces word))
      ∙ claims.idles (pieces ++ other word ∷ []) (rows_of_held shape (held rows pending)) (Some (codes "program", word ∷ [])) (name_lives pieces (rows_of_held shape (held rows pending)) word (alive e))
      ∙ ap (λ b. cond b (taken (pieces ++ other word ∷ []) all_pieces words) None) (name_settles pieces (rows_of_held shape (held rows pending)) word (alive e) ∙ ap not had)

  -- an option whose value is to come
  await_value : (pieces : List Piece) (rows : List Row) (pending : Option (Word × List Word)) (name : Word) → IsAlive pieces rows pending → IsName name
      → (s : Bool) → passes (settling shape (held rows pending)) ≡ s
      → cond s (outcome (waits_at name (held (rows_of_held shape (held rows pending)) (Some (name, []))) (position_of pieces)) words) None ≡ cond s (taken pieces (with_value name) words) None
  await_value pieces rows pending name alive is false e = refl
  await_value pieces rows pending name alive is true e =
      ap (λ r. outcome (waits_at name (held r (Some (name, []))) (position_of pieces)) words) (alive e) ∙ claims.waits pieces name is

  -- the value
  take_value : (pieces : List Piece) (name : Word) → IsName name
      → outcome (idle_at (held (map row pieces) (Some (name, word ∷ []))) (position_of pieces)) words ≡ cond (has pieces name) None (taken (pieces ++ option name word ∷ []) all_pieces words)
  take_value pieces name is =
      ap (λ n. outcome (idle_at (held (map row pieces) (Some (name, word ∷ []))) n) words) (same_place pieces (option name word) (name_is_no_program name is))
      ∙ claims.idles (pieces ++ option name word ∷ []) (map row pieces) (Some (name, word ∷ [])) (λ e. rows_are (is_not _ (sym settles_if ∙ e)))
      ∙ ap (λ b. cond b (taken (pieces ++ option name word ∷ []) all_pieces words) None) settles_if ∙ go (has pieces name) _
    where
      settles_if : passes (settling shape (held (map row pieces) (Some (name, word ∷ [])))) ≡ not (has pieces name)
      settles_if = settles shape name (same_word name) (by_id name is) (map row pieces) word ∙ ap not (has_row-row pieces name)

      rows_are : has pieces name ≡ false → rows_of_held shape (held (map row pieces) (Some (name, word ∷ []))) ≡ map row (pieces ++ option name word ∷ [])
      rows_are none = settled_rows shape name (same_word name) (by_id name is) (map row pieces) word ∙ used_option pieces name word none

      go : (t : Bool) (o : Option (List Row)) → cond (not t) o None ≡ cond t None o
      go true o = refl
      go false o = refl

  module _ (text : IsUtf8 word) where
    short_fails : (waiting : Waiting) (h : Held) (position : ℕ) (first : ℕ) (rest : Word) → word ≡ 45 ∷ first ∷ rest → is_separator word ≡ false → long_of word ≡ None
        → short_of word ≡ Some (first ∷ rest) → Fails shape (record { held = record h { skip = 0 }; waiting = waiting; position = position; is_trailing = false; stopped = None }) word
    short_fails waiting h position first rest is separator long short =
        let meant = chars_of_rest first rest (subst IsUtf8 is text) in
        fails_short shape waiting h position word first rest meant.0 meant.1 separator long short meant.2 refl

    idle_reads : (pieces : List Piece) (rows : List Row) (pending : Option (Word × List Word)) → IsAlive pieces rows pending → is_separator word ≡ false → Reading word
        → outcome (idle_at (held rows pending) (position_of pieces)) (word ∷ words) ≡ cond (passes (settling shape (held rows pending))) (taken pieces all_pieces (word ∷ words)) None
    idle_reads pieces rows pending alive separator (an_option name (Some value) is long form) =
        turns _ word words _ _ (sets shape (held rows pending) (position_of pieces) word name value separator long (by_long name ∙ long_of_name name is))
        ∙ set_piece pieces rows _ pending (option name value) alive (name_is_no_program name is) (λ rows_are none. ap (used (option_rule name) (value ∷ [])) rows_are ∙ used_option pieces name value none) _ refl
        ∙ ap (λ o. cond (passes (settling shape (held rows pending))) o None) (sym (taken_assigned pieces word words name value separator form))
    idle_reads pieces rows pending alive separator (an_option name None is long form) =
        turns _ word words _ _ (awaits shape (held rows pending) (position_of pieces) word name separator long (by_long name ∙ long_of_name name is))
        ∙ await_value pieces rows pending name alive is _ refl
        ∙ ap (λ o. cond (passes (settling shape (held rows pending))) o None) (sym (taken_named pieces word words name separator form))
    idle_reads pieces rows pending alive separator (a_flag long form) =
        turns _ word words _ _ (flags shape (held rows pending) (position_of pieces) word separator long refl)
        ∙ set_piece pieces rows _ pending history alive refl (λ rows_are none. ap (used history_rule []) rows_are ∙ used_flag pieces none) _ refl
        ∙ ap (λ o. cond (passes (settling shape (held rows pending))) o None) (sym (taken_flag pieces word words separator form))
    idle_reads pieces rows pending alive separator (too_many value long form) =
        fails (idle_at (held rows pending) (position_of pieces)) word words (fails_flag shape idle (held rows pending) (position_of pieces) word value separator long refl)
        ∙ sym (ap (λ o. cond (passes (settling shape (held rows pending))) o None) (taken_unknown pieces all_pieces word words separator form) ∙ none_either _)
    idle_reads pieces rows pending alive separator (no_long name value rule long form) =
        fails (idle_at (held rows pending) (position_of pieces)) word words (fails_unknown shape idle (held rows pending) (position_of pieces) word name value separator long rule)
        ∙ sym (ap (λ o. cond (passes (settling shape (held rows pending))) o None) (taken_unknown pieces all_pieces word words separator form) ∙ none_either _)
    idle_reads pieces rows pending alive separator (a_short first rest is long short form) =
        fails (idle_at (held rows pending) (position_of pieces)) word words (short_fails idle (held rows pending) (position_of pieces) first rest is separator long short)
        ∙ sym (ap (λ o. cond (passes (settling shape (held rows pending))) o None) (taken_unknown pieces all_pieces word words separator form) ∙ none_either _)
    idle_reads pieces rows pending alive separator (no_flag long short form) =
        name_piece pieces rows pending alive separator long short _ refl _ refl
        ∙ ap (λ o. cond (passes (settling shape (held rows pending))) o None) (sym (taken_plain pieces word words separator form))

    waits_reads : (pieces : List Piece) (name : Word) → IsName name → is_separator word ≡ false → Reading word
        → outcome (waits_at name (held (map row pieces) (Some (name, []))) (position_of pieces)) (word ∷ words) ≡ taken pieces (with_value name) (word ∷ words)
    waits_reads pieces name is separator (an_option mine value is_mine long form) =
        fails (waits_at name (held (map row pieces) (Some (name, []))) (position_of pieces)) word words
        (lacks_option shape name (same_word name) (by_id name is) (map row pieces) (position_of pieces) word mine value separator long (by_long mine ∙ long_of_name mine is_mine))
        ∙ sym (value_option pieces word words name mine value separator form)
    waits_reads pieces name is separator (a_flag long form) =
        fails (waits_at name (held (map row pieces) (Some (name, []))) (position_of pieces)) word words
        (lacks_flag shape name (same_word name) (by_id name is) (map row pieces) (position_of pieces) word separator long refl)
        ∙ sym (value_flag pieces word words name separator form)
    waits_reads pieces name is separator (too_many value long form) =
        fails (waits_at name (held (map row pieces) (Some (name, []))) (position_of pieces)) word words
        (fails_flag shape (option_waits name) (held (map row pieces) (Some (name, []))) (position_of pieces) word value separator long refl)
        ∙ sym (taken_unknown pieces (with_value name) word words separator form)
    waits_reads pieces name is separator (no_long mine value rule long form) =
        fails (waits_at name (held (map row pieces) (Some (name, []))) (position_of pieces)) word words
        (fails_unknown shape (option_waits name) (held (map row pieces) (Some (name, []))) (position_of pieces) word mine value separator long rule)
        ∙ sym (taken_unknown pieces (with_value name) word words separator form)
    waits_reads pieces name is separator (a_short first rest is_word long short form) =
        fails (waits_at name (held (map row pieces) (Some (name, []))) (position_of pieces)) word words
        (short_fails (option_waits name) (held (map row pieces) (Some (name, []))) (position_of pieces) first rest is_word separator long short)
        ∙ sym (taken_unknown pieces (with_value name) word words separator form)
    waits_reads pieces name is separator (no_flag long short form) =
        turns _ word words _ _ (gets shape name (same_word name) (by_id name is) (map row pieces) (position_of pieces) word separator long short)
        ∙ take_value pieces name is
        ∙ sym (value_plain pieces word words name separator form)

    idle_more : (pieces : List Piece) (rows : List Row) (pending : Option (Word × List Word)) → IsAlive pieces rows pending → (t : Bool) → is_separator word ≡ t
        → outcome (idle_at (held rows pending) (position_of pieces)) (word ∷ words) ≡ cond (passes (settling shape (held rows pending))) (taken pieces all_pieces (word ∷ words)) None
    idle_more pieces rows pending alive true separator =
        turns _ word words _ _ (separates shape (held rows pending) (position_of pieces) word separator)
        ∙ behind words pieces rows pending idle alive
        ∙ ap (λ o. cond (passes (settling shape (held rows pending))) o None) (sym (taken_separator pieces all_pieces word words separator))
    idle_more pieces rows pending alive false separator = idle_reads pieces rows pending alive separator (reading word separator)

    waits_more : (pieces : List Piece) (name : Word) → IsName name → (t : Bool) → is_separator word ≡ t
        → outcome (waits_at name (held (map row pieces) (Some (name, []))) (position_of pieces)) (word ∷ words) ≡ taken pieces (with_value name) (word ∷ words)
    waits_more pieces name is true separator =
        let never = unsettled shape name (same_word name) (by_id name is) (map row pieces) in
        turns _ word words _ _ (separates_waiting shape name (same_word name) (by_id name is) (map row pieces) (position_of pieces) word separator)
        ∙ behind words pieces (map row pieces) (Some (name, [])) (option_waits name) (λ e. absurd (true≢false (sym e ∙ never)))
        ∙ ap (λ b. cond b (added pieces (map other words)) None) never
        ∙ sym (taken_separator pieces (with_value name) word words separator)
    waits_more pieces name is false separator = waits_reads pieces name is separator (reading word separator)

claims_of : (words : List Word) → AreTexts words → Claims words
claims_of [] texts = no_words
claims_of (word ∷ words) texts =
    let rest = claims_of words texts.1 in
    record {
      idles = λ pieces rows pending alive. idle_more word words rest texts.0 pieces rows pending alive _ refl;
      waits = λ pieces name is. waits_more word words rest texts.0 pieces name is _ refl;
    }

-- a parse of words comes to their pieces
pub parse_is : (words : List Word) → AreTexts words → outcome (idle_at (held [] None) 1) words ≡ option_and_then (added []) (loose_pieces_of words)
parse_is words texts = (claims_of words texts).idles [] [] None (λ _. refl) ∙ go (loose_option_pieces (before_separator words))
  where
    go : (o : Option (List Piece)) → option_and_then (λ rest. added [] (rest ++ map other (after_separator words))) (option_and_then all_pieces o) ≡ option_and_then (added []) (option_map (λ pieces. pieces ++ map other (after_separator words)) o)
    go None = refl
    go (Some pieces) = refl
