-- Words before `--` that are `-` stand for nothing, whether or not `-` is read as a plain word.
use Rattle.std.proofs.Common.{◌≡◌, ◌∙◌, ℕ, replicate, Bool, true, false, cond, not, ◌||◌, List, [], ◌∷◌, ◌++◌, map, Option, Some, None, is_some, codes, refl, sym, ap, ap₂, subst, option_and_then, option_map, true≢false, IfSome}
use Rattle.std.specs.List.{find, list_all, list_any}
use Rattle.std.specs.Str.{bytes_eq}
use Rattle.std.specs.Str.Parse.{starts_with_minus}
use Rattle.std.proofs.lemmas.Bool.{and_parts}
use Rattle.std.proofs.lemmas.Slice.Eq.{bytes_eq-Decides}
use Rattle.command_line.specs.Pieces.{Form, Piece, after_separator, are_distinct, assigned, before_separator, flag, form_of, history, label, named, option, option_form, option_names, option_pieces, other, pieces_of, plain, text, text_of, unknown, with_word}
use Rattle.command_line.specs.Settings.{Given, Settings, optional, or_default, settings_of}
use Rattle.command_line.specs.Values.{Word, file_of, key_of, number_of}
use Rattle.command_line.specs.Reading.{given_by, settings_in}
use Rattle.command_line.proofs.Loose.{loose_form_of, loose_option_pieces, loose_pieces_of}
use Rattle.command_line.proofs.Named.{is_named, is_option_name, pieces_of-names}

-- some piece is `-`
abbrev has_hyphen : List Piece → Bool
has_hyphen = list_any (λ piece. bytes_eq (text piece) (codes "-"))

or_true : (t u : Bool) → u ≡ true → (t || u) ≡ true
or_true true u e = refl
or_true false u e = e

same_word : (word : Word) → bytes_eq word word ≡ true
same_word word = (bytes_eq-Decides word word).1 refl

-- ---- the pieces

-- the pieces are the same, or there are none and some loose piece is `-`
data Compares (strict loose : Option (List Piece)) : Type 0 where
  are_same : strict ≡ loose → Compares strict loose
  has_one : strict ≡ None → IfSome loose (λ pieces. has_hyphen pieces ≡ true) → Compares strict loose

form_same : (word : Word) → bytes_eq (codes "-") word ≡ false → form_of word ≡ loose_form_of word
form_same word apart = go (not (starts_with_minus word)) ∙ ap (λ t. cond (not (starts_with_minus word) || t) plain (cond (bytes_eq (codes "--history") word) flag (option_form option_names word))) (sym apart)
  where
    go : (t : Bool) → cond t plain (cond (bytes_eq (codes "--history") word) flag (option_form option_names word)) ≡ cond (t || false) plain (cond (bytes_eq (codes "--history") word) flag (option_form option_names word))
    go true = refl
    go false = refl

no_pieces : (word : Word) (o : Option (List Piece)) → option_and_then (with_word unknown word) o ≡ None
no_pieces word None = refl
no_pieces word (Some rest) = refl

keeps : (form : Form) (word : Word) (o : Option (List Piece)) → IfSome o (λ pieces. has_hyphen pieces ≡ true) → IfSome (option_and_then (with_word form word) o) (λ pieces. has_hyphen pieces ≡ true)
keeps form word None h = tt
keeps (assigned name value) word (Some rest) h = or_true (bytes_eq value (codes "-")) (has_hyphen rest) h
keeps (named name) word (Some []) h = tt
keeps (named name) word (Some (option n v ∷ rest)) h = tt
keeps (named name) word (Some (history ∷ rest)) h = tt
keeps (named name) word (Some (other v ∷ rest)) h = h
keeps flag word (Some rest) h = h
keeps plain word (Some rest) h = or_true (bytes_eq word (codes "-")) (has_hyphen rest) h
keeps unknown word (Some rest) h = tt

compares : (words : List Word) → Compares (option_pieces words) (loose_option_pieces words)
compares [] = are_same refl
compares (word ∷ words) = go (bytes_eq (codes "-") word) refl (compares words)
  where
    hyphen : (o : Option (List Piece)) → IfSome (option_and_then (with_word (loose_form_of (codes "-")) (codes "-")) o) (λ pieces. has_hyphen pieces ≡ true)
    hyphen None = tt
    hyphen (Some rest) = refl

    go : (t : Bool) → bytes_eq (codes "-") word ≡ t → Compares (option_pieces words) (loose_option_pieces words)
        → Compares (option_and_then (with_word (form_of word) word) (option_pieces words)) (option_and_then (with_word (loose_form_of word) word) (loose_option_pieces words))
    go false e (are_same is) = are_same (ap₂ (λ f o. option_and_then (with_word f word) o) (form_same word e) is)
    go false e (has_one none h) = has_one (ap (option_and_then (with_word (form_of word) word)) none) (keeps (loose_form_of word) word (loose_option_pieces words) h)
    go true e rest =
        subst (λ w. Compares (option_and_then (with_word (form_of w) w) (option_pieces words)) (option_and_then (with_word (loose_form_of w) w) (loose_option_pieces words))) ((bytes_eq-Decides (codes "-") word).0 e)
        (has_one (no_pieces (codes "-") (option_pieces words)) (hyphen (loose_option_pieces words)))

keeps_behind : (pieces more : List Piece) → has_hyphen pieces ≡ true → has_hyphen (pieces ++ more) ≡ true
keeps_behind [] more h = absurd (true≢false (sym h))
keeps_behind (piece ∷ pieces) more h = go (bytes_eq (text piece) (codes "-")) h (keeps_behind pieces more)
  where
    go : (t : Bool) → (t || has_hyphen pieces) ≡ true → (has_hyphen pieces ≡ true → has_hyphen (pieces ++ more) ≡ true) → (t || has_hyphen (pieces ++ more)) ≡ true
    go true h rest = refl
    go false h rest = rest h

compares_all : (words : List Word) → Compares (pieces_of words) (loose_pieces_of words)
compares_all words = go (option_pieces (before_separator words)) (loose_option_pieces (before_separator words)) (compares (before_separator words))
  where
    go : (s l : Option (List Piece)) → Compares s l → Compares (option_map (λ pieces. pieces ++ map other (after_separator words)) s) (option_map (λ pieces. pieces ++ map other (after_separator words)) l)
    go s l (are_same is) = are_same (ap (option_map (λ pieces. pieces ++ map other (after_separator words))) is)
    go s None (has_one none h) = has_one (ap (option_map (λ pieces. pieces ++ map other (after_separator words))) none) tt
    go s (Some pieces) (has_one none h) = has_one (ap (option_map (λ pieces. pieces ++ map other (after_separator words))) none) (keeps_behind pieces (map other (after_separator words)) h)

-- ---- `-` is no value

never : {A B : Type 0} (f : A → Option B) → ((a : A) → f a ≡ None) → (o : Option A) → option_and_then f o ≡ None
never f none None = refl
never f none (Some a) = none a

-- where a field is `-`
module _ (given : Given) where
  in_program : (f : Word → Option Settings) → ((program : Word) → f program ≡ None) → option_and_then f (option_and_then file_of given.program) ≡ None
  in_program f none = never f none (option_and_then file_of given.program)

  in_file : (word : Option Word) (f : Option Word → Option Settings) → ((name : Option Word) → f name ≡ None) → option_and_then f (optional file_of word) ≡ None
  in_file word f none = never f none (optional file_of word)

  in_number : (default least most : ℕ) (word : Option Word) (f : ℕ → Option Settings) → ((n : ℕ) → f n ≡ None) → option_and_then f (or_default default (number_of least most) word) ≡ None
  in_number default least most word f none = never f none (or_default default (number_of least most) word)

  in_key : (f : List ℕ → Option Settings) → ((key : List ℕ) → f key ≡ None) → option_and_then f (or_default (replicate 32 0) key_of given.key) ≡ None
  in_key f none = never f none (or_default (replicate 32 0) key_of given.key)

  no_program : given.program ≡ Some (codes "-") → settings_of given ≡ None
  unfolding settings_of
  no_program e = rw e refl

  no_tree : given.tree ≡ Some (codes "-") → settings_of given ≡ None
  unfolding settings_of
  no_tree e = rw e (in_program _ (λ program. refl))

  no_stdin : given.stdin ≡ Some (codes "-") → settings_of given ≡ None
  unfolding settings_of
  no_stdin e = rw e (in_program _ (λ program. in_file given.tree _ (λ tree. refl)))

  no_workers : given.workers ≡ Some (codes "-") → settings_of given ≡ None
  unfolding settings_of
  no_workers e = rw e (in_program _ (λ program. in_file given.tree _ (λ tree. in_file given.stdin _ (λ stdin. refl))))

  no_turns : given.turns ≡ Some (codes "-") → settings_of given ≡ None
  unfolding settings_of
  no_turns e = rw e (in_program _ (λ program. in_file given.tree _ (λ tree. in_file given.stdin _ (λ stdin. in_number 4 1 64 given.workers _ (λ workers. refl)))))

  no_key : given.key ≡ Some (codes "-") → settings_of given ≡ None
  unfolding settings_of
  no_key e = rw e (in_program _ (λ program. in_file given.tree _ (λ tree. in_file given.stdin _ (λ stdin. in_number 4 1 64 given.workers _ (λ workers. in_number 100000 1 1000000000 given.turns _ (λ turns. refl))))))

  no_epoch : given.epoch ≡ Some (codes "-") → settings_of given ≡ None
  unfolding settings_of
  no_epoch e =
      rw e (in_program _ (λ program. in_file given.tree _ (λ tree. in_file given.stdin _ (λ stdin. in_number 4 1 64 given.workers _ (λ workers. in_number 100000 1 1000000000 given.turns _ (λ turns. in_key _ (λ key. refl)))))))

-- ---- the piece that is `-`

abbrev is_label : Word → Bool
is_label name = is_option_name name || bytes_eq name (codes "program")

found_label : (pieces : List Piece) (name first value : Word) → bytes_eq first name ≡ true → text_of pieces name ≡ Some value → list_any (bytes_eq first) (map label pieces) ≡ true
found_label [] name first value is e = absurd (cc)
found_label (piece ∷ pieces) name first value is e = go (bytes_eq (label piece) name) refl e (found_label pieces name first value is)
  where
    go : (t : Bool) → bytes_eq (label piece) name ≡ t → option_map text (cond t (Some piece) (find (λ piece. bytes_eq (label piece) name) pieces)) ≡ Some value
        → (text_of pieces name ≡ Some value → list_any (bytes_eq first) (map label pieces) ≡ true) → (bytes_eq first (label piece) || list_any (bytes_eq first) (map label pieces)) ≡ true
    go true same e more =
        let equal : first ≡ label piece = (bytes_eq-Decides first name).0 is ∙ sym ((bytes_eq-Decides (label piece) name).0 same) in
        ap (λ t. t || list_any (bytes_eq first) (map label pieces)) ((bytes_eq-Decides first (label piece)).1 equal)
    go false same e more = or_true (bytes_eq first (label piece)) (list_any (bytes_eq first) (map label pieces)) (more e)

label_is : (piece : Piece) → is_named piece ≡ true → bytes_eq (text piece) (codes "-") ≡ true → is_label (label piece) ≡ true
label_is (option name value) is h = ap (λ t. t || bytes_eq name (codes "program")) is
label_is history is h = absurd (true≢false (sym h))
label_is (other word) is h = refl

hyphen_at : (pieces : List Piece) → has_hyphen pieces ≡ true → are_distinct (map label pieces) ≡ true → list_all is_named pieces ≡ true
    → (name : Word) × (is_label name ≡ true) × (text_of pieces name ≡ Some (codes "-"))
hyphen_at [] h distinct is = absurd (true≢false (sym h))
hyphen_at (piece ∷ pieces) h distinct is =
    let apart = and_parts _ _ distinct in
    let known = and_parts _ _ is in
    go (bytes_eq (text piece) (codes "-")) refl h apart.0 known.0 (λ rest. hyphen_at pieces rest apart.1 known.1)
  where
    first : bytes_eq (text piece) (codes "-") ≡ true → text_of (piece ∷ pieces) (label piece) ≡ Some (codes "-")
    first e = ap (λ t. option_map text (cond t (Some piece) (find (λ p. bytes_eq (label p) (label piece)) pieces))) (same_word (label piece)) ∙ ap (λ w. Some w) ((bytes_eq-Decides (text piece) (codes "-")).0 e)

    later : (name : Word) → text_of pieces name ≡ Some (codes "-") → not (list_any (bytes_eq (label piece)) (map label pieces)) ≡ true → (t : Bool) → bytes_eq (label piece) name ≡ t
        → option_map text (cond t (Some piece) (find (λ p. bytes_eq (label p) name) pieces)) ≡ Some (codes "-")
    later name e apart true same = absurd (true≢false (sym apart ∙ ap not (found_label pieces name (label piece) (codes "-") same e)))
    later name e apart false same = e

    go : (t : Bool) → bytes_eq (text piece) (codes "-") ≡ t → (t || has_hyphen pieces) ≡ true → not (list_any (bytes_eq (label piece)) (map label pieces)) ≡ true → is_named piece ≡ true
        → (has_hyphen pieces ≡ true → (name : Word) × (is_label name ≡ true) × (text_of pieces name ≡ Some (codes "-")))
        → (name : Word) × (is_label name ≡ true) × (text_of (piece ∷ pieces) name ≡ Some (codes "-"))
    go true e h apart known rest = (label piece, label_is piece known e, first e)
    go false e h apart known rest = let found = rest h in (found.0, found.1, later found.0 found.2 apart (bytes_eq (label piece) found.0) refl)

-- a name of an option, or the program's
abbrev AllOf : (Word → Type 0) → List Word → Type 0
AllOf P [] = Unit {0}
AllOf P (name ∷ names) = P name × AllOf P names

each_name : (P : Word → Type 0) (names : List Word) (name : Word) → AllOf P names → is_some (find (λ option. bytes_eq option name) names) ≡ true → P name
each_name P [] name all is = absurd (true≢false (sym is))
each_name P (first ∷ names) name all is = go (bytes_eq first name) refl is (each_name P names name all.1)
  where
    go : (t : Bool) → bytes_eq first name ≡ t → is_some (cond t (Some first) (find (λ option. bytes_eq option name) names)) ≡ true
        → (is_some (find (λ option. bytes_eq option name) names) ≡ true → P name) → P name
    go true same is more = subst P ((bytes_eq-Decides first name).0 same) all.0
    go false same is more = more is

label_fails : (pieces : List Piece) (name : Word) → is_label name ≡ true → text_of pieces name ≡ Some (codes "-") → settings_of (given_by pieces) ≡ None
label_fails pieces name is = go (is_option_name name) refl is
  where
    go : (t : Bool) → is_option_name name ≡ t → (t || bytes_eq name (codes "program")) ≡ true → text_of pieces name ≡ Some (codes "-") → settings_of (given_by pieces) ≡ None
    go true e is =
        each_name (λ name. text_of pieces name ≡ Some (codes "-") → settings_of (given_by pieces) ≡ None) option_names name
        (no_tree (given_by pieces), (no_stdin (given_by pieces), (no_workers (given_by pieces), (no_turns (given_by pieces), (no_key (given_by pieces), (no_epoch (given_by pieces), tt)))))) e
    go false e is = subst (λ name. text_of pieces name ≡ Some (codes "-") → settings_of (given_by pieces) ≡ None) (sym ((bytes_eq-Decides name (codes "program")).0 is)) (no_program (given_by pieces))

hyphen_fails : (pieces : List Piece) → has_hyphen pieces ≡ true → list_all is_named pieces ≡ true → settings_in pieces ≡ None
hyphen_fails pieces h is = go (are_distinct (map label pieces)) refl
  where
    go : (t : Bool) → are_distinct (map label pieces) ≡ t → cond t (settings_of (given_by pieces)) None ≡ None
    go true distinct = let found = hyphen_at pieces h distinct is in label_fails pieces found.0 found.1 found.2
    go false distinct = refl

-- the settings are the same
pub same_settings : (words : List Word) → option_and_then settings_in (pieces_of words) ≡ option_and_then settings_in (loose_pieces_of words)
same_settings words = go (pieces_of words) (loose_pieces_of words) (compares_all words) (pieces_of-names words)
  where
    go : (s l : Option (List Piece)) → Compares s l → IfSome l (λ pieces. list_all is_named pieces ≡ true) → option_and_then settings_in s ≡ option_and_then settings_in l
    go s l (are_same is) names = ap (option_and_then settings_in) is
    go s None (has_one none h) names = ap (option_and_then settings_in) none
    go s (Some pieces) (has_one none h) names = ap (option_and_then settings_in) none ∙ sym (hyphen_fails pieces h names)
