-- The laws.
use Rattle.std.proofs.Common.{◌≡◌, ◌∙◌, Bool, true, false, cond, not, ◌&&◌, ◌||◌, List, [], ◌∷◌, ◌++◌, map, Option, Some, None, codes, refl, sym, ap, ap₂, subst, option_and_then, option_map, true≢false}
use Rattle.std.specs.List.{list_any}
use Rattle.std.specs.Str.{bytes_eq}
use Rattle.std.specs.Str.Parse.{starts_with_minus}
use Rattle.std.proofs.lemmas.Slice.Eq.{bytes_eq-Decides}
use Rattle.command_line.specs.Laws.{FormsAgree, HelpIsRefused, SeparatorEndsOptions, help_words}
use Rattle.command_line.specs.Pieces.{Piece, after_separator, assigned, before_separator, flag, form_of, is_separator, named, option_form, option_names, option_pieces, other, pieces_of, plain, unknown, with_word}
use Rattle.command_line.specs.Settings.{settings_of}
use Rattle.command_line.specs.Values.{Word}
use Rattle.command_line.specs.Reading.{settings_in, words_of}

pub separator_ends_options : SeparatorEndsOptions
unfolding words_of settings_of
separator_ends_options own word file = rw file refl

-- what holds of each of some words
abbrev AllOf : (Word → Type 0) → List Word → Type 0
AllOf P [] = Unit {0}
AllOf P (word ∷ words) = P word × AllOf P words

-- ---- words behind words with no `--`

no_separator : (word : Word) (words : List Word) → (is_separator word || list_any is_separator words) ≡ false → (is_separator word ≡ false) × (list_any is_separator words ≡ false)
no_separator word words h = go (is_separator word) h
  where
    go : (t : Bool) → (t || list_any is_separator words) ≡ false → (t ≡ false) × (list_any is_separator words ≡ false)
    go true h = absurd (true≢false h)
    go false h = (refl, h)

before_both : (first rest : List Word) → list_any is_separator first ≡ false → before_separator (first ++ rest) ≡ first ++ before_separator rest
before_both [] rest h = refl
before_both (word ∷ words) rest h =
    let parts = no_separator word words h in
    ap₂ (λ t ws. cond t [] (word ∷ ws)) parts.0 (before_both words rest parts.1)

after_both : (first rest : List Word) → list_any is_separator first ≡ false → after_separator (first ++ rest) ≡ after_separator rest
after_both [] rest h = refl
after_both (word ∷ words) rest h =
    let parts = no_separator word words h in
    ap₂ (λ t ws. cond t (words ++ rest) ws) parts.0 (after_both words rest parts.1)

-- the pieces depend on those of the words behind
option_pieces-same : (first : List Word) (a b : List Word) → option_pieces a ≡ option_pieces b → option_pieces (first ++ a) ≡ option_pieces (first ++ b)
option_pieces-same [] a b e = e
option_pieces-same (word ∷ words) a b e = ap (option_and_then (with_word (form_of word) word)) (option_pieces-same words a b e)

pieces_of-same : (first a b : List Word) → list_any is_separator first ≡ false → option_pieces (before_separator a) ≡ option_pieces (before_separator b) → after_separator a ≡ after_separator b
    → pieces_of (first ++ a) ≡ pieces_of (first ++ b)
pieces_of-same first a b h pieces words =
    ap₂ (λ ws o. option_map (λ ps. ps ++ map other ws) o) (after_both first a h ∙ words ∙ sym (after_both first b h))
    (ap option_pieces (before_both first a h) ∙ option_pieces-same first (before_separator a) (before_separator b) pieces ∙ sym (ap option_pieces (before_both first b h)))

-- ---- an option's two forms

no_hyphen_no_separator : (value : Word) → starts_with_minus value ≡ false → is_separator value ≡ false
no_hyphen_no_separator [] h = refl
no_hyphen_no_separator (b ∷ bs) h = ap (λ t. t && bytes_eq bs (codes "-")) h

module _ (value : Word) (rest : List Word) (no_hyphen : starts_with_minus value ≡ false) where
  -- the pieces are the same, whichever form an option has
  Agrees : Word → Type 0
  Agrees name = (option_pieces (before_separator ((codes "--" ++ name) ∷ value ∷ rest)) ≡ option_pieces (before_separator ((codes "--" ++ name ++ codes "=" ++ value) ∷ rest)))
      × (after_separator ((codes "--" ++ name) ∷ value ∷ rest) ≡ after_separator ((codes "--" ++ name ++ codes "=" ++ value) ∷ rest))

  same_pieces : (alone joined name : Word) (o : Option (List Piece)) → form_of alone ≡ named name → form_of value ≡ plain → form_of joined ≡ assigned name value
      → option_and_then (with_word (form_of alone) alone) (option_and_then (with_word (form_of value) value) o) ≡ option_and_then (with_word (form_of joined) joined) o
  same_pieces alone joined name None a b c = refl
  same_pieces alone joined name (Some pieces) a b c = rw (a, b, c) refl

  agrees : (name : Word) → form_of (codes "--" ++ name) ≡ named name → form_of (codes "--" ++ name ++ codes "=" ++ value) ≡ assigned name value
      → is_separator (codes "--" ++ name) ≡ false → is_separator (codes "--" ++ name ++ codes "=" ++ value) ≡ false → Agrees name
  unfolding Agrees
  agrees name alone joined separator also =
      let plainly : form_of value ≡ plain = ap (λ t. cond (not t) plain (cond (bytes_eq (codes "--history") value) flag (option_form option_names value))) no_hyphen in
      let none = no_hyphen_no_separator value no_hyphen in (
        ap (λ t. option_pieces (cond t [] ((codes "--" ++ name) ∷ before_separator (value ∷ rest)))) separator
            ∙ ap (λ t. option_pieces ((codes "--" ++ name) ∷ cond t [] (value ∷ before_separator rest))) none
            ∙ same_pieces (codes "--" ++ name) (codes "--" ++ name ++ codes "=" ++ value) name (option_pieces (before_separator rest)) alone plainly joined
            ∙ sym (ap (λ t. option_pieces (cond t [] ((codes "--" ++ name ++ codes "=" ++ value) ∷ before_separator rest))) also),
        ap (λ t. cond t (value ∷ rest) (after_separator (value ∷ rest))) separator
            ∙ ap (λ t. cond t rest (after_separator rest)) none
            ∙ sym (ap (λ t. cond t rest (after_separator rest)) also),
      )

  among : (names : List Word) (name : Word) → AllOf Agrees names → list_any (λ option. bytes_eq option name) names ≡ true → Agrees name
  among [] name all is = absurd (true≢false (sym is))
  among (first ∷ names) name all is = go (bytes_eq first name) refl is (among names name all.1)
    where
      go : (t : Bool) → bytes_eq first name ≡ t → (t || list_any (λ option. bytes_eq option name) names) ≡ true → (list_any (λ option. bytes_eq option name) names ≡ true → Agrees name) → Agrees name
      go true same is more = subst Agrees ((bytes_eq-Decides first name).0 same) all.0
      go false same is more = more is

  all_agree : (name : Word) → list_any (λ option. bytes_eq option name) option_names ≡ true → Agrees name
  all_agree name is = among option_names name (
    agrees (codes "tree") refl refl refl refl,
    (
      agrees (codes "stdin") refl refl refl refl,
      (
        agrees (codes "workers") refl refl refl refl,
        (
          agrees (codes "turns") refl refl refl refl,
          (
            agrees (codes "key") refl refl refl refl,
            (
              agrees (codes "epoch") refl refl refl refl,
              tt,
            ),
          ),
        ),
      ),
    ),
  ) is

  pub agreed : (name : Word) → list_any (λ option. bytes_eq option name) option_names ≡ true → (before : List Word) → list_any is_separator before ≡ false
      → pieces_of (before ++ (codes "--" ++ name) ∷ value ∷ rest) ≡ pieces_of (before ++ (codes "--" ++ name ++ codes "=" ++ value) ∷ rest)
  unfolding Agrees
  agreed name is before h = let same = all_agree name is in pieces_of-same before _ _ h same.0 same.1

pub forms_agree : FormsAgree
unfolding words_of
forms_agree own name value before after h is no_hyphen = ap (option_and_then settings_in) (agreed value after no_hyphen name is before h)

-- ---- help

refused_piece : (word : Word) (rest : List Word) → form_of word ≡ unknown → is_separator word ≡ false → (first : List Word) → option_pieces (first ++ before_separator (word ∷ rest)) ≡ None
refused_piece word rest is separator [] =
    ap (λ t. option_pieces (cond t [] (word ∷ before_separator rest))) separator ∙ ap (λ f. option_and_then (with_word f word) (option_pieces (before_separator rest))) is ∙ go (option_pieces (before_separator rest))
  where
    go : (o : Option (List Piece)) → option_and_then (with_word unknown word) o ≡ None
    go None = refl
    go (Some pieces) = refl
refused_piece word rest is separator (first ∷ words) = ap (option_and_then (with_word (form_of first) first)) (refused_piece word rest is separator words)

refused_words : (own word : Word) (before after : List Word) → list_any is_separator before ≡ false → form_of word ≡ unknown → is_separator word ≡ false → words_of (own ∷ (before ++ word ∷ after)) ≡ None
unfolding words_of
refused_words own word before after h is separator =
    ap (λ o. option_and_then settings_in (option_map (λ pieces. pieces ++ map other (after_separator (before ++ word ∷ after))) o))
    (ap option_pieces (before_both before (word ∷ after) h) ∙ refused_piece word after is separator before)

module _ (own : Word) (before after : List Word) (h : list_any is_separator before ≡ false) where
  Refused : Word → Type 0
  Refused word = words_of (own ∷ (before ++ word ∷ after)) ≡ None

  one_of : (helps : List Word) (word : Word) → AllOf Refused helps → list_any (λ help. bytes_eq help word) helps ≡ true → Refused word
  one_of [] word all is = absurd (true≢false (sym is))
  one_of (first ∷ helps) word all is = go (bytes_eq first word) refl is (one_of helps word all.1)
    where
      go : (t : Bool) → bytes_eq first word ≡ t → (t || list_any (λ help. bytes_eq help word) helps) ≡ true → (list_any (λ help. bytes_eq help word) helps ≡ true → Refused word) → Refused word
      go true same is more = subst Refused ((bytes_eq-Decides first word).0 same) all.0
      go false same is more = more is

  refuse : (word : Word) → form_of word ≡ unknown → is_separator word ≡ false → Refused word
  unfolding Refused
  refuse word is separator = refused_words own word before after h is separator

  pub all_refused : (word : Word) → list_any (λ help. bytes_eq help word) help_words ≡ true → words_of (own ∷ (before ++ word ∷ after)) ≡ None
  unfolding Refused
  all_refused word is = one_of help_words word (
    refuse (codes "-h") refl refl,
    (refuse (codes "--help") refl refl, (refuse (codes "-V") refl refl, (refuse (codes "--version") refl refl, tt))),
  ) is

pub help_is_refused : HelpIsRefused
help_is_refused own word before after h is = all_refused own before after h word is
