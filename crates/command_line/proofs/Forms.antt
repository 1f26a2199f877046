-- A word by itself: what `clap` reads of it, and its form.
use Rattle.std.proofs.Common.{◌≡◌, ◌∙◌, ◌==◌, ◌+◌, ℕ, suc, Bool, true, false, cond, not, ◌&&◌, ◌||◌, List, [], ◌∷◌, ◌++◌, take, drop, Option, Some, None, codes, refl, sym, ap, ap₂, subst, option_map, unwrap_or, inl, inr, arith, true≢false}
use Rattle.std.specs.List.{find, list_all, list_any, prefix_len}
use Rattle.std.specs.Option.{is_none}
use Rattle.std.specs.Str.{bytes_eq}
use Rattle.std.proofs.lemmas.Bool.{and_parts}
use Rattle.std.proofs.lemmas.Bool.Decides.{eqb_tells}
use Rattle.std.proofs.lemmas.Slice.Eq.{bytes_eq-Decides}
use Rattle.clap.specs.Lexer.{long_of, name_and_value, short_of}
use Rattle.clap.specs.Walk.{arg_by_long}
use Rattle.command_line.specs.Pieces.{Form, assigned, named, flag, plain, unknown, after_prefix, form_as, is_separator, option_form, option_names}
use Rattle.command_line.specs.Values.{Word}
use Rattle.command_line.proofs.Loose.{loose_form_of}
use Rattle.command_line.proofs.Rules.{IsName, by_long, long_rule, shape}

-- ---- the name and the value of a word behind `--`

abbrev pub cut : Word → Word × Option Word
cut [] = ([], None)
cut (b ∷ bs) = cond (b == 61) ([], Some bs) (b ∷ (cut bs).0, (cut bs).1)

cut-name : (text : Word) → take (prefix_len (λ b. not (b == 61)) text) text ≡ (cut text).0
cut-name [] = refl
cut-name (b ∷ bs) = go (b == 61) (cut-name bs)
  where
    more : (n : ℕ) → take (1 + n) (b ∷ bs) ≡ b ∷ take n bs
    more n = let e : 1 + n ≡ suc n = omega arith in ap (λ m. take m (b ∷ bs)) e

    go : (t : Bool) → take (prefix_len (λ b. not (b == 61)) bs) bs ≡ (cut bs).0
        → take (cond (not t) (1 + prefix_len (λ b. not (b == 61)) bs) 0) (b ∷ bs) ≡ (cond {A = Word × Option Word} t ([], Some bs) (b ∷ (cut bs).0, (cut bs).1)).0
    go true e = refl
    go false e = more (prefix_len (λ b. not (b == 61)) bs) ∙ ap (λ w. b ∷ w) e

cut-value : (text : Word) → cond (list_any (λ b. b == 61) text) (Some (drop (prefix_len (λ b. not (b == 61)) text + 1) text)) None ≡ (cut text).1
cut-value [] = refl
cut-value (b ∷ bs) = go (b == 61) (cut-value bs)
  where
    more : (n : ℕ) → drop (1 + n + 1) (b ∷ bs) ≡ drop (n + 1) bs
    more n = let e : 1 + n + 1 ≡ suc (n + 1) = omega arith in ap (λ m. drop m (b ∷ bs)) e

    go : (t : Bool) → cond (list_any (λ b. b == 61) bs) (Some (drop (prefix_len (λ b. not (b == 61)) bs + 1) bs)) None ≡ (cut bs).1
        → cond (t || list_any (λ b. b == 61) bs) (Some (drop (cond (not t) (1 + prefix_len (λ b. not (b == 61)) bs) 0 + 1) (b ∷ bs))) None ≡ (cond {A = Word × Option Word} t ([], Some bs) (b ∷ (cut bs).0, (cut bs).1)).1
    go true e = refl
    go false e = ap (λ w. cond (list_any (λ b. b == 61) bs) (Some w) None) (more (prefix_len (λ b. not (b == 61)) bs)) ∙ e

pub name_and_value-cut : (text : Word) → name_and_value text ≡ cut text
name_and_value-cut text = λ i. (cut-name text i, cut-value text i)

-- ---- the tests of a form, by the cut

abbrev pub lacks : Word → Bool
lacks name = not (list_any (λ b. b == 61) name)

-- the name alone, or with a value
abbrev pub form_by : Option Word → Word → Form
form_by None name = named name
form_by (Some value) name = assigned name value

not_true : (a b : Bool) → not (a || b) ≡ true → (a ≡ false) × (not b ≡ true)
not_true true b h = absurd (cc)
not_true false b h = (refl, h)

-- a first byte that is compared both ways
flip : (a b : ℕ) → (a == b) ≡ (b == a)
flip a b = elim (eqb_tells a b) [
  | inl same ↦ same.0 ∙ elim (eqb_tells b a) [ inl e ↦ sym e.0 | inr e ↦ absurd (e.1 (sym same.1)) ]
  | inr other ↦ other.0 ∙ elim (eqb_tells b a) [ inl e ↦ absurd (other.1 (sym e.1)) | inr e ↦ sym e.0 ]
]

not_both : (n b : ℕ) → (n == 61) ≡ false → (b == 61) ≡ true → (n == b) ≡ false
not_both n b h e = elim (eqb_tells n b) [
  | inl same ↦ absurd (true≢false (sym e ∙ ap (λ m. m == 61) (sym same.1) ∙ h))
  | inr other ↦ other.0
]

-- a whole name
whole : (name text : Word) → lacks name ≡ true → bytes_eq name text ≡ (bytes_eq name (cut text).0 && is_none (cut text).1)
whole [] [] h = refl
whole [] (b ∷ bs) h = go (b == 61)
  where
    go : (t : Bool) → false ≡ (bytes_eq [] (cond {A = Word × Option Word} t ([], Some bs) (b ∷ (cut bs).0, (cut bs).1)).0 && is_none (cond {A = Word × Option Word} t ([], Some bs) (b ∷ (cut bs).0, (cut bs).1)).1)
    go true = refl
    go false = refl
whole (n ∷ ns) [] h = refl
whole (n ∷ ns) (b ∷ bs) h = let parts = not_true _ _ h in go (b == 61) refl (whole ns bs parts.1) (not_both n b parts.0)
  where
    join : (x y z : Bool) → (x && (y && z)) ≡ ((x && y) && z)
    join true y z = refl
    join false y z = refl

    go : (t : Bool) → (b == 61) ≡ t → bytes_eq ns bs ≡ (bytes_eq ns (cut bs).0 && is_none (cut bs).1) → ((b == 61) ≡ true → (n == b) ≡ false)
        → ((n == b) && bytes_eq ns bs) ≡ (bytes_eq (n ∷ ns) (cond {A = Word × Option Word} t ([], Some bs) (b ∷ (cut bs).0, (cut bs).1)).0 && is_none (cond {A = Word × Option Word} t ([], Some bs) (b ∷ (cut bs).0, (cut bs).1)).1)
    go true e more other = ap (λ t. t && bytes_eq ns bs) (other e)
    go false e more other = ap (λ t. (n == b) && t) more ∙ join (n == b) _ _

-- a name and `=`
before : (name text : Word) → lacks name ≡ true → after_prefix (name ++ codes "=") text ≡ cond (bytes_eq name (cut text).0) (cut text).1 None
before [] [] h = refl
before [] (b ∷ bs) h = go (b == 61)
  where
    go : (t : Bool) → cond t (Some bs) None ≡ cond (bytes_eq [] (cond {A = Word × Option Word} t ([], Some bs) (b ∷ (cut bs).0, (cut bs).1)).0) (cond {A = Word × Option Word} t ([], Some bs) (b ∷ (cut bs).0, (cut bs).1)).1 None
    go true = refl
    go false = refl
before (n ∷ ns) [] h = refl
before (n ∷ ns) (b ∷ bs) h =
    let parts = not_true _ _ h in
    ap (λ t. cond t (after_prefix (ns ++ codes "=") bs) None) (flip b n) ∙ go (b == 61) refl (before ns bs parts.1) (not_both n b parts.0)
  where
    join : (x y : Bool) (o : Option Word) → cond x (cond y o None) None ≡ cond (x && y) o None
    join true y o = refl
    join false y o = refl

    go : (t : Bool) → (b == 61) ≡ t → after_prefix (ns ++ codes "=") bs ≡ cond (bytes_eq ns (cut bs).0) (cut bs).1 None → ((b == 61) ≡ true → (n == b) ≡ false)
        → cond (n == b) (after_prefix (ns ++ codes "=") bs) None ≡ cond (bytes_eq (n ∷ ns) (cond {A = Word × Option Word} t ([], Some bs) (b ∷ (cut bs).0, (cut bs).1)).0) (cond {A = Word × Option Word} t ([], Some bs) (b ∷ (cut bs).0, (cut bs).1)).1 None
    go true e more other = ap (λ t. cond t (after_prefix (ns ++ codes "=") bs) None) (other e)
    go false e more other = ap (λ o. cond (n == b) o None) more ∙ join (n == b) _ _

-- `--name` or `--name=value`, of a word that begins with `--`
form_as-cut : (name rest : Word) → lacks name ≡ true → form_as name (45 ∷ 45 ∷ rest) ≡ cond (bytes_eq name (cut rest).0) (Some (form_by (cut rest).1 name)) None
form_as-cut name rest h = by (bytes_eq name (cut rest).0) (cut rest).1 _ _ (whole name rest h) (before name rest h)
  where
    by : (t : Bool) (o : Option Word) (w : Bool) (v : Option Word) → w ≡ (t && is_none o) → v ≡ cond t o None
        → cond w (Some (named name)) (option_map (assigned name) v) ≡ cond t (Some (form_by o name)) None
    by true None w v e f = rw e refl
    by true (Some u) w v e f = rw (e, f) refl
    by false o w v e f = rw (e, f) refl

option_form-cut : (names : List Word) (rest : Word) → list_all lacks names ≡ true
    → option_form names (45 ∷ 45 ∷ rest) ≡ unwrap_or (option_map (form_by (cut rest).1) (find (λ name. bytes_eq name (cut rest).0) names)) unknown
option_form-cut [] rest h = refl
option_form-cut (name ∷ names) rest h =
    let parts = and_parts _ _ h in
    ap (λ o. unwrap_or o (option_form names (45 ∷ 45 ∷ rest))) (form_as-cut name rest parts.0) ∙ go (bytes_eq name (cut rest).0) (option_form-cut names rest parts.1)
  where
    go : (t : Bool) → option_form names (45 ∷ 45 ∷ rest) ≡ unwrap_or (option_map (form_by (cut rest).1) (find (λ name. bytes_eq name (cut rest).0) names)) unknown
        → unwrap_or (cond t (Some (form_by (cut rest).1 name)) None) (option_form names (45 ∷ 45 ∷ rest))
        ≡ unwrap_or (option_map (form_by (cut rest).1) (cond t (Some name) (find (λ name. bytes_eq name (cut rest).0) names))) unknown
    go true e = refl
    go false e = e

-- no option begins with one `-`
option_form-short : (names : List Word) (b : ℕ) (rest : Word) → (b == 45) ≡ false → option_form names (45 ∷ b ∷ rest) ≡ unknown
option_form-short [] b rest h = refl
option_form-short (name ∷ names) b rest h = rw (h, flip 45 b ∙ h) (option_form-short names b rest h)

-- ---- what `clap` reads of a word that isn't `--`

pub data Reading (word : Word) : Type 0 where
  -- an option, alone or with a value
  an_option : (name : Word) (value : Option Word) → IsName name → long_of word ≡ Some (name, value) → loose_form_of word ≡ form_by value name → Reading word
  a_flag : long_of word ≡ Some (codes "history", None) → loose_form_of word ≡ flag → Reading word
  -- a flag with a value
  too_many : (value : Word) → long_of word ≡ Some (codes "history", Some value) → loose_form_of word ≡ unknown → Reading word
  no_long : (name : Word) (value : Option Word) → arg_by_long shape.rules name ≡ None → long_of word ≡ Some (name, value) → loose_form_of word ≡ unknown → Reading word
  a_short : (first : ℕ) (flags : Word) → word ≡ 45 ∷ first ∷ flags → long_of word ≡ None → short_of word ≡ Some (first ∷ flags) → loose_form_of word ≡ unknown → Reading word
  no_flag : long_of word ≡ None → short_of word ≡ None → loose_form_of word ≡ plain → Reading word

same_text : (a b : Word) → bytes_eq a b ≡ true → a ≡ b
same_text a b e = (bytes_eq-Decides a b).0 e

found_is : (names : List Word) (word name : Word) → find (λ option. bytes_eq option word) names ≡ Some name → name ≡ word
found_is [] word name e = absurd (cc)
found_is (option ∷ names) word name e = go (bytes_eq option word) refl (found_is names word name) e
  where
    go : (t : Bool) → bytes_eq option word ≡ t → (find (λ option. bytes_eq option word) names ≡ Some name → name ≡ word)
        → cond t (Some option) (find (λ option. bytes_eq option word) names) ≡ Some name → name ≡ word
    go true same more e = let first : option ≡ name = cc in sym first ∙ same_text option word same
    go false same more e = more e

no_option_is_the_flag : (word name : Word) → find (λ option. bytes_eq option word) option_names ≡ Some name → bytes_eq (codes "history") word ≡ true → ⊥
no_option_is_the_flag word name e t =
    let none : None ≡ Some name = subst (λ w. find (λ option. bytes_eq option w) option_names ≡ Some name) (sym (same_text (codes "history") word t)) e in
    absurd (cc)

read_by : (word name : Word) (value found : Option Word) (t : Bool) → long_of word ≡ Some (name, value)
    → find (λ option. bytes_eq option name) option_names ≡ found → bytes_eq (codes "history") name ≡ t
    → loose_form_of word ≡ cond (t && is_none value) flag (unwrap_or (option_map (form_by value) found) unknown)
    → arg_by_long shape.rules name ≡ long_rule found t → Reading word
read_by word name value (Some option) true long find_is same form rule = absurd (no_option_is_the_flag name option find_is same)
read_by word name value (Some option) false long find_is same form rule =
    let is = found_is option_names name option find_is in
    an_option option value (subst (λ w. find (λ o. bytes_eq o w) option_names ≡ Some option) (sym is) find_is) (long ∙ ap (λ w. Some (w, value)) (sym is)) form
read_by word name None None true long find_is same form rule = a_flag (long ∙ ap (λ w. Some (w, None)) (sym (same_text (codes "history") name same))) form
read_by word name (Some value) None true long find_is same form rule = too_many value (long ∙ ap (λ w. Some (w, Some value)) (sym (same_text (codes "history") name same))) form
read_by word name value None false long find_is same form rule = no_long name value rule long form

read_long : (b : ℕ) (bs : Word) → Reading (45 ∷ 45 ∷ b ∷ bs)
read_long b bs =
    let name = (cut (b ∷ bs)).0 in
    let value = (cut (b ∷ bs)).1 in
    let form = option_form-cut option_names (b ∷ bs) refl in
    read_by (45 ∷ 45 ∷ b ∷ bs) name value _ _ (ap (λ p. Some p) (name_and_value-cut (b ∷ bs))) refl refl
    (ap₂ (λ t f. cond t flag f) (whole (codes "history") (b ∷ bs) refl) form) (by_long name)

short_form : (b : ℕ) (rest : Word) → (b == 45) ≡ false → loose_form_of (45 ∷ b ∷ rest) ≡ unknown
short_form b rest h = ap (λ t. cond (t && bytes_eq (codes "history") rest) flag (option_form option_names (45 ∷ b ∷ rest))) (flip 45 b ∙ h) ∙ option_form-short option_names b rest h

-- a second byte
read_second : (b : ℕ) (rest : Word) → is_separator (45 ∷ b ∷ rest) ≡ false → Reading (45 ∷ b ∷ rest)
read_second b rest h = elim (eqb_tells b 45) [
  | inl same ↦ subst (λ c. is_separator (45 ∷ c ∷ rest) ≡ false → Reading (45 ∷ c ∷ rest)) (sym same.1) (go rest) h
  | inr other ↦ a_short b rest refl (rw other.0 refl) (rw other.0 refl) (short_form b rest other.0)
]
  where
    go : (rest : Word) → is_separator (45 ∷ 45 ∷ rest) ≡ false → Reading (45 ∷ 45 ∷ rest)
    go [] h = absurd (true≢false h)
    go (b ∷ bs) h = read_long b bs

read_first : (a : ℕ) (rest : Word) → is_separator (a ∷ rest) ≡ false → Reading (a ∷ rest)
read_first a rest h = elim (eqb_tells a 45) [
  | inl same ↦ subst (λ b. is_separator (b ∷ rest) ≡ false → Reading (b ∷ rest)) (sym same.1) (go rest) h
  | inr other ↦ no_flag (rw other.0 refl) (rw other.0 refl) (rw other.0 refl)
]
  where
    go : (rest : Word) → is_separator (45 ∷ rest) ≡ false → Reading (45 ∷ rest)
    go [] h = no_flag refl refl refl
    go (b ∷ rest) h = read_second b rest h

pub reading : (word : Word) → is_separator word ≡ false → Reading word
reading [] h = no_flag refl refl refl
reading (a ∷ rest) h = read_first a rest h
