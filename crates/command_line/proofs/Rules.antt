-- The rules of the command, and where a long name stands among them.
use Rattle.std.proofs.Common.{◌≡◌, Bool, true, false, cond, not, ◌&&◌, ◌||◌, List, [], ◌∷◌, ◌++◌, map, Option, Some, None, is_some, codes, refl, ap, option_map}
use Rattle.std.specs.List.{find}
use Rattle.std.specs.Str.{bytes_eq}
use Rattle.clap.specs.Simple.{Shape, built, filled, with_index}
use Rattle.clap.specs.Walk.{arg_by_id, arg_by_long, has_long}
use Rattle.clap.specs.Words.{Rule}
use Rattle.command_line.specs.Command.{history_argument, launch_app, option_argument, program_argument}
use Rattle.command_line.specs.Pieces.{option_names}
use Rattle.command_line.specs.Values.{Word}

abbrev pub option_rule : Word → Rule
option_rule name = filled (option_argument name)

abbrev pub history_rule : Rule
history_rule = filled history_argument

abbrev pub program_rule : Rule
program_rule = with_index 1 (filled program_argument)

abbrev pub rules : List Rule
rules = map option_rule option_names ++ history_rule ∷ program_rule ∷ []

abbrev pub shape : Shape
shape = (built launch_app).top

-- the word is the name of an option
abbrev pub IsName : Word → Type 0
IsName name = find (λ option. bytes_eq option name) option_names ≡ Some name

-- the rule that a long name has
abbrev pub long_rule : Option Word → Bool → Option Rule
long_rule (Some name) flag = Some (option_rule name)
long_rule None flag = cond flag (Some history_rule) None

long_among : (names : List Word) (word : Word) →
    find (λ a. not (is_some a.index) && has_long a word) (map option_rule names ++ history_rule ∷ program_rule ∷ [])
    ≡ long_rule (find (λ name. bytes_eq name word) names) (bytes_eq (codes "history") word)
long_among [] word = go (bytes_eq (codes "history") word)
  where
    go : (b : Bool) → cond (true && (b || false)) (Some history_rule) None ≡ cond b (Some history_rule) None
    go true = refl
    go false = refl
long_among (name ∷ names) word = go (bytes_eq name word) (long_among names word)
  where
    go : (b : Bool) {o : Option Rule} → o ≡ long_rule (find (λ name. bytes_eq name word) names) (bytes_eq (codes "history") word)
        → cond (true && (b || false)) (Some (option_rule name)) o ≡ long_rule (cond b (Some name) (find (λ name. bytes_eq name word) names)) (bytes_eq (codes "history") word)
    go true e = refl
    go false e = e

pub by_long : (word : Word) → arg_by_long shape.rules word ≡ long_rule (find (λ name. bytes_eq name word) option_names) (bytes_eq (codes "history") word)
by_long word = long_among option_names word

-- an option's rule, by its name
id_among : (names : List Word) (tail : List Rule) (word name : Word) → find (λ option. bytes_eq option word) names ≡ Some name
    → find (λ (a : Rule). bytes_eq a.id word) (map option_rule names ++ tail) ≡ Some (option_rule name)
id_among [] tail word name e = absurd (cc)
id_among (option ∷ names) tail word name e = go (bytes_eq option word) (id_among names tail word name) e
  where
    go : (b : Bool) → (find (λ option. bytes_eq option word) names ≡ Some name → find (λ (a : Rule). bytes_eq a.id word) (map option_rule names ++ tail) ≡ Some (option_rule name))
        → cond b (Some option) (find (λ option. bytes_eq option word) names) ≡ Some name
        → cond b (Some (option_rule option)) (find (λ (a : Rule). bytes_eq a.id word) (map option_rule names ++ tail)) ≡ Some (option_rule name)
    go true more e = ap (option_map option_rule) e
    go false more e = more e

pub by_id : (name : Word) → IsName name → arg_by_id shape.rules name ≡ Some (option_rule name)
by_id name e = id_among option_names (history_rule ∷ program_rule ∷ []) name name e
