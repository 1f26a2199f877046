-- The words that the command takes are those whose pieces are distinct and name a program.
use Rattle.std.proofs.Common.{◌≡◌, ◌∙◌, Bool, true, false, cond, not, ◌&&◌, ◌||◌, List, [], ◌∷◌, ◌++◌, map, Option, Some, None, is_some, codes, refl, sym, ap, ap₂, subst, option_and_then, true≢false, append_assoc}
use Rattle.std.specs.List.{fold, list_all, list_any}
use Rattle.std.specs.Str.{bytes_eq}
use Rattle.std.proofs.lemmas.Bool.{and_parts}
use Rattle.std.proofs.lemmas.List.{append-nil}
use Rattle.clap.specs.Faults.{check_fault, default_fault, defaults_fault, entered_fault, given_default_fault, level_fault, turn_fault, walk_fault}
use Rattle.clap.specs.Kinds.{Kinds, or_else}
use Rattle.clap.specs.Simple.{built, entered}
use Rattle.clap.specs.Takes.{is_given}
use Rattle.clap.specs.Walk.{Row, Walk, finished, has_row, is_empty, nothing_held, walk, walk_from, walked, with_default}
use Rattle.clap.specs.Words.{Rule}
use Rattle.clap.specs.declared.error.kind.ErrorKind.TheVariants.{MissingRequiredArgument}
use Rattle.command_line.specs.Command.{launch_app}
use Rattle.command_line.specs.Pieces.{Piece, are_distinct, has, label, text_of}
use Rattle.command_line.specs.Settings.{Given, settings_of}
use Rattle.command_line.specs.Values.{Word}
use Rattle.command_line.proofs.Loose.{loose_pieces_of}
use Rattle.command_line.specs.Reading.{given_by, settings_in}
use Rattle.command_line.proofs.Finished.{end_rows, finished-end, given_end}
use Rattle.command_line.proofs.Found.{row}
use Rattle.command_line.proofs.Rules.{shape}
use Rattle.command_line.proofs.Steps.{held, idle_at, passes, rows_of_held, settling}
use Rattle.command_line.proofs.Walking.{AreTexts, added, has_more, outcome, parse_is}

-- ---- distinct pieces

apart : (pieces : List Piece) (piece : Piece) (rest : List Piece) → list_all (λ p. not (has (pieces ++ piece ∷ []) (label p))) rest
    ≡ (list_all (λ p. not (has pieces (label p))) rest && not (list_any (bytes_eq (label piece)) (map label rest)))
apart pieces piece [] = refl
apart pieces piece (first ∷ rest) =
    ap₂ (λ a b. not a && b) (has_more pieces piece (label first)) (apart pieces piece rest)
    ∙ go (has pieces (label first)) (bytes_eq (label piece) (label first)) _ _
  where
    go : (a b c d : Bool) → (not (a || b) && (c && not d)) ≡ ((not a && c) && not (b || d))
    go true b c d = refl
    go false true true d = refl
    go false true false d = refl
    go false false c d = refl

added_is : (pieces rest : List Piece) → added pieces rest ≡ cond (list_all (λ p. not (has pieces (label p))) rest && are_distinct (map label rest)) (Some (map row (pieces ++ rest))) None
added_is pieces [] = ap (λ ps. Some (map row ps)) (sym (append-nil pieces))
added_is pieces (piece ∷ rest) = go (has pieces (label piece)) (added_is (pieces ++ piece ∷ []) rest)
  where
    order : (a b c : Bool) → ((a && not b) && c) ≡ (a && (not b && c))
    order true b c = refl
    order false b c = refl

    go : (t : Bool) → added (pieces ++ piece ∷ []) rest ≡ cond (list_all (λ p. not (has (pieces ++ piece ∷ []) (label p))) rest && are_distinct (map label rest)) (Some (map row ((pieces ++ piece ∷ []) ++ rest))) None
        → cond t None (added (pieces ++ piece ∷ []) rest)
        ≡ cond ((not t && list_all (λ p. not (has pieces (label p))) rest) && (not (list_any (bytes_eq (label piece)) (map label rest)) && are_distinct (map label rest))) (Some (map row (pieces ++ piece ∷ rest))) None
    go true more = refl
    go false more =
        more ∙ ap₂ (λ b ps. cond (b && are_distinct (map label rest)) (Some (map row ps)) None) (apart pieces piece rest) (append_assoc pieces (piece ∷ []) rest)
        ∙ ap (λ b. cond b (Some (map row (pieces ++ piece ∷ rest))) None) (order (list_all (λ p. not (has pieces (label p))) rest) (list_any (bytes_eq (label piece)) (map label rest)) (are_distinct (map label rest)))

all_new : (rest : List Piece) → list_all (λ p. not (has [] (label p))) rest ≡ true
all_new [] = refl
all_new (piece ∷ rest) = all_new rest

added_all : (pieces : List Piece) → added [] pieces ≡ cond (are_distinct (map label pieces)) (Some (map row pieces)) None
added_all pieces = added_is [] pieces ∙ ap (λ b. cond (b && are_distinct (map label pieces)) (Some (map row pieces)) None) (all_new pieces)

-- ---- the faults of a walk

-- what a walk comes to, by its faults and its rows
abbrev pub Ends : Option (List Row) → Kinds → List Row → Type 0
Ends None kinds rows = passes kinds ≡ false
Ends (Some found) kinds rows = (passes kinds ≡ true) × (rows ≡ found)

ends : (w : Walk) (words : List Word) → Ends (outcome w words) (or_else (walk_fault shape [] w words) (settling shape (fold (walked shape.rules []) w words).held)) (rows_of_held shape (fold (walked shape.rules []) w words).held)
unfolding walk_fault
ends w [] = go (passes (settling shape w.held)) refl
  where
    go : (t : Bool) → passes (settling shape w.held) ≡ t → Ends (cond t (Some (rows_of_held shape w.held)) None) (settling shape w.held) (rows_of_held shape w.held)
    go true e = (e, refl)
    go false e = e
ends w (word ∷ words) = go (turn_fault shape [] w word) _ _ _ _ (ends (walked shape.rules [] w word) words)
  where
    go : (turn walk settle : Kinds) (rows : List Row) (o : Option (List Row)) → Ends o (or_else walk settle) rows → Ends (cond (passes turn) o None) (or_else (or_else turn walk) settle) rows
    go [] walk settle rows o more = more
    go (kind ∷ kinds) walk settle rows o more = refl

-- ---- the other faults

no_entered_fault : (stop : Option (Word × List Word)) → entered_fault (built launch_app) stop ≡ []
no_entered_fault None = refl
no_entered_fault (Some p) = refl

none_entered : (stop : Option (Word × List Word)) → is_some (entered (built launch_app) stop) ≡ false
none_entered None = refl
none_entered (Some p) = refl

-- a default is no fault
abbrev has_good_default : Rule → Bool
has_good_default a = is_empty a.defaults || passes (given_default_fault a a.defaults)

pub no_kinds : (kinds : Kinds) → passes kinds ≡ true → kinds ≡ []
no_kinds [] e = refl
no_kinds (kind ∷ kinds) e = absurd (true≢false (sym e))

good_default : (rows : List Row) (a : Rule) → has_good_default a ≡ true → default_fault rows a ≡ []
good_default rows a good = go (has_row a.id rows) (is_empty a.defaults) (given_default_fault a a.defaults) good
  where
    go : (t e : Bool) (kinds : Kinds) → (e || passes kinds) ≡ true → cond (t || e) [] kinds ≡ []
    go true e kinds good = refl
    go false true kinds good = refl
    go false false kinds good = no_kinds kinds good

good_defaults : (rules : List Rule) (rows : List Row) → list_all has_good_default rules ≡ true → defaults_fault rows rules ≡ []
unfolding defaults_fault
good_defaults [] rows good = refl
good_defaults (a ∷ rules) rows good =
    let parts = and_parts _ _ good in
    ap₂ or_else (good_default rows a parts.0) (good_defaults rules (with_default rows a) parts.1)

checks : (rows : List Row) → passes (check_fault shape rows false) ≡ is_given (codes "program") rows
checks rows = go (is_given (codes "program") rows)
  where
    go : (t : Bool) → passes (cond (not t || false) (MissingRequiredArgument ∷ []) []) ≡ t
    go true = refl
    go false = refl

-- the faults of the command's words, behind its own name
abbrev pub faults : List Word → Kinds
faults words =
    let end = (walk shape.rules [] nothing_held words) in
    level_fault shape [] nothing_held words (is_some (entered (built launch_app) end.stopped)) (entered_fault (built launch_app) end.stopped)

pub faults_pass : (words : List Word) (o : Option (List Row))
    → Ends o (or_else (walk_fault shape [] (walk_from nothing_held) words) (settling shape (walk shape.rules [] nothing_held words).held)) (rows_of_held shape (walk shape.rules [] nothing_held words).held)
    → passes (faults words) ≡ (is_some o && is_given (codes "program") (finished shape.rules (walk shape.rules [] nothing_held words).held))
faults_pass words o ends =
    let end = walk shape.rules [] nothing_held words in
    let rest = or_else (defaults_fault (rows_of_held shape end.held) shape.rules) (check_fault shape (finished shape.rules end.held) false) in
    ap₂ (λ below has. passes (level_fault shape [] nothing_held words has below)) (no_entered_fault end.stopped) (none_entered end.stopped)
    ∙ go (walk_fault shape [] (walk_from nothing_held) words) (settling shape end.held) rest o (is_given (codes "program") (finished shape.rules end.held)) (rows_of_held shape end.held)
    (ap (λ d. passes (or_else d (check_fault shape (finished shape.rules end.held) false))) (good_defaults shape.rules (rows_of_held shape end.held) refl) ∙ checks (finished shape.rules end.held)) ends
  where
    go : (walk settle rest : Kinds) (o : Option (List Row)) (given : Bool) (rows : List Row) → passes rest ≡ given → Ends o (or_else walk settle) rows → passes (or_else walk (or_else settle rest)) ≡ (is_some o && given)
    go [] [] rest (Some found) given rows e ends = e
    go [] [] rest None given rows e ends = absurd (true≢false ends)
    go [] (kind ∷ kinds) rest (Some found) given rows e ends = absurd (true≢false (sym ends.0))
    go [] (kind ∷ kinds) rest None given rows e ends = refl
    go (kind ∷ kinds) settle rest (Some found) given rows e ends = absurd (true≢false (sym ends.0))
    go (kind ∷ kinds) settle rest None given rows e ends = refl

-- ---- the verdict

-- the words are refused, or their pieces are distinct and name a program
pub data Verdict (words : List Word) : Type 0 where
  is_refused : passes (faults words) ≡ false → option_and_then settings_in (loose_pieces_of words) ≡ None → Verdict words
  is_taken : (pieces : List Piece) → passes (faults words) ≡ true → loose_pieces_of words ≡ Some pieces → are_distinct (map label pieces) ≡ true
      → finished shape.rules (walk shape.rules [] nothing_held words).held ≡ end_rows pieces → Verdict words

no_program : (given : Given) → given.program ≡ None → settings_of given ≡ None
unfolding settings_of
no_program given e = rw e refl

-- what a parse of the words comes to, without its last checks
abbrev Comes : List Word → Option (List Row) → Type 0
Comes words o = Ends o (or_else (walk_fault shape [] (walk_from nothing_held) words) (settling shape (walk shape.rules [] nothing_held words).held)) (rows_of_held shape (walk shape.rules [] nothing_held words).held)

pub verdict : (words : List Word) → AreTexts words → Verdict words
verdict words texts = go (loose_pieces_of words) refl (subst (Comes words) (parse_is words texts) (ends (idle_at (held [] None) 1) words))
  where
    named : (pieces : List Piece) → loose_pieces_of words ≡ Some pieces → are_distinct (map label pieces) ≡ true
        → finished shape.rules (walk shape.rules [] nothing_held words).held ≡ end_rows pieces
        → (p : Option Word) → text_of pieces (codes "program") ≡ p → passes (faults words) ≡ is_some p → Verdict words
    named pieces e distinct rows (Some program) is passed = is_taken pieces passed e distinct rows
    named pieces e distinct rows None is passed =
        is_refused passed (ap (option_and_then settings_in) e ∙ ap (λ t. cond t (settings_of (given_by pieces)) None) distinct ∙ no_program (given_by pieces) is)

    apart_or_not : (pieces : List Piece) → loose_pieces_of words ≡ Some pieces → (t : Bool) → are_distinct (map label pieces) ≡ t → Comes words (cond t (Some (map row pieces)) None) → Verdict words
    apart_or_not pieces e false distinct comes =
        is_refused (faults_pass words None comes) (ap (option_and_then settings_in) e ∙ ap (λ t. cond t (settings_of (given_by pieces)) None) distinct)
    apart_or_not pieces e true distinct comes =
        let rows = finished-end (walk shape.rules [] nothing_held words).held pieces comes.1 in
        named pieces e distinct rows (text_of pieces (codes "program")) refl
        (faults_pass words (Some (map row pieces)) comes ∙ ap (is_given (codes "program")) rows ∙ given_end pieces)

    go : (o : Option (List Piece)) → loose_pieces_of words ≡ o → Comes words (option_and_then (added []) o) → Verdict words
    go None e comes = is_refused (faults_pass words None comes) (ap (option_and_then settings_in) e)
    go (Some pieces) e comes = apart_or_not pieces e (are_distinct (map label pieces)) refl (subst (Comes words) (added_all pieces) comes)
