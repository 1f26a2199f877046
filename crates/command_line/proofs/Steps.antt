-- One word of a parse, by what it is.
use Rattle.std.proofs.Common.{◌≡◌, ◌∙◌, ℕ, Bool, true, false, cond, not, ◌&&◌, List, [], ◌∷◌, Option, Some, None, codes, refl, ap}
use Rattle.std.specs.Str.{bytes_eq, chars}
use Rattle.clap.specs.Faults.{flags_fault, settle_fault, turn_fault}
use Rattle.clap.specs.Kinds.{Kinds, or_else}
use Rattle.clap.specs.Lexer.{long_of, short_of}
use Rattle.clap.specs.Simple.{Shape}
use Rattle.clap.specs.Walk.{Held, Row, Waiting, Walk, is_pending, arg_by_long, arg_by_id, arg_by_index, arg_by_short, has_row, idle, option as option_waits, positional, settled, used, walked}
use Rattle.command_line.specs.Pieces.{is_separator}
use Rattle.command_line.specs.Values.{Word}
use Rattle.clap.specs.declared.error.kind.ErrorKind.TheVariants.{ArgumentConflict}
use Rattle.command_line.proofs.Rules.{history_rule, option_rule, program_rule}

-- nothing is wrong
abbrev pub passes : Kinds → Bool
passes [] = true
passes (kind ∷ kinds) = false

pub passes-or_else : (a b : Kinds) → passes (or_else a b) ≡ (passes a && passes b)
passes-or_else [] b = refl
passes-or_else (kind ∷ kinds) b = refl

abbrev pub idle_at : Held → ℕ → Walk
idle_at h position = record { held = h; waiting = idle; position = position; is_trailing = false; stopped = None }

abbrev pub waits_at : Word → Held → ℕ → Walk
waits_at name h position = record { held = h; waiting = option_waits name; position = position; is_trailing = false; stopped = None }

abbrev pub trails_at : Waiting → Held → ℕ → Walk
trails_at waiting h position = record { held = h; waiting = waiting; position = position; is_trailing = true; stopped = None }

abbrev pub held : List Row → Option (Word × List Word) → Held
held rows pending = record { rows = rows; pending = pending; skip = 0 }

passes-end : (a : Kinds) → passes (or_else a []) ≡ passes a
passes-end [] = refl
passes-end (kind ∷ kinds) = refl

-- a command with these rules, in which nothing is replaced
module _ (base : Shape) where
  abbrev pub once : Shape
  once = record base { args_override_self = false; is_leaf = true }

  abbrev pub settling : Held → Kinds
  settling h = settle_fault base.rules false h

  abbrev pub rows_of_held : Held → List Row
  rows_of_held h = (settled base.rules h).rows

  -- the turn passes or not, and what is next
  pub record Turns (w : Walk) (word : Word) (does : Bool) (after : Walk) : Type 0 where
    pub test : passes (turn_fault once [] w word) ≡ does
    pub next : walked base.rules [] w word ≡ after

  set_once : (b : Bool) → passes (or_else (cond (b && true) (ArgumentConflict ∷ []) []) []) ≡ not b
  set_once true = refl
  set_once false = refl

  abbrev pub Fails : Walk → Word → Type 0
  Fails w word = passes (turn_fault once [] w word) ≡ false

  fails_after : (a b : Kinds) → passes b ≡ false → passes (or_else a b) ≡ false
  fails_after [] b e = e
  fails_after (kind ∷ kinds) b e = refl

  -- an option with its value
  pub sets : (h : Held) (position : ℕ) (word name value : Word) → is_separator word ≡ false → long_of word ≡ Some (name, Some value)
      → arg_by_long base.rules name ≡ Some (option_rule name)
      → Turns (idle_at h position) word (passes (settling h) && not (has_row name (rows_of_held h)))
      (idle_at (record { rows = used (option_rule name) (value ∷ []) (rows_of_held h); pending = None; skip = h.skip }) position)
  unfolding walked
  sets h position word name value separator long rule = record {
    test = rw (separator, long, rule) (passes-end _ ∙ passes-or_else _ _ ∙ ap (λ b. passes (settling h) && b) (set_once (has_row name (rows_of_held h))));
    next = rw (separator, long, rule) refl;
  }

  -- an option whose value is to come
  pub awaits : (h : Held) (position : ℕ) (word name : Word) → is_separator word ≡ false → long_of word ≡ Some (name, None)
      → arg_by_long base.rules name ≡ Some (option_rule name)
      → Turns (idle_at h position) word (passes (settling h))
      (waits_at name (record { rows = rows_of_held h; pending = Some (name, []); skip = h.skip }) position)
  unfolding walked
  awaits h position word name separator long rule = record {
    test = rw (separator, long, rule) (passes-end _);
    next = rw (separator, long, rule) refl;
  }

  -- the flag
  pub flags : (h : Held) (position : ℕ) (word : Word) → is_separator word ≡ false → long_of word ≡ Some (codes "history", None)
      → arg_by_long base.rules (codes "history") ≡ Some history_rule
      → Turns (idle_at h position) word (passes (settling h) && not (has_row (codes "history") (rows_of_held h)))
      (idle_at (record { rows = used history_rule [] (rows_of_held h); pending = None; skip = h.skip }) position)
  unfolding walked
  flags h position word separator long rule = record {
    test = rw (separator, long, rule) (passes-end _ ∙ passes-or_else _ _ ∙ ap (λ b. passes (settling h) && b) (set_once (has_row (codes "history") (rows_of_held h))));
    next = rw (separator, long, rule) refl;
  }

  -- a word that is no flag goes to the program's name, where there is none yet
  no_several : (b : Bool) → (b && false) ≡ false
  no_several true = refl
  no_several false = refl

  pub names : (h : Held) (word : Word) → is_separator word ≡ false → long_of word ≡ None → short_of word ≡ None
      → arg_by_index base.rules 1 ≡ Some program_rule
      → Turns (idle_at h 1) word (passes (settling h)) (idle_at (record { rows = rows_of_held h; pending = Some (codes "program", word ∷ []); skip = h.skip }) 2)
  unfolding walked
  names h word separator long short rule = record {
    test = rw (separator, long, short, rule, no_several (is_pending program_rule h.pending)) refl;
    next = rw (separator, long, short, rule, no_several (is_pending program_rule h.pending)) refl;
  }

  pub strays : (h : Held) (word : Word) → is_separator word ≡ false → long_of word ≡ None → short_of word ≡ None
      → arg_by_index base.rules 2 ≡ None → Fails (idle_at h 2) word
  strays h word separator long short rule = rw (separator, long, short, rule) refl

  -- `--`
  pub separates : (h : Held) (position : ℕ) (word : Word) → is_separator word ≡ true → Turns (idle_at h position) word true (trails_at idle h position)
  unfolding walked
  separates h position word separator = record { test = rw separator refl; next = rw separator refl }

  -- words that are refused, whether or not an option waits for its value
  pub fails_unknown : (waiting : Waiting) (h : Held) (position : ℕ) (word name : Word) (value : Option Word) → is_separator word ≡ false → long_of word ≡ Some (name, value)
      → arg_by_long base.rules name ≡ None → Fails (record { held = h; waiting = waiting; position = position; is_trailing = false; stopped = None }) word
  fails_unknown idle h position word name value separator long rule = rw (separator, long, rule) refl
  fails_unknown (option_waits id) h position word name value separator long rule = rw (separator, long, rule) refl
  fails_unknown positional h position word name value separator long rule = rw (separator, long, rule) refl

  pub fails_flag : (waiting : Waiting) (h : Held) (position : ℕ) (word value : Word) → is_separator word ≡ false → long_of word ≡ Some (codes "history", Some value)
      → arg_by_long base.rules (codes "history") ≡ Some history_rule → Fails (record { held = h; waiting = waiting; position = position; is_trailing = false; stopped = None }) word
  fails_flag idle h position word value separator long rule = rw (separator, long, rule) refl
  fails_flag (option_waits id) h position word value separator long rule = rw (separator, long, rule) refl
  fails_flag positional h position word value separator long rule = rw (separator, long, rule) refl

  pub fails_short : (waiting : Waiting) (h : Held) (position : ℕ) (word : Word) (first : ℕ) (rest : Word) (x : ℕ) (xs : List ℕ) → is_separator word ≡ false → long_of word ≡ None
      → short_of word ≡ Some (first ∷ rest) → chars (first ∷ rest) ≡ x ∷ xs → arg_by_short base.rules x ≡ None
      → Fails (record { held = record h { skip = 0 }; waiting = waiting; position = position; is_trailing = false; stopped = None }) word
  unfolding flags_fault
  fails_short idle h position word first rest x xs separator long short text rule = rw (separator, long, short, text, rule) refl
  fails_short (option_waits id) h position word first rest x xs separator long short text rule = rw (separator, long, short, text, rule) refl
  fails_short positional h position word first rest x xs separator long short text rule = rw (separator, long, short, text, rule) refl

  -- an option that waits for its value
  module _ (name : Word) (same : bytes_eq name name ≡ true) (named : arg_by_id base.rules name ≡ Some (option_rule name)) where
    -- another option or the flag can't settle it
    pub lacks_option : (rows : List Row) (position : ℕ) (word other : Word) (value : Option Word) → is_separator word ≡ false → long_of word ≡ Some (other, value)
        → arg_by_long base.rules other ≡ Some (option_rule other) → Fails (waits_at name (held rows (Some (name, []))) position) word
    lacks_option rows position word other (Some value) separator long rule = rw (separator, long, rule, named) refl
    lacks_option rows position word other None separator long rule = rw (separator, long, rule, named) refl

    pub lacks_flag : (rows : List Row) (position : ℕ) (word : Word) → is_separator word ≡ false → long_of word ≡ Some (codes "history", None)
        → arg_by_long base.rules (codes "history") ≡ Some history_rule → Fails (waits_at name (held rows (Some (name, []))) position) word
    lacks_flag rows position word separator long rule = rw (separator, long, rule, named) refl

    pub gets : (rows : List Row) (position : ℕ) (word : Word) → is_separator word ≡ false → long_of word ≡ None → short_of word ≡ None
        → Turns (waits_at name (held rows (Some (name, []))) position) word true (idle_at (held rows (Some (name, word ∷ []))) position)
    unfolding walked
    gets rows position word separator long short = record {
      test = rw (separator, long, short) refl;
      next = rw (separator, long, short, named, same) refl;
    }

    pub separates_waiting : (rows : List Row) (position : ℕ) (word : Word) → is_separator word ≡ true
        → Turns (waits_at name (held rows (Some (name, []))) position) word true (trails_at (option_waits name) (held rows (Some (name, []))) position)
    unfolding walked
    separates_waiting rows position word separator = record { test = rw separator refl; next = rw separator refl }

    -- it is refused where it is settled
    pub unsettled : (rows : List Row) → passes (settling (held rows (Some (name, [])))) ≡ false
    unsettled rows = rw named refl

    -- with a value it is settled, where it has no row
    pub settles : (rows : List Row) (value : Word) → passes (settling (held rows (Some (name, value ∷ [])))) ≡ not (has_row name rows)
    settles rows value = rw named (set_once (has_row name rows))

    pub settled_rows : (rows : List Row) (value : Word) → rows_of_held (held rows (Some (name, value ∷ []))) ≡ used (option_rule name) (value ∷ []) rows
    settled_rows rows value = rw named refl

  pub settles_name : (rows : List Row) (value : Word) → arg_by_id base.rules (codes "program") ≡ Some program_rule
      → passes (settling (held rows (Some (codes "program", value ∷ [])))) ≡ not (has_row (codes "program") rows)
  settles_name rows value named = rw named (set_once (has_row (codes "program") rows))

  pub settled_name_rows : (rows : List Row) (value : Word) → arg_by_id base.rules (codes "program") ≡ Some program_rule
      → rows_of_held (held rows (Some (codes "program", value ∷ []))) ≡ used program_rule (value ∷ []) rows
  settled_name_rows rows value named = rw named refl

  -- behind `--` each word is a name
  pub names_behind : (waiting : Waiting) (h : Held) (word : Word) → arg_by_index base.rules 1 ≡ Some program_rule
      → Turns (trails_at waiting h 1) word (passes (settling h)) (trails_at idle (record { rows = rows_of_held h; pending = Some (codes "program", word ∷ []); skip = h.skip }) 2)
  unfolding walked
  names_behind waiting h word rule = record {
    test = rw (rule, no_several (is_pending program_rule h.pending)) refl;
    next = rw (rule, no_several (is_pending program_rule h.pending)) refl;
  }

  pub strays_behind : (waiting : Waiting) (h : Held) (word : Word) → arg_by_index base.rules 2 ≡ None → Fails (trails_at waiting h 2) word
  strays_behind waiting h word rule = rw rule refl
