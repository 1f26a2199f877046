-- A walk ends in each closed set that has its start. One lemma for each piece of the definition.
use Rattle.std.proofs.Common.{◌≡◌, ◌∷◌, ◌++◌, ℕ, zero, suc, Bool, true, false, cond, not, ◌&&◌, List, [], Ok, Err}
use Rattle.std.specs.List.{AllByRecursion}
use Rattle.path_lookup.specs.Finding.{Finding, Nothing, Directory, File, Link}
use Rattle.path_lookup.specs.Laws.{FindsIn, IsClosed, EndsIn, StaysBelow}
use Rattle.path_lookup.specs.Split.{Component, is_absolute, path_components, text_components}
use Rattle.path_lookup.specs.Walk.{WalkEnd, Finds, Onward, walk_of, walk_components, walk_within, climb, lack, follow, stand, by_finding, by_treatment, step, spent, is_last, follows_last, most_links, most_components}
use Rattle.path_lookup.specs.declared.ends.End.TheVariants as end
use Rattle.path_lookup.specs.declared.ends.WalkFault.TheVariants as fault
use Rattle.path_lookup.specs.declared.ends.WalkMode.{WalkMode}
use Rattle.path_lookup.specs.declared.walker.Treatment.{Treatment}
use Rattle.path_lookup.specs.declared.walker.Treatment.TheVariants as treatment

-- the directories on the way from the start are in the set
abbrev pub AreIn : (ℕ → Bool) → List ℕ → Type 0
AreIn inside = AllByRecursion (λ n. inside n ≡ true)

-- as a record, so that a lemma's arguments are found
record Ends (inside : ℕ → Bool) (walked : WalkEnd) : Type 0 where
  ends : EndsIn inside walked

-- a way to go on that ends in the set
abbrev GoesIn : (ℕ → Bool) → Onward → Type 0
GoesIn inside go = (links top : ℕ) (above : List ℕ) (rest : List Component) → inside top ≡ true → AreIn inside above → Ends inside (go links top above rest)

either : {inside : ℕ → Bool} (b : Bool) (p q : WalkEnd) → Ends inside p → Ends inside q → Ends inside (cond b p q)
either true p q hp hq = hp
either false p q hp hq = hq

module _ (inside : ℕ → Bool) (mode : WalkMode) (go : Onward) (goes : GoesIn inside go) where
  climb_ends : (links : ℕ) (above : List ℕ) (c : Component) (rest : List Component) → AreIn inside above → Ends inside (climb go links above c rest)
  climb_ends links [] c rest h = record { ends = tt }
  climb_ends links (parent ∷ above) c rest h = goes links parent above rest h.0 h.1

  follow_ends : (links top : ℕ) (above : List ℕ) (c : Component) (text : List ℕ) (rest : List Component) → inside top ≡ true → AreIn inside above
      → Ends inside (follow go links top above c text rest)
  follow_ends zero top above c text rest ht ha = record { ends = tt }
  follow_ends (suc links) top above c text rest ht ha =
      either (is_absolute text) (Err (fault.Outside c.index)) (go links top above (text_components c.index text ++ rest)) (record { ends = tt }) (goes links top above _ ht ha)

  stand_ends : (n : ℕ) (rest : List Component) → inside n ≡ true → Ends inside (stand n rest)
  stand_ends n rest h = either (is_last rest) (Ok (end.Found n)) (Err fault.NotDir) (record { ends = h }) (record { ends = tt })

  lack_ends : (top : ℕ) (c : Component) (rest : List Component) → inside top ≡ true → Ends inside (lack top c rest)
  lack_ends top c rest h = either (is_last rest && c.is_in_path) (Ok (end.Absent top c.from c.len)) (Err fault.NoEntry) (record { ends = h }) (record { ends = tt })

  finding_ends : (links top : ℕ) (above : List ℕ) (c : Component) (rest : List Component) (found : Finding) → inside top ≡ true → AreIn inside above
      → FindsIn inside found → Ends inside (by_finding go mode links top above c rest found)
  finding_ends links top above c rest Nothing ht ha h = lack_ends top c rest ht
  finding_ends links top above c rest (Directory n) ht ha h = goes links n (top ∷ above) rest h (ht, ha)
  finding_ends links top above c rest (File n) ht ha h = stand_ends n rest h
  finding_ends links top above c rest (Link n text) ht ha h =
      either (is_last rest && not (follows_last mode)) (stand n rest) (follow go links top above c text rest) (stand_ends n rest h) (follow_ends links top above c text rest ht ha)

  treatment_ends : (find : Finds) → IsClosed find inside → (links top : ℕ) (above : List ℕ) (c : Component) (rest : List Component) (treatment : Treatment)
      → inside top ≡ true → AreIn inside above
      → Ends inside (by_treatment find mode go links top above c rest treatment)
  treatment_ends find closed links top above c rest treatment.Refused ht ha = record { ends = tt }
  treatment_ends find closed links top above c rest treatment.Left ht ha = record { ends = ht }
  treatment_ends find closed links top above c rest treatment.Dropped ht ha = goes links top above rest ht ha
  treatment_ends find closed links top above c rest treatment.Climbed ht ha = climb_ends links above c rest ha
  treatment_ends find closed links top above c rest treatment.LookedUp ht ha =
      finding_ends links top above c rest (find top c.name) ht ha (closed.closed top c.name ht)

  step_ends : (find : Finds) → IsClosed find inside → (links top : ℕ) (above : List ℕ) (rest : List Component) → inside top ≡ true → AreIn inside above
      → Ends inside (step find mode go links top above rest)
  step_ends find closed links top above [] ht ha = record { ends = ht }
  step_ends find closed links top above (c ∷ rest) ht ha = treatment_ends find closed links top above c rest _ ht ha

spent_ends : (inside : ℕ → Bool) (top : ℕ) (rest : List Component) → inside top ≡ true → Ends inside (spent top rest)
spent_ends inside top [] h = record { ends = h }
spent_ends inside top (c ∷ rest) h = record { ends = tt }

within_ends : (find : Finds) (inside : ℕ → Bool) (mode : WalkMode) → IsClosed find inside → (left : ℕ) → GoesIn inside (walk_within find mode left)
unfolding walk_within
within_ends find inside mode closed zero links top above rest ht ha = spent_ends inside top rest ht
within_ends find inside mode closed (suc left) links top above rest ht ha =
    step_ends inside mode (walk_within find mode left) (within_ends find inside mode closed left) find closed links top above rest ht ha

path_ends : (find : Finds) (inside : ℕ → Bool) (mode : WalkMode) (start : ℕ) (path : List ℕ) → IsClosed find inside → inside start ≡ true
    → Ends inside (walk_of find mode start path)
path_ends find inside mode start [] closed h = record { ends = tt }
path_ends find inside mode start (b ∷ rest) closed h =
    either (is_absolute (b ∷ rest)) (Err (fault.Outside 0)) (walk_components find mode start (path_components (b ∷ rest))) (record { ends = tt })
    (within_ends find inside mode closed most_components most_links start [] _ h tt)

pub stays_below : (find : Finds) (mode : WalkMode) (start : ℕ) (path : List ℕ) → StaysBelow find start (walk_of find mode start path)
stays_below find mode start path inside closed h = (path_ends find inside mode start path closed h).ends
