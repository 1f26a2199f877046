-- The component at which a walk leads outside is one of its path's: its index is at most the number of the path's bytes.
use Rattle.std.proofs.Common.{◌∷◌, ◌++◌, ◌+◌, ◌≤◌, ◌&&◌, ℕ, zero, suc, Bool, true, false, cond, not, List, [], length, map, eqb, Ok, Err, arith}
use Rattle.std.specs.Prelude.{⊤}
use Rattle.std.specs.List.{AllByRecursion}
use Rattle.path_lookup.specs.Finding.{Finding, Nothing, Directory, File, Link}
use Rattle.path_lookup.specs.Split.{Piece, Component, slash, with_name, last_name, names_from, names_of, counted_from, given_at, path_components, text_components, is_absolute}
use Rattle.path_lookup.specs.Walk.{WalkEnd, Finds, Onward, walk_of, walk_components, walk_within, climb, lack, follow, stand, by_finding, by_treatment, treatment_of, step, spent, is_last, follows_last, most_links, most_components}
use Rattle.path_lookup.specs.declared.ends.End.TheVariants as end
use Rattle.path_lookup.specs.declared.ends.WalkFault.TheVariants as fault
use Rattle.path_lookup.specs.declared.ends.WalkMode.{WalkMode}
use Rattle.path_lookup.specs.declared.walker.Treatment.{Treatment}
use Rattle.path_lookup.specs.declared.walker.Treatment.TheVariants as treatment

-- where the walk leads outside, its component has at most this index
abbrev pub LeavesBy : ℕ → WalkEnd → Type 0
LeavesBy n (Ok end) = ⊤
LeavesBy n (Err (fault.Outside c)) = c ≤ n
LeavesBy n (Err _) = ⊤

record Leaves (n : ℕ) (walked : WalkEnd) : Type 0 where
  by : LeavesBy n walked

-- ---- the components of a path

abbrev AreCounted : ℕ → List Component → Type 0
AreCounted n cs = AllByRecursion (λ (c : Component). c.index ≤ n) cs

with_few : (from : ℕ) (begun : List ℕ) (others : List Piece) → length (with_name from begun others) ≤ length others + 1
with_few from [] others = omega arith
with_few from (b ∷ bs) others = omega arith

last_few : (from : ℕ) (begun : List ℕ) → length (last_name from begun) ≤ 1
last_few from [] = omega arith
last_few from (b ∷ bs) = omega arith

either_few : (b : Bool) (n : ℕ) (ps qs : List Piece) → length ps ≤ n → length qs ≤ n → length (cond b ps qs) ≤ n
either_few true n ps qs hp hq = hp
either_few false n ps qs hp hq = hq

-- a text has at most one name more than it has bytes
names_few : (from : ℕ) (begun rest : List ℕ) → length (names_from from begun rest) ≤ length rest + 1
names_few from begun [] = last_few from begun
names_few from begun (b ∷ rest) =
    either_few (eqb b slash) (length (b ∷ rest) + 1) (with_name from begun (names_from (from + length begun + 1) [] rest)) (names_from from (begun ++ b ∷ []) rest)
    (omega (arith, with_few from begun (names_from (from + length begun + 1) [] rest), names_few (from + length begun + 1) [] rest))
    (omega (arith, names_few from (begun ++ b ∷ []) rest))

counted : (n index : ℕ) (ps : List Piece) → index + length ps ≤ n + 1 → AreCounted n (counted_from index ps)
counted n index [] few = tt
counted n index (p ∷ ps) few = (omega arith, counted n (index + 1) ps (omega arith))

path_counted : (path : List ℕ) → AreCounted (length path) (path_components path)
path_counted [] = tt
path_counted (b ∷ rest) = counted (length (b ∷ rest)) 0 (names_from 0 [] (b ∷ rest)) (omega (arith, names_few 0 [] (b ∷ rest)))

given_counted : (n index : ℕ) (ps : List Piece) (rest : List Component) → index ≤ n → AreCounted n rest → AreCounted n (map (given_at index) ps ++ rest)
given_counted n index [] rest few more = more
given_counted n index (p ∷ ps) rest few more = (few, given_counted n index ps rest few more)

-- ---- the walk, one lemma for each piece

abbrev GoesBy : ℕ → Onward → Type 0
GoesBy n go = (links top : ℕ) (above : List ℕ) (rest : List Component) → AreCounted n rest → Leaves n (go links top above rest)

either : (n : ℕ) (b : Bool) (p q : WalkEnd) → Leaves n p → Leaves n q → Leaves n (cond b p q)
either n true p q hp hq = hp
either n false p q hp hq = hq

module _ (n : ℕ) (mode : WalkMode) (go : Onward) (goes : GoesBy n go) where
  climb_leaves : (links : ℕ) (above : List ℕ) (c : Component) (rest : List Component) → c.index ≤ n → AreCounted n rest → Leaves n (climb go links above c rest)
  climb_leaves links [] c rest few more = record { by = few }
  climb_leaves links (parent ∷ above) c rest few more = goes links parent above rest more

  follow_leaves : (links top : ℕ) (above : List ℕ) (c : Component) (text : List ℕ) (rest : List Component) → c.index ≤ n → AreCounted n rest
      → Leaves n (follow go links top above c text rest)
  follow_leaves zero top above c text rest few more = record { by = tt }
  follow_leaves (suc links) top above c text rest few more =
      either n (is_absolute text) (Err (fault.Outside c.index)) (go links top above (text_components c.index text ++ rest)) (record { by = few })
      (goes links top above (text_components c.index text ++ rest) (given_counted n c.index (names_of text) rest few more))

  stand_leaves : (node : ℕ) (rest : List Component) → Leaves n (stand node rest)
  stand_leaves node rest = either n (is_last rest) (Ok (end.Found node)) (Err fault.NotDir) (record { by = tt }) (record { by = tt })

  lack_leaves : (top : ℕ) (c : Component) (rest : List Component) → Leaves n (lack top c rest)
  lack_leaves top c rest =
      either n (is_last rest && c.is_in_path) (Ok (end.Absent top c.from c.len)) (Err fault.NoEntry) (record { by = tt }) (record { by = tt })

  finding_leaves : (links top : ℕ) (above : List ℕ) (c : Component) (rest : List Component) (found : Finding) → c.index ≤ n → AreCounted n rest
      → Leaves n (by_finding go mode links top above c rest found)
  finding_leaves links top above c rest Nothing few more = lack_leaves top c rest
  finding_leaves links top above c rest (Directory node) few more = goes links node (top ∷ above) rest more
  finding_leaves links top above c rest (File node) few more = stand_leaves node rest
  finding_leaves links top above c rest (Link node text) few more =
      either n (is_last rest && not (follows_last mode)) (stand node rest) (follow go links top above c text rest) (stand_leaves node rest)
      (follow_leaves links top above c text rest few more)

  treatment_leaves : (find : Finds) (links top : ℕ) (above : List ℕ) (c : Component) (rest : List Component) (t : Treatment) → c.index ≤ n → AreCounted n rest
      → Leaves n (by_treatment find mode go links top above c rest t)
  treatment_leaves find links top above c rest treatment.Refused few more = record { by = tt }
  treatment_leaves find links top above c rest treatment.Left few more = record { by = tt }
  treatment_leaves find links top above c rest treatment.Dropped few more = goes links top above rest more
  treatment_leaves find links top above c rest treatment.Climbed few more = climb_leaves links above c rest few more
  treatment_leaves find links top above c rest treatment.LookedUp few more = finding_leaves links top above c rest (find top c.name) few more

  step_leaves : (find : Finds) (links top : ℕ) (above : List ℕ) (rest : List Component) → AreCounted n rest → Leaves n (step find mode go links top above rest)
  step_leaves find links top above [] counted = record { by = tt }
  step_leaves find links top above (c ∷ rest) counted =
      treatment_leaves find links top above c rest (treatment_of mode c.name (is_last rest)) counted.0 counted.1

spent_leaves : (n top : ℕ) (rest : List Component) → Leaves n (spent top rest)
spent_leaves n top [] = record { by = tt }
spent_leaves n top (c ∷ rest) = record { by = tt }

within_leaves : (n : ℕ) (find : Finds) (mode : WalkMode) (left : ℕ) → GoesBy n (walk_within find mode left)
unfolding walk_within
within_leaves n find mode zero links top above rest counted = spent_leaves n top rest
within_leaves n find mode (suc left) links top above rest counted =
    step_leaves n mode (walk_within find mode left) (within_leaves n find mode left) find links top above rest counted

path_leaves : (find : Finds) (mode : WalkMode) (start : ℕ) (path : List ℕ) → Leaves (length path) (walk_of find mode start path)
path_leaves find mode start [] = record { by = tt }
path_leaves find mode start (b ∷ rest) =
    either (length (b ∷ rest)) (is_absolute (b ∷ rest)) (Err (fault.Outside 0)) (walk_components find mode start (path_components (b ∷ rest)))
    (record { by = omega arith })
    (within_leaves (length (b ∷ rest)) find mode most_components most_links start [] (path_components (b ∷ rest)) (path_counted (b ∷ rest)))

pub leaves_by_component : (find : Finds) (mode : WalkMode) (start : ℕ) (path : List ℕ) → LeavesBy (length path) (walk_of find mode start path)
leaves_by_component find mode start path = (path_leaves find mode start path).by
