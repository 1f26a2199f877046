-- What a walk is at its start, and at a `.`.
use Rattle.std.proofs.Common.{◌≡◌, ◌∷◌, ◌++◌, ◌+◌, ℕ, Bool, true, false, cond, List, [], length, ◌==◌, Err, refl, ap}
use Rattle.path_lookup.specs.Laws.{ClimbsOutside, ClimbsOutsideAtOnce, SlashIsOutside, EmptyIsNoEntry, DotIsNothing}
use Rattle.path_lookup.specs.Split.{Component, Piece, names_from, with_name, counted_from, slash, dot}
use Rattle.path_lookup.specs.Walk.{WalkEnd, Finds, walk_within, step, is_last, most_links}
use Rattle.path_lookup.specs.declared.ends.WalkFault.TheVariants as fault
use Rattle.path_lookup.specs.declared.ends.WalkMode.{WalkMode}
use Rattle.path_lookup.specs.declared.ends.WalkMode.TheVariants as mode

impossible : (w v : WalkEnd) → true ≡ false → w ≡ v
impossible w v h = cc

pub climbs_outside : ClimbsOutside
unfolding walk_within
climbs_outside find mode.Follow start h = refl
climbs_outside find mode.NoFollow start h = refl
climbs_outside find mode.Parent start h = impossible _ _ h

pub slash_is_outside : SlashIsOutside
slash_is_outside find mode start rest = refl

pub empty_is_no_entry : EmptyIsNoEntry
empty_is_no_entry find mode start = refl

-- as is_last, of pieces
abbrev pub no_names : List Piece → Bool
no_names [] = true
no_names (p ∷ ps) = false

some_with : (from : ℕ) (begun : List ℕ) (others : List Piece) → no_names others ≡ false → no_names (with_name from begun others) ≡ false
some_with from [] others h = h
some_with from (b ∷ bs) others h = refl

some_either : (b : Bool) (ps qs : List Piece) → no_names ps ≡ false → no_names qs ≡ false → no_names (cond b ps qs) ≡ false
some_either true ps qs hp hq = hp
some_either false ps qs hp hq = hq

-- some name is there in each text, also in what stands behind a slash
pub some_name : (from : ℕ) (begun rest : List ℕ) → no_names (names_from from begun rest) ≡ false
some_name from [] [] = refl
some_name from (b ∷ bs) [] = refl
some_name from begun (b ∷ rest) =
    some_either (b == slash) _ _ (some_with from begun _ (some_name (from + length begun + 1) [] rest)) (some_name from (begun ++ b ∷ []) rest)

-- so the component before them isn't the last
pub not_last : (index : ℕ) (ps : List Piece) → no_names ps ≡ false → is_last (counted_from index ps) ≡ false
not_last index [] h = cc
not_last index (p ∷ ps) h = refl

dotted : (find : Finds) (mode : WalkMode) (start : ℕ) (rest : List Component) → is_last rest ≡ false
    → step find mode (walk_within find mode 1023) most_links start [] (record { name = dot ∷ dot ∷ []; index = 0; is_in_path = true; from = 0; len = 2 } ∷ rest) ≡ Err (fault.Outside 0)
dotted find mode start [] h = cc
dotted find mode start (c ∷ rest) h = refl

pub climbs_outside_at_once : ClimbsOutsideAtOnce
unfolding walk_within
climbs_outside_at_once find mode start rest =
    dotted find mode start (counted_from 1 (names_from 3 [] rest)) (not_last 1 (names_from 3 [] rest) (some_name 3 [] rest))

pub dot_is_nothing : DotIsNothing
unfolding walk_within
dot_is_nothing find mode left links top above c next rest h =
    ap (λ name. step find mode (walk_within find mode left) links top above (record { name = name; index = c.index; is_in_path = c.is_in_path; from = c.from; len = c.len } ∷ next ∷ rest)) h
