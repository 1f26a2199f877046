-- The place that a walk's end gives is one of a name in the path.
use Rattle.std.proofs.Common.{◌≡◌, ◌≢◌, ◌∷◌, ◌++◌, ◌+◌, ◌-◌, ◌≤◌, ◌&&◌, ℕ, zero, suc, Bool, true, false, cond, not, List, [], length, take, drop, map, eqb, ltb, Ok, Err, refl, ap, sym, ◌∙◌, subst, arith, length-append, append_assoc, inl, inr}
use Rattle.std.specs.List.{AllByRecursion, slice_range}
use Rattle.std.proofs.lemmas.Bool.{ltb-false, false≢true}
use Rattle.std.proofs.lemmas.Bool.Decides.{eqb_tells}
use Rattle.std.proofs.lemmas.List.{take_at, drop_at}
use Rattle.path_lookup.specs.Finding.{Finding, Nothing, Directory, File, Link}
use Rattle.path_lookup.specs.Laws.{IsPlace, EndsAtPlace}
use Rattle.path_lookup.specs.Split.{Piece, Component, slash, piece, added_dot, with_name, last_name, names_from, names_of, counted_from, given_at, path_components, text_components, is_absolute}
use Rattle.path_lookup.specs.Walk.{WalkEnd, Finds, Onward, walk_of, walk_components, walk_within, climb, lack, follow, stand, by_finding, by_treatment, treatment_of, step, spent, is_last, follows_last, stops_before_last, longest_name, most_links, most_components}
use Rattle.path_lookup.specs.declared.ends.End.TheVariants as end
use Rattle.path_lookup.specs.declared.ends.WalkFault.TheVariants as fault
use Rattle.path_lookup.specs.declared.ends.WalkMode.{WalkMode}
use Rattle.path_lookup.specs.declared.walker.Treatment.{Treatment}
use Rattle.path_lookup.specs.declared.walker.Treatment.TheVariants as treatment

-- ---- the split

-- no byte is a slash
abbrev IsPlain : List ℕ → Type 0
IsPlain bs = AllByRecursion (λ b. b ≢ slash) bs

plain_more : (bs : List ℕ) (b : ℕ) → IsPlain bs → b ≢ slash → IsPlain (bs ++ b ∷ [])
plain_more [] b h n = (n, tt)
plain_more (c ∷ bs) b h n = (h.0, plain_more bs b h.1 n)

-- a place and a name in a path: the place lies in the path, has no more bytes than the name, and none of them is a slash
record IsPut (path : List ℕ) (name : List ℕ) (from len : ℕ) : Type 0 where
  within : from + len ≤ length path
  few : len ≤ length name
  plain : IsPlain (slice_range path from (from + len))

abbrev PieceIsPut : List ℕ → Piece → Type 0
PieceIsPut path p = IsPut path p.name p.from p.len

cut : (path before begun rest : List ℕ) (from : ℕ) → path ≡ before ++ (begun ++ rest) → from ≡ length before → slice_range path from (from + length begun) ≡ begun
cut path before begun rest from e f =
    ap (λ n. take n (drop from path)) (let k : from + length begun - from ≡ length begun = omega arith in k)
    ∙ ap (λ p. take (length begun) (drop from p)) e ∙ ap (take (length begun)) (drop_at before (begun ++ rest) from (sym f)) ∙ take_at begun rest (length begun) refl

put_piece : (path before begun rest : List ℕ) (from : ℕ) → path ≡ before ++ (begun ++ rest) → from ≡ length before → IsPlain begun → PieceIsPut path (piece from begun)
put_piece path before begun rest from e f h = record {
  within = omega (arith, ap length e, length-append before (begun ++ rest), length-append begun rest);
  few = omega arith;
  plain = subst IsPlain (sym (cut path before begun rest from e f)) h;
}

put_dot : (path before rest : List ℕ) (from : ℕ) → path ≡ before ++ rest → from ≡ length before → PieceIsPut path (added_dot from)
put_dot path before rest from e f = record {
  within = omega (arith, ap length e, length-append before rest);
  few = omega arith;
  plain = subst IsPlain (sym (cut path before [] rest from e f)) tt;
}

abbrev ArePut : List ℕ → List Piece → Type 0
ArePut path ps = AllByRecursion (PieceIsPut path) ps

put_last : (path before begun : List ℕ) (from : ℕ) → path ≡ before ++ (begun ++ []) → from ≡ length before → IsPlain begun → ArePut path (last_name from begun)
put_last path before [] from e f h = (put_dot path before [] from e f, tt)
put_last path before (b ∷ bs) from e f h = (put_piece path before (b ∷ bs) [] from e f h, tt)

put_with : (path before begun rest : List ℕ) (from : ℕ) (others : List Piece) → path ≡ before ++ (begun ++ rest) → from ≡ length before → IsPlain begun
    → ArePut path others → ArePut path (with_name from begun others)
put_with path before [] rest from others e f h more = more
put_with path before (b ∷ bs) rest from others e f h more = (put_piece path before (b ∷ bs) rest from e f h, more)

by_slash : (path : List ℕ) (t : Bool) (ps qs : List Piece) → ArePut path ps → (t ≡ false → ArePut path qs) → ArePut path (cond t ps qs)
by_slash path true ps qs hp hq = hp
by_slash path false ps qs hp hq = hq refl

not_slash : (b : ℕ) → eqb b slash ≡ false → b ≢ slash
not_slash b h = elim (eqb_tells b slash) as (λ w. b ≢ slash) [ inl w ↦ absurd (false≢true (sym h ∙ w.0)) | inr w ↦ w.1 ]

names_put : (path before begun rest : List ℕ) (from : ℕ) → path ≡ before ++ (begun ++ rest) → from ≡ length before → IsPlain begun
    → ArePut path (names_from from begun rest)
names_put path before begun [] from e f h = put_last path before begun from e f h
names_put path before begun (b ∷ rest) from e f h =
    by_slash path (eqb b slash) (with_name from begun (names_from (from + length begun + 1) [] rest)) (names_from from (begun ++ b ∷ []) rest)
    (put_with path before begun (b ∷ rest) from (names_from (from + length begun + 1) [] rest) e f h
    (names_put path (before ++ (begun ++ b ∷ [])) [] rest (from + length begun + 1)
    (e ∙ ap (λ bs. before ++ bs) (sym (append_assoc begun (b ∷ []) rest)) ∙ sym (append_assoc before (begun ++ b ∷ []) rest))
    (omega (arith, length-append before (begun ++ b ∷ []), length-append begun (b ∷ [])))
    tt))
    (λ other. names_put path before (begun ++ b ∷ []) rest from (e ∙ ap (λ bs. before ++ bs) (sym (append_assoc begun (b ∷ []) rest))) f (plain_more begun b h (not_slash b other)))

-- ---- components

abbrev IsPlaced : List ℕ → Component → Type 0
IsPlaced path c = IsPut path c.name c.from c.len

-- the last component is placed, if there is one
abbrev LastIsPlaced : List ℕ → List Component → Type 0
LastIsPlaced path [] = Unit {0}
LastIsPlaced path (c ∷ []) = IsPlaced path c
LastIsPlaced path (c ∷ d ∷ rest) = LastIsPlaced path (d ∷ rest)

-- each component that stands in the path itself is placed, and the last one where the mode stops before it
record ArePlaced (path : List ℕ) (mode : WalkMode) (cs : List Component) : Type 0 where
  in_path : AllByRecursion (λ c. c.is_in_path ≡ true → IsPlaced path c) cs
  last : stops_before_last mode ≡ true → LastIsPlaced path cs

counted_placed : (path : List ℕ) (index : ℕ) (ps : List Piece) → ArePut path ps → AllByRecursion (λ c. c.is_in_path ≡ true → IsPlaced path c) (counted_from index ps)
counted_placed path index [] h = tt
counted_placed path index (p ∷ ps) h = ((λ s. h.0), counted_placed path (index + 1) ps h.1)

last_counted : (path : List ℕ) (index : ℕ) (ps : List Piece) → ArePut path ps → LastIsPlaced path (counted_from index ps)
last_counted path index [] h = tt
last_counted path index (p ∷ []) h = h.0
last_counted path index (p ∷ q ∷ ps) h = last_counted path (index + 1) (q ∷ ps) h.1

names_of_put : (path : List ℕ) → ArePut path (names_of path)
names_of_put [] = tt
names_of_put (b ∷ rest) = names_put (b ∷ rest) [] [] (b ∷ rest) 0 refl refl tt

path_placed : (path : List ℕ) (mode : WalkMode) → ArePlaced path mode (path_components path)
path_placed path mode = record {
  in_path = counted_placed path 0 (names_of path) (names_of_put path);
  last = λ s. last_counted path 0 (names_of path) (names_of_put path);
}

-- those of a symlink's text don't stand in the path
given_before : (path : List ℕ) (index : ℕ) (ps : List Piece) (rest : List Component) → AllByRecursion (λ c. c.is_in_path ≡ true → IsPlaced path c) rest
    → AllByRecursion (λ c. c.is_in_path ≡ true → IsPlaced path c) (map (given_at index) ps ++ rest)
given_before path index [] rest h = h
given_before path index (p ∷ ps) rest h = ((λ s. absurd (false≢true s)), given_before path index ps rest h)

last_of_more : (path : List ℕ) (c : Component) (rest : List Component) → is_last rest ≡ false → LastIsPlaced path rest → LastIsPlaced path (c ∷ rest)
last_of_more path c [] n h = absurd (false≢true (sym n))
last_of_more path c (d ∷ rest) n h = h

some_behind : (cs rest : List Component) → is_last rest ≡ false → is_last (cs ++ rest) ≡ false
some_behind [] rest n = n
some_behind (c ∷ cs) rest n = refl

last_before : (path : List ℕ) (cs rest : List Component) → is_last rest ≡ false → LastIsPlaced path rest → LastIsPlaced path (cs ++ rest)
last_before path [] rest n h = h
last_before path (c ∷ cs) rest n h = last_of_more path c (cs ++ rest) (some_behind cs rest n) (last_before path cs rest n h)

last_of_rest : (path : List ℕ) (c : Component) (rest : List Component) → LastIsPlaced path (c ∷ rest) → LastIsPlaced path rest
last_of_rest path c [] h = tt
last_of_rest path c (d ∷ rest) h = h

last_itself : (path : List ℕ) (c : Component) (rest : List Component) → is_last rest ≡ true → LastIsPlaced path (c ∷ rest) → IsPlaced path c
last_itself path c [] l h = h
last_itself path c (d ∷ rest) l h = absurd (false≢true l)

-- ---- the walk, one lemma for each piece

record Ends (path : List ℕ) (walked : WalkEnd) : Type 0 where
  ends : EndsAtPlace path walked

abbrev GoesPlaced : List ℕ → WalkMode → Onward → Type 0
GoesPlaced path mode go = (links top : ℕ) (above : List ℕ) (rest : List Component) → ArePlaced path mode rest → Ends path (go links top above rest)

either : (path : List ℕ) (b : Bool) (p q : WalkEnd) → (b ≡ true → Ends path p) → (b ≡ false → Ends path q) → Ends path (cond b p q)
either path true p q hp hq = hp refl
either path false p q hp hq = hq refl

first_of : (a b : Bool) → (a && b) ≡ true → a ≡ true
first_of true b h = refl
first_of false b h = h

second_of : (a b : Bool) → (a && b) ≡ true → b ≡ true
second_of true b h = h
second_of false b h = absurd (false≢true h)

-- which tests a treatment comes from
abbrev of_tests : Bool → Bool → Bool → Bool → Treatment
of_tests long left dropped climbed = cond long treatment.Refused (cond left treatment.Left (cond dropped treatment.Dropped (cond climbed treatment.Climbed treatment.LookedUp)))

left_tests : (long left dropped climbed : Bool) → of_tests long left dropped climbed ≡ treatment.Left → (long ≡ false) × (left ≡ true)
left_tests true left dropped climbed h = cc
left_tests false true dropped climbed h = (refl, refl)
left_tests false false true climbed h = cc
left_tests false false false true h = cc
left_tests false false false false h = cc

found_tests : (long left dropped climbed : Bool) → of_tests long left dropped climbed ≡ treatment.LookedUp → (long ≡ false) × (left ≡ false)
found_tests true left dropped climbed h = cc
found_tests false true dropped climbed h = cc
found_tests false false true climbed h = cc
found_tests false false false true h = cc
found_tests false false false false h = (refl, refl)

not_first : (a b : Bool) → (a && b) ≡ false → b ≡ true → a ≡ false
not_first true b h e = sym e ∙ h
not_first false b h e = refl

put_place : (path name : List ℕ) (from len : ℕ) → length name ≤ longest_name → IsPut path name from len → IsPlace path from len
put_place path name from len short put = record { within = put.within; short = omega (arith, put.few); plain = put.plain }

module _ (path : List ℕ) (mode : WalkMode) (go : Onward) (goes : GoesPlaced path mode go) where
  behind : (c : Component) (rest : List Component) → ArePlaced path mode (c ∷ rest) → ArePlaced path mode rest
  behind c rest placed = record { in_path = placed.in_path.1; last = λ s. last_of_rest path c rest (placed.last s) }

  climb_ends : (links : ℕ) (above : List ℕ) (c : Component) (rest : List Component) → ArePlaced path mode rest → Ends path (climb go links above c rest)
  climb_ends links [] c rest placed = record { ends = tt }
  climb_ends links (parent ∷ above) c rest placed = goes links parent above rest placed

  follow_ends : (links top : ℕ) (above : List ℕ) (c : Component) (text : List ℕ) (rest : List Component) → (is_last rest && stops_before_last mode) ≡ false
      → ArePlaced path mode rest → Ends path (follow go links top above c text rest)
  follow_ends zero top above c text rest more placed = record { ends = tt }
  follow_ends (suc links) top above c text rest more placed =
      either path (is_absolute text) (Err (fault.Outside c.index)) (go links top above (text_components c.index text ++ rest)) (λ h. record { ends = tt })
      (λ h. goes links top above (text_components c.index text ++ rest) (record {
        in_path = given_before path c.index (names_of text) rest placed.in_path;
        last = λ s. last_before path (text_components c.index text) rest (not_first (is_last rest) (stops_before_last mode) more s) (placed.last s);
      }))

  stand_ends : (n : ℕ) (rest : List Component) → Ends path (stand n rest)
  stand_ends n rest = either path (is_last rest) (Ok (end.Found n)) (Err fault.NotDir) (λ h. record { ends = tt }) (λ h. record { ends = tt })

  lack_ends : (top : ℕ) (c : Component) (rest : List Component) → length c.name ≤ longest_name → ArePlaced path mode (c ∷ rest) → Ends path (lack top c rest)
  lack_ends top c rest short placed =
      either path (is_last rest && c.is_in_path) (Ok (end.Absent top c.from c.len)) (Err fault.NoEntry)
      (λ h. record { ends = put_place path c.name c.from c.len short (placed.in_path.0 (second_of (is_last rest) c.is_in_path h)) }) (λ h. record { ends = tt })

  finding_ends : (links top : ℕ) (above : List ℕ) (c : Component) (rest : List Component) (found : Finding) → length c.name ≤ longest_name
      → (is_last rest && stops_before_last mode) ≡ false
      → ArePlaced path mode (c ∷ rest) → Ends path (by_finding go mode links top above c rest found)
  finding_ends links top above c rest Nothing short more placed = lack_ends top c rest short placed
  finding_ends links top above c rest (Directory n) short more placed = goes links n (top ∷ above) rest (behind c rest placed)
  finding_ends links top above c rest (File n) short more placed = stand_ends n rest
  finding_ends links top above c rest (Link n text) short more placed =
      either path (is_last rest && not (follows_last mode)) (stand n rest) (follow go links top above c text rest) (λ h. stand_ends n rest)
      (λ h. follow_ends links top above c text rest more (behind c rest placed))

  treatment_ends : (find : Finds) (links top : ℕ) (above : List ℕ) (c : Component) (rest : List Component) (t : Treatment)
      → treatment_of mode c.name (is_last rest) ≡ t → ArePlaced path mode (c ∷ rest)
      → Ends path (by_treatment find mode go links top above c rest t)
  treatment_ends find links top above c rest treatment.Refused e placed = record { ends = tt }
  treatment_ends find links top above c rest treatment.Left e placed =
      let w : (ltb longest_name (length c.name) ≡ false) × ((is_last rest && stops_before_last mode) ≡ true) = left_tests (ltb longest_name (length c.name)) (is_last rest && stops_before_last mode) _ _ e in
      record {
        ends = put_place path c.name c.from c.len (ltb-false longest_name (length c.name) w.0)
            (last_itself path c rest (first_of (is_last rest) (stops_before_last mode) w.1) (placed.last (second_of (is_last rest) (stops_before_last mode) w.1)));
      }
  treatment_ends find links top above c rest treatment.Dropped e placed = goes links top above rest (behind c rest placed)
  treatment_ends find links top above c rest treatment.Climbed e placed = climb_ends links above c rest (behind c rest placed)
  treatment_ends find links top above c rest treatment.LookedUp e placed =
      let w : (ltb longest_name (length c.name) ≡ false) × ((is_last rest && stops_before_last mode) ≡ false) = found_tests (ltb longest_name (length c.name)) (is_last rest && stops_before_last mode) _ _ e in
      finding_ends links top above c rest (find top c.name) (ltb-false longest_name (length c.name) w.0) w.1 placed

  step_ends : (find : Finds) (links top : ℕ) (above : List ℕ) (rest : List Component) → ArePlaced path mode rest → Ends path (step find mode go links top above rest)
  step_ends find links top above [] placed = record { ends = tt }
  step_ends find links top above (c ∷ rest) placed = treatment_ends find links top above c rest (treatment_of mode c.name (is_last rest)) refl placed

spent_ends : (path : List ℕ) (top : ℕ) (rest : List Component) → Ends path (spent top rest)
spent_ends path top [] = record { ends = tt }
spent_ends path top (c ∷ rest) = record { ends = tt }

within_ends : (path : List ℕ) (find : Finds) (mode : WalkMode) (left : ℕ) → GoesPlaced path mode (walk_within find mode left)
unfolding walk_within
within_ends path find mode zero links top above rest placed = spent_ends path top rest
within_ends path find mode (suc left) links top above rest placed =
    step_ends path mode (walk_within find mode left) (within_ends path find mode left) find links top above rest placed

path_ends : (find : Finds) (mode : WalkMode) (start : ℕ) (path : List ℕ) → Ends path (walk_of find mode start path)
path_ends find mode start [] = record { ends = tt }
path_ends find mode start (b ∷ rest) =
    either (b ∷ rest) (is_absolute (b ∷ rest)) (Err (fault.Outside 0)) (walk_components find mode start (path_components (b ∷ rest))) (λ h. record { ends = tt })
    (λ h. within_ends (b ∷ rest) find mode most_components most_links start [] (path_components (b ∷ rest)) (path_placed (b ∷ rest) mode))

pub ends_at_place : (find : Finds) (mode : WalkMode) (start : ℕ) (path : List ℕ) → EndsAtPlace path (walk_of find mode start path)
ends_at_place find mode start path = (path_ends find mode start path).ends
