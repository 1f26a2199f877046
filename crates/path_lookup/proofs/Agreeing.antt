-- A walk reads nothing but what is in a closed set that has its start. One lemma for each piece of the definition.
use Rattle.std.proofs.Common.{◌≡◌, ◌∷◌, ℕ, zero, suc, Bool, true, cond, not, ◌&&◌, ◌++◌, Err, List, [], refl, ap, ◌∙◌}
use Rattle.path_lookup.proofs.Below.{AreIn}
use Rattle.path_lookup.specs.Finding.{Finding, Nothing, Directory, File, Link}
use Rattle.path_lookup.specs.Laws.{FindsIn, IsClosed, Agree, ReadsBelow}
use Rattle.path_lookup.specs.Split.{Component, is_absolute, text_components}
use Rattle.path_lookup.specs.Walk.{Finds, Onward, walk_within, climb, follow, stand, by_finding, by_treatment, step, is_last, follows_last, most_links, most_components}
use Rattle.path_lookup.specs.declared.ends.WalkMode.{WalkMode}
use Rattle.path_lookup.specs.declared.ends.WalkFault.TheVariants as fault
use Rattle.path_lookup.specs.declared.walker.Treatment.{Treatment}
use Rattle.path_lookup.specs.declared.walker.Treatment.TheVariants as treatment

-- two ways to go on that are one in the set
abbrev GoAlike : (ℕ → Bool) → Onward → Onward → Type 0
GoAlike inside go on = (links top : ℕ) (above : List ℕ) (rest : List Component) → inside top ≡ true → AreIn inside above → go links top above rest ≡ on links top above rest

module _ (inside : ℕ → Bool) (mode : WalkMode) (go on : Onward) (alike : GoAlike inside go on) where
  climb_alike : (links : ℕ) (above : List ℕ) (c : Component) (rest : List Component) → AreIn inside above → climb go links above c rest ≡ climb on links above c rest
  climb_alike links [] c rest h = refl
  climb_alike links (parent ∷ above) c rest h = alike links parent above rest h.0 h.1

  follow_alike : (links top : ℕ) (above : List ℕ) (c : Component) (text : List ℕ) (rest : List Component) → inside top ≡ true → AreIn inside above
      → follow go links top above c text rest ≡ follow on links top above c text rest
  follow_alike zero top above c text rest ht ha = refl
  follow_alike (suc links) top above c text rest ht ha = ap (cond (is_absolute text) (Err (fault.Outside c.index))) (alike links top above (text_components c.index text ++ rest) ht ha)

  finding_alike : (links top : ℕ) (above : List ℕ) (c : Component) (rest : List Component) (found : Finding) → inside top ≡ true → AreIn inside above
      → FindsIn inside found
      → by_finding go mode links top above c rest found ≡ by_finding on mode links top above c rest found
  finding_alike links top above c rest Nothing ht ha h = refl
  finding_alike links top above c rest (Directory n) ht ha h = alike links n (top ∷ above) rest h (ht, ha)
  finding_alike links top above c rest (File n) ht ha h = refl
  finding_alike links top above c rest (Link n text) ht ha h =
      ap (cond (is_last rest && not (follows_last mode)) (stand n rest)) (follow_alike links top above c text rest ht ha)

  treatment_alike : (find other : Finds) → IsClosed find inside → Agree find other inside
      → (links top : ℕ) (above : List ℕ) (c : Component) (rest : List Component) (treatment : Treatment) → inside top ≡ true → AreIn inside above
      → by_treatment find mode go links top above c rest treatment ≡ by_treatment other mode on links top above c rest treatment
  treatment_alike find other closed same links top above c rest treatment.Refused ht ha = refl
  treatment_alike find other closed same links top above c rest treatment.Left ht ha = refl
  treatment_alike find other closed same links top above c rest treatment.Dropped ht ha = alike links top above rest ht ha
  treatment_alike find other closed same links top above c rest treatment.Climbed ht ha = climb_alike links above c rest ha
  treatment_alike find other closed same links top above c rest treatment.LookedUp ht ha =
      finding_alike links top above c rest (find top c.name) ht ha (closed.closed top c.name ht)
      ∙ ap (by_finding on mode links top above c rest) (same.same top c.name ht)

  step_alike : (find other : Finds) → IsClosed find inside → Agree find other inside → (links top : ℕ) (above : List ℕ) (rest : List Component) → inside top ≡ true
      → AreIn inside above
      → step find mode go links top above rest ≡ step other mode on links top above rest
  step_alike find other closed same links top above [] ht ha = refl
  step_alike find other closed same links top above (c ∷ rest) ht ha = treatment_alike find other closed same links top above c rest _ ht ha

within_alike : (find other : Finds) (inside : ℕ → Bool) (mode : WalkMode) → IsClosed find inside → Agree find other inside → (left : ℕ)
    → GoAlike inside (walk_within find mode left) (walk_within other mode left)
unfolding walk_within
within_alike find other inside mode closed same zero links top above rest ht ha = refl
within_alike find other inside mode closed same (suc left) links top above rest ht ha =
    step_alike inside mode (walk_within find mode left) (walk_within other mode left) (within_alike find other inside mode closed same left) find other closed same links top above rest ht ha

pub reads_below : ReadsBelow
reads_below find other inside mode start [] closed same h = refl
reads_below find other inside mode start (b ∷ rest) closed same h =
    ap (cond (is_absolute (b ∷ rest)) (Err (fault.Outside 0))) (within_alike find other inside mode closed same most_components most_links start [] _ h tt)
