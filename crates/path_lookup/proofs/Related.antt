-- The relation of the walk gives each path an end, and so its end is the function's.
use Rattle.std.proofs.Common.{◌≡◌, ◌≢◌, ◌∷◌, ◌++◌, ◌+◌, ◌<◌, ◌≤◌, ◌⊎◌, inl, inr, ℕ, zero, suc, Bool, true, false, List, [], length, Ok, Err, refl, ap, sym, subst, ◌∙◌, arith, bytes_eq}
use Rattle.std.proofs.lemmas.Bool.Decides.{eqb_tells, leb_tells, not_from_Decides}
use Rattle.std.proofs.lemmas.Slice.Eq.{bytes_eq-Decides}
use Rattle.path_lookup.proofs.Leading.{leads, begins_not, no}
use Rattle.path_lookup.specs.Finding.{Finding, Nothing, Directory, File, Link}
use Rattle.path_lookup.specs.Laws.{WalkIsTheRelation}
use Rattle.path_lookup.specs.Relation.{Leads, Walks, IsTreated, IsLookedUp, IsFollowed, BeginsWithSlash}
use Rattle.path_lookup.specs.Relation as relation
use Rattle.path_lookup.specs.Split.{Component, dot, slash, is_absolute, path_components, text_components}
use Rattle.path_lookup.specs.Walk.{WalkEnd, Finds, walk_of, walk_components, most_components, most_links, longest_name}
use Rattle.path_lookup.specs.declared.ends.End.TheVariants as end
use Rattle.path_lookup.specs.declared.ends.WalkFault.TheVariants as fault
use Rattle.path_lookup.specs.declared.ends.WalkMode.{WalkMode}
use Rattle.path_lookup.specs.declared.ends.WalkMode.TheVariants.{Follow, NoFollow, Parent}

-- ---- each condition of a clause holds, or that of another does

is_name : (name other : List ℕ) → (name ≡ other) ⊎ (name ≢ other)
is_name name other = by (bytes_eq name other) refl
  where
    by : (t : Bool) → bytes_eq name other ≡ t → (name ≡ other) ⊎ (name ≢ other)
    by true e = inl ((bytes_eq-Decides name other).0 e)
    by false e = inr (not_from_Decides (bytes_eq name other) (bytes_eq-Decides name other) e)

is_slashed : (text : List ℕ) → BeginsWithSlash text ⊎ (¬ BeginsWithSlash text)
is_slashed [] = inr (λ h. let e = h.1 in cc)
is_slashed (b ∷ text) = elim (eqb_tells b slash) as (λ w. BeginsWithSlash (b ∷ text) ⊎ (¬ BeginsWithSlash (b ∷ text))) [
  | inl w ↦ inl (text, ap (λ n. n ∷ text) w.1)
  | inr w ↦ inr (λ h. let e = h.1 in w.1 (let k : b ≡ slash = cc in k))
]

-- where the components that are left lead to some end
abbrev Ends : Finds → WalkMode → ℕ → ℕ → List ℕ → List Component → Type 0
Ends find mode treated followed stack components = (w : WalkEnd) × Leads find mode treated followed stack components w

-- ---- one component, where each walk with one component less to treat has an end

module _ (find : Finds) (mode : WalkMode) (treated : ℕ)
    (go : (followed links top : ℕ) (above : List ℕ) (components : List Component) → followed + links ≡ most_links
    → Ends find mode (treated + 1) followed (top ∷ above) components) where
  climb_ends : (followed links top : ℕ) (above : List ℕ) (c : Component) (rest : List Component) → followed + links ≡ most_links
      → IsTreated mode treated c rest → c.name ≡ dot ∷ dot ∷ [] → Ends find mode treated followed (top ∷ above) (c ∷ rest)
  climb_ends followed links top [] c rest hf is name = (Err (fault.Outside c.index), relation.climbed_outside treated followed top c rest is name)
  climb_ends followed links top (parent ∷ above) c rest hf is name =
      let next = go followed links parent above rest hf in
      (next.0, relation.climbed treated followed top parent above c rest next.0 is name next.1)

  lack_ends : (followed top : ℕ) (above : List ℕ) (c : Component) (rest : List Component) → IsLookedUp mode treated c rest → find top c.name ≡ Nothing
      → (in_path : Bool) → c.is_in_path ≡ in_path → Ends find mode treated followed (top ∷ above) (c ∷ rest)
  lack_ends followed top above c (next ∷ rest) is h in_path e =
      (Err fault.NoEntry, relation.no_entry treated followed top above c (next ∷ rest) is h (inl (λ k. cc)))
  lack_ends followed top above c [] is h true e = (Ok (end.Absent top c.from c.len), relation.absent treated followed top above c is h e)
  lack_ends followed top above c [] is h false e = (Err fault.NoEntry, relation.no_entry treated followed top above c [] is h (inr e))

  stand_ends : (followed top : ℕ) (above : List ℕ) (c : Component) (rest : List Component) (file : ℕ) → IsLookedUp mode treated c rest
      → find top c.name ≡ File file → Ends find mode treated followed (top ∷ above) (c ∷ rest)
  stand_ends followed top above c [] file is h = (Ok (end.Found file), relation.file_found treated followed top above c file is h)
  stand_ends followed top above c (next ∷ rest) file is h = (Err fault.NotDir, relation.not_directory treated followed top above c next rest file is h)

  text_ends : (followed links top : ℕ) (above : List ℕ) (c : Component) (rest : List Component) (link : ℕ) (text : List ℕ) → suc (followed + links) ≡ most_links
      → IsLookedUp mode treated c rest → find top c.name ≡ Link link text → IsFollowed mode rest → BeginsWithSlash text ⊎ (¬ BeginsWithSlash text)
      → Ends find mode treated followed (top ∷ above) (c ∷ rest)
  text_ends followed links top above c rest link text hf is h through (inl slashed) =
      (Err (fault.Outside c.index), relation.link_outside treated followed top above c rest link text is h through (omega arith) slashed)
  text_ends followed links top above c rest link text hf is h through (inr unslashed) =
      let next = go (followed + 1) links top above (text_components c.index text ++ rest) (omega arith) in
      (next.0, relation.link_followed treated followed top above c rest link text next.0 is h through (omega arith) unslashed next.1)

  follow_ends : (followed links top : ℕ) (above : List ℕ) (c : Component) (rest : List Component) (link : ℕ) (text : List ℕ) → followed + links ≡ most_links
      → IsLookedUp mode treated c rest → find top c.name ≡ Link link text → IsFollowed mode rest → Ends find mode treated followed (top ∷ above) (c ∷ rest)
  follow_ends followed zero top above c rest link text hf is h through =
      (Err fault.Loop, relation.link_loop treated followed top above c rest link text is h through (omega arith))
  follow_ends followed (suc links) top above c rest link text hf is h through =
      text_ends followed links top above c rest link text (omega arith) is h through (is_slashed text)

  link_ends : (followed links top : ℕ) (above : List ℕ) (c : Component) (rest : List Component) (link : ℕ) (text : List ℕ) → followed + links ≡ most_links
      → IsLookedUp mode treated c rest → find top c.name ≡ Link link text → (m : WalkMode) → mode ≡ m → Ends find mode treated followed (top ∷ above) (c ∷ rest)
  link_ends followed links top above c (next ∷ rest) link text hf is h m e =
      follow_ends followed links top above c (next ∷ rest) link text hf is h (inl (λ k. cc))
  link_ends followed links top above c [] link text hf is h Follow e = follow_ends followed links top above c [] link text hf is h (inr e)
  link_ends followed links top above c [] link text hf is h NoFollow e =
      (Ok (end.Found link), relation.link_found treated followed top above c link text is h (λ k. cc))
  link_ends followed links top above c [] link text hf is h Parent e =
      (Ok (end.Found link), relation.link_found treated followed top above c link text is h (λ k. cc))

  finding_ends : (followed links top : ℕ) (above : List ℕ) (c : Component) (rest : List Component) → followed + links ≡ most_links
      → IsLookedUp mode treated c rest → (found : Finding) → find top c.name ≡ found → Ends find mode treated followed (top ∷ above) (c ∷ rest)
  finding_ends followed links top above c rest hf is Nothing h = lack_ends followed top above c rest is h c.is_in_path refl
  finding_ends followed links top above c rest hf is (Directory dir) h =
      let next = go followed links dir (top ∷ above) rest hf in
      (next.0, relation.entered treated followed top above c rest dir next.0 is h next.1)
  finding_ends followed links top above c rest hf is (File file) h = stand_ends followed top above c rest file is h
  finding_ends followed links top above c rest hf is (Link link text) h = link_ends followed links top above c rest link text hf is h mode refl

  name_ends : (followed links top : ℕ) (above : List ℕ) (c : Component) (rest : List Component) → followed + links ≡ most_links
      → IsTreated mode treated c rest → (c.name ≡ dot ∷ []) ⊎ (c.name ≢ dot ∷ []) → (c.name ≡ dot ∷ dot ∷ []) ⊎ (c.name ≢ dot ∷ dot ∷ [])
      → Ends find mode treated followed (top ∷ above) (c ∷ rest)
  name_ends followed links top above c rest hf is (inl name) dots =
      let next = go followed links top above rest hf in
      (next.0, relation.dropped treated followed top above c rest next.0 is name next.1)
  name_ends followed links top above c rest hf is (inr other) (inl name) = climb_ends followed links top above c rest hf is name
  name_ends followed links top above c rest hf is (inr other) (inr another) =
      finding_ends followed links top above c rest hf (record { is_treated = is; not_dot = other; not_dots = another }) (find top c.name) refl

  treated_ends : (followed links top : ℕ) (above : List ℕ) (c : Component) (rest : List Component) → followed + links ≡ most_links
      → IsTreated mode treated c rest → Ends find mode treated followed (top ∷ above) (c ∷ rest)
  treated_ends followed links top above c rest hf is = name_ends followed links top above c rest hf is (is_name c.name (dot ∷ [])) (is_name c.name (dot ∷ dot ∷ []))

  short_ends : (followed links top : ℕ) (above : List ℕ) (c : Component) (rest : List Component) → followed + links ≡ most_links
      → treated < most_components → length c.name ≤ longest_name → (m : WalkMode) → mode ≡ m → Ends find mode treated followed (top ∷ above) (c ∷ rest)
  short_ends followed links top above c (next ∷ rest) hf few short m e =
      treated_ends followed links top above c (next ∷ rest) hf (record { few = few; short = short; not_left = inl (λ k. cc) })
  short_ends followed links top above c [] hf few short Parent e =
      (Ok (end.Last top c.from c.len), relation.last_left treated followed top above c few short e)
  short_ends followed links top above c [] hf few short Follow e =
      treated_ends followed links top above c [] hf (record { few = few; short = short; not_left = inr (λ k. cc) })
  short_ends followed links top above c [] hf few short NoFollow e =
      treated_ends followed links top above c [] hf (record { few = few; short = short; not_left = inr (λ k. cc) })

  component_ends : (followed links top : ℕ) (above : List ℕ) (c : Component) (rest : List Component) → followed + links ≡ most_links
      → treated < most_components → Ends find mode treated followed (top ∷ above) (c ∷ rest)
  component_ends followed links top above c rest hf few = elim (leb_tells (length c.name) longest_name) as (λ w. Ends find mode treated followed (top ∷ above) (c ∷ rest)) [
    | inl w ↦ short_ends followed links top above c rest hf few w.1 mode refl
    | inr w ↦ (Err fault.TooLong, relation.name_too_long treated followed top above c rest few w.1)
  ]

-- ---- the whole walk

ends : (find : Finds) (mode : WalkMode) (left treated : ℕ) → treated + left ≡ most_components → (followed links top : ℕ) (above : List ℕ) (components : List Component)
    → followed + links ≡ most_links → Ends find mode treated followed (top ∷ above) components
ends find mode left treated ht followed links top above [] hf = (Ok (end.Found top), relation.arrived treated followed top above)
ends find mode zero treated ht followed links top above (c ∷ rest) hf =
    (Err fault.TooLong, relation.too_many treated followed top above c rest (omega arith))
ends find mode (suc left) treated ht followed links top above (c ∷ rest) hf =
    component_ends find mode treated (ends find mode left (treated + 1) (omega arith)) followed links top above c rest hf (omega arith)

by_components : (find : Finds) (mode : WalkMode) (start : ℕ) (path : List ℕ) → path ≢ [] → ¬ BeginsWithSlash path
    → walk_of find mode start path ≡ walk_components find mode start (path_components path)
by_components find mode start [] some unslashed = absurd (some refl)
by_components find mode start (b ∷ rest) some unslashed =
    no (is_absolute (b ∷ rest)) (Err (fault.Outside 0)) (walk_components find mode start (path_components (b ∷ rest))) (begins_not (b ∷ rest) unslashed)

-- what the relation gives is what the function gives
walks_so : (find : Finds) (mode : WalkMode) (start : ℕ) (path : List ℕ) (w : WalkEnd) → Walks find mode start path w → w ≡ walk_of find mode start path
walks_so find mode start path w (relation.empty_path none) = ap (walk_of find mode start) (sym none)
walks_so find mode start path w (relation.absolute_path slashed) = ap (walk_of find mode start) (sym slashed.1)
walks_so find mode start path w (relation.walked v some unslashed led) =
    leads find mode 0 0 (start ∷ []) (path_components path) v led most_components most_links refl refl ∙ sym (by_components find mode start path some unslashed)

-- and it gives each path something
walks_some : (find : Finds) (mode : WalkMode) (start : ℕ) (path : List ℕ) → (w : WalkEnd) × Walks find mode start path w
walks_some find mode start [] = (Err fault.NoEntry, relation.empty_path refl)
walks_some find mode start (b ∷ rest) = elim (is_slashed (b ∷ rest)) as (λ w. (w : WalkEnd) × Walks find mode start (b ∷ rest) w) [
  | inl slashed ↦ (Err (fault.Outside 0), relation.absolute_path slashed)
  | inr unslashed ↦ let walked = ends find mode most_components 0 refl 0 most_links start [] (path_components (b ∷ rest)) refl in
      (walked.0, relation.walked walked.0 (λ k. cc) unslashed walked.1)
]

walks_as : (find : Finds) (mode : WalkMode) (start : ℕ) (path : List ℕ) (w : WalkEnd) → w ≡ walk_of find mode start path → Walks find mode start path w
walks_as find mode start path w h =
    let some = walks_some find mode start path in
    subst (Walks find mode start path) (walks_so find mode start path some.0 some.1 ∙ sym h) some.1

pub walk_is_the_relation : WalkIsTheRelation
walk_is_the_relation find mode start path w = (walks_so find mode start path w, walks_as find mode start path w)
