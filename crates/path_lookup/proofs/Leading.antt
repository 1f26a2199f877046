-- Each walk by the clauses of the relation ends as the function of the walk does.
use Rattle.std.proofs.Common.{◌≡◌, ◌≢◌, ◌∷◌, ◌++◌, ◌+◌, ◌-◌, ◌<◌, ◌≤◌, ◌⊎◌, inl, inr, ◌&&◌, ℕ, zero, suc, Bool, true, false, cond, not, List, [], length, eqb, ltb, Ok, Err, refl, ap, sym, ◌∙◌, arith, bytes_eq, lt-ltb, le-ltb}
use Rattle.std.specs.Prelude.{⊤}
use Rattle.std.proofs.lemmas.Bool.Decides.{eqb_tells}
use Rattle.std.proofs.lemmas.Slice.Eq.{bytes_eq-Decides}
use Rattle.path_lookup.specs.Finding.{Finding, Nothing, Directory, File, Link}
use Rattle.path_lookup.specs.Relation.{Leads, IsTreated, IsLookedUp, IsFollowed, BeginsWithSlash}
use Rattle.path_lookup.specs.Relation as relation
use Rattle.path_lookup.specs.Split.{Component, dot, slash, is_absolute, text_components}
use Rattle.path_lookup.specs.Walk.{WalkEnd, Finds, walk_within, lack, stand, follow, replace, by_finding, by_treatment, treatment_of, is_last, follows_last, stops_before_last, most_components, most_links, longest_name}
use Rattle.path_lookup.specs.declared.ends.End.TheVariants as end
use Rattle.path_lookup.specs.declared.ends.WalkFault.TheVariants as fault
use Rattle.path_lookup.specs.declared.ends.WalkMode.{WalkMode}
use Rattle.path_lookup.specs.declared.ends.WalkMode.TheVariants.{Follow, NoFollow, Parent}
use Rattle.path_lookup.specs.declared.walker.Treatment.{Treatment}
use Rattle.path_lookup.specs.declared.walker.Treatment.TheVariants as treatment

-- ---- what the tests say

yes : {A : Type 0} (t : Bool) (v w : A) → t ≡ true → cond t v w ≡ v
yes true v w h = refl
yes false v w h = cc

pub no : {A : Type 0} (t : Bool) (v w : A) → t ≡ false → cond t v w ≡ w
no true v w h = cc
no false v w h = refl

unlike : (name other : List ℕ) → name ≢ other → bytes_eq name other ≡ false
unlike name other h = by (bytes_eq name other) refl
  where
    by : (t : Bool) → bytes_eq name other ≡ t → t ≡ false
    by true e = absurd (h ((bytes_eq-Decides name other).0 e))
    by false e = refl

alike : (name other : List ℕ) → name ≡ other → bytes_eq name other ≡ true
alike name other h = (bytes_eq-Decides name other).1 h

not_left : (mode : WalkMode) (rest : List Component) → (rest ≢ []) ⊎ (mode ≢ Parent) → (is_last rest && stops_before_last mode) ≡ false
not_left mode (c ∷ rest) h = refl
not_left Follow [] h = refl
not_left NoFollow [] h = refl
not_left Parent [] (inl h) = absurd (h refl)
not_left Parent [] (inr h) = absurd (h refl)

goes_through : (mode : WalkMode) (rest : List Component) → IsFollowed mode rest → (is_last rest && not (follows_last mode)) ≡ false
goes_through mode (c ∷ rest) h = refl
goes_through Follow [] h = refl
goes_through NoFollow [] (inl h) = absurd (h refl)
goes_through NoFollow [] (inr h) = cc
goes_through Parent [] (inl h) = absurd (h refl)
goes_through Parent [] (inr h) = cc

stays_at : (mode : WalkMode) → mode ≢ Follow → (true && not (follows_last mode)) ≡ true
stays_at Follow h = absurd (h refl)
stays_at NoFollow h = refl
stays_at Parent h = refl

begins : (text : List ℕ) → BeginsWithSlash text → is_absolute text ≡ true
begins text h = ap is_absolute h.1

pub begins_not : (text : List ℕ) → ¬ BeginsWithSlash text → is_absolute text ≡ false
begins_not [] h = refl
begins_not (b ∷ text) h = elim (eqb_tells b slash) as (λ w. eqb b slash ≡ false) [ inl w ↦ absurd (h (text, ap (λ n. n ∷ text) w.1)) | inr w ↦ w.0 ]

-- ---- how a component is treated

refused : (mode : WalkMode) (name : List ℕ) (last : Bool) → longest_name < length name → treatment_of mode name last ≡ treatment.Refused
refused mode name last h = yes (ltb longest_name (length name)) treatment.Refused _ (lt-ltb longest_name (length name) h)

left_last : (name : List ℕ) → length name ≤ longest_name → treatment_of Parent name true ≡ treatment.Left
left_last name h = no (ltb longest_name (length name)) treatment.Refused _ (le-ltb longest_name (length name) h)

module _ (mode : WalkMode) (treated : ℕ) (c : Component) (rest : List Component) (is : IsTreated mode treated c rest) where
  by_name : treatment_of mode c.name (is_last rest)
      ≡ cond (bytes_eq c.name (dot ∷ [])) treatment.Dropped (cond (bytes_eq c.name (dot ∷ dot ∷ [])) treatment.Climbed treatment.LookedUp)
  by_name =
      no (ltb longest_name (length c.name)) treatment.Refused _ (le-ltb longest_name (length c.name) is.short)
      ∙ no (is_last rest && stops_before_last mode) treatment.Left _ (not_left mode rest is.not_left)

  is_dropped : c.name ≡ dot ∷ [] → treatment_of mode c.name (is_last rest) ≡ treatment.Dropped
  is_dropped h = by_name ∙ yes (bytes_eq c.name (dot ∷ [])) treatment.Dropped _ (alike c.name (dot ∷ []) h)

  is_climbed : c.name ≡ dot ∷ dot ∷ [] → treatment_of mode c.name (is_last rest) ≡ treatment.Climbed
  is_climbed h =
      by_name
      ∙ ap (λ name. cond (bytes_eq name (dot ∷ [])) treatment.Dropped (cond (bytes_eq name (dot ∷ dot ∷ [])) treatment.Climbed treatment.LookedUp)) h

  is_looked_up : c.name ≢ dot ∷ [] → c.name ≢ dot ∷ dot ∷ [] → treatment_of mode c.name (is_last rest) ≡ treatment.LookedUp
  is_looked_up h k =
      by_name ∙ no (bytes_eq c.name (dot ∷ [])) treatment.Dropped _ (unlike c.name (dot ∷ []) h)
      ∙ no (bytes_eq c.name (dot ∷ dot ∷ [])) treatment.Climbed treatment.LookedUp (unlike c.name (dot ∷ dot ∷ []) k)

-- ---- one component

more : (find : Finds) (mode : WalkMode) (left links top : ℕ) (above : List ℕ) (c : Component) (rest : List Component)
    → walk_within find mode (suc left) links top above (c ∷ rest)
    ≡ by_treatment find mode (walk_within find mode left) links top above c rest (treatment_of mode c.name (is_last rest))
unfolding walk_within
more find mode left links top above c rest = refl

module _ (find : Finds) (mode : WalkMode) (treated left links top : ℕ) (above : List ℕ) (c : Component) (rest : List Component)
    (counted : treated + left ≡ most_components) where
  treats : (t : Treatment) → treated < most_components → treatment_of mode c.name (is_last rest) ≡ t
      → walk_within find mode left links top above (c ∷ rest) ≡ by_treatment find mode (walk_within find mode (left - 1)) links top above c rest t
  treats t few h =
      ap (λ n. walk_within find mode n links top above (c ∷ rest)) (let e : left ≡ suc (left - 1) = omega arith in e)
      ∙ more find mode (left - 1) links top above c rest
      ∙ ap (by_treatment find mode (walk_within find mode (left - 1)) links top above c rest) h

  finds : (found : Finding) → IsLookedUp mode treated c rest → find top c.name ≡ found
      → walk_within find mode left links top above (c ∷ rest) ≡ by_finding (walk_within find mode (left - 1)) mode links top above c rest found
  finds found is h =
      treats treatment.LookedUp is.is_treated.few (is_looked_up mode treated c rest is.is_treated is.not_dot is.not_dots)
      ∙ ap (by_finding (walk_within find mode (left - 1)) mode links top above c rest) h

  follows : (link : ℕ) (text : List ℕ) → IsLookedUp mode treated c rest → find top c.name ≡ Link link text → IsFollowed mode rest
      → walk_within find mode left links top above (c ∷ rest) ≡ follow (walk_within find mode (left - 1)) links top above c text rest
  follows link text is h through =
      finds (Link link text) is h
      ∙ no (is_last rest && not (follows_last mode)) (stand link rest) (follow (walk_within find mode (left - 1)) links top above c text rest) (goes_through mode rest through)

-- ---- where a walk ends at once, and how it goes on at a symlink

none_left : (find : Finds) (mode : WalkMode) (left links top : ℕ) (above : List ℕ) → walk_within find mode left links top above [] ≡ Ok (end.Found top)
unfolding walk_within
none_left find mode zero links top above = refl
none_left find mode (suc left) links top above = refl

one_too_many : (find : Finds) (mode : WalkMode) (left links top : ℕ) (above : List ℕ) (c : Component) (rest : List Component) → left ≡ zero
    → walk_within find mode left links top above (c ∷ rest) ≡ Err fault.TooLong
unfolding walk_within
one_too_many find mode left links top above c rest h = ap (λ n. walk_within find mode n links top above (c ∷ rest)) h

module _ (go : ℕ → ℕ → List ℕ → List Component → WalkEnd) (top : ℕ) (above : List ℕ) (c : Component) (text : List ℕ) (rest : List Component) where
  no_more_links : (links : ℕ) → links ≡ zero → follow go links top above c text rest ≡ Err fault.Loop
  no_more_links links h = ap (λ n. follow go n top above c text rest) h

  some_links : (links : ℕ) → 0 < links → follow go links top above c text rest ≡ replace go (links - 1) top above c text rest
  some_links links h = ap (λ n. follow go n top above c text rest) (let e : links ≡ suc (links - 1) = omega arith in e)

  leaves : (links : ℕ) → 0 < links → BeginsWithSlash text → follow go links top above c text rest ≡ Err (fault.Outside c.index)
  leaves links h slashed =
      some_links links h ∙ yes (is_absolute text) (Err (fault.Outside c.index)) (go (links - 1) top above (text_components c.index text ++ rest)) (begins text slashed)

  goes_on : (links : ℕ) → 0 < links → ¬ BeginsWithSlash text → follow go links top above c text rest ≡ go (links - 1) top above (text_components c.index text ++ rest)
  goes_on links h slashed =
      some_links links h ∙ no (is_absolute text) (Err (fault.Outside c.index)) (go (links - 1) top above (text_components c.index text ++ rest)) (begins_not text slashed)

-- ---- the whole walk

lacks : (top : ℕ) (c : Component) (rest : List Component) → (rest ≢ []) ⊎ (c.is_in_path ≡ false) → lack top c rest ≡ Err fault.NoEntry
lacks top c (next ∷ rest) h = refl
lacks top c [] (inl h) = absurd (h refl)
lacks top c [] (inr h) = no c.is_in_path (Ok (end.Absent top c.from c.len)) (Err fault.NoEntry) h

-- what a walk from a stack ends with
abbrev pub IsEnd : Finds → WalkMode → ℕ → ℕ → List ℕ → List Component → WalkEnd → Type 0
IsEnd find mode left links [] rest w = ⊤
IsEnd find mode left links (top ∷ above) rest w = w ≡ walk_within find mode left links top above rest

pub leads : (find : Finds) (mode : WalkMode) (treated followed : ℕ) (stack : List ℕ) (components : List Component) (w : WalkEnd)
    → Leads find mode treated followed stack components w → (left links : ℕ) → treated + left ≡ most_components → followed + links ≡ most_links
    → IsEnd find mode left links stack components w
leads find mode treated followed stack components w (relation.arrived t f top above) left links ht hf = sym (none_left find mode left links top above)
leads find mode treated followed stack components w (relation.too_many t f top above c rest few) left links ht hf =
    sym (one_too_many find mode left links top above c rest (omega arith))
leads find mode treated followed stack components w (relation.name_too_long t f top above c rest few long) left links ht hf =
    sym (treats find mode t left links top above c rest ht treatment.Refused few (refused mode c.name (is_last rest) long))
leads find mode treated followed stack components w (relation.last_left t f top above c few short parent) left links ht hf =
    sym (treats find mode t left links top above c [] ht treatment.Left few (ap (λ m. treatment_of m c.name true) parent ∙ left_last c.name short))
leads find mode treated followed stack components w (relation.dropped t f top above c rest v is name next) left links ht hf =
    leads find mode (t + 1) f (top ∷ above) rest v next (left - 1) links (omega (arith, is.few)) hf
    ∙ sym (treats find mode t left links top above c rest ht treatment.Dropped is.few (is_dropped mode t c rest is name))
leads find mode treated followed stack components w (relation.climbed t f top parent above c rest v is name next) left links ht hf =
    leads find mode (t + 1) f (parent ∷ above) rest v next (left - 1) links (omega (arith, is.few)) hf
    ∙ sym (treats find mode t left links top (parent ∷ above) c rest ht treatment.Climbed is.few (is_climbed mode t c rest is name))
leads find mode treated followed stack components w (relation.climbed_outside t f start c rest is name) left links ht hf =
    sym (treats find mode t left links start [] c rest ht treatment.Climbed is.few (is_climbed mode t c rest is name))
leads find mode treated followed stack components w (relation.absent t f top above c is h in_path) left links ht hf =
    sym (finds find mode t left links top above c [] ht Nothing is h ∙ yes c.is_in_path (Ok (end.Absent top c.from c.len)) (Err fault.NoEntry) in_path)
leads find mode treated followed stack components w (relation.no_entry t f top above c rest is h lacking) left links ht hf =
    sym (finds find mode t left links top above c rest ht Nothing is h ∙ lacks top c rest lacking)
leads find mode treated followed stack components w (relation.entered t f top above c rest dir v is h next) left links ht hf =
    leads find mode (t + 1) f (dir ∷ top ∷ above) rest v next (left - 1) links (omega (arith, is.is_treated.few)) hf
    ∙ sym (finds find mode t left links top above c rest ht (Directory dir) is h)
leads find mode treated followed stack components w (relation.link_followed t f top above c rest link text v is h through few unslashed next) left links ht hf =
    leads find mode (t + 1) (f + 1) (top ∷ above) (text_components c.index text ++ rest) v next (left - 1) (links - 1) (omega (arith, is.is_treated.few)) (omega arith)
    ∙ sym (follows find mode t left links top above c rest ht link text is h through
    ∙ goes_on (walk_within find mode (left - 1)) top above c text rest links (omega arith) unslashed)
leads find mode treated followed stack components w (relation.link_outside t f top above c rest link text is h through few slashed) left links ht hf =
    sym (follows find mode t left links top above c rest ht link text is h through
    ∙ leaves (walk_within find mode (left - 1)) top above c text rest links (omega arith) slashed)
leads find mode treated followed stack components w (relation.link_loop t f top above c rest link text is h through all) left links ht hf =
    sym (follows find mode t left links top above c rest ht link text is h through
    ∙ no_more_links (walk_within find mode (left - 1)) top above c text rest links (omega arith))
leads find mode treated followed stack components w (relation.file_found t f top above c file is h) left links ht hf =
    sym (finds find mode t left links top above c [] ht (File file) is h)
leads find mode treated followed stack components w (relation.link_found t f top above c link text is h unfollowed) left links ht hf =
    sym (finds find mode t left links top above c [] ht (Link link text) is h
    ∙ yes (true && not (follows_last mode)) (Ok (end.Found link)) (follow (walk_within find mode (left - 1)) links top above c text []) (stays_at mode unfollowed))
leads find mode treated followed stack components w (relation.not_directory t f top above c next rest file is h) left links ht hf =
    sym (finds find mode t left links top above c (next ∷ rest) ht (File file) is h)
