-- Spots as they are noted in an entry.
--     standing_entry      an entry whose list covers the thread's spots
--     stood_entry, stood_again      one that was given such a list, or stands everywhere; the same of one that was as it is to be
--     covers_by_parts      lists that do
use Rattle.std.proofs.Common.{◌≡◌, ℕ, ◌||◌, Bool, true, false, inl, inr, List, [], ◌∷◌, ◌++◌, Option, None, Some, IsSome, refl, sym, ap, subst, ◌∙◌}
use Rattle.std.specs.Prelude.{⊤, nat_eq}
use Rattle.std.specs.List.{AllByRecursion}
use Rattle.std.proofs.lemmas.Bool.{eq-eqb}
use Rattle.abi_types.specs.declared.constants.Constants.{Constants}
use Rattle.abi_types.specs.declared.thread.Thread.{Thread}
use Rattle.abi_types.specs.declared.thread.Thread.TheVariants.{Runnable, Waits}
use Rattle.kernel_model.specs.Calls.{meaning_of}
use Rattle.kernel_model.specs.State.{State, thread_of}
use Rattle.kernel_model.specs.Waits.{HasDeadline}
use Rattle.kernel_model.specs.Wakes.{is_ready}
use Rattle.kernel_model.proofs.Tests.{not_true, or_false}
use Rattle.wait_set.specs.declared.spot.Spot as wait
use Rattle.wait_set.specs.declared.spot.Spot.TheVariants as place
use Rattle.wait_set.specs.declared.waiting.Waiting.{Waiting}
use Rattle.wait_set.specs.Spots.{listed, same_spot}
use Rattle.wait_set.specs.Waits.{IsStood, lists, spread_at, stood}
use Rattle.readiness_laws.specs.Spots.{Spot, call_spots, moment_spot, on_channel, on_end, on_flags, on_moment, on_open, on_table, on_thread, spots, waiting_spots}
use Rattle.readiness_laws.specs.Watched.{Covers, IsEntry, StandsAt, is_moment, is_running, looked_at, noted, noted_before, until_in}
use Rattle.readiness_laws.proofs.Alike.{any_call, spots_by_parts}
use Rattle.readiness_laws.proofs.LookedAt.{all_lead}
use Rattle.readiness_laws.proofs.Watched.{all_everywhere}

-- ---- what is noted is listed

-- the spot is in the list, if that is one that is noted
abbrev pub IsListed : List wait.Spot → Spot → Type 0
IsListed those (on_channel c) = listed (place.Channel c) those ≡ true
IsListed those (on_end q) = listed (place.Ended q) those ≡ true
IsListed those spot = ⊤

later : (b c : Bool) → c ≡ true → (b || c) ≡ true
later true c h = refl
later false c h = h

sooner : (b c : Bool) → b ≡ true → (b || c) ≡ true
sooner true c h = refl
sooner false c h = absurd (not_true h)

same_number : (n : ℕ) → nat_eq n n ≡ true
same_number n = eq-eqb n n refl

one_more : (x : wait.Spot) (spot : Spot) (those : List wait.Spot) → listed x those ≡ true → listed x (noted_before spot those) ≡ true
one_more x (on_channel c) those at = later (same_spot x (place.Channel c)) (listed x those) at
one_more x (on_end q) those at = later (same_spot x (place.Ended q)) (listed x those) at
one_more x (on_moment m) those at = later (same_spot x (place.Moment m)) (listed x those) at
one_more x (on_table p) those at = at
one_more x (on_open o) those at = at
one_more x (on_flags o) those at = at
one_more x (on_thread p t) those at = at

still_listed : (spot : Spot) (those : List wait.Spot) (other : Spot) → IsListed those other → IsListed (noted_before spot those) other
still_listed spot those (on_channel c) at = one_more (place.Channel c) spot those at
still_listed spot those (on_end q) at = one_more (place.Ended q) spot those at
still_listed spot those (on_moment m) at = tt
still_listed spot those (on_table p) at = tt
still_listed spot those (on_open o) at = tt
still_listed spot those (on_flags o) at = tt
still_listed spot those (on_thread p t) at = tt

first_listed : (spot : Spot) (those : List wait.Spot) → IsListed (noted_before spot those) spot
first_listed (on_channel c) those = sooner (same_spot (place.Channel c) (place.Channel c)) (listed (place.Channel c) those) (same_number c)
first_listed (on_end q) those = sooner (same_spot (place.Ended q) (place.Ended q)) (listed (place.Ended q) those) (same_number q)
first_listed (on_moment m) those = tt
first_listed (on_table p) those = tt
first_listed (on_open o) those = tt
first_listed (on_flags o) those = tt
first_listed (on_thread p t) those = tt

all_listed : (spots : List Spot) → AllByRecursion (IsListed (noted spots)) spots
all_listed [] = tt
all_listed (spot ∷ rest) = (
  first_listed spot (noted rest),
  all_lead (IsListed (noted rest)) (IsListed (noted (spot ∷ rest))) (still_listed spot (noted rest)) rest (all_listed rest),
)

listed_stands : (w : Waiting) (spot : Spot) → IsListed w.spots spot → StandsAt w spot
listed_stands w (on_channel c) at = sooner (lists (place.Channel c) w) w.everywhere at
listed_stands w (on_end q) at = sooner (lists (place.Ended q) w) w.everywhere at
listed_stands w (on_moment m) at = tt
listed_stands w (on_table p) at = tt
listed_stands w (on_open o) at = tt
listed_stands w (on_flags o) at = tt
listed_stands w (on_thread p t) at = tt

-- ---- the moment among what is noted

abbrev IsNoMoment : Spot → Type 0
IsNoMoment (on_moment m) = ⊥
IsNoMoment spot = ⊤

no_moment : (m : ℕ) (spots : List Spot) → AllByRecursion IsNoMoment spots → listed (place.Moment m) (noted spots) ≡ false
no_moment m [] all = refl
no_moment m (on_channel c ∷ rest) all = no_moment m rest all.1
no_moment m (on_end q ∷ rest) all = no_moment m rest all.1
no_moment m (on_moment n ∷ rest) all = absurd all.0
no_moment m (on_table p ∷ rest) all = no_moment m rest all.1
no_moment m (on_open o ∷ rest) all = no_moment m rest all.1
no_moment m (on_flags o ∷ rest) all = no_moment m rest all.1
no_moment m (on_thread p t ∷ rest) all = no_moment m rest all.1

with_moment : (m : ℕ) (until : Option ℕ) (spots : List Spot) → AllByRecursion IsNoMoment spots
    → listed (place.Moment m) (noted (moment_spot until ++ spots)) ≡ is_moment m until
with_moment m None spots all = no_moment m spots all
with_moment m (Some until) spots all = ap (λ b. nat_eq m until || b) (no_moment m spots all) ∙ or_false (nat_eq m until)

noted_until : (S : State) (p m : ℕ) (o : Option Thread) → listed (place.Moment m) (noted (waiting_spots S p o)) ≡ is_moment m (until_in o)
noted_until S p m None = refl
noted_until S p m (Some Runnable) = refl
noted_until S p m (Some (Waits call since until stage)) =
    with_moment m until (call_spots (meaning_of call).by_stage S p call)
    (any_call IsNoMoment (λ q. tt) (λ o. tt) (λ o. tt) (λ c. tt) (λ q. tt) (meaning_of call).by_stage S p call)

-- an entry whose list covers the thread's spots
pub standing_entry : (S : State) (p t : ℕ) (w : Waiting) → Covers S p t w.spots
    → ((constants : Constants) → w.left ≡ false → HasDeadline constants (thread_of S p t) → w.ready ≡ is_ready constants S p t)
    → IsSome (thread_of S p t) → w.runs ≡ is_running (thread_of S p t) → IsEntry S p t w
standing_entry S p t w covers marks there runs = record {
  moments = λ _ m. covers.moments m ∙ noted_until S p m (thread_of S p t);
  places = all_lead (IsListed (noted (spots S p t))) (StandsAt w) (λ spot at. listed_stands w spot (covered spot at)) (spots S p t) (all_listed (spots S p t));
  marks = marks;
  there = there;
  runs = runs;
} where
  covered : (spot : Spot) → IsListed (noted (spots S p t)) spot → IsListed w.spots spot
  covered (on_channel c) at = covers.all (place.Channel c) at
  covered (on_end q) at = covers.all (place.Ended q) at
  covered (on_moment m) at = tt
  covered (on_table q) at = tt
  covered (on_open o) at = tt
  covered (on_flags o) at = tt
  covered (on_thread q u) at = tt

-- The entry was given a list that covers the thread's spots, or it stands everywhere. Its mark is as it was.
pub stood_entry : (S : State) (p t : ℕ) (those : List wait.Spot) (v w : Waiting) → Covers S p t those → IsStood those v w
    → ((constants : Constants) → v.left ≡ false → HasDeadline constants (thread_of S p t) → v.ready ≡ is_ready constants S p t)
    → IsSome (thread_of S p t) → v.runs ≡ is_running (thread_of S p t) → IsEntry S p t w
stood_entry S p t those v w covers (inl is) marks there runs =
    subst (IsEntry S p t) (sym is) (standing_entry S p t (stood those v) covers marks there runs)
stood_entry S p t those v w covers (inr (some, is)) marks there runs =
    subst (IsEntry S p t) (sym is) (record {
      moments = λ only m. absurd (not_true (sym only));
      places = all_everywhere (spread_at some v) refl (spots S p t);
      marks = marks;
      there = there;
      runs = runs;
    })

-- the entry was as it is to be before
pub stood_again : (S : State) (p t : ℕ) (those : List wait.Spot) (v w : Waiting) → Covers S p t those → IsStood those v w → IsEntry S p t v → IsEntry S p t w
stood_again S p t those v w covers stands entry = stood_entry S p t those v w covers stands entry.marks entry.there entry.runs

pub covers_by_parts : (S : State) (p t : ℕ) (those : List wait.Spot) → Covers S p t those → Covers (looked_at S) p t those
covers_by_parts S p t those covers = record {
  all = λ x at. covers.all x (ap (λ spots. listed x (noted spots)) (sym (spots_by_parts S p t)) ∙ at);
  moments = λ m. covers.moments m ∙ ap (λ spots. listed (place.Moment m) (noted spots)) (sym (spots_by_parts S p t));
}
