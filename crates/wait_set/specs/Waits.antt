-- The set of threads that wait or run, and what is done with it.
--     WaitMap      each thread, with where it stands, how it is marked, and whether it runs
--     flag p (get w t)      whether t is in and passes p
--     is_left s, is_ready s      whether it waits and is left to be tested, and whether it waits and is marked as ready
--     lists x s      whether the spot x is in the thread's list
--     stands x s      whether the thread stands at x: by its list, or since it stands everywhere
--     counted p w      how many threads pass p
--     is_awaited w m      whether some thread has the moment m in its list
--     is_due after until s      whether the thread's list has a moment after `after` and not after `until`
--     fresh      a thread that has just begun, and runs: it stands nowhere
--     running s      the thread once it runs again: of the spots in its list it has kept those that are no moments
--     resting b s      the thread once it waits, and is left to be tested or not
--     stood spots s, spread_at spots s      the thread once it stands at these spots alone; once it stands everywhere, with these in its list
--     IsStood spots s w      one of the two came of it: the second where memory ran out, and then some of the spots may be in its list
--     mark_of entry      how a thread that waits is marked, unless it is left to be tested
--     tested b s, touched s      the thread once it was tested, and was found ready or not; once it is left to be tested
--     spread_out s      the thread once it stands everywhere, and is left to be tested
--     where_so p f w      the set with each thread that passes p changed by f
--     AreTested ready v w      some of those that were left were tested, and all else is the same
--     is_up ready entry t      whether the thread t is in, waits, and is ready
--     IsExact ready w      each thread that isn't left to be tested is marked by whether it is ready
use Rattle.std.specs.Prelude.{◌≡◌, ℕ, Bool, true, false, cond, not, ◌&&◌, ◌||◌, ◌⊎◌, nat_lt, List, [], Option, None, Some}
use Rattle.std.specs.List.{filter, list_any}
use Rattle.std.specs.Option.{option_map}
use Rattle.std.specs.Ordering.{nat_cmp}
use Rattle.std.specs.FinMap.{FinMap, get}
use Rattle.maps.specs.Maps.{total}
use Rattle.maps.specs.Closure.{changed}
use Rattle.wait_set.specs.declared.spot.Spot.{Spot}
use Rattle.wait_set.specs.declared.spot.Spot.TheVariants.{Channel, Ended, Moment}
use Rattle.wait_set.specs.declared.waiting.Waiting.{Waiting}
use Rattle.wait_set.specs.Next.{is_after}
use Rattle.wait_set.specs.Spots.{listed}

abbrev pub WaitMap : Type 0
WaitMap = FinMap nat_cmp Waiting

abbrev pub flag : (Waiting → Bool) → Option Waiting → Bool
flag p None = false
flag p (Some s) = p s

abbrev pub lists : Spot → Waiting → Bool
lists x s = listed x s.spots

abbrev pub stands : Spot → Waiting → Bool
stands x s = lists x s || s.everywhere

abbrev pub is_left : Waiting → Bool
is_left s = s.left && not s.runs

abbrev pub is_ready : Waiting → Bool
is_ready s = s.ready && not s.runs

abbrev pub is_everywhere : Waiting → Bool
is_everywhere s = s.everywhere

abbrev pub is_running : Waiting → Bool
is_running s = s.runs

abbrev pub counted : (Waiting → Bool) → WaitMap → ℕ
counted p w = total (λ s. cond (p s) 1 0) w

abbrev pub is_awaited : WaitMap → ℕ → Bool
is_awaited w m = nat_lt 0 (counted (lists (Moment m)) w)

-- whether the moment is after `after`, and not after `until`
abbrev pub is_within : Option ℕ → Option ℕ → ℕ → Bool
is_within after until m = is_after after m && not (is_after until m)

abbrev pub due_spot : Option ℕ → Option ℕ → Spot → Bool
due_spot after until (Channel n) = false
due_spot after until (Ended n) = false
due_spot after until (Moment n) = is_within after until n

-- whether the thread stands at such a moment by its list
abbrev pub is_due : Option ℕ → Option ℕ → Waiting → Bool
is_due after until s = list_any (due_spot after until) s.spots

abbrev pub fresh : Waiting
fresh = record { spots = []; everywhere = false; ready = false; left = true; runs = true }

-- whether the spot is no moment
abbrev pub lasts : Spot → Bool
lasts (Channel n) = true
lasts (Ended n) = true
lasts (Moment n) = false

abbrev pub running : Waiting → Waiting
running s = record { spots = filter lasts s.spots; everywhere = false; ready = false; left = true; runs = true }

abbrev pub resting : Bool → Waiting → Waiting
resting b s = record s { ready = false; left = b; runs = false }

abbrev pub stood : List Spot → Waiting → Waiting
stood spots s = record s { spots = spots; everywhere = false }

abbrev pub spread_at : List Spot → Waiting → Waiting
spread_at spots s = record s { spots = spots; everywhere = true }

abbrev pub IsStood : List Spot → Waiting → Waiting → Type 0
IsStood spots s w = (w ≡ stood spots s) ⊎ ((some : List Spot) × (w ≡ spread_at some s))

abbrev pub mark_in : Waiting → Option Bool
mark_in s = cond (s.left || s.runs) None (Some s.ready)

abbrev pub mark_of : Option Waiting → Option Bool
mark_of None = None
mark_of (Some s) = mark_in s

abbrev pub tested : Bool → Waiting → Waiting
tested b s = record s { ready = b; left = false }

abbrev pub touched : Waiting → Waiting
touched s = record s { left = true }

abbrev pub spread_out : Waiting → Waiting
spread_out s = record s { everywhere = true; left = true }

abbrev pub so_changed : (Waiting → Bool) → (ℕ → Waiting → Waiting) → ℕ → Waiting → Waiting
so_changed p f t s = cond (p s) (f t s) s

abbrev pub where_so : (Waiting → Bool) → (ℕ → Waiting → Waiting) → WaitMap → WaitMap
where_so p f w = changed (so_changed p f) w

abbrev pub AreTested : (ℕ → Bool) → WaitMap → WaitMap → Type 0
AreTested ready v w =
    (t : ℕ) → (get w t ≡ get v t) ⊎ ((flag is_left (get v t) ≡ true) × (get w t ≡ option_map (tested (ready t)) (get v t)))

abbrev pub is_up : (ℕ → Bool) → Option Waiting → ℕ → Bool
is_up ready None t = false
is_up ready (Some s) t = not s.runs && ready t

abbrev pub IsExact : (ℕ → Bool) → WaitMap → Type 0
IsExact ready w = (t : ℕ) (s : Waiting) → get w t ≡ Some s → s.left ≡ false → s.ready ≡ ready t
