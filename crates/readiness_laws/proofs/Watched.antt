-- Entries that go with a state go with the next one, where a change leaves to be tested whomever it concerns.
--     idle_until, idle_unready, idle_may, idle_entry      of a thread that doesn't wait, or runs
--     runs_or_waits      a thread that doesn't wait runs
--     all_everywhere      one that stands everywhere stands at each spot
--     until_counts      until when a thread waits counts, if it waits until its call's deadline
--     changed_entries, changed_is_watched      after a change
--     touched_is_watched      after something has ended
use Rattle.std.proofs.Common.{◌≡◌, ◌⊎◌, ℕ, ◌^◌, ◌<◌, ◌&&◌, ◌||◌, Bool, true, false, inl, inr, List, [], ◌∷◌, ◌++◌, Option, None, Some, IsSome, refl, sym, ap, subst, ◌∙◌}
use Rattle.std.proofs.lemmas.Bool.{eq-eqb}
use Rattle.std.specs.Prelude.{if◌then◌else◌, nat_lt}
use Rattle.std.specs.FinMap.{get}
use Rattle.std.specs.List.{AllByRecursion}
use Rattle.abi_types.specs.declared.call.Call.{Call}
use Rattle.abi_types.specs.declared.constants.Constants.{Constants}
use Rattle.abi_types.specs.declared.descriptor.Descriptor.{Descriptor}
use Rattle.abi_types.specs.declared.thread.Stage.{Stage}
use Rattle.abi_types.specs.declared.thread.Thread.{Thread}
use Rattle.abi_types.specs.declared.thread.Thread.TheVariants.{Runnable, Waits}
use Rattle.kernel_model.specs.Calls.{meaning_of}
use Rattle.kernel_model.specs.Deadlines.{is_due, soon}
use Rattle.kernel_model.specs.State.{State, Table, thread_of}
use Rattle.kernel_model.specs.Waits.{has_left, may_wait, HasDeadline, MayWait}
use Rattle.kernel_model.specs.Wakes.{is_ready, is_ready_as}
use Rattle.kernel_model.proofs.Tests.{and_false, none_is_no, not_true, or_false, or_true}
use Rattle.kernel_parts.specs.Touched.{IsKept, IsTouched}
use Rattle.kernel_parts.specs.Keys.{key}
use Rattle.wait_set.specs.declared.spot.Spot.TheVariants as spot
use Rattle.wait_set.specs.declared.spot.Spot as wait_spot
use Rattle.wait_set.specs.declared.waiting.Waiting.{Waiting}
use Rattle.wait_set.specs.Spots.{listed}
use Rattle.wait_set.specs.Waits.{WaitMap, lists, stands}
use Rattle.readiness_laws.specs.PlaceLaws.{row_in}
use Rattle.readiness_laws.specs.Spots.{Look, Spot, AreSame, IsSame, bare, call_spots, looks_of, moment_spot, never_waits, on_channel, on_end, on_flags, on_moment, on_open, on_table, on_thread, spots, waiting_spots}
use Rattle.readiness_laws.specs.Watched.{AreEntries, HasEntry, IsEntry, IsWatched, StandsAt, is_moment, is_running, is_waiting, looked_at, until_in}
use Rattle.readiness_laws.specs.WatchedChanges.{Changes, IsChanged, IsLeft, RowsStay, ThreadChange, all_stay, ends, idles, stays, told}
use Rattle.readiness_laws.proofs.Locality.{readiness_is_local}
use Rattle.readiness_laws.proofs.LookedAt.{all_lead, same_call, stay_call}
use Rattle.readiness_laws.proofs.RowsAlike.{ready_by_rows, rows_call, rows_looked}
use Rattle.readiness_laws.proofs.Standing.{all_joined, all_second, call_stays}

-- ---- threads that don't wait

pub idle_until : (o : Option Thread) → is_waiting o ≡ false → until_in o ≡ None
idle_until None idle = refl
idle_until (Some Runnable) idle = refl
idle_until (Some (Waits call since until stage)) idle = absurd (not_true (sym idle))

idle_places : (S : State) (p : ℕ) (w : Waiting) (o : Option Thread) → is_waiting o ≡ false → AllByRecursion (StandsAt w) (waiting_spots S p o)
idle_places S p w None idle = tt
idle_places S p w (Some Runnable) idle = tt
idle_places S p w (Some (Waits call since until stage)) idle = absurd (not_true (sym idle))

pub idle_unready : (constants : Constants) (S : State) (p t : ℕ) (o : Option Thread) → is_waiting o ≡ false → is_ready_as constants S p t o ≡ false
idle_unready constants S p t None idle = refl
idle_unready constants S p t (Some Runnable) idle = refl
idle_unready constants S p t (Some (Waits call since until stage)) idle = absurd (not_true (sym idle))

idle_deadline : (constants : Constants) (o : Option Thread) → is_waiting o ≡ false → HasDeadline constants o
idle_deadline constants None idle = tt
idle_deadline constants (Some Runnable) idle = tt
idle_deadline constants (Some (Waits call since until stage)) idle = absurd (not_true (sym idle))

pub idle_may : (o : Option Thread) → is_waiting o ≡ false → MayWait o
idle_may None idle = tt
idle_may (Some Runnable) idle = tt
idle_may (Some (Waits call since until stage)) idle = absurd (not_true (sym idle))

pub runs_or_waits : (o : Option Thread) → IsSome o → is_waiting o ≡ false → o ≡ Some Runnable
runs_or_waits None some idle = absurd (not_true some)
runs_or_waits (Some Runnable) some idle = refl
runs_or_waits (Some (Waits call since until stage)) some idle = absurd (not_true (sym idle))

-- of one that runs
pub idle_entry : (S : State) (p t : ℕ) (w : Waiting) → thread_of S p t ≡ Some Runnable
    → (w.everywhere ≡ false → (m : ℕ) → lists (spot.Moment m) w ≡ false) → (Constants → w.left ≡ false → w.ready ≡ false) → w.runs ≡ true → IsEntry S p t w
idle_entry S p t w is moments marks runs = record {
  moments = λ only m. moments only m ∙ ap (is_moment m) (sym (idle_until (thread_of S p t) (ap is_waiting is)));
  places = (tt, idle_places S p w (thread_of S p t) (ap is_waiting is));
  marks = λ constants done deadline. marks constants done ∙ sym (idle_unready constants S p t (thread_of S p t) (ap is_waiting is));
  there = subst IsSome (sym is) refl;
  runs = runs ∙ sym (ap is_running is);
}

-- ---- until when a thread waits

soon_again : (d : Option ℕ) → soon (soon d) ≡ soon d
soon_again None = refl
soon_again (Some until) =
    elim (nat_lt until (2 ^ 62)) as (λ b. nat_lt until (2 ^ 62) ≡ b → soon (if b then Some until else None) ≡ (if b then Some until else None)) [
      | true ↦ λ e. ap (λ b. if b then Some until else None) e
      | false ↦ λ _. refl
    ] refl

by_left : (left : Bool) (d : Option ℕ) → soon (if left then None else soon d) ≡ (if left then None else soon d)
by_left true d = refl
by_left false d = soon_again d

pub until_counts : (constants : Constants) (call : Call) (since : ℕ) (until : Option ℕ) (stage : Stage)
    → HasDeadline constants (Some (Waits call since until stage)) → soon until ≡ until
until_counts constants call since until stage is =
    ap soon is ∙ by_left (has_left call stage) ((meaning_of call).deadline constants since) ∙ sym is

-- ---- where an entry stands

stands_everywhere : (w : Waiting) (spot : Spot) → w.everywhere ≡ true → StandsAt w spot
stands_everywhere w (on_channel c) everywhere = ap (λ b. lists (spot.Channel c) w || b) everywhere ∙ or_true (lists (spot.Channel c) w)
stands_everywhere w (on_end q) everywhere = ap (λ b. lists (spot.Ended q) w || b) everywhere ∙ or_true (lists (spot.Ended q) w)
stands_everywhere w (on_table p) everywhere = tt
stands_everywhere w (on_open o) everywhere = tt
stands_everywhere w (on_flags o) everywhere = tt
stands_everywhere w (on_thread p t) everywhere = tt
stands_everywhere w (on_moment m) everywhere = tt

pub all_everywhere : (w : Waiting) → w.everywhere ≡ true → (those : List Spot) → AllByRecursion (StandsAt w) those
all_everywhere w everywhere [] = tt
all_everywhere w everywhere (spot ∷ those) = (stands_everywhere w spot everywhere, all_everywhere w everywhere those)

either_more : (a b c : Bool) → (c ≡ false → b ≡ false) → (a || b) ≡ true → (a || c) ≡ true
either_more true b c more h = refl
either_more false b true more h = refl
either_more false b false more h = absurd (not_true (sym (more refl) ∙ h))

-- one that has been kept stands where it stood
stands_still : (v w : Waiting) → IsKept v w → (x : wait_spot.Spot) → stands x v ≡ true → stands x w ≡ true
stands_still v w kept x at =
    ap (λ those. listed x those || w.everywhere) kept.spots ∙ either_more (lists x v) v.everywhere w.everywhere kept.everywhere at

kept_stands : (v w : Waiting) → IsKept v w → (spot : Spot) → StandsAt v spot → StandsAt w spot
kept_stands v w kept (on_channel c) at = stands_still v w kept (spot.Channel c) at
kept_stands v w kept (on_end q) at = stands_still v w kept (spot.Ended q) at
kept_stands v w kept (on_table p) at = tt
kept_stands v w kept (on_open o) at = tt
kept_stands v w kept (on_flags o) at = tt
kept_stands v w kept (on_thread p t) at = tt
kept_stands v w kept (on_moment m) at = tt

any_moment : (w : Waiting) (until : Option ℕ) → AllByRecursion (StandsAt w) (moment_spot until)
any_moment w None = tt
any_moment w (Some until) = (tt, tt)

both_true : (a b : Bool) → (a && b) ≡ true → a ≡ true
both_true true b h = refl
both_true false b h = absurd (not_true h)

-- ---- a change

module _ (S T : State) (V W : WaitMap) (before : AreEntries S V) (change : Changes S T V W) where
  module _ (p t : ℕ) (small : t < 2 ^ 32) (w : Waiting) (there : get W (key p t) ≡ Some w) where
    abbrev v : Waiting
    v = (change.kept (key p t) w there).0

    kept : IsKept v w
    kept = (change.kept (key p t) w there).2

    was : IsEntry S p t v
    was = subst (HasEntry S p t) (change.kept (key p t) w there).1 (before.entries p t small)

    -- an entry that isn't left is the one that there was
    mark : (constants : Constants) → w.left ≡ false → HasDeadline constants (thread_of S p t) → w.ready ≡ is_ready constants S p t
    mark constants done deadline =
        let same = kept.same done in
        ap (λ (x : Waiting). x.ready) same ∙ was.marks constants (ap (λ (x : Waiting). x.left) (sym same) ∙ done) deadline

    listed_as : w.everywhere ≡ false → (m : ℕ) → lists (spot.Moment m) w ≡ is_moment m (until_in (thread_of S p t))
    listed_as only m = ap (listed (spot.Moment m)) kept.spots ∙ was.moments (kept.everywhere only) m

    -- it tells whether the thread ran
    ran : w.runs ≡ is_running (thread_of S p t)
    ran = kept.runs ∙ was.runs

    idles_on : is_waiting (thread_of S p t) ≡ false → thread_of T p t ≡ Some Runnable → IsEntry T p t w
    idles_on idle now =
        idle_entry T p t w now (λ only m. listed_as only m ∙ ap (is_moment m) (idle_until (thread_of S p t) idle))
        (λ constants done. mark constants done (idle_deadline constants (thread_of S p t) idle) ∙ idle_unready constants S p t (thread_of S p t) idle)
        (ran ∙ ap is_running (runs_or_waits (thread_of S p t) was.there idle))

    module _ (call : Call) (since later : ℕ) (until : Option ℕ) (stage after : Stage) (waited : thread_of S p t ≡ Some (Waits call since until stage))
        (waits : thread_of T p t ≡ Some (Waits call later until after)) where
      abbrev by_stage : Bool
      by_stage = (meaning_of call).by_stage

      -- where the call looked, the entry stands still
      stood : AllByRecursion (StandsAt w) (call_spots by_stage S p call)
      stood =
          all_second (StandsAt w) (moment_spot until) (call_spots by_stage S p call)
          (subst (λ o. AllByRecursion (StandsAt w) (waiting_spots S p o)) waited
          (all_lead (StandsAt v) (StandsAt w) (kept_stands v w kept) (spots S p t) was.places).1)

      may : may_wait call ≡ true
      may = (subst MayWait waited (before.may p t)).0

      -- the first state, with the descriptors of the second
      abbrev R : State
      R = record S { tables = T.tables }

      abbrev IsAlike : ℕ → Type 0
      IsAlike n = row_in (get T.tables p) n ≡ row_in (get S.tables p) n

      opens_as : (n : ℕ) (table : Table) (d : Descriptor) → IsAlike n → get T.tables p ≡ Some table → get table n ≡ Some d
          → bare (get T.opens d.id) ≡ bare (get S.opens d.id)
      opens_as n table d alike own row =
          let now = ap (λ o. row_in o n) own ∙ row in change.opens p n d (sym alike ∙ now) now

      module _ (rows : RowsStay (get S.tables p) (get T.tables p) call) where
        looked : AllByRecursion (λ (look : Look). IsAlike look.fd) (looks_of call)
        looked = rows_looked S T.tables p call may rows

        stood_then : AllByRecursion (StandsAt w) (call_spots by_stage R p call)
        stood_then = subst (AllByRecursion (StandsAt w)) (sym (rows_call S T.tables p call may by_stage rows)) stood

        stands_where : AllByRecursion (StandsAt w) (call_spots by_stage T p call)
        stands_where =
            subst (AllByRecursion (StandsAt w)) (sym (call_stays R T by_stage p call (stay_call R T p w IsAlike refl opens_as by_stage call looked stood_then))) stood_then

        -- until when it waits has come in both states or in none
        moment_as : (constants : Constants) → w.left ≡ false → HasDeadline constants (Some (Waits call since until stage)) → (d : Option ℕ) → until ≡ d
            → AreSame R T (moment_spot d)
        moment_as constants done deadline None is = tt
        moment_as constants done deadline (Some m) is = (sym (change.moments (key p t) m w there done (at_moment m is)), tt) where
          at_moment : (m : ℕ) → until ≡ Some m → stands (spot.Moment m) w ≡ true
          at_moment m counts =
              elim w.everywhere as (λ b. w.everywhere ≡ b → (lists (spot.Moment m) w || b) ≡ true) [
                | true ↦ λ _. or_true (lists (spot.Moment m) w)
                | false ↦ λ only. or_false (lists (spot.Moment m) w) ∙ listed_as only m ∙ ap (λ o. is_moment m (until_in o)) waited ∙ ap (is_moment m) counts ∙ eq-eqb m m refl
              ] refl

        -- what its call looks at is the same, where it isn't left
        same_spots : (constants : Constants) → w.left ≡ false → HasDeadline constants (Some (Waits call since until stage))
            → AreSame R T (moment_spot until ++ call_spots by_stage R p call)
        same_spots constants done deadline =
            all_joined (IsSame R T) (moment_spot until) (call_spots by_stage R p call) (moment_as constants done deadline until refl)
            (same_call R T p w IsAlike
            (λ c n table d alike at own row.
            let now = ap (λ o. row_in o n) own ∙ row in change.channels (key p t) c p n w d there done at (sym alike ∙ now) now)
            (λ q n table d alike at own row.
            let now = ap (λ o. row_in o n) own ∙ row in change.ends (key p t) q p n w d there done at (sym alike ∙ now) now)
            (λ c n table d alike at own row.
            let now = ap (λ o. row_in o n) own ∙ row in change.flags (key p t) c p n w d there done at (sym alike ∙ now) now)
            refl opens_as by_stage call looked stood_then)

        as_ready : thread_of T p t ≡ thread_of S p t → (constants : Constants) → w.left ≡ false → HasDeadline constants (thread_of T p t)
            → w.ready ≡ is_ready constants T p t
        as_ready thread constants done deadline =
            let until_then : HasDeadline constants (thread_of S p t) = subst (HasDeadline constants) thread deadline in
            mark constants done until_then ∙ ready_by_rows S T.tables p call may constants t since until stage waited rows
            ∙ readiness_is_local constants R T p t (before.may p t) until_then (
              sym thread,
              subst (λ o. AreSame R T (waiting_spots R p o)) (sym waited) (same_spots constants done (subst (HasDeadline constants) waited until_then)),
            )

      rows_unless : (w.everywhere && w.left) ≡ false → RowsStay (get S.tables p) (get T.tables p) call
      rows_unless unless = change.rows p t w call since until stage small there unless waited

      stands_on : AllByRecursion (StandsAt w) (call_spots by_stage T p call)
      stands_on =
          elim (w.everywhere && w.left) as (λ b. (w.everywhere && w.left) ≡ b → AllByRecursion (StandsAt w) (call_spots by_stage T p call)) [
            | true ↦ λ is. all_everywhere w (both_true w.everywhere w.left is) (call_spots by_stage T p call)
            | false ↦ λ is. stands_where (rows_unless is)
          ] refl

      waits_on : (w.left ≡ true) ⊎ (thread_of T p t ≡ thread_of S p t) → IsEntry T p t w
      waits_on how = record {
        moments = λ only m. listed_as only m ∙ ap (λ o. is_moment m (until_in o)) waited ∙ sym (ap (λ o. is_moment m (until_in o)) waits);
        places = (
          tt,
          subst (λ o. AllByRecursion (StandsAt w) (waiting_spots T p o)) (sym waits)
              (all_joined (StandsAt w) (moment_spot until) (call_spots by_stage T p call) (any_moment w until) stands_on),
        );
        marks = λ constants done deadline. elim how [
          | inl left ↦ absurd (not_true (sym done ∙ left))
          | inr thread ↦ as_ready (rows_unless (ap (λ b. w.everywhere && b) done ∙ and_false w.everywhere)) thread constants done deadline
        ];
        there = subst IsSome (sym waits) refl;
        runs = ran ∙ ap is_running waited ∙ sym (ap is_running waits);
      }

    -- the thread does what it did
    stays_so : (o : Option Thread) → thread_of S p t ≡ o → thread_of T p t ≡ thread_of S p t → IsEntry T p t w
    stays_so None is same = absurd (not_true (subst IsSome is was.there))
    stays_so (Some Runnable) is same = idles_on (ap is_waiting is) (same ∙ is)
    stays_so (Some (Waits call since until stage)) is same = waits_on call since since until stage stage is (same ∙ is) (inr same)

    has_come : ThreadChange (thread_of S p t) (thread_of T p t) (get W (key p t)) → IsEntry T p t w
    has_come (stays same) = stays_so (thread_of S p t) refl same
    has_come (told call since later until stage after waited waits left) = waits_on call since later until stage after waited waits (inl (subst IsLeft there left))
    has_come (ends gone none) = absurd (none_is_no w (sym none ∙ there))
    has_come (idles idle now some) = idles_on idle now

  -- where there is no entry
  module _ (p t : ℕ) (small : t < 2 ^ 32) (none : get W (key p t) ≡ None) where
    was_none : thread_of S p t ≡ None → ThreadChange (thread_of S p t) (thread_of T p t) (get W (key p t)) → thread_of T p t ≡ None
    was_none gone (stays same) = same ∙ gone
    was_none gone (told call since later until stage after waited waits left) = absurd (none_is_no (Waits call since until stage) (sym gone ∙ waited))
    was_none gone (ends now nothing) = now
    was_none gone (idles idle now some) = absurd (not_true (subst IsSome none some))

    none_now : thread_of T p t ≡ None
    none_now =
        elim (get V (key p t)) as (λ o. get V (key p t) ≡ o → thread_of T p t ≡ None) [
          | None ↦ λ is. was_none (subst (HasEntry S p t) is (before.entries p t small)) (change.threads p t small)
          | Some v ↦ λ is. change.gone p t small none (subst IsSome (sym is) refl)
        ] refl

  entry_after : (p t : ℕ) → t < 2 ^ 32 → HasEntry T p t (get W (key p t))
  entry_after p t small =
      elim (get W (key p t)) as (λ o. get W (key p t) ≡ o → HasEntry T p t o) [
        | None ↦ λ is. none_now p t small is
        | Some w ↦ λ is. has_come p t small w is (change.threads p t small)
      ] refl

  pub changed_entries : AreEntries T W
  changed_entries = record { may = change.may; small = change.small; entries = entry_after }

pub changed_is_watched : (S T : State) (V W : WaitMap) → IsWatched S V → IsChanged S T V W → IsWatched T W
changed_is_watched S T V W before change = changed_entries (looked_at S) (looked_at T) V W before change

-- ---- where something has ended

module _ (S T : State) (V W : WaitMap) (before : IsWatched S V) (touched : IsTouched S T V W) where
  -- a thread that is left was there
  still : (P : Option Thread → Type 0) → P None → (p t : ℕ) → P (thread_of S p t) → P (thread_of T p t)
  still P none p t held =
      elim (thread_of T p t) as (λ o. thread_of T p t ≡ o → P o) [
        | None ↦ λ _. none
        | Some thread ↦ λ is. subst P (touched.threads p t thread is) held
      ] refl

  thread_change : (p t : ℕ) → t < 2 ^ 32 → ThreadChange (thread_of S p t) (thread_of T p t) (get W (key p t))
  thread_change p t small =
      elim (get W (key p t)) as (λ e. get W (key p t) ≡ e → ThreadChange (thread_of S p t) (thread_of T p t) e) [
        | None ↦ λ _. still (λ o. ThreadChange (thread_of S p t) o None) (ends refl refl) p t (stays refl)
        | Some w ↦ λ is. stays (touched.stay p t w small is).thread
      ] refl

  row_open : (p n : ℕ) (d : Descriptor) → row_in (get T.tables p) n ≡ Some d → get T.opens d.id ≡ get S.opens d.id
  row_open p n d row = by_table (get T.tables p) refl row where
    by_table : (o : Option Table) → get T.tables p ≡ o → row_in o n ≡ Some d → get T.opens d.id ≡ get S.opens d.id
    by_table None own there = absurd (none_is_no d there)
    by_table (Some table) own there = (touched.rows p n table d own there).1

  pub touched_changes : IsChanged S T V W
  touched_changes = record {
    may = λ p t. still MayWait tt p t (before.may p t);
    small = λ p t. still (λ o. IsSome o → t < 2 ^ 32) (λ some. absurd (not_true some)) p t (before.small p t);
    kept = touched.kept;
    gone = touched.gone;
    threads = thread_change;
    rows = λ p t w call since until stage small there unless waits. all_stay (touched.stay p t w small there).table;
    opens = λ p n d was now. ap bare (row_open p n d now);
    flags = λ k c p n w d there done at was now of. ap never_waits (row_open p n d now);
    channels = λ k c p n w d there done at was now of. touched.channels k c w there done at;
    ends = λ k q p n w d there done at was now of. touched.ends k q w there done at;
    moments = λ k m w there done at. ap (λ clock. is_due clock (Some m)) touched.clock;
  }

  pub touched_is_watched : IsWatched T W
  touched_is_watched = changed_is_watched S T V W before touched_changes
