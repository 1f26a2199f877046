-- Threads that a change leaves as ready as they were, and marks.
--     goes_on, others_are_as_ready, entries_go_over, marks_go_on, queues_cover, marks_tell, due_stays_ready
use Rattle.std.proofs.Common.{◌≡◌, ◌≢◌, ℕ, ◌||◌, Bool, true, false, List, [], ◌∷◌, ◌++◌, Option, None, Some, IsSome, is_some, refl, sym, ap, ◌∙◌}
use Rattle.std.specs.List.{AllByRecursion, list_any}
use Rattle.abi_types.specs.declared.call.Call.{Call}
use Rattle.abi_types.specs.declared.constants.Constants.{Constants}
use Rattle.abi_types.specs.declared.thread.Thread.{Thread}
use Rattle.abi_types.specs.declared.thread.Thread.TheVariants.{Runnable, Waits}
use Rattle.kernel_model.specs.Calls.{meaning_of}
use Rattle.kernel_model.specs.State.{State, thread_of}
use Rattle.kernel_model.specs.Wakes.{is_ready, is_ready_as, NoneReady}
use Rattle.kernel_model.proofs.OpenTargets.{ends_keep_opens, opens_stay, opens_stay_here}
use Rattle.kernel_model.proofs.Readiness.{due_is_ready, idle_valid, ready_stays}
use Rattle.kernel_model.proofs.Steps.{end_valid, step_keeps_valid}
use Rattle.kernel_model.proofs.Waking.{wake_keeps_valid}
use Rattle.kernel_model.proofs.Tests.{either_false, not_true}
use Rattle.readiness_laws.specs.MarkLaws.{DueStaysReady, EntriesGoOver, GoesOver, HaveMarks, IsExactBut, IsQueued, LeavesReady, MarksGoOn, MarksTell, OthersAreAsReady, QueuesCover, besides_opens, stands_at}
use Rattle.readiness_laws.specs.LocalityLaws.{LeavesPlaces}
use Rattle.readiness_laws.specs.Spots.{Spot, AreSame, IsSame, call_spots, moment_spot, on_channel, on_end, on_flags, on_moment, on_open, on_table, on_thread, spots, waiting_spots}
use Rattle.readiness_laws.proofs.Changing.{ends_are_local, jumps_are_local, steps_are_local, wakes_are_local}
use Rattle.readiness_laws.proofs.Places.{Stay, call_stays, join, moment_stays, wake_opens}
use Rattle.readiness_laws.proofs.Locality.{readiness_is_local}
use Rattle.readiness_laws.proofs.Standing.{spots_stay}

module _ (constants : Constants) (changes : Spot → Bool) (S T : State) (goes : GoesOver constants changes S T) where
  -- spots of which none is changed, but that opens may be where they are of the same
  but_opens : (those : List Spot) → list_any (besides_opens changes) those ≡ false → Stay S T those → AreSame S T those
  but_opens [] h stay = tt
  but_opens (spot ∷ those) h stay =
      let apart = either_false (besides_opens changes spot) (list_any (besides_opens changes) those) h in
      (same spot apart.0 stay.0, but_opens those apart.1 stay.1) where
        same : (spot : Spot) → besides_opens changes spot ≡ false → LeavesPlaces S T spot → IsSame S T spot
        same (on_open o) apart stays = stays
        same (on_table p) apart stays = goes.only (on_table p) apart
        same (on_flags o) apart stays = goes.only (on_flags o) apart
        same (on_channel c) apart stays = goes.only (on_channel c) apart
        same (on_end p) apart stays = goes.only (on_end p) apart
        same (on_thread p t) apart stays = goes.only (on_thread p t) apart
        same (on_moment until) apart stays = goes.only (on_moment until) apart

  module _ (p : ℕ) where
    -- the table of a call's process is among its spots
    first_apart : (rest : List Spot) → list_any (besides_opens changes) (on_table p ∷ rest) ≡ false → changes (on_table p) ≡ false
    first_apart rest h = (either_false (changes (on_table p)) (list_any (besides_opens changes) rest) h).0

    table_apart : (until : Option ℕ) (rest : List Spot) → list_any (besides_opens changes) (moment_spot until ++ on_table p ∷ rest) ≡ false
        → changes (on_table p) ≡ false
    table_apart None rest h = first_apart rest h
    table_apart (Some until) rest h = first_apart rest (either_false (changes (on_moment until)) (list_any (besides_opens changes) (on_table p ∷ rest)) h).1

    stay_by : (by_stage : Bool) (until : Option ℕ) (call : Call) → list_any (besides_opens changes) (moment_spot until ++ call_spots by_stage S p call) ≡ false
        → Stay S T (moment_spot until ++ call_spots by_stage S p call)
    stay_by true until call h = join S T (moment_spot until) [] (moment_stays S T until) tt
    stay_by false until call h =
        join S T (moment_spot until) (call_spots false S p call) (moment_stays S T until)
        (call_stays S T goes.before goes.after goes.opens p (goes.only (on_table p) (table_apart until _ h)) false call)

    waiting_stays : (o : Option Thread) → list_any (besides_opens changes) (waiting_spots S p o) ≡ false → Stay S T (waiting_spots S p o)
    waiting_stays None h = tt
    waiting_stays (Some Runnable) h = tt
    waiting_stays (Some (Waits call since until stage)) h = stay_by (meaning_of call).by_stage until call h

  -- a thread that does what it did, and waits for nothing that is changed
  pub goes_on : (p t : ℕ) → thread_of S p t ≡ thread_of T p t → list_any (besides_opens changes) (waiting_spots S p (thread_of S p t)) ≡ false
      → LeavesReady constants S T p t
  goes_on p t thread apart =
      let same : AreSame S T (spots S p t) = (thread, but_opens (waiting_spots S p (thread_of S p t)) apart (waiting_stays p (thread_of S p t) apart)) in
      record {
        ready = readiness_is_local constants S T p t (goes.before.nearly.waits p t) (goes.deadlines p t) same;
        spots = spots_stay S T p t same;
      }

pub others_are_as_ready : OthersAreAsReady
others_are_as_ready constants changes S T p t goes apart =
    let each = either_false (changes (on_thread p t)) (list_any (besides_opens changes) (waiting_spots S p (thread_of S p t))) apart in
    goes_on constants changes S T goes p t (goes.only (on_thread p t) each.0) each.1

pub marks_go_on : MarksGoOn
marks_go_on constants changes S T left marks goes exact p t mark has h =
    let apart = either_false (left p t) (stands_at changes S p t) h in
    exact p t mark has apart.0 ∙ (others_are_as_ready constants changes S T p t goes apart.1).ready

pub due_stays_ready : DueStaysReady
due_stays_ready constants S p t later call since until stage valid deadlines there come after =
    let ready = due_is_ready constants S p t call since until stage valid deadlines there come in (ready, ready_stays constants S p t later ready after)

-- ---- entries of a history

pub entries_go_over : EntriesGoOver
entries_go_over = record {
  steps = λ constants S who call given T step valid deadlines. record {
    only = steps_are_local constants S who call given T step;
    before = valid;
    after = step_keeps_valid constants S who call given T step valid;
    opens = opens_stay constants S who call given T valid step;
    deadlines = deadlines;
  };
  wakes = λ constants S who call given answered T wakes valid deadlines. record {
    only = wakes_are_local constants S who call given answered T wakes;
    before = valid;
    after = wake_keeps_valid constants S who call given answered T wakes valid;
    opens = wake_opens constants S who call given answered T wakes valid;
    deadlines = deadlines;
  };
  ends = λ constants S p status there dead valid deadlines. record {
    only = ends_are_local S p status;
    before = valid;
    after = end_valid S p status there dead valid;
    opens = ends_keep_opens S p status;
    deadlines = deadlines;
  };
  jumps = λ constants S valid deadlines. record {
    only = jumps_are_local S;
    before = valid;
    after = idle_valid S valid;
    opens = opens_stay_here S;
    deadlines = deadlines;
  };
}

-- ---- queues

-- one that isn't left stands at no changed spot, since it stands in all its queues
stands_elsewhere : (changes : Spot → Bool) (queues : Spot → ℕ → ℕ → Bool) (left : ℕ → ℕ → Bool) (p t : ℕ) → left p t ≡ false
    → ((spot : Spot) → besides_opens changes spot ≡ true → queues spot p t ≡ true → left p t ≡ true) → (those : List Spot)
    → AllByRecursion (IsQueued queues p t) those → list_any (besides_opens changes) those ≡ false
stands_elsewhere changes queues left p t apart covers [] all = refl
stands_elsewhere changes queues left p t apart covers (spot ∷ those) all =
    ap (λ b. b || list_any (besides_opens changes) those) (one spot all.0) ∙ stands_elsewhere changes queues left p t apart covers those all.1 where
      by : (spot : Spot) → queues spot p t ≡ true → besides_opens changes spot ≡ false
      by spot queued =
          elim (besides_opens changes spot) as (λ b. besides_opens changes spot ≡ b → b ≡ false) [
            | true ↦ λ is. absurd (not_true (sym apart ∙ covers spot is queued))
            | false ↦ λ _. refl
          ] refl

      one : (spot : Spot) → IsQueued queues p t spot → besides_opens changes spot ≡ false
      one (on_open o) queued = refl
      one (on_table q) queued = by (on_table q) queued
      one (on_flags o) queued = by (on_flags o) queued
      one (on_channel c) queued = by (on_channel c) queued
      one (on_end q) queued = by (on_end q) queued
      one (on_thread q u) queued = by (on_thread q u) queued
      one (on_moment until) queued = by (on_moment until) queued

pub queues_cover : QueuesCover
queues_cover constants changes S T queues left marks goes exact stand covers p t mark has apart =
    exact p t mark has apart
    ∙ (others_are_as_ready constants changes S T p t goes
    (stands_elsewhere changes queues left p t apart (λ spot. covers spot p t) (spots S p t) (stand p t (ap is_some has)))).ready

-- ---- marks that tell

pub is_marked : (constants : Constants) (S : State) (marks : ℕ → ℕ → Option Bool) (p t : ℕ) → IsExactBut constants S (λ p t. false) marks
    → marks p t ≡ Some true → is_ready constants S p t ≡ true
is_marked constants S marks p t exact is = sym (exact p t true is refl)

unmarked : (mark : Bool) → mark ≢ true → mark ≡ false
unmarked true isnt = absurd (isnt refl)
unmarked false isnt = refl

no_mark : (constants : Constants) (S : State) (marks : ℕ → ℕ → Option Bool) → IsExactBut constants S (λ p t. false) marks
    → ((p t : ℕ) → marks p t ≢ Some true) → (p t : ℕ) → IsSome (marks p t) → is_ready constants S p t ≡ false
no_mark constants S marks exact none p t there =
    elim (marks p t) as (λ o. marks p t ≡ o → IsSome o → is_ready constants S p t ≡ false) [
      | None ↦ λ _ no_one. absurd (not_true no_one)
      | Some mark ↦ λ is _. sym (exact p t mark is refl) ∙ unmarked mark (λ so. none p t (is ∙ ap Some so))
    ] refl there

pub none_marked : (constants : Constants) (S : State) (marks : ℕ → ℕ → Option Bool) → IsExactBut constants S (λ p t. false) marks → HaveMarks S marks
    → ((p t : ℕ) → marks p t ≢ Some true) → NoneReady constants S
none_marked constants S marks exact have none p t =
    elim (thread_of S p t) as (λ o. thread_of S p t ≡ o → is_ready constants S p t ≡ false) [
      | None ↦ λ is. ap (is_ready_as constants S p t) is
      | Some thread ↦ λ is. by_thread thread is
    ] refl where
      by_thread : (thread : Thread) → thread_of S p t ≡ Some thread → is_ready constants S p t ≡ false
      by_thread Runnable is = ap (is_ready_as constants S p t) is
      by_thread (Waits call since until stage) is = no_mark constants S marks exact none p t (have p t (Waits call since until stage) is tt)

pub marks_tell : MarksTell
marks_tell = record { marked = is_marked; none = none_marked }
