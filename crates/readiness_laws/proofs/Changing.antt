-- What changes leave as it was.
--     changes_follow, threads_are_told      changes one after another, and of threads that are told
--     time_is_local, threads_are_local, updates_are_local, release_is_local      by what changes
--     steps_are_local, wakes_are_local, ends_are_local, jumps_are_local      by the entry of a history
use Rattle.std.proofs.Common.{◌≡◌, ℕ, ◌+◌, ◌==◌, ◌<◌, ◌≤◌, ◌&&◌, Bool, true, false, not, inl, inr, [], ◌∷◌, Option, None, Some, refl, sym, ap, subst, ◌∙◌, arith}
use Rattle.std.proofs.lemmas.Bool.{lt-ltb, ltb-true}
use Rattle.std.specs.Prelude.{nat_lt, if◌then◌else◌}
use Rattle.std.specs.Option.{option_map}
use Rattle.std.specs.FinMap.{get}
use Rattle.abi_types.specs.declared.call.Call.{Call}
use Rattle.abi_types.specs.declared.constants.Constants.{Constants}
use Rattle.abi_types.specs.declared.reply.Answer.{Answer}
use Rattle.abi_types.specs.declared.reply.Answer.TheVariants as answer
use Rattle.abi_types.specs.declared.thread.Thread.{Thread}
use Rattle.abi_types.specs.declared.wake.WakeIn.TheVariants as wake
use Rattle.abi_types.specs.declared.who.Who.{Who}
use Rattle.maps.specs.Maps.{get-insert-other, get-remove-other}
use Rattle.kernel_model.specs.Deadlines.{idle_state, is_due, least_deadline}
use Rattle.kernel_model.specs.Families.Locks.{with_word}
use Rattle.kernel_model.specs.Families.ProcessCalls.{end_updates}
use Rattle.kernel_model.specs.Release.{release}
use Rattle.kernel_model.specs.State.{State, ProcessState, Update, Agree, put_all, put_one, drop_own, set_chan, set_open, set_process, set_status, set_table, thread_in, thread_of}
use Rattle.kernel_model.specs.Step.{end_unreleased, outcome, step_state, tick, unreleased}
use Rattle.kernel_model.specs.Waits.{resumed, waiting, waits_if}
use Rattle.kernel_model.proofs.Deadlines.{jump_goes_on}
use Rattle.kernel_model.proofs.Parts.{other_number}
use Rattle.kernel_model.proofs.Tests.{either_false, not_true}
use Rattle.kernel_model.proofs.Threading.{with_thread_of}
use Rattle.kernel_model.proofs.Touches.{end_is, release_keeps}
use Rattle.readiness_laws.specs.ChangeLaws.{ChangesFollow, EndsAreLocal, JumpsAreLocal, ReleaseIsLocal, StepsAreLocal, ThreadsAreLocal, ThreadsAreTold, TimeIsLocal, UpdatesAreLocal, WakesAreLocal}
use Rattle.readiness_laws.specs.Changes.{ChangesOnly, all_set_by, either, end_changes, ended_by, moments, of_thread, part_at, set_by, step_changes, wake_changes, where_parked}
use Rattle.readiness_laws.specs.Spots.{Spot, IsSame, bare, never_waits, on_channel, on_end, on_flags, on_moment, on_open, on_table, on_thread}

-- ---- spots that are the same

pub same_self : (S : State) (spot : Spot) → IsSame S S spot
same_self S (on_table p) = refl
same_self S (on_open o) = refl
same_self S (on_flags o) = refl
same_self S (on_channel c) = refl
same_self S (on_end p) = refl
same_self S (on_thread p t) = refl
same_self S (on_moment until) = refl

same_through : (S T U : State) (spot : Spot) → IsSame S T spot → IsSame T U spot → IsSame S U spot
same_through S T U (on_table p) one two = one ∙ two
same_through S T U (on_open o) one two = one ∙ two
same_through S T U (on_flags o) one two = one ∙ two
same_through S T U (on_channel c) one two = one ∙ two
same_through S T U (on_end p) one two = one ∙ two
same_through S T U (on_thread p t) one two = one ∙ two
same_through S T U (on_moment until) one two = one ∙ two

pub changes_follow : ChangesFollow
changes_follow first second S T U one two spot h =
    let apart = either_false (first spot) (second spot) h in same_through S T U spot (one spot apart.0) (two spot apart.1)

pub threads_are_told : ThreadsAreTold
threads_are_told changes told S T only same (on_thread p t) h = same p t h
threads_are_told changes told S T only same (on_table p) h = only (on_table p) h
threads_are_told changes told S T only same (on_open o) h = only (on_open o) h
threads_are_told changes told S T only same (on_flags o) h = only (on_flags o) h
threads_are_told changes told S T only same (on_channel c) h = only (on_channel c) h
threads_are_told changes told S T only same (on_end p) h = only (on_end p) h
threads_are_told changes told S T only same (on_moment until) h = only (on_moment until) h

-- a change that is among others
first_of : (first second : Spot → Bool) (S T : State) → ChangesOnly first S T → ChangesOnly (either first second) S T
first_of first second S T only spot h = only spot (either_false (first spot) (second spot) h).0

-- ---- time

-- a moment that comes neither way is where it was
pub come_same : (before after until : ℕ) → before ≤ after → (nat_lt before until && not (nat_lt after until)) ≡ false
    → not (nat_lt before until) ≡ not (nat_lt after until)
come_same before after until forward h =
    elim (nat_lt after until) as (λ b. nat_lt after until ≡ b → (nat_lt before until && not b) ≡ false → not (nat_lt before until) ≡ not b) [
      | true ↦ λ ahead _. ap not (lt-ltb before until (let later : after < until = ltb-true after until ahead in omega (arith, later, forward)))
      | false ↦ λ _ none. came (nat_lt before until) none
    ] refl h where
      came : (b : Bool) → (b && true) ≡ false → not b ≡ true
      came true e = absurd (not_true (sym e))
      came false e = refl

pub time_is_local : TimeIsLocal
time_is_local S later forward (on_moment until) h = come_same S.clock later until forward h
time_is_local S later forward (on_table p) h = refl
time_is_local S later forward (on_open o) h = refl
time_is_local S later forward (on_flags o) h = refl
time_is_local S later forward (on_channel c) h = refl
time_is_local S later forward (on_end p) h = refl
time_is_local S later forward (on_thread p t) h = refl

tick_is_local : (S : State) → ChangesOnly (moments S.clock (S.clock + 1000)) S (tick S)
tick_is_local S = time_is_local S (S.clock + 1000) (let n = S.clock in omega (arith))

pub jumps_are_local : JumpsAreLocal
jumps_are_local S =
    time_is_local S (idle_state S).clock (let goes = jump_goes_on S.clock (least_deadline S) in omega (arith, goes))

-- ---- threads

kept_thread : (thread : Thread) (o : Option Thread) (b : Bool) → b ≡ false → option_map (λ before. if b then thread else before) o ≡ o
kept_thread thread o true h = absurd (not_true (sym h))
kept_thread thread None false h = refl
kept_thread thread (Some before) false h = refl

pub threads_are_local : ThreadsAreLocal
threads_are_local S p t thread (on_thread q u) h = sym (with_thread_of S p t thread q u ∙ kept_thread thread (thread_of S q u) ((q == p) && (u == t)) h)
threads_are_local S p t thread (on_table q) h = refl
threads_are_local S p t thread (on_open o) h = refl
threads_are_local S p t thread (on_flags o) h = refl
threads_are_local S p t thread (on_channel c) h = refl
threads_are_local S p t thread (on_end q) h = refl
threads_are_local S p t thread (on_moment until) h = refl

parked_is_local : (given : Answer) (who : Who) (thread : Thread) (S : State) → ChangesOnly (where_parked given who) S (waits_if given who thread S)
parked_is_local (answer.Parked writes) who thread S spot h = threads_are_local S who.pid who.tid thread spot h
parked_is_local (answer.Reply reply) who thread S spot h = same_self S spot

-- ---- updates

-- what a thread does stands in what its process has of its own
pub same_own : (S T : State) (p : ℕ) → get S.processes p ≡ get T.processes p → (t : ℕ) → thread_of S p t ≡ thread_of T p t
same_own S T p same t = ap (λ (o : Option ProcessState). thread_in (option_map (λ (own : ProcessState). own.threads) o) t) same

one_is_local : (update : Update) (S : State) → ChangesOnly (set_by update) S (put_one update S)
one_is_local (set_table p table) S (on_table q) h = sym (get-insert-other S.tables p table q (other_number p q h))
one_is_local (set_process p own) S (on_thread q t) h =
    same_own S (put_one (set_process p own) S) q (sym (get-insert-other S.processes p own q (other_number p q h))) t
one_is_local (drop_own p) S (on_table q) h = sym (get-remove-other S.tables p q (other_number p q h))
one_is_local (drop_own p) S (on_thread q t) h =
    same_own S (put_one (drop_own p) S) q (sym (get-remove-other S.processes p q (other_number p q h))) t
one_is_local (set_status p status) S (on_end q) h = sym (get-insert-other S.statuses p status q (other_number p q h))
one_is_local (set_open o kind) S (on_open r) h = ap bare (sym (get-insert-other S.opens o kind r (other_number o r h)))
one_is_local (set_open o kind) S (on_flags r) h = ap never_waits (sym (get-insert-other S.opens o kind r (other_number o r h)))
one_is_local (set_chan c channel) S (on_channel e) h = sym (get-insert-other S.chans c channel e (other_number c e h))
one_is_local update S spot h = same_self S spot

pub updates_are_local : UpdatesAreLocal
updates_are_local [] S spot h = same_self S spot
updates_are_local (update ∷ updates) S spot h =
    changes_follow (set_by update) (all_set_by updates) S (put_one update S) (put_all (update ∷ updates) S) (one_is_local update S)
    (updates_are_local updates (put_one update S)) spot h

-- ---- the release

agree_same : (S T : State) (spot : Spot) → Agree T S (part_at spot) → S.clock ≡ T.clock → IsSame S T spot
agree_same S T (on_table p) agree clock = sym agree.0
agree_same S T (on_open o) agree clock = ap bare (sym agree)
agree_same S T (on_flags o) agree clock = ap never_waits (sym agree)
agree_same S T (on_channel c) agree clock = sym agree
agree_same S T (on_end p) agree clock = sym agree
agree_same S T (on_thread p t) agree clock = same_own S T p (sym agree.1) t
agree_same S T (on_moment until) agree clock = ap (λ now. is_due now (Some until)) clock

pub release_is_local : ReleaseIsLocal
release_is_local S spot h = agree_same S (release S) spot (release_keeps S (part_at spot) h) refl

-- ---- entries

module _ (constants : Constants) (S : State) (who : Who) (call : Call) where
  done_is_local : ChangesOnly (step_changes constants S who call) S (step_state constants S who call)
  done_is_local =
      let o = outcome constants S who call in
      let U = put_all o.updates (tick S) in
      let V = unreleased constants S who call in
      changes_follow (moments S.clock (S.clock + 1000)) _ S (tick S) (release V) (tick_is_local S)
      (changes_follow (all_set_by o.updates) _ (tick S) U (release V) (updates_are_local o.updates (tick S))
      (changes_follow (where_parked o.answer who) (ended_by V) U V (release V) (parked_is_local o.answer who (waiting constants call who (S.clock + 1000)) U)
      (release_is_local V)))

pub steps_are_local : StepsAreLocal
steps_are_local constants S who call given T (inl done) =
    subst (ChangesOnly (step_changes constants S who call) S) (sym done.1) (done_is_local constants S who call)
steps_are_local constants S who call given T (inr lacking) =
    subst (ChangesOnly (step_changes constants S who call) S) (sym lacking.2) (first_of (moments S.clock (S.clock + 1000)) _ S (tick S) (tick_is_local S))

resumes : (S : State) (who : Who) → ChangesOnly (of_thread who.pid who.tid) S (resumed S who)
resumes S who = threads_are_local S who.pid who.tid _

pub wakes_are_local : WakesAreLocal
wakes_are_local constants S who call wake.Fault answered T is =
    subst (ChangesOnly (wake_changes constants S who call wake.Fault) S) (sym is.1)
    (changes_follow (of_thread who.pid who.tid) (moments S.clock (S.clock + 1000)) S (resumed S who) (tick (resumed S who)) (resumes S who)
    (tick_is_local (resumed S who)))
wakes_are_local constants S who call (wake.Plain word) answered T is =
    changes_follow (of_thread who.pid who.tid) (step_changes constants (resumed S who) who (with_word word call)) S (resumed S who) T (resumes S who)
    (steps_are_local constants (resumed S who) who (with_word word call) answered T is.0)

pub ends_are_local : EndsAreLocal
ends_are_local S p status =
    let us = end_updates p status in
    let V = end_unreleased S p status in
    subst (ChangesOnly (end_changes S p status) S) (sym (end_is S p status))
    (changes_follow (moments S.clock (S.clock + 1000)) _ S (tick S) (release V) (tick_is_local S)
    (changes_follow (all_set_by us) (ended_by V) (tick S) V (release V) (updates_are_local us (tick S)) (release_is_local V)))
