-- Entries of threads that begin to wait, run again, are made or end.
--     one_entry      one thread does something else, and has another entry or none
--     rests_is_watched      one waits, and stands at spots that cover its own, or everywhere
--     gone_is_watched, cleared_is_watched      one is no more, and has no entry; or it runs, and has one that lists no moment
--     lasting, running_entry      of the spots of a thread that runs again none that is kept is a moment, and its entry is as it is to be
--     entry_there      each thread has an entry
--     rests_with_thread      by the model's own change of what a thread does
--     made_is_watched      a thread is made, which runs, and its entry is put in
--     none_there      where there is no thread there is no entry
--     start_is_watched      at the start
--     apart_with      other threads do what they did where one does something else
use Rattle.std.proofs.Common.{◌≡◌, ◌≢◌, ◌⊎◌, ℕ, ◌^◌, ◌<◌, Bool, true, false, inl, inr, List, [], ◌∷◌, Option, None, Some, IsSome, refl, sym, ap, subst, ◌∙◌, lit<}
use Rattle.std.proofs.lemmas.Bool.Decides.{eqb_tells}
use Rattle.std.specs.Ordering.{nat_cmp}
use Rattle.std.specs.FinMap.{FinMap, empty, get, get-empty, insert}
use Rattle.std.specs.Option.{option_map}
use Rattle.std.specs.List.{AllByRecursion, filter}
use Rattle.abi_base.specs.declared.grant.Grant.{Grant}
use Rattle.abi_types.specs.declared.constants.Constants.{Constants}
use Rattle.abi_types.specs.declared.thread.Thread.{Thread}
use Rattle.abi_types.specs.declared.thread.Thread.TheVariants.{Runnable, Waits}
use Rattle.maps.specs.Maps.{get-insert-other, get-insert-same}
use Rattle.kernel_model.specs.Start.{first_process, start_state}
use Rattle.kernel_model.specs.State.{State, ProcessState, Tree, thread_in, thread_of}
use Rattle.kernel_model.specs.Waits.{with_thread, HasDeadline, MayWait}
use Rattle.kernel_model.specs.Wakes.{is_ready}
use Rattle.kernel_model.proofs.Tests.{not_true}
use Rattle.kernel_model.proofs.Threading.{thread_apart, thread_elsewhere, thread_here}
use Rattle.kernel_parts.specs.Keys.{key}
use Rattle.wait_set.specs.declared.spot.Spot.{Spot}
use Rattle.wait_set.specs.declared.spot.Spot.TheVariants.{Channel, Ended, Moment}
use Rattle.wait_set.specs.declared.waiting.Waiting.{Waiting}
use Rattle.wait_set.specs.Spots.{listed}
use Rattle.wait_set.specs.Waits.{IsStood, WaitMap, fresh, lasts, lists, resting, running}
use Rattle.readiness_laws.specs.Spots.{AreSame, spots}
use Rattle.readiness_laws.specs.Watched.{AreEntries, Covers, HasEntry, IsEntry, IsWatched, StandsAt, is_moment, is_running, is_waiting, looked_at, until_in}
use Rattle.readiness_laws.proofs.Alike.{ready_by_parts, same_by_parts}
use Rattle.readiness_laws.proofs.Keys.{key_same}
use Rattle.readiness_laws.proofs.Locality.{readiness_is_local}
use Rattle.readiness_laws.proofs.Noted.{covers_by_parts, stood_entry}
use Rattle.readiness_laws.proofs.Standing.{spots_stay}
use Rattle.readiness_laws.proofs.Watched.{idle_entry, idle_may}

-- one of the two numbers is another
abbrev pub IsApart : ℕ → ℕ → ℕ → ℕ → Type 0
IsApart p t q u = (p ≢ q) ⊎ (t ≢ u)

-- what holds of the one, and of each that is apart, holds of each
pub of_two : (p t : ℕ) (P : ℕ → ℕ → Type 0) → P p t → ((q u : ℕ) → IsApart p t q u → P q u) → (q u : ℕ) → P q u
of_two p t P here apart q u =
    elim (eqb_tells p q) [
      | inl same ↦ elim (eqb_tells t u) [
        | inl too ↦ subst (λ k. P k u) same.1 (subst (P p) too.1 here)
        | inr other ↦ apart q u (inr other.1)
      ]
      | inr other ↦ apart q u (inl other.1)
    ]

-- a thread that waits is there, and doesn't run
waiting_there : (o : Option Thread) → is_waiting o ≡ true → IsSome o
waiting_there None waits = absurd (not_true waits)
waiting_there (Some thread) waits = refl

waiting_rests : (o : Option Thread) → is_waiting o ≡ true → is_running o ≡ false
waiting_rests None waits = refl
waiting_rests (Some Runnable) waits = absurd (not_true waits)
waiting_rests (Some (Waits call since until stage)) waits = refl

module _ (S : State) (processes : FinMap nat_cmp ProcessState) where
  abbrev T : State
  T = record S { processes = processes }

  -- the entry of a thread that does what it did
  same_entry : (p t : ℕ) (w : Waiting) → thread_of T p t ≡ thread_of S p t → MayWait (thread_of S p t) → IsEntry S p t w → IsEntry T p t w
  same_entry p t w thread may entry =
      let all : AreSame S T (spots S p t) = (sym thread, same_by_parts S processes p (thread_of S p t)) in
      record {
        moments = λ only m. entry.moments only m ∙ ap (λ o. is_moment m (until_in o)) (sym thread);
        places = subst (AllByRecursion (StandsAt w)) (sym (spots_stay S T p t all)) entry.places;
        marks = λ constants done deadline.
            let until = subst (HasDeadline constants) thread deadline in entry.marks constants done until ∙ readiness_is_local constants S T p t may until all;
        there = subst IsSome (sym thread) entry.there;
        runs = entry.runs ∙ ap is_running (sym thread);
      }

  same_or_none : (p t : ℕ) (e : Option Waiting) → thread_of T p t ≡ thread_of S p t → MayWait (thread_of S p t) → HasEntry S p t e → HasEntry T p t e
  same_or_none p t None thread may none = thread ∙ none
  same_or_none p t (Some w) thread may entry = same_entry p t w thread may entry

  module _ (V W : WaitMap) (before : AreEntries S V) (p t : ℕ) (small : t < 2 ^ 32)
      (threads : (q u : ℕ) → IsApart p t q u → thread_of T q u ≡ thread_of S q u)
      (others : (k : ℕ) → k ≢ key p t → get W k ≡ get V k) where
    keys_apart : (q u : ℕ) → u < 2 ^ 32 → IsApart p t q u → key p t ≢ key q u
    keys_apart q u below (inl apart) same = apart (key_same p t q u small below same).0
    keys_apart q u below (inr apart) same = apart (key_same p t q u small below same).1

    pub one_entry : MayWait (thread_of T p t) → HasEntry T p t (get W (key p t)) → AreEntries T W
    one_entry may entry = record {
      may = of_two p t (λ q u. MayWait (thread_of T q u)) may (λ q u apart. subst MayWait (sym (threads q u apart)) (before.may q u));
      small = of_two p t (λ q u. IsSome (thread_of T q u) → u < 2 ^ 32) (λ _. small)
          (λ q u apart some. before.small q u (subst IsSome (threads q u apart) some));
      entries = of_two p t (λ q u. u < 2 ^ 32 → HasEntry T q u (get W (key q u))) (λ _. entry) (λ q u apart below.
          subst (HasEntry T q u) (sym (others (key q u) (λ same. keys_apart q u below apart (sym same))))
          (same_or_none q u (get V (key q u)) (threads q u apart) (before.may q u) (before.entries q u below)));
    }

module _ (S : State) (processes : FinMap nat_cmp ProcessState) (V W : WaitMap) (before : IsWatched S V) (p t : ℕ) (small : t < 2 ^ 32)
    (threads : (q u : ℕ) → IsApart p t q u → thread_of (record S { processes = processes }) q u ≡ thread_of S q u)
    (others : (k : ℕ) → k ≢ key p t → get W k ≡ get V k) where
  abbrev after : State
  after = record S { processes = processes }

  by_entry : MayWait (thread_of after p t) → HasEntry (looked_at after) p t (get W (key p t)) → IsWatched after W
  by_entry may entry = one_entry (looked_at S) processes V W before p t small threads others may entry

  -- it waits, and stands at spots that cover its own, or everywhere
  pub rests_is_watched : (those : List Spot) (v w : Waiting) → MayWait (thread_of after p t) → is_waiting (thread_of after p t) ≡ true
      → get W (key p t) ≡ Some w → IsStood those v w → Covers after p t those → v.runs ≡ false
      → ((other : Constants) → v.left ≡ false → HasDeadline other (thread_of after p t) → v.ready ≡ is_ready other after p t) → IsWatched after W
  rests_is_watched those v w may waits there stands covers rests marks =
      by_entry may (subst (HasEntry (looked_at after) p t) (sym there)
      (stood_entry (looked_at after) p t those v w (covers_by_parts after p t those covers) stands
      (λ other done until. marks other done until ∙ sym (ready_by_parts other after p t may until))
      (waiting_there (thread_of after p t) waits) (rests ∙ sym (waiting_rests (thread_of after p t) waits))))

  pub gone_is_watched : thread_of after p t ≡ None → get W (key p t) ≡ None → IsWatched after W
  gone_is_watched gone none = by_entry (subst MayWait (sym gone) tt) (subst (HasEntry (looked_at after) p t) (sym none) gone)

  pub cleared_is_watched : (w : Waiting) → thread_of after p t ≡ Some Runnable → get W (key p t) ≡ Some w → ((m : ℕ) → lists (Moment m) w ≡ false)
      → w.left ≡ true → w.runs ≡ true → IsWatched after W
  cleared_is_watched w is there none left runs =
      by_entry (idle_may (thread_of after p t) (ap is_waiting is)) (subst (HasEntry (looked_at after) p t) (sym there)
      (idle_entry (looked_at after) p t w is (λ _ m. none m) (λ constants done. absurd (not_true (sym done ∙ left))) runs))

-- of the spots that are kept none is a moment
pub lasting : (m : ℕ) (spots : List Spot) → listed (Moment m) (filter lasts spots) ≡ false
lasting m [] = refl
lasting m (Channel n ∷ spots) = lasting m spots
lasting m (Ended n ∷ spots) = lasting m spots
lasting m (Moment n ∷ spots) = lasting m spots

pub running_entry : (S : State) (p t : ℕ) (v : Waiting) → thread_of S p t ≡ Some Runnable → IsEntry S p t (running v)
running_entry S p t v is = idle_entry S p t (running v) is (λ _ m. lasting m v.spots) (λ constants done. absurd (not_true (sym done))) refl

-- ---- by the thread that does something else

pub apart_with : (S : State) (p t : ℕ) (thread : Thread) (q u : ℕ) → IsApart p t q u → thread_of (with_thread S p t thread) q u ≡ thread_of S q u
apart_with S p t thread q u (inl apart) = thread_elsewhere S p t thread q (λ same. apart (sym same)) u
apart_with S p t thread q u (inr apart) =
    elim (eqb_tells q p) [
      | inl same ↦ subst (λ k. thread_of (with_thread S p t thread) k u ≡ thread_of S k u) (sym same.1) (thread_apart S p t thread u (λ is. apart (sym is)))
      | inr other ↦ thread_elsewhere S p t thread q other.1 u
    ]

there_with : (thread : Thread) (o : Option Thread) → IsSome o → option_map (λ (before : Thread). thread) o ≡ Some thread
there_with thread None some = absurd (not_true some)
there_with thread (Some before) some = refl

pub here_with : (S : State) (p t : ℕ) (thread : Thread) → IsSome (thread_of S p t) → thread_of (with_thread S p t thread) p t ≡ Some thread
here_with S p t thread there = thread_here S p t thread ∙ there_with thread (thread_of S p t) there

-- A thread begins to wait. It stands at spots that cover its own, or everywhere, and unless it is left to be tested it can't be ready.
pub rests_with_thread : (S : State) (V W : WaitMap) (p t : ℕ) (thread : Thread) (those : List Spot) (b : Bool) (v w : Waiting) → IsWatched S V
    → IsSome (thread_of S p t) → MayWait (Some thread) → is_waiting (Some thread) ≡ true → W ≡ insert V (key p t) w → IsStood those (resting b v) w
    → Covers (with_thread S p t thread) p t those
    → (b ≡ false → (other : Constants) → HasDeadline other (thread_of (with_thread S p t thread) p t) → is_ready other (with_thread S p t thread) p t ≡ false)
    → IsWatched (with_thread S p t thread) W
rests_with_thread S V W p t thread those b v w before there may waits is stands covers unready =
    let here = here_with S p t thread there in
    rests_is_watched S (with_thread S p t thread).processes V W before p t (before.small p t there) (apart_with S p t thread)
    (λ k apart. ap (λ X. get X k) is ∙ get-insert-other V (key p t) w k apart) those (resting b v) w (subst MayWait (sym here) may) (ap is_waiting here ∙ waits)
    (ap (λ X. get X (key p t)) is ∙ get-insert-same V (key p t) w) stands covers refl (λ other done until. sym (unready done other until))

-- each thread has an entry
pub entry_there : (S : State) (W : WaitMap) (p t : ℕ) → IsWatched S W → IsSome (thread_of S p t) → (w : Waiting) × (get W (key p t) ≡ Some w)
entry_there S W p t watched there =
    elim (get W (key p t)) as (λ o. get W (key p t) ≡ o → (w : Waiting) × (o ≡ Some w)) [
      | None ↦ λ is. absurd (not_true (subst IsSome (subst (HasEntry (looked_at S) p t) is (watched.entries p t (watched.small p t there))) there))
      | Some w ↦ λ _. (w, refl)
    ] refl

-- ---- threads that are made

-- A thread is made, which runs, and its entry is put in; it may have been put in before.
pub made_is_watched : (S : State) (processes : FinMap nat_cmp ProcessState) (V : WaitMap) (p t : ℕ) → IsWatched S V → t < 2 ^ 32
    → ((q u : ℕ) → IsApart p t q u → thread_of (record S { processes = processes }) q u ≡ thread_of S q u)
    → thread_of (record S { processes = processes }) p t ≡ Some Runnable → IsWatched (record S { processes = processes }) (insert V (key p t) fresh)
made_is_watched S processes V p t before small threads is =
    cleared_is_watched S processes V (insert V (key p t) fresh) before p t small threads (λ k apart. get-insert-other V (key p t) fresh k apart) fresh is
    (get-insert-same V (key p t) fresh) (λ m. refl) refl refl

-- where there is no thread there is no entry
pub none_there : (S : State) (W : WaitMap) (p t : ℕ) → IsWatched S W → t < 2 ^ 32 → thread_of S p t ≡ None → get W (key p t) ≡ None
none_there S W p t watched small none =
    elim (get W (key p t)) as (λ o. get W (key p t) ≡ o → o ≡ None) [
      | None ↦ λ _. refl
      | Some w ↦ λ is.
          let entry : IsEntry (looked_at S) p t w = subst (HasEntry (looked_at S) p t) is (watched.entries p t small) in
          absurd (not_true (subst IsSome none entry.there))
    ] refl

-- ---- the start

first_thread : (t : ℕ) → t ≢ 1 → get first_process.threads t ≡ None
first_thread t apart = get-insert-other empty 1 Runnable t apart ∙ get-empty nat_cmp t

-- what the first process's thread 1 does, and that there is no other, holds of each thread of the start
start_each : (tree : Tree) (grants : List Grant) (stdin : List ℕ) (P : ℕ → ℕ → Option Thread → Type 0) → P 0 1 (Some Runnable)
    → ((p t : ℕ) → IsApart 0 1 p t → P p t None) → (p t : ℕ) → P p t (thread_of (start_state tree grants stdin) p t)
start_each tree grants stdin P here none p t =
    of_two 0 1 (λ q u. P q u (thread_of (start_state tree grants stdin) q u)) (subst (P 0 1) (sym runs) here)
    (λ q u apart. subst (P q u) (sym (nobody q u apart)) (none q u apart)) p t where
      runs : thread_of (start_state tree grants stdin) 0 1 ≡ Some Runnable
      runs = ap (λ o. thread_in (option_map (λ (own : ProcessState). own.threads) o) 1) (get-insert-same empty 0 first_process) ∙ get-insert-same empty 1 Runnable

      nobody : (q u : ℕ) → IsApart 0 1 q u → thread_of (start_state tree grants stdin) q u ≡ None
      nobody q u (inl apart) =
          ap (λ o. thread_in (option_map (λ (own : ProcessState). own.threads) o) u)
          (get-insert-other empty 0 first_process q (λ same. apart (sym same)) ∙ get-empty nat_cmp q)
      nobody q u (inr apart) =
          elim (eqb_tells q 0) [
            | inl same ↦
                ap (λ o. thread_in (option_map (λ (own : ProcessState). own.threads) o) u)
                (ap (get (insert empty 0 first_process)) same.1 ∙ get-insert-same empty 0 first_process)
                ∙ first_thread u (λ is. apart (sym is))
            | inr other ↦
                ap (λ o. thread_in (option_map (λ (own : ProcessState). own.threads) o) u)
                (get-insert-other empty 0 first_process q other.1 ∙ get-empty nat_cmp q)
          ]

-- the entries at the start: that of thread 1 of process 0
abbrev pub first_entries : WaitMap
first_entries = insert empty (key 0 1) fresh

-- A launch starts with one thread, which runs and has an entry.
pub start_is_watched : (tree : Tree) (grants : List Grant) (stdin : List ℕ) → IsWatched (start_state tree grants stdin) first_entries
start_is_watched tree grants stdin = record {
  may = start_each tree grants stdin (λ p t o. MayWait o) tt (λ p t apart. tt);
  small = start_each tree grants stdin (λ p t o. IsSome o → t < 2 ^ 32) (λ _. lit< tt) (λ p t apart some. absurd (not_true some));
  entries = λ p t below.
      start_each tree grants stdin (λ q u o. u < 2 ^ 32 → thread_of (start_state tree grants stdin) q u ≡ o → HasEntry (looked_at (start_state tree grants stdin)) q u (get first_entries (key q u)))
      (λ _ is. subst (HasEntry (looked_at (start_state tree grants stdin)) 0 1) (sym (get-insert-same empty (key 0 1) fresh))
      (idle_entry (looked_at (start_state tree grants stdin)) 0 1 fresh is (λ _ m. refl) (λ constants done. absurd (not_true (sym done))) refl))
      (λ q u apart small is. subst (HasEntry (looked_at (start_state tree grants stdin)) q u) (sym (get-insert-other empty (key 0 1) fresh (key q u) (elsewhere q u small apart) ∙ get-empty nat_cmp (key q u))) is)
      p t below refl;
} where
  elsewhere : (q u : ℕ) → u < 2 ^ 32 → IsApart 0 1 q u → key q u ≢ key 0 1
  elsewhere q u small (inl apart) same = apart (sym (key_same q u 0 1 small (lit< tt) same).0)
  elsewhere q u small (inr apart) same = apart (sym (key_same q u 0 1 small (lit< tt) same).1)
