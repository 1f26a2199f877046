-- Entries as time goes on, and as channels and processes change at which all who stand there are left to be tested.
--     quiet_entries      a change of the time, channels and statuses alone
--     kept_is_watched      where nothing changes, and more threads are left to be tested
--     time_is_watched      as time goes on
--     channels_are_watched, statuses_are_watched      as channels change, and the ends of processes
use Rattle.std.proofs.Common.{◌≡◌, ◌⊎◌, ℕ, ◌≤◌, ◌||◌, Bool, true, false, inl, inr, List, [], ◌∷◌, Option, None, Some, IsSome, refl, sym, ap, subst, ◌∙◌}
use Rattle.std.proofs.lemmas.Bool.{eqb-true}
use Rattle.std.specs.Ordering.{nat_cmp}
use Rattle.std.specs.List.{list_any}
use Rattle.std.specs.FinMap.{FinMap, get}
use Rattle.abi_types.specs.declared.status.Status.{Status}
use Rattle.kernel_model.specs.Channels.{Channel}
use Rattle.kernel_model.specs.Deadlines as model
use Rattle.abi_types.specs.declared.descriptor.Descriptor.{Descriptor}
use Rattle.kernel_model.specs.Release.{is_of_process, is_reader, is_writer}
use Rattle.kernel_model.specs.State.{State}
use Rattle.kernel_model.specs.WaitLaws.{at_moment}
use Rattle.kernel_model.proofs.Tests.{not_true, or_false}
use Rattle.wait_set.specs.declared.spot.Spot.{Spot}
use Rattle.wait_set.specs.declared.spot.Spot.TheVariants as spot
use Rattle.wait_set.specs.declared.waiting.Waiting.{Waiting}
use Rattle.wait_set.specs.Spots.{listed, same_spot}
use Rattle.wait_set.specs.Waits.{WaitMap, due_spot, is_due, is_within, lists, stands}
use Rattle.readiness_laws.specs.PlaceLaws.{row_in}
use Rattle.readiness_laws.specs.Watched.{AreEntries, IsWatched, looked_at}
use Rattle.readiness_laws.specs.WatchedChanges.{AreKept, AreLeftAt, all_stay, stays}
use Rattle.readiness_laws.proofs.Changing.{come_same}
use Rattle.readiness_laws.proofs.Watched.{changed_entries}
use Rattle.readiness_laws.proofs.WatchedSets.{kept_entry, kept_none}

none_some : {A : Type 0} (o : Option Waiting) → o ≡ None → IsSome o → A
none_some o none some = absurd (not_true (subst IsSome none some))

-- what an entry's thread looks at has changed at no channel, at no process's end and at no moment unless it is left
module _ (S : State) (clock : ℕ) (statuses : FinMap nat_cmp Status) (chans : FinMap nat_cmp Channel) (V W : WaitMap) (before : AreEntries S V) (kept : AreKept V W) where
  abbrev T : State
  T = record S { clock = clock; statuses = statuses; chans = chans }

  pub quiet_entries :
      ((k c p n : ℕ) (w : Waiting) (d : Descriptor) → get W k ≡ Some w → w.left ≡ false → stands (spot.Channel c) w ≡ true → row_in (get S.tables p) n ≡ Some d
      → (is_reader c (get S.opens d.id) || is_writer c (get S.opens d.id)) ≡ true → get chans c ≡ get S.chans c)
      → ((k q p n : ℕ) (w : Waiting) (d : Descriptor) → get W k ≡ Some w → w.left ≡ false → stands (spot.Ended q) w ≡ true → row_in (get S.tables p) n ≡ Some d
      → is_of_process q (get S.opens d.id) ≡ true → get statuses q ≡ get S.statuses q)
      → ((k m : ℕ) (w : Waiting) → get W k ≡ Some w → w.left ≡ false → stands (spot.Moment m) w ≡ true → model.is_due clock (Some m) ≡ model.is_due S.clock (Some m))
      → AreEntries T W
  quiet_entries channels ends moments =
      changed_entries S T V W before (record {
        may = before.may;
        small = before.small;
        kept = kept_entry V W kept;
        gone = λ p t small none some. none_some _ (kept_none V W kept _ none) some;
        threads = λ p t small. stays refl;
        rows = λ p t w call since until stage small there unless waits. all_stay refl;
        opens = λ p n d was now. refl;
        flags = λ k c p n w d there done at was now of. refl;
        channels = λ k c p n w d there done at was now of. channels k c p n w d there done at was of;
        ends = λ k q p n w d there done at was now of. ends k q p n w d there done at was of;
        moments = moments;
      })

-- it does no harm to test more threads than a change concerns
pub kept_is_watched : (S : State) (V W : WaitMap) → IsWatched S V → AreKept V W → IsWatched S W
kept_is_watched S V W before kept =
    quiet_entries (looked_at S) S.clock S.statuses S.chans V W before kept
    (λ k c p n w d there done at was of. refl) (λ k q p n w d there done at was of. refl) (λ k m w there done at. refl)

-- ---- time

due_listed : (after until : Option ℕ) (m : ℕ) (spots : List Spot) → is_within after until m ≡ true → listed (spot.Moment m) spots ≡ true
    → list_any (due_spot after until) spots ≡ true
due_listed after until m [] within is = absurd (not_true is)
due_listed after until m (x ∷ xs) within is =
    elim (same_spot (spot.Moment m) x) as (λ b. same_spot (spot.Moment m) x ≡ b → (b || listed (spot.Moment m) xs) ≡ true
    → (due_spot after until x || list_any (due_spot after until) xs) ≡ true) [
      | true ↦ λ same _. ap (λ b. b || list_any (due_spot after until) xs) (here x same)
      | false ↦ λ _ later. rest (due_spot after until x) (due_listed after until m xs within later)
    ] refl is where
      here : (x : Spot) → same_spot (spot.Moment m) x ≡ true → due_spot after until x ≡ true
      here (spot.Channel n) same = absurd (not_true same)
      here (spot.Ended n) same = absurd (not_true same)
      here (spot.Moment n) same = ap (is_within after until) (sym (eqb-true m n same)) ∙ within

      rest : (b : Bool) {c : Bool} → c ≡ true → (b || c) ≡ true
      rest true h = refl
      rest false h = h

not_within : (b : Bool) (c : Bool) → (b ≡ true → c ≡ true) → c ≡ false → b ≡ false
not_within true c leads fails = absurd (not_true (sym fails ∙ leads refl))
not_within false c leads fails = refl

-- who waits until a moment that comes is left, and so is whoever stands everywhere
pub time_is_watched : (S : State) (later : ℕ) (V W : WaitMap) → IsWatched S V → AreKept V W → S.clock ≤ later
    → ((k : ℕ) (w : Waiting) → get W k ≡ Some w → w.left ≡ false → (is_due (Some S.clock) (Some later) w ≡ false) × (w.everywhere ≡ false))
    → IsWatched (at_moment S later) W
time_is_watched S later V W before kept forward left =
    quiet_entries (looked_at S) later S.statuses S.chans V W before kept
    (λ k c p n w d there done at was of. refl) (λ k q p n w d there done at was of. refl)
    (λ k m w there done at.
    let not_due = left k w there done in
    let listed_there = sym (or_false (lists (spot.Moment m) w)) ∙ ap (λ b. lists (spot.Moment m) w || b) (sym not_due.1) ∙ at in
    sym (come_same S.clock later m forward (not_within (is_within (Some S.clock) (Some later) m) _
    (λ within. due_listed (Some S.clock) (Some later) m w.spots within listed_there) not_due.0)))

-- ---- channels, and the ends of processes

-- each channel of an open that some number names is the same, or those who stand there are left
pub channels_are_watched : (S : State) (chans : FinMap nat_cmp Channel) (V W : WaitMap) → IsWatched S V → AreKept V W
    → ((c p n : ℕ) (d : Descriptor) → row_in (get S.tables p) n ≡ Some d → (is_reader c (get S.opens d.id) || is_writer c (get S.opens d.id)) ≡ true
    → (get chans c ≡ get S.chans c) ⊎ AreLeftAt (spot.Channel c) W)
    → IsWatched (record S { chans = chans }) W
channels_are_watched S chans V W before kept each =
    quiet_entries (looked_at S) S.clock S.statuses chans V W before kept
    (λ k c p n w d there done at was of. elim (each c p n d was of) [ inl same ↦ same | inr left ↦ absurd (not_true (sym done ∙ left.left k w there at)) ])
    (λ k q p n w d there done at was of. refl) (λ k m w there done at. refl)

-- so the end of each process
pub statuses_are_watched : (S : State) (statuses : FinMap nat_cmp Status) (V W : WaitMap) → IsWatched S V → AreKept V W
    → ((q p n : ℕ) (d : Descriptor) → row_in (get S.tables p) n ≡ Some d → is_of_process q (get S.opens d.id) ≡ true
    → (get statuses q ≡ get S.statuses q) ⊎ AreLeftAt (spot.Ended q) W)
    → IsWatched (record S { statuses = statuses }) W
statuses_are_watched S statuses V W before kept each =
    quiet_entries (looked_at S) S.clock statuses S.chans V W before kept
    (λ k c p n w d there done at was of. refl)
    (λ k q p n w d there done at was of. elim (each q p n d was of) [ inl same ↦ same | inr left ↦ absurd (not_true (sym done ∙ left.left k w there at)) ])
    (λ k m w there done at. refl)
