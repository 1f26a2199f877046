-- Entries as descriptors, opens and what threads do change.
--     tables_are_watched, own_rows      tables have changed, and those threads were spread whose calls look at what has
--     opens_are_watched      opens have changed, of the same
--     threads_are_watched      threads have begun or ended that don't wait, and others were told
use Rattle.std.proofs.Common.{◌≡◌, ◌⊎◌, ℕ, ◌^◌, ◌<◌, ◌&&◌, ◌||◌, true, false, inl, inr, Option, None, Some, IsSome, refl, sym, ap, subst, ◌∙◌}
use Rattle.std.specs.Ordering.{nat_cmp}
use Rattle.std.specs.FinMap.{FinMap, get}
use Rattle.abi_types.specs.declared.call.Call.{Call}
use Rattle.abi_types.specs.declared.descriptor.Descriptor.{Descriptor}
use Rattle.abi_types.specs.declared.open_kind.OpenKind.{OpenKind}
use Rattle.abi_types.specs.declared.thread.Stage.{Stage}
use Rattle.abi_types.specs.declared.thread.Thread.TheVariants.{Waits}
use Rattle.kernel_model.specs.Release.{is_reader, is_writer}
use Rattle.kernel_model.specs.State.{State, ProcessState, Table, thread_of}
use Rattle.kernel_model.specs.Waits.{MayWait}
use Rattle.kernel_model.proofs.Tests.{not_true}
use Rattle.kernel_parts.specs.Keys.{key}
use Rattle.wait_set.specs.declared.spot.Spot.TheVariants.{Channel}
use Rattle.wait_set.specs.declared.waiting.Waiting.{Waiting}
use Rattle.wait_set.specs.Waits.{WaitMap}
use Rattle.readiness_laws.specs.PlaceLaws.{row_in}
use Rattle.readiness_laws.specs.Spots.{bare, never_waits}
use Rattle.readiness_laws.specs.Watched.{IsWatched, is_waiting, looked_at}
use Rattle.readiness_laws.specs.WatchedChanges.{AreIdle, AreKept, AreLeftAt, AreSpread, RowsStay, ThreadChange, all_stay, stays}
use Rattle.readiness_laws.proofs.Watched.{changed_entries}
use Rattle.readiness_laws.proofs.WatchedSets.{kept_entry, kept_none}

gone_some : {A : Type 0} (o : Option Waiting) → o ≡ None → IsSome o → A
gone_some o none some = absurd (not_true (subst IsSome none some))

-- ---- tables: where one has changed, its process's threads were spread, or none of them waits

pub tables_are_watched : (S : State) (tables : FinMap nat_cmp Table) (V W : WaitMap) → IsWatched S V → AreKept V W
    → ((p t : ℕ) (w : Waiting) (call : Call) (since : ℕ) (until : Option ℕ) (stage : Stage) → t < 2 ^ 32 → get W (key p t) ≡ Some w
    → (w.everywhere && w.left) ≡ false → thread_of S p t ≡ Some (Waits call since until stage) → RowsStay (get S.tables p) (get tables p) call)
    → IsWatched (record S { tables = tables }) W
tables_are_watched S tables V W before kept rows =
    changed_entries (looked_at S) (record (looked_at S) { tables = tables }) V W before (record {
      may = before.may;
      small = before.small;
      kept = kept_entry V W kept;
      gone = λ q t small none some. gone_some _ (kept_none V W kept _ none) some;
      threads = λ q t small. stays refl;
      rows = rows;
      opens = λ q n d was now. refl;
      flags = λ k c q n w d there done at was now of. refl;
      channels = λ k c q n w d there done at was now of. refl;
      ends = λ k r q n w d there done at was now of. refl;
      moments = λ k m w there done at. refl;
    })

-- of a process whose threads were all spread, or of which none waits
pub own_rows : (S : State) (tables : FinMap nat_cmp Table) (W : WaitMap) → ((p : ℕ) → (get tables p ≡ get S.tables p) ⊎ (AreSpread p W ⊎ AreIdle S p))
    → (p t : ℕ) (w : Waiting) (call : Call) (since : ℕ) (until : Option ℕ) (stage : Stage) → t < 2 ^ 32 → get W (key p t) ≡ Some w
    → (w.everywhere && w.left) ≡ false → thread_of S p t ≡ Some (Waits call since until stage) → RowsStay (get S.tables p) (get tables p) call
own_rows S tables W each p t w call since until stage small there unless waits =
    elim (each p) [
      | inl same ↦ all_stay same
      | inr other ↦ elim other [
        | inl spread ↦ absurd (not_true (sym unless ∙ spread.spread t w small there))
        | inr idle ↦ absurd (not_true (sym (idle t) ∙ ap is_waiting waits))
      ]
    ]

-- ---- opens that tables name are of the same; where the flags of one have changed, those who stand at its channels are left

pub opens_are_watched : (S : State) (opens : FinMap nat_cmp OpenKind) (V W : WaitMap) → IsWatched S V → AreKept V W
    → ((p n : ℕ) (d : Descriptor) → row_in (get S.tables p) n ≡ Some d → bare (get opens d.id) ≡ bare (get S.opens d.id))
    → ((p n c : ℕ) (d : Descriptor) → row_in (get S.tables p) n ≡ Some d → (is_reader c (get S.opens d.id) || is_writer c (get S.opens d.id)) ≡ true
    → (never_waits (get opens d.id) ≡ never_waits (get S.opens d.id)) ⊎ AreLeftAt (Channel c) W)
    → IsWatched (record S { opens = opens }) W
opens_are_watched S opens V W before kept same flags =
    changed_entries (looked_at S) (record (looked_at S) { opens = opens }) V W before (record {
      may = before.may;
      small = before.small;
      kept = kept_entry V W kept;
      gone = λ q t small none some. gone_some _ (kept_none V W kept _ none) some;
      threads = λ q t small. stays refl;
      rows = λ p t w call since until stage small there unless waits. all_stay refl;
      opens = λ q n d was now. same q n d was;
      flags = λ k c q n w d there done at was now of. elim (flags q n c d was of) [
        | inl as_before ↦ as_before
        | inr left ↦ absurd (not_true (sym done ∙ left.left k w there at))
      ];
      channels = λ k c q n w d there done at was now of. refl;
      ends = λ k r q n w d there done at was now of. refl;
      moments = λ k m w there done at. refl;
    })

-- ---- threads that begin or end but don't wait, and those that are told, and wait on

pub threads_are_watched : (S : State) (processes : FinMap nat_cmp ProcessState) (V W : WaitMap) → IsWatched S V → AreKept V W
    → ((p t : ℕ) → MayWait (thread_of (record S { processes = processes }) p t))
    → ((p t : ℕ) → IsSome (thread_of (record S { processes = processes }) p t) → t < 2 ^ 32)
    → ((p t : ℕ) → t < 2 ^ 32 → ThreadChange (thread_of S p t) (thread_of (record S { processes = processes }) p t) (get W (key p t)))
    → IsWatched (record S { processes = processes }) W
threads_are_watched S processes V W before kept may small each =
    changed_entries (looked_at S) (record (looked_at S) { processes = processes }) V W before (record {
      may = may;
      small = small;
      kept = kept_entry V W kept;
      gone = λ q u below none some. gone_some _ (kept_none V W kept _ none) some;
      threads = each;
      rows = λ q u w call since until stage small_now there unless waits. all_stay refl;
      opens = λ q n d was now. refl;
      flags = λ k c q n w d there done at was now of. refl;
      channels = λ k c q n w d there done at was now of. refl;
      ends = λ k r q n w d there done at was now of. refl;
      moments = λ k m w there done at. refl;
    })
