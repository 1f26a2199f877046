-- The entries of threads as a process makes a thread or a child.
--     thread_is_held, unmade_is_held      a thread is made, which runs, and its entry was put in;  or it isn't made, and the entry goes again
--     made_is_held      a process makes a thread, or none
--     unborn_is_held, born_is_held      no child is made;  or one is, and its parent gets a number
use Rattle.std.proofs.Common.{◌≡◌, ◌≢◌, ℕ, ◌+◌, ◌-◌, ◌^◌, ◌<◌, false, inl, inr, Option, None, Some, is_some, refl, sym, ap, subst, ◌∙◌, arith}
use Rattle.std.proofs.lemmas.Bool.{eq-eqb}
use Rattle.std.proofs.lemmas.Bool.Decides.{eqb_tells}
use Rattle.std.specs.Prelude.{nat_eq}
use Rattle.std.specs.Ordering.{nat_cmp}
use Rattle.std.specs.FinMap.{FinMap, empty, get, get-empty, insert, remove}
use Rattle.abi_types.specs.declared.descriptor.Descriptor.{Descriptor}
use Rattle.abi_types.specs.declared.open_kind.OpenKind.{OpenKind}
use Rattle.abi_types.specs.declared.open_kind.OpenKind.TheVariants.{Process}
use Rattle.abi_types.specs.declared.status.Status.{Status}
use Rattle.abi_types.specs.declared.status.Status.TheVariants.{Live}
use Rattle.abi_types.specs.declared.thread.Thread.TheVariants.{Runnable}
use Rattle.maps.specs.Maps.{get-insert-other, get-insert-same, get-remove-other, get-remove-same, same_numbers}
use Rattle.process_calls.specs.Forks.{ChildIsPut, MayPut}
use Rattle.process_calls.specs.declared.forks.NewChild.{NewChild}
use Rattle.kernel_model.specs.Families.ForkCalls.{child_descriptor, child_process}
use Rattle.kernel_model.specs.Families.Numbers.{made_more}
use Rattle.kernel_model.specs.OwnChanges.{with_next_child}
use Rattle.kernel_model.specs.State.{ProcessState, State, Table, Threads, thread_of}
use Rattle.kernel_model.proofs.Births.{may_is}
use Rattle.kernel_model.proofs.ChildLaws.{child_is_unmade}
use Rattle.kernel_parts.specs.Keys.{key}
use Rattle.kernel_parts.specs.Touching.{HasEach, IsMade, begun_if, made, not_made, spread_if}
use Rattle.wait_set.specs.declared.waiting.Waiting.{Waiting}
use Rattle.wait_set.specs.Waits.{WaitMap, fresh}
use Rattle.readiness_laws.specs.Watched.{is_waiting, looked_at}
use Rattle.readiness_laws.proofs.WatchedSets.{kept_self}
use Rattle.readiness_laws.proofs.WatchedThreads.{made_is_watched, none_there}
use Rattle.kernel_invariant.specs.Forks.{IsChildOf}
use Rattle.kernel_invariant.specs.Held.{AreHeld, IsKept}
use Rattle.kernel_invariant.specs.Readiness.{is_concerned_in}
use Rattle.kernel_invariant.proofs.ForkCalls.{may_put}
use Rattle.kernel_invariant.proofs.HeldEnds.{apart_stay, thread_now}
use Rattle.kernel_invariant.proofs.HeldNew.{inserted_is_held, named_row, new_statuses_are_held, opens_beside, same_threads_are_held, stays_beside}
use Rattle.kernel_invariant.proofs.HeldTables.{table_is_held}
use Rattle.kernel_invariant.proofs.Leaving.{with_process}
use Rattle.kernel_invariant.proofs.Parks.{no_thread_by, thread_by}

-- ---- an entry and its thread

not_begun : (o : Option Waiting) → begun_if false o ≡ o
not_begun None = refl
not_begun (Some w) = refl

-- a number that has no entry gets one
begun : (k : ℕ) (V W : WaitMap) → HasEach (λ j. begun_if (nat_eq j k)) V W → get V k ≡ None → W ≡ insert V k fresh
begun k V W each none =
    same_numbers W (insert V k fresh) (λ j. elim (eqb_tells j k) [
      | inl same ↦
          ap (get W) same.1 ∙ each k ∙ (λ i. begun_if (eq-eqb k k refl i) (none i)) ∙ sym (ap (get (insert V k fresh)) same.1 ∙ get-insert-same V k fresh)
      | inr other ↦
          each j ∙ ap (λ b. begun_if b (get V j)) other.0 ∙ not_begun (get V j) ∙ sym (get-insert-other V k fresh j other.1)
    ])

taken_out : (k : ℕ) (V : WaitMap) → get V k ≡ None → remove (insert V k fresh) k ≡ V
taken_out k V none =
    same_numbers (remove (insert V k fresh) k) V (λ j. elim (eqb_tells j k) [
      | inl same ↦ ap (get (remove (insert V k fresh) k)) same.1 ∙ get-remove-same (insert V k fresh) k ∙ sym (ap (get V) same.1 ∙ none)
      | inr other ↦ get-remove-other (insert V k fresh) k j other.1 ∙ get-insert-other V k fresh j other.1
    ])

module _ (S : State) (p t : ℕ) (V W : WaitMap) (small : t < 2 ^ 32) (none : thread_of S p t ≡ None) (each : HasEach (λ k. begun_if (nat_eq k (key p t))) V W)
    (held : AreHeld (looked_at S) V) where
  free : get V (key p t) ≡ None
  free = none_there S V p t held.watched small none

  put_in : W ≡ insert V (key p t) fresh
  put_in = begun (key p t) V W each free

  -- the thread is made, and runs
  pub thread_is_held : (new : ProcessState) → key p t ≢ 2 ^ 64 - 1 → get new.threads t ≡ Some Runnable → ((u : ℕ) → u ≢ t → get new.threads u ≡ thread_of S p u)
      → AreHeld (looked_at (with_process S p new)) W
  thread_is_held new apart runs others =
      subst (AreHeld (looked_at (with_process S p new))) (sym put_in) (record {
        watched = made_is_watched S (with_process S p new).processes V p t held.watched small (apart_stay S p t new others) (thread_now S p new t ∙ runs);
        last = get-insert-other V (key p t) fresh (2 ^ 64 - 1) (λ same. apart (sym same)) ∙ held.last;
      })

  -- it isn't made, and the entry goes again
  pub unmade_is_held : AreHeld (looked_at S) (remove W (key p t))
  unmade_is_held = subst (AreHeld (looked_at S)) (sym (ap (λ X. remove X (key p t)) put_in ∙ taken_out (key p t) V free)) held

-- ---- a process makes a thread

module _ (S : State) (V W : WaitMap) (p : ℕ) (own new : ProcessState) (there : get S.processes p ≡ Some own) (held : AreHeld (looked_at S) V) where
  pub made_is_held : IsMade p own.threads new.threads V W → AreHeld (looked_at (with_process S p new)) W
  made_is_held (not_made same is) =
      subst (AreHeld (looked_at (with_process S p new))) (sym is) (same_threads_are_held S p own new V there same held)
  made_is_held (made t low none same each) =
      thread_is_held S p t V W (omega (arith, low)) (thread_by S p t own there ∙ none) each held new (λ last. omega (arith, last, low))
      (ap (λ (m : Threads). get m t) same ∙ get-insert-same own.threads t Runnable)
      (λ u apart. ap (λ (m : Threads). get m u) same ∙ get-insert-other own.threads t Runnable u apart ∙ sym (thread_by S p u own there))

-- ---- a child

module _ (S : State) (left : ℕ) (plan : NewChild) (is : IsChildOf S left plan) (counts : FinMap nat_cmp ℕ) (kept : IsKept S counts) where
  may : MayPut plan S.tables S.processes S.statuses S.opens
  may = may_put S left plan is counts kept

  -- the numbers of the child and of its thread fit, and there is no such thread yet
  child_small : plan.child < 0xffffffff
  child_small =
      subst (λ c. c < 0xffffffff) (sym may.child_is)
      (child_is_unmade S kept.valid.nearly plan.parent (may.own.counts.forks + 1) may.own may.has_own (may_is may.own may.bears) (omega arith)).small

  thread_small : (V : WaitMap) → AreHeld (looked_at S) V → plan.tid < 2 ^ 32
  thread_small V held =
      held.watched.small plan.parent plan.tid (ap is_some (thread_by S plan.parent plan.tid may.own may.has_own) ∙ may.there)

  -- no child is made, and its thread's entry goes again
  pub unborn_is_held : (V W : WaitMap) → HasEach (λ k. begun_if (nat_eq k (key plan.child plan.tid))) V W → AreHeld (looked_at S) V
      → AreHeld (looked_at S) (remove W (key plan.child plan.tid))
  unborn_is_held V W each held =
      unmade_is_held S plan.child plan.tid V W (thread_small V held) (no_thread_by S plan.child plan.tid may.no_own) each held

  module _ (tables : FinMap nat_cmp Table) (processes : FinMap nat_cmp ProcessState) (statuses : FinMap nat_cmp Status) (kinds : FinMap nat_cmp OpenKind)
      (put : ChildIsPut plan S.tables S.processes S.statuses S.opens tables processes statuses kinds) where
    abbrev born : State
    born = record S { tables = tables; processes = processes; statuses = statuses; opens = kinds }

    pub born_is_held : (V X W : WaitMap) → HasEach (λ k. begun_if (nat_eq k (key plan.child plan.tid))) V X
        → HasEach (λ k. spread_if (is_concerned_in plan.parent plan.fd (get processes plan.parent) k)) X W → AreHeld (looked_at S) V → AreHeld (looked_at born) W
    born_is_held V X W begins each held =
        let p = plan.parent in
        let c = plan.child in
        let table : Table = may.table in
        let own : ProcessState = may.own in
        let valid = kept.valid.nearly in
        let kind : OpenKind = Process c plan.object in
        let more : ProcessState = made_more 2 (with_next_child own) in
        let child : ProcessState = child_process plan.tid own in
        let d : Descriptor = child_descriptor p own in
        let own_is : processes ≡ insert (insert S.processes p more) c child = put.processes_are own may.has_own in
        let apart : p ≢ c = λ e. may.other (sym e) in
        let S1 : State = record S { statuses = insert S.statuses c Live } in
        let S2 : State = record S1 { opens = insert S.opens plan.open kind } in
        let S3 : State = record S2 { tables = insert S.tables c table } in
        let S4 : State = record S3 { processes = insert S.processes p more } in
        let S5 : State = record S4 { processes = insert (insert S.processes p more) c child } in
        let h1 : AreHeld (looked_at S1) V = new_statuses_are_held S valid (insert S.statuses c Live) V (stays_beside S.statuses c Live may.no_status) held in
        let h2 : AreHeld (looked_at S2) V = opens_beside S1 (named_row S valid) (insert S.opens plan.open kind) V (stays_beside S.opens plan.open kind may.no_open) h1 in
        let h3 : AreHeld (looked_at S3) V = table_is_held S2 c table V V h2 (kept_self V) (inr (inr (λ t. ap is_waiting (no_thread_by S c t may.no_own)))) in
        let h4 : AreHeld (looked_at S4) V = same_threads_are_held S3 p own more V may.has_own refl h3 in
        let few = child_small in
        let small = thread_small V held in
        let unmade : get (insert S.processes p more) c ≡ None = get-insert-other S.processes p more c may.other ∙ may.no_own in
        let h5 : AreHeld (looked_at S5) X =
        thread_is_held S4 c plan.tid V X small (no_thread_by S4 c plan.tid unmade) begins h4 child (λ same. omega (arith, few, small, same))
        (get-insert-same empty plan.tid Runnable)
        (λ u other. get-insert-other empty plan.tid Runnable u other ∙ get-empty nat_cmp u ∙ sym (no_thread_by S4 c u unmade)) in
        subst (λ (U : State). AreHeld (looked_at U) W)
        (λ i. record S { tables = sym (put.tables_are table own may.has_table may.has_own) i; processes = sym own_is i; statuses = sym put.statuses_are i; opens = sym put.kinds_are i })
        (inserted_is_held S5 p plan.fd table d X W (get-insert-other S.tables c table p apart ∙ may.has_table) (kept.processes p (ap is_some may.has_table))
        (subst (λ (m : FinMap nat_cmp ProcessState). HasEach (λ k. spread_if (is_concerned_in p plan.fd (get m p) k)) X W) own_is each) h5)
