-- A state with one process more.
--     new_process_nearly_valid      a nearly valid state stays so with a child of a process
use Rattle.std.proofs.Common.{◌≡◌, ◌≢◌, ℕ, ◌<◌, ◌≤◌, [], ◌∷◌, inl, inr, Option, Some, None, IsSome, is_some, refl, sym, ap, subst, ◌∙◌, arith}
use Rattle.std.proofs.lemmas.Bool.Decides.{eqb_tells}
use Rattle.std.specs.Ordering.{nat_cmp}
use Rattle.std.specs.FinMap.{FinMap, get, insert}
use Rattle.std.specs.Option.{option_map}
use Rattle.abi_types.specs.declared.descriptor.Descriptor.{Descriptor}
use Rattle.abi_types.specs.declared.status.Status.TheVariants.{Live}
use Rattle.abi_types.specs.declared.thread.Thread.{Thread}
use Rattle.abi_types.specs.declared.thread.Thread.TheVariants.{Runnable}
use Rattle.maps.specs.Maps.{get-insert-same, get-insert-other}
use Rattle.kernel_model.specs.Release.{lives}
use Rattle.kernel_model.specs.State.{State, ProcessState, Table, Threads, counts_in, put_all, set_process, set_status, set_table, thread_in, thread_of}
use Rattle.kernel_model.specs.Valid.{has_ended, IsNamed, IsNearlyValid, IsUncounted}
use Rattle.kernel_model.specs.Waits.{MayWait}
use Rattle.kernel_model.proofs.NewBorn.{IsNextOf, new_born}
use Rattle.kernel_model.proofs.Tests.{none_of, not_true}
use Rattle.kernel_model.proofs.Valids.{behind_same, same_value, some_inserted}

-- ---- the state

abbrev threads_in : Option ProcessState → Option Threads
threads_in own = option_map (λ (x : ProcessState). x.threads) own

-- what a new process has: each thread of it runs and is numbered, and it has made nothing
pub record IsFresh (own : ProcessState) : Type 0 where
  pub runs : (t : ℕ) (thread : Thread) → get own.threads t ≡ Some thread → (thread ≡ Runnable) × (t ≤ own.counts.threads)
  pub nothing : own.counts.objects ≡ 0

module _ (S : State) (v : IsNearlyValid S) (c : ℕ) (own : ProcessState) (table : Table) (next : IsNextOf S.statuses S.processes c own.depth)
    (fresh : IsFresh own) (named : (n : ℕ) (d : Descriptor) → get table n ≡ Some d → IsNamed (get S.opens d.id) d) where
  abbrev after : State
  after = put_all (set_table c table ∷ set_process c own ∷ set_status c Live ∷ []) S

  here : get after.processes c ≡ Some own
  here = get-insert-same S.processes c own

  apart : (q : ℕ) → q ≢ c → get after.processes q ≡ get S.processes q
  apart q other = get-insert-other S.processes c own q other

  all_named : (q n : ℕ) (tb : Table) (d : Descriptor) → get (insert S.tables c table) q ≡ Some tb → get tb n ≡ Some d → IsNamed (get S.opens d.id) d
  all_named q n tb d at has =
      elim (eqb_tells q c) [
        | inl is ↦ (
            let now : get (insert S.tables c table) c ≡ Some tb = subst (λ k. get (insert S.tables c table) k ≡ Some tb) is.1 at in
            let same : table ≡ tb = same_value table tb (get (insert S.tables c table) c) (get-insert-same S.tables c table) now in
            named n d (ap (λ (m : Table). get m n) same ∙ has))
        | inr other ↦ v.named q n tb d (sym (get-insert-other S.tables c table q other.1) ∙ at) has
      ]

  some_numbered : (t : ℕ) (o : Option Thread) → get own.threads t ≡ o → IsSome o → t ≤ own.counts.threads
  some_numbered t None at some = absurd (not_true some)
  some_numbered t (Some thread) at some = (fresh.runs t thread at).1

  all_numbered : (q t : ℕ) → IsSome (thread_of after q t) → t ≤ (counts_in (get after.processes q)).threads
  all_numbered q t some =
      elim (eqb_tells q c) [
        | inl is ↦ subst (λ k. t ≤ (counts_in (get after.processes k)).threads) (sym is.1)
            (subst (λ o. t ≤ (counts_in o).threads) (sym here)
            (some_numbered t (get own.threads t) refl
            (subst (λ o. IsSome (thread_in (threads_in o) t)) here (subst (λ k. IsSome (thread_of after k t)) is.1 some))))
        | inr other ↦ subst (λ o. t ≤ (counts_in o).threads) (sym (apart q other.1))
            (v.numbered q t (subst (λ o. IsSome (thread_in (threads_in o) t)) (apart q other.1) some))
      ]

  -- nobody may still make more than before
  uncounted_before : (q k : ℕ) → IsUncounted after q k → IsUncounted S q k
  uncounted_before q k uncounted =
      elim (eqb_tells q c) [
        | inl is ↦ subst (λ j. IsUncounted S j k) (sym is.1) (new_uncounted (subst (λ j. IsUncounted after j k) is.1 uncounted).1)
        | inr other ↦ (
          sym (ap has_ended (get-insert-other S.statuses c Live q other.1)) ∙ uncounted.0,
          subst (λ o. (counts_in o).objects < k) (apart q other.1) uncounted.1,
        )
      ] where
        none : get S.processes c ≡ None
        none = none_of (get S.processes c) (v.owns c ∙ ap lives next.unmade)

        new_uncounted : (counts_in (get after.processes c)).objects < k → IsUncounted S c k
        new_uncounted beyond =
            let nothing : own.counts.objects ≡ 0 = fresh.nothing in
            let some : own.counts.objects < k = subst (λ o. (counts_in o).objects < k) here beyond in
            (ap has_ended next.unmade, subst (λ o. (counts_in o).objects < k) (sym none) (omega (arith, nothing, some)))

  runs_may : (t : ℕ) (o : Option Thread) → get own.threads t ≡ o → MayWait o
  runs_may t None at = tt
  runs_may t (Some thread) at = subst (λ x. MayWait (Some x)) (sym (fresh.runs t thread at).0) tt

  all_wait : (q t : ℕ) → MayWait (thread_of after q t)
  all_wait q t =
      elim (eqb_tells q c) [
        | inl is ↦ subst (λ k. MayWait (thread_of after k t)) (sym is.1)
            (subst (λ o. MayWait (thread_in (threads_in o) t)) (sym here) (runs_may t (get own.threads t) refl))
        | inr other ↦ subst (λ o. MayWait (thread_in (threads_in o) t)) (sym (apart q other.1)) (v.waits q t)
      ]

  alive : {X : Type 0} (m : FinMap nat_cmp X) (x : X) → ((q : ℕ) → is_some (get m q) ≡ lives (get S.statuses q)) → (q : ℕ)
      → is_some (get (insert m c x) q) ≡ lives (get (insert S.statuses c Live) q)
  alive m x same q =
      elim (eqb_tells q c) [
        | inl is ↦ subst (λ j. is_some (get (insert m c x) j) ≡ lives (get (insert S.statuses c Live) j)) (sym is.1)
            (ap is_some (get-insert-same m c x) ∙ sym (ap lives (get-insert-same S.statuses c Live)))
        | inr other ↦ ap is_some (get-insert-other m c x q other.1) ∙ same q ∙ sym (ap lives (get-insert-other S.statuses c Live q other.1))
      ]

  pub new_process_nearly_valid : IsNearlyValid (put_all (set_table c table ∷ set_process c own ∷ set_status c Live ∷ []) S)
  new_process_nearly_valid = record {
    named = all_named;
    behind = λ o kind e. behind_same S after (λ _. refl) (λ _ h. h) (λ _. refl) (some_inserted S.statuses c Live) kind (v.behind o kind e);
    sole = v.sole;
    tables = alive S.tables table v.tables;
    owns = alive S.processes own v.owns;
    numbered = all_numbered;
    made = λ q k small beyond fits. v.made q k small (uncounted_before q k beyond) fits;
    made_nodes = λ q k small beyond fits. v.made_nodes q k small (uncounted_before q k beyond) fits;
    made_channels = λ q k small beyond fits. v.made_channels q k small (uncounted_before q k beyond) fits;
    born = new_born S.statuses S.processes v.born c own next;
    tree = v.tree;
    waits = all_wait;
    channels = v.channels;
  }
