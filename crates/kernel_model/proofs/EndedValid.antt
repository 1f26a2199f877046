-- The end of a process keeps a state nearly valid.
--     gone_or_same      a process has nothing of its own any more, and the others have what they had
--     ended_before      what a process has after the end of one it had before
--     dead_status      an ended process doesn't live
--     end_nearly_valid      the end of a process keeps a state nearly valid
use Rattle.std.proofs.Common.{◌≡◌, ◌≢◌, ◌⊎◌, inl, inr, ℕ, ◌<◌, ◌≤◌, true, false, None, Some, IsSome, is_some, refl, sym, ap, subst, ◌∙◌}
use Rattle.std.proofs.lemmas.Bool.Decides.{eqb_tells}
use Rattle.std.specs.Ordering.{nat_cmp}
use Rattle.std.specs.FinMap.{FinMap, get, insert, remove}
use Rattle.abi_types.specs.declared.status.Status.{Status}
use Rattle.abi_types.specs.declared.status.Status.TheVariants.{Live, Exit, Killed}
use Rattle.maps.specs.Maps.{get-insert-same, get-insert-other, get-remove-same, get-remove-other}
use Rattle.kernel_model.specs.Families.ProcessCalls.{end_updates}
use Rattle.kernel_model.specs.Release.{lives}
use Rattle.kernel_model.specs.State.{State, put_all, thread_in, thread_of, counts_in}
use Rattle.kernel_model.specs.Valid.{has_ended, IsNearlyValid, IsUncounted}
use Rattle.kernel_model.specs.Waits.{MayWait}
use Rattle.kernel_model.proofs.Children.{all_born, ended_keeps}
use Rattle.kernel_model.proofs.Tests.{none_is_no, not_true}
use Rattle.kernel_model.proofs.Valids.{behind_same, some_inserted, threads_in}

pub gone_or_same : {X : Type 0} (m : FinMap nat_cmp X) (p q : ℕ) → (get (remove m p) q ≡ None) ⊎ ((q ≢ p) × (get (remove m p) q ≡ get m q))
gone_or_same m p q =
    elim (eqb_tells q p) [
      | inl is ↦ inl (ap (get (remove m p)) is.1 ∙ get-remove-same m p)
      | inr other ↦ inr (other.1, get-remove-other m p q other.1)
    ]

pub ended_before : {X : Type 0} (m : FinMap nat_cmp X) (p q : ℕ) (x : X) → get (remove m p) q ≡ Some x → get m q ≡ Some x
ended_before m p q x there =
    elim (gone_or_same m p q) [ inl gone ↦ absurd (none_is_no x (sym gone ∙ there)) | inr same ↦ sym same.1 ∙ there ]

pub dead_status : (status : Status) → status ≢ Live → (lives (Some status) ≡ false) × (has_ended (Some status) ≡ true)
dead_status Live dead = absurd (dead refl)
dead_status (Exit code) dead = (refl, refl)
dead_status (Killed signal) dead = (refl, refl)

-- just the processes that live have something of their own
ended_alive : {X : Type 0} (m : FinMap nat_cmp X) (statuses : FinMap nat_cmp Status) (p : ℕ) (status : Status) → status ≢ Live
    → ((q : ℕ) → is_some (get m q) ≡ lives (get statuses q)) → (q : ℕ) → is_some (get (remove m p) q) ≡ lives (get (insert statuses p status) q)
ended_alive m statuses p status dead same q =
    elim (eqb_tells q p) [
      | inl is ↦ subst (λ j. is_some (get (remove m p) j) ≡ lives (get (insert statuses p status) j)) (sym is.1)
          (ap is_some (get-remove-same m p) ∙ sym (ap lives (get-insert-same statuses p status) ∙ (dead_status status dead).0))
      | inr other ↦ ap is_some (get-remove-other m p q other.1) ∙ same q ∙ sym (ap lives (get-insert-other statuses p status q other.1))
    ]

-- no status is new but that of a process that was made
status_before : (statuses : FinMap nat_cmp Status) (p : ℕ) (status : Status) → IsSome (get statuses p) → (q : ℕ)
    → IsSome (get (insert statuses p status) q) → IsSome (get statuses q)
status_before statuses p status made q there =
    elim (eqb_tells q p) [
      | inl is ↦ ap (λ k. is_some (get statuses k)) is.1 ∙ made
      | inr other ↦ sym (ap is_some (get-insert-other statuses p status q other.1)) ∙ there
    ]

module _ (S : State) (p : ℕ) (status : Status) (dead : status ≢ Live) where
  abbrev after : State
  after = put_all (end_updates p status) S

  -- a process that has not ended has what it had
  uncounted_before : (q k : ℕ) → IsUncounted after q k → IsUncounted S q k
  uncounted_before q k uncounted =
      elim (eqb_tells q p) [
        | inl is ↦ absurd (not_true (sym (subst (λ j. has_ended (get (insert S.statuses p status) j) ≡ false) is.1 uncounted.0)
            ∙ ap has_ended (get-insert-same S.statuses p status) ∙ (dead_status status dead).1))
        | inr other ↦ (
          sym (ap has_ended (get-insert-other S.statuses p status q other.1)) ∙ uncounted.0,
          subst (λ own. (counts_in own).objects < k) (get-remove-other S.processes p q other.1) uncounted.1,
        )
      ]

  ended_numbered : IsNearlyValid S → (q t : ℕ) → IsSome (thread_of after q t) → t ≤ (counts_in (get after.processes q)).threads
  ended_numbered v q t there =
      elim (gone_or_same S.processes p q) [
        | inl gone ↦ absurd (not_true (subst (λ own. IsSome (thread_in (threads_in own) t)) gone there))
        | inr same ↦ subst (λ own. t ≤ (counts_in own).threads) (sym same.1)
            (v.numbered q t (subst (λ own. IsSome (thread_in (threads_in own) t)) same.1 there))
      ]

  ended_waits : IsNearlyValid S → (q t : ℕ) → MayWait (thread_of after q t)
  ended_waits v q t =
      elim (gone_or_same S.processes p q) [
        | inl gone ↦ subst (λ own. MayWait (thread_in (threads_in own) t)) (sym gone) tt
        | inr same ↦ subst (λ own. MayWait (thread_in (threads_in own) t)) (sym same.1) (v.waits q t)
      ]

  -- a process that was made may end
  pub end_nearly_valid : IsSome (get S.statuses p) → IsNearlyValid S → IsNearlyValid (put_all (end_updates p status) S)
  end_nearly_valid made v = record {
    named = λ q n table d there here. v.named q n table d (ended_before S.tables p q table there) here;
    behind = λ o kind e. behind_same S after (λ _. refl) (λ _ h. h) (λ _. refl) (some_inserted S.statuses p status) kind (v.behind o kind e);
    sole = v.sole;
    tables = ended_alive S.tables S.statuses p status dead v.tables;
    owns = ended_alive S.processes S.statuses p status dead v.owns;
    numbered = ended_numbered v;
    made = λ q k small beyond fits. v.made q k small (uncounted_before q k beyond) fits;
    made_nodes = λ q k small beyond fits. v.made_nodes q k small (uncounted_before q k beyond) fits;
    made_channels = λ q k small beyond fits. v.made_channels q k small (uncounted_before q k beyond) fits;
    born = all_born S.statuses after.statuses S.processes after.processes (some_inserted S.statuses p status) (status_before S.statuses p status made)
        (ended_keeps S.processes p) v.born;
    tree = v.tree;
    waits = ended_waits v;
    channels = v.channels;
  }
