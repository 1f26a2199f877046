-- The entries of threads as threads and processes end, and as another program begins.
--     process_few      a process's number fits its type
--     apart_stay      all threads but one do what they did
--     thread_end_is_held      one thread has ended, and its entry is taken out
--     process_end_is_held      a process has ended: its entries are taken out, and those that wait for its end are left
--     begun_is_held      another program has begun in a process: all its threads but one have ended, and that one is spread
use Rattle.std.proofs.Common.{◌≡◌, ◌≢◌, ℕ, ◌^◌, ◌-◌, ◌<◌, ◌==◌, ◌&&◌, Bool, true, false, not, cond, Option, None, Some, IsSome, inl, inr, refl, sym, ap, subst, ◌∙◌, arith}
use Rattle.std.proofs.lemmas.Bool.{eq-eqb}
use Rattle.std.proofs.lemmas.Bool.Decides.{eqb_tells}
use Rattle.std.specs.Prelude.{nat_eq}
use Rattle.std.specs.Ordering.{nat_cmp}
use Rattle.std.specs.Option.{option_map}
use Rattle.std.specs.FinMap.{FinMap, get, insert, remove}
use Rattle.abi_types.specs.declared.status.Status.{Status}
use Rattle.abi_types.specs.declared.thread.Thread.{Thread}
use Rattle.kernel_model.specs.OwnChanges.{begun_anew, without_thread}
use Rattle.kernel_model.specs.State.{ProcessState, State, Table, thread_in, thread_of}
use Rattle.kernel_model.specs.Waits.{MayWait}
use Rattle.kernel_model.proofs.Tests.{none_is_no, not_true}
use Rattle.kernel_parts.specs.Keys.{is_own, key}
use Rattle.kernel_parts.specs.Touched.{IsTouched}
use Rattle.kernel_parts.specs.Touching.{HasEach, HasNoLast, gone_if, left_if, spread_if}
use Rattle.kernel_parts.proofs.LeftEntries as left_entries
use Rattle.kernel_parts.proofs.LeftEntries.{process_ends}
use Rattle.kernel_parts.proofs.ThreadKeys.{own_other}
use Rattle.maps.specs.Maps.{get-insert-other, get-insert-same, get-remove-other, get-remove-same, get-retain}
use Rattle.wait_set.specs.declared.spot.Spot.TheVariants as spot
use Rattle.wait_set.specs.declared.waiting.Waiting.{Waiting}
use Rattle.wait_set.specs.Waits.{WaitMap, flag, stands}
use Rattle.readiness_laws.specs.Watched.{looked_at}
use Rattle.readiness_laws.specs.WatchedChanges.{AreKept, ThreadChange, all_stay, ends, stays}
use Rattle.readiness_laws.proofs.Watched.{changed_entries, touched_is_watched}
use Rattle.readiness_laws.proofs.WatchedSets.{kept_entry, kept_none, spread_keeps}
use Rattle.readiness_laws.proofs.WatchedThreads.{IsApart, gone_is_watched}
use Rattle.kernel_invariant.specs.Held.{AreHeld, IsKept}
use Rattle.kernel_invariant.proofs.HeldTables.{has_own, own_spread}
use Rattle.kernel_invariant.proofs.HeldTimes.{no_last_kept}
use Rattle.kernel_invariant.proofs.Leaving.{with_process}
use Rattle.kernel_invariant.proofs.Parks.{thread_by}

pub process_few : (S : State) (counts : FinMap nat_cmp ℕ) (p : ℕ) → IsKept S counts → IsSome (get S.processes p) → p < 2 ^ 32
process_few S counts p kept some = kept.processes p (kept.valid.nearly.tables p ∙ sym (kept.valid.nearly.owns p) ∙ some)

-- ---- one thread

none_without : (V : WaitMap) (k q : ℕ) → get V q ≡ None → get (remove V k) q ≡ None
none_without V k q none =
    elim (eqb_tells q k) [
      | inl same ↦ ap (get (remove V k)) same.1 ∙ get-remove-same V k
      | inr other ↦ get-remove-other V k q other.1 ∙ none
    ]

-- the threads of another process are those that were there
thread_beside : (S : State) (p : ℕ) (new : ProcessState) (q t : ℕ) → q ≢ p → thread_of (with_process S p new) q t ≡ thread_of S q t
thread_beside S p new q t apart = ap (λ o. thread_in (option_map (λ (own : ProcessState). own.threads) o) t) (get-insert-other S.processes p new q apart)

pub thread_now : (S : State) (p : ℕ) (new : ProcessState) (t : ℕ) → thread_of (with_process S p new) p t ≡ get new.threads t
thread_now S p new t = thread_by (with_process S p new) p t new (get-insert-same S.processes p new)

-- all but one thread do what they did
pub apart_stay : (S : State) (p t : ℕ) (new : ProcessState) → ((u : ℕ) → u ≢ t → get new.threads u ≡ thread_of S p u) → (q u : ℕ) → IsApart p t q u
    → thread_of (with_process S p new) q u ≡ thread_of S q u
apart_stay S p t new others q u apart =
    elim (eqb_tells q p) [
      | inr other ↦ thread_beside S p new q u other.1
      | inl same ↦ subst (λ k. thread_of (with_process S p new) k u ≡ thread_of S k u) (sym same.1) (thread_now S p new u ∙ others u (λ is. among apart same.1 is))
    ] where
      among : IsApart p t q u → q ≡ p → u ≡ t → ⊥
      among (inl other) same is = other (sym same)
      among (inr other) same is = other (sym is)

pub thread_end_is_held : (S : State) (p t : ℕ) (own : ProcessState) (V : WaitMap) → t < 2 ^ 32 → get S.processes p ≡ Some own → AreHeld (looked_at S) V
    → AreHeld (looked_at (with_process S p (without_thread t own))) (remove V (key p t))
thread_end_is_held S p t own V small there held = record {
  watched = gone_is_watched S (with_process S p (without_thread t own)).processes V (remove V (key p t)) held.watched p t small
      (apart_stay S p t (without_thread t own) (λ u other. get-remove-other own.threads t u other ∙ sym (thread_by S p u own there)))
      (λ k apart. get-remove-other V (key p t) k apart)
      (thread_now S p (without_thread t own) t ∙ get-remove-same own.threads t) (get-remove-same V (key p t));
  last = none_without V (key p t) (2 ^ 64 - 1) held.last;
}

-- ---- a process

module _ (S : State) (p : ℕ) (status : Status) (V W : WaitMap) (few : p < 2 ^ 32)
    (entries : HasEach (λ k entry. gone_if (is_own p k) (left_if (flag (stands (spot.Ended p)) entry) entry)) V W) (held : AreHeld (looked_at S) V) where
  abbrev after_end : State
  after_end = record S {
    tables = remove S.tables p;
    processes = remove S.processes p;
    statuses = insert S.statuses p status;
  }

  ending : IsTouched S after_end V W
  ending = process_ends S after_end V W p status few held.last refl refl refl refl refl refl entries

  pub process_end_is_held : AreHeld (looked_at (record S {
    tables = remove S.tables p;
    processes = remove S.processes p;
    statuses = insert S.statuses p status;
  })) W
  process_end_is_held = record {
    watched = touched_is_watched S after_end V W held.watched ending;
    last = left_entries.no_last_kept S after_end V W ending held.last;
  }

-- ---- another program

spared : (b : Bool) (o : Option Waiting) (v : Waiting) → gone_if b o ≡ Some v → o ≡ Some v
spared true o v is = absurd (none_is_no v is)
spared false o v is = is

taken : (b : Bool) (o : Option Waiting) → gone_if b o ≡ None → IsSome o → b ≡ true
taken true o is some = refl
taken false o is some = absurd (not_true (subst IsSome is some))

gone_too : (b : Bool) (o : Option Waiting) → o ≡ None → gone_if b o ≡ None
gone_too true o none = refl
gone_too false o none = none

both_so : (a b : Bool) → (a && b) ≡ true → (a ≡ true) × (b ≡ true)
both_so true b h = (refl, h)
both_so false b h = absurd (not_true h)

module _ (S : State) (p t words : ℕ) (own : ProcessState) (table : Table) (V X W : WaitMap) (few : p < 2 ^ 32)
    (there : get S.processes p ≡ Some own) (kept_one : HasEach (λ k. gone_if (is_own p k && not (nat_eq k (key p t)))) V X)
    (spread : HasEach (λ k. spread_if (is_own p k)) X W) (held : AreHeld (looked_at S) V) where
  abbrev begun : State
  begun = record S { processes = insert S.processes p (begun_anew words t own); tables = insert S.tables p table }

  then_kept : AreKept X W
  then_kept = spread_keeps (is_own p) X W spread

  last_then : get X (2 ^ 64 - 1) ≡ None
  last_then = kept_one (2 ^ 64 - 1) ∙ gone_too _ (get V (2 ^ 64 - 1)) held.last

  last_now : HasNoLast W
  last_now = no_last_kept X W then_kept last_then

  here_now : (u : ℕ) → thread_of begun p u ≡ cond (u == t) (get own.threads u) None
  here_now u = thread_now S p (begun_anew words t own) u ∙ get-retain own.threads (λ k. k == t) u

  one_stays : (u : ℕ) → u ≡ t → thread_of begun p u ≡ thread_of S p u
  one_stays u same = here_now u ∙ ap (λ b. cond b (get own.threads u) None) (eq-eqb u t same) ∙ sym (thread_by S p u own there)

  others_end : (u : ℕ) → (u == t) ≡ false → thread_of begun p u ≡ None
  others_end u other = here_now u ∙ ap (λ b. cond b (get own.threads u) None) other

  -- what is nobody's stays so where each is what it was or is gone
  each : (P : ℕ → ℕ → Option Thread → Type 0) → ((u : ℕ) → P p u None) → ((q u : ℕ) → P q u (thread_of S q u)) → (q u : ℕ) → P q u (thread_of begun q u)
  each P none was q u =
      elim (eqb_tells q p) [
        | inr other ↦ subst (P q u) (sym (thread_beside S p (begun_anew words t own) q u other.1)) (was q u)
        | inl same ↦ subst (λ k. P k u (thread_of begun k u)) (sym same.1) (elim (eqb_tells u t) [
          | inl is ↦ subst (P p u) (sym (one_stays u is.1)) (was p u)
          | inr apart ↦ subst (P p u) (sym (others_end u apart.0)) (none u)
        ])
      ]

  -- the entry of another of its threads is gone
  no_entry : (u : ℕ) → u < 2 ^ 32 → (u == t) ≡ false → u ≢ t → get W (key p u) ≡ None
  no_entry u below other apart =
      elim (get W (key p u)) as (λ o. get W (key p u) ≡ o → o ≡ None) [
        | None ↦ λ _. refl
        | Some w ↦ λ is.
            let was = kept_entry X W then_kept (key p u) w is in
            let own_too : is_own p (key p u) ≡ true = has_own p u w W few below last_now is in
            let differs : nat_eq (key p u) (key p t) ≡ false =
            elim (eqb_tells (key p u) (key p t)) [ inl same ↦ absurd (apart (let e = same.1 in omega (arith, e))) | inr away ↦ away.0 ] in
            absurd (none_is_no was.0 (sym (kept_one (key p u) ∙ (λ i. gone_if (own_too i && not (differs i)) (get V (key p u)))) ∙ was.1))
      ] refl

  change : (q u : ℕ) → u < 2 ^ 32 → ThreadChange (thread_of S q u) (thread_of begun q u) (get W (key q u))
  change q u below =
      elim (eqb_tells q p) [
        | inr other ↦ stays (thread_beside S p (begun_anew words t own) q u other.1)
        | inl same ↦ subst (λ k. ThreadChange (thread_of S k u) (thread_of begun k u) (get W (key k u))) (sym same.1) (elim (eqb_tells u t) [
          | inl is ↦ stays (one_stays u is.1)
          | inr apart ↦ ends (others_end u apart.0) (no_entry u below apart.0 apart.1)
        ])
      ]

  -- an entry that is gone was that of another of its threads
  went : (q u : ℕ) → u < 2 ^ 32 → get W (key q u) ≡ None → IsSome (get V (key q u)) → thread_of begun q u ≡ None
  went q u below none some =
      let so = both_so _ _ (taken _ (get V (key q u)) (sym (kept_one (key q u)) ∙ kept_none X W then_kept (key q u) none) some) in
      let same : q ≡ p = own_other p q u below so.0 in
      subst (λ k. thread_of begun k u ≡ None) (sym same) (elim (eqb_tells u t) [
        | inl is ↦ absurd (not_true (sym (ap not (eq-eqb (key q u) (key p t) (λ i. key (same i) (is.1 i)))) ∙ so.1))
        | inr apart ↦ others_end u apart.0
      ])

  pub begun_is_held : AreHeld (looked_at (record S { processes = insert S.processes p (begun_anew words t own); tables = insert S.tables p table })) W
  begun_is_held = record {
    watched = changed_entries (looked_at S) (looked_at begun) V W held.watched (record {
      may = each (λ q u o. MayWait o) (λ u. tt) held.watched.may;
      small = each (λ q u o. IsSome o → u < 2 ^ 32) (λ u some. absurd (not_true some)) held.watched.small;
      kept = λ k w at. (let was = kept_entry X W then_kept k w at in (was.0, spared _ (get V k) was.0 (sym (kept_one k) ∙ was.1), was.2));
      gone = went;
      threads = change;
      rows = λ q u w call since until stage below at unless waits. elim (eqb_tells q p) [
        | inr other ↦ all_stay (get-insert-other S.tables p table q other.1)
        | inl same ↦ absurd (not_true (sym unless ∙ (own_spread p X W few spread last_now).spread u w below (subst (λ k. get W (key k u) ≡ Some w) same.1 at)))
      ];
      opens = λ q n d was now. refl;
      flags = λ k c q n w d at done stood was now of. refl;
      channels = λ k c r n w d at done stood was now of. refl;
      ends = λ k q r n w d at done stood was now of. refl;
      moments = λ k m w at done stood. refl;
    });
    last = last_now;
  }
