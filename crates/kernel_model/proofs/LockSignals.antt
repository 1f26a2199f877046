-- Which threads are signalled of those that wait at a condition variable.
--     called_least      the one that is signalled first has waited longest
--     signals_in_turn      signals come in turn
use Rattle.std.proofs.Common.{◌≡◌, ◌≢◌, ◌⊎◌, inl, inr, ℕ, zero, suc, ◌-◌, ◌<◌, ◌≤◌, ◌==◌, Bool, true, false, Option, Some, None, is_some, refl, sym, ap, ◌∙◌, arith}
use Rattle.std.proofs.lemmas.Bool.{eq-eqb}
use Rattle.std.proofs.lemmas.Bool.Decides.{eqb_tells}
use Rattle.std.specs.Option.{option_map}
use Rattle.std.specs.Prelude.{if◌then◌else◌}
use Rattle.std.specs.FinMap.{get, insert, len}
use Rattle.abi_types.specs.declared.thread.Stage.TheVariants.{Signalled}
use Rattle.abi_types.specs.declared.thread.Thread.{Thread}
use Rattle.abi_types.specs.declared.thread.Thread.TheVariants.{Runnable, Waits}
use Rattle.maps.specs.Closure.{get-changed}
use Rattle.maps.specs.Maps.{weight, total, total_none, total-insert, get-insert-same, get-insert-other, same_around, least_key-entry}
use Rattle.kernel_model.specs.Earliest.{earliest, is_first, moment_at, moment_of_value}
use Rattle.kernel_model.specs.Families.Locks.{called, first_sleeper, signalled, sleeps_at, with_called}
use Rattle.kernel_model.specs.LockLaws.{has_come_to, AreSleepers, IsCalled, SignalsInTurn}
use Rattle.kernel_model.specs.State.{Threads}
use Rattle.kernel_model.proofs.Earliest.{earliest_least, earliest_none}
use Rattle.kernel_model.proofs.LockTurns.{equal_is, len_counts, sleeps_words, some_false, some_moment, some_true, words_sleep}
use Rattle.kernel_model.proofs.Locks.{called_is_up, first_called, signalled_called, MayBeCalled}
use Rattle.kernel_model.proofs.Tests.{none_is_no, not_true, same_some}

called_come : (thread : Thread) → called thread ≡ has_come_to Signalled thread
called_come Runnable = refl
called_come (Waits call since until stage) = refl

-- a thread that was signalled isn't one that waits there
called_apart : (condvar moment : ℕ) (thread : Thread) → sleeps_at condvar thread ≡ Some moment → Some thread ≢ Some (called thread)
called_apart condvar moment thread sleeps same =
    none_is_no moment (sym (called_is_up condvar thread) ∙ sym (ap (sleeps_at condvar) (same_some thread (called thread) same)) ∙ sleeps)

module _ (condvar : ℕ) (threads : Threads) where
  -- the threads once the first was signalled
  abbrev next : Threads
  next = with_called (first_sleeper condvar threads) threads

  sleeper_earliest : earliest (sleeps_at condvar) threads ≡ moment_at (sleeps_at condvar) threads (first_sleeper condvar threads)
  unfolding earliest
  sleeper_earliest = refl

  -- the first has waited no shorter than any
  sleeper_least : (t moment : ℕ) (thread : Thread) → first_sleeper condvar threads ≡ Some t → get threads t ≡ Some thread
      → sleeps_at condvar thread ≡ Some moment → (u other : ℕ) (x : Thread) → get threads u ≡ Some x → sleeps_at condvar x ≡ Some other → moment ≤ other
  sleeper_least t moment thread stands there sleeps u other x here longer =
      let least = earliest_least (sleeps_at condvar) threads u x other here longer in
      let same : moment ≡ least.0 =
      same_some moment least.0 (sym sleeps ∙ sym (ap (moment_of_value (sleeps_at condvar)) there)
      ∙ sym (ap (moment_at (sleeps_at condvar) threads) stands) ∙ sym sleeper_earliest ∙ least.1) in
      omega (arith, same, least.2)

  -- with none that stands first none waits there
  none_sleeps : first_sleeper condvar threads ≡ None → (t : ℕ) (thread : Thread) → get threads t ≡ Some thread → sleeps_at condvar thread ≡ None
  none_sleeps none = earliest_none (sleeps_at condvar) threads (sleeper_earliest ∙ ap (moment_at (sleeps_at condvar) threads) none)

  called_at : (t u : ℕ) (thread : Thread) (b : Bool) → get threads t ≡ Some thread → (t == u) ≡ b
      → get (with_called (Some u) threads) t ≡ Some (if b then called thread else thread)
  called_at t u thread b there is =
      get-changed (λ k x. if k == u then called x else x) threads t
      ∙ ap (option_map (λ x. if t == u then called x else x)) there
      ∙ ap (λ c. Some (if c then called thread else thread)) is

  called_least_by : (t moment : ℕ) (thread : Thread) (o : Option ℕ) → first_sleeper condvar threads ≡ o → get threads t ≡ Some thread
      → sleeps_at condvar thread ≡ Some moment → get (with_called o threads) t ≡ Some (called thread)
      → (u other : ℕ) (x : Thread) → get threads u ≡ Some x → sleeps_at condvar x ≡ Some other → moment ≤ other
  called_least_by t moment thread None stands there sleeps up = absurd (called_apart condvar moment thread sleeps (sym there ∙ up))
  called_least_by t moment thread (Some f) stands there sleeps up =
      elim (t == f) as (λ b. (t == f) ≡ b
      → (u other : ℕ) (x : Thread) → get threads u ≡ Some x → sleeps_at condvar x ≡ Some other → moment ≤ other) [
        | true ↦ λ is. sleeper_least t moment thread (stands ∙ ap Some (sym (equal_is t f is))) there sleeps
        | false ↦ λ isnt. absurd (called_apart condvar moment thread sleeps (sym (called_at t f thread false there isnt) ∙ up))
      ] refl

  -- one that is signalled first has waited no shorter than any
  pub called_least : (t moment : ℕ) (thread : Thread) → get threads t ≡ Some thread → sleeps_at condvar thread ≡ Some moment
      → get next t ≡ Some (called thread) → (u other : ℕ) (x : Thread) → get threads u ≡ Some x → sleeps_at condvar x ≡ Some other → moment ≤ other
  called_least t moment thread = called_least_by t moment thread (first_sleeper condvar threads) refl

  -- ---- how many

  abbrev sleeps_one : Thread → ℕ
  sleeps_one thread = if is_some (sleeps_at condvar thread) then 1 else 0

  no_sleeper : (o : Option Thread) → ((thread : Thread) → o ≡ Some thread → sleeps_at condvar thread ≡ None) → weight sleeps_one o ≡ 0
  no_sleeper None none = refl
  no_sleeper (Some thread) none = ap (λ o. if is_some o then 1 else 0) (none thread refl)

  -- the first is signalled, and all else is the same
  called_insert : (f : ℕ) (thread : Thread) → get threads f ≡ Some thread → with_called (Some f) threads ≡ insert threads f (called thread)
  called_insert f thread there =
      same_around (with_called (Some f) threads) (insert threads f (called thread)) f
      (called_at f f thread true there (eq-eqb f f refl) ∙ sym (get-insert-same threads f (called thread)))
      (λ q apart. others q apart (get threads q) refl ∙ sym (get-insert-other threads f (called thread) q apart)) where
        others : (q : ℕ) → q ≢ f → (o : Option Thread) → get threads q ≡ o → get (with_called (Some f) threads) q ≡ get threads q
        others q apart None none =
            get-changed (λ k x. if k == f then called x else x) threads q ∙ ap (option_map (λ x. if q == f then called x else x)) none ∙ sym none
        others q apart (Some x) is = called_at q f x false is (elim (eqb_tells q f) [ inl same ↦ absurd (apart same.1) | inr other ↦ other.0 ]) ∙ sym is

  one_fewer_by : (o : Option ℕ) → first_sleeper condvar threads ≡ o → total sleeps_one (with_called o threads) ≡ total sleeps_one threads - 1
  one_fewer_by None stands =
      let none : total sleeps_one threads ≡ 0 =
      total_none sleeps_one threads (λ q. no_sleeper (get threads q) (λ thread there. none_sleeps stands q thread there)) in
      omega (arith, none)
  one_fewer_by (Some f) stands =
      let entry = least_key-entry (λ k x. is_first (sleeps_at condvar) threads (sleeps_at condvar x)) threads f stands in
      let sums = total-insert sleeps_one threads f (called entry.0) in
      let up : sleeps_one (called entry.0) ≡ 0 = ap (λ o. if is_some o then 1 else 0) (called_is_up condvar entry.0) in
      let was : weight sleeps_one (get threads f) ≡ 1 =
      ap (weight sleeps_one) entry.1 ∙ first_counts (sleeps_at condvar entry.0) entry.2 in
      let same : total sleeps_one (with_called (Some f) threads) ≡ total sleeps_one (insert threads f (called entry.0)) =
      ap (total sleeps_one) (called_insert f entry.0 entry.1) in
      omega (arith, sums, up, was, same) where
        first_counts : (o : Option ℕ) → is_first (sleeps_at condvar) threads o ≡ true → (if◌then◌else◌ {A = ℕ} (is_some o) 1 0) ≡ 1
        first_counts None h = absurd (not_true h)
        first_counts (Some moment) h = refl

  one_fewer : total sleeps_one next ≡ total sleeps_one threads - 1
  one_fewer = one_fewer_by (first_sleeper condvar threads) refl

-- ---- all signals

-- thread t was signalled
called_words : (condvar : ℕ) (before after : Threads) (t moment : ℕ) (thread : Thread) → get before t ≡ Some thread → sleeps_at condvar thread ≡ Some moment
    → get after t ≡ Some (called thread) → IsCalled condvar before after t moment
called_words condvar before after t moment thread there sleeps up =
    (thread, there, sleeps_words condvar moment thread sleeps, up ∙ ap Some (called_come thread))

each_called : (condvar : ℕ) (before after : Threads) (t : ℕ) → MayBeCalled condvar (get before t) (get after t)
    → (get after t ≡ get before t) ⊎ ((moment : ℕ) × IsCalled condvar before after t moment)
each_called condvar before after t (inl same) = inl same
each_called condvar before after t (inr up) =
    let moment = some_moment (sleeps_at condvar up.0) up.2 in
    inr (moment.0, called_words condvar before after t moment.0 up.0 up.1 moment.1 up.3)

-- one that has been signalled stays so
stays_called : (condvar : ℕ) (thread : Thread) (a b : Option Thread) → a ≡ Some (called thread) → MayBeCalled condvar a b → b ≡ Some (called thread)
stays_called condvar thread a b is (inl same) = same ∙ is
stays_called condvar thread a b is (inr up) =
    absurd (not_true (sym (ap is_some (called_is_up condvar thread))
    ∙ ap (λ x. is_some (sleeps_at condvar x)) (same_some (called thread) up.0 (sym is ∙ up.1)) ∙ up.2))

turn_by : (n condvar : ℕ) (threads : Threads) (t u moment longer : ℕ) (thread x : Thread) → get threads t ≡ Some thread
    → sleeps_at condvar thread ≡ Some moment → get (signalled n condvar threads) t ≡ Some (called thread) → get threads u ≡ Some x
    → sleeps_at condvar x ≡ Some longer → longer < moment → get (signalled n condvar threads) u ≡ Some (called x)
turn_by zero condvar threads t u moment longer thread x there sleeps up here waits less =
    absurd (called_apart condvar moment thread sleeps (sym there ∙ up))
turn_by (suc n) condvar threads t u moment longer thread x there sleeps up here waits less =
    let mid = with_called (first_sleeper condvar threads) threads in
    elim (first_called condvar threads u) [
      | inr first ↦ stays_called condvar x (get mid u) (get (signalled n condvar mid) u)
          (first.3 ∙ ap (λ y. Some (called y)) (same_some first.0 x (sym first.1 ∙ here))) (signalled_called n condvar mid u)
      | inl same ↦ elim (first_called condvar threads t) [
        | inl still ↦ turn_by n condvar mid t u moment longer thread x (still ∙ there) sleeps up (same ∙ here) waits less
        | inr first ↦ (
            let is : get mid t ≡ Some (called thread) = first.3 ∙ ap (λ y. Some (called y)) (same_some first.0 thread (sym first.1 ∙ there)) in
            let most = called_least condvar threads t moment thread there sleeps is u longer x here waits in
            absurd (omega (arith, most, less)))
      ]
    ]

called_of : (condvar : ℕ) (thread : Thread) (o : Option Thread) → o ≡ Some (has_come_to Signalled thread) → o ≡ Some (called thread)
called_of condvar thread o is = is ∙ ap Some (sym (called_come thread))

fewer : (n condvar : ℕ) (threads : Threads) → total (sleeps_one condvar threads) (signalled n condvar threads) ≡ total (sleeps_one condvar threads) threads - n
fewer zero condvar threads = omega arith
fewer (suc n) condvar threads =
    let mid = with_called (first_sleeper condvar threads) threads in
    let rest : total (sleeps_one condvar mid) (signalled n condvar mid) ≡ total (sleeps_one condvar mid) mid - n = fewer n condvar mid in
    let one : total (sleeps_one condvar threads) mid ≡ total (sleeps_one condvar threads) threads - 1 = one_fewer condvar threads in
    omega (arith, rest, one)

sleepers_count : (condvar : ℕ) (threads some : Threads) → AreSleepers condvar threads some → total (sleeps_one condvar threads) threads ≡ len some
sleepers_count condvar threads some are =
    len_counts (λ thread. is_some (sleeps_at condvar thread)) threads some
    (λ t thread there sleeps.
    let moment = some_moment (sleeps_at condvar thread) sleeps in (are t).1 (moment.0, (thread, there, sleeps_words condvar moment.0 thread moment.1)))
    (λ t there.
    let one = (are t).0 there in
    (one.1.0, one.1.1, ap is_some (words_sleep condvar one.0 one.1.0 one.1.2)))

pub signals_in_turn : SignalsInTurn
signals_in_turn = record {
  others = λ n condvar threads t. each_called condvar threads (signalled n condvar threads) t (signalled_called n condvar threads t);
  turn = λ n condvar threads t u moment longer h other less.
      let after = signalled n condvar threads in
      let waits = words_sleep condvar longer other.0 other.2 in
      called_words condvar threads after u longer other.0 other.1 waits
      (turn_by n condvar threads t u moment longer h.0 other.0 h.1 (words_sleep condvar moment h.0 h.2)
      (called_of condvar h.0 (get after t) h.3) other.1 waits less);
  count = λ n condvar threads before after was is.
      let first = sleepers_count condvar threads before was in
      let last = sleepers_count condvar (signalled n condvar threads) after is in
      let less = fewer n condvar threads in
      omega (arith, first, last, less);
  waits = λ n condvar threads t moment h.
      ap (λ b. if b then 1 else 0) (some_true (sleeps_at condvar) (signalled n condvar threads) t moment h.0 h.1 (words_sleep condvar moment h.0 h.2));
  none = λ n condvar threads none.
      ap (λ b. if b then 1 else 0) (some_false (sleeps_at condvar) (signalled n condvar threads)
      (λ t moment thread there sleeps. none t moment (thread, there, sleeps_words condvar moment thread sleeps)));
}
