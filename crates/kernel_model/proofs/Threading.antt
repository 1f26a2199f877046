-- States in which one thread does something else.
--     with_thread_of      what each thread does then
--     thread_here, thread_apart, thread_elsewhere      that one, another of its process, and those of other processes
--     with_apart, with_here, with_there, with_counts      what each process has of its own
--     with_keeps, with_alike      the other parts stay, and where states agree on a part they still do
--     with_nearly_valid, with_valid      a valid state stays valid
--     each_of      what holds of each thread
--     with_thread_is      the state as maps
--     waits_if_same      what stays as a thread begins to wait
use Rattle.std.proofs.Common.{◌≡◌, ◌≢◌, ℕ, ◌==◌, ◌≤◌, ◌&&◌, Bool, true, false, inl, inr, Option, Some, None, IsSome, is_some, refl, sym, ap, subst, ◌∙◌, arith}
use Rattle.std.proofs.lemmas.Bool.{eq-eqb}
use Rattle.std.proofs.lemmas.Bool.Decides.{eqb_tells}
use Rattle.std.specs.Prelude.{if◌then◌else◌}
use Rattle.std.specs.Option.{option_map}
use Rattle.std.specs.FinMap.{get, insert}
use Rattle.abi_types.specs.declared.counts.Counts.{Counts}
use Rattle.abi_types.specs.declared.reply.Answer.{Answer}
use Rattle.abi_types.specs.declared.reply.Answer.TheVariants as answer
use Rattle.abi_types.specs.declared.thread.Thread.{Thread}
use Rattle.abi_types.specs.declared.who.Who.{Who}
use Rattle.maps.specs.Maps.{get-insert-same, get-insert-other, same_around}
use Rattle.maps.specs.Closure.{changed, get-changed}
use Rattle.kernel_model.specs.Outcome.{is_parked}
use Rattle.kernel_model.specs.State.{State, ProcessState, Part, at_proc, same_part, Agree, thread_in, thread_of, counts_in}
use Rattle.kernel_model.specs.Valid.{IsNearlyValid, IsValid}
use Rattle.kernel_model.specs.Waits.{thread_set, with_thread, waits_if, MayWait}
use Rattle.kernel_model.proofs.Children.{same_keeps, KeepsChildren}
use Rattle.kernel_model.proofs.Parts.{number_apart, other_number}
use Rattle.kernel_model.proofs.Valids.{processes_nearly_valid, some_mapped, threads_in}

-- ---- where a test says whether a value is another

unchanged : {X : Type 0} (f : X → X) (o : Option X) → option_map (λ x. if false then f x else x) o ≡ o
unchanged f None = refl
unchanged f (Some x) = refl

-- what holds of the other value, and of what there was, holds of what there is
either_value : {X : Type 0} (P : Option X → Type 0) (b : Bool) (x : X) (o : Option X) → P (Some x) → P o → P (option_map (λ before. if b then x else before) o)
either_value P b x None new old = old
either_value P true x (Some before) new old = new
either_value P false x (Some before) new old = old

-- ---- what a process has then

-- the process with its thread doing that, where the test says so
abbrev set_where : Bool → ℕ → Thread → ProcessState → ProcessState
set_where b t thread own = if b then thread_set t thread own else own

counts_where : (b : Bool) (t : ℕ) (thread : Thread) (o : Option ProcessState) → counts_in (option_map (set_where b t thread) o) ≡ counts_in o
counts_where b t thread None = refl
counts_where true t thread (Some own) = refl
counts_where false t thread (Some own) = refl

children_where : (b : Bool) (t : ℕ) (thread : Thread) (o : Option ProcessState) → KeepsChildren o (option_map (set_where b t thread) o)
children_where b t thread None = tt
children_where true t thread (Some own) = same_keeps (Some own)
children_where false t thread (Some own) = same_keeps (Some own)

thread_where : (b : Bool) (t : ℕ) (thread : Thread) (o : Option ProcessState) (u : ℕ)
    → thread_in (threads_in (option_map (set_where b t thread) o)) u
    ≡ option_map (λ before. if (b && (u == t)) then thread else before) (thread_in (threads_in o) u)
thread_where b t thread None u = refl
thread_where true t thread (Some own) u = get-changed (λ k before. if k == t then thread else before) own.threads u
thread_where false t thread (Some own) u = sym (unchanged (λ before. thread) (get own.threads u))

module _ (S : State) (p t : ℕ) (thread : Thread) where
  with_processes : (q : ℕ) → get (with_thread S p t thread).processes q ≡ option_map (set_where (q == p) t thread) (get S.processes q)
  with_processes q = get-changed (λ k own. if k == p then thread_set t thread own else own) S.processes q

  pub with_apart : (q : ℕ) → q ≢ p → get (with_thread S p t thread).processes q ≡ get S.processes q
  with_apart q apart =
      with_processes q ∙ ap (λ b. option_map (set_where b t thread) (get S.processes q)) (number_apart q p (λ e. apart (sym e)))
      ∙ unchanged (thread_set t thread) (get S.processes q)

  pub with_here : get (with_thread S p t thread).processes p ≡ option_map (thread_set t thread) (get S.processes p)
  with_here = with_processes p ∙ ap (λ b. option_map (set_where b t thread) (get S.processes p)) (eq-eqb p p refl)

  pub with_there : (q : ℕ) → is_some (get (with_thread S p t thread).processes q) ≡ is_some (get S.processes q)
  with_there q = ap is_some (with_processes q) ∙ some_mapped (set_where (q == p) t thread) (get S.processes q)

  pub with_counts : (q : ℕ) → counts_in (get (with_thread S p t thread).processes q) ≡ counts_in (get S.processes q)
  with_counts q = ap counts_in (with_processes q) ∙ counts_where (q == p) t thread (get S.processes q)

  -- each has its depth, and has counted as many children
  with_children : (q : ℕ) → KeepsChildren (get S.processes q) (get (with_thread S p t thread).processes q)
  with_children q =
      subst (KeepsChildren (get S.processes q)) (sym (with_processes q)) (children_where (q == p) t thread (get S.processes q))

  -- ---- threads

  pub with_thread_of : (q u : ℕ)
      → thread_of (with_thread S p t thread) q u ≡ option_map (λ before. if ((q == p) && (u == t)) then thread else before) (thread_of S q u)
  with_thread_of q u =
      ap (λ o. thread_in (threads_in o) u) (with_processes q) ∙ thread_where (q == p) t thread (get S.processes q) u

  pub thread_here : thread_of (with_thread S p t thread) p t ≡ option_map (λ before. thread) (thread_of S p t)
  thread_here =
      with_thread_of p t
      ∙ ap (λ b. option_map (λ before. if b then thread else before) (thread_of S p t)) (ap (λ b. b && (t == t)) (eq-eqb p p refl) ∙ eq-eqb t t refl)

  pub thread_apart : (u : ℕ) → u ≢ t → thread_of (with_thread S p t thread) p u ≡ thread_of S p u
  thread_apart u apart =
      with_thread_of p u
      ∙ ap (λ b. option_map (λ before. if b then thread else before) (thread_of S p u))
      (ap (λ b. b && (u == t)) (eq-eqb p p refl) ∙ number_apart u t (λ e. apart (sym e)))
      ∙ unchanged (λ before. thread) (thread_of S p u)

  pub thread_elsewhere : (q : ℕ) → q ≢ p → (u : ℕ) → thread_of (with_thread S p t thread) q u ≡ thread_of S q u
  thread_elsewhere q apart u = ap (λ o. thread_in (threads_in o) u) (with_apart q apart)

  -- what holds of what the thread does, and of what each did, holds of what each does, whichever it is
  pub each_thread : (P : Option Thread → Type 0) → P (Some thread) → ((q u : ℕ) → P (thread_of S q u)) → (q u : ℕ) → P (thread_of (with_thread S p t thread) q u)
  each_thread P new old q u =
      subst P (sym (with_thread_of q u)) (either_value P ((q == p) && (u == t)) thread (thread_of S q u) new (old q u))

  -- no thread comes
  pub thread_still : (q u : ℕ) → IsSome (thread_of (with_thread S p t thread) q u) → IsSome (thread_of S q u)
  thread_still q u there =
      sym (some_mapped (λ before. if ((q == p) && (u == t)) then thread else before) (thread_of S q u)) ∙ sym (ap is_some (with_thread_of q u)) ∙ there

  -- ---- the other parts

  pub with_keeps : (q : Part) → same_part (at_proc p) q ≡ false → Agree (with_thread S p t thread) S q
  with_keeps (at_proc q) h = (refl, with_apart q (λ e. other_number p q h e))
  with_keeps q h = refl

  -- ---- valid states

  pub with_nearly_valid : MayWait (Some thread) → IsNearlyValid S → IsNearlyValid (with_thread S p t thread)
  with_nearly_valid may v =
      processes_nearly_valid S (with_thread S p t thread).processes
      (record {
        there = with_there;
        numbered = λ q u there. subst (λ (c : Counts). u ≤ c.threads) (sym (with_counts q)) (v.numbered q u (thread_still q u there));
        waits = each_thread MayWait may v.waits;
        more = λ q. let same = ap (λ (c : Counts). c.objects) (with_counts q) in omega (arith, same);
        children = with_children;
      })
      v

  pub with_valid : MayWait (Some thread) → IsValid S → IsValid (with_thread S p t thread)
  with_valid may v = record { nearly = with_nearly_valid may v.nearly; held = v.held; kept = v.kept; going = v.going }

-- the same of what is said of that thread, and of each, by its numbers
pub each_of : (p t : ℕ) (thread : Thread) (S : State) (P : ℕ → ℕ → Option Thread → Type 0) → P p t (Some thread) → ((q u : ℕ) → P q u (thread_of S q u))
    → (q u : ℕ) → P q u (thread_of (with_thread S p t thread) q u)
each_of p t thread S P new old q u =
    elim (eqb_tells q p) [
      | inl is ↦ subst (λ k. P k u (thread_of (with_thread S p t thread) k u)) (sym is.1) (elim (eqb_tells u t) [
        | inl same ↦ subst (λ k. P p k (thread_of (with_thread S p t thread) p k)) (sym same.1)
            (subst (P p t) (sym (thread_here S p t thread)) (either_value (P p t) true thread (thread_of S p t) new (old p t)))
        | inr other ↦ subst (P p u) (sym (thread_apart S p t thread u other.1)) (old p u)
      ])
      | inr other ↦ subst (P q u) (sym (thread_elsewhere S p t thread q other.1 u)) (old q u)
    ]

-- where the thread is there, as maps with it put in
pub with_thread_is : (S : State) (p t : ℕ) (thread before : Thread) (own : ProcessState) → get S.processes p ≡ Some own → get own.threads t ≡ Some before
    → with_thread S p t thread ≡ record S { processes = insert S.processes p (record own { threads = insert own.threads t thread }) }
with_thread_is S p t thread before own there runs =
    let threads : changed (λ k was. if k == t then thread else was) own.threads ≡ insert own.threads t thread =
    same_around _ _ t
    (get-changed (λ k was. if k == t then thread else was) own.threads t ∙ ap (λ b. option_map (λ was. if b then thread else was) (get own.threads t)) (eq-eqb t t refl)
    ∙ ap (option_map (λ (was : Thread). thread)) runs ∙ sym (get-insert-same own.threads t thread))
    (λ u apart. get-changed (λ k was. if k == t then thread else was) own.threads u
    ∙ ap (λ b. option_map (λ was. if b then thread else was) (get own.threads u)) (number_apart u t (λ e. apart (sym e)))
    ∙ unchanged (λ was. thread) (get own.threads u) ∙ sym (get-insert-other own.threads t thread u apart)) in
    let new : ProcessState = record own { threads = insert own.threads t thread } in
    let processes : (with_thread S p t thread).processes ≡ insert S.processes p new =
    same_around _ _ p
    (with_here S p t thread ∙ ap (option_map (thread_set t thread)) there ∙ (λ i. Some (record own { threads = threads i }))
    ∙ sym (get-insert-same S.processes p new))
    (λ q apart. with_apart S p t thread q apart ∙ sym (get-insert-other S.processes p new q apart)) in
    λ i. record S { processes = processes i }

-- states that agree on a part agree on it still
pub with_alike : (S T : State) (p t : ℕ) (thread : Thread) (q : Part) → Agree S T q → Agree (with_thread S p t thread) (with_thread T p t thread) q
with_alike S T p t thread (at_proc q) h =
    (h.0, with_processes S p t thread q ∙ ap (option_map (set_where (q == p) t thread)) h.1 ∙ sym (with_processes T p t thread q))
with_alike S T p t thread q h = h

-- ---- where the answer is that the thread waits

pub waits_if_same : (P : State → Type 0) (a : Answer) (who : Who) (thread : Thread) (S : State) → (P S → P (with_thread S who.pid who.tid thread)) → P S
    → P (waits_if a who thread S)
waits_if_same P (answer.Parked writes) who thread S more h = more h
waits_if_same P (answer.Reply reply) who thread S more h = h

pub waits_if_holds : (P : State → Type 0) (a : Answer) (who : Who) (thread : Thread) (S : State)
    → (is_parked a ≡ true → P (with_thread S who.pid who.tid thread)) → P S → P (waits_if a who thread S)
waits_if_holds P (answer.Parked writes) who thread S waits h = waits refl
waits_if_holds P (answer.Reply reply) who thread S waits h = h

pub waits_alike : (a : Answer) (who : Who) (thread : Thread) (S T : State) (q : Part) → Agree S T q → Agree (waits_if a who thread S) (waits_if a who thread T) q
waits_alike (answer.Parked writes) who thread S T q h = with_alike S T who.pid who.tid thread q h
waits_alike (answer.Reply reply) who thread S T q h = h

-- another process has the same
pub waits_apart : (a : Answer) (who : Who) (thread : Thread) (S : State) (q : ℕ) → q ≢ who.pid
    → get (waits_if a who thread S).processes q ≡ get S.processes q
waits_apart (answer.Parked writes) who thread S q apart = with_apart S who.pid who.tid thread q apart
waits_apart (answer.Reply reply) who thread S q apart = refl

pub waits_keeps : (a : Answer) (who : Who) (thread : Thread) (S : State) (q : Part) → same_part (at_proc who.pid) q ≡ false
    → Agree (waits_if a who thread S) S q
waits_keeps (answer.Parked writes) who thread S q h = with_keeps S who.pid who.tid thread q h
waits_keeps (answer.Reply reply) who thread S (at_proc q) h = (refl, refl)
waits_keeps (answer.Reply reply) who thread S q h = refl
