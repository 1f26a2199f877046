-- What a wake's call sees.
--     sight_with      a call sees the same parts, whatever a thread does
--     resumed_sees_same      so it sees the same in states in which its thread runs, where it does in those before
--     ready_decided      whether a thread is ready hangs on what its call sees alone
use Rattle.std.proofs.Common.{◌≡◌, ℕ, not, List, [], ◌∷◌, ◌++◌, Option, Some, None, refl, sym, ap, subst, ◌∙◌}
use Rattle.std.specs.Prelude.{if◌then◌else◌}
use Rattle.std.specs.Option.{option_map}
use Rattle.std.specs.FinMap.{get}
use Rattle.abi_types.specs.declared.call.Call.{Call}
use Rattle.abi_types.specs.declared.constants.Constants.{Constants}
use Rattle.abi_types.specs.declared.descriptor.Descriptor.{Descriptor}
use Rattle.abi_types.specs.declared.thread.Thread.{Thread}
use Rattle.abi_types.specs.declared.thread.Thread.TheVariants.{Runnable}
use Rattle.abi_types.specs.declared.who.Who.{Who}
use Rattle.kernel_model.specs.Calls.{meaning_of, refusal, seen}
use Rattle.kernel_model.specs.Deadlines.{is_due}
use Rattle.kernel_model.specs.Laws.{HasSameSight}
use Rattle.kernel_model.specs.Outcome.{Outcome, is_parked}
use Rattle.kernel_model.specs.Sight.{process_parts, reached_by, reached}
use Rattle.kernel_model.specs.State.{State, ProcessState, Table, Part, at_proc, Agree, AgreeOn, thread_in, thread_of}
use Rattle.kernel_model.specs.Step.{outcome_by, reach, sight, unless_refused}
use Rattle.kernel_model.specs.View.{restrict}
use Rattle.kernel_model.specs.Waits.{resumed, with_thread, WaitsIn}
use Rattle.kernel_model.specs.Wakes.{answer_now, goes_on_at, is_done_now, is_ready}
use Rattle.kernel_model.proofs.Decisions.{restrict_alike, sees_clock}
use Rattle.kernel_model.proofs.Outcomes.{reads_sight}
use Rattle.kernel_model.proofs.Readiness.{ready_is}
use Rattle.kernel_model.proofs.Threading.{with_alike}

module _ (S : State) (p t : ℕ) (thread : Thread) where
  reached_by_with : (d : Option Descriptor) → reached_by (with_thread S p t thread) d ≡ reached_by S d
  reached_by_with None = refl
  reached_by_with (Some d) = refl

  reached_with : (table : Table) (fds : List ℕ) → reached (with_thread S p t thread) table fds ≡ reached S table fds
  reached_with table [] = refl
  reached_with table (fd ∷ fds) =
      ap (λ parts. parts ++ reached (with_thread S p t thread) table fds) (reached_by_with (get table fd))
      ∙ ap (λ parts. reached_by S (get table fd) ++ parts) (reached_with table fds)

  reach_with : (call : Call) (o : Option Table) → reach (with_thread S p t thread) call o ≡ reach S call o
  reach_with call None = refl
  reach_with call (Some table) = ap (unless_refused (refusal table call)) (reached_with table (seen call))

  pub sight_with : (who : Who) (call : Call) → sight (with_thread S p t thread) who call ≡ sight S who call
  unfolding sight
  sight_with who call = ap (λ parts. process_parts who.pid ++ parts) (reach_with call (get S.tables who.pid))

all_with : (S T : State) (p t : ℕ) (thread : Thread) (parts : List Part) → AgreeOn S T parts → AgreeOn (with_thread S p t thread) (with_thread T p t thread) parts
all_with S T p t thread [] all = tt
all_with S T p t thread (part ∷ parts) all = (with_alike S T p t thread part all.0, all_with S T p t thread parts all.1)

pub resumed_sees_same : (S T : State) (who : Who) (call : Call) → HasSameSight S T who call → HasSameSight (resumed S who) (resumed T who) who call
resumed_sees_same S T who call same = (
  sight_with S who.pid who.tid Runnable who call ∙ same.0 ∙ sym (sight_with T who.pid who.tid Runnable who call),
  subst (AgreeOn (resumed S who) (resumed T who)) (sym (sight_with S who.pid who.tid Runnable who call))
      (all_with S T who.pid who.tid Runnable (sight S who call) same.1),
)

-- ---- ready threads

-- what is the process's own is the second of the parts that a call sees
sees_own : (S T : State) (who : Who) (call : Call) → AgreeOn S T (sight S who call) → Agree S T (at_proc who.pid)
unfolding sight
sees_own S T who call same = same.1.0

same_thread : (S T : State) (who : Who) (call : Call) → HasSameSight S T who call → thread_of S who.pid who.tid ≡ thread_of T who.pid who.tid
same_thread S T who call same =
    ap (λ (o : Option ProcessState). thread_in (option_map (λ (own : ProcessState). own.threads) o) who.tid) (sees_own S T who call same.1).1

answers_alike : (constants : Constants) (S T : State) (who : Who) (call : Call) → HasSameSight S T who call → answer_now constants S who call ≡ answer_now constants T who call
answers_alike constants S T who call same =
    ap (λ (o : Outcome). o.answer)
    (sym (reads_sight constants S who call)
    ∙ ap (λ v. outcome_by constants v who call) (restrict_alike S T (sight S who call) (sees_clock S T who call same.1) same.1)
    ∙ ap (λ parts. outcome_by constants (restrict T parts) who call) same.0
    ∙ reads_sight constants T who call)

pub ready_decided : (constants : Constants) (S T : State) (who : Who) (call : Call) → WaitsIn S who call → HasSameSight S T who call
    → is_ready constants S who.pid who.tid ≡ is_ready constants T who.pid who.tid
ready_decided constants S T who call kept same =
    let alike : is_done_now constants S who call ≡ is_done_now constants T who call =
    ap (λ a. not (is_parked a)) (answers_alike constants (resumed S who) (resumed T who) who call (resumed_sees_same S T who call same)) in
    ready_is constants S who call kept
    ∙ (λ i. if (meaning_of call).by_stage then goes_on_at kept.1 (is_due (sees_clock S T who call same.1 i) kept.0) else alike i)
    ∙ sym (ready_is constants T who call (kept.0, kept.1, kept.2, sym (same_thread S T who call same) ∙ kept.3))
