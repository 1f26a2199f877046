-- How a process ends itself.
use Rattle.std.proofs.Common.{◌≡◌, ◌≢◌, inl, inr, ℕ, ◌<◌, ◌==◌, false, cond, List, [], ◌∷◌, Some, None, IsSome, refl, sym, ap, ◌∙◌, arith}
use Rattle.std.proofs.lemmas.Bool.{lt-ltb}
use Rattle.std.proofs.lemmas.Bool.Decides.{eqb_tells}
use Rattle.std.specs.FinMap.{get}
use Rattle.std.specs.Prelude.{nat_lt}
use Rattle.std.specs.List.{find, list_any}
use Rattle.abi_base.specs.Signal.{number_of}
use Rattle.abi_base.specs.declared.errno.Errno.TheVariants.{Inval, Notsup}
use Rattle.abi_base.specs.declared.signal.Signal.{Signal}
use Rattle.abi_base.specs.declared.signal.Signal.TheVariants.{Chld, Cont, Stop, Tstp, Ttin, Ttou, Urg}
use Rattle.abi_types.specs.declared.call.Call.{Call}
use Rattle.abi_types.specs.declared.call.Call.TheVariants.{ProcExit, ProcRaise}
use Rattle.abi_types.specs.declared.constants.Constants.{Constants}
use Rattle.abi_types.specs.declared.reply.Answer.{Answer}
use Rattle.abi_types.specs.declared.reply.Answer.TheVariants as answer
use Rattle.abi_types.specs.declared.reply.Reply.{Reply}
use Rattle.abi_types.specs.declared.status.Status.{Status}
use Rattle.abi_types.specs.declared.status.Status.TheVariants.{Exit, Killed, Live}
use Rattle.abi_types.specs.declared.who.Who.{Who}
use Rattle.kernel_model.specs.Calls.{takes_memory}
use Rattle.kernel_model.specs.Families.ProcessCalls.{end_updates, raise_of, signal_of, signals}
use Rattle.kernel_model.specs.Outcome.{Outcome, replies}
use Rattle.kernel_model.specs.Reply.{refused, success}
use Rattle.kernel_model.specs.State.{State}
use Rattle.kernel_model.specs.Step.{end_state, outcome, tick, IsStep}
use Rattle.kernel_model.specs.ThreadLaws.{OnlyAnswers}
use Rattle.kernel_model.specs.Valid.{IsValid}
use Rattle.kernel_model.proofs.Steps.{end_ends_only}
use Rattle.kernel_model.proofs.Outcomes.{outcome_of_table}
use Rattle.kernel_model.proofs.Tests.{either_false, not_true}
use Rattle.kernel_model.proofs.ThreadLaws.{state_of}
use Rattle.kernel_model.proofs.Touches.{end_is}
use Rattle.kernel_model.proofs.Valids.{release_valid, tick_valid}
use Rattle.call_laws.specs.ProcessLaws.{EndsAs, ExitEnds, IsNoSignal, IsPassed, IsStopping, RaiseEnds}
use Rattle.call_laws.proofs.Replies.{the_table}

-- a step whose call can't lack memory has this outcome
step_is : (constants : Constants) (S : State) (who : Who) (call : Call) (o : Outcome) (given : Answer) (T : State) → takes_memory call ≡ false
    → outcome constants S who call ≡ o → IsStep constants S who call given T → (given ≡ o.answer) × (T ≡ state_of constants S who call o)
step_is constants S who call o given T takes is (inl done) = (done.0 ∙ ap (λ (x : Outcome). x.answer) is, done.1 ∙ ap (state_of constants S who call) is)
step_is constants S who call o given T takes is (inr lacking) = absurd (not_true (sym takes ∙ lacking.0.0))

-- ---- the end

abbrev ended_by : ℕ → Status → Outcome
ended_by p status = record { answer = answer.Reply (success 0 0); updates = end_updates p status }

ends_as : (constants : Constants) (S : State) (who : Who) (call : Call) (status : Status) (given : Answer) (T : State) → takes_memory call ≡ false
    → outcome constants S who call ≡ ended_by who.pid status → status ≢ Live → IsStep constants S who call given T → EndsAs S who status given T
ends_as constants S who call status given T takes is dead step =
    let of = step_is constants S who call (ended_by who.pid status) given T takes is step in
    let state : T ≡ end_state S who.pid status = of.1 ∙ sym (end_is S who.pid status) in
    let ends = end_ends_only S who.pid status dead in
    record {
      answers = of.0;
      ends = state;
      stands = ap (λ (V : State). get V.statuses who.pid) state ∙ ends.stands;
      gone = (ap (λ (V : State). get V.tables who.pid) state ∙ ends.gone.0, ap (λ (V : State). get V.processes who.pid) state ∙ ends.gone.1);
    }

pub exit_ends : ExitEnds
exit_ends constants S who code given T has step =
    let table = the_table (get S.tables who.pid) has in
    ends_as constants S who (ProcExit code) (Exit code) given T refl (outcome_of_table constants S who (ProcExit code) table.0 table.1) (λ e. cc) step

-- ---- signals

raise_is : (constants : Constants) (S : State) (who : Who) (number : ℕ) → IsSome (get S.tables who.pid)
    → outcome constants S who (ProcRaise number) ≡ raise_of who.pid (signal_of number)
raise_is constants S who number has =
    let table = the_table (get S.tables who.pid) has in outcome_of_table constants S who (ProcRaise number) table.0 table.1

only_answers : (constants : Constants) (S : State) (who : Who) (number : ℕ) (reply : Reply) (given : Answer) (T : State) → IsValid S → IsSome (get S.tables who.pid)
    → raise_of who.pid (signal_of number) ≡ replies reply → IsStep constants S who (ProcRaise number) given T
    → OnlyAnswers S who given T reply
only_answers constants S who number reply given T valid has is step =
    let of = step_is constants S who (ProcRaise number) (replies reply) given T refl (raise_is constants S who number has ∙ is) step in
    (of.0, of.1 ∙ release_valid (tick S) (tick_valid S valid))

passed_is : (p number : ℕ) → IsPassed number → raise_of p (signal_of number) ≡ replies (success 0 0)
passed_is p number (inl is) = ap (λ n. raise_of p (signal_of n)) is
passed_is p number (inr (inl is)) = ap (λ n. raise_of p (signal_of n)) is
passed_is p number (inr (inr is)) = ap (λ n. raise_of p (signal_of n)) is

stopping_is : (p number : ℕ) → IsStopping number → raise_of p (signal_of number) ≡ replies (refused Notsup)
stopping_is p number (inl is) = ap (λ n. raise_of p (signal_of n)) is
stopping_is p number (inr (inl is)) = ap (λ n. raise_of p (signal_of n)) is
stopping_is p number (inr (inr (inl is))) = ap (λ n. raise_of p (signal_of n)) is
stopping_is p number (inr (inr (inr is))) = ap (λ n. raise_of p (signal_of n)) is

ends_is : (p : ℕ) (signal : Signal) → ¬ IsPassed (number_of signal) → ¬ IsStopping (number_of signal)
    → raise_of p (signal_of (number_of signal)) ≡ ended_by p (Killed signal)
ends_is p Chld passes stops = absurd (passes (inl refl))
ends_is p Cont passes stops = absurd (passes (inr (inl refl)))
ends_is p Urg passes stops = absurd (passes (inr (inr refl)))
ends_is p Stop passes stops = absurd (stops (inl refl))
ends_is p Tstp passes stops = absurd (stops (inr (inl refl)))
ends_is p Ttin passes stops = absurd (stops (inr (inr (inl refl))))
ends_is p Ttou passes stops = absurd (stops (inr (inr (inr refl))))
ends_is p signal passes stops = refl

-- no signal has the number 0, nor one over 26
none_over : (signals : List Signal) (number : ℕ) → list_any (λ s. nat_lt 26 (number_of s)) signals ≡ false → 26 < number
    → find (λ s. number_of s == number) signals ≡ None
none_over [] number few past = refl
none_over (signal ∷ rest) number few past =
    let both = either_false (nat_lt 26 (number_of signal)) (list_any (λ s. nat_lt 26 (number_of s)) rest) few in
    ap (λ b. cond b (Some signal) (find (λ s. number_of s == number) rest)) (apart (number_of signal) both.0) ∙ none_over rest number both.1 past where
      apart : (n : ℕ) → nat_lt 26 n ≡ false → (n == number) ≡ false
      apart n small =
          elim (eqb_tells n number) [
            | inl is ↦ (let same : n ≡ number = is.1 in absurd (not_true (sym small ∙ lt-ltb 26 n (omega (arith, same, past)))))
            | inr other ↦ other.0
          ]

none_is : (p number : ℕ) → IsNoSignal number → raise_of p (signal_of number) ≡ replies (refused Inval)
none_is p number (inl is) = ap (λ n. raise_of p (signal_of n)) is
none_is p number (inr past) = ap (raise_of p) (none_over signals number refl past)

pub raise_ends : RaiseEnds
raise_ends = record {
  passes = λ constants S who number given T valid has is step.
      only_answers constants S who number (success 0 0) given T valid has (passed_is who.pid number is) step;
  stops = λ constants S who number given T valid has is step.
      only_answers constants S who number (refused Notsup) given T valid has (stopping_is who.pid number is) step;
  none = λ constants S who number given T valid has is step.
      only_answers constants S who number (refused Inval) given T valid has (none_is who.pid number is) step;
  ends = λ constants S who signal given T has passes stops step.
      ends_as constants S who (ProcRaise (number_of signal)) (Killed signal) given T refl
      (raise_is constants S who (number_of signal) has ∙ ends_is who.pid signal passes stops) (λ e. cc) step;
}
