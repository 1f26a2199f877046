-- What a call does, by the table of its process.
use Rattle.std.proofs.Common.{◌≡◌, ◌+◌, true, false, [], Option, None, Some, inl, inr, refl, sym, ap, subst, ◌∙◌}
use Rattle.std.specs.FinMap.{get}
use Rattle.abi_base.specs.declared.errno.Errno.TheVariants.{Badf, Nomem}
use Rattle.abi_types.specs.declared.reply.Answer.{Answer}
use Rattle.abi_types.specs.declared.reply.Answer.TheVariants as answer
use Rattle.abi_types.specs.declared.call.Call.{Call}
use Rattle.abi_types.specs.declared.reply.Reply.{Reply}
use Rattle.abi_types.specs.declared.constants.Constants.{Constants}
use Rattle.abi_types.specs.declared.descriptor.Descriptor.{Descriptor}
use Rattle.abi_types.specs.declared.open_kind.OpenKind.{OpenKind}
use Rattle.abi_types.specs.declared.thread.Thread.{Thread}
use Rattle.abi_types.specs.declared.who.Who.{Who}
use Rattle.kernel_model.specs.Calls.{meaning_of, refusal, refusal_of, takes_memory}
use Rattle.kernel_model.specs.Outcome.{Outcome, IsSuccess, is_parked, replies}
use Rattle.kernel_model.specs.Release.{release}
use Rattle.kernel_model.specs.Reply.{refused}
use Rattle.kernel_model.specs.State.{State, Table, put_all}
use Rattle.kernel_model.specs.Step.{failed, IsStep, outcome_by, outcome_on, outcome, tick, unless}
use Rattle.kernel_model.specs.Families.DescriptorCalls.{stat_get, stat_open}
use Rattle.kernel_model.specs.View.{View, whole}
use Rattle.kernel_model.specs.Waits.{waiting, waits_if}
use Rattle.kernel_model.proofs.Outcomes.{outcome_reads}
use Rattle.kernel_model.proofs.Tests.{none_is_no, not_true, same_some}
use Rattle.kernel_model.specs.Done.{IsAnswered}
use Rattle.kernel_model.specs.Wakes.{LacksNoMemory}

-- a refused call answers the refusal alone
pub act_refused : (constants : Constants) (S : State) (who : Who) (call : Call) (table : Table) (reply : Reply) → get S.tables who.pid ≡ Some table
    → refusal table call ≡ Some reply → outcome_by constants (whole S) who call ≡ replies reply
act_refused constants S who call table reply there is =
    ap (outcome_on constants (whole S) who call) there ∙ ap (λ r. unless r ((meaning_of call).effect constants (whole S) who table)) is

-- a call that isn't refused does what it does
pub act_allowed : (constants : Constants) (S : State) (who : Who) (call : Call) (table : Table) → get S.tables who.pid ≡ Some table
    → refusal table call ≡ None → outcome_by constants (whole S) who call ≡ (meaning_of call).effect constants (whole S) who table
act_allowed constants S who call table there is =
    ap (outcome_on constants (whole S) who call) there ∙ ap (λ r. unless r ((meaning_of call).effect constants (whole S) who table)) is

-- so it is by the refusal of a call, whose process may have no table
refused_on : (constants : Constants) (v : View) (who : Who) (call : Call) (reply : Reply) (t : Option Table) → refusal_of call t ≡ Some reply
    → outcome_on constants v who call t ≡ replies reply
refused_on constants v who call reply None is = ap replies (same_some (refused Badf) reply is)
refused_on constants v who call reply (Some table) is = ap (λ r. unless r ((meaning_of call).effect constants v who table)) is

pub refused_by : (constants : Constants) (S : State) (who : Who) (call : Call) (reply : Reply) → refusal_of call (get S.tables who.pid) ≡ Some reply
    → outcome_by constants (whole S) who call ≡ replies reply
refused_by constants S who call reply is = refused_on constants (whole S) who call reply (get S.tables who.pid) is

-- a call that isn't refused has a table by which it isn't
pub allowed_by : (call : Call) (t : Option Table) → refusal_of call t ≡ None → (table : Table) × (t ≡ Some table) × (refusal table call ≡ None)
allowed_by call None is = absurd (none_is_no (refused Badf) (sym is))
allowed_by call (Some table) is = (table, refl, is)

-- fd_stat_get sets nothing
stat_sets_nothing : (d : Descriptor) (o : Option OpenKind) → (stat_open d o).updates ≡ []
stat_sets_nothing d None = refl
stat_sets_nothing d (Some kind) = refl

pub stat_get_sets_nothing : (v : View) (o : Option Descriptor) → (stat_get v o).updates ≡ []
stat_get_sets_nothing v None = refl
stat_get_sets_nothing v (Some d) = stat_sets_nothing d (v.opened d.id)

-- where the answer is a reply its thread doesn't wait
replies_only : (a : Answer) (who : Who) (thread : Thread) (S : State) → is_parked a ≡ false → waits_if a who thread S ≡ S
replies_only (answer.Parked writes) who thread S replied = absurd (not_true (sym replied))
replies_only (answer.Reply reply) who thread S replied = refl

-- a call that was done has the answer and leaves the state of the definition
pub done_exactly : (constants : Constants) (S U : State) (who : Who) (call : Call) (reply : Reply)
    → IsAnswered (outcome_by constants (whole (tick S)) who call) (tick S) U (answer.Reply reply) → LacksNoMemory constants S who call (answer.Reply reply) U
done_exactly constants S U who call reply done =
    let same : outcome constants S who call ≡ outcome_by constants (whole (tick S)) who call = outcome_reads constants S who call in
    let is : answer.Reply reply ≡ (outcome constants S who call).answer = done.0 ∙ ap (λ (o : Outcome). o.answer) (sym same) in (
      is,
      done.1 ∙ ap (λ (o : Outcome). release (put_all o.updates (tick S))) (sym same)
          ∙ ap release (sym (replies_only (outcome constants S who call).answer who (waiting constants call who (S.clock + 1000))
          (put_all (outcome constants S who call).updates (tick S)) (ap is_parked (sym is)))),
    )

pub done_is_step : (constants : Constants) (S U : State) (who : Who) (call : Call) (reply : Reply)
    → IsAnswered (outcome_by constants (whole (tick S)) who call) (tick S) U (answer.Reply reply) → IsStep constants S who call (answer.Reply reply) U
done_is_step constants S U who call reply done = inl (done_exactly constants S U who call reply done)

-- a call that takes memory and would else succeed, but answers that memory ran out, is one too
pub lack_is_step : (constants : Constants) (S U : State) (who : Who) (call : Call) (given : Answer) → takes_memory call ≡ true
    → IsSuccess (outcome_by constants (whole (tick S)) who call).answer → given ≡ answer.Reply (refused Nomem) → U ≡ failed S who
    → IsStep constants S who call given U
lack_is_step constants S U who call given takes succeeds answered left =
    inr ((takes, subst (λ (o : Outcome). IsSuccess o.answer) (sym (outcome_reads constants S who call)) succeeds), answered, left)
