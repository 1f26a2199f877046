-- Whether a thread that waits is ready, by what it waits in.
--     ready_by      by the call
--     looked_at      by what was looked at
use Rattle.std.proofs.Common.{◌≡◌, ℕ, true, false, Option, Some, refl, sym, ap, ◌∙◌}
use Rattle.std.specs.Prelude.{if◌then◌else◌}
use Rattle.std.specs.Ordering.{nat_cmp}
use Rattle.std.specs.FinMap.{FinMap, get}
use Rattle.abi_types.specs.declared.call.Call.{Call}
use Rattle.abi_types.specs.declared.constants.Constants.{Constants}
use Rattle.abi_types.specs.declared.open_kind.OpenKind.{OpenKind}
use Rattle.abi_types.specs.declared.status.Status.{Status}
use Rattle.abi_types.specs.declared.thread.Stage.{Stage}
use Rattle.abi_types.specs.declared.thread.Thread.TheVariants.{Waits}
use Rattle.abi_types.specs.declared.who.Who.{Who}
use Rattle.kernel_model.specs.Calls.{meaning_of}
use Rattle.kernel_model.specs.Channels.{Channel}
use Rattle.kernel_model.specs.Deadlines.{is_due}
use Rattle.kernel_model.specs.State.{State, Table, thread_of}
use Rattle.kernel_model.specs.Wakes.{goes_on_at, is_done_now, is_ready, is_ready_as}
use Rattle.kernel_parts.specs.Waiting.{goes_on, is_over}
use Rattle.kernel_parts.proofs.Polling.{over_is}

pub ready_by : (constants : Constants) (S : State) (p t : ℕ) (call : Call) (since : ℕ) (until : Option ℕ) (stage : Stage)
    → thread_of S p t ≡ Some (Waits call since until stage)
    → goes_on constants S.opens S.chans S.statuses S.clock (get S.tables p) call since until stage ≡ is_ready constants S p t
ready_by constants S p t call since until stage there =
    let who : Who = record { pid = p; tid = t; since = since; stage = Some stage } in
    let over = is_over constants S.opens S.chans S.statuses S.clock (get S.tables p) since call in
    elim (meaning_of call).by_stage as (λ b. (meaning_of call).by_stage ≡ b
    → (if b then goes_on_at stage (is_due S.clock until) else over) ≡ (if b then goes_on_at stage (is_due S.clock until) else is_done_now constants S who call)) [
      | true ↦ λ e. refl
      | false ↦ λ e. over_is constants S who call e
    ] refl
    ∙ ap (is_ready_as constants S p t) (sym there)

-- by what was looked at
pub looked_at : {a constants : Constants} {k opens : FinMap nat_cmp OpenKind} {x chans : FinMap nat_cmp Channel} {u statuses : FinMap nat_cmp Status} {n now : ℕ}
    → a ≡ constants → k ≡ opens → x ≡ chans → u ≡ statuses → n ≡ now → (table : Option Table) (call : Call) (since : ℕ) (until : Option ℕ) (stage : Stage)
    → goes_on a k x u n table call since until stage ≡ goes_on constants opens chans statuses now table call since until stage
looked_at one two three four five table call since until stage = λ i. goes_on (one i) (two i) (three i) (four i) (five i) table call since until stage
