-- A call's outcome, by the whole state.
--     reads_sight, sight_ticked, outcome_reads      a call reads nothing outside its sight
--     outcome_of_table      the outcome of a call of a process that has a table
--     outside_reads, outside_of_table      the same of where a path leads outside
--     outcome_by_cases, outcome_holds      what holds of each refusal and of what each call does holds of each outcome
use Rattle.std.proofs.Common.{◌≡◌, ◌++◌, Option, Some, None, refl, sym, ap, subst, ◌∙◌}
use Rattle.std.specs.FinMap.{get}
use Rattle.abi_types.specs.declared.call.Call.{Call}
use Rattle.abi_types.specs.declared.reply.Reply.{Reply}
use Rattle.abi_types.specs.declared.constants.Constants.{Constants}
use Rattle.abi_types.specs.declared.who.Who.{Who}
use Rattle.kernel_model.specs.Calls.{meaning_of, seen, refusal, refusal_of}
use Rattle.kernel_model.specs.Outcome.{Outcome, replies}
use Rattle.kernel_model.specs.Sight.{process_parts, reached}
use Rattle.kernel_model.specs.State.{State, Table, at_proc, has_part}
use Rattle.kernel_model.specs.Step.{tick, unless_refused, reach, sight, unless, outcome_on, outcome_by, outcome, component_unless, outside_on, outside_by, outside}
use Rattle.kernel_model.specs.View.{View, restrict, whole}
use Rattle.kernel_model.proofs.Calls.{proper}
use Rattle.kernel_model.proofs.Sights.{first_seen, reached_ticked}

unless_reads : (constants : Constants) (S : State) (who : Who) (table : Table) (call : Call) (r : Option Reply)
    → unless r ((meaning_of call).effect constants (restrict S (process_parts who.pid ++ unless_refused r (reached S table (seen call)))) who table)
    ≡ unless r ((meaning_of call).effect constants (whole S) who table)
unless_reads constants S who table call None = (proper call).reads constants S who table
unless_reads constants S who table call (Some reply) = refl

act_reads : (constants : Constants) (S : State) (who : Who) (call : Call) (t : Option Table)
    → outcome_on constants (restrict S (process_parts who.pid ++ reach S call t)) who call t ≡ outcome_on constants (whole S) who call t
act_reads constants S who call None = refl
act_reads constants S who call (Some table) = unless_reads constants S who table call (refusal table call)

-- a call does the same by its sight as by the whole state
pub reads_sight : (constants : Constants) (S : State) (who : Who) (call : Call)
    → outcome_by constants (restrict S (sight S who call)) who call ≡ outcome_by constants (whole S) who call
unfolding sight
reads_sight constants S who call =
    ap (outcome_on constants (restrict S (process_parts who.pid ++ reach S call (get S.tables who.pid))) who call)
    (first_seen who.pid (has_part (reach S call (get S.tables who.pid)) (at_proc who.pid)) (get S.tables who.pid))
    ∙ act_reads constants S who call (get S.tables who.pid)

reach_ticked : (S : State) (call : Call) (t : Option Table) → reach (tick S) call t ≡ reach S call t
reach_ticked S call None = refl
reach_ticked S call (Some table) = ap (unless_refused (refusal table call)) (reached_ticked S table (seen call))

-- the sight does not depend on the clock
pub sight_ticked : (S : State) (who : Who) (call : Call) → sight (tick S) who call ≡ sight S who call
unfolding sight
sight_ticked S who call = ap (λ parts. process_parts who.pid ++ parts) (reach_ticked S call (get S.tables who.pid))

-- the outcome of a call, by the whole state at its moment
pub outcome_reads : (constants : Constants) (S : State) (who : Who) (call : Call) → outcome constants S who call ≡ outcome_by constants (whole (tick S)) who call
unfolding outcome
outcome_reads constants S who call =
    ap (λ parts. outcome_by constants (restrict (tick S) parts) who call) (sym (sight_ticked S who call)) ∙ reads_sight constants (tick S) who call

-- the outcome of a call of a process that has a table
pub outcome_of_table : (constants : Constants) (S : State) (who : Who) (call : Call) (table : Table) → get S.tables who.pid ≡ Some table
    → outcome constants S who call ≡ unless (refusal table call) ((meaning_of call).effect constants (whole (tick S)) who table)
outcome_of_table constants S who call table own = outcome_reads constants S who call ∙ ap (outcome_on constants (whole (tick S)) who call) own

-- ---- where a path leads outside

unless_walks : (S : State) (who : Who) (table : Table) (call : Call) (r : Option Reply)
    → component_unless r ((meaning_of call).outside (restrict S (process_parts who.pid ++ unless_refused r (reached S table (seen call)))) table)
    ≡ component_unless r ((meaning_of call).outside (whole S) table)
unless_walks S who table call None = (proper call).walks S who table
unless_walks S who table call (Some reply) = refl

outside_on_reads : (S : State) (who : Who) (call : Call) (t : Option Table)
    → outside_on (restrict S (process_parts who.pid ++ reach S call t)) call t ≡ outside_on (whole S) call t
outside_on_reads S who call None = refl
outside_on_reads S who call (Some table) = unless_walks S who table call (refusal table call)

outside_by_reads : (S : State) (who : Who) (call : Call) → outside_by (restrict S (sight S who call)) who call ≡ outside_by (whole S) who call
unfolding sight
outside_by_reads S who call =
    ap (outside_on (restrict S (process_parts who.pid ++ reach S call (get S.tables who.pid))) call)
    (first_seen who.pid (has_part (reach S call (get S.tables who.pid)) (at_proc who.pid)) (get S.tables who.pid))
    ∙ outside_on_reads S who call (get S.tables who.pid)

-- where its path leads outside, by the whole state at its moment
pub outside_reads : (S : State) (who : Who) (call : Call) → outside S who call ≡ outside_by (whole (tick S)) who call
unfolding outside
outside_reads S who call =
    ap (λ parts. outside_by (restrict (tick S) parts) who call) (sym (sight_ticked S who call)) ∙ outside_by_reads (tick S) who call

-- the same of a call that is not refused
pub outside_of_table : (S : State) (who : Who) (call : Call) (table : Table) → get S.tables who.pid ≡ Some table → refusal table call ≡ None
    → outside S who call ≡ (meaning_of call).outside (whole (tick S)) table
outside_of_table S who call table own unrefused =
    outside_reads S who call ∙ ap (outside_on (whole (tick S)) call) own
    ∙ ap (λ r. component_unless r ((meaning_of call).outside (whole (tick S)) table)) unrefused

-- ---- what holds of all outcomes

unless_holds : (P : Outcome → Type 0) (r : Option Reply) (o : Outcome) → ((reply : Reply) → r ≡ Some reply → P (replies reply)) → (r ≡ None → P o)
    → P (unless r o)
unless_holds P None o refused done = done refl
unless_holds P (Some reply) o refused done = refused reply refl

act_holds : (P : Outcome → Type 0) (constants : Constants) (v : View) (who : Who) (call : Call) (t : Option Table)
    → ((reply : Reply) → refusal_of call t ≡ Some reply → P (replies reply))
    → ((table : Table) → t ≡ Some table → refusal table call ≡ None → P ((meaning_of call).effect constants v who table)) → P (outcome_on constants v who call t)
act_holds P constants v who call None refused done = refused _ refl
act_holds P constants v who call (Some table) refused done =
    unless_holds P (refusal table call) ((meaning_of call).effect constants v who table) refused (done table refl)

-- what holds of each refusal, and of what the call does where it isn't refused, holds of its outcome
pub outcome_by_cases : (P : Outcome → Type 0) (constants : Constants) (S : State) (who : Who) (call : Call)
    → ((reply : Reply) → refusal_of call (get S.tables who.pid) ≡ Some reply → P (replies reply))
    → ((table : Table) → get S.tables who.pid ≡ Some table → refusal table call ≡ None → P ((meaning_of call).effect constants (whole (tick S)) who table))
    → P (outcome constants S who call)
outcome_by_cases P constants S who call refused done =
    subst P (sym (outcome_reads constants S who call)) (act_holds P constants (whole (tick S)) who call (get S.tables who.pid) refused done)

-- and what holds of what it does in any case
pub outcome_holds : (P : Outcome → Type 0) (constants : Constants) (S : State) (who : Who) (call : Call)
    → ((reply : Reply) → refusal_of call (get S.tables who.pid) ≡ Some reply → P (replies reply))
    → ((table : Table) → get S.tables who.pid ≡ Some table → P ((meaning_of call).effect constants (whole (tick S)) who table)) → P (outcome constants S who call)
outcome_holds P constants S who call refused done = outcome_by_cases P constants S who call refused (λ table there _. done table there)
