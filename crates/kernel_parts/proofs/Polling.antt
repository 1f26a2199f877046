-- Whether a call is over.
--     over_is      so it is by the whole state
--     over_by      by what a call looks at that isn't refused
--     refused_is_over, poll_is_over, offset_is_over, socket_is_over, other_is_over      by the family of a call
use Rattle.std.proofs.Common.{◌≡◌, ◌≢◌, ℕ, true, false, not, Option, Some, None, refl, sym, ap, ◌∙◌}
use Rattle.std.specs.Ordering.{nat_cmp}
use Rattle.std.specs.FinMap.{FinMap, get}
use Rattle.abi_types.specs.Families.{IsOf, call_of_offset, call_of_socket, fd_of_offset}
use Rattle.abi_types.specs.declared.call.Call.{Call}
use Rattle.abi_types.specs.declared.constants.Constants.{Constants}
use Rattle.abi_types.specs.declared.family.Family.{Family}
use Rattle.abi_types.specs.declared.family.Family.TheVariants as family
use Rattle.abi_types.specs.declared.family.OffsetCall.{OffsetCall}
use Rattle.abi_types.specs.declared.family.SocketCall.{SocketCall}
use Rattle.abi_types.specs.declared.open_kind.OpenKind.{OpenKind}
use Rattle.abi_types.specs.declared.reply.Reply.{Reply}
use Rattle.abi_types.specs.declared.status.Status.{Status}
use Rattle.abi_types.specs.declared.who.Who.{Who}
use Rattle.kernel_model.specs.Calls.{meaning_of, refusal}
use Rattle.kernel_model.specs.Channels.{Channel}
use Rattle.kernel_model.specs.Outcome.{Outcome, is_parked}
use Rattle.kernel_model.specs.State.{State, Table, no_state}
use Rattle.kernel_model.specs.Step.{outcome_on, unless}
use Rattle.kernel_model.specs.View.{whole}
use Rattle.kernel_model.specs.Waits.{resumed}
use Rattle.kernel_model.specs.Wakes.{is_done_now}
use Rattle.kernel_model.proofs.Tests.{none_is_no}
use Rattle.kernel_parts.specs.Entries.{open_in}
use Rattle.poll_set.specs.Polls.{poll_outcome}
use Rattle.kernel_parts.specs.Waiting.{end_at, fd_of_socket, is_over, socket_at}
use Rattle.kernel_parts.proofs.Parked.{effect_parks, offset_parks, other_parks, parks, poll_is, offset_is, socket_is, socket_parks}

-- ---- by the whole state

unless_alike : (r : Option Reply) (o u : Outcome) → is_parked o.answer ≡ is_parked u.answer → is_parked (unless r o).answer ≡ is_parked (unless r u).answer
unless_alike None o u same = same
unless_alike (Some reply) o u same = refl

-- what a thread that runs again looks at is what it looked at as it waited
outcome_alike : (c : Call) (constants : Constants) (S T : State) (who other : Who) (t : Option Table) → S.opens ≡ T.opens → S.chans ≡ T.chans → S.statuses ≡ T.statuses → S.clock ≡ T.clock
    → who.since ≡ other.since → (meaning_of c).by_stage ≡ false
    → is_parked (outcome_on constants (whole S) who c t).answer ≡ is_parked (outcome_on constants (whole T) other c t).answer
outcome_alike c constants S T who other None opens channels statuses moment since plain = refl
outcome_alike c constants S T who other (Some table) opens channels statuses moment since plain =
    unless_alike (refusal table c) _ _
    (effect_parks constants S who table c plain ∙ (λ i. parks constants (opens i) (channels i) (statuses i) (moment i) table (since i) c)
    ∙ sym (effect_parks constants T other table c plain))

pub over_is : (constants : Constants) (S : State) (who : Who) (c : Call) → (meaning_of c).by_stage ≡ false
    → is_over constants S.opens S.chans S.statuses S.clock (get S.tables who.pid) who.since c ≡ is_done_now constants S who c
over_is constants S who c plain =
    ap not (outcome_alike c constants (record no_state { clock = S.clock; opens = S.opens; chans = S.chans; statuses = S.statuses }) (resumed S who)
    (record { pid = 0; tid = 0; since = who.since; stage = None }) who (get S.tables who.pid) refl refl refl refl refl plain)

-- ---- by the family

refused_by : (o : Outcome) (r : Option Reply) (reply : Reply) → r ≡ Some reply → not (is_parked (unless r o).answer) ≡ true
refused_by o None reply is = absurd (none_is_no reply is)
refused_by o (Some other) reply is = refl

allowed_by : (o : Outcome) (r : Option Reply) → r ≡ None → not (is_parked (unless r o).answer) ≡ not (is_parked o.answer)
allowed_by o None is = refl
allowed_by o (Some reply) is = absurd (none_is_no reply (sym is))

module _ (constants : Constants) (opens : FinMap nat_cmp OpenKind) (channels : FinMap nat_cmp Channel) (statuses : FinMap nat_cmp Status) (now : ℕ) (table : Table) (since : ℕ) (c : Call) (plain : (meaning_of c).by_stage ≡ false) where
  pub refused_is_over : (reply : Reply) → refusal table c ≡ Some reply → is_over constants opens channels statuses now (Some table) since c ≡ true
  refused_is_over reply is = refused_by _ (refusal table c) reply is

  module _ (allowed : refusal table c ≡ None) where
    pub over_by : is_over constants opens channels statuses now (Some table) since c ≡ not (parks constants opens channels statuses now table since c)
    over_by =
        allowed_by _ (refusal table c) allowed
        ∙ ap not (effect_parks constants (record no_state { clock = now; opens = opens; chans = channels; statuses = statuses }) (record { pid = 0; tid = 0; since = since; stage = None }) table c plain)

    module _ (f : Family) (of : IsOf c f) where
      pub poll_is_over : (subscriptions : _) → f ≡ family.Poll subscriptions
          → is_over constants opens channels statuses now (Some table) since c ≡ not (is_parked (poll_outcome constants opens channels statuses now table since subscriptions.now).answer)
      poll_is_over subscriptions is = over_by ∙ ap (λ x. not (parks constants opens channels statuses now table since x)) (poll_is c subscriptions f of is)

      pub offset_is_over : (view : OffsetCall) → f ≡ family.Offset view → is_over constants opens channels statuses now (Some table) since c
          ≡ not (is_parked (end_at channels (open_in opens (get table (fd_of_offset view))) (call_of_offset view)).answer)
      offset_is_over view is =
          over_by ∙ ap (λ x. not (parks constants opens channels statuses now table since x)) (offset_is c view f of is)
          ∙ ap not (offset_parks constants opens channels statuses now table since view)

      pub socket_is_over : (view : SocketCall) → f ≡ family.Socket view → is_over constants opens channels statuses now (Some table) since c
          ≡ not (is_parked (socket_at 0 table channels (open_in opens (get table (fd_of_socket view))) (call_of_socket view)).answer)
      socket_is_over view is =
          over_by ∙ ap (λ x. not (parks constants opens channels statuses now table since x)) (socket_is c view f of is)
          ∙ ap not (socket_parks constants opens channels statuses now table since view)

      pub other_is_over : ((subscriptions : _) → f ≢ family.Poll subscriptions) → ((view : OffsetCall) → f ≢ family.Offset view)
          → ((view : SocketCall) → f ≢ family.Socket view) → is_over constants opens channels statuses now (Some table) since c ≡ true
      other_is_over polls offsets sockets = over_by ∙ ap not (other_parks constants opens channels statuses now table since c f of polls offsets sockets)
