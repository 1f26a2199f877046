use Rattle.std.proofs.Common.{◌≡◌, None, not, sym, ap, ◌∙◌}
use Rattle.std.specs.Prelude.{option_copied}
use Rattle.kernel_model.specs.Calls.{refusal}
use Rattle.kernel_model.proofs.Tests.{none_of}
use Rattle.kernel_parts.specs.Waiting.{is_over}
use Rattle.kernel_parts.proofs.Parked.{all_sent, socket_is}
use Rattle.kernel_parts.proofs.Polling.{offset_is_over, other_is_over, poll_is_over, socket_is_over}
use Rattle.kernel_parts.proofs.waiting.is_over.Goals as goal

pub returns-in-Poll : goal.returns-in-Poll
returns-in-Poll c =
    let allowed : refusal c.in-Some.table.now c.args.call.now ≡ None =
    sym c.refusal.ensures ∙ none_of c.refusal.result (sym c.is_some.ensures ∙ c.if-is_some.false) in
    ap not c.poll_waits.ensures
    ∙ sym (ap (λ t. is_over c.args.around.constants.now c.args.around.objects.now.kinds c.args.around.channels.now c.args.around.statuses.now c.args.around.now (option_copied t) c.args.since
    c.args.call.now) c.in-Some.is
    ∙ poll_is_over c.args.around.constants.now c.args.around.objects.now.kinds c.args.around.channels.now c.args.around.statuses.now c.args.around.now c.in-Some.table.now c.args.since
    c.args.call.now c.requires allowed c.family.result c.family.ensures c.in-Poll.subscriptions c.in-Poll.is)

pub returns-in-Offset : goal.returns-in-Offset
returns-in-Offset c =
    let allowed : refusal c.in-Some.table.now c.args.call.now ≡ None =
    sym c.refusal.ensures ∙ none_of c.refusal.result (sym c.is_some.ensures ∙ c.if-is_some.false) in
    ap not c.offset_waits.ensures
    ∙ sym (ap (λ t. is_over c.args.around.constants.now c.args.around.objects.now.kinds c.args.around.channels.now c.args.around.statuses.now c.args.around.now (option_copied t) c.args.since
    c.args.call.now) c.in-Some.is
    ∙ offset_is_over c.args.around.constants.now c.args.around.objects.now.kinds c.args.around.channels.now c.args.around.statuses.now c.args.around.now c.in-Some.table.now c.args.since
    c.args.call.now c.requires allowed c.family.result c.family.ensures c.in-Offset.view c.in-Offset.is)

pub socket_call_waits-requires : goal.socket_call_waits-requires
socket_call_waits-requires c =
    let allowed : refusal c.in-Some.table.now c.args.call.now ≡ None =
    sym c.refusal.ensures ∙ none_of c.refusal.result (sym c.is_some.ensures ∙ c.if-is_some.false) in
    all_sent c.in-Some.table.now c.args.call.now c.in-Socket.view (socket_is c.args.call.now c.in-Socket.view c.family.result c.family.ensures c.in-Socket.is)
    allowed

pub returns-in-Socket : goal.returns-in-Socket
returns-in-Socket c =
    let allowed : refusal c.in-Some.table.now c.args.call.now ≡ None =
    sym c.refusal.ensures ∙ none_of c.refusal.result (sym c.is_some.ensures ∙ c.if-is_some.false) in
    ap not (c.socket_call_waits.ensures 0)
    ∙ sym (ap (λ t. is_over c.args.around.constants.now c.args.around.objects.now.kinds c.args.around.channels.now c.args.around.statuses.now c.args.around.now (option_copied t) c.args.since
    c.args.call.now) c.in-Some.is
    ∙ socket_is_over c.args.around.constants.now c.args.around.objects.now.kinds c.args.around.channels.now c.args.around.statuses.now c.args.around.now c.in-Some.table.now c.args.since
    c.args.call.now c.requires allowed c.family.result c.family.ensures c.in-Socket.view c.in-Socket.is)

pub returns-in_default-family : goal.returns-in_default-family
returns-in_default-family c =
    let allowed : refusal c.in-Some.table.now c.args.call.now ≡ None =
    sym c.refusal.ensures ∙ none_of c.refusal.result (sym c.is_some.ensures ∙ c.if-is_some.false) in
    sym (ap (λ t. is_over c.args.around.constants.now c.args.around.objects.now.kinds c.args.around.channels.now c.args.around.statuses.now c.args.around.now (option_copied t) c.args.since
    c.args.call.now) c.in-Some.is
    ∙ other_is_over c.args.around.constants.now c.args.around.objects.now.kinds c.args.around.channels.now c.args.around.statuses.now c.args.around.now c.in-Some.table.now c.args.since
    c.args.call.now c.requires allowed c.family.result c.family.ensures c.in_default-family.not-Poll c.in_default-family.not-Offset c.in_default-family.not-Socket)
