use Rattle.std.proofs.Common.{◌≡◌, ℕ, true, None, Some, option_copied, refl, sym, ap, subst, ◌∙◌}
use Rattle.abi_types.specs.Families.{call_of_entry}
use Rattle.abi_types.specs.declared.reply.Reply.{Reply}
use Rattle.entry_calls.specs.Done.{FailsAs}
use Rattle.entry_calls.specs.declared.failure.Failure.TheVariants.{Refused, NoMemory}
use Rattle.kernel_model.specs.Families.EntryCalls as model
use Rattle.kernel_model.specs.Families.NameMeaning.{NameOutcome}
use Rattle.kernel_model.specs.Families.Numbers.{can_number, next_object}
use Rattle.kernel_parts.specs.Entries.{number_of}
use Rattle.kernel_parts.specs.declared.entries.EntryReply.{EntryReply}
use Rattle.kernel_parts.proofs.Naming.{changes_succeed, counted_out, entries_have_fds, failed_is, new_again, numbered_is, refused_left, reported_is, unnumbered, unnumbered_is_one}
use Rattle.kernel_parts.proofs.entries.change_entries.Goals as goal

-- the reply of a call that took no name
reply_is : (done : EntryReply) (reply : Reply) → done ≡ record { reply = reply; lost = None } → done.reply ≡ reply
reply_is done reply is = ap (λ (d : EntryReply). d.reply) is

pub returns-in-Ok-clause-done : goal.returns-in-Ok-clause-done
returns-in-Ok-clause-done c =
    let p : ℕ = c.args.caller.now.pid in
    let own = c.args.own.now in
    let t = c.args.tree.now in
    let new_nodes : ℕ = (model.name_meaning (call_of_entry c.args.call)).new_nodes in
    let none = ap (λ k. number_of p k (Some own)) (sym c.new_nodes-count.ensures) ∙ sym c.numbered.ensures.number ∙ c.in_default.is in
    let cannot = unnumbered p new_nodes (Some own) none in
    let one = unnumbered_is_one (call_of_entry c.args.call) (entries_have_fds c.args.call) p (Some own) cannot in
    let reported = c.in-Ok.ensures one c.args.caller.now.time (next_object p (Some own) 1) (option_copied c.args.there) in
    counted_out p new_nodes own own t t _ c.replied.result.reply reported.0 reported.1 cannot refl refl (reply_is c.replied.result _ c.replied.ensures ∙ c.refused.ensures)

pub returns-in-Err-clause-done : goal.returns-in-Err-clause-done
returns-in-Err-clause-done c =
    let p : ℕ = c.args.caller.now.pid in
    let own = c.args.own.now in
    let t = c.args.tree.now in
    let new : ℕ = next_object p (Some own) 1 in
    let m = model.name_meaning (call_of_entry c.args.call) in
    let comes : NameOutcome = m.effect c.args.caller.now.time new t (Some c.args.here.now) (option_copied c.args.there) in
    let none = ap (λ k. number_of p k (Some own)) (sym c.new_nodes-count.ensures) ∙ sym c.numbered.ensures.number ∙ c.in_default.is in
    let one = unnumbered_is_one (call_of_entry c.args.call) (entries_have_fds c.args.call) p (Some own) (unnumbered p m.new_nodes (Some own) none) in
    let reported = c.in-Err.ensures one c.args.caller.now.time new (option_copied c.args.there) in
    refused_left p m.new_nodes own own t t comes c.replied-in-Err.result.reply c.in-Err.refusal (reported_is (Unit {0}) comes c.in-Err.refusal reported) refl refl
    (reply_is c.replied-in-Err.result _ c.replied-in-Err.ensures ∙ c.reply_of.ensures)

pub returns-in-Err-Refused-clause-done : goal.returns-in-Err-Refused-clause-done
returns-in-Err-Refused-clause-done c =
    let p : ℕ = c.args.caller.now.pid in
    let now : ℕ = c.args.caller.now.time in
    let own = c.args.own.now in
    let t = c.args.tree.now in
    let m = model.name_meaning (call_of_entry c.args.call) in
    let comes : ℕ → NameOutcome = λ n. m.effect now n t (Some c.args.here.now) (option_copied c.args.there) in
    let why = c.in-Err-Refused.refusal in
    let is = sym c.numbered.ensures.number ∙ c.in-Some.is in
    let number : c.in-Some.new ≡ next_object p (Some own) m.new_nodes =
    (numbered_is p c.new_nodes-count.result c.in-Some.new (Some own) is).1 ∙ ap (next_object p (Some own)) c.new_nodes-count.ensures in
    let same : comes c.in-Some.new ≡ comes (next_object p (Some own) 1) =
    ap comes number ∙ new_again (call_of_entry c.args.call) (entries_have_fds c.args.call) p now (Some own) t (Some c.args.here.now) (option_copied c.args.there) in
    let fails : FailsAs (comes c.in-Some.new) (Refused why) = subst (FailsAs (comes c.in-Some.new)) c.in-Err-Refused.field-0-is c.in-Err-Refused.ensures.0 in
    refused_left p m.new_nodes own own t c.on_entries.new.tree (comes (next_object p (Some own) 1)) c.replied-in-Err-Refused.result.reply why
    (sym same ∙ failed_is (comes c.in-Some.new) why fails) refl c.in-Err-Refused.ensures.1
    (reply_is c.replied-in-Err-Refused.result _ c.replied-in-Err-Refused.ensures ∙ c.reply_of-in-Err-Refused.ensures)

pub returns-in-Err-NoMemory-clause-only : goal.returns-in-Err-NoMemory-clause-only
returns-in-Err-NoMemory-clause-only c =
    let p : ℕ = c.args.caller.now.pid in
    let now : ℕ = c.args.caller.now.time in
    let own = c.args.own.now in
    let t = c.args.tree.now in
    let m = model.name_meaning (call_of_entry c.args.call) in
    let comes : ℕ → NameOutcome = λ n. m.effect now n t (Some c.args.here.now) (option_copied c.args.there) in
    let numbered = numbered_is p c.new_nodes-count.result c.in-Some.new (Some own) (sym c.numbered.ensures.number ∙ c.in-Some.is) in
    let number : c.in-Some.new ≡ next_object p (Some own) m.new_nodes = numbered.1 ∙ ap (next_object p (Some own)) c.new_nodes-count.ensures in
    let same : comes c.in-Some.new ≡ comes (next_object p (Some own) 1) =
    ap comes number ∙ new_again (call_of_entry c.args.call) (entries_have_fds c.args.call) p now (Some own) t (Some c.args.here.now) (option_copied c.args.there) in
    let fails : FailsAs (comes c.in-Some.new) NoMemory = subst (FailsAs (comes c.in-Some.new)) c.in-Err-NoMemory.field-0-is c.in-Err-NoMemory.ensures.0 in
    changes_succeed p m.new_nodes own (comes (next_object p (Some own) 1)) fails.0 (sym same ∙ fails.1)
    (subst (λ k. can_number p k (Some own) ≡ true) c.new_nodes-count.ensures numbered.0)
