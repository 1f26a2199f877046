-- The denied calls of a history are all of its denials.
--     denials_are_all      the law
use Rattle.std.proofs.Common.{◌≡◌, inl, inr, List, ◌∷◌, ◌++◌, None, Option, refl, ap, ◌∙◌}
use Rattle.std.proofs.lemmas.List.Elements.{filter_map-append}
use Rattle.std.specs.Prelude.{option_map}
use Rattle.std.specs.List.{cons_option}
use Rattle.abi_types.specs.Numbers.{number_of_call}
use Rattle.abi_types.specs.declared.call.Call.{Call}
use Rattle.abi_types.specs.declared.descriptor.Denial.{Denial}
use Rattle.abi_types.specs.declared.reply.Answer.{Answer}
use Rattle.abi_types.specs.declared.reply.Answer.TheVariants as answer
use Rattle.abi_types.specs.declared.reply.Reply.{Reply}
use Rattle.run_types.specs.declared.history.Act.{Act}
use Rattle.run_types.specs.declared.history.Act.TheVariants as act
use Rattle.run_types.specs.declared.history.Entry.{Entry}
use Rattle.denied_calls.specs.DeniedCalls.{denied_act, denied_by, denied_calls, denied_entry}
use Rattle.denied_calls.specs.DenialLaws.{Answers, DenialsAreAll}
use Rattle.denied_calls.specs.declared.denied_call.DeniedCall.{DeniedCall}

-- an entry whose denied call is known
entry_between : (front : List Entry) (e : Entry) (rest : List Entry) (denied : Option DeniedCall) → denied_entry e ≡ denied
    → denied_calls (front ++ e ∷ rest) ≡ denied_calls front ++ cons_option denied (denied_calls rest)
entry_between front e rest denied is =
    filter_map-append denied_entry front (e ∷ rest) ∙ ap (λ first. denied_calls front ++ cons_option first (denied_calls rest)) is

module _ (e : Entry) where
  -- what the answer to the call denies, as a report shows it
  abbrev shown : Call → Option Denial → Option DeniedCall
  shown call denial = option_map (λ one. record { pid = e.pid; tid = e.tid; number = number_of_call call; denial = one }) denial

  of_answer : (call : Call) (reply : Reply) → Answers e call reply → denied_entry e ≡ shown call reply.denial
  of_answer call reply (inl called) = ap (denied_act e.pid e.tid) called
  of_answer call reply (inr woken) = ap (denied_act e.pid e.tid) woken.1

  -- no answer denies anything
  abbrev DeniesNothing : Type 0
  DeniesNothing = (call : Call) (reply : Reply) → Answers e call reply → reply.denial ≡ None

  by_answer : (call : Call) (given : Answer) → ((reply : Reply) → given ≡ answer.Reply reply → reply.denial ≡ None) → denied_by e.pid e.tid call given ≡ None
  by_answer call (answer.Parked writes) none = refl
  by_answer call (answer.Reply reply) none = ap (shown call) (none reply refl)

  nothing_denied : (a : Act) → e.act ≡ a → DeniesNothing → denied_act e.pid e.tid a ≡ None
  nothing_denied (act.Call call given) is none = by_answer call given (λ reply so. none call reply (inl (is ∙ ap (act.Call call) so)))
  nothing_denied (act.Wake call given answered) is none =
      by_answer call answered (λ reply so. none call reply (inr (given, is ∙ ap (act.Wake call given) so)))
  nothing_denied (act.Trap signal) is none = refl
  nothing_denied act.Expire is none = refl
  nothing_denied act.Idle is none = refl

pub denials_are_all : DenialsAreAll
denials_are_all = record {
  listed = λ front e rest call reply denial answers denies.
      entry_between front e rest _ (of_answer e call reply answers ∙ ap (shown e call) denies);
  only = λ front e rest none. entry_between front e rest None (nothing_denied e e.act refl none);
  none = refl;
}
