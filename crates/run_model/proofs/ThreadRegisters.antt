-- The registers of a process's threads after a call of one of them.
--     called_kept      those of a thread that the call neither makes nor ends
--     called_made      those of a thread that it makes
--     called_ended      a thread that it ends has none
--     parked_ends, parked_makes      a call in which its thread waits ends and makes none
use Rattle.std.proofs.Common.{◌≡◌, ◌≢◌, ℕ, Bool, true, false, inl, inr, Some, None, refl, sym, ap, ◌∙◌}
use Rattle.std.proofs.lemmas.Bool.Decides.{eqb_tells}
use Rattle.std.specs.Prelude.{if◌then◌else◌}
use Rattle.std.specs.Ordering.{nat_cmp}
use Rattle.std.specs.FinMap.{FinMap, get, insert}
use Rattle.abi_base.specs.Registers.{Registers}
use Rattle.abi_structures.specs.declared.structures.ThreadAttr.{ThreadAttr}
use Rattle.abi_types.specs.declared.call.Call.{Call}
use Rattle.abi_types.specs.declared.call.Call.TheVariants.{ThreadCreate, ThreadExit}
use Rattle.abi_types.specs.declared.reply.Answer.{Answer}
use Rattle.abi_types.specs.declared.reply.Answer.TheVariants as answer
use Rattle.abi_types.specs.declared.reply.WordWrites.{WordWrites}
use Rattle.call_codec.specs.Start.{thread_registers}
use Rattle.kernel_model.specs.Threads.{ends_caller, first_result, is_success, makes_thread}
use Rattle.kernel_model.proofs.Tests.{not_true}
use Rattle.maps.specs.Maps.{get-insert-same, get-insert-other, get-remove-same, get-remove-other}
use Rattle.run_model.specs.World.{called_regs, left_regs, made_regs}

abbrev Regs : Type 0
Regs = FinMap nat_cmp Registers

made_kept : (regs : Regs) (call : Call) (given : Answer) (t : ℕ) → (makes_thread call given ≡ true → t ≢ first_result given)
    → get (made_regs regs call given) t ≡ get regs t
made_kept regs (ThreadCreate attributes) (answer.Parked writes) t apart = refl
made_kept regs (ThreadCreate attributes) (answer.Reply reply) t apart =
    elim (is_success reply.errno) as (λ b. is_success reply.errno ≡ b
    → get (if b then insert regs reply.r1 (thread_registers attributes reply.r1) else regs) t ≡ get regs t) [
      | true ↦ λ makes. get-insert-other regs reply.r1 (thread_registers attributes reply.r1) t (apart makes)
      | false ↦ λ _. refl
    ] refl
made_kept regs _ given t apart = refl

left_kept : (ends : Bool) (regs : Regs) (tid t : ℕ) → (t ≡ tid → ends ≡ false) → get (left_regs ends tid regs) t ≡ get regs t
left_kept true regs tid t lasts =
    elim (eqb_tells t tid) [
      | inl is ↦ absurd (not_true (sym (lasts is.1)))
      | inr apart ↦ get-remove-other regs tid t apart.1
    ]
left_kept false regs tid t lasts = refl

pub called_kept : (regs : Regs) (tid : ℕ) (call : Call) (given : Answer) (t : ℕ) → (t ≡ tid → ends_caller call given ≡ false)
    → (makes_thread call given ≡ true → t ≢ first_result given) → get (called_regs regs tid call given) t ≡ get regs t
called_kept regs tid call given t lasts apart =
    left_kept (ends_caller call given) (made_regs regs call given) tid t lasts ∙ made_kept regs call given t apart

-- a call doesn't both make a thread and end one
makes_lasts : (call : Call) (given : Answer) → makes_thread call given ≡ true → ends_caller call given ≡ false
makes_lasts (ThreadCreate attributes) given makes = refl
makes_lasts _ given makes = absurd (not_true makes)

pub called_made : (regs : Regs) (tid : ℕ) (attributes : ThreadAttr) (given : Answer) → makes_thread (ThreadCreate attributes) given ≡ true
    → get (called_regs regs tid (ThreadCreate attributes) given) (first_result given) ≡ Some (thread_registers attributes (first_result given))
called_made regs tid attributes (answer.Parked writes) makes = absurd (not_true makes)
called_made regs tid attributes (answer.Reply reply) makes =
    ap (λ b. get (if b then insert regs reply.r1 (thread_registers attributes reply.r1) else regs) reply.r1) makes
    ∙ get-insert-same regs reply.r1 (thread_registers attributes reply.r1)

pub called_ended : (regs : Regs) (tid : ℕ) (call : Call) (given : Answer) → ends_caller call given ≡ true → get (called_regs regs tid call given) tid ≡ None
called_ended regs tid call given ends =
    ap (λ b. get (left_regs b tid (made_regs regs call given)) tid) ends ∙ get-remove-same (made_regs regs call given) tid

pub parked_ends : (call : Call) (writes : WordWrites) → ends_caller call (answer.Parked writes) ≡ false
parked_ends (ThreadExit lock word scope) writes = refl
parked_ends _ writes = refl

pub parked_makes : (call : Call) (writes : WordWrites) → makes_thread call (answer.Parked writes) ≡ false
parked_makes (ThreadCreate attributes) writes = refl
parked_makes _ writes = refl
