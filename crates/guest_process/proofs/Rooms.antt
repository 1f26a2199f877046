-- The registers of the thread that a call may make, before the call and after it.
--     other_than      a thread that is there is another
--     same_without, registered_with, without_with, room_with      its registers, with the room for the other and without
--     has_registers      the thread that there is room for has registers
--     taken_back      registers that were given and taken back
--     kept_made, kept_none      what is left after the call
use Rattle.std.proofs.Common.{◌≡◌, ◌≢◌, ℕ, Bool, true, false, Option, None, Some, IsSome, is_some, refl, sym, ap, subst, ◌∙◌}
use Rattle.std.specs.Prelude.{if◌then◌else◌}
use Rattle.std.specs.Ordering.{nat_cmp}
use Rattle.std.specs.FinMap.{FinMap, get, insert}
use Rattle.maps.specs.Maps.{get-insert-other, get-remove-other, insert-again, insert-insert, insert-remove, insert_self, remove-insert_other, remove-inserted}
use Rattle.abi_base.specs.Registers.{Registers}
use Rattle.abi_types.specs.declared.call.Call.{Call}
use Rattle.abi_types.specs.declared.call.Call.TheVariants.{ThreadCreate}
use Rattle.abi_types.specs.declared.reply.Answer.{Answer}
use Rattle.abi_types.specs.declared.reply.Answer.TheVariants as answer
use Rattle.call_codec.specs.Start.{thread_registers}
use Rattle.kernel_model.specs.Threads.{ends_caller, first_result, makes_thread}
use Rattle.kernel_model.proofs.Tests.{not_true}
use Rattle.run_model.specs.World.{called_regs, left_regs, made_regs}
use Rattle.guest_process.specs.Room.{put_back, without_thread, HasNumber, HasOther, HasRegisters, HasThreadFor}
use Rattle.guest_process.specs.declared.guest.NewThread.{NewThread}

pub other_than : (t next : ℕ) (o : Option NewThread) → HasNumber next o → t ≢ next → HasOther t o
other_than t next None number other = tt
other_than t next (Some new) number other = λ is. other (is ∙ number)

pub has_registers : (call : Call) (o : Option NewThread) (regs : FinMap nat_cmp Registers) → HasThreadFor call o regs → HasRegisters o regs
has_registers call None regs room = tt
has_registers (ThreadCreate attributes) (Some new) regs room = ap is_some room
has_registers _ (Some new) regs room = absurd room

pub taken_back : (regs : FinMap nat_cmp Registers) (t : ℕ) (r : Registers) (o : Option Registers) → o ≡ get regs t → put_back (insert regs t r) t o ≡ regs
taken_back regs t r None was = remove-inserted regs t r (sym was)
taken_back regs t r (Some before) was = insert-again regs t r before ∙ insert_self regs t before (sym was)

module _ (t : ℕ) where
  -- a thread has the same registers with the room for another and without
  pub same_without : (regs : FinMap nat_cmp Registers) (o : Option NewThread) → HasOther t o → get (without_thread o regs) t ≡ get regs t
  same_without regs None other = refl
  same_without regs (Some new) other = by new.before
    where
      by : (before : Option Registers) → get (put_back regs new.tid before) t ≡ get regs t
      by None = get-remove-other regs new.tid t other
      by (Some r) = get-insert-other regs new.tid r t other

  pub registered_with : (regs : FinMap nat_cmp Registers) (o : Option NewThread) → HasOther t o → IsSome (get (without_thread o regs) t) → IsSome (get regs t)
  registered_with regs o other there = subst IsSome (same_without regs o other) there

  -- the room stays where they change
  pub without_with : (regs : FinMap nat_cmp Registers) (o : Option NewThread) (r : Registers) → HasOther t o
      → without_thread o (insert regs t r) ≡ insert (without_thread o regs) t r
  without_with regs None r other = refl
  without_with regs (Some new) r other = by new.before
    where
      by : (before : Option Registers) → put_back (insert regs t r) new.tid before ≡ insert (put_back regs new.tid before) t r
      by None = remove-insert_other regs t new.tid r (λ e. other (sym e))
      by (Some was) = insert-insert regs t new.tid r was (λ e. other (sym e))

  pub room_with : (regs : FinMap nat_cmp Registers) (call : Call) (o : Option NewThread) (r : Registers) → HasOther t o → HasThreadFor call o regs
      → HasThreadFor call o (insert regs t r)
  room_with regs call None r other room = room
  room_with regs (ThreadCreate attributes) (Some new) r other room = get-insert-other regs t r new.tid (λ e. other (sym e)) ∙ room
  room_with regs _ (Some new) r other room = absurd room

-- registers that are put where others stood are there once more where they are put again
put_again : (regs : FinMap nat_cmp Registers) (t : ℕ) (o : Option Registers) (r : Registers) → get regs t ≡ Some r → insert (put_back regs t o) t r ≡ regs
put_again regs t None r there = insert-remove regs t r ∙ insert_self regs t r there
put_again regs t (Some other) r there = insert-again regs t other r ∙ insert_self regs t r there

-- the thread that was made has its registers
pub kept_made : (regs : FinMap nat_cmp Registers) (t : ℕ) (call : Call) (given : Answer) (o : Option NewThread) → HasThreadFor call o regs
    → makes_thread call given ≡ true → HasNumber (first_result given) o → regs ≡ called_regs (without_thread o regs) t call given
kept_made regs t (ThreadCreate attributes) (answer.Reply reply) None room makes number = absurd (room tt)
kept_made regs t (ThreadCreate attributes) (answer.Reply reply) (Some new) room makes number =
    let there : get regs reply.r1 ≡ Some (thread_registers attributes reply.r1) =
    subst (λ (n : ℕ). get regs n ≡ Some (thread_registers attributes n)) number room in
    sym (ap (λ (b : Bool). if b then insert (put_back regs new.tid new.before) reply.r1 (thread_registers attributes reply.r1) else put_back regs new.tid new.before) makes
    ∙ ap (λ (n : ℕ). insert (put_back regs n new.before) reply.r1 (thread_registers attributes reply.r1)) number
    ∙ put_again regs reply.r1 new.before (thread_registers attributes reply.r1) there)
kept_made regs t (ThreadCreate attributes) (answer.Parked writes) o room makes number = absurd (not_true makes)
kept_made regs t _ given o room makes number = absurd (not_true makes)

-- where none was made, only the thread that the call ended loses its registers
made_none : (regs : FinMap nat_cmp Registers) (call : Call) (given : Answer) → makes_thread call given ≡ false → made_regs regs call given ≡ regs
made_none regs (ThreadCreate attributes) (answer.Reply reply) none =
    ap (λ (b : Bool). if b then insert regs reply.r1 (thread_registers attributes reply.r1) else regs) none
made_none regs (ThreadCreate attributes) (answer.Parked writes) none = refl
made_none regs _ given none = refl

pub kept_none : (regs : FinMap nat_cmp Registers) (t : ℕ) (call : Call) (given : Answer) (ends : Bool) → makes_thread call given ≡ false
    → ends ≡ ends_caller call given → left_regs ends t regs ≡ called_regs regs t call given
kept_none regs t call given ends none is = (λ i. left_regs (is i) t (sym (made_none regs call given none) i))
