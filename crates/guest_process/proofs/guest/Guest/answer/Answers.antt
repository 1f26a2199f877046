use Rattle.std.proofs.Common.{◌≡◌, ℕ, Option, Some, None, sym, ap, subst, ◌∙◌}
use Rattle.std.specs.Ordering.{nat_cmp}
use Rattle.std.specs.FinMap.{FinMap, get, insert}
use Rattle.abi_base.specs.Registers.{Registers}
use Rattle.call_codec.specs.Arguments.{Encodes}
use Rattle.call_codec.specs.Put.{answered_memory, answered_of}
use Rattle.guest_memory.specs.Page.{Pages}
use Rattle.guest_memory.specs.Room.{without_each}
use Rattle.guest_memory.specs.Written.{KeepsCode}
use Rattle.run_model.specs.World.{called_guest, called_regs, or_no_registers, registers_of, Guest}
use Rattle.guest_process.proofs.Rooms.{same_without, without_with}
use Rattle.guest_process.specs.Room.{without_room, without_thread, HasRoomFor}
use Rattle.guest_process.proofs.guest.Guest.answer.Goals as goal

registers_found : (found : Option Registers) (r : Registers) → Some r ≡ found → or_no_registers found ≡ r
registers_found None r is = absurd (cc)
registers_found (Some s) r is = cc

-- the caller's number, and its registers without the room
number_is : (c : goal.After-keep_threads) → c.from.result ≡ c.args.tid
number_is c = c.from.ensures ∙ c.tid.view_is

own_found : (c : goal.After-keep_threads) → or_no_registers (get (without_thread c.args.room.thread c.self.inside.regs) c.args.tid) ≡ c.get_mut-regs.result.now
own_found c =
    registers_found (get (without_thread c.args.room.thread c.self.inside.regs) c.args.tid) c.get_mut-regs.result.now
    (c.get_mut-regs.ensures.value ∙ ap (get c.self.inside.regs) (number_is c)
    ∙ sym (same_without c.args.tid c.self.inside.regs c.args.room.thread c.requires.other))

-- the registers that are left, by what the caller's are
kept_is : (c : goal.After-keep_threads)
    → c.keep_threads.new.regs
    ≡ called_regs (insert (without_thread c.args.room.thread c.self.inside.regs) c.args.tid (answered_of c.get_mut-regs.result.now c.args.call.now c.args.answer.now))
    c.args.tid c.args.call.now c.args.answer.now
kept_is c =
    let thread = c.args.room.thread in
    let regs = c.self.inside.regs in
    c.keep_threads.ensures
    ∙ ap (λ (n : FinMap nat_cmp Registers). called_regs n c.args.tid c.args.call.now c.args.answer.now)
    (ap (λ (t : ℕ). without_thread thread (insert regs t c.put_answer.new.regs)) (number_is c)
    ∙ without_with c.args.tid regs thread c.put_answer.new.regs c.requires.other
    ∙ ap (insert (without_thread thread regs) c.args.tid) c.put_answer.ensures.regs)

pub returns : goal.returns
returns c =
    let m : Pages = c.self.inside.memory in
    let room = c.args.room in
    let t = c.args.tid in
    let call = c.args.call.now in
    let given = c.args.answer.now in
    let left = c.self.inside.left in
    let after : Registers → Guest =
    λ r. record {
      memory = answered_memory (without_each room.pages m) r call given;
      regs = called_regs (insert (without_thread room.thread c.self.inside.regs) t (answered_of r call given)) t call given;
      left = left;
    } in
    let new : Guest = record { memory = c.put_answer.new.memory; regs = c.keep_threads.new.regs; left = left } in
    let done : new ≡ after c.get_mut-regs.result.now = λ i. record { memory = c.put_answer.ensures.memory i; regs = kept_is c i; left = left } in
    subst (λ (guest : Guest). new ≡ called_guest (without_room room guest) t call given) c.self.view_is (done ∙ ap after (sym (own_found c)))

pub invariant_of-self : goal.invariant_of-self
invariant_of-self c =
    let m : Pages = c.self.inside.memory in
    let room = c.args.room in
    let call = c.args.call.now in
    let encoded = subst (λ (guest : Guest). Encodes (without_room room guest).memory (registers_of (without_room room guest) c.args.tid) call) (sym c.self.view_is)
    c.requires.encoded in
    let there = subst (λ (guest : Guest). HasRoomFor call room guest) (sym c.self.view_is) c.requires.room in
    c.forget_where.ensures c.self.inside.memory c.put_answer.new.memory c.self.invariant
    (λ same. subst (KeepsCode m) (sym c.put_answer.ensures.memory)
    (c.may_change_code-may_change.ensures same room.pages there.pages
    (subst (λ (r : Registers). Encodes (without_each room.pages m) r call) (own_found c) encoded)))
