use Rattle.std.proofs.Common.{ℕ, IsSome, sym, subst, ◌∙◌}
use Rattle.std.specs.FinMap.{get}
use Rattle.abi_types.specs.declared.call.Call.{Call}
use Rattle.abi_types.specs.declared.call.Call.TheVariants.{MemMap, Memory}
use Rattle.call_codec.specs.MemoryCalls.{MayMapThere}
use Rattle.call_codec.specs.Put.{IsRoomAt, IsRoomFor}
use Rattle.call_codec.proofs.Puts.{call_suits, few_ranges, keeps_pages}
use Rattle.guest_memory.specs.Page.{Pages}
use Rattle.guest_memory.specs.Room.{without_each}
use Rattle.call_codec.proofs.replies.put_memory.Goals as goal

pub map-requires-clause-place : goal.map-requires-clause-place
map-requires-clause-place c =
    let call = MemMap c.in-MemMap.place c.in-MemMap.length c.in-MemMap.prot c.in-MemMap.flags c.in-MemMap.fd c.in-MemMap.offset in
    let m = without_each c.args.room c.args.memory.now in
    subst (λ (k : ℕ). MayMapThere m c.in-MemMap.place k) (sym c.pages_in-pages.ensures)
    (call_suits m c.args.regs.now c.requires.encoded.0 call (sym c.in-MemMap.is ∙ c.requires.encoded.1))

pub map-requires-clause-room : goal.map-requires-clause-room
map-requires-clause-room c =
    subst (λ (k : ℕ). IsRoomAt c.in-MemMap.place k c.args.room c.args.memory.now) (sym c.pages_in-pages.ensures)
    (subst (λ (call : Call). IsRoomFor call c.args.room c.args.memory.now) c.in-MemMap.is c.requires.room)

pub change-requires-clause-aligned : goal.change-requires-clause-aligned
change-requires-clause-aligned c =
    let m = without_each c.args.room c.args.memory.now in
    (call_suits m c.args.regs.now c.requires.encoded.0 (Memory c.in-Memory.number c.in-Memory.errno) (sym c.in-Memory.is ∙ c.requires.encoded.1) c.in-Success.is).0

pub change-requires-clause-there : goal.change-requires-clause-there
change-requires-clause-there c = λ protects q within.
    let m = without_each c.args.room c.args.memory.now in
    let suits = call_suits m c.args.regs.now c.requires.encoded.0 (Memory c.in-Memory.number c.in-Memory.errno) (sym c.in-Memory.is ∙ c.requires.encoded.1) c.in-Success.is in
    subst (λ (pages : Pages). IsSome (get pages q)) (sym c.remove_room.ensures) (suits.1 protects q within)

pub put_output-requires : goal.put_output-requires
put_output-requires c =
    let m = without_each c.args.room c.args.memory.now in
    record {
      other = keeps_pages c.args.call.now c.in_default.not-MemMap c.in_default.not-Memory;
      few = few_ranges m c.args.regs.now c.requires.encoded.0 c.args.call.now c.requires.encoded.1;
    }
