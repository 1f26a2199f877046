use Rattle.std.proofs.Common.{◌≡◌, ℕ, Some, sym, ap, subst, ◌∙◌}
use Rattle.std.specs.Ordering.{nat_cmp}
use Rattle.std.specs.FinMap.{FinMap, get, insert}
use Rattle.abi_base.specs.Registers.{Registers}
use Rattle.abi_types.specs.declared.call.Call.{Call}
use Rattle.maps.specs.Maps.{get-insert-same}
use Rattle.guest_process.proofs.Rooms.{taken_back}
use Rattle.guest_process.specs.Room.{put_back, Begins}
use Rattle.guest_process.proofs.guest.new_thread.Goals as goal

-- the registers with those of the thread
inserted : (c : goal.In_ok-before-in-ThreadCreate) → c.insert.new.self ≡ insert c.args.regs.now c.args.next c.thread_registers.result
inserted c =
    c.in_ok-before-in-ThreadCreate.ensures.ok
    ∙ ap (λ (t : ℕ). insert c.args.regs.now t c.thread_registers.result) (c.from.ensures ∙ c.next.view_is)

pub returns-in_ok-before-in-ThreadCreate-clause-thread : goal.returns-in_ok-before-in-ThreadCreate-clause-thread
returns-in_ok-before-in-ThreadCreate-clause-thread c =
    subst (λ (call : Call). Begins call c.args.next c.insert.new.self) (sym c.in-ThreadCreate.is)
    (ap (λ (regs : FinMap nat_cmp Registers). get regs c.args.next) (inserted c)
    ∙ get-insert-same c.args.regs.now c.args.next c.thread_registers.result ∙ ap Some c.thread_registers.ensures)

pub returns-in_ok-before-in-ThreadCreate-clause-without : goal.returns-in_ok-before-in-ThreadCreate-clause-without
returns-in_ok-before-in-ThreadCreate-clause-without c =
    ap (λ (regs : FinMap nat_cmp Registers). put_back regs c.args.next c.in_ok-before-in-ThreadCreate.before) (inserted c)
    ∙ taken_back c.args.regs.now c.args.next c.thread_registers.result c.in_ok-before-in-ThreadCreate.before
    (c.in_ok-before-in-ThreadCreate.ensures.old ∙ ap (get c.args.regs.now) (c.from.ensures ∙ c.next.view_is))
