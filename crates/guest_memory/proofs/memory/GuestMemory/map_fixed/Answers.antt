use Rattle.std.proofs.Common.{◌≡◌, ◌+◌, ◌*◌, ◌/◌, ◌≤◌, sym, subst, arith}
use Rattle.std.specs.FinMap.{len}
use Rattle.guest_memory.specs.Page.{Pages}
use Rattle.guest_memory.specs.Changes.{without_pages}
use Rattle.guest_memory.specs.Room.{without_each, AreRoom}
use Rattle.guest_memory.proofs.ListedPages.{keeps_fixed, keeps_without_each, mapped_in_room}
use Rattle.guest_memory.proofs.memory.GuestMemory.map_fixed.Goals as goal

pub invariant_of-self : goal.invariant_of-self
invariant_of-self c =
    let n = c.args.at / 4096 in
    let low : 0x10000 ≤ 4096 * (c.args.at / 4096) = omega (arith, c.requires.page, c.requires.low) in
    let high : 4096 * (c.args.at / 4096 + c.from.result) ≤ 0x4000000000 = omega arith in
    let count : c.args.pages ≡ c.from.result = omega arith in
    let few : len (without_pages (without_each c.args.room c.self.inside.pages) n c.from.result) + c.from.result ≤ 65536 =
    subst (λ k. len (without_pages (without_each c.args.room c.self.inside.pages) n k) + k ≤ 65536) count
    (subst (λ (m : Pages). len (without_pages (without_each c.args.room m) n c.args.pages) + c.args.pages ≤ 65536)
    (sym c.self.view_is) c.requires.few) in
    let room : AreRoom c.args.room n c.from.result c.self.inside.pages =
    subst (λ k. AreRoom c.args.room n k c.self.inside.pages) count
    (subst (λ (m : Pages). AreRoom c.args.room n c.args.pages m) (sym c.self.view_is) c.requires.room) in
    keeps_fixed (without_each c.args.room c.self.inside.pages) c.reset_pages.new.pages n c.from.result c.args.prot
    (keeps_without_each c.args.room c.self.inside.pages c.self.invariant) few
    (mapped_in_room c.args.room c.self.inside.pages c.reset_pages.new.pages n c.from.result c.args.prot room c.reset_pages.ensures)
    low high
