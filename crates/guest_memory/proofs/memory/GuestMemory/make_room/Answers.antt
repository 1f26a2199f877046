use Rattle.std.proofs.Common.{◌≡◌, ◌+◌, ◌*◌, ◌/◌, ◌≤◌, sym, subst, arith}
use Rattle.std.specs.FinMap.{len}
use Rattle.guest_memory.specs.Page.{Pages}
use Rattle.guest_memory.specs.Changes.{without_pages}
use Rattle.guest_memory.proofs.ListedPages.{keeps_added}
use Rattle.guest_memory.proofs.memory.GuestMemory.make_room.Goals as goal

pub invariant_of-self-2 : goal.invariant_of-self-2
invariant_of-self-2 c =
    let low : 0x10000 ≤ 4096 * (c.args.at / 4096) = omega (arith, c.requires.page, c.requires.low) in
    let high : 4096 * (c.args.at / 4096 + c.from.result) ≤ 0x4000000000 = omega arith in
    let count : c.args.pages ≡ c.from.result = omega arith in
    let few : len (without_pages c.self.inside.pages (c.args.at / 4096) c.from.result) + c.from.result ≤ 65536 =
    subst (λ k. len (without_pages c.self.inside.pages (c.args.at / 4096) k) + k ≤ 65536) count
    (subst (λ (m : Pages). len (without_pages m (c.args.at / 4096) c.args.pages) + c.args.pages ≤ 65536)
    (sym c.self.view_is) c.requires.few) in
    keeps_added c.self.inside.pages c.fill_pages.new.pages (c.args.at / 4096) c.from.result c.self.invariant few
    c.in_ok-numbers.ensures.pages low high
