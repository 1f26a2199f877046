use Rattle.std.proofs.Common.{◌/◌, ◌%◌, length, ap, sym, ◌∙◌}
use Rattle.std.specs.FinMap.{insert}
use Rattle.guest_memory.specs.Page.{Page}
use Rattle.guest_memory.specs.Written.{set_bytes}
use Rattle.guest_memory.proofs.Writes.{length_written, limits_kept, set_in_page}
use Rattle.guest_memory.proofs.memory.GuestMemory.write_in_page.Goals as goal

pub invariant_of-self : goal.invariant_of-self
invariant_of-self c =
    let there = sym c.get_mut.ensures.value in
    let whole = c.self.invariant.whole _ _ there in
    limits_kept c.self.inside.pages (c.args.at / 4096) _ c.write.new.self c.self.invariant there
    (ap (λ (p : Page). length p.bytes) c.write.ensures ∙ length_written c.get_mut.result.now.bytes (c.args.at % 4096) c.args.bytes.now whole c.requires.fits)

pub returns : goal.returns
returns c =
    let there = sym c.get_mut.ensures.value in
    let whole = c.self.invariant.whole _ _ there in
    ap (insert c.self.inside.pages (c.args.at / 4096)) c.write.ensures
    ∙ sym (set_in_page c.args.bytes.now c.self.inside.pages c.get_mut.result.now c.args.at there whole c.ranges.at.fits c.requires.fits)
    ∙ ap (λ m. set_bytes m c.args.at c.args.bytes.now) c.self.view_is
