use Rattle.std.proofs.Common.{◌+◌, ◌≤◌, ◌∙◌, length, take, sym, arith}
use Rattle.guest_memory.specs.declared.access.Access.TheVariants.{Write}
use Rattle.guest_memory.proofs.Writes.{set_none, part_of, set_more, page_there, there_after}
use Rattle.guest_memory.proofs.memory.GuestMemory.copy_in.Goals as goal

pub loop-done-init : goal.loop-done-init
loop-done-init c = record { within = omega arith; written = sym (set_none c.args.self.now c.args.at) }

pub write_in_page-requires-clause-there : goal.write_in_page-requires-clause-there
write_in_page-requires-clause-there c =
    rw c.loop-done.invariant.written (there_after c.args.self.now c.args.at _ (take c.loop-done.done c.args.bytes.now)
    (page_there Write c.args.self.now c.args.at c.loop-done.done _ c.ranges.at.fits c.requires c.loop-done-test.true))

pub loop-done-preserved : goal.loop-done-preserved
loop-done-preserved c =
    let fits : c.loop-done.done + c.min-part.result ≤ length c.args.bytes.now = omega (arith, c.min-part.ensures) in
    record {
      within = fits;
      written =
          c.write_in_page.ensures
          ∙ set_more c.args.self.now c.loop-done.self c.args.at c.loop-done.done c.min-part.result c.args.bytes.now _ c.ranges.at.fits fits c.loop-done.invariant.written (part_of c.args.bytes.now c.loop-done.done c.min-part.result);
    }
