-- The step of the loop.
use Rattle.std.proofs.Common.{◌+◌, sym, ap, ◌∙◌}
use Rattle.launch_plan.specs.declared.files.Asked.{Asked}
use Rattle.launch_plan.specs.Files.{asked_with, part}
use Rattle.launch_plan.proofs.FileParts.{asked_at, asked_goes_on, asked_skips}
use Rattle.launch_plan.proofs.files.asked_of.Goals as goal
use Rattle.launch_plan.proofs.files.asked_of.Goals.{in-Some+in_ok-asked, in_default}

pub loop-key-preserved : goal.loop-key-preserved
loop-key-preserved c =
    let rest = asked_at c.args.tree.now c.args.pairs.now (c.loop-key.key-index + 1) in
    elim c.match-part_of.branch [
      | in-Some+in_ok-asked w ↦ (
          ap (λ (a : Asked). asked_with a rest) w.asked-is
          ∙ asked_goes_on c.args.tree.now c.loop-key.asked w.in_ok-asked.asked c.args.pairs.now c.loop-key.key-index c.loop-key-item.result (part w.in-Some.part)
          (asked_at c.args.tree.now c.args.pairs.now 0) c.loop-key-test.true c.loop-key-item.is (sym w.in-Some.ensures) (sym w.in_ok-asked.ensures) c.loop-key.invariant)
      | in_default w ↦ (
          ap (λ (a : Asked). asked_with a rest) w.asked-is
          ∙ asked_skips c.args.tree.now c.loop-key.asked c.args.pairs.now c.loop-key.key-index c.loop-key-item.result
          (asked_at c.args.tree.now c.args.pairs.now 0) c.loop-key-test.true c.loop-key-item.is (sym w.in_default.ensures) c.loop-key.invariant)
    ]
