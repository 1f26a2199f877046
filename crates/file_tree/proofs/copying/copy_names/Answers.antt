use Rattle.std.proofs.Common.{subst, ◌∙◌}
use Rattle.file_tree.proofs.Copies.{CopiesBut, copies_no_name, copies_one_name, copies_all_names}
use Rattle.file_tree.proofs.copying.copy_names.Goals as goal

pub loop-name-init : goal.loop-name-init
loop-name-init c =
    rw (c.into_iter-name-iterator.ensures.into_iter_gives ∙ c.from_place-name-items.ensures.rest) (rw c.new-made.ensures (copies_no_name c.args.names.now))

pub loop-name-preserved : goal.loop-name-preserved
loop-name-preserved c =
    let so_far = subst (λ left. CopiesBut left c.args.names.now c.loop-name.made) c.in-Some.ensures.steps c.loop-name.invariant in
    rw c.in_ok-insert.ensures.ok (copies_one_name (c.in-Some.name.now, c.in-Some.id.now) c.next.new.self c.args.names.now c.loop-name.made so_far)

pub returns : goal.returns
returns c =
    let so_far = subst (λ left. CopiesBut left c.args.names.now c.loop-name.made) c.in-None.ensures.steps.0 c.loop-name.invariant in
    copies_all_names c.args.names.now c.loop-name.made so_far
