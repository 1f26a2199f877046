use Rattle.std.proofs.Common.{◌≡◌, ◌+◌, ap, is_some, arith, ◌∙◌}
use Rattle.kernel_model.specs.Start.{first_open}
use Rattle.std.specs.FinMap.{insert}
use Rattle.maps.specs.Maps.{number}
use Rattle.kernel_parts.proofs.Grants.{new_count, held_once}
use Rattle.kernel_parts.proofs.start.put_grant.Goals as goal

pub hold-requires-clause-there : goal.hold-requires-clause-there
hold-requires-clause-there c = ap is_some (new_count _ _ _ _ c.in_ok-add.ensures.ok)

pub hold-requires-clause-few : goal.hold-requires-clause-few
hold-requires-clause-few c = let none = ap number (new_count _ _ _ _ c.in_ok-add.ensures.ok) in omega (arith, none)

pub returns-clause-objects : goal.returns-clause-objects
returns-clause-objects c =
    let nodes = c.len.ensures.nodes in
    let number = c.launch_object-id.ensures in
    let id : c.launch_object-id.result ≡ first_open c.args.tree.now + c.args.number = omega (arith, nodes, number) in
    let kind = c.open_of.ensures in
    held_once c.args.objects.now c.add.new.self c.hold.new.self c.launch_object-id.result c.open_of.result c.in_ok-add.ensures.ok c.hold.ensures
    ∙ (λ i. record { kinds = insert c.args.objects.now.kinds (id i) (kind i); counts = insert c.args.objects.now.counts (id i) 1 })
