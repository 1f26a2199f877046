use Rattle.std.proofs.Common.{◌≡◌, ◌∙◌, sym, ap}
use Rattle.std.specs.FinMap as map
use Rattle.file_tree.specs.Slots.{slots_of, IsKeyed}
use Rattle.file_tree.proofs.Keyed.{keyed_roomy, slots_roomy, seen_keyed_put, seen_put}
use Rattle.file_tree.proofs.slots.Slots.insert.Goals as goal

pub invariant_of-self-2 : goal.invariant_of-self-2
invariant_of-self-2 c =
    let keyed : IsKeyed c.reserve.new.self c.self.inside.keys = keyed_roomy c.self.inside.slab c.reserve.new.self c.self.inside.keys c.reserve.ensures.rest_kept c.self.invariant in
    let view : slots_of c.reserve.new.self c.self.inside.keys ≡ c.args.self.now = slots_roomy c.self.inside.slab c.reserve.new.self c.self.inside.keys c.reserve.ensures.rest_kept ∙ c.self.view_is in
    seen_keyed_put c.reserve.new.self c.self.inside.keys keyed c.args.self.now view c.id.inside.0 c.args.id c.id.view_is
    c.insert_reserved.new.self c.insert.new.self c.insert_reserved.result c.args.slot c.insert_reserved.ensures.was_vacant c.requires c.insert_reserved.ensures.updates
    (c.in_ok-insert.ensures.ok ∙ ap (map.insert c.self.inside.keys c.id.inside.0) (c.vacant_key-key.ensures.value ∙ sym c.insert_reserved.ensures.key))

pub returns-clause-ok : goal.returns-clause-ok
returns-clause-ok c =
    let keyed : IsKeyed c.reserve.new.self c.self.inside.keys = keyed_roomy c.self.inside.slab c.reserve.new.self c.self.inside.keys c.reserve.ensures.rest_kept c.self.invariant in
    let view : slots_of c.reserve.new.self c.self.inside.keys ≡ c.args.self.now = slots_roomy c.self.inside.slab c.reserve.new.self c.self.inside.keys c.reserve.ensures.rest_kept ∙ c.self.view_is in
    seen_put c.reserve.new.self c.self.inside.keys keyed c.args.self.now view c.id.inside.0 c.args.id c.id.view_is
    c.insert_reserved.new.self c.insert.new.self c.insert_reserved.result c.args.slot c.insert_reserved.ensures.was_vacant c.requires c.insert_reserved.ensures.updates
    (c.in_ok-insert.ensures.ok ∙ ap (map.insert c.self.inside.keys c.id.inside.0) (c.vacant_key-key.ensures.value ∙ sym c.insert_reserved.ensures.key))
