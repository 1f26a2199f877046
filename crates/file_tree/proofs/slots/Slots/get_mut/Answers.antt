use Rattle.std.proofs.Common.{◌≡◌, ◌∙◌, Some, option_copied, refl, sym, ap}
use Rattle.std.specs.FinMap as map
use Rattle.std.specs.Option.{option_copied_mut}
use Rattle.file_tree.proofs.Behind.{some_behind, some_behind_mut}
use Rattle.file_tree.proofs.Keyed.{seen_key, seen_some, seen_set}
use Rattle.file_tree.proofs.slots.Slots.get_mut.Goals as goal

pub unwrap-key-requires : goal.unwrap-key-requires
unwrap-key-requires c =
    let there = seen_key c.self.inside.slab c.self.inside.keys c.self.invariant c.args.self.now c.self.view_is c.id.inside.0 c.args.id c.id.view_is c.requires in
    some_behind c.get.result (rw c.get.ensures.value there)

pub unwrap-requires : goal.unwrap-requires
unwrap-requires c =
    let there : Some c.unwrap-key.result.now ≡ map.get c.self.inside.keys c.id.inside.0 = ap option_copied (sym c.unwrap-key.ensures) ∙ c.get.ensures.value in
    some_behind_mut c.get_mut.result (rw c.get_mut.ensures.value (c.self.invariant.there c.id.inside.0 c.unwrap-key.result.now (sym there)))

pub returns : goal.returns
returns c =
    let there : Some c.unwrap-key.result.now ≡ map.get c.self.inside.keys c.id.inside.0 = ap option_copied (sym c.unwrap-key.ensures) ∙ c.get.ensures.value in (
      (refl, seen_set c.self.inside.slab c.self.inside.keys c.self.invariant c.args.self.now c.self.view_is c.id.inside.0 c.args.id c.id.view_is c.unwrap-key.result.now there),
      record {
        writes_back = tt;
        value = ap option_copied_mut (sym c.unwrap.ensures) ∙ c.get_mut.ensures.value
            ∙ seen_some c.self.inside.slab c.self.inside.keys c.self.invariant c.args.self.now c.self.view_is c.id.inside.0 c.args.id c.id.view_is c.unwrap-key.result.now there;
      },
    )
