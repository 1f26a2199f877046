use Rattle.std.proofs.Common.{IsSome, refl, sym, subst, ap, ◌∙◌}
use Rattle.std.specs.Option.{option_copied_mut}
use Rattle.maps.proofs.NumberEntries.{get_of, inserted_of}
use Rattle.maps.proofs.Variants.{IsSome-from_copied}
use Rattle.maps.proofs.num_map.NumMap.get_mut.Goals as goal

pub unwrap-requires : goal.unwrap-requires
unwrap-requires g c = IsSome-from_copied c.get_mut.result (subst IsSome (sym (c.get_mut.ensures.value ∙ get_of _ _ c.self.view_is c.args.key)) c.requires)

pub returns : goal.returns
returns g c =
    let is_there = subst IsSome (sym (get_of _ _ c.self.view_is c.args.key)) c.requires in (
      (refl, λ w. inserted_of _ _ _ c.args.key w c.self.view_is ((c.get_mut.follows.holds w).3 is_there).0),
      record {
        writes_back = tt;
        value = ap option_copied_mut (sym c.unwrap.ensures) ∙ c.get_mut.ensures.value ∙ get_of _ _ c.self.view_is c.args.key;
      },
    )
