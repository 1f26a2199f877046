use Rattle.std.proofs.Common.{Option, IsSome, slice_set, subst, sym, ap, ◌∙◌, arith}
use Rattle.std.specs.FinMap.{get, insert, len}
use Rattle.maps.specs.Maps.{len-insert_again}
use Rattle.abi_types.specs.declared.descriptor.Descriptor.{Descriptor}
use Rattle.fd_table.specs.Slots.{filled}
use Rattle.fd_table.specs.Table.{Table}
use Rattle.fd_table.proofs.Filled.{filled_at, filled_set, filled_within}
use Rattle.fd_table.proofs.slots.Slots.replace.Goals as goal

pub index_mut-requires : goal.index_mut-requires
index_mut-requires c =
    let items = c.self.inside.places.items in
    let within = filled_within items c.args.fd (subst (λ (m : Table). IsSome (get m c.args.fd)) (sym c.self.view_is) c.requires) in
    omega (arith, within, c.self.inside.places.ok.0)

pub unwrap-requires : goal.unwrap-requires
unwrap-requires c =
    let items = c.self.inside.places.items in
    let there = subst (λ (m : Table). IsSome (get m c.args.fd)) (sym c.self.view_is) c.requires in
    let within = filled_within items c.args.fd there in
    subst (λ (o : Option Descriptor). IsSome o) (sym (c.replace.ensures.value ∙ filled_at items c.args.fd within _ c.index_mut.ensures.value)) there

pub invariant_of-self : goal.invariant_of-self
invariant_of-self c =
    let items = c.self.inside.places.items in
    let there = subst (λ (m : Table). IsSome (get m c.args.fd)) (sym c.self.view_is) c.requires in
    let within = filled_within items c.args.fd there in
    c.self.invariant ∙ sym (len-insert_again (filled items) c.args.fd c.args.descriptor there)
    ∙ ap (λ (m : Table). len m) (sym (filled_set items c.args.fd within c.args.descriptor))
    ∙ ap (λ o. len (filled (slice_set items c.args.fd o))) (sym c.replace.ensures.after)

pub returns-clause-old : goal.returns-clause-old
returns-clause-old c =
    let items = c.self.inside.places.items in
    let within = filled_within items c.args.fd (subst (λ (m : Table). IsSome (get m c.args.fd)) (sym c.self.view_is) c.requires) in
    sym c.unwrap.ensures ∙ c.replace.ensures.value ∙ filled_at items c.args.fd within _ c.index_mut.ensures.value
    ∙ ap (λ (m : Table). get m c.args.fd) c.self.view_is

pub returns-clause-new : goal.returns-clause-new
returns-clause-new c =
    let items = c.self.inside.places.items in
    let within = filled_within items c.args.fd (subst (λ (m : Table). IsSome (get m c.args.fd)) (sym c.self.view_is) c.requires) in
    ap (λ o. filled (slice_set items c.args.fd o)) c.replace.ensures.after ∙ filled_set items c.args.fd within c.args.descriptor
    ∙ ap (λ (m : Table). insert m c.args.fd c.args.descriptor) c.self.view_is
