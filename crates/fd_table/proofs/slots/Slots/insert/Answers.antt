use Rattle.std.proofs.Common.{rules, ◌≡◌, ◌+◌, ◌<◌, Option, None, IsSome, slice_set, length, subst, sym, ap, ◌∙◌, arith}
use Rattle.std.specs.FinMap.{get, insert, len}
use Rattle.maps.specs.Maps.{len-insert_again, len-insert_new}
use Rattle.abi_types.specs.declared.descriptor.Descriptor.{Descriptor}
use Rattle.fd_table.specs.Slots.{filled}
use Rattle.fd_table.specs.Table.{Table}
use Rattle.fd_table.proofs.Filled.{filled_at, filled_few, filled_set}
use Rattle.fd_table.proofs.slots.Slots.insert.Goals as goal

pub overflow_add-self : goal.overflow_add-self
overflow_add-self c =
    let places = c.self.inside.places in
    let few = filled_few places.items in
    omega (arith, few, c.self.invariant, places.ok.0, places.ok.1, places.small)

pub invariant_of-self-then-is_none : goal.invariant_of-self-then-is_none
invariant_of-self-then-is_none c =
    let items = c.reach.new.places.items in
    let within : c.args.fd < length items = search (rules, arith) in
    let out : c.replace.result ≡ None = search rules in
    let none : get (filled items) c.args.fd ≡ None = sym (filled_at items c.args.fd within _ c.index_mut.ensures.value) ∙ sym c.replace.ensures.value ∙ out in
    ap (λ n. n + 1) (c.self.invariant ∙ ap (λ (m : Table). len m) (sym c.in_ok-reach.ensures.same))
    ∙ sym (len-insert_new (filled items) c.args.fd c.args.descriptor none)
    ∙ ap (λ (m : Table). len m) (sym (filled_set items c.args.fd within c.args.descriptor))
    ∙ ap (λ o. len (filled (slice_set items c.args.fd o))) (sym c.replace.ensures.after)

pub invariant_of-self-else-is_none : goal.invariant_of-self-else-is_none
invariant_of-self-else-is_none c =
    let items = c.reach.new.places.items in
    let within : c.args.fd < length items = search (rules, arith) in
    let out : IsSome c.replace.result = search rules in
    let there = subst (λ (o : Option Descriptor). IsSome o) (c.replace.ensures.value ∙ filled_at items c.args.fd within _ c.index_mut.ensures.value) out in
    c.self.invariant ∙ ap (λ (m : Table). len m) (sym c.in_ok-reach.ensures.same)
    ∙ sym (len-insert_again (filled items) c.args.fd c.args.descriptor there)
    ∙ ap (λ (m : Table). len m) (sym (filled_set items c.args.fd within c.args.descriptor))
    ∙ ap (λ o. len (filled (slice_set items c.args.fd o))) (sym c.replace.ensures.after)

pub returns-then-is_none-clause-ok : goal.returns-then-is_none-clause-ok
returns-then-is_none-clause-ok c =
    let items = c.reach.new.places.items in
    let within : c.args.fd < length items = search (rules, arith) in
    ap (λ o. filled (slice_set items c.args.fd o)) c.replace.ensures.after ∙ filled_set items c.args.fd within c.args.descriptor
    ∙ ap (λ (m : Table). insert m c.args.fd c.args.descriptor) (c.in_ok-reach.ensures.same ∙ c.self.view_is)

pub returns-else-is_none-clause-ok : goal.returns-else-is_none-clause-ok
returns-else-is_none-clause-ok c =
    let items = c.reach.new.places.items in
    let within : c.args.fd < length items = search (rules, arith) in
    ap (λ o. filled (slice_set items c.args.fd o)) c.replace.ensures.after ∙ filled_set items c.args.fd within c.args.descriptor
    ∙ ap (λ (m : Table). insert m c.args.fd c.args.descriptor) (c.in_ok-reach.ensures.same ∙ c.self.view_is)
