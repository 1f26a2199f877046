use Rattle.std.proofs.Common.{rules, ◌≡◌, ◌<◌, Option, List, None, slice_set, length, sym, ap, ◌∙◌, arith}
use Rattle.std.specs.Ordering.{nat_cmp}
use Rattle.std.specs.FinMap.{get, remove, len, len-empty, empty_of_len}
use Rattle.maps.specs.Maps.{len-removed, remove_absent}
use Rattle.abi_types.specs.declared.descriptor.Descriptor.{Descriptor}
use Rattle.fd_table.specs.Slots.{filled}
use Rattle.fd_table.specs.Table.{Table}
use Rattle.fd_table.proofs.Filled.{filled_at, filled_none, filled_past, filled_unset}
use Rattle.fd_table.proofs.slots.Slots.remove.Goals as goal
use Rattle.fd_table.proofs.slots.Slots.remove.Goals.{then-self-eq0, else-self-eq0}

pub returns-then-place-len-clause-value : goal.returns-then-place-len-clause-value
returns-then-place-len-clause-value c =
    sym (filled_past c.self.inside.places.items c.args.fd (search (rules, arith))) ∙ ap (λ (m : Table). get m c.args.fd) c.self.view_is

pub returns-then-place-len-clause-new : goal.returns-then-place-len-clause-new
returns-then-place-len-clause-new c =
    sym (remove_absent c.args.self.now c.args.fd (ap (λ (m : Table). get m c.args.fd) (sym c.self.view_is)
    ∙ filled_past c.self.inside.places.items c.args.fd (search (rules, arith))))

pub returns-in_default-clause-value : goal.returns-in_default-clause-value
returns-in_default-clause-value c =
    let items = c.self.inside.places.items in
    let within : c.args.fd < length items = search (rules, arith) in
    let out : c.take.result ≡ None = search rules in
    sym out ∙ c.take.ensures.value ∙ filled_at items c.args.fd within _ c.index_mut.ensures.value ∙ ap (λ (m : Table). get m c.args.fd) c.self.view_is

pub returns-in_default-clause-new : goal.returns-in_default-clause-new
returns-in_default-clause-new c =
    let items = c.self.inside.places.items in
    let within : c.args.fd < length items = search (rules, arith) in
    ap (λ o. filled (slice_set items c.args.fd o)) c.take.ensures.after ∙ filled_unset items c.args.fd within
    ∙ ap (λ (m : Table). remove m c.args.fd) c.self.view_is

pub overflow_sub-self : goal.overflow_sub-self
overflow_sub-self c =
    let items = c.self.inside.places.items in
    let within : c.args.fd < length items = search (rules, arith) in
    let there = sym (filled_at items c.args.fd within _ c.index_mut.ensures.value) ∙ sym c.take.ensures.value ∙ c.in-Some.is in
    let one = len-removed (filled items) c.args.fd _ there in
    omega (arith, one, c.self.invariant)

pub invariant_of-self-then-self-eq0 : goal.invariant_of-self-then-self-eq0
invariant_of-self-then-self-eq0 c =
    c.if-self-eq0.true
    ∙ sym (ap (λ (l : List (Option Descriptor)). len (filled l)) (c.shrink_to_fit.ensures.items ∙ c.clear.ensures.items)
    ∙ ap (λ (m : Table). len m) filled_none ∙ len-empty nat_cmp Descriptor)

pub invariant_of-self-else-self-eq0 : goal.invariant_of-self-else-self-eq0
invariant_of-self-else-self-eq0 c =
    let items = c.self.inside.places.items in
    let within : c.args.fd < length items = search (rules, arith) in
    let there = sym (filled_at items c.args.fd within _ c.index_mut.ensures.value) ∙ sym c.take.ensures.value ∙ c.in-Some.is in
    let one = len-removed (filled items) c.args.fd _ there in
    let rest = ap (λ o. len (filled (slice_set items c.args.fd o))) c.take.ensures.after ∙ ap (λ (m : Table). len m) (filled_unset items c.args.fd within) in
    omega (arith, one, rest, c.self.invariant)

pub returns-clause-value : goal.returns-clause-value
returns-clause-value c =
    let items = c.self.inside.places.items in
    let within : c.args.fd < length items = search (rules, arith) in
    sym c.in-Some.is ∙ c.take.ensures.value ∙ filled_at items c.args.fd within _ c.index_mut.ensures.value ∙ ap (λ (m : Table). get m c.args.fd) c.self.view_is

pub returns-clause-new : goal.returns-clause-new
returns-clause-new c =
    let items = c.self.inside.places.items in
    let within : c.args.fd < length items = search (rules, arith) in
    let there = sym (filled_at items c.args.fd within _ c.index_mut.ensures.value) ∙ sym c.take.ensures.value ∙ c.in-Some.is in
    let one = len-removed (filled items) c.args.fd _ there in
    elim c.if-self-eq0.branch [
      | then-self-eq0 w ↦
          let last = w.if-self-eq0.true in
          w.self-is ∙ ap (λ (l : List (Option Descriptor)). filled l) (w.shrink_to_fit.ensures.items ∙ w.clear.ensures.items) ∙ filled_none
          ∙ sym (empty_of_len (remove (filled items) c.args.fd) (omega (arith, one, last, c.self.invariant)))
          ∙ ap (λ (m : Table). remove m c.args.fd) c.self.view_is
      | else-self-eq0 w ↦
          w.self-is ∙ ap (λ o. filled (slice_set items c.args.fd o)) c.take.ensures.after ∙ filled_unset items c.args.fd within
          ∙ ap (λ (m : Table). remove m c.args.fd) c.self.view_is
    ]
