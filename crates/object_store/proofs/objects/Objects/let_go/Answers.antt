use Rattle.std.proofs.Common.{◌-◌, ◌++◌, ◌∷◌, [], refl, sym, ap, ◌∙◌, arith}
use Rattle.object_store.proofs.Kept.{kept_as, kept_held, kept_let_go, room_left}
use Rattle.object_store.proofs.Nodes.{counted_stay}
use Rattle.object_store.proofs.Views.{entry_of_holder, seen_count, seen_counted}
use Rattle.object_store.proofs.objects.Objects.let_go.Goals as goal

pub get_mut-entry-requires : goal.get_mut-entry-requires
get_mut-entry-requires c = entry_of_holder _ _ _ _ c.self.view_is c.id.view_is c.requires

pub overflow_sub-entry : goal.overflow_sub-entry
overflow_sub-entry c =
    let count = seen_count _ _ _ _ c.self.view_is c.id.view_is c.get_mut-entry.result.now c.get_mut-entry.ensures.value in
    omega (arith, count, c.requires)

pub invariant_of-self : goal.invariant_of-self
invariant_of-self c =
    let count = seen_count _ _ _ _ c.self.view_is c.id.view_is c.get_mut-entry.result.now c.get_mut-entry.ensures.value in
    let there = sym c.get_mut-entry.ensures.value in
    record {
      list = kept_held _ _ _ _ c.get_mut-entry.result.now _ there (omega (arith, count, c.requires)) c.if-entry-gt0.true c.self.invariant.list;
      nodes = counted_stay _ _ _ c.get_mut-entry.result.now _ there refl c.self.invariant.nodes;
    }

pub returns-then-entry-gt0-clause-last : goal.returns-then-entry-gt0-clause-last
returns-then-entry-gt0-clause-last c =
    let count = seen_count _ _ _ _ c.self.view_is c.id.view_is c.get_mut-entry.result.now c.get_mut-entry.ensures.value in
    (λ no_last. absurd (cc), λ one. absurd (omega (arith, count, one, c.if-entry-gt0.true)))

pub returns-then-entry-gt0-clause-new : goal.returns-then-entry-gt0-clause-new
returns-then-entry-gt0-clause-new c =
    let count = seen_count _ _ _ _ c.self.view_is c.id.view_is c.get_mut-entry.result.now c.get_mut-entry.ensures.value in
    seen_counted _ _ _ _ c.self.view_is c.id.view_is c.get_mut-entry.result.now _ _ c.get_mut-entry.ensures.value refl (ap (λ n. n - 1) count)

pub push_reserved-requires : goal.push_reserved-requires
push_reserved-requires c =
    let count = seen_count _ _ _ _ c.self.view_is c.id.view_is c.get_mut-entry.result.now c.get_mut-entry.ensures.value in
    let room = room_left _ _ _ _ c.get_mut-entry.result.now (sym c.get_mut-entry.ensures.value) (omega (arith, count, c.requires)) c.self.invariant.list in
    omega (arith, room, c.self.inside.unheld.ok.0)

pub invariant_of-self-2 : goal.invariant_of-self-2
invariant_of-self-2 c =
    let list = c.self.inside.unheld.items in
    let count = seen_count _ _ _ _ c.self.view_is c.id.view_is c.get_mut-entry.result.now c.get_mut-entry.ensures.value in
    let there = sym c.get_mut-entry.ensures.value in
    let kept =
    kept_as _ _ _ _ _ _ refl (c.push_reserved.ensures.items ∙ ap (λ o. list ++ o ∷ []) (sym c.id.view_is)) c.push_reserved.ensures.capacity
    (kept_let_go c.self.inside.entries list _ c.id.inside.0 c.get_mut-entry.result.now _ (sym c.get_mut-entry.ensures.value) (omega (arith, count, c.requires))
    (omega (arith, c.if-entry-gt0.false)) (c.len-place.ensures ∙ c.self.inside.unheld.ok.0) c.self.invariant.list) in
    record { list = kept; nodes = counted_stay _ _ _ c.get_mut-entry.result.now _ there refl c.self.invariant.nodes }

pub returns-clause-last : goal.returns-clause-last
returns-clause-last c =
    let count = seen_count _ _ _ _ c.self.view_is c.id.view_is c.get_mut-entry.result.now c.get_mut-entry.ensures.value in
    (λ _. omega (arith, count, c.requires, c.if-entry-gt0.false), λ _. refl)

pub returns-clause-new : goal.returns-clause-new
returns-clause-new c =
    let count = seen_count _ _ _ _ c.self.view_is c.id.view_is c.get_mut-entry.result.now c.get_mut-entry.ensures.value in
    seen_counted _ _ _ _ c.self.view_is c.id.view_is c.get_mut-entry.result.now _ _ c.get_mut-entry.ensures.value refl (ap (λ n. n - 1) count)
