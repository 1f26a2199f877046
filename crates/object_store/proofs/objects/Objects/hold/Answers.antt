use Rattle.std.proofs.Common.{◌≡◌, ◌+◌, refl, sym, ap, ◌∙◌, arith}
use Rattle.object_store.proofs.Kept.{kept_as, kept_held, kept_hold}
use Rattle.object_store.proofs.Nodes.{counted_as, counted_stay}
use Rattle.object_store.proofs.Places.{listed_held, place_within}
use Rattle.object_store.proofs.Views.{entry_of_count, seen_count, seen_counted}
use Rattle.object_store.proofs.objects.Objects.hold.Goals as goal

pub get_mut-entry-requires : goal.get_mut-entry-requires
get_mut-entry-requires c = entry_of_count _ _ _ _ c.self.view_is c.id.view_is c.requires.there

pub overflow_add-entry : goal.overflow_add-entry
overflow_add-entry c =
    let count = seen_count _ _ _ _ c.self.view_is c.id.view_is c.get_mut-entry.result.now c.get_mut-entry.ensures.value in
    omega (arith, count, c.requires.few)

pub invariant_of-self : goal.invariant_of-self
invariant_of-self c =
    let there = sym c.get_mut-entry.ensures.value in
    record {
      list = kept_held _ _ _ _ c.get_mut-entry.result.now _ there (omega (arith, c.if-entry-gt1.true)) (omega arith) c.self.invariant.list;
      nodes = counted_stay _ _ _ c.get_mut-entry.result.now _ there refl c.self.invariant.nodes;
    }

pub returns-then-entry-gt1 : goal.returns-then-entry-gt1
returns-then-entry-gt1 c =
    let count = seen_count _ _ _ _ c.self.view_is c.id.view_is c.get_mut-entry.result.now c.get_mut-entry.ensures.value in
    seen_counted _ _ _ _ c.self.view_is c.id.view_is c.get_mut-entry.result.now _ _ c.get_mut-entry.ensures.value refl (ap (λ n. n + 1) count)

pub unlist-requires-clause-there : goal.unlist-requires-clause-there
unlist-requires-clause-there c =
    let within = place_within _ _ _ c.get_mut-entry.result.now (sym c.get_mut-entry.ensures.value) (omega (arith, c.if-entry-gt1.false)) c.self.invariant.list.listed in
    omega (arith, within, c.self.inside.unheld.ok.0)

pub unlist-requires-clause-others : goal.unlist-requires-clause-others
unlist-requires-clause-others c =
    listed_held _ _ _ c.get_mut-entry.result.now _ (sym c.get_mut-entry.ensures.value) (omega (arith, c.if-entry-gt1.false)) (omega arith) c.self.invariant.list.listed

pub invariant_of-self-2 : goal.invariant_of-self-2
invariant_of-self-2 c =
    let none : c.get_mut-entry.result.now.count ≡ 0 = omega (arith, c.if-entry-gt1.false) in
    let there = sym c.get_mut-entry.ensures.value in
    let list =
    kept_as _ _ _ _ _ _ refl refl c.unlist.ensures.capacity
    (kept_hold c.self.inside.entries _ c.self.inside.unheld.items _ _ c.id.inside.0 c.get_mut-entry.result.now _ (sym c.get_mut-entry.ensures.value) none (omega arith)
    c.unlist.ensures.listed c.unlist.ensures.counts (omega (arith, c.unlist.ensures.len, c.unlist.new.unheld.ok.0, c.self.inside.unheld.ok.0)) c.self.invariant.list) in
    record { list = list; nodes = counted_as _ _ _ c.unlist.ensures.kinds (counted_stay _ _ _ c.get_mut-entry.result.now _ there refl c.self.invariant.nodes) }

pub returns : goal.returns
returns c =
    let count = seen_count _ _ _ _ c.self.view_is c.id.view_is c.get_mut-entry.result.now c.get_mut-entry.ensures.value in
    (λ i. record { kinds = c.unlist.ensures.kinds i; counts = c.unlist.ensures.counts i })
    ∙ seen_counted _ _ _ _ c.self.view_is c.id.view_is c.get_mut-entry.result.now _ _ c.get_mut-entry.ensures.value refl (ap (λ n. n + 1) count)
