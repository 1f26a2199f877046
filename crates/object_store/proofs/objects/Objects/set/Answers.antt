use Rattle.std.proofs.Common.{IfSome, refl, sym, subst}
use Rattle.object_store.proofs.Kept.{kept_stay}
use Rattle.object_store.proofs.Nodes.{counted_set}
use Rattle.object_store.proofs.Views.{entry_of_kind, seen_kind, seen_set}
use Rattle.object_store.specs.Nodes.{IsOfSameNode}
use Rattle.object_store.proofs.objects.Objects.set.Goals as goal

pub get_mut-entry-requires : goal.get_mut-entry-requires
get_mut-entry-requires c = entry_of_kind _ _ _ _ c.self.view_is c.id.view_is c.requires.there

pub invariant_of-self : goal.invariant_of-self
invariant_of-self c =
    let there = sym c.get_mut-entry.ensures.value in
    let seen = seen_kind _ _ _ _ c.self.view_is c.id.view_is c.get_mut-entry.result.now c.get_mut-entry.ensures.value in
    record {
      list = kept_stay _ _ _ _ c.get_mut-entry.result.now _ there refl refl c.self.invariant.list;
      nodes = counted_set _ _ _ c.get_mut-entry.result.now _ there (subst (λ o. IfSome o (IsOfSameNode c.args.kind)) (sym seen) c.requires.same_node) c.self.invariant.nodes;
    }

pub returns : goal.returns
returns c = seen_set _ _ _ _ c.self.view_is c.id.view_is c.get_mut-entry.result.now _ c.get_mut-entry.ensures.value refl
