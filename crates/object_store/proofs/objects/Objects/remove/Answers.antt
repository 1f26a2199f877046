use Rattle.std.proofs.Common.{◌≡◌, ◌+◌, length, refl, sym, ap, ◌∙◌, arith}
use Rattle.maps.specs.Maps.{remove_absent}
use Rattle.object_store.specs.Entries.{kinds_of, counts_of, held_of}
use Rattle.object_store.proofs.Kept.{kept_as, kept_gone, kept_without}
use Rattle.object_store.proofs.Nodes.{counted_as, counted_remove, counts_open}
use Rattle.object_store.proofs.Places.{listed_gone, place_within}
use Rattle.object_store.proofs.Views.{seen_kind, seen_no_kind, seen_remove}
use Rattle.object_store.proofs.objects.Objects.remove.Goals as goal
use Rattle.object_store.proofs.objects.Objects.remove.Goals.{then-entry-eq0, else-entry-eq0}

pub invariant_of-self : goal.invariant_of-self
invariant_of-self c =
    let same = c.in_err-entry.ensures.new ∙ remove_absent _ _ (sym c.in_err-entry.ensures.value) in
    record { list = kept_as _ _ _ _ _ _ same refl refl c.self.invariant.list; nodes = counted_as _ _ _ (ap kinds_of same) c.self.invariant.nodes }

pub uncount_open-requires : goal.uncount_open-requires
uncount_open-requires c = counts_open _ _ _ c.in_ok-entry.entry (sym c.in_ok-entry.ensures.value) c.self.invariant.nodes

pub returns-in_err-entry-clause-value : goal.returns-in_err-entry-clause-value
returns-in_err-entry-clause-value c =
    c.from_residual.ensures ∙ seen_no_kind _ _ _ _ c.self.view_is c.id.view_is c.in_err-entry.ensures.value

pub returns-in_err-entry-clause-new : goal.returns-in_err-entry-clause-new
returns-in_err-entry-clause-new c = ap held_of c.in_err-entry.ensures.new ∙ seen_remove _ _ _ _ c.self.view_is c.id.view_is

pub unlist-requires-clause-there : goal.unlist-requires-clause-there
unlist-requires-clause-there c =
    let within = place_within _ _ _ c.in_ok-entry.entry (sym c.in_ok-entry.ensures.value) c.if-entry-eq0.true c.self.invariant.list.listed in
    omega (arith, within, c.self.inside.unheld.ok.0)

pub unlist-requires-clause-others : goal.unlist-requires-clause-others
unlist-requires-clause-others c =
    rw c.in_ok-entry.ensures.new (listed_gone _ _ _ c.in_ok-entry.entry (sym c.in_ok-entry.ensures.value) c.if-entry-eq0.true c.self.invariant.list.listed)

pub invariant_of-self-then-entry-eq0 : goal.invariant_of-self-then-entry-eq0
invariant_of-self-then-entry-eq0 c =
    let less : length c.unlist.new.unheld.items + 1 ≡ length c.self.inside.unheld.items =
    omega (arith, c.unlist.ensures.len, c.unlist.new.unheld.ok.0, c.self.inside.unheld.ok.0) in
    let there = sym c.in_ok-entry.ensures.value in
    let nodes = counted_remove _ _ _ _ c.in_ok-entry.entry there c.uncount_open.ensures.less c.uncount_open.ensures.no_zero c.self.invariant.nodes in
    let list =
    kept_as _ _ _ _ _ _ refl refl c.unlist.ensures.capacity
    (kept_gone c.self.inside.entries _ c.self.inside.unheld.items _ _ c.id.inside.0 c.in_ok-entry.entry (sym c.in_ok-entry.ensures.value) c.if-entry-eq0.true
    c.unlist.ensures.listed (c.unlist.ensures.counts ∙ ap counts_of c.in_ok-entry.ensures.new) less c.self.invariant.list) in
    record { list = list; nodes = counted_as _ _ _ (c.unlist.ensures.kinds ∙ ap kinds_of c.in_ok-entry.ensures.new) nodes }

pub invariant_of-self-else-entry-eq0 : goal.invariant_of-self-else-entry-eq0
invariant_of-self-else-entry-eq0 c =
    let there = sym c.in_ok-entry.ensures.value in
    let nodes = counted_remove _ _ _ _ c.in_ok-entry.entry there c.uncount_open.ensures.less c.uncount_open.ensures.no_zero c.self.invariant.nodes in
    record {
      list = kept_as _ _ _ _ _ _ c.in_ok-entry.ensures.new refl refl (kept_without _ _ _ _ c.in_ok-entry.entry there (omega (arith, c.if-entry-eq0.false)) c.self.invariant.list);
      nodes = counted_as _ _ _ (ap kinds_of c.in_ok-entry.ensures.new) nodes;
    }

pub returns-clause-value : goal.returns-clause-value
returns-clause-value c = seen_kind _ _ _ _ c.self.view_is c.id.view_is c.in_ok-entry.entry c.in_ok-entry.ensures.value

pub returns-clause-new : goal.returns-clause-new
returns-clause-new c =
    elim c.if-entry-eq0.branch [
      | then-entry-eq0 w ↦
          w.self-is ∙ (λ i. record { kinds = w.unlist.ensures.kinds i; counts = w.unlist.ensures.counts i }) ∙ ap held_of c.in_ok-entry.ensures.new
          ∙ seen_remove _ _ _ _ c.self.view_is c.id.view_is
      | else-entry-eq0 w ↦ w.self-is ∙ ap held_of c.in_ok-entry.ensures.new ∙ seen_remove _ _ _ _ c.self.view_is c.id.view_is
    ]
