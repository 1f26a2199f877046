use Rattle.std.proofs.Common.{ℕ, ◌-◌, List, length, slice_get, ap, ◌∙◌}
use Rattle.object_store.proofs.Unheld.{last_unheld, no_last}
use Rattle.object_store.proofs.Views.{has_counts}
use Rattle.object_store.proofs.objects.Objects.unheld.Goals as goal

pub returns-clause-none : goal.returns-clause-none
returns-clause-none c =
    no_last c.self.inside.entries _ _ c.self.invariant.list.listed c.self.view_is _
    (c.copied.ensures ∙ c.last.ensures.value ∙ ap (λ (xs : List ℕ). slice_get xs (length xs - 1)) c.deref.ensures.value)

pub returns-clause-unheld : goal.returns-clause-unheld
returns-clause-unheld c =
    last_unheld c.self.inside.entries _ _ c.self.invariant.list.listed c.self.view_is _
    (c.copied.ensures ∙ c.last.ensures.value ∙ ap (λ (xs : List ℕ). slice_get xs (length xs - 1)) c.deref.ensures.value)

pub returns-clause-all : goal.returns-clause-all
returns-clause-all c = rw (← c.self.view_is) (has_counts c.self.inside.entries)
