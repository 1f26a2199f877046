use Rattle.std.proofs.Common.{cond, false, true, refl, sym, ap, Some, ◌∙◌}
use Rattle.maps.specs.Maps.{first_key}
use Rattle.maps.proofs.NumberEntries.{least_of_entries}
use Rattle.maps.proofs.num_map.NumMap.first_where.Goals as goal

pub loop-key-init : goal.loop-key-init
loop-key-init g c =
    let entries = c.into_iter-key-iterator.ensures.into_iter_gives in
    (tt, tt, λ passes _. least_of_entries (λ _ v. passes v) _ _ c.self.view_is entries.5 ∙ ap (first_key (λ _ v. passes v)) (sym entries.0))

pub returns-then-test : goal.returns-then-test
returns-then-test g c = λ passes computes.
    let answer = computes c.in-Some.value.now true (record { shown = c.in-Some.value; shows = refl; says = record { met = c.if-test.ensures } }) in
    sym (c.loop-key.invariant.2 passes computes ∙ ap (first_key (λ _ v. passes v)) c.in-Some.ensures.steps
    ∙ ap (λ b. cond b (Some c.in-Some.key.now) (first_key (λ _ v. passes v) c.next.new.self)) (sym answer))

pub loop-key-preserved : goal.loop-key-preserved
loop-key-preserved g c = (
  tt,
  tt,
  λ passes computes.
      let answer = computes c.in-Some.value.now false (record { shown = c.in-Some.value; shows = refl; says = record { met = c.if-test.ensures } }) in
      c.loop-key.invariant.2 passes computes ∙ ap (first_key (λ _ v. passes v)) c.in-Some.ensures.steps
      ∙ ap (λ b. cond b (Some c.in-Some.key.now) (first_key (λ _ v. passes v) c.next.new.self)) (sym answer),
)
