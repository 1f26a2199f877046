use Rattle.std.proofs.Common.{◌≡◌, Some, IsSome, refl, sym, ap, subst, ◌∙◌}
use Rattle.std.specs.FinMap.{get, insert}
use Rattle.abi_types.specs.declared.thread.Thread.{Thread}
use Rattle.abi_types.specs.declared.who.Who.{Who}
use Rattle.kernel_model.specs.State.{State, thread_of}
use Rattle.kernel_model.specs.Waits.{thread_set, waiting, with_thread}
use Rattle.kernel_model.proofs.Parking.{waiting_may}
use Rattle.kernel_parts.specs.Keys.{key}
use Rattle.readiness_laws.specs.Watched.{looked_at}
use Rattle.wait_set.specs.Waits.{resting}
use Rattle.kernel_invariant.specs.Held.{AreHeld, IsKept}
use Rattle.kernel_invariant.specs.Readiness.{places_by_key, HasStood}
use Rattle.kernel_invariant.specs.Waiting.{IsUnready}
use Rattle.kernel_core.specs.contracts.kernel.Kernel.{the_view}
use Rattle.kernel_invariant.proofs.HeldStanding.{rested_is_held}
use Rattle.kernel_invariant.proofs.Parks.{after_kept, set_after}
use Rattle.kernel_core.proofs.kernel.Kernel.begin_wait.Goals as goal
use Rattle.kernel_core.proofs.kernel.Kernel.begin_wait.Goals.{After-park}

-- the thread waits in the call
abbrev thread : After-park → Thread
thread c = waiting c.args.constants.now c.args.kept c.args.who.now c.args.self.now.clock

same : (c : After-park) → c.from.result ≡ c.args.who.now.pid
same c = c.from.ensures ∙ ap (λ (w : Who). w.pid) c.who.view_is

there : (c : After-park) → get c.self.inside.processes c.args.who.now.pid ≡ Some c.get_mut-own.result.now
there c = ap (get c.self.inside.processes) (sym (same c)) ∙ sym c.get_mut-own.ensures.value

set : (c : After-park) → c.park.new.self ≡ thread_set c.args.who.now.tid (thread c) c.get_mut-own.result.now
set c = c.park.ensures ∙ ap (λ (S : State). thread_set c.args.who.now.tid (waiting c.args.constants.now c.args.kept c.args.who.now S.clock) c.get_mut-own.result.now) c.self.view_is

-- the state with that process
put : (c : After-park) → record (the_view c.self.inside) { processes = insert c.self.inside.processes c.from.result c.park.new.self }
    ≡ record (the_view c.self.inside) { processes = insert c.self.inside.processes c.args.who.now.pid c.park.new.self }
put c = λ i. record (the_view c.self.inside) { processes = insert c.self.inside.processes (same c i) c.park.new.self }

pub invariant_of-self : goal.invariant_of-self
invariant_of-self d = record {
  kept =
      let c = (goal.at.invariant_of-self d).After-park in
      subst (λ (S : State). IsKept S c.self.inside.objects.counts) (sym (put c))
      (after_kept (the_view c.self.inside) c.args.who.now.pid c.args.who.now.tid (thread c) c.get_mut-own.result.now c.park.new.self (there c)
      c.self.inside.objects.counts (waiting_may c.args.constants.now c.args.kept c.args.who.now c.args.self.now.clock c.requires.may) c.self.invariant.kept (set c));
  waits =
      let c = (goal.at.invariant_of-self d).After-park in
      let S : State = the_view d.self.inside in
      let p = d.args.who.now.pid in
      let t = d.args.who.now.tid in
      let number : d.thread_key.result ≡ key p t = d.thread_key.ensures ∙ ap (λ (w : Who). key p w.tid) d.who.view_is in
      let is = put c ∙ set_after S p t (thread c) c.get_mut-own.result.now c.park.new.self (there c) (set c) in
      let at_number = subst (λ k. HasStood k (resting d.args.is_left) (places_by_key S.opens S.tables (insert S.processes d.from.result d.park.new.self) k) d.self.inside.waits d.rest_entry.new.waits)
      number d.rest_entry.ensures in
      subst (λ (T : State). AreHeld (looked_at T) d.rest_entry.new.waits) (sym is)
      (rested_is_held S d.self.inside.waits d.rest_entry.new.waits p t (thread c) d.args.is_left d.self.invariant.waits
      (subst (λ (T : State). IsSome (thread_of T p t)) (sym d.self.view_is) d.requires.there)
      (waiting_may d.args.constants.now d.args.kept d.args.who.now d.args.self.now.clock d.requires.may) refl
      (λ rests. subst (λ (T : State). IsUnready (with_thread T p t (thread c)) p t) (sym d.self.view_is) (d.requires.unready rests))
      (subst (λ (T : State). HasStood (key p t) (resting d.args.is_left) (places_by_key S.opens S.tables T.processes (key p t)) d.self.inside.waits d.rest_entry.new.waits) is at_number));
}

pub returns : goal.returns
returns d =
    let c = (goal.at.returns d).After-park in
    put c ∙ set_after (the_view c.self.inside) c.args.who.now.pid c.args.who.now.tid (thread c) c.get_mut-own.result.now c.park.new.self (there c) (set c)
    ∙ ap (λ S. with_thread S c.args.who.now.pid c.args.who.now.tid (thread c)) c.self.view_is
