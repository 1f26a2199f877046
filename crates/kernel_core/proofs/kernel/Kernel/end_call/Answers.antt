use Rattle.std.proofs.Common.{◌≡◌, ℕ, List, Some, Ok, refl, sym, ap, subst, ◌∙◌}
use Rattle.std.specs.FinMap.{empty, get}
use Rattle.abi_types.specs.Families.{call_of_offset}
use Rattle.channel_calls.specs.Calls.{channels_after, end_outcome}
use Rattle.kernel_model.specs.Calls.{takes_memory}
use Rattle.kernel_model.specs.Release.{release}
use Rattle.kernel_model.specs.State.{State, Update, put_all}
use Rattle.kernel_model.specs.Valid.{IsNearlyValid}
use Rattle.kernel_core.proofs.Done.{done_seen, lacked}
use Rattle.kernel_parts.specs.Released.{state_by}
use Rattle.kernel_core.specs.contracts.kernel.Kernel.{the_view}
use Rattle.readiness_laws.specs.Watched.{looked_at}
use Rattle.kernel_invariant.specs.Held.{AreHeld}
use Rattle.kernel_invariant.specs.Readiness.{left_where_done}
use Rattle.kernel_invariant.proofs.HeldChannels.{end_is_held, end_keeps}
use Rattle.kernel_core.proofs.Released.{kept_released, released_is_held, released_to}
use Rattle.kernel_invariant.proofs.Channels.{channels_put, end_going, end_nearly, end_sets}
use Rattle.kernel_core.proofs.kernel.Kernel.end_call.Goals as goal
use Rattle.kernel_core.proofs.kernel.Kernel.end_call.Goals.{After-release}

-- no channel is over, since the end is there that reads it or writes it
pub release-requires-clause-going : goal.release-requires-clause-going
release-requires-clause-going c =
    let there = subst (λ (S : State). (o : ℕ) × (get S.opens o ≡ Some c.args.kind.now)) (sym c.self.view_is) c.requires.there in
    end_going (the_view c.self.inside) there.0 c.args.kind.now (call_of_offset c.args.call) c.on_end.new.channels c.self.invariant.kept.valid there.1
    c.in_ok-answer.ensures.done.1

abbrev us : After-release → List Update
us c = (end_outcome c.self.inside.channels c.args.kind.now (call_of_offset c.args.call)).updates

-- before anything is released
abbrev left : After-release → State
left c = record (the_view c.self.inside) { chans = channels_after (us c) c.self.inside.channels }

put : (c : After-release) → put_all (us c) (the_view c.self.inside) ≡ left c
put c = channels_put (us c) (the_view c.self.inside) c.self.inside.channels (end_sets c.self.inside.channels c.args.kind.now (call_of_offset c.args.call))

-- the fields as they are in the end
abbrev fields : After-release → State
fields c = record (the_view c.self.inside) {
  tables = c.release.new.tables;
  processes = c.release.new.processes;
  statuses = c.release.new.statuses;
  opens = c.release.new.objects.kinds;
  nodes = c.release.new.tree.nodes;
  names = c.release.new.tree.names;
  chans = c.release.new.channels;
}

released : (c : After-release) → fields c ≡ release (left c)
released c =
    let k = c.self.inside in
    released_to (left c) _ _
    (λ i. state_by k.tables k.processes k.statuses (c.on_end.ensures.kinds i) (c.in_ok-answer.ensures.done.1 i) k.tree) c.release.ensures.state

-- what the release is given
abbrev before_release : After-release → State
before_release c = record (the_view c.self.inside) { opens = c.on_end.new.objects.kinds; chans = c.on_end.new.channels }

held : (c : After-release) → AreHeld (looked_at (before_release c)) c.touch_answered.new.waits
held c =
    let S = the_view c.self.inside in
    let done = c.in_ok-answer.ensures.done in
    let o = end_outcome c.self.inside.channels c.args.kind.now (call_of_offset c.args.call) in
    subst (λ (U : State). AreHeld (looked_at U) c.touch_answered.new.waits) (λ i. record S { opens = sym c.on_end.ensures.kinds i; chans = sym done.1 i })
    (end_is_held S c.args.kind.now empty o c.self.inside.waits (end_keeps S.chans empty c.args.kind.now (call_of_offset c.args.call)) c.self.invariant.waits
    c.touch_answered.new.waits (c.touch_answered.ensures ∙ ap (λ given. left_where_done given c.args.kind.now c.self.inside.waits) done.0))

pub invariant_of-self-2 : goal.invariant_of-self-2
invariant_of-self-2 d = record {
  kept =
      let c = (goal.at.invariant_of-self-2 d).After-release in
      let there = subst (λ (S : State). (o : ℕ) × (get S.opens o ≡ Some d.args.kind.now)) (sym d.self.view_is) d.requires.there in
      kept_released (left c) (fields c) d.release.new.objects.counts (released c)
      (subst IsNearlyValid (put c) (end_nearly (the_view d.self.inside) there.0 d.args.kind.now (call_of_offset d.args.call) there.1 d.self.invariant.kept.valid.nearly))
      d.release.ensures.counted (d.release.ensures.few (d.on_end.ensures.few d.self.invariant.kept.few)) d.self.invariant.kept.small d.self.invariant.kept.processes;
  waits =
      let c = (goal.at.invariant_of-self-2 d).After-release in
      released_is_held (before_release c) (fields c) _ d.touch_answered.new.waits d.release.new.waits refl (held c) d.release.ensures.touched refl;
}

pub returns : goal.returns
returns d =
    let c = (goal.at.returns d).After-release in
    let called = call_of_offset d.args.call in
    done_seen (the_view d.self.inside) d.args.self.now d.self.view_is (takes_memory called) (λ X. end_outcome X.chans d.args.kind.now called) (fields c)
    (Ok d.in_ok-answer.answer) (d.in_ok-answer.ensures.done.0, released c ∙ sym (ap release (put c)))

pub returns-in_err-answer : goal.returns-in_err-answer
returns-in_err-answer d =
    let k = d.self.inside in
    let called = call_of_offset d.args.call in
    let U = record (the_view k) { opens = d.on_end.new.objects.kinds; chans = d.on_end.new.channels } in
    done_seen (the_view k) d.args.self.now d.self.view_is (takes_memory called) (λ X. end_outcome X.chans d.args.kind.now called) U d.from_residual.result
    (lacked (takes_memory called) (end_outcome k.channels d.args.kind.now called) (the_view k) U d.from_residual.result d.from_residual.ensures.0
    d.in_err-answer.ensures.done.0 d.in_err-answer.ensures.done.1
    (λ i. record (the_view k) { opens = d.on_end.ensures.kinds i; chans = d.in_err-answer.ensures.done.2 i }))
