use Rattle.std.proofs.Common.{◌≡◌, ◌-◌, Bool, true, false, refl, sym, ap, subst, ◌∙◌}
use Rattle.std.specs.Int.{from_bool}
use Rattle.std.specs.Prelude.{if◌then◌else◌}
use Rattle.kernel_model.specs.Families.Locks.{signalled, some_sleeps}
use Rattle.guest_locks.specs.Queues.{AreFew}
use Rattle.guest_locks.proofs.Handed.{few_changed}
use Rattle.guest_locks.proofs.Signalled.{all_called, one_called, sleeper_there}
use Rattle.guest_locks.proofs.Telling.{tells_both, tells_none}
use Rattle.guest_locks.proofs.signals.signal.Goals as goal

pub loop-tid-init : goal.loop-tid-init
loop-tid-init c = (refl, c.requires.few, tells_none c.args.threads.now c.args.told.now)

pub call_at-requires : goal.call_at-requires
call_at-requires c = record { there = sleeper_there c.args.condvar c.loop-tid.left c.loop-tid.threads c.in-Some.tid (sym c.in-Some.ensures) }

pub loop-tid-preserved : goal.loop-tid-preserved
loop-tid-preserved c = (
  ap (signalled (c.loop-tid.left - 1) c.args.condvar) c.call_at.ensures.threads
      ∙ one_called c.args.condvar c.loop-tid.left c.loop-tid.threads c.in-Some.tid (sym c.in-Some.ensures) ∙ c.loop-tid.invariant.0,
  subst AreFew (sym c.call_at.ensures.threads) (few_changed _ c.loop-tid.threads c.loop-tid.invariant.1),
  tells_both c.loop-tid.invariant.2 c.call_at.ensures.told,
)

pub returns-clause-threads : goal.returns-clause-threads
returns-clause-threads c = sym (all_called c.args.condvar c.loop-tid.left c.loop-tid.threads (sym c.in_default.ensures)) ∙ c.loop-tid.invariant.0

one_or_none : (b : Bool) → from_bool b ≡ (if b then 1 else 0)
one_or_none true = refl
one_or_none false = refl

pub returns-clause-word : goal.returns-clause-word
returns-clause-word c =
    let threads = sym (all_called c.args.condvar c.loop-tid.left c.loop-tid.threads (sym c.in_default.ensures)) ∙ c.loop-tid.invariant.0 in
    c.from.ensures ∙ ap from_bool (c.some_sleeps.ensures ∙ ap (some_sleeps c.args.condvar) threads) ∙ one_or_none _

pub returns-clause-told : goal.returns-clause-told
returns-clause-told c = c.loop-tid.invariant.2
