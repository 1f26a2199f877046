-- The call that raises a signal.
--     raise_is
use Rattle.std.proofs.Common.{◌≡◌, ℕ, Option, None, Some, refl, sym, ap, ◌∙◌}
use Rattle.abi_base.specs.declared.errno.Errno.TheVariants.{Inval, Notsup}
use Rattle.abi_base.specs.declared.signal.Signal.{Signal}
use Rattle.abi_types.specs.declared.reply.Answer.TheVariants as answer
use Rattle.abi_types.specs.declared.status.Status.TheVariants.{Killed}
use Rattle.kernel_model.specs.Families.ProcessCalls.{end_updates, raise_as, raise_of, raised_by}
use Rattle.kernel_model.specs.Families.ProcessCalls as model
use Rattle.kernel_model.specs.Outcome.{Outcome, replies}
use Rattle.kernel_model.specs.Reply.{refused, success}
use Rattle.process_calls.specs.Signals.{done_by, raised_as}
use Rattle.process_calls.specs.declared.signals.Raised.{Raised}
use Rattle.process_calls.specs.declared.signals.Raised.TheVariants as raised

-- what the call comes to where the signal does this
abbrev pub comes : ℕ → Raised → Outcome
comes p raised.Unknown = replies (refused Inval)
comes p raised.Stops = replies (refused Notsup)
comes p raised.Passes = replies (success 0 0)
comes p (raised.Ends signal) = record { answer = answer.Reply (success 0 0); updates = end_updates p (Killed signal) }

by_effect : (p : ℕ) (signal : Signal) (r : model.Raised) → raise_as r p signal ≡ comes p (done_by r signal)
by_effect p signal model.stops = refl
by_effect p signal model.passes = refl
by_effect p signal model.ends = refl

raise_comes : (p : ℕ) (signal : Option Signal) → raise_of p signal ≡ comes p (raised_as signal)
raise_comes p None = refl
raise_comes p (Some signal) = by_effect p signal (raised_by signal)

pub raise_is : (p : ℕ) (signal : Option Signal) (done : Raised) → done ≡ raised_as signal → raise_of p signal ≡ comes p done
raise_is p signal done is = raise_comes p signal ∙ ap (comes p) (sym is)
