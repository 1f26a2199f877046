use Rattle.std.proofs.Common.{◌≡◌, sym, ap, ◌∙◌}
use Rattle.abi_types.specs.declared.reply.Answer.TheVariants as answer
use Rattle.kernel_model.specs.Families.ProcessCalls.{raise_of, signal_of}
use Rattle.kernel_model.specs.Outcome.{replies}
use Rattle.process_calls.specs.declared.signals.Raised.{Raised}
use Rattle.process_calls.specs.declared.signals.Raised.TheVariants as raised
use Rattle.kernel_core.proofs.Done.{answered_as, replied}
use Rattle.kernel_core.proofs.Raising.{comes, raise_is}
use Rattle.kernel_core.proofs.kernel.Kernel.proc_raise.Goals as goal
use Rattle.kernel_core.proofs.kernel.Kernel.proc_raise.Goals.{After-effect_of}

-- what the call comes to where the signal does this
does : (c : After-effect_of) (done : Raised) → c.effect_of.result ≡ done
    → raise_of c.args.who.now.pid (signal_of c.args.signal)
    ≡ comes c.args.who.now.pid done
does c done is = raise_is c.args.who.now.pid (signal_of c.args.signal) done (sym is ∙ c.effect_of.ensures)

pub returns-in-Unknown : goal.returns-in-Unknown
returns-in-Unknown d =
    replied _ d.args.self.now d.refused.result d.requires.valid
    (does (goal.at.returns-in-Unknown d).After-effect_of raised.Unknown d.in-Unknown.is ∙ ap replies (sym d.refused.ensures))

pub returns-in-Stops : goal.returns-in-Stops
returns-in-Stops d =
    replied _ d.args.self.now d.refused-in-Stops.result d.requires.valid
    (does (goal.at.returns-in-Stops d).After-effect_of raised.Stops d.in-Stops.is ∙ ap replies (sym d.refused-in-Stops.ensures))

pub returns-in-Passes : goal.returns-in-Passes
returns-in-Passes d =
    replied _ d.args.self.now d.success.result d.requires.valid
    (does (goal.at.returns-in-Passes d).After-effect_of raised.Passes d.in-Passes.is ∙ ap replies (sym d.success.ensures))

pub returns-in-Ends : goal.returns-in-Ends
returns-in-Ends d =
    answered_as _ _ d.args.self.now d.end_process.new.self (answer.Reply d.success-in-Ends.result)
    (sym (does (goal.at.returns-in-Ends d).After-effect_of (raised.Ends d.in-Ends.signal) d.in-Ends.is))
    (ap answer.Reply d.success-in-Ends.ensures, d.end_process.ensures)
