-- What a signal does to the process that raises it.
use Rattle.std.specs.Prelude.{Option, None, Some}
use Rattle.abi_base.specs.declared.signal.Signal.{Signal}
use Rattle.kernel_model.specs.Families.ProcessCalls as model
use Rattle.process_calls.specs.declared.signals.Raised.{Raised}
use Rattle.process_calls.specs.declared.signals.Raised.TheVariants as raised

abbrev pub done_by : model.Raised → Signal → Raised
done_by model.stops signal = raised.Stops
done_by model.passes signal = raised.Passes
done_by model.ends signal = raised.Ends signal

abbrev pub raised_as : Option Signal → Raised
raised_as None = raised.Unknown
raised_as (Some signal) = done_by (model.raised_by signal) signal
