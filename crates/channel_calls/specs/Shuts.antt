-- What shutting an end does to its channels.
use Rattle.std.specs.Prelude.{ℕ, ◌==◌, ◌++◌, not, bit_and, List}
use Rattle.std.specs.FinMap.{get}
use Rattle.abi_base.specs.declared.flags.TheConstants.{SHUT_RD, SHUT_WR}
use Rattle.kernel_model.specs.Channels.{with_reader_shut, with_writer_shut}
use Rattle.kernel_model.specs.Families.ChannelCalls.{shut_if}
use Rattle.kernel_model.specs.State.{Update}
use Rattle.channel_calls.specs.Calls.{Channels}

-- both sides, as the call's flags say
abbrev pub shut_both : Channels → ℕ → ℕ → ℕ → List Update
shut_both channels reads writes how =
    shut_if (not (bit_and how SHUT_RD == 0)) with_reader_shut reads (get channels reads)
    ++ shut_if (not (bit_and how SHUT_WR == 0)) with_writer_shut writes (get channels writes)
