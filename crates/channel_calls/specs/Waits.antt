-- Whether calls on ends wait.
use Rattle.std.specs.Prelude.{ℕ, ◌&&◌, not, Bool, false, Option, None, Some}
use Rattle.std.specs.FinMap.{get}
use Rattle.kernel_model.specs.Channels.{Channel}
use Rattle.kernel_model.specs.Families.ChannelCalls.{is_nonblocking, must_wait_by}
use Rattle.channel_calls.specs.Calls.{Channels}

-- whether a receive of n bytes with these flags waits on the channel, at an end of this mode; a read is one without flags
abbrev pub is_waited_for : ℕ → ℕ → ℕ → Option Channel → Bool
is_waited_for mode flags n None = false
is_waited_for mode flags n (Some channel) = not (is_nonblocking mode) && must_wait_by flags n channel

-- whether it waits on what an end of this mode reads
abbrev pub is_read_waiting : Channels → ℕ → ℕ → ℕ → Option ℕ → Bool
is_read_waiting channels mode flags n None = false
is_read_waiting channels mode flags n (Some c) = is_waited_for mode flags n (get channels c)
