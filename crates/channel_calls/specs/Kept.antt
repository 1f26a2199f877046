-- One of the channels that are kept.
use Rattle.std.specs.Prelude.{◌≡◌, ℕ, Some}
use Rattle.std.specs.FinMap.{get}
use Rattle.kernel_model.specs.Channels.{Channel}
use Rattle.channel_calls.specs.Calls.{Channels}

-- this holds of the channel that has the number
abbrev pub IsAt : Channels → ℕ → (Channel → Type 0) → Type 0
IsAt channels c P = (channel : Channel) → get channels c ≡ Some channel → P channel
