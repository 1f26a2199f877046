-- The code of a kernel's channels.
use Rattle.std.specs.Coded.{Coded, coded_ℕ}
use Rattle.std.specs.FinMap.{code}
use Rattle.channels.specs.Channels.{channel_code}
use Rattle.channel_calls.specs.Calls.{Channels}

abbrev pub channels_code : Coded Channels
channels_code = code coded_ℕ channel_code
