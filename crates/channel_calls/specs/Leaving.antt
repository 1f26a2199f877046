-- One side of channels that is left.
use Rattle.std.specs.Prelude.{ℕ, Option, None}
use Rattle.abi_types.specs.declared.chan_kind.ChanKind.TheVariants as chan_kind
use Rattle.abi_types.specs.declared.open_kind.OpenKind.{OpenKind}
use Rattle.abi_types.specs.declared.open_kind.OpenKind.TheVariants.{End}
use Rattle.channels.specs.declared.side.Side.{Side}
use Rattle.channels.specs.declared.side.Side.TheVariants.{Reader, Writer}

-- an end that has this side alone, of this channel or of none
abbrev pub end_at : Side → Option ℕ → OpenKind
end_at Reader c = End c None 0 chan_kind.Stream
end_at Writer c = End None c 0 chan_kind.Stream
