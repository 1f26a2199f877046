-- Two ends that are made together, with their channels.
use Rattle.std.specs.Prelude.{◌≡◌, ◌≢◌, ℕ, ◌+◌, ◌<◌, None, Some}
use Rattle.std.specs.Ordering.{nat_cmp}
use Rattle.std.specs.FinMap.{FinMap, get, insert}
use Rattle.abi_base.specs.declared.limits.TheConstants.{MOST_DESCRIPTORS}
use Rattle.abi_types.specs.declared.chan_kind.ChanKind.TheVariants as chan_kind
use Rattle.abi_types.specs.declared.open_kind.OpenKind.{OpenKind}
use Rattle.abi_types.specs.declared.open_kind.OpenKind.TheVariants.{End}
use Rattle.channel_calls.specs.Calls.{Channels}
use Rattle.channel_calls.specs.declared.pairs.Pair.{Pair}
use Rattle.channel_calls.specs.declared.pairs.PairKind.{PairKind}
use Rattle.channel_calls.specs.declared.pairs.PairKind.TheVariants.{Fifo, Stream}
use Rattle.maps.specs.Maps.{number}
use Rattle.kernel_model.specs.Channels.{new_channel}
use Rattle.kernel_model.specs.Families.SocketCalls as model
use Rattle.kernel_model.specs.State.{Table}

-- which of the model's pairs it is
abbrev pub model_of : PairKind → model.Pair
model_of Fifo = model.pipe
model_of Stream = model.pair

-- The objects that are made have the numbers from `first` on: the channels, then the two ends.
abbrev pub end_one : Pair → OpenKind
end_one pair = by pair.kind pair.first where
  by : PairKind → ℕ → OpenKind
  by Fifo first = End (Some first) None 0 chan_kind.Stream
  by Stream first = End (Some first) (Some (first + 1)) 0 chan_kind.Stream

abbrev pub end_two : Pair → OpenKind
end_two pair = by pair.kind pair.first where
  by : PairKind → ℕ → OpenKind
  by Fifo first = End None (Some first) 0 chan_kind.Stream
  by Stream first = End (Some (first + 1)) (Some first) 0 chan_kind.Stream

-- the numbers of the two ends
abbrev pub number_one : Pair → ℕ
number_one pair = by pair.kind pair.first where
  by : PairKind → ℕ → ℕ
  by Fifo first = first + 1
  by Stream first = first + 2

abbrev pub number_two : Pair → ℕ
number_two pair = number_one pair + 1

-- the channels, the opens and the table with it
abbrev pub channels_with : Pair → Channels → Channels
channels_with pair channels = by pair.kind pair.first where
  by : PairKind → ℕ → Channels
  by Fifo first = insert channels first new_channel
  by Stream first = insert (insert channels first new_channel) (first + 1) new_channel

abbrev pub opens_with : Pair → FinMap nat_cmp OpenKind → FinMap nat_cmp OpenKind
opens_with pair opens = insert (insert opens (number_one pair) (end_one pair)) (number_two pair) (end_two pair)

abbrev pub table_with : Pair → Table → Table
table_with pair table =
    insert (insert table pair.one (model.end_descriptor (number_one pair) (end_one pair))) pair.two (model.end_descriptor (number_two pair) (end_two pair))

-- no channel has the numbers of the pair's channels
abbrev pub HasNone : Pair → Channels → Type 0
HasNone pair channels = (get channels pair.first ≡ None) × (pair.kind ≡ Stream → get channels (pair.first + 1) ≡ None)

-- Nothing has the numbers that the pair takes.
pub record AreNew (pair : Pair) (channels : Channels) (kinds : FinMap nat_cmp OpenKind) (counts : FinMap nat_cmp ℕ) : Type 0 where
  pub first_channel : get channels pair.first ≡ None
  pub second_channel : pair.kind ≡ Stream → get channels (pair.first + 1) ≡ None
  pub one : get kinds (number_one pair) ≡ None
  pub two : get kinds (number_two pair) ≡ None
  pub unheld_one : number (get counts (number_one pair)) ≡ 0
  pub unheld_two : number (get counts (number_two pair)) ≡ 0

pub record AreFree (pair : Pair) (table : Table) : Type 0 where
  pub below_one : pair.one < MOST_DESCRIPTORS
  pub below_two : pair.two < MOST_DESCRIPTORS
  pub one : get table pair.one ≡ None
  pub two : get table pair.two ≡ None
  pub apart : pair.one ≢ pair.two
