-- The channels of a pair.
--     gone_fifo, gone_stream      they go again
--     with_carriers      nothing waits in them
use Rattle.std.proofs.Common.{◌≡◌, ℕ, ◌+◌, None, refl, ap, ◌∙◌, arith}
use Rattle.std.specs.FinMap.{get, insert, remove}
use Rattle.channel_calls.specs.Calls.{Channels, carriers_in}
use Rattle.channel_calls.specs.Pairs.{HasNone, channels_with}
use Rattle.channel_calls.specs.declared.pairs.Pair.{Pair}
use Rattle.channel_calls.specs.declared.pairs.PairKind.{PairKind}
use Rattle.channel_calls.specs.declared.pairs.PairKind.TheVariants.{Fifo, Stream}
use Rattle.maps.specs.Maps.{get-insert-other, remove-inserted, total-insert_new}
use Rattle.kernel_model.specs.Channels.{new_channel}
use Rattle.kernel_model.specs.Release.{carried_in}

is_fifo : (pair : Pair) (m : Channels) → pair.kind ≡ Fifo → channels_with pair m ≡ insert m pair.first new_channel
is_fifo pair m is = ap (λ k. channels_with (record pair { kind = k }) m) is

is_stream : (pair : Pair) (m : Channels) → pair.kind ≡ Stream → channels_with pair m ≡ insert (insert m pair.first new_channel) (pair.first + 1) new_channel
is_stream pair m is = ap (λ k. channels_with (record pair { kind = k }) m) is

second_free : (pair : Pair) (m : Channels) → HasNone pair m → pair.kind ≡ Stream → get (insert m pair.first new_channel) (pair.first + 1) ≡ None
second_free pair m none is = get-insert-other m pair.first new_channel (pair.first + 1) (λ e. omega (arith, e)) ∙ none.1 is

pub gone_fifo : (pair : Pair) (before old new : Channels) → pair.kind ≡ Fifo → HasNone pair before → old ≡ channels_with pair before
    → new ≡ remove old pair.first → new ≡ before
gone_fifo pair before old new is none made gone =
    gone ∙ ap (λ (m : Channels). remove m pair.first) (made ∙ is_fifo pair before is) ∙ remove-inserted before pair.first new_channel none.0

pub gone_stream : (pair : Pair) (before old less new : Channels) → pair.kind ≡ Stream → HasNone pair before → old ≡ channels_with pair before
    → less ≡ remove old (pair.first + 1) → new ≡ remove less pair.first → new ≡ before
gone_stream pair before old less new is none made second gone =
    gone
    ∙ ap (λ (m : Channels). remove m pair.first) (second ∙ ap (λ (m : Channels). remove m (pair.first + 1)) (made ∙ is_stream pair before is)
    ∙ remove-inserted (insert before pair.first new_channel) (pair.first + 1) new_channel (second_free pair before none is))
    ∙ remove-inserted before pair.first new_channel none.0

new_carriers : (o : ℕ) (m : Channels) (c : ℕ) → get m c ≡ None → carriers_in o (insert m c new_channel) ≡ carriers_in o m
new_carriers o m c none = let grown = total-insert_new (carried_in o) m c new_channel none in omega (arith, grown)

pub with_carriers : (pair : Pair) (m : Channels) (o : ℕ) → HasNone pair m → carriers_in o (channels_with pair m) ≡ carriers_in o m
with_carriers pair m o none = by pair.kind refl where
  by : (k : PairKind) → pair.kind ≡ k → carriers_in o (channels_with pair m) ≡ carriers_in o m
  by Fifo is = ap (carriers_in o) (is_fifo pair m is) ∙ new_carriers o m pair.first none.0
  by Stream is =
      ap (carriers_in o) (is_stream pair m is) ∙ new_carriers o (insert m pair.first new_channel) (pair.first + 1) (second_free pair m none is)
      ∙ new_carriers o m pair.first none.0
