-- Channels, by which bytes and descriptors go from one end to another.
--     what waits in a channel: Send, Channel, bytes_of, carried_of
--     what a send leaves in it and a read takes from it: push, pull, must_wait, must_wait_for_all
--     its sides: with_reader_shut, with_writer_shut, channel_left, is_over
--     what a channel may be: IsChannel
--     what contracts say of buffers and faults: IsFilled, IsPulled, IsWhyNotPushed; of a side: shut_at, left_at, released_at
use Rattle.std.specs.Prelude.{◌≡◌, ℕ, zero, suc, ◌+◌, ◌-◌, ◌<◌, ◌≤◌, ◌==◌, ◌&&◌, ◌||◌, min, nat_lt, nat_le, not, Bool, true, false, List, [], ◌∷◌, ◌++◌, length, take, drop, if◌then◌else◌, refl}
use Rattle.std.specs.Coded.{Coded, code_by, coded_ℕ, coded×, coded_list}
use Rattle.std.specs.List.{AllByRecursion}
use Rattle.abi_types.specs.declared.chan_kind.ChanKind.{ChanKind}
use Rattle.abi_types.specs.declared.chan_kind.ChanKind.TheVariants as chan_kind
use Rattle.abi_types.specs.contracts.chan_kind.ChanKind as chan_kind_row
use Rattle.abi_types.specs.declared.descriptor.Descriptor.{Descriptor}
use Rattle.abi_types.specs.contracts.descriptor.Descriptor as descriptor
use Rattle.channels.specs.declared.side.Side.{Side}
use Rattle.channels.specs.declared.side.Side.TheVariants.{Reader, Writer}
use Rattle.channels.specs.declared.side.SideState.{SideState}
use Rattle.channels.specs.declared.side.SideState.TheVariants.{Open, Shut, Gone}
use Rattle.channels.specs.contracts.side.SideState as side_state
use Rattle.channels.specs.declared.faults.PushFault.{PushFault}
use Rattle.channels.specs.declared.faults.PushFault.TheVariants.{Full, Hung, NoMemory}

-- ---- what waits

-- what waits of one send: bytes, and the descriptors that it carries
pub record Send : Type 0 where
  pub bytes : List ℕ
  pub carried : List Descriptor

-- the channel's kind; how many sends have left it; those that wait, the first of them first: of one from which bytes were drawn, what is
-- left of it; and the two sides
pub record Channel : Type 0 where
  pub kind : ChanKind
  pub left : ℕ
  pub waiting : List Send
  pub reader : SideState
  pub writer : SideState

-- a channel to which nothing was sent
abbrev pub new_channel : Channel
new_channel = record { kind = chan_kind.Stream; left = 0; waiting = []; reader = Open; writer = Open }

-- all bytes of sends, in order; and all descriptors that they carry
abbrev pub bytes_of : List Send → List ℕ
bytes_of [] = []
bytes_of (send ∷ rest) = send.bytes ++ bytes_of rest

abbrev pub carried_of : List Send → List Descriptor
carried_of [] = []
carried_of (send ∷ rest) = send.carried ++ carried_of rest

-- at most as many bytes and descriptors wait in a channel
abbrev pub most_bytes : ℕ
most_bytes = 65536

abbrev pub most_carried : ℕ
most_carried = 64

-- for how many more bytes there is room
abbrev pub room : Channel → ℕ
room channel = most_bytes - length (bytes_of channel.waiting)

abbrev pub is_open : SideState → Bool
is_open Open = true
is_open Shut = false
is_open Gone = false

-- whether there is room for a byte more, and for so many descriptors
abbrev pub has_room : ℕ → Channel → Bool
has_room count channel = not (room channel == 0) && nat_le (length (carried_of channel.waiting) + count) most_carried

-- whether nothing more can be sent: a side was shut, or its end has ended
abbrev pub is_hung : Channel → Bool
is_hung channel = not (is_open channel.reader && is_open channel.writer)

-- ---- what a send leaves

-- the channel with one send more, behind the others
abbrev pub pushed : List ℕ → List Descriptor → Channel → Channel
pushed bytes carried channel = record channel { waiting = channel.waiting ++ (record { bytes = bytes; carried = carried }) ∷ [] }

-- A send of bytes and descriptors comes to this: nothing can be sent any more; or there is no room for a byte or not for the
-- descriptors; or as many of the bytes as there is room for are sent, with all descriptors, and the channel is left so.
pub data Push : Type 0 where
  hung : Push
  full : Push
  sends : ℕ → Channel → Push

abbrev pub push_if : Bool → Bool → List ℕ → List Descriptor → Channel → Push
push_if true fits bytes carried channel = hung
push_if false false bytes carried channel = full
push_if false true bytes carried channel =
    sends (min (length bytes) (room channel)) (pushed (take (room channel) bytes) carried channel)

abbrev pub push : List ℕ → List Descriptor → Channel → Push
push bytes carried channel = push_if (is_hung channel) (has_room (length carried) channel) bytes carried channel

-- ---- what a read takes

-- whether there is none
abbrev pub is_none : List Descriptor → Bool
is_none [] = true
is_none (d ∷ ds) = false

-- how many bytes stand before the first send that carries descriptors
abbrev pub plain_reach : List Send → ℕ
plain_reach [] = 0
plain_reach (send ∷ rest) = if is_none send.carried then length send.bytes + plain_reach rest else 0

-- the most bytes that one read takes: it doesn't go past the first byte of a send that carries descriptors unless it starts there
abbrev pub reach : List Send → ℕ
reach [] = 0
reach (send ∷ rest) = length send.bytes + plain_reach rest

-- What is left of the sends once m bytes were drawn from the first of them on: a send whose last byte was drawn has left, and one of
-- which a byte was drawn carries nothing more.
abbrev pub sends_after : ℕ → List Send → List Send
sends_after zero waiting = waiting
sends_after (suc m) [] = []
sends_after (suc m) (send ∷ rest) =
    if nat_lt (suc m) (length send.bytes)
    then (record { bytes = drop (suc m) send.bytes; carried = [] }) ∷ rest
    else sends_after (suc m - length send.bytes) rest

-- how many sends have left then
abbrev pub sends_gone : ℕ → List Send → ℕ
sends_gone zero waiting = 0
sends_gone (suc m) [] = 0
sends_gone (suc m) (send ∷ rest) = if nat_lt (suc m) (length send.bytes) then 0 else 1 + sends_gone (suc m - length send.bytes) rest

-- the descriptors that come with the first m bytes: those of the first send come with its first byte
abbrev pub coming : ℕ → List Send → List Descriptor
coming zero waiting = []
coming (suc m) [] = []
coming (suc m) (send ∷ rest) = send.carried

-- the channel once m bytes were drawn
abbrev pub drawn_by : ℕ → Channel → Channel
drawn_by m channel = record channel { left = channel.left + sends_gone m channel.waiting; waiting = sends_after m channel.waiting }

-- what a read takes, and the channel that it leaves
pub record Pulled : Type 0 where
  pub bytes : List ℕ
  pub carried : List Descriptor
  pub rest : Channel

-- a read of m bytes, of which so many are there to be read at once
abbrev pub taken : ℕ → Channel → Pulled
taken m channel = record {
  bytes = take m (bytes_of channel.waiting);
  carried = coming m channel.waiting;
  rest = drawn_by m channel;
}

-- a read of at most n bytes takes as many of them as it can at once
abbrev pub pull : ℕ → Channel → Pulled
pull n channel = taken (min n (reach channel.waiting)) channel

-- whether nothing waits
abbrev pub is_empty : List Send → Bool
is_empty [] = true
is_empty (send ∷ rest) = false

-- Whether a read of at most n bytes can't go on: it asks for a byte, nothing waits, and something may still be sent. Where
-- nothing more can be sent it gives no byte.
abbrev pub must_wait : ℕ → Channel → Bool
must_wait n channel = not (n == 0) && (is_empty channel.waiting && not (is_hung channel))

-- whether some of these sends carries descriptors
abbrev pub some_carries : List Send → Bool
some_carries [] = false
some_carries (send ∷ rest) = not (is_none send.carried) || some_carries rest

-- whether a send with descriptors, behind the first one, bounds a read
abbrev pub is_bounded : List Send → Bool
is_bounded [] = false
is_bounded (send ∷ rest) = some_carries rest

-- Whether a read of all n bytes can't go on: fewer wait, no send with descriptors bounds them, and more may still be sent.
abbrev pub must_wait_for_all : ℕ → Channel → Bool
must_wait_for_all n channel = nat_lt (length (bytes_of channel.waiting)) n && (not (is_bounded channel.waiting) && not (is_hung channel))

-- ---- sides

-- a side once it was shut
abbrev pub shut_side : SideState → SideState
shut_side Open = Shut
shut_side Shut = Shut
shut_side Gone = Gone

-- the channel once its reader was shut, where nothing waits any more; and once its writer was, where what waits still does
abbrev pub with_reader_shut : Channel → Channel
with_reader_shut channel =
    record channel { left = channel.left + length channel.waiting; waiting = []; reader = shut_side channel.reader }

abbrev pub with_writer_shut : Channel → Channel
with_writer_shut channel = record channel { writer = shut_side channel.writer }

-- where the end that reads it has ended nothing waits in it any more
abbrev pub without_reader : Bool → Channel → Channel
without_reader true channel = record channel { left = channel.left + length channel.waiting; waiting = []; reader = Gone }
without_reader false channel = channel

-- where the end that writes it has ended what waits in it still does
abbrev pub without_writer : Bool → Channel → Channel
without_writer true channel = record channel { writer = Gone }
without_writer false channel = channel

-- the channel, as the end that reads it and the end that writes it have ended or not
abbrev pub channel_left : Bool → Bool → Channel → Channel
channel_left reader writer channel = without_writer writer (without_reader reader channel)

-- whether the side has ended with its end
abbrev pub is_gone : SideState → Bool
is_gone Open = false
is_gone Shut = false
is_gone Gone = true

-- Whether the channel is over: both of its ends have ended, and nothing waits in it, as nothing does where the end that reads it has.
abbrev pub is_over : Channel → Bool
is_over channel = is_gone channel.reader && (is_gone channel.writer && is_empty channel.waiting)

-- ---- channels that there may be

-- some byte of the send waits
abbrev pub HasByte : Send → Type 0
HasByte send = 0 < length send.bytes

-- Each send that waits has a byte; no more bytes and descriptors wait than may; and nothing waits unless the side that reads is open.
pub record IsChannel (channel : Channel) : Type 0 where
  pub whole : AllByRecursion HasByte channel.waiting
  pub bytes : length (bytes_of channel.waiting) ≤ most_bytes
  pub carried : length (carried_of channel.waiting) ≤ most_carried
  pub read : is_open channel.reader ≡ false → channel.waiting ≡ []

-- ---- what contracts say

-- the first items of the buffer are these, and its rest stays
abbrev pub IsFilled : {X : Type 0} → List X → List X → List X → Type 0
IsFilled xs old new = new ≡ xs ++ drop (length xs) old

-- A read gave n bytes and m descriptors, at the beginning of the buffers, and left the channel so.
pub record IsPulled (n m : ℕ) (out out_new : List ℕ) (fds fds_new : List Descriptor) (pulled : Pulled) (new : Channel) : Type 0 where
  pub count : n ≡ length pulled.bytes
  pub bytes : IsFilled pulled.bytes out out_new
  pub count_carried : m ≡ length pulled.carried
  pub carried : IsFilled pulled.carried fds fds_new
  pub new_is : new ≡ pulled.rest

-- why a send took nothing; without memory it comes to what one with memory would leave
abbrev pub IsWhyNotPushed : PushFault → Push → Type 0
IsWhyNotPushed Hung comes = comes ≡ hung
IsWhyNotPushed Full comes = comes ≡ full
IsWhyNotPushed NoMemory comes = (count : ℕ) × (channel : Channel) × (comes ≡ sends count channel)

-- one of the two sides, and the channel once it was shut, or has ended with its end
abbrev pub side_of : Side → Channel → SideState
side_of Reader channel = channel.reader
side_of Writer channel = channel.writer

abbrev pub shut_at : Side → Channel → Channel
shut_at Reader channel = with_reader_shut channel
shut_at Writer channel = with_writer_shut channel

abbrev pub left_at : Side → Channel → Channel
left_at Reader channel = channel_left true false channel
left_at Writer channel = channel_left false true channel

-- the descriptors that this releases
abbrev pub released_at : Side → Channel → List Descriptor
released_at Reader channel = carried_of channel.waiting
released_at Writer channel = []

-- ---- codes

abbrev send_code : Coded Send
send_code =
    code_by (List ℕ × List Descriptor) (coded× (coded_list coded_ℕ) (coded_list descriptor.the_row.coded)) (λ s. (s.bytes, s.carried))
    (λ f. record { bytes = f.0; carried = f.1 }) (λ _. refl)

abbrev pub channel_code : Coded Channel
channel_code =
    code_by (ChanKind × (ℕ × (List Send × (SideState × SideState))))
    (coded× chan_kind_row.the_row.coded
    (coded× coded_ℕ (coded× (coded_list send_code) (coded× side_state.the_row.coded side_state.the_row.coded))))
    (λ c. (c.kind, (c.left, (c.waiting, (c.reader, c.writer)))))
    (λ f. record { kind = f.0; left = f.1.0; waiting = f.1.1.0; reader = f.1.1.1.0; writer = f.1.1.1.1 }) (λ _. refl)
