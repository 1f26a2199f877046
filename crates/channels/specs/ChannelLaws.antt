-- What the rules on channels say in other words.
use Rattle.std.specs.Prelude.{◌≡◌, ◌≢◌, ℕ, zero, suc, ◌+◌, ◌<◌, ◌≤◌, List, [], ◌∷◌, ◌++◌, length, take, drop}
use Rattle.abi_types.specs.declared.descriptor.Descriptor.{Descriptor}
use Rattle.channels.specs.declared.side.Side.{Side}
use Rattle.channels.specs.Channels.{Send, Channel, IsChannel, Push, hung, full, sends, new_channel, bytes_of, carried_of, push, pushed, reach, pull, drawn_by, shut_at, left_at}

-- ---- one read

-- No read goes on to a send that carries descriptors, unless it begins there.
abbrev pub StopsBeforeCarried : Type 0
StopsBeforeCarried =
    (channel : Channel) (first : Send) (front back : List Send) (send : Send) → channel.waiting ≡ first ∷ (front ++ send ∷ back) → send.carried ≢ []
    → reach channel.waiting ≤ length (bytes_of (first ∷ front))

-- Nothing else bounds a read: where the sends behind the first carry no descriptors it can take all bytes that wait.
abbrev pub TakesAllPlain : Type 0
TakesAllPlain =
    (channel : Channel) (first : Send) (front : List Send) → channel.waiting ≡ first ∷ front → carried_of front ≡ []
    → reach channel.waiting ≡ length (bytes_of channel.waiting)

-- What a read of n bytes leaves: of the sends that waited the first have left, with all their bytes, and of the next one a part was drawn
-- that isn't all of it. The others stay as they were.
abbrev pub IsPart : ℕ → List Send → Type 0
IsPart part [] = part ≡ 0
IsPart part (send ∷ rest) = part < length send.bytes

-- of a send the first n bytes were drawn: with the first of them it gave what it carried
abbrev pub rest_of : ℕ → Send → Send
rest_of zero send = send
rest_of (suc n) send = record { bytes = drop (suc n) send.bytes; carried = [] }

abbrev pub begun_at : ℕ → List Send → List Send
begun_at part [] = []
begun_at part (send ∷ rest) = rest_of part send ∷ rest

pub record LeavesRest (n : ℕ) (old new : Channel) : Type 0 where
  pub gone : List Send
  pub stay : List Send
  pub part : ℕ
  pub was : old.waiting ≡ gone ++ stay
  pub bytes : n ≡ length (bytes_of gone) + part
  pub less : IsPart part stay
  pub is : new.waiting ≡ begun_at part stay
  pub left : new.left ≡ old.left + length gone
  pub sides : (new.reader ≡ old.reader) × (new.writer ≡ old.writer)

abbrev pub ReadsLeaveRest : Type 0
ReadsLeaveRest = (n : ℕ) (channel : Channel) → IsChannel channel → n ≤ length (bytes_of channel.waiting) → LeavesRest n channel (drawn_by n channel)

-- ---- all writes and reads

-- what is done to a channel: a write of a byte and those behind it, with descriptors; or a read of at most as many bytes
pub data Deed : Type 0 where
  writes : ℕ → List ℕ → List Descriptor → Deed
  reads : ℕ → Deed

-- the channel that a write leaves, and what of the bytes and descriptors it puts in
abbrev pub left_by : Push → Channel → Channel
left_by hung channel = channel
left_by full channel = channel
left_by (sends count new) channel = new

abbrev pub bytes_by : Push → List ℕ → List ℕ
bytes_by hung bytes = []
bytes_by full bytes = []
bytes_by (sends count new) bytes = take count bytes

abbrev pub carried_by : Push → List Descriptor → List Descriptor
carried_by hung carried = []
carried_by full carried = []
carried_by (sends count new) carried = carried

-- the channel after one and after all, in their order
abbrev pub after : Deed → Channel → Channel
after (writes first behind carried) channel = left_by (push (first ∷ behind) carried channel) channel
after (reads asked) channel = (pull asked channel).rest

abbrev pub all_after : List Deed → Channel → Channel
all_after [] channel = channel
all_after (deed ∷ deeds) channel = all_after deeds (after deed channel)

-- the bytes and the descriptors that one puts in, and those that it takes out
abbrev pub bytes_in : Deed → Channel → List ℕ
bytes_in (writes first behind carried) channel = bytes_by (push (first ∷ behind) carried channel) (first ∷ behind)
bytes_in (reads asked) channel = []

abbrev pub carried_in : Deed → Channel → List Descriptor
carried_in (writes first behind carried) channel = carried_by (push (first ∷ behind) carried channel) carried
carried_in (reads asked) channel = []

abbrev pub bytes_out : Deed → Channel → List ℕ
bytes_out (writes first behind carried) channel = []
bytes_out (reads asked) channel = (pull asked channel).bytes

abbrev pub carried_out : Deed → Channel → List Descriptor
carried_out (writes first behind carried) channel = []
carried_out (reads asked) channel = (pull asked channel).carried

-- what all of them put in or take out, one after another
abbrev pub along : {X : Type 0} → (Deed → Channel → List X) → List Deed → Channel → List X
along each [] channel = []
along each (deed ∷ deeds) channel = each deed channel ++ along each deeds (after deed channel)

-- What comes out is what went in, in its order: with what waits at the end it is what waited and was put in. So nothing is lost and
-- nothing comes twice.
abbrev pub BytesComeOnce : Type 0
BytesComeOnce =
    (deeds : List Deed) (channel : Channel)
    → bytes_of channel.waiting ++ along bytes_in deeds channel ≡ along bytes_out deeds channel ++ bytes_of (all_after deeds channel).waiting

abbrev pub CarriedComeOnce : Type 0
CarriedComeOnce =
    (deeds : List Deed) (channel : Channel)
    → carried_of channel.waiting ++ along carried_in deeds channel ≡ along carried_out deeds channel ++ carried_of (all_after deeds channel).waiting

-- ---- what always holds

-- A channel is one after all writes and reads, so never more waits in it than may; and also when a side was shut or its end has ended.
abbrev pub NewIsChannel : Type 0
NewIsChannel = IsChannel new_channel

abbrev pub StaysChannel : Type 0
StaysChannel = (deeds : List Deed) (channel : Channel) → IsChannel channel → IsChannel (all_after deeds channel)

abbrev pub ShutIsChannel : Type 0
ShutIsChannel = (which : Side) (channel : Channel) → IsChannel channel → IsChannel (shut_at which channel) × IsChannel (left_at which channel)

-- The number of sends so far, those that left and those that wait: a write that is taken adds one, and reads and the end of a side leave it.
abbrev pub sends_so_far : Channel → ℕ
sends_so_far channel = channel.left + length channel.waiting

abbrev pub SendsAddOne : Type 0
SendsAddOne = (bytes : List ℕ) (carried : List Descriptor) (channel : Channel) → sends_so_far (pushed bytes carried channel) ≡ sends_so_far channel + 1

abbrev pub ReadsKeepCount : Type 0
ReadsKeepCount = (n : ℕ) (channel : Channel) → sends_so_far (drawn_by n channel) ≡ sends_so_far channel

abbrev pub ShutKeepsCount : Type 0
ShutKeepsCount =
    (which : Side) (channel : Channel)
    → (sends_so_far (shut_at which channel) ≡ sends_so_far channel) × (sends_so_far (left_at which channel) ≡ sends_so_far channel)
