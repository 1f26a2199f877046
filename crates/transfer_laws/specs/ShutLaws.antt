-- What sock_shutdown shuts: the statement that is the contract of `sockets_are_shut_as_asked`. It speaks of the state before the release, by which
-- what nothing holds any more ends.
use Rattle.std.specs.Prelude.{◌≡◌, ◌≢◌, ℕ, ◌+◌, bit_and, [], length, Some}
use Rattle.std.specs.FinMap.{get, insert}
use Rattle.abi_types.specs.declared.call.Call.TheVariants.{SockShutdown}
use Rattle.abi_types.specs.declared.constants.Constants.{Constants}
use Rattle.abi_types.specs.declared.reply.Answer.{Answer}
use Rattle.abi_types.specs.declared.reply.Answer.TheVariants as answer
use Rattle.abi_types.specs.declared.who.Who.{Who}
use Rattle.kernel_model.specs.ChannelLaws.{HasEnd}
use Rattle.kernel_model.specs.Channels.{Channel, Gone, Shut, SideState}
use Rattle.kernel_model.specs.Reply.{success}
use Rattle.kernel_model.specs.State.{State}
use Rattle.kernel_model.specs.Step.{step_answer, unreleased}
use Rattle.transfer_laws.specs.TransferLaws.{later, with_channel}

-- the side is shut, unless it is gone with its end
pub record IsShut (was now : SideState) : Type 0 where
  pub shut : was ≢ Gone → now ≡ Shut
  pub gone : was ≡ Gone → now ≡ Gone

-- The channel's reader is shut: all that waited has left, and the writer's side stays.
pub record IsReaderShut (was now : Channel) : Type 0 where
  pub kind : now.kind ≡ was.kind
  pub empty : now.waiting ≡ []
  pub left : now.left ≡ was.left + length was.waiting
  pub reader : IsShut was.reader now.reader
  pub writer : now.writer ≡ was.writer

-- The channel's writer is shut: what waits still does, and the reader's side stays.
pub record IsWriterShut (was now : Channel) : Type 0 where
  pub kind : now.kind ≡ was.kind
  pub waits : now.waiting ≡ was.waiting
  pub left : now.left ≡ was.left
  pub reader : now.reader ≡ was.reader
  pub writer : IsShut was.writer now.writer

-- the answer is that it is done
abbrev pub IsDone : Answer → Type 0
IsDone given = given ≡ answer.Reply (success 0 0)

-- A sock_shutdown with RD (1) shuts the reader of the channel that the socket reads, with WR (2) the writer of the channel that it writes, and with
-- both each of them; and nothing else changes.
pub record ShutsAsAsked : Type 0 where
  pub reads : (constants : Constants) (S : State) (who : Who) (fd how c w mode : ℕ) (channel : Channel)
      → HasEnd S who (SockShutdown fd how) fd (Some c) (Some w) mode → get S.chans c ≡ Some channel → bit_and how 1 ≢ 0 → bit_and how 2 ≡ 0
      → IsDone (step_answer constants S who (SockShutdown fd how))
      × ((shut : Channel) × IsReaderShut channel shut × (unreleased constants S who (SockShutdown fd how) ≡ with_channel S c shut))
  pub writes : (constants : Constants) (S : State) (who : Who) (fd how c w mode : ℕ) (channel : Channel)
      → HasEnd S who (SockShutdown fd how) fd (Some c) (Some w) mode → get S.chans w ≡ Some channel → bit_and how 1 ≡ 0 → bit_and how 2 ≢ 0
      → IsDone (step_answer constants S who (SockShutdown fd how))
      × ((shut : Channel) × IsWriterShut channel shut × (unreleased constants S who (SockShutdown fd how) ≡ with_channel S w shut))
  pub both : (constants : Constants) (S : State) (who : Who) (fd how c w mode : ℕ) (read written : Channel)
      → HasEnd S who (SockShutdown fd how) fd (Some c) (Some w) mode → get S.chans c ≡ Some read → get S.chans w ≡ Some written
      → bit_and how 1 ≢ 0 → bit_and how 2 ≢ 0
      → IsDone (step_answer constants S who (SockShutdown fd how))
      × ((first second : Channel) × IsReaderShut read first × IsWriterShut written second
      × (unreleased constants S who (SockShutdown fd how) ≡ record (later S) { chans = insert (insert S.chans c first) w second }))
