-- What fd_create2 makes: the statements that are the contracts of `pairs_are_made` in src/laws.rt.
use Rattle.std.specs.Prelude.{◌≡◌, ◌≢◌, ℕ, ◌+◌, [], None, Some}
use Rattle.std.specs.FinMap.{get}
use Rattle.abi_base.specs.declared.errno.Errno.TheVariants.{Success}
use Rattle.abi_base.specs.declared.rights.TheConstants.Rights.{FD_READ, FD_STAT_PUT_FLAGS, FD_WRITE, FILE_STAT_FGET, POLL_FD_READWRITE, SOCK_SHUTDOWN}
use Rattle.abi_types.specs.declared.call.Call.TheVariants.{FdCreate2}
use Rattle.abi_types.specs.declared.chan_kind.ChanKind.TheVariants.{Stream}
use Rattle.abi_types.specs.declared.constants.Constants.{Constants}
use Rattle.abi_types.specs.declared.open_kind.OpenKind.{OpenKind}
use Rattle.abi_types.specs.declared.open_kind.OpenKind.TheVariants.{End}
use Rattle.abi_types.specs.declared.reply.Answer.TheVariants as answer
use Rattle.abi_types.specs.declared.reply.Reply.{Reply}
use Rattle.abi_types.specs.declared.who.Who.{Who}
use Rattle.kernel_model.specs.Channels.{Channel, Open}
use Rattle.kernel_model.specs.Reply.{success}
use Rattle.kernel_model.specs.State.{State, Table}
use Rattle.kernel_model.specs.Step.{IsStep}
use Rattle.kernel_model.specs.Valid.{IsValid}

-- ---- rights of ends

-- Each right is a bit of its own, so that all of them are their sum.
abbrev pub reads_with : ℕ
reads_with = FD_READ.0 + FD_STAT_PUT_FLAGS.0 + FILE_STAT_FGET.0 + POLL_FD_READWRITE.0

abbrev pub writes_with : ℕ
writes_with = FD_WRITE.0 + FD_STAT_PUT_FLAGS.0 + FILE_STAT_FGET.0 + POLL_FD_READWRITE.0

abbrev pub talks_with : ℕ
talks_with = FD_READ.0 + FD_WRITE.0 + FD_STAT_PUT_FLAGS.0 + FILE_STAT_FGET.0 + POLL_FD_READWRITE.0 + SOCK_SHUTDOWN.0

-- ---- what is new

-- The channel wasn't there before, and now it is: one of bytes in order, with nothing in it, of which both sides are open.
pub record IsNewChannel (S T : State) (c : ℕ) : Type 0 where
  pub absent : get S.chans c ≡ None
  pub channel : Channel
  pub there : get T.chans c ≡ Some channel
  pub form : channel.kind ≡ Stream
  pub empty : channel.waiting ≡ []
  pub sides : (channel.reader ≡ Open) × (channel.writer ≡ Open)

-- The number has a descriptor with these base rights and no inheriting ones, and its open, which wasn't there before, is this one.
pub record IsNewEnd (S T : State) (table : Table) (fd : ℕ) (base : ℕ) (kind : OpenKind) : Type 0 where
  pub id : ℕ
  pub held : get table fd ≡ Some (record { id = id; base = record { 0 = base }; inheriting = record { 0 = 0 } })
  pub absent : get S.opens id ≡ None
  pub opened : get T.opens id ≡ Some kind

-- The call answers two numbers that were free, and its process has nothing else in its table than before.
pub record GivesTwo (S : State) (who : Who) (reply : Reply) (T : State) : Type 0 where
  pub before : Table
  pub after : Table
  pub had : get S.tables who.pid ≡ Some before
  pub has : get T.tables who.pid ≡ Some after
  pub answers : reply ≡ success reply.r1 reply.r2
  pub apart : reply.r1 ≢ reply.r2
  pub free : (get before reply.r1 ≡ None) × (get before reply.r2 ≡ None)
  pub others : (n : ℕ) → n ≢ reply.r1 → n ≢ reply.r2 → get after n ≡ get before n

-- ---- pipes

-- Of a pipe the first result reads the channel, and the second one writes it.
pub record IsPipe (S : State) (who : Who) (reply : Reply) (T : State) : Type 0 where
  pub two : GivesTwo S who reply T
  pub c : ℕ
  pub channel : IsNewChannel S T c
  pub reads : IsNewEnd S T two.after reply.r1 reads_with (End (Some c) None 0 Stream)
  pub writes : IsNewEnd S T two.after reply.r2 writes_with (End None (Some c) 0 Stream)

-- An fd_create2 of FIFO (48) that succeeds makes one.
abbrev pub PipesAreJoined : Type 0
PipesAreJoined =
    (constants : Constants) (S : State) (who : Who) (reply : Reply) (T : State) → IsValid S
    → IsStep constants S who (FdCreate2 48) (answer.Reply reply) T → reply.errno ≡ Success → IsPipe S who reply T

-- ---- pairs of streams

-- Of a pair of streams each end reads a channel that the other one writes, and the channels are two.
pub record IsStreamPair (S : State) (who : Who) (reply : Reply) (T : State) : Type 0 where
  pub two : GivesTwo S who reply T
  pub c : ℕ
  pub e : ℕ
  pub distinct : c ≢ e
  pub channels : IsNewChannel S T c × IsNewChannel S T e
  pub first : IsNewEnd S T two.after reply.r1 talks_with (End (Some c) (Some e) 0 Stream)
  pub second : IsNewEnd S T two.after reply.r2 talks_with (End (Some e) (Some c) 0 Stream)

-- An fd_create2 of SOCKET_STREAM (130) that succeeds makes one.
abbrev pub PairsAreJoined : Type 0
PairsAreJoined =
    (constants : Constants) (S : State) (who : Who) (reply : Reply) (T : State) → IsValid S
    → IsStep constants S who (FdCreate2 130) (answer.Reply reply) T → reply.errno ≡ Success → IsStreamPair S who reply T
