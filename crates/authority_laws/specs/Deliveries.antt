-- Which entry sent the descriptors that a receive installs.
use Rattle.std.specs.Prelude.{◌≡◌, ◌⊎◌, ◌+◌, ℕ, suc, List, [], ◌∷◌, ◌++◌, length, Option, None, Some, slice_get}
use Rattle.std.specs.FinMap.{get}
use Rattle.abi_types.specs.declared.chan_kind.ChanKind.{ChanKind}
use Rattle.abi_types.specs.declared.call.Call.{Call}
use Rattle.abi_types.specs.declared.call.Call.TheVariants.{SockRecv, SockSend}
use Rattle.abi_types.specs.declared.descriptor.Descriptor.{Descriptor}
use Rattle.abi_types.specs.declared.open_kind.OpenKind.TheVariants.{End}
use Rattle.abi_types.specs.declared.reply.Reply.{Reply}
use Rattle.abi_types.specs.declared.status.Status.TheVariants.{Live}
use Rattle.run_types.specs.declared.history.Entry.{Entry}
use Rattle.run_types.specs.declared.launch.Launch.{Launch}
use Rattle.kernel_model.specs.ChannelLaws.{GoesInto, IsPut}
use Rattle.kernel_model.specs.Channels.{Channel, Send}
use Rattle.run_model.specs.World.{world}
use Rattle.authority_laws.specs.Ledger.{installed_fds, picked}
use Rattle.authority_laws.specs.Recorded.{Succeeds, held_after, held_before, ledger}

-- The entry behind these is a sock_send of a byte at least that succeeded. By what its process held before it the socket's open writes
-- channel c, and this is what stood under the numbers that it lists, in their order.
pub record SendsTo (launch : Launch) (early : List Entry) (sender : Entry) (c : ℕ) (carried : List Descriptor) : Type 0 where
  pub fd : ℕ
  pub bytes : List ℕ
  pub fds : List ℕ
  pub flags : ℕ
  pub reply : Reply
  pub succeeds : Succeeds sender (SockSend fd bytes fds flags) reply
  pub into : GoesInto (held_before launch early sender) (world launch early).state.opens fd bytes c
  pub listed : carried ≡ picked (held_before launch early sender) fds

-- One of these entries put into channel c the send that is number j there, the first being 1: so many less one had left the channel before it,
-- or waited in it. The send carried this.
pub record IsSend (launch : Launch) (history : List Entry) (c j : ℕ) (carried : List Descriptor) : Type 0 where
  pub early : List Entry
  pub sender : Entry
  pub between : List Entry
  pub is : history ≡ early ++ sender ∷ between
  pub sends : SendsTo launch early sender c carried
  pub channel : Channel
  pub there : get (world launch early).state.chans c ≡ Some channel
  pub number : j ≡ suc (channel.left + length channel.waiting)

-- Before the entry the process held a socket under fd that reads channel c. What the entry installed under n is number k, from 0 on, of
-- what one send carried: the first that had not left channel c before the entry. It has the open and the rights that it had where it was
-- sent, and stands under n, if the process is live after the entry.
pub record IsDelivered (launch : Launch) (front : List Entry) (e : Entry) (fd k n : ℕ) : Type 0 where
  pub x : Descriptor
  pub socket : held_before launch front e fd ≡ Some x
  pub c : ℕ
  pub writes : Option ℕ
  pub mode : ℕ
  pub form : ChanKind
  pub opened : get (world launch front).state.opens x.id ≡ Some (End (Some c) writes mode form)
  pub channel : Channel
  pub there : get (world launch front).state.chans c ≡ Some channel
  pub carried : List Descriptor
  pub sent : IsSend launch front c (suc channel.left) carried
  pub d : Descriptor
  pub place : slice_get carried k ≡ Some d
  pub held : get (world launch (front ++ e ∷ [])).state.statuses e.pid ≡ Some Live → held_after launch front e n ≡ Some d

-- So it is with each number that the reply to a sock_recv lists which succeeded.
abbrev pub DeliversAt : Launch → List Entry → Entry → Type 0
DeliversAt launch front e =
    (fd length room flags : ℕ) (reply : Reply) → Succeeds e (SockRecv fd length room flags) reply → (k n : ℕ)
    → slice_get (installed_fds reply.payload) k ≡ Some n → IsDelivered launch front e fd k n

-- ---- the numbers of sends

-- The entry behind these is an fd_write or a sock_send of a byte at least that succeeded, and by what its process held before it the
-- descriptor's open writes channel c.
pub record PutsInto (launch : Launch) (front : List Entry) (e : Entry) (c : ℕ) : Type 0 where
  pub call : Call
  pub fd : ℕ
  pub bytes : List ℕ
  pub put : IsPut call fd bytes
  pub reply : Reply
  pub succeeds : Succeeds e call reply
  pub into : GoesInto (held_before launch front e) (world launch front).state.opens fd bytes c

-- The sends of a channel that is there before and after an entry are one more after it where it put one into the channel, and else as many.
abbrev pub CountsMore : Launch → List Entry → Entry → Type 0
CountsMore launch front e =
    (c : ℕ) (was now : Channel) → get (world launch front).state.chans c ≡ Some was → get (world launch (front ++ e ∷ [])).state.chans c ≡ Some now
    → (PutsInto launch front e c × (now.left + length now.waiting ≡ suc (was.left + length was.waiting)))
    ⊎ ((¬ PutsInto launch front e c) × (now.left + length now.waiting ≡ was.left + length was.waiting))

-- A channel that comes with an entry has had none.
abbrev pub BeginsCount : Launch → List Entry → Entry → Type 0
BeginsCount launch front e =
    (c : ℕ) (now : Channel) → get (world launch front).state.chans c ≡ None → get (world launch (front ++ e ∷ [])).state.chans c ≡ Some now
    → now.left + length now.waiting ≡ 0

-- So the numbers of a channel's sends count, from its beginning on, the entries that put something into it.
abbrev pub CountsAt : Launch → List Entry → Entry → Type 0
CountsAt launch front e = CountsMore launch front e × BeginsCount launch front e

-- ---- what the ledger says of sends

-- Each send that waits in a channel after these entries carries what the ledger says, under its number, that it carried when it was sent; or it
-- carries nothing.
abbrev pub WaitsAsNoted : Launch → List Entry → Type 0
WaitsAsNoted launch history =
    (c k : ℕ) (channel : Channel) (send : Send) → get (world launch history).state.chans c ≡ Some channel → slice_get channel.waiting k ≡ Some send
    → (send.carried ≡ []) ⊎ ((ledger launch history).sent c (suc (channel.left + k)) ≡ send.carried)
