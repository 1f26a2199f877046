-- What calls on ends of channels do to the channels, to a process's descriptors and to the counts of what is held.
use Rattle.std.specs.Prelude.{◌≡◌, ⊤, ℕ, ◌+◌, ◌^◌, ◌≤◌, true, List, [], ◌∷◌, Some, IsSome}
use Rattle.std.specs.List.{AllByRecursion}
use Rattle.std.specs.Ordering.{nat_cmp}
use Rattle.std.specs.FinMap.{FinMap, get, insert, retain_keys}
use Rattle.abi_base.specs.declared.errno.Errno.TheVariants.{Badf}
use Rattle.abi_types.specs.declared.call.Call.{Call}
use Rattle.abi_types.specs.declared.call.Call.TheVariants as call
use Rattle.abi_types.specs.declared.open_kind.OpenKind.{OpenKind}
use Rattle.abi_types.specs.declared.open_kind.OpenKind.TheVariants.{End}
use Rattle.maps.specs.Closure.{changed}
use Rattle.maps.specs.Maps.{number, total}
use Rattle.kernel_model.specs.Channels.{Channel, channel_left}
use Rattle.kernel_model.specs.Families.ChannelCalls.{picked, read_end, receive_open, send_on, send_open, shut_open, written_reply}
use Rattle.kernel_model.specs.Outcome.{Outcome, replies}
use Rattle.kernel_model.specs.Release.{carried_in, count_in, is_channel_kept, is_reader, is_writer}
use Rattle.kernel_model.specs.Reply.{refused}
use Rattle.kernel_model.specs.State.{Table, Update, no_state, set_chan, set_table}
use Rattle.kernel_model.specs.View.{View, whole}

-- the channels of a kernel by number
abbrev pub Channels : Type 0
Channels = FinMap nat_cmp Channel

-- what is seen where there is nothing but channels
abbrev pub seen_in : Channels → View
seen_in channels = whole (record no_state { chans = channels })

-- ---- what a call leaves

-- the channels after these updates, and the table
abbrev pub channels_after : List Update → Channels → Channels
channels_after [] channels = channels
channels_after (set_chan c channel ∷ updates) channels = channels_after updates (insert channels c channel)
channels_after (_ ∷ updates) channels = channels_after updates channels

abbrev pub table_after : List Update → Table → Table
table_after [] table = table
table_after (set_table p new ∷ updates) table = table_after updates new
table_after (_ ∷ updates) table = table_after updates table

-- what fd_read and fd_write come to on an end
abbrev pub end_outcome : Channels → OpenKind → Call → Outcome
end_outcome channels (End reads writes flags form) (call.FdRead fd n) = read_end (seen_in channels) n flags reads
end_outcome channels (End reads writes flags form) (call.FdWrite fd bytes) = send_on written_reply (seen_in channels) flags bytes [] writes
end_outcome channels kind _ = replies (refused Badf)

-- what calls on sockets come to, for process p
abbrev pub socket_outcome : ℕ → Table → Channels → OpenKind → Call → Outcome
socket_outcome p table channels kind (call.SockRecv fd n room flags) = receive_open p table (seen_in channels) n room flags (Some kind)
socket_outcome p table channels kind (call.SockSend fd bytes fds flags) = send_open (seen_in channels) bytes (picked table fds) (Some kind)
socket_outcome p table channels kind (call.SockShutdown fd how) = shut_open (seen_in channels) how (Some kind)
socket_outcome p table channels kind _ = replies (refused Badf)

-- the channels once an end has ended: it is gone from them, and those that are over are gone themselves
abbrev pub channels_left : OpenKind → Channels → Channels
channels_left kind channels =
    let left = changed (λ c. channel_left (is_reader c (Some kind)) (is_writer c (Some kind))) channels in
    retain_keys left (λ c. is_channel_kept (get left c))

-- no channel is over
abbrev pub AllGoOn : Channels → Type 0
AllGoOn channels = (c : ℕ) → is_channel_kept (get channels c) ≡ true

-- ---- counts

-- how many of the descriptors that wait in channels name the open
abbrev pub carriers_in : ℕ → Channels → ℕ
carriers_in o channels = total (carried_in o) channels

-- the counts of what is held have changed as the carriers have, and as carriers and holders in the table have
abbrev pub AreCarried : Channels → Channels → FinMap nat_cmp ℕ → FinMap nat_cmp ℕ → Type 0
AreCarried old new before after = (o : ℕ) → number (get after o) + carriers_in o old ≡ number (get before o) + carriers_in o new

abbrev pub AreMoved : Table → Channels → Table → Channels → FinMap nat_cmp ℕ → FinMap nat_cmp ℕ → Type 0
AreMoved old old_channels new new_channels before after =
    (o : ℕ) → number (get after o) + (count_in o old + carriers_in o old_channels) ≡ number (get before o) + (count_in o new + carriers_in o new_channels)

-- no more descriptors name an open than this as they wait in channels
abbrev pub most_carriers : ℕ
most_carriers = 2 ^ 62

abbrev pub AreFew : Channels → Type 0
AreFew channels = (o : ℕ) → carriers_in o channels ≤ most_carriers

-- the table has each number whose descriptor the call sends
abbrev pub HasAllSent : Table → Call → Type 0
HasAllSent table (call.SockSend fd bytes fds flags) = AllByRecursion (λ (fd : ℕ). IsSome (get table fd)) fds
HasAllSent table _ = ⊤
