-- Calls on sockets and pipes.
use Rattle.std.specs.Prelude.{ℕ, ◌==◌, ◌&&◌, Bool, true, false, List, [], ◌∷◌, ◌++◌, Option, None, Some, is_some, if◌then◌else◌}
use Rattle.std.specs.FinMap.{empty, get, insert}
use Rattle.abi_base.specs.declared.errno.Errno.TheVariants.{Again, Badf, Mfile, Notsock, Notsup, Pipe}
use Rattle.abi_base.specs.declared.rights.TheConstants.Rights.{FD_READ, FD_WRITE, SOCK_SHUTDOWN}
use Rattle.abi_base.specs.declared.flags.TheConstants.{FILETYPE_FIFO, FILETYPE_SOCKET_STREAM}
use Rattle.abi_types.specs.declared.chan_kind.ChanKind.TheVariants as chan_kind
use Rattle.abi_types.specs.declared.descriptor.Descriptor.{Descriptor}
use Rattle.abi_types.specs.declared.open_kind.OpenKind.{OpenKind}
use Rattle.abi_types.specs.declared.open_kind.OpenKind.TheVariants.{End}
use Rattle.abi_types.specs.declared.reply.Answer.TheVariants as answer
use Rattle.kernel_model.specs.Channels.{new_channel}
use Rattle.kernel_model.specs.Families.ChannelCalls.{both_parts, picked, receive_open, received_part, send_open, sent_part, shut_open}
use Rattle.kernel_model.specs.Families.DescriptorCalls.{lowest_free}
use Rattle.kernel_model.specs.Families.Numbers.{can_number, next_object, process_updates}
use Rattle.kernel_model.specs.Families.OpenMeaning.{OpenMeaning, at_descriptor, by_open}
use Rattle.kernel_model.specs.Fits.{fits}
use Rattle.kernel_model.specs.Meaning.{Meaning, answering, unbuilt_naming}
use Rattle.kernel_model.specs.Outcome.{Outcome, replies}
use Rattle.kernel_model.specs.Reply.{refused, success}
use Rattle.kernel_model.specs.Rows.{base_row}
use Rattle.kernel_model.specs.State.{ProcessState, Table, Update, set_chan, set_open, set_table}

-- a new open; no descriptor is named
abbrev pub fd_create1 : Meaning
fd_create1 = unbuilt_naming []

-- ---- fd_create2

-- what is made: channels, and two ends of them
pub data Pair : Type 0 where
  -- one channel, an end that reads it and an end that writes it
  pipe : Pair
  -- two channels, and two ends of which each reads the one and writes the other
  pair : Pair

-- how many objects that are
abbrev pub count_of : Pair → ℕ
count_of pipe = 3
count_of pair = 4

-- The channels come first, then the end that is the first result, then the other one.
abbrev pub first_end : Pair → ℕ → Option ProcessState → OpenKind
first_end pipe p own = End (Some (next_object p own 1)) None 0 chan_kind.Stream
first_end pair p own = End (Some (next_object p own 1)) (Some (next_object p own 2)) 0 chan_kind.Stream

abbrev pub second_end : Pair → ℕ → Option ProcessState → OpenKind
second_end pipe p own = End None (Some (next_object p own 1)) 0 chan_kind.Stream
second_end pair p own = End (Some (next_object p own 2)) (Some (next_object p own 1)) 0 chan_kind.Stream

abbrev pub first_number : Pair → ℕ → Option ProcessState → ℕ
first_number pipe p own = next_object p own 2
first_number pair p own = next_object p own 3

abbrev pub second_number : Pair → ℕ → Option ProcessState → ℕ
second_number pipe p own = next_object p own 3
second_number pair p own = next_object p own 4

abbrev pub channel_updates : Pair → ℕ → Option ProcessState → List Update
channel_updates pipe p own = set_chan (next_object p own 1) new_channel ∷ []
channel_updates pair p own = set_chan (next_object p own 1) new_channel ∷ set_chan (next_object p own 2) new_channel ∷ []

-- the descriptor of an end, with all rights of its type: it passes on none
abbrev pub end_descriptor : ℕ → OpenKind → Descriptor
end_descriptor number kind = record { id = number; base = record { 0 = fits kind }; inheriting = record { 0 = 0 } }

abbrev pub with_first : Pair → ℕ → Option ProcessState → Table → ℕ → Table
with_first made p own table first = insert table first (end_descriptor (first_number made p own) (first_end made p own))

abbrev pub with_both : Pair → ℕ → Option ProcessState → Table → ℕ → ℕ → Table
with_both made p own table first second =
    insert (with_first made p own table first) second (end_descriptor (second_number made p own) (second_end made p own))

abbrev pub create_updates : Pair → ℕ → Option ProcessState → Table → ℕ → ℕ → List Update
create_updates made p own table first second =
    process_updates p (count_of made) own
    ++ (channel_updates made p own
    ++ set_open (first_number made p own) (first_end made p own) ∷ set_open (second_number made p own) (second_end made p own)
    ∷ set_table p (with_both made p own table first second) ∷ [])

-- whether the process has this thread
abbrev pub has_thread : ℕ → Option ProcessState → Bool
has_thread t None = false
has_thread t (Some own) = is_some (get own.threads t)

-- Whether thread t of the process can make so many objects: it is one of its threads, and there are numbers. In a run both are so.
abbrev pub can_create : ℕ → ℕ → ℕ → Option ProcessState → Bool
can_create p t count own = has_thread t own && can_number p count own

abbrev pub create_if : Bool → Pair → ℕ → Option ProcessState → Table → ℕ → ℕ → Outcome
create_if false made p own table first second = replies (refused Again)
create_if true made p own table first second =
    record { answer = answer.Reply (success first second); updates = create_updates made p own table first second }

-- two free numbers are needed
abbrev pub create_second : Pair → ℕ → ℕ → Option ProcessState → Table → ℕ → Option ℕ → Outcome
create_second made p t own table first None = replies (refused Mfile)
create_second made p t own table first (Some second) = create_if (can_create p t (count_of made) own) made p own table first second

abbrev pub create_first : Pair → ℕ → ℕ → Option ProcessState → Table → Option ℕ → Outcome
create_first made p t own table None = replies (refused Mfile)
create_first made p t own table (Some first) = create_second made p t own table first (lowest_free (with_first made p own table first))

-- FIFO and SOCKET_STREAM are made; each other type is refused by what the call's registers show, and here again
abbrev pub made_of : ℕ → Option Pair
made_of kind = if kind == FILETYPE_FIFO then Some pipe else if kind == FILETYPE_SOCKET_STREAM then Some pair else None

abbrev pub create : Option Pair → ℕ → ℕ → Option ProcessState → Table → Outcome
create None p t own table = replies (refused Notsup)
create (Some made) p t own table = create_first made p t own table (lowest_free table)

abbrev pub numbers_of : Option Pair → ℕ
numbers_of None = 0
numbers_of (Some made) = count_of made

abbrev pub fd_create2 : ℕ → Meaning
fd_create2 kind = record (answering (Notsup ∷ Mfile ∷ Again ∷ []) (success 0 0)) {
  effect = λ constants v who table. create (made_of kind) who.pid who.tid (v.process who.pid) table;
  numbers = numbers_of (made_of kind);
  takes_memory = true;
}

-- ---- sock_send

abbrev pub sending : List ℕ → List Descriptor → OpenMeaning
sending bytes carried = record {
  effect = λ now v o. send_open v bytes carried;
  moves = λ kind. false;
  touched = sent_part;
  errors = Badf ∷ Notsock ∷ Again ∷ Pipe ∷ [];
  takes_memory = true;
  may_wait = true;
}

-- the socket, and the descriptors that are sent, with the rights that they have
abbrev pub sock_send : ℕ → List ℕ → List ℕ → Meaning
sock_send fd bytes fds = record (by_open (base_row fd FD_WRITE) (sending bytes [])) {
  named = fd ∷ fds;
  sends = fds;
  effect = λ constants v who table. at_descriptor (λ o. send_open v bytes (picked table fds)) v (get table fd);
}

-- ---- sock_recv

abbrev pub receiving : ℕ → Table → ℕ → ℕ → ℕ → OpenMeaning
receiving p table n room flags = record {
  effect = λ now v o. receive_open p table v n room flags;
  moves = λ kind. false;
  touched = received_part;
  errors = Badf ∷ Notsock ∷ Again ∷ Mfile ∷ [];
  takes_memory = true;
  may_wait = true;
}

abbrev pub sock_recv : ℕ → ℕ → ℕ → ℕ → Meaning
sock_recv fd n room flags = record (by_open (base_row fd FD_READ) (receiving 0 empty n room flags)) {
  effect = λ constants v who table. at_descriptor (λ o. receive_open who.pid table v n room flags) v (get table fd);
}

-- ---- sock_shutdown

abbrev pub shutting : ℕ → OpenMeaning
shutting how = record {
  effect = λ now v o. shut_open v how;
  moves = λ kind. false;
  touched = both_parts;
  errors = Badf ∷ Notsock ∷ [];
  takes_memory = false;
  may_wait = false;
}

abbrev pub sock_shutdown : ℕ → ℕ → Meaning
sock_shutdown fd how = by_open (base_row fd SOCK_SHUTDOWN) (shutting how)
