-- What calls on ends, standard streams and the offsets of files may change: the statement that is the contract of `touches_are_exact`.
use Rattle.std.specs.Prelude.{◌≡◌, ⊤, ℕ, false, List, [], ◌∷◌, Option, None, Some}
use Rattle.std.specs.FinMap.{get}
use Rattle.abi_types.specs.declared.call.Call.{Call}
use Rattle.abi_types.specs.declared.call.Call.TheVariants.{FdRead, FdSeek, FdWrite, SockRecv, SockSend, SockShutdown}
use Rattle.abi_types.specs.declared.descriptor.Descriptor.{Descriptor}
use Rattle.abi_types.specs.declared.open_kind.OpenKind.TheVariants.{File}
use Rattle.abi_types.specs.declared.stream.Stream.{Stream}
use Rattle.abi_types.specs.declared.who.Who.{Who}
use Rattle.kernel_model.specs.Calls.{refusal}
use Rattle.kernel_model.specs.ChannelLaws.{HasEnd}
use Rattle.kernel_model.specs.State.{State, Table, Part, at_chan, at_clock, at_node, at_open, at_proc, at_status, at_term, has_part}
use Rattle.kernel_model.specs.Step.{touch}
use Rattle.transfer_laws.specs.StreamLaws.{HasStream}

-- The call may change the clock, what is its process's own and its status, and these parts, and no other.
abbrev pub Touches : State → Who → Call → List Part → Type 0
Touches S who call parts =
    (part : Part) → has_part (touch S who call) part ≡ has_part (at_clock ∷ at_proc who.pid ∷ at_status who.pid ∷ parts) part

-- A call on a socket may change the channel that the socket reads, or that it writes, or both, as it receives, sends or shuts; and never an open.
abbrev pub IsOnSocket : Call → Type 0
IsOnSocket (SockRecv fd n room flags) = ⊤
IsOnSocket (SockSend fd bytes fds flags) = ⊤
IsOnSocket (SockShutdown fd how) = ⊤
IsOnSocket other = ⊥

pub record SocketsTouch : Type 0 where
  pub receives : (S : State) (who : Who) (fd n room flags c mode : ℕ) (writes : Option ℕ)
      → HasEnd S who (SockRecv fd n room flags) fd (Some c) writes mode → Touches S who (SockRecv fd n room flags) (at_chan c ∷ [])
  pub sends : (S : State) (who : Who) (fd : ℕ) (bytes fds : List ℕ) (flags c mode : ℕ) (reads : Option ℕ)
      → HasEnd S who (SockSend fd bytes fds flags) fd reads (Some c) mode → Touches S who (SockSend fd bytes fds flags) (at_chan c ∷ [])
  pub shuts : (S : State) (who : Who) (fd how c w mode : ℕ) → HasEnd S who (SockShutdown fd how) fd (Some c) (Some w) mode
      → Touches S who (SockShutdown fd how) (at_chan c ∷ at_chan w ∷ [])
  pub no_open : (S : State) (who : Who) (call : Call) (o : ℕ) → IsOnSocket call → has_part (touch S who call) (at_open o) ≡ false

-- The process has a descriptor under this number that the call may use, and it names the open o, which is of this file.
pub record HasFile (S : State) (who : Who) (call : Call) (fd o node : ℕ) : Type 0 where
  pub table : Table
  pub own : get S.tables who.pid ≡ Some table
  pub allowed : refusal table call ≡ None
  pub d : Descriptor
  pub there : get table fd ≡ Some d
  pub names : d.id ≡ o
  pub offset : ℕ
  pub flags : ℕ
  pub opened : get S.opens o ≡ Some (File node offset flags)

-- An fd_read may change the channel that an end reads, a standard stream, or of a file the open alone; an fd_write the channel that an end writes, a
-- standard stream, or a file with its open; and an fd_seek the open.
pub record StreamsTouch : Type 0 where
  pub reads_end : (S : State) (who : Who) (fd n c mode : ℕ) (writes : Option ℕ) → HasEnd S who (FdRead fd n) fd (Some c) writes mode
      → Touches S who (FdRead fd n) (at_chan c ∷ [])
  pub reads_stream : (S : State) (who : Who) (fd n which : ℕ) (stream : Stream) → HasStream S who (FdRead fd n) fd which stream
      → Touches S who (FdRead fd n) (at_term which ∷ [])
  pub reads_file : (S : State) (who : Who) (fd n o node : ℕ) → HasFile S who (FdRead fd n) fd o node → Touches S who (FdRead fd n) (at_open o ∷ [])
  pub writes_end : (S : State) (who : Who) (fd c mode : ℕ) (bytes : List ℕ) (reads : Option ℕ) → HasEnd S who (FdWrite fd bytes) fd reads (Some c) mode
      → Touches S who (FdWrite fd bytes) (at_chan c ∷ [])
  pub writes_stream : (S : State) (who : Who) (fd which : ℕ) (bytes : List ℕ) (stream : Stream) → HasStream S who (FdWrite fd bytes) fd which stream
      → Touches S who (FdWrite fd bytes) (at_term which ∷ [])
  pub writes_file : (S : State) (who : Who) (fd o node : ℕ) (bytes : List ℕ) → HasFile S who (FdWrite fd bytes) fd o node
      → Touches S who (FdWrite fd bytes) (at_open o ∷ at_node node ∷ [])
  pub seeks : (S : State) (who : Who) (fd bits whence o node : ℕ) → HasFile S who (FdSeek fd bits whence) fd o node
      → Touches S who (FdSeek fd bits whence) (at_open o ∷ [])
