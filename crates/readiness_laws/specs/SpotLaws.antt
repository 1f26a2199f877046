-- At which spots threads stand, call by call: the statement that is the contract of `spots_are_few`.
use Rattle.std.specs.Prelude.{◌≡◌, ℕ, true, List, [], ◌∷◌, ◌++◌, Option, Some}
use Rattle.std.specs.FinMap.{get}
use Rattle.abi_structures.specs.declared.events.What.{What}
use Rattle.abi_structures.specs.declared.events.What.TheVariants as what
use Rattle.abi_types.specs.declared.call.Call.{Call}
use Rattle.abi_types.specs.declared.call.Call.TheVariants.{FdRead, FdWrite, Poll, SockRecv, SockSend}
use Rattle.abi_types.specs.declared.chan_kind.ChanKind.{ChanKind}
use Rattle.abi_types.specs.declared.descriptor.Descriptor.{Descriptor}
use Rattle.abi_types.specs.declared.open_kind.OpenKind.{OpenKind}
use Rattle.abi_types.specs.declared.open_kind.OpenKind.TheVariants.{End, Process}
use Rattle.abi_types.specs.declared.thread.Stage.{Stage}
use Rattle.abi_types.specs.declared.thread.Thread.TheVariants.{Runnable, Waits}
use Rattle.kernel_model.specs.Calls.{meaning_of}
use Rattle.kernel_model.specs.State.{State, Table, thread_of}
use Rattle.readiness_laws.specs.Spots.{Spot, moment_spot, on_channel, on_end, on_flags, on_open, on_table, on_thread, spots}

-- The thread waits in the call, until this moment, and its process has a descriptor under this number, which names the open o that is this.
pub record WaitsOn (S : State) (p t : ℕ) (call : Call) (until : Option ℕ) (fd o : ℕ) (kind : OpenKind) : Type 0 where
  pub since : ℕ
  pub stage : Stage
  pub waits : thread_of S p t ≡ Some (Waits call since until stage)
  pub table : Table
  pub own : get S.tables p ≡ Some table
  pub d : Descriptor
  pub there : get table fd ≡ Some d
  pub names : d.id ≡ o
  pub opened : get S.opens o ≡ Some kind

-- a poll of this alone
abbrev pub poll_of : ℕ → What → Call
poll_of userdata awaited = Poll (record { userdata = userdata; what = awaited } ∷ [])

-- the spots of a thread that waits until this moment, and for this
abbrev pub standing : ℕ → ℕ → Option ℕ → List Spot → List Spot
standing p t until those = on_thread p t ∷ moment_spot until ++ those

-- A thread that waits for bytes to come stands at the channel that its end reads and at no other, one that waits for room at the one that its end writes, and
-- one that waits for the end of a process at that; each at its process's descriptors and at the open, and unless it polls at the open's flags. One
-- that waits for a lock or at a condition variable stands at nothing but itself and the moment until which it waits, and one that runs at itself.
pub record SpotsAreFew : Type 0 where
  pub reads : (S : State) (p t fd n o c flags : ℕ) (until writes : Option ℕ) (form : ChanKind)
      → WaitsOn S p t (FdRead fd n) until fd o (End (Some c) writes flags form)
      → spots S p t ≡ standing p t until (on_table p ∷ on_open o ∷ on_flags o ∷ on_channel c ∷ [])
  pub writes : (S : State) (p t fd o c flags : ℕ) (bytes : List ℕ) (until reads : Option ℕ) (form : ChanKind)
      → WaitsOn S p t (FdWrite fd bytes) until fd o (End reads (Some c) flags form)
      → spots S p t ≡ standing p t until (on_table p ∷ on_open o ∷ on_flags o ∷ on_channel c ∷ [])
  pub receives : (S : State) (p t fd n room mode o c flags : ℕ) (until writes : Option ℕ) (form : ChanKind)
      → WaitsOn S p t (SockRecv fd n room mode) until fd o (End (Some c) writes flags form)
      → spots S p t ≡ standing p t until (on_table p ∷ on_open o ∷ on_flags o ∷ on_channel c ∷ [])
  pub sends : (S : State) (p t fd mode o c flags : ℕ) (bytes fds : List ℕ) (until reads : Option ℕ) (form : ChanKind)
      → WaitsOn S p t (SockSend fd bytes fds mode) until fd o (End reads (Some c) flags form)
      → spots S p t ≡ standing p t until (on_table p ∷ on_open o ∷ on_flags o ∷ on_channel c ∷ [])
  pub polls_read : (S : State) (p t userdata fd o c flags : ℕ) (until writes : Option ℕ) (form : ChanKind)
      → WaitsOn S p t (poll_of userdata (what.FdRead fd)) until fd o (End (Some c) writes flags form)
      → spots S p t ≡ standing p t until (on_table p ∷ on_open o ∷ on_channel c ∷ [])
  pub polls_write : (S : State) (p t userdata fd o c flags : ℕ) (until reads : Option ℕ) (form : ChanKind)
      → WaitsOn S p t (poll_of userdata (what.FdWrite fd)) until fd o (End reads (Some c) flags form)
      → spots S p t ≡ standing p t until (on_table p ∷ on_open o ∷ on_channel c ∷ [])
  pub polls_end : (S : State) (p t userdata fd o q object : ℕ) (until : Option ℕ)
      → WaitsOn S p t (poll_of userdata (what.ProcTerminate fd)) until fd o (Process q object)
      → spots S p t ≡ standing p t until (on_table p ∷ on_open o ∷ on_end q ∷ [])
  pub locks : (S : State) (p t since : ℕ) (call : Call) (until : Option ℕ) (stage : Stage) → (meaning_of call).by_stage ≡ true
      → thread_of S p t ≡ Some (Waits call since until stage) → spots S p t ≡ standing p t until []
  pub runs : (S : State) (p t : ℕ) → thread_of S p t ≡ Some Runnable → spots S p t ≡ on_thread p t ∷ []
