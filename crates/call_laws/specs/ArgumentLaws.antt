-- Which descriptors a call names, and of which it needs rights, in the order of its arguments: the statement that is the contract of
-- `arguments_are_in_order` in src/laws.rt.
use Rattle.std.specs.Prelude.{◌≡◌, ℕ, ◌==◌, bit_and, List, [], ◌∷◌, map, if◌then◌else◌}
use Rattle.abi_structures.specs.declared.events.Subscription.{Subscription}
use Rattle.abi_structures.specs.declared.events.What.{What}
use Rattle.abi_structures.specs.declared.events.What.TheVariants.{FdRead, FdWrite, ProcTerminate}
use Rattle.abi_types.specs.declared.call.Call.{Call}
use Rattle.abi_types.specs.declared.call.Call.TheVariants as call
use Rattle.abi_types.specs.declared.needed.Needed.{Needed}
use Rattle.kernel_model.specs.Calls.{named, need}

-- what a subscription waits for by a descriptor, before the descriptors of those behind it
abbrev pub awaited_by : What → List ℕ → List ℕ
awaited_by (FdRead fd) fds = fd ∷ fds
awaited_by (FdWrite fd) fds = fd ∷ fds
awaited_by (ProcTerminate fd) fds = fd ∷ fds
awaited_by other fds = fds

abbrev pub awaited_fds : List Subscription → List ℕ
awaited_fds [] = []
awaited_fds (subscription ∷ rest) = awaited_by subscription.what (awaited_fds rest)

-- a mapping is of a descriptor, unless its flags have ANON (1)
abbrev pub mapped_fds : ℕ → ℕ → List ℕ
mapped_fds flags fd = if bit_and flags 1 == 0 then fd ∷ [] else []

-- the descriptors that must be there, in the order of the arguments
abbrev pub names_of : Call → List ℕ
names_of (call.FdClose fd) = fd ∷ []
names_of (call.FdDatasync fd) = fd ∷ []
names_of (call.FdDup fd) = fd ∷ []
names_of (call.FdPread fd length offset) = fd ∷ []
names_of (call.FdPwrite fd bytes offset) = fd ∷ []
names_of (call.FdRead fd length) = fd ∷ []
names_of (call.FdReplace from to) = from ∷ to ∷ []
names_of (call.FdSeek fd offset whence) = fd ∷ []
names_of (call.FdStatGet fd) = fd ∷ []
names_of (call.FdStatPut fd stat flags) = fd ∷ []
names_of (call.FdSync fd) = fd ∷ []
names_of (call.FdWrite fd bytes) = fd ∷ []
names_of (call.FileAdvise fd offset length advice) = fd ∷ []
names_of (call.FileAllocate fd offset length) = fd ∷ []
names_of (call.FileCreate fd path kind) = fd ∷ []
names_of (call.FileLink lookup path new_fd new_path) = lookup.fd ∷ new_fd ∷ []
names_of (call.FileOpen lookup path oflags stat) = lookup.fd ∷ []
names_of (call.FileReaddir fd length cookie) = fd ∷ []
names_of (call.FileReadlink fd path length) = fd ∷ []
names_of (call.FileRename fd path new_fd new_path) = fd ∷ new_fd ∷ []
names_of (call.FileStatFget fd) = fd ∷ []
names_of (call.FileStatFput fd stat flags) = fd ∷ []
names_of (call.FileStatGet lookup path) = lookup.fd ∷ []
names_of (call.FileStatPut lookup path stat flags) = lookup.fd ∷ []
names_of (call.FileSymlink text fd path) = fd ∷ []
names_of (call.FileUnlink fd path flags) = fd ∷ []
names_of (call.MemMap place length prot flags fd offset) = mapped_fds flags fd
names_of (call.Poll subscriptions) = awaited_fds subscriptions
names_of (call.ProcExec fd bytes fds) = fd ∷ fds
names_of (call.SockRecv fd length room flags) = fd ∷ []
names_of (call.SockSend fd bytes fds flags) = fd ∷ fds
names_of (call.SockShutdown fd how) = fd ∷ []
names_of other = []

-- Of each of them a right is needed, but of those that are closed, copied or looked at alone, of those that a new program lists, and of those that
-- are sent.
abbrev pub needs_of : Call → List ℕ
needs_of (call.FdClose fd) = []
needs_of (call.FdDup fd) = []
needs_of (call.FdReplace from to) = []
needs_of (call.FdStatGet fd) = []
needs_of (call.ProcExec fd bytes fds) = fd ∷ []
needs_of (call.SockSend fd bytes fds flags) = fd ∷ []
needs_of other = names_of other

-- A call names the descriptors of its arguments, each and in their order. The rights that it needs of one of them stand in one row, and
-- the rows in the order of the arguments. So the first descriptor that lacks a right is the first of the arguments, and what it lacks is
-- named whole.
pub record ArgumentsAreInOrder (c : Call) : Type 0 where
  pub names : named c ≡ names_of c
  pub rows : map (λ (row : Needed). row.fd) (need c) ≡ needs_of c

abbrev pub AllAreInOrder : Type 0
AllAreInOrder = (c : Call) → ArgumentsAreInOrder c
