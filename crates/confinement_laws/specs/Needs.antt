-- Which rights calls need, told by the rights: of each the calls that need it, and of which descriptor.
use Rattle.std.specs.Prelude.{◌≡◌, ◌≢◌, ◌⊎◌, ◌↔◌, ℕ, bit_and, false, List}
use Rattle.abi_base.specs.Rights.{Has}
use Rattle.abi_base.specs.declared.rights.Rights.{Rights}
use Rattle.abi_base.specs.declared.rights.TheConstants.Rights.{NONE, FD_DATASYNC, FD_READ, FD_SEEK, FD_STAT_PUT_FLAGS, FD_SYNC, FD_TELL, FD_WRITE, FILE_ADVISE, FILE_ALLOCATE, FILE_CREATE_DIRECTORY, FILE_CREATE_FILE, FILE_LINK_SOURCE, FILE_LINK_TARGET, FILE_OPEN, FILE_READDIR, FILE_READLINK, FILE_RENAME_SOURCE, FILE_RENAME_TARGET, FILE_STAT_FGET, FILE_STAT_FPUT_SIZE, FILE_STAT_FPUT_TIMES, FILE_STAT_GET, FILE_STAT_PUT_TIMES, FILE_SYMLINK, FILE_UNLINK, MEM_MAP, MEM_MAP_EXEC, POLL_FD_READWRITE, POLL_PROC_TERMINATE, PROC_EXEC, SOCK_SHUTDOWN}
use Rattle.abi_base.specs.declared.flags.TheConstants.{FDSTAT_FLAGS, FDSTAT_RIGHTS, FILESTAT_SIZE, FILESTAT_TIMES, O_CREAT, O_TRUNC, PROT_EXEC, WHENCE_CUR}
use Rattle.abi_structures.specs.declared.events.Subscription.{Subscription}
use Rattle.abi_structures.specs.declared.events.What.{What}
use Rattle.abi_structures.specs.declared.events.What.TheVariants as what
use Rattle.abi_structures.specs.declared.structures.FdStat.{FdStat}
use Rattle.abi_structures.specs.declared.structures.FileStat.{FileStat}
use Rattle.abi_types.specs.Families.{is_anonymous}
use Rattle.abi_types.specs.declared.call.Call.{Call}
use Rattle.abi_types.specs.declared.call.Call.TheVariants as call
use Rattle.abi_types.specs.declared.call.Lookup.{Lookup}
use Rattle.abi_types.specs.declared.needed.Needed.{Needed}
use Rattle.abi_types.specs.declared.place.Place.{Place}
use Rattle.kernel_model.specs.Calls.{need}
use Rattle.kernel_model.specs.Proper.{IsIn}

-- the flags have one of these bits
abbrev pub AreSet : ℕ → ℕ → Type 0
AreSet flags bits = bit_and flags bits ≢ 0

-- one of the subscriptions waits for that
abbrev pub Awaits : List Subscription → What → Type 0
Awaits subscriptions what = (s : Subscription) × IsIn s subscriptions × (s.what ≡ what)

-- a seek that only tells where it is: from there, by nothing
abbrev pub OnlyTells : ℕ → ℕ → Type 0
OnlyTells offset whence = (offset ≡ 0) × (whence ≡ WHENCE_CUR)

-- The right is needed, among its base rights, of the descriptor under this number by the call.
pub data NeedsRight : Rights → ℕ → Call → Type 0 where
  -- to let bytes be stored
  datasync : (fd : ℕ) → NeedsRight FD_DATASYNC fd (call.FdDatasync fd)
  sync : (fd : ℕ) → NeedsRight FD_SYNC fd (call.FdSync fd)
  -- to read
  read : (fd n : ℕ) → NeedsRight FD_READ fd (call.FdRead fd n)
  pread : (fd n at : ℕ) → NeedsRight FD_READ fd (call.FdPread fd n at)
  receive : (fd n room flags : ℕ) → NeedsRight FD_READ fd (call.SockRecv fd n room flags)
  map_bytes : (place : Place) (length prot flags fd offset : ℕ) → is_anonymous flags ≡ false → NeedsRight FD_READ fd (call.MemMap place length prot flags fd offset)
  -- to write
  write : (fd : ℕ) (bytes : List ℕ) → NeedsRight FD_WRITE fd (call.FdWrite fd bytes)
  pwrite : (fd : ℕ) (bytes : List ℕ) (at : ℕ) → NeedsRight FD_WRITE fd (call.FdPwrite fd bytes at)
  send : (fd : ℕ) (bytes fds : List ℕ) (flags : ℕ) → NeedsRight FD_WRITE fd (call.SockSend fd bytes fds flags)
  -- to be somewhere else in a file, and to tell where
  seek : (fd offset whence : ℕ) → ¬ OnlyTells offset whence → NeedsRight FD_SEEK fd (call.FdSeek fd offset whence)
  seek_to_read : (fd n at : ℕ) → NeedsRight FD_SEEK fd (call.FdPread fd n at)
  seek_to_write : (fd : ℕ) (bytes : List ℕ) (at : ℕ) → NeedsRight FD_SEEK fd (call.FdPwrite fd bytes at)
  tell : (fd : ℕ) → NeedsRight FD_TELL fd (call.FdSeek fd 0 WHENCE_CUR)
  -- to set flags; and of rights those that are to stay
  put_flags : (fd : ℕ) (stat : FdStat) (flags : ℕ) → AreSet flags FDSTAT_FLAGS → NeedsRight FD_STAT_PUT_FLAGS fd (call.FdStatPut fd stat flags)
  put_rights : (fd : ℕ) (stat : FdStat) (flags : ℕ) → AreSet flags FDSTAT_RIGHTS → NeedsRight stat.base fd (call.FdStatPut fd stat flags)
  -- to say how a file will be used, and to make it longer
  advise : (fd offset length advice : ℕ) → NeedsRight FILE_ADVISE fd (call.FileAdvise fd offset length advice)
  allocate : (fd offset length : ℕ) → NeedsRight FILE_ALLOCATE fd (call.FileAllocate fd offset length)
  -- to make names and take them away; with CREAT file_open makes a file
  create_directory : (fd : ℕ) (path : List ℕ) (kind : ℕ) → NeedsRight FILE_CREATE_DIRECTORY fd (call.FileCreate fd path kind)
  create_file : (lookup : Lookup) (path : List ℕ) (oflags : ℕ) (stat : FdStat) → AreSet oflags O_CREAT
      → NeedsRight FILE_CREATE_FILE lookup.fd (call.FileOpen lookup path oflags stat)
  link_source : (lookup : Lookup) (path : List ℕ) (fd : ℕ) (new : List ℕ) → NeedsRight FILE_LINK_SOURCE lookup.fd (call.FileLink lookup path fd new)
  link_target : (lookup : Lookup) (path : List ℕ) (fd : ℕ) (new : List ℕ) → NeedsRight FILE_LINK_TARGET fd (call.FileLink lookup path fd new)
  rename_source : (from : ℕ) (path : List ℕ) (to : ℕ) (new : List ℕ) → NeedsRight FILE_RENAME_SOURCE from (call.FileRename from path to new)
  rename_target : (from : ℕ) (path : List ℕ) (to : ℕ) (new : List ℕ) → NeedsRight FILE_RENAME_TARGET to (call.FileRename from path to new)
  symlink : (text : List ℕ) (fd : ℕ) (path : List ℕ) → NeedsRight FILE_SYMLINK fd (call.FileSymlink text fd path)
  unlink : (fd : ℕ) (path : List ℕ) (flags : ℕ) → NeedsRight FILE_UNLINK fd (call.FileUnlink fd path flags)
  -- to open, and to list what is there
  opens : (lookup : Lookup) (path : List ℕ) (oflags : ℕ) (stat : FdStat) → NeedsRight FILE_OPEN lookup.fd (call.FileOpen lookup path oflags stat)
  readdir : (fd length cookie : ℕ) → NeedsRight FILE_READDIR fd (call.FileReaddir fd length cookie)
  readlink : (fd : ℕ) (path : List ℕ) (length : ℕ) → NeedsRight FILE_READLINK fd (call.FileReadlink fd path length)
  -- to know what a file is, and to set its size and its times
  stat_fget : (fd : ℕ) → NeedsRight FILE_STAT_FGET fd (call.FileStatFget fd)
  stat_get : (lookup : Lookup) (path : List ℕ) → NeedsRight FILE_STAT_GET lookup.fd (call.FileStatGet lookup path)
  fput_size : (fd : ℕ) (stat : FileStat) (flags : ℕ) → AreSet flags FILESTAT_SIZE → NeedsRight FILE_STAT_FPUT_SIZE fd (call.FileStatFput fd stat flags)
  fput_times : (fd : ℕ) (stat : FileStat) (flags : ℕ) → AreSet flags FILESTAT_TIMES → NeedsRight FILE_STAT_FPUT_TIMES fd (call.FileStatFput fd stat flags)
  put_times : (lookup : Lookup) (path : List ℕ) (stat : FileStat) (flags : ℕ) → NeedsRight FILE_STAT_PUT_TIMES lookup.fd (call.FileStatPut lookup path stat flags)
  -- to map a file's bytes, and to execute them
  map : (place : Place) (length prot flags fd offset : ℕ) → is_anonymous flags ≡ false → NeedsRight MEM_MAP fd (call.MemMap place length prot flags fd offset)
  map_to_execute : (place : Place) (length prot flags fd offset : ℕ) → is_anonymous flags ≡ false → AreSet prot PROT_EXEC
      → NeedsRight MEM_MAP_EXEC fd (call.MemMap place length prot flags fd offset)
  -- to wait for what can be read or written, and for the end of a process
  poll_read : (subscriptions : List Subscription) (fd : ℕ) → Awaits subscriptions (what.FdRead fd) → NeedsRight POLL_FD_READWRITE fd (call.Poll subscriptions)
  poll_write : (subscriptions : List Subscription) (fd : ℕ) → Awaits subscriptions (what.FdWrite fd) → NeedsRight POLL_FD_READWRITE fd (call.Poll subscriptions)
  poll_end : (subscriptions : List Subscription) (fd : ℕ) → Awaits subscriptions (what.ProcTerminate fd) → NeedsRight POLL_PROC_TERMINATE fd (call.Poll subscriptions)
  -- to begin a program, and to shut a socket
  exec : (fd : ℕ) (bytes fds : List ℕ) → NeedsRight PROC_EXEC fd (call.ProcExec fd bytes fds)
  shutdown : (fd how : ℕ) → NeedsRight SOCK_SHUTDOWN fd (call.SockShutdown fd how)

-- The right is asked, among the rights that it passes on, of the descriptor under this number by the call.
pub data AsksRight : Rights → ℕ → Call → Type 0 where
  -- the rights that are to stay, with RIGHTS
  put_inheriting : (fd : ℕ) (stat : FdStat) (flags : ℕ) → AreSet flags FDSTAT_RIGHTS → AsksRight stat.inheriting fd (call.FdStatPut fd stat flags)
  -- those of what is opened, and with TRUNC the right to set its size
  open_base : (lookup : Lookup) (path : List ℕ) (oflags : ℕ) (stat : FdStat) → AsksRight stat.base lookup.fd (call.FileOpen lookup path oflags stat)
  open_inheriting : (lookup : Lookup) (path : List ℕ) (oflags : ℕ) (stat : FdStat) → AsksRight stat.inheriting lookup.fd (call.FileOpen lookup path oflags stat)
  truncate : (lookup : Lookup) (path : List ℕ) (oflags : ℕ) (stat : FdStat) → AreSet oflags O_TRUNC
      → AsksRight FILE_STAT_FPUT_SIZE lookup.fd (call.FileOpen lookup path oflags stat)

-- A call needs a right of a descriptor where it is listed so, and only there; so it is of what it asks of the rights that are passed on. And one right stands
-- for another in one place alone: FD_SEEK for FD_TELL, where a seek only tells.
pub record NeedsAreListed (c : Call) : Type 0 where
  pub base : (fd k : ℕ)
      → ((row : Needed) × IsIn row (need c) × (row.fd ≡ fd) × Has row.base.0 k) ↔ ((right : Rights) × NeedsRight right fd c × Has right.0 k)
  pub inheriting : (fd k : ℕ)
      → ((row : Needed) × IsIn row (need c) × (row.fd ≡ fd) × Has row.inheriting.0 k) ↔ ((right : Rights) × AsksRight right fd c × Has right.0 k)
  pub instead : (row : Needed) → IsIn row (need c)
      → (row.instead ≡ NONE) ⊎ ((c ≡ call.FdSeek row.fd 0 WHENCE_CUR) × (row.base ≡ FD_TELL) × (row.instead ≡ FD_SEEK))

abbrev pub AllNeedsAreListed : Type 0
AllNeedsAreListed = (c : Call) → NeedsAreListed c
