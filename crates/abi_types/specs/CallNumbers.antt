-- The numbers and the names of calls.
use Rattle.std.specs.Prelude.{ℕ, List, [], ◌∷◌, codes}
use Rattle.abi_types.specs.declared.call_number.CallNumber.{CallNumber}
use Rattle.abi_types.specs.declared.call_number.CallNumber.TheVariants.{ClockResGet, ClockTimeGet, CondvarSignal, FdClose, FdCreate1, FdCreate2, FdDatasync, FdDup}
use Rattle.abi_types.specs.declared.call_number.CallNumber.TheVariants.{FdPread, FdPwrite, FdRead, FdReplace, FdSeek, FdStatGet, FdStatPut, FdSync, FdWrite}
use Rattle.abi_types.specs.declared.call_number.CallNumber.TheVariants.{FileAdvise, FileAllocate, FileCreate, FileLink, FileOpen, FileReaddir, FileReadlink}
use Rattle.abi_types.specs.declared.call_number.CallNumber.TheVariants.{FileRename, FileStatFget, FileStatFput, FileStatGet, FileStatPut, FileSymlink, FileUnlink}
use Rattle.abi_types.specs.declared.call_number.CallNumber.TheVariants.{LockUnlock, MemAdvise, MemMap, MemProtect, MemSync, MemUnmap, Poll, ProcExec, ProcExit}
use Rattle.abi_types.specs.declared.call_number.CallNumber.TheVariants.{ProcFork, ProcRaise, RandomGet, SockRecv, SockSend, SockShutdown, ThreadCreate, ThreadExit}
use Rattle.abi_types.specs.declared.call_number.CallNumber.TheVariants.{ThreadYield}

-- the number that a7 has for each call
abbrev pub number_of : CallNumber → ℕ
number_of ClockResGet = 0
number_of ClockTimeGet = 1
number_of CondvarSignal = 2
number_of FdClose = 3
number_of FdCreate1 = 4
number_of FdCreate2 = 5
number_of FdDatasync = 6
number_of FdDup = 7
number_of FdPread = 8
number_of FdPwrite = 9
number_of FdRead = 10
number_of FdReplace = 11
number_of FdSeek = 12
number_of FdStatGet = 13
number_of FdStatPut = 14
number_of FdSync = 15
number_of FdWrite = 16
number_of FileAdvise = 17
number_of FileAllocate = 18
number_of FileCreate = 19
number_of FileLink = 20
number_of FileOpen = 21
number_of FileReaddir = 22
number_of FileReadlink = 23
number_of FileRename = 24
number_of FileStatFget = 25
number_of FileStatFput = 26
number_of FileStatGet = 27
number_of FileStatPut = 28
number_of FileSymlink = 29
number_of FileUnlink = 30
number_of LockUnlock = 31
number_of MemAdvise = 32
number_of MemMap = 33
number_of MemProtect = 34
number_of MemSync = 35
number_of MemUnmap = 36
number_of Poll = 37
number_of ProcExec = 38
number_of ProcExit = 39
number_of ProcFork = 40
number_of ProcRaise = 41
number_of RandomGet = 42
number_of SockRecv = 43
number_of SockSend = 44
number_of SockShutdown = 45
number_of ThreadCreate = 46
number_of ThreadExit = 47
number_of ThreadYield = 48

-- the calls in the order of their numbers
abbrev pub all_calls : List CallNumber
all_calls =
    ClockResGet ∷ ClockTimeGet ∷ CondvarSignal ∷ FdClose ∷ FdCreate1 ∷ FdCreate2 ∷ FdDatasync ∷ FdDup ∷ FdPread ∷ FdPwrite
    ∷ FdRead ∷ FdReplace ∷ FdSeek ∷ FdStatGet ∷ FdStatPut ∷ FdSync ∷ FdWrite ∷ FileAdvise ∷ FileAllocate ∷ FileCreate ∷ FileLink
    ∷ FileOpen ∷ FileReaddir ∷ FileReadlink ∷ FileRename ∷ FileStatFget ∷ FileStatFput ∷ FileStatGet ∷ FileStatPut ∷ FileSymlink
    ∷ FileUnlink ∷ LockUnlock ∷ MemAdvise ∷ MemMap ∷ MemProtect ∷ MemSync ∷ MemUnmap ∷ Poll ∷ ProcExec ∷ ProcExit ∷ ProcFork
    ∷ ProcRaise ∷ RandomGet ∷ SockRecv ∷ SockSend ∷ SockShutdown ∷ ThreadCreate ∷ ThreadExit ∷ ThreadYield ∷ []

-- CloudABI's names
abbrev pub name_of : CallNumber → List ℕ
name_of ClockResGet = codes "clock_res_get"
name_of ClockTimeGet = codes "clock_time_get"
name_of CondvarSignal = codes "condvar_signal"
name_of FdClose = codes "fd_close"
name_of FdCreate1 = codes "fd_create1"
name_of FdCreate2 = codes "fd_create2"
name_of FdDatasync = codes "fd_datasync"
name_of FdDup = codes "fd_dup"
name_of FdPread = codes "fd_pread"
name_of FdPwrite = codes "fd_pwrite"
name_of FdRead = codes "fd_read"
name_of FdReplace = codes "fd_replace"
name_of FdSeek = codes "fd_seek"
name_of FdStatGet = codes "fd_stat_get"
name_of FdStatPut = codes "fd_stat_put"
name_of FdSync = codes "fd_sync"
name_of FdWrite = codes "fd_write"
name_of FileAdvise = codes "file_advise"
name_of FileAllocate = codes "file_allocate"
name_of FileCreate = codes "file_create"
name_of FileLink = codes "file_link"
name_of FileOpen = codes "file_open"
name_of FileReaddir = codes "file_readdir"
name_of FileReadlink = codes "file_readlink"
name_of FileRename = codes "file_rename"
name_of FileStatFget = codes "file_stat_fget"
name_of FileStatFput = codes "file_stat_fput"
name_of FileStatGet = codes "file_stat_get"
name_of FileStatPut = codes "file_stat_put"
name_of FileSymlink = codes "file_symlink"
name_of FileUnlink = codes "file_unlink"
name_of LockUnlock = codes "lock_unlock"
name_of MemAdvise = codes "mem_advise"
name_of MemMap = codes "mem_map"
name_of MemProtect = codes "mem_protect"
name_of MemSync = codes "mem_sync"
name_of MemUnmap = codes "mem_unmap"
name_of Poll = codes "poll"
name_of ProcExec = codes "proc_exec"
name_of ProcExit = codes "proc_exit"
name_of ProcFork = codes "proc_fork"
name_of ProcRaise = codes "proc_raise"
name_of RandomGet = codes "random_get"
name_of SockRecv = codes "sock_recv"
name_of SockSend = codes "sock_send"
name_of SockShutdown = codes "sock_shutdown"
name_of ThreadCreate = codes "thread_create"
name_of ThreadExit = codes "thread_exit"
name_of ThreadYield = codes "thread_yield"
