use Rattle.std.specs.Prelude.{ℕ, List, codes}
use Rattle.abi_base.specs.declared.errno.Errno.{Errno}
use Rattle.abi_base.specs.declared.errno.Errno.TheVariants.{Success, TooBig, Again, Badf, Deadlk, Exist, Fault, Fbig, Ilseq, Inval, Isdir, Loop, Mfile, Mlink, MsgSize, NameTooLong, Nobufs, Noent, Noexec, Nomem, Nosys, Notdir, Notempty, Notsock, Notsup, Perm, Pipe, TimedOut, Notcapable}

-- the number of each error in this profile
abbrev pub number_of : Errno → ℕ
number_of Success = 0
number_of TooBig = 1
number_of Again = 6
number_of Badf = 8
number_of Deadlk = 16
number_of Exist = 20
number_of Fault = 21
number_of Fbig = 22
number_of Ilseq = 25
number_of Inval = 28
number_of Isdir = 31
number_of Loop = 32
number_of Mfile = 33
number_of Mlink = 34
number_of MsgSize = 35
number_of NameTooLong = 37
number_of Nobufs = 42
number_of Noent = 44
number_of Noexec = 45
number_of Nomem = 48
number_of Nosys = 52
number_of Notdir = 54
number_of Notempty = 55
number_of Notsock = 57
number_of Notsup = 58
number_of Perm = 63
number_of Pipe = 64
number_of TimedOut = 73
number_of Notcapable = 76

-- CloudABI's name of each error, without its prefix
abbrev pub name_of : Errno → List ℕ
name_of Success = codes "SUCCESS"
name_of TooBig = codes "2BIG"
name_of Again = codes "AGAIN"
name_of Badf = codes "BADF"
name_of Deadlk = codes "DEADLK"
name_of Exist = codes "EXIST"
name_of Fault = codes "FAULT"
name_of Fbig = codes "FBIG"
name_of Ilseq = codes "ILSEQ"
name_of Inval = codes "INVAL"
name_of Isdir = codes "ISDIR"
name_of Loop = codes "LOOP"
name_of Mfile = codes "MFILE"
name_of Mlink = codes "MLINK"
name_of MsgSize = codes "MSGSIZE"
name_of NameTooLong = codes "NAMETOOLONG"
name_of Nobufs = codes "NOBUFS"
name_of Noent = codes "NOENT"
name_of Noexec = codes "NOEXEC"
name_of Nomem = codes "NOMEM"
name_of Nosys = codes "NOSYS"
name_of Notdir = codes "NOTDIR"
name_of Notempty = codes "NOTEMPTY"
name_of Notsock = codes "NOTSOCK"
name_of Notsup = codes "NOTSUP"
name_of Perm = codes "PERM"
name_of Pipe = codes "PIPE"
name_of TimedOut = codes "TIMEDOUT"
name_of Notcapable = codes "NOTCAPABLE"
