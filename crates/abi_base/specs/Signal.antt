use Rattle.std.specs.Prelude.{ℕ, List, codes}
use Rattle.abi_base.specs.declared.signal.Signal.{Signal}
use Rattle.abi_base.specs.declared.signal.Signal.TheVariants.{Abrt, Alrm, Bus, Chld, Cont, Fpe, Hup, Ill, Int, Kill, Pipe, Quit, Segv, Stop, Sys, Term, Trap, Tstp, Ttin, Ttou, Urg, Usr1, Usr2, Vtalrm, Xcpu, Xfsz}

-- the number of each signal in this profile
abbrev pub number_of : Signal → ℕ
number_of Abrt = 1
number_of Alrm = 2
number_of Bus = 3
number_of Chld = 4
number_of Cont = 5
number_of Fpe = 6
number_of Hup = 7
number_of Ill = 8
number_of Int = 9
number_of Kill = 10
number_of Pipe = 11
number_of Quit = 12
number_of Segv = 13
number_of Stop = 14
number_of Sys = 15
number_of Term = 16
number_of Trap = 17
number_of Tstp = 18
number_of Ttin = 19
number_of Ttou = 20
number_of Urg = 21
number_of Usr1 = 22
number_of Usr2 = 23
number_of Vtalrm = 24
number_of Xcpu = 25
number_of Xfsz = 26

-- the name of each signal, without its prefix
abbrev pub name_of : Signal → List ℕ
name_of Abrt = codes "ABRT"
name_of Alrm = codes "ALRM"
name_of Bus = codes "BUS"
name_of Chld = codes "CHLD"
name_of Cont = codes "CONT"
name_of Fpe = codes "FPE"
name_of Hup = codes "HUP"
name_of Ill = codes "ILL"
name_of Int = codes "INT"
name_of Kill = codes "KILL"
name_of Pipe = codes "PIPE"
name_of Quit = codes "QUIT"
name_of Segv = codes "SEGV"
name_of Stop = codes "STOP"
name_of Sys = codes "SYS"
name_of Term = codes "TERM"
name_of Trap = codes "TRAP"
name_of Tstp = codes "TSTP"
name_of Ttin = codes "TTIN"
name_of Ttou = codes "TTOU"
name_of Urg = codes "URG"
name_of Usr1 = codes "USR1"
name_of Usr2 = codes "USR2"
name_of Vtalrm = codes "VTALRM"
name_of Xcpu = codes "XCPU"
name_of Xfsz = codes "XFSZ"
