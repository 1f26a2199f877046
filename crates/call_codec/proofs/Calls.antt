-- What registers and memory say of the call that they encode.
--     args_encoded      it is what is read under its number, or a refusal with an error that is listed
--     args_refusals      each error with which a call is refused is listed
use Rattle.std.proofs.Common.{◌≡◌, ℕ, Option, Some, None, Result, Ok, Err, refl, sym, subst}
use Rattle.std.specs.Result.{result_ok}
use Rattle.abi_base.specs.declared.errno.Errno.{Errno}
use Rattle.abi_base.specs.Registers.{Registers}
use Rattle.abi_types.specs.Numbers.{number_of_call}
use Rattle.abi_types.specs.declared.call.Call.{Call}
use Rattle.abi_types.specs.declared.call.Call.TheVariants.{Memory, Refused, Unknown}
use Rattle.abi_types.specs.declared.call_number.CallNumber.{CallNumber}
use Rattle.abi_types.specs.declared.call_number.CallNumber.TheVariants as number
use Rattle.codec_arguments.specs.Bytes.{descriptors_in, number_in}
use Rattle.codec_calls.specs.ProcessCalls.{proc_exec_of}
use Rattle.codec_calls.specs.SocketCalls.{sock_send_of}
use Rattle.guest_memory.specs.Page.{Pages}
use Rattle.call_codec.specs.Arguments.{args_of, asked, or_refused, or_unknown, read_of}
use Rattle.call_codec.proofs.PollRefusals.{poll_gives}
use Rattle.call_codec.proofs.Readings.{array_refused, readings, Gives, IsListedRefusal, IsRefusedAsListed}

-- the number under which the call is read, if it is no refusal
abbrev pub read_under : Call → Option CallNumber
read_under (Memory number.MemAdvise errno) = Some number.MemAdvise
read_under (Memory number.MemProtect errno) = Some number.MemProtect
read_under (Memory number.MemSync errno) = Some number.MemSync
read_under (Memory number.MemUnmap errno) = Some number.MemUnmap
read_under (Memory it errno) = None
read_under (Refused it errno) = None
read_under call = result_ok (number_of_call call)

send_gives : (m : Pages) (r : Registers) → ((a n : ℕ) → IsRefusedAsListed (descriptors_in m a n))
    → Gives (λ call. read_under call ≡ Some number.SockSend) (sock_send_of m r)
send_gives m r listed = search (readings, listed) depth 20

exec_gives : (m : Pages) (r : Registers) → ((a n : ℕ) → IsRefusedAsListed (descriptors_in m a n))
    → Gives (λ call. read_under call ≡ Some number.ProcExec) (proc_exec_of m r)
exec_gives m r listed = search (readings, listed) depth 20

-- what is read of a call is a call of its number; the first line makes the cases
reading_gives : (m : Pages) (r : Registers) (left : ℕ) (it : CallNumber) → Gives (λ call. read_under call ≡ Some it) (read_of m r left it)
unfolding read_of
reading_gives m r left number.FdClose = search readings depth 12
reading_gives m r left number.Poll = poll_gives (λ call. read_under call ≡ Some number.Poll) (λ subscriptions. refl) m r
reading_gives m r left number.ProcExec = exec_gives m r (λ a n. array_refused (number_in m) 4 a n (λ at. search readings depth 12))
reading_gives m r left number.SockSend = send_gives m r (λ a n. array_refused (number_in m) 4 a n (λ at. search readings depth 12))
reading_gives m r left _ = search readings depth 12

abbrev IsReadUnder : Pages → Registers → ℕ → Call → Option CallNumber → Type 0
IsReadUnder m r left call (Some it) = read_of m r left it ≡ Ok call
IsReadUnder m r left call None = ⊥

-- what the registers and the memory say of a call that they encode
abbrev pub IsEncodedBy : Pages → Registers → ℕ → Call → Type 0
IsEncodedBy m r left (Refused it errno) = IsListedRefusal errno
IsEncodedBy m r left (Unknown it) = Unit {0}
IsEncodedBy m r left call = IsReadUnder m r left call (read_under call)

under_number : (m : Pages) (r : Registers) (left : ℕ) (it : CallNumber) (call : Call) → read_under call ≡ Some it → read_of m r left it ≡ Ok call → IsEncodedBy m r left call
under_number m r left it (Refused other errno) e is = absurd (cc)
under_number m r left it (Unknown other) e is = tt
under_number m r left it call e is = subst (IsReadUnder m r left call) (sym e) is

refused_or_read : (m : Pages) (r : Registers) (left : ℕ) (it : CallNumber) (reading : Result Call Errno) → read_of m r left it ≡ reading
    → Gives (λ call. read_under call ≡ Some it) reading → IsEncodedBy m r left (or_refused it reading)
refused_or_read m r left it (Ok call) is gives = under_number m r left it call (gives.value call refl) is
refused_or_read m r left it (Err errno) is gives = gives.refused errno refl

asked_for : (m : Pages) (r : Registers) (left : ℕ) (it : Option CallNumber) → IsEncodedBy m r left (or_unknown r (λ known. or_refused known (read_of m r left known)) it)
asked_for m r left (Some it) = refused_or_read m r left it (read_of m r left it) refl (reading_gives m r left it)
asked_for m r left None = tt

pub args_encoded : (m : Pages) (r : Registers) (left : ℕ) → IsEncodedBy m r left (args_of m r left)
unfolding args_of
args_encoded m r left = asked_for m r left (asked r)

-- each error with which a call is refused is listed
pub args_refusals : (m : Pages) (r : Registers) (left : ℕ) (it : CallNumber) (errno : Errno) → args_of m r left ≡ Refused it errno → IsListedRefusal errno
args_refusals m r left it errno refused = subst (IsEncodedBy m r left) refused (args_encoded m r left)
