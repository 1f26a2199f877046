-- What is read of a call that registers and memory encode.
--     encoded_read      it is what is read under the call's number
use Rattle.std.proofs.Common.{◌≡◌, ℕ, Bool, true, false, cond, Option, Some, None, Result, Ok, Err, refl, sym, ap, subst, ◌∙◌}
use Rattle.abi_base.specs.declared.errno.Errno.{Errno}
use Rattle.abi_base.specs.Registers.{Registers}
use Rattle.abi_types.specs.declared.call.Call.{Call}
use Rattle.abi_types.specs.declared.call_number.CallNumber.{CallNumber}
use Rattle.abi_types.specs.declared.call_number.CallNumber.TheVariants as number
use Rattle.codec_arguments.specs.Reading.{◌>>=◌}
use Rattle.guest_memory.specs.Page.{Pages}
use Rattle.call_codec.specs.Arguments.{asked, encoded_call, or_refused, or_unknown, read_of}
use Rattle.call_codec.proofs.Calls.{read_under}

-- each value that the reading gives has the property
record Only {X : Type 0} (P : X → Type 0) (reading : Result X Errno) : Type 0 where
  value : (x : X) → reading ≡ Ok x → P x

only_value : {X : Type 0} (P : X → Type 0) (x : X) → P x → Only P (Ok x)
only_value P x h = record { value = λ y e. let same : x ≡ y = cc in subst P same h }

only_error : {X : Type 0} (P : X → Type 0) (errno : Errno) → Only P (Err errno)
only_error P errno = record { value = λ x e. absurd (cc) }

only_either : {X : Type 0} (P : X → Type 0) (test : Bool) (x y : Result X Errno) → Only P x → Only P y → Only P (cond test x y)
only_either P true x y h k = h
only_either P false x y h k = k

only_after : {X Y : Type 0} (P : Y → Type 0) (first : Result X Errno) (rest : X → Result Y Errno) → ((x : X) → Only P (rest x)) → Only P (first >>= rest)
only_after P (Ok x) rest k = k x
only_after P (Err errno) rest k = only_error P errno

ruleset readings_only = (only_value, only_error, only_either, only_after)

-- what is read under a number is a call of that number; the first line makes the cases
reading_only : (m : Pages) (r : Registers) (left : ℕ) (it : CallNumber) → Only (λ call. read_under call ≡ Some it) (read_of m r left it)
unfolding read_of
reading_only m r left number.FdClose = search readings_only depth 16
reading_only m r left _ = search readings_only depth 16

read_case : (it known : CallNumber) (read : CallNumber → Result Call Errno) (reading : Result Call Errno) (call : Call) → read known ≡ reading
    → Only (λ found. read_under found ≡ Some known) reading → call ≡ or_refused known reading → read_under call ≡ Some it → read it ≡ Ok call
read_case it known read (Ok found) call is only e under =
    let mine = sym (only.value found refl) ∙ ap read_under (sym e) ∙ under in
    let same : known ≡ it = cc mine in
    subst (λ number. read number ≡ Ok call) same (is ∙ ap Ok (sym e))
read_case it known read (Err errno) call is only e under =
    let none : None ≡ Some it = sym (ap read_under e) ∙ under in absurd (cc none)

asked_case : (r : Registers) (asks : Option CallNumber) (it : CallNumber) (read : CallNumber → Result Call Errno) (call : Call)
    → ((known : CallNumber) → Only (λ found. read_under found ≡ Some known) (read known))
    → call ≡ or_unknown r (λ known. or_refused known (read known)) asks → read_under call ≡ Some it → read it ≡ Ok call
asked_case r (Some known) it read call only e under = read_case it known read (read known) call refl (only known) e under
asked_case r None it read call only e under =
    let none : None ≡ Some it = sym (ap read_under e) ∙ under in absurd (cc none)

pub encoded_read : (m : Pages) (r : Registers) (left : ℕ) (call : Call) (it : CallNumber) → call ≡ encoded_call m r left → read_under call ≡ Some it
    → read_of m r left it ≡ Ok call
encoded_read m r left call it e under = asked_case r (asked r) it (read_of m r left) call (reading_only m r left) e under
