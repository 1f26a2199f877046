-- Calls that their registers alone refuse.
--     create_is_invalid      file_open with CREAT and DIRECTORY is INVAL
use Rattle.std.proofs.Common.{◌≡◌, ℕ, ◌==◌, ◌||◌, ◌/◌, Bool, true, false, Result, Err, refl, ap, arith}
use Rattle.std.proofs.lemmas.Nat.{and_mask}
use Rattle.std.proofs.lemmas.Nat.Bits.{bit_at_lowest, bit_at-suc}
use Rattle.std.specs.Int.RustNames.{bit_and}
use Rattle.abi_base.specs.Rights.{Has}
use Rattle.abi_base.specs.declared.errno.Errno.{Errno}
use Rattle.abi_base.specs.declared.errno.Errno.TheVariants.{Inval}
use Rattle.codec_arguments.specs.Arguments.{argument, low}
use Rattle.codec_arguments.specs.Reading.{◌>>=◌, refuse_when}
use Rattle.codec_calls.specs.Flags.{has_unknown}
use Rattle.codec_files.specs.ByPath.{looks_unknown, opens_wrongly}
use Rattle.codec_files.specs.Laws.{CreateOfDirectoryIsInvalid}
use Rattle.codec_files.specs.declared.by_path.TheConstants.{KNOWN_OFLAGS}

-- the lowest two bits are those of 3
low_bits : (flags : ℕ) → Has flags 0 → Has flags 1 → bit_and flags 3 ≡ 3
low_bits flags first second =
    omega (arith, and_mask flags 2, first, second, bit_at_lowest flags, bit_at-suc flags 0, bit_at_lowest (flags / 2))

or_second : (a b : Bool) → b ≡ true → (a || b) ≡ true
or_second true b h = refl
or_second false b h = h

asked_both : (flags : ℕ) → Has flags 0 → Has flags 1 → opens_wrongly flags ≡ true
asked_both flags first second =
    or_second (has_unknown flags KNOWN_OFLAGS) (bit_and flags 3 == 3) (ap (λ n. n == 3) (low_bits flags first second))

-- of two refusals with one error, where the second comes, one comes
one_refuses : {X : Type 0} (a b : Bool) (rest : Unit {0} → Result X Errno) → b ≡ true
    → (refuse_when a Inval >>= λ _. refuse_when b Inval >>= rest) ≡ Err Inval
one_refuses true b rest h = refl
one_refuses false b rest h = ap (λ c. refuse_when c Inval >>= rest) h

pub create_is_invalid : CreateOfDirectoryIsInvalid
create_is_invalid m r first second =
    one_refuses (looks_unknown (argument r 0)) (opens_wrongly (low (argument r 3))) _ (asked_both (low (argument r 3)) first second)
