-- No call that registers and memory encode has BADF before the kernel looks at it.
--     args_not_badf      none has that error of its own, and a file_stat_fput sets something
use Rattle.std.proofs.Common.{◌≡◌, ◌≢◌, ℕ, nat_le, Bool, true, false, cond, Option, Some, None, subst}
use Rattle.abi_base.specs.Registers.{Registers}
use Rattle.abi_base.specs.declared.errno.Errno.{Errno}
use Rattle.abi_base.specs.declared.errno.Errno.TheVariants.{Badf, Nobufs}
use Rattle.abi_types.specs.declared.call.Call.{Call}
use Rattle.abi_types.specs.declared.call.Call.TheVariants.{FileStatFput, MemMap, Memory, Refused}
use Rattle.abi_types.specs.declared.place.Place.{Place}
use Rattle.abi_types.specs.declared.place.Place.TheVariants as place
use Rattle.abi_types.specs.declared.place.Place.TheVariants.{At}
use Rattle.call_codec.specs.Arguments.{args_of, read_of}
use Rattle.call_codec.specs.MemoryCalls.{has_bits, may_map, pages_in, place_at, place_in, place_in_gap, place_of}
use Rattle.call_codec.proofs.Calls.{IsEncodedBy, args_encoded}
use Rattle.call_codec.proofs.Settings.{fput_sets_something}
use Rattle.call_codec.proofs.Puts.{IsMemoryErrno, memory_listed}
use Rattle.call_codec.proofs.Readings.{IsListedRefusal, passed}
use Rattle.codec_arguments.specs.Arguments.{argument, low}
use Rattle.guest_memory.specs.Changes.{lowest_gap}
use Rattle.guest_memory.specs.Mapping.{page_limit}
use Rattle.guest_memory.specs.Page.{Pages}
use Rattle.kernel_model.specs.CallBounds.{HasBadfPlace, IsBadfBefore}

-- ---- errors of calls that are decided

refusal_is_other : (errno : Errno) → IsListedRefusal errno → errno ≢ Badf
refusal_is_other errno listed is = subst IsListedRefusal is listed

memory_is_other : (errno : Errno) → IsMemoryErrno errno → errno ≢ Badf
memory_is_other errno listed is = subst IsMemoryErrno is listed

-- ---- places of mappings

either_place : (b : Bool) (x y : Place) → ¬ HasBadfPlace x → ¬ HasBadfPlace y → ¬ HasBadfPlace (cond b x y)
either_place true x y h k = h
either_place false x y h k = k

nobufs_is_other : ¬ HasBadfPlace (place.Refused Nobufs)
nobufs_is_other e = cc

gap_is_other : (gap : Option ℕ) → ¬ HasBadfPlace (place_in gap)
gap_is_other (Some a) h = h
gap_is_other None h = nobufs_is_other h

place_is_other : (m : Pages) (a flags k : ℕ) → ¬ HasBadfPlace (place_of m a flags k)
place_is_other m a flags k =
    either_place (has_bits flags 2) (place_at m a k) (place_in_gap m k)
    (either_place (nat_le (_) page_limit) (At a) (place.Refused Nobufs) (λ h. h) nobufs_is_other)
    (either_place (nat_le (_) page_limit) (place_in (lowest_gap m k)) (place.Refused Nobufs) (gap_is_other (lowest_gap m k)) nobufs_is_other)

map_is_other : (m : Pages) (r : Registers) (left : ℕ) (it : Place) (length prot flags fd offset : ℕ) → IsEncodedBy m r left (MemMap it length prot flags fd offset)
    → ¬ HasBadfPlace it
unfolding read_of
map_is_other m r left it length prot flags fd offset is =
    let may = passed (may_map (argument r 0) (argument r 1) (low (argument r 2)) (low (argument r 3)) (argument r 5)) _ (MemMap it length prot flags fd offset) is in
    let placed : place_of m (argument r 0) (low (argument r 3)) (pages_in (argument r 1)) ≡ it = cc may.2 in
    subst (λ p. ¬ HasBadfPlace p) placed (place_is_other m (argument r 0) (low (argument r 3)) (pages_in (argument r 1)))

-- ---- all of them

call_is_other : (m : Pages) (r : Registers) (left : ℕ) (call : Call) → IsEncodedBy m r left call → ¬ IsBadfBefore call
call_is_other m r left (Memory it errno) is = memory_is_other errno (memory_listed m r left it errno is)
call_is_other m r left (Refused it errno) is = refusal_is_other errno is
call_is_other m r left (MemMap it length prot flags fd offset) is = map_is_other m r left it length prot flags fd offset is
call_is_other m r left (FileStatFput fd stat flags) is = fput_sets_something m r left fd stat flags is
call_is_other m r left call is = λ h. h

pub args_not_badf : (m : Pages) (r : Registers) (left : ℕ) → ¬ IsBadfBefore (args_of m r left)
args_not_badf m r left = call_is_other m r left (args_of m r left) (args_encoded m r left)
