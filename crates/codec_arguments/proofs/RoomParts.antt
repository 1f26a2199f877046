-- The room of an iovec array, one range after another.
use Rattle.std.proofs.Common.{◌≡◌, ℕ, zero, suc, ◌+◌, ◌-◌, ◌%◌, ◌^◌, ◌<◌, min, List, Result, Ok, Err, refl, ap, ◌∙◌, arith}
use Rattle.abi_base.specs.declared.errno.Errno.{Errno}
use Rattle.abi_base.specs.declared.errno.Errno.TheVariants.{Fault}
use Rattle.abi_structures.specs.declared.structures.Iovec.{Iovec}
use Rattle.guest_memory.specs.declared.access.Access.TheVariants.{Write}
use Rattle.guest_memory.specs.declared.fault.MemFault.{MemFault}
use Rattle.guest_memory.specs.Bytes.{bytes_at, bytes_from}
use Rattle.guest_memory.specs.Page.{Pages}
use Rattle.codec_arguments.specs.Arrays.{array_at, in_front}
use Rattle.codec_arguments.specs.Ranges.{counted, part_of, range_in, ranges_at, room_of}
use Rattle.codec_arguments.specs.Reading.{◌>>=◌, or_fault}

-- how many bytes the ranges that were read have, where there is room for so many
abbrev pub room_after : Pages → ℕ → Result (List Iovec) MemFault → Result ℕ Errno
room_after m room (Ok ranges) = or_fault (room_of m room ranges)
room_after m room (Err fault) = Err Fault

-- so many bytes and those that are left, if they may be written
abbrev pub after_count : ℕ → Result ℕ Errno → Result ℕ Errno
after_count done (Ok n) = Ok (done + n)
after_count done (Err errno) = Err errno

none_behind : (n : ℕ) (before : Result (List ℕ) MemFault)
    → Err Fault ≡ (((or_fault before >>= λ bytes. Ok tt) >>= λ (may : Unit {0}). Ok n) >>= λ k. after_count k (Err Fault))
none_behind n (Ok bytes) = refl
none_behind n (Err fault) = refl

some_behind : (n : ℕ) (before : Result (List ℕ) MemFault) (others : ℕ → Result ℕ MemFault)
    → or_fault (counted n before (others n)) ≡ (((or_fault before >>= λ bytes. Ok tt) >>= λ (may : Unit {0}). Ok n) >>= λ k. after_count k (or_fault (others k)))
some_behind n (Ok bytes) others = counted_all (others n)
  where
    counted_all : (rest : Result ℕ MemFault) → or_fault (counted n (Ok bytes) rest) ≡ after_count n (or_fault rest)
    counted_all (Ok k) = refl
    counted_all (Err fault) = refl
some_behind n (Err fault) others = refl

first_part : (m : Pages) (room : ℕ) (first : Result Iovec MemFault) (rest : Result (List Iovec) MemFault)
    → room_after m room (in_front first rest) ≡ (part_of m room first >>= λ n. after_count n (room_after m (room - n) rest))
first_part m room (Ok range) (Ok ranges) =
    let n = min range.length room in some_behind n (bytes_from Write m range.address n) (λ k. room_of m (room - k) ranges)
first_part m room (Ok range) (Err fault) =
    let n = min range.length room in none_behind n (bytes_from Write m range.address n)
first_part m room (Err fault) rest = refl

one_part : (m : Pages) (room a n k : ℕ) → n ≡ suc k
    → room_after m room (ranges_at m a n)
    ≡ (part_of m room (range_in (bytes_at m a 16)) >>= λ done. after_count done (room_after m (room - done) (ranges_at m ((a + 16) % 2 ^ 64) k)))
unfolding array_at
one_part m room a zero k same = absurd (omega arith)
one_part m room a (suc n) k same =
    let last : n ≡ k = omega arith in
    first_part m room (range_in (bytes_at m a 16)) (ranges_at m ((a + 16) % 2 ^ 64) n)
    ∙ ap (λ j. part_of m room (range_in (bytes_at m a 16)) >>= λ done. after_count done (room_after m (room - done) (ranges_at m ((a + 16) % 2 ^ 64) j))) last

-- the part of the range at a place of the array, and then the rest
next_part : (m : Pages) (room a count i : ℕ) → i < count
    → room_after m room (ranges_at m a (count - i))
    ≡ (part_of m room (range_in (bytes_at m a 16)) >>= λ done. after_count done (room_after m (room - done) (ranges_at m ((a + 16) % 2 ^ 64) (count - (i + 1)))))
next_part m room a count i below = one_part m room a (count - i) (count - (i + 1)) (omega arith)

-- no range is left
pub no_part : (m : Pages) (room a n done : ℕ) → n ≡ 0 → after_count done (room_after m room (ranges_at m a n)) ≡ Ok done
unfolding array_at
no_part m room a zero done e = let same : done + 0 ≡ done = omega arith in ap Ok same
no_part m room a (suc n) done e = absurd (omega arith)

-- some bytes and then some more
count_both : (done n all : ℕ) (rest : Result ℕ Errno) → done + n ≡ all → after_count done (after_count n rest) ≡ after_count all rest
count_both done n all (Ok k) e = let same : done + (n + k) ≡ all + k = omega arith in ap Ok same
count_both done n all (Err errno) e = refl

after_part : (done : ℕ) (first : Result ℕ Errno) (rest : ℕ → Result ℕ Errno) (errno : Errno) → first ≡ Err errno
    → after_count done (first >>= λ n. after_count n (rest n)) ≡ Err errno
after_part done (Ok n) rest errno e = absurd (cc)
after_part done (Err other) rest errno e = let same : other ≡ errno = cc in ap Err same

-- the bytes of the range at a place of the array may not be written, or it can't be read
pub part_faults : (m : Pages) (room a count i done : ℕ) (errno : Errno) → i < count → part_of m room (range_in (bytes_at m a 16)) ≡ Err errno
    → after_count done (room_after m room (ranges_at m a (count - i))) ≡ Err errno
part_faults m room a count i done errno below e =
    ap (after_count done) (next_part m room a count i below)
    ∙ after_part done (part_of m room (range_in (bytes_at m a 16))) (λ n. room_after m (room - n) (ranges_at m ((a + 16) % 2 ^ 64) (count - (i + 1)))) errno e

with_part : (done n all : ℕ) (first : Result ℕ Errno) (rest : ℕ → Result ℕ Errno) → first ≡ Ok n → done + n ≡ all
    → after_count done (first >>= λ k. after_count k (rest k)) ≡ after_count all (rest n)
with_part done n all (Ok k) rest e same =
    let this : k ≡ n = cc in
    ap (λ (j : ℕ). after_count done (after_count j (rest j))) this ∙ count_both done n all (rest n) same
with_part done n all (Err errno) rest e same = absurd (cc)

-- its bytes are counted
pub part_counts : (m : Pages) (room a count i done n all : ℕ) → i < count → part_of m room (range_in (bytes_at m a 16)) ≡ Ok n → done + n ≡ all
    → after_count done (room_after m room (ranges_at m a (count - i)))
    ≡ after_count all (room_after m (room - n) (ranges_at m ((a + 16) % 2 ^ 64) (count - (i + 1))))
part_counts m room a count i done n all below e same =
    ap (after_count done) (next_part m room a count i below)
    ∙ with_part done n all (part_of m room (range_in (bytes_at m a 16))) (λ k. room_after m (room - k) (ranges_at m ((a + 16) % 2 ^ 64) (count - (i + 1)))) e same
