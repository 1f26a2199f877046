-- What registers and memory are like that encode a call.
--     call_suits      what a call gives has its room; a mapping goes where it may; mem_protect and mem_unmap that succeed are of
--                     a page's address, and mem_protect's pages are there
--     may_map_for      a mapping that is asked for may be made
--     memory_listed      what the calls about pages that are there may answer
--     few_ranges      an iovec array to read into has at most 1024 iovecs
--     keeps_pages      which calls aren't about memory
--     guests_pages      pages that are there lie in the guest's part of the address space
--     unmapped_within      pages past that part need not be taken away
use Rattle.std.proofs.Common.{◌≡◌, ◌≢◌, ℕ, zero, suc, ◌+◌, ◌-◌, ◌*◌, ◌/◌, ◌%◌, ◌<◌, ◌≤◌, ◌==◌, ◌&&◌, ◌||◌, not, inl, inr, ◌⊎◌, Bool, true, false, cond, min, nat_le, nat_lt, Option, Some, None, IsSome, Result, Ok, Err, OnOk, IfErr, refl, sym, ap, subst, ◌∙◌, arith}
use Rattle.std.proofs.lemmas.Bool.{leb-true, ltb-false}
use Rattle.std.proofs.lemmas.Bool.Decides.{eqb_tells}
use Rattle.std.specs.FinMap.{get, len}
use Rattle.guest_memory.specs.declared.fault.MemFault.{MemFault}
use Rattle.guest_memory.specs.declared.fault.MemFault.TheVariants.{NotMapped, NoRight, PageLimit, Overlaps, NoMemory}
use Rattle.abi_types.specs.declared.call.Call.{Call}
use Rattle.abi_types.specs.declared.call.Call.TheVariants.{FdPread, FdRead, MemMap, Memory}
use Rattle.abi_types.specs.declared.call_number.CallNumber.TheVariants as number
use Rattle.abi_types.specs.declared.call_number.CallNumber.{CallNumber}
use Rattle.abi_base.specs.declared.errno.Errno.{Errno}
use Rattle.abi_base.specs.declared.errno.Errno.TheVariants.{Success, Fault, Inval, Nobufs, Notsup}
use Rattle.abi_types.specs.declared.place.Place.{Place}
use Rattle.abi_types.specs.declared.place.Place.TheVariants as place
use Rattle.abi_types.specs.declared.place.Place.TheVariants.{At}
use Rattle.abi_base.specs.declared.prot.Prot.{Prot}
use Rattle.abi_base.specs.Registers.{Registers}
use Rattle.guest_memory.specs.Changes.{all_there, lowest_gap, protected, without_pages}
use Rattle.guest_memory.specs.Limits.{KeepsLimits}
use Rattle.guest_memory.specs.Mapping.{AreFree, AreProtected, AreThere, AreUnmapped, ProtectFails, IsGap, page_limit}
use Rattle.guest_memory.specs.Page.{Page, Pages}
use Rattle.guest_memory.specs.Ranges.{IsPageAddress, in_range}
use Rattle.guest_memory.proofs.Changes.{are_there, gap_of_lowest, protected_is, unmapped_is, without_free, without_none}
use Rattle.guest_memory.proofs.PageRanges.{first_true, second_true, inside, is_inside, not_both, no_page_unless, none_changed}
use Rattle.codec_arguments.specs.Reading.{◌>>=◌, refuse_when}
use Rattle.call_codec.proofs.Calls.{IsEncodedBy, args_encoded}
use Rattle.call_codec.proofs.Readings.{not_refused, passed, test_false}
use Rattle.codec_calls.specs.DescriptorCalls.{has_many}
use Rattle.codec_arguments.specs.Arguments.{argument, low}
use Rattle.call_codec.specs.Arguments.{args_of, read_of}
use Rattle.call_codec.specs.GivenLaws.{EncodedHasFewRanges}
use Rattle.call_codec.specs.Put.{HasFewRanges, KeepsPages, MayMapFor}
use Rattle.call_codec.specs.MemoryCalls.{advise_errno, has_bits, is_aligned, is_guests, is_range, is_sync, pages_in, if_mapped, mem_map_of, protect_errno, sync_errno, unmap_errno, may_map, placed_map, place_at, place_in, place_in_gap, place_of, writes_and_executes, has_one, MayMapAt, MayMapThere}

-- what these registers and this memory are like where they encode the call
abbrev pub Suits : Pages → Registers → ℕ → Call → Type 0
Suits m r left (MemMap place length prot flags fd offset) = MayMapThere m place (pages_in length)
Suits m r left (Memory it errno) =
    errno ≡ Success → IsPageAddress (argument r 0) × (it ≡ number.MemProtect → AreThere m (argument r 0 / 4096) (pages_in (argument r 1)))
Suits m r left call = IsEncodedBy m r left call

aligned_is : (a : ℕ) → is_aligned a ≡ true → IsPageAddress a
aligned_is a h = elim (eqb_tells (a % 4096) 0) [
  | inl same ↦ same.1
  | inr other ↦ absurd (not_both (is_aligned a) h other.0)
]

success_is_there : (m : Pages) (n k : ℕ) → cond (all_there m n k) Success Fault ≡ Success → all_there m n k ≡ true
success_is_there m n k = elim (all_there m n k) as (λ b. cond b Success Fault ≡ Success → b ≡ true) [ true ↦ λ h. refl | false ↦ λ h. cc ]

mapped_there : (m : Pages) (a bytes : ℕ) → if_mapped m a bytes ≡ Success → AreThere m (a / 4096) (pages_in bytes)
mapped_there m a bytes h = are_there (pages_in bytes) m (a / 4096) (success_is_there m (a / 4096) (pages_in bytes) h)

not_false : (b : Bool) → not b ≡ false → b ≡ true
not_false true h = refl
not_false false h = cc

or_not : (a b : Bool) → (a || not b) ≡ false → b ≡ true
or_not true b h = cc
or_not false b h = not_false b h

and_not : (a b : Bool) → (a && not b) ≡ false → a ≡ true → b ≡ true
and_not true b h e = not_false b h
and_not false b h e = cc

-- ---- calls about pages that are there

-- the call with this number about pages that are there answers so
abbrev IsAnsweredBy : Pages → Registers → Errno → CallNumber → Type 0
IsAnsweredBy m r errno number.MemAdvise = advise_errno m r ≡ errno
IsAnsweredBy m r errno number.MemProtect = protect_errno m r ≡ errno
IsAnsweredBy m r errno number.MemSync = sync_errno m r ≡ errno
IsAnsweredBy m r errno number.MemUnmap = unmap_errno r ≡ errno
IsAnsweredBy m r errno other = ⊥

memory_is : (m : Pages) (r : Registers) (left : ℕ) (it : CallNumber) (errno : Errno) → IsEncodedBy m r left (Memory it errno) → IsAnsweredBy m r errno it
unfolding read_of
memory_is m r left number.MemAdvise errno is = cc is
memory_is m r left number.MemProtect errno is = cc is
memory_is m r left number.MemSync errno is = cc is
memory_is m r left number.MemUnmap errno is = cc is
memory_is m r left it errno is = absurd is

-- an error that such a call may answer, or SUCCESS
abbrev pub IsMemoryErrno : Errno → Type 0
IsMemoryErrno Success = Unit {0}
IsMemoryErrno Fault = Unit {0}
IsMemoryErrno Inval = Unit {0}
IsMemoryErrno Notsup = Unit {0}
IsMemoryErrno other = ⊥

either_errno : (test : Bool) (this that : Errno) → IsMemoryErrno this → IsMemoryErrno that → IsMemoryErrno (cond test this that)
either_errno true this that h k = h
either_errno false this that h k = k

mapped_errno : (m : Pages) (a bytes : ℕ) → IsMemoryErrno (if_mapped m a bytes)
mapped_errno m a bytes = either_errno (all_there m (a / 4096) (pages_in bytes)) Success Fault tt tt

answer_listed : (m : Pages) (r : Registers) (it : CallNumber) (errno : Errno) → IsAnsweredBy m r errno it → IsMemoryErrno errno
answer_listed m r number.MemAdvise errno is =
    let a = argument r 0 in let bytes = argument r 1 in let advice = low (argument r 2) in
    subst IsMemoryErrno is
    (either_errno (nat_lt 0 advice && nat_le advice 6 && is_aligned a) (if_mapped m a bytes) Inval (mapped_errno m a bytes) tt)
answer_listed m r number.MemProtect errno is =
    let a = argument r 0 in let bytes = argument r 1 in let prot = low (argument r 2) in
    subst IsMemoryErrno is
    (either_errno (nat_lt 7 prot || not (is_aligned a)) Inval (cond (writes_and_executes prot) Notsup (if_mapped m a bytes)) tt
    (either_errno (writes_and_executes prot) Notsup (if_mapped m a bytes) tt (mapped_errno m a bytes)))
answer_listed m r number.MemSync errno is =
    let a = argument r 0 in let bytes = argument r 1 in
    subst IsMemoryErrno is
    (either_errno (is_sync (low (argument r 2)) && is_aligned a) (if_mapped m a bytes) Inval (mapped_errno m a bytes) tt)
answer_listed m r number.MemUnmap errno is =
    subst IsMemoryErrno is (either_errno (is_aligned (argument r 0) && is_range (argument r 0) (argument r 1)) Success Inval tt tt)
answer_listed m r it errno is = absurd is

pub memory_listed : (m : Pages) (r : Registers) (left : ℕ) (it : CallNumber) (errno : Errno) → IsEncodedBy m r left (Memory it errno) → IsMemoryErrno errno
memory_listed m r left it errno is = answer_listed m r it errno (memory_is m r left it errno is)

-- what isn't INVAL succeeded
not_invalid : (test : Bool) (answered : Errno) → cond test answered Inval ≡ Success → (test ≡ true) × (answered ≡ Success)
not_invalid true answered e = (refl, e)
not_invalid false answered e = absurd (cc)

not_unsupported : (invalid unsupported : Bool) (answered : Errno) → cond invalid Inval (cond unsupported Notsup answered) ≡ Success
    → (invalid ≡ false) × (answered ≡ Success)
not_unsupported true unsupported answered e = absurd (cc)
not_unsupported false true answered e = absurd (cc)
not_unsupported false false answered e = (refl, e)

-- those that succeed have a page's address, and the pages of mem_protect are there
success_suits : (m : Pages) (r : Registers) (left : ℕ) (it : CallNumber) → IsAnsweredBy m r Success it → Suits m r left (Memory it Success)
success_suits m r left number.MemAdvise is done =
    let a = argument r 0 in let advice = low (argument r 2) in let known = nat_lt 0 advice && nat_le advice 6 in
    let succeeds = not_invalid (known && is_aligned a) (if_mapped m a (argument r 1)) is in
    (aligned_is a (second_true known (is_aligned a) succeeds.0), λ protects. absurd (cc))
success_suits m r left number.MemProtect is done =
    let a = argument r 0 in let prot = low (argument r 2) in
    let succeeds = not_unsupported (nat_lt 7 prot || not (is_aligned a)) (writes_and_executes prot) (if_mapped m a (argument r 1)) is in
    (aligned_is a (or_not (nat_lt 7 prot) (is_aligned a) succeeds.0), λ protects. mapped_there m a (argument r 1) succeeds.1)
success_suits m r left number.MemSync is done =
    let a = argument r 0 in let known = is_sync (low (argument r 2)) in
    let succeeds = not_invalid (known && is_aligned a) (if_mapped m a (argument r 1)) is in
    (aligned_is a (second_true known (is_aligned a) succeeds.0), λ protects. absurd (cc))
success_suits m r left number.MemUnmap is done =
    let a = argument r 0 in let within = is_range a (argument r 1) in
    let succeeds = not_invalid (is_aligned a && within) Success is in
    (aligned_is a (first_true (is_aligned a) within succeeds.0), λ protects. absurd (cc))
success_suits m r left it is done = absurd is

memory_suits : (m : Pages) (r : Registers) (left : ℕ) (it : CallNumber) (errno : Errno) → IsEncodedBy m r left (Memory it errno) → Suits m r left (Memory it errno)
memory_suits m r left it errno is done =
    success_suits m r left it (subst (λ e. IsAnsweredBy m r e it) done (memory_is m r left it errno is)) refl

-- ---- where a mapping goes

fixed_may : (m : Pages) (a k : ℕ) → is_aligned a ≡ true → is_guests a k ≡ true → nat_le (len (without_pages m (a / 4096) k) + k) page_limit ≡ true → MayMapAt m a k
fixed_may m a k page guests room = record {
  page = aligned_is a page;
  low = leb-true 0x10000 a (first_true (nat_le 0x10000 a) (nat_le (a + 4096 * k) 0x4000000000) guests);
  high = leb-true (a + 4096 * k) 0x4000000000 (second_true (nat_le 0x10000 a) (nat_le (a + 4096 * k) 0x4000000000) guests);
  room = leb-true (len (without_pages m (a / 4096) k) + k) page_limit room;
}

either_good : (m : Pages) (k : ℕ) (b : Bool) (x y : Place) → (b ≡ true → MayMapThere m x k) → (b ≡ false → MayMapThere m y k) → MayMapThere m (cond b x y) k
either_good m k true x y h i = h refl
either_good m k false x y h i = i refl

fixed_good : (m : Pages) (a k : ℕ) → (is_aligned a && is_guests a k) ≡ true → MayMapThere m (place_at m a k) k
fixed_good m a k h =
    either_good m k (nat_le (len (without_pages m (a / 4096) k) + k) page_limit) (At a) (place.Refused Nobufs)
    (fixed_may m a k (first_true (is_aligned a) (is_guests a k) h) (second_true (is_aligned a) (is_guests a k) h)) (λ e. tt)

no_more : (n : ℕ) → n ≡ n + 0
no_more n = omega arith

none_less : (n : ℕ) → n ≡ 0 + n
none_less n = omega arith

free_room : (m : Pages) (a k : ℕ) → IsGap m k a → len (without_pages m (a / 4096) k) ≡ len m
free_room m a k gap =
    let free = subst (λ n. AreFree m n k) (no_more (a / 4096)) gap.free in
    ap len (ap (without_pages m (a / 4096)) (none_less k) ∙ without_free m (a / 4096) 0 k free ∙ without_none m (a / 4096))

gap_good : (m : Pages) (k : ℕ) (gap : Option ℕ) → lowest_gap m k ≡ gap → len m + k ≤ page_limit → MayMapThere m (place_in gap) k
gap_good m k None is fits = tt
gap_good m k (Some a) is fits =
    let gap = gap_of_lowest m k a is in
    let bottom = gap.low in
    let top = gap.high in
    record { page = gap.place; low = omega arith; high = omega arith; room = omega (arith, free_room m a k gap) }

in_gap_good : (m : Pages) (k : ℕ) → MayMapThere m (place_in_gap m k) k
in_gap_good m k =
    either_good m k (nat_le (len m + k) page_limit) (place_in (lowest_gap m k)) (place.Refused Nobufs)
    (λ e. gap_good m k (lowest_gap m k) refl (leb-true (len m + k) page_limit e)) (λ e. tt)

place_good : (m : Pages) (a bytes prot flags offset : ℕ) (x : Unit {0}) → may_map a bytes prot flags offset ≡ Ok x
    → MayMapThere m (place_of m a flags (pages_in bytes)) (pages_in bytes)
place_good m a bytes prot flags offset x h =
    let k = pages_in bytes in
    let outside = has_bits flags 2 && not (is_aligned a && is_guests a k) in
    let known = not_refused (nat_lt 7 prot || nat_lt 15 flags || bytes == 0) Inval _ x h in
    let one = not_refused (not (has_one flags 4 8)) Inval _ x known.1 in
    let page = not_refused (not (is_aligned offset)) Inval _ x one.1 in
    let private = not_refused (has_bits flags 8) Notsup _ x page.1 in
    let apart = not_refused (writes_and_executes prot) Notsup _ x private.1 in
    let within = test_false outside Inval x apart.1 in
    either_good m k (has_bits flags 2) (place_at m a k) (place_in_gap m k)
    (λ e. fixed_good m a k (and_not (has_bits flags 2) (is_aligned a && is_guests a k) within e)) (λ e. in_gap_good m k)

map_suits : (m : Pages) (r : Registers) (left : ℕ) (call : Call) → mem_map_of m r ≡ Ok call → Suits m r left call
map_suits m r left call is =
    let may = passed (may_map (argument r 0) (argument r 1) (low (argument r 2)) (low (argument r 3)) (argument r 5)) _ call is in
    let placed : placed_map m r ≡ call = cc may.2 in
    subst (Suits m r left) placed (place_good m (argument r 0) (argument r 1) (low (argument r 2)) (low (argument r 3)) (argument r 5) may.0 may.1)

-- ---- all of them

suits : (m : Pages) (r : Registers) (left : ℕ) (call : Call) → IsEncodedBy m r left call → Suits m r left call
unfolding read_of
suits m r left (MemMap place length prot flags fd offset) is = map_suits m r left (MemMap place length prot flags fd offset) is
suits m r left (Memory it errno) is = memory_suits m r left it errno is
suits m r left call is = is

pub call_suits : (m : Pages) (r : Registers) (left : ℕ) (call : Call) → call ≡ args_of m r left → Suits m r left call
call_suits m r left call encoded = suits m r left call (subst (IsEncodedBy m r left) (sym encoded) (args_encoded m r left))

may_map_suits : (m : Pages) (r : Registers) (left : ℕ) (call : Call) → Suits m r left call → MayMapFor m call
may_map_suits m r left (MemMap place length prot flags fd offset) h = h
may_map_suits m r left call h = tt

pub may_map_for : (m : Pages) (r : Registers) (left : ℕ) (call : Call) → call ≡ args_of m r left → MayMapFor m call
may_map_for m r left call encoded = may_map_suits m r left call (call_suits m r left call encoded)

-- ---- iovec arrays

-- what isn't refused has at most 1024 iovecs
few_iovecs : (count : ℕ) (rest : Unit {0} → Result Call Errno) (call : Call) → (refuse_when (has_many count) Inval >>= rest) ≡ Ok call → count ≤ 1024
few_iovecs count rest call is = let few = not_refused (has_many count) Inval rest call is in ltb-false 1024 count few.0

few_of_pread : (m : Pages) (r : Registers) (left : ℕ) (fd length offset : ℕ) → IsEncodedBy m r left (FdPread fd length offset) → argument r 2 ≤ 1024
unfolding read_of
few_of_pread m r left fd length offset is = few_iovecs (argument r 2) _ (FdPread fd length offset) is

few_of_read : (m : Pages) (r : Registers) (left : ℕ) (fd length : ℕ) → IsEncodedBy m r left (FdRead fd length) → argument r 2 ≤ 1024
unfolding read_of
few_of_read m r left fd length is = few_iovecs (argument r 2) _ (FdRead fd length) is

suits_few : (m : Pages) (r : Registers) (left : ℕ) (call : Call) → Suits m r left call → HasFewRanges r call
suits_few m r left (FdPread fd length offset) is = few_of_pread m r left fd length offset is
suits_few m r left (FdRead fd length) is = few_of_read m r left fd length is
suits_few m r left call is = tt

pub few_ranges : EncodedHasFewRanges
few_ranges m r left call encoded = suits_few m r left call (call_suits m r left call encoded)

-- ---- calls that aren't about memory

pub keeps_pages : (call : Call) → ((place : Place) (length prot flags fd offset : ℕ) → call ≢ MemMap place length prot flags fd offset)
    → ((it : CallNumber) (errno : Errno) → call ≢ Memory it errno) → KeepsPages call
keeps_pages (MemMap place length prot flags fd offset) no_map no_change = absurd (no_map place length prot flags fd offset refl)
keeps_pages (Memory it errno) no_map no_change = absurd (no_change it errno refl)
keeps_pages call no_map no_change = tt

-- ---- the guest's part of the address space

not_none : (page : Option Page) → page ≡ None → IsSome page → ⊥
not_none None h there = cc
not_none (Some page) h there = cc

page_low : (m : Pages) → KeepsLimits m → (q : ℕ) (page : Option Page) → get m q ≡ page → IsSome page → q < 0x4000000
page_low m limits q None is there = cc
page_low m limits q (Some page) is there = let high = limits.high q page is in omega arith

-- pages that are there lie in the guest's part of the address space
pub guests_pages : (m : Pages) → KeepsLimits m → (n k : ℕ) → AreThere m n k → (k ≡ 0) ⊎ (n + k ≤ 0x4000000)
guests_pages m limits n zero there = inl refl
guests_pages m limits n (suc k) there =
    let last = page_low m limits (n + k) (get m (n + k)) refl (there (n + k) (is_inside n (suc k) (n + k) (omega arith) (omega arith))) in
    inr (omega (arith, last))

pub past_guests : (m : Pages) → KeepsLimits m → (q : ℕ) → 0x4000000 ≤ q → get m q ≡ None
past_guests m limits q past = no_page_unless (get m q) (λ there. let low = page_low m limits q (get m q) refl there in absurd (omega (arith, low, past)))

-- what is not in the smaller range is not there, or not in the greater
beyond : (m : Pages) (n j k q : ℕ) → KeepsLimits m → (k ≡ j) ⊎ (0x4000000 ≤ n + j) → in_range n j q ≡ false → cond (in_range n k q) None (get m q) ≡ get m q
beyond m n j k q limits (inl same) e = ap (λ b. cond b None (get m q)) (ap (λ i. in_range n i q) same ∙ e)
beyond m n j k q limits (inr far) e =
    elim (in_range n k q) as (λ b. in_range n k q ≡ b → cond b None (get m q) ≡ get m q) [
      | true ↦ λ f.
          let place = inside n k q f in
          let not_low : q < n + j → ⊥ = λ low. not_both (in_range n j q) (is_inside n j q place.0 low) e in
          sym (past_guests m limits q (omega (arith, not_low, far)))
      | false ↦ λ f. refl
    ] refl

-- taking away the pages that can be there takes away all
pub unmapped_within : (m after : Pages) (n j k : ℕ) → KeepsLimits m → j ≤ k → (k ≡ j) ⊎ (0x4000000 ≤ n + j) → AreUnmapped m n j after → after ≡ without_pages m n k
unmapped_within m after n j k limits less reach h = unmapped_is m after n k (λ q.
    elim (in_range n j q) as (λ b. in_range n j q ≡ b → get after q ≡ cond (in_range n k q) None (get m q)) [
      | true ↦ λ e.
          let place = inside n j q e in
          h q ∙ ap (λ b. cond b None (get m q)) (e ∙ sym (is_inside n k q place.0 (omega (arith, place.1))))
      | false ↦ λ e. h q ∙ ap (λ b. cond b None (get m q)) e ∙ sym (beyond m n j k q limits reach e)
    ] refl)

-- ---- what the calls of guest_memory come to

pub few_pages : (n k : ℕ) → (k ≡ 0) ⊎ (n + k ≤ 0x4000000) → k < 4294967296
few_pages n k (inl none) = omega (arith, none)
few_pages n k (inr some) = omega (arith, some)

pub ends_below : (a k : ℕ) → a % 4096 ≡ 0 → a < 18446744073709551616 → (k ≡ 0) ⊎ (a / 4096 + k ≤ 0x4000000) → a + 4096 * k ≤ 18446744073709551616
ends_below a k page fits (inl none) = omega (arith, none, fits)
ends_below a k page fits (inr some) = omega (arith, some, page)

not_there_and_missing : (m : Pages) (n k : ℕ) (fault : MemFault) → AreThere m n k → ProtectFails m n k fault → ⊥
not_there_and_missing m n k (NotMapped a) there h = not_none (get m (a / 4096)) h.holds (there (a / 4096) h.within)
not_there_and_missing m n k (NoRight a) there h = h
not_there_and_missing m n k PageLimit there h = h
not_there_and_missing m n k (Overlaps a) there h = h
not_there_and_missing m n k NoMemory there h = h

-- pages that are there can be given other rights
pub is_protected : (result : Result Unit MemFault) (m after : Pages) (n k : ℕ) (prot : Prot) → AreThere m n k → OnOk result (AreProtected m n k prot after)
    → IfErr result (ProtectFails m n k) → after ≡ protected m n k prot
is_protected (Ok done) m after n k prot there ok err = protected_is m after n k prot ok
is_protected (Err fault) m after n k prot there ok err = absurd (not_there_and_missing m n k fault there err)

-- as many of k pages as there can be
pub clipped : (a k j : ℕ) → a % 4096 ≡ 0 → a < 0x4000000000 → j ≡ min k ((0x4000000000 - a) / 4096) → (j ≤ k) × ((k ≡ j) ⊎ (0x4000000 ≤ a / 4096 + j))
clipped a k j page low is = (
  omega (arith, is),
  elim (eqb_tells k j) [
    | inl same ↦ inl same.1
    | inr other ↦ let clip = other.1 in inr (omega (arith, is, clip, page, low))
  ],
)

pub past_end : (a : ℕ) → 0x4000000000 ≤ a → 0x4000000 ≤ a / 4096 + 0
past_end a far = omega (arith, far)

pub none_unmapped : (m : Pages) (n : ℕ) → AreUnmapped m n 0 m
none_unmapped m n = none_changed (λ _. None) m n
