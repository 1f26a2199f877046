-- Where a memory has room for segments.
--     not_unprotected, only_memory      what keeps a page from being protected, or from being mapped
--     next_page      a segment's pages, one after another
--     HasRoom, fit_room, room_behind      room for segments, one after another
--     fit_more, ends_before      one segment more
use Rattle.std.proofs.Common.{◌≡◌, ℕ, zero, suc, ◌+◌, ◌/◌, ◌<◌, ◌≤◌, false, List, [], ◌∷◌, ◌++◌, length, drop, get_or, Option, Some, None, IsSome, refl, sym, ap, subst, ◌∙◌, arith, drop-cons}
use Rattle.std.proofs.lemmas.List.Elements.{All-head, All-push, All-tail}
use Rattle.std.proofs.lemmas.List.Quantifiers.{all_pairs_push}
use Rattle.std.proofs.lemmas.List.Sums.{sum_by-cons, sum_by_push}
use Rattle.std.specs.FinMap.{empty, get, get-empty, insert, len, len-empty}
use Rattle.std.specs.List.{All, AllPairs, sum_by}
use Rattle.std.specs.Ordering.{nat_cmp}
use Rattle.elf_image.specs.declared.elf.Segment.{Segment}
use Rattle.guest_memory.specs.declared.fault.MemFault.{MemFault}
use Rattle.guest_memory.specs.declared.fault.MemFault.TheVariants.{NotMapped, NoRight, PageLimit, Overlaps, NoMemory}
use Rattle.guest_memory.specs.Mapping.{AreFree, MapFails, MayMap, ProtectFails}
use Rattle.guest_memory.specs.Page.{Page, Pages}
use Rattle.guest_memory.specs.Ranges.{in_range}
use Rattle.guest_memory.proofs.PageRanges.{end_outside, inside, is_inside, is_outside, not_both}
use Rattle.maps.specs.Maps.{get-insert-other, len-insert_new}
use Rattle.call_codec.specs.Image.{FitTogether, IsPlaced, ShareNoPage, first_page, page_count, page_of, with_pages, with_segment, with_segments}

-- ---- what keeps a page from being mapped or protected

not_missing : (o : Option Page) (page : Page) → o ≡ Some page → o ≡ None → ⊥
not_missing None page there missing = cc
not_missing (Some other) page there missing = cc

some_not_none : (o : Option Page) → IsSome o → o ≡ None → ⊥
some_not_none None there missing = cc
some_not_none (Some page) there missing = cc

-- a page that is there can be given other rights
pub not_unprotected : (m : Pages) (n : ℕ) (page : Page) (fault : MemFault) → get m n ≡ Some page → ProtectFails m n 1 fault → ⊥
not_unprotected m n page (NotMapped a) there h =
    let range = inside n 1 (a / 4096) h.within in
    let same : a / 4096 ≡ n = omega (arith, range.0, range.1) in
    not_missing (get m n) page there (ap (get m) (sym same) ∙ h.holds)
not_unprotected m n page (NoRight a) there h = h
not_unprotected m n page PageLimit there h = h
not_unprotected m n page (Overlaps a) there h = h
not_unprotected m n page NoMemory there h = h

-- where a page may be mapped, mapping it fails only where memory runs out
pub only_memory : (m : Pages) (n k : ℕ) (fault : MemFault) → MayMap m n k → MapFails m n k fault → fault ≡ NoMemory
only_memory m n k (NotMapped a) may h = absurd h
only_memory m n k (NoRight a) may h = absurd h
only_memory m n k PageLimit may h = absurd (omega (arith, may.fits, h.1))
only_memory m n k (Overlaps a) may h = absurd (some_not_none (get m (a / 4096)) h.holds (may.free (a / 4096) h.within))
only_memory m n k NoMemory may h = refl

-- ---- a segment's pages

-- all other pages stay
pages_elsewhere : (m : Pages) (s : Segment) (k q : ℕ) → in_range (first_page s) k q ≡ false → get (with_pages m s k) q ≡ get m q
pages_elsewhere m s zero q out = refl
pages_elsewhere m s (suc k) q out =
    let n = first_page s in
    get-insert-other (with_pages m s k) (n + k) (page_of s k) q
    (λ same. not_both (in_range n (suc k) q) (is_inside n (suc k) q (omega (arith, same)) (omega (arith, same))) out)
    ∙ pages_elsewhere m s k q (is_outside n k q (λ low high. not_both (in_range n (suc k) q) (is_inside n (suc k) q low (omega (arith, high))) out))

-- the first of free pages are free
fewer_free : (m : Pages) (n k j : ℕ) → j ≤ k → AreFree m n k → AreFree m n j
fewer_free m n k j less free q within = let place = inside n j q within in free q (is_inside n k q place.0 (omega (arith, place.1)))

-- the next page is free
pages_free : (m : Pages) (s : Segment) (k : ℕ) → AreFree m (first_page s) (suc k) → get (with_pages m s k) (first_page s + k) ≡ None
pages_free m s k free =
    let n = first_page s in
    pages_elsewhere m s k (n + k) (end_outside n k) ∙ free (n + k) (is_inside n (suc k) (n + k) (omega arith) (omega arith))

pages_len : (m : Pages) (s : Segment) (k : ℕ) → AreFree m (first_page s) k → len (with_pages m s k) ≡ len m + k
pages_len m s zero free = omega arith
pages_len m s (suc k) free =
    let before : len (with_pages m s k) ≡ len m + k = pages_len m s k (fewer_free m (first_page s) (suc k) k (omega arith) free) in
    let last : len (insert (with_pages m s k) (first_page s + k) (page_of s k)) ≡ len (with_pages m s k) + 1 =
    len-insert_new (with_pages m s k) (first_page s + k) (page_of s k) (pages_free m s k free) in
    omega (arith, before, last)

-- the next page of a segment may be mapped
pub next_page : (m n : Pages) (s : Segment) (count index : ℕ) → count ≡ page_count s → index < count → n ≡ with_pages m s index
    → MayMap m (first_page s) (page_count s) → MayMap n (first_page s + index) 1
next_page m n s count index all below so_far room =
    let free : AreFree m (first_page s) (suc index) = fewer_free m (first_page s) (page_count s) (suc index) (omega (arith, all, below)) room.free in
    let few = pages_len m s index (fewer_free m (first_page s) (suc index) index (omega arith) free) in
    subst (λ (x : Pages). MayMap x (first_page s + index) 1) (sym so_far) (record {
      free = λ q within.
          let place = inside (first_page s + index) 1 q within in
          let same : q ≡ first_page s + index = omega (arith, place.0, place.1) in
          ap (get (with_pages m s index)) same ∙ pages_free m s index free;
      fits = omega (arith, few, room.fits, all, below);
    })

segment_elsewhere : (m : Pages) (s : Segment) (q : ℕ) → in_range (first_page s) (page_count s) q ≡ false → get (with_segment m s) q ≡ get m q
unfolding with_segment
segment_elsewhere m s q out = pages_elsewhere m s (page_count s) q out

segment_len : (m : Pages) (s : Segment) → AreFree m (first_page s) (page_count s) → len (with_segment m s) ≡ len m + page_count s
unfolding with_segment
segment_len m s free = pages_len m s (page_count s) free

-- ---- segments, one after another

-- the memory has room for each segment when it comes
abbrev pub HasRoom : Pages → List Segment → Type 0
HasRoom m [] = Unit {0}
HasRoom m (s ∷ segments) = IsPlaced s × MayMap m (first_page s) (page_count s) × HasRoom (with_segment m s) segments

abbrev AreAllFree : Pages → List Segment → Type 0
AreAllFree m segments = All (λ s. AreFree m (first_page s) (page_count s)) segments

-- the pages of later segments stay free
still_free : (m : Pages) (s : Segment) (segments : List Segment) → AllPairs ShareNoPage (s ∷ segments) → AreAllFree m segments
    → AreAllFree (with_segment m s) segments
still_free m s segments apart free k d below q within =
    let other = λ (low : first_page s ≤ q) (high : q < first_page s + page_count s).
    apart zero (suc k) d (omega arith) (omega arith) q (is_inside (first_page s) (page_count s) q low high) within in
    segment_elsewhere m s q (is_outside (first_page s) (page_count s) q other) ∙ free k d below q within

has_room : (segments : List Segment) (m : Pages) → All IsPlaced segments → AllPairs ShareNoPage segments → AreAllFree m segments
    → len m + sum_by page_count segments ≤ 65536 → HasRoom m segments
has_room [] m placed apart free few = tt
has_room (s ∷ segments) m placed apart free few =
    let mine = All-head (λ t. AreFree m (first_page t) (page_count t)) s segments free in
    let others = All-tail (λ t. AreFree m (first_page t) (page_count t)) s segments free in
    let parts : sum_by page_count (s ∷ segments) ≡ page_count s + sum_by page_count segments = sum_by-cons page_count s segments in
    let more = segment_len m s mine in (
      All-head IsPlaced s segments placed,
      record { free = mine; fits = omega (arith, parts, few) },
      has_room segments (with_segment m s) (All-tail IsPlaced s segments placed)
          (λ i j d order below. apart (suc i) (suc j) d (omega arith) (omega arith))
          (still_free m s segments apart others) (omega (arith, parts, few, more)),
    )

pub fit_room : (segments : List Segment) → FitTogether segments → HasRoom empty segments
fit_room segments fit =
    has_room segments empty fit.placed fit.apart (λ k d below q within. get-empty nat_cmp q) (omega (arith, len-empty nat_cmp Page, fit.few))

-- behind the first segments there is room for the others
pub room_behind : (m : Pages) (front rest : List Segment) → HasRoom m (front ++ rest) → HasRoom (with_segments m front) rest
room_behind m [] rest room = room
room_behind m (s ∷ front) rest room = room_behind (with_segment m s) front rest room.2

-- the next segment has room, and behind it so have the others
pub next_room : (m : Pages) (segments : List Segment) (i : ℕ) (d : Segment) → i < length segments → HasRoom m (drop i segments)
    → HasRoom m (get_or segments i d ∷ drop (suc i) segments)
next_room m segments i d below room = subst (HasRoom m) (drop-cons segments i d below) room

-- ---- one segment more

pub ends_before : (one other : Segment) → first_page one + page_count one ≤ first_page other → ShareNoPage one other
ends_before one other before q in_one in_other =
    let low = inside (first_page one) (page_count one) q in_one in
    let high = inside (first_page other) (page_count other) q in_other in
    omega (arith, before, low.1, high.0)

pub fit_more : (segments : List Segment) (s : Segment) → FitTogether segments → IsPlaced s → All (λ t. ShareNoPage t s) segments
    → sum_by page_count segments + page_count s ≤ 65536 → FitTogether (segments ++ s ∷ [])
fit_more segments s fit placed apart few = record {
  placed = All-push IsPlaced segments s fit.placed placed;
  apart = all_pairs_push ShareNoPage segments s fit.apart apart;
  few = let sum = sum_by_push page_count segments s in omega (arith, sum, few);
}
