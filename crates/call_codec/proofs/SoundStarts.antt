-- The segments of a start fit together.
use Rattle.std.proofs.Common.{◌≡◌, ℕ, ◌+◌, ◌*◌, ◌/◌, ◌%◌, ◌<◌, ◌≤◌, max, List, [], ◌∷◌, ◌++◌, length, sym, subst, ◌∙◌, arith, append_assoc, ap, get_or, length-append, lit≤}
use Rattle.std.proofs.lemmas.List.Elements.{All-push, All-weaker}
use Rattle.std.proofs.lemmas.List.Sums.{sum_by-le-sum_by, sum_by_push}
use Rattle.std.specs.FinMap.{empty}
use Rattle.std.specs.List.{AllPairs, sum_by}
use Rattle.elf_image.specs.declared.elf.Elf.{Elf}
use Rattle.elf_image.specs.declared.elf.Segment.{Segment}
use Rattle.elf_image.specs.Sound.{IsSound, IsSoundSegment, pages_of}
use Rattle.guest_memory.specs.Mapping.{MayMap}
use Rattle.guest_memory.specs.Page.{Pages}
use Rattle.guest_memory.proofs.PageRanges.{inside}
use Rattle.call_codec.specs.Image.{FitTogether, IsPlaced, ShareNoPage, first_page, page_count, with_segment, with_segments}
use Rattle.call_codec.specs.Start.{MayStart, block_bytes, block_of, stack, start_segments, vector_entries, vector_of}
use Rattle.call_codec.proofs.Rooms.{HasRoom, ends_before, fit_more, fit_room, room_behind}

-- ---- the segments of an image

sound_placed : (s : Segment) → IsSoundSegment s → IsPlaced s
sound_placed s h = record { low = h.low; high = omega (arith, h.high); fits = h.fits }

-- a page that bytes from an address on touch has one of their addresses
touched : (at bytes q : ℕ) → 0 < bytes → at / 4096 ≤ q → q < at / 4096 + (at % 4096 + bytes + 4095) / 4096
    → (a : ℕ) × ((at ≤ a) × (a < at + bytes)) × (a / 4096 ≡ q)
touched at bytes q some low high = (max at (4096 * q), (omega arith, omega arith), omega arith)

sound_apart : (elf : Elf) → IsSound elf → AllPairs ShareNoPage elf.segments
sound_apart elf sound i j d order below q in_one in_other =
    let one : Segment = get_or elf.segments i d in
    let other : Segment = get_or elf.segments j d in
    let low = inside (first_page one) (page_count one) q in_one in
    let high = inside (first_page other) (page_count other) q in_other in
    let a = touched one.at one.length q (sound.each i d (omega arith)).some low.0 low.1 in
    let b = touched other.at other.length q (sound.each j d below).some high.0 high.1 in
    sound.apart i j d order below a.0 b.0 a.1 b.1 (a.2 ∙ sym b.2)

same_count : (s : Segment) → page_count s ≤ pages_of s
same_count s = omega arith

pub image_fits : (elf : Elf) → IsSound elf → FitTogether elf.segments
image_fits elf sound = record {
  placed = All-weaker IsSoundSegment IsPlaced sound_placed elf.segments sound.each;
  apart = sound_apart elf sound;
  few = let most = sum_by-le-sum_by page_count pages_of elf.segments same_count in omega (arith, most, sound.few);
}

sound_end : (s : Segment) → IsSoundSegment s → first_page s + page_count s ≤ 0x2000000
sound_end s h = omega (arith, h.high)

-- ---- the stack and the start block, which lie behind the image

block_length : (elf : Elf) (argdata canary : List ℕ) (pid tid : ℕ) → length (block_bytes elf argdata canary pid tid) ≡ 192 + (length canary + length argdata)
block_length elf argdata canary pid tid =
    length-append (vector_of (vector_entries elf (length argdata) pid tid)) (canary ++ argdata) ∙ ap (λ (n : ℕ). 192 + n) (length-append canary argdata)

stack_placed : IsPlaced stack
stack_placed = record { low = lit≤ tt; high = lit≤ tt; fits = lit≤ tt }

block_placed : (bytes : List ℕ) → length bytes ≤ 0x10100 → IsPlaced (block_of bytes)
block_placed bytes short = record { low = lit≤ tt; high = omega (arith, short); fits = omega arith }

before_stack : (s : Segment) → IsSoundSegment s → ShareNoPage s stack
before_stack s h = ends_before s stack (omega (arith, sound_end s h))

before_block : (bytes : List ℕ) (s : Segment) → IsSoundSegment s → ShareNoPage s (block_of bytes)
before_block bytes s h = ends_before s (block_of bytes) (omega (arith, sound_end s h))

with_stack : (elf : Elf) → IsSound elf → FitTogether (elf.segments ++ stack ∷ [])
with_stack elf sound =
    let image = image_fits elf sound in
    fit_more elf.segments stack image stack_placed (All-weaker IsSoundSegment (λ s. ShareNoPage s stack) before_stack elf.segments sound.each)
    (let most = sum_by-le-sum_by page_count pages_of elf.segments same_count in omega (arith, most, sound.few))

with_block : (elf : Elf) (bytes : List ℕ) → IsSound elf → length bytes ≤ 0x10100 → FitTogether ((elf.segments ++ stack ∷ []) ++ block_of bytes ∷ [])
with_block elf bytes sound short =
    let behind : ShareNoPage stack (block_of bytes) = ends_before stack (block_of bytes) (lit≤ tt) in
    let sum : sum_by page_count (elf.segments ++ stack ∷ []) ≡ sum_by page_count elf.segments + page_count stack = sum_by_push page_count elf.segments stack in
    let most = sum_by-le-sum_by page_count pages_of elf.segments same_count in
    fit_more (elf.segments ++ stack ∷ []) (block_of bytes) (with_stack elf sound) (block_placed bytes short)
    (All-push (λ s. ShareNoPage s (block_of bytes)) elf.segments stack
    (All-weaker IsSoundSegment (λ s. ShareNoPage s (block_of bytes)) (before_block bytes) elf.segments sound.each) behind)
    (omega (arith, sum, most, sound.few, short))

start_fits : (elf : Elf) (argdata canary : List ℕ) (pid tid : ℕ) → MayStart elf argdata canary → FitTogether (start_segments elf argdata canary pid tid)
start_fits elf argdata canary pid tid may =
    let bytes = block_bytes elf argdata canary pid tid in
    subst FitTogether (append_assoc elf.segments (stack ∷ []) (block_of bytes ∷ []))
    (with_block elf bytes may.sound (omega (arith, block_length elf argdata canary pid tid, may.short, may.whole)))

-- ---- the memory with the image has room for both

module _ (elf : Elf) (argdata canary : List ℕ) (pid tid : ℕ) (may : MayStart elf argdata canary) where
  abbrev block : Segment
  block = block_of (block_bytes elf argdata canary pid tid)

  room : HasRoom (with_segments empty elf.segments) (stack ∷ block ∷ [])
  room = room_behind empty elf.segments (stack ∷ block ∷ []) (fit_room (start_segments elf argdata canary pid tid) (start_fits elf argdata canary pid tid may))

  module _ (m : Pages) (segments : List Segment) (s : Segment) (image : segments ≡ elf.segments) (loaded : m ≡ with_segments empty segments) (is_stack : s ≡ stack) where
    loaded_room : HasRoom m (stack ∷ block ∷ [])
    loaded_room = subst (λ (n : Pages). HasRoom n (stack ∷ block ∷ [])) (sym (loaded ∙ ap (with_segments empty) image)) room

    pub stack_has_room : MayMap m (first_page s) (page_count s)
    stack_has_room = subst (λ (t : Segment). MayMap m (first_page t) (page_count t)) (sym is_stack) loaded_room.1

    module _ (n : Pages) (b : Segment) (bytes : List ℕ) (second : n ≡ with_segment m s) (encoded : bytes ≡ block_bytes elf argdata canary pid tid) (is_block : b ≡ block_of bytes) where
      same_block : b ≡ block
      same_block = is_block ∙ ap block_of encoded

      block_room : HasRoom n (block ∷ [])
      block_room = subst (λ (x : Pages). HasRoom x (block ∷ [])) (sym (second ∙ ap (with_segment m) is_stack)) loaded_room.2

      pub block_has_room : MayMap n (first_page b) (page_count b)
      block_has_room = subst (λ (t : Segment). MayMap n (first_page t) (page_count t)) (sym same_block) block_room.1
