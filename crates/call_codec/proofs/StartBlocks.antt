-- The bytes of the segment that was loaded last stand at its address; and so do the parts of the start block.
use Rattle.std.proofs.Common.{◌≡◌, ℕ, zero, suc, ◌+◌, ◌*◌, ◌/◌, ◌%◌, ◌^◌, ◌<◌, ◌≤◌, inl, inr, true, cond, List, [], ◌∷◌, ◌++◌, length, replicate, take, drop, get_or, Some, Result, Ok, Err, refl, sym, ap, subst, ◌∙◌, arith, append_assoc, append-nil, length-append, length-drop, get_or-drop, get_or-take}
use Rattle.std.proofs.lemmas.Bool.Decides.{eqb_tells}
use Rattle.std.proofs.lemmas.List.{get_or-append-add, get_or_append_left, length-replicate}
use Rattle.std.proofs.Math.Seq.{get_or-append_seam}
use Rattle.std.specs.FinMap.{empty, get}
use Rattle.maps.specs.Maps.{get-insert-same, get-insert-other}
use Rattle.elf_image.specs.declared.elf.Elf.{Elf}
use Rattle.elf_image.specs.declared.elf.Segment.{Segment}
use Rattle.guest_memory.specs.declared.access.Access.TheVariants.{Read}
use Rattle.guest_memory.specs.declared.fault.MemFault.{MemFault}
use Rattle.guest_memory.specs.declared.fault.MemFault.TheVariants.{NoRight}
use Rattle.guest_memory.specs.Bytes.{byte_at, byte_in, bytes_at, bytes_from, in_front}
use Rattle.guest_memory.specs.Page.{Pages}
use Rattle.call_codec.specs.Image.{content, page_count, page_of, with_pages, with_segment, with_segments}
use Rattle.call_codec.specs.Start.{block_bytes, block_of, stack, start_pages, vector_entries, vector_of}
use Rattle.call_codec.specs.StartBlock.{VectorStands, CanaryStands, ArgdataStands}

-- ---- a segment's bytes

-- each of the segment's pages is there
page_there : (m : Pages) (s : Segment) (count index : ℕ) → index < count → get (with_pages m s count) (s.at / 4096 + index) ≡ Some (page_of s index)
page_there m s zero index below = absurd (omega arith)
page_there m s (suc count) index below =
    elim (eqb_tells index count) [
      | inl same ↦ subst (λ (i : ℕ). get (with_pages m s (suc count)) (s.at / 4096 + i) ≡ Some (page_of s i)) (sym same.1) (get-insert-same (with_pages m s count) (s.at / 4096 + count) (page_of s count))
      | inr other ↦
          get-insert-other (with_pages m s count) (s.at / 4096 + count) (page_of s count) (s.at / 4096 + index) (λ same. other.1 (omega arith))
          ∙ page_there m s count index (omega arith)
    ]

-- a byte of a page that is cut out of some content
byte_of_page : (bytes : List ℕ) (i r j : ℕ) → 4096 * i + r ≡ j → r < 4096 → j < length bytes
    → get_or (take 4096 (drop (4096 * i) bytes ++ replicate 4096 0)) r 0 ≡ get_or bytes j 0
byte_of_page bytes i r j place small inside =
    get_or-take 4096 (drop (4096 * i) bytes ++ replicate 4096 0) r 0 small
    ∙ get_or_append_left (drop (4096 * i) bytes) (replicate 4096 0) 0 r (omega (arith, length-drop (4096 * i) bytes))
    ∙ get_or-drop (4096 * i) bytes r 0
    ∙ ap (λ (n : ℕ). get_or bytes n 0) place

-- a byte behind zeros
byte_behind : (p : ℕ) (bytes : List ℕ) (k : ℕ) → get_or (replicate p 0 ++ bytes) (p + k) 0 ≡ get_or bytes k 0
byte_behind p bytes k =
    let skip : p + k ≡ length (replicate {A = ℕ} p 0) + k = omega (arith, length-replicate {A = ℕ} p 0) in
    ap (λ (n : ℕ). get_or (replicate p 0 ++ bytes) n 0) skip ∙ get_or-append-add (replicate p 0) bytes k 0

-- each byte of the segment is there
byte_there : (m : Pages) (s : Segment) (k : ℕ) → s.prot.read ≡ true → length s.bytes ≤ s.length → k < length s.bytes
    → byte_at Read (with_segment m s) (s.at + k) ≡ Ok (get_or s.bytes k 0)
unfolding with_segment
byte_there m s k readable fits inside =
    let page : (s.at + k) / 4096 ≡ s.at / 4096 + (s.at % 4096 + k) / 4096 = omega arith in
    let below : (s.at % 4096 + k) / 4096 < page_count s = omega arith in
    let place : 4096 * ((s.at % 4096 + k) / 4096) + (s.at + k) % 4096 ≡ s.at % 4096 + k = omega arith in
    let small : (s.at + k) % 4096 < 4096 = omega arith in
    let within : s.at % 4096 + k < length (content s) = omega (arith, length-append (replicate (s.at % 4096) 0) s.bytes, length-replicate {A = ℕ} (s.at % 4096) 0) in
    ap (byte_in Read (s.at + k)) (ap (get (with_pages m s (page_count s))) page ∙ page_there m s (page_count s) ((s.at % 4096 + k) / 4096) below)
    ∙ ap (λ b. let fault : Result ℕ MemFault = Err (NoRight (s.at + k)) in cond b (Ok (get_or (page_of s ((s.at % 4096 + k) / 4096)).bytes ((s.at + k) % 4096) 0)) fault) readable
    ∙ ap Ok (byte_of_page (content s) ((s.at % 4096 + k) / 4096) ((s.at + k) % 4096) (s.at % 4096 + k) place small within ∙ byte_behind (s.at % 4096) s.bytes k)

-- a part of the segment's bytes stands behind the part before it
part_there : (m : Pages) (s : Segment) (xs ys zs : List ℕ) → s.bytes ≡ xs ++ (ys ++ zs) → s.prot.read ≡ true → length s.bytes ≤ s.length
    → s.at + (length xs + length ys) < 2 ^ 64 → bytes_at (with_segment m s) (s.at + length xs) (length ys) ≡ Ok ys
unfolding bytes_from
part_there m s xs [] zs split readable fits small = refl
part_there m s xs (y ∷ ys) zs split readable fits small =
    let inside : length xs < length s.bytes = omega (arith, ap length split, length-append xs (y ∷ (ys ++ zs))) in
    let more : length (xs ++ y ∷ []) ≡ length xs + 1 = length-append xs (y ∷ []) in
    let next : (s.at + length xs + 1) % 2 ^ 64 ≡ s.at + length (xs ++ y ∷ []) = omega arith in
    let first : byte_at Read (with_segment m s) (s.at + length xs) ≡ Ok y =
    byte_there m s (length xs) readable fits inside ∙ ap (λ (bs : List ℕ). Ok (get_or bs (length xs) 0)) split ∙ ap Ok (get_or-append_seam xs y (ys ++ zs) 0) in
    let rest : bytes_at (with_segment m s) (s.at + length (xs ++ y ∷ [])) (length ys) ≡ Ok ys =
    part_there m s (xs ++ y ∷ []) ys zs (split ∙ sym (append_assoc xs (y ∷ []) (ys ++ zs))) readable fits (omega arith) in
    ap (λ b. in_front b (bytes_from Read (with_segment m s) ((s.at + length xs + 1) % 2 ^ 64) (length ys))) first
    ∙ ap (λ (a : ℕ). in_front (Ok y) (bytes_from Read (with_segment m s) a (length ys))) next
    ∙ ap (in_front (Ok y)) rest

-- ---- the start block

module _ (m : Pages) (vector canary argdata : List ℕ) (counted : length vector ≡ 192) where
  vector_there : bytes_at (with_segment m (block_of (vector ++ (canary ++ argdata)))) 0x3f00000000 192 ≡ Ok vector
  vector_there =
      ap (bytes_at (with_segment m (block_of (vector ++ (canary ++ argdata)))) 0x3f00000000) (sym counted)
      ∙ part_there m (block_of (vector ++ (canary ++ argdata))) [] vector (canary ++ argdata) refl refl (omega arith) (omega arith)

  canary_there : length canary ≡ 64 → bytes_at (with_segment m (block_of (vector ++ (canary ++ argdata)))) 0x3f000000c0 64 ≡ Ok canary
  canary_there whole =
      let place : 0x3f000000c0 ≡ 0x3f00000000 + length vector = omega arith in
      ap (λ (a : ℕ). bytes_at (with_segment m (block_of (vector ++ (canary ++ argdata)))) a 64) place
      ∙ ap (bytes_at (with_segment m (block_of (vector ++ (canary ++ argdata)))) (0x3f00000000 + length vector)) (sym whole)
      ∙ part_there m (block_of (vector ++ (canary ++ argdata))) vector canary argdata refl refl (omega arith) (omega arith)

  argdata_there : length canary ≡ 64 → length argdata ≤ 65536
      → bytes_at (with_segment m (block_of (vector ++ (canary ++ argdata)))) 0x3f00000100 (length argdata) ≡ Ok argdata
  argdata_there whole short =
      let front : length (vector ++ canary) ≡ 256 = omega (arith, length-append vector canary) in
      let place : 0x3f00000100 ≡ 0x3f00000000 + length (vector ++ canary) = omega arith in
      ap (λ (a : ℕ). bytes_at (with_segment m (block_of (vector ++ (canary ++ argdata)))) a (length argdata)) place
      ∙ part_there m (block_of (vector ++ (canary ++ argdata))) (vector ++ canary) argdata [] (sym (append_assoc vector canary (argdata ++ []) ∙ ap (λ (xs : List ℕ). vector ++ (canary ++ xs)) (append-nil argdata))) refl (omega arith) (omega arith)

-- the segment that comes last is loaded last
last_segment : (m : Pages) (segments : List Segment) (s b : Segment) → with_segments m (segments ++ s ∷ b ∷ []) ≡ with_segment (with_segment (with_segments m segments) s) b
last_segment m [] s b = refl
last_segment m (x ∷ xs) s b = last_segment (with_segment m x) xs s b

block_last : (elf : Elf) (argdata canary : List ℕ) (pid tid : ℕ)
    → start_pages elf argdata canary pid tid
    ≡ with_segment (with_segment (with_segments empty elf.segments) stack) (block_of (vector_of (vector_entries elf (length argdata) pid tid) ++ (canary ++ argdata)))
unfolding start_pages
block_last elf argdata canary pid tid = last_segment empty elf.segments stack (block_of (block_bytes elf argdata canary pid tid))

pub vector_stands : VectorStands
vector_stands elf argdata canary pid tid =
    ap (λ (m : Pages). bytes_at m 0x3f00000000 192) (block_last elf argdata canary pid tid)
    ∙ vector_there (with_segment (with_segments empty elf.segments) stack) (vector_of (vector_entries elf (length argdata) pid tid)) canary argdata refl

pub canary_stands : CanaryStands
canary_stands elf argdata canary pid tid whole =
    ap (λ (m : Pages). bytes_at m 0x3f000000c0 64) (block_last elf argdata canary pid tid)
    ∙ canary_there (with_segment (with_segments empty elf.segments) stack) (vector_of (vector_entries elf (length argdata) pid tid)) canary argdata refl whole

pub argdata_stands : ArgdataStands
argdata_stands elf argdata canary pid tid whole short =
    ap (λ (m : Pages). bytes_at m 0x3f00000100 (length argdata)) (block_last elf argdata canary pid tid)
    ∙ argdata_there (with_segment (with_segments empty elf.segments) stack) (vector_of (vector_entries elf (length argdata) pid tid)) canary argdata refl whole short
