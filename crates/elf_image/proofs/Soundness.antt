-- The image of a file without a fault is sound.
use Rattle.std.proofs.Common.{◌≡◌, ℕ, zero, suc, ◌+◌, ◌%◌, ◌<◌, ◌≤◌, ◌==◌, Bool, true, false, cond, ◌&&◌, ◌||◌, nat_lt, nat_le, List, [], ◌∷◌, map, length, take, drop, get_or, None, refl, sym, ap, subst, ◌∙◌, arith}
use Rattle.std.proofs.Math.Bool.{and_assoc}
use Rattle.std.proofs.Math.Seq.{take-length}
use Rattle.std.proofs.lemmas.Bool.{and_parts, eqb-true, leb-true, ltb-true, ltb-false}
use Rattle.std.proofs.lemmas.List.{get_or-map, get_or-take, get_or_default, length-map, length-take}
use Rattle.std.proofs.lemmas.List.Elements.{All-filter, All-map, filter_passes}
use Rattle.std.proofs.lemmas.List.Folds.{Any-from_list_any, list_any_at}
use Rattle.std.proofs.lemmas.List.Kept.{AllPairs-filter}
use Rattle.std.specs.List.{All, AllPairs, Any, filter, fold, list_any, sum_by}
use Rattle.elf_image.specs.Checks.{first_meeting, first_unloadable, is_entry, is_met, is_misplaced, is_unloadable, may_run, meets_earlier, share_page}
use Rattle.elf_image.specs.Faults.{base_of, entry_of}
use Rattle.elf_image.specs.Fields.{program_headers}
use Rattle.elf_image.specs.Image.{image, segment, segments}
use Rattle.elf_image.specs.Segments.{SharePage, is_load, may_execute, nth_header, unused, start_of, end_of, page_total}
use Rattle.elf_image.specs.Sound.{AreApart, HasAddress, IsSound, IsSoundSegment, pages_of}
use Rattle.elf_image.specs.declared.elf.Segment.{Segment}
use Rattle.elf_image.specs.declared.program_header.ProgramHeader.{ProgramHeader}
use Rattle.elf_image.proofs.Deciding.{takes_memory}
use Rattle.elf_image.proofs.Loadable.{IsPlaced, loadable, not_both, or_none}
use Rattle.elf_image.proofs.Pages.{total_same}
use Rattle.elf_image.proofs.Searches.{none_below}
use Rattle.elf_image.proofs.Sharing.{decides_share}

-- the test that finds an executable segment with an address
abbrev runs_in : ℕ → Segment → Bool
runs_in address part = part.prot.exec && (nat_le part.at address && nat_lt address (part.at + part.length))

sum_map : {X Y : Type 0} (f : Y → ℕ) (g : X → Y) (a : ℕ) (xs : List X) →
    fold (λ a y. a + f y) a (map g xs) ≡ fold (λ a x. a + f (g x)) a xs
sum_map f g a [] = refl
sum_map f g a (x ∷ xs) = sum_map f g (a + f (g x)) xs

pairs_map : {X Y : Type 0} (R : Y → Y → Type 0) (f : X → Y) (e : X) (xs : List X) →
    AllPairs (λ x y. R (f x) (f y)) xs → AllPairs R (map f xs)
pairs_map R f e xs all i j d order below =
    let last : j < length xs = subst (λ (n : ℕ). j < n) (length-map xs f) below in
    let left = get_or-map f xs i e d (omega arith) in
    let right = get_or-map f xs j e d last in
    subst (λ y. R y (get_or (map f xs) j d)) (sym left)
    (subst (λ y. R (f (get_or xs i e)) y) (sym right) (all i j e order last))

module _ (bytes : List ℕ) (base : ℕ) (headers : List ProgramHeader)
    (none : first_unloadable base (length bytes) headers ≡ None) (no_meeting : first_meeting base headers ≡ None) where
  sound_segment : (header : ProgramHeader) → is_load header ≡ true → IsPlaced base (length bytes) header →
      IsSoundSegment (segment bytes base header)
  sound_segment header loads place = record {
    some = takes_memory header loads;
    fits = let sizes = place.sizes in let taken = length-take header.file_size (drop header.offset bytes) in omega arith;
    low = place.low;
    high = place.high;
    guarded = place.guarded;
  }

  -- each segment, where its header is one of a segment
  each_loaded : All (λ header. is_load header ≡ true → IsSoundSegment (segment bytes base header)) headers
  each_loaded k d below loads =
      let at : get_or headers k d ≡ nth_header headers k = get_or_default headers k d unused below in
      subst (λ header. IsSoundSegment (segment bytes base header)) (sym at)
      (let here = subst (λ header. is_load header ≡ true) at loads in
      sound_segment (nth_header headers k) here (loadable base (length bytes) headers k none below here))

  pub each_sound : All IsSoundSegment (segments bytes base headers)
  each_sound =
      let kept =
      All-filter is_load (λ header. is_load header ≡ true → IsSoundSegment (segment bytes base header)) headers
      each_loaded in
      let passes = filter_passes is_load headers in
      All-map IsSoundSegment (segment bytes base) (filter is_load headers)
      (λ k d below. kept k d below (passes k d below))

  both : (a b : Bool) → (a && b) ≡ false → a ≡ true → b ≡ true → ⊥
  both true true none first second = cc
  both true false none first second = cc
  both false b none first second = cc

  apart_at : (i j : ℕ) → i < j → j < length headers → is_load (nth_header headers i) ≡ true →
      is_load (nth_header headers j) ≡ true →
      SharePage base (nth_header headers i) (nth_header headers j) → ⊥
  apart_at i j order below loads_i loads_j shares =
      let meets = none_below (meets_earlier base headers) (length headers) j no_meeting below in
      let earlier : get_or (take j headers) i unused ≡ nth_header headers i = get_or-take j headers i unused order in
      let share : share_page base (nth_header headers i) (nth_header headers j) ≡ true =
      (decides_share base (nth_header headers i) (nth_header headers j) (takes_memory (nth_header headers i) loads_i)
      (takes_memory (nth_header headers j) loads_j)).1 shares in
      let met : is_met base (nth_header headers j) (nth_header headers i) ≡ true =
      ap (λ b. b && share_page base (nth_header headers i) (nth_header headers j)) loads_i ∙ share in
      let any : list_any (is_met base (nth_header headers j)) (take j headers) ≡ true =
      list_any_at (is_met base (nth_header headers j)) (take j headers) i unused
      (let taken = length-take j headers in omega arith)
      (ap (is_met base (nth_header headers j)) earlier ∙ met) in
      both (is_load (nth_header headers j)) (list_any (is_met base (nth_header headers j)) (take j headers)) meets
      loads_j any

  apart_loaded : AllPairs (λ one other. is_load one ≡ true → is_load other ≡ true → SharePage base one other → ⊥) headers
  apart_loaded i j d order below =
      let left : get_or headers i d ≡ nth_header headers i = get_or_default headers i d unused (omega arith) in
      let right : get_or headers j d ≡ nth_header headers j = get_or_default headers j d unused below in
      subst
      (λ one. is_load one ≡ true → is_load (get_or headers j d) ≡ true → SharePage base one (get_or headers j d) → ⊥)
      (sym left)
      (subst
      (λ other. is_load (nth_header headers i) ≡ true → is_load other ≡ true →
      SharePage base (nth_header headers i) other → ⊥)
      (sym right) (apart_at i j order below))

  pub all_apart : AllPairs AreApart (segments bytes base headers)
  all_apart =
      let kept =
      AllPairs-filter (λ one other. is_load one ≡ true → is_load other ≡ true → SharePage base one other → ⊥)
      is_load headers apart_loaded in
      let passes = filter_passes is_load headers in
      pairs_map AreApart (segment bytes base) unused (filter is_load headers)
      (λ i j d order below a b in_one in_other same. kept i j d order below (passes i d (omega arith))
      (passes j d below) (a, b, in_one, in_other, same))

  few_at : (k : ℕ) (loads : Bool) → k < length headers → is_load (nth_header headers k) ≡ loads →
      page_total base (take k headers) ≤ 32768 →
      page_total base (take (suc k) headers) ≤ 32768
  few_at k true below loads few =
      let test = none_below (is_unloadable base (length bytes) headers) (length headers) k none below in
      let misplaced : Bool = is_misplaced base (length bytes) (nth_header headers k) in
      let many : Bool = nat_lt 32768 (page_total base (take (suc k) headers)) in
      let right : (misplaced || many) ≡ false =
      not_both (is_load (nth_header headers k)) (misplaced || many) test loads in
      ltb-false 32768 (page_total base (take (suc k) headers)) (or_none misplaced many right).1
  few_at k false below other few = let same = total_same base headers k below other in omega arith

  few_pages : (k : ℕ) → k ≤ length headers → page_total base (take k headers) ≤ 32768
  few_pages zero within = omega arith
  few_pages (suc k) within = few_at k (is_load (nth_header headers k)) (omega arith) refl (few_pages k (omega arith))

  pub few_sound : sum_by pages_of (segments bytes base headers) ≤ 32768
  few_sound =
      let all = few_pages (length headers) (omega arith) in
      let whole : take (length headers) headers ≡ headers = take-length headers in
      let total : page_total base headers ≤ 32768 = subst (λ hs. page_total base hs ≤ 32768) whole all in
      let same = sum_map pages_of (segment bytes base) 0 (filter is_load headers) in
      subst (λ (n : ℕ). n ≤ 32768) (sym same) total

-- one more header, which is that of a segment or not
runs_step : (address : ℕ) (bytes : List ℕ) (base : ℕ) (header : ProgramHeader) (rest : List ProgramHeader)
    (loads any : Bool) →
    list_any (runs_in address) (map (segment bytes base) rest) ≡ any →
    list_any (runs_in address) (map (segment bytes base) (cond loads (header ∷ rest) rest)) ≡
    (loads && runs_in address (segment bytes base header) || any)
runs_step address bytes base header rest true any e = ap (λ b. runs_in address (segment bytes base header) || b) e
runs_step address bytes base header rest false any e = e

-- an executable segment is found among the segments where it is found among the headers
pub runs_same : (address : ℕ) (bytes : List ℕ) (base : ℕ) (headers : List ProgramHeader) →
    list_any (runs_in address) (segments bytes base headers) ≡ list_any (may_run base address) headers
runs_same address bytes base [] = refl
runs_same address bytes base (header ∷ headers) =
    runs_step address bytes base header (filter is_load headers) (is_load header)
    (list_any (may_run base address) headers) (runs_same address bytes base headers)
    ∙ ap (λ b. b || list_any (may_run base address) headers)
    (sym (and_assoc (is_load header) (may_execute header)
    (nat_le (start_of base header) address && nat_lt address (end_of base header))))

runs_parts : (exec : Bool) (from to address : ℕ) → (exec && (nat_le from address && nat_lt address to)) ≡ true →
    (exec ≡ true) × ((from ≤ address) × (address < to))
runs_parts exec from to address runs =
    let parts = and_parts exec (nat_le from address && nat_lt address to) runs in
    let range = and_parts (nat_le from address) (nat_lt address to) parts.1 in
    (parts.0, (leb-true from address range.0, ltb-true address to range.1))

pub runs_sound : (address : ℕ) (parts : List Segment) → list_any (runs_in address) parts ≡ true →
    Any (λ part. (part.prot.exec ≡ true) × HasAddress part address) parts
runs_sound address parts found =
    let (k, part, below, at, runs) = Any-from_list_any (runs_in address) parts found in
    (k, part, below, at, runs_parts part.prot.exec part.at (part.at + part.length) address runs)

pub sound_image : (bytes : List ℕ) → first_unloadable (base_of bytes) (length bytes) (program_headers bytes) ≡ None →
    first_meeting (base_of bytes) (program_headers bytes) ≡ None → is_entry (base_of bytes) (program_headers bytes)
    (entry_of bytes) ≡ true →
    IsSound (image bytes)
sound_image bytes none no_meeting entry =
    let parts =
    and_parts (entry_of bytes % 4 == 0)
    (list_any (may_run (base_of bytes) (entry_of bytes)) (program_headers bytes)) entry in
    record {
      each = each_sound bytes (base_of bytes) (program_headers bytes) none no_meeting;
      apart = all_apart bytes (base_of bytes) (program_headers bytes) none no_meeting;
      few = few_sound bytes (base_of bytes) (program_headers bytes) none no_meeting;
      aligned = eqb-true (entry_of bytes % 4) 0 parts.0;
      runs = runs_sound (entry_of bytes) (segments bytes (base_of bytes) (program_headers bytes))
          (runs_same (entry_of bytes) bytes (base_of bytes) (program_headers bytes) ∙ parts.1);
    }
