-- The memory of a start: one segment after another.
use Rattle.std.proofs.Common.{◌≡◌, ℕ, suc, ◌+◌, ◌<◌, List, [], ◌∷◌, ◌++◌, length, drop, get_or, Result, Ok, Err, IfOk, MatchResult, is_ok, refl, sym, ap, subst, ◌∙◌, arith, append_assoc, drop-cons}
use Rattle.std.specs.FinMap.{empty}
use Rattle.elf_image.specs.declared.elf.Elf.{Elf}
use Rattle.elf_image.specs.declared.elf.Segment.{Segment}
use Rattle.guest_memory.specs.Page.{Pages}
use Rattle.call_codec.specs.Image.{with_segment, with_segments}
use Rattle.call_codec.specs.Start.{block_bytes, block_of, entry_bytes, stack, start_pages, vector_of}

segments-append : (m : Pages) (xs ys : List Segment) → with_segments m (xs ++ ys) ≡ with_segments (with_segments m xs) ys
segments-append m [] ys = refl
segments-append m (x ∷ xs) ys = segments-append (with_segment m x) xs ys

pub started : (elf : Elf) (argdata canary : List ℕ) (pid tid : ℕ) (m1 m2 m3 : Pages) (segments : List Segment) (s b : Segment) (bytes : List ℕ) → segments ≡ elf.segments → m1 ≡ with_segments empty segments
    → s ≡ stack → m2 ≡ with_segment m1 s → bytes ≡ block_bytes elf argdata canary pid tid → b ≡ block_of bytes → m3 ≡ with_segment m2 b → m3 ≡ start_pages elf argdata canary pid tid
unfolding start_pages
started elf argdata canary pid tid m1 m2 m3 segments s b bytes image loaded is_stack second encoded is_block third =
    third
    ∙ ap (with_segment m2) (is_block ∙ ap block_of encoded)
    ∙ ap (λ (m : Pages). with_segment m (block_of (block_bytes elf argdata canary pid tid))) (second ∙ ap (with_segment m1) is_stack ∙ ap (λ (m : Pages). with_segment m stack) (loaded ∙ ap (with_segments empty) image))
    ∙ sym (segments-append empty elf.segments (stack ∷ block_of (block_bytes elf argdata canary pid tid) ∷ []))

-- ---- faults

-- what an outcome holds where it is one, with its fault turned into another
pub ok_before : {X E F : Type 0} (r : Result X E) (turned : Result X F) (x : X) (P : X → Type 0) (Q : E → Type 0) → turned ≡ Ok x
    → MatchResult r (λ v. turned ≡ Ok v) Q → is_ok turned ≡ is_ok r → IfOk r P → P x
ok_before (Ok v) turned x P Q is cases same holds = let here : v ≡ x = cc in subst P here holds
ok_before (Err e) turned x P Q is cases same holds = absurd (cc (ap is_ok is))

-- ---- the vector

pub two_parts : (old mid new xs ys : List ℕ) → mid ≡ old ++ xs → new ≡ mid ++ ys → new ≡ old ++ (xs ++ ys)
two_parts old mid new xs ys first second = second ∙ ap (λ (zs : List ℕ). zs ++ ys) first ∙ append_assoc old xs ys

pub next_entry : (bytes now goal : List ℕ) (entries : List (ℕ × ℕ)) (i : ℕ) (d : ℕ × ℕ) → i < length entries → now ≡ bytes ++ entry_bytes (get_or entries i d)
    → bytes ++ vector_of (drop i entries) ≡ goal → now ++ vector_of (drop (i + 1) entries) ≡ goal
next_entry bytes now goal entries i d inside one all =
    let next : suc i ≡ i + 1 = omega arith in
    ap (λ (xs : List ℕ). xs ++ vector_of (drop (i + 1) entries)) one
    ∙ append_assoc bytes (entry_bytes (get_or entries i d)) (vector_of (drop (i + 1) entries))
    ∙ ap (λ (k : ℕ). bytes ++ (entry_bytes (get_or entries i d) ++ vector_of (drop k entries))) (sym next)
    ∙ ap (λ (es : List (ℕ × ℕ)). bytes ++ vector_of es) (sym (drop-cons entries i d inside))
    ∙ all
