-- Pages of segments.
use Rattle.std.proofs.Common.{◌≡◌, ℕ, suc, ◌+◌, ◌<◌, true, false, cond, List, [], ◌∷◌, ◌++◌, length, take, sym, ap, ◌∙◌, arith, add-one}
use Rattle.std.proofs.lemmas.List.Elements.{filter_more}
use Rattle.std.proofs.lemmas.Grind.{common_steps}
use Rattle.std.specs.List.{filter, sum_by}
use Rattle.elf_image.specs.Segments.{is_load, page_count, page_total, nth_header, unused}
use Rattle.elf_image.specs.declared.program_header.ProgramHeader.{ProgramHeader}

-- one more segment has its pages
pub total_more : (base : ℕ) (headers : List ProgramHeader) (i : ℕ) → i < length headers →
    is_load (nth_header headers i) ≡ true →
    page_total base (take (suc i) headers) ≡ page_total base (take i headers) + page_count base (nth_header headers i)
total_more base headers i below loads =
    ap (λ (n : ℕ). page_total base (take n headers)) (sym (add-one i))
    ∙ ap (sum_by (page_count base)) (filter_more is_load headers i unused below)
    ∙ ap (λ b. sum_by (page_count base) (filter is_load (take i headers) ++ cond b (nth_header headers i ∷ []) [])) loads
    ∙ grind (arith, common_steps)

-- a header of no segment adds none
pub total_same : (base : ℕ) (headers : List ProgramHeader) (i : ℕ) → i < length headers →
    is_load (nth_header headers i) ≡ false →
    page_total base (take (suc i) headers) ≡ page_total base (take i headers)
total_same base headers i below other =
    ap (λ (n : ℕ). page_total base (take n headers)) (sym (add-one i))
    ∙ ap (sum_by (page_count base)) (filter_more is_load headers i unused below)
    ∙ ap (λ b. sum_by (page_count base) (filter is_load (take i headers) ++ cond b (nth_header headers i ∷ []) [])) other
    ∙ grind (arith, common_steps)
