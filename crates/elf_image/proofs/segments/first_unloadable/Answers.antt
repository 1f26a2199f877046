use Rattle.std.proofs.Common.{◌∙◌, ◌≡◌, ◌<◌, ◌||◌, Bool, true, nat_lt, sym, ℕ, suc, take, length, arith}
use Rattle.std.proofs.lemmas.Bool.{and_from, lt-ltb, or_left, or_right}
use Rattle.elf_image.specs.Checks.{is_misplaced, is_unloadable}
use Rattle.elf_image.specs.Segments.{nth_header, page_total}
use Rattle.elf_image.proofs.Pages.{total_more}
use Rattle.elf_image.proofs.Searches.{first_found}
use Rattle.elf_image.proofs.segments.first_unloadable.Goals as goal
use Rattle.elf_image.proofs.segments.first_unloadable.Goals.{then-is_misplaced-via-then-is_misplaced, then-is_misplaced-via-else-is_misplaced+then-pages-gt-PAGE_LIMIT}

pub returns-then-is_misplaced : goal.returns-then-is_misplaced
returns-then-is_misplaced c =
    let headers = c.args.headers.now in
    let header = nth_header headers c.loop-i.i in
    let below : c.loop-i.i < length headers = omega arith in
    let loads = sym c.is_load.ensures ∙ c.if-is_load.true in
    let misplaced : Bool = is_misplaced c.args.base c.args.size header in
    let total : ℕ = page_total c.args.base (take (suc c.loop-i.i) headers) in
    let bad : (misplaced || nat_lt 32768 total) ≡ true = elim c.then-is_misplaced.branch [
      | then-is_misplaced-via-then-is_misplaced w ↦ or_left misplaced (nat_lt 32768 total)
          (sym c.is_misplaced.ensures ∙ w.if-is_misplaced.true)
      | then-is_misplaced-via-else-is_misplaced+then-pages-gt-PAGE_LIMIT w ↦
          let more = total_more c.args.base headers c.loop-i.i below loads in
          or_right misplaced (nat_lt 32768 total) (lt-ltb 32768 total (omega arith))
    ] in
    sym (first_found (is_unloadable c.args.base c.args.size headers) (length headers) c.loop-i.i below
    c.loop-i.invariant.none (and_from _ _ loads bad))
