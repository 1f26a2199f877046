use Rattle.std.proofs.Common.{MatchOption, IsSome, sym, subst}
use Rattle.std.specs.FinMap.{get}
use Rattle.guest_memory.specs.Ranges.{IsFirstNumber}
use Rattle.guest_memory.specs.Mapping.{AreFree}
use Rattle.guest_memory.proofs.PageRanges.{first_page_of, free_before, free_of_none}
use Rattle.guest_memory.proofs.page_map.first_page.Goals as goal

pub returns-in_err-number : goal.returns-in_err-number
returns-in_err-number c =
    subst (λ o. MatchOption o (AreFree c.args.pages.now c.args.first c.args.count)
    (IsFirstNumber (λ q. IsSome (get c.args.pages.now q)) c.args.first c.args.count))
    (sym c.from_residual.ensures) (free_of_none c.args.pages.now c.args.first c.args.count c.in_err-number.ensures)

pub returns-then-number-first : goal.returns-then-number-first
returns-then-number-first c = first_page_of c.args.pages.now c.args.first c.args.count c.in_ok-number.number
    c.in_ok-number.ensures c.if-number-first.true

pub returns-else-number-first : goal.returns-else-number-first
returns-else-number-first c = free_before c.args.pages.now c.args.first c.args.count c.in_ok-number.number
    c.in_ok-number.ensures c.if-number-first.false
