use Rattle.std.proofs.Common.{◌≡◌, ◌&&◌, not, ℕ, ◌<◌, List, false, length, get_or, sym, ap, subst, ◌∙◌}
use Rattle.std.specs.Bool.{nat_eq}
use Rattle.maps.specs.Closure.{member}
use Rattle.wait_set.specs.Numbers.{IsAscending}
use Rattle.wait_set.proofs.Ascending.{not_here, between}
use Rattle.wait_set.proofs.Packed.{block_ascends, member_here, took_members}
use Rattle.wait_set.proofs.number_set.NumberSet.remove.Goals as goal

pub place-requires : goal.place-requires
place-requires c = subst IsAscending (sym c.at.ensures) (block_ascends c.self.inside.blocks.used c.find-index.result c.self.invariant c.find-index.ensures.place.within)

pub returns-in-Ok-clause-member : goal.returns-in-Ok-clause-member
returns-in-Ok-clause-member c = λ q.
    let at = subst (λ (xs : List ℕ). (c.in-Ok.place < length xs) × (get_or xs c.in-Ok.place 0 ≡ c.args.number)) c.at.ensures c.in-Ok.ensures in
    ap (member q) c.take_at.ensures.list
    ∙ took_members c.self.inside.blocks.used c.args.number c.find-index.result c.in-Ok.place q c.self.invariant c.find-index.ensures.place at.0 at.1
    ∙ ap (λ v. member q v.list && not (nat_eq q c.args.number)) c.self.view_is

pub returns-in-Err-clause-member : goal.returns-in-Err-clause-member
returns-in-Err-clause-member c = λ q.
    let none : member c.args.number c.args.self.now.list ≡ false =
    ap (λ v. member c.args.number v.list) (sym c.self.view_is)
    ∙ member_here c.self.inside.blocks.used c.args.number c.find-index.result c.find-index.ensures.place
    ∙ ap (member c.args.number) (sym c.at.ensures)
    ∙ between c.at.result.now c.in-Err.field-0 c.args.number c.in-Err.ensures.1 c.in-Err.ensures.2 in
    not_here q c.args.number c.args.self.now.list none
