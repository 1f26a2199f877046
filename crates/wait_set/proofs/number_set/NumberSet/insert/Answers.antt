use Rattle.std.proofs.Common.{◌≡◌, ◌||◌, ℕ, ◌<◌, ◌≤◌, List, true, length, get_or, sym, ap, subst, ◌∙◌, arith}
use Rattle.std.specs.Bool.{nat_eq}
use Rattle.std.specs.List.{concat, insert}
use Rattle.std.proofs.lemmas.List.Edits.{length-insert}
use Rattle.maps.specs.Closure.{member}
use Rattle.wait_set.specs.Numbers.{IsAscending, IsPacked, block}
use Rattle.wait_set.proofs.Ascending.{inside, not_there}
use Rattle.wait_set.proofs.Packed.{blocks_few, block_ascends, member_here, put_ascends, put_members}
use Rattle.wait_set.proofs.Thick.{put_packed}
use Rattle.wait_set.proofs.number_set.NumberSet.insert.Goals as goal

pub make_place-index-requires-clause-spare : goal.make_place-index-requires-clause-spare
make_place-index-requires-clause-spare c =
    let list = ap (λ v. length v.list) c.self.view_is in
    let room = ap (λ v. v.room) c.self.view_is in
    blocks_few c.self.inside.blocks.used c.self.inside.blocks.total c.self.invariant (omega (arith, list, room, c.requires))

pub place-requires : goal.place-requires
place-requires c =
    subst IsAscending (sym c.at.ensures) (block_ascends c.make_place-index.new.blocks.used c.make_place-index.result c.make_place-index.ensures.packed c.make_place-index.ensures.place.within)

pub returns-in-Err-clause-ascending : goal.returns-in-Err-clause-ascending
returns-in-Err-clause-ascending c =
    let bs = c.make_place-index.new.blocks.used in
    let i = c.make_place-index.result in
    let place = c.make_place-index.ensures.place in
    let at = subst (λ (xs : List ℕ). (c.in-Err.place ≤ length xs) × ((k : ℕ) → k < c.in-Err.place → get_or xs k 0 < c.args.number)
    × ((k : ℕ) → c.in-Err.place ≤ k → k < length xs → c.args.number < get_or xs k 0)) c.at.ensures c.in-Err.ensures in
    subst (λ (ys : List (List ℕ)). IsAscending (concat ys)) (sym c.insert_at.ensures.used)
    (put_ascends bs c.args.number i c.in-Err.place c.make_place-index.ensures.packed place at.0 at.1 at.2)

pub invariant_of-self-in-Err : goal.invariant_of-self-in-Err
invariant_of-self-in-Err c =
    let bs = c.make_place-index.new.blocks.used in
    let i = c.make_place-index.result in
    let place = c.make_place-index.ensures.place in
    let at = subst (λ (xs : List ℕ). (c.in-Err.place ≤ length xs) × ((k : ℕ) → k < c.in-Err.place → get_or xs k 0 < c.args.number)
    × ((k : ℕ) → c.in-Err.place ≤ k → k < length xs → c.args.number < get_or xs k 0)) c.at.ensures c.in-Err.ensures in
    let size = length-insert (block bs i) c.in-Err.place c.args.number at.0 in
    subst IsPacked (sym c.insert_at.ensures.used)
    (put_packed bs i (insert (block bs i) c.in-Err.place c.args.number) c.make_place-index.ensures.packed place.within (omega arith)
    (put_ascends bs c.args.number i c.in-Err.place c.make_place-index.ensures.packed place at.0 at.1 at.2))

pub returns-in-Err-clause-member : goal.returns-in-Err-clause-member
returns-in-Err-clause-member c = λ q.
    ap (λ (ys : List (List ℕ)). member q (concat ys)) c.insert_at.ensures.used
    ∙ put_members c.make_place-index.new.blocks.used c.args.number c.make_place-index.result c.in-Err.place q c.make_place-index.ensures.place.within
    ∙ ap (λ xs. nat_eq q c.args.number || member q xs) (c.make_place-index.ensures.same ∙ ap (λ v. v.list) c.self.view_is)

pub returns-in-Ok-clause-member : goal.returns-in-Ok-clause-member
returns-in-Ok-clause-member c = λ q.
    let bs = c.make_place-index.new.blocks.used in
    let same = c.make_place-index.ensures.same ∙ ap (λ v. v.list) c.self.view_is in
    let there : member c.args.number c.args.self.now.list ≡ true =
    ap (member c.args.number) (sym same)
    ∙ member_here c.make_place-index.new.blocks.used c.args.number c.make_place-index.result c.make_place-index.ensures.place
    ∙ ap (member c.args.number) (sym c.at.ensures)
    ∙ inside c.args.number c.at.result.now c.in-Ok.field-0 c.in-Ok.ensures.0 c.in-Ok.ensures.1 in
    ap (member q) same ∙ not_there q c.args.number c.args.self.now.list there
