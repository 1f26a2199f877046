use Rattle.std.proofs.Common.{◌≡◌, ℕ, ◌+◌, ◌<◌, ◌≤◌, List, Option, Some, None, nat_lt, length, get_or, sym, ap, subst, ◌∙◌, arith}
use Rattle.std.specs.List.{concat}
use Rattle.maps.specs.Closure.{member}
use Rattle.wait_set.specs.Next.{IsNext}
use Rattle.wait_set.specs.Numbers.{IsAscending, block}
use Rattle.wait_set.proofs.Packed.{block_ascends, next_first, next_in, next_beyond, next_none_left}
use Rattle.wait_set.proofs.number_set.NumberSet.next.Goals as goal

pub place_after-place-requires : goal.place_after-place-requires
place_after-place-requires c = subst IsAscending (sym c.at-2.ensures) (block_ascends c.self.inside.blocks.used c.find-index.result c.self.invariant c.find-index.ensures.place.within)

pub returns-in_default : goal.returns-in_default
returns-in_default c =
    let bs = c.self.inside.blocks.used in
    let is : c.at-in_default.result ≡ get_or (block bs 0) 0 0 = c.at-in_default.ensures ∙ ap (λ (ys : List ℕ). get_or ys 0 0) c.at.ensures in
    subst (λ (xs : List ℕ). IsNext (λ q. member q xs) c.args.after (Some c.at-in_default.result)) (ap (λ v. v.list) c.self.view_is)
    (subst (λ (a : Option ℕ). IsNext (λ q. member q (concat bs)) a (Some c.at-in_default.result)) (sym c.in_default.is)
    (subst (λ (n : ℕ). IsNext (λ q. member q (concat bs)) None (Some n)) (sym is)
    (next_first bs c.self.invariant (omega (arith, c.if-len-eq0.false, c.len.ensures)))))

pub returns-then-place-len : goal.returns-then-place-len
returns-then-place-len c =
    let bs = c.self.inside.blocks.used in
    let i = c.find-index.result in
    let place = c.find-index.ensures.place in
    let before = λ (k : ℕ) (h : k < c.place_after-place.result). ap (λ (xs : List ℕ). nat_lt c.in-Some.number (get_or xs k 0)) (sym c.at-2.ensures) ∙ c.place_after-place.ensures.before k h in
    let count : length (block bs i) ≡ c.len-2.result = ap (λ (ys : List ℕ). length ys) (sym c.at-3.ensures) ∙ sym c.len-2.ensures.count in
    let behind = λ (k : ℕ) (a : c.place_after-place.result ≤ k) (b : k < length (block bs i)).
    ap (λ (xs : List ℕ). nat_lt c.in-Some.number (get_or xs k 0)) (sym c.at-2.ensures) ∙ c.place_after-place.ensures.behind k a (subst (λ (xs : List ℕ). k < length xs) (sym c.at-2.ensures) b) in
    let is : c.at-then-place-len-2.result ≡ get_or (block bs i) c.place_after-place.result 0 =
    c.at-then-place-len-2.ensures ∙ ap (λ (ys : List ℕ). get_or ys c.place_after-place.result 0) c.at-then-place-len.ensures in
    subst (λ (xs : List ℕ). IsNext (λ q. member q xs) c.args.after (Some c.at-then-place-len-2.result)) (ap (λ v. v.list) c.self.view_is)
    (subst (λ (a : Option ℕ). IsNext (λ q. member q (concat bs)) a (Some c.at-then-place-len-2.result)) (sym c.in-Some.is)
    (subst (λ (n : ℕ). IsNext (λ q. member q (concat bs)) (Some c.in-Some.number) (Some n)) (sym is)
    (next_in bs c.in-Some.number i c.place_after-place.result c.self.invariant place (omega (arith, count, c.if-place-len.true)) before behind)))

pub returns-then-index-len : goal.returns-then-index-len
returns-then-index-len c =
    let bs = c.self.inside.blocks.used in
    let i = c.find-index.result in
    let place = c.find-index.ensures.place in
    let before = λ (k : ℕ) (h : k < c.place_after-place.result). ap (λ (xs : List ℕ). nat_lt c.in-Some.number (get_or xs k 0)) (sym c.at-2.ensures) ∙ c.place_after-place.ensures.before k h in
    let count : length (block bs i) ≡ c.len-2.result = ap (λ (ys : List ℕ). length ys) (sym c.at-3.ensures) ∙ sym c.len-2.ensures.count in
    let is : c.at-then-index-len-2.result ≡ get_or (block bs (i + 1)) 0 0 =
    c.at-then-index-len-2.ensures ∙ ap (λ (ys : List ℕ). get_or ys 0 0) c.at-then-index-len.ensures in
    subst (λ (xs : List ℕ). IsNext (λ q. member q xs) c.args.after (Some c.at-then-index-len-2.result)) (ap (λ v. v.list) c.self.view_is)
    (subst (λ (a : Option ℕ). IsNext (λ q. member q (concat bs)) a (Some c.at-then-index-len-2.result)) (sym c.in-Some.is)
    (subst (λ (n : ℕ). IsNext (λ q. member q (concat bs)) (Some c.in-Some.number) (Some n)) (sym is)
    (next_beyond bs c.in-Some.number i c.place_after-place.result c.self.invariant place (omega (arith, count, c.if-place-len.false)) (omega (arith, c.if-index-len.true, c.len-3.ensures)) before)))

pub returns-else-index-len : goal.returns-else-index-len
returns-else-index-len c =
    let bs = c.self.inside.blocks.used in
    let i = c.find-index.result in
    let place = c.find-index.ensures.place in
    let before = λ (k : ℕ) (h : k < c.place_after-place.result). ap (λ (xs : List ℕ). nat_lt c.in-Some.number (get_or xs k 0)) (sym c.at-2.ensures) ∙ c.place_after-place.ensures.before k h in
    let count : length (block bs i) ≡ c.len-2.result = ap (λ (ys : List ℕ). length ys) (sym c.at-3.ensures) ∙ sym c.len-2.ensures.count in
    subst (λ (xs : List ℕ). IsNext (λ q. member q xs) c.args.after None) (ap (λ v. v.list) c.self.view_is)
    (subst (λ (a : Option ℕ). IsNext (λ q. member q (concat bs)) a None) (sym c.in-Some.is)
    (next_none_left bs c.in-Some.number i c.place_after-place.result c.self.invariant place (omega (arith, count, c.if-place-len.false)) (omega (arith, c.if-index-len.false, c.len-3.ensures)) before))
