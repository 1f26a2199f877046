use Rattle.std.proofs.Common.{◌≡◌, ℕ, ◌+◌, List, length, get_or, take, drop, sym, ap, subst, ◌∙◌, arith}
use Rattle.std.specs.List.{concat}
use Rattle.std.proofs.lemmas.List.{length-drop}
use Rattle.wait_set.specs.Numbers.{IsPacked, IsPlace, block}
use Rattle.wait_set.proofs.Packed.{length-take}
use Rattle.wait_set.proofs.Thick.{split_all, halved_low, halved_high, place_low, place_high}
use Rattle.wait_set.proofs.packing.make_place.Goals as goal

pub at-requires-3 : goal.at-requires-3
at-requires-3 c =
    let bs = c.args.blocks.now.used in
    let i = c.find-index.result in
    let at = c.find-index.ensures.place in
    let count : length (block bs i) ≡ c.len.result = ap (λ (ys : List ℕ). length ys) (sym c.at.ensures) ∙ sym c.len.ensures.count in
    let both = split_all bs i 32 c.requires.packed at.within (omega arith) (omega (arith, c.if-len-lt-MOST.false)) in
    let put = c.split.ensures.used in
    let high = halved_high bs i (take 32 (block bs i)) (drop 32 (block bs i)) at.within in
    let size = ap (λ (ys : List ℕ). length ys) (c.at-2.ensures ∙ ap (λ (ys : List (List ℕ)). block ys (i + 1)) put ∙ high) in
    let rest = length-drop 32 (block bs i) in
    omega (arith, size, rest, count, c.if-len-lt-MOST.false)

pub returns-then-at-number-clause-packed : goal.returns-then-at-number-clause-packed
returns-then-at-number-clause-packed c =
    let bs = c.args.blocks.now.used in
    let i = c.find-index.result in
    let at = c.find-index.ensures.place in
    let count : length (block bs i) ≡ c.len.result = ap (λ (ys : List ℕ). length ys) (sym c.at.ensures) ∙ sym c.len.ensures.count in
    let both = split_all bs i 32 c.requires.packed at.within (omega arith) (omega (arith, c.if-len-lt-MOST.false)) in
    let put = c.split.ensures.used in
    subst IsPacked (sym put) both.0

pub returns-then-at-number-clause-same : goal.returns-then-at-number-clause-same
returns-then-at-number-clause-same c =
    let bs = c.args.blocks.now.used in
    let i = c.find-index.result in
    let at = c.find-index.ensures.place in
    let count : length (block bs i) ≡ c.len.result = ap (λ (ys : List ℕ). length ys) (sym c.at.ensures) ∙ sym c.len.ensures.count in
    let both = split_all bs i 32 c.requires.packed at.within (omega arith) (omega (arith, c.if-len-lt-MOST.false)) in
    let put = c.split.ensures.used in
    ap (λ (ys : List (List ℕ)). concat ys) put ∙ both.1

pub returns-then-at-number-clause-place : goal.returns-then-at-number-clause-place
returns-then-at-number-clause-place c =
    let bs = c.args.blocks.now.used in
    let i = c.find-index.result in
    let at = c.find-index.ensures.place in
    let count : length (block bs i) ≡ c.len.result = ap (λ (ys : List ℕ). length ys) (sym c.at.ensures) ∙ sym c.len.ensures.count in
    let both = split_all bs i 32 c.requires.packed at.within (omega arith) (omega (arith, c.if-len-lt-MOST.false)) in
    let put = c.split.ensures.used in
    let high = halved_high bs i (take 32 (block bs i)) (drop 32 (block bs i)) at.within in
    let first : c.at-3.result ≡ get_or (drop 32 (block bs i)) 0 0 =
    c.at-3.ensures ∙ ap (λ (ys : List ℕ). get_or ys 0 0) (c.at-2.ensures ∙ ap (λ (ys : List (List ℕ)). block ys (i + 1)) put ∙ high) in
    subst (λ (ys : List (List ℕ)). IsPlace ys c.args.number (i + 1)) (sym put)
    (place_high bs i (take 32 (block bs i)) (drop 32 (block bs i)) at.within c.args.number at both.0 (omega (arith, first, c.if-at-number.true)))

pub returns-then-at-number-clause-room : goal.returns-then-at-number-clause-room
returns-then-at-number-clause-room c =
    let bs = c.args.blocks.now.used in
    let i = c.find-index.result in
    let at = c.find-index.ensures.place in
    let count : length (block bs i) ≡ c.len.result = ap (λ (ys : List ℕ). length ys) (sym c.at.ensures) ∙ sym c.len.ensures.count in
    let both = split_all bs i 32 c.requires.packed at.within (omega arith) (omega (arith, c.if-len-lt-MOST.false)) in
    let put = c.split.ensures.used in
    let high = halved_high bs i (take 32 (block bs i)) (drop 32 (block bs i)) at.within in
    let size = ap (λ (ys : List ℕ). length ys) (ap (λ (ys : List (List ℕ)). block ys (i + 1)) put ∙ high) in
    let rest = length-drop 32 (block bs i) in
    omega (arith, size, rest, count, c.len.ensures.most)

pub returns-else-at-number-clause-packed : goal.returns-else-at-number-clause-packed
returns-else-at-number-clause-packed c =
    let bs = c.args.blocks.now.used in
    let i = c.find-index.result in
    let at = c.find-index.ensures.place in
    let count : length (block bs i) ≡ c.len.result = ap (λ (ys : List ℕ). length ys) (sym c.at.ensures) ∙ sym c.len.ensures.count in
    let both = split_all bs i 32 c.requires.packed at.within (omega arith) (omega (arith, c.if-len-lt-MOST.false)) in
    let put = c.split.ensures.used in
    subst IsPacked (sym put) both.0

pub returns-else-at-number-clause-same : goal.returns-else-at-number-clause-same
returns-else-at-number-clause-same c =
    let bs = c.args.blocks.now.used in
    let i = c.find-index.result in
    let at = c.find-index.ensures.place in
    let count : length (block bs i) ≡ c.len.result = ap (λ (ys : List ℕ). length ys) (sym c.at.ensures) ∙ sym c.len.ensures.count in
    let both = split_all bs i 32 c.requires.packed at.within (omega arith) (omega (arith, c.if-len-lt-MOST.false)) in
    let put = c.split.ensures.used in
    ap (λ (ys : List (List ℕ)). concat ys) put ∙ both.1

pub returns-else-at-number-clause-place : goal.returns-else-at-number-clause-place
returns-else-at-number-clause-place c =
    let bs = c.args.blocks.now.used in
    let i = c.find-index.result in
    let at = c.find-index.ensures.place in
    let count : length (block bs i) ≡ c.len.result = ap (λ (ys : List ℕ). length ys) (sym c.at.ensures) ∙ sym c.len.ensures.count in
    let both = split_all bs i 32 c.requires.packed at.within (omega arith) (omega (arith, c.if-len-lt-MOST.false)) in
    let put = c.split.ensures.used in
    let high = halved_high bs i (take 32 (block bs i)) (drop 32 (block bs i)) at.within in
    let first : c.at-3.result ≡ get_or (drop 32 (block bs i)) 0 0 =
    c.at-3.ensures ∙ ap (λ (ys : List ℕ). get_or ys 0 0) (c.at-2.ensures ∙ ap (λ (ys : List (List ℕ)). block ys (i + 1)) put ∙ high) in
    subst (λ (ys : List (List ℕ)). IsPlace ys c.args.number i) (sym put)
    (place_low bs i (take 32 (block bs i)) (drop 32 (block bs i)) at.within c.args.number at both.0 (omega (arith, first, c.if-at-number.false)))

pub returns-else-at-number-clause-room : goal.returns-else-at-number-clause-room
returns-else-at-number-clause-room c =
    let bs = c.args.blocks.now.used in
    let i = c.find-index.result in
    let at = c.find-index.ensures.place in
    let count : length (block bs i) ≡ c.len.result = ap (λ (ys : List ℕ). length ys) (sym c.at.ensures) ∙ sym c.len.ensures.count in
    let both = split_all bs i 32 c.requires.packed at.within (omega arith) (omega (arith, c.if-len-lt-MOST.false)) in
    let put = c.split.ensures.used in
    let low = halved_low bs i (take 32 (block bs i)) (drop 32 (block bs i)) at.within in
    let size = ap (λ (ys : List ℕ). length ys) (ap (λ (ys : List (List ℕ)). block ys i) put ∙ low) in
    let first = length-take 32 (block bs i) (omega (arith, count, c.if-len-lt-MOST.false)) in
    omega (arith, size, first)
