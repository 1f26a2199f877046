use Rattle.std.proofs.Common.{◌≡◌, ◌≢◌, ℕ, ◌+◌, ◌<◌, ◌≤◌, List, [], length, set, sym, ap, subst, ◌∙◌, arith}
use Rattle.std.specs.List.{concat, remove}
use Rattle.std.proofs.lemmas.List.{get_or-set_same}
use Rattle.wait_set.specs.Numbers.{IsAscending, IsPacked, IsJoined, HasSome, block}
use Rattle.wait_set.proofs.Packed.{list_set, took_ascends}
use Rattle.wait_set.proofs.Thick.{took_gone, took_some, took_many, took_packed, took_first, joined_some}
use Rattle.wait_set.proofs.packing.take_at.Goals as goal

pub returns-then-len-eq0-clause-packed : goal.returns-then-len-eq0-clause-packed
returns-then-len-eq0-clause-packed c =
    let bs = c.args.blocks.now.used in
    let put = c.remove_at.ensures.used in
    let none = ap (λ (ys : List (List ℕ)). length (block ys c.args.index)) (sym put) ∙ ap (λ (ys : List ℕ). length ys) (sym c.at.ensures) ∙ sym c.len.ensures.count ∙ c.if-len-eq0.true in
    subst IsPacked (sym (c.drop_at.ensures.used ∙ ap (λ (ys : List (List ℕ)). remove ys c.args.index) put))
    (took_gone bs c.args.index c.args.place c.requires.packed c.requires.index c.requires.place none).0

pub returns-then-len-eq0-clause-list : goal.returns-then-len-eq0-clause-list
returns-then-len-eq0-clause-list c =
    let bs = c.args.blocks.now.used in
    let put = c.remove_at.ensures.used in
    let none = ap (λ (ys : List (List ℕ)). length (block ys c.args.index)) (sym put) ∙ ap (λ (ys : List ℕ). length ys) (sym c.at.ensures) ∙ sym c.len.ensures.count ∙ c.if-len-eq0.true in
    ap (λ (ys : List (List ℕ)). concat ys) (c.drop_at.ensures.used ∙ ap (λ (ys : List (List ℕ)). remove ys c.args.index) put)
    ∙ (took_gone bs c.args.index c.args.place c.requires.packed c.requires.index c.requires.place none).1

pub join_few-requires-then-index-gt0-clause-some : goal.join_few-requires-then-index-gt0-clause-some
join_few-requires-then-index-gt0-clause-some c =
    let bs = c.args.blocks.now.used in
    let x = remove (block bs c.args.index) c.args.place in
    let put = c.remove_at.ensures.used in
    let count : length (block (set bs c.args.index x) c.args.index) ≡ c.len.result =
    ap (λ (ys : List (List ℕ)). length (block ys c.args.index)) (sym put) ∙ ap (λ (ys : List ℕ). length ys) (sym c.at.ensures) ∙ sym c.len.ensures.count in
    let here = get_or-set_same bs c.args.index x [] c.requires.index in
    let size = ap (λ (ys : List ℕ). length ys) here in
    let long : 0 < length x = omega (arith, c.if-len-eq0.false) in
    let some = subst HasSome (sym put) (took_some bs c.args.index x c.requires.packed c.requires.index long) in
    let many = λ (k : ℕ) (h : k + 1 < length c.remove_at.new.self.used) (a : k ≢ c.args.index) (b : k + 1 ≢ c.args.index).
    subst (λ (ys : List (List ℕ)). 33 ≤ length (block ys k) + length (block ys (k + 1))) (sym put)
    (took_many bs c.args.index x c.requires.packed k (subst (λ (ys : List (List ℕ)). k + 1 < length ys) put h) a b) in
    joined_some c.remove_at.new.self.used c.join_few.new.blocks.used c.args.index some c.join_few.ensures.joined

pub returns-then-index-gt0-clause-list : goal.returns-then-index-gt0-clause-list
returns-then-index-gt0-clause-list c =
    c.join_few-then-index-gt0.ensures.same ∙ c.join_few.ensures.same ∙ ap (λ (ys : List (List ℕ)). concat ys) c.remove_at.ensures.used
    ∙ list_set c.args.blocks.now.used c.args.index (remove (block c.args.blocks.now.used c.args.index) c.args.place) c.requires.index

pub returns-then-index-gt0-clause-packed : goal.returns-then-index-gt0-clause-packed
returns-then-index-gt0-clause-packed c =
    let bs = c.args.blocks.now.used in
    let x = remove (block bs c.args.index) c.args.place in
    let put = c.remove_at.ensures.used in
    let count : length (block (set bs c.args.index x) c.args.index) ≡ c.len.result =
    ap (λ (ys : List (List ℕ)). length (block ys c.args.index)) (sym put) ∙ ap (λ (ys : List ℕ). length ys) (sym c.at.ensures) ∙ sym c.len.ensures.count in
    let here = get_or-set_same bs c.args.index x [] c.requires.index in
    let size = ap (λ (ys : List ℕ). length ys) here in
    let long : 0 < length x = omega (arith, c.if-len-eq0.false) in
    let some = subst HasSome (sym put) (took_some bs c.args.index x c.requires.packed c.requires.index long) in
    let many = λ (k : ℕ) (h : k + 1 < length c.remove_at.new.self.used) (a : k ≢ c.args.index) (b : k + 1 ≢ c.args.index).
    subst (λ (ys : List (List ℕ)). 33 ≤ length (block ys k) + length (block ys (k + 1))) (sym put)
    (took_many bs c.args.index x c.requires.packed k (subst (λ (ys : List (List ℕ)). k + 1 < length ys) put h) a b) in
    let up = subst IsAscending (sym (returns-then-index-gt0-clause-list c)) (took_ascends bs c.args.index c.args.place c.requires.packed c.requires.index c.requires.place) in
    took_packed c.remove_at.new.self.used c.join_few.new.blocks.used c.join_few-then-index-gt0.new.blocks.used c.args.index some many
    c.join_few.ensures.joined c.if-index-gt0.true c.join_few-then-index-gt0.ensures.joined up

pub returns-else-index-gt0-clause-packed : goal.returns-else-index-gt0-clause-packed
returns-else-index-gt0-clause-packed c =
    let bs = c.args.blocks.now.used in
    let x = remove (block bs c.args.index) c.args.place in
    let put = c.remove_at.ensures.used in
    let count : length (block (set bs c.args.index x) c.args.index) ≡ c.len.result =
    ap (λ (ys : List (List ℕ)). length (block ys c.args.index)) (sym put) ∙ ap (λ (ys : List ℕ). length ys) (sym c.at.ensures) ∙ sym c.len.ensures.count in
    let here = get_or-set_same bs c.args.index x [] c.requires.index in
    let size = ap (λ (ys : List ℕ). length ys) here in
    let long : 0 < length x = omega (arith, c.if-len-eq0.false) in
    let some = subst HasSome (sym put) (took_some bs c.args.index x c.requires.packed c.requires.index long) in
    let many = λ (k : ℕ) (h : k + 1 < length c.remove_at.new.self.used) (a : k ≢ c.args.index) (b : k + 1 ≢ c.args.index).
    subst (λ (ys : List (List ℕ)). 33 ≤ length (block ys k) + length (block ys (k + 1))) (sym put)
    (took_many bs c.args.index x c.requires.packed k (subst (λ (ys : List (List ℕ)). k + 1 < length ys) put h) a b) in
    let list = c.join_few.ensures.same ∙ ap (λ (ys : List (List ℕ)). concat ys) put ∙ list_set bs c.args.index x c.requires.index in
    let up = subst IsAscending (sym list) (took_ascends bs c.args.index c.args.place c.requires.packed c.requires.index c.requires.place) in
    let zero : c.args.index ≡ 0 = omega (arith, c.if-index-gt0.false) in
    took_first c.remove_at.new.self.used c.join_few.new.blocks.used some
    (λ k h a b. many k h (λ e. a (e ∙ zero)) (λ e. b (e ∙ zero))) (subst (λ n. IsJoined c.remove_at.new.self.used c.join_few.new.blocks.used n) zero c.join_few.ensures.joined) up
