-- Where a value stands among the blocks of a list.
use Rattle.std.proofs.Common.{◌≡◌, ℕ, zero, suc, ◌+◌, ◌*◌, ◌<◌, List, [], ◌∷◌, ◌++◌, length, get_or, refl, sym, ap, ◌∙◌, append_assoc, length-append, arith}
use Rattle.std.specs.Prelude.{All, vec_len}
use Rattle.std.specs.List.{flat_map}
use Rattle.std.specs.Global.{Vec}
use Rattle.std.proofs.lemmas.List.{get_or_append_left, get_or-append-add}
use Rattle.block_list.specs.Blocks.{places, contents_of, AreBlocks}

-- full blocks have a value in each of their places
pub length_full : {T : Type 0} (full : List (Vec T)) → All (λ block. vec_len block ≡ places) full
    → length (flat_map (λ block. block.items) full) ≡ length full * places
length_full [] all = refl
length_full (x ∷ xs) all =
    let one : vec_len x ≡ places = all 0 x (omega arith) in
    let rest = length_full xs (λ k d within. all (suc k) d (omega arith)) in
    let long = length-append x.items (flat_map (λ block. block.items) xs) in
    let whole = x.ok.0 in
    omega arith

-- how many values there are in all
pub length_contents : {T : Type 0} (full : Vec (Vec T)) (last : Vec T) → AreBlocks full last
    → length (contents_of full last).items ≡ vec_len full * places + vec_len last
length_contents full last blocks =
    let before = length_full full.items blocks.full_ones in
    let long = length-append (flat_map (λ block. block.items) full.items) last.items in
    let blocks_are = full.ok.0 in
    let last_are = last.ok.0 in
    omega arith

-- the value at place r of full block b stands at index b * places + r
pub value_at : {T : Type 0} (full : List (Vec T)) (last : List T) (b r i : ℕ) (e : Vec T) (d : T) → All (λ block. vec_len block ≡ places) full
    → b < length full → r < places → i ≡ b * places + r → get_or (flat_map (λ block. block.items) full ++ last) i d ≡ get_or (get_or full b e).items r d
value_at [] last b r i e d all within inside is = absurd (omega arith)
value_at (x ∷ xs) last zero r i e d all within inside is =
    let one : vec_len x ≡ places = all 0 x (omega arith) in
    let whole = x.ok.0 in
    let here : i ≡ r = omega arith in
    ap (λ j. get_or ((x.items ++ flat_map (λ block. block.items) xs) ++ last) j d) here
    ∙ ap (λ values. get_or values r d) (append_assoc x.items (flat_map (λ block. block.items) xs) last)
    ∙ get_or_append_left x.items (flat_map (λ block. block.items) xs ++ last) d r (omega arith)
value_at (x ∷ xs) last (suc b) r i e d all within inside is =
    let one : vec_len x ≡ places = all 0 x (omega arith) in
    let whole = x.ok.0 in
    let there : i ≡ length x.items + (b * places + r) = omega arith in
    ap (λ j. get_or ((x.items ++ flat_map (λ block. block.items) xs) ++ last) j d) there
    ∙ ap (λ values. get_or values (length x.items + (b * places + r)) d) (append_assoc x.items (flat_map (λ block. block.items) xs) last)
    ∙ get_or-append-add x.items (flat_map (λ block. block.items) xs ++ last) (b * places + r) d
    ∙ value_at xs last b r (b * places + r) e d (λ k f near. all (suc k) f (omega arith)) (omega arith) inside refl
