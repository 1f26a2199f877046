-- The walk, one component at a time.
use Rattle.std.proofs.Common.{◌≡◌, ◌<◌, ◌≤◌, ◌-◌, ◌+◌, ℕ, zero, suc, List, refl, ap, ◌∙◌, arith}
use Rattle.path_lookup.specs.Split.{Component}
use Rattle.path_lookup.specs.Walk.{Finds, walk_within, step, spent}
use Rattle.path_lookup.specs.declared.ends.WalkMode.{WalkMode}

one_more : (find : Finds) (mode : WalkMode) (left links top : ℕ) (above : List ℕ) (rest : List Component)
    → walk_within find mode (suc left) links top above rest ≡ step find mode (walk_within find mode left) links top above rest
unfolding walk_within
one_more find mode left links top above rest = refl

none_more : (find : Finds) (mode : WalkMode) (links top : ℕ) (above : List ℕ) (rest : List Component) → walk_within find mode zero links top above rest ≡ spent top rest
unfolding walk_within
none_more find mode links top above rest = refl

-- while components may be treated, the walk is a step and then the walk with one less
pub step_next : (find : Finds) (mode : WalkMode) (most i links top : ℕ) (above : List ℕ) (rest : List Component) → i < most
    → walk_within find mode (most - i) links top above rest ≡ step find mode (walk_within find mode (most - (i + 1))) links top above rest
step_next find mode most i links top above rest h =
    ap (λ n. walk_within find mode n links top above rest) (let e : most - i ≡ suc (most - (i + 1)) = omega arith in e)
    ∙ one_more find mode (most - (i + 1)) links top above rest

-- and in the end none may
pub step_last : (find : Finds) (mode : WalkMode) (most i links top : ℕ) (above : List ℕ) (rest : List Component) → most ≤ i
    → walk_within find mode (most - i) links top above rest ≡ spent top rest
step_last find mode most i links top above rest h =
    ap (λ n. walk_within find mode n links top above rest) (let e : most - i ≡ zero = omega arith in e) ∙ none_more find mode links top above rest
