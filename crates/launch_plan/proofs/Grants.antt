-- Descriptors that are asked for by one list of nodes behind another.
use Rattle.std.proofs.Common.{◌≡◌, ℕ, zero, suc, ◌+◌, ◌<◌, List, [], ◌∷◌, ◌++◌, length, map, drop, get_or, Result, Ok, Err, refl, sym, ap, subst, ◌∙◌, append_assoc, arith}
use Rattle.std.specs.Prelude.{IfOk}
use Rattle.std.proofs.lemmas.List.{append-nil}
use Rattle.abi_base.specs.declared.grant.Grant.{Grant}
use Rattle.tree_model.specs.Tree.{Tree}
use Rattle.launch_values.specs.declared.node.Node.{Node}
use Rattle.launch_values.specs.Shape.{of_list, of_pairs}
use Rattle.launch_values.specs.Views.{shape_of, pair_of}
use Rattle.launch_plan.specs.declared.fault.PlanFault.{PlanFault}
use Rattle.lists.specs.Results.{◌>>=◌}
use Rattle.launch_plan.specs.Tagged.{Tagged, tagged, tagged_in_items, tagged_in_pairs, grant_of, grants_of, grants_behind}

step : (tree : Tree) (before : List Grant) (ts us : List Tagged) (r : Result Grant PlanFault)
    → ((g : Grant) → grants_behind tree (before ++ g ∷ []) (ts ++ us) ≡ (grants_behind tree (before ++ g ∷ []) ts >>= λ mid. grants_behind tree mid us))
    → (r >>= λ g. grants_behind tree (before ++ g ∷ []) (ts ++ us)) ≡ ((r >>= λ g. grants_behind tree (before ++ g ∷ []) ts) >>= λ mid. grants_behind tree mid us)
step tree before ts us (Ok g) h = h g
step tree before ts us (Err e) h = refl

pub behind_both : (tree : Tree) (before : List Grant) (ts us : List Tagged) → grants_behind tree before (ts ++ us) ≡ (grants_behind tree before ts >>= λ mid. grants_behind tree mid us)
behind_both tree before [] us = refl
behind_both tree before (t ∷ ts) us = step tree before ts us (grant_of tree t) (λ g. behind_both tree (before ++ g ∷ []) ts us)

one_more : (before : List Grant) (g : Grant) (r : Result (List Grant) PlanFault)
    → (r >>= λ gs. Ok ((before ++ g ∷ []) ++ gs)) ≡ ((r >>= λ gs. Ok (g ∷ gs)) >>= λ gs. Ok (before ++ gs))
one_more before g (Ok gs) = ap (λ (xs : List Grant). Ok xs) (append_assoc before (g ∷ []) gs)
one_more before g (Err e) = refl

more : (tree : Tree) (before : List Grant) (ts : List Tagged) (r : Result Grant PlanFault)
    → ((g : Grant) → grants_behind tree (before ++ g ∷ []) ts ≡ (grants_of tree ts >>= λ gs. Ok ((before ++ g ∷ []) ++ gs)))
    → (r >>= λ g. grants_behind tree (before ++ g ∷ []) ts) ≡ ((r >>= λ g. grants_of tree ts >>= λ gs. Ok (g ∷ gs)) >>= λ gs. Ok (before ++ gs))
more tree before ts (Ok g) h = h g ∙ one_more before g (grants_of tree ts)
more tree before ts (Err e) h = refl

from_behind : (tree : Tree) (before : List Grant) (ts : List Tagged) → grants_behind tree before ts ≡ (grants_of tree ts >>= λ gs. Ok (before ++ gs))
from_behind tree before [] = ap (λ (xs : List Grant). Ok xs) (sym (append-nil before))
from_behind tree before (t ∷ ts) = more tree before ts (grant_of tree t) (λ g. from_behind tree (before ++ g ∷ []) ts)

same : (r : Result (List Grant) PlanFault) → (r >>= λ gs. Ok ([] ++ gs)) ≡ r
same (Ok gs) = refl
same (Err e) = refl

pub behind_none : (tree : Tree) (ts : List Tagged) → grants_behind tree [] ts ≡ grants_of tree ts
behind_none tree ts = from_behind tree [] ts ∙ same (grants_of tree ts)

-- ---- the steps of a loop

pub goes_on : (tree : Tree) (before after : List Grant) (rest ts us : List Tagged) (whole : Result (List Grant) PlanFault)
    → rest ≡ ts ++ us → grants_behind tree before rest ≡ whole → grants_behind tree before ts ≡ Ok after → grants_behind tree after us ≡ whole
goes_on tree before after rest ts us whole split all here =
    ap (λ (r : Result (List Grant) PlanFault). r >>= λ mid. grants_behind tree mid us) (sym here)
    ∙ sym (behind_both tree before ts us) ∙ ap (grants_behind tree before) (sym split) ∙ all

pub fails : (tree : Tree) (before : List Grant) (rest ts us : List Tagged) (whole : Result (List Grant) PlanFault) (e : PlanFault)
    → rest ≡ ts ++ us → grants_behind tree before rest ≡ whole → grants_behind tree before ts ≡ Err e → whole ≡ Err e
fails tree before rest ts us whole e split all here =
    sym all ∙ ap (grants_behind tree before) split ∙ behind_both tree before ts us
    ∙ ap (λ (r : Result (List Grant) PlanFault). r >>= λ mid. grants_behind tree mid us) here

-- ---- what is left of a list

pub items_left : (xs : List Node) (i : ℕ) (d : Node) → i < length xs
    → tagged_in_items (of_list (map shape_of (drop i xs))) ≡ tagged (shape_of (get_or xs i d)) ++ tagged_in_items (of_list (map shape_of (drop (suc i) xs)))
items_left [] i d lt = absurd (omega arith)
items_left (x ∷ xs) zero d lt = refl
items_left (x ∷ xs) (suc i) d lt = items_left xs i d (omega arith)

pub pairs_left : (ps : List (Node × Node)) (i : ℕ) (d : Node × Node) → i < length ps
    → tagged_in_pairs (of_pairs (map pair_of (drop i ps)))
    ≡ tagged (shape_of (get_or ps i d).0) ++ (tagged (shape_of (get_or ps i d).1) ++ tagged_in_pairs (of_pairs (map pair_of (drop (suc i) ps))))
pairs_left [] i d lt = absurd (omega arith)
pairs_left (p ∷ ps) zero d lt = refl
pairs_left (p ∷ ps) (suc i) d lt = pairs_left ps i d (omega arith)

abbrev pub left_of : List Node → ℕ → List Tagged
left_of xs i = tagged_in_items (of_list (map shape_of (drop i xs)))

abbrev pub pairs_left_of : List (Node × Node) → ℕ → List Tagged
pairs_left_of ps i = tagged_in_pairs (of_pairs (map pair_of (drop i ps)))

pub item_here : (xs : List Node) (i : ℕ) (x : Node) → i < length xs → x ≡ get_or xs i x → left_of xs i ≡ tagged (shape_of x) ++ left_of xs (i + 1)
item_here xs i x lt is =
    let next : suc i ≡ i + 1 = omega arith in
    items_left xs i x lt ∙ ap (λ (y : Node). tagged (shape_of y) ++ left_of xs (suc i)) (sym is)
    ∙ ap (λ (n : ℕ). tagged (shape_of x) ++ left_of xs n) next

pub pair_here : (ps : List (Node × Node)) (i : ℕ) (p : Node × Node) → i < length ps → p ≡ get_or ps i p
    → pairs_left_of ps i ≡ tagged (shape_of p.0) ++ (tagged (shape_of p.1) ++ pairs_left_of ps (i + 1))
pair_here ps i p lt is =
    let next : suc i ≡ i + 1 = omega arith in
    pairs_left ps i p lt ∙ ap (λ (q : Node × Node). tagged (shape_of q.0) ++ (tagged (shape_of q.1) ++ pairs_left_of ps (suc i))) (sym is)
    ∙ ap (λ (n : ℕ). tagged (shape_of p.0) ++ (tagged (shape_of p.1) ++ pairs_left_of ps n)) next

-- ---- how many there are

sized_step : (ts : List Tagged) (r : Result Grant PlanFault) (rest : Result (List Grant) PlanFault) → IfOk rest (λ grants. length grants ≡ length ts)
    → IfOk (r >>= λ grant. rest >>= λ grants. Ok (grant ∷ grants)) (λ grants. length grants ≡ suc (length ts))
sized_step ts (Err e) rest h = tt
sized_step ts (Ok grant) (Err e) h = tt
sized_step ts (Ok grant) (Ok grants) h = ap suc h

sized : (tree : Tree) (ts : List Tagged) → IfOk (grants_of tree ts) (λ grants. length grants ≡ length ts)
sized tree [] = refl
sized tree (t ∷ ts) = sized_step ts (grant_of tree t) (grants_of tree ts) (sized tree ts)

pub all_there : (tree : Tree) (ts : List Tagged) (grants : List Grant) → grants_of tree ts ≡ Ok grants → length grants ≡ length ts
all_there tree ts grants e = subst (λ (r : Result (List Grant) PlanFault). IfOk r (λ gs. length gs ≡ length ts)) e (sized tree ts)
