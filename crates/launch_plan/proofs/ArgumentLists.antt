-- The arguments of a list of nodes, one after the other.
use Rattle.std.proofs.Common.{◌≡◌, ℕ, zero, suc, ◌+◌, ◌<◌, ◌≤◌, List, [], ◌∷◌, ◌++◌, length, map, drop, get_or, refl, sym, ap, ◌∙◌, arith}
use Rattle.std.proofs.lemmas.List.{length-append}
use Rattle.argdata_codec.specs.Shape as arguments
use Rattle.launch_values.specs.declared.node.Node.{Node}
use Rattle.launch_values.specs.Shape.{of_list, of_pairs}
use Rattle.launch_values.specs.Views.{shape_of, pair_of}
use Rattle.launch_plan.specs.Tagged.{tagged}
use Rattle.launch_plan.specs.Values.{count, value_of, item_values, pair_values}
use Rattle.launch_plan.proofs.Grants.{left_of, pairs_left_of, item_here, pair_here}

-- the arguments of the nodes from a place on
abbrev pub items_from : ℕ → List Node → ℕ → arguments.Shapes
items_from n xs i = item_values n (of_list (map shape_of (drop i xs)))

abbrev pub pairs_from : ℕ → List (Node × Node) → ℕ → arguments.Pairs
pairs_from n ps i = pair_values n (of_pairs (map pair_of (drop i ps)))

-- arguments before others
abbrev pub before_items : List arguments.Shape → arguments.Shapes → arguments.Shapes
before_items [] more = more
before_items (v ∷ vs) more = arguments.item v (before_items vs more)

abbrev pub before_pairs : List (arguments.Shape × arguments.Shape) → arguments.Pairs → arguments.Pairs
before_pairs [] more = more
before_pairs (v ∷ vs) more = arguments.pair v.0 v.1 (before_pairs vs more)

pub one_item : (vs : List arguments.Shape) (v : arguments.Shape) (more : arguments.Shapes) → before_items (vs ++ v ∷ []) more ≡ before_items vs (arguments.item v more)
one_item [] v more = refl
one_item (w ∷ vs) v more = ap (arguments.item w) (one_item vs v more)

pub one_pair : (vs : List (arguments.Shape × arguments.Shape)) (v : arguments.Shape × arguments.Shape) (more : arguments.Pairs)
    → before_pairs (vs ++ v ∷ []) more ≡ before_pairs vs (arguments.pair v.0 v.1 more)
one_pair [] v more = refl
one_pair (w ∷ vs) v more = ap (arguments.pair w.0 w.1) (one_pair vs v more)

pub all_items : (vs : List arguments.Shape) → before_items vs arguments.no_items ≡ arguments.of_list vs
all_items [] = refl
all_items (v ∷ vs) = ap (arguments.item v) (all_items vs)

pub all_pairs : (vs : List (arguments.Shape × arguments.Shape)) → before_pairs vs arguments.no_pairs ≡ arguments.of_pairs vs
all_pairs [] = refl
all_pairs (v ∷ vs) = ap (arguments.pair v.0 v.1) (all_pairs vs)

items_split : (n : ℕ) (xs : List Node) (i : ℕ) (d : Node) → i < length xs
    → items_from n xs i ≡ arguments.item (value_of n (shape_of (get_or xs i d))) (items_from (n + count (shape_of (get_or xs i d))) xs (suc i))
items_split n [] i d lt = absurd (omega arith)
items_split n (x ∷ xs) zero d lt = refl
items_split n (x ∷ xs) (suc i) d lt = items_split n xs i d (omega arith)

pairs_split : (n : ℕ) (ps : List (Node × Node)) (i : ℕ) (d : Node × Node) → i < length ps
    → pairs_from n ps i
    ≡ arguments.pair (value_of n (shape_of (get_or ps i d).0)) (value_of (n + count (shape_of (get_or ps i d).0)) (shape_of (get_or ps i d).1))
    (pairs_from (n + count (shape_of (get_or ps i d).0) + count (shape_of (get_or ps i d).1)) ps (suc i))
pairs_split n [] i d lt = absurd (omega arith)
pairs_split n (p ∷ ps) zero d lt = refl
pairs_split n (p ∷ ps) (suc i) d lt = pairs_split n ps i d (omega arith)

-- the node at a place and what is left behind it
pub item_split : (n : ℕ) (xs : List Node) (i : ℕ) (x : Node) → i < length xs → x ≡ get_or xs i x
    → items_from n xs i ≡ arguments.item (value_of n (shape_of x)) (items_from (n + count (shape_of x)) xs (i + 1))
item_split n xs i x lt is =
    let next : suc i ≡ i + 1 = omega arith in
    items_split n xs i x lt
    ∙ ap (λ (y : Node). arguments.item (value_of n (shape_of y)) (items_from (n + count (shape_of y)) xs (suc i))) (sym is)
    ∙ ap (λ (m : ℕ). arguments.item (value_of n (shape_of x)) (items_from (n + count (shape_of x)) xs m)) next

pub pair_split : (n : ℕ) (ps : List (Node × Node)) (i : ℕ) (p : Node × Node) → i < length ps → p ≡ get_or ps i p
    → pairs_from n ps i
    ≡ arguments.pair (value_of n (shape_of p.0)) (value_of (n + count (shape_of p.0)) (shape_of p.1))
    (pairs_from (n + count (shape_of p.0) + count (shape_of p.1)) ps (i + 1))
pair_split n ps i p lt is =
    let next : suc i ≡ i + 1 = omega arith in
    let one : Node × Node → ℕ → arguments.Pairs = λ q m. arguments.pair (value_of n (shape_of q.0)) (value_of (n + count (shape_of q.0)) (shape_of q.1)) (pairs_from (n + count (shape_of q.0) + count (shape_of q.1)) ps m) in
    pairs_split n ps i p lt ∙ ap (λ (q : Node × Node). one q (suc i)) (sym is) ∙ ap (λ (m : ℕ). one p m) next

pub no_items_from : (n : ℕ) (xs : List Node) (i : ℕ) → length xs ≤ i → items_from n xs i ≡ arguments.no_items
no_items_from n [] zero le = refl
no_items_from n [] (suc i) le = refl
no_items_from n (x ∷ xs) zero le = absurd (omega arith)
no_items_from n (x ∷ xs) (suc i) le = no_items_from n xs i (omega arith)

pub no_pairs_from : (n : ℕ) (ps : List (Node × Node)) (i : ℕ) → length ps ≤ i → pairs_from n ps i ≡ arguments.no_pairs
no_pairs_from n [] zero le = refl
no_pairs_from n [] (suc i) le = refl
no_pairs_from n (p ∷ ps) zero le = absurd (omega arith)
no_pairs_from n (p ∷ ps) (suc i) le = no_pairs_from n ps i (omega arith)

-- how many nodes with a tag are from a place on
pub items_count : (xs : List Node) (i : ℕ) (x : Node) → i < length xs → x ≡ get_or xs i x
    → length (left_of xs i) ≡ count (shape_of x) + length (left_of xs (i + 1))
items_count xs i x lt is = ap length (item_here xs i x lt is) ∙ length-append (tagged (shape_of x)) (left_of xs (i + 1))

pub pairs_count : (ps : List (Node × Node)) (i : ℕ) (p : Node × Node) → i < length ps → p ≡ get_or ps i p
    → length (pairs_left_of ps i) ≡ count (shape_of p.0) + (count (shape_of p.1) + length (pairs_left_of ps (i + 1)))
pairs_count ps i p lt is =
    ap length (pair_here ps i p lt is) ∙ length-append (tagged (shape_of p.0)) _
    ∙ ap (λ (n : ℕ). count (shape_of p.0) + n) (length-append (tagged (shape_of p.1)) (pairs_left_of ps (i + 1)))

-- ---- the steps of the loops

pub item_more : (vs vs' : List arguments.Shape) (v : arguments.Shape) (n n' : ℕ) (xs : List Node) (i : ℕ) (x : Node) (whole : arguments.Shapes)
    → vs' ≡ vs ++ v ∷ [] → i < length xs → x ≡ get_or xs i x → v ≡ value_of n (shape_of x) → n' ≡ n + count (shape_of x)
    → before_items vs (items_from n xs i) ≡ whole → before_items vs' (items_from n' xs (i + 1)) ≡ whole
item_more vs vs' v n n' xs i x whole more lt is this next all =
    ap (λ (us : List arguments.Shape). before_items us (items_from n' xs (i + 1))) more
    ∙ one_item vs v (items_from n' xs (i + 1))
    ∙ ap (λ (u : arguments.Shape). before_items vs (arguments.item u (items_from n' xs (i + 1)))) this
    ∙ ap (λ (m : ℕ). before_items vs (arguments.item (value_of n (shape_of x)) (items_from m xs (i + 1)))) next
    ∙ sym (ap (before_items vs) (item_split n xs i x lt is)) ∙ all

pub pair_more : (vs vs' : List (arguments.Shape × arguments.Shape)) (k v : arguments.Shape) (n m n' : ℕ) (ps : List (Node × Node)) (i : ℕ) (p : Node × Node) (whole : arguments.Pairs)
    → vs' ≡ vs ++ (k, v) ∷ [] → i < length ps → p ≡ get_or ps i p → k ≡ value_of n (shape_of p.0) → m ≡ n + count (shape_of p.0)
    → v ≡ value_of m (shape_of p.1) → n' ≡ m + count (shape_of p.1)
    → before_pairs vs (pairs_from n ps i) ≡ whole → before_pairs vs' (pairs_from n' ps (i + 1)) ≡ whole
pair_more vs vs' k v n m n' ps i p whole more lt is key between value next all =
    ap (λ (us : List (arguments.Shape × arguments.Shape)). before_pairs us (pairs_from n' ps (i + 1))) more
    ∙ one_pair vs (k, v) (pairs_from n' ps (i + 1))
    ∙ ap (λ (u : arguments.Shape). before_pairs vs (arguments.pair u v (pairs_from n' ps (i + 1)))) key
    ∙ ap (λ (u : arguments.Shape). before_pairs vs (arguments.pair (value_of n (shape_of p.0)) u (pairs_from n' ps (i + 1)))) value
    ∙ ap (λ (j : ℕ). before_pairs vs (arguments.pair (value_of n (shape_of p.0)) (value_of m (shape_of p.1)) (pairs_from j ps (i + 1)))) next
    ∙ ap (λ (j : ℕ). before_pairs vs (arguments.pair (value_of n (shape_of p.0)) (value_of j (shape_of p.1)) (pairs_from (j + count (shape_of p.1)) ps (i + 1)))) between
    ∙ sym (ap (before_pairs vs) (pair_split n ps i p lt is)) ∙ all
