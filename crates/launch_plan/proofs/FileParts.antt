-- The parts of a map one after another, and the rights of a list.
use Rattle.std.proofs.Common.{◌≡◌, ℕ, zero, suc, ◌+◌, ◌<◌, ◌≤◌, Bool, List, [], ◌∷◌, length, map, drop, get_or, Option, Some, None, Result, Ok, Err, refl, sym, ap, ◌∙◌, arith}
use Rattle.std.specs.Prelude.{◌&&◌, ◌||◌}
use Rattle.std.specs.Int.RustNames.{bit_or}
use Rattle.std.proofs.lemmas.List.{drop_all}
use Rattle.std.specs.Int.Bits.{or_zero_r}
use Rattle.std.proofs.lemmas.Nat.Bits.{bit_at_or, same_from_bits}
use Rattle.abi_base.specs.declared.rights.Rights.{Rights}
use Rattle.lists.specs.Results.{◌>>=◌}
use Rattle.tree_model.specs.Tree.{Tree}
use Rattle.launch_values.specs.declared.node.Node.{Node}
use Rattle.launch_values.specs.Shape.{Shapes, Pairs, item, pair, of_list, of_pairs}
use Rattle.launch_values.specs.Views.{shape_of, pair_of}
use Rattle.launch_plan.specs.declared.fault.PlanFault.{PlanFault}
use Rattle.launch_plan.specs.declared.files.Asked.{Asked}
use Rattle.launch_plan.specs.Files.{Part, right_of, listed, part_of, with_part, parts_of, are_parts, has_path, later, together, asked_by, asked_of, asked_with, as_rights}

-- ---- lists from a place on

abbrev pub items_at : List Node → ℕ → Shapes
items_at xs i = of_list (map shape_of (drop i xs))

abbrev pub pairs_at : List (Node × Node) → ℕ → Pairs
pairs_at ps i = of_pairs (map pair_of (drop i ps))

items_split : (xs : List Node) (i : ℕ) (d : Node) → i < length xs → items_at xs i ≡ item (shape_of (get_or xs i d)) (items_at xs (suc i))
items_split [] i d lt = absurd (omega arith)
items_split (x ∷ xs) zero d lt = refl
items_split (x ∷ xs) (suc i) d lt = items_split xs i d (omega arith)

pairs_split : (ps : List (Node × Node)) (i : ℕ) (d : Node × Node) → i < length ps
    → pairs_at ps i ≡ pair (shape_of (get_or ps i d).0) (shape_of (get_or ps i d).1) (pairs_at ps (suc i))
pairs_split [] i d lt = absurd (omega arith)
pairs_split (p ∷ ps) zero d lt = refl
pairs_split (p ∷ ps) (suc i) d lt = pairs_split ps i d (omega arith)

item_here : (xs : List Node) (i : ℕ) (x : Node) → i < length xs → x ≡ get_or xs i x → items_at xs i ≡ item (shape_of x) (items_at xs (i + 1))
item_here xs i x lt is =
    let next : suc i ≡ i + 1 = omega arith in
    items_split xs i x lt ∙ ap (λ (y : Node). item (shape_of y) (items_at xs (suc i))) (sym is) ∙ ap (λ (n : ℕ). item (shape_of x) (items_at xs n)) next

pair_here : (ps : List (Node × Node)) (i : ℕ) (p : Node × Node) → i < length ps → p ≡ get_or ps i p
    → pairs_at ps i ≡ pair (shape_of p.0) (shape_of p.1) (pairs_at ps (i + 1))
pair_here ps i p lt is =
    let next : suc i ≡ i + 1 = omega arith in
    pairs_split ps i p lt ∙ ap (λ (q : Node × Node). pair (shape_of q.0) (shape_of q.1) (pairs_at ps (suc i))) (sym is)
    ∙ ap (λ (n : ℕ). pair (shape_of p.0) (shape_of p.1) (pairs_at ps n)) next

-- ---- rights

or_assoc : (a b c : ℕ) → bit_or (bit_or a b) c ≡ bit_or a (bit_or b c)
or_assoc a b c =
    same_from_bits (bit_or (bit_or a b) c) (bit_or a (bit_or b c))
    (λ i. omega (arith, bit_at_or (bit_or a b) c i, bit_at_or a b i, bit_at_or a (bit_or b c) i, bit_at_or b c i))

-- the rights so far, with more
abbrev pub rights_with : ℕ → Result ℕ PlanFault → Result Rights PlanFault
rights_with rights r = r >>= λ more. Ok (record { 0 = bit_or rights more })

pub rights_ok : (r : Result ℕ PlanFault) (rights : Rights) → as_rights r ≡ Ok rights → r ≡ Ok rights.0
rights_ok (Ok n) rights e = cc
rights_ok (Err f) rights e = absurd (cc)

more_rights : (rights right : ℕ) (r : Result ℕ PlanFault) → rights_with (bit_or rights right) r ≡ rights_with rights (r >>= λ more. Ok (bit_or right more))
more_rights rights right (Ok more) = ap (λ (n : ℕ). Ok (record { 0 = n })) (or_assoc rights right more)
more_rights rights right (Err f) = refl

pub listed_goes_on : (rights right : ℕ) (xs : List Node) (i : ℕ) (x : Node) (all : Result Rights PlanFault) → i < length xs → x ≡ get_or xs i x
    → right_of (shape_of x) ≡ Ok right → rights_with rights (listed (items_at xs i)) ≡ all → rights_with (bit_or rights right) (listed (items_at xs (i + 1))) ≡ all
listed_goes_on rights right xs i x all lt is here before =
    more_rights rights right (listed (items_at xs (i + 1)))
    ∙ ap (λ (r : Result ℕ PlanFault). rights_with rights (r >>= λ one. listed (items_at xs (i + 1)) >>= λ more. Ok (bit_or one more))) (sym here)
    ∙ ap (λ (ys : Shapes). rights_with rights (listed ys)) (sym (item_here xs i x lt is)) ∙ before

-- no item is left
no_items : (xs : List Node) (i : ℕ) → length xs ≤ i → items_at xs i ≡ of_list []
no_items xs i le = ap (λ (ys : List Node). of_list (map shape_of ys)) (drop_all i xs le)

pub listed_ends : (rights : Rights) (xs : List Node) (i : ℕ) (all : Result Rights PlanFault) → length xs ≤ i
    → rights_with rights.0 (listed (items_at xs i)) ≡ all → Ok rights ≡ all
listed_ends rights xs i all le before =
    ap (λ (n : ℕ). Ok (record { 0 = n })) (sym (or_zero_r rights.0))
    ∙ ap (λ (ys : Shapes). rights_with rights.0 (listed ys)) (sym (no_items xs i le)) ∙ before

-- ---- whether a map is one of parts

-- whether these pairs are parts, and the path is among them or came before
abbrev pub are_with : Bool → Pairs → Bool
are_with before ps = are_parts ps && (before || has_path (parts_of ps))

-- ---- what parts ask for

later_later : {X : Type 0} (a b c : Option X) → later (later a b) c ≡ later a (later b c)
later_later a b None = refl
later_later a b (Some x) = refl

together_all : (a b c : Asked) → together (together a b) c ≡ together a (together b c)
together_all a b c =
    let one = later_later a.target b.target c.target in
    let two = later_later a.base b.base c.base in
    let three = later_later a.inheriting b.inheriting c.inheriting in
    cc

-- what the pairs from a place on ask for
abbrev pub asked_at : Tree → List (Node × Node) → ℕ → Result Asked PlanFault
asked_at t ps i = asked_of t (parts_of (pairs_at ps i))

more_asked : (a a' : Asked) (one rest : Result Asked PlanFault) → asked_with a one ≡ Ok a'
    → asked_with a (one >>= λ b. rest >>= λ c. Ok (together b c)) ≡ asked_with a' rest
more_asked a a' (Err f) rest e = absurd (cc)
more_asked a a' (Ok b) (Err f) e = refl
more_asked a a' (Ok b) (Ok c) e =
    let same : together a b ≡ a' = cc in
    ap (λ (d : Asked). Ok d) (sym (together_all a b c)) ∙ ap (λ (d : Asked). Ok (together d c)) same

asked_by_part : (t : Tree) (a : Asked) (ps : List (Node × Node)) (i : ℕ) (p : Node × Node) (o : Option Part) → i < length ps → p ≡ get_or ps i p
    → part_of (shape_of p.0) (shape_of p.1) ≡ o → asked_with a (asked_at t ps i) ≡ asked_with a (asked_of t (with_part o (parts_of (pairs_at ps (i + 1)))))
asked_by_part t a ps i p o lt is here =
    ap (λ (qs : Pairs). asked_with a (asked_of t (parts_of qs))) (pair_here ps i p lt is)
    ∙ ap (λ (q : Option Part). asked_with a (asked_of t (with_part q (parts_of (pairs_at ps (i + 1)))))) here

pub asked_goes_on : (t : Tree) (a a' : Asked) (ps : List (Node × Node)) (i : ℕ) (p : Node × Node) (part : Part) (all : Result Asked PlanFault)
    → i < length ps → p ≡ get_or ps i p → part_of (shape_of p.0) (shape_of p.1) ≡ Some part → asked_with a (asked_by t part) ≡ Ok a'
    → asked_with a (asked_at t ps i) ≡ all → asked_with a' (asked_at t ps (i + 1)) ≡ all
asked_goes_on t a a' ps i p part all lt is here one inv =
    sym (more_asked a a' (asked_by t part) (asked_at t ps (i + 1)) one) ∙ sym (asked_by_part t a ps i p (Some part) lt is here) ∙ inv

pub asked_skips : (t : Tree) (a : Asked) (ps : List (Node × Node)) (i : ℕ) (p : Node × Node) (all : Result Asked PlanFault)
    → i < length ps → p ≡ get_or ps i p → part_of (shape_of p.0) (shape_of p.1) ≡ None
    → asked_with a (asked_at t ps i) ≡ all → asked_with a (asked_at t ps (i + 1)) ≡ all
asked_skips t a ps i p all lt is here inv = sym (asked_by_part t a ps i p None lt is here) ∙ inv
