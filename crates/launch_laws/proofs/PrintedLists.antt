-- Flow sequences and maps that are encoded are read, with all that stands in them.
use Rattle.std.proofs.Common.{◌≡◌, ℕ, zero, suc, ◌<◌, ◌≤◌, Bool, true, false, if◌then◌else◌, ◌||◌, List, [], ◌∷◌, ◌++◌, length, drop, codes, Some, None, Result, Ok, refl, sym, ap, subst, ◌∙◌, append_assoc, arith}
use Rattle.std.specs.Cmp.{bool_eq_equiv}
use Rattle.std.specs.List.{AllByRecursion, IsDistinct, list_any}
use Rattle.std.proofs.lemmas.Bool.{cond-false}
use Rattle.std.proofs.lemmas.Cmp.{int_eq_equiv, nat_list_eq_equiv}
use Rattle.std.proofs.lemmas.List.{length-append}
use Rattle.lists.specs.Results.{◌>>=◌}
use Rattle.launch_scalars.specs.declared.kind.YamlKind.TheVariants as kinds
use Rattle.launch_scalars.specs.declared.fault.LineFault.{LineFault}
use Rattle.launch_scalars.specs.Results.{fault}
use Rattle.launch_scalars.specs.Spaces.{is_one_of, begins_with, after_gap}
use Rattle.launch_values.specs.declared.mode.Mode.TheVariants as modes
use Rattle.launch_values.specs.Documents.{IsSound, IsSoundContent, AreSoundItems, AreSoundPairs}
use Rattle.launch_values.specs.Flow.{is_absent, node_with, goes_on, items_with, items_of, key_with, after_colon, keyed_with, pair_with, pairs_with, pairs_of, collection_at}
use Rattle.launch_values.specs.KeySets.{IsScalarKey}
use Rattle.launch_values.specs.Keys.{same_key, unless_there}
use Rattle.launch_values.specs.Resolution.{scalar_value}
use Rattle.launch_values.specs.Shape.{Shape, Content, Shapes, Pairs, node, null, boolean, integer, text, binary, mapping, sequence, no_items, item, no_pairs, pair, of_list, of_pairs, to_list, to_pairs, content_of, depth_of, depth_of_content, depth_of_items, depth_of_pairs}
use Rattle.launch_laws.specs.Printed.{printed, printed_value, printed_items, further_items, printed_pairs, further_pairs, IsKey, keys_of, IsEncodable, IsEncodableValue, AreEncodableItems, AreEncodablePairs}
use Rattle.launch_yaml.specs.Renumbering.{renumber, renumber_value, renumber_items, renumber_pairs}
use Rattle.launch_laws.proofs.PrintedScalars.{Starts, outside, no_scalar, scalar_starts, scalar_read}
use Rattle.launch_laws.proofs.PrintedFlow.{Nodes, read_value, read_node, one, isnt, among_none, wider, gap_drops, no_gap, begins_other, is_there, Follows, comma_follows, bracket_follows, brace_follows, is_collection, node_from, node_starts}

-- what reads the nodes in a map or a sequence of this depth
abbrev nodes_at : ℕ → Nodes
nodes_at depth = node_with (collection_at depth 1) 1

-- ---- items

abbrev read_items : List Shape → List ℕ → Result (List Shape × List ℕ) LineFault
read_items xs rest = Ok (xs, rest)

abbrev count_items : Shapes → ℕ
count_items no_items = 0
count_items (item x xs) = suc (count_items xs)

-- the items are read from where they stand, with the closing bracket
abbrev ItemsAreRead : ℕ → Shapes → Type 0
ItemsAreRead depth xs =
    (fuel : ℕ) (bytes rest : List ℕ) → after_gap bytes ≡ printed_items xs ++ 93 ∷ rest → count_items xs < fuel
    → items_with (nodes_at depth) fuel bytes ≡ read_items (to_list (renumber_items one xs)) rest

further_follow : (xs : Shapes) (rest : List ℕ) → Follows (further_items xs ++ 93 ∷ rest)
further_follow no_items rest = bracket_follows rest
further_follow (item x xs) rest = comma_follows _

abbrev onto_items : Shape → List Shape × List ℕ → Result (List Shape × List ℕ) LineFault
onto_items x more = Ok (x ∷ more.0, more.1)

-- what follows an item
items_go_on : (depth fuel : ℕ) (x : Shape) (xs : Shapes) (rest : List ℕ) → ItemsAreRead depth xs → AreSoundItems xs → count_items xs < fuel
    → goes_on 93 (items_with (nodes_at depth) fuel) x (further_items xs ++ 93 ∷ rest) ≡ read_items (x ∷ to_list (renumber_items one xs)) rest
items_go_on depth fuel x no_items rest read sound enough = refl
items_go_on depth fuel x (item y ys) rest read sound enough =
    let gap = ap after_gap (ap (λ (bs : List ℕ). 32 ∷ bs) (append_assoc (printed y) (further_items ys) (93 ∷ rest)))
    ∙ gap_drops (printed y) (further_items ys ++ 93 ∷ rest) (node_starts y sound.0)
    ∙ sym (append_assoc (printed y) (further_items ys) (93 ∷ rest)) in
    ap (λ (r : Result (List Shape × List ℕ) LineFault). r >>= onto_items x) (read fuel (32 ∷ printed_items (item y ys) ++ 93 ∷ rest) rest gap enough)

items_step : (depth fuel : ℕ) (x : Shape) (xs : Shapes) (bytes rest : List ℕ)
    → Starts outside (printed x) → ((behind : List ℕ) → Follows behind → nodes_at depth (printed x ++ behind) ≡ read_node (renumber one x) behind)
    → ItemsAreRead depth xs → AreSoundItems xs
    → after_gap bytes ≡ printed_items (item x xs) ++ 93 ∷ rest → suc (count_items xs) < suc fuel
    → items_with (nodes_at depth) (suc fuel) bytes ≡ read_items (to_list (renumber_items one (item x xs))) rest
items_step depth fuel x xs bytes rest starts reads more sound gap enough =
    let behind : List ℕ = further_items xs ++ 93 ∷ rest in
    let follows = further_follow xs rest in
    let none : List Shape × List ℕ = ([], drop 1 (printed x ++ behind)) in
    let next = λ (y : Shape × List ℕ). goes_on 93 (items_with (nodes_at depth) fuel) y.0 (after_gap y.1) in
    ap (λ (bs : List ℕ). if begins_with 93 bs then Ok ([], drop 1 bs) else (nodes_at depth bs >>= next)) (gap ∙ append_assoc (printed x) (further_items xs) (93 ∷ rest))
    ∙ cond-false (begins_with 93 (printed x ++ behind)) (Ok none) (nodes_at depth (printed x ++ behind) >>= next) (begins_other 93 (printed x) behind refl starts)
    ∙ ap (λ (r : Result (Shape × List ℕ) LineFault). r >>= next) (reads behind follows)
    ∙ ap (goes_on 93 (items_with (nodes_at depth) fuel) (renumber one x)) follows.ungapped
    ∙ items_go_on depth fuel (renumber one x) xs rest more sound (omega (arith, enough))

items_from : (depth : ℕ) (x : Shape) (xs : Shapes)
    → Starts outside (printed x) → ((behind : List ℕ) → Follows behind → nodes_at depth (printed x ++ behind) ≡ read_node (renumber one x) behind)
    → ItemsAreRead depth xs → AreSoundItems xs → ItemsAreRead depth (item x xs)
items_from depth x xs starts reads more sound zero bytes rest gap enough = absurd (omega (arith, enough))
items_from depth x xs starts reads more sound (suc fuel) bytes rest gap enough = items_step depth fuel x xs bytes rest starts reads more sound gap enough

no_items_from : (depth : ℕ) → ItemsAreRead depth no_items
no_items_from depth zero bytes rest gap enough = absurd (omega (arith, enough))
no_items_from depth (suc fuel) bytes rest gap enough =
    ap (λ (bs : List ℕ). if begins_with 93 bs then Ok ([], drop 1 bs) else (nodes_at depth bs >>= λ y. goes_on 93 (items_with (nodes_at depth) fuel) y.0 (after_gap y.1))) gap

-- ---- pairs

abbrev read_pairs : List (Shape × Shape) → List ℕ → Result (List (Shape × Shape) × List ℕ) LineFault
read_pairs ps rest = Ok (ps, rest)

abbrev count_pairs : Pairs → ℕ
count_pairs no_pairs = 0
count_pairs (pair k v ps) = suc (count_pairs ps)

-- no key of the pairs is among these keys, or among those before it
abbrev AreNew : List Content → Pairs → Type 0
AreNew keys no_pairs = Unit {0}
AreNew keys (pair k v ps) = (list_any (same_key (content_of k)) keys ≡ false) × AreNew (content_of k ∷ keys) ps

abbrev PairsAreRead : ℕ → Pairs → Type 0
PairsAreRead depth ps =
    (keys : List Content) (fuel : ℕ) (bytes rest : List ℕ) → after_gap bytes ≡ printed_pairs ps ++ 125 ∷ rest → count_pairs ps < fuel → AreNew keys ps
    → pairs_with (nodes_at depth) 1 keys fuel bytes ≡ read_pairs (to_pairs (renumber_pairs one ps)) rest

pub key_text : (k : Shape) → IsKey k → (printed k ≡ printed_value (content_of k)) × (renumber one k ≡ node 1 None (content_of k))
key_text (node line (Some tag) value) key = cc (key.0)
key_text (node line None null) key = (refl, refl)
key_text (node line None (boolean b)) key = (refl, refl)
key_text (node line None (integer i)) key = (refl, refl)
key_text (node line None (text bytes)) key = (refl, refl)
key_text (node line None (binary bytes)) key = cc (key.1)
key_text (node line None (mapping ps)) key = cc (key.1)
key_text (node line None (sequence xs)) key = cc (key.1)

pub key_sound : (k : Shape) → IsKey k → IsSound k → IsScalarKey (content_of k) × IsSoundContent (content_of k)
key_sound (node line tag value) key sound = (key.1, sound)

-- a key before its colon
key_with_scalar : (c : Content) (rest : List ℕ) → IsScalarKey c → IsSoundContent c → key_with (printed_value c ++ 58 ∷ 32 ∷ rest) ≡ read_value c (58 ∷ 32 ∷ rest)
key_with_scalar c rest key sound = whole (scalar_starts c key sound) ∙ scalar_read true c (58 ∷ 32 ∷ rest) key sound refl
  where
    whole : Starts no_scalar (printed_value c) → key_with (printed_value c ++ 58 ∷ 32 ∷ rest) ≡ scalar_value modes.Resolved true (printed_value c ++ 58 ∷ 32 ∷ rest)
    whole s =
        let opening = among_none (codes "[{!") s.first (isnt 91 no_scalar s.first refl s.free, (isnt 123 no_scalar s.first refl s.free, (isnt 33 no_scalar s.first refl s.free, tt))) in
        let closing = among_none (codes ",]}") s.first (isnt 44 no_scalar s.first refl s.free, (isnt 93 no_scalar s.first refl s.free, (isnt 125 no_scalar s.first refl s.free, tt))) in
        let left : ℕ = suc (length (s.others ++ 58 ∷ 32 ∷ rest)) in
        let a_value = scalar_value modes.Resolved true (s.first ∷ s.others ++ 58 ∷ 32 ∷ rest) in
        subst (λ (ys : List ℕ). key_with (ys ++ 58 ∷ 32 ∷ rest) ≡ scalar_value modes.Resolved true (ys ++ 58 ∷ 32 ∷ rest)) (sym s.same)
        (cond-false (is_one_of (codes "[{!") s.first) (fault left kinds.Character) (if is_one_of (codes ",]}") s.first then fault left kinds.Flow else a_value) opening
        ∙ cond-false (is_one_of (codes ",]}") s.first) (fault left kinds.Flow) a_value closing)

abbrev read_pair : Shape → Shape → List ℕ → Result ((Shape × Shape) × List ℕ) LineFault
read_pair k v rest = Ok ((k, v), rest)

abbrev keyed_pair : Content → Shape × List ℕ → Result ((Shape × Shape) × List ℕ) LineFault
keyed_pair c v = Ok ((node 1 None c, v.0), v.1)

-- a key and its value
pair_is : (depth : ℕ) (c : Content) (v : Shape) (keys : List Content) (behind : List ℕ) → IsScalarKey c → IsSoundContent c → list_any (same_key c) keys ≡ false
    → Starts outside (printed v) → nodes_at depth (printed v ++ behind) ≡ read_node (renumber one v) behind
    → pair_with (nodes_at depth) 1 keys (printed_value c ++ (58 ∷ 32 ∷ printed v ++ behind)) ≡ read_pair (node 1 None c) (renumber one v) behind
pair_is depth c v keys behind key sound new starts reads =
    let value : List ℕ = printed v ++ behind in
    let place : ℕ = length (printed_value c ++ 58 ∷ 32 ∷ value) in
    let one_value = keyed_with (nodes_at depth) 1 (after_gap (32 ∷ value)) >>= keyed_pair c in
    ap (λ (r : Result (Content × List ℕ) LineFault). r >>= λ k. after_colon (after_gap k.1) >>= λ rest. unless_there place k.0 keys (keyed_with (nodes_at depth) 1 (after_gap rest) >>= keyed_pair k.0))
    (key_with_scalar c value key sound)
    ∙ cond-false (list_any (same_key c) keys) (fault place kinds.DuplicateKey) one_value new
    ∙ ap (λ (bs : List ℕ). keyed_with (nodes_at depth) 1 bs >>= keyed_pair c) (gap_drops (printed v) behind starts)
    ∙ ap (λ (r : Result (Shape × List ℕ) LineFault). r >>= keyed_pair c)
    (cond-false (is_absent value) (read_node (node 1 None null) value) (nodes_at depth value) (is_there (printed v) behind starts) ∙ reads)

pairs_follow : (ps : Pairs) (rest : List ℕ) → Follows (further_pairs ps ++ 125 ∷ rest)
pairs_follow no_pairs rest = brace_follows rest
pairs_follow (pair k v ps) rest = comma_follows _

abbrev onto_pairs : Shape × Shape → List (Shape × Shape) × List ℕ → Result (List (Shape × Shape) × List ℕ) LineFault
onto_pairs p more = Ok (p ∷ more.0, more.1)

-- a pair's text, with what stands behind it
pair_text : (k v : Shape) (ps : Pairs) (rest : List ℕ) → printed_pairs (pair k v ps) ++ 125 ∷ rest ≡ printed k ++ (58 ∷ 32 ∷ printed v ++ (further_pairs ps ++ 125 ∷ rest))
pair_text k v ps rest =
    append_assoc (printed k) (58 ∷ 32 ∷ printed v ++ further_pairs ps) (125 ∷ rest)
    ∙ ap (λ (bs : List ℕ). printed k ++ 58 ∷ 32 ∷ bs) (append_assoc (printed v) (further_pairs ps) (125 ∷ rest))

key_starts : (k : Shape) → IsKey k → IsSound k → Starts outside (printed k)
key_starts k key sound =
    let both = key_sound k key sound in
    subst (Starts outside) (sym (key_text k key).0) (wider (printed_value (content_of k)) (scalar_starts (content_of k) both.0 both.1))

pairs_go_on : (depth fuel : ℕ) (p : Shape × Shape) (keys : List Content) (ps : Pairs) (rest : List ℕ) → PairsAreRead depth ps → AreSoundPairs ps → AreEncodablePairs true ps → count_pairs ps < fuel → AreNew keys ps
    → goes_on 125 (pairs_with (nodes_at depth) 1 keys fuel) p (further_pairs ps ++ 125 ∷ rest) ≡ read_pairs (p ∷ to_pairs (renumber_pairs one ps)) rest
pairs_go_on depth fuel p keys no_pairs rest read sound encodes enough new = refl
pairs_go_on depth fuel p keys (pair k v ps) rest read sound encodes enough new =
    let gap = ap (λ (bs : List ℕ). after_gap (32 ∷ bs)) (pair_text k v ps rest)
    ∙ gap_drops (printed k) (58 ∷ 32 ∷ printed v ++ (further_pairs ps ++ 125 ∷ rest)) (key_starts k encodes.0 sound.0)
    ∙ sym (pair_text k v ps rest) in
    ap (λ (r : Result (List (Shape × Shape) × List ℕ) LineFault). r >>= onto_pairs p) (read keys fuel (32 ∷ printed_pairs (pair k v ps) ++ 125 ∷ rest) rest gap enough new)

pairs_step : (depth fuel : ℕ) (k v : Shape) (ps : Pairs) (keys : List Content) (bytes rest : List ℕ) → IsKey k → IsSound k
    → Starts outside (printed v) → ((behind : List ℕ) → Follows behind → nodes_at depth (printed v ++ behind) ≡ read_node (renumber one v) behind)
    → PairsAreRead depth ps → AreSoundPairs ps → AreEncodablePairs true ps
    → after_gap bytes ≡ printed_pairs (pair k v ps) ++ 125 ∷ rest → suc (count_pairs ps) < suc fuel → AreNew keys (pair k v ps)
    → pairs_with (nodes_at depth) 1 keys (suc fuel) bytes ≡ read_pairs (to_pairs (renumber_pairs one (pair k v ps))) rest
pairs_step depth fuel k v ps keys bytes rest key key_is starts reads more sound encodes gap enough new =
    let behind : List ℕ = further_pairs ps ++ 125 ∷ rest in
    let follows = pairs_follow ps rest in
    let is = key_text k key in
    let both = key_sound k key key_is in
    let c : Content = content_of k in
    let whole : List ℕ = printed k ++ (58 ∷ 32 ∷ printed v ++ behind) in
    let none : List (Shape × Shape) × List ℕ = ([], drop 1 whole) in
    let next = λ (p : (Shape × Shape) × List ℕ). goes_on 125 (pairs_with (nodes_at depth) 1 (content_of p.0.0 ∷ keys) fuel) p.0 (after_gap p.1) in
    ap (λ (bs : List ℕ). if begins_with 125 bs then Ok ([], drop 1 bs) else (pair_with (nodes_at depth) 1 keys bs >>= next)) (gap ∙ pair_text k v ps rest)
    ∙ cond-false (begins_with 125 whole) (Ok none) (pair_with (nodes_at depth) 1 keys whole >>= next) (begins_other 125 (printed k) (58 ∷ 32 ∷ printed v ++ behind) refl (key_starts k key key_is))
    ∙ ap (λ (bs : List ℕ). pair_with (nodes_at depth) 1 keys (bs ++ (58 ∷ 32 ∷ printed v ++ behind)) >>= next) is.0
    ∙ ap (λ (r : Result ((Shape × Shape) × List ℕ) LineFault). r >>= next) (pair_is depth c v keys behind both.0 both.1 new.0 starts (reads behind follows))
    ∙ ap (goes_on 125 (pairs_with (nodes_at depth) 1 (c ∷ keys) fuel) (node 1 None c, renumber one v)) follows.ungapped
    ∙ pairs_go_on depth fuel (node 1 None c, renumber one v) (c ∷ keys) ps rest more sound encodes (omega (arith, enough)) new.1
    ∙ ap (λ (x : Shape). read_pairs ((x, renumber one v) ∷ to_pairs (renumber_pairs one ps)) rest) (sym is.1)

pairs_from : (depth : ℕ) (k v : Shape) (ps : Pairs) → IsKey k → IsSound k
    → Starts outside (printed v) → ((behind : List ℕ) → Follows behind → nodes_at depth (printed v ++ behind) ≡ read_node (renumber one v) behind)
    → PairsAreRead depth ps → AreSoundPairs ps → AreEncodablePairs true ps → PairsAreRead depth (pair k v ps)
pairs_from depth k v ps key key_is starts reads more sound encodes keys zero bytes rest gap enough new = absurd (omega (arith, enough))
pairs_from depth k v ps key key_is starts reads more sound encodes keys (suc fuel) bytes rest gap enough new =
    pairs_step depth fuel k v ps keys bytes rest key key_is starts reads more sound encodes gap enough new

no_pairs_from : (depth : ℕ) → PairsAreRead depth no_pairs
no_pairs_from depth keys zero bytes rest gap enough new = absurd (omega (arith, enough))
no_pairs_from depth keys (suc fuel) bytes rest gap enough new =
    ap (λ (bs : List ℕ). if begins_with 125 bs then Ok ([], drop 1 bs)
    else (pair_with (nodes_at depth) 1 keys bs >>= λ p. goes_on 125 (pairs_with (nodes_at depth) 1 (content_of p.0.0 ∷ keys) fuel) p.0 (after_gap p.1))) gap

-- ---- keys that differ

pub same_sym : (a b : Content) → same_key a b ≡ same_key b a
same_sym (boolean a) (boolean b) = bool_eq_equiv.symm a b
same_sym (integer i) (integer j) = int_eq_equiv.symm i j
same_sym (text a) (text b) = nat_list_eq_equiv.symm a b
same_sym null null = refl
same_sym (binary a) null = refl
same_sym (mapping ps) null = refl
same_sym (sequence xs) null = refl
same_sym a b = refl

-- keys that aren't among these, nor the same as one that is added
not_among : (key : Content) (keys others : List Content) → AllByRecursion (λ c. same_key key c ≡ false) others → AllByRecursion (λ c. list_any (same_key c) keys ≡ false) others
    → AllByRecursion (λ c. list_any (same_key c) (key ∷ keys) ≡ false) others
not_among key keys [] h k = tt
not_among key keys (c ∷ cs) h k = (ap (λ (t : Bool). t || list_any (same_key c) keys) (same_sym c key ∙ h.0) ∙ k.0, not_among key keys cs h.1 k.1)

new_keys : (ps : Pairs) (keys : List Content) → IsDistinct same_key (keys_of ps) → AllByRecursion (λ c. list_any (same_key c) keys ≡ false) (keys_of ps) → AreNew keys ps
unfolding IsDistinct
new_keys no_pairs keys distinct h = tt
new_keys (pair k v ps) keys distinct h = (h.0, new_keys ps (content_of k ∷ keys) distinct.1 (not_among (content_of k) keys (keys_of ps) distinct.0 h.1))

all_new : (cs : List Content) → AllByRecursion (λ c. list_any (same_key c) [] ≡ false) cs
all_new [] = tt
all_new (c ∷ cs) = (refl, all_new cs)

-- ---- the whole

listed : (xs : Shapes) → of_list (to_list xs) ≡ xs
listed no_items = refl
listed (item x xs) = ap (item x) (listed xs)

listed_pairs : (ps : Pairs) → of_pairs (to_pairs ps) ≡ ps
listed_pairs no_pairs = refl
listed_pairs (pair k v ps) = ap (pair k v) (listed_pairs ps)

items_fit : (xs : Shapes) → count_items xs ≤ length (further_items xs)
items_fit no_items = omega arith
items_fit (item x xs) = omega (arith, items_fit xs, length-append (printed x) (further_items xs))

all_items_fit : (xs : Shapes) (rest : List ℕ) → count_items xs < suc (length (printed_items xs ++ 93 ∷ rest))
all_items_fit no_items rest = omega arith
all_items_fit (item x xs) rest =
    omega (arith, items_fit xs, length-append (printed x) (further_items xs), length-append (printed x ++ further_items xs) (93 ∷ rest))

pairs_fit : (ps : Pairs) → count_pairs ps ≤ length (further_pairs ps)
pairs_fit no_pairs = omega arith
pairs_fit (pair k v ps) =
    omega (arith, pairs_fit ps, length-append (printed k) (58 ∷ 32 ∷ printed v ++ further_pairs ps), length-append (printed v) (further_pairs ps))

all_pairs_fit : (ps : Pairs) (rest : List ℕ) → count_pairs ps < suc (length (printed_pairs ps ++ 125 ∷ rest))
all_pairs_fit no_pairs rest = omega arith
all_pairs_fit (pair k v ps) rest =
    omega (
      arith,
      pairs_fit ps,
      length-append (printed k) (58 ∷ 32 ∷ printed v ++ further_pairs ps),
      length-append (printed v) (further_pairs ps),
      length-append (printed k ++ (58 ∷ 32 ∷ printed v ++ further_pairs ps)) (125 ∷ rest),
    )

items_ungapped : (xs : Shapes) (rest : List ℕ) → AreSoundItems xs → after_gap (printed_items xs ++ 93 ∷ rest) ≡ printed_items xs ++ 93 ∷ rest
items_ungapped no_items rest sound = refl
items_ungapped (item x xs) rest sound =
    ap after_gap (append_assoc (printed x) (further_items xs) (93 ∷ rest)) ∙ no_gap (printed x) (further_items xs ++ 93 ∷ rest) (node_starts x sound.0)
    ∙ sym (append_assoc (printed x) (further_items xs) (93 ∷ rest))

pairs_ungapped : (ps : Pairs) (rest : List ℕ) → AreSoundPairs ps → AreEncodablePairs true ps → after_gap (printed_pairs ps ++ 125 ∷ rest) ≡ printed_pairs ps ++ 125 ∷ rest
pairs_ungapped no_pairs rest sound encodes = refl
pairs_ungapped (pair k v ps) rest sound encodes =
    ap after_gap (pair_text k v ps rest) ∙ no_gap (printed k) (58 ∷ 32 ∷ printed v ++ (further_pairs ps ++ 125 ∷ rest)) (key_starts k encodes.0 sound.0)
    ∙ sym (pair_text k v ps rest)

sequence_from : (depth : ℕ) (xs : Shapes) (rest : List ℕ) → ItemsAreRead depth xs → AreSoundItems xs
    → collection_at (suc depth) 1 (printed_value (sequence xs) ++ rest) ≡ read_value (sequence (renumber_items one xs)) rest
unfolding collection_at items_of
sequence_from depth xs rest read sound =
    let bytes : List ℕ = printed_items xs ++ 93 ∷ rest in
    ap (λ (bs : List ℕ). collection_at (suc depth) 1 (91 ∷ bs)) (append_assoc (printed_items xs) (codes "]") rest)
    ∙ ap (λ (r : Result (List Shape × List ℕ) LineFault). r >>= λ items. read_value (sequence (of_list items.0)) items.1)
    (read (suc (length bytes)) bytes rest (items_ungapped xs rest sound) (all_items_fit xs rest))
    ∙ ap (λ (ys : Shapes). read_value (sequence ys) rest) (listed (renumber_items one xs))

mapping_from : (depth : ℕ) (ps : Pairs) (rest : List ℕ) → PairsAreRead depth ps → AreSoundPairs ps → AreEncodablePairs true ps → IsDistinct same_key (keys_of ps)
    → collection_at (suc depth) 1 (printed_value (mapping ps) ++ rest) ≡ read_value (mapping (renumber_pairs one ps)) rest
unfolding collection_at pairs_of
mapping_from depth ps rest read sound encodes distinct =
    let bytes : List ℕ = printed_pairs ps ++ 125 ∷ rest in
    ap (λ (bs : List ℕ). collection_at (suc depth) 1 (123 ∷ bs)) (append_assoc (printed_pairs ps) (codes "}") rest)
    ∙ ap (λ (r : Result (List (Shape × Shape) × List ℕ) LineFault). r >>= λ pairs. read_value (mapping (of_pairs pairs.0)) pairs.1)
    (read [] (suc (length bytes)) bytes rest (pairs_ungapped ps rest sound encodes) (all_pairs_fit ps rest) (new_keys ps [] distinct (all_new (keys_of ps))))
    ∙ ap (λ (qs : Pairs). read_value (mapping qs) rest) (listed_pairs (renumber_pairs one ps))

-- what holds below a depth that isn't 0
in_depth : (P : ℕ → Type 0) (below depth : ℕ) → suc below ≤ depth → ((d : ℕ) → below ≤ d → P (suc d)) → P depth
in_depth P below zero deep h = absurd (omega (arith, deep))
in_depth P below (suc d) deep h = h d (omega (arith, deep))

mutual
  pub node_read : (x : Shape) (depth : ℕ) (rest : List ℕ) → depth_of x ≤ depth → IsSound x → IsEncodable true x → Follows rest → nodes_at depth (printed x ++ rest) ≡ read_node (renumber one x) rest
  node_read (node line tag value) depth rest deep sound encodes follows =
      node_from (collection_at depth 1) line tag value rest (λ h. value_read value depth rest deep sound encodes.1 h) sound encodes.0 encodes.1 follows

  pub value_read : (c : Content) (depth : ℕ) (rest : List ℕ) → depth_of_content c ≤ depth → IsSoundContent c → IsEncodableValue true c → is_collection c ≡ true
      → collection_at depth 1 (printed_value c ++ rest) ≡ read_value (renumber_value one c) rest
  value_read null depth rest deep sound encodes h = cc (h)
  value_read (boolean b) depth rest deep sound encodes h = cc (h)
  value_read (integer i) depth rest deep sound encodes h = cc (h)
  value_read (text bytes) depth rest deep sound encodes h = cc (h)
  value_read (binary bytes) depth rest deep sound encodes h = cc (h)
  value_read (mapping ps) depth rest deep sound encodes h =
      in_depth (λ d. collection_at d 1 (printed_value (mapping ps) ++ rest) ≡ read_value (mapping (renumber_pairs one ps)) rest) (depth_of_pairs ps) depth deep
      (λ d inner. mapping_from d ps rest (pairs_read ps d inner sound encodes.1) sound encodes.1 encodes.0)
  value_read (sequence xs) depth rest deep sound encodes h =
      in_depth (λ d. collection_at d 1 (printed_value (sequence xs) ++ rest) ≡ read_value (sequence (renumber_items one xs)) rest) (depth_of_items xs) depth deep
      (λ d inner. sequence_from d xs rest (items_read xs d inner sound encodes) sound)

  items_read : (xs : Shapes) (depth : ℕ) → depth_of_items xs ≤ depth → AreSoundItems xs → AreEncodableItems true xs → ItemsAreRead depth xs
  items_read no_items depth deep sound encodes = no_items_from depth
  items_read (item x xs) depth deep sound encodes =
      items_from depth x xs (node_starts x sound.0) (λ behind follows. node_read x depth behind (omega (arith, deep)) sound.0 encodes.0 follows)
      (items_read xs depth (omega (arith, deep)) sound.1 encodes.1) sound.1

  pairs_read : (ps : Pairs) (depth : ℕ) → depth_of_pairs ps ≤ depth → AreSoundPairs ps → AreEncodablePairs true ps → PairsAreRead depth ps
  pairs_read no_pairs depth deep sound encodes = no_pairs_from depth
  pairs_read (pair k v ps) depth deep sound encodes =
      pairs_from depth k v ps encodes.0 sound.0 (node_starts v sound.1) (λ behind follows. node_read v depth behind (omega (arith, deep)) sound.1 encodes.1 follows)
      (pairs_read ps depth (omega (arith, deep)) sound.2 encodes.2) sound.2 encodes.2
