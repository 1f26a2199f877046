-- What is read in one line is sound, and no deeper than it may be.
use Rattle.std.proofs.Common.{◌≡◌, ℕ, ℤ, zero, suc, ◌≤◌, Bool, true, false, if◌then◌else◌, List, [], ◌∷◌, codes, drop, ◌==◌, ◌||◌, length, Option, Some, None, Result, Ok, Err, refl, arith}
use Rattle.std.specs.Prelude.{IfOk}
use Rattle.std.specs.List.{list_any}
use Rattle.launch_scalars.specs.declared.kind.YamlKind.{YamlKind}
use Rattle.launch_scalars.specs.declared.kind.YamlKind.TheVariants as kinds
use Rattle.launch_scalars.specs.declared.fault.LineFault.{LineFault}
use Rattle.launch_values.specs.declared.mode.Mode.{Mode}
use Rattle.launch_values.specs.declared.mode.Mode.TheVariants as modes
use Rattle.launch_values.specs.Shape.{Shape, Content, node, null, boolean, integer, text, mapping, sequence, of_list, of_pairs, content_of, depth_of, depth_of_content, depth_of_items, depth_of_pairs}
use Rattle.lists.specs.Results.{◌>>=◌}
use Rattle.lists.proofs.Steps.{on_both, on_bind, on_any}
use Rattle.launch_scalars.specs.Results.{fault, at_place}
use Rattle.launch_scalars.specs.Spaces.{is_one_of, begins_with, begins_with_one_of, after_gap}
use Rattle.launch_scalars.specs.Scalars.{Scalar, scalar_at}
use Rattle.launch_scalars.specs.Numbers.{integer_of, is_float, is_word, is_in_range}
use Rattle.launch_values.specs.Resolution.{number_or_text, resolved, decoded, meaning, scalar_value}
use Rattle.launch_values.specs.Tags.{Tag, named, bytes_in_base64, tag_at}
use Rattle.launch_values.specs.Keys.{same_key, unless_there}
use Rattle.launch_values.specs.Flow.{is_absent, value_with, in_node, tagged_with, node_with, separator, with_more, goes_on, items_with, items_of, key_with, after_colon, keyed_with, pair_with, pairs_with, pairs_of, sequence_with, mapping_with, collection_at, value_at}
use Rattle.launch_scalars.proofs.ScalarSteps.{scalar_text}
use Rattle.launch_values.specs.Documents.{IsText, IsSound, IsSoundContent, AreSoundItems, AreSoundPairs}

-- ---- scalars

-- a value that holds no others
abbrev pub IsFlat : Content → Type 0
IsFlat value = (depth_of_content value ≡ 0) × IsSoundContent value

in_range : (i : ℤ) (test : Bool) → is_in_range i ≡ test → IfOk (if test then Ok (integer i) else Err kinds.IntegerRange) IsFlat
in_range i true is = (refl, is)
in_range i false is = tt

number_flat : (bytes : List ℕ) (i : Option ℤ) → IsText bytes → IfOk (number_or_text bytes i) IsFlat
number_flat bytes (Some i) is_text = in_range i (is_in_range i) refl
number_flat bytes None is_text = on_both IsFlat (is_float bytes) (Err kinds.Float) (Ok (text bytes)) tt (refl, is_text)

pub resolved_flat : (bytes : List ℕ) → IsText bytes → IfOk (resolved bytes) IsFlat
unfolding resolved
resolved_flat bytes is_text =
    on_both IsFlat (is_word (codes "~" ∷ codes "null" ∷ codes "Null" ∷ codes "NULL" ∷ []) bytes) (Ok null) _ (refl, tt)
    (on_both IsFlat (is_word (codes "true" ∷ codes "True" ∷ codes "TRUE" ∷ []) bytes) (Ok (boolean true)) _ (refl, tt)
    (on_both IsFlat (is_word (codes "false" ∷ codes "False" ∷ codes "FALSE" ∷ []) bytes) (Ok (boolean false)) (number_or_text bytes (integer_of bytes)) (refl, tt)
    (number_flat bytes (integer_of bytes) is_text)))

decoded_flat : {E : Type 0} (r : Result (List ℕ) E) → IfOk (decoded r) IsFlat
decoded_flat (Ok bytes) = (refl, tt)
decoded_flat (Err e) = tt

meaning_flat : (mode : Mode) (s : Scalar) → IsText s.content → IfOk (meaning mode s) IsFlat
meaning_flat modes.Resolved s is_text = on_both IsFlat s.plain (resolved s.content) (Ok (text s.content)) (resolved_flat s.content is_text) (refl, is_text)
meaning_flat modes.Verbatim s is_text = (refl, is_text)
meaning_flat modes.Base64 s is_text = decoded_flat _

placed : {A : Type 0} (P : A → Type 0) (place : ℕ) (r : Result A YamlKind) → IfOk r P → IfOk (at_place place r) P
placed P place (Ok x) h = h
placed P place (Err kind) h = tt

pub scalar_flat : (mode : Mode) (in_flow : Bool) (bytes : List ℕ) → IfOk (scalar_value mode in_flow bytes) (λ v. IsFlat v.0)
unfolding scalar_value
scalar_flat mode in_flow bytes =
    on_bind _ _ (scalar_at in_flow bytes) _ (scalar_text in_flow bytes) (λ s is_text. on_bind _ _ (at_place _ (meaning mode s)) _ (placed _ _ (meaning mode s) (meaning_flat mode s is_text)) (λ value flat. flat))

-- ---- flow values

-- a value of at most this depth
abbrev pub IsWithin : ℕ → Content → Type 0
IsWithin depth value = (depth_of_content value ≤ depth) × IsSoundContent value

abbrev pub IsNodeWithin : ℕ → Shape → Type 0
IsNodeWithin depth x = (depth_of x ≤ depth) × IsSound x

-- what is read is of at most this depth
abbrev pub ValueRead : ℕ → Content × List ℕ → Type 0
ValueRead depth v = IsWithin depth v.0

abbrev pub NodeRead : ℕ → Shape × List ℕ → Type 0
NodeRead depth v = IsNodeWithin depth v.0

flat_within : (depth : ℕ) (value : Content) → IsFlat value → IsWithin depth value
flat_within depth value flat = (omega (arith, flat.0), flat.1)

pub scalar_within : (depth : ℕ) (mode : Mode) (in_flow : Bool) (bytes : List ℕ) → IfOk (scalar_value mode in_flow bytes) (ValueRead depth)
scalar_within depth mode in_flow bytes = weaker (scalar_value mode in_flow bytes) (scalar_flat mode in_flow bytes)
  where
    weaker : (r : Result (Content × List ℕ) LineFault) → IfOk r (λ v. IsFlat v.0) → IfOk r (ValueRead depth)
    weaker (Ok v) h = flat_within depth v.0 h
    weaker (Err e) h = tt

-- what reads maps and sequences gives such of at most this depth
abbrev pub ReadsValues : ℕ → (List ℕ → Result (Content × List ℕ) LineFault) → Type 0
ReadsValues depth read = (bytes : List ℕ) → IfOk (read bytes) (ValueRead depth)

abbrev pub ReadsNodes : ℕ → (List ℕ → Result (Shape × List ℕ) LineFault) → Type 0
ReadsNodes depth read = (bytes : List ℕ) → IfOk (read bytes) (NodeRead depth)

value_within : (depth : ℕ) (read : List ℕ → Result (Content × List ℕ) LineFault) → ReadsValues depth read → (mode : Mode) → ReadsValues depth (value_with read mode)
value_within depth read h mode [] = tt
value_within depth read h mode (b ∷ bs) =
    on_both (ValueRead depth) (is_one_of (codes "[{") b) (read (b ∷ bs)) (if is_one_of (codes ",]}") b then fault (suc (length bs)) kinds.Flow else scalar_value mode true (b ∷ bs)) (h (b ∷ bs))
    (on_both (ValueRead depth) (is_one_of (codes ",]}") b) (fault (suc (length bs)) kinds.Flow) (scalar_value mode true (b ∷ bs)) tt (scalar_within depth mode true (b ∷ bs)))

in_node_within : (depth line : ℕ) (tag : Option (List ℕ)) (r : Result (Content × List ℕ) LineFault) → IfOk r (ValueRead depth) → IfOk (in_node line tag r) (NodeRead depth)
in_node_within depth line tag (Ok v) h = h
in_node_within depth line tag (Err e) h = tt

tagged_within : (depth : ℕ) (read : List ℕ → Result (Content × List ℕ) LineFault) → ReadsValues depth read → (line place : ℕ) (tag : Tag) → ReadsNodes depth (tagged_with read line place tag)
tagged_within depth read h line place (named name) rest =
    let value = in_node line (Some name) (value_with read modes.Verbatim rest) in
    on_both (NodeRead depth) (is_absent rest) (Ok (node line (Some name) null, rest)) (if begins_with 33 rest then fault (length rest) kinds.Tag else value) (omega arith, tt)
    (on_both (NodeRead depth) (begins_with 33 rest) (fault (length rest) kinds.Tag) value tt (in_node_within depth line (Some name) _ (value_within depth read h modes.Verbatim rest)))
tagged_within depth read h line place bytes_in_base64 rest =
    on_both (NodeRead depth) (is_absent rest || begins_with_one_of (codes "[{!") rest) (fault place kinds.Tag) (in_node line None (value_with read modes.Base64 rest)) tt
    (in_node_within depth line None _ (value_within depth read h modes.Base64 rest))

node_within : (depth : ℕ) (read : List ℕ → Result (Content × List ℕ) LineFault) → ReadsValues depth read → (line : ℕ) → ReadsNodes depth (node_with read line)
node_within depth read h line [] = tt
node_within depth read h line (b ∷ bs) =
    let further = λ (t : Tag × List ℕ). tagged_with read line (suc (length bs)) t.0 (after_gap t.1) in
    on_both (NodeRead depth) (b == 33) (tag_at true bs >>= further) (in_node line None (value_with read modes.Resolved (b ∷ bs)))
    (on_any (NodeRead depth) (tag_at true bs) further (λ t. tagged_within depth read h line (suc (length bs)) t.0 (after_gap t.1)))
    (in_node_within depth line None _ (value_within depth read h modes.Resolved (b ∷ bs)))

-- items of at most this depth
abbrev AreItemsWithin : ℕ → List Shape → Type 0
AreItemsWithin depth xs = (depth_of_items (of_list xs) ≤ depth) × AreSoundItems (of_list xs)

abbrev ArePairsWithin : ℕ → List (Shape × Shape) → Type 0
ArePairsWithin depth ps = (depth_of_pairs (of_pairs ps) ≤ depth) × AreSoundPairs (of_pairs ps)

abbrev ItemsRead : ℕ → List Shape × List ℕ → Type 0
ItemsRead depth r = AreItemsWithin depth r.0

abbrev PairsRead : ℕ → List (Shape × Shape) × List ℕ → Type 0
PairsRead depth r = ArePairsWithin depth r.0

items_on : (depth closing : ℕ) (further : List ℕ → Result (List Shape × List ℕ) LineFault) (x : Shape) (bytes : List ℕ)
    → IsNodeWithin depth x → ((rest : List ℕ) → IfOk (further rest) (ItemsRead depth)) → IfOk (goes_on closing further x bytes) (ItemsRead depth)
items_on depth closing further x bytes one more = on_any (ItemsRead depth) (separator closing bytes) (with_more further x) behind
  where
    behind : (s : Bool × List ℕ) → IfOk (with_more further x s) (ItemsRead depth)
    behind (true, rest) = on_bind (ItemsRead depth) (ItemsRead depth) (further rest) (λ others. Ok (x ∷ others.0, others.1)) (more rest) (λ r others. (omega (arith, one.0, others.0), (one.1, others.1)))
    behind (false, rest) = (omega (arith, one.0), (one.1, tt))

items_within : (depth : ℕ) (read : List ℕ → Result (Shape × List ℕ) LineFault) → ReadsNodes depth read → (fuel : ℕ) (bytes : List ℕ) → IfOk (items_with read fuel bytes) (ItemsRead depth)
items_within depth read h zero bytes = tt
items_within depth read h (suc fuel) bytes =
    let further = λ (x : Shape × List ℕ). goes_on 93 (items_with read fuel) x.0 (after_gap x.1) in
    on_both (ItemsRead depth) (begins_with 93 (after_gap bytes)) (Ok ([], drop 1 (after_gap bytes))) (read (after_gap bytes) >>= further) (omega arith, tt)
    (on_bind (NodeRead depth) (ItemsRead depth) (read (after_gap bytes)) further (h (after_gap bytes))
    (λ x one. items_on depth 93 (items_with read fuel) x.0 (after_gap x.1) one (items_within depth read h fuel)))

pairs_on : (depth closing : ℕ) (further : List ℕ → Result (List (Shape × Shape) × List ℕ) LineFault) (p : Shape × Shape) (bytes : List ℕ)
    → IsNodeWithin depth p.0 → IsNodeWithin depth p.1 → ((rest : List ℕ) → IfOk (further rest) (PairsRead depth)) → IfOk (goes_on closing further p bytes) (PairsRead depth)
pairs_on depth closing further p bytes key value more = on_any (PairsRead depth) (separator closing bytes) (with_more further p) behind
  where
    behind : (s : Bool × List ℕ) → IfOk (with_more further p s) (PairsRead depth)
    behind (true, rest) = on_bind (PairsRead depth) (PairsRead depth) (further rest) (λ others. Ok (p ∷ others.0, others.1)) (more rest) (λ r others. (omega (arith, key.0, value.0, others.0), (key.1, value.1, others.1)))
    behind (false, rest) = (omega (arith, key.0, value.0), (key.1, value.1, tt))

key_within : (depth : ℕ) → ReadsValues depth key_with
key_within depth [] = tt
key_within depth (b ∷ bs) =
    let scalar = scalar_value modes.Resolved true (b ∷ bs) in
    on_both (ValueRead depth) (is_one_of (codes "[{!") b) (fault (suc (length bs)) kinds.Character) (if is_one_of (codes ",]}") b then fault (suc (length bs)) kinds.Flow else scalar) tt
    (on_both (ValueRead depth) (is_one_of (codes ",]}") b) (fault (suc (length bs)) kinds.Flow) scalar tt (scalar_within depth modes.Resolved true (b ∷ bs)))

keyed_within : (depth : ℕ) (read : List ℕ → Result (Shape × List ℕ) LineFault) → ReadsNodes depth read → (line : ℕ) → ReadsNodes depth (keyed_with read line)
keyed_within depth read h line rest = on_both (NodeRead depth) (is_absent rest) (Ok (node line None null, rest)) (read rest) (omega arith, tt) (h rest)

abbrev PairRead : ℕ → (Shape × Shape) × List ℕ → Type 0
PairRead depth p = IsNodeWithin depth p.0.0 × IsNodeWithin depth p.0.1

pair_within : (depth : ℕ) (read : List ℕ → Result (Shape × List ℕ) LineFault) → ReadsNodes depth read → (line : ℕ) (keys : List Content) (bytes : List ℕ) → IfOk (pair_with read line keys bytes) (PairRead depth)
pair_within depth read h line keys bytes =
    let last = λ (k : Content × List ℕ) (v : Shape × List ℕ). Ok ((node line None k.0, v.0), v.1) in
    let keyed = λ (k : Content × List ℕ) (rest : List ℕ). keyed_with read line (after_gap rest) >>= last k in
    let one = λ (k : Content × List ℕ) (rest : List ℕ). unless_there (length bytes) k.0 keys (keyed k rest) in
    let further = λ (k : Content × List ℕ). after_colon (after_gap k.1) >>= one k in
    on_bind (ValueRead depth) (PairRead depth) (key_with bytes) further (key_within depth bytes) (λ k key.
    on_any (PairRead depth) (after_colon (after_gap k.1)) (one k) (λ rest.
    on_both (PairRead depth) (list_any (same_key k.0) keys) (fault (length bytes) kinds.DuplicateKey) (keyed k rest) tt
    (on_bind (NodeRead depth) (PairRead depth) (keyed_with read line (after_gap rest)) (last k) (keyed_within depth read h line (after_gap rest)) (λ v value. (key, value)))))

pairs_within : (depth : ℕ) (read : List ℕ → Result (Shape × List ℕ) LineFault) → ReadsNodes depth read → (line : ℕ) (keys : List Content) (fuel : ℕ) (bytes : List ℕ)
    → IfOk (pairs_with read line keys fuel bytes) (PairsRead depth)
pairs_within depth read h line keys zero bytes = tt
pairs_within depth read h line keys (suc fuel) bytes =
    let further = λ (p : (Shape × Shape) × List ℕ). goes_on 125 (pairs_with read line (content_of p.0.0 ∷ keys) fuel) p.0 (after_gap p.1) in
    on_both (PairsRead depth) (begins_with 125 (after_gap bytes)) (Ok ([], drop 1 (after_gap bytes))) (pair_with read line keys (after_gap bytes) >>= further) (omega arith, tt)
    (on_bind (PairRead depth) (PairsRead depth) (pair_with read line keys (after_gap bytes)) further (pair_within depth read h line keys (after_gap bytes))
    (λ p within. pairs_on depth 125 (pairs_with read line (content_of p.0.0 ∷ keys) fuel) p.0 (after_gap p.1) within.0 within.1 (pairs_within depth read h line (content_of p.0.0 ∷ keys) fuel)))

all_items_within : (depth : ℕ) (read : List ℕ → Result (Shape × List ℕ) LineFault) → ReadsNodes depth read → (bytes : List ℕ) → IfOk (items_of read bytes) (ItemsRead depth)
unfolding items_of
all_items_within depth read h bytes = items_within depth read h (suc (length bytes)) bytes

all_pairs_within : (depth : ℕ) (read : List ℕ → Result (Shape × List ℕ) LineFault) → ReadsNodes depth read → (line : ℕ) (bytes : List ℕ) → IfOk (pairs_of read line bytes) (PairsRead depth)
unfolding pairs_of
all_pairs_within depth read h line bytes = pairs_within depth read h line [] (suc (length bytes)) bytes

collection_within : (depth line : ℕ) → ReadsValues depth (collection_at depth line)
unfolding collection_at
collection_within zero line bytes = tt
collection_within (suc depth) line [] = tt
collection_within (suc depth) line (b ∷ bs) =
    let read = node_with (collection_at depth line) line in
    let nodes = node_within depth (collection_at depth line) (collection_within depth line) line in
    on_both (ValueRead (suc depth)) (b == 91) (sequence_with read bs) (mapping_with read line bs)
    (on_bind (ItemsRead depth) (ValueRead (suc depth)) (items_of read bs) (λ items. Ok (sequence (of_list items.0), items.1)) (all_items_within depth read nodes bs) (λ r h. (omega (arith, h.0), h.1)))
    (on_bind (PairsRead depth) (ValueRead (suc depth)) (pairs_of read line bs) (λ pairs. Ok (mapping (of_pairs pairs.0), pairs.1)) (all_pairs_within depth read nodes line bs) (λ r h. (omega (arith, h.0), h.1)))

pub line_within : (depth line : ℕ) (mode : Mode) → ReadsValues depth (value_at depth line mode)
line_within depth line mode [] = tt
line_within depth line mode (b ∷ bs) =
    on_both (ValueRead depth) (is_one_of (codes "[{") b) (collection_at depth line (b ∷ bs)) (scalar_value mode false (b ∷ bs)) (collection_within depth line (b ∷ bs)) (scalar_within depth mode false (b ∷ bs))
