-- What is read in one line can be encoded, but for the names of its tags on rows.
use Rattle.std.proofs.Common.{ℕ, zero, suc, ◌==◌, ◌||◌, Bool, true, false, if◌then◌else◌, List, [], ◌∷◌, codes, drop, length, Some, None, Result, Ok, Err, refl}
use Rattle.std.specs.Prelude.{IfOk}
use Rattle.std.specs.List.{list_any}
use Rattle.lists.specs.Results.{◌>>=◌}
use Rattle.lists.proofs.Steps.{on_both, on_bind, on_any}
use Rattle.launch_scalars.specs.declared.kind.YamlKind.TheVariants as kinds
use Rattle.launch_scalars.specs.declared.fault.LineFault.{LineFault}
use Rattle.launch_scalars.specs.Results.{fault}
use Rattle.launch_scalars.specs.Spaces.{is_one_of, begins_with, begins_with_one_of, after_gap}
use Rattle.launch_values.specs.declared.mode.Mode.{Mode}
use Rattle.launch_values.specs.declared.mode.Mode.TheVariants as modes
use Rattle.launch_values.specs.Flow.{is_absent, value_with, in_node, tagged_with, node_with, separator, with_more, goes_on, items_with, items_of, key_with, after_colon, keyed_with, pair_with, pairs_with, pairs_of, sequence_with, mapping_with, collection_at, value_at}
use Rattle.launch_values.specs.KeySets.{IsScalarKey}
use Rattle.launch_values.specs.Keys.{same_key, unless_there}
use Rattle.launch_values.specs.Resolution.{scalar_value}
use Rattle.launch_values.specs.Shape.{Shape, Content, node, null, mapping, sequence, of_list, of_pairs, content_of}
use Rattle.launch_values.specs.Tags.{Tag, named, bytes_in_base64, tag_at}
use Rattle.launch_laws.specs.Printed.{IsTagName, IsEncodable, AreEncodableItems}
use Rattle.launch_laws.proofs.PrintedFlow.{Values, Nodes}
use Rattle.launch_laws.proofs.ReadNames.{IsReadTag, tag_is_read}
use Rattle.launch_laws.proofs.ReadKeys.{IsRead, any_mode, scalar_is_read, scalar_is_key, ArePairsRead, IsPairRead, no_pairs_read, more_pairs_read, on_test}

-- a value, and what stands behind it
abbrev pub ValueRead : Mode → Content × List ℕ → Type 0
ValueRead mode v = IsRead mode v.0

abbrev NodeRead : Shape × List ℕ → Type 0
NodeRead v = IsEncodable false v.0

-- what reads maps and sequences
abbrev ReadsCollections : Values → Type 0
ReadsCollections read = (bytes : List ℕ) → IfOk (read bytes) (ValueRead modes.Verbatim)

abbrev ReadsNodes : Nodes → Type 0
ReadsNodes read = (bytes : List ℕ) → IfOk (read bytes) NodeRead

collection_read : (mode : Mode) (r : Result (Content × List ℕ) LineFault) → IfOk r (ValueRead modes.Verbatim) → IfOk r (ValueRead mode)
collection_read mode (Ok v) h = any_mode mode v.0 h
collection_read mode (Err e) h = tt

-- ---- one node

value_read : (read : Values) → ReadsCollections read → (mode : Mode) (bytes : List ℕ) → IfOk (value_with read mode bytes) (ValueRead mode)
value_read read h mode [] = tt
value_read read h mode (b ∷ bs) =
    on_both (ValueRead mode) (is_one_of (codes "[{") b) (read (b ∷ bs)) (if is_one_of (codes ",]}") b then fault (suc (length bs)) kinds.Flow else scalar_value mode true (b ∷ bs))
    (collection_read mode (read (b ∷ bs)) (h (b ∷ bs)))
    (on_both (ValueRead mode) (is_one_of (codes ",]}") b) (fault (suc (length bs)) kinds.Flow) (scalar_value mode true (b ∷ bs)) tt (scalar_is_read mode true (b ∷ bs)))

without_name : (line : ℕ) (mode : Mode) (r : Result (Content × List ℕ) LineFault) → IfOk r (ValueRead mode) → IfOk (in_node line None r) NodeRead
without_name line mode (Ok v) h = (tt, h.1)
without_name line mode (Err e) h = tt

with_name : (line : ℕ) (name : List ℕ) (r : Result (Content × List ℕ) LineFault) → IsTagName false name → IfOk r (ValueRead modes.Verbatim) → IfOk (in_node line (Some name) r) NodeRead
with_name line name (Ok v) is h = ((is, h.0), h.1)
with_name line name (Err e) is h = tt

tagged_read : (read : Values) → ReadsCollections read → (line place : ℕ) (tag : Tag) → IsReadTag tag → ReadsNodes (tagged_with read line place tag)
tagged_read read h line place (named name) is rest =
    let value = in_node line (Some name) (value_with read modes.Verbatim rest) in
    on_both NodeRead (is_absent rest) (Ok (node line (Some name) null, rest)) (if begins_with 33 rest then fault (length rest) kinds.Tag else value) ((is, refl), tt)
    (on_both NodeRead (begins_with 33 rest) (fault (length rest) kinds.Tag) value tt (with_name line name (value_with read modes.Verbatim rest) is (value_read read h modes.Verbatim rest)))
tagged_read read h line place bytes_in_base64 is rest =
    on_both NodeRead (is_absent rest || begins_with_one_of (codes "[{!") rest) (fault place kinds.Tag) (in_node line None (value_with read modes.Base64 rest)) tt
    (without_name line modes.Base64 (value_with read modes.Base64 rest) (value_read read h modes.Base64 rest))

node_is_read : (read : Values) → ReadsCollections read → (line : ℕ) → ReadsNodes (node_with read line)
node_is_read read h line [] = tt
node_is_read read h line (b ∷ bs) =
    let further = λ (t : Tag × List ℕ). tagged_with read line (suc (length bs)) t.0 (after_gap t.1) in
    on_both NodeRead (b == 33) (tag_at true bs >>= further) (in_node line None (value_with read modes.Resolved (b ∷ bs)))
    (on_bind (λ (t : Tag × List ℕ). IsReadTag t.0) NodeRead (tag_at true bs) further (tag_is_read true bs) (λ t is. tagged_read read h line (suc (length bs)) t.0 is (after_gap t.1)))
    (without_name line modes.Resolved (value_with read modes.Resolved (b ∷ bs)) (value_read read h modes.Resolved (b ∷ bs)))

-- ---- sequences

abbrev ItemsRead : List Shape × List ℕ → Type 0
ItemsRead r = AreEncodableItems false (of_list r.0)

items_on : (closing : ℕ) (further : List ℕ → Result (List Shape × List ℕ) LineFault) (x : Shape) (bytes : List ℕ)
    → IsEncodable false x → ((rest : List ℕ) → IfOk (further rest) ItemsRead) → IfOk (goes_on closing further x bytes) ItemsRead
items_on closing further x bytes one more = on_any ItemsRead (separator closing bytes) (with_more further x) behind
  where
    behind : (s : Bool × List ℕ) → IfOk (with_more further x s) ItemsRead
    behind (true, rest) = on_bind ItemsRead ItemsRead (further rest) (λ others. Ok (x ∷ others.0, others.1)) (more rest) (λ r others. (one, others))
    behind (false, rest) = (one, tt)

items_read : (read : Nodes) → ReadsNodes read → (fuel : ℕ) (bytes : List ℕ) → IfOk (items_with read fuel bytes) ItemsRead
items_read read h zero bytes = tt
items_read read h (suc fuel) bytes =
    let further = λ (x : Shape × List ℕ). goes_on 93 (items_with read fuel) x.0 (after_gap x.1) in
    on_both ItemsRead (begins_with 93 (after_gap bytes)) (Ok ([], drop 1 (after_gap bytes))) (read (after_gap bytes) >>= further) tt
    (on_bind NodeRead ItemsRead (read (after_gap bytes)) further (h (after_gap bytes)) (λ x one. items_on 93 (items_with read fuel) x.0 (after_gap x.1) one (items_read read h fuel)))

-- ---- maps

abbrev PairsRead : List Content → List (Shape × Shape) × List ℕ → Type 0
PairsRead keys r = ArePairsRead keys r.0

pairs_on : (closing : ℕ) (keys : List Content) (further : List ℕ → Result (List (Shape × Shape) × List ℕ) LineFault) (p : Shape × Shape) (bytes : List ℕ)
    → IsPairRead keys p → ((rest : List ℕ) → IfOk (further rest) (PairsRead (content_of p.0 ∷ keys))) → IfOk (goes_on closing further p bytes) (PairsRead keys)
pairs_on closing keys further p bytes one more = on_any (PairsRead keys) (separator closing bytes) (with_more further p) behind
  where
    behind : (s : Bool × List ℕ) → IfOk (with_more further p s) (PairsRead keys)
    behind (true, rest) =
        on_bind (PairsRead (content_of p.0 ∷ keys)) (PairsRead keys) (further rest) (λ others. Ok (p ∷ others.0, others.1)) (more rest) (λ r others. more_pairs_read keys p r.0 one others)
    behind (false, rest) = more_pairs_read keys p [] one (no_pairs_read (content_of p.0 ∷ keys))

abbrev KeyRead : Content × List ℕ → Type 0
KeyRead k = IsScalarKey k.0

key_is_read : (bytes : List ℕ) → IfOk (key_with bytes) KeyRead
key_is_read [] = tt
key_is_read (b ∷ bs) =
    let scalar = scalar_value modes.Resolved true (b ∷ bs) in
    on_both KeyRead (is_one_of (codes "[{!") b) (fault (suc (length bs)) kinds.Character) (if is_one_of (codes ",]}") b then fault (suc (length bs)) kinds.Flow else scalar) tt
    (on_both KeyRead (is_one_of (codes ",]}") b) (fault (suc (length bs)) kinds.Flow) scalar tt (scalar_is_key true (b ∷ bs)))

keyed_read : (read : Nodes) → ReadsNodes read → (line : ℕ) → ReadsNodes (keyed_with read line)
keyed_read read h line rest = on_both NodeRead (is_absent rest) (Ok (node line None null, rest)) (read rest) (tt, tt) (h rest)

abbrev PairRead : List Content → (Shape × Shape) × List ℕ → Type 0
PairRead keys p = IsPairRead keys p.0

pair_is_read : (read : Nodes) → ReadsNodes read → (line : ℕ) (keys : List Content) (bytes : List ℕ) → IfOk (pair_with read line keys bytes) (PairRead keys)
pair_is_read read h line keys bytes =
    let last = λ (k : Content × List ℕ) (v : Shape × List ℕ). Ok ((node line None k.0, v.0), v.1) in
    let keyed = λ (k : Content × List ℕ) (rest : List ℕ). keyed_with read line (after_gap rest) >>= last k in
    let one = λ (k : Content × List ℕ) (rest : List ℕ). unless_there (length bytes) k.0 keys (keyed k rest) in
    let further = λ (k : Content × List ℕ). after_colon (after_gap k.1) >>= one k in
    on_bind KeyRead (PairRead keys) (key_with bytes) further (key_is_read bytes) (λ k key.
    on_any (PairRead keys) (after_colon (after_gap k.1)) (one k) (λ rest.
    on_test (PairRead keys) (list_any (same_key k.0) keys) (fault (length bytes) kinds.DuplicateKey) (keyed k rest) tt (λ new.
    on_bind NodeRead (PairRead keys) (keyed_with read line (after_gap rest)) (last k) (keyed_read read h line (after_gap rest)) (λ v value. ((refl, key), value, new)))))

pairs_read : (read : Nodes) → ReadsNodes read → (line : ℕ) (keys : List Content) (fuel : ℕ) (bytes : List ℕ) → IfOk (pairs_with read line keys fuel bytes) (PairsRead keys)
pairs_read read h line keys zero bytes = tt
pairs_read read h line keys (suc fuel) bytes =
    let further = λ (p : (Shape × Shape) × List ℕ). goes_on 125 (pairs_with read line (content_of p.0.0 ∷ keys) fuel) p.0 (after_gap p.1) in
    on_both (PairsRead keys) (begins_with 125 (after_gap bytes)) (Ok ([], drop 1 (after_gap bytes))) (pair_with read line keys (after_gap bytes) >>= further) (no_pairs_read keys)
    (on_bind (PairRead keys) (PairsRead keys) (pair_with read line keys (after_gap bytes)) further (pair_is_read read h line keys (after_gap bytes))
    (λ p one. pairs_on 125 keys (pairs_with read line (content_of p.0.0 ∷ keys) fuel) p.0 (after_gap p.1) one (pairs_read read h line (content_of p.0.0 ∷ keys) fuel)))

-- ---- depth

all_items_read : (read : Nodes) → ReadsNodes read → (bytes : List ℕ) → IfOk (items_of read bytes) ItemsRead
unfolding items_of
all_items_read read h bytes = items_read read h (suc (length bytes)) bytes

all_pairs_read : (read : Nodes) → ReadsNodes read → (line : ℕ) (bytes : List ℕ) → IfOk (pairs_of read line bytes) (PairsRead [])
unfolding pairs_of
all_pairs_read read h line bytes = pairs_read read h line [] (suc (length bytes)) bytes

collections_read : (depth line : ℕ) → ReadsCollections (collection_at depth line)
unfolding collection_at
collections_read zero line bytes = tt
collections_read (suc depth) line [] = tt
collections_read (suc depth) line (b ∷ bs) =
    let read = node_with (collection_at depth line) line in
    let nodes = node_is_read (collection_at depth line) (collections_read depth line) line in
    on_both (ValueRead modes.Verbatim) (b == 91) (sequence_with read bs) (mapping_with read line bs)
    (on_bind ItemsRead (ValueRead modes.Verbatim) (items_of read bs) (λ items. Ok (sequence (of_list items.0), items.1)) (all_items_read read nodes bs) (λ r h. (refl, h)))
    (on_bind (PairsRead []) (ValueRead modes.Verbatim) (pairs_of read line bs) (λ pairs. Ok (mapping (of_pairs pairs.0), pairs.1)) (all_pairs_read read nodes line bs) (λ r h. (refl, (h.1, h.0))))

pub line_is_read : (depth line : ℕ) (mode : Mode) (bytes : List ℕ) → IfOk (value_at depth line mode bytes) (ValueRead mode)
line_is_read depth line mode [] = tt
line_is_read depth line mode (b ∷ bs) =
    on_both (ValueRead mode) (is_one_of (codes "[{") b) (collection_at depth line (b ∷ bs)) (scalar_value mode false (b ∷ bs))
    (collection_read mode (collection_at depth line (b ∷ bs)) (collections_read depth line (b ∷ bs))) (scalar_is_read mode false (b ∷ bs))
