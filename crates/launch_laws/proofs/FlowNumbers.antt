-- What is read in a line, where the line has another number.
use Rattle.std.proofs.Common.{◌≡◌, ℕ, zero, suc, ◌==◌, ◌||◌, Bool, true, false, if◌then◌else◌, List, [], ◌∷◌, map, length, drop, codes, Option, Some, None, Result, Ok, Err, refl, sym, ap, ◌∙◌, arith}
use Rattle.std.specs.Prelude.{IfOk}
use Rattle.std.specs.List.{list_any}
use Rattle.launch_scalars.specs.declared.kind.YamlKind.TheVariants as kinds
use Rattle.launch_scalars.specs.declared.fault.LineFault.{LineFault}
use Rattle.lists.specs.Results.{◌>>=◌}
use Rattle.launch_scalars.specs.Results.{fault}
use Rattle.launch_scalars.specs.Spaces.{is_one_of, begins_with, begins_with_one_of, after_gap}
use Rattle.launch_values.specs.declared.mode.Mode.{Mode}
use Rattle.launch_values.specs.declared.mode.Mode.TheVariants as modes
use Rattle.launch_values.specs.Shape.{Shape, Content, Shapes, Pairs, node, null, boolean, integer, text, binary, mapping, sequence, item, pair, of_list, of_pairs, content_of, depth_of_content}
use Rattle.launch_values.specs.Resolution.{scalar_value}
use Rattle.launch_values.specs.Tags.{Tag, named, bytes_in_base64, tag_at}
use Rattle.launch_values.specs.Keys.{same_key, unless_there}
use Rattle.launch_values.specs.Flow.{is_absent, value_with, in_node, tagged_with, node_with, separator, with_more, goes_on, items_with, items_of, key_with, after_colon, keyed_with, pair_with, pairs_with, pairs_of, sequence_with, mapping_with, collection_at, value_at}
use Rattle.launch_values.proofs.SoundValues.{IsFlat, scalar_flat}
use Rattle.launch_yaml.specs.Renumbering.{renumber, renumber_value, renumber_items, renumber_pairs}

-- ---- results

-- what was read, changed
abbrev pub mapped : {F A B : Type 0} → (A → B) → Result A F → Result B F
mapped g (Ok x) = Ok (g x)
mapped g (Err e) = Err e

pub bind_mapped : {F A B C D : Type 0} (h : A → B) (g : C → D) (r : Result A F) (k : A → Result C F) (l : B → Result D F) → ((x : A) → l (h x) ≡ mapped g (k x))
    → (mapped h r >>= l) ≡ mapped g (r >>= k)
bind_mapped h g (Ok x) k l alike = alike x
bind_mapped h g (Err e) k l alike = refl

-- the same, where what comes first is the same in both
pub bind_same : {F A C D : Type 0} (g : C → D) (r : Result A F) (k : A → Result C F) (l : A → Result D F) → ((x : A) → l x ≡ mapped g (k x))
    → (r >>= l) ≡ mapped g (r >>= k)
bind_same g (Ok x) k l alike = alike x
bind_same g (Err e) k l alike = refl

pub both_mapped : {F A B : Type 0} (g : A → B) (test : Bool) (r s : Result A F) (q p : Result B F) → q ≡ mapped g r → p ≡ mapped g s → (if test then q else p) ≡ mapped g (if test then r else s)
both_mapped g true r s q p h k = h
both_mapped g false r s q p h k = k

-- ---- lists

pub list_renumbered : (f : ℕ → ℕ) (xs : List Shape) → of_list (map (renumber f) xs) ≡ renumber_items f (of_list xs)
list_renumbered f [] = refl
list_renumbered f (x ∷ xs) = ap (item (renumber f x)) (list_renumbered f xs)

abbrev pub renumber_pair : (ℕ → ℕ) → Shape × Shape → Shape × Shape
renumber_pair f p = (renumber f p.0, renumber f p.1)

pub pairs_renumbered : (f : ℕ → ℕ) (ps : List (Shape × Shape)) → of_pairs (map (renumber_pair f) ps) ≡ renumber_pairs f (of_pairs ps)
pairs_renumbered f [] = refl
pairs_renumbered f (p ∷ ps) = ap (pair (renumber f p.0) (renumber f p.1)) (pairs_renumbered f ps)

pub content_renumbered : (f : ℕ → ℕ) (x : Shape) → content_of (renumber f x) ≡ renumber_value f (content_of x)
content_renumbered f (node line tag value) = refl

-- ---- keys

pub same_key_renumbered : (f : ℕ → ℕ) (a b : Content) → same_key (renumber_value f a) (renumber_value f b) ≡ same_key a b
same_key_renumbered f null null = refl
same_key_renumbered f null (boolean b) = refl
same_key_renumbered f null (integer i) = refl
same_key_renumbered f null (text bytes) = refl
same_key_renumbered f null (binary bytes) = refl
same_key_renumbered f null (mapping ps) = refl
same_key_renumbered f null (sequence xs) = refl
same_key_renumbered f (boolean a) null = refl
same_key_renumbered f (boolean a) (boolean b) = refl
same_key_renumbered f (boolean a) (integer i) = refl
same_key_renumbered f (boolean a) (text bytes) = refl
same_key_renumbered f (boolean a) (binary bytes) = refl
same_key_renumbered f (boolean a) (mapping ps) = refl
same_key_renumbered f (boolean a) (sequence xs) = refl
same_key_renumbered f (integer a) null = refl
same_key_renumbered f (integer a) (boolean b) = refl
same_key_renumbered f (integer a) (integer i) = refl
same_key_renumbered f (integer a) (text bytes) = refl
same_key_renumbered f (integer a) (binary bytes) = refl
same_key_renumbered f (integer a) (mapping ps) = refl
same_key_renumbered f (integer a) (sequence xs) = refl
same_key_renumbered f (text a) null = refl
same_key_renumbered f (text a) (boolean b) = refl
same_key_renumbered f (text a) (integer i) = refl
same_key_renumbered f (text a) (text bytes) = refl
same_key_renumbered f (text a) (binary bytes) = refl
same_key_renumbered f (text a) (mapping ps) = refl
same_key_renumbered f (text a) (sequence xs) = refl
same_key_renumbered f (binary a) b = refl
same_key_renumbered f (mapping a) b = refl
same_key_renumbered f (sequence a) b = refl

pub keys_renumbered : (f : ℕ → ℕ) (key : Content) (keys : List Content) → list_any (same_key (renumber_value f key)) (map (renumber_value f) keys) ≡ list_any (same_key key) keys
keys_renumbered f key [] = refl
keys_renumbered f key (k ∷ keys) =
    ap (λ (b : Bool). b || list_any (same_key (renumber_value f key)) (map (renumber_value f) keys)) (same_key_renumbered f key k)
    ∙ ap (λ (b : Bool). same_key key k || b) (keys_renumbered f key keys)

-- ---- scalars

flat_stays : (f : ℕ → ℕ) (c : Content) → depth_of_content c ≡ 0 → renumber_value f c ≡ c
flat_stays f null h = refl
flat_stays f (boolean b) h = refl
flat_stays f (integer i) h = refl
flat_stays f (text bytes) h = refl
flat_stays f (binary bytes) h = refl
flat_stays f (mapping ps) h = absurd (omega (arith, h))
flat_stays f (sequence xs) h = absurd (omega (arith, h))

abbrev pub renumber_read : (ℕ → ℕ) → Content × List ℕ → Content × List ℕ
renumber_read f v = (renumber_value f v.0, v.1)

abbrev read_of : List ℕ → Content → Result (Content × List ℕ) LineFault
read_of rest c = Ok (c, rest)

pub scalar_stays : (f : ℕ → ℕ) (mode : Mode) (in_flow : Bool) (bytes : List ℕ) → scalar_value mode in_flow bytes ≡ mapped (renumber_read f) (scalar_value mode in_flow bytes)
scalar_stays f mode in_flow bytes = of_flat (scalar_value mode in_flow bytes) (scalar_flat mode in_flow bytes)
  where
    of_flat : (r : Result (Content × List ℕ) LineFault) → IfOk r (λ v. IsFlat v.0) → r ≡ mapped (renumber_read f) r
    of_flat (Ok v) flat = ap (read_of v.1) (sym (flat_stays f v.0 flat.0))
    of_flat (Err e) flat = refl

-- ---- flow values

abbrev pub renumber_node : (ℕ → ℕ) → Shape × List ℕ → Shape × List ℕ
renumber_node f v = (renumber f v.0, v.1)

abbrev Values : Type 0
Values = List ℕ → Result (Content × List ℕ) LineFault

abbrev Nodes : Type 0
Nodes = List ℕ → Result (Shape × List ℕ) LineFault

-- what reads the same but for the numbers of lines
abbrev AlikeValues : (ℕ → ℕ) → Values → Values → Type 0
AlikeValues f read other = (bytes : List ℕ) → other bytes ≡ mapped (renumber_read f) (read bytes)

abbrev AlikeNodes : (ℕ → ℕ) → Nodes → Nodes → Type 0
AlikeNodes f read other = (bytes : List ℕ) → other bytes ≡ mapped (renumber_node f) (read bytes)

in_node_alike : (f : ℕ → ℕ) (line : ℕ) (tag : Option (List ℕ)) (r q : Result (Content × List ℕ) LineFault) → q ≡ mapped (renumber_read f) r
    → in_node (f line) tag q ≡ mapped (renumber_node f) (in_node line tag r)
in_node_alike f line tag (Ok v) q h = ap (in_node (f line) tag) h
in_node_alike f line tag (Err e) q h = ap (in_node (f line) tag) h

value_alike : (f : ℕ → ℕ) (read other : Values) → AlikeValues f read other → (mode : Mode) → AlikeValues f (value_with read mode) (value_with other mode)
value_alike f read other h mode [] = refl
value_alike f read other h mode (b ∷ bs) =
    both_mapped (renumber_read f) (is_one_of (codes "[{") b) (read (b ∷ bs)) _ (other (b ∷ bs)) _ (h (b ∷ bs))
    (both_mapped (renumber_read f) (is_one_of (codes ",]}") b) (fault (suc (length bs)) kinds.Flow) (scalar_value mode true (b ∷ bs)) (fault (suc (length bs)) kinds.Flow) (scalar_value mode true (b ∷ bs)) refl
    (scalar_stays f mode true (b ∷ bs)))

tagged_alike : (f : ℕ → ℕ) (read other : Values) → AlikeValues f read other → (line place : ℕ) (tag : Tag) → AlikeNodes f (tagged_with read line place tag) (tagged_with other (f line) place tag)
tagged_alike f read other h line place (named name) rest =
    let absent : Shape × List ℕ = (node line (Some name) null, rest) in
    let a_tag : Result (Shape × List ℕ) LineFault = fault (length rest) kinds.Tag in
    let a_value = in_node line (Some name) (value_with read modes.Verbatim rest) in
    both_mapped (renumber_node f) (is_absent rest) (Ok absent) (if begins_with 33 rest then a_tag else a_value) _ _ refl
    (both_mapped (renumber_node f) (begins_with 33 rest) a_tag a_value _ _ refl (in_node_alike f line (Some name) _ _ (value_alike f read other h modes.Verbatim rest)))
tagged_alike f read other h line place bytes_in_base64 rest =
    let a_tag : Result (Shape × List ℕ) LineFault = fault place kinds.Tag in
    both_mapped (renumber_node f) (is_absent rest || begins_with_one_of (codes "[{!") rest) a_tag (in_node line None (value_with read modes.Base64 rest)) _ _ refl
    (in_node_alike f line None _ _ (value_alike f read other h modes.Base64 rest))

node_alike : (f : ℕ → ℕ) (read other : Values) → AlikeValues f read other → (line : ℕ) → AlikeNodes f (node_with read line) (node_with other (f line))
node_alike f read other h line [] = refl
node_alike f read other h line (b ∷ bs) =
    both_mapped (renumber_node f) (b == 33) (tag_at true bs >>= λ t. tagged_with read line (suc (length bs)) t.0 (after_gap t.1)) (in_node line None (value_with read modes.Resolved (b ∷ bs))) _ _
    (bind_same (renumber_node f) (tag_at true bs) _ _ (λ t. tagged_alike f read other h line (suc (length bs)) t.0 (after_gap t.1)))
    (in_node_alike f line None _ _ (value_alike f read other h modes.Resolved (b ∷ bs)))

abbrev onto : {A : Type 0} → A → List A × List ℕ → Result (List A × List ℕ) LineFault
onto x more = Ok (x ∷ more.0, more.1)

abbrev keyed_pair : ℕ → Content → Shape × List ℕ → Result ((Shape × Shape) × List ℕ) LineFault
keyed_pair line c v = Ok ((node line None c, v.0), v.1)

abbrev sequence_read : List Shape × List ℕ → Result (Content × List ℕ) LineFault
sequence_read items = Ok (sequence (of_list items.0), items.1)

abbrev map_read : List (Shape × Shape) × List ℕ → Result (Content × List ℕ) LineFault
map_read pairs = Ok (mapping (of_pairs pairs.0), pairs.1)

abbrev map_list : {A B : Type 0} → (A → B) → List A × List ℕ → List B × List ℕ
map_list g p = (map g p.0, p.1)

goes_on_alike : {A B : Type 0} (g : A → B) (closing : ℕ) (further : List ℕ → Result (List A × List ℕ) LineFault) (others : List ℕ → Result (List B × List ℕ) LineFault)
    → ((bs : List ℕ) → others bs ≡ mapped (map_list g) (further bs)) → (x : A) (bytes : List ℕ) → goes_on closing others (g x) bytes ≡ mapped (map_list g) (goes_on closing further x bytes)
goes_on_alike {A = A} {B = B} g closing further others h x bytes = bind_same (map_list g) (separator closing bytes) _ _ (λ s. by_more s.0 s.1)
  where
    by_more : (more : Bool) (rest : List ℕ) → with_more others (g x) (more, rest) ≡ mapped (map_list g) (with_more further x (more, rest))
    by_more true rest = ap (λ (r : Result (List B × List ℕ) LineFault). r >>= onto (g x)) (h rest) ∙ bind_mapped (map_list g) (map_list g) (further rest) (onto x) (onto (g x)) (λ more. refl)
    by_more false rest = refl

items_alike : (f : ℕ → ℕ) (read other : Nodes) → AlikeNodes f read other → (fuel : ℕ) (bytes : List ℕ) → items_with other fuel bytes ≡ mapped (map_list (renumber f)) (items_with read fuel bytes)
items_alike f read other h zero bytes = refl
items_alike f read other h (suc fuel) bytes =
    let rest = after_gap bytes in
    let none : List Shape × List ℕ = ([], drop 1 rest) in
    both_mapped (map_list (renumber f)) (begins_with 93 rest) (Ok none) (read rest >>= λ x. goes_on 93 (items_with read fuel) x.0 (after_gap x.1)) _ _ refl
    (ap (λ (r : Result (Shape × List ℕ) LineFault). r >>= λ x. goes_on 93 (items_with other fuel) x.0 (after_gap x.1)) (h rest)
    ∙ bind_mapped (renumber_node f) (map_list (renumber f)) (read rest) _ _
    (λ x. goes_on_alike (renumber f) 93 (items_with read fuel) (items_with other fuel) (items_alike f read other h fuel) x.0 (after_gap x.1)))

keyed_alike : (f : ℕ → ℕ) (read other : Nodes) → AlikeNodes f read other → (line : ℕ) (rest : List ℕ) → keyed_with other (f line) rest ≡ mapped (renumber_node f) (keyed_with read line rest)
keyed_alike f read other h line rest =
    let absent : Shape × List ℕ = (node line None null, rest) in
    both_mapped (renumber_node f) (is_absent rest) (Ok absent) (read rest) _ _ refl (h rest)

key_stays : (f : ℕ → ℕ) (bytes : List ℕ) → key_with bytes ≡ mapped (renumber_read f) (key_with bytes)
key_stays f [] = refl
key_stays f (b ∷ bs) =
    both_mapped (renumber_read f) (is_one_of (codes "[{!") b) (fault (suc (length bs)) kinds.Character) _ _ _ refl
    (both_mapped (renumber_read f) (is_one_of (codes ",]}") b) (fault (suc (length bs)) kinds.Flow) (scalar_value modes.Resolved true (b ∷ bs)) _ _ refl (scalar_stays f modes.Resolved true (b ∷ bs)))

abbrev map_pair : (ℕ → ℕ) → (Shape × Shape) × List ℕ → (Shape × Shape) × List ℕ
map_pair f p = (renumber_pair f p.0, p.1)

unless_there_alike : {A B : Type 0} (f : ℕ → ℕ) (g : A → B) (place : ℕ) (key : Content) (keys : List Content) (r : Result A LineFault) (q : Result B LineFault) → q ≡ mapped g r
    → unless_there place (renumber_value f key) (map (renumber_value f) keys) q ≡ mapped g (unless_there place key keys r)
unless_there_alike f g place key keys r q h =
    ap (λ (b : Bool). if b then fault place kinds.DuplicateKey else q) (keys_renumbered f key keys)
    ∙ both_mapped g (list_any (same_key key) keys) (fault place kinds.DuplicateKey) r (fault place kinds.DuplicateKey) q refl h

pair_alike : (f : ℕ → ℕ) (read other : Nodes) → AlikeNodes f read other → (line : ℕ) (keys : List Content) (bytes : List ℕ)
    → pair_with other (f line) (map (renumber_value f) keys) bytes ≡ mapped (map_pair f) (pair_with read line keys bytes)
pair_alike f read other h line keys bytes =
    let value = λ (c : Content) (rest : List ℕ). keyed_with other (f line) (after_gap rest) >>= keyed_pair (f line) c in
    let plain = λ (c : Content) (rest : List ℕ). keyed_with read line (after_gap rest) >>= keyed_pair line c in
    let further = λ (k : Content × List ℕ). after_colon (after_gap k.1) >>= λ rest. unless_there (length bytes) k.0 (map (renumber_value f) keys) (value k.0 rest) in
    ap (λ (r : Result (Content × List ℕ) LineFault). r >>= further) (key_stays f bytes)
    ∙ bind_mapped (renumber_read f) (map_pair f) (key_with bytes) (λ k. after_colon (after_gap k.1) >>= λ rest. unless_there (length bytes) k.0 keys (plain k.0 rest)) further (λ k.
    bind_same (map_pair f) (after_colon (after_gap k.1)) (λ rest. unless_there (length bytes) k.0 keys (plain k.0 rest)) (λ rest. unless_there (length bytes) (renumber_value f k.0) (map (renumber_value f) keys) (value (renumber_value f k.0) rest)) (λ rest.
    unless_there_alike f (map_pair f) (length bytes) k.0 keys (plain k.0 rest) (value (renumber_value f k.0) rest)
    (ap (λ (r : Result (Shape × List ℕ) LineFault). r >>= keyed_pair (f line) (renumber_value f k.0)) (keyed_alike f read other h line (after_gap rest))
    ∙ bind_mapped (renumber_node f) (map_pair f) (keyed_with read line (after_gap rest)) (keyed_pair line k.0) (keyed_pair (f line) (renumber_value f k.0)) (λ v. refl))))

pairs_alike : (f : ℕ → ℕ) (read other : Nodes) → AlikeNodes f read other → (line : ℕ) (keys : List Content) (fuel : ℕ) (bytes : List ℕ)
    → pairs_with other (f line) (map (renumber_value f) keys) fuel bytes ≡ mapped (map_list (renumber_pair f)) (pairs_with read line keys fuel bytes)
pairs_alike f read other h line keys zero bytes = refl
pairs_alike f read other h line keys (suc fuel) bytes =
    let rest = after_gap bytes in
    let none : List (Shape × Shape) × List ℕ = ([], drop 1 rest) in
    let more = λ (ks : List Content) (p : (Shape × Shape) × List ℕ). goes_on 125 (pairs_with other (f line) ks fuel) p.0 (after_gap p.1) in
    both_mapped (map_list (renumber_pair f)) (begins_with 125 rest) (Ok none) (pair_with read line keys rest >>= λ p. goes_on 125 (pairs_with read line (content_of p.0.0 ∷ keys) fuel) p.0 (after_gap p.1)) _ _ refl
    (ap (λ (r : Result ((Shape × Shape) × List ℕ) LineFault). r >>= λ p. more (content_of p.0.0 ∷ map (renumber_value f) keys) p) (pair_alike f read other h line keys rest)
    ∙ bind_mapped (map_pair f) (map_list (renumber_pair f)) (pair_with read line keys rest) _ _ (λ p.
    ap (λ (c : Content). more (c ∷ map (renumber_value f) keys) (map_pair f p)) (content_renumbered f p.0.0)
    ∙ goes_on_alike (renumber_pair f) 125 (pairs_with read line (content_of p.0.0 ∷ keys) fuel) (pairs_with other (f line) (map (renumber_value f) (content_of p.0.0 ∷ keys)) fuel)
    (pairs_alike f read other h line (content_of p.0.0 ∷ keys) fuel) p.0 (after_gap p.1)))

collection_alike : (f : ℕ → ℕ) (depth line : ℕ) → AlikeValues f (collection_at depth line) (collection_at depth (f line))
unfolding collection_at items_of pairs_of
collection_alike f zero line bytes = refl
collection_alike f (suc depth) line [] = refl
collection_alike f (suc depth) line (b ∷ bs) =
    let read = node_with (collection_at depth line) line in
    let other = node_with (collection_at depth (f line)) (f line) in
    let h = node_alike f (collection_at depth line) (collection_at depth (f line)) (collection_alike f depth line) line in
    both_mapped (renumber_read f) (b == 91) (sequence_with read bs) (mapping_with read line bs) (sequence_with other bs) (mapping_with other (f line) bs)
    (ap (λ (r : Result (List Shape × List ℕ) LineFault). r >>= sequence_read) (items_alike f read other h (suc (length bs)) bs)
    ∙ bind_mapped (map_list (renumber f)) (renumber_read f) (items_with read (suc (length bs)) bs) sequence_read sequence_read (λ items. ap (λ (xs : Shapes). read_of items.1 (sequence xs)) (list_renumbered f items.0)))
    (ap (λ (r : Result (List (Shape × Shape) × List ℕ) LineFault). r >>= map_read) (pairs_alike f read other h line [] (suc (length bs)) bs)
    ∙ bind_mapped (map_list (renumber_pair f)) (renumber_read f) (pairs_with read line [] (suc (length bs)) bs) map_read map_read (λ pairs. ap (λ (ps : Pairs). read_of pairs.1 (mapping ps)) (pairs_renumbered f pairs.0)))

pub line_alike : (f : ℕ → ℕ) (depth line : ℕ) (mode : Mode) → AlikeValues f (value_at depth line mode) (value_at depth (f line) mode)
line_alike f depth line mode [] = refl
line_alike f depth line mode (b ∷ bs) =
    both_mapped (renumber_read f) (is_one_of (codes "[{") b) (collection_at depth line (b ∷ bs)) (scalar_value mode false (b ∷ bs)) _ _ (collection_alike f depth line (b ∷ bs)) (scalar_stays f mode false (b ∷ bs))
