-- Flow values, and the nodes in them. All of one stands in one line.
use Rattle.std.specs.Prelude.{ℕ, zero, suc, ◌==◌, ◌&&◌, ◌||◌, if◌then◌else◌, Bool, true, false, List, [], ◌∷◌, length, drop, codes, Option, Some, None, Result, Ok}
use Rattle.launch_scalars.specs.declared.kind.YamlKind.TheVariants as kinds
use Rattle.launch_scalars.specs.declared.fault.LineFault.{LineFault}
use Rattle.launch_values.specs.declared.mode.Mode.{Mode}
use Rattle.launch_values.specs.declared.mode.Mode.TheVariants as modes
use Rattle.launch_values.specs.Shape.{Shape, Content, content_of, node, null, mapping, sequence, of_list, of_pairs}
use Rattle.lists.specs.Results.{◌>>=◌}
use Rattle.launch_scalars.specs.Results.{fault}
use Rattle.launch_scalars.specs.Spaces.{is_one_of, begins_with, begins_with_one_of, after_gap}
use Rattle.launch_scalars.specs.Plain.{is_behind_key}
use Rattle.launch_values.specs.Resolution.{scalar_value}
use Rattle.launch_values.specs.Tags.{Tag, named, bytes_in_base64, tag_at}
use Rattle.launch_values.specs.Keys.{unless_there}

-- what reading a value in a line gives: the value, and what stands behind it
abbrev pub Value : Type 0
Value = Result (Content × List ℕ) LineFault

abbrev pub Node : Type 0
Node = Result (Shape × List ℕ) LineFault

-- ---- one value

-- a value that isn't there: behind it the flow value goes on, or the line ends
abbrev pub is_absent : List ℕ → Bool
is_absent [] = true
is_absent (b ∷ bs) = is_one_of (codes ",]}") b

-- a value whose tag was read, where maps and sequences are read as given
abbrev pub value_with : (List ℕ → Value) → Mode → List ℕ → Value
value_with collection mode [] = fault 0 kinds.Flow
value_with collection mode (b ∷ bs) =
    if is_one_of (codes "[{") b then collection (b ∷ bs)
    else if is_one_of (codes ",]}") b then fault (suc (length bs)) kinds.Flow
    else scalar_value mode true (b ∷ bs)

abbrev pub in_node : ℕ → Option (List ℕ) → Value → Node
in_node line tag value = value >>= λ v. Ok (node line tag v.0, v.1)

-- a node whose tag stands at the place and was read
abbrev pub tagged_with : (List ℕ → Value) → ℕ → ℕ → Tag → List ℕ → Node
tagged_with collection line place (named name) rest =
    if is_absent rest then Ok (node line (Some name) null, rest)
    else if begins_with 33 rest then fault (length rest) kinds.Tag
    else in_node line (Some name) (value_with collection modes.Verbatim rest)
tagged_with collection line place bytes_in_base64 rest =
    if is_absent rest || begins_with_one_of (codes "[{!") rest then fault place kinds.Tag
    else in_node line None (value_with collection modes.Base64 rest)

abbrev pub node_with : (List ℕ → Value) → ℕ → List ℕ → Node
node_with collection line [] = fault 0 kinds.Flow
node_with collection line (b ∷ bs) =
    if b == 33
    then (tag_at true bs >>= λ t. tagged_with collection line (suc (length bs)) t.0 (after_gap t.1))
    else in_node line None (value_with collection modes.Resolved (b ∷ bs))

-- ---- sequences

-- Whether a flow value goes on behind what was read, and what stands there: it goes on behind a comma, and doesn't behind
-- the closing character.
abbrev pub separator : ℕ → List ℕ → Result (Bool × List ℕ) LineFault
separator closing [] = fault 0 kinds.Flow
separator closing (b ∷ bs) =
    if b == 44 then Ok (true, bs)
    else if b == closing then Ok (false, bs)
    else fault (suc (length bs)) kinds.Flow

-- what was read, and what further reads behind a comma
abbrev pub with_more : {A : Type 0} → (List ℕ → Result (List A × List ℕ) LineFault) → A → Bool × List ℕ → Result (List A × List ℕ) LineFault
with_more further x (true, rest) = further rest >>= λ more. Ok (x ∷ more.0, more.1)
with_more further x (false, rest) = Ok (x ∷ [], rest)

-- what follows a value in a flow value
abbrev pub goes_on : {A : Type 0} → ℕ → (List ℕ → Result (List A × List ℕ) LineFault) → A → List ℕ → Result (List A × List ℕ) LineFault
goes_on closing further x bytes = separator closing bytes >>= with_more further x

-- The items behind the opening bracket or a comma. Each takes a byte at least, so the fuel is enough if it is more than
-- the length.
abbrev pub items_with : (List ℕ → Node) → ℕ → List ℕ → Result (List Shape × List ℕ) LineFault
items_with read zero bytes = fault 0 kinds.Flow
items_with read (suc fuel) bytes =
    if begins_with 93 (after_gap bytes) then Ok ([], drop 1 (after_gap bytes))
    else read (after_gap bytes) >>= λ x. goes_on 93 (items_with read fuel) x.0 (after_gap x.1)

-- the items behind the opening bracket
unfoldable pub items_of : (List ℕ → Node) → List ℕ → Result (List Shape × List ℕ) LineFault
items_of read bytes = items_with read (suc (length bytes)) bytes

-- ---- maps

abbrev pub key_with : List ℕ → Value
key_with [] = fault 0 kinds.Flow
key_with (b ∷ bs) =
    if is_one_of (codes "[{!") b then fault (suc (length bs)) kinds.Character
    else if is_one_of (codes ",]}") b then fault (suc (length bs)) kinds.Flow
    else scalar_value modes.Resolved true (b ∷ bs)

-- what stands behind the colon of a key
abbrev pub after_colon : List ℕ → Result (List ℕ) LineFault
after_colon [] = fault 0 kinds.Flow
after_colon (b ∷ bs) = if (b == 58) && is_behind_key true bs then Ok bs else fault (suc (length bs)) kinds.Flow

-- the value of a key
abbrev pub keyed_with : (List ℕ → Node) → ℕ → List ℕ → Node
keyed_with read line rest = if is_absent rest then Ok (node line None null, rest) else read rest

-- a key and its value, where the map has some keys already
abbrev pub pair_with : (List ℕ → Node) → ℕ → List Content → List ℕ → Result ((Shape × Shape) × List ℕ) LineFault
pair_with read line keys bytes =
    key_with bytes >>= λ k. after_colon (after_gap k.1) >>= λ rest.
    unless_there (length bytes) k.0 keys
    (keyed_with read line (after_gap rest) >>= λ v. Ok ((node line None k.0, v.0), v.1))

-- The pairs behind the opening brace or a comma, where the map has some keys already. The fuel is enough if it is more
-- than the length.
abbrev pub pairs_with : (List ℕ → Node) → ℕ → List Content → ℕ → List ℕ → Result (List (Shape × Shape) × List ℕ) LineFault
pairs_with read line keys zero bytes = fault 0 kinds.Flow
pairs_with read line keys (suc fuel) bytes =
    if begins_with 125 (after_gap bytes) then Ok ([], drop 1 (after_gap bytes))
    else pair_with read line keys (after_gap bytes) >>= λ p.
    goes_on 125 (pairs_with read line (content_of p.0.0 ∷ keys) fuel) p.0 (after_gap p.1)

-- the pairs behind the opening brace
unfoldable pub pairs_of : (List ℕ → Node) → ℕ → List ℕ → Result (List (Shape × Shape) × List ℕ) LineFault
pairs_of read line bytes = pairs_with read line [] (suc (length bytes)) bytes

-- ---- depth

-- what stands behind an opening bracket, and behind an opening brace
abbrev pub sequence_with : (List ℕ → Node) → List ℕ → Value
sequence_with read bytes = items_of read bytes >>= λ items. Ok (sequence (of_list items.0), items.1)

abbrev pub mapping_with : (List ℕ → Node) → ℕ → List ℕ → Value
mapping_with read line bytes = pairs_of read line bytes >>= λ pairs. Ok (mapping (of_pairs pairs.0), pairs.1)

abbrev pub collection_with : (List ℕ → Node) → ℕ → List ℕ → Value
collection_with read line [] = fault 0 kinds.Flow
collection_with read line (b ∷ bs) = if b == 91 then sequence_with read bs else mapping_with read line bs

-- a map or a sequence, in which so many may stand inside each other, itself included
unfoldable pub collection_at : ℕ → ℕ → List ℕ → Value
collection_at zero line bytes = fault (length bytes) kinds.Depth
collection_at (suc depth) line bytes = collection_with (node_with (collection_at depth line) line) line bytes

-- a value in a block, whose tag was read
abbrev pub value_at : ℕ → ℕ → Mode → List ℕ → Value
value_at depth line mode [] = fault 0 kinds.Character
value_at depth line mode (b ∷ bs) =
    if is_one_of (codes "[{") b then collection_at depth line (b ∷ bs) else scalar_value mode false (b ∷ bs)
