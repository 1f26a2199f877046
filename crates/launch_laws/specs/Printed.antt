-- Documents as texts: one flow line.
--     printed x      a document's text
--     IsPrintable x      a flow line can hold the document
--     HasFlowNames x      the names of the tags inside its maps and sequences can stand in a flow value
use Rattle.std.specs.Prelude.{ℕ, ◌<◌, ◌≡◌, ◌==◌, ◌||◌, ◌/◌, ◌%◌, if◌then◌else◌, Bool, true, false, IsTrue, List, [], ◌∷◌, ◌++◌, map, codes, Option, Some, None}
use Rattle.std.specs.Char.{encode_utf8, is_control}
use Rattle.std.specs.Fmt.{digit_glyph, signed_decimal}
use Rattle.std.specs.List.{AllByRecursion, IsDistinct, flat_map}
use Rattle.std.specs.Str.{IsUtf8, chars}
use Rattle.base64.specs.GeneralPurpose.{encode_of}
use Rattle.base64.specs.Engines.{standard}
use Rattle.launch_scalars.specs.Spaces.{is_one_of}
use Rattle.launch_values.specs.Shape.{Shape, Content, Shapes, Pairs, node, null, boolean, integer, text, binary, mapping, sequence, no_items, item, no_pairs, pair, to_pairs, content_of}
use Rattle.launch_values.specs.Documents.{IsDocument}
use Rattle.launch_values.specs.KeySets.{IsScalarKey}
use Rattle.launch_values.specs.Keys.{same_key}
use Rattle.launch_values.specs.Tags.{is_name, ends_name}

-- ---- texts

-- a character below U+0100 as its escape
abbrev pub escape_of : ℕ → List ℕ
escape_of c = 92 ∷ 120 ∷ digit_glyph false (c / 16) ∷ digit_glyph false (c % 16) ∷ []

-- A character in double quotes: a quote and a backslash behind a backslash, a control character as its escape, and any other
-- as it is.
abbrev pub encoded : ℕ → List ℕ
encoded c = if (c == 34) || (c == 92) then 92 ∷ c ∷ [] else if is_control c then escape_of c else encode_utf8 c

-- a text in double quotes
unfoldable pub in_quotes : List ℕ → List ℕ
in_quotes bytes = 34 ∷ flat_map encoded (chars bytes) ++ 34 ∷ []

-- ---- documents

-- what stands behind a tag: a value's text, or nothing where there is no value
abbrev pub behind_tag : Content → List ℕ → List ℕ
behind_tag null bytes = []
behind_tag value bytes = 32 ∷ bytes

-- a comma with a space stands between two items and between two pairs
abbrev mutual
  pub printed : Shape → List ℕ
  printed (node line None value) = printed_value value
  printed (node line (Some name) value) = 33 ∷ name ++ behind_tag value (printed_value value)

  pub printed_value : Content → List ℕ
  printed_value null = codes "null"
  printed_value (boolean true) = codes "true"
  printed_value (boolean false) = codes "false"
  printed_value (integer i) = signed_decimal i
  printed_value (text bytes) = in_quotes bytes
  printed_value (binary bytes) = codes "!!binary " ++ in_quotes (encode_of standard bytes)
  printed_value (mapping ps) = 123 ∷ printed_pairs ps ++ codes "}"
  printed_value (sequence xs) = 91 ∷ printed_items xs ++ codes "]"

  pub printed_items : Shapes → List ℕ
  printed_items no_items = []
  printed_items (item x xs) = printed x ++ further_items xs

  pub further_items : Shapes → List ℕ
  further_items no_items = []
  further_items (item x xs) = 44 ∷ 32 ∷ printed x ++ further_items xs

  pub printed_pairs : Pairs → List ℕ
  printed_pairs no_pairs = []
  printed_pairs (pair k v ps) = printed k ++ (58 ∷ 32 ∷ printed v ++ further_pairs ps)

  pub further_pairs : Pairs → List ℕ
  further_pairs no_pairs = []
  further_pairs (pair k v ps) = 44 ∷ 32 ∷ printed k ++ (58 ∷ 32 ∷ printed v ++ further_pairs ps)

-- ---- which documents a flow line can hold

-- A name that can stand behind `!`. In a flow value a comma, a bracket and a brace end it.
abbrev pub IsTagName : Bool → List ℕ → Type 0
IsTagName in_flow name =
    IsUtf8 name × AllByRecursion (λ c. is_control c ≡ false) (chars name) × IsTrue (is_name name)
    × AllByRecursion (λ b. ends_name in_flow b ≡ false) name

-- A scalar behind a tag is a text, and bytes have the tag `!!binary` themselves.
abbrev pub is_taggable : Content → Bool
is_taggable null = true
is_taggable (boolean b) = false
is_taggable (integer i) = false
is_taggable (text bytes) = true
is_taggable (binary bytes) = false
is_taggable (mapping ps) = true
is_taggable (sequence xs) = true

abbrev pub IsTagOn : Bool → Option (List ℕ) → Content → Type 0
IsTagOn in_flow None value = Unit {0}
IsTagOn in_flow (Some name) value = IsTagName in_flow name × IsTrue (is_taggable value)

-- a key has no tag
abbrev pub IsKey : Shape → Type 0
IsKey (node line tag value) = (tag ≡ None) × IsScalarKey value

-- what the keys of a map are
abbrev pub keys_of : Pairs → List Content
keys_of ps = map (λ (p : Shape × Shape). content_of p.0) (to_pairs ps)

-- The tags and keys can stand where they are. in_flow says whether each name must be one that a flow value can have, or may be one
-- that only rows can have.
abbrev mutual
  pub IsEncodable : Bool → Shape → Type 0
  IsEncodable in_flow (node line tag value) = IsTagOn in_flow tag value × IsEncodableValue in_flow value

  pub IsEncodableValue : Bool → Content → Type 0
  IsEncodableValue in_flow null = Unit {0}
  IsEncodableValue in_flow (boolean b) = Unit {0}
  IsEncodableValue in_flow (integer i) = Unit {0}
  IsEncodableValue in_flow (text bytes) = Unit {0}
  IsEncodableValue in_flow (binary bytes) = AllByRecursion (λ b. b < 256) bytes
  IsEncodableValue in_flow (mapping ps) = IsDistinct same_key (keys_of ps) × AreEncodablePairs in_flow ps
  IsEncodableValue in_flow (sequence xs) = AreEncodableItems in_flow xs

  pub AreEncodableItems : Bool → Shapes → Type 0
  AreEncodableItems in_flow no_items = Unit {0}
  AreEncodableItems in_flow (item x xs) = IsEncodable in_flow x × AreEncodableItems in_flow xs

  pub AreEncodablePairs : Bool → Pairs → Type 0
  AreEncodablePairs in_flow no_pairs = Unit {0}
  AreEncodablePairs in_flow (pair k v ps) = IsKey k × IsEncodable in_flow v × AreEncodablePairs in_flow ps

-- the same of a document, whose own tag stands in no flow value
abbrev pub IsEncodableRoot : Shape → Type 0
IsEncodableRoot (node line tag value) = IsTagOn false tag value × IsEncodableValue true value

-- A document of at most 64 maps and sequences inside each other, with integers in range and texts without a zero byte, in which
-- the tags and the keys can stand.
abbrev pub IsPrintable : Shape → Type 0
IsPrintable x = IsDocument x × IsEncodableRoot x

-- ---- names that can stand in a flow value

-- no comma, bracket or brace is in the name of a tag
abbrev pub HasFlowName : Option (List ℕ) → Type 0
HasFlowName None = Unit {0}
HasFlowName (Some name) = AllByRecursion (λ b. is_one_of (codes ",[]{}") b ≡ false) name

-- none is in the name of a tag inside a value
abbrev mutual
  pub HasFlowNamesInside : Content → Type 0
  HasFlowNamesInside null = Unit {0}
  HasFlowNamesInside (boolean b) = Unit {0}
  HasFlowNamesInside (integer i) = Unit {0}
  HasFlowNamesInside (text bytes) = Unit {0}
  HasFlowNamesInside (binary bytes) = Unit {0}
  HasFlowNamesInside (mapping ps) = PairsHaveFlowNames ps
  HasFlowNamesInside (sequence xs) = ItemsHaveFlowNames xs

  pub ItemsHaveFlowNames : Shapes → Type 0
  ItemsHaveFlowNames no_items = Unit {0}
  ItemsHaveFlowNames (item x xs) = NodeHasFlowNames x × ItemsHaveFlowNames xs

  pub PairsHaveFlowNames : Pairs → Type 0
  PairsHaveFlowNames no_pairs = Unit {0}
  PairsHaveFlowNames (pair k v ps) = NodeHasFlowNames v × PairsHaveFlowNames ps

  pub NodeHasFlowNames : Shape → Type 0
  NodeHasFlowNames (node line tag value) = HasFlowName tag × HasFlowNamesInside value

-- none is in the name of a tag inside a map or a sequence
abbrev pub HasFlowNames : Shape → Type 0
HasFlowNames x = HasFlowNamesInside (content_of x)
