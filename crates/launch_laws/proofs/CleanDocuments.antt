-- A document's text has no byte that may not be in a text.
use Rattle.std.proofs.Common.{ℕ, Bool, true, false, List, [], ◌∷◌, ◌++◌, codes, Some, None, refl, sym, subst}
use Rattle.base64.specs.Engines.{standard}
use Rattle.base64.specs.GeneralPurpose.{encode_of}
use Rattle.launch_values.specs.Documents.{IsSound, IsSoundContent, AreSoundItems, AreSoundPairs}
use Rattle.launch_values.specs.Shape.{Shape, Content, Shapes, Pairs, node, null, boolean, integer, text, binary, mapping, sequence, no_items, item, no_pairs, pair, content_of}
use Rattle.launch_laws.specs.Printed.{in_quotes, printed, printed_value, behind_tag, printed_items, further_items, printed_pairs, further_pairs, IsTagName, IsKey, IsEncodable, IsEncodableRoot, IsEncodableValue, AreEncodableItems, AreEncodablePairs}
use Rattle.launch_laws.proofs.CleanTexts.{IsClean, clean_nil, clean_append, clean_visible, clean_text}
use Rattle.launch_laws.proofs.PrintedTexts.{clean_quotes}
use Rattle.launch_laws.proofs.PrintedScalars.{base64_text, scalar_clean}
use Rattle.launch_laws.proofs.PrintedLists.{key_text, key_sound}

behind_clean : (value : Content) (bytes : List ℕ) → IsClean bytes → IsClean (behind_tag value bytes)
behind_clean null bytes h = clean_nil
behind_clean (boolean b) bytes h = clean_append (32 ∷ []) bytes (clean_visible (32 ∷ []) refl) h
behind_clean (integer i) bytes h = clean_append (32 ∷ []) bytes (clean_visible (32 ∷ []) refl) h
behind_clean (text bs) bytes h = clean_append (32 ∷ []) bytes (clean_visible (32 ∷ []) refl) h
behind_clean (binary bs) bytes h = clean_append (32 ∷ []) bytes (clean_visible (32 ∷ []) refl) h
behind_clean (mapping ps) bytes h = clean_append (32 ∷ []) bytes (clean_visible (32 ∷ []) refl) h
behind_clean (sequence xs) bytes h = clean_append (32 ∷ []) bytes (clean_visible (32 ∷ []) refl) h

key_clean : (k : Shape) → IsKey k → IsSound k → IsClean (printed k)
key_clean k key sound =
    let both = key_sound k key sound in
    subst IsClean (sym (key_text k key).0) (scalar_clean (content_of k) both.0 both.1)

tagged_clean : (in_flow : Bool) (name : List ℕ) (value : Content) → IsTagName in_flow name → IsClean (printed_value value) → IsClean (33 ∷ name ++ behind_tag value (printed_value value))
tagged_clean in_flow name value h inner =
    clean_append (33 ∷ []) (name ++ behind_tag value (printed_value value)) (clean_visible (33 ∷ []) refl)
    (clean_append name (behind_tag value (printed_value value)) (clean_text name h.0 h.1) (behind_clean value (printed_value value) inner))

mutual
  node_clean : (x : Shape) → IsSound x → IsEncodable true x → IsClean (printed x)
  node_clean (node line None value) sound encodes = value_clean value sound encodes.1
  node_clean (node line (Some name) value) sound encodes = tagged_clean true name value encodes.0.0 (value_clean value sound encodes.1)

  value_clean : (c : Content) → IsSoundContent c → IsEncodableValue true c → IsClean (printed_value c)
  value_clean null sound encodes = scalar_clean null refl sound
  value_clean (boolean b) sound encodes = scalar_clean (boolean b) refl sound
  value_clean (integer i) sound encodes = scalar_clean (integer i) refl sound
  value_clean (text bytes) sound encodes = scalar_clean (text bytes) refl sound
  value_clean (binary bytes) sound encodes =
      clean_append (codes "!!binary ") (in_quotes (encode_of standard bytes)) (clean_visible (codes "!!binary ") refl) (clean_quotes (encode_of standard bytes) (base64_text bytes encodes))
  value_clean (mapping ps) sound encodes =
      clean_append (123 ∷ []) (printed_pairs ps ++ codes "}") (clean_visible (123 ∷ []) refl)
      (clean_append (printed_pairs ps) (codes "}") (pairs_clean ps sound encodes.1).0 (clean_visible (codes "}") refl))
  value_clean (sequence xs) sound encodes =
      clean_append (91 ∷ []) (printed_items xs ++ codes "]") (clean_visible (91 ∷ []) refl)
      (clean_append (printed_items xs) (codes "]") (items_clean xs sound encodes).0 (clean_visible (codes "]") refl))

  items_clean : (xs : Shapes) → AreSoundItems xs → AreEncodableItems true xs → IsClean (printed_items xs) × IsClean (further_items xs)
  items_clean no_items sound encodes = (clean_nil, clean_nil)
  items_clean (item x xs) sound encodes =
      let all = clean_append (printed x) (further_items xs) (node_clean x sound.0 encodes.0) (items_clean xs sound.1 encodes.1).1 in
      (all, clean_append (44 ∷ 32 ∷ []) (printed x ++ further_items xs) (clean_visible (44 ∷ 32 ∷ []) refl) all)

  pairs_clean : (ps : Pairs) → AreSoundPairs ps → AreEncodablePairs true ps → IsClean (printed_pairs ps) × IsClean (further_pairs ps)
  pairs_clean no_pairs sound encodes = (clean_nil, clean_nil)
  pairs_clean (pair k v ps) sound encodes =
      let values = clean_append (printed v) (further_pairs ps) (node_clean v sound.1 encodes.1) (pairs_clean ps sound.2 encodes.2).1 in
      let all = clean_append (printed k) (58 ∷ 32 ∷ printed v ++ further_pairs ps) (key_clean k encodes.0 sound.0)
      (clean_append (58 ∷ 32 ∷ []) (printed v ++ further_pairs ps) (clean_visible (58 ∷ 32 ∷ []) refl) values) in
      (all, clean_append (44 ∷ 32 ∷ []) (printed k ++ (58 ∷ 32 ∷ printed v ++ further_pairs ps)) (clean_visible (44 ∷ 32 ∷ []) refl) all)

pub root_clean : (x : Shape) → IsSound x → IsEncodableRoot x → IsClean (printed x)
root_clean (node line None value) sound encodes = value_clean value sound encodes.1
root_clean (node line (Some name) value) sound encodes = tagged_clean false name value encodes.0.0 (value_clean value sound encodes.1)
