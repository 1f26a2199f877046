-- Scalars that are read, and the keys of a map that is read.
use Rattle.std.proofs.Common.{◌≡◌, ℕ, ℤ, Bool, true, false, if◌then◌else◌, List, [], ◌∷◌, codes, length, Option, Some, None, Result, Ok, Err, refl, ◌∙◌}
use Rattle.std.specs.Prelude.{IfOk, IsTrue}
use Rattle.std.specs.List.{AllByRecursion, IsDistinct, list_any}
use Rattle.std.specs.Str.{IsUtf8}
use Rattle.std.proofs.lemmas.Bool.{or_parts}
use Rattle.base64.specs.Engines.{standard}
use Rattle.base64.specs.GeneralPurpose.{decode_of}
use Rattle.lists.proofs.Steps.{on_both, on_bind}
use Rattle.launch_scalars.specs.declared.kind.YamlKind.{YamlKind}
use Rattle.launch_scalars.specs.declared.kind.YamlKind.TheVariants as kinds
use Rattle.launch_scalars.specs.Numbers.{integer_of, is_float, is_in_range, is_word}
use Rattle.launch_scalars.specs.Results.{at_place}
use Rattle.launch_scalars.specs.Scalars.{Scalar, scalar_at}
use Rattle.launch_scalars.proofs.ScalarSteps.{scalar_text}
use Rattle.launch_values.specs.declared.mode.Mode.{Mode}
use Rattle.launch_values.specs.declared.mode.Mode.TheVariants as modes
use Rattle.launch_values.specs.KeySets.{IsScalarKey}
use Rattle.launch_values.specs.Keys.{same_key}
use Rattle.launch_values.specs.Resolution.{decoded, meaning, number_or_text, resolved, scalar_value}
use Rattle.launch_values.specs.Shape.{Shape, Content, null, boolean, integer, text, binary, mapping, sequence, content_of, of_pairs}
use Rattle.launch_laws.specs.Printed.{is_taggable, IsKey, keys_of, IsEncodable, IsEncodableValue, AreEncodablePairs}
use Rattle.launch_laws.proofs.PrintedLists.{same_sym}
use Rattle.launch_laws.proofs.ReadBytes.{AreBytes, decoded_are_bytes}

-- ---- what a value that is read may be

-- a tag with a name may stand before the value, where it was read behind one
abbrev pub Fits : Mode → Content → Type 0
Fits modes.Verbatim value = IsTrue (is_taggable value)
Fits modes.Resolved value = Unit {0}
Fits modes.Base64 value = Unit {0}

-- a value that was read
abbrev pub IsRead : Mode → Content → Type 0
IsRead mode value = Fits mode value × IsEncodableValue false value

-- what may stand behind a tag with a name may stand anywhere
pub any_mode : (mode : Mode) (value : Content) → IsRead modes.Verbatim value → IsRead mode value
any_mode modes.Verbatim value h = h
any_mode modes.Resolved value h = (tt, h.1)
any_mode modes.Base64 value h = (tt, h.1)

pub null_is_read : (mode : Mode) → IsRead mode null
null_is_read mode = any_mode mode null (refl, tt)

-- ---- scalars

resolved_key : (bytes : List ℕ) → IfOk (resolved bytes) IsScalarKey
unfolding resolved
resolved_key bytes =
    on_both IsScalarKey (is_word (codes "~" ∷ codes "null" ∷ codes "Null" ∷ codes "NULL" ∷ []) bytes) (Ok null) _ refl
    (on_both IsScalarKey (is_word (codes "true" ∷ codes "True" ∷ codes "TRUE" ∷ []) bytes) (Ok (boolean true)) _ refl
    (on_both IsScalarKey (is_word (codes "false" ∷ codes "False" ∷ codes "FALSE" ∷ []) bytes) (Ok (boolean false)) (number_or_text bytes (integer_of bytes)) refl
    (number_key (integer_of bytes))))
  where
    number_key : (i : Option ℤ) → IfOk (number_or_text bytes i) IsScalarKey
    number_key (Some i) = on_both IsScalarKey (is_in_range i) (Ok (integer i)) (Err kinds.IntegerRange) refl tt
    number_key None = on_both IsScalarKey (is_float bytes) (Err kinds.Float) (Ok (text bytes)) tt refl

key_is_read : (value : Content) → IsScalarKey value → IsRead modes.Resolved value
key_is_read null h = (tt, tt)
key_is_read (boolean b) h = (tt, tt)
key_is_read (integer i) h = (tt, tt)
key_is_read (text bytes) h = (tt, tt)
key_is_read (binary bytes) h = cc (h)
key_is_read (mapping ps) h = cc (h)
key_is_read (sequence xs) h = cc (h)

plain_key : (s : Scalar) → IfOk (meaning modes.Resolved s) IsScalarKey
plain_key s = on_both IsScalarKey s.plain (resolved s.content) (Ok (text s.content)) (resolved_key s.content) refl

weaker : {E : Type 0} (P Q : Content → Type 0) → ((value : Content) → P value → Q value) → (r : Result Content E) → IfOk r P → IfOk r Q
weaker P Q f (Ok value) h = f value h
weaker P Q f (Err e) h = tt

decoded_read : {E : Type 0} (r : Result (List ℕ) E) → IfOk r AreBytes → IfOk (decoded r) (IsRead modes.Base64)
decoded_read (Ok bytes) h = (tt, h)
decoded_read (Err e) h = tt

meaning_read : (mode : Mode) (s : Scalar) → IsUtf8 s.content → IfOk (meaning mode s) (IsRead mode)
meaning_read modes.Resolved s utf8 = weaker IsScalarKey (IsRead modes.Resolved) key_is_read (meaning modes.Resolved s) (plain_key s)
meaning_read modes.Verbatim s utf8 = (refl, tt)
meaning_read modes.Base64 s utf8 = decoded_read (decode_of standard s.content) (decoded_are_bytes s.content utf8)

placed : (P : Content → Type 0) (place : ℕ) (r : Result Content YamlKind) → IfOk r P → IfOk (at_place place r) P
placed P place (Ok value) h = h
placed P place (Err kind) h = tt

-- what holds of what scalars mean
of_scalars : (P : Content → Type 0) (mode : Mode) (in_flow : Bool) (bytes : List ℕ) → ((s : Scalar) → IsUtf8 s.content → IfOk (meaning mode s) P) → IfOk (scalar_value mode in_flow bytes) (λ v. P v.0)
unfolding scalar_value
of_scalars P mode in_flow bytes h =
    on_bind _ _ (scalar_at in_flow bytes) _ (scalar_text in_flow bytes) (λ s is_text. on_bind _ _ (at_place (length bytes) (meaning mode s)) _ (placed P (length bytes) (meaning mode s) (h s is_text.0)) (λ value is. is))

pub scalar_is_read : (mode : Mode) (in_flow : Bool) (bytes : List ℕ) → IfOk (scalar_value mode in_flow bytes) (λ v. IsRead mode v.0)
scalar_is_read mode in_flow bytes = of_scalars (IsRead mode) mode in_flow bytes (meaning_read mode)

pub scalar_is_key : (in_flow : Bool) (bytes : List ℕ) → IfOk (scalar_value modes.Resolved in_flow bytes) (λ v. IsScalarKey v.0)
scalar_is_key in_flow bytes = of_scalars IsScalarKey modes.Resolved in_flow bytes (λ s utf8. plain_key s)

-- ---- pairs

-- pairs that are read, where the map has some keys already
abbrev pub ArePairsRead : List Content → List (Shape × Shape) → Type 0
ArePairsRead keys ps =
    AreEncodablePairs false (of_pairs ps) × IsDistinct same_key (keys_of (of_pairs ps)) × AllByRecursion (λ c. list_any (same_key c) keys ≡ false) (keys_of (of_pairs ps))

-- a pair that is read, whose key is none of these
abbrev pub IsPairRead : List Content → Shape × Shape → Type 0
IsPairRead keys p = IsKey p.0 × IsEncodable false p.1 × (list_any (same_key (content_of p.0)) keys ≡ false)

pub no_pairs_read : (keys : List Content) → ArePairsRead keys []
unfolding IsDistinct
no_pairs_read keys = (tt, tt, tt)

-- keys that are none of some are neither the first nor one of the others
apart : (key : Content) (keys cs : List Content) → AllByRecursion (λ c. list_any (same_key c) (key ∷ keys) ≡ false) cs
    → AllByRecursion (λ c. same_key key c ≡ false) cs × AllByRecursion (λ c. list_any (same_key c) keys ≡ false) cs
apart key keys [] h = (tt, tt)
apart key keys (c ∷ cs) h =
    let first = or_parts (same_key c key) (list_any (same_key c) keys) h.0 in
    let others = apart key keys cs h.1 in
    ((same_sym key c ∙ first.0, others.0), (first.1, others.1))

pub more_pairs_read : (keys : List Content) (p : Shape × Shape) (ps : List (Shape × Shape)) → IsPairRead keys p → ArePairsRead (content_of p.0 ∷ keys) ps → ArePairsRead keys (p ∷ ps)
unfolding IsDistinct
more_pairs_read keys p ps one others =
    let sides = apart (content_of p.0) keys (keys_of (of_pairs ps)) others.2 in
    ((one.0, one.1, others.0), (sides.0, others.1), (one.2, sides.1))

-- what holds of what is read where a test fails
pub on_test : {F A : Type 0} (P : A → Type 0) (test : Bool) (r s : Result A F) → IfOk r P → (test ≡ false → IfOk s P) → IfOk (if test then r else s) P
on_test P true r s h k = h
on_test P false r s h k = k refl
