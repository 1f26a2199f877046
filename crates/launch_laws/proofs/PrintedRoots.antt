-- A document's text as the one row of a text.
use Rattle.std.proofs.Common.{◌≡◌, ℕ, pos, negsuc, suc, ◌^◌, ◌<◌, ◌≤◌, ◌==◌, Bool, true, false, not, ◌&&◌, ◌||◌, if◌then◌else◌, List, [], ◌∷◌, ◌++◌, length, take, drop, codes, Option, Some, None, Result, Ok, Err, refl, sym, ap, subst, ◌∙◌, arith}
use Rattle.std.specs.Prelude.{nat_eq, is_some}
use Rattle.std.specs.Fmt.{decimal}
use Rattle.std.specs.List.{AllByRecursion, starts_with, flat_map}
use Rattle.std.specs.Str.{chars}
use Rattle.std.specs.Str.Parse.{AllDigits}
use Rattle.std.proofs.Math.Seq.{drop-append_seam}
use Rattle.std.proofs.lemmas.Bool.{cond-false, cond-true, ltb-true}
use Rattle.std.proofs.lemmas.Cmp.{nat_eq_equiv}
use Rattle.std.proofs.lemmas.Fmt.{decimal_is_IsNumeral}
use Rattle.std.proofs.lemmas.List.{append-nil}
use lib.Pointwise.{pointwise}
use Rattle.base64.specs.Engines.{standard}
use Rattle.base64.specs.GeneralPurpose.{encode_of}
use Rattle.lists.specs.Results.{◌>>=◌}
use Rattle.launch_scalars.specs.declared.kind.YamlKind.TheVariants as kinds
use Rattle.launch_scalars.specs.declared.fault.LineFault.{LineFault}
use Rattle.launch_scalars.specs.Plain.{begins_plain, is_space_or_end, plain_length}
use Rattle.launch_scalars.specs.Quoted.{Quoted, quoted}
use Rattle.launch_scalars.specs.Scalars.{is_quote}
use Rattle.launch_scalars.specs.Spaces.{is_one_of, after_gap}
use Rattle.launch_values.specs.declared.mode.Mode.{Mode}
use Rattle.launch_values.specs.declared.mode.Mode.TheVariants as modes
use Rattle.launch_values.specs.Documents.{IsText, IsSound, IsSoundContent}
use Rattle.launch_values.specs.Flow.{collection_at, value_at}
use Rattle.launch_values.specs.KeySets.{IsScalarKey}
use Rattle.launch_values.specs.Resolution.{scalar_value}
use Rattle.launch_values.specs.Shape.{Shape, Content, node, null, boolean, integer, text, binary, mapping, sequence, depth_of, depth_of_content}
use Rattle.launch_values.specs.Tags.{Tag, named, bytes_in_base64, name_length, tag_at}
use Rattle.launch_lines.specs.declared.fault.Fault.{Fault}
use Rattle.launch_lines.specs.Faults.{unless}
use Rattle.launch_lines.specs.Rows.{Row, is_dash, behind_colon, behind_quoted, behind_key, in_row}
use Rattle.launch_yaml.specs.Blocks.{Tagging, untagged, tagged, in_base64, tagging_of, mode_of, node_of, unless_binary, wrong_in, text_behind, rows_behind, alone, begins_block, value_in, unless_key, value_below, block_at}
use Rattle.launch_yaml.specs.Document.{root_of}
use Rattle.launch_laws.specs.Printed.{in_quotes, encoded, printed, printed_value, IsTagName, IsEncodableRoot, IsEncodableValue}
use Rattle.launch_yaml.specs.Renumbering.{renumber, renumber_value}
use Rattle.launch_laws.proofs.PrintedTexts.{double_read}
use Rattle.launch_laws.proofs.PrintedScalars.{Starts, outside, no_scalar, are_inner, inner_length, base64_text, digits_inner, not_true, on_digit, quotes_start, scalar_starts, scalar_read, verbatim_read, bytes_read}
use Rattle.launch_laws.proofs.PrintedFlow.{read_tag, read_value, one, isnt, among_none, wider, gap_drops, tag_read, binary_tag, is_collection}
use Rattle.launch_laws.proofs.PrintedLists.{value_read}

-- the one row of a text
abbrev pub only_row : List ℕ → Row
only_row bytes = record { number = 1; column = 0; content = bytes }

-- ---- nothing of it is a block

no_key_word : (b : ℕ) (bs : List ℕ) → is_quote b ≡ false → begins_plain false b bs ≡ true → are_inner (b ∷ bs) ≡ true → behind_key (b ∷ bs) ≡ None
unfolding behind_key
no_key_word b bs quote begins inner =
    let word : List ℕ = b ∷ bs in
    let whole : plain_length false word ≡ length word = subst (λ (ys : List ℕ). plain_length false ys ≡ length word) (append-nil word) (inner_length false word [] inner refl) in
    let nothing : drop (length word) word ≡ [] = subst (λ (ys : List ℕ). drop (length word) ys ≡ []) (append-nil word) (drop-append_seam word []) in
    cond-false (is_quote b) (behind_quoted (quoted b bs).rest) _ quote
    ∙ cond-true (begins_plain false b bs) (behind_colon (drop (plain_length false word) word)) _ begins
    ∙ ap (λ (n : ℕ). behind_colon (drop n word)) whole ∙ ap behind_colon nothing

no_key_quotes : (bytes : List ℕ) → IsText bytes → behind_key (in_quotes bytes) ≡ None
unfolding behind_key in_quotes
no_key_quotes bytes h =
    let front : List ℕ = flat_map encoded (chars bytes) ++ 34 ∷ [] in
    ap (λ (q : Quoted). behind_quoted q.rest) (ap (quoted 34) (sym (append-nil front)) ∙ double_read bytes [] h)

no_dash_quotes : (bytes : List ℕ) → is_dash (in_quotes bytes) ≡ false
unfolding in_quotes
no_dash_quotes bytes = refl

-- no block begins here, and no marker stands here
pub record IsBare (bytes : List ℕ) : Type 0 where
  pub block : begins_block bytes ≡ false
  pub start : starts_with nat_eq bytes (codes "---") ≡ false
  pub stop : starts_with nat_eq bytes (codes "...") ≡ false

no_block : (bytes : List ℕ) → is_dash bytes ≡ false → behind_key bytes ≡ None → begins_block bytes ≡ false
no_block bytes dash key = ap (λ (t : Bool). t || is_some (behind_key bytes)) dash ∙ ap (λ (o : Option (List ℕ)). is_some o) key

pub starts_other : (c b : ℕ) (cs bs : List ℕ) → nat_eq b c ≡ false → starts_with nat_eq (b ∷ bs) (c ∷ cs) ≡ false
starts_other c b cs bs h = ap (λ (t : Bool). t && pointwise nat_eq cs (take (length cs) bs)) (nat_eq_equiv.symm c b ∙ h)

natural_bare : (ds : List ℕ) → 0 < length ds → AllDigits 10 ds → IsBare ds
natural_bare [] some h = absurd (omega (arith, some))
natural_bare (d ∷ ds) some h =
    let dash = not_true (d == 45) (on_digit (λ b. not (b == 45)) refl d ds h) in
    let point = not_true (d == 46) (on_digit (λ b. not (b == 46)) refl d ds h) in
    let key = no_key_word d ds (not_true (is_quote d) (on_digit (λ b. not (is_quote b)) refl d ds h)) (on_digit (λ b. begins_plain false b ds) refl d ds h) (digits_inner (d ∷ ds) h) in
    record {
      block = no_block (d ∷ ds) (ap (λ (t : Bool). t && is_space_or_end ds) dash) key;
      start = starts_other 45 d (codes "--") ds dash;
      stop = starts_other 46 d (codes "..") ds point;
    }

negative_bare : (ds : List ℕ) → 0 < length ds → AllDigits 10 ds → IsBare (45 ∷ ds)
negative_bare [] some h = absurd (omega (arith, some))
negative_bare (d ∷ ds) some h =
    let space = not_true (d == 32) (on_digit (λ b. not (b == 32)) refl d ds h) in
    let dash = not_true (d == 45) (on_digit (λ b. not (b == 45)) refl d ds h) in
    let key = no_key_word 45 (d ∷ ds) refl (on_digit (λ b. not (b == 32)) refl d ds h) (digits_inner (d ∷ ds) h) in
    record {
      block = no_block (45 ∷ d ∷ ds) space key;
      start = starts_other 45 d (codes "-") ds dash;
      stop = refl;
    }

no_marker_quotes : (bytes : List ℕ) → (starts_with nat_eq (in_quotes bytes) (codes "---") ≡ false) × (starts_with nat_eq (in_quotes bytes) (codes "...") ≡ false)
unfolding in_quotes
no_marker_quotes bytes = (refl, refl)

quotes_bare : (bytes : List ℕ) → IsText bytes → IsBare (in_quotes bytes)
quotes_bare bytes h = record {
  block = no_block (in_quotes bytes) (no_dash_quotes bytes) (no_key_quotes bytes h);
  start = (no_marker_quotes bytes).0;
  stop = (no_marker_quotes bytes).1;
}

scalar_bare : (c : Content) → IsScalarKey c → IsSoundContent c → IsBare (printed_value c)
unfolding behind_key
scalar_bare null key sound = record { block = refl; start = refl; stop = refl }
scalar_bare (boolean true) key sound = record { block = refl; start = refl; stop = refl }
scalar_bare (boolean false) key sound = record { block = refl; start = refl; stop = refl }
scalar_bare (integer (pos n)) key sound = let numeral = decimal_is_IsNumeral n (ltb-true n (2 ^ 64) sound) in natural_bare (decimal n) numeral.0.0 numeral.0.1
scalar_bare (integer (negsuc n)) key sound =
    let below : n < 2 ^ 63 = ltb-true n (2 ^ 63) sound in
    let numeral = decimal_is_IsNumeral (suc n) (omega arith) in
    negative_bare (decimal (suc n)) numeral.0.0 numeral.0.1
scalar_bare (text bytes) key sound = quotes_bare bytes sound
scalar_bare (binary bytes) key sound = cc (key)
scalar_bare (mapping ps) key sound = cc (key)
scalar_bare (sequence xs) key sound = cc (key)

collection_no_key : (c : Content) → is_collection c ≡ true → behind_key (printed_value c) ≡ None
unfolding behind_key
collection_no_key null h = cc
collection_no_key (boolean b) h = cc (h)
collection_no_key (integer i) h = cc (h)
collection_no_key (text bytes) h = cc (h)
collection_no_key (binary bytes) h = cc
collection_no_key (mapping ps) h = refl
collection_no_key (sequence xs) h = refl

pub root_bare : (x : Shape) → IsSound x → IsBare (printed x)
unfolding behind_key
root_bare (node line None null) sound = scalar_bare null refl sound
root_bare (node line None (boolean b)) sound = scalar_bare (boolean b) refl sound
root_bare (node line None (integer i)) sound = scalar_bare (integer i) refl sound
root_bare (node line None (text bytes)) sound = scalar_bare (text bytes) refl sound
root_bare (node line None (binary bytes)) sound = record { block = refl; start = refl; stop = refl }
root_bare (node line None (mapping ps)) sound = record { block = refl; start = refl; stop = refl }
root_bare (node line None (sequence xs)) sound = record { block = refl; start = refl; stop = refl }
root_bare (node line (Some name) value) sound = record { block = refl; start = refl; stop = refl }

-- ---- what is read of it

abbrev pub read_root : Shape → Result Shape Fault
read_root x = Ok x

abbrev read_in : Tagging → Row → Content × List ℕ → Result Shape Fault
read_in tagging r v = unless (text_behind r (after_gap v.1)) (unless (rows_behind true r []) (read_root (node_of tagging 1 v.0)))

alone_is : (tagging : Tagging) (row_bytes bytes : List ℕ) (c : Content) → value_at 64 1 (mode_of tagging) bytes ≡ read_value c [] → alone 64 true tagging (only_row row_bytes) [] bytes ≡ read_root (node_of tagging 1 c)
alone_is tagging row_bytes bytes c is = ap (λ (r : Result (Content × List ℕ) LineFault). in_row (only_row row_bytes) r >>= read_in tagging (only_row row_bytes)) is

same_both : {A : Type 0} (t : Bool) (x : A) → (if t then x else x) ≡ x
same_both true x = refl
same_both false x = refl

scalar_at_root : (mode : Mode) (bytes : List ℕ) → Starts no_scalar bytes → value_at 64 1 mode bytes ≡ scalar_value mode false bytes
scalar_at_root mode bytes s =
    let opening = among_none (codes "[{") s.first (isnt 91 no_scalar s.first refl s.free, (isnt 123 no_scalar s.first refl s.free, tt)) in
    let whole : List ℕ = s.first ∷ s.others in
    subst (λ (ys : List ℕ). value_at 64 1 mode ys ≡ scalar_value mode false ys) (sym s.same)
    (cond-false (is_one_of (codes "[{") s.first) (collection_at 64 1 whole) (scalar_value mode false whole) opening)

-- a scalar in its line, and a map or a sequence
scalar_value_root : (c : Content) → IsScalarKey c → IsSoundContent c → value_at 64 1 modes.Resolved (printed_value c) ≡ read_value c []
scalar_value_root c key sound =
    scalar_at_root modes.Resolved (printed_value c) (scalar_starts c key sound)
    ∙ ap (scalar_value modes.Resolved false) (sym (append-nil (printed_value c))) ∙ scalar_read false c [] key sound refl

collection_root : (mode : Mode) (c : Content) → is_collection c ≡ true → value_at 64 1 mode (printed_value c) ≡ collection_at 64 1 (printed_value c)
collection_root mode null h = cc (h)
collection_root mode (boolean b) h = cc (h)
collection_root mode (integer i) h = cc (h)
collection_root mode (text bytes) h = cc (h)
collection_root mode (binary bytes) h = cc (h)
collection_root mode (mapping ps) h = refl
collection_root mode (sequence xs) h = refl

collection_value_root : (mode : Mode) (c : Content) → depth_of_content c ≤ 64 → IsSoundContent c → IsEncodableValue true c → is_collection c ≡ true → value_at 64 1 mode (printed_value c) ≡ read_value (renumber_value one c) []
collection_value_root mode c deep sound encodes h =
    collection_root mode c h ∙ ap (collection_at 64 1) (sym (append-nil (printed_value c))) ∙ value_read c 64 [] deep sound encodes h

-- ---- a root without a tag

last_of_four : (t u v w : Bool) (x y z last : Result Shape Fault) → t ≡ false → u ≡ false → v ≡ false
    → (if t then x else if u then y else if v then z else if w then last else last) ≡ last
last_of_four t u v w x y z last p q r = rw (p, q, r) (same_both w last)

untagged_root : (b : ℕ) (bs : List ℕ) (c : Content) → (b == 33) ≡ false → begins_block (b ∷ bs) ≡ false → value_at 64 1 modes.Resolved (b ∷ bs) ≡ read_value c []
    → root_of (only_row (b ∷ bs) ∷ []) ≡ read_root (node 1 None c)
untagged_root b bs c mark block is =
    last_of_four (b == 33) (begins_block (b ∷ bs)) (b == 33) (is_one_of (codes "[{") b) _ _ _ (alone 64 true untagged (only_row (b ∷ bs)) [] (b ∷ bs)) mark block mark
    ∙ alone_is untagged (b ∷ bs) (b ∷ bs) c is

scalar_root : (c : Content) → IsScalarKey c → IsSoundContent c → root_of (only_row (printed_value c) ∷ []) ≡ read_root (node 1 None c)
scalar_root c key sound = whole (scalar_starts c key sound) (scalar_bare c key sound).block (scalar_value_root c key sound)
  where
    whole : Starts no_scalar (printed_value c) → begins_block (printed_value c) ≡ false → value_at 64 1 modes.Resolved (printed_value c) ≡ read_value c [] → root_of (only_row (printed_value c) ∷ []) ≡ read_root (node 1 None c)
    whole s =
        subst (λ (ys : List ℕ). begins_block ys ≡ false → value_at 64 1 modes.Resolved ys ≡ read_value c [] → root_of (only_row ys ∷ []) ≡ read_root (node 1 None c)) (sym s.same)
        (λ block is. untagged_root s.first s.others c (isnt 33 no_scalar s.first refl s.free) block is)

-- ---- a root with a tag

abbrev below_root : Tagging → Result Shape Fault
below_root = value_below (block_at 64) 64 true 1 []

abbrev tagged_pair : List ℕ → Tag × List ℕ → Result (Tagging × List ℕ) Fault
tagged_pair bytes t = Ok (tagging_of (wrong_in (only_row bytes) kinds.Tag bytes) t.0, after_gap t.1)

abbrev behind_in : List ℕ → Tagging → List ℕ → Result Shape Fault
behind_in bytes tagging rest = value_in (block_at 64) 64 true below_root tagging false (only_row bytes) [] rest

tagged_root : (bytes : List ℕ) (tag : Tag) (rest behind : List ℕ) (x : Shape) → tag_at false bytes ≡ read_tag tag rest → after_gap rest ≡ behind → behind_key behind ≡ None
    → behind_in (33 ∷ bytes) (tagging_of (wrong_in (only_row (33 ∷ bytes)) kinds.Tag (33 ∷ bytes)) tag) behind ≡ read_root x
    → root_of (only_row (33 ∷ bytes) ∷ []) ≡ read_root x
tagged_root bytes tag rest behind x is gap key value =
    let r = only_row (33 ∷ bytes) in
    let tagging = tagging_of (wrong_in r kinds.Tag (33 ∷ bytes)) tag in
    ap (λ (t : Result (Tag × List ℕ) LineFault). (in_row r t >>= tagged_pair (33 ∷ bytes)) >>= λ u. unless_key r u.1 (behind_in (33 ∷ bytes) u.0 u.1)) is
    ∙ ap (λ (ys : List ℕ). unless_key r ys (behind_in (33 ∷ bytes) tagging ys)) gap
    ∙ cond-false (is_some (behind_key behind)) (Err (wrong_in r kinds.Character behind)) (behind_in (33 ∷ bytes) tagging behind) (ap (λ (o : Option (List ℕ)). is_some o) key)
    ∙ value

last_of_two : (t w : Bool) (x last : Result Shape Fault) → t ≡ false → (if t then x else if w then last else last) ≡ last
last_of_two t w x last p = rw p (same_both w last)

behind_name : (bytes name : List ℕ) (b : ℕ) (bs : List ℕ) (c : Content) → (b == 33) ≡ false → value_at 64 1 modes.Verbatim (b ∷ bs) ≡ read_value c []
    → behind_in bytes (tagged 1 name) (b ∷ bs) ≡ read_root (node 1 (Some name) c)
behind_name bytes name b bs c mark is =
    last_of_two (b == 33) (is_one_of (codes "[{") b) _ (alone 64 true (tagged 1 name) (only_row bytes) [] (b ∷ bs)) mark ∙ alone_is (tagged 1 name) bytes (b ∷ bs) c is

gap_alone : (bytes : List ℕ) → Starts outside bytes → after_gap (32 ∷ bytes) ≡ bytes
gap_alone bytes s = subst (λ (ys : List ℕ). after_gap (32 ∷ ys) ≡ ys) (append-nil bytes) (gap_drops bytes [] s)

text_behind_name : (bytes name content : List ℕ) → IsText content → behind_in bytes (tagged 1 name) (in_quotes content) ≡ read_root (node 1 (Some name) (text content))
text_behind_name bytes name content h = whole (quotes_start content) value
  where
    value : value_at 64 1 modes.Verbatim (in_quotes content) ≡ read_value (text content) []
    value =
        scalar_at_root modes.Verbatim (in_quotes content) (quotes_start content)
        ∙ ap (scalar_value modes.Verbatim false) (sym (append-nil (in_quotes content))) ∙ verbatim_read false content [] h

    whole : Starts no_scalar (in_quotes content) → value_at 64 1 modes.Verbatim (in_quotes content) ≡ read_value (text content) [] → behind_in bytes (tagged 1 name) (in_quotes content) ≡ read_root (node 1 (Some name) (text content))
    whole s =
        subst (λ (ys : List ℕ). value_at 64 1 modes.Verbatim ys ≡ read_value (text content) [] → behind_in bytes (tagged 1 name) ys ≡ read_root (node 1 (Some name) (text content))) (sym s.same)
        (λ is. behind_name bytes name s.first s.others (text content) (isnt 33 no_scalar s.first refl s.free) is)

behind_binary : (bytes : List ℕ) (place : Fault) (b : ℕ) (bs : List ℕ) (c : Content) → (b == 33) ≡ false → is_one_of (codes "[{") b ≡ false → value_at 64 1 modes.Base64 (b ∷ bs) ≡ read_value c []
    → behind_in bytes (in_base64 place) (b ∷ bs) ≡ read_root (node place.line None c)
behind_binary bytes place b bs c mark opening is =
    let line = alone 64 true (in_base64 place) (only_row bytes) [] (b ∷ bs) in
    let wrong : Result Shape Fault = Err (wrong_in (only_row bytes) kinds.Tag (b ∷ bs)) in
    cond-false (b == 33) (unless_binary (in_base64 place) wrong) (if is_one_of (codes "[{") b then unless_binary (in_base64 place) line else line) mark
    ∙ cond-false (is_one_of (codes "[{") b) (unless_binary (in_base64 place) line) line opening
    ∙ alone_is (in_base64 place) bytes (b ∷ bs) c is

bytes_behind_tag : (whole : List ℕ) (place : Fault) (bytes : List ℕ) → AllByRecursion (λ b. b < 256) bytes → behind_in whole (in_base64 place) (in_quotes (encode_of standard bytes)) ≡ read_root (node place.line None (binary bytes))
bytes_behind_tag whole place bytes h = from_start (quotes_start (encode_of standard bytes)) value
  where
    value : value_at 64 1 modes.Base64 (in_quotes (encode_of standard bytes)) ≡ read_value (binary bytes) []
    value =
        scalar_at_root modes.Base64 (in_quotes (encode_of standard bytes)) (quotes_start (encode_of standard bytes))
        ∙ ap (scalar_value modes.Base64 false) (sym (append-nil (in_quotes (encode_of standard bytes)))) ∙ bytes_read false bytes [] h

    from_start : Starts no_scalar (in_quotes (encode_of standard bytes)) → value_at 64 1 modes.Base64 (in_quotes (encode_of standard bytes)) ≡ read_value (binary bytes) []
        → behind_in whole (in_base64 place) (in_quotes (encode_of standard bytes)) ≡ read_root (node place.line None (binary bytes))
    from_start s =
        subst (λ (ys : List ℕ). value_at 64 1 modes.Base64 ys ≡ read_value (binary bytes) [] → behind_in whole (in_base64 place) ys ≡ read_root (node place.line None (binary bytes))) (sym s.same)
        (λ is. behind_binary whole place s.first s.others (binary bytes) (isnt 33 no_scalar s.first refl s.free)
        (among_none (codes "[{") s.first (isnt 91 no_scalar s.first refl s.free, (isnt 123 no_scalar s.first refl s.free, tt))) is)

no_key_nothing : behind_key [] ≡ None
unfolding behind_key
no_key_nothing = refl

named_root : (name more behind : List ℕ) (x : Shape) → IsTagName false name → name_length false more ≡ 0 → after_gap more ≡ behind → behind_key behind ≡ None
    → behind_in (33 ∷ name ++ more) (tagged 1 name) behind ≡ read_root x → root_of (only_row (33 ∷ name ++ more) ∷ []) ≡ read_root x
named_root name more behind x h end gap key value =
    tagged_root (name ++ more) (named name) more behind x (tag_read false name more h end) gap key value

pub root_read : (x : Shape) → depth_of x ≤ 64 → IsSound x → IsEncodableRoot x → root_of (only_row (printed x) ∷ []) ≡ read_root (renumber one x)
root_read (node line None null) deep sound encodes = scalar_root null refl sound
root_read (node line None (boolean b)) deep sound encodes = scalar_root (boolean b) refl sound
root_read (node line None (integer i)) deep sound encodes = scalar_root (integer i) refl sound
root_read (node line None (text bytes)) deep sound encodes = scalar_root (text bytes) refl sound
root_read (node line None (binary bytes)) deep sound encodes =
    let quotes : List ℕ = in_quotes (encode_of standard bytes) in
    tagged_root (codes "!binary " ++ quotes) bytes_in_base64 (32 ∷ quotes) quotes (node 1 None (binary bytes)) (binary_tag false quotes)
    (gap_alone quotes (wider quotes (quotes_start (encode_of standard bytes)))) (no_key_quotes (encode_of standard bytes) (base64_text bytes encodes.1))
    (bytes_behind_tag (printed_value (binary bytes)) _ bytes encodes.1)
root_read (node line None (mapping ps)) deep sound encodes =
    untagged_root 123 _ (renumber_value one (mapping ps)) refl (root_bare (node line None (mapping ps)) sound).block (collection_value_root modes.Resolved (mapping ps) deep sound encodes.1 refl)
root_read (node line None (sequence xs)) deep sound encodes =
    untagged_root 91 _ (renumber_value one (sequence xs)) refl (root_bare (node line None (sequence xs)) sound).block (collection_value_root modes.Resolved (sequence xs) deep sound encodes.1 refl)
root_read (node line (Some name) null) deep sound encodes = named_root name [] [] (node 1 (Some name) null) encodes.0.0 refl refl no_key_nothing refl
root_read (node line (Some name) (boolean b)) deep sound encodes = cc (encodes.0.1)
root_read (node line (Some name) (integer i)) deep sound encodes = cc (encodes.0.1)
root_read (node line (Some name) (text bytes)) deep sound encodes =
    named_root name (32 ∷ in_quotes bytes) (in_quotes bytes) (node 1 (Some name) (text bytes)) encodes.0.0 refl (gap_alone (in_quotes bytes) (wider (in_quotes bytes) (quotes_start bytes)))
    (no_key_quotes bytes sound) (text_behind_name (33 ∷ name ++ 32 ∷ in_quotes bytes) name bytes sound)
root_read (node line (Some name) (binary bytes)) deep sound encodes = cc (encodes.0.1)
root_read (node line (Some name) (mapping ps)) deep sound encodes =
    named_root name (32 ∷ printed_value (mapping ps)) (printed_value (mapping ps)) (node 1 (Some name) (renumber_value one (mapping ps))) encodes.0.0 refl refl (collection_no_key (mapping ps) refl)
    (behind_name (33 ∷ name ++ 32 ∷ printed_value (mapping ps)) name 123 _ (renumber_value one (mapping ps)) refl (collection_value_root modes.Verbatim (mapping ps) deep sound encodes.1 refl))
root_read (node line (Some name) (sequence xs)) deep sound encodes =
    named_root name (32 ∷ printed_value (sequence xs)) (printed_value (sequence xs)) (node 1 (Some name) (renumber_value one (sequence xs))) encodes.0.0 refl refl (collection_no_key (sequence xs) refl)
    (behind_name (33 ∷ name ++ 32 ∷ printed_value (sequence xs)) name 91 _ (renumber_value one (sequence xs)) refl (collection_value_root modes.Verbatim (sequence xs) deep sound encodes.1 refl))
