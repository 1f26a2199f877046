-- Flow values that are encoded are read.
use Rattle.std.proofs.Common.{◌≡◌, ℕ, suc, ◌<◌, ◌==◌, inl, inr, Bool, true, false, ◌||◌, if◌then◌else◌, List, [], ◌∷◌, ◌++◌, length, drop, codes, Option, Some, None, Result, Ok, refl, sym, ap, subst, ◌∙◌, append_assoc}
use Rattle.std.specs.Prelude.{nat_eq}
use Rattle.std.specs.Cmp.Lexicographic.{same_text}
use Rattle.std.specs.List.{AllByRecursion}
use Rattle.std.proofs.Math.Seq.{take-append_seam, drop-append_seam}
use Rattle.std.proofs.lemmas.Bool.{cases_eq, cond-false, cond-true, ne_eqb}
use Rattle.base64.specs.Engines.{standard}
use Rattle.base64.specs.GeneralPurpose.{encode_of}
use Rattle.lists.specs.Results.{◌>>=◌}
use Rattle.launch_scalars.specs.declared.kind.YamlKind.TheVariants as kinds
use Rattle.launch_scalars.specs.declared.fault.LineFault.{LineFault}
use Rattle.launch_scalars.specs.Characters.{bad_at}
use Rattle.launch_scalars.specs.Results.{fault}
use Rattle.launch_scalars.specs.Scalars.{unless_at}
use Rattle.launch_scalars.specs.Spaces.{is_one_of, begins_with, begins_with_one_of, after_spaces, unless_comment, after_gap}
use Rattle.launch_values.specs.declared.mode.Mode.{Mode}
use Rattle.launch_values.specs.declared.mode.Mode.TheVariants as modes
use Rattle.launch_values.specs.Documents.{IsText, IsSound, IsSoundContent}
use Rattle.launch_values.specs.Flow.{is_absent, value_with, in_node, tagged_with, node_with}
use Rattle.launch_values.specs.KeySets.{IsScalarKey}
use Rattle.launch_values.specs.Resolution.{scalar_value}
use Rattle.launch_values.specs.Shape.{Shape, Content, node, null, boolean, integer, text, binary, mapping, sequence}
use Rattle.launch_values.specs.Tags.{Tag, named, bytes_in_base64, ends_name, name_length, is_name, is_binary, tag_with, tag_at}
use Rattle.launch_laws.specs.Printed.{in_quotes, printed, printed_value, IsTagName, IsTagOn, IsEncodableValue}
use Rattle.launch_yaml.specs.Renumbering.{renumber, renumber_value}
use Rattle.launch_laws.proofs.CleanTexts.{clean_text, bad_none}
use Rattle.launch_laws.proofs.PrintedScalars.{IsNone, IsEnd, Starts, outside, no_scalar, starts_with, quotes_start, scalar_starts, scalar_read, verbatim_read, bytes_read}

-- ---- characters that bytes don't begin with

-- a byte isn't this character, which is among those that it isn't
pub isnt : (c : ℕ) (characters : List ℕ) (b : ℕ) → is_one_of characters c ≡ true → IsNone characters b → nat_eq b c ≡ false
isnt c [] b among free = cc (among)
isnt c (d ∷ ds) b among free = elim (cases_eq c d) [
  | inl e ↦ subst (λ (n : ℕ). nat_eq b n ≡ false) (sym e) free.0
  | inr other ↦ isnt c ds b (ap (λ (t : Bool). t || is_one_of ds c) (sym (ne_eqb c d other)) ∙ among) free.1
]

pub among_none : (characters : List ℕ) (b : ℕ) → IsNone characters b → is_one_of characters b ≡ false
among_none [] b free = refl
among_none (c ∷ cs) b free = ap (λ (t : Bool). t || is_one_of cs b) free.0 ∙ among_none cs b free.1

-- what no scalar begins with is more than what no node begins with
pub wider : (bytes : List ℕ) → Starts no_scalar bytes → Starts outside bytes
wider bytes s = record { first = s.first; others = s.others; same = s.same; free = s.free.1.1.1 }

gap_one : (b : ℕ) (bs : List ℕ) → nat_eq b 32 ≡ false → nat_eq b 35 ≡ false → after_gap (32 ∷ b ∷ bs) ≡ b ∷ bs
gap_one b bs space comment =
    ap unless_comment (cond-false (b == 32) (after_spaces bs) (b ∷ bs) space) ∙ cond-false (b == 35) [] (b ∷ bs) comment

-- behind one space stands what is there, and without a space too
pub gap_drops : (xs behind : List ℕ) → Starts outside xs → after_gap (32 ∷ xs ++ behind) ≡ xs ++ behind
gap_drops xs behind s =
    subst (λ (ys : List ℕ). after_gap (32 ∷ ys ++ behind) ≡ ys ++ behind) (sym s.same)
    (gap_one s.first (s.others ++ behind) (isnt 32 outside s.first refl s.free) (isnt 35 outside s.first refl s.free))

pub no_gap : (xs behind : List ℕ) → Starts outside xs → after_gap (xs ++ behind) ≡ xs ++ behind
no_gap xs behind s =
    subst (λ (ys : List ℕ). after_gap (ys ++ behind) ≡ ys ++ behind) (sym s.same)
    (cond-false (s.first == 32) (unless_comment (after_spaces (s.others ++ behind))) (s.first ∷ s.others ++ behind) (isnt 32 outside s.first refl s.free))

pub begins_other : (c : ℕ) (xs behind : List ℕ) → is_one_of outside c ≡ true → Starts outside xs → begins_with c (xs ++ behind) ≡ false
begins_other c xs behind among s =
    subst (λ (ys : List ℕ). begins_with c (ys ++ behind) ≡ false) (sym s.same) (isnt c outside s.first among s.free)

pub is_there : (xs behind : List ℕ) → Starts outside xs → is_absent (xs ++ behind) ≡ false
is_there xs behind s =
    subst (λ (ys : List ℕ). is_absent (ys ++ behind) ≡ false) (sym s.same)
    (among_none (codes ",]}") s.first (isnt 44 outside s.first refl s.free, (isnt 93 outside s.first refl s.free, (isnt 125 outside s.first refl s.free, tt))))

-- what follows a value in a flow value
pub record Follows (rest : List ℕ) : Type 0 where
  pub ungapped : after_gap rest ≡ rest
  pub ends : IsEnd true rest
  pub absent : is_absent rest ≡ true
  pub unnamed : name_length true rest ≡ 0

pub comma_follows : (bs : List ℕ) → Follows (44 ∷ bs)
comma_follows bs = record { ungapped = refl; ends = refl; absent = refl; unnamed = refl }

pub bracket_follows : (bs : List ℕ) → Follows (93 ∷ bs)
bracket_follows bs = record { ungapped = refl; ends = refl; absent = refl; unnamed = refl }

pub brace_follows : (bs : List ℕ) → Follows (125 ∷ bs)
brace_follows bs = record { ungapped = refl; ends = refl; absent = refl; unnamed = refl }

-- ---- tags

abbrev pub read_tag : Tag → List ℕ → Result (Tag × List ℕ) LineFault
read_tag tag rest = Ok (tag, rest)

named_length : (in_flow : Bool) (name rest : List ℕ) → AllByRecursion (λ b. ends_name in_flow b ≡ false) name → name_length in_flow rest ≡ 0 → name_length in_flow (name ++ rest) ≡ length name
named_length in_flow [] rest h end = end
named_length in_flow (b ∷ bs) rest h end =
    cond-false (ends_name in_flow b) 0 (suc (name_length in_flow (bs ++ rest))) h.0 ∙ ap suc (named_length in_flow bs rest h.1 end)

no_binary : (name : List ℕ) → is_name name ≡ true → is_binary name ≡ false
no_binary name h = by_test (is_binary name) refl
  where
    by_test : (t : Bool) → is_binary name ≡ t → t ≡ false
    by_test false e = refl
    by_test true e =
        let is : name ≡ codes "!binary" = same_text name (codes "!binary") (sym e) in
        let wrong : false ≡ true = subst (λ (xs : List ℕ). is_name xs ≡ true) is h in
        cc (wrong)

tag_is : (in_flow : Bool) (name rest : List ℕ) → IsTagName in_flow name → tag_with (length name) (name ++ rest) ≡ read_tag (named name) rest
tag_is in_flow name rest h =
    let whole : List ℕ = name ++ rest in
    let behind : List ℕ = drop (length name) whole in
    let wrong : Result (Tag × List ℕ) LineFault = fault (suc (length whole)) kinds.Tag in
    ap (λ (xs : List ℕ). if is_binary xs then read_tag bytes_in_base64 behind else if is_name xs then unless_at (length whole) (bad_at xs) (read_tag (named xs) behind) else wrong) (take-append_seam name rest)
    ∙ cond-false (is_binary name) (read_tag bytes_in_base64 behind) (if is_name name then unless_at (length whole) (bad_at name) (read_tag (named name) behind) else wrong) (no_binary name h.2)
    ∙ cond-true (is_name name) (unless_at (length whole) (bad_at name) (read_tag (named name) behind)) wrong h.2
    ∙ ap (λ (place : Option ℕ). unless_at (length whole) place (read_tag (named name) behind)) (bad_none name (clean_text name h.0 h.1))
    ∙ ap (read_tag (named name)) (drop-append_seam name rest)

pub tag_read : (in_flow : Bool) (name rest : List ℕ) → IsTagName in_flow name → name_length in_flow rest ≡ 0 → tag_at in_flow (name ++ rest) ≡ read_tag (named name) rest
unfolding tag_at
tag_read in_flow name rest h end = ap (λ (n : ℕ). tag_with n (name ++ rest)) (named_length in_flow name rest h.3 end) ∙ tag_is in_flow name rest h

-- ---- one node

abbrev pub Values : Type 0
Values = List ℕ → Result (Content × List ℕ) LineFault

abbrev pub Nodes : Type 0
Nodes = List ℕ → Result (Shape × List ℕ) LineFault

abbrev pub read_value : Content → List ℕ → Result (Content × List ℕ) LineFault
read_value c rest = Ok (c, rest)

abbrev pub read_node : Shape → List ℕ → Result (Shape × List ℕ) LineFault
read_node x rest = Ok (x, rest)

abbrev pub one : ℕ → ℕ
one n = 1

untagged_node : (coll : Values) (xs behind : List ℕ) → Starts no_scalar xs → node_with coll 1 (xs ++ behind) ≡ in_node 1 None (value_with coll modes.Resolved (xs ++ behind))
untagged_node coll xs behind s =
    subst (λ (ys : List ℕ). node_with coll 1 (ys ++ behind) ≡ in_node 1 None (value_with coll modes.Resolved (ys ++ behind))) (sym s.same)
    (cond-false (s.first == 33) (tag_at true (s.others ++ behind) >>= λ t. tagged_with coll 1 (suc (length (s.others ++ behind))) t.0 (after_gap t.1))
    (in_node 1 None (value_with coll modes.Resolved (s.first ∷ s.others ++ behind))) (isnt 33 no_scalar s.first refl s.free))

scalar_with : (coll : Values) (mode : Mode) (xs behind : List ℕ) → Starts no_scalar xs → value_with coll mode (xs ++ behind) ≡ scalar_value mode true (xs ++ behind)
scalar_with coll mode xs behind s =
    let opening = among_none (codes "[{") s.first (isnt 91 no_scalar s.first refl s.free, (isnt 123 no_scalar s.first refl s.free, tt)) in
    let closing = among_none (codes ",]}") s.first (isnt 44 no_scalar s.first refl s.free, (isnt 93 no_scalar s.first refl s.free, (isnt 125 no_scalar s.first refl s.free, tt))) in
    let whole : List ℕ = s.first ∷ s.others ++ behind in
    let wrong : Result (Content × List ℕ) LineFault = fault (suc (length (s.others ++ behind))) kinds.Flow in
    subst (λ (ys : List ℕ). value_with coll mode (ys ++ behind) ≡ scalar_value mode true (ys ++ behind)) (sym s.same)
    (cond-false (is_one_of (codes "[{") s.first) (coll whole) (if is_one_of (codes ",]}") s.first then wrong else scalar_value mode true whole) opening
    ∙ cond-false (is_one_of (codes ",]}") s.first) wrong (scalar_value mode true whole) closing)

scalar_node : (coll : Values) (c : Content) (rest : List ℕ) → IsScalarKey c → IsSoundContent c → Follows rest → node_with coll 1 (printed_value c ++ rest) ≡ read_node (node 1 None c) rest
scalar_node coll c rest key sound follows =
    let s = scalar_starts c key sound in
    untagged_node coll (printed_value c) rest s ∙ ap (in_node 1 None) (scalar_with coll modes.Resolved (printed_value c) rest s ∙ scalar_read true c rest key sound follows.ends)

pub binary_tag : (in_flow : Bool) (rest : List ℕ) → tag_at in_flow (codes "!binary " ++ rest) ≡ read_tag bytes_in_base64 (32 ∷ rest)
unfolding tag_at
binary_tag true rest = refl
binary_tag false rest = refl

binary_node : (coll : Values) (bytes rest : List ℕ) → AllByRecursion (λ b. b < 256) bytes → node_with coll 1 (printed_value (binary bytes) ++ rest) ≡ read_node (node 1 None (binary bytes)) rest
binary_node coll bytes rest h =
    let quotes : List ℕ = in_quotes (encode_of standard bytes) in
    let s = quotes_start (encode_of standard bytes) in
    let place : ℕ = suc (length (codes "!binary " ++ quotes ++ rest)) in
    ap (λ (r : Result (Tag × List ℕ) LineFault). r >>= λ t. tagged_with coll 1 place t.0 (after_gap t.1)) (binary_tag true (quotes ++ rest))
    ∙ ap (tagged_with coll 1 place bytes_in_base64) (gap_drops quotes rest (wider quotes s))
    ∙ cond-false (is_absent (quotes ++ rest) || begins_with_one_of (codes "[{!") (quotes ++ rest)) (fault place kinds.Tag) (in_node 1 None (value_with coll modes.Base64 (quotes ++ rest))) (untouched s)
    ∙ ap (in_node 1 None) (scalar_with coll modes.Base64 quotes rest s ∙ bytes_read true bytes rest h)
  where
    untouched : (s : Starts no_scalar (in_quotes (encode_of standard bytes))) → (is_absent (in_quotes (encode_of standard bytes) ++ rest) || begins_with_one_of (codes "[{!") (in_quotes (encode_of standard bytes) ++ rest)) ≡ false
    untouched s =
        ap (λ (t : Bool). t || begins_with_one_of (codes "[{!") (in_quotes (encode_of standard bytes) ++ rest)) (is_there (in_quotes (encode_of standard bytes)) rest (wider (in_quotes (encode_of standard bytes)) s))
        ∙ subst (λ (ys : List ℕ). begins_with_one_of (codes "[{!") (ys ++ rest) ≡ false) (sym s.same)
        (among_none (codes "[{!") s.first (isnt 91 no_scalar s.first refl s.free, (isnt 123 no_scalar s.first refl s.free, (isnt 33 no_scalar s.first refl s.free, tt))))

-- a tag with what stands behind it
tag_node : (coll : Values) (name more rest : List ℕ) → IsTagName true name → name_length true (more ++ rest) ≡ 0
    → node_with coll 1 (33 ∷ (name ++ more) ++ rest) ≡ tagged_with coll 1 (suc (length ((name ++ more) ++ rest))) (named name) (after_gap (more ++ rest))
tag_node coll name more rest h end =
    let place : ℕ = suc (length ((name ++ more) ++ rest)) in
    ap (λ (r : Result (Tag × List ℕ) LineFault). r >>= λ t. tagged_with coll 1 place t.0 (after_gap t.1))
    (ap (tag_at true) (append_assoc name more rest) ∙ tag_read true name (more ++ rest) h end)

text_behind : (coll : Values) (name bytes rest : List ℕ) (place : ℕ) → IsText bytes → tagged_with coll 1 place (named name) (after_gap (32 ∷ in_quotes bytes ++ rest)) ≡ read_node (node 1 (Some name) (text bytes)) rest
text_behind coll name bytes rest place h =
    let s = quotes_start bytes in
    let quotes : List ℕ = in_quotes bytes in
    let value = in_node 1 (Some name) (value_with coll modes.Verbatim (quotes ++ rest)) in
    let other = if begins_with 33 (quotes ++ rest) then fault (length (quotes ++ rest)) kinds.Tag else value in
    ap (tagged_with coll 1 place (named name)) (gap_drops quotes rest (wider quotes s))
    ∙ cond-false (is_absent (quotes ++ rest)) (read_node (node 1 (Some name) null) (quotes ++ rest)) other (is_there quotes rest (wider quotes s))
    ∙ cond-false (begins_with 33 (quotes ++ rest)) (fault (length (quotes ++ rest)) kinds.Tag) value
    (subst (λ (ys : List ℕ). begins_with 33 (ys ++ rest) ≡ false) (sym s.same) (isnt 33 no_scalar s.first refl s.free))
    ∙ ap (in_node 1 (Some name)) (scalar_with coll modes.Verbatim quotes rest s ∙ verbatim_read true bytes rest h)

abbrev pub is_collection : Content → Bool
is_collection null = false
is_collection (boolean b) = false
is_collection (integer i) = false
is_collection (text bytes) = false
is_collection (binary bytes) = false
is_collection (mapping ps) = true
is_collection (sequence xs) = true

pub node_from : (coll : Values) (line : ℕ) (tag : Option (List ℕ)) (value : Content) (rest : List ℕ)
    → (is_collection value ≡ true → coll (printed_value value ++ rest) ≡ read_value (renumber_value one value) rest)
    → IsSoundContent value → IsTagOn true tag value → IsEncodableValue true value → Follows rest
    → node_with coll 1 (printed (node line tag value) ++ rest) ≡ read_node (renumber one (node line tag value)) rest
node_from coll line None null rest inner sound tag encodes follows = scalar_node coll null rest refl sound follows
node_from coll line None (boolean b) rest inner sound tag encodes follows = scalar_node coll (boolean b) rest refl sound follows
node_from coll line None (integer i) rest inner sound tag encodes follows = scalar_node coll (integer i) rest refl sound follows
node_from coll line None (text bytes) rest inner sound tag encodes follows = scalar_node coll (text bytes) rest refl sound follows
node_from coll line None (binary bytes) rest inner sound tag encodes follows = binary_node coll bytes rest encodes
node_from coll line None (mapping ps) rest inner sound tag encodes follows = ap (in_node 1 None) (inner refl)
node_from coll line None (sequence xs) rest inner sound tag encodes follows = ap (in_node 1 None) (inner refl)
node_from coll line (Some name) null rest inner sound tag encodes follows =
    tag_node coll name [] rest tag.0 follows.unnamed
    ∙ ap (tagged_with coll 1 (suc (length ((name ++ []) ++ rest))) (named name)) follows.ungapped
    ∙ cond-true (is_absent rest) (read_node (node 1 (Some name) null) rest) _ follows.absent
node_from coll line (Some name) (boolean b) rest inner sound tag encodes follows = cc (tag.1)
node_from coll line (Some name) (integer i) rest inner sound tag encodes follows = cc (tag.1)
node_from coll line (Some name) (text bytes) rest inner sound tag encodes follows =
    tag_node coll name (32 ∷ in_quotes bytes) rest tag.0 refl
    ∙ text_behind coll name bytes rest (suc (length ((name ++ 32 ∷ in_quotes bytes) ++ rest))) sound
node_from coll line (Some name) (binary bytes) rest inner sound tag encodes follows = cc (tag.1)
node_from coll line (Some name) (mapping ps) rest inner sound tag encodes follows =
    tag_node coll name (32 ∷ printed_value (mapping ps)) rest tag.0 refl ∙ ap (in_node 1 (Some name)) (inner refl)
node_from coll line (Some name) (sequence xs) rest inner sound tag encodes follows =
    tag_node coll name (32 ∷ printed_value (sequence xs)) rest tag.0 refl ∙ ap (in_node 1 (Some name)) (inner refl)

pub node_starts : (x : Shape) → IsSound x → Starts outside (printed x)
node_starts (node line None null) sound = starts_with outside 110 _ refl
node_starts (node line None (boolean true)) sound = starts_with outside 116 _ refl
node_starts (node line None (boolean false)) sound = starts_with outside 102 _ refl
node_starts (node line None (integer i)) sound = wider _ (scalar_starts (integer i) refl sound)
node_starts (node line None (text bytes)) sound = wider _ (quotes_start bytes)
node_starts (node line None (binary bytes)) sound = starts_with outside 33 _ refl
node_starts (node line None (mapping ps)) sound = starts_with outside 123 _ refl
node_starts (node line None (sequence xs)) sound = starts_with outside 91 _ refl
node_starts (node line (Some name) value) sound = starts_with outside 33 _ refl
