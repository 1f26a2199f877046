-- A row with nothing but a tag before a root that is a map or a sequence.
use Rattle.std.proofs.Common.{◌≡◌, ◌⊎◌, inl, inr, ℕ, suc, ◌+◌, ◌<◌, ◌≤◌, ◌==◌, ◌&&◌, not, Bool, true, false, cond, if◌then◌else◌, List, [], ◌∷◌, ◌++◌, drop, Option, Some, None, is_some, Result, Ok, Err, refl, sym, ap, ◌∙◌, arith}
use Rattle.std.specs.Prelude.{nat_le, nat_eq, ◌||◌, length, codes}
use Rattle.std.specs.List.{take_while, prefix_len, starts_with}
use Rattle.std.proofs.lemmas.Bool.Decides.{nat_tests}
use Rattle.std.proofs.lemmas.List.Sums.{take_while-cons}
use Rattle.launch_scalars.specs.declared.kind.YamlKind.TheVariants as kinds
use Rattle.launch_scalars.specs.Spaces.{begins_with, unless_comment, after_spaces, after_gap}
use Rattle.launch_scalars.specs.Plain.{is_space_or_end}
use Rattle.launch_values.specs.Shape.{Shape, Content, node}
use Rattle.launch_values.specs.Tags.{Tag, tag_at}
use Rattle.launch_scalars.specs.declared.fault.LineFault.{LineFault}
use Rattle.launch_lines.specs.declared.fault.Fault.{Fault}
use Rattle.lists.specs.Results.{◌>>=◌}
use Rattle.launch_lines.specs.Faults.{unless}
use Rattle.launch_lines.specs.Rows.{Row, behind_key, is_before_space, is_marker, is_stop, in_row}
use Rattle.launch_yaml.specs.Entries.{after_while}
use Rattle.launch_yaml.specs.Blocks.{Tagging, untagged, tagged, tagging_of, wrong_in, begins_block, value_in, unless_key, value_below, block_at}
use Rattle.launch_yaml.specs.Document.{is_inside, root_of, after_document, body_of}
use Rattle.launch_laws.specs.Laws.{IsTagOf, with_tag, TagRowChangesTheTag}
use Rattle.launch_laws.proofs.Dedents.{end_of, then_fault, block_before}

true_false : true ≡ false → ⊥
true_false h = cc

-- ---- the root with the tag, and without it

no_key : behind_key [] ≡ None
unfolding behind_key
no_key = refl

no_tag : (bytes : List ℕ) → begins_block (33 ∷ bytes) ≡ false
unfolding behind_key
no_tag bytes = refl

abbrev root_block : Row → List Row → Result Content Fault
root_block r rows = block_at 64 true r rows

-- what begins with a row is a map or a sequence
block_is : (below : Tagging → Result Shape Fault) (r : Row) (rows : List Row) (line : ℕ) (name bytes : List ℕ) → begins_block bytes ≡ true
    → (value_in (block_at 64) 64 true below (tagged line name) true r rows bytes ≡ (root_block r rows >>= λ v. Ok (node line (Some name) v)))
    × (value_in (block_at 64) 64 true below untagged true r rows bytes ≡ (root_block r rows >>= λ v. Ok (node r.number None v)))
unfolding behind_key
block_is below r rows line name [] is = absurd cc
block_is below r rows line name (b ∷ bs) is = (rw is refl, rw is refl)

not_tag : (bytes : List ℕ) → begins_block bytes ≡ true → begins_with 33 bytes ≡ false
not_tag [] is = refl
not_tag (b ∷ bs) is = by_test (b == 33) refl
  where
    by_test : (t : Bool) → (b == 33) ≡ t → t ≡ false
    by_test false e = refl
    by_test true e =
        let same : b ≡ 33 = grind (arith, nat_tests, e) in
        absurd (true_false (sym is ∙ ap (λ (x : ℕ). begins_block (x ∷ bs)) same ∙ no_tag bs))

plain_root : (r : Row) (rows : List Row) → begins_block r.content ≡ true → root_of (r ∷ rows) ≡ (root_block r rows >>= λ v. Ok (node r.number None v))
plain_root r rows is =
    let below = value_below (block_at 64) 64 true r.number rows in
    rw (not_tag r.content is) ((block_is below r rows 0 [] r.content is).1)

-- the tag that was read, with its place
abbrev tag_read : Row → List ℕ → Tag × List ℕ → Result (Tagging × List ℕ) Fault
tag_read t content u = Ok (tagging_of (wrong_in t kinds.Tag content) u.0, after_gap u.1)

tagged_root : (name : List ℕ) (t r : Row) (rows : List Row) → IsTagOf name t → begins_block r.content ≡ true
    → root_of (t ∷ r ∷ rows) ≡ (root_block r rows >>= λ v. Ok (node t.number (Some name) v))
tagged_root name t r rows h is =
    let below = value_below (block_at 64) 64 true t.number (r ∷ rows) in
    let further = λ (u : Tagging × List ℕ). unless_key t u.1 (value_in (block_at 64) 64 true below u.0 false t (r ∷ rows) u.1) in
    let whole = λ (content : List ℕ). root_with below content in
    ap whole h.2
    ∙ ap (λ (read : Result (Tag × List ℕ) LineFault). (in_row t read >>= tag_read t (33 ∷ h.0)) >>= further) h.3
    ∙ ap (λ (bytes : List ℕ). further (tagged t.number name, bytes)) h.4
    ∙ ap (λ (o : Option (List ℕ)). if is_some o then Err (wrong_in t kinds.Character []) else below (tagged t.number name)) no_key
    ∙ (block_is (value_below (block_at 64) 64 true r.number rows) r rows t.number name r.content is).0
  where
    root_with : (Tagging → Result Shape Fault) → List ℕ → Result Shape Fault
    root_with below content =
        if begins_with 33 content
        then ((in_row t (tag_at false (drop 1 content)) >>= tag_read t content)
        >>= λ u. unless_key t u.1 (value_in (block_at 64) 64 true below u.0 false t (r ∷ rows) u.1))
        else value_in (block_at 64) 64 true below untagged true t (r ∷ rows) content

-- ---- the rows of the document with the tag, and without it

-- the rows that are left of the root, but not of its tag, stand inside in one case and behind it in the other
pub record Beside (column first : ℕ) (rows : List Row) : Type 0 where
  pub d : Row
  pub more : List Row
  pub behind : List Row
  pub left : d.column < first
  pub no_marker : is_marker d ≡ false
  pub inside : take_while (is_inside column) rows ≡ take_while (is_inside first) rows ++ d ∷ more
  pub rest : after_while (is_inside first) rows ≡ d ∷ behind

abbrev Alike : ℕ → ℕ → List Row → Type 0
Alike column first rows = (take_while (is_inside column) rows ≡ take_while (is_inside first) rows) × (after_while (is_inside column) rows ≡ after_while (is_inside first) rows)

pub after_while-cons : (test : Row → Bool) (r : Row) (rs : List Row) → after_while test (r ∷ rs) ≡ cond (test r) (after_while test rs) (r ∷ rs)
after_while-cons test r rs = by_test (test r)
  where
    by_test : (t : Bool) → drop (cond t (1 + prefix_len test rs) 0) (r ∷ rs) ≡ cond t (drop (prefix_len test rs) rs) (r ∷ rs)
    by_test true = let one : 1 + prefix_len test rs ≡ suc (prefix_len test rs) = omega arith in ap (λ n. drop n (r ∷ rs)) one
    by_test false = refl

further_right : (column first : ℕ) (r : Row) → column ≤ first → is_inside first r ≡ true → is_inside column r ≡ true
further_right column first r h is = by_test (is_marker r) is
  where
    by_test : (m : Bool) → (not m && nat_le first r.column) ≡ true → (not m && nat_le column r.column) ≡ true
    by_test true e = e
    by_test false e = grind (arith, nat_tests, h, e)

between : (column first : ℕ) (r : Row) → is_inside column r ≡ true → is_inside first r ≡ false → (is_marker r ≡ false) × (r.column < first)
between column first r is out = by_test (is_marker r) refl is out
  where
    by_test : (m : Bool) → is_marker r ≡ m → (not m && nat_le column r.column) ≡ true → (not m && nat_le first r.column) ≡ false → (is_marker r ≡ false) × (r.column < first)
    by_test true e p q = absurd cc
    by_test false e p q = (e, grind (arith, nat_tests, q))

cuts : (column first : ℕ) (rows : List Row) → column ≤ first → Alike column first rows ⊎ Beside column first rows
cuts column first [] h = inl (refl, refl)
cuts column first (r ∷ rs) h = by_test (is_inside first r) (is_inside column r) refl refl (cuts column first rs h)
  where
    take_both : (c : ℕ) (t : Bool) → is_inside c r ≡ t → take_while (is_inside c) (r ∷ rs) ≡ cond t (r ∷ take_while (is_inside c) rs) []
    take_both c t e = take_while-cons (is_inside c) r rs ∙ ap (λ (b : Bool). cond b (r ∷ take_while (is_inside c) rs) []) e

    drop_both : (c : ℕ) (t : Bool) → is_inside c r ≡ t → after_while (is_inside c) (r ∷ rs) ≡ cond t (after_while (is_inside c) rs) (r ∷ rs)
    drop_both c t e = after_while-cons (is_inside c) r rs ∙ ap (λ (b : Bool). cond b (after_while (is_inside c) rs) (r ∷ rs)) e

    by_test : (p q : Bool) → is_inside first r ≡ p → is_inside column r ≡ q → Alike column first rs ⊎ Beside column first rs → Alike column first (r ∷ rs) ⊎ Beside column first (r ∷ rs)
    by_test true false e f c = absurd (true_false (sym (further_right column first r h e) ∙ f))
    by_test false false e f c = inl (take_both column false f ∙ sym (take_both first false e), drop_both column false f ∙ sym (drop_both first false e))
    by_test false true e f c =
        let b = between column first r f e in
        inr (record {
          d = r;
          more = take_while (is_inside column) rs;
          behind = rs;
          left = b.1;
          no_marker = b.0;
          inside = take_both column true f ∙ sym (ap (λ (xs : List Row). xs ++ r ∷ take_while (is_inside column) rs) (take_both first false e));
          rest = drop_both first false e;
        })
    by_test true true e f (inl a) =
        inl (
          take_both column true f ∙ ap (λ (xs : List Row). r ∷ xs) a.0 ∙ sym (take_both first true e),
          drop_both column true f ∙ a.1 ∙ sym (drop_both first true e),
        )
    by_test true true e f (inr b) =
        inr (record {
          d = b.d;
          more = b.more;
          behind = b.behind;
          left = b.left;
          no_marker = b.no_marker;
          inside = take_both column true f ∙ ap (λ (xs : List Row). r ∷ xs) b.inside ∙ sym (ap (λ (xs : List Row). xs ++ b.d ∷ b.more) (take_both first true e));
          rest = drop_both first true e ∙ b.rest;
        })

-- ---- both together

-- a root that is a block, of a line and perhaps a tag, and what stands behind the document
abbrev document_with : Result Content Fault → (Content → Shape) → List Row → Result Shape Fault
document_with read wrap behind = (read >>= λ v. Ok (wrap v)) >>= λ x. unless (after_document behind) (Ok x)

tagged_alike : (line number : ℕ) (name : List ℕ) (read : Result Content Fault) (behind : List Row)
    → document_with read (node line (Some name)) behind ≡ (document_with read (node number None) behind >>= λ x. Ok (with_tag line name x))
tagged_alike line number name (Err e) behind = refl
tagged_alike line number name (Ok v) behind = by_end (after_document behind)
  where
    by_end : (e : Option Fault) → unless e (Ok (node line (Some name) v)) ≡ (unless e (Ok (node number None v)) >>= λ x. Ok (with_tag line name x))
    by_end None = refl
    by_end (Some e) = refl

ends_gap : (bytes : List ℕ) → (length (after_gap bytes) == 0) ≡ true → is_space_or_end bytes ≡ true
ends_gap [] e = refl
ends_gap (b ∷ bs) e = by_test (b == 32) e
  where
    by_test : (t : Bool) → (length (if t then unless_comment (after_spaces bs) else b ∷ bs) == 0) ≡ true → t ≡ true
    by_test true h = refl
    by_test false h =
        let none : suc (length bs) ≡ 0 = grind (arith, nat_tests, h) in
        absurd (omega (arith, none))

no_stop : (d : Row) → is_marker d ≡ false → is_stop d ≡ false
no_stop d e =
    by_tests (d.column == 0) (is_before_space (codes "---") d.content) (starts_with nat_eq d.content (codes "...")) (is_space_or_end (drop 3 d.content)) (length (after_gap (drop 3 d.content)) == 0)
    (ends_gap (drop 3 d.content)) e
  where
    by_tests : (a m s p g : Bool) → (g ≡ true → p ≡ true) → (a && (m || (s && p))) ≡ false → (a && s && g) ≡ false
    by_tests false m s p g h e = refl
    by_tests true m false p g h e = refl
    by_tests true m true p false h e = refl
    by_tests true true true p true h e = absurd cc
    by_tests true false true true true h e = absurd cc
    by_tests true false true false true h e = absurd (true_false (sym (h refl)))

fault_first : (line number : ℕ) (name : List ℕ) (read : Result Content Fault) (d : Row) (behind others : List Row) → is_stop d ≡ false
    → document_with (then_fault read (end_of d)) (node line (Some name)) others
    ≡ (document_with read (node number None) (d ∷ behind) >>= λ x. Ok (with_tag line name x))
fault_first line number name (Err e) d behind others is = refl
fault_first line number name (Ok v) d behind others is = rw is refl

tag_is_inside : (name : List ℕ) (t : Row) → IsTagOf name t → is_inside t.column t ≡ true
tag_is_inside name t h =
    ap (λ (content : List ℕ). not ((t.column == 0) && (is_before_space (codes "---") content || is_before_space (codes "...") content)) && nat_le t.column t.column) h.2
    ∙ by_test (t.column == 0)
  where
    by_test : (b : Bool) → (not (b && false) && nat_le t.column t.column) ≡ true
    by_test true = grind (arith, nat_tests)
    by_test false = grind (arith, nat_tests)

row_is_inside : (column : ℕ) (r : Row) → column ≤ r.column → is_marker r ≡ false → is_inside column r ≡ true
row_is_inside column r h no_marker = ap (λ (m : Bool). not m && nat_le column r.column) no_marker ∙ grind (arith, nat_tests, h)

taken : (test : Row → Bool) (r : Row) (rs : List Row) → test r ≡ true → take_while test (r ∷ rs) ≡ r ∷ take_while test rs
taken test r rs e = take_while-cons test r rs ∙ ap (λ (b : Bool). cond b (r ∷ take_while test rs) []) e

dropped : (test : Row → Bool) (r : Row) (rs : List Row) → test r ≡ true → after_while test (r ∷ rs) ≡ after_while test rs
dropped test r rs e = after_while-cons test r rs ∙ ap (λ (b : Bool). cond b (after_while test rs) (r ∷ rs)) e

abbrev cut : List Row → List Row → Result Shape Fault
cut inside behind = root_of inside >>= λ x. unless (after_document behind) (Ok x)

pub tag_row_changes_the_tag : TagRowChangesTheTag
tag_row_changes_the_tag name t r rows h left is no_marker =
    let read = root_block r in
    let test = is_inside t.column in
    let first = is_inside r.column in
    let tag_in = tag_is_inside name t h in
    let row_in = row_is_inside t.column r left no_marker in
    let row_first = row_is_inside r.column r (omega arith) no_marker in
    let retagged : Result Shape Fault → Result Shape Fault = λ q. q >>= λ x. Ok (with_tag t.number name x) in
    let with_it : body_of (t ∷ r ∷ rows) ≡ document_with (read (take_while test rows)) (node t.number (Some name)) (after_while test rows) =
    ap (λ (front : List Row). cut front (after_while test (t ∷ r ∷ rows))) (taken test t (r ∷ rows) tag_in ∙ ap (λ (xs : List Row). t ∷ xs) (taken test r rows row_in))
    ∙ ap (cut (t ∷ r ∷ take_while test rows)) (dropped test t (r ∷ rows) tag_in ∙ dropped test r rows row_in)
    ∙ ap (λ (q : Result Shape Fault). q >>= λ x. unless (after_document (after_while test rows)) (Ok x)) (tagged_root name t r (take_while test rows) h is) in
    let without : body_of (r ∷ rows) ≡ document_with (read (take_while first rows)) (node r.number None) (after_while first rows) =
    ap (λ (front : List Row). cut front (after_while first (r ∷ rows))) (taken first r rows row_first)
    ∙ ap (cut (r ∷ take_while first rows)) (dropped first r rows row_first)
    ∙ ap (λ (q : Result Shape Fault). q >>= λ x. unless (after_document (after_while first rows)) (Ok x)) (plain_root r (take_while first rows) is) in
    with_it
    ∙ elim (cuts t.column r.column rows left) [
      | inl a ↦
          ap (λ (xs : List Row). document_with (read xs) (node t.number (Some name)) (after_while test rows)) a.0
          ∙ ap (document_with (read (take_while first rows)) (node t.number (Some name))) a.1
          ∙ tagged_alike t.number r.number name (read (take_while first rows)) (after_while first rows)
      | inr b ↦
          ap (λ (xs : List Row). document_with (read xs) (node t.number (Some name)) (after_while test rows)) b.inside
          ∙ ap (λ (q : Result Content Fault). document_with q (node t.number (Some name)) (after_while test rows)) (block_before 63 r (take_while first rows) b.more b.d b.left)
          ∙ fault_first t.number r.number name (read (take_while first rows)) b.d b.behind (after_while test rows) (no_stop b.d b.no_marker)
          ∙ sym (ap (λ (xs : List Row). retagged (document_with (read (take_while first rows)) (node r.number None) xs)) b.rest)
    ]
    ∙ sym (ap retagged without)
