-- A `!!binary` at the end of a row.
use Rattle.std.proofs.Common.{◌≡◌, ℕ, zero, suc, ◌+◌, ◌-◌, ◌==◌, ◌&&◌, not, Bool, true, false, if◌then◌else◌, List, [], ◌∷◌, ◌++◌, length, drop, Option, Some, None, Result, Ok, Err, refl, sym, ap, ◌∙◌, append_assoc, length-append, arith}
use Rattle.std.proofs.lemmas.Bool.Decides.{nat_tests}
use Rattle.launch_scalars.specs.declared.kind.YamlKind.TheVariants as kinds
use Rattle.launch_scalars.specs.declared.fault.LineFault.{LineFault}
use Rattle.launch_scalars.specs.Spaces.{begins_with, after_gap}
use Rattle.launch_scalars.specs.Plain.{begins_plain, is_behind_key, plain_length}
use Rattle.launch_scalars.specs.Quoted.{closed, unclosed, put, in_single, escape, escaped, in_double, quoted}
use Rattle.launch_scalars.specs.Scalars.{is_quote}
use Rattle.launch_values.specs.Tags.{Tag, named, bytes_in_base64, tag_at}
use Rattle.launch_lines.specs.declared.fault.Fault.{Fault}
use Rattle.lists.specs.Results.{◌>>=◌}
use Rattle.lists.proofs.Chosen.{ok_is, err_ok}
use Rattle.launch_lines.specs.Rows.{Row, behind_colon, behind_quoted, behind_key, after_key, in_row}
use Rattle.launch_lines.specs.Views.{IsEndOf}
use Rattle.launch_lines.proofs.Ends.{end_further, gap_end}
use Rattle.launch_yaml.specs.Blocks.{Tagging, tagged, in_base64, tagging_of, wrong_in, tagging_at, behind_dash}
use Rattle.launch_laws.specs.Laws.{EndsWithBinary}

-- ---- the end of bytes

first_put : (b : ℕ) (bytes rest : List ℕ) → IsEndOf bytes rest → IsEndOf (b ∷ bytes) rest
first_put b bytes rest e = (b ∷ e.0, ap (λ (l : List ℕ). b ∷ l) e.1)

all_end : (bytes : List ℕ) → IsEndOf bytes bytes
all_end bytes = ([], refl)

none_end : (bytes : List ℕ) → IsEndOf bytes []
none_end [] = ([], refl)
none_end (b ∷ bs) = first_put b bs [] (none_end bs)

drop_end : (n : ℕ) (bytes : List ℕ) → IsEndOf bytes (drop n bytes)
drop_end zero bytes = all_end bytes
drop_end (suc n) [] = all_end []
drop_end (suc n) (b ∷ bs) = first_put b bs (drop n bs) (drop_end n bs)

-- what stands behind, if anything does, stands at the end of the bytes
abbrev SomeEnd : List ℕ → Option (List ℕ) → Type 0
SomeEnd bytes None = Unit {0}
SomeEnd bytes (Some rest) = IsEndOf bytes rest

some_first : (b : ℕ) (bytes : List ℕ) (rest : Option (List ℕ)) → SomeEnd bytes rest → SomeEnd (b ∷ bytes) rest
some_first b bytes None h = tt
some_first b bytes (Some rest) h = first_put b bytes rest h

single_end : (bytes : List ℕ) → SomeEnd bytes (in_single bytes).rest
single_end [] = tt
single_end (b ∷ []) = by_test (b == 39)
  where
    by_test : (t : Bool) → SomeEnd (b ∷ []) (if t then closed [] else put (b ∷ []) unclosed).rest
    by_test true = none_end (b ∷ [])
    by_test false = tt
single_end (b ∷ c ∷ bs) = by_tests (b == 39) (c == 39) (single_end (c ∷ bs)) (single_end bs)
  where
    by_tests : (s t : Bool) → SomeEnd (c ∷ bs) (in_single (c ∷ bs)).rest → SomeEnd bs (in_single bs).rest
        → SomeEnd (b ∷ c ∷ bs) (if not s then put (b ∷ []) (in_single (c ∷ bs)) else if t then put (39 ∷ []) (in_single bs) else closed (c ∷ bs)).rest
    by_tests false t h k = some_first b (c ∷ bs) (in_single (c ∷ bs)).rest h
    by_tests true true h k = some_first b (c ∷ bs) (in_single bs).rest (some_first c bs (in_single bs).rest k)
    by_tests true false h k = first_put b (c ∷ bs) (c ∷ bs) (all_end (c ∷ bs))

double_end : (taken : ℕ) (bytes : List ℕ) → SomeEnd bytes (in_double taken bytes).rest
double_end taken [] = tt
double_end (suc taken) (b ∷ bs) = some_first b bs (in_double taken bs).rest (double_end taken bs)
double_end zero (b ∷ bs) = by_tests (b == 34) (b == 92) (λ n. double_end n bs)
  where
    by_escape : (place : ℕ) (e : Option (List ℕ × ℕ)) → ((n : ℕ) → SomeEnd bs (in_double n bs).rest) → SomeEnd (b ∷ bs) (escaped place e (λ n. in_double n bs)).rest
    by_escape place None h = some_first b bs (in_double 1 bs).rest (h 1)
    by_escape place (Some e) h = some_first b bs (in_double e.1 bs).rest (h e.1)

    by_tests : (s t : Bool) → ((n : ℕ) → SomeEnd bs (in_double n bs).rest)
        → SomeEnd (b ∷ bs) (if s then closed bs else if t then escaped (suc (length bs)) (escape bs) (λ n. in_double n bs) else put (b ∷ []) (in_double zero bs)).rest
    by_tests true t h = first_put b bs bs (all_end bs)
    by_tests false true h = by_escape (suc (length bs)) (escape bs) h
    by_tests false false h = some_first b bs (in_double zero bs).rest (h zero)

quoted_end : (quote : ℕ) (bytes : List ℕ) → SomeEnd bytes (quoted quote bytes).rest
unfolding quoted
quoted_end quote bytes = by_test (quote == 39)
  where
    by_test : (t : Bool) → SomeEnd bytes (if t then in_single bytes else in_double 0 bytes).rest
    by_test true = single_end bytes
    by_test false = double_end 0 bytes

further : (bytes middle : List ℕ) (rest : Option (List ℕ)) → IsEndOf bytes middle → SomeEnd middle rest → SomeEnd bytes rest
further bytes middle None h k = tt
further bytes middle (Some rest) h k = end_further bytes middle rest h k

colon_end : (bytes : List ℕ) → SomeEnd bytes (behind_colon bytes)
colon_end [] = tt
colon_end (b ∷ bs) = by_test ((b == 58) && is_behind_key false bs)
  where
    by_test : (t : Bool) → SomeEnd (b ∷ bs) (if t then Some bs else None)
    by_test true = first_put b bs bs (all_end bs)
    by_test false = tt

behind_quoted_end : (bytes : List ℕ) (rest : Option (List ℕ)) → SomeEnd bytes rest → SomeEnd bytes (behind_quoted rest)
behind_quoted_end bytes None h = tt
behind_quoted_end bytes (Some rest) h =
    further bytes (after_gap rest) (behind_colon (after_gap rest)) (end_further bytes rest (after_gap rest) h (gap_end rest)) (colon_end (after_gap rest))

behind_key_end : (bytes : List ℕ) → SomeEnd bytes (behind_key bytes)
unfolding behind_key
behind_key_end [] = tt
behind_key_end (b ∷ bs) = by_tests (is_quote b) (begins_plain false b bs)
  where
    count : ℕ
    count = plain_length false (b ∷ bs)

    by_tests : (s t : Bool) → SomeEnd (b ∷ bs) (if s then behind_quoted (quoted b bs).rest else if t then behind_colon (drop count (b ∷ bs)) else None)
    by_tests true t = some_first b bs (behind_quoted (quoted b bs).rest) (behind_quoted_end bs (quoted b bs).rest (quoted_end b bs))
    by_tests false true = further (b ∷ bs) (drop count (b ∷ bs)) (behind_colon (drop count (b ∷ bs))) (drop_end count (b ∷ bs)) (colon_end (drop count (b ∷ bs)))
    by_tests false false = tt

-- what stands behind a key stands at the end of its row
pub after_key_end : (bytes : List ℕ) → IsEndOf bytes (after_key (behind_key bytes))
after_key_end bytes = of_key (behind_key bytes) (behind_key_end bytes)
  where
    of_key : (rest : Option (List ℕ)) → SomeEnd bytes rest → IsEndOf bytes (after_key rest)
    of_key None h = none_end bytes
    of_key (Some rest) h = end_further bytes rest (after_gap rest) h (gap_end rest)

-- ---- rows

-- what ends behind a dash ends the row
pub dash_binary : (r : Row) (e : Fault) → EndsWithBinary (behind_dash r) e → EndsWithBinary r e
dash_binary r e h =
    let whole = end_further r.content (drop 1 r.content) (after_gap (drop 1 r.content)) (drop_end 1 r.content) (gap_end (drop 1 r.content)) in
    let bytes = 33 ∷ h.1 in
    let content : r.content ≡ (whole.0 ++ h.0) ++ bytes = whole.1 ∙ ap (λ (l : List ℕ). whole.0 ++ l) h.3 ∙ sym (append_assoc whole.0 h.0 bytes) in
    let inner = ap length h.3 ∙ length-append h.0 bytes in
    let outer = ap length whole.1 ∙ length-append whole.0 (after_gap (drop 1 r.content)) in
    let column : (r.column + (length r.content - length (after_gap (drop 1 r.content)))) + (length (after_gap (drop 1 r.content)) - length bytes) ≡ r.column + (length r.content - length bytes) = omega (arith, inner, outer) in
    let at : ℕ → Fault = λ c. record { line = r.number; column = c; kind = kinds.Tag } in
    (whole.0 ++ h.0, h.1, h.2, content, h.4, h.5, h.6 ∙ ap at column)

-- a `!!binary` that was read at the end of a row, with nothing behind it
pub binary_read : (r : Row) (bytes : List ℕ) (u : Tagging × List ℕ) (place : Fault) → IsEndOf r.content bytes → begins_with 33 bytes ≡ true → tagging_at r bytes ≡ Ok u → u.1 ≡ [] → u.0 ≡ in_base64 place
    → EndsWithBinary r place
binary_read r [] u place end is = absurd cc
binary_read r (b ∷ bs) u place end is = of_tag (tag_at false bs) refl
  where
    read : Tag × List ℕ → Result (Tagging × List ℕ) Fault
    read t = Ok (tagging_of (wrong_in r kinds.Tag (b ∷ bs)) t.0, after_gap t.1)

    is_mark : b ≡ 33
    is_mark = grind (arith, nat_tests, is)

    of_place : (p : Fault) → in_base64 p ≡ in_base64 place → p ≡ place
    of_place p e = cc

    of_tag : (x : Result (Tag × List ℕ) LineFault) → tag_at false bs ≡ x → (in_row r x >>= read) ≡ Ok u → u.1 ≡ [] → u.0 ≡ in_base64 place → EndsWithBinary r place
    of_tag (Ok (named name, rest)) q p none t =
        let same = ap (λ (v : Tagging × List ℕ). v.0) (ok_is _ u p) in
        absurd (not_binary (same ∙ t))
      where
        not_binary : tagged r.number name ≡ in_base64 place → ⊥
        not_binary e = cc
    of_tag (Ok (bytes_in_base64, rest)) q p none t =
        let same = ap (λ (v : Tagging × List ℕ). v.0) (ok_is _ u p) in
        let gap = ap (λ (v : Tagging × List ℕ). v.1) (ok_is _ u p) in
        let at : ℕ → Fault = λ c. wrong_in r kinds.Tag (c ∷ bs) in
        (end.0, bs, rest, end.1 ∙ ap (λ (c : ℕ). end.0 ++ c ∷ bs) is_mark, q, gap ∙ none, sym (of_place _ (same ∙ t)) ∙ ap at is_mark)
    of_tag (Err f) q p none t = absurd (err_ok _ u p)
