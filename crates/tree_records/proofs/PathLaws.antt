-- The names between slashes, and paths.
use Rattle.std.proofs.Common.{◌≡◌, ◌≢◌, ℕ, zero, suc, ◌-◌, ◌<◌, ◌≤◌, true, false, eqb, not, ◌&&◌, ◌||◌, List, [], ◌∷◌, ◌++◌, length, inl, inr, refl, sym, ap, subst, ◌∙◌, arith, length-append, take, drop, get_or, take-append-drop, drop-cons}
use Rattle.std.proofs.lemmas.Bool.{and_from, and_parts, false_from_ne_true, false≢true, ne_eqb, not-true, or_parts}
use Rattle.std.proofs.lemmas.Bool.Decides.{eqb_tells}
use Rattle.std.proofs.lemmas.List.Elements.{All-from_recursion}
use Rattle.std.proofs.lemmas.List.Splits.{join_with_byte-slice_split, slice_split-cons_no, slice_split-cons_yes, slice_split_at, slice_split_none, length-slice_split}
use Rattle.std.proofs.lemmas.Str.{IsUtf8-from_is_utf8, is_utf8-from_IsUtf8}
use Rattle.std.specs.Cmp.Lexicographic.{bytes_decides, pointwise}
use Rattle.std.specs.List.{AllByRecursion, list_all, onto_first}
use Rattle.std.specs.Prelude.{codes, nat_eq}
use Rattle.std.specs.Str.{IsUtf8, is_utf8}
use Rattle.tree_records.specs.declared.limits.TheConstants.{MOST_NAME_BYTES, MOST_PATH_BYTES}
use Rattle.tree_records.specs.Paths.{Path, path_bytes, parent, name_of, HasNoSlash, IsName, IsPath}
use Rattle.tree_records.specs.Reading.{are_path, is_dots, is_name, is_sized, names_in}
use Rattle.tree_records.proofs.Tests.{all_both, all_from_test, is_sized_from, nonzero_from_test, sized, test_from_all, test_from_nonzero}

-- ---- names between slashes

onto_none : (b : ℕ) (parts : List (List ℕ)) → b ≢ 47 → AllByRecursion HasNoSlash parts → AllByRecursion HasNoSlash (onto_first b parts)
onto_none b [] other h = ((other, tt), tt)
onto_none b (part ∷ parts) other h = ((other, h.0), h.1)

-- none of them has a slash
pub no_slashes : (bytes : List ℕ) → AllByRecursion HasNoSlash (names_in bytes)
no_slashes [] = (tt, tt)
no_slashes (b ∷ bs) =
    elim (eqb_tells b 47) [
      | inl is ↦ subst (λ (parts : List (List ℕ)). AllByRecursion HasNoSlash parts) (sym (slice_split-cons_yes (λ x. eqb x 47) b bs is.0)) (tt, no_slashes bs)
      | inr other ↦ subst (λ (parts : List (List ℕ)). AllByRecursion HasNoSlash parts) (sym (slice_split-cons_no (λ x. eqb x 47) b bs other.0))
          (onto_none b (names_in bs) other.1 (no_slashes bs))
    ]

-- there is one at least
pub some_name : (bytes : List ℕ) → 0 < length (names_in bytes)
some_name bytes = omega (arith, length-slice_split (λ x. eqb x 47) bytes)

pub path_bytes-names_in : (bytes : List ℕ) → path_bytes (names_in bytes) ≡ bytes
path_bytes-names_in bytes = join_with_byte-slice_split 47 bytes

no_cut : (name : List ℕ) → HasNoSlash name → AllByRecursion (λ b. eqb b 47 ≡ false) name
no_cut [] h = tt
no_cut (b ∷ bs) h = (ne_eqb b 47 h.0, no_cut bs h.1)

-- names without slashes are those between the slashes of their path
pub names_in-path_bytes : (p : Path) → 0 < length p → AllByRecursion HasNoSlash p → names_in (path_bytes p) ≡ p
names_in-path_bytes [] some h = absurd (omega arith)
names_in-path_bytes (name ∷ []) some h = slice_split_none (λ b. eqb b 47) name (All-from_recursion (λ b. eqb b 47 ≡ false) name (no_cut name h.0))
names_in-path_bytes (name ∷ next ∷ more) some h =
    slice_split_at (λ b. eqb b 47) name 47 (path_bytes (next ∷ more)) (All-from_recursion (λ b. eqb b 47 ≡ false) name (no_cut name h.0)) refl
    ∙ ap (λ (rest : Path). name ∷ rest) (names_in-path_bytes (next ∷ more) (omega arith) h.1)

-- ---- names

not_word : (word name : List ℕ) → pointwise nat_eq name word ≡ false → name ≢ word
not_word word name no_match same = false≢true (sym no_match ∙ (bytes_decides name word).1 same)

no_word : (word name : List ℕ) → name ≢ word → pointwise nat_eq name word ≡ false
no_word word name other = false_from_ne_true (pointwise nat_eq name word) (λ is. other ((bytes_decides name word).0 is))

name_from_test : (name : List ℕ) → is_name name ≡ true → HasNoSlash name → IsName name
name_from_test name h slash =
    let rest = and_parts (is_sized name MOST_NAME_BYTES && not (is_dots name)) (list_all _ name) h in
    let front = and_parts (is_sized name MOST_NAME_BYTES) (not (is_dots name)) rest.0 in
    let size = sized name MOST_NAME_BYTES front.0 in
    let dots = or_parts (pointwise nat_eq name (codes ".")) (pointwise nat_eq name (codes "..")) (not-true (is_dots name) front.1) in
    record {
      some = size.0;
      not_dot = not_word (codes ".") name dots.0;
      not_dots = not_word (codes "..") name dots.1;
      short = size.1;
      no_slash = slash;
      no_zero = nonzero_from_test name rest.1;
    }

test_from_name : (name : List ℕ) → IsName name → is_name name ≡ true
test_from_name name h =
    and_from (is_sized name MOST_NAME_BYTES && not (is_dots name)) (list_all _ name)
    (and_from (is_sized name MOST_NAME_BYTES) (not (is_dots name)) (is_sized_from name MOST_NAME_BYTES h.some h.short)
    (ap not (λ i. no_word (codes ".") name h.not_dot i || no_word (codes "..") name h.not_dots i)))
    (test_from_nonzero name h.no_zero)

-- ---- paths

-- bytes that pass the test are those of a path
pub path_from_test : (bytes : List ℕ) → are_path bytes ≡ true → IsPath (names_in bytes)
path_from_test bytes h =
    let rest = and_parts (is_sized bytes MOST_PATH_BYTES && is_utf8 bytes) (list_all is_name (names_in bytes)) h in
    let front = and_parts (is_sized bytes MOST_PATH_BYTES) (is_utf8 bytes) rest.0 in
    let size = sized bytes MOST_PATH_BYTES front.0 in
    let same = sym (path_bytes-names_in bytes) in
    record {
      some = some_name bytes;
      names = all_both (λ name. is_name name ≡ true) HasNoSlash IsName name_from_test (names_in bytes)
          (all_from_test is_name (λ name. is_name name ≡ true) (λ name is. is) (names_in bytes) rest.1) (no_slashes bytes);
      short = subst (λ (bs : List ℕ). length bs ≤ MOST_PATH_BYTES) same size.1;
      utf8 = subst IsUtf8 same (IsUtf8-from_is_utf8 bytes front.1);
    }

nonempty_bytes : (p : Path) → 0 < length p → AllByRecursion IsName p → 0 < length (path_bytes p)
nonempty_bytes [] some h = absurd (omega arith)
nonempty_bytes (name ∷ []) some h = h.0.some
nonempty_bytes (name ∷ next ∷ more) some h =
    let first = h.0.some in
    omega (arith, length-append name (47 ∷ path_bytes (next ∷ more)))

-- and those of a path pass it
pub test_from_path : (p : Path) → IsPath p → are_path (path_bytes p) ≡ true
test_from_path p h =
    let same = names_in-path_bytes p h.some (all_names p h.names) in
    and_from (is_sized (path_bytes p) MOST_PATH_BYTES && is_utf8 (path_bytes p)) (list_all is_name (names_in (path_bytes p)))
    (and_from (is_sized (path_bytes p) MOST_PATH_BYTES) (is_utf8 (path_bytes p))
    (is_sized_from (path_bytes p) MOST_PATH_BYTES (nonempty_bytes p h.some h.names) h.short) (is_utf8-from_IsUtf8 (path_bytes p) h.utf8))
    (ap (list_all is_name) same ∙ test_from_all is_name IsName test_from_name p h.names)
  where
    all_names : (q : Path) → AllByRecursion IsName q → AllByRecursion HasNoSlash q
    all_names [] h = tt
    all_names (name ∷ more) h = (h.0.no_slash, all_names more h.1)

pub slashless : (p : Path) → AllByRecursion IsName p → AllByRecursion HasNoSlash p
slashless [] h = tt
slashless (name ∷ more) h = (h.0.no_slash, slashless more h.1)

-- a path's names are those between the slashes of its bytes
pub names_in-path : (p : Path) → IsPath p → names_in (path_bytes p) ≡ p
names_in-path p h = names_in-path_bytes p h.some (slashless p h.names)

-- ---- the last name

onto_push : (b : ℕ) (parts : List (List ℕ)) (last : List ℕ) → 0 < length parts → onto_first b (parts ++ last ∷ []) ≡ onto_first b parts ++ last ∷ []
onto_push b [] last some = absurd (omega arith)
onto_push b (part ∷ parts) last some = refl

-- what stands behind the last slash is the last name
names_in-last : (front name : List ℕ) → HasNoSlash name → names_in (front ++ 47 ∷ name) ≡ names_in front ++ name ∷ []
names_in-last [] name h = ap (λ (parts : Path). [] ∷ parts) (names_in-path_bytes (name ∷ []) (omega arith) (h, tt))
names_in-last (b ∷ bs) name h =
    elim (eqb_tells b 47) [
      | inl is ↦
          slice_split-cons_yes (λ x. eqb x 47) b (bs ++ 47 ∷ name) is.0
          ∙ ap (λ (parts : Path). [] ∷ parts) (names_in-last bs name h)
          ∙ ap (λ (parts : Path). parts ++ name ∷ []) (sym (slice_split-cons_yes (λ x. eqb x 47) b bs is.0))
      | inr other ↦
          slice_split-cons_no (λ x. eqb x 47) b (bs ++ 47 ∷ name) other.0
          ∙ ap (onto_first b) (names_in-last bs name h)
          ∙ onto_push b (names_in bs) name (some_name bs)
          ∙ ap (λ (parts : Path). parts ++ name ∷ []) (sym (slice_split-cons_no (λ x. eqb x 47) b bs other.0))
    ]

pub parent-push : (p : Path) (name : List ℕ) → parent (p ++ name ∷ []) ≡ p
parent-push [] name = refl
parent-push (first ∷ []) name = refl
parent-push (first ∷ next ∷ more) name = ap (λ (q : Path). first ∷ q) (parent-push (next ∷ more) name)

pub name_of-push : (p : Path) (name : List ℕ) → name_of (p ++ name ∷ []) ≡ name
name_of-push [] name = refl
name_of-push (first ∷ []) name = refl
name_of-push (first ∷ next ∷ more) name = name_of-push (next ∷ more) name

-- bytes whose last name begins at this place
pub record StartsAt (bytes : List ℕ) (start : ℕ) : Type 0 where
  pub inside : start ≤ length bytes
  pub name : HasNoSlash (drop start bytes)
  pub slash : 0 < start → get_or bytes (start - 1) 0 ≡ 47

around : (bytes : List ℕ) (start : ℕ) → StartsAt bytes (suc start) → bytes ≡ take start bytes ++ 47 ∷ drop (suc start) bytes
around bytes start h =
    let inside = h.inside in
    let at : get_or bytes start 0 ≡ 47 = ap (λ (k : ℕ). get_or bytes k 0) (omega arith) ∙ h.slash (omega arith) in
    sym (take-append-drop start bytes) ∙ ap (λ (xs : List ℕ). take start bytes ++ xs) (drop-cons bytes start 0 (omega arith))
    ∙ ap (λ (b : ℕ). take start bytes ++ b ∷ drop (suc start) bytes) at

pub last_name : (bytes : List ℕ) (start : ℕ) → StartsAt bytes start → drop start bytes ≡ name_of (names_in bytes)
last_name bytes zero h = ap name_of (sym (names_in-path_bytes (bytes ∷ []) (omega arith) (h.name, tt)))
last_name bytes (suc start) h =
    sym (ap name_of (ap names_in (around bytes start h) ∙ names_in-last (take start bytes) (drop (suc start) bytes) h.name)
    ∙ name_of-push (names_in (take start bytes)) (drop (suc start) bytes))

pub front_names : (bytes : List ℕ) (start : ℕ) → StartsAt bytes start → take (start - 1) bytes ≡ path_bytes (parent (names_in bytes))
front_names bytes zero h = sym (ap (λ (p : Path). path_bytes (parent p)) (names_in-path_bytes (bytes ∷ []) (omega arith) (h.name, tt)))
front_names bytes (suc start) h =
    ap (λ (k : ℕ). take k bytes) (omega arith)
    ∙ sym (path_bytes-names_in (take start bytes))
    ∙ sym (ap path_bytes (ap parent (ap names_in (around bytes start h) ∙ names_in-last (take start bytes) (drop (suc start) bytes) h.name)
    ∙ parent-push (names_in (take start bytes)) (drop (suc start) bytes)))
