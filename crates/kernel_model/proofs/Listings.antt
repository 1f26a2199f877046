-- What is listed of names is found under them.
--     entries_found      each entry of some names is what its name finds
--     all_dropped      what holds of each item of a list holds of each behind a place
use Rattle.std.proofs.Common.{◌≡◌, ◌≢◌, ℕ, zero, suc, ◌&&◌, Bool, true, false, cond, T, List, [], ◌∷◌, Some, Ordering, Less, Equal, Greater, ap, ◌∙◌}
use Rattle.std.specs.Prelude.{drop}
use Rattle.std.specs.FinMap.{entries, entries_sorted, find, get, get-entries, is_sorted}
use Rattle.std.specs.FinMap.Entries.{below_all}
use Rattle.std.specs.List.{AllByRecursion}
use Rattle.std.specs.Ordering.{is_eq, is_lt}
use Rattle.maps.specs.Names.{name_cmp, tie_other, tie_same}
use Rattle.kernel_model.specs.State.{Names}
use Rattle.kernel_model.proofs.Lists.{all_weaker}
use Rattle.kernel_model.proofs.Tests.{not_true}

abbrev Entry : Type 0
Entry = List ℕ × ℕ

both : (a b : Bool) → T (a && b) → T a × T b
both true b h = (tt, h)
both false b h = absurd h

-- a name that comes after another is not that name
less_is_other : (r : Ordering) → T (is_lt r) → is_eq r ≡ true → ⊥
less_is_other Less h e = not_true e
less_is_other Equal h e = h
less_is_other Greater h e = h

after_is_other : (k q : List ℕ) → T (is_lt (name_cmp k q)) → q ≢ k
after_is_other k q after same = less_is_other (name_cmp k q) after (ap (λ x. is_eq (name_cmp k x)) same ∙ tie_same k)

-- what is found among entries is found with one more before them, whose name comes first
found_behind : (first : Entry) (all es : List Entry) → T (below_all name_cmp first.0 es) → AllByRecursion (λ (e : Entry). find name_cmp e.0 all ≡ Some e.1) es
    → AllByRecursion (λ (e : Entry). find name_cmp e.0 (first ∷ all) ≡ Some e.1) es
found_behind first all [] after found = tt
found_behind first all (e ∷ es) after found =
    let parts = both (is_lt (name_cmp first.0 e.0)) (below_all name_cmp first.0 es) after in (
      ap (λ b. cond b (Some first.1) (find name_cmp e.0 all)) (tie_other e.0 first.0 (after_is_other first.0 e.0 parts.0)) ∙ found.0,
      found_behind first all es parts.1 found.1,
    )

sorted_found : (es : List Entry) → T (is_sorted name_cmp es) → AllByRecursion (λ (e : Entry). find name_cmp e.0 es ≡ Some e.1) es
sorted_found [] sorted = tt
sorted_found (e ∷ es) sorted =
    let parts = both (below_all name_cmp e.0 es) (is_sorted name_cmp es) sorted in (
      ap (λ b. cond b (Some e.1) (find name_cmp e.0 es)) (tie_same e.0),
      found_behind e es es parts.0 (sorted_found es parts.1),
    )

-- each entry of some names is what its name finds
pub entries_found : (names : Names) → AllByRecursion (λ (e : Entry). get names e.0 ≡ Some e.1) (entries names)
entries_found names =
    all_weaker (λ (e : Entry). find name_cmp e.0 (entries names) ≡ Some e.1) (λ (e : Entry). get names e.0 ≡ Some e.1)
    (λ e found. get-entries names e.0 ∙ found) (entries names) (sorted_found (entries names) (entries_sorted names))

-- what holds of each item of a list holds of each behind a place
pub all_dropped : {X : Type 0} (P : X → Type 0) (n : ℕ) (xs : List X) → AllByRecursion P xs → AllByRecursion P (drop n xs)
all_dropped P zero xs all = all
all_dropped P (suc n) [] all = tt
all_dropped P (suc n) (x ∷ xs) all = all_dropped P n xs all.1
