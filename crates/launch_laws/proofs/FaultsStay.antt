-- Lines that are added behind a text at fault.
use Rattle.std.proofs.Common.{◌≡◌, ◌≢◌, ◌⊎◌, inl, inr, ℕ, zero, suc, ◌+◌, ◌<◌, ◌≤◌, ◌==◌, ◌&&◌, Bool, true, false, if◌then◌else◌, List, [], ◌∷◌, ◌++◌, length, drop, Option, Some, None, Result, Ok, Err, refl, sym, ap, subst, ◌∙◌, append_assoc, arith}
use Rattle.std.specs.Prelude.{nat_eq}
use Rattle.std.specs.List.{starts_with, AllByRecursion}
use Rattle.launch_scalars.specs.Characters.{bad_at}
use Rattle.launch_scalars.specs.declared.kind.YamlKind.{YamlKind}
use Rattle.launch_scalars.specs.declared.kind.YamlKind.TheVariants as kinds
use Rattle.launch_values.specs.Shape.{Shape}
use Rattle.launch_lines.specs.declared.fault.Fault.{Fault}
use Rattle.launch_lines.specs.Faults.{comes_before, first_of, first_fault, beside}
use Rattle.launch_lines.specs.Lines.{without_mark, onto_first, pieces, without_return, without_returns, lines_of, lines, tab_at, or_further, first_line, plain_fault}
use Rattle.launch_lines.specs.Rows.{Row, indentation, unless_nothing, row_of, rows_from}
use Rattle.launch_lines.proofs.Pieces.{some_piece}
use Rattle.launch_lines.proofs.FirstFaults.{earlier_first, earlier_second, IsFrom, first_line_from}
use Rattle.launch_yaml.specs.Document.{document_of, document_in, parse_at}
use Rattle.launch_laws.specs.Laws.{LacksScalar, LacksStart, EndsWithReturn, FaultsStay}
use Rattle.launch_laws.proofs.LineEnds.{other_byte, both_true, mark}
use Rattle.launch_laws.proofs.FaultPlaces.{OfFault, OfSome, OfRow, OfRows, document_placed}
use Rattle.launch_laws.proofs.AddedRows.{Grows, Filled, LastMay, LastRowMay, document_grows}

-- ---- a mark

abbrev NoFeed : List ℕ → Type 0
NoFeed front = AllByRecursion (λ m. m ≢ 10) front

front_stays : (text more front : List ℕ) → NoFeed front → starts_with nat_eq (text ++ 10 ∷ more) front ≡ starts_with nat_eq text front
front_stays text more [] h = refl
front_stays [] more (m ∷ ms) h = ap (λ (t : Bool). t && starts_with nat_eq more ms) (other_byte m 10 h.0)
front_stays (b ∷ bs) more (m ∷ ms) h = ap (λ (t : Bool). (m == b) && t) (front_stays bs more ms h.1)

rest_stays : (text more front : List ℕ) → starts_with nat_eq text front ≡ true → drop (length front) (text ++ more) ≡ drop (length front) text ++ more
rest_stays text more [] e = refl
rest_stays [] more (m ∷ ms) e = absurd cc
rest_stays (b ∷ bs) more (m ∷ ms) e = rest_stays bs more ms (both_true (m == b) (starts_with nat_eq bs ms) e).1

mark_added : (text more : List ℕ) → without_mark (text ++ 10 ∷ more) ≡ without_mark text ++ 10 ∷ more
mark_added text more =
    ap (λ (b : Bool). if b then drop 3 (text ++ 10 ∷ more) else text ++ 10 ∷ more) (front_stays text more mark no_feed) ∙ by_mark (starts_with nat_eq text mark) refl
  where
    no_feed : NoFeed mark
    no_feed = ((λ e. omega (arith, e)), ((λ e. omega (arith, e)), ((λ e. omega (arith, e)), tt)))

    by_mark : (b : Bool) → starts_with nat_eq text mark ≡ b → (if b then drop 3 (text ++ 10 ∷ more) else text ++ 10 ∷ more) ≡ (if b then drop 3 text else text) ++ 10 ∷ more
    by_mark true k = rest_stays text (10 ∷ more) mark k
    by_mark false k = refl

-- ---- lines

pieces_added : (text more : List ℕ) → pieces (text ++ 10 ∷ more) ≡ pieces text ++ pieces more
pieces_added [] more = refl
pieces_added (b ∷ bs) more = by_test (b == 10) (pieces_added bs more)
  where
    by_test : (t : Bool) → pieces (bs ++ 10 ∷ more) ≡ pieces bs ++ pieces more
        → (if t then [] ∷ pieces (bs ++ 10 ∷ more) else onto_first b (pieces (bs ++ 10 ∷ more))) ≡ (if t then [] ∷ pieces bs else onto_first b (pieces bs)) ++ pieces more
    by_test true h = ap (λ (xs : List (List ℕ)). [] ∷ xs) h
    by_test false h =
        let some = some_piece bs in
        ap (onto_first b) h
        ∙ ap (λ (ps : List (List ℕ)). onto_first b (ps ++ pieces more)) some.2
        ∙ sym (ap (λ (ps : List (List ℕ)). onto_first b ps ++ pieces more) some.2)

-- the last piece has no carriage return at its end
abbrev LastKept : List (List ℕ) → Type 0
LastKept [] = Unit {0}
LastKept (p ∷ []) = without_return p ≡ p
LastKept (p ∷ q ∷ ps) = LastKept (q ∷ ps)

returns_apart : (ps : List (List ℕ)) (q : List ℕ) (qs : List (List ℕ)) → LastKept ps → without_returns (ps ++ q ∷ qs) ≡ without_returns ps ++ without_returns (q ∷ qs)
returns_apart [] q qs h = refl
returns_apart (p ∷ []) q qs h = ap (λ (x : List ℕ). x ∷ without_returns (q ∷ qs)) h
returns_apart (p ∷ r ∷ ps) q qs h = ap (λ (xs : List (List ℕ)). without_return p ∷ xs) (returns_apart (r ∷ ps) q qs h)

abbrev KeepsEnd : List ℕ → Type 0
KeepsEnd [] = Unit {0}
KeepsEnd (b ∷ []) = b ≢ 13
KeepsEnd (b ∷ c ∷ bs) = KeepsEnd (c ∷ bs)

keeps_end : (text : List ℕ) → (EndsWithReturn text → ⊥) → KeepsEnd text
keeps_end [] h = tt
keeps_end (b ∷ []) h = λ e. h ([], ap (λ (x : ℕ). x ∷ []) e)
keeps_end (b ∷ c ∷ bs) h = keeps_end (c ∷ bs) (λ k. h (b ∷ k.0, ap (λ (l : List ℕ). b ∷ l) k.1))

keeps_rest : (n : ℕ) (text : List ℕ) → KeepsEnd text → KeepsEnd (drop n text)
keeps_rest zero text h = h
keeps_rest (suc n) [] h = tt
keeps_rest (suc n) (b ∷ []) h = keeps_rest n [] tt
keeps_rest (suc n) (b ∷ c ∷ bs) h = keeps_rest n (c ∷ bs) h

keeps_behind_mark : (text : List ℕ) → KeepsEnd text → KeepsEnd (without_mark text)
keeps_behind_mark text h = by_test (starts_with nat_eq text mark)
  where
    by_test : (t : Bool) → KeepsEnd (if t then drop 3 text else text)
    by_test true = keeps_rest 3 text h
    by_test false = h

-- the pieces with a byte before them, where these stand behind it
abbrev with_byte : Bool → ℕ → List (List ℕ) → List (List ℕ)
with_byte feed b ps = if feed then [] ∷ ps else onto_first b ps

kept_before : (b c : ℕ) (s t : Bool) (p : List ℕ) (ps : List (List ℕ)) → LastKept (with_byte t c (p ∷ ps)) → LastKept (with_byte s b (with_byte t c (p ∷ ps)))
kept_before b c true true p ps h = h
kept_before b c true false p ps h = h
kept_before b c false true p ps h = h
kept_before b c false false p [] h = ap (λ (l : List ℕ). b ∷ l) h
kept_before b c false false p (q ∷ ps) h = h

last_kept : (text : List ℕ) → KeepsEnd text → LastKept (pieces text)
last_kept [] h = refl
last_kept (b ∷ []) h = by_test (b == 10)
  where
    by_test : (t : Bool) → LastKept (with_byte t b ([] ∷ []))
    by_test true = refl
    by_test false = ap (λ (t : Bool). if t then [] else b ∷ []) (other_byte b 13 h)
last_kept (b ∷ c ∷ bs) h =
    let some = some_piece bs in
    subst (λ (ls : List (List ℕ)). LastKept (with_byte (b == 10) b (with_byte (c == 10) c ls))) (sym some.2)
    (kept_before b c (b == 10) (c == 10) some.0 some.1 (subst (λ (ls : List (List ℕ)). LastKept (with_byte (c == 10) c ls)) some.2 (last_kept (c ∷ bs) h)))

lines_added : (text more : List ℕ) → (EndsWithReturn text → ⊥) → lines (text ++ 10 ∷ more) ≡ lines text ++ lines_of more
unfolding lines
lines_added text more h =
    let t = without_mark text in
    let some = some_piece more in
    ap lines_of (mark_added text more)
    ∙ ap without_returns (pieces_added t more)
    ∙ ap (λ (qs : List (List ℕ)). without_returns (pieces t ++ qs)) some.2
    ∙ returns_apart (pieces t) some.0 some.1 (last_kept t (keeps_behind_mark text (keeps_end text h)))
    ∙ sym (ap (λ (qs : List (List ℕ)). without_returns (pieces t) ++ without_returns qs) some.2)

-- ---- rows

all_append : (P : Row → Type 0) (rows more : List Row) → AllByRecursion P rows → AllByRecursion P more → AllByRecursion P (rows ++ more)
all_append P [] more h k = k
all_append P (r ∷ rows) more h k = (h.0, all_append P rows more h.1 k)

-- what holds of each row that lines with these numbers may have
rows_all : (P : Row → Type 0) (n : ℕ) (ls : List (List ℕ)) → ((k column b : ℕ) (bs : List ℕ) → n ≤ k → k < n + length ls → P (record { number = k; column = column; content = b ∷ bs }))
    → AllByRecursion P (rows_from n ls)
rows_all P n [] h = tt
rows_all P n (l ∷ ls) h =
    all_append P (row_of n l) (rows_from (suc n) ls) (by_content (drop (indentation l) l))
    (rows_all P (suc n) ls (λ k column b bs from to. h k column b bs (omega (arith, from)) (omega (arith, to))))
  where
    by_content : (content : List ℕ) → AllByRecursion P (unless_nothing n (indentation l) content)
    by_content [] = tt
    by_content (b ∷ bs) = by_first (b == 35)
      where
        by_first : (t : Bool) → AllByRecursion P (if t then [] else record { number = n; column = indentation l; content = b ∷ bs } ∷ [])
        by_first true = tt
        by_first false = (h n (indentation l) b bs (omega arith) (omega arith), tt)

rows_added : (n : ℕ) (ls ms : List (List ℕ)) → rows_from n (ls ++ ms) ≡ rows_from n ls ++ rows_from (n + length ls) ms
rows_added n [] ms =
    let same : n ≡ n + 0 = omega arith in
    ap (λ (k : ℕ). rows_from k ms) same
rows_added n (l ∷ ls) ms =
    let same : suc n + length ls ≡ n + suc (length ls) = omega arith in
    ap (λ (xs : List Row). row_of n l ++ xs) (rows_added (suc n) ls ms)
    ∙ sym (append_assoc (row_of n l) (rows_from (suc n) ls) (rows_from (suc n + length ls) ms))
    ∙ ap (λ (k : ℕ). (row_of n l ++ rows_from (suc n) ls) ++ rows_from k ms) same

-- ---- faults of lines

abbrev or_else : Option Fault → Option Fault → Option Fault
or_else None other = other
or_else (Some e) other = Some e

found_added : (find : List ℕ → Option ℕ) (kind : YamlKind) (n : ℕ) (ls ms : List (List ℕ))
    → first_line find kind n (ls ++ ms) ≡ or_else (first_line find kind n ls) (first_line find kind (n + length ls) ms)
found_added find kind n [] ms =
    let same : n ≡ n + 0 = omega arith in
    ap (λ (k : ℕ). first_line find kind k ms) same
found_added find kind n (l ∷ ls) ms = of_line (find l) (found_added find kind (suc n) ls ms)
  where
    same : suc n + length ls ≡ n + suc (length ls)
    same = omega arith

    of_line : (place : Option ℕ)
        → first_line find kind (suc n) (ls ++ ms) ≡ or_else (first_line find kind (suc n) ls) (first_line find kind (suc n + length ls) ms)
        → or_further n kind (first_line find kind (suc n) (ls ++ ms)) place ≡ or_else (or_further n kind (first_line find kind (suc n) ls) place) (first_line find kind (n + suc (length ls)) ms)
    of_line None h = h ∙ ap (λ (k : ℕ). or_else (first_line find kind (suc n) ls) (first_line find kind k ms)) same
    of_line (Some column) h = refl

abbrev Before : ℕ → Fault → Type 0
Before n e = e.line < n

found_before : (find : List ℕ → Option ℕ) (kind : YamlKind) (n : ℕ) (ls : List (List ℕ)) → OfSome (Before (n + length ls)) (first_line find kind n ls)
found_before find kind n [] = tt
found_before find kind n (l ∷ ls) = of_line (find l) (first_line find kind (suc n) ls) (found_before find kind (suc n) ls)
  where
    of_line : (place : Option ℕ) (further : Option Fault) → OfSome (Before (suc n + length ls)) further → OfSome (Before (n + suc (length ls))) (or_further n kind further place)
    of_line None None h = tt
    of_line None (Some e) h = omega (arith, h)
    of_line (Some column) further h = omega arith

one_of_both : (Q : Fault → Type 0) (a b : Fault) → Q a → Q b → Q (first_of a b)
one_of_both Q a b h k = by_test (comes_before b a)
  where
    by_test : (t : Bool) → Q (if t then b else a)
    by_test true = k
    by_test false = h

both_from : (n : ℕ) (a b : Option Fault) → IsFrom n a → IsFrom n b → IsFrom n (first_fault a b)
both_from n None b h k = k
both_from n (Some a) None h k = h
both_from n (Some a) (Some b) h k = one_of_both (λ (e : Fault). n ≤ e.line) a b h k

-- a fault before the line of this number stays; a new one stands on that line or behind it
abbrev Kept : ℕ → Option Fault → Option Fault → Type 0
Kept n None whole = IsFrom n whole
Kept n (Some a) whole = (a.line < n) × (whole ≡ Some a)

abbrev reported : Fault → Option Fault
reported e = Some e

both_kept : (n : ℕ) (a b c d : Option Fault) → OfSome (Before n) a → IsFrom n b → OfSome (Before n) c → IsFrom n d → Kept n (first_fault a c) (first_fault (or_else a b) (or_else c d))
both_kept n None b None d h k l m = both_from n b d k m
both_kept n None None (Some c) d h k l m = (l, refl)
both_kept n None (Some b) (Some c) d h k l m = (l, ap reported (earlier_second b c (omega (arith, k, l))))
both_kept n (Some a) b None None h k l m = (h, refl)
both_kept n (Some a) b None (Some d) h k l m = (h, ap reported (earlier_first a d (omega (arith, h, m))))
both_kept n (Some a) b (Some c) d h k l m = (one_of_both (Before n) a c h l, refl)

plain_kept : (ls ms : List (List ℕ)) → Kept (1 + length ls) (plain_fault ls) (plain_fault (ls ++ ms))
unfolding plain_fault
plain_kept ls ms =
    let n = 1 + length ls in
    let found = λ (ks : List (List ℕ)). first_line bad_at kinds.Character 1 ks in
    let tabs = λ (ks : List (List ℕ)). first_line tab_at kinds.Tab 1 ks in
    let more_found = first_line bad_at kinds.Character n ms in
    let more_tabs = first_line tab_at kinds.Tab n ms in
    subst (λ (x : Option Fault). Kept n (first_fault (found ls) (tabs ls)) (first_fault x (tabs (ls ++ ms)))) (sym (found_added bad_at kinds.Character 1 ls ms))
    (subst (λ (x : Option Fault). Kept n (first_fault (found ls) (tabs ls)) (first_fault (or_else (found ls) more_found) x)) (sym (found_added tab_at kinds.Tab 1 ls ms))
    (both_kept n (found ls) more_found (tabs ls) more_tabs (found_before bad_at kinds.Character 1 ls) (first_line_from bad_at kinds.Character n ms)
    (found_before tab_at kinds.Tab 1 ls) (first_line_from tab_at kinds.Tab n ms)))

-- ---- both together

abbrev failed : Fault → Result Shape Fault
failed e = Err e

failed_is : (a b : Fault) → failed a ≡ Err b → a ≡ b
failed_is a b e = cc

abbrev From : ℕ → Fault → Type 0
From n e = n ≤ e.line

-- beside a fault of a line before, what is read of added rows counts for nothing
line_stays : (n : ℕ) (a : Fault) (more : Result Shape Fault) → a.line < n → OfFault (From n) more → beside (Some a) more ≡ Err a
line_stays n a (Ok y) h k = refl
line_stays n a (Err f) h k = ap failed (earlier_first a f (omega (arith, h, k)))

-- a fault of a row stays beside faults of added lines
row_stays : (n : ℕ) (b : Fault) (whole : Option Fault) → b.line < n → IsFrom n whole → beside whole (failed b) ≡ Err b
row_stays n b None h k = refl
row_stays n b (Some a) h k = ap failed (earlier_second a b (omega (arith, h, k)))

beside_stays : (n : ℕ) (M : Fault → Type 0) (plain whole : Option Fault) (read more : Result Shape Fault) (e : Fault) → Kept n plain whole → OfFault (Before n) read → Grows M (From n) read more
    → beside plain read ≡ Err e → (M e → ⊥) → beside whole more ≡ Err e
beside_stays n M None whole (Ok x) more e kept before grows is none = absurd cc
beside_stays n M None whole (Err b) more e kept before (inl same) is none = ap (beside whole) same ∙ row_stays n b whole before kept ∙ is
beside_stays n M None whole (Err b) more e kept before (inr lacks) is none = absurd (none (subst M (failed_is b e is) lacks.0))
beside_stays n M (Some a) whole (Ok x) more e kept before grows is none = ap (λ (o : Option Fault). beside o more) kept.1 ∙ line_stays n a more kept.0 grows ∙ is
beside_stays n M (Some a) whole (Err b) more e kept before (inl same) is none = ap (λ (o : Option Fault). beside o more) kept.1 ∙ ap (beside (Some a)) same ∙ is
beside_stays n M (Some a) whole (Err b) more e kept before (inr lacks) is none = ap (λ (o : Option Fault). beside o more) kept.1 ∙ by_test (comes_before b a) is
  where
    by_test : (t : Bool) → failed (if t then b else a) ≡ Err e → beside (Some a) more ≡ Err e
    by_test true p = absurd (none (subst M (failed_is b e p) lacks.0))
    by_test false p = line_stays n a more kept.0 lacks.1 ∙ p

-- ---- texts

abbrev Missing : List Row → Fault → Type 0
Missing rows e = LacksScalar rows e ⊎ LacksStart rows e

last_lacks : (whole front : List Row) (r : Row) (rows : List Row) → whole ≡ front ++ r ∷ rows → LastMay (Missing whole) r rows
last_lacks whole front r [] e = λ f ends. inl (front, r, e, ends)
last_lacks whole front r (s ∷ rows) e = last_lacks whole (front ++ r ∷ []) s rows (e ∙ sym (append_assoc front (r ∷ []) (s ∷ rows)))

last_of_all : (rows : List Row) → LastRowMay (Missing rows) rows
last_of_all [] = tt
last_of_all (r ∷ rows) = last_lacks (r ∷ rows) [] r rows refl

something : (b : ℕ) (bs : List ℕ) → b ∷ bs ≢ []
something b bs e = cc

pub faults_stay : FaultsStay
unfolding parse_at
faults_stay text more e is no_return scalar start =
    let ls = lines text in
    let ms = lines_of more in
    let n = 1 + length ls in
    let rows = rows_from 1 ls in
    let added = rows_from n ms in
    let far : OfRows (From n) added = rows_all (OfRow (From n)) n ms (λ k column b bs from to f at. omega (arith, from, at)) in
    let near : OfRows (Before n) rows = rows_all (OfRow (Before n)) 1 ls (λ k column b bs from to f at. omega (arith, to, at)) in
    let full : Filled rows = rows_all (λ (r : Row). r.content ≢ []) 1 ls (λ k column b bs from to. something b bs) in
    ap document_in (lines_added text more no_return)
    ∙ ap (λ (rs : List Row). beside (plain_fault (ls ++ ms)) (document_of rs)) (rows_added 1 ls ms)
    ∙ beside_stays n (Missing rows) (plain_fault ls) (plain_fault (ls ++ ms)) (document_of rows) (document_of (rows ++ added)) e (plain_kept ls ms) (document_placed (Before n) rows near)
    (document_grows (Missing rows) (From n) rows added full (last_of_all rows) (λ f lacks. inr lacks) far) is (λ lacks. elim lacks [
      | inl a ↦ scalar a
      | inr b ↦ start b
    ])
