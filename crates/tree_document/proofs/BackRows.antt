-- The listing of a tree by lists of names, in place of the bytes of paths.
--     Listed rows p n      a row of this path and node
--     IsNext, AreNext      rows of names that are new, each in a directory that is the root or an earlier row's
--     paths_of t, paths_next      all names of a tree are such rows
--     every_path      each path has a row
--     paths_listing      the same rows, with the bytes of their paths
use Rattle.std.proofs.Common.{◌≡◌, ◌≢◌, ◌⊎◌, inl, inr, ℕ, zero, suc, ◌<◌, ◌≤◌, Bool, true, cond, List, [], ◌∷◌, ◌++◌, length, map, Some, refl, sym, ap, subst, ◌∙◌, append_assoc, length-append, arith}
use Rattle.std.proofs.lemmas.Bool.{and_parts}
use Rattle.std.proofs.lemmas.List.{append-nil, append_cancel_left, map-append}
use Rattle.std.specs.FinMap.{entries, entries_sorted, find, get, get-entries, is_sorted, len}
use Rattle.std.specs.FinMap.Entries.{below_all}
use Rattle.std.specs.List.{AllByRecursion, flat_map}
use Rattle.std.specs.Ordering.{eq_by_cmp}
use Rattle.maps.specs.Names.{name_cmp, same_or_not, tie_other, tie_same}
use Rattle.lists.proofs.Chosen.{some_is}
use Rattle.lists.proofs.OptionSteps.{bind_some}
use Rattle.tree_model.specs.declared.limits.TheConstants.{ROOT}
use Rattle.tree_model.specs.Facts.{directory_of_name}
use Rattle.tree_model.specs.Tree.{HasName, IsTree, Tree, entry_of, names_of}
use Rattle.tree_records.specs.Paths.{IsName, Path, path_bytes}
use Rattle.tree_document.specs.Building.{node_at}
use Rattle.tree_document.specs.Left.{Entries}
use Rattle.tree_document.specs.Printing.{Row, below_path, listed, listing}
use Rattle.tree_document.proofs.BackPaths.{leads_last, one_path, path_deepens}
use Rattle.tree_document.proofs.Rows.{depth_least, entries_got, holds, not_below}
use Rattle.tree_document.proofs.Walks.{named_bytes}

-- ---- rows by lists of names

abbrev pub PathRow : Type 0
PathRow = Path × ℕ

abbrev pub Listed : List PathRow → Path → ℕ → Type 0
Listed [] p n = ⊥
Listed (row ∷ rows) p n = ((row.0 ≡ p) × (row.1 ≡ n)) ⊎ Listed rows p n

pub listed_front : (rows more : List PathRow) (p : Path) (n : ℕ) → Listed rows p n → Listed (rows ++ more) p n
listed_front [] more p n h = absurd h
listed_front (row ∷ rows) more p n h = elim h [ inl here ↦ inl here | inr later ↦ inr (listed_front rows more p n later) ]

pub listed_back : (rows more : List PathRow) (p : Path) (n : ℕ) → Listed more p n → Listed (rows ++ more) p n
listed_back [] more p n h = h
listed_back (row ∷ rows) more p n h = inr (listed_back rows more p n h)

pub listed_in : (rows more : List PathRow) (p : Path) (n : ℕ) → Listed (rows ++ more) p n → Listed rows p n ⊎ Listed more p n
listed_in [] more p n h = inr h
listed_in (row ∷ rows) more p n h =
    elim h [
      | inl here ↦ inl (inl here)
      | inr later ↦ elim (listed_in rows more p n later) [ inl front ↦ inl (inr front) | inr back ↦ inr back ]
    ]

-- the row is of a name in a directory, which is the root or has an earlier row, and its path is new
pub record IsNext (t : Tree) (before : List PathRow) (p : Path) (n : ℕ) : Type 0 where
  pub above : Path
  pub name : List ℕ
  pub path : p ≡ above ++ name ∷ []
  pub directory : ℕ
  pub leads : node_at t ROOT above ≡ Some directory
  pub named : HasName t directory name n
  pub earlier : (above ≡ []) ⊎ ((x : ℕ) × Listed before above x)
  pub new : (x : ℕ) → Listed before p x → ⊥

abbrev pub AreNext : Tree → List PathRow → List PathRow → Type 0
AreNext t before [] = Unit {0}
AreNext t before (row ∷ rows) = IsNext t before row.0 row.1 × AreNext t (before ++ row ∷ []) rows

-- a row among these is new where it stands
pub row_next : (t : Tree) (rows before : List PathRow) → AreNext t before rows → (p : Path) (n : ℕ) → Listed rows p n
    → (sofar : List PathRow) × IsNext t sofar p n
row_next t [] before next p n there = absurd there
row_next t (row ∷ rows) before next p n there =
    elim there [
      | inl here ↦ (before, subst (λ (q : Path). IsNext t before q n) here.0 (subst (λ (x : ℕ). IsNext t before row.0 x) here.1 next.0))
      | inr later ↦ row_next t rows (before ++ row ∷ []) next.1 p n later
    ]

-- no row so far is of the name in the directory, by any path
pub name_new : (t : Tree) → IsTree t → (before : List PathRow) (p : Path) (n : ℕ) (next : IsNext t before p n) (q : Path) (m : ℕ)
    → node_at t ROOT q ≡ Some next.directory → Listed before (q ++ next.name ∷ []) m → ⊥
name_new t h before p n next q m leads there =
    let same = one_path t h next.directory q next.above (directory_of_name t h next.directory next.name n next.named) leads next.leads in
    next.new m (subst (λ (r : Path). Listed before r m) (ap (λ (r : Path). r ++ next.name ∷ []) same ∙ sym next.path) there)

-- ---- the rows of a tree

abbrev pub paths_below : ℕ → Tree → Path → ℕ → List PathRow
paths_below zero t p d = []
paths_below (suc most) t p d = flat_map (λ e. (p ++ e.0 ∷ [], e.1) ∷ paths_below most t (p ++ e.0 ∷ []) e.1) (entries (names_of t d))

abbrev pub paths_in : ℕ → Tree → Path → Entries → List PathRow
paths_in most t p es = flat_map (λ e. (p ++ e.0 ∷ [], e.1) ∷ paths_below most t (p ++ e.0 ∷ []) e.1) es

abbrev pub paths_of : Tree → List PathRow
paths_of t = paths_below (len t.nodes) t [] ROOT

module _ (t : Tree) where
  next_both : (before rows more : List PathRow) → AreNext t before rows → AreNext t (before ++ rows) more → AreNext t before (rows ++ more)
  next_both before [] more h k = subst_nil h k where
    subst_nil : Unit {0} → AreNext t (before ++ []) more → AreNext t before more
    subst_nil _ k = rw (sym (append-nil before)) k
  next_both before (row ∷ rows) more h k =
      (h.0, next_both (before ++ row ∷ []) rows more h.1 (rw (append_assoc before (row ∷ []) rows) k))

  -- ---- paths behind a path

  -- the row's path begins with this one and a name more
  abbrev IsBehind : Path → Path → Type 0
  IsBehind p q = (name : List ℕ) × (more : Path) × (q ≡ p ++ name ∷ more)

  behind_in : (most : ℕ) (p : Path) (es : Entries) (q : Path) (x : ℕ)
      → ((r : Path) (m : ℕ) → Listed (paths_below most t r m) q x → IsBehind r q) → Listed (paths_in most t p es) q x → IsBehind p q
  behind_in most p [] q x below h = absurd h
  behind_in most p (e ∷ es) q x below h =
      elim h [
        | inl here ↦ (e.0, [], sym here.0)
        | inr later ↦ elim (listed_in (paths_below most t (p ++ e.0 ∷ []) e.1) (paths_in most t p es) q x later) [
          | inl under ↦
              let behind = below (p ++ e.0 ∷ []) e.1 under in
              (e.0, behind.0 ∷ behind.1, behind.2 ∙ append_assoc p (e.0 ∷ []) (behind.0 ∷ behind.1))
          | inr others ↦ behind_in most p es q x below others
        ]
      ]

  behind : (most : ℕ) (p : Path) (d : ℕ) (q : Path) (x : ℕ) → Listed (paths_below most t p d) q x → IsBehind p q
  behind zero p d q x h = absurd h
  behind (suc most) p d q x h = behind_in most p (entries (names_of t d)) q x (λ r m k. behind most r m q x k) h

  first_same : (p : Path) (a b : List ℕ) (xs ys : Path) → p ++ a ∷ xs ≡ p ++ b ∷ ys → a ≡ b
  first_same p a b xs ys e = ap (λ (names : Path). first_of names) (append_cancel_left p (a ∷ xs) (b ∷ ys) e)
    where
      first_of : Path → List ℕ
      first_of [] = []
      first_of (name ∷ more) = name

  not_itself : (p : Path) (name : List ℕ) (more : Path) → p ≢ p ++ name ∷ more
  not_itself p name more e = let size = ap length e ∙ length-append p (name ∷ more) in omega arith

  -- ---- they are new, each in an earlier directory

  -- no row so far has one of the names behind the path
  abbrev AreNew : List PathRow → Path → Entries → Type 0
  AreNew before p es = AllByRecursion (λ e. (more : Path) (x : ℕ) → Listed before (p ++ e.0 ∷ more) x → ⊥) es

  all_new : (before : List PathRow) (p : Path) (es : Entries) → ((name : List ℕ) (more : Path) (x : ℕ) → Listed before (p ++ name ∷ more) x → ⊥)
      → AreNew before p es
  all_new before p [] h = tt
  all_new before p (e ∷ es) h = (λ more x. h e.0 more x, all_new before p es h)

  still_new : (before : List PathRow) (p : Path) (name : List ℕ) (rows : List PathRow) (es : Entries)
      → ((q : Path) (x : ℕ) → Listed rows q x → (more : Path) × (q ≡ p ++ name ∷ more)) → AllByRecursion (λ e. e.0 ≢ name) es → AreNew before p es
      → AreNew (before ++ rows) p es
  still_new before p name rows [] behind others h = tt
  still_new before p name rows (e ∷ es) behind others h = (
    λ more x there. elim (listed_in before rows (p ++ e.0 ∷ more) x there) [
      | inl front ↦ h.0 more x front
      | inr back ↦ let one = behind (p ++ e.0 ∷ more) x back in others.0 (first_same p e.0 name more one.0 one.1)
    ],
    still_new before p name rows es behind others.1 h.1,
  )

  abbrev IsKnown : List PathRow → Path → Type 0
  IsKnown before p = (p ≡ []) ⊎ ((x : ℕ) × Listed before p x)

  known_more : (before more : List PathRow) (p : Path) → IsKnown before p → IsKnown (before ++ more) p
  known_more before more p h = elim h [ inl root ↦ inl root | inr row ↦ inr (row.0, listed_front before more p row.0 row.1) ]

  names_next : (most : ℕ) (p : Path) (d : ℕ) (es : Entries) (before : List PathRow)
      → ((r : Path) (m : ℕ) (sofar : List PathRow) → node_at t ROOT r ≡ Some m → IsKnown sofar r
      → ((name : List ℕ) (more : Path) (x : ℕ) → Listed sofar (r ++ name ∷ more) x → ⊥) → AreNext t sofar (paths_below most t r m))
      → node_at t ROOT p ≡ Some d → IsKnown before p → AllByRecursion (λ e. get (names_of t d) e.0 ≡ Some e.1) es → is_sorted name_cmp es ≡ true
      → AreNew before p es
      → AreNext t before (paths_in most t p es)
  names_next most p d [] before below leads known all sorted new = tt
  names_next most p d (e ∷ es) before below leads known all sorted new =
      let both = and_parts (below_all name_cmp e.0 es) (is_sorted name_cmp es) sorted in
      let row : PathRow = (p ++ e.0 ∷ [], e.1) in
      let under = paths_below most t (p ++ e.0 ∷ []) e.1 in
      let one_new : AreNext t (before ++ row ∷ []) under =
      below (p ++ e.0 ∷ []) e.1 (before ++ row ∷ []) (leads_last t ROOT p e.0 d e.1 leads all.0)
      (inr (e.1, listed_back before (row ∷ []) (p ++ e.0 ∷ []) e.1 (inl (refl, refl))))
      (λ name more x there. elim (listed_in before (row ∷ []) ((p ++ e.0 ∷ []) ++ name ∷ more) x there) [
        | inl front ↦ new.0 (name ∷ more) x (rw (sym (append_assoc p (e.0 ∷ []) (name ∷ more))) front)
        | inr back ↦ elim back [ inl here ↦ not_itself (p ++ e.0 ∷ []) name more here.0 | inr none ↦ none ]
      ]) in
      let rest_new : AreNew ((before ++ row ∷ []) ++ under) p es =
      still_new (before ++ row ∷ []) p e.0 under es
      (λ q x there. let one = behind most (p ++ e.0 ∷ []) e.1 q x there in (one.0 ∷ one.1, one.2 ∙ append_assoc p (e.0 ∷ []) (one.0 ∷ one.1)))
      (not_below e.0 es both.0)
      (still_new before p e.0 (row ∷ []) es (λ q x there. elim there [ inl here ↦ ([], sym here.0) | inr none ↦ absurd none ])
      (not_below e.0 es both.0) new.1) in (
        record { above = p; name = e.0; path = refl; directory = d; leads = leads; named = all.0; earlier = known; new = λ x there. new.0 [] x there },
        next_both (before ++ row ∷ []) under (paths_in most t p es) one_new
            (names_next most p d es ((before ++ row ∷ []) ++ under) below leads
            (known_more (before ++ row ∷ []) under p (known_more before (row ∷ []) p known)) all.1 both.1 rest_new),
      )

  below_next : (most : ℕ) (p : Path) (d : ℕ) (before : List PathRow) → node_at t ROOT p ≡ Some d → IsKnown before p
      → ((name : List ℕ) (more : Path) (x : ℕ) → Listed before (p ++ name ∷ more) x → ⊥) → AreNext t before (paths_below most t p d)
  below_next zero p d before leads known new = tt
  below_next (suc most) p d before leads known new =
      names_next most p d (entries (names_of t d)) before (λ r m sofar. below_next most r m sofar) leads known (entries_got (names_of t d))
      (holds _ (entries_sorted (names_of t d))) (all_new before p (entries (names_of t d)) new)

  pub paths_next : AreNext t [] (paths_of t)
  paths_next = below_next (len t.nodes) [] ROOT [] refl (inl refl) (λ name more x none. none)

  -- ---- each path has a row

  abbrev HasEntry : List ℕ → ℕ → Entries → Type 0
  HasEntry name n [] = ⊥
  HasEntry name n (e ∷ es) = ((e.0 ≡ name) × (e.1 ≡ n)) ⊎ HasEntry name n es

  entry_found : (name : List ℕ) (n : ℕ) (es : Entries) → find name_cmp name es ≡ Some n → HasEntry name n es
  entry_found name n [] e = absurd cc
  entry_found name n (x ∷ es) e =
      elim (same_or_not name x.0) [
        | inl same ↦ inl (
          sym same,
          some_is x.1 n
              (sym (ap (λ (b : Bool). cond b (Some x.1) (find name_cmp name es)) (ap (eq_by_cmp name_cmp name) (sym same) ∙ tie_same name)) ∙ e),
        )
        | inr other ↦ inr (entry_found name n es (sym (ap (λ (b : Bool). cond b (Some x.1) (find name_cmp name es)) (tie_other name x.0 other)) ∙ e))
      ]

  found_in : (most : ℕ) (p : Path) (es : Entries) (name : List ℕ) (x : ℕ) (q : Path) (n : ℕ) → HasEntry name x es
      → ((p ++ name ∷ [] ≡ q) × (x ≡ n)) ⊎ Listed (paths_below most t (p ++ name ∷ []) x) q n → Listed (paths_in most t p es) q n
  found_in most p [] name x q n has here = absurd has
  found_in most p (e ∷ es) name x q n has here =
      let under = paths_below most t (p ++ e.0 ∷ []) e.1 in
      elim has [
        | inl same ↦ elim here [
          | inl row ↦ inl (ap (λ (last : List ℕ). p ++ last ∷ []) same.0 ∙ row.0, same.1 ∙ row.1)
          | inr below ↦ inr (listed_front under (paths_in most t p es) q n
              (subst (λ (last : List ℕ). Listed (paths_below most t (p ++ last ∷ []) e.1) q n) (sym same.0)
              (subst (λ (m : ℕ). Listed (paths_below most t (p ++ name ∷ []) m) q n) (sym same.1) below)))
        ]
        | inr later ↦ inr (listed_back under (paths_in most t p es) q n (found_in most p es name x q n later here))
      ]

  every_within : (most : ℕ) (p : Path) (name : List ℕ) (more : Path) (d n : ℕ) → length (name ∷ more) ≤ most → node_at t d (name ∷ more) ≡ Some n
      → Listed (paths_below most t p d) (p ++ name ∷ more) n
  every_within zero p name more d n few e = absurd (omega arith)
  every_within (suc most) p name [] d n few e =
      let one = bind_some (entry_of t d name) (λ x. node_at t x []) n e in
      found_in most p (entries (names_of t d)) name one.0 (p ++ name ∷ []) n
      (entry_found name one.0 (entries (names_of t d)) (sym (get-entries (names_of t d) name) ∙ one.1)) (inl (refl, some_is one.0 n one.2))
  every_within (suc most) p name (next ∷ more) d n few e =
      let one = bind_some (entry_of t d name) (λ x. node_at t x (next ∷ more)) n e in
      found_in most p (entries (names_of t d)) name one.0 (p ++ name ∷ next ∷ more) n
      (entry_found name one.0 (entries (names_of t d)) (sym (get-entries (names_of t d) name) ∙ one.1))
      (inr (subst (λ (q : Path). Listed (paths_below most t (p ++ name ∷ []) one.0) q n) (append_assoc p (name ∷ []) (next ∷ more))
      (every_within most (p ++ name ∷ []) next more one.0 n (omega arith) one.2)))

  pub every_path : IsTree t → (p : Path) (n : ℕ) → node_at t ROOT p ≡ Some n → (p ≡ []) ⊎ Listed (paths_of t) p n
  every_path h [] n e = inl refl
  every_path h (name ∷ more) n e =
      let deep = path_deepens t h (name ∷ more) ROOT n e in
      let most = depth_least t n in
      inr (every_within (len t.nodes) [] name more ROOT n (omega arith) e)

-- ---- the same rows, with the bytes of their paths

abbrev pub row_of : PathRow → Row
row_of row = (path_bytes row.0, row.1)

below_some : (bytes name : List ℕ) → 0 < length bytes → below_path bytes name ≡ bytes ++ 47 ∷ name
below_some [] name some = absurd (omega arith)
below_some (b ∷ bs) name some = refl

path_bytes-push : (first : List ℕ) (more : Path) (name : List ℕ) → path_bytes ((first ∷ more) ++ name ∷ []) ≡ path_bytes (first ∷ more) ++ 47 ∷ name
path_bytes-push first [] name = refl
path_bytes-push first (next ∷ more) name =
    ap (λ (bytes : List ℕ). first ++ 47 ∷ bytes) (path_bytes-push next more name) ∙ sym (append_assoc first (47 ∷ path_bytes (next ∷ more)) (47 ∷ name))

below_named : (p : Path) (name : List ℕ) → AllByRecursion IsName p → below_path (path_bytes p) name ≡ path_bytes (p ++ name ∷ [])
below_named [] name h = refl
below_named (first ∷ more) name h =
    below_some (path_bytes (first ∷ more)) name (named_bytes first more h.0.some) ∙ sym (path_bytes-push first more name)

names_push : (p : Path) (name : List ℕ) → AllByRecursion IsName p → IsName name → AllByRecursion IsName (p ++ name ∷ [])
names_push [] name h is = (is, tt)
names_push (first ∷ more) name h is = (h.0, names_push more name h.1 is)

module _ (t : Tree) (good : (d : ℕ) (name : List ℕ) (n : ℕ) → HasName t d name n → IsName name) where
  -- the names of a path are names
  pub names_along : (p : Path) (d n : ℕ) → node_at t d p ≡ Some n → AllByRecursion IsName p
  names_along [] d n e = tt
  names_along (name ∷ more) d n e =
      let one = bind_some (entry_of t d name) (λ x. node_at t x more) n e in
      (good d name one.0 one.1, names_along more one.0 n one.2)

  rows_in : (most : ℕ) (p : Path) (d : ℕ) (es : Entries)
      → ((q : Path) (m : ℕ) → AllByRecursion IsName q → listed most t (path_bytes q) m ≡ map row_of (paths_below most t q m))
      → AllByRecursion IsName p → AllByRecursion (λ e. get (names_of t d) e.0 ≡ Some e.1) es
      → flat_map (λ e. (below_path (path_bytes p) e.0, e.1) ∷ listed most t (below_path (path_bytes p) e.0) e.1) es ≡ map row_of (paths_in most t p es)
  rows_in most p d [] below names all = refl
  rows_in most p d (e ∷ es) below names all =
      let others = flat_map (λ x. (below_path (path_bytes p) x.0, x.1) ∷ listed most t (below_path (path_bytes p) x.0) x.1) es in
      let under = paths_below most t (p ++ e.0 ∷ []) e.1 in
      ap (λ (bytes : List ℕ). (bytes, e.1) ∷ listed most t bytes e.1 ++ others) (below_named p e.0 names)
      ∙ ap (λ (rows : List Row). (path_bytes (p ++ e.0 ∷ []), e.1) ∷ rows ++ others) (below (p ++ e.0 ∷ []) e.1 (names_push p e.0 names (good d e.0 e.1 all.0)))
      ∙ ap (λ (rows : List Row). (path_bytes (p ++ e.0 ∷ []), e.1) ∷ map row_of under ++ rows) (rows_in most p d es below names all.1)
      ∙ ap (λ (rows : List Row). (path_bytes (p ++ e.0 ∷ []), e.1) ∷ rows) (sym (map-append row_of under (paths_in most t p es)))

  rows_below : (most : ℕ) (p : Path) (d : ℕ) → AllByRecursion IsName p → listed most t (path_bytes p) d ≡ map row_of (paths_below most t p d)
  rows_below zero p d names = refl
  rows_below (suc most) p d names = rows_in most p d (entries (names_of t d)) (rows_below most) names (entries_got (names_of t d))

  pub paths_listing : listing t ≡ map row_of (paths_of t)
  paths_listing = rows_below (len t.nodes) [] ROOT tt

-- what holds of each row by bytes holds of this one
pub row_has : (P : Row → Type 0) (rows : List PathRow) (p : Path) (n : ℕ) → AllByRecursion P (map row_of rows) → Listed rows p n → P (path_bytes p, n)
row_has P [] p n all here = absurd here
row_has P (row ∷ rows) p n all here =
    elim here [
      | inl same ↦ subst (λ (m : ℕ). P (path_bytes p, m)) same.1 (subst (λ (q : Path). P (path_bytes q, row.1)) same.0 all.0)
      | inr later ↦ row_has P rows p n all.1 later
    ]
