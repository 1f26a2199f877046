-- The names of a tree in order, as an iteration over directories meets them.
use Rattle.std.proofs.Common.{◌≡◌, ◌≢◌, ℕ, zero, suc, ◌+◌, ◌<◌, ◌≤◌, Bool, true, false, cond, T, List, [], ◌∷◌, ◌++◌, length, Option, Some, None, is_some, refl, sym, ap, ◌∙◌, append_assoc, arith}
use Rattle.std.proofs.lemmas.Bool.{and_parts, false≢true}
use Rattle.std.proofs.lemmas.Cmp.{nat_list_cmp_total}
use Rattle.std.proofs.lemmas.List.{append-nil}
use Rattle.std.specs.Cmp.{tied_itself}
use Rattle.std.specs.Ordering.{is_lt}
use Rattle.std.specs.FinMap.{empty, entries, len-empty, len-entries, entries_sorted, find, get, get-entries, is_sorted, len, retain_keys}
use Rattle.std.specs.FinMap.Entries.{below_all}
use Rattle.std.specs.List.{AllByRecursion, flat_map}
use Rattle.maps.specs.Names.{Names, name_cmp, tie_other, tie_same}
use Rattle.maps.specs.Closure.{member, total_below, total_ones}
use Rattle.maps.specs.Maps.{get-retain, total, weight}
use Rattle.abi_types.specs.declared.node.Node.{Node}
use Rattle.tree_model.specs.Climbing.{climb_shortens, depth}
use Rattle.abi_types.specs.declared.node.NodeKind.{NodeKind}
use Rattle.abi_types.specs.declared.node.NodeKind.TheVariants as kind
use Rattle.std.specs.Prelude.{IfNone}
use Rattle.tree_model.specs.declared.limits.TheConstants.{ROOT}
use Rattle.tree_model.specs.Tree.{IsTree, Tree, below, is_directory_kind, is_directory_node, names_in, names_of}
use Rattle.tree_document.specs.declared.printing.Frame.{Frame}
use Rattle.tree_document.specs.Left.{Entries, reach, rows_left, rows_of}
use Rattle.tree_document.specs.Printing.{Row, below_path, listed, listing}

-- ---- a map's entries are what it answers

pub holds : (b : Bool) → T b → b ≡ true
holds true h = refl
holds false h = absurd h

-- a name below all others is none of them
pub not_below : (x : List ℕ) (es : Entries) → below_all name_cmp x es ≡ true → AllByRecursion (λ e. e.0 ≢ x) es
not_below x [] h = tt
not_below x (e ∷ es) h =
    let both = and_parts (is_lt (name_cmp x e.0)) (below_all name_cmp x es) h in
    (λ same. equal_less (sym (ap is_lt (ap (name_cmp x) same ∙ tied_itself nat_list_cmp_total x)) ∙ both.0), not_below x es both.1)
  where
    equal_less : false ≡ true → ⊥
    equal_less k = cc

found_behind : (x : List ℕ × ℕ) (all es : Entries) → AllByRecursion (λ e. e.0 ≢ x.0) es → AllByRecursion (λ e. find name_cmp e.0 all ≡ Some e.1) es
    → AllByRecursion (λ e. find name_cmp e.0 (x ∷ all) ≡ Some e.1) es
found_behind x all [] others h = tt
found_behind x all (e ∷ es) others h =
    (ap (λ (b : Bool). cond b (Some x.1) (find name_cmp e.0 all)) (tie_other e.0 x.0 others.0) ∙ h.0, found_behind x all es others.1 h.1)

found_all : (es : Entries) → is_sorted name_cmp es ≡ true → AllByRecursion (λ e. find name_cmp e.0 es ≡ Some e.1) es
found_all [] h = tt
found_all (e ∷ es) h =
    let both = and_parts (below_all name_cmp e.0 es) (is_sorted name_cmp es) h in
    (ap (λ (b : Bool). cond b (Some e.1) (find name_cmp e.0 es)) (tie_same e.0), found_behind e es es (not_below e.0 es both.0) (found_all es both.1))

all_got : (m : Names ℕ) (es : Entries) → AllByRecursion (λ e. find name_cmp e.0 (entries m) ≡ Some e.1) es → AllByRecursion (λ e. get m e.0 ≡ Some e.1) es
all_got m [] h = tt
all_got m (e ∷ es) h = (get-entries m e.0 ∙ h.0, all_got m es h.1)

pub entries_got : (m : Names ℕ) → AllByRecursion (λ e. get m e.0 ≡ Some e.1) (entries m)
entries_got m = all_got m (entries m) (found_all (entries m) (holds _ (entries_sorted m)))

-- ---- how deep a node is

kept_weight : (b : Bool) (o : Option Node) → weight (λ _. 1) (cond b o None) ≤ weight (λ _. 1) o
kept_weight true o = omega arith
kept_weight false o = omega arith

-- a node is below no more nodes than there are
pub depth_least : (t : Tree) (n : ℕ) → depth t n ≤ len t.nodes
unfolding depth
depth_least t n =
    let kept = retain_keys t.nodes (λ a. member n (below t a)) in
    let most : total (λ _. 1) kept ≤ total (λ _. 1) t.nodes = total_below (λ _. 1) (λ _. 1) kept t.nodes (λ q.
    let left = ap (weight (λ _. 1)) (get-retain t.nodes (λ a. member n (below t a)) q) in
    let less = kept_weight (member n (below t q)) (get t.nodes q) in
    omega arith) in
    let few : total (λ _. 1) kept ≡ len kept = total_ones kept in
    let many : total (λ _. 1) t.nodes ≡ len t.nodes = total_ones t.nodes in
    omega arith

-- ---- the rows below a name

no_entries : (es : Entries) → length es ≡ 0 → es ≡ []
no_entries [] h = refl
no_entries (e ∷ es) h = absurd (omega arith)

module _ (t : Tree) (h : IsTree t) where
  -- each name leads one deeper
  abbrev AreDeeper : ℕ → Entries → Type 0
  AreDeeper n es = AllByRecursion (λ e. depth t n < depth t e.1) es

  deeper_all : (n : ℕ) (es : Entries) → AllByRecursion (λ e. get (names_of t n) e.0 ≡ Some e.1) es → AreDeeper n es
  deeper_all n [] all = tt
  deeper_all n (e ∷ es) all = (climb_shortens t h n e.0 e.1 all.0, deeper_all n es all.1)

  deeper : (n : ℕ) → AreDeeper n (entries (names_of t n))
  deeper n = deeper_all n (entries (names_of t n)) (entries_got (names_of t n))

  -- no names lead on from a node as deep as any
  none_deeper : (n : ℕ) (es : Entries) → AreDeeper n es → len t.nodes ≤ depth t n → es ≡ []
  none_deeper n [] all far = refl
  none_deeper n (e ∷ es) all far = let most = depth_least t e.1 in let more = all.0 in absurd (omega arith)

  alike : (f n : ℕ) (path : List ℕ) (other : List ℕ → ℕ → List Row) (es : Entries) → AreDeeper n es
      → ((p : List ℕ) (m : ℕ) → depth t n < depth t m → listed f t p m ≡ other p m)
      → flat_map (λ e. (below_path path e.0, e.1) ∷ listed f t (below_path path e.0) e.1) es
      ≡ flat_map (λ e. (below_path path e.0, e.1) ∷ other (below_path path e.0) e.1) es
  alike f n path other [] all same = refl
  alike f n path other (e ∷ es) all same =
      ap (λ (rows : List Row). (below_path path e.0, e.1) ∷ rows ++ flat_map (λ e. (below_path path e.0, e.1) ∷ listed f t (below_path path e.0) e.1) es)
      (same (below_path path e.0) e.1 all.0)
      ∙ ap (λ (rows : List Row). (below_path path e.0, e.1) ∷ other (below_path path e.0) e.1 ++ rows) (alike f n path other es all.1 same)

  -- chains that are long enough give the same rows
  enough_of : (f g : ℕ) (path : List ℕ) (n : ℕ) → len t.nodes ≤ f + depth t n → len t.nodes ≤ g + depth t n → g ≤ f → listed f t path n ≡ listed g t path n
  enough_of zero zero path n far near less = refl
  enough_of zero (suc g) path n far near less = absurd (omega arith)
  enough_of (suc f) zero path n far near less =
      ap (flat_map (λ e. (below_path path e.0, e.1) ∷ listed f t (below_path path e.0) e.1)) (none_deeper n (entries (names_of t n)) (deeper n) (omega arith))
  enough_of (suc f) (suc g) path n far near less =
      alike f n path (listed g t) (entries (names_of t n)) (deeper n) (λ p m more. enough_of f g p m (omega arith) (omega arith) (omega arith))

  pub enough : (f : ℕ) (path : List ℕ) (n : ℕ) → len t.nodes ≤ f + depth t n → listed f t path n ≡ rows_of t path (entries (names_of t n))
  enough zero path n far = sym (ap (rows_of t path) (none_deeper n (entries (names_of t n)) (deeper n) (omega arith)))
  enough (suc f) path n far =
      alike f n path (λ p m. listed (reach t m) t p m) (entries (names_of t n)) (deeper n)
      (λ p m more. enough_of f (reach t m) p m (omega arith) (omega arith) (omega arith))

  -- the rows of a name are its own, and those of the names below it
  pub reach_rows : (path : List ℕ) (n : ℕ) → listed (reach t n) t path n ≡ rows_of t path (entries (names_of t n))
  reach_rows path n = let most = depth_least t n in enough (reach t n) path n (omega arith)

  -- the rows of all names
  pub listing_rows : listing t ≡ rows_of t [] (entries (names_of t ROOT))
  listing_rows = enough (len t.nodes) [] ROOT (omega arith)

  -- what is no directory has no names
  pub no_directory : (n : ℕ) (o : Option Node) → o ≡ get t.nodes n → is_directory_node o ≡ false → entries (names_of t n) ≡ []
  no_directory n o is other =
      elim (get t.names n) as (λ names. get t.names n ≡ names → entries (names_in names) ≡ []) [
        | None ↦ λ _. no_entries (entries (empty {X = ℕ} {R = name_cmp})) (sym (len-entries (empty {X = ℕ} {R = name_cmp})) ∙ len-empty name_cmp ℕ)
        | Some names ↦ λ e. absurd (false≢true (sym other ∙ ap is_directory_node is ∙ (h.directories n).0 (ap is_some e)))
      ] refl

pub other_kind : (k : NodeKind) → (k ≡ kind.Directory → ⊥) → is_directory_kind k ≡ false
other_kind (kind.File bytes) other = refl
other_kind kind.Directory other = absurd (other refl)
other_kind (kind.Link text) other = refl

pub none_says : {A : Type 0} (P : Type 0) (o : Option A) → P → IfNone o P
none_says P None h = h
none_says P (Some x) h = tt

-- ---- directories one behind the other

pub rows_left_push : (t : Tree) (frames : List Frame) (frame : Frame)
    → rows_left t (frames ++ frame ∷ []) ≡ rows_of t frame.path.items frame.names ++ rows_left t frames
rows_left_push t [] frame = sym (append-nil (rows_of t frame.path.items frame.names))
rows_left_push t (first ∷ frames) frame =
    ap (λ (rows : List Row). rows ++ rows_of t first.path.items first.names) (rows_left_push t frames frame)
    ∙ append_assoc (rows_of t frame.path.items frame.names) (rows_left t frames) (rows_of t first.path.items first.names)
