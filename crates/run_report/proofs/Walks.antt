-- The nodes of a tree that are met from its root on.
--     grows_leaf, grows_directory      a node that was not met is met
--     grows_itself, grows_twice      nothing more, and more after more
--     names_met      once each of its names is met, a directory is done with
--     start_counted, start_closed      before a node was met
--     all_counted      where no directory is left, all is counted
use Rattle.std.proofs.Common.{◌≡◌, ◌≢◌, inl, inr, ℕ, zero, suc, ◌+◌, ◌<◌, ◌==◌, Bool, true, false, cond, not, if◌then◌else◌, List, [], ◌∷◌, ◌++◌, length, Option, None, Some, IsSome, is_some, refl, sym, ap, subst, ◌∙◌, append_assoc, length-append, arith}
use Rattle.std.specs.FinMap.{FinMap, empty, entries, find, get, get-empty, get-entries, insert, len, len-entries, remove}
use Rattle.std.specs.List.{AllByRecursion, slice_get}
use Rattle.std.specs.Ordering.{eq_by_cmp, nat_cmp}
use Rattle.std.proofs.lemmas.Bool.{false≢true, ne_eqb}
use Rattle.std.proofs.lemmas.Bool.Decides.{eqb_tells}
use Rattle.lists.proofs.Chosen.{some_is}
use Rattle.abi_types.specs.declared.node.Node.{Node}
use Rattle.abi_types.specs.declared.node.NodeKind.{NodeKind}
use Rattle.maps.specs.Maps.{get-insert-other, get-insert-same, get-remove-other, get-remove-same, get-retain, len-removed, same_around, same_numbers, total, total-remove, total_none, weight}
use Rattle.maps.specs.Names.{name_cmp}
use Rattle.tree_model.specs.declared.limits.TheConstants.{ROOT}
use Rattle.tree_model.specs.Counts.{names_count_none, one_for-other}
use Rattle.tree_model.specs.Facts.{counts_names, directory_of_name, names_of_name}
use Rattle.tree_model.specs.Tree.{HasName, IsTree, Tree, is_directory_kind, is_directory_node, links_in, links_of, names_of}
use Rattle.tree_document.proofs.Rows.{entries_got}
use Rattle.run_report.specs.TreeSizes.{bytes_count, files_count, named_bytes, named_file, one_of_kind, size_of_kind}
use Rattle.run_report.specs.Walks.{AreCounted, Grows, IsAmong, IsClosed, NamesMet, unmet}
use Rattle.run_report.specs.declared.tree_sizes.Walk.{Walk}

-- ---- numbers among others

among_front : (ms ns : List ℕ) (n : ℕ) → IsAmong ms n → IsAmong (ms ++ ns) n
among_front [] ns n h = absurd h
among_front (m ∷ ms) ns n h = elim h [ inl here ↦ inl here | inr later ↦ inr (among_front ms ns n later) ]

among_last : (ms : List ℕ) (n : ℕ) → IsAmong (ms ++ n ∷ []) n
among_last [] n = inl refl
among_last (m ∷ ms) n = inr (among_last ms n)

-- what is among these and a last one is the last one or among these
among_turned : (ms : List ℕ) (d n : ℕ) → IsAmong (ms ++ d ∷ []) n → IsAmong (d ∷ ms) n
among_turned [] d n h = h
among_turned (m ∷ ms) d n h =
    elim h [
      | inl here ↦ inr (inl here)
      | inr later ↦ elim (among_turned ms d n later) [ inl last ↦ inl last | inr among ↦ inr (inr among) ]
    ]

-- ---- a node that is met

is_none_of : {A : Type 0} (o : Option A) → is_some o ≡ false → o ≡ None
is_none_of None h = refl
is_none_of (Some x) h = absurd (cc)

module _ {X : Type 0} (t : Tree) (met : FinMap nat_cmp X) where
  unmet_at : (q : ℕ) → get (unmet t met) q ≡ cond (not (is_some (get met q))) (get t.nodes q) None
  unmet_at q = get-retain t.nodes (λ q. not (is_some (get met q))) q

  unmet_here : (k : ℕ) → get met k ≡ None → get (unmet t met) k ≡ get t.nodes k
  unmet_here k new = unmet_at k ∙ ap (λ (o : Option X). cond (not (is_some o)) (get t.nodes k) None) new

module _ {X : Type 0} (t : Tree) (met : FinMap nat_cmp X) (k : ℕ) (x : X) where
  unmet-insert : unmet t (insert met k x) ≡ remove (unmet t met) k
  unmet-insert =
      same_around _ _ k
      (unmet_at t (insert met k x) k ∙ ap (λ (o : Option X). cond (not (is_some o)) (get t.nodes k) None) (get-insert-same met k x)
      ∙ sym (get-remove-same (unmet t met) k))
      (λ q other. unmet_at t (insert met k x) q ∙ ap (λ (o : Option X). cond (not (is_some o)) (get t.nodes q) None) (get-insert-other met k x q other)
      ∙ sym (get-remove-other (unmet t met) k q other ∙ unmet_at t met q))

-- what is counted of a node with a name
named_file_is : (node : Node) → node.links ≢ 0 → named_file node ≡ one_of_kind node.kind
named_file_is node named = ap (λ b. if b then 0 else one_of_kind node.kind) (ne_eqb node.links 0 named)

named_bytes_is : (node : Node) → node.links ≢ 0 → named_bytes node ≡ size_of_kind node.kind
named_bytes_is node named = ap (λ b. if b then 0 else size_of_kind node.kind) (ne_eqb node.links 0 named)

module _ (t : Tree) (before after : Walk) (n : ℕ) (node : Node) (there : get t.nodes n ≡ Some node) (new : is_some (get before.met n) ≡ false)
    (met_is : after.met ≡ insert before.met n tt) where
  none : get before.met n ≡ None
  none = is_none_of (get before.met n) new

  pub met_here : IsSome (get after.met n)
  met_here = ap (λ (m : FinMap nat_cmp (Unit {0})). is_some (get m n)) met_is ∙ ap is_some (get-insert-same before.met n tt)

  met_other : (q : ℕ) → q ≢ n → is_some (get after.met q) ≡ is_some (get before.met q)
  met_other q other = ap (λ (m : FinMap nat_cmp (Unit {0})). is_some (get m q)) met_is ∙ ap is_some (get-insert-other before.met n tt q other)

  met_stays : (q : ℕ) → IsSome (get before.met q) → IsSome (get after.met q)
  met_stays q h =
      elim (eqb_tells q n) [
        | inl same ↦ subst (λ (m : ℕ). IsSome (get after.met m)) (sym same.1) met_here
        | inr other ↦ met_other q other.1 ∙ h
      ]

  unmet_is : unmet t after.met ≡ remove (unmet t before.met) n
  unmet_is = ap (unmet t) met_is ∙ unmet-insert t before.met n tt

  fewer_unmet : len (unmet t after.met) + 1 ≡ len (unmet t before.met)
  fewer_unmet = ap (λ (m : FinMap nat_cmp Node). len m + 1) unmet_is ∙ len-removed (unmet t before.met) n node (unmet_here t before.met n none ∙ there)

  total_left : (f : Node → ℕ) → total f (unmet t after.met) + f node ≡ total f (unmet t before.met)
  total_left f =
      let sums = total-remove f (unmet t before.met) n in
      let here : weight f (get (unmet t before.met) n) ≡ f node = ap (weight f) (unmet_here t before.met n none ∙ there) in
      let rest : total f (unmet t after.met) ≡ total f (remove (unmet t before.met) n) = ap (total f) unmet_is in
      omega arith

  counted_more : links_of t n ≢ 0 → after.files ≡ before.files + one_of_kind node.kind → after.bytes ≡ before.bytes + size_of_kind node.kind
      → AreCounted t before → AreCounted t after
  counted_more named files bytes h =
      let linked : node.links ≢ 0 = λ bare. named (ap links_in there ∙ bare) in
      let one = named_file_is node linked in
      let size = named_bytes_is node linked in
      let files_left = total_left named_file in
      let bytes_left = total_left named_bytes in
      let files_before = h.files in
      let bytes_before = h.bytes in
      record { files = omega arith; bytes = omega arith }

  closed_more : (ms ns : List ℕ) → ((q : ℕ) → IsAmong ms q → IsAmong ns q) → ((name : List ℕ) (m : ℕ) → HasName t n name m → IsAmong ns n)
      → IsClosed t before.met ms → IsClosed t after.met ns
  closed_more ms ns more own closed d name m met named =
      elim (eqb_tells d n) [
        | inl same ↦ inr (subst (IsAmong ns) (sym same.1) (own name m (subst (λ (p : ℕ). HasName t p name m) same.1 named)))
        | inr other ↦ elim (closed d name m (sym (met_other d other.1) ∙ met) named) [
          | inl h ↦ inl (met_stays m h)
          | inr among ↦ inr (more d among)
        ]
      ]

  module _ (named : links_of t n ≢ 0) (files : after.files ≡ before.files + one_of_kind node.kind) (bytes : after.bytes ≡ before.bytes + size_of_kind node.kind) where
    -- a node that is no directory
    pub grows_leaf : IsTree t → is_directory_kind node.kind ≡ false → after.left.items ≡ before.left.items → Grows t before after
    grows_leaf tree leaf left = record {
      met = met_stays;
      counted = counted_more named files bytes;
      closed = λ more closed. closed_more (more ++ before.left.items) (more ++ after.left.items)
          (λ q among. subst (λ (ms : List ℕ). IsAmong (more ++ ms) q) (sym left) among)
          (λ name m h. absurd (false≢true (sym leaf ∙ sym (ap is_directory_node there) ∙ directory_of_name t tree n name m h))) closed;
      fewer = let less = fewer_unmet in let same = ap length left in omega arith;
    }

    -- a directory, which is left to be gone through
    pub grows_directory : after.left.items ≡ before.left.items ++ n ∷ [] → Grows t before after
    grows_directory left = record {
      met = met_stays;
      counted = counted_more named files bytes;
      closed = λ more closed.
          let all : more ++ after.left.items ≡ (more ++ before.left.items) ++ n ∷ [] =
          ap (λ ms. more ++ ms) left ∙ sym (append_assoc more before.left.items (n ∷ [])) in
          closed_more (more ++ before.left.items) (more ++ after.left.items)
          (λ q among. subst (λ (ms : List ℕ). IsAmong ms q) (sym all) (among_front (more ++ before.left.items) (n ∷ []) q among))
          (λ name m h. subst (λ (ms : List ℕ). IsAmong ms n) (sym all) (among_last (more ++ before.left.items) n)) closed;
      fewer = let less = fewer_unmet in let one = ap length left ∙ length-append before.left.items (n ∷ []) in omega arith;
    }

-- ---- more after more

pub grows_itself : (t : Tree) (walk : Walk) → Grows t walk walk
grows_itself t walk = record { met = λ n h. h; counted = λ h. h; closed = λ more h. h; fewer = omega arith }

pub grows_twice : (t : Tree) (first between last : Walk) → Grows t first between → Grows t between last → Grows t first last
grows_twice t first between last g h = record {
  met = λ n met. h.met n (g.met n met);
  counted = λ counted. h.counted (g.counted counted);
  closed = λ more closed. h.closed more (g.closed more closed);
  fewer = let one = g.fewer in let more = h.fewer in omega arith;
}

-- ---- the names in a directory

-- what is found among entries stands at a place
found_at : (es : List (List ℕ × ℕ)) (name : List ℕ) (n : ℕ) → find name_cmp name es ≡ Some n
    → (k : ℕ) × (key : List ℕ) × (k < length es) × (slice_get es k ≡ Some (key, n))
found_at [] name n h = absurd (cc)
found_at (e ∷ es) name n h =
    elim (eq_by_cmp name_cmp name e.0) as (λ b. cond b (Some e.1) (find name_cmp name es) ≡ Some n
    → (k : ℕ) × (key : List ℕ) × (k < length (e ∷ es)) × (slice_get (e ∷ es) k ≡ Some (key, n))) [
      | true ↦ λ first. (0, e.0, omega arith, here first)
      | false ↦ λ later. let found = found_at es name n later in (suc found.0, found.1, omega arith, found.3)
    ] h
  where
    here : Some e.1 ≡ Some n → Some e ≡ Some (e.0, n)
    here first = let same : e.1 ≡ n = cc in ap (λ m. Some (e.0, m)) same

all_at : {A : Type 0} (P : A → Type 0) (es : List A) → AllByRecursion P es → (k : ℕ) (e : A) → slice_get es k ≡ Some e → P e
all_at P [] all k e h = absurd (cc)
all_at P (x ∷ es) all zero e h = let same : x ≡ e = cc in subst P same all.0
all_at P (x ∷ es) all (suc k) e h = all_at P es all.1 k e h

-- an entry at a place is a name
pub named_at : (t : Tree) (d k : ℕ) (name : List ℕ) (n : ℕ) → slice_get (entries (names_of t d)) k ≡ Some (name, n) → HasName t d name n
named_at t d k name n h = all_at (λ (e : List ℕ × ℕ). get (names_of t d) e.0 ≡ Some e.1) (entries (names_of t d)) (entries_got (names_of t d)) k (name, n) h

module _ (t : Tree) (d : ℕ) (before : Walk) where
  pub none_met : NamesMet t d before 0 before
  none_met = record { grows = grows_itself t before; names = λ k name n early. absurd (omega arith) }

  -- one name more
  pub next_met : (place : ℕ) (between after : Walk) (name : List ℕ) (n : ℕ) → slice_get (entries (names_of t d)) place ≡ Some (name, n)
      → IsSome (get after.met n) → Grows t between after → NamesMet t d before place between → NamesMet t d before (place + 1) after
  next_met place between after name n here met grows h = record {
    grows = grows_twice t before between after h.grows grows;
    names = λ k other m early is. elim (eqb_tells k place) [
      | inl same ↦
          let both : Some (name, n) ≡ Some (other, m) = sym here ∙ ap (slice_get (entries (names_of t d))) (sym same.1) ∙ is in
          subst (λ (q : ℕ). IsSome (get after.met q)) (ap (λ (e : List ℕ × ℕ). e.1) (some_is (name, n) (other, m) both)) met
      | inr apart ↦ grows.met m (h.names k other m (before_last k place early apart.1) is)
    ];
  } where
    before_last : (k place : ℕ) → k < place + 1 → k ≢ place → k < place
    before_last k place early apart = omega arith

  -- no name at a place
  pub next_none : (place : ℕ) (between : Walk) → slice_get (entries (names_of t d)) place ≡ None → NamesMet t d before place between → NamesMet t d before (place + 1) between
  next_none place between here h = record {
    grows = h.grows;
    names = λ k other m early is. elim (eqb_tells k place) [
      | inl same ↦ absurd (no_entry other m (sym here ∙ ap (slice_get (entries (names_of t d))) (sym same.1) ∙ is))
      | inr apart ↦ h.names k other m (before_last k place early apart.1) is
    ];
  } where
    no_entry : (a : List ℕ) (p : ℕ) → ◌≡◌ {A = Option (List ℕ × ℕ)} None (Some (a, p)) → ⊥
    no_entry a p e = cc

    before_last : (k place : ℕ) → k < place + 1 → k ≢ place → k < place
    before_last k place early apart = omega arith

  -- all names are met
  pub names_met : (place : ℕ) (after : Walk) → place ≡ len (names_of t d) → NamesMet t d before place after
      → IsClosed t before.met (d ∷ before.left.items) → IsClosed t after.met after.left.items
  names_met place after all h closed p name n met named =
      elim (h.grows.closed (d ∷ []) closed p name n met named) [
        | inl is ↦ inl is
        | inr among ↦ elim among [
          | inl same ↦
              let found = found_at (entries (names_of t d)) name n
              (sym (get-entries (names_of t d) name) ∙ subst (λ (q : ℕ). HasName t q name n) (sym same) named) in
              let size = len-entries (names_of t d) in
              inl (h.names found.0 found.1 n (omega arith) found.3)
          | inr later ↦ inr later
        ]
      ]

-- the directory whose names are gone through next is the last one
pub closed_turned : {X : Type 0} (t : Tree) (met : FinMap nat_cmp X) (left rest : List ℕ) (d : ℕ) → left ≡ rest ++ d ∷ [] → IsClosed t met left → IsClosed t met (d ∷ rest)
closed_turned t met left rest d is closed p name n h named =
    elim (closed p name n h named) [
      | inl there ↦ inl there
      | inr among ↦ inr (among_turned rest d p (subst (λ (ms : List ℕ). IsAmong ms p) is among))
    ]

-- ---- the whole tree

module _ (t : Tree) (walk : Walk) (bare : walk.met ≡ empty) where
  nothing_met : (q : ℕ) → get walk.met q ≡ None
  nothing_met q = ap (λ (m : FinMap nat_cmp (Unit {0})). get m q) bare ∙ get-empty nat_cmp q

  all_unmet : unmet t walk.met ≡ t.nodes
  all_unmet = same_numbers (unmet t walk.met) t.nodes (λ q. unmet_here t walk.met q (nothing_met q))

  pub start_counted : walk.files ≡ 0 → walk.bytes ≡ 0 → AreCounted t walk
  start_counted files bytes =
      let one = ap (total named_file) all_unmet in
      let size = ap (total named_bytes) all_unmet in
      record { files = omega arith; bytes = omega arith }

  pub start_closed : (left : List ℕ) → IsClosed t walk.met left
  start_closed left d name n met named = absurd (false≢true (sym (ap is_some (nothing_met d)) ∙ met))

module _ (t : Tree) (tree : IsTree t) (walk : Walk) (root : IsSome (get walk.met ROOT)) (closed : IsClosed t walk.met []) where
  -- a directory with a name in it has a name, or is the root
  held : (d : ℕ) (name : List ℕ) (n : ℕ) → HasName t d name n → links_of t d ≢ 0
  held d name n named bare = names_of_name t d name n named (tree.bare d (directory_of_name t tree d name n named) bare)

  -- each node with a name was met: a name of it would else be in a directory that was not met, and lower
  met_below : (h : ℕ) (n : ℕ) → tree.acyclic.height n < h → links_of t n ≢ 0 → IsSome (get walk.met n)
  met_below zero n low named = absurd (omega arith)
  met_below (suc h) n low named =
      elim (is_some (get walk.met n)) as (λ b. is_some (get walk.met n) ≡ b → is_some (get walk.met n) ≡ true) [
        | true ↦ λ is. is
        | false ↦ λ missing.
            let no_name : (d : ℕ) (name : List ℕ) → HasName t d name n → ⊥ = λ d name e.
            let rises = tree.acyclic.rises d name n e in
            elim (closed d name n (met_below h d (omega arith) (held d name n e)) e) [
              | inl is ↦ false≢true (sym missing ∙ is)
              | inr among ↦ among
            ] in
            let apart : n ≢ ROOT = λ same. false≢true (sym missing ∙ ap (λ (m : ℕ). is_some (get walk.met m)) same ∙ root) in
            let count = counts_names t tree n in
            let none = names_count_none t n no_name in
            let other = one_for-other ROOT n apart in
            absurd (named (omega arith))
      ] refl

  met_all : (n : ℕ) → links_of t n ≢ 0 → IsSome (get walk.met n)
  met_all n named = met_below (suc (tree.acyclic.height n)) n (omega arith) named

  -- what was not met has no name, and weighs nothing
  weighs_nothing : (f : NodeKind → ℕ) (q : ℕ) → weight (λ (node : Node). if node.links == 0 then 0 else f node.kind) (get (unmet t walk.met) q) ≡ 0
  weighs_nothing f q =
      elim (is_some (get walk.met q)) as (λ b. is_some (get walk.met q) ≡ b → weight (λ (node : Node). if node.links == 0 then 0 else f node.kind) (get (unmet t walk.met) q) ≡ 0) [
        | true ↦ λ is. ap (weight (λ (node : Node). if node.links == 0 then 0 else f node.kind)) (unmet_at t walk.met q ∙ ap (λ b. cond (not b) (get t.nodes q) None) is)
        | false ↦ λ missing.
            ap (weight (λ (node : Node). if node.links == 0 then 0 else f node.kind)) (unmet_at t walk.met q ∙ ap (λ b. cond (not b) (get t.nodes q) None) missing)
            ∙ nameless missing (get t.nodes q) refl
      ] refl
    where
      no_links : is_some (get walk.met q) ≡ false → (node : Node) → get t.nodes q ≡ Some node → (b : Bool) → (node.links == 0) ≡ b → (if b then 0 else f node.kind) ≡ 0
      no_links missing node there true is = refl
      no_links missing node there false is =
          absurd (false≢true (sym missing ∙ met_all q (λ bare. false≢true (sym is ∙ ap (λ m. m == 0) (sym (ap links_in there) ∙ bare)))))

      nameless : is_some (get walk.met q) ≡ false → (o : Option Node) → get t.nodes q ≡ o → weight (λ (node : Node). if node.links == 0 then 0 else f node.kind) o ≡ 0
      nameless missing None there = refl
      nameless missing (Some node) there = no_links missing node there (node.links == 0) refl

  pub all_counted : AreCounted t walk → (walk.files ≡ files_count t) × (walk.bytes ≡ bytes_count t)
  all_counted h =
      let files = total_none named_file (unmet t walk.met) (weighs_nothing one_of_kind) in
      let bytes = total_none named_bytes (unmet t walk.met) (weighs_nothing size_of_kind) in
      let files_are = h.files in
      let bytes_are = h.bytes in
      (omega arith, omega arith)
