-- The tree that the records of some rows made, as a copy of that part of the tree whose rows they are.
--     IsCopy t rows m      what the rows' records made is a copy
--     directory_copy      where the next row's record makes its name
--     first_row      the row of a node's first name
use Rattle.std.proofs.Common.{◌≡◌, ◌≢◌, inl, inr, ℕ, ◌<◌, ◌≤◌, Bool, true, false, not, ◌&&◌, eqb, leb, if◌then◌else◌, List, [], ◌∷◌, ◌++◌, map, Option, Some, None, IsSome, is_none, is_some, refl, sym, ap, ◌∙◌, arith}
use Rattle.std.proofs.lemmas.Bool.{false≢true, ne_eqb}
use Rattle.std.proofs.lemmas.Bool.Decides.{eqb_tells, leb_tells}
use Rattle.std.proofs.lemmas.List.{map-append}
use Rattle.std.specs.FinMap.{get}
use Rattle.lists.proofs.Chosen.{some_is}
use Rattle.abi_types.specs.declared.node.Node.{Node}
use Rattle.abi_types.specs.declared.node.NodeKind.{NodeKind}
use Rattle.abi_types.specs.declared.node.NodeKind.TheVariants as kind
use Rattle.tree_model.specs.declared.limits.TheConstants.{MOST_LINKS, ROOT}
use Rattle.tree_model.specs.Changes.{Faults, first_fault, is_file, is_file_kind, is_file_node, link_faults, make_faults}
use Rattle.tree_model.specs.Facts.{directory_of_name, directory_there}
use Rattle.tree_model.specs.Faults.{NoneHolds}
use Rattle.tree_model.specs.Tree.{HasName, IsTree, Tree, entry_of, is_directory, is_directory_kind, is_directory_node, links_of}
use Rattle.tree_records.specs.Paths.{IsPath, Path, path_bytes}
use Rattle.tree_document.specs.Building.{Making, node_at}
use Rattle.tree_document.specs.Printing.{Row, first_in}
use Rattle.tree_document.specs.SameTrees.{kind_in, kind_of}
use Rattle.tree_document.proofs.BackCounts.{rows_count}
use Rattle.tree_document.proofs.BackPaths.{image, path_there}
use Rattle.tree_document.proofs.BackRows.{IsNext, Listed, PathRow, name_new, row_of}
use Rattle.tree_document.proofs.StartTrees.{IsFilled}
use Rattle.tree_document.proofs.Texts.{first_here, first_other, first_stays}

-- ---- nodes of one kind

abbrev directory_by : Option NodeKind → Bool
directory_by None = false
directory_by (Some k) = is_directory_kind k

directory_kind : (o : Option Node) → is_directory_node o ≡ directory_by (kind_in o)
directory_kind None = refl
directory_kind (Some node) = refl

abbrev file_by : Option NodeKind → Bool
file_by None = false
file_by (Some k) = is_file_kind k

file_kind : (o : Option Node) → is_file_node o ≡ file_by (kind_in o)
file_kind None = refl
file_kind (Some node) = refl

pub same_directory : (t u : Tree) (n k : ℕ) → kind_of t n ≡ kind_of u k → is_directory t n ≡ is_directory u k
same_directory t u n k e = directory_kind (get t.nodes n) ∙ ap directory_by e ∙ sym (directory_kind (get u.nodes k))

pub same_file : (t u : Tree) (n k : ℕ) → kind_of t n ≡ kind_of u k → is_file t n ≡ is_file u k
same_file t u n k e = file_kind (get t.nodes n) ∙ ap file_by e ∙ sym (file_kind (get u.nodes k))

pub kind_file : (t : Tree) (n : ℕ) (k : NodeKind) → kind_of t n ≡ Some k → is_file t n ≡ is_file_kind k
kind_file t n k e = file_kind (get t.nodes n) ∙ ap file_by e

pub file_there : (t : Tree) (n : ℕ) → is_file t n ≡ true → IsSome (get t.nodes n)
file_there t n file =
    elim (get t.nodes n) as (λ o. is_file_node o ≡ true → IsSome o) [
      | None ↦ λ none. absurd (false≢true none)
      | Some node ↦ λ _. refl
    ] file

kind_directory : (k : NodeKind) → is_file_kind k ≡ true → is_directory_kind k ≡ false
kind_directory (kind.File bytes) file = refl
kind_directory kind.Directory file = absurd (false≢true file)
kind_directory (kind.Link text) file = refl

pub file_directory : (t : Tree) (n : ℕ) → is_file t n ≡ true → is_directory t n ≡ false
file_directory t n file =
    elim (get t.nodes n) as (λ o. is_file_node o ≡ true → is_directory_node o ≡ false) [
      | None ↦ λ none. absurd (false≢true none)
      | Some node ↦ kind_directory node.kind
    ] file

-- ---- first names among rows

module _ (rows : List PathRow) (p : Path) (n : ℕ) where
  pushed : (m : ℕ) → first_in (map row_of (rows ++ (p, n) ∷ [])) m ≡ first_in (map row_of rows ++ (path_bytes p, n) ∷ []) m
  pushed m = ap (λ (rs : List Row). first_in rs m) (map-append row_of rows ((p, n) ∷ []))

  pub firsts_stay : (m : ℕ) (path : List ℕ) → first_in (map row_of rows) m ≡ Some path → first_in (map row_of (rows ++ (p, n) ∷ [])) m ≡ Some path
  firsts_stay m path e = pushed m ∙ first_stays (map row_of rows) ((path_bytes p, n) ∷ []) m path e

  pub firsts_other : (m : ℕ) → n ≢ m → first_in (map row_of (rows ++ (p, n) ∷ [])) m ≡ first_in (map row_of rows) m
  firsts_other m other = pushed m ∙ first_other (map row_of rows) (path_bytes p) n m other

  pub firsts_here : first_in (map row_of rows) n ≡ None → first_in (map row_of (rows ++ (p, n) ∷ [])) n ≡ Some (path_bytes p)
  firsts_here e = pushed n ∙ first_here (map row_of rows) (path_bytes p) n e

  pub firsts_more : (m : ℕ) → IsSome (first_in (map row_of rows) m) → IsSome (first_in (map row_of (rows ++ (p, n) ∷ [])) m)
  firsts_more m some =
      elim (first_in (map row_of rows) m) as (λ o. first_in (map row_of rows) m ≡ o → IsSome o → IsSome (first_in (map row_of (rows ++ (p, n) ∷ [])) m)) [
        | None ↦ λ _ none. absurd (false≢true none)
        | Some path ↦ λ e _. ap is_some (firsts_stay m path e)
      ] refl some

  pub firsts_some : IsSome (first_in (map row_of (rows ++ (p, n) ∷ [])) n)
  firsts_some =
      elim (first_in (map row_of rows) n) as (λ o. first_in (map row_of rows) n ≡ o → IsSome (first_in (map row_of (rows ++ (p, n) ∷ [])) n)) [
        | None ↦ λ e. ap is_some (firsts_here e)
        | Some path ↦ λ e. ap is_some (firsts_stay n path e)
      ] refl

-- the row of the first name
pub first_row : (rows : List PathRow) (n : ℕ) (path : List ℕ) → first_in (map row_of rows) n ≡ Some path → (q : Path) × Listed rows q n × (path ≡ path_bytes q)
first_row [] n path e = absurd cc
first_row (row ∷ rows) n path e =
    elim (eqb_tells row.1 n) [
      | inl same ↦ (
        row.0,
        inl (refl, same.1),
        sym (some_is (path_bytes row.0) path (sym (ap (λ (b : Bool). if b then Some (path_bytes row.0) else first_in (map row_of rows) n) same.0) ∙ e)),
      )
      | inr other ↦
          let later = first_row rows n path (sym (ap (λ (b : Bool). if b then Some (path_bytes row.0) else first_in (map row_of rows) n) other.0) ∙ e) in
          (later.0, inr later.1, later.2)
    ]

-- ---- copies

-- a row's path leads to its node, and to a copy of it
pub record IsCopied (t : Tree) (m : Making) (p : Path) (n : ℕ) : Type 0 where
  pub path : IsPath p
  pub leads : node_at t ROOT p ≡ Some n
  pub copy : ℕ
  pub copied : node_at m.tree ROOT p ≡ Some copy

-- What the records of these rows made. Each node is a copy of a node, its origin, by the same names, and a file has one copy.
pub record IsCopy (t : Tree) (rows : List PathRow) (m : Making) : Type 0 where
  pub filled : IsFilled m.tree m.next
  pub origin : ℕ → ℕ
  pub root : origin ROOT ≡ ROOT
  pub names : (d : ℕ) (name : List ℕ) (k : ℕ) → HasName m.tree d name k → HasName t (origin d) name (origin k)
  -- each name is a row's
  pub sources : (d : ℕ) (name : List ℕ) (k : ℕ) → HasName m.tree d name k
      → (q : Path) × (node_at t ROOT q ≡ Some (origin d)) × Listed rows (q ++ name ∷ []) (origin k)
  pub kinds : (k : ℕ) → IsSome (get m.tree.nodes k) → kind_of m.tree k ≡ kind_of t (origin k)
  pub rows_copied : (p : Path) (n : ℕ) → Listed rows p n → IsCopied t m p n
  -- the first name of a file is that of a `file` record
  pub files : (n : ℕ) (path : List ℕ) → is_file t n ≡ true → first_in (map row_of rows) n ≡ Some path → IsSome (get m.files path)
  -- a file is a copy of one that has a row, no other file is a copy of that one, and it has no more names than that one has rows
  pub seen : (k : ℕ) → is_file m.tree k ≡ true → IsSome (first_in (map row_of rows) (origin k))
  pub one_copy : (j k : ℕ) → is_file m.tree j ≡ true → is_file m.tree k ≡ true → origin j ≡ origin k → j ≡ k
  pub counted : (k : ℕ) → is_file m.tree k ≡ true → links_of m.tree k ≤ rows_count (origin k) rows

-- the same paths lead to a copy's origin
pub origin_leads : (t : Tree) (rows : List PathRow) (m : Making) (c : IsCopy t rows m) (q : Path) (k : ℕ) → node_at m.tree ROOT q ≡ Some k
    → node_at t ROOT q ≡ Some (c.origin k)
origin_leads t rows m c q k e = sym (ap (λ (x : ℕ). node_at t x q) c.root) ∙ image m.tree t c.origin c.names q ROOT k e

-- ---- where the next row's name is made

no_faults : (faults : Faults) → NoneHolds faults → first_fault faults ≡ None
no_faults [] h = refl
no_faults (f ∷ faults) h = ap (λ (b : Bool). if b then Some f.1 else first_fault faults) h.0 ∙ no_faults faults h.1

not_none : {A : Type 0} (o : Option A) → IsSome o → is_none o ≡ false
not_none None some = absurd (false≢true some)
not_none (Some x) some = refl

-- a copy of the directory, in which the name is new
pub record HasRoom (t : Tree) (m : Making) (origin : ℕ → ℕ) (above : Path) (name : List ℕ) (directory : ℕ) : Type 0 where
  pub at : ℕ
  pub leads : node_at m.tree ROOT above ≡ Some at
  pub from : origin at ≡ directory
  pub there : IsSome (get m.tree.nodes at)
  pub is_one : is_directory m.tree at ≡ true
  pub held : 1 ≤ links_of m.tree at
  pub new : entry_of m.tree at name ≡ None

module _ (t : Tree) (h : IsTree t) (rows : List PathRow) (m : Making) (c : IsCopy t rows m) (p : Path) (n : ℕ) (next : IsNext t rows p n) where
  copy_of_directory : (d : ℕ) × (node_at m.tree ROOT next.above ≡ Some d)
  copy_of_directory =
      elim next.earlier [
        | inl root ↦ (ROOT, ap (node_at m.tree ROOT) root)
        | inr row ↦ let one = c.rows_copied next.above row.0 row.1 in (one.copy, one.copied)
      ]

  pub has_room : HasRoom t m c.origin next.above next.name next.directory
  has_room =
      let d = copy_of_directory.0 in
      let leads = copy_of_directory.1 in
      let from = some_is (c.origin d) next.directory (sym (origin_leads t rows m c next.above d leads) ∙ next.leads) in
      let there = path_there m.tree c.filled.tree next.above ROOT d (directory_there m.tree ROOT c.filled.tree.root) leads in
      record {
        at = d;
        leads = leads;
        from = from;
        there = there;
        is_one = same_directory m.tree t d (c.origin d) (c.kinds d there) ∙ ap (is_directory t) from
            ∙ directory_of_name t h next.directory next.name n next.named;
        held = c.filled.named d there;
        new = elim (entry_of m.tree d next.name) as (λ o. entry_of m.tree d next.name ≡ o → o ≡ None) [
          | None ↦ λ _. refl
          | Some k ↦ λ named.
              let source = c.sources d next.name k named in
              absurd (name_new t h rows p n next source.0 (c.origin k) (source.1 ∙ ap (λ (x : ℕ). Some x) from) source.2)
        ] refl;
      }

module _ (t : Tree) (m : Making) (origin : ℕ → ℕ) (above : Path) (name : List ℕ) (directory : ℕ) (room : HasRoom t m origin above name directory) where
  not_held : (eqb (links_of m.tree room.at) 0 && not (eqb room.at ROOT)) ≡ false
  not_held = ap (λ (b : Bool). b && not (eqb room.at ROOT)) (ne_eqb (links_of m.tree room.at) 0 (λ none. let held = room.held in omega arith))

  pub may_make : first_fault (make_faults m.tree room.at name) ≡ None
  may_make =
      no_faults (make_faults m.tree room.at name)
      (not_none (get m.tree.nodes room.at) room.there, (ap not room.is_one, (not_held, (ap (λ (o : Option ℕ). not (is_none o)) room.new, tt))))

  pub may_link : (k : ℕ) → is_file m.tree k ≡ true → links_of m.tree k < MOST_LINKS → first_fault (link_faults m.tree room.at name k) ≡ None
  may_link k file few =
      let more : leb MOST_LINKS (links_of m.tree k) ≡ false =
      elim (leb_tells MOST_LINKS (links_of m.tree k)) [ inl most ↦ let less = most.1 in absurd (omega arith) | inr less ↦ less.0 ] in
      no_faults (link_faults m.tree room.at name k) (
        not_none (get m.tree.nodes room.at) room.there,
        (
          ap not room.is_one,
          (
            not_held,
            (
              not_none (get m.tree.nodes k) (file_there m.tree k file),
              (file_directory m.tree k file, (ap (λ (o : Option ℕ). not (is_none o)) room.new, (more, tt))),
            ),
          ),
        ),
      )
