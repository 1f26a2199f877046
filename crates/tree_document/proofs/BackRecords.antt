-- The record of the next row may stand next, and makes a copy of one row more.
use Rattle.std.proofs.Common.{◌≡◌, inl, inr, ℕ, ◌+◌, ◌<◌, ◌≤◌, true, false, List, [], ◌∷◌, ◌++◌, map, Option, Some, None, IsSome, is_some, refl, sym, ap, subst, ◌∙◌, arith}
use Rattle.std.proofs.lemmas.Bool.{false≢true}
use Rattle.std.proofs.lemmas.Bool.Decides.{eqb_tells}
use Rattle.std.specs.FinMap.{get, insert}
use Rattle.lists.proofs.Chosen.{some_is}
use Rattle.abi_types.specs.declared.node.Node.{Node}
use Rattle.abi_types.specs.declared.node.NodeKind.{NodeKind}
use Rattle.abi_types.specs.declared.node.NodeKind.TheVariants as kind
use Rattle.maps.specs.Names as name_map
use Rattle.tree_model.specs.declared.limits.TheConstants.{MOST_LINKS, ROOT}
use Rattle.tree_model.specs.Changes.{is_file, is_file_kind, linked, made}
use Rattle.tree_model.specs.Facts.{directory_there}
use Rattle.tree_model.specs.Tree.{IsTree, Tree, links_in, links_of}
use Rattle.tree_records.specs.Paths.{IsPath, Path, name_of, parent, path_bytes}
use Rattle.tree_records.specs.Records.{IsRecord, Record, dir, file, hard, hard_text, link, path_of, encoded}
use Rattle.tree_records.proofs.PathLaws.{name_of-push, parent-push}
use Rattle.tree_document.specs.Building.{IsAllowed, IsPlace, Making, node_at, node_of, with_file, with_node, with_record}
use Rattle.tree_document.specs.Limits.{IsKept, IsKeptNode}
use Rattle.tree_document.specs.Printing.{first_in, kind_text, node_text, row_text}
use Rattle.tree_document.specs.SameTrees.{kind_in, kind_of}
use Rattle.tree_document.proofs.BackCopies.{HasRoom, IsCopy, first_row, firsts_here, firsts_other, has_room, kind_file, may_link, may_make, origin_leads, same_file}
use Rattle.tree_document.proofs.BackCounts.{rows_count}
use Rattle.tree_document.proofs.BackLinked.{copy_linked}
use Rattle.tree_document.proofs.BackMade.{copy_made}
use Rattle.tree_document.proofs.BackPaths.{path_there}
use Rattle.tree_document.proofs.BackRows.{IsNext, PathRow, row_of}
use Rattle.tree_document.proofs.Places.{link_place, place, with_link_place, with_place}

-- the record of a row behind others, what it makes of their copy, and its text
pub record IsRead (t : Tree) (before : List PathRow) (m : Making) (p : Path) (n : ℕ) : Type 0 where
  pub one : Record
  pub fits : IsRecord one
  pub allowed : IsAllowed m one
  pub text : row_text t (map row_of before) (path_bytes p, n) ≡ encoded one
  pub path : path_of one ≡ p
  pub copy : IsCopy t (before ++ (p, n) ∷ []) (with_record m one)

module _ (t : Tree) (h : IsTree t) (before : List PathRow) (m : Making) (c : IsCopy t before m) (p : Path) (n : ℕ) (next : IsNext t before p n)
    (good : IsPath p) (node : Node) (is : get t.nodes n ≡ Some node) where
  room : HasRoom t m c.origin next.above next.name next.directory
  room = has_room t h before m c p n next

  -- the directory that the record makes its name in
  at_parent : Some room.at ≡ node_at m.tree ROOT (parent p)
  at_parent = sym (ap (node_at m.tree ROOT) (ap parent next.path ∙ parent-push next.above next.name) ∙ room.leads)

  last : next.name ≡ name_of p
  last = sym (ap name_of next.path ∙ name_of-push next.above next.name)

  reported : (k : NodeKind) → node.kind ≡ k → row_text t (map row_of before) (path_bytes p, n) ≡ kind_text (first_in (map row_of before) n) (path_bytes p) k
  reported k same =
      ap (node_text (first_in (map row_of before) n) (path_bytes p)) is ∙ ap (kind_text (first_in (map row_of before) n) (path_bytes p)) same

  kind_is : (k : NodeKind) → node.kind ≡ k → kind_of t n ≡ Some k
  kind_is k same = ap kind_in is ∙ ap (λ (x : NodeKind). Some x) same

  -- ---- a new node

  may_stand : IsPlace m.tree p
  may_stand = place m p next.name room.at at_parent last (may_make t m c.origin next.above next.name next.directory room)

  is_made : (k : NodeKind)
      → record m { tree = made m.tree room.at next.name m.next (node_of m.times k); next = m.next + 1 } ≡ with_node m p k
  is_made k = with_place m p next.name room.at at_parent last k (made m.tree room.at next.name m.next (node_of m.times k)) refl

  -- what is no file has no first name to be kept
  other_files : is_file t n ≡ false → (x : ℕ) (path : List ℕ) → is_file t x ≡ true → first_in (map row_of (before ++ (p, n) ∷ [])) x ≡ Some path
      → IsSome (get m.files path)
  other_files none x path one there =
      c.files x path one (sym (firsts_other before p n x (λ same. false≢true (sym none ∙ ap (is_file t) same ∙ one))) ∙ there)

  copy_other : (k : NodeKind) → node.kind ≡ k → is_file_kind k ≡ false → IsCopy t (before ++ (p, n) ∷ []) (with_node m p k)
  copy_other k same none =
      subst (IsCopy t (before ++ (p, n) ∷ [])) (is_made k)
      (copy_made t h before m c p n next room k (kind_is k same) m.files good (λ one. absurd (false≢true (sym none ∙ one)))
      (other_files (kind_file t n k (kind_is k same) ∙ none)))

  -- the path of a file's first name is kept
  file_kept : (path : List ℕ) → IsSome (get m.files path) → IsSome (get (insert m.files (path_bytes p) tt) path)
  file_kept path some =
      elim (name_map.same_or_not path (path_bytes p)) [
        | inl same ↦ ap is_some (ap (get (insert m.files (path_bytes p) tt)) same ∙ name_map.get-insert-same m.files (path_bytes p) tt)
        | inr other ↦ ap is_some (name_map.get-insert-other m.files (path_bytes p) tt path other) ∙ some
      ]

  first_files : first_in (map row_of before) n ≡ None → (x : ℕ) (path : List ℕ) → is_file t x ≡ true
      → first_in (map row_of (before ++ (p, n) ∷ [])) x ≡ Some path → IsSome (get (insert m.files (path_bytes p) tt) path)
  first_files none x path one there =
      elim (eqb_tells n x) [
        | inl same ↦
            let here = some_is (path_bytes p) path
            (sym (firsts_here before p n none) ∙ ap (first_in (map row_of (before ++ (p, n) ∷ []))) same.1 ∙ there) in
            ap is_some (ap (get (insert m.files (path_bytes p) tt)) (sym here) ∙ name_map.get-insert-same m.files (path_bytes p) tt)
        | inr other ↦ file_kept path (c.files x path one (sym (firsts_other before p n x other.1) ∙ there))
      ]

  copy_file : (bytes : List ℕ) → node.kind ≡ kind.File bytes → first_in (map row_of before) n ≡ None
      → IsCopy t (before ++ (p, n) ∷ []) (with_file (with_node m p (kind.File bytes)) p)
  copy_file bytes same none =
      subst (λ (x : Making). IsCopy t (before ++ (p, n) ∷ []) (with_file x p)) (is_made (kind.File bytes))
      (copy_made t h before m c p n next room (kind.File bytes) (kind_is (kind.File bytes) same) (insert m.files (path_bytes p) tt) good (λ _. none)
      (first_files none))

  -- ---- one more name of a file

  module _ (bytes : List ℕ) (same : node.kind ≡ kind.File bytes) (fits : node.links ≤ MOST_LINKS) (few : rows_count n before < links_of t n) where
    is_one : is_file t n ≡ true
    is_one = kind_file t n (kind.File bytes) (kind_is (kind.File bytes) same)

    read_first : (first : List ℕ) → first_in (map row_of before) n ≡ Some first → IsRead t before m p n
    read_first first e =
        let row = first_row before n first e in
        let old = c.rows_copied row.0 n row.1 in
        let from : c.origin old.copy ≡ n = some_is (c.origin old.copy) n (sym (origin_leads t before m c row.0 old.copy old.copied) ∙ old.leads) in
        let there = path_there m.tree c.filled.tree row.0 ROOT old.copy (directory_there m.tree ROOT c.filled.tree.root) old.copied in
        let file_copy : is_file m.tree old.copy ≡ true =
        same_file m.tree t old.copy (c.origin old.copy) (c.kinds old.copy there) ∙ ap (is_file t) from ∙ is_one in
        let links : links_of m.tree old.copy < MOST_LINKS =
        (let most = c.counted old.copy file_copy in
        let rows = ap (λ (x : ℕ). rows_count x before) from in
        let counts : links_of t n ≡ node.links = ap links_in is in
        omega arith) in
        let free = may_link t m c.origin next.above next.name next.directory room old.copy file_copy links in
        record {
          one = hard p row.0;
          fits = (good, old.path);
          allowed = (
            ap (λ (path : List ℕ). is_some (get m.files path)) (sym row.2) ∙ c.files n first is_one e,
            link_place m p row.0 next.name room.at at_parent last old.copy (sym old.copied) free,
          );
          text = reported (kind.File bytes) same ∙ ap (λ (o : Option (List ℕ)). kind_text o (path_bytes p) (kind.File bytes)) e
              ∙ ap (hard_text (path_bytes p)) row.2;
          path = refl;
          copy = subst (IsCopy t (before ++ (p, n) ∷ []))
              (with_link_place m p row.0 next.name room.at at_parent last old.copy (sym old.copied) (linked m.tree room.at next.name old.copy) refl)
              (copy_linked t h before m c p n next room old.copy file_copy from good first e links);
        }

  -- ---- each kind of row

  read_kind : (k : NodeKind) → node.kind ≡ k → IsKept k → node.links ≤ MOST_LINKS → rows_count n before < links_of t n → IsRead t before m p n
  read_kind kind.Directory same kept fits few = record {
    one = dir p;
    fits = good;
    allowed = may_stand;
    text = reported kind.Directory same;
    path = refl;
    copy = copy_other kind.Directory same refl;
  }
  read_kind (kind.Link text) same kept fits few = record {
    one = link p text;
    fits = (good, kept);
    allowed = may_stand;
    text = reported (kind.Link text) same;
    path = refl;
    copy = copy_other (kind.Link text) same refl;
  }
  read_kind (kind.File bytes) same kept fits few =
      elim (first_in (map row_of before) n) as (λ o. first_in (map row_of before) n ≡ o → IsRead t before m p n) [
        | None ↦ λ none. record {
          one = file p bytes;
          fits = (good, kept);
          allowed = may_stand;
          text = reported (kind.File bytes) same ∙ ap (λ (o : Option (List ℕ)). kind_text o (path_bytes p) (kind.File bytes)) none;
          path = refl;
          copy = copy_file bytes same none;
        }
        | Some first ↦ read_first bytes same fits few first
      ] refl

pub read_row : (t : Tree) → IsTree t → (before : List PathRow) (m : Making) → IsCopy t before m → (p : Path) (n : ℕ) → IsNext t before p n
    → IsPath p → IsKeptNode (get t.nodes n) → rows_count n before < links_of t n → IsRead t before m p n
read_row t h before m c p n next good kept few =
    elim (get t.nodes n) as (λ o. get t.nodes n ≡ o → IsKeptNode o → IsRead t before m p n) [
      | None ↦ λ none _. absurd (false≢true (sym (ap is_some none) ∙ h.led next.directory next.name n next.named))
      | Some node ↦ λ is fits. read_kind t h before m c p n next good node is node.kind refl fits.0 fits.1 few
    ] refl kept
