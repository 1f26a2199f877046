-- What a call comes to that opens.
--     OpensAlike, opens_alike      by what is seen of the tree it opens what it opens by the whole, and sets the same
--     opened_holds      what holds of each refusal, of a file and a directory that is there, and of a file that is made, holds of it
--     OpensPlainly, opens_plainly      its errors are among these
--     OpensBeside, opens_beside      it sets of the tree the new file, and what it says that it changes
--     OpensWell, opens_well      the change leads to a tree, and what is opened is there
use Rattle.std.proofs.Common.{◌≡◌, ◌≢◌, ◌⊎◌, ℕ, ◌||◌, Bool, true, false, cond, List, [], ◌∷◌, ◌++◌, map, Option, Some, None, is_some, inl, inr, refl, sym, ap, subst, ◌∙◌, arith}
use Rattle.std.specs.Prelude.{⊤}
use Rattle.std.specs.FinMap.{get}
use Rattle.abi_base.specs.declared.errno.Errno.{Errno}
use Rattle.abi_base.specs.declared.errno.Errno.TheVariants.{Again, Badf, Exist, Isdir, Loop, Mfile, Noent, Notdir}
use Rattle.abi_types.specs.declared.node.Node.{Node}
use Rattle.abi_types.specs.declared.node.NodeKind.{NodeKind}
use Rattle.abi_types.specs.declared.node.NodeKind.TheVariants as kind
use Rattle.abi_types.specs.declared.open_kind.OpenKind.{OpenKind}
use Rattle.abi_types.specs.declared.open_kind.OpenKind.TheVariants.{File, Directory, End, Terminal, Process}
use Rattle.maps.specs.Closure.{member}
use Rattle.maps.specs.Maps.{get-insert-same}
use Rattle.path_lookup.specs.Laws.{IsIn}
use Rattle.path_lookup.specs.declared.ends.End.{End as PathEnd}
use Rattle.path_lookup.specs.declared.ends.End.TheVariants as end
use Rattle.path_lookup.specs.declared.ends.WalkMode.{WalkMode}
use Rattle.tree_model.specs.Changes.{first_fault, is_file, is_file_kind, is_file_node, made, make_faults}
use Rattle.tree_model.specs.Entries.{KeepsNodes, KeepsNodes-itself, here_or_other}
use Rattle.tree_model.specs.Facts.{absent_no_directory, two_kinds}
use Rattle.tree_model.specs.Faults.{can_make}
use Rattle.tree_model.specs.Finds.{HasSameBelow}
use Rattle.tree_model.specs.Tree.{IsTree, below, is_directory, is_directory_kind, is_directory_node}
use Rattle.tree_model.specs.declared.fault.TreeFault.{TreeFault}
use Rattle.kernel_model.specs.Families.FileChanges.{modified, sized}
use Rattle.kernel_model.specs.Families.FilePaths.{Walked, Ends, Fails, LeadsOutside, end_part, path_errors, walked, walked_in}
use Rattle.kernel_model.specs.Families.LastNames.{name_at}
use Rattle.kernel_model.specs.Families.NameMaking.{errno_of, node_of, with_node}
use Rattle.kernel_model.specs.Families.Numbers.{object_parts}
use Rattle.kernel_model.specs.Families.Opening.{Opened, NotOpened, OpenedOutside, Opens, absent_end_parts, creates, parts_where, makes_new, truncates, truncated, wants_directory, open_kind, open_node, make_file, open_absent, open_end, open_walked}
use Rattle.kernel_model.specs.Proper.{IsIn as IsAmong}
use Rattle.kernel_model.specs.State.{Part, Tree, Update, at_names, at_node, has_part, part_of, same_part}
use Rattle.kernel_model.specs.Families.TreeUpdates.{Change, change_updates, node_update, no_change}
use Rattle.kernel_model.proofs.Branches.{IsSeen}
use Rattle.kernel_model.proofs.FileChanges.{sized_alike, sized_reworks}
use Rattle.kernel_model.proofs.FilePaths.{LeadsIn, badf_among, leads_below, loop_among, noent_among, notdir_among, walk_reads}
use Rattle.kernel_model.proofs.LastNames.{in_front}
use Rattle.kernel_model.proofs.NameMaking.{first_holds, make_faults_alike, with_node_alike, with_node_change, with_node_unset}
use Rattle.kernel_model.proofs.NameMeanings.{IsChangeOf}
use Rattle.kernel_model.proofs.Parts.{of_first, of_second, outside_cons}
use Rattle.kernel_model.proofs.Reworks.{Alike, Reworks, retimed_reworks}
use Rattle.kernel_model.proofs.TreeChanges.{first_is_member, kept_change, not_member_apart, updates_unset}

-- ---- what it opens, by what is seen

-- nothing, for the same; or both open the same, and set the same
abbrev pub OpensAlike : Opened → Opened → Type 0
OpensAlike (NotOpened errno) o = o ≡ NotOpened errno
OpensAlike (OpenedOutside component) o = o ≡ OpenedOutside component
OpensAlike (Opens kind c new_nodes) o = (d : Change) × (o ≡ Opens kind d new_nodes) × (change_updates c ≡ change_updates d)

either_opens : (b : Bool) (x y v w : Opened) → OpensAlike x y → OpensAlike v w → OpensAlike (cond b x v) (cond b y w)
either_opens true x y v w first second = first
either_opens false x y v w first second = second

either_change : (b : Bool) (c d e f : Change) → change_updates c ≡ change_updates d → change_updates e ≡ change_updates f
    → change_updates (cond b c e) ≡ change_updates (cond b d f)
either_change true c d e f first second = first
either_change false c d e f first second = second

-- ---- a file that is there

module _ (oflags flags now : ℕ) (t u : Tree) (n : ℕ) (same : Alike t u n) where
  truncated_alike : change_updates (truncated oflags now u n) ≡ change_updates (truncated oflags now t n)
  truncated_alike =
      either_change (truncates oflags) (record { tree = sized u n now 0; nodes = n ∷ []; directories = [] })
      (record { tree = sized t n now 0; nodes = n ∷ []; directories = [] }) (no_change u) (no_change t)
      (ap (λ o. (node_update n o ++ []) ++ []) (sym (sized_alike t u n now 0 same))) refl

  kind_alike : (kind : NodeKind) → OpensAlike (open_kind oflags flags now u n kind) (open_kind oflags flags now t n kind)
  kind_alike (kind.File bytes) =
      either_opens (wants_directory oflags) _ _ (Opens (File n 0 flags) (truncated oflags now u n) 0) (Opens (File n 0 flags) (truncated oflags now t n) 0) refl
      (truncated oflags now t n, refl, truncated_alike)
  kind_alike kind.Directory =
      either_opens (creates oflags || truncates oflags) _ _ (Opens (Directory n flags) (no_change u) 0) (Opens (Directory n flags) (no_change t) 0) refl
      (no_change t, refl, refl)
  kind_alike (kind.Link text) = refl

  found_alike : (o : Option Node) → OpensAlike (open_node oflags flags now u n o) (open_node oflags flags now t n o)
  found_alike None = refl
  found_alike (Some node) =
      either_opens (makes_new oflags) _ _ (open_kind oflags flags now u n node.kind) (open_kind oflags flags now t n node.kind) refl (kind_alike node.kind)

  node_alike : OpensAlike (open_node oflags flags now u n (get u.nodes n)) (open_node oflags flags now t n (get t.nodes n))
  node_alike =
      subst (λ o. OpensAlike (open_node oflags flags now u n o) (open_node oflags flags now t n (get t.nodes n))) same (found_alike (get t.nodes n))

-- ---- a new file

module _ (flags now new : ℕ) (t u : Tree) (d : ℕ) (name : List ℕ) (nodes : Alike t u d) (names : get t.names d ≡ get u.names d) where
  make_alike : (fault : Option TreeFault) → OpensAlike (make_file flags now new u d name fault) (make_file flags now new t d name fault)
  make_alike None = (with_node (kind.File []) now new t d name, refl, with_node_alike now new t u d name nodes names (kind.File []))
  make_alike (Some fault) = refl

  absent_alike : (oflags : ℕ) → OpensAlike (open_absent oflags flags now new u d name) (open_absent oflags flags now new t d name)
  absent_alike oflags =
      let fault = first_fault (make_faults t d name) in
      either_opens (creates oflags) (make_file flags now new u d name (first_fault (make_faults u d name))) (make_file flags now new t d name fault) _ _
      (subst (λ o. OpensAlike (make_file flags now new u d name o) (make_file flags now new t d name fault))
      (sym (make_faults_alike now new t u d name nodes names)) (make_alike fault)) refl

-- ---- where a path leads

module _ (oflags flags : ℕ) (path : List ℕ) (now new : ℕ) (t u : Tree) where
  end_alike : (start : ℕ) (end : PathEnd) → HasSameBelow t u start → IsIn (λ n. member n (below t start)) end
      → OpensAlike (open_end oflags flags path now new u end) (open_end oflags flags path now new t end)
  end_alike start (end.Found n) same h = node_alike oflags flags now t u n (same.nodes n h)
  end_alike start (end.Absent dir from len) same h =
      absent_alike flags now new t u dir (name_at path from len) (same.nodes dir h) (same.names dir h) oflags
  end_alike start (end.Last dir from len) same h = refl

  ends_alike : (start : ℕ) (w : Walked) → HasSameBelow t u start → LeadsIn (λ n. member n (below t start)) w
      → OpensAlike (open_walked oflags flags path now new u w) (open_walked oflags flags path now new t w)
  ends_alike start (Ends end) same h = end_alike start end same h
  ends_alike start (Fails errno) same h = refl
  ends_alike start (LeadsOutside component) same h = refl

  pub opens_alike : (mode : WalkMode) (kind : Option OpenKind) → IsSeen t u kind
      → OpensAlike (open_walked oflags flags path now new u (walked u mode path kind)) (open_walked oflags flags path now new t (walked t mode path kind))
  opens_alike mode None seen = refl
  opens_alike mode (Some (File node offset f)) seen = refl
  opens_alike mode (Some (Directory node f)) seen =
      subst (λ w. OpensAlike (open_walked oflags flags path now new u w) (open_walked oflags flags path now new t (walked_in t mode path node)))
      (sym (walk_reads t u mode path node seen)) (ends_alike node (walked_in t mode path node) seen (leads_below t mode path node))
  opens_alike mode (Some (End reads writes f form)) seen = refl
  opens_alike mode (Some (Terminal which f)) seen = refl
  opens_alike mode (Some (Process p object)) seen = refl

-- ---- what it may come to

abbrev pub open_errors : List Errno
open_errors = path_errors ++ Mfile ∷ Exist ∷ Isdir ∷ Again ∷ []

pub path_among : (errno : Errno) → IsAmong errno path_errors → IsAmong errno open_errors
path_among errno here = in_front errno path_errors (Mfile ∷ Exist ∷ Isdir ∷ Again ∷ []) here

pub mfile_among : IsAmong Mfile open_errors
mfile_among = (path_errors, Exist ∷ Isdir ∷ Again ∷ [], refl)

exist_among : IsAmong Exist open_errors
exist_among = (path_errors ++ Mfile ∷ [], Isdir ∷ Again ∷ [], refl)

isdir_among : IsAmong Isdir open_errors
isdir_among = (path_errors ++ Mfile ∷ Exist ∷ [], Again ∷ [], refl)

pub again_among : IsAmong Again open_errors
again_among = (path_errors ++ Mfile ∷ Exist ∷ Isdir ∷ [], [], refl)

-- the error for a fault is one of these
abbrev FaultAmong : Option TreeFault → Type 0
FaultAmong None = ⊤
FaultAmong (Some fault) = IsAmong (errno_of fault) open_errors

fault_among : (t : Tree) (d : ℕ) (name : List ℕ) → FaultAmong (first_fault (make_faults t d name))
fault_among t d name =
    let absent = path_among Noent noent_among in
    first_holds FaultAmong (make_faults t d name) tt (absent, (path_among Notdir notdir_among, (absent, (exist_among, tt))))

-- What holds of each of these, by the path's end, holds of what it comes to: a refusal; a file that is there, or a directory; and
-- a file that is made in a directory that may have it.
module _ (oflags flags : ℕ) (path : List ℕ) (now new : ℕ) (t : Tree) (P : PathEnd → Opened → Type 0)
    (refuses : (end : PathEnd) (errno : Errno) → IsAmong errno open_errors → P end (NotOpened errno))
    (file : (n : ℕ) → is_file t n ≡ true → P (end.Found n) (Opens (File n 0 flags) (truncated oflags now t n) 0))
    (directory : (n : ℕ) → is_directory t n ≡ true → P (end.Found n) (Opens (Directory n flags) (no_change t) 0))
    (new_nodes : (d from len : ℕ) → creates oflags ≡ true → first_fault (make_faults t d (name_at path from len)) ≡ None
    → P (end.Absent d from len) (Opens (File new 0 flags) (with_node (kind.File []) now new t d (name_at path from len)) 1)) where
  either_holds : (end : PathEnd) (b : Bool) (x y : Opened) → P end x → P end y → P end (cond b x y)
  either_holds end true x y first second = first
  either_holds end false x y first second = second

  kind_holds : (n : ℕ) (kind : NodeKind) → (is_file_kind kind ≡ true → is_file t n ≡ true) → (is_directory_kind kind ≡ true → is_directory t n ≡ true)
      → P (end.Found n) (open_kind oflags flags now t n kind)
  kind_holds n (kind.File bytes) is other =
      either_holds (end.Found n) (wants_directory oflags) _ _ (refuses (end.Found n) Notdir (path_among Notdir notdir_among)) (file n (is refl))
  kind_holds n kind.Directory other is =
      either_holds (end.Found n) (creates oflags || truncates oflags) _ _ (refuses (end.Found n) Isdir isdir_among) (directory n (is refl))
  kind_holds n (kind.Link text) other another = refuses (end.Found n) Loop (path_among Loop loop_among)

  found_holds : (n : ℕ) (o : Option Node) → get t.nodes n ≡ o → P (end.Found n) (open_node oflags flags now t n o)
  found_holds n None there = refuses (end.Found n) Badf (path_among Badf badf_among)
  found_holds n (Some node) there =
      either_holds (end.Found n) (makes_new oflags) _ _ (refuses (end.Found n) Exist exist_among)
      (kind_holds n node.kind (λ is. ap is_file_node there ∙ is) (λ is. ap is_directory_node there ∙ is))

  made_holds : (d from len : ℕ) → creates oflags ≡ true → (fault : Option TreeFault) → first_fault (make_faults t d (name_at path from len)) ≡ fault
      → FaultAmong fault → P (end.Absent d from len) (make_file flags now new t d (name_at path from len) fault)
  made_holds d from len made None free among = new_nodes d from len made free
  made_holds d from len made (Some fault) is among = refuses (end.Absent d from len) (errno_of fault) among

  absent_holds : (d from len : ℕ) (b : Bool) → creates oflags ≡ b
      → P (end.Absent d from len)
      (cond b (make_file flags now new t d (name_at path from len) (first_fault (make_faults t d (name_at path from len)))) (NotOpened Noent))
  absent_holds d from len true made =
      made_holds d from len made (first_fault (make_faults t d (name_at path from len))) refl
      (fault_among t d (name_at path from len))
  absent_holds d from len false unmade = refuses (end.Absent d from len) Noent (path_among Noent noent_among)

  pub opened_holds : (end : PathEnd) → P end (open_end oflags flags path now new t end)
  opened_holds (end.Found n) = found_holds n (get t.nodes n) refl
  opened_holds (end.Absent d from len) = absent_holds d from len (creates oflags) refl
  opened_holds (end.Last d from len) = refuses (end.Last d from len) Noent (path_among Noent noent_among)

-- ---- its errors

abbrev pub OpensPlainly : Opened → Type 0
OpensPlainly (NotOpened errno) = IsAmong errno open_errors
OpensPlainly (OpenedOutside component) = ⊥
OpensPlainly (Opens kind c new_nodes) = ⊤

pub opens_plainly : (oflags flags : ℕ) (path : List ℕ) (now new : ℕ) (t : Tree) (end : PathEnd) → OpensPlainly (open_end oflags flags path now new t end)
opens_plainly oflags flags path now new t end =
    opened_holds oflags flags path now new t (λ end o. OpensPlainly o) (λ end errno here. here) (λ n file. tt) (λ n is. tt) (λ d from len made free. tt) end

-- ---- what it sets

-- no update sets the part
abbrev pub Unset : List Update → Part → Type 0
Unset us q = has_part (map part_of us) q ≡ false

-- at most one node is made
abbrev pub IsFew : ℕ → Type 0
IsFew new_nodes = (new_nodes ≡ 0) ⊎ (new_nodes ≡ 1)

-- where something is opened, the change of the tree sets other parts than this
abbrev pub OpensBeside : Part → Opened → Type 0
OpensBeside q (NotOpened errno) = ⊤
OpensBeside q (OpenedOutside component) = ⊤
OpensBeside q (Opens kind c new_nodes) = IsFew new_nodes × Unset (change_updates c) q

-- what it may change, by the path's end
abbrev pub end_changes : ℕ → PathEnd → List Part
end_changes oflags end = parts_where (creates oflags) (absent_end_parts end) ++ parts_where (truncates oflags) (end_part end)

truncated_unset : (b : Bool) (t u : Tree) (n : ℕ) (q : Part) → has_part (parts_where b (at_node n ∷ [])) q ≡ false
    → Unset (change_updates (cond b (record { tree = u; nodes = n ∷ []; directories = [] }) (no_change t))) q
truncated_unset true t u n q h = updates_unset u q (n ∷ []) [] ((outside_cons (at_node n) [] q h).0, tt) tt
truncated_unset false t u n q h = refl

-- a part that is neither the directory nor the names in it
directory_apart : (d : ℕ) (q : Part) → has_part (at_node d ∷ at_names d ∷ []) q ≡ false → (same_part (at_node d) q ≡ false) × (same_part (at_names d) q ≡ false)
directory_apart d q h =
    let first = outside_cons (at_node d) (at_names d ∷ []) q h in
    (first.0, (outside_cons (at_names d) [] q first.1).0)

pub opens_beside : (oflags flags : ℕ) (path : List ℕ) (now new : ℕ) (t : Tree) (q : Part) → has_part (object_parts new) q ≡ false
    → (end : PathEnd) → has_part (end_changes oflags end) q ≡ false → OpensBeside q (open_end oflags flags path now new t end)
opens_beside oflags flags path now new t q apart =
    opened_holds oflags flags path now new t (λ end o. has_part (end_changes oflags end) q ≡ false → OpensBeside q o) (λ end errno here h. tt)
    (λ n file h. (
      inl refl,
      truncated_unset (truncates oflags) t (sized t n now 0) n q
          (of_second (parts_where (creates oflags) []) (parts_where (truncates oflags) (at_node n ∷ [])) q h),
    ))
    (λ n is h. (inl refl, refl))
    (λ d from len made free h. (
      inr refl,
      with_node_unset (kind.File []) now new t d (name_at path from len) q apart
          (directory_apart d q
          (sym (ap (λ b. has_part (parts_where b (at_node d ∷ at_names d ∷ [])) q) made)
          ∙ of_first (parts_where (creates oflags) (at_node d ∷ at_names d ∷ [])) (parts_where (truncates oflags) []) q h)),
    ))

-- ---- the tree after it

-- what is opened is there
abbrev pub IsThere : Tree → OpenKind → Type 0
IsThere t (File n offset flags) = is_file t n ≡ true
IsThere t (Directory n flags) = is_directory t n ≡ true
IsThere t _ = ⊥

abbrev pub OpensWell : Tree → ℕ → Opened → Type 0
OpensWell t new (NotOpened errno) = ⊤
OpensWell t new (OpenedOutside component) = ⊤
OpensWell t new (Opens kind c new_nodes) = IsFew new_nodes × IsChangeOf t new new_nodes c × IsThere c.tree kind

pub file_is_some : (o : Option Node) → is_file_node o ≡ true → is_some o ≡ true
file_is_some None file = file
file_is_some (Some node) file = refl

module _ (t u : Tree) (n : ℕ) (works : Reworks t u n) (file : is_file t n ≡ true) where
  reworked_keeps : KeepsNodes t u
  reworked_keeps = record {
    nodes = λ q. here_or_other (λ k. is_some (get u.nodes k) ≡ is_some (get t.nodes k)) n q
        (file_is_some (get u.nodes n) (works.file ∙ file) ∙ sym (file_is_some (get t.nodes n) file)) (λ other. ap is_some (works.others q other));
    kinds = λ q. here_or_other (λ k. is_directory u k ≡ is_directory t k) n q works.directory (λ other. ap is_directory_node (works.others q other));
    tables = λ q. ap (λ m. is_some (get m q)) works.names;
  }

  reworked_change : (new new_nodes : ℕ) → IsTree t → IsChangeOf t new new_nodes (record { tree = u; nodes = n ∷ []; directories = [] })
  reworked_change new new_nodes tree =
      kept_change t new new_nodes (record { tree = u; nodes = n ∷ []; directories = [] }) (works.tree tree) reworked_keeps
      (λ q is. here_or_other (λ k. is_file u k ≡ is_file t k) n q works.file (λ other. ap is_file_node (works.others q other)) ∙ is)
      (λ q lacks. works.others q (not_member_apart n q (n ∷ []) (first_is_member n []) lacks)) (λ q lacks. ap (λ m. get m q) works.names)

either_well : (b : Bool) (t : Tree) (new new_nodes : ℕ) (kind : OpenKind) (c d : Change) → IsChangeOf t new new_nodes c × IsThere c.tree kind
    → IsChangeOf t new new_nodes d × IsThere d.tree kind → IsChangeOf t new new_nodes (cond b c d) × IsThere (cond b c d).tree kind
either_well true t new new_nodes kind c d first second = first
either_well false t new new_nodes kind c d first second = second

unchanged : (t : Tree) (new new_nodes : ℕ) → IsTree t → IsChangeOf t new new_nodes (no_change t)
unchanged t new new_nodes tree =
    kept_change t new new_nodes (no_change t) tree (KeepsNodes-itself t) (λ q is. is) (λ q lacks. refl) (λ q lacks. refl)

module _ (flags now new : ℕ) (t : Tree) (tree : IsTree t) where
  truncated_well : (oflags n : ℕ) → is_file t n ≡ true
      → IsChangeOf t new 0 (truncated oflags now t n) × IsThere (truncated oflags now t n).tree (File n 0 flags)
  truncated_well oflags n file =
      let works = sized_reworks t n now 0 file in
      either_well (truncates oflags) t new 0 (File n 0 flags) (record { tree = sized t n now 0; nodes = n ∷ []; directories = [] }) (no_change t)
      (reworked_change t (sized t n now 0) n works file new 0 tree, works.file ∙ file) (unchanged t new 0 tree, file)

  made_well : (d : ℕ) (name : List ℕ) → get t.nodes new ≡ None → first_fault (make_faults t d name) ≡ None
      → IsChangeOf t new 1 (with_node (kind.File []) now new t d name) × IsThere (with_node (kind.File []) now new t d name).tree (File new 0 flags)
  made_well d name none free =
      let apart : new ≢ d = two_kinds t d new (can_make t d name free).directory (absent_no_directory t new none) in (
        with_node_change (kind.File []) now new t d name 1 tree free none (λ e. absurd (omega (arith, e))),
        ap is_file_node ((retimed_reworks (made t d name new (node_of (kind.File []) now)) d (modified now)).others new apart ∙ get-insert-same t.nodes new _),
      )

pub opens_well : (oflags flags : ℕ) (path : List ℕ) (now new : ℕ) (t : Tree) → IsTree t → get t.nodes new ≡ None → (end : PathEnd)
    → OpensWell t new (open_end oflags flags path now new t end)
opens_well oflags flags path now new t tree none =
    opened_holds oflags flags path now new t (λ end o. OpensWell t new o) (λ end errno here. tt)
    (λ n file. (let well = truncated_well flags now new t tree oflags n file in (inl refl, well.0, well.1)))
    (λ n is. (inl refl, unchanged t new 0 tree, is))
    (λ d from len made free. (let well = made_well flags now new t tree d (name_at path from len) none free in (inr refl, well.0, well.1)))
