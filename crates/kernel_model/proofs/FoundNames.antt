-- No call on names and no file_open answers BADF of its own in a valid state.
--     file_create_found, file_symlink_found, file_unlink_found, file_link_found, file_rename_found      the calls on names
--     file_open_found      file_open
use Rattle.std.proofs.Common.{◌≡◌, ◌≢◌, ℕ, ◌+◌, ◌==◌, ◌||◌, not, Bool, true, false, cond, List, [], ◌∷◌, length, Option, Some, None, is_some, refl, sym, subst, arith}
use Rattle.std.specs.Prelude.{⊤, bit_and, if◌then◌else◌, nat_lt}
use Rattle.std.specs.FinMap.{get}
use Rattle.std.specs.List.{AllByRecursion}
use Rattle.std.specs.Str.{is_utf8}
use Rattle.abi_base.specs.Rights.{Has}
use Rattle.abi_base.specs.declared.errno.Errno.{Errno}
use Rattle.abi_base.specs.declared.errno.Errno.TheVariants.{Badf, Ilseq, Inval, NameTooLong, Notdir, Notempty, Perm}
use Rattle.abi_base.specs.declared.rights.TheConstants.Rights.{FILE_CREATE_DIRECTORY, FILE_CREATE_FILE, FILE_LINK_SOURCE, FILE_LINK_TARGET, FILE_OPEN, FILE_RENAME_SOURCE, FILE_RENAME_TARGET, FILE_SYMLINK, FILE_UNLINK, NONE}
use Rattle.abi_structures.specs.declared.structures.FdStat.{FdStat}
use Rattle.abi_types.specs.declared.call.Lookup.{Lookup}
use Rattle.abi_types.specs.declared.node.Node.{Node}
use Rattle.abi_types.specs.declared.node.NodeKind.{NodeKind}
use Rattle.abi_types.specs.declared.node.NodeKind.TheVariants as kind
use Rattle.abi_types.specs.declared.open_kind.OpenKind.TheVariants.{Directory}
use Rattle.maps.specs.Closure.{member}
use Rattle.path_lookup.specs.Laws.{IsIn}
use Rattle.path_lookup.specs.declared.ends.End.{End as PathEnd}
use Rattle.path_lookup.specs.declared.ends.End.TheVariants as end
use Rattle.tree_model.specs.Changes.{is_same, link_faults, make_faults, rename_faults, replace_faults, unlink_faults}
use Rattle.tree_model.specs.Tree.{entry_of, is_directory}
use Rattle.tree_model.specs.declared.fault.TreeFault.{TreeFault}
use Rattle.kernel_model.specs.Families.ClockCalls.{real_time}
use Rattle.kernel_model.specs.Families.DescriptorCalls.{lowest_free}
use Rattle.kernel_model.specs.Families.FilePaths.{Walked, Ends, Fails, LeadsOutside, longest_path, lookup_mode, path_error, walked, walked_in}
use Rattle.kernel_model.specs.Families.LastNames.{last_name, name_at}
use Rattle.kernel_model.specs.Families.NameMaking.{empty_error, errno_of, file_create, file_symlink, make_in, making, making_unless, or_else, text_error, with_node}
use Rattle.kernel_model.specs.Families.NameMeaning.{NameOutcome, Refuses, Changes, at_name}
use Rattle.kernel_model.specs.Families.NameMoving.{at_found, at_found_end, file_link, file_rename, link_errno, link_in, linking, move_or_stay, rename_in, renaming, with_link}
use Rattle.kernel_model.specs.Families.NameRemoving.{file_unlink, removes_directory, unlink_errno, unlink_in, unlink_node, unlinking, without_name}
use Rattle.kernel_model.specs.Families.Numbers.{can_number, next_object}
use Rattle.kernel_model.specs.Families.Opening.{Opened, NotOpened, OpenedOutside, Opens, creates, file_open, make_file, makes_new, open_absent, open_at, open_end, open_kind, open_mode, open_node, open_row, open_walked, opened_outcome, truncates, wants_directory}
use Rattle.kernel_model.specs.Rows.{base_row, both}
use Rattle.kernel_model.specs.State.{ProcessState, State, Table, Tree, tree_of}
use Rattle.kernel_model.specs.Step.{tick}
use Rattle.kernel_model.specs.Valid.{IsNearlyValid}
use Rattle.kernel_model.proofs.FoundOpens.{NamesOther, NeverBadf, OnlyWhere, at_directory, by_name_found, by_names_found, either, row_granted}
use Rattle.kernel_model.proofs.FoundPaths.{LeadsThere, at_last_found, is_there, leads_there}
use Rattle.kernel_model.proofs.NameMaking.{first_holds, table_holds}
use Rattle.kernel_model.proofs.NameMoving.{unless_lost_holds}
use Rattle.kernel_model.proofs.Tests.{not_true}

-- ---- file_create, file_symlink and file_unlink

make_other : (kind : NodeKind) (now new : ℕ) (t : Tree) (d : ℕ) (name : List ℕ) → NamesOther (make_in kind now new t d name)
make_other kind now new t d name =
    table_holds NamesOther errno_of (make_faults t d name) (Changes (with_node kind now new t d name))
    ((λ e. cc), ((λ e. cc), ((λ e. cc), ((λ e. cc), tt)))) (λ free. tt)

-- the error, if there is one, is none of lacking descriptors
abbrev IsOther : Option Errno → Type 0
IsOther None = ⊤
IsOther (Some errno) = errno ≢ Badf

path_error_by : (long broken zeros : Bool) → IsOther (cond long (Some NameTooLong) (cond broken (Some Ilseq) (cond zeros (Some Inval) None)))
path_error_by true broken zeros = λ e. cc
path_error_by false true zeros = λ e. cc
path_error_by false false true = λ e. cc
path_error_by false false false = tt

empty_error_other : (text : List ℕ) → IsOther (empty_error text)
empty_error_other [] = λ e. cc
empty_error_other (b ∷ bs) = tt

or_else_other : (first second : Option Errno) → IsOther first → IsOther second → IsOther (or_else first second)
or_else_other None second one other = other
or_else_other (Some errno) second one other = one

text_error_other : (text : List ℕ) → IsOther (text_error text)
text_error_other text =
    or_else_other (path_error text) (empty_error text)
    (path_error_by (nat_lt longest_path (length text)) (not (is_utf8 text)) (member 0 text)) (empty_error_other text)

node_other : (flags now : ℕ) (t : Tree) (d : ℕ) (name : List ℕ) (o : Option ℕ) → NamesOther (unlink_node flags now t d name o)
node_other flags now t d name None = λ e. cc
node_other flags now t d name (Some n) =
    let goes = Changes (without_name now t d name n) in
    either NamesOther (is_directory t n) _ _
    (either NamesOther (removes_directory flags) goes (Refuses Perm) tt (λ e. cc))
    (either NamesOther (removes_directory flags) (Refuses Notdir) goes (λ e. cc) tt)

unlink_other : (flags now : ℕ) (t : Tree) (d : ℕ) (name : List ℕ) → NamesOther (unlink_in flags now t d name)
unlink_other flags now t d name =
    unless_lost_holds NamesOther t (entry_of t d name) _ (λ e. cc)
    (λ led.
    table_holds NamesOther (unlink_errno flags) (unlink_faults t d name) (unlink_node flags now t d name (entry_of t d name))
    ((λ e. cc), ((λ e. cc), ((λ e. cc), (either (λ errno. errno ≢ Badf) (removes_directory flags) Notempty Perm (λ e. cc) (λ e. cc), tt))))
    (λ free. node_other flags now t d name (entry_of t d name)))

module _ (S : State) (nearly : IsNearlyValid S) where
  making_other : (kind : NodeKind) (path : List ℕ) (now new node flags : ℕ) → is_directory (tree_of S) node ≡ true
      → NamesOther ((making kind path).effect now new (tree_of S) (Some (Directory node flags)) None)
  making_other kind path now new node flags = at_last_found (tree_of S) (make_in kind now new (tree_of S)) (make_other kind now new (tree_of S)) path node flags

  pub file_create_found : (fd : ℕ) (path : List ℕ) → NeverBadf ⊥ S (file_create fd path)
  file_create_found fd path =
      by_name_found S nearly (base_row fd FILE_CREATE_DIRECTORY) (making kind.Directory path)
      (λ now new.
      at_directory S (λ k. NamesOther ((making kind.Directory path).effect now new (tree_of S) (Some k) None)) 9 (base_row fd FILE_CREATE_DIRECTORY) refl refl
      ((omega arith, refl, refl, refl, refl), refl) (making_other kind.Directory path now new))

  symlink_other : (o : Option Errno) (text path : List ℕ) → IsOther o → (now new node flags : ℕ) → is_directory (tree_of S) node ≡ true
      → NamesOther ((making_unless o (making (kind.Link text) path)).effect now new (tree_of S) (Some (Directory node flags)) None)
  symlink_other None text path other = making_other (kind.Link text) path
  symlink_other (Some errno) text path other = λ now new node flags directory. other

  pub file_symlink_found : (text : List ℕ) (fd : ℕ) (path : List ℕ) → NeverBadf ⊥ S (file_symlink text fd path)
  file_symlink_found text fd path =
      let m = making_unless (text_error text) (making (kind.Link text) path) in
      by_name_found S nearly (base_row fd FILE_SYMLINK) m
      (λ now new.
      at_directory S (λ k. NamesOther (m.effect now new (tree_of S) (Some k) None)) 24 (base_row fd FILE_SYMLINK) refl refl
      ((omega arith, refl, refl, refl, refl), refl) (symlink_other (text_error text) text path (text_error_other text) now new))

  pub file_unlink_found : (fd : ℕ) (path : List ℕ) (flags : ℕ) → NeverBadf ⊥ S (file_unlink fd path flags)
  file_unlink_found fd path flags =
      by_name_found S nearly (base_row fd FILE_UNLINK) (unlinking flags path)
      (λ now new.
      at_directory S (λ k. NamesOther ((unlinking flags path).effect now new (tree_of S) (Some k) None)) 25 (base_row fd FILE_UNLINK) refl refl
      ((omega arith, refl, refl, refl, refl), refl)
      (at_last_found (tree_of S) (unlink_in flags now (tree_of S)) (unlink_other flags now (tree_of S)) path))

-- ---- file_link and file_rename

link_other : (now : ℕ) (t : Tree) (n d : ℕ) (name : List ℕ) → NamesOther (link_in now t n d name)
link_other now t n d name =
    table_holds NamesOther link_errno (link_faults t d name n) (Changes (with_link now t n d name))
    ((λ e. cc), ((λ e. cc), ((λ e. cc), ((λ e. cc), ((λ e. cc), ((λ e. cc), ((λ e. cc), tt))))))) (λ free. tt)

differ_other : (t : Tree) (moved old : Option ℕ) (to : ℕ) (same : Bool)
    → AllByRecursion (λ (f : Bool × TreeFault). errno_of f.1 ≢ Badf) (if same then [] else replace_faults t moved to old)
differ_other t moved old to true = tt
differ_other t moved old to false = ((λ e. cc), ((λ e. cc), ((λ e. cc), ((λ e. cc), tt))))

rename_other : (now : ℕ) (t : Tree) (from : ℕ) (name : List ℕ) (to : ℕ) (new : List ℕ) → NamesOther (rename_in now t from name to new)
rename_other now t from name to new =
    let differ = differ_other t (entry_of t from name) (entry_of t to new) to (is_same (entry_of t from name) (entry_of t to new)) in
    unless_lost_holds NamesOther t (entry_of t from name) _ (λ e. cc) (λ led.
    unless_lost_holds NamesOther t (entry_of t to new) _ (λ e. cc) (λ led_too.
    table_holds NamesOther errno_of (rename_faults t from name to new) (Changes (move_or_stay now t from name to new))
    ((λ e. cc), ((λ e. cc), ((λ e. cc), ((λ e. cc), ((λ e. cc), ((λ e. cc), differ)))))) (λ free. tt)))

end_other : (goes : ℕ → NameOutcome) → ((n : ℕ) → NamesOther (goes n)) → (end : PathEnd) → NamesOther (at_found_end goes end)
end_other goes at (end.Found n) = at n
end_other goes at (end.Absent dir from len) = λ e. cc
end_other goes at (end.Last dir from len) = λ e. cc

found_other : (t : Tree) (goes : ℕ → NameOutcome) → ((n : ℕ) → NamesOther (goes n)) → (w : Walked) → LeadsThere t w → NamesOther (at_found goes w)
found_other t goes at (Ends end) leads = end_other goes at end
found_other t goes at (Fails errno) leads = leads
found_other t goes at (LeadsOutside component) leads = tt

module _ (S : State) (nearly : IsNearlyValid S) where
  pub file_link_found : (lookup : Lookup) (path : List ℕ) (new_fd : ℕ) (new_path : List ℕ) → NeverBadf ⊥ S (file_link lookup path new_fd new_path)
  file_link_found lookup path new_fd new_path =
      let t : Tree = tree_of S in
      let mode = lookup_mode lookup.flags in
      let m = linking mode path new_path in
      by_names_found S nearly (base_row lookup.fd FILE_LINK_SOURCE) (base_row new_fd FILE_LINK_TARGET) m
      (λ now new here there first second.
      at_directory S (λ k. NamesOther (m.effect now new t (Some k) (Some there))) 12 (base_row lookup.fd FILE_LINK_SOURCE) refl refl
      ((omega arith, refl, refl, refl, refl), refl)
      (λ node flags directory.
      at_directory S (λ k. NamesOther (m.effect now new t (Some (Directory node flags)) (Some k))) 13 (base_row new_fd FILE_LINK_TARGET) refl refl
      ((omega arith, refl, refl, refl, refl), refl)
      (λ dir dir_flags target.
      found_other t (λ n. at_name (link_in now t n) (last_name t new_path (Some (Directory dir dir_flags))))
      (λ n. at_last_found t (link_in now t n) (link_other now t n) new_path dir dir_flags target)
      (walked_in t mode path node) (leads_there t mode path node directory)) there second) here first)

  pub file_rename_found : (fd : ℕ) (path : List ℕ) (new_fd : ℕ) (new_path : List ℕ) → NeverBadf ⊥ S (file_rename fd path new_fd new_path)
  file_rename_found fd path new_fd new_path =
      let t : Tree = tree_of S in
      let m = renaming path new_path in
      by_names_found S nearly (base_row fd FILE_RENAME_SOURCE) (base_row new_fd FILE_RENAME_TARGET) m
      (λ now new here there first second.
      at_directory S (λ k. NamesOther (m.effect now new t (Some k) (Some there))) 17 (base_row fd FILE_RENAME_SOURCE) refl refl
      ((omega arith, refl, refl, refl, refl), refl)
      (λ node flags directory.
      at_directory S (λ k. NamesOther (m.effect now new t (Some (Directory node flags)) (Some k))) 18 (base_row new_fd FILE_RENAME_TARGET) refl refl
      ((omega arith, refl, refl, refl, refl), refl)
      (λ dir dir_flags target.
      at_last_found t (λ from name. at_name (rename_in now t from name) (last_name t new_path (Some (Directory dir dir_flags))))
      (λ from name. at_last_found t (rename_in now t from name) (rename_other now t from name) new_path dir dir_flags target)
      path node flags directory) there second) here first)

-- ---- file_open

-- what is not opened is so for another error
abbrev OpensOther : Opened → Type 0
OpensOther (NotOpened errno) = errno ≢ Badf
OpensOther (OpenedOutside component) = ⊤
OpensOther (Opens kind change new_nodes) = ⊤

module _ (oflags flags now new : ℕ) (t : Tree) where
  kind_other : (n : ℕ) (kind : NodeKind) → OpensOther (open_kind oflags flags now t n kind)
  kind_other n (kind.File bytes) = either OpensOther (wants_directory oflags) _ _ (λ e. cc) tt
  kind_other n kind.Directory = either OpensOther (creates oflags || truncates oflags) _ _ (λ e. cc) tt
  kind_other n (kind.Link text) = λ e. cc

  node_opens : (n : ℕ) (o : Option Node) → is_some o ≡ true → OpensOther (open_node oflags flags now t n o)
  node_opens n None there = absurd (not_true there)
  node_opens n (Some node) there = either OpensOther (makes_new oflags) _ _ (λ e. cc) (kind_other n node.kind)

  absent_opens : (d : ℕ) (name : List ℕ) → OpensOther (open_absent oflags flags now new t d name)
  absent_opens d name =
      either OpensOther (creates oflags) _ _
      (first_holds (λ o. OpensOther (make_file flags now new t d name o)) (make_faults t d name) tt
      ((λ e. cc), ((λ e. cc), ((λ e. cc), ((λ e. cc), tt))))) (λ e. cc)

  end_opens : (path : List ℕ) (end : PathEnd) → IsIn (is_there t) end → OpensOther (open_end oflags flags path now new t end)
  end_opens path (end.Found n) there = node_opens n (get t.nodes n) there
  end_opens path (end.Absent dir from len) there = absent_opens dir (name_at path from len)
  end_opens path (end.Last dir from len) there = λ e. cc

  walked_opens : (path : List ℕ) (w : Walked) → LeadsThere t w → OpensOther (open_walked oflags flags path now new t w)
  walked_opens path (Ends end) leads = end_opens path end leads
  walked_opens path (Fails errno) leads = leads
  walked_opens path (LeadsOutside component) leads = tt

opened_found : (p : ℕ) (own : Option ProcessState) (table : Table) (stat : FdStat) (fd : ℕ) (opened : Opened) → OpensOther opened
    → OnlyWhere ⊥ (opened_outcome p own table stat fd opened)
opened_found p own table stat fd (NotOpened errno) other = other
opened_found p own table stat fd (OpenedOutside component) other = λ e. cc
opened_found p own table stat fd (Opens kind change new_nodes) other = either (OnlyWhere ⊥) (can_number p (new_nodes + 1) own) _ _ (λ e. cc) (λ e. cc)

open_found : (p : ℕ) (own : Option ProcessState) (table : Table) (stat : FdStat) (opened : Opened) (free : Option ℕ) → OpensOther opened
    → OnlyWhere ⊥ (open_at p own table stat opened free)
open_found p own table stat opened None other = λ e. cc
open_found p own table stat opened (Some fd) other = opened_found p own table stat fd opened other

-- its right to open is needed whatever else is
open_needed : (oflags fd : ℕ) (stat : FdStat) → Has (open_row fd oflags stat).base.0 14
open_needed oflags fd stat =
    elim (bit_and oflags 1 == 0) as (λ b. Has (both FILE_OPEN (cond b NONE FILE_CREATE_FILE)).0 14) [ true ↦ refl | false ↦ refl ]

module _ (S : State) (nearly : IsNearlyValid S) where
  pub file_open_found : (lookup : Lookup) (path : List ℕ) (oflags : ℕ) (stat : FdStat) → NeverBadf ⊥ S (file_open lookup path oflags stat)
  file_open_found lookup path oflags stat constants who table own all met =
      let t : Tree = tree_of S in
      let row = open_row lookup.fd oflags stat in
      let mode = open_mode oflags lookup.flags in
      let found = row_granted S nearly who.pid table row own met.0 in
      let now = real_time constants (tick S).clock in
      let new = next_object who.pid (get S.processes who.pid) 1 in
      open_found who.pid (get S.processes who.pid) table stat _ (lowest_free table)
      (subst (λ o. OpensOther (open_walked oflags stat.flags path now new t (walked t mode path o))) (sym found.1)
      (at_directory S (λ k. OpensOther (open_walked oflags stat.flags path now new t (walked t mode path (Some k)))) 14 row refl
      (open_needed oflags lookup.fd stat) ((omega arith, refl, refl, refl, refl), refl)
      (λ node flags directory. walked_opens oflags stat.flags now new t path (walked_in t mode path node) (leads_there t mode path node directory))
      found.0 found.2))
