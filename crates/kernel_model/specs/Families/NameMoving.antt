-- The calls that give a file one more name, and that move a name. Of two paths the first is treated wholly before the second.
use Rattle.std.specs.Prelude.{ℕ, List, [], ◌∷◌, ◌++◌, Option, None, Some, if◌then◌else◌}
use Rattle.abi_base.specs.declared.errno.Errno.{Errno}
use Rattle.abi_base.specs.declared.errno.Errno.TheVariants.{Exist, Isdir, Mlink, Noent, Notempty, Perm}
use Rattle.abi_base.specs.declared.rights.TheConstants.Rights.{FILE_LINK_SOURCE, FILE_LINK_TARGET, FILE_RENAME_SOURCE, FILE_RENAME_TARGET}
use Rattle.abi_types.specs.declared.call.Lookup.{Lookup}
use Rattle.path_lookup.specs.declared.ends.End.{End}
use Rattle.path_lookup.specs.declared.ends.End.TheVariants as end
use Rattle.path_lookup.specs.declared.ends.WalkMode.{WalkMode}
use Rattle.tree_model.specs.Changes.{first_fault, is_same, link_faults, linked, rename_faults, renamed, replaced}
use Rattle.tree_model.specs.Tree.{entry_of}
use Rattle.tree_model.specs.declared.fault.TreeFault.{TreeFault}
use Rattle.tree_model.specs.declared.fault.TreeFault.TheVariants.{IsDirectory}
use Rattle.kernel_model.specs.Families.FilePaths.{Walked, Ends, Fails, LeadsOutside, found_part, lookup_mode, path_errors, walked}
use Rattle.kernel_model.specs.Families.LastNames.{LastName, StandsIn, IsNone, IsOutside, directory_parts, last_name, last_outside}
use Rattle.kernel_model.specs.Meaning.{Meaning}
use Rattle.kernel_model.specs.Families.NameMaking.{errno_of, with_new_names}
use Rattle.kernel_model.specs.Families.NameMeaning.{NameOutcome, Refuses, LeadsOut, Changes, NameMeaning, at_name, by_names, unless_fault}
use Rattle.kernel_model.specs.Families.NameRemoving.{named_parts, unless_lost, with_new_count}
use Rattle.kernel_model.specs.Rows.{base_row}
use Rattle.kernel_model.specs.State.{Tree}
use Rattle.kernel_model.specs.Families.TreeUpdates.{Change, no_change}

-- ---- file_link: one more name of a node

-- a directory has one name alone
abbrev pub link_errno : TreeFault → Errno
link_errno IsDirectory = Perm
link_errno fault = errno_of fault

abbrev pub with_link : ℕ → Tree → ℕ → ℕ → List ℕ → Change
with_link now t n d name = record {
  tree = with_new_count now (with_new_names now (linked t d name n) d) n;
  nodes = d ∷ n ∷ [];
  directories = d ∷ [];
}

abbrev pub link_in : ℕ → Tree → ℕ → ℕ → List ℕ → NameOutcome
link_in now t n d name = unless_fault link_errno (first_fault (link_faults t d name n)) (Changes (with_link now t n d name))

-- it goes on at the node that a path leads to
abbrev pub at_found_end : (ℕ → NameOutcome) → End → NameOutcome
at_found_end goes (end.Found n) = goes n
at_found_end goes (end.Absent dir from len) = Refuses Noent
at_found_end goes (end.Last dir from len) = Refuses Noent

abbrev pub at_found : (ℕ → NameOutcome) → Walked → NameOutcome
at_found goes (Ends end) = at_found_end goes end
at_found goes (Fails errno) = Refuses errno
at_found goes (LeadsOutside component) = LeadsOut component

-- the component at which the first path leads outside, or the second, where the first has a node
abbrev pub found_outside_end : Option ℕ → End → Option ℕ
found_outside_end second (end.Found n) = second
found_outside_end second (end.Absent dir from len) = None
found_outside_end second (end.Last dir from len) = None

abbrev pub found_outside : Option ℕ → Walked → Option ℕ
found_outside second (Ends end) = found_outside_end second end
found_outside second (Fails errno) = None
found_outside second (LeadsOutside component) = Some component

abbrev pub linking : WalkMode → List ℕ → List ℕ → NameMeaning
linking mode path new_path = record {
  effect = λ now new t here there. at_found (λ n. at_name (link_in now t n) (last_name t new_path there)) (walked t mode path here);
  outside = λ t here there. found_outside (last_outside (last_name t new_path there)) (walked t mode path here);
  touched = λ t here there. found_part (walked t mode path here) ++ directory_parts (last_name t new_path there);
  new_nodes = 0;
  errors = path_errors ++ Perm ∷ Exist ∷ Mlink ∷ [];
}

abbrev pub file_link : Lookup → List ℕ → ℕ → List ℕ → Meaning
file_link lookup path new_fd new_path =
    by_names (base_row lookup.fd FILE_LINK_SOURCE) (base_row new_fd FILE_LINK_TARGET) (linking (lookup_mode lookup.flags) path new_path)

-- ---- file_rename: a name moves, and a node that had the new name loses it

abbrev pub node_of_name : Option ℕ → List ℕ
node_of_name None = []
node_of_name (Some n) = n ∷ []

abbrev pub with_new_count_of : ℕ → Tree → Option ℕ → Tree
with_new_count_of now t None = t
with_new_count_of now t (Some n) = with_new_count now t n

abbrev pub with_move : ℕ → Tree → ℕ → List ℕ → ℕ → List ℕ → Change
with_move now t from name to new = record {
  tree = with_new_count_of now (with_new_names now (with_new_names now (renamed t from name to new) from) to) (replaced t from name to new);
  nodes = from ∷ to ∷ node_of_name (replaced t from name to new);
  directories = from ∷ to ∷ [];
}

-- two names of one node stay as they are
abbrev pub move_or_stay : ℕ → Tree → ℕ → List ℕ → ℕ → List ℕ → Change
move_or_stay now t from name to new =
    if is_same (entry_of t from name) (entry_of t to new) then no_change t else with_move now t from name to new

abbrev pub rename_in : ℕ → Tree → ℕ → List ℕ → ℕ → List ℕ → NameOutcome
rename_in now t from name to new =
    unless_lost t (entry_of t from name)
    (unless_lost t (entry_of t to new)
    (unless_fault errno_of (first_fault (rename_faults t from name to new)) (Changes (move_or_stay now t from name to new))))

abbrev pub second_outside : Option ℕ → LastName → Option ℕ
second_outside second (StandsIn dir name) = second
second_outside second (IsNone errno) = None
second_outside second (IsOutside component) = Some component

abbrev pub renaming : List ℕ → List ℕ → NameMeaning
renaming path new_path = record {
  effect = λ now new t here there.
      at_name (λ from name. at_name (rename_in now t from name) (last_name t new_path there)) (last_name t path here);
  outside = λ t here there. second_outside (last_outside (last_name t new_path there)) (last_name t path here);
  touched = λ t here there.
      directory_parts (last_name t path here)
      ++ (directory_parts (last_name t new_path there) ++ named_parts t (last_name t new_path there));
  new_nodes = 0;
  errors = path_errors ++ Isdir ∷ Notempty ∷ [];
}

abbrev pub file_rename : ℕ → List ℕ → ℕ → List ℕ → Meaning
file_rename fd path new_fd new_path =
    by_names (base_row fd FILE_RENAME_SOURCE) (base_row new_fd FILE_RENAME_TARGET) (renaming path new_path)
