-- The calls that make a directory or a symlink.
use Rattle.std.specs.Prelude.{ℕ, List, [], ◌∷◌, ◌++◌, Option, None, Some}
use Rattle.abi_base.specs.declared.errno.Errno.{Errno}
use Rattle.abi_base.specs.declared.errno.Errno.TheVariants.{Again, Badf, Exist, Fbig, Inval, Isdir, Mlink, Noent, Notdir, Notempty}
use Rattle.abi_base.specs.declared.rights.TheConstants.Rights.{FILE_CREATE_DIRECTORY, FILE_SYMLINK}
use Rattle.abi_types.specs.declared.node.Node.{Node}
use Rattle.abi_types.specs.declared.node.NodeKind.{NodeKind}
use Rattle.abi_types.specs.declared.node.NodeKind.TheVariants as kind
use Rattle.tree_model.specs.Changes.{first_fault, made, make_faults}
use Rattle.tree_model.specs.declared.fault.TreeFault.{TreeFault}
use Rattle.tree_model.specs.declared.fault.TreeFault.TheVariants.{Absent, Taken, NotDirectory, IsDirectory, NotEmpty, Below, Links, TooLarge, NoMemory}
use Rattle.kernel_model.specs.Families.FileChanges.{modified, retimed}
use Rattle.kernel_model.specs.Families.FilePaths.{path_error, path_errors}
use Rattle.kernel_model.specs.Families.LastNames.{directory_parts, last_name, last_outside}
use Rattle.kernel_model.specs.Meaning.{Meaning}
use Rattle.kernel_model.specs.Families.NameMeaning.{NameOutcome, Refuses, Changes, NameMeaning, at_name, by_name, unless_fault}
use Rattle.kernel_model.specs.Rows.{base_row}
use Rattle.kernel_model.specs.State.{Tree}
use Rattle.kernel_model.specs.Families.TreeUpdates.{Change}

-- The error for a fault of the tree. Lack of memory is no fault of a tree's table.
abbrev pub errno_of : TreeFault → Errno
errno_of Absent = Noent
errno_of Taken = Exist
errno_of NotDirectory = Notdir
errno_of IsDirectory = Isdir
errno_of NotEmpty = Notempty
errno_of Below = Inval
errno_of Links = Mlink
errno_of TooLarge = Fbig
errno_of NoMemory = Badf

-- the names in the directory have changed now
abbrev pub with_new_names : ℕ → Tree → ℕ → Tree
with_new_names now t d = retimed t d (modified now)

-- a node that is made now
abbrev pub node_of : NodeKind → ℕ → Node
node_of kind now = record { kind = kind; times = record { atim = now; mtim = now; ctim = now }; links = 0 }

-- a new directory has names, though there is none yet
abbrev pub new_directories : NodeKind → ℕ → List ℕ
new_directories (kind.File bytes) new = []
new_directories kind.Directory new = new ∷ []
new_directories (kind.Link text) new = []

-- a new node with its first name
abbrev pub with_node : NodeKind → ℕ → ℕ → Tree → ℕ → List ℕ → Change
with_node kind now new t d name = record {
  tree = with_new_names now (made t d name new (node_of kind now)) d;
  nodes = d ∷ new ∷ [];
  directories = d ∷ new_directories kind new;
}

abbrev pub make_in : NodeKind → ℕ → ℕ → Tree → ℕ → List ℕ → NameOutcome
make_in kind now new t d name = unless_fault errno_of (first_fault (make_faults t d name)) (Changes (with_node kind now new t d name))

-- the meaning of a call that makes such a node by a path
abbrev pub making : NodeKind → List ℕ → NameMeaning
making kind path = record {
  effect = λ now new t here there. at_name (make_in kind now new t) (last_name t path here);
  outside = λ t here there. last_outside (last_name t path here);
  touched = λ t here there. directory_parts (last_name t path here);
  new_nodes = 1;
  errors = path_errors ++ Exist ∷ Again ∷ [];
}

-- ---- file_create: a directory

abbrev pub file_create : ℕ → List ℕ → Meaning
file_create fd path = by_name (base_row fd FILE_CREATE_DIRECTORY) (making kind.Directory path)

-- ---- file_symlink

-- Why a text can't be a symlink's: it is no path, or it is empty.
abbrev pub empty_error : List ℕ → Option Errno
empty_error [] = Some Noent
empty_error (b ∷ bs) = None

abbrev pub or_else : Option Errno → Option Errno → Option Errno
or_else None second = second
or_else (Some errno) second = Some errno

abbrev pub text_error : List ℕ → Option Errno
text_error text = or_else (path_error text) (empty_error text)

-- the text is looked at before the path is
abbrev pub making_unless : Option Errno → NameMeaning → NameMeaning
making_unless None m = m
making_unless (Some errno) m = record m {
  effect = λ now new t here there. Refuses errno;
  outside = λ t here there. None;
  touched = λ t here there. [];
}

abbrev pub file_symlink : List ℕ → ℕ → List ℕ → Meaning
file_symlink text fd path = by_name (base_row fd FILE_SYMLINK) (making_unless (text_error text) (making (kind.Link text) path))
