-- What the grants of a launch lead to in its file tree, and by which rights a tree is changed.
use Rattle.std.specs.Prelude.{◌≡◌, ◌⊎◌, ⊤, ℕ, true, List, [], ◌∷◌, Some, slice_get}
use Rattle.abi_base.specs.Rights.{Has}
use Rattle.abi_base.specs.declared.grant.Grant.{Grant}
use Rattle.abi_base.specs.declared.grant.GrantTarget.{GrantTarget}
use Rattle.abi_base.specs.declared.grant.GrantTarget.TheVariants as target
use Rattle.abi_base.specs.declared.rights.Rights.{Rights}
use Rattle.abi_base.specs.declared.rights.TheConstants.Rights.{FD_WRITE, FILE_ALLOCATE, FILE_CREATE_DIRECTORY, FILE_CREATE_FILE, FILE_LINK_SOURCE, FILE_LINK_TARGET, FILE_RENAME_SOURCE, FILE_RENAME_TARGET, FILE_STAT_FPUT_SIZE, FILE_STAT_FPUT_TIMES, FILE_STAT_PUT_TIMES, FILE_SYMLINK, FILE_UNLINK}
use Rattle.maps.specs.Closure.{member}
use Rattle.run_types.specs.declared.launch.Launch.{Launch}
use Rattle.kernel_model.specs.Proper.{IsIn}
use Rattle.tree_model.specs.Tree.{Tree, below}

-- the rights by which files, directories and names are changed: their bytes, their sizes, their times, which names there are and of what
abbrev pub writing_rights : List Rights
writing_rights =
    FD_WRITE ∷ FILE_ALLOCATE ∷ FILE_CREATE_DIRECTORY ∷ FILE_CREATE_FILE ∷ FILE_LINK_SOURCE ∷ FILE_LINK_TARGET ∷ FILE_RENAME_SOURCE
    ∷ FILE_RENAME_TARGET ∷ FILE_STAT_FPUT_SIZE ∷ FILE_STAT_FPUT_TIMES ∷ FILE_STAT_PUT_TIMES ∷ FILE_SYMLINK ∷ FILE_UNLINK ∷ []

-- bit k is that of one of these rights
abbrev pub IsWriting : ℕ → Type 0
IsWriting k = (right : Rights) × IsIn right writing_rights × Has right.0 k

-- among the base rights or the inheriting rights is one of these
pub record MayWrite (base inheriting : Rights) : Type 0 where
  pub k : ℕ
  pub writing : IsWriting k
  pub has : Has base.0 k ⊎ Has inheriting.0 k

-- which grants are meant: all, or those with one of these rights, or which pass one on
pub data Scope : Type 0 where
  any : Scope
  writing : Scope

-- rights like these are meant
abbrev pub IsMeant : Scope → Rights → Rights → Type 0
IsMeant any base inheriting = ⊤
IsMeant writing base inheriting = MayWrite base inheriting

-- what is granted is the node, or a directory that the node is below
abbrev pub LeadsTo : Tree → GrantTarget → ℕ → Type 0
LeadsTo t (target.Terminal which) n = ⊥
LeadsTo t (target.Node m) n = member n (below t m) ≡ true

-- one of the launch's grants that are meant leads to the node, in the tree that the run begins with
pub record IsLedTo (scope : Scope) (launch : Launch) (n : ℕ) : Type 0 where
  pub k : ℕ
  pub grant : Grant
  pub listed : slice_get launch.grants k ≡ Some grant
  pub meant : IsMeant scope grant.base grant.inheriting
  pub leads : LeadsTo launch.tree grant.target n
