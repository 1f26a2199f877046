-- What is generated for n children.
use Rattle.std.specs.Prelude.{ℕ, ◌≡◌, List, ◌++◌, codes}
use Rattle.guest_kit.specs.declared.generated.Generated.{Generated}
use Rattle.guest_kit.specs.Programs.{IsProgramFor}
use Rattle.guest_kit.specs.Trees.{tree_text}

-- descriptor 0 is of the directory `in`, whose files may be read, and descriptor 1 of `out`, in which files may be made and written
abbrev pub launch_text : List ℕ
launch_text =
    codes "- !file {path: in, rights: [FILE_OPEN], inheriting: [FD_READ]}\n"
    ++ codes "- !file {path: out, rights: [FILE_OPEN, FILE_CREATE_FILE], inheriting: [FD_WRITE]}\n"

-- a program, and the launch text and the tree document that it is run on
pub record IsGenerated (n : ℕ) (generated : Generated) : Type 0 where
  pub launch : generated.launch ≡ launch_text
  pub tree : generated.tree ≡ tree_text n
  pub program : IsProgramFor n generated.program
