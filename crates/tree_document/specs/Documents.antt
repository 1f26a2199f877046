-- Which texts are tree documents, and what tree each means.
--     AreAllowed m rs, with_records m rs      each record may stand behind those before it;  the tree with the records
--     document rs      the text of records
--     Means times bytes t      the text is a tree document, and this is its tree, whose nodes have these times
--     IsFaultyAt times bytes byte      the text is no document, and the first record that is none, or may not stand there, begins at the byte
use Rattle.std.specs.Prelude.{◌≡◌, ◌≢◌, ℕ, List, [], ◌∷◌, ◌++◌, length}
use Rattle.std.specs.List.{flat_map}
use Rattle.abi_types.specs.declared.node.Times.{Times}
use Rattle.tree_model.specs.Tree.{Tree}
use Rattle.tree_records.specs.Records.{Record, IsRecord, encoded}
use Rattle.tree_document.specs.Building.{Making, start, IsAllowed, with_record}

-- the text of records
abbrev pub document : List Record → List ℕ
document rs = flat_map encoded rs

-- each is a record that may stand behind those before it
abbrev pub AreAllowed : Making → List Record → Type 0
AreAllowed m [] = Unit {0}
AreAllowed m (r ∷ rs) = IsRecord r × IsAllowed m r × AreAllowed (with_record m r) rs

abbrev pub with_records : Making → List Record → Making
with_records m [] = m
with_records m (r ∷ rs) = with_records (with_record m r) rs

-- the text means the tree, where nodes have these times: it is that of records, each of which may stand where it stands
pub record Means (times : Times) (bytes : List ℕ) (t : Tree) : Type 0 where
  pub records : List Record
  pub allowed : AreAllowed (start times) records
  pub text : bytes ≡ document records
  pub tree : t ≡ (with_records (start times) records).tree

-- no record that may stand next begins the text
abbrev pub IsNoRecord : Making → List ℕ → Type 0
IsNoRecord m text = (r : Record) (more : List ℕ) → IsRecord r → IsAllowed m r → text ≡ encoded r ++ more → ⊥

-- the text is no document: records that may stand where they stand fill the bytes before this one, and what follows is not
-- nothing, and begins with no record that may stand there
pub record IsFaultyAt (times : Times) (bytes : List ℕ) (byte : ℕ) : Type 0 where
  pub before : List Record
  pub rest : List ℕ
  pub allowed : AreAllowed (start times) before
  pub text : bytes ≡ document before ++ rest
  pub place : byte ≡ length (document before)
  pub some : rest ≢ []
  pub none : IsNoRecord (with_records (start times) before) rest
