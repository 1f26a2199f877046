-- What calls tell of files, directories and symlinks, and which flags fd_stat_put sets.
use Rattle.std.proofs.Common.{◌≡◌, ◌≢◌, inl, inr, ℕ, ◌+◌, ◌==◌, Bool, true, false, not, cond, List, [], ◌∷◌, ◌++◌, length, take, drop, min, Ok, Option, Some, None, refl, sym, ap, subst, ◌∙◌}
use Rattle.std.proofs.lemmas.Bool.{le-ltb}
use Rattle.std.proofs.lemmas.Bool.Decides.{eqb_tells}
use Rattle.std.proofs.lemmas.List.{length-take, take-append-drop}
use Rattle.std.specs.FinMap.{get, entries, insert}
use Rattle.std.specs.Prelude.{bit_and}
use Rattle.maps.specs.Closure.{member}
use Rattle.std.specs.Str.{is_utf8}
use Rattle.abi_base.specs.declared.errno.Errno.TheVariants.{Ilseq, Inval, NameTooLong}
use Rattle.abi_structures.specs.declared.structures.FdStat.{FdStat}
use Rattle.abi_types.specs.declared.call.Call.{Call}
use Rattle.abi_types.specs.declared.call.Call.TheVariants.{FdStatPut, FileReaddir, FileReadlink, FileStatGet}
use Rattle.abi_types.specs.declared.call.Lookup.{Lookup}
use Rattle.abi_types.specs.declared.constants.Constants.{Constants}
use Rattle.abi_types.specs.declared.descriptor.Descriptor.{Descriptor}
use Rattle.abi_types.specs.declared.node.Node.{Node}
use Rattle.abi_types.specs.declared.open_kind.OpenKind.{OpenKind}
use Rattle.abi_types.specs.declared.open_kind.OpenKind.TheVariants.{File, Directory, End, Terminal, Process}
use Rattle.abi_types.specs.declared.who.Who.{Who}
use Rattle.path_lookup.specs.Walk.{walk_of}
use Rattle.path_lookup.specs.declared.ends.End.TheVariants as end
use Rattle.tree_model.specs.Finds.{finds}
use Rattle.kernel_model.specs.Calls.{meaning_of}
use Rattle.kernel_model.specs.Families.DescriptorCalls.{stat_put, stat_set, with_flags, lowered_to}
use Rattle.kernel_model.specs.Families.FileLooks.{entries_bytes, list_names, list_open, read_link, read_link_in, read_node, report_in, report_node, reported, type_of}
use Rattle.kernel_model.specs.Families.FileMeaning.{open_of}
use Rattle.kernel_model.specs.Families.FilePaths.{Ends, at_walked, lookup_mode, path_error, walked, walked_unless}
use Rattle.kernel_model.specs.Outcome.{Outcome}
use Rattle.kernel_model.specs.State.{State, Table, put_all, set_open, set_table, tree_of}
use Rattle.kernel_model.specs.Step.{tick, unless, unreleased}
use Rattle.kernel_model.specs.View.{whole}
use Rattle.kernel_model.specs.Waits.{waiting, waits_if}
use Rattle.kernel_model.proofs.Outcomes.{outcome_of_table}
use Rattle.call_laws.specs.FileLaws.{AreTold, FilesAreTold, FlagsAreSet, IsAllowed, IsFront, IsPath, IsWithFlags, head_bytes, tells_none, tells_one, type_in}
use Rattle.call_laws.specs.NameLaws.{LeadsTo}
use Rattle.call_laws.proofs.NameChanges.{mode_is, opens_directory}
use Rattle.call_laws.proofs.Replies.{answer_of}
use Rattle.call_laws.proofs.Told.{node_told, node_types_are}

-- ---- paths

path_is : (path : List ℕ) → IsPath path → path_error path ≡ None
path_is path is =
    ap (λ b. cond b (Some NameTooLong) (cond (not (is_utf8 path)) (Some Ilseq) (cond (member 0 path) (Some Inval) None))) (le-ltb 1024 (length path) is.short)
    ∙ ap (λ b. cond (not b) (Some Ilseq) (cond (member 0 path) (Some Inval) None)) is.text ∙ ap (λ b. cond b (Some Inval) None) is.no_zero

pub leads : (S : State) (table : Table) (lookup : Lookup) (path : List ℕ) (n : ℕ) → IsPath path → LeadsTo S table lookup path n
    → walked (tree_of S) (lookup_mode lookup.flags) path (open_of (whole (tick S)) (get table lookup.fd)) ≡ Ends (end.Found n)
leads S table lookup path n sound to =
    ap (walked (tree_of S) (lookup_mode lookup.flags) path) (opens_directory S table lookup.fd to.start to.begins)
    ∙ ap (λ mode. walked_unless (path_error path) (walk_of (finds (tree_of S)) mode to.start path)) (mode_is S table lookup.flags to.mode to.follows)
    ∙ ap (walked_unless (path_error path)) to.ends ∙ ap (λ o. walked_unless o (Ok (end.Found n))) (path_is path sound)

front_is : (room : ℕ) (all : List ℕ) → IsFront room all (take (min room 65536) all)
front_is room all = record {
  rest = drop (min room 65536) all;
  whole = sym (take-append-drop (min room 65536) all);
  count = length-take (min room 65536) all;
}

-- ---- directories

types_in : (o : Option Node) → type_of o ≡ type_in o
types_in None = refl
types_in (Some node) = node_types_are node.kind

are_told : (S : State) (place : ℕ) (listed : List (List ℕ × ℕ)) → AreTold S place listed (entries_bytes (tree_of S) place listed)
are_told S place [] = tells_none place
are_told S place (entry ∷ others) =
    subst (λ kind. AreTold S place (entry ∷ others)
    ((head_bytes (record { next = place + 1; ino = entry.1; namlen = length entry.0; kind = kind }) ++ entry.0) ++ entries_bytes (tree_of S) (place + 1) others))
    (sym (types_in (get S.nodes entry.1)))
    (tells_one place entry.0 entry.1 others (entries_bytes (tree_of S) (place + 1) others) (are_told S (place + 1) others))

pub files_are_told : FilesAreTold
files_are_told = record {
  stats = λ constants S who lookup path n node table is sound to there.
      answer_of constants S who (FileStatGet lookup path) table is.own is.allowed
      ∙ ap (λ w. (at_walked (report_in (tree_of S)) w).answer) (leads S table lookup path n sound to)
      ∙ ap (λ o. (report_node n o).answer) there ∙ ap (λ stat. (reported stat).answer) (node_told n node);
  links = λ constants S who fd path room n node text table is sound to there link. (
    take (min room 65536) text,
    front_is room text,
    answer_of constants S who (FileReadlink fd path room) table is.own is.allowed
        ∙ ap (λ w. (at_walked (read_link_in room (tree_of S)) w).answer) (leads S table (record { fd = fd; flags = 0 }) path n sound to)
        ∙ ap (λ o. (read_node room o).answer) there ∙ ap (λ k. (read_link room k).answer) link,
  );
  names = λ constants S who fd room cookie n table named is begins there. (
    drop cookie (entries named),
    entries_bytes (tree_of S) cookie (drop cookie (entries named)),
    take (min room 65536) (entries_bytes (tree_of S) cookie (drop cookie (entries named))),
    record { before = take cookie (entries named); whole = sym (take-append-drop cookie (entries named)); count = length-take cookie (entries named) },
    are_told S cookie (drop cookie (entries named)),
    front_is room (entries_bytes (tree_of S) cookie (drop cookie (entries named))),
    answer_of constants S who (FileReaddir fd room cookie) table is.own is.allowed
        ∙ ap (λ kind. (list_open room cookie (tree_of S) kind).answer) (opens_directory S table fd n begins)
        ∙ ap (λ o. (list_names (tree_of S) room cookie o).answer) there,
  );
}

-- ---- fd_stat_put

with_flags_is : (was : OpenKind) (new : ℕ) → IsWithFlags was new (with_flags was new)
with_flags_is (File node offset flags) new = refl
with_flags_is (Directory node flags) new = refl
with_flags_is (End reads writes flags form) new = refl
with_flags_is (Terminal which flags) new = refl
with_flags_is (Process p object) new = refl

module _ (constants : Constants) (S : State) (who : Who) (fd : ℕ) (stat : FdStat) (flags : ℕ) (table : Table) (is : IsAllowed S who (FdStatPut fd stat flags) table) where
  abbrev put : Call
  put = FdStatPut fd stat flags

  abbrev left : Outcome → State
  left o = waits_if o.answer who (waiting constants put who (S.clock + 1000)) (put_all o.updates (tick S))

  left_is : unreleased constants S who put ≡ left (stat_put (whole (tick S)) who.pid table fd stat flags (get table fd))
  left_is =
      ap left (outcome_of_table constants S who put table is.own ∙ ap (λ r. unless r ((meaning_of put).effect constants (whole (tick S)) who table)) is.allowed)

  abbrev opens : Descriptor → OpenKind → Bool → Bool → State
  opens d was no_flags no_rights =
      put_all (cond no_flags [] (set_open d.id (with_flags was stat.flags) ∷ []) ++ cond no_rights [] (set_table who.pid (insert table fd (lowered_to d stat)) ∷ [])) (tick S)

  opens_set : (d : Descriptor) (was : OpenKind) (no_rights : Bool) → (opens d was false no_rights).opens ≡ insert S.opens d.id (with_flags was stat.flags)
  opens_set d was false = refl
  opens_set d was true = refl

  opens_left : (d : Descriptor) (was : OpenKind) (no_rights : Bool) → (opens d was true no_rights).opens ≡ S.opens
  opens_left d was false = refl
  opens_left d was true = refl

  sets : (d : Descriptor) (was : OpenKind) → get table fd ≡ Some d → get S.opens d.id ≡ Some was → bit_and flags 1 ≢ 0
      → (unreleased constants S who put).opens ≡ insert S.opens d.id (with_flags was stat.flags)
  sets d was there opened set =
      ap (λ (T : State). T.opens) (left_is ∙ ap (λ o. left (stat_put (whole (tick S)) who.pid table fd stat flags o)) there
      ∙ ap (λ o. left (stat_set who.pid table fd stat flags d o)) opened)
      ∙ elim (eqb_tells (bit_and flags 1) 0) [
        | inl none ↦ absurd (set none.1)
        | inr some ↦ ap (λ b. (opens d was b (bit_and flags 2 == 0)).opens) some.0
      ]
      ∙ opens_set d was (bit_and flags 2 == 0)

  kept_by_kind : (d : Descriptor) (o : Option OpenKind) → bit_and flags 1 ≡ 0 → (left (stat_set who.pid table fd stat flags d o)).opens ≡ S.opens
  kept_by_kind d None none = refl
  kept_by_kind d (Some was) none = ap (λ n. (opens d was (n == 0) (bit_and flags 2 == 0)).opens) none ∙ opens_left d was (bit_and flags 2 == 0)

  kept : (o : Option Descriptor) → bit_and flags 1 ≡ 0 → (left (stat_put (whole (tick S)) who.pid table fd stat flags o)).opens ≡ S.opens
  kept None none = refl
  kept (Some d) none = kept_by_kind d (get S.opens d.id) none

pub flags_are_set : FlagsAreSet
flags_are_set = record {
  sets = λ constants S who fd stat flags d was table is there opened set.
      (with_flags was stat.flags, with_flags_is was stat.flags, sets constants S who fd stat flags table is d was there opened set);
  leaves = λ constants S who fd stat flags table is none.
      ap (λ (T : State). T.opens) (left_is constants S who fd stat flags table is) ∙ kept constants S who fd stat flags table is (get table fd) none;
}
