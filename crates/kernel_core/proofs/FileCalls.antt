-- Calls that work on the open of a descriptor change the file tree alone.
--     put_all_tree      updates of the tree alone give a state with the tree that they make
--     opened_is      the open of a descriptor
--     file_does, file_comes      a call means what its outcome is;  on the open that a descriptor has
--     file_takes_memory      memory may run out in it
--     tree_valid      a valid state with another tree, whose nodes have as many names, is valid where it is nearly so
--     there_behind      what stands behind an open of a valid state is there
--     absent_comes      without an open it comes to BADF
--     done_valid      what a call leaves of a valid state is valid
--     done_released      and it is the state of its outcome, of which nothing is released
use Rattle.std.proofs.Common.{◌≡◌, ◌==◌, ◌||◌, ℕ, true, List, [], ◌∷◌, Option, None, Some, refl, sym, ap, subst, ◌∙◌}
use Rattle.std.specs.Prelude.{is_some, nat_lt}
use Rattle.std.specs.FinMap.{get}
use Rattle.std.specs.List.{AllByRecursion}
use Rattle.std.specs.Option.{option_map}
use Rattle.abi_base.specs.declared.errno.Errno.TheVariants.{Badf}
use Rattle.abi_types.specs.declared.call.Call.{Call}
use Rattle.abi_types.specs.declared.call.Call.TheVariants as call
use Rattle.abi_types.specs.declared.constants.Constants.{Constants}
use Rattle.abi_types.specs.declared.descriptor.Descriptor.{Descriptor}
use Rattle.abi_types.specs.declared.node.Node.{Node}
use Rattle.abi_types.specs.declared.open_kind.OpenKind.{OpenKind}
use Rattle.abi_types.specs.declared.open_kind.OpenKind.TheVariants.{File, Directory, End, Terminal, Process}
use Rattle.abi_types.specs.declared.who.Who.{Who}
use Rattle.tree_model.specs.Opens.{opens_of_node}
use Rattle.tree_model.specs.Tree.{links_in, links_of}
use Rattle.tree_model.specs.declared.limits.TheConstants.{ROOT}
use Rattle.kernel_model.specs.Calls.{meaning_of, takes_memory}
use Rattle.kernel_model.specs.Families.ClockCalls.{real_time}
use Rattle.kernel_model.specs.Families.FileCalls.{file_meaning, file_fd}
use Rattle.kernel_model.specs.Families.FileMeaning.{open_of}
use Rattle.kernel_model.specs.Meaning.{Meaning}
use Rattle.kernel_model.specs.Outcome.{replies}
use Rattle.kernel_model.specs.Release.{release}
use Rattle.kernel_model.specs.Reply.{refused}
use Rattle.kernel_model.specs.State.{State, Table, Tree, tree_of, Update, put_all, put_one, set_node, set_names}
use Rattle.kernel_model.specs.Valid.{HasBehind, IsNearlyValid, IsValid}
use Rattle.kernel_model.specs.View.{whole}
use Rattle.kernel_model.proofs.FileCalls.{on_open_of}
use Rattle.kernel_model.proofs.FileMeanings.{IsOfTree}
use Rattle.kernel_model.proofs.Tests.{none_is_no}
use Rattle.kernel_model.proofs.Valids.{release_valid}
use Rattle.file_calls.specs.Done.{HasSameNodes, tree_after}
use Rattle.file_calls.specs.Opens.{IsThere}
use Rattle.kernel_parts.specs.Entries.{open_in}
use Rattle.kernel_core.specs.Files.{file_outcome}

-- a state with another file tree
abbrev pub with_tree : State → Tree → State
with_tree S t = record S { nodes = t.nodes; names = t.names }

pub put_all_tree : (us : List Update) (S : State) → AllByRecursion IsOfTree us → put_all us S ≡ with_tree S (tree_after us (tree_of S))
put_all_tree [] S h = refl
put_all_tree (set_node n node ∷ us) S h = put_all_tree us (put_one (set_node n node) S) h.1
put_all_tree (set_names n names ∷ us) S h = put_all_tree us (put_one (set_names n names) S) h.1
put_all_tree (u ∷ us) S h = absurd h.0

-- ---- what the calls mean

pub opened_is : (S : State) (o : Option Descriptor) → open_of (whole S) o ≡ open_in S.opens o
opened_is S None = refl
opened_is S (Some d) = refl

pub file_does : (constants : Constants) (S : State) (who : Who) (table : Table) (called : Call) (fd : ℕ) → file_fd called ≡ Some fd
    → (meaning_of called).effect constants (whole S) who table ≡ file_outcome constants S table fd called
file_does constants S who table called fd is =
    let on = on_open_of called fd is in
    ap (λ (m : Meaning). m.effect constants (whole S) who table) on.means ∙ ap (λ n. file_outcome constants S table n called) on.of

-- on the open that a descriptor has
pub file_comes : (constants : Constants) (S : State) (table : Table) (fd : ℕ) (called : Call) (kind : OpenKind) → open_in S.opens (get table fd) ≡ Some kind
    → (file_meaning called).effect (real_time constants S.clock) (tree_of S) (Some kind) ≡ file_outcome constants S table fd called
file_comes constants S table fd called kind opened =
    ap ((file_meaning called).effect (real_time constants S.clock) (tree_of S)) (sym (opened_is S (get table fd) ∙ opened))

pub file_takes_memory : (called : Call) (fd : ℕ) → file_fd called ≡ Some fd → (file_meaning called).takes_memory ≡ true → takes_memory called ≡ true
file_takes_memory called fd is takes = ap (λ (m : Meaning). m.takes_memory) (on_open_of called fd is).means ∙ takes

-- ---- validity

abbrev count : Option Node → Option ℕ
count o = option_map (λ (node : Node). node.links) o

abbrev counted : Option ℕ → ℕ
counted None = 0
counted (Some n) = n

links_counted : (o : Option Node) → links_in o ≡ counted (count o)
links_counted None = refl
links_counted (Some node) = refl

some_counted : (o : Option Node) → is_some o ≡ is_some (count o)
some_counted None = refl
some_counted (Some node) = refl

pub tree_valid : (S : State) (t : Tree) → HasSameNodes (tree_of S) t → IsNearlyValid (with_tree S t) → IsValid S → IsValid (with_tree S t)
tree_valid S t same nearly v = record {
  nearly = nearly;
  held = v.held;
  going = v.going;
  kept = λ n there.
      let links : links_of t n ≡ links_of (tree_of S) n =
      links_counted (get t.nodes n) ∙ ap counted (same n) ∙ sym (links_counted (get S.nodes n)) in
      let before : is_some (get S.nodes n) ≡ is_some (get t.nodes n) =
      some_counted (get S.nodes n) ∙ ap is_some (sym (same n)) ∙ sym (some_counted (get t.nodes n)) in
      ap (λ k. (n == ROOT) || (nat_lt 0 k || nat_lt 0 (opens_of_node S.opens n))) links ∙ v.kept n (before ∙ there);
}

pub there_behind : (S : State) (kind : OpenKind) → HasBehind S kind → IsThere (tree_of S) kind
there_behind S (File node offset flags) h = h
there_behind S (Directory node flags) h = h
there_behind S (End reads writes flags form) h = tt
there_behind S (Terminal which flags) h = h.1
there_behind S (Process p object) h = tt

-- ---- a descriptor or an open that isn't there

absent_is_badf : (called : Call) (fd now : ℕ) (t : Tree) → file_fd called ≡ Some fd → (file_meaning called).effect now t None ≡ replies (refused Badf)
absent_is_badf (call.FileAllocate n offset length) fd now t is = refl
absent_is_badf (call.FileReaddir n length cookie) fd now t is = refl
absent_is_badf (call.FileReadlink n path length) fd now t is = refl
absent_is_badf (call.FileStatFget n) fd now t is = refl
absent_is_badf (call.FileStatFput n stat flags) fd now t is = refl
absent_is_badf (call.FileStatGet lookup path) fd now t is = refl
absent_is_badf (call.FileStatPut lookup path stat flags) fd now t is = refl
absent_is_badf (call.FdPread n length offset) fd now t is = refl
absent_is_badf (call.FdPwrite n bytes offset) fd now t is = refl
absent_is_badf (call.MemMap place length prot flags n offset) fd now t is = refl
absent_is_badf other fd now t is = absurd (none_is_no fd is)

pub absent_comes : (constants : Constants) (S : State) (table : Table) (fd : ℕ) (called : Call) → file_fd called ≡ Some fd
    → open_in S.opens (get table fd) ≡ None → file_outcome constants S table fd called ≡ replies (refused Badf)
absent_comes constants S table fd called is none =
    ap ((file_meaning called).effect (real_time constants S.clock) (tree_of S)) (opened_is S (get table fd) ∙ none)
    ∙ absent_is_badf called fd (real_time constants S.clock) (tree_of S) is

-- ---- a call that is done

module _ (called : Call) (fd now : ℕ) (is : file_fd called ≡ Some fd) (S : State) (o : ℕ) (kind : OpenKind) (there : get S.opens o ≡ Some kind) (valid : IsValid S)
    (t : Tree) (done : t ≡ tree_after ((file_meaning called).effect now (tree_of S) (Some kind)).updates (tree_of S)) (same : HasSameNodes (tree_of S) t) where
  made : put_all ((file_meaning called).effect now (tree_of S) (Some kind)).updates S ≡ with_tree S t
  made =
      put_all_tree ((file_meaning called).effect now (tree_of S) (Some kind)).updates S ((on_open_of called fd is).well.tree now (tree_of S) (Some kind))
      ∙ ap (with_tree S) (sym done)

  -- it leaves a valid state
  pub done_valid : IsValid (with_tree S t)
  done_valid =
      tree_valid S t same
      (subst IsNearlyValid made
      ((on_open_of called fd is).well.valid now S (Some kind) (λ k e. valid.nearly.behind o k (there ∙ e)) valid.nearly))
      valid

  -- and nothing is released after it
  pub done_released : with_tree S t ≡ release (put_all ((file_meaning called).effect now (tree_of S) (Some kind)).updates S)
  done_released = sym (release_valid (with_tree S t) done_valid) ∙ ap release (sym made)
