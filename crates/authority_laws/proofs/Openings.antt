-- What file_open leaves of its process's table is what its line of `granted_row` says.
use Rattle.std.proofs.Common.{◌≡◌, ◌≢◌, ℕ, zero, suc, ◌+◌, ◌≤◌, true, false, cond, List, ◌∷◌, ◌++◌, Option, Some, None, IsSome, is_some, refl, sym, ap, subst, ◌∙◌, arith}
use Rattle.std.specs.Prelude.{⊤, option_map}
use Rattle.std.specs.FinMap.{get, insert}
use Rattle.std.specs.List.{AllByRecursion}
use Rattle.abi_base.specs.declared.errno.Errno.{Errno}
use Rattle.abi_base.specs.declared.errno.Errno.TheVariants.{Again, Mfile, Success}
use Rattle.abi_structures.specs.declared.structures.FdStat.{FdStat}
use Rattle.abi_types.specs.declared.call.Call.{Call}
use Rattle.abi_types.specs.declared.call.Call.TheVariants.{FileOpen}
use Rattle.abi_types.specs.declared.call.Lookup.{Lookup}
use Rattle.abi_types.specs.declared.descriptor.Descriptor.{Descriptor}
use Rattle.abi_types.specs.declared.open_kind.OpenKind.{OpenKind}
use Rattle.abi_types.specs.declared.reply.Answer.TheVariants as answer
use Rattle.maps.specs.Maps.{get-insert-same}
use Rattle.tree_model.specs.Tree.{IsTree}
use Rattle.kernel_model.specs.Families.FilePaths.{Walked, Ends, Fails, LeadsOutside}
use Rattle.kernel_model.specs.Families.Numbers.{can_number, made_more, next_object, object_of, process_updates}
use Rattle.kernel_model.specs.Families.Opening.{Opened, NotOpened, OpenedOutside, Opens, open_at, open_end, open_walked, opened_descriptor, opened_outcome}
use Rattle.kernel_model.specs.Outcome.{replies}
use Rattle.kernel_model.specs.Proper.{IsIn}
use Rattle.kernel_model.specs.Reply.{refused, success}
use Rattle.kernel_model.specs.State.{State, ProcessState, Table, Tree, tree_of, counts_in, put_all, put_one, set_open, set_table}
use Rattle.kernel_model.specs.Families.TreeUpdates.{Change, change_updates}
use Rattle.kernel_model.proofs.FilePaths.{FailsPlainly}
use Rattle.kernel_model.proofs.Lists.{in_all}
use Rattle.kernel_model.proofs.NameMeanings.{IsChangeOf}
use Rattle.kernel_model.proofs.Opened.{OpensPlainly, open_errors, opens_plainly, path_among}
use Rattle.kernel_model.proofs.Tests.{not_true}
use Rattle.kernel_model.proofs.TreeUpdates.{change_of_tree, put_both, put_change, tree_same, with_tree}
use Rattle.authority_laws.specs.Ledger.{with_held, last_made, opened_held}
use Rattle.authority_laws.proofs.Rows.{LeavesRow, held_here, row_in, row_of, row_inserted, refused_reported, mfile_is_error}

-- ---- what isn't opened is refused with an error

abbrev pub RefusesByError : Opened → Type 0
RefusesByError (NotOpened errno) = errno ≢ Success
RefusesByError (OpenedOutside component) = ⊤
RefusesByError (Opens kind change new_nodes) = ⊤

open_errors_are : AllByRecursion (λ errno. errno ≢ Success) open_errors
open_errors_are =
    ((λ e. cc), ((λ e. cc), ((λ e. cc), ((λ e. cc), ((λ e. cc), ((λ e. cc), ((λ e. cc), ((λ e. cc), ((λ e. cc), ((λ e. cc), ((λ e. cc), tt)))))))))))

is_error : (errno : Errno) → IsIn errno open_errors → errno ≢ Success
is_error errno here = in_all (λ e. e ≢ Success) errno open_errors open_errors_are here

end_by_error : (o : Opened) → OpensPlainly o → RefusesByError o
end_by_error (NotOpened errno) plain = is_error errno plain
end_by_error (OpenedOutside component) plain = tt
end_by_error (Opens kind change new_nodes) plain = tt

pub walk_by_error : (oflags flags : ℕ) (path : List ℕ) (now new : ℕ) (t : Tree) (w : Walked) → FailsPlainly w
    → RefusesByError (open_walked oflags flags path now new t w)
walk_by_error oflags flags path now new t (Ends end) plain =
    end_by_error (open_end oflags flags path now new t end) (opens_plainly oflags flags path now new t end)
walk_by_error oflags flags path now new t (Fails errno) plain = is_error errno (path_among errno plain)
walk_by_error oflags flags path now new t (LeadsOutside component) plain = tt

-- ---- the state after an open was made

process_tables : (T : State) (p count : ℕ) (own : Option ProcessState) → (put_all (process_updates p count own) T).tables ≡ T.tables
process_tables T p zero own = refl
process_tables T p (suc count) None = refl
process_tables T p (suc count) (Some own) = refl

process_opens : (T : State) (p count : ℕ) (own : Option ProcessState) → (put_all (process_updates p count own) T).opens ≡ T.opens
process_opens T p zero own = refl
process_opens T p (suc count) None = refl
process_opens T p (suc count) (Some own) = refl

process_tree : (T : State) (p count : ℕ) (own : Option ProcessState) → tree_of (put_all (process_updates p count own) T) ≡ tree_of T
process_tree T p zero own = refl
process_tree T p (suc count) None = refl
process_tree T p (suc count) (Some own) = refl

process_count : (T : State) (p count : ℕ) (own : Option ProcessState) → 1 ≤ count → can_number p count own ≡ true
    → (counts_in (get (put_all (process_updates p count own) T).processes p)).objects ≡ (counts_in own).objects + count
process_count T p zero own some can = absurd (omega (arith, some))
process_count T p (suc count) None some can = absurd (not_true can)
process_count T p (suc count) (Some own) some can = ap (λ o. (counts_in o).objects) (get-insert-same T.processes p (made_more (suc count) own))

module _ (S : State) (p : ℕ) (table : Table) (lookup : Lookup) (path : List ℕ) (oflags : ℕ) (stat : FdStat) (there : get S.tables p ≡ Some table) where
  -- the call whose outcome is looked at
  abbrev opening : Call
  opening = FileOpen lookup path oflags stat

  module _ (own : Option ProcessState) (fd : ℕ) (kind : OpenKind) (change : Change) (count : ℕ) (some : 1 ≤ count) (can : can_number p count own ≡ true) where
    -- the open that is made, and its descriptor
    abbrev made : ℕ
    made = next_object p own count

    abbrev given : Descriptor
    given = opened_descriptor made kind stat

    -- the state with the open and the table, what the process has made then, and the whole state after the call
    abbrev opened : State
    opened = put_one (set_table p (insert table fd given)) (put_one (set_open made kind) S)

    abbrev counted : State
    counted = put_all (process_updates p count own) opened

    abbrev after : State
    after = put_all (process_updates p count own ++ change_updates change) opened

    after_is : after ≡ with_tree (tree_of (put_all (change_updates change) counted)) counted
    after_is = put_both (process_updates p count own) (change_updates change) opened ∙ tree_same (change_updates change) counted (change_of_tree change)

    -- what was made last has this number
    pub number_is : (last_made after p).number ≡ made
    number_is =
        ap (λ (T : State). object_of p (counts_in (get T.processes p)).objects) after_is ∙ ap (object_of p) (process_count opened p count own some can)

    -- the open is of this kind
    pub kind_is : (last_made after p).kind ≡ Some kind
    kind_is =
        ap (get after.opens) number_is ∙ ap (λ (T : State). get T.opens made) after_is ∙ ap (λ opens. get opens made) (process_opens opened p count own)
        ∙ get-insert-same S.opens made kind

    -- and the file tree is the one that the change leads to
    pub tree_is : (new new_nodes : ℕ) → IsTree (tree_of S) → IsChangeOf (tree_of S) new new_nodes change → tree_of after ≡ change.tree
    tree_is new new_nodes tree is =
        let same : tree_of counted ≡ tree_of S = process_tree opened p count own in
        ap tree_of after_is
        ∙ ap tree_of (put_change counted new new_nodes change (subst IsTree (sym same) tree)
        (subst (λ t. IsChangeOf t new new_nodes change) (sym same) is))

    held_is : opened_held (last_made after p) stat ≡ Some given
    held_is = λ i. option_map (λ (k : OpenKind). opened_descriptor (number_is i) k stat) (kind_is i)

    row_is : row_of after p ≡ with_held (row_of S p) fd (opened_held (last_made after p) stat)
    row_is =
        ap (λ (T : State). row_of T p) after_is ∙ ap (λ tables. row_in (get tables p)) (process_tables opened p count own)
        ∙ ap row_in (get-insert-same S.tables p (insert table fd given)) ∙ row_inserted table fd given
        ∙ (λ i. with_held (sym (ap row_in there) i) fd (sym held_is i))

    -- the process has something under the number
    pub row_has : IsSome (row_of after p fd)
    row_has = ap is_some ((λ i. row_is i fd) ∙ held_here (row_of S p) fd (opened_held (last_made after p) stat) ∙ held_is)

  opened_reported : (own : Option ProcessState) (fd : ℕ) (o : Opened) → RefusesByError o → LeavesRow S p opening (opened_outcome p own table stat fd o)
  opened_reported own fd (NotOpened errno) other = refused_reported S p opening errno other
  opened_reported own fd (OpenedOutside component) other = refl
  opened_reported own fd (Opens kind change new_nodes) other =
      elim (can_number p (new_nodes + 1) own) as (λ b. can_number p (new_nodes + 1) own ≡ b → LeavesRow S p opening
      (cond b (record {
        answer = answer.Reply (success fd 0);
        updates =
            set_open (next_object p own (new_nodes + 1)) kind
            ∷ set_table p (insert table fd (opened_descriptor (next_object p own (new_nodes + 1)) kind stat))
            ∷ (process_updates p (new_nodes + 1) own ++ change_updates change);
      }) (replies (refused Again)))) [
        | true ↦ λ can. row_is own fd kind change (new_nodes + 1) (omega arith) can
        | false ↦ λ _. refl
      ] refl

  pub open_reported : (own : Option ProcessState) (free : Option ℕ) (o : Opened) → RefusesByError o → LeavesRow S p opening (open_at p own table stat o free)
  open_reported own None o other = refused_reported S p opening Mfile mfile_is_error
  open_reported own (Some fd) o other = opened_reported own fd o other
