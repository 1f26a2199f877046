-- What calls see of nodes is behind descriptors that their processes hold.
--     LeadsInside      what each held descriptor leads to is so
--     seen_kept      so is each node that a call sees
--     below_there      what is below a directory in one tree is so in another one that has the same names there
--     leads_both      where two states have the same but for some nodes, and held descriptors lead to others in both, they lead to what is both
use Rattle.std.proofs.Common.{◌≡◌, inl, inr, ℕ, true, List, [], ◌∷◌, Option, Some, None, refl, sym, ap, subst, ◌∙◌}
use Rattle.std.specs.FinMap.{get}
use Rattle.abi_types.specs.declared.call.Call.{Call}
use Rattle.abi_types.specs.declared.descriptor.Descriptor.{Descriptor}
use Rattle.abi_types.specs.declared.open_kind.OpenKind.{OpenKind}
use Rattle.abi_types.specs.declared.open_kind.OpenKind.TheVariants.{File, Directory, End, Terminal, Process}
use Rattle.abi_types.specs.declared.who.Who.{Who}
use Rattle.maps.specs.Closure.{member}
use Rattle.tree_model.specs.Below.{below_closed, below_induction, below_self}
use Rattle.tree_model.specs.Tree.{Tree, HasName, IsTree, below, names_in}
use Rattle.kernel_model.specs.Sight.{process_parts, node_parts, channel_part, behind}
use Rattle.kernel_model.specs.State.{State, Table, Part, at_proc, at_status, at_open, at_node, at_names, at_term, same_part, has_part, tree_of}
use Rattle.kernel_model.specs.Step.{sight}
use Rattle.kernel_model.proofs.Parts.{has_of_both, same_part_is}
use Rattle.kernel_model.proofs.Reaches.{sight_is_reached}
use Rattle.kernel_model.proofs.Tests.{either_true, not_true}
use Rattle.confinement_laws.proofs.AlikeStates.{IsKept, AgreeKept}
use Rattle.confinement_laws.proofs.Closures.{member_first, member_later}

-- the file of each held descriptor, its directory, and each node below that, is so
pub record LeadsInside (Inside : ℕ → Type 0) (S : State) : Type 0 where
  pub file : (p k : ℕ) (table : Table) (d : Descriptor) (node offset flags : ℕ) → get S.tables p ≡ Some table → get table k ≡ Some d
      → get S.opens d.id ≡ Some (File node offset flags) → Inside node
  pub directory : (p k : ℕ) (table : Table) (d : Descriptor) (node flags n : ℕ) → get S.tables p ≡ Some table → get table k ≡ Some d
      → get S.opens d.id ≡ Some (Directory node flags) → member n (below (tree_of S) node) ≡ true → Inside n

-- ---- what a call sees

module _ (Within : ℕ → Type 0) where
  own_kept : (p : ℕ) (q : Part) → has_part (process_parts p) q ≡ true → IsKept Within q
  own_kept p (at_node n) seen = absurd (not_true seen)
  own_kept p (at_names n) seen = absurd (not_true seen)
  own_kept p q seen = tt

  channel_kept : (c : Option ℕ) (q : Part) → has_part (channel_part c) q ≡ true → IsKept Within q
  channel_kept None q seen = absurd (not_true seen)
  channel_kept (Some c) (at_node n) seen = absurd (not_true seen)
  channel_kept (Some c) (at_names n) seen = absurd (not_true seen)
  channel_kept (Some c) q seen = tt

  -- a part that is the only one of a list is kept where that one is
  only_kept : (part : Part) (q : Part) → IsKept Within part → has_part (part ∷ []) q ≡ true → IsKept Within q
  only_kept part q kept seen =
      elim (either_true (same_part part q) (has_part [] q) seen) [
        | inl here ↦ subst (IsKept Within) (same_part_is part q here) kept
        | inr later ↦ absurd (not_true later)
      ]

  nodes_kept : (ns : List ℕ) (q : Part) → ((n : ℕ) → member n ns ≡ true → Within n) → has_part (node_parts ns) q ≡ true → IsKept Within q
  nodes_kept [] q all seen = absurd (not_true seen)
  nodes_kept (n ∷ ns) q all seen =
      elim (either_true (same_part (at_node n) q) (has_part (at_names n ∷ node_parts ns) q) seen) [
        | inl node ↦ subst (IsKept Within) (same_part_is (at_node n) q node) (all n (member_first n ns))
        | inr more ↦ elim (either_true (same_part (at_names n) q) (has_part (node_parts ns) q) more) [
          | inl names ↦ subst (IsKept Within) (same_part_is (at_names n) q names) (all n (member_first n ns))
          | inr later ↦ nodes_kept ns q (λ m there. all m (member_later m n ns there)) later
        ]
      ]

  module _ (S : State) (leads : LeadsInside Within S) where
    -- what stands behind the open of a held descriptor
    behind_kept : (p k : ℕ) (table : Table) (d : Descriptor) (kind : Option OpenKind) (q : Part) → get S.tables p ≡ Some table → get table k ≡ Some d
        → get S.opens d.id ≡ kind → has_part (behind S kind) q ≡ true → IsKept Within q
    behind_kept p k table d None q own here is seen = absurd (not_true seen)
    behind_kept p k table d (Some (File node offset flags)) q own here is seen =
        only_kept (at_node node) q (leads.file p k table d node offset flags own here is) seen
    behind_kept p k table d (Some (Directory node flags)) q own here is seen =
        nodes_kept (below (tree_of S) node) q (λ n under. leads.directory p k table d node flags n own here is under) seen
    behind_kept p k table d (Some (End reads writes flags form)) q own here is seen =
        elim (either_true (has_part (channel_part reads) q) (has_part (channel_part writes) q)
        (sym (has_of_both (channel_part reads) (channel_part writes) q) ∙ seen)) [
          | inl one ↦ channel_kept reads q one
          | inr other ↦ channel_kept writes q other
        ]
    behind_kept p k table d (Some (Terminal which flags)) q own here is seen = only_kept (at_term which) q tt seen
    behind_kept p k table d (Some (Process process object)) q own here is seen = only_kept (at_status process) q tt seen

    reached_kept : (p k : ℕ) (table : Table) (d : Descriptor) (q : Part) → get S.tables p ≡ Some table → get table k ≡ Some d
        → has_part (at_open d.id ∷ behind S (get S.opens d.id)) q ≡ true → IsKept Within q
    reached_kept p k table d q own here seen =
        elim (either_true (same_part (at_open d.id) q) (has_part (behind S (get S.opens d.id)) q) seen) [
          | inl first ↦ subst (IsKept Within) (same_part_is (at_open d.id) q first) tt
          | inr beyond ↦ behind_kept p k table d (get S.opens d.id) q own here refl beyond
        ]

    pub seen_kept : (who : Who) (call : Call) (q : Part) → has_part (sight S who call) q ≡ true → IsKept Within q
    seen_kept who call q seen =
        elim (sight_is_reached S who call q seen) [
          | inl own ↦ own_kept who.pid q own
          | inr by ↦ elim by.3 [
            | inl needed ↦ reached_kept who.pid needed.row.fd by.0 needed.d q by.1 needed.there needed.part
            | inr named ↦ reached_kept who.pid named.fd by.0 named.d q by.1 named.there named.part
          ]
        ]

-- ---- what is below a directory in both

-- Where each name is of a node that is there in the second tree, and both have the same names in each directory that is below this one in both,
-- what is below it in the first is below it in the second.
pub below_there : (t u : Tree) (a : ℕ) → IsTree u
    → ((d : ℕ) → member d (below t a) ≡ true → member d (below u a) ≡ true → get t.names d ≡ get u.names d)
    → (n : ℕ) → member n (below t a) ≡ true → member n (below u a) ≡ true
below_there t u a tree names =
    below_induction t a (λ n. member n (below u a) ≡ true) (below_self u a)
    (λ d name n under inside has here.
    let there : HasName u d name n = sym (ap (λ o. get (names_in o) name) (names d under inside)) ∙ has in
    below_closed u a d name n inside there (tree.led d name n there))

-- where held descriptors lead to such nodes in one state, and to others in another one that has the same of what is both, they lead to what is both
pub leads_both : (One Other : ℕ → Type 0) (S U : State) → IsTree (tree_of U) → AgreeKept (λ n. One n × Other n) S U → LeadsInside One S → LeadsInside Other U
    → LeadsInside (λ n. One n × Other n) S
leads_both One Other S U tree same here there = record {
  file = λ p k table d node offset flags own has is. (
    here.file p k table d node offset flags own has is,
    there.file p k table d node offset flags (sym (same (at_proc p) tt).0 ∙ own) has (sym (same (at_open d.id) tt) ∙ is),
  );
  directory = λ p k table d node flags n own has is under.
      let first : (m : ℕ) → member m (below (tree_of S) node) ≡ true → One m = λ m below. here.directory p k table d node flags m own has is below in
      let second : (m : ℕ) → member m (below (tree_of U) node) ≡ true → Other m = λ m below.
      there.directory p k table d node flags m (sym (same (at_proc p) tt).0 ∙ own) has (sym (same (at_open d.id) tt) ∙ is) below in (
        first n under,
        second n (below_there (tree_of S) (tree_of U) node tree (λ m one other. same (at_names m) (first m one, second m other)) n under),
      );
}
