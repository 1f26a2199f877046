-- The call that opens: what it comes to, and the state after it.
--     full_opens_none, refused_opens_none, uncounted_opens_none      it opens nothing where no number is free;  where the plan is refused;
--         where its process can't number what comes with it
--     opens_from      what it opens by the open of its descriptor
--     planned_before      a plan is one for the state as it is kept
--     open_fits, open_is_new, none_holds_it, node_is_new      the numbers of the open and of the node fit, and are free
--     open_changes, open_keeps      the change of the tree;  by which no node goes
--     open_answer, open_left      the reply;  the state before the release
--     open_held, open_released      each open is held;  the state after the release
--     open_does, open_valid      the call means what its outcome is;  what it leaves is nearly valid
use Rattle.std.proofs.Common.{◌≡◌, ℕ, zero, suc, ◌+◌, ◌-◌, ◌<◌, ◌≤◌, ◌^◌, false, cond, eq-eqb, List, ◌∷◌, ◌++◌, Option, None, Some, Err, IsSome, inl, inr, is_none, is_some, refl, sym, ap, subst, ◌∙◌, arith}
use Rattle.std.proofs.lemmas.Bool.Decides.{eqb_tells}
use Rattle.std.specs.FinMap.{get, insert}
use Rattle.abi_base.specs.declared.errno.Errno.TheVariants.{Again, Mfile}
use Rattle.abi_structures.specs.declared.structures.FdStat.{FdStat}
use Rattle.abi_types.specs.declared.call.Lookup.{Lookup}
use Rattle.abi_types.specs.declared.constants.Constants.{Constants}
use Rattle.abi_types.specs.declared.descriptor.Descriptor.{Descriptor}
use Rattle.abi_types.specs.declared.open_kind.OpenKind.{OpenKind}
use Rattle.abi_types.specs.declared.reply.Answer.TheVariants as answer
use Rattle.abi_types.specs.declared.reply.Reply.{Reply}
use Rattle.abi_types.specs.declared.who.Who.{Who}
use Rattle.fd_table.specs.Table.{IsLowestFree}
use Rattle.file_calls.specs.Walks.{reply_of}
use Rattle.file_calls.specs.declared.paths.PathFault.{PathFault}
use Rattle.file_calls.specs.declared.paths.PathFault.TheVariants as path_fault
use Rattle.maps.specs.Maps.{get-insert-other, total, total-insert, total-insert_new, weight}
use Rattle.tree_model.specs.Opens.{is_used, one_of_node, opens_of_node}
use Rattle.tree_model.specs.Retained.{retained}
use Rattle.kernel_model.specs.Families.ClockCalls.{real_time}
use Rattle.kernel_model.specs.Families.DescriptorCalls.{lowest_free}
use Rattle.kernel_model.specs.Families.FilePaths.{walked}
use Rattle.kernel_model.specs.Families.Numbers.{can_number, made_more, next_object, process_updates}
use Rattle.kernel_model.specs.Families.Opening.{Opened, file_open, open_at, open_mode, open_walked, opened_descriptor, opened_outcome}
use Rattle.kernel_model.specs.Outcome.{Outcome, replies}
use Rattle.kernel_model.specs.Release.{carriers, count_in, holders, names_open, release}
use Rattle.kernel_model.specs.Reply.{refused, success}
use Rattle.kernel_model.specs.State.{State, ProcessState, Table, Tree, Update, counts_in, put_all, put_one, set_open, set_table, tree_of}
use Rattle.kernel_model.specs.Families.TreeUpdates.{Change, change_updates}
use Rattle.kernel_model.specs.Valid.{IsNearlyValid, IsValid}
use Rattle.kernel_model.specs.View.{whole}
use Rattle.kernel_model.proofs.NameMeanings.{IsChangeOf}
use Rattle.kernel_model.proofs.NewOpens.{put_last}
use Rattle.kernel_model.proofs.ObjectNumbers.{fewer_fit, next_is_absent}
use Rattle.kernel_model.proofs.Opened.{OpensWell}
use Rattle.kernel_model.proofs.Opening.{file_open_is_proper, rest_beside, walk_well}
use Rattle.kernel_model.proofs.TreeUpdates.{put_counted, with_tree}
use Rattle.entry_calls.specs.Done.{IsNew}
use Rattle.entry_calls.specs.Plans.{change_of, kind_of, new_nodes_of, opened_by, opened_of}
use Rattle.entry_calls.proofs.Losing.{loses-opened}
use Rattle.entry_calls.specs.declared.plans.OpenPlan.{OpenPlan}
use Rattle.kernel_parts.specs.Entries.{open_in}
use Rattle.kernel_core.specs.Opening.{IsOpening, open_outcome, opened_at}
use Rattle.kernel_parts.specs.declared.opens.Opening.{Opening}
use Rattle.kernel_invariant.proofs.Leaving.{counted_is, none_holds_or_carries, released_is}
use Rattle.kernel_parts.proofs.Forgetting.{forgetting_none, used_still}
use Rattle.kernel_parts.proofs.Lowest.{lowest_is}
use Rattle.kernel_core.proofs.FileCalls.{opened_is}

-- ---- nothing is opened

module _ (now : ℕ) (S : State) (p : ℕ) (table : Table) (lookup : Lookup) (path : List ℕ) (oflags : ℕ) (stat : FdStat) (reply : Reply) where
  abbrev first_new : ℕ
  first_new = next_object p (get S.processes p) 1

  pub full_opens_none : lowest_free table ≡ None → reply ≡ refused Mfile → open_outcome now S p table lookup path oflags stat ≡ replies reply
  full_opens_none none is =
      ap (open_at p (get S.processes p) table stat (opened_at now first_new S table lookup path oflags stat)) none ∙ ap replies (sym is)

  at_number : (fd : ℕ) (o : Opened) → IsLowestFree table fd → opened_at now first_new S table lookup path oflags stat ≡ o
      → open_outcome now S p table lookup path oflags stat ≡ opened_outcome p (get S.processes p) table stat fd o
  at_number fd o free is =
      ap (open_at p (get S.processes p) table stat (opened_at now first_new S table lookup path oflags stat)) (lowest_is table fd free)
      ∙ ap (opened_outcome p (get S.processes p) table stat fd) is

  refused_so : (fd : ℕ) (why : PathFault) → opened_outcome p (get S.processes p) table stat fd (opened_of (Err why) path (tree_of S) stat.flags now first_new) ≡ replies (reply_of why)
  refused_so fd (path_fault.Errno errno) = refl
  refused_so fd (path_fault.Outside component) = refl

  pub refused_opens_none : (fd : ℕ) (why : PathFault) → IsLowestFree table fd
      → opened_at now first_new S table lookup path oflags stat ≡ opened_of (Err why) path (tree_of S) stat.flags now first_new → reply ≡ reply_of why
      → open_outcome now S p table lookup path oflags stat ≡ replies reply
  refused_opens_none fd why free opened is =
      at_number fd (opened_of (Err why) path (tree_of S) stat.flags now first_new) free opened ∙ refused_so fd why ∙ ap replies (sym is)

  -- what is set where it can number the open and the node
  abbrev sets : ℕ → OpenPlan → Outcome
  sets fd plan =
      let o : ℕ = next_object p (get S.processes p) (new_nodes_of plan + 1) in
      let kind : OpenKind = kind_of plan stat.flags first_new in
      record {
        answer = answer.Reply (success fd 0);
        updates = set_open o kind ∷ set_table p (insert table fd (opened_descriptor o kind stat))
            ∷ (process_updates p (new_nodes_of plan + 1) (get S.processes p) ++ change_updates (change_of plan path now first_new (tree_of S)));
      }

  pub uncounted_opens_none : (fd : ℕ) (plan : OpenPlan) → IsLowestFree table fd
      → opened_at now first_new S table lookup path oflags stat ≡ opened_by plan path (tree_of S) stat.flags now first_new
      → can_number p (new_nodes_of plan + 1) (get S.processes p) ≡ false → reply ≡ refused Again → open_outcome now S p table lookup path oflags stat ≡ replies reply
  uncounted_opens_none fd plan free opened cannot is =
      at_number fd (opened_by plan path (tree_of S) stat.flags now first_new) free opened
      ∙ ap (λ b. cond b (sets fd plan) (replies (refused Again))) cannot ∙ ap replies (sym is)

-- what it opens, by the open of its descriptor
pub opens_from : (now new : ℕ) (S : State) (table : Table) (lookup : Lookup) (path : List ℕ) (oflags : ℕ) (stat : FdStat) (here : Option OpenKind)
    → here ≡ open_in S.opens (get table lookup.fd)
    → opened_at now new S table lookup path oflags stat
    ≡ open_walked oflags stat.flags path now new (tree_of S) (walked (tree_of S) (open_mode oflags lookup.flags) path here)
opens_from now new S table lookup path oflags stat here is =
    ap (λ k. open_walked oflags stat.flags path now new (tree_of S) (walked (tree_of S) (open_mode oflags lookup.flags) path k)) (sym is)

-- the number of the first object, by that of the last
pub first_number : (p new_nodes id taken : ℕ) (own : Option ProcessState) → id ≡ next_object p own (new_nodes + 1) → taken ≡ new_nodes → id - taken ≡ next_object p own 1
first_number p new_nodes id taken own is same = omega (arith, is, same)

-- ---- a plan for the state as it is kept

pub planned_before : (P : State → Table → Type 0) (S T : State) (p q : ℕ) (table : Table) → S ≡ T → q ≡ p → Some table ≡ get S.tables q
    → ((t : Table) → get T.tables p ≡ Some t → P T t) → P S table
planned_before P S T p q table same number at planned =
    subst (λ X. P X table) (sym same) (planned table (ap (λ (X : State). get X.tables p) (sym same) ∙ ap (get S.tables) (sym number) ∙ sym at))

-- ---- something is opened

module _ (S : State) (p : ℕ) (table : Table) (lookup : Lookup) (path : List ℕ) (oflags : ℕ) (stat : FdStat) (o : Opening)
    (planned : IsOpening S p table lookup path oflags stat o) (v : IsValid S) where
  abbrev new_nodes : ℕ
  new_nodes = new_nodes_of o.plan

  abbrev first : ℕ
  first = next_object p (get S.processes p) 1

  abbrev last : ℕ
  last = next_object p (get S.processes p) (new_nodes_of o.plan + 1)

  id_is : o.descriptor.id ≡ last
  id_is = ap (λ (d : Descriptor). d.id) planned.descriptor

  pub open_fits : (p < 0xffffffff) × ((counts_in (get S.processes p)).objects + (new_nodes_of o.plan + 1) < 2 ^ 32)
  open_fits = fewer_fit p (new_nodes + 1) (new_nodes + 1) (get S.processes p) (omega arith) (omega arith) planned.can

  pub open_is_new : get S.opens o.descriptor.id ≡ None
  open_is_new = ap (get S.opens) id_is ∙ (next_is_absent S p (new_nodes + 1) (new_nodes + 1) v.nearly (omega arith) (omega arith) planned.can).0

  pub none_holds_it : holders S o.descriptor.id + carriers S o.descriptor.id ≡ 0
  none_holds_it = none_holds_or_carries S o.descriptor.id open_is_new v.nearly

  first_absent : get S.nodes first ≡ None
  first_absent = (next_is_absent S p 1 (new_nodes + 1) v.nearly (omega arith) (omega arith) planned.can).1

  new_first : (count : ℕ) → IsNew count (tree_of S) first
  new_first zero = tt
  new_first (suc count) = ap is_none first_absent

  pub node_is_new : IsNew (new_nodes_of o.plan) (tree_of S) o.new
  node_is_new = subst (IsNew new_nodes (tree_of S)) (sym planned.new) (new_first new_nodes)

  module _ (now : ℕ) where
    -- the change of the tree
    abbrev change : Change
    change = change_of o.plan path now first (tree_of S)

    well : OpensWell (tree_of S) first (opened_by o.plan path (tree_of S) stat.flags now first)
    well =
        subst (OpensWell (tree_of S) first) (planned.opened now first)
        (walk_well oflags stat.flags path now first (tree_of S) (walked (tree_of S) (open_mode oflags lookup.flags) path (open_in S.opens (get table lookup.fd)))
        v.nearly.tree first_absent)

    pub open_changes : IsChangeOf (tree_of S) (next_object p (get S.processes p) 1) (new_nodes_of o.plan) (change_of o.plan path now (next_object p (get S.processes p) 1) (tree_of S))
    open_changes = well.1

    -- each node of the tree after it is used
    one_open_more : (n : ℕ) → opens_of_node S.opens n ≤ opens_of_node (insert S.opens o.descriptor.id o.kind) n
    one_open_more n =
        let grown = total-insert_new (one_of_node n) S.opens o.descriptor.id o.kind open_is_new in
        omega (arith, grown)

    pub open_keeps : (let u : Tree = (change_of o.plan path now (next_object p (get S.processes p) 1) (tree_of S)).tree in u ≡ retained u (is_used (insert S.opens o.descriptor.id o.kind) u))
    open_keeps =
        forgetting_none (insert S.opens o.descriptor.id o.kind) change.tree change.tree open_changes.tree
        (used_still S.opens (insert S.opens o.descriptor.id o.kind) (tree_of S) change.tree None one_open_more v.kept (loses-opened o.plan path now first (tree_of S))) refl

    -- the kind of the open
    kind_is : kind_of o.plan stat.flags first ≡ o.kind
    kind_is = ap (kind_of o.plan stat.flags) (sym planned.new) ∙ sym planned.kind

    abbrev kind : OpenKind
    kind = kind_of o.plan stat.flags first

    descriptor_is : opened_descriptor last kind stat ≡ o.descriptor
    descriptor_is = ap (λ k. opened_descriptor last k stat) kind_is ∙ sym planned.descriptor

    abbrev rest : List Update
    rest = process_updates p (new_nodes_of o.plan + 1) (get S.processes p) ++ change_updates change

    abbrev opens : Outcome
    opens = record {
      answer = answer.Reply (success o.fd 0);
      updates = set_open last kind ∷ set_table p (insert table o.fd (opened_descriptor last kind stat)) ∷ rest;
    }

    outcome_is : open_outcome now S p table lookup path oflags stat ≡ opens
    outcome_is =
        ap (open_at p (get S.processes p) table stat (opened_at now first S table lookup path oflags stat)) (lowest_is table o.fd planned.free)
        ∙ ap (opened_outcome p (get S.processes p) table stat o.fd) (planned.opened now first)
        ∙ ap (λ b. cond b opens (replies (refused Again))) planned.can

    pub open_answer : (open_outcome now S p table lookup path oflags stat).answer ≡ answer.Reply (success o.fd 0)
    open_answer = ap (λ (x : Outcome). x.answer) outcome_is

    -- the state before anything is released
    abbrev pub opened_state : ProcessState → State
    opened_state own =
        let u : Tree = (change_of o.plan path now (next_object p (get S.processes p) 1) (tree_of S)).tree in
        record S {
          tables = insert S.tables p (insert table o.fd o.descriptor);
          processes = insert S.processes p (made_more (new_nodes_of o.plan + 1) own);
          opens = insert S.opens o.descriptor.id o.kind;
          nodes = u.nodes;
          names = u.names;
        }

    pub open_left : (own : ProcessState) → get S.processes p ≡ Some own → put_all (open_outcome now S p table lookup path oflags stat).updates S ≡ opened_state own
    open_left own there =
        let new_table : Table = insert table o.fd (opened_descriptor last kind stat) in
        let counted_tree : put_all rest S ≡ with_tree change.tree (record S { processes = insert S.processes p (made_more (new_nodes_of o.plan + 1) own) }) =
        put_counted S p (new_nodes_of o.plan + 1) first (new_nodes_of o.plan) change planned.can open_changes (λ _. refl) (omega arith) v.nearly
        ∙ ap (with_tree change.tree) (counted_is S p (new_nodes_of o.plan + 1) own there) in
        ap (λ (x : Outcome). put_all x.updates S) outcome_is
        ∙ put_last last kind p new_table rest S (rest_beside p (new_nodes_of o.plan + 1) (get S.processes p) change)
        ∙ ap (λ (T : State). put_one (set_table p new_table) (put_one (set_open last kind) T)) counted_tree
        ∙ (λ i. record (opened_state own) {
          tables = insert S.tables p (insert table o.fd (descriptor_is i));
          opens = insert S.opens (sym id_is i) (kind_is i);
        })

  -- ---- the holders of the opens

  module _ (has : get S.tables p ≡ Some table) where
    one_more : (q : ℕ) → total (count_in q) (insert S.tables p (insert table o.fd o.descriptor)) ≡ holders S q + names_open q o.descriptor
    one_more q =
        let own : weight (count_in q) (get S.tables p) ≡ count_in q table = ap (weight (count_in q)) has in
        let sums = total-insert (count_in q) S.tables p (insert table o.fd o.descriptor) in
        let grown = total-insert_new (names_open q) table o.fd o.descriptor planned.free.1 in
        omega (arith, own, sums, grown)

    pub open_held : (q : ℕ) → IsSome (get (insert S.opens o.descriptor.id o.kind) q)
        → 0 < total (count_in q) (insert S.tables p (insert table o.fd o.descriptor)) + carriers S q
    open_held q there =
        let more = one_more q in
        elim (eqb_tells q o.descriptor.id) [
          | inl is ↦ (
              let one : names_open q o.descriptor ≡ 1 = ap (λ b. cond b 1 0) (eq-eqb o.descriptor.id q (sym is.1)) in
              omega (arith, more, one))
          | inr other ↦ (
              let held = v.held q (sym (ap is_some (get-insert-other S.opens o.descriptor.id o.kind q other.1)) ∙ there) in
              omega (arith, more, held))
        ]

    -- the state after it
    pub open_released : (now : ℕ) (own : ProcessState) → get S.processes p ≡ Some own
        → (let u : Tree = retained (change now).tree (is_used (insert S.opens o.descriptor.id o.kind) (change now).tree) in
        record (opened_state now own) { nodes = u.nodes; names = u.names })
        ≡ release (put_all (open_outcome now S p table lookup path oflags stat).updates S)
    open_released now own there = released_is (opened_state now own) open_held v.going ∙ ap release (sym (open_left now own there))

-- ---- what it leaves is nearly valid

pub open_does : (constants : Constants) (S : State) (who : Who) (table : Table) (lookup : Lookup) (path : List ℕ) (oflags : ℕ) (stat : FdStat)
    → (file_open lookup path oflags stat).effect constants (whole S) who table ≡ open_outcome (real_time constants S.clock) S who.pid table lookup path oflags stat
open_does constants S who table lookup path oflags stat =
    ap (λ k. open_at who.pid (get S.processes who.pid) table stat
    (open_walked oflags stat.flags path (real_time constants S.clock) (next_object who.pid (get S.processes who.pid) 1) (tree_of S)
    (walked (tree_of S) (open_mode oflags lookup.flags) path k)) (lowest_free table)) (opened_is S (get table lookup.fd))

pub open_valid : (constants : Constants) (S : State) (p : ℕ) (table : Table) (lookup : Lookup) (path : List ℕ) (oflags : ℕ) (stat : FdStat)
    → get S.tables p ≡ Some table → IsNearlyValid S → IsNearlyValid (put_all (open_outcome (real_time constants S.clock) S p table lookup path oflags stat).updates S)
open_valid constants S p table lookup path oflags stat has v =
    let who : Who = record { pid = p; tid = 0; since = 0; stage = None } in
    subst (λ (x : Outcome). IsNearlyValid (put_all x.updates S)) (open_does constants S who table lookup path oflags stat)
    ((file_open_is_proper lookup path oflags stat).valid constants S who table has v)
