-- Where file_open leads: to what was below the directory from which it began, or to a new file below it.
--     Leads, step_leads      so it is of each step that is a file_open and succeeds
use Rattle.std.proofs.Common.{◌≡◌, inl, inr, ℕ, ◌+◌, Bool, true, false, not, cond, List, ◌∷◌, ◌++◌, Option, Some, None, refl, sym, ap, subst, ◌∙◌, arith}
use Rattle.std.specs.FinMap.{get, insert}
use Rattle.abi_base.specs.declared.errno.Errno.TheVariants.{Again, Badf, Success}
use Rattle.abi_structures.specs.declared.structures.FdStat.{FdStat}
use Rattle.abi_types.specs.declared.call.Call.TheVariants.{FileOpen}
use Rattle.abi_types.specs.declared.call.Lookup.{Lookup}
use Rattle.abi_types.specs.declared.constants.Constants.{Constants}
use Rattle.abi_types.specs.declared.descriptor.Descriptor.{Descriptor}
use Rattle.abi_types.specs.declared.open_kind.OpenKind.{OpenKind}
use Rattle.abi_types.specs.declared.open_kind.OpenKind.TheVariants.{File, Directory, End, Terminal, Process}
use Rattle.abi_types.specs.declared.reply.Answer.TheVariants as answer
use Rattle.abi_types.specs.declared.reply.Reply.{Reply}
use Rattle.abi_types.specs.declared.who.Who.{Who}
use Rattle.tree_model.specs.Changes.{is_file, is_file_node}
use Rattle.tree_model.specs.Facts.{links_of_named}
use Rattle.tree_model.specs.Retained.{retained-names, retained-node}
use Rattle.tree_model.specs.Tree.{IsTree, entry_of}
use Rattle.kernel_model.specs.Families.ClockCalls.{real_time}
use Rattle.kernel_model.specs.Families.DescriptorCalls.{lowest_free}
use Rattle.kernel_model.specs.Families.FileMeaning.{open_of}
use Rattle.kernel_model.specs.Families.FilePaths.{Walked, Ends, Fails, LeadsOutside, walked}
use Rattle.abi_types.specs.declared.counts.Counts.{Counts}
use Rattle.kernel_model.specs.Families.Numbers.{can_number, next_object, object_of, process_updates}
use Rattle.kernel_model.specs.Families.Opening.{Opened, NotOpened, OpenedOutside, Opens, open_at, open_mode, open_walked, opened_descriptor, opened_outcome}
use Rattle.kernel_model.specs.Families.TreeUpdates.{Change, change_updates}
use Rattle.kernel_model.specs.OpenLaws.{IsOpenBelow, LeadsBelow}
use Rattle.kernel_model.specs.Outcome.{Outcome, OnReply, replies}
use Rattle.kernel_model.specs.Release.{ends, is_ending, is_killed, is_node_kept, release, without_ended}
use Rattle.kernel_model.specs.Reply.{refused, success}
use Rattle.kernel_model.specs.State.{State, ProcessState, Table, Tree, put_all, set_open, set_table, tree_of}
use Rattle.kernel_model.specs.Step.{IsStep, outcome, step_answer, tick, unreleased}
use Rattle.kernel_model.specs.Valid.{IsNearlyValid, IsValid}
use Rattle.kernel_model.specs.View.{whole}
use Rattle.kernel_model.proofs.Calls.{proper}
use Rattle.kernel_model.proofs.FilePaths.{walked_plainly}
use Rattle.kernel_model.proofs.HeldOpens.{open_holds, spares_all}
use Rattle.kernel_model.proofs.ObjectNumbers.{next_is_absent}
use Rattle.kernel_model.proofs.OpenLaws.{opens_lead_below}
use Rattle.kernel_model.proofs.Opened.{IsThere, OpensWell, opens_well}
use Rattle.kernel_model.proofs.Outcomes.{outcome_holds}
use Rattle.kernel_model.proofs.Parking.{replied_leaves}
use Rattle.kernel_model.proofs.Refusals.{on_reply, refusal_is_other}
use Rattle.kernel_model.proofs.Tests.{none_is_no, same_some}
use Rattle.kernel_model.proofs.Valids.{get_released, left_counts, named_is_kept, root_is_kept, tick_nearly_valid}
use Rattle.authority_laws.specs.Ledger.{last_made}
use Rattle.authority_laws.specs.Origins.{IsNewBelow, IsOpenedBelow}
use Rattle.authority_laws.proofs.Openings.{RefusesByError, kind_is, number_is, tree_is, walk_by_error}
use Rattle.authority_laws.proofs.Rows.{again_is_error, badf_is_error, mfile_is_error, notcapable_is_error, row_in, row_of}
use Rattle.authority_laws.proofs.Successes.{no_memory}

-- x stands under fd in the state S, its open is of the directory `start`, and what the process has made last in the state U was not
-- there in S, and is of what is below that
pub record Leads (S U : State) (p fd : ℕ) : Type 0 where
  pub x : Descriptor
  pub start : ℕ
  pub flags : ℕ
  pub held : row_of S p fd ≡ Some x
  pub directory : get S.opens x.id ≡ Some (Directory start flags)
  pub absent : get S.opens (last_made U p).number ≡ None
  pub leads : (kind : OpenKind) → (last_made U p).kind ≡ Some kind → IsOpenedBelow (tree_of S) (tree_of U) start kind

-- so it is where the reply is a success
abbrev LeadsOf : State → ℕ → ℕ → Outcome → Type 0
LeadsOf S p fd o = OnReply (λ (reply : Reply). reply.errno ≡ Success → Leads S (put_all o.updates S) p fd) o.answer

-- ---- what is opened, by the trees before and after

opened_below : (t u : Tree) (c : Change) (start new : ℕ) (kind : OpenKind) → u ≡ c.tree → get t.nodes new ≡ None → IsThere c.tree kind
    → IsOpenBelow t c start new kind → IsOpenedBelow t u start kind
opened_below t u c start new (File n offset flags) same none file (inl under) = inl under
opened_below t u c start new (File n offset flags) same none file (inr made) = inr (record {
  absent = ap (get t.nodes) made.0 ∙ none;
  file = ap (λ (w : Tree). is_file w n) same ∙ file;
  directory = made.1.0;
  name = made.1.1;
  under = made.1.2;
  named = ap (λ (w : Tree). entry_of w made.1.0 made.1.1) same ∙ made.1.3;
})
opened_below t u c start new (Directory n flags) same none there under = under
opened_below t u c start new (End reads writes flags form) same none there under = absurd under
opened_below t u c start new (Terminal which flags) same none there under = absurd under
opened_below t u c start new (Process p object) same none there under = absurd under

walk_well : (oflags flags : ℕ) (path : List ℕ) (now new : ℕ) (t : Tree) → IsTree t → get t.nodes new ≡ None → (w : Walked)
    → OpensWell t new (open_walked oflags flags path now new t w)
walk_well oflags flags path now new t tree none (Ends end) = opens_well oflags flags path now new t tree none end
walk_well oflags flags path now new t tree none (Fails errno) = tt
walk_well oflags flags path now new t tree none (LeadsOutside component) = tt

-- ---- before the release

module _ (S : State) (p : ℕ) (table : Table) (lookup : Lookup) (path : List ℕ) (oflags : ℕ) (stat : FdStat) (there : get S.tables p ≡ Some table)
    (v : IsNearlyValid S) where
  abbrev own : Option ProcessState
  own = get S.processes p

  -- what the process makes first, if it makes a node
  abbrev new : ℕ
  new = next_object p own 1

  -- where the path leads from this open
  abbrev walked_from : Option OpenKind → Walked
  walked_from o = walked (tree_of S) (open_mode oflags lookup.flags) path o

  nothing_leads : (number : Option ℕ) → LeadsOf S p lookup.fd (open_at p own table stat (NotOpened Badf) number)
  nothing_leads None = λ success. absurd (mfile_is_error success)
  nothing_leads (Some fd) = λ success. absurd (badf_is_error success)

  module _ (x : Descriptor) (start flags : ℕ) (held : get table lookup.fd ≡ Some x) (directory : get S.opens x.id ≡ Some (Directory start flags)) where
    -- the state in which it is open
    abbrev after : ℕ → OpenKind → Change → ℕ → State
    after fd kind change new_nodes =
        put_all
        (set_open (next_object p own (new_nodes + 1)) kind
        ∷ set_table p (insert table fd (opened_descriptor (next_object p own (new_nodes + 1)) kind stat))
        ∷ (process_updates p (new_nodes + 1) own ++ change_updates change)) S

    opening_leads : (fd : ℕ) (kind : OpenKind) (change : Change) (new_nodes : ℕ) → can_number p (new_nodes + 1) own ≡ true
        → (get S.nodes new ≡ None → OpensWell (tree_of S) new (Opens kind change new_nodes)) → IsOpenBelow (tree_of S) change start new kind
        → Leads S (after fd kind change new_nodes) p lookup.fd
    opening_leads fd kind change new_nodes can by under =
        let none : get S.nodes new ≡ None = (next_is_absent S p 1 (new_nodes + 1) v (omega arith) (omega arith) can).1 in
        let well = by none in
        let tree = tree_is S p table lookup path oflags stat there own fd kind change (new_nodes + 1) (omega arith) can new new_nodes v.tree well.1 in
        let number = number_is S p table lookup path oflags stat there own fd kind change (new_nodes + 1) (omega arith) can in
        let made = kind_is S p table lookup path oflags stat there own fd kind change (new_nodes + 1) (omega arith) can in
        let u : Tree = tree_of (after fd kind change new_nodes) in
        record {
          x = x;
          start = start;
          flags = flags;
          held = ap (λ t. row_in t lookup.fd) there ∙ held;
          directory = directory;
          absent = ap (get S.opens) number
              ∙ (next_is_absent S p (new_nodes + 1) (new_nodes + 1) v (omega arith) (omega arith) can).0;
          leads = λ other at.
              subst (IsOpenedBelow (tree_of S) u start) (same_some kind other (sym made ∙ at))
              (opened_below (tree_of S) u change start new kind tree none well.2 under);
        }

    number_leads : (fd : ℕ) (o : Opened) → RefusesByError o → (get S.nodes new ≡ None → OpensWell (tree_of S) new o) → LeadsBelow (tree_of S) start new o
        → LeadsOf S p lookup.fd (opened_outcome p own table stat fd o)
    number_leads fd (NotOpened errno) other by under = λ success. absurd (other success)
    number_leads fd (OpenedOutside component) other by under = λ success. absurd (notcapable_is_error success)
    number_leads fd (Opens kind change new_nodes) other by under =
        elim (can_number p (new_nodes + 1) own) as (λ b. can_number p (new_nodes + 1) own ≡ b → LeadsOf S p lookup.fd
        (cond b (record {
          answer = answer.Reply (success fd 0);
          updates =
              set_open (next_object p own (new_nodes + 1)) kind
              ∷ set_table p (insert table fd (opened_descriptor (next_object p own (new_nodes + 1)) kind stat))
              ∷ (process_updates p (new_nodes + 1) own ++ change_updates change);
        }) (replies (refused Again)))) [
          | true ↦ λ can success. opening_leads fd kind change new_nodes can by under
          | false ↦ λ _ success. absurd (again_is_error success)
        ] refl

    free_leads : (o : Opened) (number : Option ℕ) → RefusesByError o → (get S.nodes new ≡ None → OpensWell (tree_of S) new o)
        → LeadsBelow (tree_of S) start new o → LeadsOf S p lookup.fd (open_at p own table stat o number)
    free_leads o None other by under = λ success. absurd (mfile_is_error success)
    free_leads o (Some fd) other by under = number_leads fd o other by under

    directory_leads : (now : ℕ)
        → LeadsOf S p lookup.fd (open_at p own table stat
        (open_walked oflags stat.flags path now new (tree_of S) (walked_from (Some (Directory start flags)))) (lowest_free table))
    directory_leads now =
        let w : Walked = walked_from (Some (Directory start flags)) in
        free_leads (open_walked oflags stat.flags path now new (tree_of S) w) (lowest_free table)
        (walk_by_error oflags stat.flags path now new (tree_of S) w
        (walked_plainly (tree_of S) (open_mode oflags lookup.flags) path (Some (Directory start flags))))
        (λ none. walk_well oflags stat.flags path now new (tree_of S) v.tree none w)
        (opens_lead_below oflags stat.flags path now new (tree_of S) (open_mode oflags lookup.flags) start flags)

  module _ (now : ℕ) where
    -- what the call does from this open
    abbrev opening_from : Option OpenKind → Outcome
    opening_from o = open_at p own table stat (open_walked oflags stat.flags path now new (tree_of S) (walked_from o)) (lowest_free table)

    open_leads : (x : Descriptor) (o : Option OpenKind) → get table lookup.fd ≡ Some x → get S.opens x.id ≡ o → LeadsOf S p lookup.fd (opening_from o)
    open_leads x None held is = nothing_leads (lowest_free table)
    open_leads x (Some (Directory start flags)) held is = directory_leads x start flags held is now
    open_leads x (Some (File n offset flags)) held is = nothing_leads (lowest_free table)
    open_leads x (Some (End reads writes flags form)) held is = nothing_leads (lowest_free table)
    open_leads x (Some (Terminal which flags)) held is = nothing_leads (lowest_free table)
    open_leads x (Some (Process q object)) held is = nothing_leads (lowest_free table)

    held_leads : (o : Option Descriptor) → get table lookup.fd ≡ o → LeadsOf S p lookup.fd (opening_from (open_of (whole S) o))
    held_leads None held = nothing_leads (lowest_free table)
    held_leads (Some x) held = open_leads x (get S.opens x.id) held refl

module _ (constants : Constants) (S : State) (who : Who) (lookup : Lookup) (path : List ℕ) (oflags : ℕ) (stat : FdStat) (v : IsNearlyValid S) where
  outcome_leads : LeadsOf (tick S) who.pid lookup.fd (outcome constants S who (FileOpen lookup path oflags stat))
  outcome_leads =
      outcome_holds (LeadsOf (tick S) who.pid lookup.fd) constants S who (FileOpen lookup path oflags stat)
      (λ reply is success.
      absurd (refusal_is_other Success (λ e. cc) (λ e. cc) (FileOpen lookup path oflags stat) (get S.tables who.pid) reply is success))
      (λ table own.
      held_leads (tick S) who.pid table lookup path oflags stat own (tick_nearly_valid S v) (real_time constants (tick S).clock)
      (get table lookup.fd) refl)

  left_is_tree : IsTree (tree_of (put_all (outcome constants S who (FileOpen lookup path oflags stat)).updates (tick S)))
  left_is_tree =
      (outcome_holds (λ (o : Outcome). IsNearlyValid (put_all o.updates (tick S))) constants S who (FileOpen lookup path oflags stat)
      (λ reply _. tick_nearly_valid S v)
      (λ table own. (proper (FileOpen lookup path oflags stat)).valid constants (tick S) who table own (tick_nearly_valid S v))).tree

-- ---- after the release

-- a new file has a name, so it stays, and so does each name
new_stays : (U : State) (t : Tree) (start n : ℕ) → IsTree (tree_of U) → IsNewBelow t (tree_of U) start n → IsNewBelow t (tree_of (release U)) start n
new_stays U t start n tree is =
    let keep : ℕ → Bool = is_node_kept (without_ended U) in
    let links = links_of_named (tree_of U) tree is.directory is.name n is.named in
    record {
      absent = is.absent;
      file = ap is_file_node (retained-node (tree_of U) keep n (named_is_kept (without_ended U) n links)) ∙ is.file;
      directory = is.directory;
      name = is.name;
      under = is.under;
      named = ap (λ names. get names is.name)
          (retained-names (tree_of U) keep tree (root_is_kept (without_ended U)) (named_is_kept (without_ended U)) is.directory)
          ∙ is.named;
    }

below_stays : (U : State) (t : Tree) (start : ℕ) (kind : OpenKind) → IsTree (tree_of U) → IsOpenedBelow t (tree_of U) start kind
    → IsOpenedBelow t (tree_of (release U)) start kind
below_stays U t start (File n offset flags) tree (inl under) = inl under
below_stays U t start (File n offset flags) tree (inr is) = inr (new_stays U t start n tree is)
below_stays U t start (Directory n flags) tree under = under
below_stays U t start (End reads writes flags form) tree under = absurd under
below_stays U t start (Terminal which flags) tree under = absurd under
below_stays U t start (Process p object) tree under = absurd under

was_there : {X : Type 0} (b : Bool) (o : Option X) (x : X) → cond b o None ≡ Some x → o ≡ Some x
was_there true o x e = e
was_there false o x e = absurd (none_is_no x e)

release_leads : (S U : State) (p fd : ℕ) → is_killed U (ends U) p ≡ false → IsTree (tree_of U) → Leads (tick S) U p fd → Leads S (release U) p fd
release_leads S U p fd spared tree by = record {
  x = by.x;
  start = by.start;
  flags = by.flags;
  held = by.held;
  directory = by.directory;
  absent = ap (λ (c : Counts). get S.opens (object_of p c.objects)) (left_counts U p spared) ∙ by.absent;
  leads = λ kind now.
      let number : (last_made (release U) p).number ≡ (last_made U p).number = ap (λ (c : Counts). object_of p c.objects) (left_counts U p spared) in
      let at : get (release U).opens (last_made U p).number ≡ Some kind = ap (get (release U).opens) (sym number) ∙ now in
      below_stays U (tree_of S) by.start kind tree
      (by.leads kind
      (was_there (not (is_ending U (last_made U p).number)) (get U.opens (last_made U p).number) kind (sym (get_released U (last_made U p).number) ∙ at)));
}

pub step_leads : (constants : Constants) (S : State) (who : Who) (lookup : Lookup) (path : List ℕ) (oflags : ℕ) (stat : FdStat) (reply : Reply) (T : State)
    → IsStep constants S who (FileOpen lookup path oflags stat) (answer.Reply reply) T → reply.errno ≡ Success → IsValid S
    → Leads S T who.pid lookup.fd
step_leads constants S who lookup path oflags stat reply T (inl done) success valid =
    let call = FileOpen lookup path oflags stat in
    let v = valid.nearly in
    let U : State = put_all (outcome constants S who call).updates (tick S) in
    let is : unreleased constants S who call ≡ U = replied_leaves constants S who call reply (sym done.0) in
    let spared : is_killed U (ends U) who.pid ≡ false =
    subst (λ (X : State). is_killed X (ends X) who.pid ≡ false) is
    (spares_all constants S who call valid (open_holds constants S who lookup path oflags stat) who.pid) in
    let leads : Leads (tick S) U who.pid lookup.fd =
    on_reply (λ (r : Reply). r.errno ≡ Success → Leads (tick S) U who.pid lookup.fd) (step_answer constants S who call) reply
    (outcome_leads constants S who lookup path oflags stat v) (sym done.0) success in
    subst (λ (V : State). Leads S V who.pid lookup.fd) (sym (done.1 ∙ ap release is))
    (release_leads S U who.pid lookup.fd spared (left_is_tree constants S who lookup path oflags stat v) leads)
step_leads constants S who lookup path oflags stat reply T (inr lacking) success valid = no_memory reply lacking.1 success
