-- What file_open of a legal history leaves: an open that its process made there, with rights among those that a descriptor passed on.
use Rattle.std.proofs.Common.{◌≡◌, inl, inr, ℕ, ◌+◌, true, false, cond, List, [], ◌∷◌, ◌++◌, Option, Some, None, IsSome, is_some, refl, sym, ap, subst, ◌∙◌, arith}
use Rattle.std.specs.Prelude.{option_map}
use Rattle.std.specs.FinMap.{get, insert}
use Rattle.abi_base.proofs.Bits.{has-meet}
use Rattle.abi_base.specs.declared.errno.Errno.TheVariants.{Again, Success}
use Rattle.abi_structures.specs.declared.structures.FdStat.{FdStat}
use Rattle.abi_types.specs.declared.call.Call.TheVariants.{FileOpen}
use Rattle.abi_types.specs.declared.call.Lookup.{Lookup}
use Rattle.abi_types.specs.declared.constants.Constants.{Constants}
use Rattle.abi_types.specs.declared.descriptor.Descriptor.{Descriptor}
use Rattle.abi_types.specs.declared.open_kind.OpenKind.{OpenKind}
use Rattle.abi_types.specs.declared.reply.Answer.TheVariants as answer
use Rattle.abi_types.specs.declared.reply.Reply.{Reply}
use Rattle.abi_types.specs.declared.who.Who.{Who}
use Rattle.run_types.specs.declared.history.Entry.{Entry}
use Rattle.run_types.specs.declared.launch.Launch.{Launch}
use Rattle.tree_model.specs.Grants.{MayBegin}
use Rattle.kernel_model.specs.Families.ClockCalls.{real_time}
use Rattle.kernel_model.specs.Families.DescriptorCalls.{lowest_free}
use Rattle.kernel_model.specs.Families.FileMeaning.{open_of}
use Rattle.kernel_model.specs.Families.FilePaths.{walked}
use Rattle.kernel_model.specs.Families.Numbers.{can_number, next_object, process_updates}
use Rattle.kernel_model.specs.Families.Opening.{Opened, NotOpened, OpenedOutside, Opens, open_at, open_mode, open_walked, opened_descriptor, opened_outcome}
use Rattle.kernel_model.specs.Outcome.{Outcome, OnReply, replies}
use Rattle.kernel_model.specs.Reply.{refused, success}
use Rattle.kernel_model.specs.Release.{release}
use Rattle.kernel_model.specs.State.{State, ProcessState, Table, put_all, set_open, set_table}
use Rattle.kernel_model.specs.Step.{tick, outcome, step_answer, unreleased, IsStep}
use Rattle.kernel_model.specs.Families.TreeUpdates.{change_updates}
use Rattle.kernel_model.specs.Fits.{fits, fits_inheriting}
use Rattle.kernel_model.specs.Valid.{IsValid}
use Rattle.kernel_model.specs.View.{View, whole}
use Rattle.kernel_model.proofs.FilePaths.{walked_plainly}
use Rattle.kernel_model.proofs.DescriptorCalls.{free_is_absent}
use Rattle.kernel_model.proofs.HeldOpens.{open_holds, spares_all}
use Rattle.kernel_model.proofs.Outcomes.{outcome_holds}
use Rattle.kernel_model.proofs.Parking.{replied_leaves}
use Rattle.kernel_model.proofs.Refusals.{on_reply, refusal_is_other}
use Rattle.kernel_model.proofs.Tests.{not_true, same_some}
use Rattle.run_model.specs.Legal.{Legal}
use Rattle.run_model.specs.World.{called_state, who_of, world}
use Rattle.run_model.proofs.Histories.{legal_front}
use Rattle.run_model.proofs.Worlds.{world_is_valid}
use Rattle.authority_laws.specs.Laws.{OpensAt}
use Rattle.authority_laws.specs.Ledger.{Row, Made, with_held, opened_held}
use Rattle.authority_laws.specs.Recorded.{after_at, held_after, held_before}
use Rattle.authority_laws.proofs.Copies.{IsCalled, at_once, before_is, called_is, opened_after, rows_after, stepped}
use Rattle.authority_laws.proofs.Leads.{Leads, step_leads}
use Rattle.authority_laws.proofs.Openings.{RefusesByError, row_has, walk_by_error}
use Rattle.authority_laws.proofs.Rows.{row_in, row_of, held_here, held_elsewhere, again_is_error, mfile_is_error, notcapable_is_error}
use Rattle.authority_laws.proofs.States.{row_spared}
use Rattle.authority_laws.proofs.Successes.{no_memory, opener_is}

-- ---- the result was free, and then an open stands there

-- a success gives a number under which the process has nothing, and has something after the outcome's updates
abbrev GivesOpen : State → ℕ → Outcome → Type 0
GivesOpen S p o =
    OnReply (λ (reply : Reply). reply.errno ≡ Success → (row_of S p reply.r1 ≡ None) × IsSome (row_of (put_all o.updates S) p reply.r1)) o.answer

module _ (S : State) (p : ℕ) (table : Table) (lookup : Lookup) (path : List ℕ) (oflags : ℕ) (stat : FdStat) (there : get S.tables p ≡ Some table) where
  number_opens : (own : Option ProcessState) (fd : ℕ) (o : Opened) → RefusesByError o → lowest_free table ≡ Some fd
      → GivesOpen S p (opened_outcome p own table stat fd o)
  number_opens own fd (NotOpened errno) other free = λ success. absurd (other success)
  number_opens own fd (OpenedOutside component) other free = λ success. absurd (notcapable_is_error success)
  number_opens own fd (Opens kind change new_nodes) other free =
      elim (can_number p (new_nodes + 1) own) as (λ b. can_number p (new_nodes + 1) own ≡ b → GivesOpen S p
      (cond b (record {
        answer = answer.Reply (success fd 0);
        updates =
            set_open (next_object p own (new_nodes + 1)) kind
            ∷ set_table p (insert table fd (opened_descriptor (next_object p own (new_nodes + 1)) kind stat))
            ∷ (process_updates p (new_nodes + 1) own ++ change_updates change);
      }) (replies (refused Again)))) [
        | true ↦ λ can success. (
          ap (λ t. row_in t fd) there ∙ free_is_absent table _ 0 fd free,
          row_has S p table lookup path oflags stat there own fd kind change (new_nodes + 1) (omega arith) can,
        )
        | false ↦ λ _ success. absurd (again_is_error success)
      ] refl

  free_opens : (own : Option ProcessState) (o : Opened) (number : Option ℕ) → RefusesByError o → lowest_free table ≡ number
      → GivesOpen S p (open_at p own table stat o number)
  free_opens own o None other free = λ success. absurd (mfile_is_error success)
  free_opens own o (Some fd) other free = number_opens own fd o other free

  call_opens : (constants : Constants) (v : View) → GivesOpen S p
      (open_at p (v.process p) table stat
      (open_walked oflags stat.flags path (real_time constants v.clock) (next_object p (v.process p) 1) v.branch
      (walked v.branch (open_mode oflags lookup.flags) path (open_of v (get table lookup.fd))))
      (lowest_free table))
  call_opens constants v =
      let w = walked v.branch (open_mode oflags lookup.flags) path (open_of v (get table lookup.fd)) in
      free_opens (v.process p) (open_walked oflags stat.flags path (real_time constants v.clock) (next_object p (v.process p) 1) v.branch w) (lowest_free table)
      (walk_by_error oflags stat.flags path (real_time constants v.clock) (next_object p (v.process p) 1) v.branch w
      (walked_plainly v.branch (open_mode oflags lookup.flags) path (open_of v (get table lookup.fd)))) refl

outcome_opens : (constants : Constants) (S : State) (who : Who) (lookup : Lookup) (path : List ℕ) (oflags : ℕ) (stat : FdStat)
    → GivesOpen (tick S) who.pid (outcome constants S who (FileOpen lookup path oflags stat))
outcome_opens constants S who lookup path oflags stat =
    outcome_holds (GivesOpen (tick S) who.pid) constants S who (FileOpen lookup path oflags stat)
    (λ reply is success.
    absurd (refusal_is_other Success (λ e. cc) (λ e. cc) (FileOpen lookup path oflags stat) (get S.tables who.pid) reply is success))
    (λ table own. call_opens (tick S) who.pid table lookup path oflags stat own constants (whole (tick S)))

step_opens : (constants : Constants) (S : State) (who : Who) (lookup : Lookup) (path : List ℕ) (oflags : ℕ) (stat : FdStat) (reply : Reply) (T : State)
    → IsStep constants S who (FileOpen lookup path oflags stat) (answer.Reply reply) T → reply.errno ≡ Success → IsValid S
    → (row_of S who.pid reply.r1 ≡ None) × IsSome (row_of T who.pid reply.r1)
step_opens constants S who lookup path oflags stat reply T (inl done) success valid =
    let call = FileOpen lookup path oflags stat in
    let U = unreleased constants S who call in
    let V : State = put_all (outcome constants S who call).updates (tick S) in
    let set : (row_of S who.pid reply.r1 ≡ None) × IsSome (row_of V who.pid reply.r1) =
    on_reply (λ (r : Reply). r.errno ≡ Success → (row_of S who.pid r.r1 ≡ None) × IsSome (row_of V who.pid r.r1)) (step_answer constants S who call) reply
    (outcome_opens constants S who lookup path oflags stat) (sym done.0) success in
    let both : (row_of S who.pid reply.r1 ≡ None) × IsSome (row_of U who.pid reply.r1) =
    (set.0, subst (λ (X : State). IsSome (row_of X who.pid reply.r1)) (sym (replied_leaves constants S who call reply (sym done.0))) set.1) in
    let row : row_of (release U) who.pid ≡ row_of U who.pid =
    row_spared U who.pid (spares_all constants S who call valid (open_holds constants S who lookup path oflags stat) who.pid) in
    (both.0, subst (λ (V : State). IsSome (row_of V who.pid reply.r1)) (sym done.1) (subst (λ r. IsSome (r reply.r1)) (sym row) both.1))
step_opens constants S who lookup path oflags stat reply T (inr lacking) success valid = no_memory reply lacking.1 success

-- ---- the law

-- what stands under the result is the open that was made
made_is_there : (made : Made) (before after : Row) (n : ℕ) (stat : FdStat) (o : Option OpenKind) → made.kind ≡ o
    → after ≡ with_held before n (opened_held made stat) → IsSome (after n) → (kind : OpenKind) × (made.kind ≡ Some kind)
made_is_there made before after n stat None none is there =
    let nothing : after n ≡ None =
    (λ i. is i n) ∙ held_here before n (opened_held made stat) ∙ ap (option_map (λ (k : OpenKind). opened_descriptor made.number k stat)) none in
    absurd (not_true (sym (ap is_some nothing) ∙ there))
made_is_there made before after n stat (Some kind) some is there = (kind, some)

-- where it leads
leads_after : (launch : Launch) (front : List Entry) (e : Entry) (rest : List Entry) (lookup : Lookup) (path : List ℕ) (oflags : ℕ) (stat : FdStat)
    (reply : Reply) → MayBegin launch.tree launch.grants → Legal launch (front ++ e ∷ rest) → IsCalled e (FileOpen lookup path oflags stat) reply
    → Leads (world launch front).state (world launch (front ++ e ∷ [])).state e.pid lookup.fd
leads_after launch front e rest lookup path oflags stat reply begins legal done =
    let w = world launch front in
    let call = FileOpen lookup path oflags stat in
    subst (λ (U : State). Leads w.state U e.pid lookup.fd) (sym (called_is launch front e call reply done))
    (step_leads w.constants w.state (who_of w.state e) lookup path oflags stat reply (called_state w.constants w.state (who_of w.state e) call (answer.Reply reply))
    (stepped launch front e rest call reply legal done) done.success (world_is_valid launch front begins (legal_front launch front (e ∷ rest) legal)))

pub opens_are_bounded : (launch : Launch) (front : List Entry) (e : Entry) (rest : List Entry) → MayBegin launch.tree launch.grants
    → Legal launch (front ++ e ∷ rest) → OpensAt launch front e
opens_are_bounded launch front e rest begins legal lookup path oflags stat reply succeeds =
    let w = world launch front in
    let call = FileOpen lookup path oflags stat in
    let done = at_once launch front e rest call reply begins legal refl succeeds in
    let made : Made = (after_at launch front e).made 0 in
    let before : Row = held_before launch front e in
    let after : Row = held_after launch front e in
    let T : State = called_state w.constants w.state (who_of w.state e) call (answer.Reply reply) in
    let step = stepped launch front e rest call reply legal done in
    let valid = world_is_valid launch front begins (legal_front launch front (e ∷ rest) legal) in
    let by = opener_is w.constants w.state (who_of w.state e) lookup path oflags stat reply T step done.success valid in
    let leads = leads_after launch front e rest lookup path oflags stat reply begins legal done in
    let held : row_of w.state e.pid ≡ before = before_is launch front e rest begins legal in
    let gives = step_opens w.constants w.state (who_of w.state e) lookup path oflags stat reply T step done.success valid in
    let is : after ≡ with_held before reply.r1 (opened_held made stat) = opened_after launch front e rest begins legal lookup path oflags stat reply done in
    let now : row_of T e.pid ≡ after = rows_after launch front e rest begins legal call reply done in
    let opened = made_is_there made before after reply.r1 stat made.kind refl is (subst IsSome (λ i. now i reply.r1) gives.1) in
    record {
      d = opened_descriptor made.number opened.0 stat;
      x = by.x;
      kind = opened.0;
      start = leads.start;
      flags = leads.flags;
      source = (λ i. sym held i lookup.fd) ∙ by.held;
      right = by.right;
      directory = ap (λ (x : Descriptor). get w.state.opens x.id) (same_some by.x leads.x (sym by.held ∙ leads.held)) ∙ leads.directory;
      free = (λ i. sym held i reply.r1) ∙ gives.0;
      stands = (λ i. is i reply.r1) ∙ held_here before reply.r1 (opened_held made stat)
          ∙ ap (option_map (λ (k : OpenKind). opened_descriptor made.number k stat)) opened.1;
      id = refl;
      absent = leads.absent;
      opened = opened.1;
      leads = leads.leads opened.0 opened.1;
      base = λ k. has-meet (fits opened.0) stat.base.0 k;
      inheriting = λ k. has-meet (fits_inheriting opened.0) stat.inheriting.0 k;
      within = by.inherits made.number opened.0;
      others = λ n apart. (λ i. is i n) ∙ held_elsewhere before reply.r1 (opened_held made stat) n apart;
    }
