-- Each descriptor that is held after a legal history is traced.
--     held_is_traced      so it is
--     traced_is_held, traced_is_within_root      what is traced is held, with no right that its root neither has nor passes on
use Rattle.std.proofs.Common.{◌≡◌, ◌≢◌, inl, inr, ℕ, zero, suc, Bool, true, false, cond, List, [], ◌∷◌, ◌++◌, Option, Some, None, refl, sym, ap, subst, ◌∙◌, append-nil, append_assoc}
use Rattle.std.proofs.lemmas.Bool.Decides.{eqb_tells}
use Rattle.std.specs.Prelude.{bit_and, option_map, slice_get}
use Rattle.std.specs.FinMap.{get}
use Rattle.abi_base.specs.declared.errno.Errno.{Errno}
use Rattle.abi_base.specs.declared.errno.Errno.TheVariants.{Success}
use Rattle.abi_base.specs.declared.grant.Grant.{Grant}
use Rattle.abi_structures.specs.declared.structures.FdStat.{FdStat}
use Rattle.tree_model.specs.Grants.{MayBegin}
use Rattle.abi_types.specs.declared.call.Call.{Call}
use Rattle.abi_types.specs.declared.call.Call.TheVariants.{FdClose, FdCreate2, FdDup, FdReplace, FdStatPut, FileOpen, ProcExec, ProcExit, ProcFork, ProcRaise, SockRecv, ThreadExit}
use Rattle.abi_types.specs.declared.descriptor.Descriptor.{Descriptor}
use Rattle.abi_types.specs.declared.open_kind.OpenKind.{OpenKind}
use Rattle.abi_types.specs.declared.reply.Answer.{Answer}
use Rattle.abi_types.specs.declared.reply.Answer.TheVariants as answer
use Rattle.abi_types.specs.declared.reply.Reply.{Reply}
use Rattle.abi_types.specs.declared.status.Status.TheVariants.{Live}
use Rattle.run_types.specs.declared.history.Act.{Act}
use Rattle.run_types.specs.declared.history.Act.TheVariants as act
use Rattle.run_types.specs.declared.history.Entry.{Entry}
use Rattle.run_types.specs.declared.launch.Launch.{Launch}
use Rattle.kernel_model.specs.Start.{granted_descriptor, start_state}
use Rattle.kernel_model.specs.State.{State}
use Rattle.kernel_model.proofs.OpenLaws.{grants_are_held}
use Rattle.kernel_model.proofs.Tests.{none_is_no, same_some}
use Rattle.run_model.specs.Legal.{FitsAct, Legal}
use Rattle.run_model.specs.World.{called_state, guest_of, who_of, world}
use Rattle.run_model.proofs.Histories.{legal_front, legal_next}
use Rattle.run_model.proofs.Worlds.{world_is_valid}
use Rattle.authority_laws.specs.Ledger.{After, Ledger, Row, answered_row, came_for, installed_fds, no_row, put_each, with_child, with_held, launch_ledger, launch_row, lowered_row, granted_row, new_held, by_success}
use Rattle.authority_laws.specs.Laws.{TracedIsHandedOn, TracedIsWithinRoot}
use Rattle.authority_laws.specs.Origins.{InheritsFrom, IsCopied, IsNoMoreThan}
use Rattle.authority_laws.specs.Recorded.{Replies, Succeeds, acted_row, after_at, child_at, held_after, held_before, ledger}
use Rattle.authority_laws.specs.Traces.{AllTraced, IsGranted, IsWithin, Lists, Lowers, OpensFrom, Receives, Root, Traced, first_open, of_entry, of_grant, root}
use Rattle.authority_laws.specs.Traces as way
use Rattle.authority_laws.proofs.Bounds.{opens_are_bounded}
use Rattle.authority_laws.proofs.Pairs.{Counted, last_is_made, next_is_made, step_counts}
use Rattle.authority_laws.proofs.Copies.{at_once, called_is, copied, duplicates_are_equal, rights_are_lowered, stepped}
use Rattle.authority_laws.proofs.Histories.{ledger_none, ledger_reports, other_after, own_after, up_to}
use Rattle.authority_laws.proofs.Origins.{inherits_of_granted, itself, no_more_than_granted}
use Rattle.authority_laws.proofs.Rows.{held_elsewhere, held_here, row_in, row_of}
use Rattle.authority_laws.proofs.States.{start_rows}
use Rattle.kernel_model.specs.Families.ProcessCalls.{signal_of}
use Rattle.kernel_model.specs.ForkLaws.{IsForked, nth_held}
use Rattle.kernel_model.proofs.ForkLaws.{fork_makes_child}
use Rattle.authority_laws.proofs.Forked.{forked_is_made}
use Rattle.authority_laws.proofs.Rows.{raised_cases}
use Rattle.authority_laws.proofs.Waiting.{AllSent, CameFrom, WasSent, begins_sent, came_from, came_waits, entry_sent, put_in, world_begins}

-- ---- the grants

is_granted : (launch : Launch) (k : ℕ) (grant : Grant) → MayBegin launch.tree launch.grants → slice_get launch.grants k ≡ Some grant → IsGranted launch k grant
is_granted launch k grant begins listed =
    let S : State = start_state launch.tree launch.grants launch.stdin in
    let given : Descriptor = granted_descriptor launch.tree k grant in
    let at = grants_are_held launch.tree launch.grants launch.stdin k grant begins listed in
    let here : row_of S 0 k ≡ Some at.descriptor = ap (λ t. row_in t k) at.there ∙ at.held in
    let row : row_of S 0 k ≡ Some given =
    (λ i. start_rows launch.tree launch.grants 0 i k) ∙ ap (option_map (granted_descriptor launch.tree k)) listed in
    let same : given ≡ at.descriptor = same_some given at.descriptor (sym row ∙ here) in
    record {
      listed = listed;
      kind = at.kind;
      opened = ap (λ (T : State). get T.opens given.id) (world_begins launch) ∙ ap (λ (d : Descriptor). get S.opens d.id) same ∙ at.opened;
      of = at.of;
    }

grant_traced : (launch : Launch) (k : ℕ) (d : Descriptor) (o : Option Grant) → MayBegin launch.tree launch.grants → slice_get launch.grants k ≡ o
    → option_map (granted_descriptor launch.tree k) o ≡ Some d → Traced launch [] 0 k d
grant_traced launch k d None begins is here = absurd (none_is_no d here)
grant_traced launch k d (Some grant) begins is here =
    subst (Traced launch [] 0 k) (same_some (granted_descriptor launch.tree k grant) d here) (way.granted k grant (is_granted launch k grant begins is))

begins_traced : (launch : Launch) → MayBegin launch.tree launch.grants → AllTraced launch []
begins_traced launch begins p n d here =
    let first : (launch_ledger launch.tree launch.grants).held p n ≡ Some d = ap (λ (l : Ledger). l.held p n) (sym (ledger_none launch)) ∙ here in
    elim (eqb_tells p 0) [
      | inl is ↦ subst (λ q. Traced launch [] q n d) (sym is.1)
          (grant_traced launch n d (slice_get launch.grants n) begins refl
          (sym (ap (λ b. cond b (launch_row launch.tree launch.grants) no_row n) is.0) ∙ first))
      | inr other ↦ absurd (none_is_no d (sym (ap (λ b. cond b (launch_row launch.tree launch.grants) no_row n) other.0) ∙ first))
    ]

-- what is listed in the n-th place
nth_from : (row : Row) (fds : List ℕ) (n : ℕ) (d : Descriptor) → nth_held row fds n ≡ Some d → (m : ℕ) × (slice_get fds n ≡ Some m) × (row m ≡ Some d)
nth_from row [] n d here = absurd (none_is_no d here)
nth_from row (fd ∷ fds) zero d here = (fd, refl, here)
nth_from row (fd ∷ fds) (suc n) d here = nth_from row fds n d here

-- ---- one more entry

module _ (launch : Launch) (front : List Entry) (e : Entry) (begins : MayBegin launch.tree launch.grants) (legal : Legal launch (front ++ e ∷ []))
    (before : AllTraced launch front) (sent : AllSent launch front) where
  -- the descriptor is traced after the entry
  abbrev Is : ℕ → ℕ → Descriptor → Type 0
  Is p n d = Traced launch (front ++ e ∷ []) p n d

  abbrev row : Row
  row = held_before launch front e

  abbrev after : Row
  after = held_after launch front e

  abbrev shown : After
  shown = after_at launch front e

  stays : (p n : ℕ) (d : Descriptor) → (ledger launch front).held p n ≡ Some d → (ledger launch (front ++ e ∷ [])).held p n ≡ Some d → Is p n d
  stays p n d was here = way.kept front e p n d (before p n d was) here

  -- what stands under each number, where one changes
  changed_at : (to : ℕ) (c : Descriptor) → after to ≡ Some c → Is e.pid to c → ((m : ℕ) → m ≢ to → after m ≡ row m) → (n : ℕ) (d : Descriptor)
      → after n ≡ Some d → Is e.pid n d
  changed_at to c stands traced others n d here =
      elim (eqb_tells n to) [
        | inl is ↦ subst (λ m. Is e.pid m d) (sym is.1)
            (subst (Is e.pid to) (same_some c d (sym stands ∙ sym (ap after is.1) ∙ here)) traced)
        | inr other ↦ stays e.pid n d (sym (others n other.1) ∙ here) here
      ]

  none_traced : after ≡ no_row → (n : ℕ) (d : Descriptor) → after n ≡ Some d → Is e.pid n d
  none_traced is n d here = absurd (none_is_no d ((λ i. sym is i n) ∙ here))

  same_traced : after ≡ row → (n : ℕ) (d : Descriptor) → after n ≡ Some d → Is e.pid n d
  same_traced is n d here = stays e.pid n d ((λ i. sym is i n) ∙ here) here

  closed_traced : (fd : ℕ) → after ≡ with_held row fd None → (n : ℕ) (d : Descriptor) → after n ≡ Some d → Is e.pid n d
  closed_traced fd is n d here =
      elim (eqb_tells n fd) [
        | inl same ↦ absurd (none_is_no d (sym ((λ i. is i n) ∙ ap (with_held row fd None) same.1 ∙ held_here row fd None) ∙ here))
        | inr other ↦ stays e.pid n d (sym ((λ i. is i n) ∙ held_elsewhere row fd None n other.1) ∙ here) here
      ]

  lowered_traced : (fd : ℕ) (stat : FdStat) (flags : ℕ) (reply : Reply) → Succeeds e (FdStatPut fd stat flags) reply
      → after ≡ granted_row shown row (FdStatPut fd stat flags) reply → (n : ℕ) (d : Descriptor) → after n ≡ Some d → Is e.pid n d
  lowered_traced fd stat flags reply done left n d here =
      elim (eqb_tells (bit_and flags 2) 0) [
        | inl is ↦ same_traced (left ∙ ap (λ b. cond b row (lowered_row row fd stat)) is.0) n d here
        | inr set ↦ (
            let l = rights_are_lowered launch front e [] begins legal fd stat flags reply done set.1 in
            let lowers : Lowers e fd stat = record { flags = flags; reply = reply; succeeds = done; rights = set.1 } in
            changed_at fd l.d l.stands (way.lowered front e fd stat lowers l (before e.pid fd l.x l.stood)) l.others n d here)
      ]

  -- where under `to` stands what stood under `from`, if anything did
  source_traced : (from to : ℕ) (reply : Reply) (o : Option Descriptor) → Succeeds e (FdReplace from to) reply → row from ≡ o → after ≡ with_held row to o
      → (n : ℕ) (d : Descriptor) → after n ≡ Some d → Is e.pid n d
  source_traced from to reply None done there left = closed_traced to left
  source_traced from to reply (Some x) done there left =
      let c : IsCopied row after from to = copied row after from to x there (left ∙ ap (with_held row to) (sym there)) in
      changed_at to c.d c.copy (way.copied front e from to (inr (reply, done)) c (before e.pid from c.d c.source)) c.others

  -- the open of the child that a fork made stands under its result, and all else stays
  forked_traced : (left : ℕ) (reply : Reply) → Succeeds e (ProcFork left) reply → after ≡ granted_row shown row (ProcFork left) reply → (n : ℕ) (d : Descriptor)
      → after n ≡ Some d → Is e.pid n d
  forked_traced left reply succeeds is n d here =
      let w = world launch front in
      let S : State = w.state in
      let U : State = (world launch (front ++ e ∷ [])).state in
      let who = who_of S e in
      let done = at_once launch front e [] (ProcFork left) reply begins legal refl succeeds in
      let T : State = called_state w.constants S who (ProcFork left) (answer.Reply reply) in
      let valid = world_is_valid launch front begins (legal_front launch front (e ∷ []) legal) in
      let forked : IsForked S who left reply T =
      fork_makes_child w.constants S who left reply T valid (stepped launch front e [] (ProcFork left) reply legal done) done.success in
      let there : IsForked S who left reply U = subst (IsForked S who left reply) (sym (called_is launch front e (ProcFork left) reply done)) forked in
      elim (eqb_tells n reply.r1) [
        | inl same ↦ (
            let stands : new_held (shown.made 0) ≡ Some d =
            sym ((λ i. is i n) ∙ ap (with_held row reply.r1 (new_held (shown.made 0))) same.1 ∙ held_here row reply.r1 (new_held (shown.made 0))) ∙ here in
            way.made front e n d (inr (left, reply, succeeds, same.1)) (forked_is_made S who left reply U there d stands) here)
        | inr other ↦ stays e.pid n d (sym ((λ i. is i n) ∙ held_elsewhere row reply.r1 (new_held (shown.made 0)) n other.1) ∙ here) here
      ]

  -- what a proc_exec listed stands in its place
  exec_traced : (fd : ℕ) (bytes fds : List ℕ) (reply : Reply) → Succeeds e (ProcExec fd bytes fds) reply → after ≡ nth_held row fds → (n : ℕ) (d : Descriptor)
      → after n ≡ Some d → Is e.pid n d
  exec_traced fd bytes fds reply done left n d here =
      let from = nth_from row fds n d (sym (λ i. left i n) ∙ here) in
      let lists : Lists e n from.0 = record { fd = fd; bytes = bytes; fds = fds; reply = reply; succeeds = done; place = from.1 } in
      way.listed front e n from.0 d lists (before e.pid from.0 d from.2) here

  -- the two ends that fd_create2 made stand under its results, and all else stays
  created_traced : (kind : ℕ) (reply : Reply) → Succeeds e (FdCreate2 kind) reply → after ≡ granted_row shown row (FdCreate2 kind) reply → (n : ℕ) (d : Descriptor)
      → after n ≡ Some d → Is e.pid n d
  created_traced kind reply succeeds left n d here =
      let w = world launch front in
      let S : State = w.state in
      let U : State = (world launch (front ++ e ∷ [])).state in
      let done = at_once launch front e [] (FdCreate2 kind) reply begins legal refl succeeds in
      let T : State = called_state w.constants S (who_of S e) (FdCreate2 kind) (answer.Reply reply) in
      let lives : get U.statuses e.pid ≡ Some Live = ((ledger_reports launch (front ++ e ∷ []) begins legal).held e.pid n d here).0 in
      let counts : Counted S T e.pid =
      step_counts w.constants S (who_of S e) kind reply T (stepped launch front e [] (FdCreate2 kind) reply legal done) done.success
      (subst (λ (V : State). get V.statuses e.pid ≡ Some Live) (called_is launch front e (FdCreate2 kind) reply done) lives) in
      let counted : Counted S U e.pid = subst (λ (V : State). Counted S V e.pid) (sym (called_is launch front e (FdCreate2 kind) reply done)) counts in
      let valid = world_is_valid launch front begins (legal_front launch front (e ∷ []) legal) in
      let first : Row = with_held row reply.r1 (new_held (shown.made 1)) in
      elim (eqb_tells n reply.r2) [
        | inl second ↦ (
            let stands : new_held (shown.made 0) ≡ Some d =
            sym ((λ i. left i n) ∙ ap (with_held first reply.r2 (new_held (shown.made 0))) second.1 ∙ held_here first reply.r2 (new_held (shown.made 0))) ∙ here in
            way.made front e n d (inl (kind, reply, succeeds, inr second.1)) (last_is_made S U e.pid valid counted d stands) here)
        | inr apart ↦ elim (eqb_tells n reply.r1) [
          | inl is ↦ (
              let stands : new_held (shown.made 1) ≡ Some d =
              sym ((λ i. left i n) ∙ held_elsewhere first reply.r2 (new_held (shown.made 0)) n apart.1
              ∙ ap (with_held row reply.r1 (new_held (shown.made 1))) is.1 ∙ held_here row reply.r1 (new_held (shown.made 1))) ∙ here in
              way.made front e n d (inl (kind, reply, succeeds, inl is.1)) (next_is_made S U e.pid valid counted d stands) here)
          | inr other ↦ stays e.pid n d
              (sym ((λ i. left i n) ∙ held_elsewhere first reply.r2 (new_held (shown.made 0)) n apart.1
              ∙ held_elsewhere row reply.r1 (new_held (shown.made 1)) n other.1) ∙ here) here
        ]
      ]

  -- what sock_recv installed had waited for its socket
  received_traced : (fd length room flags : ℕ) (reply : Reply) → Succeeds e (SockRecv fd length room flags) reply
      → after ≡ put_each row (installed_fds reply.payload) (came_for shown (row fd)) → (n : ℕ) (d : Descriptor) → after n ≡ Some d → Is e.pid n d
  received_traced fd length room flags reply done left n d here =
      elim (put_in row (installed_fds reply.payload) (came_for shown (row fd)) n d ((λ i. sym left i n) ∙ here)) [
        | inl was ↦ stays e.pid n d was here
        | inr new ↦ (
            let from : CameFrom launch front (row fd) d = came_from launch front e (row fd) d new.1 in
            let s : WasSent launch front from.c d = sent from.c d (came_waits (world launch front).state d from.c from.came) in
            let receives : Receives launch front e n from.c d = record {
              fd = fd;
              length = length;
              room = room;
              flags = flags;
              reply = reply;
              succeeds = done;
              listed = new.0;
              x = from.x;
              socket = from.socket;
              writes = from.writes;
              mode = from.mode;
              form = from.form;
              opened = from.opened;
              came = from.came;
            } in
            way.received front e n from.c d receives s.at s.trace here)
      ]

  -- where it holds what it held, or nothing
  where_ends_traced : (lasts : Bool) → after ≡ cond lasts row no_row → (n : ℕ) (d : Descriptor) → after n ≡ Some d → Is e.pid n d
  where_ends_traced true left = same_traced left
  where_ends_traced false left = none_traced left

  call_traced : (call : Call) (reply : Reply) → Succeeds e call reply → after ≡ granted_row shown row call reply → (n : ℕ) (d : Descriptor)
      → after n ≡ Some d → Is e.pid n d
  call_traced (FdClose fd) reply done left = closed_traced fd left
  call_traced (FdCreate2 kind) reply done left = created_traced kind reply done left
  call_traced (FdDup fd) reply done left =
      let c = (duplicates_are_equal launch front e [] begins legal fd reply done).1 in
      changed_at reply.r1 c.d c.copy (way.copied front e fd reply.r1 (inl (reply, done, refl)) c (before e.pid fd c.d c.source)) c.others
  call_traced (FdReplace from to) reply done left = source_traced from to reply (row from) done refl left
  call_traced (FdStatPut fd stat flags) reply done left = lowered_traced fd stat flags reply done left
  call_traced (FileOpen lookup path oflags stat) reply done left =
      let o = opens_are_bounded launch front e [] begins legal lookup path oflags stat reply done in
      let from : OpensFrom e lookup.fd reply.r1 stat = record { lookup = lookup; path = path; oflags = oflags; reply = reply; succeeds = done; from = refl; result = refl } in
      changed_at reply.r1 o.d o.stands (way.opened front e lookup.fd reply.r1 stat from o (before e.pid lookup.fd o.x o.source)) o.others
  call_traced (ProcExit code) reply done left = none_traced left
  call_traced (ProcExec fd bytes fds) reply done left = exec_traced fd bytes fds reply done left
  call_traced (ProcFork count) reply done left = forked_traced count reply done left
  call_traced (ProcRaise signal) reply done left =
      raised_cases (λ r. after ≡ r → (n : ℕ) (d : Descriptor) → after n ≡ Some d → Is e.pid n d) (signal_of signal) row same_traced none_traced left
  call_traced (SockRecv fd length room flags) reply done left = received_traced fd length room flags reply done left
  call_traced (ThreadExit lock word scope) reply done left = where_ends_traced shown.threaded left
  call_traced call reply done left = same_traced left

  errno_traced : (call : Call) (reply : Reply) (errno : Errno) → Replies e call reply → reply.errno ≡ errno
      → after ≡ by_success errno (granted_row shown row call reply) row → (n : ℕ) (d : Descriptor) → after n ≡ Some d → Is e.pid n d
  errno_traced call reply Success is success left = call_traced call reply (record { is = is; success = success }) left
  errno_traced call reply _ is error left = same_traced left

  answer_traced : (call : Call) (given : Answer) → ((reply : Reply) → given ≡ answer.Reply reply → Replies e call reply)
      → after ≡ answered_row shown row call given → (n : ℕ) (d : Descriptor) → after n ≡ Some d → Is e.pid n d
  answer_traced call (answer.Parked writes) is left = same_traced left
  answer_traced call (answer.Reply reply) is left = errno_traced call reply reply.errno (is reply refl) refl left

  act_traced : (a : Act) → e.act ≡ a
      → FitsAct (world launch front).constants (world launch front).state (who_of (world launch front).state e) (guest_of (world launch front) e.pid) e.turns a
      → after ≡ acted_row shown row a → (n : ℕ) (d : Descriptor) → after n ≡ Some d → Is e.pid n d
  act_traced (act.Call call given) is fits left = answer_traced call given (λ reply replies. inl (is ∙ ap (act.Call call) replies)) left
  act_traced (act.Wake call given answered) is fits left =
      answer_traced call answered (λ reply replies. inr (given, is ∙ ap (act.Wake call given) replies)) left
  act_traced (act.Trap signal) is fits left = none_traced left
  act_traced act.Expire is fits left = none_traced left
  act_traced act.Idle is fits left = same_traced left

  -- what the entry's process holds, whether it is live or not
  own_traced : (live : Bool) → after ≡ cond live (acted_row shown row e.act) no_row → (n : ℕ) (d : Descriptor) → after n ≡ Some d → Is e.pid n d
  own_traced true left = act_traced e.act refl (legal_next launch front e [] legal).act left
  own_traced false left = none_traced left

  -- what another process holds by this ledger, in which the process that the entry made holds what the entry's process held
  child_traced : (child : Option ℕ) → child_at launch front e ≡ child → (p n : ℕ) (d : Descriptor)
      → (with_child child row (ledger launch front)).held p n ≡ Some d → (ledger launch (front ++ e ∷ [])).held p n ≡ Some d → Is p n d
  child_traced None is p n d was here = stays p n d was here
  child_traced (Some c) is p n d was here =
      elim (eqb_tells p c) [
        | inl same ↦ (
            let inherits : row n ≡ Some d = sym (ap (λ b. cond b row ((ledger launch front).held p) n) same.0) ∙ was in
            way.inherited front e p n d (is ∙ ap (λ k. Some k) (sym same.1)) (before e.pid n d inherits) here)
        | inr other ↦ stays p n d (sym (ap (λ b. cond b row ((ledger launch front).held p) n) other.0) ∙ was) here
      ]

  other_traced : (p n : ℕ) (d : Descriptor) (live : Bool)
      → (ledger launch (front ++ e ∷ [])).held p ≡ cond live ((with_child (child_at launch front e) row (ledger launch front)).held p) no_row
      → (ledger launch (front ++ e ∷ [])).held p n ≡ Some d → Is p n d
  other_traced p n d true left here = child_traced (child_at launch front e) refl p n d ((λ i. sym left i n) ∙ here) here
  other_traced p n d false left here = absurd (none_is_no d ((λ i. sym left i n) ∙ here))

  entry_traced : AllTraced launch (front ++ e ∷ [])
  entry_traced p n d here =
      elim (eqb_tells p e.pid) [
        | inl is ↦ subst (λ q. Is q n d) (sym is.1)
            (own_traced (shown.live e.pid) (own_after launch front e) n d
            (sym (ap (λ q. (ledger launch (front ++ e ∷ [])).held q n) is.1) ∙ here))
        | inr other ↦ other_traced p n d (shown.live p) (other_after launch front e p other.1) here
      ]

-- ---- a history

goes_on : (launch : Launch) (front rest : List Entry) → MayBegin launch.tree launch.grants → Legal launch (front ++ rest) → AllTraced launch front
    → AllSent launch front → AllTraced launch (front ++ rest)
goes_on launch front [] begins legal before sent = subst (AllTraced launch) (sym (append-nil front)) before
goes_on launch front (e ∷ rest) begins legal before sent =
    let same : (front ++ e ∷ []) ++ rest ≡ front ++ e ∷ rest = append_assoc front (e ∷ []) rest in
    let here : Legal launch (front ++ e ∷ []) = up_to launch front e rest legal in
    subst (AllTraced launch) same
    (goes_on launch (front ++ e ∷ []) rest begins (subst (Legal launch) (sym same) legal)
    (entry_traced launch front e begins here before sent) (entry_sent launch front e begins here sent before))

pub held_is_traced : (launch : Launch) (history : List Entry) → MayBegin launch.tree launch.grants → Legal launch history → AllTraced launch history
held_is_traced launch history begins legal = goes_on launch [] history begins legal (begins_traced launch begins) (begins_sent launch)

-- ---- what is traced

granted_held : (launch : Launch) (k : ℕ) (grant : Grant) → IsGranted launch k grant
    → (ledger launch []).held 0 k ≡ Some (granted_descriptor launch.tree k grant)
granted_held launch k grant is =
    ap (λ (l : Ledger). l.held 0 k) (ledger_none launch) ∙ ap (option_map (granted_descriptor launch.tree k)) is.listed

pub traced_is_held : (launch : Launch) (history : List Entry) (p n : ℕ) (d : Descriptor) → Traced launch history p n d → (ledger launch history).held p n ≡ Some d
traced_is_held launch history p n d (way.granted k grant is) = granted_held launch k grant is
traced_is_held launch history p n d (way.kept front e q m x before here) = here
traced_is_held launch history p n d (way.copied front e from to copies c before) = c.copy
traced_is_held launch history p n d (way.lowered front e m stat lowers l before) = l.stands
traced_is_held launch history p n d (way.opened front e fd to stat opens o before) = o.stands
traced_is_held launch history p n d (way.inherited front e q m x child before here) = here
traced_is_held launch history p n d (way.listed front e k m x lists before here) = here
traced_is_held launch history p n d (way.made front e m x makes is here) = here
traced_is_held launch history p n d (way.received front e m c x receives s before here) = here

-- ---- from whom to whom

pub traced_is_handed_on : TracedIsHandedOn
traced_is_handed_on launch history p n d (way.granted k grant is) = tt
traced_is_handed_on launch history p n d (way.kept front e q m x before here) = inl (inl refl)
traced_is_handed_on launch history p n d (way.copied front e from to copies c before) = inl (inl refl)
traced_is_handed_on launch history p n d (way.lowered front e m stat lowers l before) = inl (inl refl)
traced_is_handed_on launch history p n d (way.opened front e fd to stat opens o before) = inl (inl refl)
traced_is_handed_on launch history p n d (way.inherited front e q m x child before here) = inl (inr (refl, child))
traced_is_handed_on launch history p n d (way.listed front e k m x lists before here) = inl (inl refl)
traced_is_handed_on launch history p n d (way.made front e m x makes is here) = tt
traced_is_handed_on launch history p n d (way.received front e m c x receives s before here) =
    inr (record { own = refl; n = m; c = c; d = x; receives = receives; sent = s; sender = refl })

-- ---- the root of a trace

-- what is no more than what has such a root, and what inherits from it
less_within : (launch : Launch) (r : Root) (first : OpenKind) (d x : Descriptor) → IsNoMoreThan d x → IsWithin launch r first x → IsWithin launch r first d
less_within launch (of_grant k) first d x less within = no_more_than_granted launch.tree launch.grants k d x less within
less_within launch of_entry first d x less within = (
  λ k has. within.0 k (less.inheriting k has),
  elim within.1 [
    | inl new ↦ inl new
    | inr none ↦ inr (record { base = λ k has. none.base k (less.base k has); inheriting = λ k has. none.inheriting k (less.inheriting k has) })
  ],
)

inherits_within : (launch : Launch) (r : Root) (first then : OpenKind) (d x : Descriptor) → InheritsFrom d x → IsWithin launch r first x
    → IsWithin launch r then d
inherits_within launch (of_grant k) first then d x from within = inherits_of_granted launch.tree launch.grants k d x from within
inherits_within launch of_entry first then d x from within = (
  λ k has. within.0 k (from.inheriting k has),
  inr (record { base = λ k has. within.0 k (from.base k has); inheriting = λ k has. within.0 k (from.inheriting k has) }),
)

pub traced_is_within_root : TracedIsWithinRoot
traced_is_within_root launch history p n d (way.granted k grant is) = record {
  grant = grant;
  listed = is.listed;
  comes = inl (itself (granted_descriptor launch.tree k grant));
}
traced_is_within_root launch history p n d (way.kept front e q m x before here) = traced_is_within_root launch front q m x before
traced_is_within_root launch history p n d (way.copied front e from to copies c before) = traced_is_within_root launch front e.pid from c.d before
traced_is_within_root launch history p n d (way.lowered front e m stat lowers l before) =
    less_within launch (root launch front e.pid m l.x before) (first_open launch front e.pid m l.x before) l.d l.x
    (record { id = l.id; base = λ k has. ((l.base k).0 has).0; inheriting = λ k has. ((l.inheriting k).0 has).0 })
    (traced_is_within_root launch front e.pid m l.x before)
traced_is_within_root launch history p n d (way.opened front e fd to stat opens o before) =
    inherits_within launch (root launch front e.pid fd o.x before) (first_open launch front e.pid fd o.x before) o.kind o.d o.x o.within
    (traced_is_within_root launch front e.pid fd o.x before)
traced_is_within_root launch history p n d (way.inherited front e q m x child before here) = traced_is_within_root launch front e.pid m x before
traced_is_within_root launch history p n d (way.listed front e k m x lists before here) = traced_is_within_root launch front e.pid m x before
traced_is_within_root launch history p n d (way.made front e m x makes is here) = (is.passes, inl is.new)
traced_is_within_root launch history p n d (way.received front e m c x receives s before here) = traced_is_within_root launch s.early s.sender.pid s.m x before
