-- What proc_fork and proc_exec do.
--     fork_makes_child      a fork
--     forks_are_numbered      the numbers of what it makes
--     made_by_fork, child_is_new, child_runs, child_alone      the child of a step
--     exec_begins      a proc_exec
use Rattle.std.proofs.Common.{◌≡◌, ◌≢◌, inl, inr, ℕ, zero, suc, ◌+◌, ◌-◌, ◌*◌, ◌^◌, ◌<◌, ◌≤◌, ◌&&◌, Bool, true, false, cond, List, [], ◌∷◌, Option, Some, None, IsSome, refl, sym, ap, subst, ◌∙◌, arith}
use Rattle.std.proofs.lemmas.Bool.{eq-eqb, leb-true, lt-ltb}
use Rattle.std.specs.Prelude.{if◌then◌else◌}
use Rattle.std.proofs.lemmas.Bool.Decides.{eqb_tells}
use Rattle.std.specs.FinMap.{empty, get, get-empty, insert}
use Rattle.std.specs.Option.{option_map}
use Rattle.std.specs.Ordering.{nat_cmp}
use Rattle.abi_base.specs.declared.errno.Errno.{Errno}
use Rattle.abi_base.specs.declared.errno.Errno.TheVariants.{Nomem, Success}
use Rattle.abi_base.specs.declared.limits.TheConstants.{MOST_DESCRIPTORS}
use Rattle.abi_types.specs.declared.call.Call.{Call}
use Rattle.abi_types.specs.declared.call.Call.TheVariants.{ProcExec, ProcFork}
use Rattle.abi_types.specs.declared.constants.Constants.{Constants}
use Rattle.abi_types.specs.declared.reply.Answer.{Answer}
use Rattle.abi_types.specs.declared.reply.Answer.TheVariants as answer
use Rattle.abi_types.specs.declared.reply.Reply.{Reply}
use Rattle.abi_types.specs.declared.status.Status.TheVariants.{Live}
use Rattle.abi_types.specs.declared.thread.Thread.TheVariants.{Runnable}
use Rattle.abi_types.specs.declared.who.Who.{Who}
use Rattle.maps.specs.Maps.{get-insert-same, get-insert-other, total, total-insert, total-insert_new, weight}
use Rattle.kernel_model.specs.ChildLaws.{IsUnmade}
use Rattle.kernel_model.specs.Calls.{meaning_of, refusal}
use Rattle.kernel_model.specs.Families.DescriptorCalls.{lowest_free}
use Rattle.kernel_model.specs.Families.ForkCalls.{child_descriptor, child_kind, child_number, child_open, child_process, fork_updates, forked_reply, least_turns, listed}
use Rattle.kernel_model.specs.ForkLaws.{ExecBegins, ForkMakesChild, ForksAreNumbered, IsBegun, IsForked, nth_held}
use Rattle.kernel_model.specs.Families.Children.{byte_unit}
use Rattle.kernel_model.specs.Families.Numbers.{made_more}
use Rattle.kernel_model.specs.OwnChanges.{begun_anew, is_success, next_child, with_next_child}
use Rattle.kernel_model.specs.Release.{carriers, count_in, ends, holders, names_open, release, without_ended}
use Rattle.kernel_model.specs.Start.{canary_words}
use Rattle.kernel_model.specs.State.{ProcessState, State, Table, put_all, set_process, set_table, thread_in, thread_of}
use Rattle.kernel_model.specs.Step.{tick, IsStep}
use Rattle.kernel_model.specs.Threads.{child_made}
use Rattle.kernel_model.specs.Valid.{IsValid}
use Rattle.kernel_model.specs.View.{whole}
use Rattle.kernel_model.proofs.Births.{CanFork, fork_holds, may_is, next_is}
use Rattle.kernel_model.proofs.ChildLaws.{child_apart, child_is_unmade}
use Rattle.kernel_model.proofs.DescriptorCalls.{free_is_absent}
use Rattle.kernel_model.proofs.Ends.{table_spared}
use Rattle.kernel_model.proofs.ExecCalls.{exec_at_holds, listed_at}
use Rattle.kernel_model.proofs.ObjectNumbers.{numbers_fit}
use Rattle.kernel_model.proofs.Outcomes.{outcome_by_cases}
use Rattle.kernel_model.proofs.Refusals.{same_reply}
use Rattle.kernel_model.proofs.Sending.{succeeds_or}
use Rattle.kernel_model.proofs.ThreadLaws.{Comes, fails}
use Rattle.kernel_model.proofs.Threads.{refusal_of_fails}
use Rattle.kernel_model.proofs.Touches.{live_spared}
use Rattle.kernel_model.proofs.Tests.{none_is_no, not_true, same_some}
use Rattle.kernel_model.proofs.Valids.{ended_held, owner_makes}

-- what each outcome comes to that is a success, where the call isn't refused, each step with one does
comes_by : (P : Reply → State → Type 0) (constants : Constants) (S : State) (who : Who) (call : Call) (reply : Reply) (T : State)
    → ((table : Table) → get S.tables who.pid ≡ Some table → refusal table call ≡ None
    → Comes P constants S who call ((meaning_of call).effect constants (whole (tick S)) who table))
    → IsStep constants S who call (answer.Reply reply) T → reply.errno ≡ Success → P reply T
comes_by P constants S who call reply T comes (inl done) success =
    subst (P reply) (sym done.1)
    (outcome_by_cases (Comes P constants S who call) constants S who call
    (λ refusal refuses given is done. absurd (not_true (sym (refusal_of_fails call (get S.tables who.pid) refusal refuses)
    ∙ ap (λ (r : Reply). is_success r.errno) (sym (same_reply given refusal is)) ∙ ap is_success done)))
    comes reply done.0 success)
comes_by P constants S who call reply T comes (inr lacking) success = fails Nomem reply refl lacking.1 success

-- ---- proc_fork

module _ (S : State) (who : Who) (own : ProcessState) (there : get S.processes who.pid ≡ Some own) (left : ℕ) (can : CanFork left who.pid who.tid own)
    (table : Table) (had : get S.tables who.pid ≡ Some table) (fd : ℕ) (free : lowest_free table ≡ Some fd) (valid : IsValid S) where
  abbrev c : ℕ
  c = child_number who.pid own

  abbrev forked : State
  forked = put_all (fork_updates who.pid who.tid own table fd) (tick S)

  unmade : IsUnmade S c
  unmade = child_is_unmade S valid.nearly who.pid (own.counts.forks + 1) own there (may_is own can.bears) (omega arith)

  not_parent : who.pid ≢ c
  not_parent is = child_apart own.depth who.pid (own.counts.forks + 1) (may_is own can.bears) (sym is)

  no_open : get S.opens (child_open who.pid own) ≡ None
  no_open =
      let fit = numbers_fit who.pid 1 (Some own) can.number in
      valid.nearly.made who.pid (own.counts.objects + 2) fit.0
      (owner_makes S who.pid (own.counts.objects + 2) own valid.nearly there (omega arith)) fit.1

  -- each open that was held is held by as many, and the child's by its parent
  held_more : (o : ℕ) → holders forked o ≡ holders S o + count_in o table + names_open o (child_descriptor who.pid own)
  held_more o =
      let first = insert S.tables c table in
      let new = insert table fd (child_descriptor who.pid own) in
      let child : total (count_in o) first ≡ total (count_in o) S.tables + count_in o table = total-insert_new (count_in o) S.tables c table unmade.table in
      let both : total (count_in o) (insert first who.pid new) + weight (count_in o) (get first who.pid) ≡ total (count_in o) first + count_in o new =
      total-insert (count_in o) first who.pid new in
      let was : weight (count_in o) (get first who.pid) ≡ count_in o table =
      ap (weight (count_in o)) (get-insert-other S.tables c table who.pid not_parent ∙ had) in
      let one : count_in o new ≡ count_in o table + names_open o (child_descriptor who.pid own) =
      total-insert_new (names_open o) table fd (child_descriptor who.pid own) (free_is_absent table MOST_DESCRIPTORS 0 fd free) in
      omega (arith, child, both, was, one)

  all_held : (o : ℕ) → IsSome (get forked.opens o) → 0 < holders forked o + carriers forked o
  all_held o some =
      let more = held_more o in
      elim (eqb_tells o (child_open who.pid own)) [
        | inl is ↦ (
            let one : names_open o (child_descriptor who.pid own) ≡ 1 =
            ap (λ k. names_open k (child_descriptor who.pid own)) is.1
            ∙ ap (λ b. cond b 1 0) (eq-eqb (child_open who.pid own) (child_open who.pid own) refl) in
            omega (arith, more, one))
        | inr other ↦ (
            let was : IsSome (get S.opens o) =
            subst IsSome (get-insert-other S.opens (child_open who.pid own) (child_kind who.pid own) o other.1) some in
            let held : 0 < holders S o + carriers S o = valid.held o was in
            let same : carriers forked o ≡ carriers S o = refl in
            omega (arith, more, held, same))
      ]

  nothing_ends : without_ended forked ≡ forked
  nothing_ends = ended_held forked all_held

  pub is_forked : (reply : Reply) → reply ≡ forked_reply fd c → IsForked S who left reply (release forked)
  is_forked reply is = record {
    own = own;
    caller = (there, can.some);
    turns = leb-true least_turns left can.turns;
    few = ((may_is own can.bears).0, few_forks);
    table = table;
    had = had;
    fd = fd;
    free = free;
    answers = is;
    new = unmade;
    absent = no_open;
    tables = ap (λ (V : State). V.tables) nothing_ends;
    processes = ap (λ (V : State). V.processes) nothing_ends;
    statuses = ap (λ (V : State). V.statuses) nothing_ends;
    opens = ap (λ (V : State). V.opens) nothing_ends;
  } where
    few_forks : own.counts.forks < 254
    few_forks = let most : own.counts.forks + 1 ≤ 254 = (may_is own can.bears).2 in omega (arith, most)

unit_is : (depth : ℕ) → depth < 4 → byte_unit depth ≡ 256 ^ (3 - depth)
unit_is zero few = refl
unit_is (suc zero) few = refl
unit_is (suc (suc zero)) few = refl
unit_is (suc (suc (suc zero))) few = refl
unit_is (suc (suc (suc (suc depth)))) few = absurd (omega (arith, few))

pub forks_are_numbered : ForksAreNumbered
forks_are_numbered p t own few = record {
  number = ap (λ unit. p + (own.counts.forks + 1) * unit) (unit_is own.depth few);
  child = refl;
  parent = refl;
  kind = refl;
  descriptor = refl;
  reply = λ fd. refl;
}

pub fork_makes_child : ForkMakesChild
fork_makes_child constants S who left reply T valid step success =
    comes_by (IsForked S who left) constants S who (ProcFork left) reply T
    (λ table had _.
    fork_holds left who.pid who.tid (get S.processes who.pid) table (lowest_free table) (Comes (IsForked S who left) constants S who (ProcFork left))
    (λ errno here other given is done. fails errno given other is done)
    (λ fd own free there can given is done. is_forked S who own there left can table had fd free valid given (same_reply given _ is))) step success

-- ---- the child of a step

pub made_where : (b : Bool) (p : ℕ) (own : Option ProcessState) → b ≡ true → (if b then next_child p own else None) ≡ next_child p own
made_where true p own is = refl
made_where false p own is = absurd (not_true is)

pub unmade_where : (b : Bool) (p : ℕ) (own : Option ProcessState) → b ≡ false → (if b then next_child p own else None) ≡ None
unmade_where true p own isnt = absurd (not_true (sym isnt))
unmade_where false p own isnt = refl

pub error_is_none : (errno : Errno) → errno ≢ Success → is_success errno ≡ false
error_is_none Success other = absurd (other refl)
error_is_none _ other = refl

-- what a fork has made is the next child of its process
pub forked_child : (S : State) (who : Who) (left : ℕ) (reply : Reply) (T : State) (f : IsForked S who left reply T)
    → next_child who.pid (get S.processes who.pid) ≡ Some (child_number who.pid f.own)
forked_child S who left reply T f =
    ap (next_child who.pid) f.caller.0
    ∙ next_is who.pid f.own (λ i. lt-ltb f.own.depth 4 f.few.0 i && lt-ltb f.own.counts.forks 254 f.few.1 i)

-- a child that a call makes is one that a fork has made
pub made_by_fork : (constants : Constants) (S : State) (who : Who) (call : Call) (given : Answer) (T : State) (q : ℕ) → IsValid S
    → IsStep constants S who call given T → child_made call given who.pid (get S.processes who.pid) ≡ Some q
    → (left : ℕ) × (reply : Reply) × (f : IsForked S who left reply T) × (child_number who.pid f.own ≡ q)
made_by_fork constants S who (ProcFork left) (answer.Parked writes) T q valid step born = absurd (none_is_no q born)
made_by_fork constants S who (ProcFork left) (answer.Reply reply) T q valid step born =
    elim (succeeds_or reply.errno) [
      | inl success ↦ (
          let f = fork_makes_child constants S who left reply T valid step success in (
            left,
            reply,
            f,
            same_some (child_number who.pid f.own) q
                (sym (made_where (is_success reply.errno) who.pid (get S.processes who.pid) (ap is_success success) ∙ forked_child S who left reply T f)
                ∙ born),
          ))
      | inr error ↦ absurd (none_is_no q
          (sym (unmade_where (is_success reply.errno) who.pid (get S.processes who.pid) (error_is_none reply.errno error)) ∙ born))
    ]
made_by_fork constants S who call given T q valid step born = absurd (none_is_no q born)

-- it was not made before, and lives
pub child_is_new : (constants : Constants) (S : State) (who : Who) (call : Call) (given : Answer) (T : State) (q : ℕ) → IsValid S
    → IsStep constants S who call given T → child_made call given who.pid (get S.processes who.pid) ≡ Some q
    → (get S.statuses q ≡ None) × (get T.statuses q ≡ Some Live)
child_is_new constants S who call given T q valid step born =
    let by = made_by_fork constants S who call given T q valid step born in
    let f = by.2 in (
      ap (get S.statuses) (sym by.3) ∙ f.new.status,
      ap (get T.statuses) (sym by.3) ∙ ap (λ m. get m (child_number who.pid f.own)) f.statuses
          ∙ get-insert-same S.statuses (child_number who.pid f.own) Live,
    )

-- it has one thread, which runs
forked_process : (S : State) (who : Who) (left : ℕ) (reply : Reply) (T : State) (f : IsForked S who left reply T)
    → get T.processes (child_number who.pid f.own) ≡ Some (child_process who.tid f.own)
forked_process S who left reply T f =
    ap (λ m. get m (child_number who.pid f.own)) f.processes
    ∙ get-insert-same (insert S.processes who.pid (made_more 2 (with_next_child f.own))) (child_number who.pid f.own) (child_process who.tid f.own)

pub child_runs : (constants : Constants) (S : State) (who : Who) (call : Call) (given : Answer) (T : State) (q : ℕ) → IsValid S
    → IsStep constants S who call given T → child_made call given who.pid (get S.processes who.pid) ≡ Some q → thread_of T q who.tid ≡ Some Runnable
child_runs constants S who call given T q valid step born =
    let by = made_by_fork constants S who call given T q valid step born in
    ap (λ k. thread_of T k who.tid) (sym by.3)
    ∙ ap (λ o. thread_in (option_map (λ (own : ProcessState). own.threads) o) who.tid) (forked_process S who by.0 by.1 T by.2)
    ∙ get-insert-same empty who.tid Runnable

pub child_alone : (constants : Constants) (S : State) (who : Who) (call : Call) (given : Answer) (T : State) (q : ℕ) → IsValid S
    → IsStep constants S who call given T → child_made call given who.pid (get S.processes who.pid) ≡ Some q → (t : ℕ) → t ≢ who.tid
    → thread_of T q t ≡ None
child_alone constants S who call given T q valid step born t other =
    let by = made_by_fork constants S who call given T q valid step born in
    ap (λ k. thread_of T k t) (sym by.3)
    ∙ ap (λ o. thread_in (option_map (λ (own : ProcessState). own.threads) o) t) (forked_process S who by.0 by.1 T by.2)
    ∙ get-insert-other empty who.tid Runnable t other ∙ get-empty nat_cmp t

-- ---- proc_exec

module _ (constants : Constants) (S : State) (who : Who) (fd : ℕ) (bytes fds : List ℕ) (table : Table) (had : get S.tables who.pid ≡ Some table) where
  exec_comes : Comes (IsBegun constants S who fd fds) constants S who (ProcExec fd bytes fds)
      ((meaning_of (ProcExec fd bytes fds)).effect constants (whole (tick S)) who table)
  exec_comes =
      exec_at_holds constants.key who.pid who.tid (listed table fds) (whole (tick S))
      (Comes (IsBegun constants S who fd fds) constants S who (ProcExec fd bytes fds)) (λ errno here other given is done. fails errno given other is done)
      (get table fd)
      (λ x node own is program there given same done. record {
        own = own;
        there = there;
        table = table;
        had = had;
        d = x;
        program = is;
        node = node;
        offset = program.offset;
        flags = program.flags;
        opened = program.opened;
        sound = program.sound;
        answers = same_reply given _ same;
        has = λ live. begun_has own live;
      }) where
        begun_has : (own : ProcessState)
            → get (release (put_all (set_process who.pid (begun_anew canary_words who.tid own) ∷ set_table who.pid (listed table fds) ∷ []) (tick S))).statuses who.pid
            ≡ Some Live
            → (after : Table)
            × (get (release (put_all (set_process who.pid (begun_anew canary_words who.tid own) ∷ set_table who.pid (listed table fds) ∷ []) (tick S))).tables who.pid
            ≡ Some after)
            × ((n : ℕ) → get after n ≡ nth_held (get table) fds n)
        begun_has own live =
            let U = put_all (set_process who.pid (begun_anew canary_words who.tid own) ∷ set_table who.pid (listed table fds) ∷ []) (tick S) in (
              listed table fds,
              table_spared U (ends U) who.pid (live_spared U who.pid live) ∙ get-insert-same S.tables who.pid (listed table fds),
              listed_at table fds,
            )

pub exec_begins : ExecBegins
exec_begins constants S who fd bytes fds reply T step success =
    comes_by (IsBegun constants S who fd fds) constants S who (ProcExec fd bytes fds) reply T
    (λ table had _. exec_comes constants S who fd bytes fds table had) step success
