-- The call that makes a child.
--     child_fits      the number of a child fits
--     opens_there, opens_counted, counts_room      an open that is named is there;  one that is held has a count, with room for more holders
--     table_there, own_there      what a process has that was made
--     child_planned, child_seen      the child that is planned
--     may_put, plan_unheld      it may be put, and nothing holds its open yet
--     put_is, fork_valid, fork_kept      the state with it
--     fork_is      what the call comes to
--     MakesNone, fork_none, fork_fails      where it makes no child, it tells of none and is no success
--     fork_succeeds      and else it is one
use Rattle.std.proofs.Common.{◌≡◌, ◌≢◌, inl, inr, ℕ, ◌+◌, ◌^◌, ◌<◌, ◌==◌, ◌&&◌, ◌||◌, nat_le, nat_lt, Bool, true, false, cond, Option, None, Some, IsSome, is_some, refl, sym, ap, subst, ◌∙◌, arith}
use Rattle.std.proofs.lemmas.Bool.{eq-eqb}
use Rattle.std.proofs.lemmas.Bool.Decides.{eqb_tells}
use Rattle.std.specs.Ordering.{nat_cmp}
use Rattle.std.specs.FinMap.{FinMap, get, insert}
use Rattle.abi_base.specs.declared.errno.Errno.TheVariants.{Badf}
use Rattle.abi_base.specs.declared.limits.TheConstants.{MOST_DESCRIPTORS}
use Rattle.abi_types.specs.declared.call.Call.TheVariants as call
use Rattle.abi_types.specs.declared.constants.Constants.{Constants}
use Rattle.abi_types.specs.declared.descriptor.Descriptor.{Descriptor}
use Rattle.abi_types.specs.declared.open_kind.OpenKind.{OpenKind}
use Rattle.abi_types.specs.declared.open_kind.OpenKind.TheVariants.{Process}
use Rattle.abi_types.specs.declared.reply.Answer.{Answer}
use Rattle.abi_types.specs.declared.reply.Answer.TheVariants as answer
use Rattle.abi_types.specs.declared.reply.Reply.{Reply}
use Rattle.abi_types.specs.declared.status.Status.{Status}
use Rattle.abi_types.specs.declared.status.Status.TheVariants.{Live}
use Rattle.abi_types.specs.declared.who.Who.{Who}
use Rattle.channel_calls.specs.Calls.{AreFew, carriers_in}
use Rattle.fd_table.specs.Sizes.{KeysBelow, below-insert, below-insert_again}
use Rattle.fd_table.specs.Table.{IsTable}
use Rattle.maps.specs.Maps.{number, get-insert-other, total, total-insert, total-insert_new, weight}
use Rattle.tree_model.specs.Opens.{is_used, one_of_node}
use Rattle.tree_model.specs.Tree.{Tree, links_of}
use Rattle.tree_model.specs.declared.limits.TheConstants.{ROOT}
use Rattle.kernel_model.specs.Calls.{refusal_of}
use Rattle.kernel_model.specs.ChildLaws.{IsUnmade}
use Rattle.kernel_model.specs.Families.DescriptorCalls.{lowest_free}
use Rattle.kernel_model.specs.Families.ForkCalls.{can_fork, child_descriptor, child_kind, child_number, child_object, child_open, child_process, fork_at, fork_if, fork_updates, forked_reply, least_turns}
use Rattle.kernel_model.specs.Families.Numbers.{can_number, made_more}
use Rattle.kernel_model.specs.Outcome.{IsSuccess, Outcome, replies}
use Rattle.kernel_model.specs.OwnChanges.{is_success, may_bear, with_next_child}
use Rattle.kernel_model.specs.Reply.{refused}
use Rattle.kernel_model.specs.Release.{carriers, count_in, holders, lives, names_open}
use Rattle.kernel_model.specs.State.{ProcessState, State, Table, put_all, tree_of}
use Rattle.kernel_model.specs.Step.{IsStep, step_answer}
use Rattle.kernel_model.specs.Threads.{child_told}
use Rattle.kernel_model.specs.Valid.{IsNamed, IsNearlyValid, IsValid}
use Rattle.kernel_model.proofs.Births.{CanFork, fork_holds, may_is}
use Rattle.kernel_model.proofs.ChildLaws.{child_apart, child_is_unmade}
use Rattle.kernel_model.proofs.Valids.{owner_makes}
use Rattle.kernel_model.proofs.ForkCalls.{forks_valid}
use Rattle.kernel_model.proofs.ObjectNumbers.{numbers_fit}
use Rattle.kernel_model.proofs.Outcomes.{outcome_by_cases, outcome_of_table}
use Rattle.kernel_model.proofs.Tests.{none_is_no, not_true, same_some}
use Rattle.kernel_parts.proofs.Lowest.{lowest_is}
use Rattle.process_calls.specs.Forks.{ChildIsPut, IsOpenOf, IsPlan, MayPut}
use Rattle.process_calls.specs.declared.forks.NewChild.{NewChild}
use Rattle.kernel_invariant.specs.Forks.{IsChildOf}
use Rattle.kernel_invariant.specs.Held.{IsKept}
use Rattle.kernel_invariant.proofs.Kept.{AreSmall, holders_few, small_set}
use Rattle.kernel_invariant.proofs.Leaving.{none_holds_or_carries}

both_hold : (a b : Bool) → (a && b) ≡ true → (a ≡ true) × (b ≡ true)
both_hold true b h = (refl, h)
both_hold false b h = absurd (not_true h)

can_is : (left p t : ℕ) (own : ProcessState) → can_fork left p t own ≡ true → CanFork left p t own
can_is left p t own can =
    let one = both_hold (nat_le least_turns left) (may_bear own && (is_some (get own.threads t) && can_number p 2 (Some own))) can in
    let two = both_hold (may_bear own) (is_some (get own.threads t) && can_number p 2 (Some own)) one.1 in
    let three = both_hold (is_some (get own.threads t)) (can_number p 2 (Some own)) two.1 in
    record { turns = one.0; bears = two.0; some = three.0; number = three.1 }

pub child_fits : (S : State) (p : ℕ) (own : ProcessState) → get S.processes p ≡ Some own → IsNearlyValid S → may_bear own ≡ true → child_number p own < 2 ^ 32
child_fits S p own there v bears =
    let small = (child_is_unmade S v p (own.counts.forks + 1) own there (may_is own bears) (omega arith)).small in
    omega (arith, small)

-- an open that a descriptor names is there
named_there : (kinds : FinMap nat_cmp OpenKind) (o : Option Descriptor) → ((d : Descriptor) → o ≡ Some d → IsNamed (get kinds d.id) d) → IsOpenOf kinds o
named_there kinds None named = tt
named_there kinds (Some d) named = some (get kinds d.id) (named d refl) where
  some : (kind : Option OpenKind) → IsNamed kind d → IsSome kind
  some None h = absurd h
  some (Some kind) h = refl

pub opens_there : (S : State) (p : ℕ) (table : Table) (n : ℕ) → get S.tables p ≡ Some table → IsNearlyValid S → IsOpenOf S.opens (get table n)
opens_there S p table n there v = named_there S.opens (get table n) (λ d is. v.named p n table d there is)

-- an open that is held has a count
some_number : (o : Option ℕ) (n : ℕ) → number o ≡ n → 0 < n → IsSome o
some_number None n is some = (let none : 0 ≡ n = is in absurd (omega (arith, none, some)))
some_number (Some k) n is some = refl

pub opens_counted : (S : State) (counts : FinMap nat_cmp ℕ) → IsKept S counts → (o : ℕ) → IsSome (get S.opens o) → IsSome (get counts o)
opens_counted S counts kept o some = some_number (get counts o) (holders S o + carriers S o) (kept.counted o) (kept.valid.held o some)

-- and room for more holders
pub counts_room : (S : State) (counts : FinMap nat_cmp ℕ) → IsKept S counts → (o : ℕ) → number (get counts o) < 2 ^ 62 + 2 ^ 61
counts_room S counts kept o =
    let all : number (get counts o) ≡ holders S o + carriers_in o S.chans = kept.counted o in
    let held = holders_few S o kept.small kept.processes in
    let carried = kept.few o in
    omega (arith, all, held, carried)

-- what a process has that lives
some_value : {X : Type 0} (o : Option X) → IsSome o → (x : X) × (o ≡ Some x)
some_value None some = absurd (not_true some)
some_value (Some x) some = (x, refl)

pub table_there : (S : State) (p : ℕ) → IsValid S → lives (get S.statuses p) ≡ true → (table : Table) × (get S.tables p ≡ Some table)
table_there S p v made = some_value (get S.tables p) (v.nearly.tables p ∙ made)

pub own_there : (S : State) (p : ℕ) → IsValid S → lives (get S.statuses p) ≡ true → (own : ProcessState) × (get S.processes p ≡ Some own)
own_there S p v made = some_value (get S.processes p) (v.nearly.owns p ∙ made)

-- an open of a process is no open of a node
process_used : (opens : FinMap nat_cmp OpenKind) (o q object : ℕ) (t : Tree) (n : ℕ) → get opens o ≡ None
    → is_used (insert opens o (Process q object)) t n ≡ is_used opens t n
process_used opens o q object t n none =
    let sums = total-insert_new (one_of_node n) opens o (Process q object) none in
    ap (λ k. (n == ROOT) || (nat_lt 0 (links_of t n) || nat_lt 0 k)) (sums ∙ omega arith)

-- ---- the child

pub child_planned : (S : State) (left p t : ℕ) (own : ProcessState) (table : Table) (plan : NewChild) → get S.processes p ≡ Some own → get S.tables p ≡ Some table
    → IsPlan left p t own table plan → IsChildOf S left plan
child_planned S left p t own table plan there here is = record {
  own = own;
  has_own = ap (get S.processes) is.parent_is ∙ there;
  table = table;
  has_table = ap (get S.tables) is.parent_is ∙ here;
  planned = record {
    can = (λ i. can_fork left (is.parent_is i) (is.tid_is i) own) ∙ is.can;
    parent_is = refl;
    tid_is = refl;
    child_is = is.child_is ∙ ap (λ q. child_number q own) (sym is.parent_is);
    object_is = is.object_is ∙ ap (λ q. child_object q own) (sym is.parent_is);
    open_is = is.open_is ∙ ap (λ q. child_open q own) (sym is.parent_is);
    free = is.free;
  };
}

abbrev pub child_seen : (S T : State) (left : ℕ) (plan : NewChild) → S ≡ T → IsChildOf T left plan → IsChildOf S left plan
child_seen S T left plan same is = record {
  own = is.own;
  has_own = ap (λ (X : State). get X.processes plan.parent) same ∙ is.has_own;
  table = is.table;
  has_table = ap (λ (X : State). get X.tables plan.parent) same ∙ is.has_table;
  planned = is.planned;
}

module _ (S : State) (left : ℕ) (plan : NewChild) (is : IsChildOf S left plan) (counts : FinMap nat_cmp ℕ) (kept : IsKept S counts) where
  abbrev p : ℕ
  p = plan.parent

  abbrev own : ProcessState
  own = is.own

  abbrev table : Table
  table = is.table

  abbrev c : ℕ
  c = child_number plan.parent is.own

  abbrev o : ℕ
  o = child_open plan.parent is.own

  abbrev d : Descriptor
  d = child_descriptor plan.parent is.own

  can : CanFork left p plan.tid own
  can = can_is left p plan.tid own is.planned.can

  unmade : IsUnmade S c
  unmade = child_is_unmade S kept.valid.nearly p (own.counts.forks + 1) own is.has_own (may_is own can.bears) (omega arith)

  not_parent : c ≢ p
  not_parent = child_apart own.depth p (own.counts.forks + 1) (may_is own can.bears)

  fit : (p < 0xffffffff) × (own.counts.objects + 2 < 2 ^ 32)
  fit = numbers_fit p 1 (Some own) can.number

  no_open : get S.opens o ≡ None
  no_open =
      kept.valid.nearly.made p (own.counts.objects + 2) fit.0
      (owner_makes S p (own.counts.objects + 2) own kept.valid.nearly is.has_own (omega arith)) fit.1

  small_table : IsTable table
  small_table = kept.small p table is.has_table

  pub may_put : MayPut plan S.tables S.processes S.statuses S.opens
  may_put = record {
    table = table;
    has_table = is.has_table;
    small = small_table;
    own = own;
    has_own = is.has_own;
    bears = can.bears;
    there = can.some;
    can_number = fit.1;
    child_is = is.planned.child_is;
    object_is = is.planned.object_is;
    open_is = is.planned.open_is;
    free = is.planned.free;
    other = λ e. not_parent (sym is.planned.child_is ∙ e);
    no_table = ap (get S.tables) is.planned.child_is ∙ unmade.table;
    no_own = ap (get S.processes) is.planned.child_is ∙ unmade.process;
    no_status = ap (get S.statuses) is.planned.child_is ∙ unmade.status;
    no_open = ap (get S.opens) is.planned.open_is ∙ no_open;
  }

  pub plan_unheld : number (get counts plan.open) ≡ 0
  plan_unheld = kept.counted plan.open ∙ none_holds_or_carries S plan.open (ap (get S.opens) is.planned.open_is ∙ no_open) kept.valid.nearly

  abbrev pub forked : State
  forked = put_all (fork_updates plan.parent plan.tid is.own is.table plan.fd) S

  pub put_is : (tables : FinMap nat_cmp Table) (processes : FinMap nat_cmp ProcessState) (statuses : FinMap nat_cmp Status) (kinds : FinMap nat_cmp OpenKind)
      → ChildIsPut plan S.tables S.processes S.statuses S.opens tables processes statuses kinds
      → record S { tables = tables; processes = processes; statuses = statuses; opens = kinds } ≡ forked
  put_is tables processes statuses kinds put =
      let child = is.planned.child_is in
      let process = is.planned.open_is in
      let object = is.planned.object_is in
      let one = put.tables_are table own is.has_table is.has_own ∙ (λ i. insert (insert S.tables (child i) table) p (insert table plan.fd d)) in
      let two = put.processes_are own is.has_own
      ∙ (λ i. insert (insert S.processes p (made_more 2 (with_next_child own))) (child i) (child_process plan.tid own)) in
      let three = put.statuses_are ∙ (λ i. insert S.statuses (child i) Live) in
      let four = put.kinds_are ∙ (λ i. insert S.opens (process i) (Process (child i) (object i))) in
      λ i. record S { tables = one i; processes = two i; statuses = three i; opens = four i }

  -- each open that was held is held by as many, and the child's by its parent
  held_more : (r : ℕ) → holders forked r ≡ holders S r + count_in r table + names_open r d
  held_more r =
      let first = insert S.tables c table in
      let new = insert table plan.fd d in
      let child : total (count_in r) first ≡ total (count_in r) S.tables + count_in r table = total-insert_new (count_in r) S.tables c table unmade.table in
      let both : total (count_in r) (insert first p new) + weight (count_in r) (get first p) ≡ total (count_in r) first + count_in r new =
      total-insert (count_in r) first p new in
      let was : weight (count_in r) (get first p) ≡ count_in r table =
      ap (weight (count_in r)) (get-insert-other S.tables c table p (λ e. not_parent (sym e)) ∙ is.has_table) in
      let one : count_in r new ≡ count_in r table + names_open r d = total-insert_new (names_open r) table plan.fd d is.planned.free.1 in
      omega (arith, child, both, was, one)

  all_held : (r : ℕ) → IsSome (get forked.opens r) → 0 < holders forked r + carriers forked r
  all_held r some =
      let more = held_more r in
      elim (eqb_tells r o) [
        | inl same ↦ (
            let one : names_open r d ≡ 1 = ap (λ k. names_open k d) same.1 ∙ ap (λ b. cond b 1 0) (eq-eqb o o refl) in
            omega (arith, more, one))
        | inr other ↦ (
            let was : IsSome (get S.opens r) = subst IsSome (get-insert-other S.opens o (child_kind p own) r other.1) some in
            let held : 0 < holders S r + carriers S r = kept.valid.held r was in
            let same : carriers forked r ≡ carriers S r = refl in
            omega (arith, more, held, same))
      ]

  pub fork_valid : IsValid forked
  fork_valid = record {
    nearly = forks_valid S left p plan.tid own is.has_own can table is.has_table kept.valid.nearly plan.fd;
    held = all_held;
    kept = λ n some. process_used S.opens o c (child_object p own) (tree_of S) n no_open ∙ kept.valid.kept n some;
    going = kept.valid.going;
  }

  pub fork_kept : (T : State) (after : FinMap nat_cmp ℕ) → T ≡ forked
      → ((r : ℕ) → number (get after r) + total (count_in r) S.tables ≡ number (get counts r) + total (count_in r) T.tables) → IsKept T after
  fork_kept T after same moved =
      let new = insert table plan.fd d in
      let small = below-insert MOST_DESCRIPTORS table plan.fd d small_table is.planned.free.0 in
      let child : c < 2 ^ 32 = (let low = unmade.small in omega (arith, low)) in
      let tables : T.tables ≡ forked.tables = ap (λ (U : State). U.tables) same in
      record {
        valid = subst IsValid (sym same) fork_valid;
        counted = λ r. (
            let was = kept.counted r in
            let now = moved r in
            let carried : carriers T r ≡ carriers S r = ap (λ (U : State). carriers U r) same in
            omega (arith, was, now, carried));
        few = subst (λ (U : State). AreFew U.chans) (sym same) kept.few;
        small = subst AreSmall (sym tables) (small_set (insert S.tables c table) p new (small_set S.tables c table kept.small small_table) small);
        processes = subst (KeysBelow (2 ^ 32)) (sym tables)
            (below-insert_again (2 ^ 32) (insert S.tables c table) p new (below-insert (2 ^ 32) S.tables c table kept.processes child)
            (ap is_some (get-insert-other S.tables c table p (λ e. not_parent (sym e)) ∙ is.has_table)));
      }

-- ---- what the call comes to

-- where a child is planned the call makes it
pub fork_is : (left p t : ℕ) (own : ProcessState) (table : Table) (plan : NewChild) (o : Option ProcessState) → o ≡ Some own → IsPlan left p t own table plan
    → fork_at left p t o table (lowest_free table)
    ≡ record { answer = answer.Reply (forked_reply plan.fd plan.child); updates = fork_updates p t own table plan.fd }
fork_is left p t own table plan o there planned =
    ap (λ x. fork_at left p t x table (lowest_free table)) there
    ∙ ap (fork_at left p t (Some own) table) (lowest_is table plan.fd planned.free)
    ∙ ap (λ b. fork_if b p t own table plan.fd) planned.can
    ∙ ap (λ q. record { answer = answer.Reply (forked_reply plan.fd q); updates = fork_updates p t own table plan.fd }) (sym planned.child_is)

-- a call tells of no child where its thread can't make one, or there is no number for the descriptor
abbrev TellsNone : ℕ → Outcome → Type 0
TellsNone left o = child_told (call.ProcFork left) o.answer ≡ None

refusal_tells : (left : ℕ) (t : Option Table) (reply : Reply) → refusal_of (call.ProcFork left) t ≡ Some reply → TellsNone left (replies reply)
refusal_tells left None reply is = ap (λ (r : Reply). child_told (call.ProcFork left) (answer.Reply r)) (sym (same_some (refused Badf) reply is))
refusal_tells left (Some _) reply is = absurd (none_is_no reply is)

can_was : (left p t : ℕ) (own : ProcessState) → CanFork left p t own → can_fork left p t own ≡ true
can_was left p t _ can = λ i. can.turns i && (can.bears i && (can.some i && can.number i))

-- no child can be made: it would take a process that has a number free for the descriptor, and a thread that can make one
abbrev pub MakesNone : State → Who → ℕ → Type 0
MakesNone S who left =
    (table : Table) (own : ProcessState) → get S.tables who.pid ≡ Some table → get S.processes who.pid ≡ Some own
    → IsSome (lowest_free table) → can_fork left who.pid who.tid own ≡ true → ⊥

pub fork_none : (constants : Constants) (S : State) (who : Who) (left : ℕ) (given : Answer) (after : State) → MakesNone S who left
    → IsStep constants S who (call.ProcFork left) given after → child_told (call.ProcFork left) given ≡ None
fork_none constants S who left given after cannot (inl done) =
    ap (child_told (call.ProcFork left)) done.0
    ∙ outcome_by_cases (TellsNone left) constants S who (call.ProcFork left) (refusal_tells left (get S.tables who.pid))
    (λ table there _.
    fork_holds left who.pid who.tid (get S.processes who.pid) table (lowest_free table) (TellsNone left) (λ errno here other. refl)
    (λ fd own free mine can. absurd (cannot table own there mine (ap is_some free) (can_was left who.pid who.tid own can))))
fork_none constants S who left given after cannot (inr lacking) = ap (child_told (call.ProcFork left)) lacking.1

-- and its answer is a success exactly where one can be made
abbrev Fails : Outcome → Type 0
Fails o = IsSuccess o.answer → ⊥

refusal_fails : (left : ℕ) (t : Option Table) (reply : Reply) → refusal_of (call.ProcFork left) t ≡ Some reply → Fails (replies reply)
refusal_fails left None reply is = λ done. not_true (ap (λ (r : Reply). is_success r.errno) (same_some (refused Badf) reply is) ∙ ap is_success done)
refusal_fails left (Some _) reply is = absurd (none_is_no reply is)

pub fork_fails : (constants : Constants) (S : State) (who : Who) (left : ℕ) → MakesNone S who left
    → IsSuccess (step_answer constants S who (call.ProcFork left)) → ⊥
fork_fails constants S who left cannot =
    outcome_by_cases Fails constants S who (call.ProcFork left) (refusal_fails left (get S.tables who.pid))
    (λ table there _.
    fork_holds left who.pid who.tid (get S.processes who.pid) table (lowest_free table) Fails (λ errno here other done. not_true (sym other ∙ ap is_success done))
    (λ fd own free mine can. absurd (cannot table own there mine (ap is_some free) (can_was left who.pid who.tid own can))))

pub fork_succeeds : (constants : Constants) (S : State) (who : Who) (left : ℕ) (table : Table) (own : ProcessState) (fd : ℕ)
    → get S.tables who.pid ≡ Some table → get S.processes who.pid ≡ Some own → lowest_free table ≡ Some fd → can_fork left who.pid who.tid own ≡ true
    → IsSuccess (step_answer constants S who (call.ProcFork left))
fork_succeeds constants S who left table own fd there mine free can =
    subst (λ (o : Outcome). IsSuccess o.answer)
    (sym (outcome_of_table constants S who (call.ProcFork left) table there ∙ ap (λ x. fork_at left who.pid who.tid x table (lowest_free table)) mine
    ∙ ap (fork_at left who.pid who.tid (Some own) table) free ∙ ap (λ b. fork_if b who.pid who.tid own table fd) can))
    refl
