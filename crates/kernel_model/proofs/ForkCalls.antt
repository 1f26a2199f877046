-- The meaning of proc_fork is proper.
use Rattle.std.proofs.Common.{◌≡◌, ◌≢◌, inl, inr, ℕ, ◌+◌, ◌<◌, ◌≤◌, ◌^◌, ◌==◌, ◌||◌, Bool, true, false, [], ◌∷◌, ◌++◌, Option, Some, None, is_some, IsSome, refl, sym, ap, subst, ◌∙◌, arith}
use Rattle.std.proofs.lemmas.Bool.{eqb-true}
use Rattle.std.proofs.lemmas.Bool.Decides.{eqb_tells}
use Rattle.std.specs.Ordering.{nat_cmp}
use Rattle.std.specs.FinMap.{empty, get, get-empty, insert}
use Rattle.std.specs.Option.{option_map}
use Rattle.std.specs.Prelude.{if◌then◌else◌}
use Rattle.abi_base.specs.declared.errno.Errno.{Errno}
use Rattle.abi_types.specs.declared.open_kind.OpenKind.{OpenKind}
use Rattle.abi_types.specs.declared.open_kind.OpenKind.TheVariants.{Process}
use Rattle.abi_types.specs.declared.status.Status.TheVariants.{Live}
use Rattle.abi_types.specs.declared.thread.Thread.{Thread}
use Rattle.abi_types.specs.declared.thread.Thread.TheVariants.{Runnable}
use Rattle.maps.specs.Maps.{get-insert-same, get-insert-other}
use Rattle.kernel_model.specs.ChildLaws.{IsUnmade}
use Rattle.kernel_model.specs.Families.DescriptorCalls.{lowest_free}
use Rattle.kernel_model.specs.Families.ForkCalls.{child_descriptor, child_kind, child_number, child_object, child_open, child_process, fork_at, fork_updates, proc_fork}
use Rattle.kernel_model.specs.Families.Numbers.{made_more, object_of, object_parts}
use Rattle.kernel_model.specs.OwnChanges.{IsChangedBy, AllowsChange, child_parts, forks_one, is_success, made_parts, next_child, own_by, with_next_child}
use Rattle.kernel_model.specs.Proper.{IsPlain, IsProper, IsUnset, AllCarryOn}
use Rattle.kernel_model.specs.Release.{is_of_process}
use Rattle.kernel_model.specs.Sight.{process_parts}
use Rattle.kernel_model.specs.State.{State, ProcessState, Table, Part, at_chan, at_clock, at_node, at_names, at_open, at_proc, at_status, counts_in, has_part, put_all, put_one, same_part, set_open, set_process, set_status, set_table, thread_in}
use Rattle.kernel_model.specs.Valid.{AreSole, IsNamed, IsNearlyValid, IsUncounted}
use Rattle.kernel_model.proofs.Births.{CanFork, fork_errors, fork_holds, forks, may_is, next_is}
use Rattle.kernel_model.proofs.ChildLaws.{child_apart, child_is_unmade, not_first}
use Rattle.kernel_model.proofs.NewOpens.{new_open_nearly_valid}
use Rattle.kernel_model.proofs.NewProcesses.{IsFresh, new_process_nearly_valid}
use Rattle.kernel_model.proofs.ObjectNumbers.{numbers_fit}
use Rattle.kernel_model.proofs.OwnChanges.{Grows, set_process_nearly_valid}
use Rattle.kernel_model.proofs.PairCalls.{false_never, inserted_named}
use Rattle.kernel_model.proofs.Pairs.{first_sole}
use Rattle.kernel_model.proofs.Parts.{beyond_process, number_apart, of_first, of_second, outside_cons, own_stays}
use Rattle.kernel_model.proofs.Sights.{first_seen}
use Rattle.kernel_model.proofs.Tests.{none_is_no, not_true}
use Rattle.kernel_model.proofs.TreeUpdates.{one_object}
use Rattle.kernel_model.proofs.NewBorn.{IsNextOf}
use Rattle.kernel_model.proofs.Valids.{holder_is_made, owner_makes, same_value, table_nearly_valid}

-- ---- what it sets

none_of_six : (a b c d e f : Bool) → a ≡ false → b ≡ false → c ≡ false → d ≡ false → e ≡ false → f ≡ false → (a || (b || (c || (d || (e || (f || false)))))) ≡ false
none_of_six false false false false false false one two three four five six = refl
none_of_six true b c d e f one two three four five six = absurd (not_true (sym one))
none_of_six false true c d e f one two three four five six = absurd (not_true (sym two))
none_of_six false false true d e f one two three four five six = absurd (not_true (sym three))
none_of_six false false false true e f one two three four five six = absurd (not_true (sym four))
none_of_six false false false false true f one two three four five six = absurd (not_true (sym five))
none_of_six false false false false false true one two three four five six = absurd (not_true (sym six))

-- it sets what its process has of its own, the child and its open
forks_unset : (left p t : ℕ) (own : ProcessState) (table : Table) (fd : ℕ) (q : Part) → CanFork left p t own → same_part (at_proc p) q ≡ false
    → has_part (made_parts forks_one p 2 (Some own)) q ≡ false → IsUnset (forks p t own table fd) q
forks_unset left p t own table fd q can proc h =
    let objects = object_parts (child_open p own) ++ (object_parts (child_object p own) ++ []) in
    let child = of_first (child_parts (next_child p (Some own))) objects q h in
    let born = ap (λ c. has_part (child_parts c) q) (sym (next_is p own can.bears)) ∙ child in
    let first = outside_cons (at_proc (child_number p own)) (at_status (child_number p own) ∷ []) q born in
    let second = outside_cons (at_status (child_number p own)) [] q first.1 in
    let object = of_second (child_parts (next_child p (Some own))) objects q h in
    let first_open = outside_cons (at_open (child_open p own)) (at_node (child_open p own) ∷ at_names (child_open p own) ∷ at_chan (child_open p own) ∷ (object_parts (child_object p own) ++ [])) q object in
    none_of_six (same_part (at_proc p) q) (same_part (at_proc (child_number p own)) q) (same_part (at_proc (child_number p own)) q)
    (same_part (at_status (child_number p own)) q) (same_part (at_open (child_open p own)) q) (same_part (at_proc p) q) proc first.0 first.0 second.0 first_open.0 proc

fork_unset : (left : ℕ) (S : State) (p t : ℕ) (table : Table) (q : Part)
    → has_part (process_parts p ++ (made_parts forks_one p 2 (get S.processes p) ++ [])) q ≡ false
    → IsUnset (fork_at left p t (get S.processes p) table (lowest_free table)) q
fork_unset left S p t table q h =
    let both = beyond_process p (made_parts forks_one p 2 (get S.processes p) ++ []) q h in
    let proc = outside_cons (at_proc p) (at_status p ∷ []) q (outside_cons at_clock (at_proc p ∷ at_status p ∷ []) q both.0).1 in
    let made = of_first (made_parts forks_one p 2 (get S.processes p)) [] q both.1 in
    fork_holds left p t (get S.processes p) table (lowest_free table) (λ x. IsUnset x q) (λ errno here other. refl)
    (λ fd own free there can.
    forks_unset left p t own table fd q can proc.0 (ap (λ o. has_part (made_parts forks_one p 2 o) q) (sym there) ∙ made))

-- nothing of a process that is neither its own nor the child
fork_others : (left p t : ℕ) (own : ProcessState) (table : Table) (fd q : ℕ) → CanFork left p t own → q ≢ p → next_child p (Some own) ≢ Some q
    → IsUnset (forks p t own table fd) (at_proc q) × IsUnset (forks p t own table fd) (at_status q)
fork_others left p t own table fd q can other unborn =
    let c = child_number p own in
    let apart : q ≢ c = λ is. unborn (next_is p own can.bears ∙ ap Some (sym is)) in
    let mine = number_apart p q other in
    let child = number_apart c q apart in (
      none_of_six (p == q) (c == q) (c == q) false false (p == q) mine child child refl refl mine,
      none_of_six false false false (c == q) false false refl refl refl child refl refl,
    )

-- ---- the state after it

fork_grows : (own : ProcessState) → Grows own (made_more 2 (with_next_child own))
fork_grows own = record {
  threads = λ t thread there. inl there;
  numbered = omega arith;
  more = omega arith;
  children = (refl, omega arith);
}

module _ (S : State) (left p t : ℕ) (own : ProcessState) (there : get S.processes p ≡ Some own) (can : CanFork left p t own) (table : Table)
    (has_table : get S.tables p ≡ Some table) (v : IsNearlyValid S) where
  abbrev c : ℕ
  c = child_number p own

  abbrev o : ℕ
  o = child_open p own

  abbrev kind : OpenKind
  kind = child_kind p own

  abbrev new : ProcessState
  new = made_more 2 (with_next_child own)

  abbrev counted : State
  counted = put_one (set_process p new) S

  counted_valid : IsNearlyValid counted
  counted_valid = set_process_nearly_valid S p own new there (fork_grows own) v

  unmade : IsUnmade S c
  unmade = child_is_unmade S v p (own.counts.forks + 1) own there (may_is own can.bears) (omega arith)

  child_is_not_parent : c ≢ p
  child_is_not_parent = child_apart own.depth p (own.counts.forks + 1) (may_is own can.bears)

  fresh : IsFresh (child_process t own)
  fresh = record { runs = runs; nothing = refl } where
    runs : (u : ℕ) (thread : Thread) → get (child_process t own).threads u ≡ Some thread → (thread ≡ Runnable) × (u ≤ own.counts.threads)
    runs u thread at =
        elim (eqb_tells u t) [
          | inl is ↦ (
            same_value thread Runnable (get (child_process t own).threads t) (subst (λ k. get (child_process t own).threads k ≡ Some thread) is.1 at)
                (get-insert-same empty t Runnable),
            subst (λ k. k ≤ own.counts.threads) (sym is.1)
                (subst (λ x. t ≤ (counts_in x).threads) there
                (v.numbered p t (ap (λ x. is_some (thread_in (option_map (λ (y : ProcessState). y.threads) x) t)) there ∙ can.some))),
          )
          | inr other ↦ absurd (none_is_no thread (sym (get-insert-other empty t Runnable u other.1 ∙ get-empty nat_cmp u) ∙ at))
        ]

  next : IsNextOf counted.statuses counted.processes c (own.depth + 1)
  next = record {
    parent = p;
    own = new;
    lives = holder_is_made S p table v has_table;
    there = get-insert-same S.processes p new;
    i = own.counts.forks + 1;
    may = may_is own can.bears;
    counted = omega arith;
    number = refl;
    deeper = omega arith;
    unmade = unmade.status;
  }

  abbrev grown : State
  grown = put_all (set_table c table ∷ set_process c (child_process t own) ∷ set_status c Live ∷ []) counted

  grown_valid : IsNearlyValid grown
  grown_valid =
      new_process_nearly_valid counted counted_valid c (child_process t own) table next fresh (λ n d at. v.named p n table d has_table at)

  fit : (p < 0xffffffff) × (own.counts.objects + 2 < 2 ^ 32)
  fit = numbers_fit p 1 (Some own) can.number

  no_open : get S.opens o ≡ None
  no_open = v.made p (own.counts.objects + 2) fit.0 (owner_makes S p (own.counts.objects + 2) own v there (omega arith)) fit.1

  -- no open is of the child yet
  none_of_child : (r : ℕ) → is_of_process c (get S.opens r) ≡ true → ⊥
  none_of_child r passes = found (get S.opens r) refl passes where
    found : (at_r : Option OpenKind) → get S.opens r ≡ at_r → is_of_process c at_r ≡ true → ⊥
    found (Some (Process q object)) at is =
        not_true (sym (ap is_some unmade.status) ∙ subst (λ k. IsSome (get S.statuses k)) (eqb-true q c is) (v.behind r (Process q object) at).0)
    found at_r at is = not_true is

  sole : AreSole (insert S.opens o kind)
  sole = first_sole S.opens o kind (λ k. (
    (λ is r passes. none_of_child r (subst (λ j. is_of_process j (get S.opens r) ≡ true) (sym (eqb-true c k is)) passes)),
    false_never,
    false_never,
  )) v.sole

  beyond_open : (q k : ℕ) → q < 0xffffffff → IsUncounted grown q k → k < 2 ^ 32 → object_of q k ≢ o
  beyond_open q k small beyond fits is =
      let first = fit.1 in
      let at = one_object p q (own.counts.objects + 2) k is fits first in
      let same : k ≡ own.counts.objects + 2 = at.1 in
      let total : (counts_in (get grown.processes p)).objects ≡ own.counts.objects + 2 =
      ap (λ x. (counts_in x).objects)
      (get-insert-other counted.processes c (child_process t own) p (λ e. child_is_not_parent (sym e)) ∙ get-insert-same S.processes p new) in
      let past : (counts_in (get grown.processes p)).objects < k = subst (λ r. (counts_in (get grown.processes r)).objects < k) at.0 beyond.1 in
      omega (arith, same, total, past)

  abbrev opened : State
  opened = put_one (set_open o kind) grown

  opened_valid : IsNearlyValid opened
  opened_valid =
      new_open_nearly_valid grown o kind no_open grown_valid
      (ap is_some (get-insert-same S.statuses c Live), not_first own.depth p (own.counts.forks + 1) (may_is own can.bears)) sole beyond_open

  parent_table : get opened.tables p ≡ Some table
  parent_table = get-insert-other S.tables c table p (λ e. child_is_not_parent (sym e)) ∙ has_table

  pub forks_valid : (fd : ℕ) → IsNearlyValid (put_all (fork_updates p t own table fd) S)
  forks_valid fd =
      table_nearly_valid opened p table (insert table fd (child_descriptor p own)) parent_table
      (inserted_named opened opened_valid p table parent_table fd fd (child_descriptor p own) (child_descriptor p own) child_named child_named
      table fd (child_descriptor p own) child_named (λ n y at. opened_valid.named p n table y parent_table at)) opened_valid where
        child_named : IsNamed (get opened.opens (child_descriptor p own).id) (child_descriptor p own)
        child_named = subst (λ x. IsNamed x (child_descriptor p own)) (sym (get-insert-same S.opens o kind)) (refl, refl)

-- what its process has of its own after it
undone_own : (own : Option ProcessState) (errno : Errno) → is_success errno ≡ false → IsChangedBy (λ x. if is_success errno then with_next_child x else x) own own
undone_own own errno other = subst (λ b. IsChangedBy (λ x. if b then with_next_child x else x) own own) (sym other) (own_stays own)

forks_own : (S : State) (left p t : ℕ) (table : Table) (fd : ℕ) (own : ProcessState) → get S.processes p ≡ Some own → CanFork left p t own
    → IsChangedBy with_next_child (get S.processes p) (get (put_all (fork_updates p t own table fd) S).processes p)
forks_own S left p t table fd own there can =
    let apart = child_apart own.depth p (own.counts.forks + 1) (may_is own can.bears) in (
      2,
      get-insert-other (insert S.processes p (made_more 2 (with_next_child own))) (child_number p own) (child_process t own) p (λ e. apart (sym e))
          ∙ get-insert-same S.processes p (made_more 2 (with_next_child own))
          ∙ sym (ap (option_map (λ x. made_more 2 (with_next_child x))) there),
    )

fork_own : (left : ℕ) (S : State) (p t : ℕ) (table : Table)
    → IsChangedBy (own_by forks_one t (fork_at left p t (get S.processes p) table (lowest_free table)).answer) (get S.processes p)
    (get (put_all (fork_at left p t (get S.processes p) table (lowest_free table)).updates S).processes p)
fork_own left S p t table =
    fork_holds left p t (get S.processes p) table (lowest_free table)
    (λ x. IsChangedBy (own_by forks_one t x.answer) (get S.processes p) (get (put_all x.updates S).processes p))
    (λ errno here other. undone_own (get S.processes p) errno other) (λ fd own free there can. forks_own S left p t table fd own there can)

pub proc_fork_is_proper : (left : ℕ) → IsProper (proc_fork left)
proc_fork_is_proper left = record {
  names = tt;
  sees = tt;
  reads = λ constants S who table.
      ap (λ x. fork_at left who.pid who.tid x table (lowest_free table))
      (first_seen who.pid (has_part (at_status who.pid ∷ []) (at_proc who.pid)) (get S.processes who.pid));
  walks = λ S who table. refl;
  sets = λ constants S who table part h. fork_unset left S who.pid who.tid table part h;
  touched = λ S table part h. absurd (not_true h);
  plain = λ constants v who table.
      fork_holds left who.pid who.tid (v.process who.pid) table (lowest_free table) (IsPlain fork_errors) (λ errno here other. (refl, inr (refl, here)))
      (λ fd own free there can. (refl, inl refl));
  waits = λ h. absurd (not_true h);
  lacks = λ _. ((λ e. cc), ((λ e. cc), tt));
  others = λ constants v who table q apart unborn.
      fork_holds left who.pid who.tid (v.process who.pid) table (lowest_free table) (λ x. IsUnset x (at_proc q) × IsUnset x (at_status q))
      (λ errno here other. (refl, refl))
      (λ fd own free there can. fork_others left who.pid who.tid own table fd q can apart (λ is. unborn (ap (next_child who.pid) there ∙ is)));
  own = λ constants S who table. inl (fork_own left S who.pid who.tid table);
  allows = λ constants S who table.
      fork_holds left who.pid who.tid (get S.processes who.pid) table (lowest_free table)
      (λ x. AllowsChange forks_one who.tid x.answer (get S.processes who.pid)) (λ errno here other done. absurd (not_true (sym other ∙ done)))
      (λ fd own free there can _. ap is_some there);
  carries = λ constants S who table nearly.
      fork_holds left who.pid who.tid (get S.processes who.pid) table (lowest_free table) (AllCarryOn S (table, [], false)) (λ errno here other. tt)
      (λ fd own free there can. (tt, (tt, (tt, (tt, (tt, (tt, tt)))))));
  valid = λ constants S who table has_table nearly.
      fork_holds left who.pid who.tid (get S.processes who.pid) table (lowest_free table) (λ x. IsNearlyValid (put_all x.updates S)) (λ errno here other. nearly)
      (λ fd own free there can. forks_valid S left who.pid who.tid own there can table has_table nearly fd);
}
