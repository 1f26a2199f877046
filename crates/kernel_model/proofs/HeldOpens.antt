-- Calls that let go of nothing: in a valid state each open is held after such a call too, so that the release ends nothing and kills nobody.
--     HoldsAsMuch      no open loses a holder or a carrier, and each new one is held
--     spares_all      where that is so of a call, the release after it kills nobody
--     dup_holds, stat_put_holds, open_holds      it is so of fd_dup, fd_stat_put and file_open
use Rattle.std.proofs.Common.{◌≡◌, ◌⊎◌, inl, inr, ℕ, ◌+◌, ◌<◌, ◌≤◌, ◌==◌, false, List, [], ◌∷◌, ◌++◌, Option, Some, None, IsSome, is_some, refl, sym, ap, subst, ◌∙◌, arith}
use Rattle.std.proofs.lemmas.Bool.Decides.{eqb_tells}
use Rattle.std.specs.Prelude.{bit_and}
use Rattle.std.specs.FinMap.{get, insert}
use Rattle.std.specs.List.{AllByRecursion}
use Rattle.abi_structures.specs.declared.structures.FdStat.{FdStat}
use Rattle.abi_types.specs.declared.call.Call.{Call}
use Rattle.abi_types.specs.declared.call.Call.TheVariants.{FdDup, FdStatPut, FileOpen}
use Rattle.abi_types.specs.declared.call.Lookup.{Lookup}
use Rattle.abi_types.specs.declared.constants.Constants.{Constants}
use Rattle.abi_types.specs.declared.descriptor.Descriptor.{Descriptor}
use Rattle.abi_types.specs.declared.open_kind.OpenKind.{OpenKind}
use Rattle.abi_types.specs.declared.who.Who.{Who}
use Rattle.maps.specs.Maps.{get-insert-same, get-insert-other, total, total-insert, weight}
use Rattle.kernel_model.specs.Families.ClockCalls.{real_time}
use Rattle.kernel_model.specs.Families.DescriptorCalls.{dup_at, dup_of, lowered_to, lowest_free, stat_put, with_flags}
use Rattle.kernel_model.specs.Families.FileMeaning.{open_of}
use Rattle.kernel_model.specs.Families.FilePaths.{walked}
use Rattle.kernel_model.specs.Families.Numbers.{next_object, process_updates}
use Rattle.kernel_model.specs.Families.Opening.{Opened, open_at, open_mode, open_walked, opened_descriptor}
use Rattle.kernel_model.specs.Families.TreeUpdates.{Change, change_updates}
use Rattle.kernel_model.specs.Outcome.{Outcome}
use Rattle.kernel_model.specs.Release.{names_open, count_in, holders, carried_in, carriers, is_killed, ends, AllAreHeld}
use Rattle.kernel_model.specs.State.{State, Table, Update, put_one, put_all, set_names, set_node, set_open, set_process, set_table}
use Rattle.kernel_model.specs.Step.{tick, outcome, unreleased}
use Rattle.kernel_model.specs.Valid.{IsValid}
use Rattle.kernel_model.specs.View.{View, whole}
use Rattle.kernel_model.specs.Waits.{waiting}
use Rattle.kernel_model.proofs.DescriptorCalls.{either_set, free_is_absent, put_holds}
use Rattle.kernel_model.proofs.Ends.{ends_none}
use Rattle.kernel_model.proofs.NewOpens.{IsBeside, put_last}
use Rattle.kernel_model.proofs.Opening.{opened_by, opening, rest_beside}
use Rattle.kernel_model.proofs.Outcomes.{outcome_holds}
use Rattle.kernel_model.proofs.Threading.{waits_if_same}
use Rattle.kernel_model.proofs.Valids.{named_is_held, some_again}

-- ---- no open loses what holds it

-- from the first state to the second no open loses a holder or a carrier, and each open that is new has a holder
pub record HoldsAsMuch (S T : State) : Type 0 where
  pub opens : (o : ℕ) → IsSome (get T.opens o) → IsSome (get S.opens o) ⊎ (0 < holders T o)
  pub held : (o : ℕ) → holders S o ≤ holders T o
  pub carried : (o : ℕ) → carriers S o ≤ carriers T o

still_held : (S T : State) → HoldsAsMuch S T → AllAreHeld S → AllAreHeld T
still_held S T as_much all o there =
    elim (as_much.opens o there) [
      | inl before ↦ (
          let some : 0 < holders S o + carriers S o = all o before in
          let held : holders S o ≤ holders T o = as_much.held o in
          let carried : carriers S o ≤ carriers T o = as_much.carried o in
          omega arith)
      | inr new ↦ omega (arith, new)
    ]

spared_where_held : (U : State) → AllAreHeld U → (p : ℕ) → is_killed U (ends U) p ≡ false
spared_where_held U all p = ap (λ ended. is_killed U ended p) (ends_none U all)

pub spares_all : (constants : Constants) (S : State) (who : Who) (call : Call) → IsValid S → HoldsAsMuch (tick S) (unreleased constants S who call) → (p : ℕ)
    → is_killed (unreleased constants S who call) (ends (unreleased constants S who call)) p ≡ false
spares_all constants S who call valid as_much =
    spared_where_held (unreleased constants S who call) (still_held (tick S) (unreleased constants S who call) as_much valid.held)

-- ---- one part set

same_held : (S T : State) → T.opens ≡ S.opens → T.tables ≡ S.tables → T.chans ≡ S.chans → HoldsAsMuch S T
same_held S T opens tables chans = record {
  opens = λ o there. inl (subst (λ m. IsSome (get m o)) opens there);
  held = λ o. let same : holders T o ≡ holders S o = ap (total (count_in o)) tables in omega (arith, same);
  carried = λ o. let same : carriers T o ≡ carriers S o = ap (total (carried_in o)) chans in omega (arith, same);
}

itself : (S : State) → HoldsAsMuch S S
itself S = same_held S S refl refl refl

through : (S T U : State) → HoldsAsMuch S T → HoldsAsMuch T U → HoldsAsMuch S U
through S T U first second = record {
  opens = λ o there.
      elim (second.opens o there) [
        | inl before ↦ elim (first.opens o before) [
          | inl at_first ↦ inl at_first
          | inr new ↦ (let more : holders T o ≤ holders U o = second.held o in inr (omega (arith, new, more)))
        ]
        | inr new ↦ inr new
      ];
  held = λ o. let a : holders S o ≤ holders T o = first.held o in let b : holders T o ≤ holders U o = second.held o in omega (arith, a, b);
  carried = λ o. let a : carriers S o ≤ carriers T o = first.carried o in let b : carriers T o ≤ carriers U o = second.carried o in omega (arith, a, b);
}

open_again : (S : State) (o : ℕ) (kind new : OpenKind) → get S.opens o ≡ Some kind → HoldsAsMuch S (put_one (set_open o new) S)
open_again S o kind new at = record {
  opens = λ r there. inl (sym (some_again S.opens o kind new r at) ∙ there);
  held = (itself S).held;
  carried = (itself S).carried;
}

-- a table that names each open as often as the one before it
table_set : (S : State) (p : ℕ) (table new : Table) → get S.tables p ≡ Some table → ((o : ℕ) → count_in o table ≤ count_in o new)
    → HoldsAsMuch S (put_one (set_table p new) S)
table_set S p table new there no_less = record {
  opens = λ o at. inl at;
  held = λ o.
      let own : weight (count_in o) (get S.tables p) ≡ count_in o table = ap (weight (count_in o)) there in
      let sums : total (count_in o) (insert S.tables p new) + weight (count_in o) (get S.tables p) ≡ holders S o + count_in o new =
      total-insert (count_in o) S.tables p new in
      let more : count_in o table ≤ count_in o new = no_less o in
      omega (arith, own, sums, more);
  carried = (itself S).carried;
}

-- under a number that was free, or that named the same open
inserted_counts : (o n : ℕ) (table : Table) (e : Descriptor) → weight (names_open o) (get table n) ≤ names_open o e → count_in o table ≤ count_in o (insert table n e)
inserted_counts o n table e no_less =
    let sums : count_in o (insert table n e) + weight (names_open o) (get table n) ≡ count_in o table + names_open o e =
    total-insert (names_open o) table n e in
    omega (arith, sums, no_less)

free_counts : (n : ℕ) (table : Table) (e : Descriptor) → get table n ≡ None → (o : ℕ) → count_in o table ≤ count_in o (insert table n e)
free_counts n table e free o =
    let none : weight (names_open o) (get table n) ≡ 0 = ap (weight (names_open o)) free in
    inserted_counts o n table e (omega (arith, none))

same_counts : (n : ℕ) (table : Table) (d e : Descriptor) → get table n ≡ Some d → ((o : ℕ) → names_open o e ≡ names_open o d) → (o : ℕ)
    → count_in o table ≤ count_in o (insert table n e)
same_counts n table d e here same o =
    let one : weight (names_open o) (get table n) ≡ names_open o d = ap (weight (names_open o)) here in
    let as_before : names_open o e ≡ names_open o d = same o in
    inserted_counts o n table e (omega (arith, one, as_before))

-- the outcome's updates take no holder away
abbrev Holds : State → Outcome → Type 0
Holds S o = HoldsAsMuch S (put_all o.updates S)

-- so the call takes none away: its thread may wait, and that sets nothing that holds
held_after : (constants : Constants) (S : State) (who : Who) (call : Call) → Holds (tick S) (outcome constants S who call)
    → HoldsAsMuch (tick S) (unreleased constants S who call)
held_after constants S who call holds =
    waits_if_same (HoldsAsMuch (tick S)) (outcome constants S who call).answer who (waiting constants call who (S.clock + 1000))
    (put_all (outcome constants S who call).updates (tick S)) (λ h. record { opens = h.opens; held = h.held; carried = h.carried }) holds

-- ---- fd_dup

dup_at_holds : (S : State) (p : ℕ) (table : Table) (d : Descriptor) (number : Option ℕ) → get S.tables p ≡ Some table → lowest_free table ≡ number
    → Holds S (dup_at p table d number)
dup_at_holds S p table d None own free = itself S
dup_at_holds S p table d (Some number) own free =
    table_set S p table (insert table number d) own (free_counts number table d (free_is_absent table _ 0 number free))

dup_of_holds : (S : State) (p : ℕ) (table : Table) (o : Option Descriptor) → get S.tables p ≡ Some table → Holds S (dup_of p table o)
dup_of_holds S p table None own = itself S
dup_of_holds S p table (Some d) own = dup_at_holds S p table d (lowest_free table) own refl

pub dup_holds : (constants : Constants) (S : State) (who : Who) (fd : ℕ) → HoldsAsMuch (tick S) (unreleased constants S who (FdDup fd))
dup_holds constants S who fd =
    held_after constants S who (FdDup fd)
    (outcome_holds (Holds (tick S)) constants S who (FdDup fd) (λ reply _. itself (tick S))
    (λ table own. dup_of_holds (tick S) who.pid table (get table fd) own))

-- ---- fd_stat_put

set_holds : (S : State) (p : ℕ) (table : Table) (fd : ℕ) (stat : FdStat) (flags : ℕ) → get S.tables p ≡ Some table
    → Holds S (stat_put (whole S) p table fd stat flags (get table fd))
set_holds S p table fd stat flags own =
    put_holds (Holds S) (whole S) p table fd stat flags (get table fd) (itself S)
    (λ d kind here at. (
    let opened : State = put_one (set_open d.id (with_flags kind stat.flags)) S in
    let new : Table = insert table fd (lowered_to d stat) in
    let counts : (o : ℕ) → count_in o table ≤ count_in o new = same_counts fd table d (lowered_to d stat) here (λ o. refl) in
    let set : HoldsAsMuch S opened = open_again S d.id kind (with_flags kind stat.flags) at in
    either_set (λ us. HoldsAsMuch S (put_all us S)) (bit_and flags 1 == 0) (bit_and flags 2 == 0) (set_open d.id (with_flags kind stat.flags)) (set_table p new)
    (itself S) set (table_set S p table new own counts) (through S opened (put_one (set_table p new) opened) set (table_set opened p table new own counts))))

pub stat_put_holds : (constants : Constants) (S : State) (who : Who) (fd : ℕ) (stat : FdStat) (flags : ℕ)
    → HoldsAsMuch (tick S) (unreleased constants S who (FdStatPut fd stat flags))
stat_put_holds constants S who fd stat flags =
    held_after constants S who (FdStatPut fd stat flags)
    (outcome_holds (Holds (tick S)) constants S who (FdStatPut fd stat flags) (λ reply _. itself (tick S))
    (λ table own. set_holds (tick S) who.pid table fd stat flags own))

-- ---- file_open

one_beside : (u : Update) (S : State) → IsBeside u → HoldsAsMuch S (put_one u S)
one_beside (set_process p own) S h = same_held S (put_one (set_process p own) S) refl refl refl
one_beside (set_node n node) S h = same_held S (put_one (set_node n node) S) refl refl refl
one_beside (set_names n names) S h = same_held S (put_one (set_names n names) S) refl refl refl
one_beside u S h = absurd h

beside_holds : (us : List Update) (S : State) → AllByRecursion IsBeside us → HoldsAsMuch S (put_all us S)
beside_holds [] S h = itself S
beside_holds (u ∷ us) S h = through S (put_one u S) (put_all us (put_one u S)) (one_beside u S h.0) (beside_holds us (put_one u S) h.1)

one_table : (u : Update) (S : State) → IsBeside u → (put_one u S).tables ≡ S.tables
one_table (set_process p own) S h = refl
one_table (set_node n node) S h = refl
one_table (set_names n names) S h = refl
one_table u S h = absurd h

beside_tables : (us : List Update) (S : State) → AllByRecursion IsBeside us → (put_all us S).tables ≡ S.tables
beside_tables [] S h = refl
beside_tables (u ∷ us) S h = beside_tables us (put_one u S) h.1 ∙ one_table u S h.0

-- a new open is held by the descriptor that comes with it
new_holds : (S : State) (p fd o : ℕ) (table : Table) (kind : OpenKind) (d : Descriptor) → get S.tables p ≡ Some table → get table fd ≡ None → d.id ≡ o
    → HoldsAsMuch S (put_one (set_table p (insert table fd d)) (put_one (set_open o kind) S))
new_holds S p fd o table kind d own free is =
    let opened : State = put_one (set_open o kind) S in
    let new : Table = insert table fd d in
    let after : State = put_one (set_table p new) opened in record {
      opens = λ r there.
          elim (eqb_tells r o) [
            | inl same ↦ inr (subst (λ k. 0 < holders after k) (is ∙ sym same.1)
                (named_is_held after p fd new d (get-insert-same S.tables p new) (get-insert-same table fd d)))
            | inr other ↦ inl (ap is_some (sym (get-insert-other S.opens o kind r other.1)) ∙ there)
          ];
      held = (table_set opened p table new own (free_counts fd table d free)).held;
      carried = (itself S).carried;
    }

opening_holds : (S : State) (p : ℕ) (table : Table) (stat : FdStat) (fd : ℕ) (kind : OpenKind) (c : Change) (new_nodes : ℕ) → get S.tables p ≡ Some table
    → get table fd ≡ None → Holds S (opening p (get S.processes p) table stat fd kind new_nodes (change_updates c))
opening_holds S p table stat fd kind c new_nodes own free =
    let o : ℕ = next_object p (get S.processes p) (new_nodes + 1) in
    let d : Descriptor = opened_descriptor o kind stat in
    let us : List Update = process_updates p (new_nodes + 1) (get S.processes p) ++ change_updates c in
    let beside : AllByRecursion IsBeside us = rest_beside p (new_nodes + 1) (get S.processes p) c in
    let changed : State = put_all us S in
    subst (HoldsAsMuch S) (sym (put_last o kind p (insert table fd d) us S beside))
    (through S changed (put_one (set_table p (insert table fd d)) (put_one (set_open o kind) changed)) (beside_holds us S beside)
    (new_holds changed p fd o table kind d (ap (λ m. get m p) (beside_tables us S beside) ∙ own) free refl))

open_at_holds : (S : State) (p : ℕ) (table : Table) (stat : FdStat) (o : Opened) → get S.tables p ≡ Some table
    → Holds S (open_at p (get S.processes p) table stat o (lowest_free table))
open_at_holds S p table stat o own =
    elim (lowest_free table) as (λ free. lowest_free table ≡ free → Holds S (open_at p (get S.processes p) table stat o free)) [
      | None ↦ λ _. itself S
      | Some fd ↦ λ free.
          opened_by p (get S.processes p) table stat (Holds S) (λ reply. itself S) fd o
          (λ kind c new_nodes is can. opening_holds S p table stat fd kind c new_nodes own (free_is_absent table _ 0 fd free))
    ] refl

pub open_holds : (constants : Constants) (S : State) (who : Who) (lookup : Lookup) (path : List ℕ) (oflags : ℕ) (stat : FdStat)
    → HoldsAsMuch (tick S) (unreleased constants S who (FileOpen lookup path oflags stat))
open_holds constants S who lookup path oflags stat =
    let v : View = whole (tick S) in
    held_after constants S who (FileOpen lookup path oflags stat)
    (outcome_holds (Holds (tick S)) constants S who (FileOpen lookup path oflags stat) (λ reply _. itself (tick S))
    (λ table own.
    open_at_holds (tick S) who.pid table stat
    (open_walked oflags stat.flags path (real_time constants v.clock) (next_object who.pid (v.process who.pid) 1) v.branch
    (walked v.branch (open_mode oflags lookup.flags) path (open_of v (get table lookup.fd)))) own))
