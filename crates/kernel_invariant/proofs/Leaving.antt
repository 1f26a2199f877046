-- The state that a call leaves that has changed the tree and what its process has of its own.
--     counted_is      a process that has made so many more
--     left_of      the state that what a call on names comes to leaves
--     none_holds, none_carries, none_holds_or_carries      nothing holds an open that isn't there, and nothing that waits in a channel names it
--     released_is      the release of a state whose opens are all held: the nodes go that aren't used
use Rattle.std.proofs.Common.{◌≡◌, ℕ, zero, suc, ◌+◌, ◌<◌, Bool, true, false, cond, List, [], ◌∷◌, ◌++◌, Option, None, Some, IsSome, inl, inr, refl, sym, ap, subst, ◌∙◌, arith}
use Rattle.std.proofs.lemmas.Bool.Decides.{eqb_tells}
use Rattle.std.specs.FinMap.{get, insert}
use Rattle.std.specs.List.{AllByRecursion}
use Rattle.abi_base.specs.declared.errno.Errno.TheVariants.{Again}
use Rattle.abi_types.specs.declared.descriptor.Descriptor.{Descriptor}
use Rattle.abi_types.specs.declared.reply.Answer.TheVariants as answer
use Rattle.maps.specs.Maps.{insert_self, total_none, weight}
use Rattle.tree_model.specs.Opens.{is_used}
use Rattle.tree_model.specs.Retained.{retained}
use Rattle.kernel_model.specs.Channels.{Channel, carried_of}
use Rattle.kernel_model.specs.Families.NameMeaning.{NameOutcome, Refuses, LeadsOut, Changes, outcome_of}
use Rattle.kernel_model.specs.Families.Numbers.{can_number, made_more, next_object, process_updates}
use Rattle.kernel_model.specs.Outcome.{replies}
use Rattle.kernel_model.specs.Reply.{refused, success}
use Rattle.kernel_model.specs.Release.{carried_in, carriers, count_carried, count_in, holders, is_channel_kept, names_open, release, without_nodes, without_over}
use Rattle.kernel_model.specs.State.{State, ProcessState, Table, Tree, tree_of, put_all}
use Rattle.kernel_model.specs.Families.TreeUpdates.{Change, change_updates}
use Rattle.kernel_model.specs.Valid.{IsNamed, IsNearlyValid}
use Rattle.kernel_model.proofs.NameMeanings.{IsChangeOf, IsGood}
use Rattle.kernel_model.proofs.TreeUpdates.{counted, put_counted, with_tree}
use Rattle.kernel_model.proofs.Channels.{count_all}
use Rattle.kernel_model.proofs.Valids.{channels_stay, ended_held}
use Rattle.kernel_parts.specs.Entries.{process_left, tree_left}

-- ---- what a process has made

no_more : (own : ProcessState) → made_more 0 own ≡ own
no_more own =
    let same : own.counts.objects + 0 ≡ own.counts.objects = omega arith in
    λ i. record own { counts = record own.counts { objects = same i } }

abbrev pub with_process : State → ℕ → ProcessState → State
with_process S p own = record S { processes = insert S.processes p own }

-- a process that has what it had
pub process_again : (S : State) (p : ℕ) (own : ProcessState) → get S.processes p ≡ Some own → with_process S p own ≡ S
process_again S p own there = (let same = insert_self S.processes p own there in λ i. record S { processes = same i })

counted_some : (S : State) (p count : ℕ) (own : ProcessState) → get S.processes p ≡ Some own → put_all (process_updates p count (Some own)) S ≡ with_process S p (made_more count own)
counted_some S p zero own there = sym (ap (with_process S p) (no_more own) ∙ process_again S p own there)
counted_some S p (suc count) own there = refl

pub counted_is : (S : State) (p count : ℕ) (own : ProcessState) → get S.processes p ≡ Some own → counted p count S ≡ with_process S p (made_more count own)
counted_is S p count own there = ap (λ o. put_all (process_updates p count o) S) there ∙ counted_some S p count own there

-- ---- what a call on names leaves

module _ (S : State) (p : ℕ) (own : ProcessState) (there : get S.processes p ≡ Some own) (new_nodes : ℕ) where
  abbrev pub left : NameOutcome → State
  left comes =
      let u : Tree = tree_left p new_nodes own (tree_of S) comes in
      record S { processes = insert S.processes p (process_left p new_nodes own comes); nodes = u.nodes; names = u.names }

  -- what a change leaves, by whether the process can make so many
  abbrev change_left : Change → Bool → Type 0
  change_left c b =
      let u : Tree = cond b c.tree (tree_of S) in
      put_all (cond b (record { answer = answer.Reply (success 0 0); updates = process_updates p new_nodes (Some own) ++ change_updates c }) (replies (refused Again))).updates S
      ≡ record S { processes = insert S.processes p (cond b (made_more new_nodes own) own); nodes = u.nodes; names = u.names }

  change_left_is : (c : Change) (b : Bool) → can_number p new_nodes (Some own) ≡ b
      → (can_number p new_nodes (get S.processes p) ≡ true → IsChangeOf (tree_of S) (next_object p (get S.processes p) 1) new_nodes c) → IsNearlyValid S → change_left c b
  change_left_is c true can good v =
      let here : can_number p new_nodes (get S.processes p) ≡ true = ap (can_number p new_nodes) there ∙ can in
      ap (λ o. put_all (process_updates p new_nodes o ++ change_updates c) S) (sym there)
      ∙ put_counted S p new_nodes (next_object p (get S.processes p) 1) new_nodes c here (good here) (λ _. refl) (omega arith) v
      ∙ ap (with_tree c.tree) (counted_is S p new_nodes own there)
  change_left_is c false can good v = sym (process_again S p own there)

  left_by : (comes : NameOutcome) → (can_number p new_nodes (get S.processes p) ≡ true → IsGood (tree_of S) (next_object p (get S.processes p) 1) new_nodes comes) → IsNearlyValid S
      → put_all (outcome_of p (Some own) new_nodes comes).updates S ≡ left comes
  left_by (Refuses errno) good v = sym (process_again S p own there)
  left_by (LeadsOut component) good v = sym (process_again S p own there)
  left_by (Changes c) good v = change_left_is c (can_number p new_nodes (Some own)) refl good v

  pub left_of : (comes : NameOutcome) → (can_number p new_nodes (get S.processes p) ≡ true → IsGood (tree_of S) (next_object p (get S.processes p) 1) new_nodes comes) → IsNearlyValid S
      → put_all (outcome_of p (get S.processes p) new_nodes comes).updates S ≡ left comes
  left_of comes good v = ap (λ o. put_all (outcome_of p o new_nodes comes).updates S) there ∙ left_by comes good v

-- ---- holders

-- a descriptor doesn't name an open that isn't there
names_none : (S : State) (o : ℕ) (d : Descriptor) → get S.opens o ≡ None → IsNamed (get S.opens d.id) d → names_open o d ≡ 0
names_none S o d none named =
    elim (eqb_tells d.id o) [
      | inl is ↦ absurd (subst (λ x. IsNamed x d) (ap (get S.opens) is.1 ∙ none) named)
      | inr other ↦ ap (λ b. cond b 1 0) other.0
    ]

descriptor_none : (S : State) (o p n : ℕ) (table : Table) → get S.opens o ≡ None → get S.tables p ≡ Some table → IsNearlyValid S
    → (x : Option Descriptor) → get table n ≡ x → weight (names_open o) x ≡ 0
descriptor_none S o p n table none there v None is = refl
descriptor_none S o p n table none there v (Some d) is = names_none S o d none (v.named p n table d there is)

table_none : (S : State) (o p : ℕ) → get S.opens o ≡ None → IsNearlyValid S → (x : Option Table) → get S.tables p ≡ x → weight (count_in o) x ≡ 0
table_none S o p none v None is = refl
table_none S o p none v (Some table) is = total_none (names_open o) table (λ n. descriptor_none S o p n table none is v (get table n) refl)

pub none_holds : (S : State) (o : ℕ) → get S.opens o ≡ None → IsNearlyValid S → holders S o ≡ 0
none_holds S o none v = total_none (count_in o) S.tables (λ p. table_none S o p none v (get S.tables p) refl)

-- nor does one that waits in a channel
carried_none : (S : State) (o : ℕ) → get S.opens o ≡ None → (ds : List Descriptor) → AllByRecursion (λ (d : Descriptor). IsNamed (get S.opens d.id) d) ds
    → count_carried o ds ≡ 0
carried_none S o none [] named = refl
carried_none S o none (d ∷ ds) named =
    let first = names_none S o d none named.0 in
    let rest = carried_none S o none ds named.1 in
    omega (arith, first, rest)

channel_none : (S : State) (o c : ℕ) → get S.opens o ≡ None → IsNearlyValid S → (x : Option Channel) → get S.chans c ≡ x → weight (carried_in o) x ≡ 0
channel_none S o c none v None is = refl
channel_none S o c none v (Some channel) is =
    sym (count_all o channel.waiting) ∙ carried_none S o none (carried_of channel.waiting) (v.channels c channel is).carried

pub none_carries : (S : State) (o : ℕ) → get S.opens o ≡ None → IsNearlyValid S → carriers S o ≡ 0
none_carries S o none v = total_none (carried_in o) S.chans (λ c. channel_none S o c none v (get S.chans c) refl)

-- so nothing does
pub none_holds_or_carries : (S : State) (o : ℕ) → get S.opens o ≡ None → IsNearlyValid S → holders S o + carriers S o ≡ 0
none_holds_or_carries S o none v =
    let held = none_holds S o none v in
    let carried = none_carries S o none v in
    omega (arith, held, carried)

-- ---- the release

pub released_is : (T : State) → ((o : ℕ) → IsSome (get T.opens o) → 0 < holders T o + carriers T o) → ((c : ℕ) → is_channel_kept (get T.chans c) ≡ true)
    → (let u : Tree = retained (tree_of T) (is_used T.opens (tree_of T)) in record T { nodes = u.nodes; names = u.names }) ≡ release T
released_is T held going =
    sym (ap (λ (U : State). without_over (without_nodes U)) (ended_held T held) ∙ channels_stay (without_nodes T) going)
