-- A meaning on names that keeps to what is shown of each (`NamesWell`) is proper.
use Rattle.std.proofs.Common.{◌≡◌, ◌≢◌, ◌⊎◌, ℕ, zero, suc, ◌||◌, true, false, cond, List, [], ◌∷◌, ◌++◌, map, Option, Some, None, inl, inr, refl, sym, ap, subst, ◌∙◌, arith}
use Rattle.std.proofs.lemmas.Bool.{eq-eqb}
use Rattle.std.specs.FinMap.{get}
use Rattle.abi_base.specs.declared.errno.Errno.{Errno}
use Rattle.abi_base.specs.declared.errno.Errno.TheVariants.{Again}
use Rattle.abi_types.specs.declared.descriptor.Descriptor.{Descriptor}
use Rattle.abi_types.specs.declared.needed.Needed.{Needed}
use Rattle.abi_types.specs.declared.reply.Answer.TheVariants as answer
use Rattle.std.specs.List.{AllByRecursion}
use Rattle.kernel_model.proofs.Channels.{all_both}
use Rattle.kernel_model.specs.Families.ClockCalls.{real_time}
use Rattle.kernel_model.specs.Families.FileMeaning.{open_of}
use Rattle.kernel_model.specs.Families.NameMeaning.{NameOutcome, Refuses, LeadsOut, Changes, NameMeaning, by_name, by_names, outcome_of}
use Rattle.kernel_model.specs.Families.Numbers.{can_number, new_parts, next_object, object_parts, process_updates}
use Rattle.kernel_model.specs.Outcome.{Outcome, replies}
use Rattle.kernel_model.specs.Proper.{AllCarryOn, CarriesOn, IsDeniedOutside, IsIn, IsProper, IsUnset, Sender, may_send}
use Rattle.kernel_model.specs.Reply.{refused, success}
use Rattle.kernel_model.specs.Sight.{process_parts, behind, reached_by}
use Rattle.kernel_model.specs.OwnChanges.{IsChangedBy}
use Rattle.kernel_model.specs.State.{State, ProcessState, Part, tree_of, at_open, at_proc, at_status, has_part, part_of, put_all}
use Rattle.kernel_model.specs.Step.{tick}
use Rattle.kernel_model.specs.Families.TreeUpdates.{Change, change_updates}
use Rattle.kernel_model.specs.Valid.{IsNearlyValid}
use Rattle.kernel_model.specs.View.{only, restrict, whole}
use Rattle.kernel_model.proofs.Branches.{IsSeen, all_behind_is_seen}
use Rattle.kernel_model.proofs.DescriptorCalls.{other_table, process_table}
use Rattle.kernel_model.proofs.FileMeanings.{open_has_behind, tree_carries, tree_processes, tree_tables, tree_unset}
use Rattle.kernel_model.proofs.NameMeanings.{IsGood, IsPlainly, IsUnsetBy, NamesWell, SetsAlike, new_node_parts}
use Rattle.kernel_model.proofs.ObjectNumbers.{next_is_absent}
use Rattle.kernel_model.proofs.Parts.{KeepsOwn, own_stays, beyond_process, has_left, has_of_both, has_right}
use Rattle.kernel_model.proofs.Sights.{first_seen}
use Rattle.kernel_model.proofs.Tests.{either_false, either_true, not_true}
use Rattle.kernel_model.proofs.TreeUpdates.{both_unset, change_nearly_valid, change_of_tree, counted, counted_own, put_both, put_counted}

-- ---- what is seen of opens

-- the parts have all that the descriptor reaches
abbrev pub HasReached : State → List Part → Option Descriptor → Type 0
HasReached S parts o = (q : Part) → has_part (reached_by S o) q ≡ true → has_part parts q ≡ true

pub sees_open : (S : State) (parts : List Part) (o : Option Descriptor) → HasReached S parts o → open_of (restrict S parts) o ≡ open_of (whole S) o
sees_open S parts None all = refl
sees_open S parts (Some d) all =
    ap (λ b. only b (get S.opens d.id)) (all (at_open d.id) (ap (λ b. b || has_part (behind S (get S.opens d.id)) (at_open d.id)) (eq-eqb d.id d.id refl)))

pub sees_behind : (S : State) (parts : List Part) (o : Option Descriptor) → HasReached S parts o
    → IsSeen (tree_of S) (restrict S parts).branch (open_of (whole S) o)
sees_behind S parts None all = tt
sees_behind S parts (Some d) all =
    all_behind_is_seen S parts (get S.opens d.id) (λ q h. all q (has_right (at_open d.id ∷ []) (behind S (get S.opens d.id)) q h))

pub behind_is_reached : (S : State) (o : Option Descriptor) (q : Part) → has_part (behind S (open_of (whole S) o)) q ≡ true → has_part (reached_by S o) q ≡ true
behind_is_reached S None q h = h
behind_is_reached S (Some d) q h = has_right (at_open d.id ∷ []) (behind S (get S.opens d.id)) q h

-- ---- what a process sets of its own

process_unset : (p count : ℕ) (own : Option ProcessState) (q : Part) → has_part (process_parts p) q ≡ false → has_part (map part_of (process_updates p count own)) q ≡ false
process_unset p zero own q h = refl
process_unset p (suc count) None q h = refl
process_unset p (suc count) (Some own) q h = process_table p q h

process_others : (p count : ℕ) (own : Option ProcessState) (q : ℕ) → q ≢ p
    → (has_part (map part_of (process_updates p count own)) (at_proc q) ≡ false) × (has_part (map part_of (process_updates p count own)) (at_status q) ≡ false)
process_others p zero own q apart = (refl, refl)
process_others p (suc count) None q apart = (refl, refl)
process_others p (suc count) (Some own) q apart = (other_table p q apart, refl)

-- the first of the objects that it makes is one of them
first_is_new : (p count : ℕ) (own : Option ProcessState) (q : Part) → has_part (new_parts p (suc count) own) q ≡ false
    → has_part (object_parts (next_object p own 1)) q ≡ false
first_is_new p zero own q h = (either_false _ _ (sym (has_of_both (object_parts (next_object p own 1)) [] q) ∙ h)).0
first_is_new p (suc count) own q h =
    let first = object_parts (next_object p own (suc (suc count))) in
    let rest = new_parts p (suc count) own in
    first_is_new p count own q (either_false (has_part first q) (has_part rest q) (sym (has_of_both first rest q) ∙ h)).1

new_node_unset : (p count : ℕ) (own : Option ProcessState) (q : Part) → has_part (new_parts p count own) q ≡ false
    → has_part (new_node_parts count (next_object p own 1)) q ≡ false
new_node_unset p zero own q h = refl
new_node_unset p (suc count) own q h = first_is_new p count own q h

-- ---- outcomes, by what such a call comes to

alike_outcome : (p new_nodes : ℕ) (own : Option ProcessState) (a b : NameOutcome) → SetsAlike a b → outcome_of p own new_nodes a ≡ outcome_of p own new_nodes b
alike_outcome p new_nodes own (Refuses errno) b h = ap (outcome_of p own new_nodes) (sym h)
alike_outcome p new_nodes own (LeadsOut component) b h = ap (outcome_of p own new_nodes) (sym h)
alike_outcome p new_nodes own (Changes c) b h =
    (λ i. cond (can_number p new_nodes own) (record { answer = answer.Reply (success 0 0); updates = process_updates p new_nodes own ++ h.2 i }) (replies (refused Again)))
    ∙ ap (outcome_of p own new_nodes) (sym h.1)

-- what holds of a refusal, and of what a change sets where the process can make so many, holds of what such a change comes to
pub change_holds : (P : Outcome → Type 0) (p new_nodes : ℕ) (own : Option ProcessState) (c : Change)
    → (can_number p new_nodes own ≡ false → P (replies (refused Again)))
    → (can_number p new_nodes own ≡ true → P (record { answer = answer.Reply (success 0 0); updates = process_updates p new_nodes own ++ change_updates c }))
    → P (outcome_of p own new_nodes (Changes c))
change_holds P p new_nodes own c refuses sets =
    elim (can_number p new_nodes own) as (λ b. can_number p new_nodes own ≡ b
    → P (cond b (record { answer = answer.Reply (success 0 0); updates = process_updates p new_nodes own ++ change_updates c }) (replies (refused Again)))) [
      | true ↦ sets
      | false ↦ refuses
    ] refl

outcome_unset : (p new_nodes : ℕ) (own : Option ProcessState) (comes : NameOutcome) (q : Part) → has_part (process_parts p) q ≡ false → IsUnsetBy comes q
    → IsUnset (outcome_of p own new_nodes comes) q
outcome_unset p new_nodes own (Refuses errno) q h unset = refl
outcome_unset p new_nodes own (LeadsOut component) q h unset = refl
outcome_unset p new_nodes own (Changes c) q h unset =
    change_holds (λ o. IsUnset o q) p new_nodes own c (λ _. refl)
    (λ _. both_unset (process_updates p new_nodes own) (change_updates c) q (process_unset p new_nodes own q h) unset)

outcome_others : (p new_nodes : ℕ) (own : Option ProcessState) (comes : NameOutcome) (q : ℕ) → q ≢ p
    → IsUnset (outcome_of p own new_nodes comes) (at_proc q) × IsUnset (outcome_of p own new_nodes comes) (at_status q)
outcome_others p new_nodes own (Refuses errno) q apart = (refl, refl)
outcome_others p new_nodes own (LeadsOut component) q apart = (refl, refl)
outcome_others p new_nodes own (Changes c) q apart =
    let mine = process_others p new_nodes own q apart in
    let tree = tree_unset (change_updates c) q (change_of_tree c) in
    change_holds (λ o. IsUnset o (at_proc q) × IsUnset o (at_status q)) p new_nodes own c (λ _. (refl, refl))
    (λ _. (
      both_unset (process_updates p new_nodes own) (change_updates c) (at_proc q) mine.0 tree.0,
      both_unset (process_updates p new_nodes own) (change_updates c) (at_status q) mine.1 tree.1,
    ))

outcome_own : (S : State) (p new_nodes : ℕ) (comes : NameOutcome) → KeepsOwn S p (outcome_of p (get S.processes p) new_nodes comes)
outcome_own S p new_nodes (Refuses errno) = own_stays (get S.processes p)
outcome_own S p new_nodes (LeadsOut component) = own_stays (get S.processes p)
outcome_own S p new_nodes (Changes c) =
    change_holds (KeepsOwn S p) p new_nodes (get S.processes p) c (λ _. own_stays (get S.processes p))
    (λ _. subst (IsChangedBy (λ own. own) (get S.processes p))
    (sym (ap (λ (T : State). get T.processes p) (put_both (process_updates p new_nodes (get S.processes p)) (change_updates c) S)
    ∙ ap (λ processes. get processes p) (tree_processes (change_updates c) (counted p new_nodes S) (change_of_tree c))))
    (counted_own S p new_nodes))

-- it sets no channel
pub process_carries : (S : State) (sender : Sender) (p count : ℕ) (own : Option ProcessState) → AllByRecursion (CarriesOn S sender) (process_updates p count own)
process_carries S sender p zero own = tt
process_carries S sender p (suc count) None = tt
process_carries S sender p (suc count) (Some own) = (tt, tt)

outcome_carries : (S : State) (sender : Sender) (p new_nodes : ℕ) (own : Option ProcessState) (comes : NameOutcome)
    → AllCarryOn S sender (outcome_of p own new_nodes comes)
outcome_carries S sender p new_nodes own (Refuses errno) = tt
outcome_carries S sender p new_nodes own (LeadsOut component) = tt
outcome_carries S sender p new_nodes own (Changes c) =
    change_holds (AllCarryOn S sender) p new_nodes own c (λ _. tt)
    (λ _. all_both (CarriesOn S sender) (process_updates p new_nodes own) (change_updates c) (process_carries S sender p new_nodes own)
    (tree_carries S sender (change_updates c) (change_of_tree c)))

process_tables : (S : State) (p count : ℕ) (own : Option ProcessState) → (put_all (process_updates p count own) S).tables ≡ S.tables
process_tables S p zero own = refl
process_tables S p (suc count) None = refl
process_tables S p (suc count) (Some own) = refl

pub outcome_tables : (S : State) (p new_nodes : ℕ) (own : Option ProcessState) (comes : NameOutcome) → (put_all (outcome_of p own new_nodes comes).updates S).tables ≡ S.tables
outcome_tables S p new_nodes own (Refuses errno) = refl
outcome_tables S p new_nodes own (LeadsOut component) = refl
outcome_tables S p new_nodes own (Changes c) =
    change_holds (λ (o : Outcome). (put_all o.updates S).tables ≡ S.tables) p new_nodes own c (λ _. refl)
    (λ _. ap (λ (T : State). T.tables) (put_both (process_updates p new_nodes own) (change_updates c) S)
    ∙ tree_tables (change_updates c) (put_all (process_updates p new_nodes own) S) (change_of_tree c) ∙ process_tables S p new_nodes own)

-- where it can make no more it makes something
makes_some : (P : Type 0) (p new_nodes : ℕ) (own : Option ProcessState) → can_number p new_nodes own ≡ false → (new_nodes ≡ 0) ⊎ P → P
makes_some P p new_nodes own none (inl is) = absurd (not_true (sym none ∙ ap (λ n. can_number p n own) is))
makes_some P p new_nodes own none (inr some) = some

outcome_plain : (errors : List Errno) (p new_nodes : ℕ) (own : Option ProcessState) (outside : Option ℕ) (comes : NameOutcome) → (new_nodes ≡ 0) ⊎ IsIn Again errors
    → IsPlainly errors outside comes → IsDeniedOutside errors outside (outcome_of p own new_nodes comes)
outcome_plain errors p new_nodes own (Some component) comes again h = ap (outcome_of p own new_nodes) h
outcome_plain errors p new_nodes own None (Refuses errno) again h = (refl, inr (refl, h))
outcome_plain errors p new_nodes own None (LeadsOut component) again h = absurd h
outcome_plain errors p new_nodes own None (Changes c) again h =
    change_holds (IsDeniedOutside errors None) p new_nodes own c
    (λ none. (refl, inr (refl, makes_some (IsIn Again errors) p new_nodes own none again))) (λ _. (refl, inl refl))

outcome_valid : (S : State) (p new_nodes : ℕ) (comes : NameOutcome) → IsNearlyValid S
    → (can_number p new_nodes (get S.processes p) ≡ true → IsGood (tree_of S) (next_object p (get S.processes p) 1) new_nodes comes)
    → IsNearlyValid (put_all (outcome_of p (get S.processes p) new_nodes comes).updates S)
outcome_valid S p new_nodes (Refuses errno) v good = v
outcome_valid S p new_nodes (LeadsOut component) v good = v
outcome_valid S p new_nodes (Changes c) v good =
    change_holds (λ (o : Outcome). IsNearlyValid (put_all o.updates S)) p new_nodes (get S.processes p) c (λ _. v) (λ can.
    subst IsNearlyValid (sym (put_counted S p new_nodes (next_object p (get S.processes p) 1) new_nodes c can (good can) (λ _. refl) (omega arith) v))
    (change_nearly_valid S p new_nodes (next_object p (get S.processes p) 1) new_nodes c can (good can) (λ _. refl) (omega arith) v))

-- ---- by the opens of two descriptors, of which one may be none

module _ (m : NameMeaning) (well : NamesWell m) where
  -- what it comes to in a state, by two descriptors
  abbrev comes_to : ℕ → State → ℕ → Option Descriptor → Option Descriptor → NameOutcome
  comes_to now S p a b = m.effect now (next_object p (get S.processes p) 1) (tree_of S) (open_of (whole S) a) (open_of (whole S) b)

  both_read : (now : ℕ) (S : State) (p : ℕ) (rest : List Part) (a b : Option Descriptor)
      → HasReached S (process_parts p ++ rest) a → HasReached S (process_parts p ++ rest) b
      → outcome_of p ((restrict S (process_parts p ++ rest)).process p) m.new_nodes
      (m.effect now (next_object p ((restrict S (process_parts p ++ rest)).process p) 1) (restrict S (process_parts p ++ rest)).branch
      (open_of (restrict S (process_parts p ++ rest)) a) (open_of (restrict S (process_parts p ++ rest)) b))
      ≡ outcome_of p (get S.processes p) m.new_nodes (comes_to now S p a b)
  both_read now S p rest a b here there =
      let parts : List Part = process_parts p ++ rest in
      let own : (restrict S parts).process p ≡ get S.processes p = first_seen p (has_part rest (at_proc p)) (get S.processes p) in
      let first = sees_open S parts a here in
      let second = sees_open S parts b there in
      (λ i. outcome_of p (own i) m.new_nodes (m.effect now (next_object p (own i) 1) (restrict S parts).branch (first i) (second i)))
      ∙ alike_outcome p m.new_nodes (get S.processes p)
      (m.effect now (next_object p (get S.processes p) 1) (restrict S parts).branch (open_of (whole S) a) (open_of (whole S) b)) (comes_to now S p a b)
      (well.reads now (next_object p (get S.processes p) 1) (tree_of S) (restrict S parts).branch (open_of (whole S) a) (open_of (whole S) b)
      (sees_behind S parts a here) (sees_behind S parts b there))

  both_walk : (S : State) (parts : List Part) (a b : Option Descriptor) → HasReached S parts a → HasReached S parts b
      → m.outside (restrict S parts).branch (open_of (restrict S parts) a) (open_of (restrict S parts) b)
      ≡ m.outside (tree_of S) (open_of (whole S) a) (open_of (whole S) b)
  both_walk S parts a b here there =
      let first = sees_open S parts a here in
      let second = sees_open S parts b there in
      (λ i. m.outside (restrict S parts).branch (first i) (second i))
      ∙ well.walks (tree_of S) (restrict S parts).branch (open_of (whole S) a) (open_of (whole S) b) (sees_behind S parts a here) (sees_behind S parts b there)

  both_unset_by : (now : ℕ) (S : State) (p : ℕ) (a b : Option Descriptor) (q : Part)
      → has_part (process_parts p ++ (new_parts p m.new_nodes (get S.processes p) ++ m.touched (tree_of S) (open_of (whole S) a) (open_of (whole S) b))) q ≡ false
      → IsUnset (outcome_of p (get S.processes p) m.new_nodes (comes_to now S p a b)) q
  both_unset_by now S p a b q h =
      let made : List Part = new_parts p m.new_nodes (get S.processes p) in
      let changed : List Part = m.touched (tree_of S) (open_of (whole S) a) (open_of (whole S) b) in
      let node : List Part = new_node_parts m.new_nodes (next_object p (get S.processes p) 1) in
      let apart = beyond_process p (made ++ changed) q h in
      let each = either_false (has_part made q) (has_part changed q) (sym (has_of_both made changed q) ∙ apart.1) in
      outcome_unset p m.new_nodes (get S.processes p) (comes_to now S p a b) q apart.0
      (well.sets now (next_object p (get S.processes p) 1) (tree_of S) (open_of (whole S) a) (open_of (whole S) b) q
      (has_of_both node changed q ∙ ap (λ c. c || has_part changed q) (new_node_unset p m.new_nodes (get S.processes p) q each.0) ∙ each.1))

  -- what it changes is reached by one of both
  both_reach : (S : State) (a b : Option Descriptor) (q : Part) → has_part (m.touched (tree_of S) (open_of (whole S) a) (open_of (whole S) b)) q ≡ true
      → (has_part (reached_by S a) q ≡ true) ⊎ (has_part (reached_by S b) q ≡ true)
  both_reach S a b q h =
      let first = behind S (open_of (whole S) a) in
      let second = behind S (open_of (whole S) b) in
      elim (either_true (has_part first q) (has_part second q)
      (sym (has_of_both first second q) ∙ well.seen S (open_of (whole S) a) (open_of (whole S) b) q h)) [
        | inl here ↦ inl (behind_is_reached S a q here)
        | inr there ↦ inr (behind_is_reached S b q there)
      ]

  both_valid : (now : ℕ) (S : State) (p : ℕ) (a b : Option Descriptor) → IsNearlyValid S
      → IsNearlyValid (put_all (outcome_of p (get S.processes p) m.new_nodes (comes_to now S p a b)).updates S)
  both_valid now S p a b v =
      outcome_valid S p m.new_nodes (comes_to now S p a b) v (λ can.
      well.good now (next_object p (get S.processes p) 1) S (open_of (whole S) a) (open_of (whole S) b)
      (λ k is. open_has_behind S a v k is) (λ k is. open_has_behind S b v k is) v.tree (λ some.
      (next_is_absent S p 1 m.new_nodes v (omega arith) (omega (arith, some)) can).1))

  -- ---- both kinds of calls

  pub by_name_is_proper : (row : Needed) → IsProper (by_name row m)
  by_name_is_proper row = record {
    names = (([], [], refl), tt);
    sees = (inl (row, ([], [], refl), refl), tt);
    reads = λ constants S who table.
        let o = get table row.fd in
        both_read (real_time constants S.clock) S who.pid (reached_by S o ++ []) o None
        (λ q h. has_right (process_parts who.pid) (reached_by S o ++ []) q (has_left (reached_by S o) [] q h)) (λ q h. absurd (not_true h));
    walks = λ S who table.
        let o = get table row.fd in
        both_walk S (process_parts who.pid ++ (reached_by S o ++ [])) o None
        (λ q h. has_right (process_parts who.pid) (reached_by S o ++ []) q (has_left (reached_by S o) [] q h)) (λ q h. absurd (not_true h));
    sets = λ constants S who table part h. both_unset_by (real_time constants (tick S).clock) S who.pid (get table row.fd) None part h;
    touched = λ S table part h.
        elim (both_reach S (get table row.fd) None part h) [
          | inl here ↦ has_left (reached_by S (get table row.fd)) [] part here
          | inr none ↦ absurd (not_true none)
        ];
    plain = λ constants v who table.
        let here = open_of v (get table row.fd) in
        let new : ℕ = next_object who.pid (v.process who.pid) 1 in
        outcome_plain m.errors who.pid m.new_nodes (v.process who.pid) (m.outside v.branch here None)
        (m.effect (real_time constants v.clock) new v.branch here None) well.again
        (well.plain (real_time constants v.clock) new v.branch here None);
    waits = λ h. absurd (not_true h);
    lacks = λ _. well.lacks;
    others = λ constants v who table q apart _. outcome_others who.pid m.new_nodes (v.process who.pid) _ q apart;
    own = λ constants S who table. inl (outcome_own S who.pid m.new_nodes (comes_to (real_time constants S.clock) S who.pid (get table row.fd) None));
    allows = λ constants S who table. tt;
    carries = λ constants S who table nearly.
        outcome_carries S (table, [], may_send m.errors) who.pid m.new_nodes (get S.processes who.pid) (comes_to (real_time constants S.clock) S who.pid (get table row.fd) None);
    valid = λ constants S who table there nearly. both_valid (real_time constants S.clock) S who.pid (get table row.fd) None nearly;
  }

  -- the parts that are seen by two descriptors have what each reaches
  first_reached : (S : State) (p : ℕ) (a b : Option Descriptor) → HasReached S (process_parts p ++ (reached_by S a ++ (reached_by S b ++ []))) a
  first_reached S p a b q h =
      has_right (process_parts p) (reached_by S a ++ (reached_by S b ++ [])) q (has_left (reached_by S a) (reached_by S b ++ []) q h)

  second_reached : (S : State) (p : ℕ) (a b : Option Descriptor) → HasReached S (process_parts p ++ (reached_by S a ++ (reached_by S b ++ []))) b
  second_reached S p a b q h =
      has_right (process_parts p) (reached_by S a ++ (reached_by S b ++ [])) q
      (has_right (reached_by S a) (reached_by S b ++ []) q (has_left (reached_by S b) [] q h))

  pub by_names_is_proper : (first second : Needed) → IsProper (by_names first second m)
  by_names_is_proper first second = record {
    names = (([], second.fd ∷ [], refl), ((first.fd ∷ [], [], refl), tt));
    sees = (inl (first, ([], second ∷ [], refl), refl), (inl (second, (first ∷ [], [], refl), refl), tt));
    reads = λ constants S who table.
        let a = get table first.fd in
        let b = get table second.fd in
        both_read (real_time constants S.clock) S who.pid (reached_by S a ++ (reached_by S b ++ [])) a b (first_reached S who.pid a b)
        (second_reached S who.pid a b);
    walks = λ S who table.
        let a = get table first.fd in
        let b = get table second.fd in
        both_walk S (process_parts who.pid ++ (reached_by S a ++ (reached_by S b ++ []))) a b (first_reached S who.pid a b) (second_reached S who.pid a b);
    sets = λ constants S who table part h.
        both_unset_by (real_time constants (tick S).clock) S who.pid (get table first.fd) (get table second.fd) part h;
    touched = λ S table part h.
        let a = get table first.fd in
        let b = get table second.fd in
        elim (both_reach S a b part h) [
          | inl here ↦ has_left (reached_by S a) (reached_by S b ++ []) part here
          | inr there ↦ has_right (reached_by S a) (reached_by S b ++ []) part (has_left (reached_by S b) [] part there)
        ];
    plain = λ constants v who table.
        let here = open_of v (get table first.fd) in
        let there = open_of v (get table second.fd) in
        let new : ℕ = next_object who.pid (v.process who.pid) 1 in
        outcome_plain m.errors who.pid m.new_nodes (v.process who.pid) (m.outside v.branch here there)
        (m.effect (real_time constants v.clock) new v.branch here there) well.again
        (well.plain (real_time constants v.clock) new v.branch here there);
    waits = λ h. absurd (not_true h);
    lacks = λ _. well.lacks;
    others = λ constants v who table q apart _. outcome_others who.pid m.new_nodes (v.process who.pid) _ q apart;
    own = λ constants S who table.
        inl (outcome_own S who.pid m.new_nodes (comes_to (real_time constants S.clock) S who.pid (get table first.fd) (get table second.fd)));
    allows = λ constants S who table. tt;
    carries = λ constants S who table nearly.
        outcome_carries S (table, [], may_send m.errors) who.pid m.new_nodes (get S.processes who.pid)
        (comes_to (real_time constants S.clock) S who.pid (get table first.fd) (get table second.fd));
    valid = λ constants S who table there nearly.
        both_valid (real_time constants S.clock) S who.pid (get table first.fd) (get table second.fd) nearly;
  }
