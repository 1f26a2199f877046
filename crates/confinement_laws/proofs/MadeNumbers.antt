-- The objects that a call makes have no number of the launch's nodes, or the call sets nothing: a process that has made 2^32 objects makes no more.
--     barren      such a process: a call of it that makes objects sets nothing
--     made_sets_none      where a part of one of the launch's nodes is among what a call makes, it sets nothing
use Rattle.std.proofs.Common.{◌≡◌, inl, inr, ℕ, suc, ◌+◌, ◌*◌, ◌^◌, ◌<◌, ◌≤◌, ◌&&◌, ◌||◌, Bool, true, false, cond, List, [], ◌∷◌, Option, Some, None, is_some, refl, sym, ap, subst, ◌∙◌, arith, add-one}
use Rattle.std.proofs.lemmas.Bool.{lt-ltb, ltb-true}
use Rattle.std.proofs.lemmas.Bool.Decides.{eqb_tells}
use Rattle.std.specs.Prelude.{nat_le, nat_lt}
use Rattle.std.specs.FinMap.{get}
use Rattle.abi_base.specs.declared.errno.Errno.{Errno}
use Rattle.abi_structures.specs.declared.events.Subscription.{Subscription}
use Rattle.abi_structures.specs.declared.structures.FdStat.{FdStat}
use Rattle.abi_types.specs.Families.{is_anonymous}
use Rattle.abi_types.specs.declared.call.Call.{Call}
use Rattle.abi_types.specs.declared.call.Call.TheVariants as call
use Rattle.abi_types.specs.declared.constants.Constants.{Constants}
use Rattle.abi_types.specs.declared.node.NodeKind.TheVariants as kind
use Rattle.abi_types.specs.declared.reply.Reply.{Reply}
use Rattle.abi_types.specs.declared.status.Status.TheVariants.{Live}
use Rattle.abi_types.specs.declared.who.Who.{Who}
use Rattle.tree_model.specs.declared.limits.TheConstants.{ROOT}
use Rattle.kernel_model.specs.Calls.{meaning_of, refusal}
use Rattle.kernel_model.specs.Families.ClockCalls.{real_time}
use Rattle.kernel_model.specs.Families.FileMeaning.{on_open, open_of}
use Rattle.kernel_model.specs.Families.FilePaths.{walked}
use Rattle.kernel_model.specs.Families.ForkCalls.{can_fork, fork_at, fork_if, least_turns}
use Rattle.kernel_model.specs.Families.MemoryCalls.{map_row, map_zeros, mapping}
use Rattle.kernel_model.specs.Families.NameMaking.{making, making_unless, text_error}
use Rattle.kernel_model.specs.Families.NameMeaning.{NameMeaning, NameOutcome, Refuses, LeadsOut, Changes, outcome_of}
use Rattle.kernel_model.specs.Families.Numbers.{can_number, new_parts, next_object, object_parts}
use Rattle.kernel_model.specs.Families.Opening.{Opened, NotOpened, OpenedOutside, Opens, open_at, open_mode, open_walked}
use Rattle.kernel_model.specs.Families.Polls.{begins_with_lock, is_of_lock, poll_by}
use Rattle.kernel_model.specs.Families.SocketCalls.{Pair, count_of, create, create_first, create_if, create_second, has_thread, made_of, numbers_of, pair, pipe, with_first}
use Rattle.kernel_model.specs.Families.DescriptorCalls.{lowest_free}
use Rattle.kernel_model.specs.Meaning.{Meaning}
use Rattle.kernel_model.specs.Outcome.{Outcome}
use Rattle.kernel_model.specs.OwnChanges.{born_of, child_parts, made_parts, may_bear}
use Rattle.kernel_model.specs.Release.{lives}
use Rattle.kernel_model.specs.State.{ProcessState, State, Table, Part, at_names, at_node, counts_in, has_part}
use Rattle.kernel_model.specs.Step.{made_by, made_on, outcome, outcome_on, tick, unless, unless_refused}
use Rattle.kernel_model.specs.Valid.{IsValid}
use Rattle.kernel_model.specs.View.{View, whole}
use Rattle.kernel_model.proofs.ChildLaws.{process_is_small}
use Rattle.kernel_model.proofs.ObjectNumbers.{new_part_is}
use Rattle.kernel_model.proofs.Outcomes.{outcome_reads}
use Rattle.kernel_model.proofs.Parts.{has_of_both, number_apart}
use Rattle.kernel_model.proofs.Tests.{and_false, either_true, not_true}
use Rattle.confinement_laws.proofs.Unled.{IsPartOf}

-- ---- a process that has made 2^32 objects

too_many : (p n : ℕ) (own : ProcessState) → 2 ^ 32 ≤ own.counts.objects → can_number p (suc n) (Some own) ≡ false
too_many p n own many =
    elim (nat_lt (own.counts.objects + suc n) (2 ^ 32)) as (λ b. nat_lt (own.counts.objects + suc n) (2 ^ 32) ≡ b → (nat_lt p 0xffffffff && b) ≡ false) [
      | true ↦ λ less. (let below = ltb-true (own.counts.objects + suc n) (2 ^ 32) less in absurd (omega (arith, below, many)))
      | false ↦ λ _. and_false (nat_lt p 0xffffffff)
    ] refl

-- its own, by what a view shows, cannot number any more
cannot : (p n : ℕ) (o : Option ProcessState) (own : ProcessState) → o ≡ Some own → 2 ^ 32 ≤ own.counts.objects → can_number p (suc n) o ≡ false
cannot p n o own is many = ap (can_number p (suc n)) is ∙ too_many p n own many

where_none : (b : Bool) (done other : Outcome) → b ≡ false → other.updates ≡ [] → (cond b done other).updates ≡ []
where_none true done other none h = absurd (not_true (sym none))
where_none false done other none h = h

module _ (p : ℕ) (o : Option ProcessState) (own : ProcessState) (is : o ≡ Some own) (many : 2 ^ 32 ≤ own.counts.objects) where
  opens_none : (table : Table) (stat : FdStat) (opened : Opened) (free : Option ℕ) → (open_at p o table stat opened free).updates ≡ []
  opens_none table stat opened None = refl
  opens_none table stat (NotOpened errno) (Some fd) = refl
  opens_none table stat (OpenedOutside component) (Some fd) = refl
  opens_none table stat (Opens kind change new_nodes) (Some fd) =
      let none : can_number p (new_nodes + 1) o ≡ false = ap (λ n. can_number p n o) (add-one new_nodes) ∙ cannot p new_nodes o own is many in
      where_none _ _ _ none refl

  names_none : (n : ℕ) → n ≡ 1 → (comes : NameOutcome) → (outcome_of p o n comes).updates ≡ []
  names_none n one (Refuses errno) = refl
  names_none n one (LeadsOut component) = refl
  names_none n one (Changes change) =
      let none : can_number p n o ≡ false = ap (λ k. can_number p k o) one ∙ cannot p 0 o own is many in
      where_none _ _ _ none refl

  counts_none : (made : Pair) → can_number p (count_of made) o ≡ false
  counts_none pipe = cannot p 2 o own is many
  counts_none pair = cannot p 3 o own is many

  second_none : (made : Pair) (t : ℕ) (table : Table) (first : ℕ) (free : Option ℕ) → (create_second made p t o table first free).updates ≡ []
  second_none made t table first None = refl
  second_none made t table first (Some second) =
      let none : (has_thread t o && can_number p (count_of made) o) ≡ false =
      ap (λ b. has_thread t o && b) (counts_none made) ∙ and_false (has_thread t o) in
      ap (λ b. (create_if b made p o table first second).updates) none

  pairs_none : (made : Option Pair) (t : ℕ) (table : Table) → (create made p t o table).updates ≡ []
  pairs_none None t table = refl
  pairs_none (Some made) t table = first_none made (lowest_free table) where
    first_none : (made : Pair) (free : Option ℕ) → (create_first made p t o table free).updates ≡ []
    first_none made None = refl
    first_none made (Some first) = second_none made t table first (lowest_free (with_first made p o table first))

  forks_none : (left t : ℕ) (table : Table) (free : Option ℕ) → (fork_at left p t o table free).updates ≡ []
  forks_none left t table None = refl
  forks_none left t table (Some fd) =
      let number : can_number p 2 (Some own) ≡ false = too_many p 1 own many in
      let none : can_fork left p t own ≡ false =
      ap (λ b. nat_le least_turns left && (may_bear own && (is_some (get own.threads t) && b))) number
      ∙ ap (λ b. nat_le least_turns left && (may_bear own && b)) (and_false (is_some (get own.threads t)))
      ∙ ap (λ b. nat_le least_turns left && b) (and_false (may_bear own)) ∙ and_false (nat_le least_turns left) in
      subst (λ x. (fork_at left p t x table (Some fd)).updates ≡ []) (sym is) (ap (λ b. (fork_if b p t own table fd).updates) none)

-- ---- how many objects a call makes

symlink_numbers : (o : Option Errno) (m : NameMeaning) → (making_unless o m).new_nodes ≡ m.new_nodes
symlink_numbers None m = refl
symlink_numbers (Some errno) m = refl

poll_numbers : (subscriptions : List Subscription) → (poll_by (begins_with_lock subscriptions) subscriptions).numbers ≡ 0
poll_numbers [] = refl
poll_numbers (first ∷ rest) =
    elim (is_of_lock first.what) as (λ b. (poll_by b (first ∷ rest)).numbers ≡ 0) [ true ↦ refl | false ↦ refl ]

either_numbers : (b : Bool) (m n : Meaning) → m.numbers ≡ 0 → n.numbers ≡ 0 → (cond b m n).numbers ≡ 0
either_numbers true m n a b = a
either_numbers false m n a b = b

map_numbers : (place : _) (length prot flags fd offset : ℕ) → (meaning_of (call.MemMap place length prot flags fd offset)).numbers ≡ 0
map_numbers place length prot flags fd offset =
    either_numbers (is_anonymous flags) (map_zeros place) (on_open (map_row fd prot) (mapping place length offset)) refl refl

pair_numbers : (made : Option Pair) → nat_lt (numbers_of made) 5 ≡ true
pair_numbers None = refl
pair_numbers (Some pipe) = refl
pair_numbers (Some pair) = refl

-- no call makes more than four
few_numbers : (c : Call) → nat_lt (meaning_of c).numbers 5 ≡ true
few_numbers (call.FdCreate2 kind) = pair_numbers (made_of kind)
few_numbers (call.FileSymlink text fd path) = ap (λ n. nat_lt n 5) (symlink_numbers (text_error text) (making (kind.Link text) path))
few_numbers (call.MemMap place length prot flags fd offset) = ap (λ n. nat_lt n 5) (map_numbers place length prot flags fd offset)
few_numbers (call.Poll subscriptions) = ap (λ n. nat_lt n 5) (poll_numbers subscriptions)
few_numbers c = refl

-- a call that makes objects, of a process that has made so many, sets nothing
barren : (c : Call) (constants : Constants) (v : View) (who : Who) (table : Table) (own : ProcessState) → v.process who.pid ≡ Some own
    → 2 ^ 32 ≤ own.counts.objects → nat_lt 0 (meaning_of c).numbers ≡ true → ((meaning_of c).effect constants v who table).updates ≡ []
barren (call.FileOpen lookup path oflags stat) constants v who table own is many some =
    opens_none who.pid (v.process who.pid) own is many table stat
    (open_walked oflags stat.flags path (real_time constants v.clock) (next_object who.pid (v.process who.pid) 1) v.branch
    (walked v.branch (open_mode oflags lookup.flags) path (open_of v (get table lookup.fd))))
    (lowest_free table)
barren (call.FileCreate fd path kind) constants v who table own is many some = names_none who.pid (v.process who.pid) own is many 1 refl _
barren (call.FileSymlink text fd path) constants v who table own is many some =
    names_none who.pid (v.process who.pid) own is many (making_unless (text_error text) (making (kind.Link text) path)).new_nodes
    (symlink_numbers (text_error text) (making (kind.Link text) path)) _
barren (call.FdCreate2 kind) constants v who table own is many some = pairs_none who.pid (v.process who.pid) own is many (made_of kind) who.tid table
barren (call.ProcFork left) constants v who table own is many some =
    forks_none who.pid (v.process who.pid) own is many left who.tid table (lowest_free table)
barren (call.MemMap place length prot flags fd offset) constants v who table own is many some =
    absurd (not_true (sym (ap (nat_lt 0) (map_numbers place length prot flags fd offset)) ∙ some))
barren (call.Poll subscriptions) constants v who table own is many some = absurd (not_true (sym (ap (nat_lt 0) (poll_numbers subscriptions)) ∙ some))
barren c constants v who table own is many some = absurd (not_true some)

-- ---- what a call makes

-- a part of a node among the parts of an object has the object's number
number_of : (o n : ℕ) (part : Part) → IsPartOf n part → has_part (object_parts o) part ≡ true → o ≡ n
number_of o n part (inl is) h = node_number o n (subst (λ q. has_part (object_parts o) q ≡ true) is h) where
  node_number : (o n : ℕ) → has_part (object_parts o) (at_node n) ≡ true → o ≡ n
  node_number o n h =
      elim (eqb_tells n o) [
        | inl same ↦ sym same.1
        | inr other ↦ absurd (not_true (sym (ap (λ b. b || false) (number_apart o n other.1)) ∙ h))
      ]
number_of o n part (inr is) h = names_number o n (subst (λ q. has_part (object_parts o) q ≡ true) is h) where
  names_number : (o n : ℕ) → has_part (object_parts o) (at_names n) ≡ true → o ≡ n
  names_number o n h =
      elim (eqb_tells n o) [
        | inl same ↦ sym same.1
        | inr other ↦ absurd (not_true (sym (ap (λ b. b || false) (number_apart o n other.1)) ∙ h))
      ]

no_child : (child : Option ℕ) (n : ℕ) (part : Part) → IsPartOf n part → has_part (child_parts child) part ≡ true → ⊥
no_child None n part of h = not_true h
no_child (Some q) n part (inl is) h = not_true (subst (λ x. has_part (child_parts (Some q)) x ≡ true) is h)
no_child (Some q) n part (inr is) h = not_true (subst (λ x. has_part (child_parts (Some q)) x ≡ true) is h)

unrefused : (r : Option Reply) (parts : List Part) (q : Part) → has_part (unless_refused r parts) q ≡ true → (r ≡ None) × (has_part parts q ≡ true)
unrefused None parts q h = (refl, h)
unrefused (Some reply) parts q h = absurd (not_true h)

-- there are fewer objects of a process before the launch's nodes
many_made : (p objects k n : ℕ) → p < 0xffffffff → k < 5 → ROOT ≤ n → p * 2 ^ 32 + (objects + k) ≡ n → 2 ^ 32 ≤ objects
many_made p objects k n small few from is = omega (arith, small, few, from, is)

module _ (S : State) (who : Who) (c : Call) (own : ProcessState) (valid : IsValid S) (made : get S.processes who.pid ≡ Some own)
    (n : ℕ) (from : ROOT ≤ n) (part : Part) (of : IsPartOf n part) where
  -- of the objects that the call makes one has the node's number
  parts_many : has_part (made_parts (meaning_of c).own who.pid (meaning_of c).numbers (get S.processes who.pid)) part ≡ true
      → (2 ^ 32 ≤ own.counts.objects) × (nat_lt 0 (meaning_of c).numbers ≡ true)
  parts_many h =
      let child = child_parts (born_of (meaning_of c).own who.pid (get S.processes who.pid)) in
      let objects = new_parts who.pid (meaning_of c).numbers (get S.processes who.pid) in
      elim (either_true (has_part child part) (has_part objects part) (sym (has_of_both child objects part) ∙ h)) [
        | inl born ↦ absurd (no_child (born_of (meaning_of c).own who.pid (get S.processes who.pid)) n part of born)
        | inr object ↦ (
            let new = new_part_is who.pid (meaning_of c).numbers (get S.processes who.pid) part object in
            let counted : (counts_in (get S.processes who.pid)).objects ≡ own.counts.objects = ap (λ o. (counts_in o).objects) made in
            let number : who.pid * 2 ^ 32 + ((counts_in (get S.processes who.pid)).objects + new.0) ≡ n =
            number_of (next_object who.pid (get S.processes who.pid) new.0) n part of new.3 in
            let few = ltb-true (meaning_of c).numbers 5 (few_numbers c) in
            let some : 1 ≤ new.0 = new.1 in
            let within : new.0 ≤ (meaning_of c).numbers = new.2 in
            let small = process_is_small S who.pid own valid.nearly made in (
              many_made who.pid own.counts.objects new.0 n small (omega (arith, few, within)) from
                  (ap (λ objects. who.pid * 2 ^ 32 + (objects + new.0)) (sym counted) ∙ number),
              lt-ltb 0 (meaning_of c).numbers (omega (arith, some, within)),
            ))
      ]

  effect_none : (constants : Constants) (table : Table) (r : Option Reply)
      → has_part (unless_refused r (made_parts (meaning_of c).own who.pid (meaning_of c).numbers (get S.processes who.pid))) part ≡ true
      → (unless r ((meaning_of c).effect constants (whole (tick S)) who table)).updates ≡ []
  effect_none constants table None h =
      let counts = parts_many h in barren c constants (whole (tick S)) who table own made counts.0 counts.1
  effect_none constants table (Some reply) h = refl

  outcome_none : (constants : Constants) (t : Option Table) → has_part (made_on S who c t) part ≡ true
      → (outcome_on constants (whole (tick S)) who c t).updates ≡ []
  outcome_none constants None h = refl
  outcome_none constants (Some table) h = effect_none constants table (refusal table c) h

  -- where the part is among what the call makes, it sets nothing
  sets_none : (constants : Constants) → has_part (made_by S who c) part ≡ true → (outcome constants S who c).updates ≡ []
  sets_none constants h = ap (λ (o : Outcome). o.updates) (outcome_reads constants S who c) ∙ outcome_none constants (get S.tables who.pid) h

some_own : (S : State) (p : ℕ) → IsValid S → get S.statuses p ≡ Some Live → (o : Option ProcessState) → get S.processes p ≡ o
    → (own : ProcessState) × (get S.processes p ≡ Some own)
some_own S p valid live None none = absurd (not_true (sym (ap is_some none) ∙ valid.nearly.owns p ∙ ap lives live))
some_own S p valid live (Some own) there = (own, there)

-- where a part of one of the launch's nodes is among what a call makes, the call sets nothing
pub made_sets_none : (constants : Constants) (S : State) (who : Who) (c : Call) (n : ℕ) (part : Part) → IsValid S → get S.statuses who.pid ≡ Some Live
    → ROOT ≤ n → IsPartOf n part → has_part (made_by S who c) part ≡ true → (outcome constants S who c).updates ≡ []
made_sets_none constants S who c n part valid live from of h =
    let own = some_own S who.pid valid live (get S.processes who.pid) refl in sets_none S who c own.0 valid own.1 n from part of constants h
