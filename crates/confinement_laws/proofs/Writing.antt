-- What a call touches of the file tree lies behind descriptors of which it needs a right.
--     HasNoTree parts, NoTree m, no_tree_part      no node and no names are among the parts;  so it is of all that such a call touches
--     IsWritingRow, Treats      a row of which a right is one by which trees are changed;  how a call treats the tree
--     changed_by, changed_is_touched, made_is_touched, changed_is_seen      what a call that isn't refused may change
--     by_rows      what a call sees of the tree whose rows all are such it sees by such a right
use Rattle.std.proofs.Common.{◌≡◌, ◌⊎◌, inl, inr, ℕ, ◌||◌, true, false, List, [], ◌∷◌, ◌++◌, Option, Some, None, refl, sym, ap, subst, ◌∙◌}
use Rattle.std.specs.Prelude.{⊤}
use Rattle.std.specs.FinMap.{get}
use Rattle.std.specs.List.{AllByRecursion}
use Rattle.abi_base.specs.Rights.{Has}
use Rattle.abi_types.specs.declared.call.Call.{Call}
use Rattle.abi_types.specs.declared.needed.Needed.{Needed}
use Rattle.abi_types.specs.declared.reply.Reply.{Reply}
use Rattle.abi_types.specs.declared.who.Who.{Who}
use Rattle.kernel_model.specs.Calls.{meaning_of, need, refusal, seen}
use Rattle.kernel_model.specs.Laws.{IsReachedBy}
use Rattle.kernel_model.specs.Meaning.{Meaning}
use Rattle.kernel_model.specs.OwnChanges.{made_parts}
use Rattle.kernel_model.specs.Sight.{process_parts, reached}
use Rattle.kernel_model.specs.State.{State, Table, Part, at_names, at_node, has_part}
use Rattle.kernel_model.specs.Step.{changed, made_by, made_on, reach, sight, touch, unless_refused}
use Rattle.kernel_model.proofs.Calls.{proper}
use Rattle.kernel_model.proofs.Lists.{in_all}
use Rattle.kernel_model.proofs.Parts.{has_left, has_of_both, has_right}
use Rattle.kernel_model.proofs.Reaches.{sight_is_reached}
use Rattle.kernel_model.proofs.Tests.{either_true, not_true}
use Rattle.confinement_laws.specs.Leading.{IsWriting}
use Rattle.confinement_laws.specs.Untouched.{IsOfTree, IsWrittenBy, LeavesTree}

-- ---- parts beside the tree

-- no node and no names are among the parts
abbrev pub HasNoTree : List Part → Type 0
HasNoTree parts = (n : ℕ) → (has_part parts (at_node n) ≡ false) × (has_part parts (at_names n) ≡ false)

-- nothing of the tree is among all that a call of this meaning may change
abbrev pub NoTree : Meaning → Type 0
NoTree m = (S : State) (table : Table) → HasNoTree (m.touched S table)

pub no_tree_part : (parts : List Part) (q : Part) → IsOfTree q → HasNoTree parts → has_part parts q ≡ false
no_tree_part parts q of none =
    elim of.1 [
      | inl is ↦ ap (has_part parts) is ∙ (none of.0).0
      | inr is ↦ ap (has_part parts) is ∙ (none of.0).1
    ]

-- a part that neither list has
pub neither : (xs ys : List Part) (q : Part) → has_part xs q ≡ false → has_part ys q ≡ false → has_part (xs ++ ys) q ≡ false
neither xs ys q first second = has_of_both xs ys q ∙ ap (λ b. b || has_part ys q) first ∙ second

pub both_beside : (xs ys : List Part) → HasNoTree xs → HasNoTree ys → HasNoTree (xs ++ ys)
both_beside xs ys first second n =
    (neither xs ys (at_node n) (first n).0 (second n).0, neither xs ys (at_names n) (first n).1 (second n).1)

-- what is a process's own is no part of the tree
own_apart : {X : Type 0} (p : ℕ) (q : Part) → IsOfTree q → has_part (process_parts p) q ≡ true → X
own_apart p q of own = absurd (not_true (sym (no_tree_part (process_parts p) q of (λ n. (refl, refl))) ∙ own))

-- ---- how calls treat the tree

-- a right of the row, or one that it asks of those that the descriptor passes on, is one by which trees are changed
pub record IsWritingRow (row : Needed) : Type 0 where
  pub k : ℕ
  pub writing : IsWriting k
  pub needs : Has row.base.0 k ⊎ Has row.inheriting.0 k

abbrev pub AreSome : List Needed → Type 0
AreSome [] = ⊥
AreSome (row ∷ rows) = ⊤

-- The call needs such a right of each of its descriptors, it touches nothing of the tree, or it leaves the tree as it is.
pub data Treats (call : Call) : Type 0 where
  by_right : AreSome (need call) → AllByRecursion IsWritingRow (need call) → Treats call
  beside : NoTree (meaning_of call) → Treats call
  leaves : ((S : State) (who : Who) → LeavesTree S who call) → Treats call

-- ---- what a call may change that isn't refused

unrefused : (r : Option Reply) (parts : List Part) (q : Part) → has_part (unless_refused r parts) q ≡ true → (r ≡ None) × (has_part parts q ≡ true)
unrefused None parts q h = (refl, h)
unrefused (Some reply) parts q h = absurd (not_true h)

-- it isn't refused by its process's table, and says that it may change the part
pub record MayChange (S : State) (who : Who) (call : Call) (q : Part) : Type 0 where
  pub table : Table
  pub own : get S.tables who.pid ≡ Some table
  pub free : refusal table call ≡ None
  pub part : has_part ((meaning_of call).touched S table) q ≡ true

pub changed_by : (S : State) (who : Who) (call : Call) (t : Option Table) (q : Part) → get S.tables who.pid ≡ t → has_part (changed S call t) q ≡ true
    → MayChange S who call q
changed_by S who call None q own h = absurd (not_true h)
changed_by S who call (Some table) q own h =
    let both = unrefused (refusal table call) ((meaning_of call).touched S table) q h in
    record { table = table; own = own; free = both.0; part = both.1 }

-- what is touched of the tree, and isn't made, it says that it may change
pub touched_is_changed : (S : State) (who : Who) (call : Call) (q : Part) → IsOfTree q → has_part (touch S who call) q ≡ true
    → has_part (made_by S who call) q ≡ false → MayChange S who call q
unfolding touch
touched_is_changed S who call q of h unmade =
    let made : List Part = made_by S who call in
    let rest : List Part = changed S call (get S.tables who.pid) in
    elim (either_true (has_part (process_parts who.pid) q) (has_part (made ++ rest) q) (sym (has_of_both (process_parts who.pid) (made ++ rest) q) ∙ h)) [
      | inl own ↦ own_apart who.pid q of own
      | inr beyond ↦ changed_by S who call (get S.tables who.pid) q refl (sym (has_of_both made rest q ∙ ap (λ b. b || has_part rest q) unmade) ∙ beyond)
    ]

module _ (S : State) (who : Who) (call : Call) (table : Table) (own : get S.tables who.pid ≡ Some table) (free : refusal table call ≡ None) (q : Part) where
  pub changed_is_touched : has_part ((meaning_of call).touched S table) q ≡ true → has_part (touch S who call) q ≡ true
  unfolding touch
  changed_is_touched h =
      let rest : List Part = changed S call (get S.tables who.pid) in
      has_right (process_parts who.pid) (made_by S who call ++ rest) q
      (has_right (made_by S who call) rest q
      (ap (λ t. has_part (changed S call t) q) own ∙ ap (λ r. has_part (unless_refused r ((meaning_of call).touched S table)) q) free ∙ h))

  -- what it may make
  abbrev made : List Part
  made = made_parts (meaning_of call).own who.pid (meaning_of call).numbers (get S.processes who.pid)

  pub made_is_by : has_part made q ≡ true → has_part (made_by S who call) q ≡ true
  made_is_by h = ap (λ t. has_part (made_on S who call t) q) own ∙ ap (λ r. has_part (unless_refused r made) q) free ∙ h

  pub made_is_touched : has_part made q ≡ true → has_part (touch S who call) q ≡ true
  unfolding touch
  made_is_touched h =
      let rest : List Part = changed S call (get S.tables who.pid) in
      has_right (process_parts who.pid) (made_by S who call ++ rest) q (has_left (made_by S who call) rest q (made_is_by h))

  pub changed_is_seen : has_part ((meaning_of call).touched S table) q ≡ true → has_part (sight S who call) q ≡ true
  unfolding sight
  changed_is_seen h =
      has_right (process_parts who.pid) (reach S call (get S.tables who.pid)) q
      (ap (λ t. has_part (reach S call t) q) own ∙ ap (λ r. has_part (unless_refused r (reached S table (seen call))) q) free
      ∙ (proper call).touched S table q h)

-- ---- by such rights

reached_by_rows : (S : State) (who : Who) (call : Call) (q : Part) → AreSome (need call) → AllByRecursion IsWritingRow (need call)
    → IsReachedBy S who call q → IsWrittenBy S who call q
reached_by_rows S who call q some all r =
    elim r.3 [
      | inl by ↦ let row : IsWritingRow by.row = in_all IsWritingRow by.row (need call) all by.asked in
          record {
            table = r.0;
            own = r.1;
            row = by.row;
            asked = by.asked;
            k = row.k;
            writing = row.writing;
            needs = row.needs;
            d = by.d;
            there = by.there;
            has = by.has;
            reached = by.part;
          }
      | inr by ↦ absurd (subst AreSome by.none some)
    ]

pub by_rows : (S : State) (who : Who) (call : Call) (q : Part) → IsOfTree q → AreSome (need call) → AllByRecursion IsWritingRow (need call)
    → has_part (sight S who call) q ≡ true → IsWrittenBy S who call q
by_rows S who call q of some all h =
    elim (sight_is_reached S who call q h) [
      | inl own ↦ own_apart who.pid q of own
      | inr by ↦ reached_by_rows S who call q some all by
    ]
