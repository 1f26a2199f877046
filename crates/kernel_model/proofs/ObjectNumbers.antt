-- The numbers of the objects that a process makes.
--     numbers_fit      where it can make so many more, their numbers fit
--     IsNewPart, new_part_is      each part of what it makes next is one of an object of these
--     next_is_absent      no open and no node has the number of an object that it makes next
--     none_of_new, parts_are_absent      nor is there any part of what it makes
use Rattle.std.proofs.Common.{◌≡◌, ℕ, zero, suc, ◌+◌, ◌^◌, ◌<◌, ◌≤◌, Bool, true, false, [], ◌∷◌, Option, Some, None, IsSome, inl, inr, refl, sym, ap, subst, ◌∙◌, arith}
use Rattle.std.proofs.lemmas.Bool.{ltb-true}
use Rattle.std.specs.Prelude.{nat_lt, ◌&&◌}
use Rattle.std.specs.FinMap.{get}
use Rattle.tree_model.specs.Tree.{is_directory_node}
use Rattle.kernel_model.specs.Laws.{IsNotThere}
use Rattle.kernel_model.specs.Families.Numbers.{can_number, next_object, new_parts, object_parts}
use Rattle.kernel_model.specs.State.{State, ProcessState, Part, at_open, at_node, at_names, at_chan, same_part, counts_in, has_part}
use Rattle.kernel_model.specs.Valid.{has_ended, IsNearlyValid, IsUncounted}
use Rattle.kernel_model.proofs.Parts.{has_of_both, same_part_is}
use Rattle.kernel_model.proofs.Tests.{not_true, either_true}
use Rattle.kernel_model.proofs.Valids.{owner_lives}

both_hold : (a b : Bool) → (a && b) ≡ true → (a ≡ true) × (b ≡ true)
both_hold true b h = (refl, h)
both_hold false b h = absurd (not_true h)

-- ---- numbers that fit

pub numbers_fit : (p count : ℕ) (own : Option ProcessState) → can_number p (suc count) own ≡ true
    → (p < 0xffffffff) × ((counts_in own).objects + suc count < 2 ^ 32)
numbers_fit p count None h = absurd (not_true h)
numbers_fit p count (Some own) h =
    let both = both_hold (nat_lt p 0xffffffff) (nat_lt (own.counts.objects + suc count) (2 ^ 32)) h in
    (ltb-true p 0xffffffff both.0, ltb-true (own.counts.objects + suc count) (2 ^ 32) both.1)

-- where so many can be made, fewer can be
pub fewer_fit : (p few more : ℕ) (own : Option ProcessState) → 1 ≤ few → few ≤ more → can_number p more own ≡ true
    → (p < 0xffffffff) × ((counts_in own).objects + few < 2 ^ 32)
fewer_fit p few zero own some within h = absurd (omega (arith, some, within))
fewer_fit p few (suc more) own some within h =
    let fits = numbers_fit p more own h in
    (fits.0, omega (arith, within, fits.1))

-- ---- the parts of what is made

-- a part of one of the objects that are made next
abbrev pub IsNewPart : ℕ → ℕ → Option ProcessState → Part → Type 0
IsNewPart p count own q = (k : ℕ) × (1 ≤ k) × (k ≤ count) × (has_part (object_parts (next_object p own k)) q ≡ true)

pub new_part_is : (p count : ℕ) (own : Option ProcessState) (q : Part) → has_part (new_parts p count own) q ≡ true → IsNewPart p count own q
new_part_is p zero own q h = absurd (not_true h)
new_part_is p (suc count) own q h =
    let first = object_parts (next_object p own (suc count)) in
    elim (either_true (has_part first q) (has_part (new_parts p count own) q) (sym (has_of_both first (new_parts p count own) q) ∙ h)) [
      | inl here ↦ (suc count, omega arith, omega arith, here)
      | inr later ↦ (let rest = new_part_is p count own q later in (rest.0, rest.1, (let within : rest.0 ≤ count = rest.2 in omega (arith, within)), rest.3))
    ]

-- ---- what isn't there

-- a process that can make some objects has not ended
has_own : (p count : ℕ) (own : Option ProcessState) → 1 ≤ count → can_number p count own ≡ true → (some : ProcessState) × (own ≡ Some some)
has_own p zero own some can = absurd (omega (arith, some))
has_own p (suc count) None some can = absurd (not_true can)
has_own p (suc count) (Some own) some can = (own, refl)

pub next_is_absent : (S : State) (p k count : ℕ) → IsNearlyValid S → 1 ≤ k → k ≤ count → can_number p count (get S.processes p) ≡ true
    → (get S.opens (next_object p (get S.processes p) k) ≡ None) × (get S.nodes (next_object p (get S.processes p) k) ≡ None)
    × (get S.chans (next_object p (get S.processes p) k) ≡ None)
next_is_absent S p k count v some within can =
    let made : ℕ = (counts_in (get S.processes p)).objects in
    let fits = fewer_fit p k count (get S.processes p) some within can in
    let own = has_own p count (get S.processes p) (omega (arith, some, within)) can in
    let beyond : IsUncounted S p (made + k) = (ap has_ended (owner_lives S p own.0 v own.1), omega (arith, some)) in
    (v.made p (made + k) fits.0 beyond fits.1, v.made_nodes p (made + k) fits.0 beyond fits.1, v.made_channels p (made + k) fits.0 beyond fits.1)

absent : {X : Type 0} (o : Option X) → (IsSome o → ⊥) → o ≡ None
absent None h = refl
absent (Some x) h = absurd (h refl)

-- where there is no node there are no names
pub no_names : (S : State) (n : ℕ) → IsNearlyValid S → get S.nodes n ≡ None → get S.names n ≡ None
no_names S n v none =
    absent (get S.names n) (λ there. not_true (sym (ap is_directory_node none) ∙ (v.tree.directories n).0 there))

pub none_of_new : (S : State) (o : ℕ) (q : Part) → get S.opens o ≡ None → get S.nodes o ≡ None → get S.names o ≡ None → get S.chans o ≡ None
    → has_part (object_parts o) q ≡ true → IsNotThere S q
none_of_new S o q no_open no_node no_names no_channel h =
    elim (either_true (same_part (at_open o) q) (has_part (at_node o ∷ at_names o ∷ at_chan o ∷ []) q) h) [
      | inl is ↦ subst (IsNotThere S) (same_part_is (at_open o) q is) no_open
      | inr more ↦ elim (either_true (same_part (at_node o) q) (has_part (at_names o ∷ at_chan o ∷ []) q) more) [
        | inl is ↦ subst (IsNotThere S) (same_part_is (at_node o) q is) no_node
        | inr last ↦ elim (either_true (same_part (at_names o) q) (has_part (at_chan o ∷ []) q) last) [
          | inl is ↦ subst (IsNotThere S) (same_part_is (at_names o) q is) no_names
          | inr channel ↦ elim (either_true (same_part (at_chan o) q) false channel) [
            | inl is ↦ subst (IsNotThere S) (same_part_is (at_chan o) q is) no_channel
            | inr none ↦ absurd (not_true none)
          ]
        ]
      ]
    ]

pub parts_are_absent : (S : State) (p count : ℕ) (q : Part) → IsNearlyValid S → can_number p count (get S.processes p) ≡ true
    → has_part (new_parts p count (get S.processes p)) q ≡ true → IsNotThere S q
parts_are_absent S p count q v can h =
    let new = new_part_is p count (get S.processes p) q h in
    let none = next_is_absent S p new.0 count v new.1 new.2 can in
    none_of_new S (next_object p (get S.processes p) new.0) q none.0 none.1
    (no_names S (next_object p (get S.processes p) new.0) v none.1) none.2 new.3
