-- How the counts of what is held change with one descriptor.
--     number-let_go      one holder less at one open
--     first_counts      the first of some descriptors is counted at its open
--     number-hold, zero_added, number-back, other_unheld      an end that comes, and goes again
use Rattle.std.proofs.Common.{◌≡◌, ◌≢◌, ℕ, ◌+◌, ◌-◌, ◌<◌, ◌≤◌, cond, eq-eqb, List, ◌∷◌, None, sym, refl, ap, ◌∙◌, inl, inr, arith}
use Rattle.std.proofs.lemmas.Bool.Decides.{eqb_tells}
use Rattle.std.specs.Ordering.{nat_cmp}
use Rattle.std.specs.FinMap.{FinMap, get, insert, remove}
use Rattle.abi_types.specs.declared.descriptor.Descriptor.{Descriptor}
use Rattle.maps.specs.Maps.{number, get-insert-same, get-insert-other, get-remove-same, get-remove-other, total-insert_new}
use Rattle.kernel_model.specs.Release.{count_carried, count_in, names_open}
use Rattle.kernel_model.specs.State.{Table}

pub number-let_go : (counts : FinMap nat_cmp ℕ) (d : Descriptor) (o : ℕ) → 0 < number (get counts d.id)
    → number (get (insert counts d.id (number (get counts d.id) - 1)) o) + names_open o d ≡ number (get counts o)
number-let_go counts d o some =
    elim (eqb_tells d.id o) [
      | inl h ↦
          let own = ap number (ap (get (insert counts d.id (number (get counts d.id) - 1))) (sym h.1) ∙ get-insert-same counts d.id _) in
          let one : names_open o d ≡ 1 = ap (λ b. cond b 1 0) h.0 in
          let same : number (get counts d.id) ≡ number (get counts o) = ap (λ x. number (get counts x)) h.1 in
          omega (arith, own, one, same)
      | inr h ↦
          let other = ap number (get-insert-other counts d.id (number (get counts d.id) - 1) o (λ e. h.1 (sym e))) in
          let none : names_open o d ≡ 0 = ap (λ b. cond b 1 0) h.0 in
          omega (arith, other, none)
    ]

pub first_counts : (d : Descriptor) (ds : List Descriptor) → 1 ≤ count_carried d.id (d ∷ ds)
first_counts d ds =
    let one : names_open d.id d ≡ 1 = ap (λ b. cond b 1 0) (eq-eqb d.id d.id refl) in
    omega (arith, one)

-- ---- an end that comes, and goes again

-- one holder more at one open
pub number-hold : (counts : FinMap nat_cmp ℕ) (d : Descriptor) (o : ℕ)
    → number (get (insert counts d.id (number (get counts d.id) + 1)) o) ≡ number (get counts o) + names_open o d
number-hold counts d o =
    elim (eqb_tells d.id o) [
      | inl h ↦
          let own = ap number (ap (get (insert counts d.id (number (get counts d.id) + 1))) (sym h.1) ∙ get-insert-same counts d.id _) in
          let one : names_open o d ≡ 1 = ap (λ b. cond b 1 0) h.0 in
          let same : number (get counts d.id) ≡ number (get counts o) = ap (λ x. number (get counts x)) h.1 in
          omega (arith, own, one, same)
      | inr h ↦
          let other = ap number (get-insert-other counts d.id (number (get counts d.id) + 1) o (λ e. h.1 (sym e))) in
          let none : names_open o d ≡ 0 = ap (λ b. cond b 1 0) h.0 in
          omega (arith, other, none)
    ]

-- a count of 0 is the same as none
pub zero_added : (counts : FinMap nat_cmp ℕ) (n o : ℕ) → number (get counts n) ≡ 0 → number (get (insert counts n 0) o) ≡ number (get counts o)
zero_added counts n o none =
    elim (eqb_tells o n) [
      | inl h ↦ ap (λ k. number (get (insert counts n 0) k)) h.1 ∙ ap number (get-insert-same counts n 0) ∙ sym none ∙ ap (λ k. number (get counts k)) (sym h.1)
      | inr h ↦ ap number (get-insert-other counts n 0 o h.1)
    ]

-- the counts have changed as the holders in a table have
abbrev pub IsHeld : Table → Table → FinMap nat_cmp ℕ → FinMap nat_cmp ℕ → Type 0
IsHeld table new before after = (o : ℕ) → number (get after o) + count_in o table ≡ number (get before o) + count_in o new

-- a descriptor that came to a free number, and its open, go again
pub number-back : (table : Table) (n : ℕ) (d : Descriptor) (before after : FinMap nat_cmp ℕ) → get table n ≡ None → number (get before d.id) ≡ 0
    → IsHeld table (insert table n d) before after → (o : ℕ) → number (get (remove after d.id) o) ≡ number (get before o)
number-back table n d before after free none moved o =
    elim (eqb_tells d.id o) [
      | inl h ↦ ap (λ k. number (get (remove after d.id) k)) (sym h.1) ∙ ap number (get-remove-same after d.id) ∙ sym none ∙ ap (λ k. number (get before k)) h.1
      | inr h ↦ (
          let apart : names_open o d ≡ 0 = ap (λ b. cond b 1 0) h.0 in
          let grown = total-insert_new (names_open o) table n d free in
          let same = moved o in
          let gone = ap number (get-remove-other after d.id o (λ e. h.1 (sym e))) in
          omega (arith, apart, grown, same, gone))
    ]

-- and nothing holds another open by it
pub other_unheld : (table : Table) (n : ℕ) (d : Descriptor) (before after : FinMap nat_cmp ℕ) (o : ℕ) → get table n ≡ None → o ≢ d.id
    → IsHeld table (insert table n d) before after → number (get before o) ≡ 0 → number (get after o) ≡ 0
other_unheld table n d before after o free other moved none =
    elim (eqb_tells d.id o) [
      | inl h ↦ absurd (other (sym h.1))
      | inr h ↦ (
          let apart : names_open o d ≡ 0 = ap (λ b. cond b 1 0) h.0 in
          let grown = total-insert_new (names_open o) table n d free in
          let same = moved o in
          omega (arith, apart, grown, same, none))
    ]
