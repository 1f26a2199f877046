-- How the holders change as descriptors are let go.
use Rattle.std.proofs.Common.{◌≡◌, ℕ, ◌+◌, ◌-◌, ◌==◌, ◌<◌, ◌≤◌, cond, eq-eqb, Option, None, Some, IsSome, refl, sym, ap, subst, ◌∙◌, inl, inr, arith}
use Rattle.std.proofs.lemmas.Bool.Decides.{eqb_tells}
use Rattle.std.specs.Ordering.{nat_cmp}
use Rattle.std.specs.FinMap.{FinMap, get, insert, remove}
use Rattle.abi_types.specs.declared.descriptor.Descriptor.{Descriptor}
use Rattle.maps.specs.Maps.{number, weight, get-insert-same, get-insert-other, get-remove-same, get-remove-other, total-insert, total-insert_new, total-remove, total_at_least}
use Rattle.kernel_model.specs.Release.{names_open, count_in}
use Rattle.kernel_model.specs.State.{Table}
use Rattle.channel_calls.proofs.Holders.{number-let_go}
use Rattle.kernel_parts.specs.Changes.{IsMoved}

-- a descriptor that leaves a table names one open less there
pub count_in-remove : (o : ℕ) (table : Table) (n : ℕ) (d : Descriptor) → get table n ≡ Some d
    → count_in o (remove table n) + names_open o d ≡ count_in o table
count_in-remove o table n d there = ap (λ v. count_in o (remove table n) + weight (names_open o) v) (sym there) ∙ total-remove (names_open o) table n

-- a descriptor of a table is counted at its open
pub counted_at_own : (table : Table) (n : ℕ) (d : Descriptor) → get table n ≡ Some d → 1 ≤ count_in d.id table
counted_at_own table n d there =
    let one : names_open d.id d ≡ 1 = ap (λ b. cond b 1 0) (eq-eqb d.id d.id refl) in
    let least = total_at_least (names_open d.id) table n d there in
    omega (arith, one, least)

-- ---- holders that change with a table

-- a descriptor that leaves the table is let go
pub moved_away : (table : Table) (n : ℕ) (d : Descriptor) (counts : FinMap nat_cmp ℕ) → get table n ≡ Some d
    → ((o : ℕ) → count_in o table ≤ number (get counts o)) → IsMoved table (remove table n) counts (insert counts d.id (number (get counts d.id) - 1))
moved_away table n d counts there covered o =
    let own = counted_at_own table n d there in
    let some : 0 < number (get counts d.id) = omega (arith, own, covered d.id) in
    let less = number-let_go counts d o some in
    let left = count_in-remove o table n d there in
    omega (arith, less, left)

-- one holder more at one open
pub number-hold : (counts : FinMap nat_cmp ℕ) (d : Descriptor) (o : ℕ)
    → number (get (insert counts d.id (number (get counts d.id) + 1)) o) ≡ number (get counts o) + names_open o d
number-hold counts d o =
    elim (eqb_tells d.id o) [
      | inl h ↦
          let own = ap number (ap (get (insert counts d.id (number (get counts d.id) + 1))) (sym h.1) ∙ get-insert-same counts d.id _) in
          let one : names_open o d ≡ 1 = ap (λ b. cond b 1 0) h.0 in
          let same : number (get counts d.id) ≡ number (get counts o) = ap (λ x. number (get counts x)) h.1 in
          omega (arith, own, one, same)
      | inr h ↦
          let other = ap number (get-insert-other counts d.id (number (get counts d.id) + 1) o (λ e. h.1 (sym e))) in
          let none : names_open o d ≡ 0 = ap (λ b. cond b 1 0) h.0 in
          omega (arith, other, none)
    ]

-- a descriptor that comes to a free number is held
pub moved_in : (table : Table) (n : ℕ) (d : Descriptor) (counts : FinMap nat_cmp ℕ) → get table n ≡ None
    → IsMoved table (insert table n d) counts (insert counts d.id (number (get counts d.id) + 1))
moved_in table n d counts free o =
    let more = number-hold counts d o in
    let grown = total-insert_new (names_open o) table n d free in
    omega (arith, more, grown)

-- a descriptor that takes another's place
pub count_in-insert : (o : ℕ) (table : Table) (n : ℕ) (d e : Descriptor) → get table n ≡ Some e
    → count_in o (insert table n d) + names_open o e ≡ count_in o table + names_open o d
count_in-insert o table n d e there =
    ap (λ v. count_in o (insert table n d) + weight (names_open o) v) (sym there) ∙ total-insert (names_open o) table n d

-- an open that is held once more is held
pub held_more : (counts : FinMap nat_cmp ℕ) (d e : Descriptor) → 0 < number (get counts e.id) → 0 < number (get (insert counts d.id (number (get counts d.id) + 1)) e.id)
held_more counts d e some = let more = number-hold counts d e.id in omega (arith, more, some)

pub moved_over : (table : Table) (n : ℕ) (d e : Descriptor) (counts held : FinMap nat_cmp ℕ) → get table n ≡ Some e → 0 < number (get counts e.id)
    → held ≡ insert counts d.id (number (get counts d.id) + 1)
    → IsMoved table (insert table n d) counts (insert held e.id (number (get held e.id) - 1))
moved_over table n d e counts held there some is o =
    let more : number (get held o) ≡ number (get counts o) + names_open o d = ap (λ (m : FinMap nat_cmp ℕ). number (get m o)) is ∙ number-hold counts d o in
    let kept : 0 < number (get held e.id) = subst (λ (m : FinMap nat_cmp ℕ). 0 < number (get m e.id)) (sym is) (held_more counts d e some) in
    let less = number-let_go held e o kept in
    let grown = count_in-insert o table n d e there in
    omega (arith, more, less, grown)

-- a descriptor whose rights alone change
pub same_counted : (o : ℕ) (table : Table) (n : ℕ) (d e : Descriptor) → get table n ≡ Some e → d.id ≡ e.id → count_in o (insert table n d) ≡ count_in o table
same_counted o table n d e there same =
    let grown = count_in-insert o table n d e there in
    let alike : names_open o d ≡ names_open o e = ap (λ (x : ℕ). cond (x == o) 1 0) same in
    omega (arith, grown, alike)

-- what a table names has a count
pub some_count : (table : Table) (n : ℕ) (d : Descriptor) (counts : FinMap nat_cmp ℕ) → get table n ≡ Some d
    → ((o : ℕ) → count_in o table ≤ number (get counts o)) → 0 < number (get counts d.id)
some_count table n d counts there covered = let own = counted_at_own table n d there in omega (arith, own, covered d.id)

count_there : (o : Option ℕ) → 0 < number o → IsSome o
count_there None some = absurd (omega (arith, some))
count_there (Some k) some = refl

pub counted_there : (table : Table) (n : ℕ) (d : Descriptor) (counts : FinMap nat_cmp ℕ) → get table n ≡ Some d
    → ((o : ℕ) → count_in o table ≤ number (get counts o)) → IsSome (get counts d.id)
counted_there table n d counts there covered = count_there (get counts d.id) (some_count table n d counts there covered)

-- ---- an open that comes, and goes again

-- a count of 0 is the same as none
pub zero_added : (counts : FinMap nat_cmp ℕ) (n o : ℕ) → number (get counts n) ≡ 0 → number (get (insert counts n 0) o) ≡ number (get counts o)
zero_added counts n o none =
    elim (eqb_tells o n) [
      | inl h ↦ ap (λ k. number (get (insert counts n 0) k)) h.1 ∙ ap number (get-insert-same counts n 0) ∙ sym none ∙ ap (λ k. number (get counts k)) (sym h.1)
      | inr h ↦ ap number (get-insert-other counts n 0 o h.1)
    ]

-- a descriptor that came to a free number, and its open, go again
pub number-back : (table : Table) (n : ℕ) (d : Descriptor) (before after : FinMap nat_cmp ℕ) → get table n ≡ None → number (get before d.id) ≡ 0
    → IsMoved table (insert table n d) before after → (o : ℕ) → number (get (remove after d.id) o) ≡ number (get before o)
number-back table n d before after free none moved o =
    elim (eqb_tells d.id o) [
      | inl h ↦ ap (λ k. number (get (remove after d.id) k)) (sym h.1) ∙ ap number (get-remove-same after d.id) ∙ sym none ∙ ap (λ k. number (get before k)) h.1
      | inr h ↦ (
          let apart : names_open o d ≡ 0 = ap (λ b. cond b 1 0) h.0 in
          let grown = total-insert_new (names_open o) table n d free in
          let same = moved o in
          let gone = ap number (get-remove-other after d.id o (λ e. h.1 (sym e))) in
          omega (arith, apart, grown, same, gone))
    ]
