-- What a launch's grants leave in the table and among the opens.
use Rattle.std.proofs.Common.{◌≡◌, ◌≢◌, inl, inr, ℕ, ◌+◌, ◌^◌, ◌<◌, cond, IsSome, List, [], ◌∷◌, length, sym, ap, subst, ◌∙◌, arith}
use Rattle.std.proofs.lemmas.Bool.Decides.{eqb_tells}
use Rattle.std.specs.Ordering.{nat_cmp}
use Rattle.std.specs.Cmp.{nat_cmp_total}
use Rattle.std.specs.FinMap.{FinMap, get, get-empty, get-from_entries, insert, empty, from_entries}
use Rattle.abi_base.specs.declared.grant.Grant.{Grant}
use Rattle.channel_calls.specs.Calls.{AreFew, carriers_in}
use Rattle.maps.specs.Maps.{number, get-insert-same, get-insert-other, total, total-empty, total-insert_new}
use Rattle.kernel_invariant.specs.Held.{IsKept}
use Rattle.fd_table.specs.Sizes.{KeysBelow, below-empty, below-insert, none_there}
use Rattle.kernel_model.proofs.Tests.{none_is_no}
use Rattle.kernel_parts.specs.Start.{granted_objects}
use Rattle.kernel_invariant.proofs.Kept.{AreSmall, small_set}
use Rattle.kernel_model.specs.Release.{carried_in, carriers, names_open, count_in, holders}
use Rattle.tree_model.specs.Grants.{AreGrants, MayBegin}
use Rattle.kernel_model.specs.Start.{first_open, numbered, granted_descriptor, granted_table, start_state}
use Rattle.kernel_model.specs.State.{State, Table, Tree}
use Rattle.kernel_model.specs.Valid.{IsValid}
use Rattle.kernel_model.proofs.Starts.{find_below, start_valid}

-- each open's count is how many descriptors name it
numbered_counts : (tree : Tree) (grants : List Grant) (n m o : ℕ) → m ≡ first_open tree + n
    → number (get (from_entries {R = nat_cmp} (numbered (λ _ _. 1) m grants)) o) ≡ count_in o (from_entries (numbered (granted_descriptor tree) n grants))
numbered_counts tree [] n m o e = ap number (get-empty nat_cmp o) ∙ sym (total-empty (names_open o))
numbered_counts tree (grant ∷ grants) n m o e =
    let counts : FinMap nat_cmp ℕ = from_entries (numbered (λ _ _. 1) (m + 1) grants) in
    let table : Table = from_entries (numbered (granted_descriptor tree) (n + 1) grants) in
    let rest : number (get counts o) ≡ count_in o table = numbered_counts tree grants (n + 1) (m + 1) o (omega (arith, e)) in
    let sums = total-insert_new (names_open o) table n (granted_descriptor tree n grant)
    (get-from_entries nat_cmp_total _ n ∙ find_below (granted_descriptor tree) (n + 1) grants n (omega arith)) in
    elim (eqb_tells (first_open tree + n) o) [
      | inl is ↦
          let own : o ≡ m = omega (arith, is.1, e) in
          let one : names_open o (granted_descriptor tree n grant) ≡ 1 = ap (λ b. cond b 1 0) is.0 in
          let here : number (get (insert counts m 1) o) ≡ 1 = ap (λ j. number (get (insert counts m 1) j)) own ∙ ap number (get-insert-same counts m 1) in
          let before : number (get counts o) ≡ 0 = ap (λ j. number (get counts j)) own
          ∙ ap number (get-from_entries nat_cmp_total _ m ∙ find_below (λ (_ : ℕ) (_ : Grant). 1) (m + 1) grants m (omega arith)) in
          omega (arith, rest, sums, one, here, before)
      | inr other ↦
          let apart : first_open tree + n ≢ o = other.1 in
          let none : names_open o (granted_descriptor tree n grant) ≡ 0 = ap (λ b. cond b 1 0) other.0 in
          let here : number (get (insert counts m 1) o) ≡ number (get counts o) =
          ap number (get-insert-other counts m 1 o (λ same. apart (omega (arith, same, e)))) in
          omega (arith, rest, sums, none, here)
    ]

pub start_counted : (tree : Tree) (grants : List Grant) (stdin : List ℕ) (o : ℕ) → number (get (granted_objects tree grants).counts o) ≡ holders (start_state tree grants stdin) o
start_counted tree grants stdin o =
    let counts = numbered_counts tree grants 0 (first_open tree) o (omega arith) in
    let bare : total (count_in o) (empty {X = Table} {R = nat_cmp}) ≡ 0 = total-empty (count_in o) in
    let sums = total-insert_new (count_in o) empty 0 (granted_table tree grants) (get-empty nat_cmp 0) in
    omega (arith, counts, bare, sums)

-- the granted descriptors have numbers below their count
granted_below : (tree : Tree) (grants : List Grant) (n k : ℕ) → IsSome (get (from_entries {R = nat_cmp} (numbered (granted_descriptor tree) n grants)) k) → k < n + length grants
granted_below tree [] n k there = absurd (none_there (get empty k) (get-empty nat_cmp k) there)
granted_below tree (grant ∷ grants) n k there =
    elim (eqb_tells k n) [
      | inl is ↦ (let same = is.1 in omega (arith, same))
      | inr other ↦ (
          let less = granted_below tree grants (n + 1) k (subst IsSome (get-insert-other _ n (granted_descriptor tree n grant) k other.1) there) in
          omega (arith, less))
    ]

start_small : (tree : Tree) (grants : List Grant) → AreGrants tree grants → AreSmall (insert empty 0 (granted_table tree grants))
start_small tree grants all =
    small_set empty 0 (granted_table tree grants) (λ p table there. absurd (none_is_no table (sym (get-empty nat_cmp p) ∙ there)))
    (λ k there. let less = granted_below tree grants 0 k there in omega (arith, less, all.0))

-- no channel is there, so nothing waits
none_carried : (o : ℕ) → carriers_in o empty ≡ 0
none_carried o = total-empty (carried_in o)

counted_alone : (tree : Tree) (grants : List Grant) (stdin : List ℕ) (o : ℕ)
    → number (get (granted_objects tree grants).counts o) ≡ holders (start_state tree grants stdin) o + carriers (start_state tree grants stdin) o
counted_alone tree grants stdin o =
    let held = start_counted tree grants stdin o in
    let none = none_carried o in
    omega (arith, held, none)

pub start_kept : (tree : Tree) (grants : List Grant) (stdin : List ℕ) (S : State) (counts : FinMap nat_cmp ℕ) → MayBegin tree grants → S ≡ start_state tree grants stdin
    → counts ≡ (granted_objects tree grants).counts → IsKept S counts
start_kept tree grants stdin S counts begins is counted = record {
  valid = subst IsValid (sym is) (start_valid tree grants stdin begins);
  counted = λ o. ap (λ (m : FinMap nat_cmp ℕ). number (get m o)) counted ∙ counted_alone tree grants stdin o
      ∙ sym (ap (λ (T : State). holders T o + carriers T o) is);
  few = subst (λ (T : State). AreFew T.chans) (sym is) (λ o. let none = none_carried o in omega (arith, none));
  small = subst (λ (T : State). AreSmall T.tables) (sym is) (start_small tree grants begins.grants);
  processes = subst (λ (T : State). KeysBelow (2 ^ 32) T.tables) (sym is)
      (below-insert (2 ^ 32) empty 0 (granted_table tree grants) (below-empty Table (2 ^ 32)) (omega arith));
}
