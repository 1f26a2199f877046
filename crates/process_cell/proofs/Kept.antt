-- All threads of a process but one are taken out where another program began.
--     kept_place, kept_alone      that one is there still, and alone
use Rattle.std.proofs.Common.{◌≡◌, ◌==◌, ℕ, cond, None, IsSome, inl, inr, refl, sym, ap, subst, ◌∙◌, eq-eqb}
use Rattle.std.proofs.lemmas.Bool.Decides.{eqb_tells}
use Rattle.std.specs.FinMap.{empty, get, get-empty, insert, retain_keys}
use Rattle.std.specs.Ordering.{nat_cmp}
use Rattle.maps.specs.Maps.{get-insert-same, get-insert-other, get-retain, same_around}
use Rattle.kernel_cell.specs.Results.{Threads}
use Rattle.kernel_cell.specs.declared.results.Doing.TheVariants as doing
use Rattle.process_cell.specs.Phases.{alone}

alone_is : (m : Threads) (t : ℕ) → insert (retain_keys m (λ k. k == t)) t doing.Runs ≡ alone t
alone_is m t =
    same_around (insert (retain_keys m (λ k. k == t)) t doing.Runs) (alone t) t
    (get-insert-same (retain_keys m (λ k. k == t)) t doing.Runs ∙ sym (get-insert-same empty t doing.Runs))
    (λ q apart.
    get-insert-other (retain_keys m (λ k. k == t)) t doing.Runs q apart
    ∙ get-retain m (λ k. k == t) q
    ∙ elim (eqb_tells q t) [
      | inl same ↦ absurd (apart same.1)
      | inr other ↦ ap (λ b. cond b (get m q) None) other.0
    ]
    ∙ sym (get-insert-other empty t doing.Runs q apart ∙ get-empty nat_cmp q))

-- that one is there still
pub kept_place : (m m' : Threads) (t k : ℕ) → k ≡ t → m' ≡ retain_keys m (λ q. q == k) → IsSome (get m t) → IsSome (get m' k)
kept_place m m' t k key kept there =
    subst (λ (n : Threads). IsSome (get n k)) (sym kept)
    (subst IsSome (sym (get-retain m (λ q. q == k) k ∙ ap (λ b. cond b (get m k) None) (eq-eqb k k refl)))
    (subst (λ (q : ℕ). IsSome (get m q)) (sym key) there))

pub kept_alone : (m m' n : Threads) (t k : ℕ) → k ≡ t → m' ≡ retain_keys m (λ q. q == k) → n ≡ insert m' k doing.Runs → n ≡ alone t
kept_alone m m' n t k key kept put = put ∙ ap (λ (o : Threads). insert o k doing.Runs) kept ∙ alone_is m k ∙ ap alone key
