-- The entries of one process in a history that grows.
use Rattle.std.proofs.Common.{◌≡◌, ℕ, Bool, true, false, not, ◌&&◌, cond, eqb, List, [], ◌∷◌, ◌++◌, refl, ap, ◌∙◌, arith}
use Rattle.std.proofs.lemmas.Bool.Decides.{nat_tests}
use Rattle.std.proofs.lemmas.List.{append-nil}
use Rattle.std.proofs.lemmas.List.Elements.{filter-append}
use Rattle.run_types.specs.declared.history.Entry.{Entry}
use Rattle.run_model.specs.Own.{is_idle, is_own, own}

own_cases : (idle same : Bool) → (not idle && same) ≡ true → (idle ≡ false) × (same ≡ true)
own_cases true same e = cc
own_cases false same e = (refl, e)

-- whose an entry is
pub own_is : (p : ℕ) (e : Entry) → is_own p e ≡ true → (is_idle e.act ≡ false) × (e.pid ≡ p)
own_is p e mine = let both = own_cases (is_idle e.act) (eqb e.pid p) mine in (both.0, grind (arith, nat_tests))

-- an entry that is another's adds nothing to a process's own
pub own_other : (p : ℕ) (log : List Entry) (e : Entry) → is_own p e ≡ false → own p (log ++ e ∷ []) ≡ own p log
own_other p log e other =
    filter-append (is_own p) log (e ∷ []) ∙ ap (λ b. own p log ++ cond b (e ∷ []) []) other ∙ append-nil (own p log)

-- one that is the process's comes behind them
pub own_more : (p : ℕ) (log : List Entry) (e : Entry) → is_own p e ≡ true → own p (log ++ e ∷ []) ≡ own p log ++ e ∷ []
own_more p log e mine = filter-append (is_own p) log (e ∷ []) ∙ ap (λ b. own p log ++ cond b (e ∷ []) []) mine
