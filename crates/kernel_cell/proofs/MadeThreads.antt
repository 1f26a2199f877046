-- The place for the thread that a call may make is put in, and stays where the thread was made.
use Rattle.std.proofs.Common.{◌≡◌, ℕ, Bool, true, false, IsSome, is_some, refl, sym, ap, subst, ◌∙◌}
use Rattle.std.specs.FinMap.{get, insert, remove}
use Rattle.abi_types.specs.declared.call.Call.{Call}
use Rattle.maps.specs.Maps.{get-insert-same, insert-remove, remove-inserted}
use Rattle.kernel_model.proofs.Tests.{none_of}
use Rattle.kernel_cell.specs.Results.{Threads, with_made, without_place, HasPlace, IsPlaceFor}
use Rattle.kernel_cell.specs.declared.results.After.{After}
use Rattle.kernel_cell.specs.declared.results.After.TheVariants as to
use Rattle.kernel_cell.specs.declared.results.Doing.TheVariants as doing

pub place_put : (call : Call) (key next : ℕ) (threads threads' : Threads) → key ≡ next → is_some (get threads key) ≡ false
    → threads' ≡ insert threads key doing.Runs → HasPlace call next threads true threads'
place_put call key next threads threads' is absent put = record {
  there = λ _. subst (λ (x : ℕ × Threads). IsSome (get x.1 x.0)) (λ i. (is i, sym put i)) (subst IsSome (sym (get-insert-same threads key doing.Runs)) refl);
  without = (λ i. remove (put i) (sym is i)) ∙ remove-inserted threads key doing.Runs (none_of (get threads key) absent);
}

-- putting a value at the place makes the same of both
put_over : (next : ℕ) (placed : Bool) (threads : Threads) → insert (without_place next placed threads) next doing.Runs ≡ insert threads next doing.Runs
put_over next true threads = insert-remove threads next doing.Runs
put_over next false threads = refl

pub place_kept : (key next u : ℕ) (placed : Bool) (threads threads' : Threads) (after : After) → after ≡ to.Starts u → key ≡ next
    → IsPlaceFor next threads after → threads' ≡ insert threads key doing.Runs → threads' ≡ with_made after (without_place next placed threads)
place_kept key next u placed threads threads' after starts is place put =
    let there = subst (IsPlaceFor next threads) starts place in
    put
    ∙ (λ i. insert threads (is i) doing.Runs)
    ∙ sym (put_over next placed threads)
    ∙ (λ i. insert (without_place next placed threads) (sym there.0 i) doing.Runs)
    ∙ ap (λ (x : After). with_made x (without_place next placed threads)) (sym starts)
