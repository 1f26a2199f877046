-- Some process lives exactly where one has something of its own, and the search for one that lives finds it.
use Rattle.std.proofs.Common.{◌≡◌, ◌↔◌, ℕ, Bool, true, false, not, Option, Some, None, IsSome, is_some, refl, ap, sym, ◌∙◌}
use Rattle.std.specs.Ordering.{nat_cmp}
use Rattle.std.specs.FinMap.{FinMap, empty, get, get-empty}
use Rattle.maps.specs.Maps.{least_key, least_key-entry, least_key-none, passes, same_numbers}
use Rattle.abi_types.specs.declared.status.Status.{Status}
use Rattle.abi_types.specs.declared.status.Status.TheVariants.{Live, Exit, Killed}
use Rattle.kernel_model.specs.Release.{lives}
use Rattle.kernel_model.specs.State.{State}
use Rattle.kernel_model.proofs.Tests.{none_of, not_true}
use Rattle.kernel_core.specs.Kernel.{any_live, is_live}

-- only a live process's status passes the test
is_live_alone : (status : Status) → is_live status ≡ true → status ≡ Live
is_live_alone Live e = refl
is_live_alone (Exit code) e = absurd (cc)
is_live_alone (Killed signal) e = absurd (cc)

passes_as_lives : (p : ℕ) (o : Option Status) → passes (λ _ status. is_live status) p o ≡ lives o
passes_as_lives p None = refl
passes_as_lives p (Some Live) = refl
passes_as_lives p (Some (Exit code)) = refl
passes_as_lives p (Some (Killed signal)) = refl

-- a least key is that of a live process
pub some_live : (statuses : FinMap nat_cmp Status) (o : Option ℕ) → o ≡ least_key (λ _ status. is_live status) statuses
    → IsSome o → (p : ℕ) × (get statuses p ≡ Some Live)
some_live statuses None e h = absurd (cc)
some_live statuses (Some p) e h =
    let entry = least_key-entry (λ _ status. is_live status) statuses p (sym e) in
    (p, entry.1 ∙ ap Some (is_live_alone entry.0 entry.2))

-- where there is a live process there is a least key
pub live_some : (statuses : FinMap nat_cmp Status) (o : Option ℕ) → o ≡ least_key (λ _ status. is_live status) statuses
    → (p : ℕ) → get statuses p ≡ Some Live → IsSome o
live_some statuses (Some p) e q h = refl
live_some statuses None e q h =
    let none = least_key-none (λ _ status. is_live status) statuses (sym e) q in
    let some = ap (passes (λ _ status. is_live status) q) h in
    absurd (cc)

module _ (S : State) (owns : (p : ℕ) → is_some (get S.processes p) ≡ lives (get S.statuses p)) where
  found : (o : Option ℕ) → o ≡ least_key (λ _ status. is_live status) S.statuses → S.processes ≡ empty → is_some o ≡ false
  found None e none = refl
  found (Some p) e none =
      let live = some_live S.statuses (Some p) e refl in
      let here : is_some (get S.processes live.0) ≡ true = owns live.0 ∙ ap lives live.1 in
      let away : is_some (get S.processes live.0) ≡ false = ap (λ m. is_some (get m live.0)) none ∙ ap is_some (get-empty nat_cmp live.0) in
      absurd (not_true (sym away ∙ here))

  none_own : (o : Option ℕ) → o ≡ least_key (λ _ status. is_live status) S.statuses → is_some o ≡ false → S.processes ≡ empty
  none_own o e none =
      same_numbers S.processes empty (λ p. none_of (get S.processes p) (owns p ∙ sym (passes_as_lives p (get S.statuses p))
      ∙ least_key-none (λ _ status. is_live status) S.statuses (sym e ∙ none_of o none) p) ∙ sym (get-empty nat_cmp p))

  pub owns_as_lives : (b : Bool) → (b ≡ true) ↔ (S.processes ≡ empty) → not b ≡ any_live S
  owns_as_lives true is = sym (found (least_key (λ _ status. is_live status) S.statuses) refl (is.0 refl))
  owns_as_lives false is =
      elim (any_live S) as (λ some. any_live S ≡ some → true ≡ some) [
        | true ↦ λ _. refl
        | false ↦ λ none. absurd (not_true (is.1 (none_own (least_key (λ _ status. is_live status) S.statuses) refl none)))
      ] refl
