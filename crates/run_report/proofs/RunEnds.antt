-- How a report says that the run came to its end, and what that says.
use Rattle.std.proofs.Common.{◌≡◌, ◌≢◌, ◌↔◌, ◌==◌, ℕ, List, Bool, true, false, if◌then◌else◌, length, codes, refl, sym, ap, ◌∙◌}
use Rattle.maps.specs.Maps.{least_key}
use Rattle.kernel_core.specs.Kernel.{any_live, is_live}
use Rattle.kernel_core.proofs.Lives.{live_some, some_live}
use Rattle.kernel_model.specs.Ends.{NoneLive, SomeLive}
use Rattle.kernel_model.specs.State.{State}
use Rattle.kernel_model.proofs.Tests.{not_true}
use Rattle.run_report.specs.ReportLaws.{EndIsReported, StallIsReported}

-- the two words have not the same length
words_differ : codes "stalled" ≢ codes "ended"
words_differ same = not_true (ap (λ (bs : List ℕ). length bs == 5) same)

-- the search finds a live process
found : (S : State) → any_live S ≡ true → SomeLive S
found S is = some_live S.statuses (least_key (λ _ status. is_live status) S.statuses) refl is

-- where the search finds no process none is live
none_found : (S : State) → any_live S ≡ false → NoneLive S
none_found S unfound p live = not_true (sym unfound ∙ live_some S.statuses (least_key (λ _ status. is_live status) S.statuses) refl p live)

ended_where : (S : State) (b : Bool) → any_live S ≡ b → ((if b then codes "stalled" else codes "ended") ≡ codes "ended") ↔ NoneLive S
ended_where S true is = ((λ same. absurd (words_differ same)), (λ none. let one = found S is in absurd (none one.0 one.1)))
ended_where S false unfound = ((λ _. none_found S unfound), (λ _. refl))

stalled_where : (S : State) (b : Bool) → any_live S ≡ b → ((if b then codes "stalled" else codes "ended") ≡ codes "stalled") ↔ SomeLive S
stalled_where S true is = ((λ _. found S is), (λ _. refl))
stalled_where S false unfound = ((λ same. absurd (words_differ (sym same))), (λ one. absurd (none_found S unfound one.0 one.1)))

pub end_is_reported : EndIsReported
end_is_reported S = ended_where S (any_live S) refl

pub stall_is_reported : StallIsReported
stall_is_reported S = stalled_where S (any_live S) refl
