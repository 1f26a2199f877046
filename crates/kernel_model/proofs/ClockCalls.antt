-- The meanings of the calls on clocks and for random bytes are proper.
--     drawn_holds      what holds of each outcome of random_get
use Rattle.std.proofs.Common.{◌≡◌, inl, inr, ℕ, true, false, [], ◌∷◌, Option, Some, None, is_some, refl, ap}
use Rattle.std.specs.FinMap.{get}
use Rattle.clock_random.specs.Random.{words_of}
use Rattle.abi_base.specs.declared.errno.Errno.TheVariants.{Again}
use Rattle.abi_types.specs.declared.constants.Constants.{Constants}
use Rattle.maps.specs.Maps.{get-insert-same}
use Rattle.kernel_model.specs.Families.ClockCalls.{can_draw, clock_time_get, drawn_by, drawn_if, random_get}
use Rattle.kernel_model.specs.Outcome.{Outcome, replies}
use Rattle.kernel_model.specs.OwnChanges.{draws_words, drawn_more, AllowsChange, LeavesOwn}
use Rattle.kernel_model.specs.Proper.{IsPlain, IsProper, IsUnset, AllCarryOn}
use Rattle.kernel_model.specs.Reply.{refused}
use Rattle.kernel_model.specs.State.{ProcessState, at_proc, at_status, has_part, put_all}
use Rattle.kernel_model.specs.Valid.{IsNearlyValid}
use Rattle.kernel_model.proofs.DescriptorCalls.{other_table, process_table}
use Rattle.kernel_model.proofs.OwnChanges.{drawn_grows, set_process_nearly_valid}
use Rattle.kernel_model.proofs.Parts.{beyond_process, own_becomes, own_stays}
use Rattle.kernel_model.proofs.Sights.{first_seen}
use Rattle.kernel_model.proofs.Tests.{not_true}

pub clock_time_get_is_proper : (clock : ℕ) → IsProper (clock_time_get clock)
clock_time_get_is_proper clock = record {
  names = tt;
  sees = tt;
  reads = λ constants S who table. refl;
  walks = λ S who table. refl;
  sets = λ constants S who table part h. refl;
  touched = λ S table part h. absurd (not_true h);
  plain = λ constants v who table. (refl, inl refl);
  waits = λ h. absurd (not_true h);
  lacks = λ h. absurd (not_true h);
  others = λ constants v who table q apart _. (refl, refl);
  own = λ constants S who table. inl (own_stays (get S.processes who.pid));
  allows = λ constants S who table. tt;
  carries = λ constants S who table nearly. tt;
  valid = λ constants S who table there nearly. nearly;
}

-- what holds of the refusal, and where words are drawn, holds of the outcome
pub drawn_holds : (P : Outcome → Type 0) (constants : Constants) (p : ℕ) (o : Option ProcessState) (length : ℕ) → P (replies (refused Again))
    → ((own : ProcessState) → o ≡ Some own → P (drawn_if true constants p own length)) → P (drawn_by constants p o length)
drawn_holds P constants p None length refuses draws = refuses
drawn_holds P constants p (Some own) length refuses draws =
    elim (can_draw (words_of length) own) as (λ b. P (drawn_if b constants p own length)) [
      | true ↦ draws own refl
      | false ↦ refuses
    ]

pub random_get_is_proper : (length : ℕ) → IsProper (random_get length)
random_get_is_proper length = record {
  names = tt;
  sees = tt;
  reads = λ constants S who table.
      ap (λ own. drawn_by constants who.pid own length)
      (first_seen who.pid (has_part (at_status who.pid ∷ []) (at_proc who.pid)) (get S.processes who.pid));
  walks = λ S who table. refl;
  sets = λ constants S who table part h.
      drawn_holds (λ o. IsUnset o part) constants who.pid (get S.processes who.pid) length refl
      (λ own _. process_table who.pid part (beyond_process who.pid [] part h).0);
  touched = λ S table part h. absurd (not_true h);
  plain = λ constants v who table.
      drawn_holds (IsPlain (Again ∷ [])) constants who.pid (v.process who.pid) length (refl, inr (refl, ([], [], refl))) (λ own _. (refl, inl refl));
  waits = λ h. absurd (not_true h);
  lacks = λ _. ((λ e. cc), tt);
  others = λ constants v who table q apart _.
      drawn_holds (λ o. IsUnset o (at_proc q) × IsUnset o (at_status q)) constants who.pid (v.process who.pid) length (refl, refl)
      (λ own _. (other_table who.pid q apart, refl));
  own = λ constants S who table.
      drawn_holds (λ o. LeavesOwn (draws_words (words_of length)) who.pid who.tid o.answer S (put_all o.updates S)) constants who.pid
      (get S.processes who.pid) length (inl (own_stays (get S.processes who.pid)))
      (λ own there. inl (own_becomes (drawn_more (words_of length)) (get S.processes who.pid) _ own there
      (get-insert-same S.processes who.pid (drawn_more (words_of length) own))));
  allows = λ constants S who table.
      drawn_holds (λ o. AllowsChange (draws_words (words_of length)) who.tid o.answer (get S.processes who.pid)) constants who.pid
      (get S.processes who.pid) length (λ done. absurd (not_true done)) (λ own there _. ap is_some there);
  carries = λ constants S who table nearly.
      drawn_holds (AllCarryOn S (table, [], false)) constants who.pid (get S.processes who.pid) length tt (λ own _. (tt, tt));
  valid = λ constants S who table there nearly.
      drawn_holds (λ o. IsNearlyValid (put_all o.updates S)) constants who.pid (get S.processes who.pid) length nearly
      (λ own is. set_process_nearly_valid S who.pid own (drawn_more (words_of length) own) is (drawn_grows (words_of length) own) nearly);
}
