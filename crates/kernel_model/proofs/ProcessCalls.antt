-- The meanings of the calls on processes are proper.
use Rattle.std.proofs.Common.{◌≡◌, ◌≢◌, inl, inr, ℕ, ◌||◌, false, List, [], ◌∷◌, map, Option, None, Some, refl, sym, ap, ◌∙◌}
use Rattle.std.specs.FinMap.{FinMap, get, insert}
use Rattle.std.specs.Ordering.{nat_cmp}
use Rattle.abi_base.specs.declared.errno.Errno.{Errno}
use Rattle.abi_base.specs.declared.errno.Errno.TheVariants.{Inval, Notsup}
use Rattle.abi_base.specs.declared.signal.Signal.{Signal}
use Rattle.abi_types.specs.declared.reply.Answer.TheVariants as answer
use Rattle.abi_types.specs.declared.status.Status.{Status}
use Rattle.abi_types.specs.declared.status.Status.TheVariants.{Live, Exit, Killed}
use Rattle.maps.specs.Maps.{get-insert-same, get-remove-same}
use Rattle.kernel_model.specs.Families.ProcessCalls.{Raised, stops, passes, ends, end_updates, proc_exit, proc_raise, raise_as, raise_of, raised_by, signal_of}
use Rattle.kernel_model.specs.Outcome.{Outcome, replies}
use Rattle.kernel_model.specs.OwnChanges.{keeps_own, LeavesOwn}
use Rattle.kernel_model.specs.Proper.{AllCarryOn, IsIn, IsPlain, IsProper, IsUnset}
use Rattle.kernel_model.specs.Reply.{refused, success}
use Rattle.kernel_model.specs.Sight.{process_parts}
use Rattle.kernel_model.specs.Valid.{IsNearlyValid}
use Rattle.kernel_model.specs.State.{State, Part, put_all, at_clock, at_proc, at_status, same_part, has_part, part_of}
use Rattle.kernel_model.proofs.Parts.{outside_cons, beyond_process, number_apart, own_stays}
use Rattle.kernel_model.proofs.Tests.{not_true}
use Rattle.kernel_model.proofs.EndedValid.{end_nearly_valid}
use Rattle.kernel_model.proofs.Valids.{holder_is_made}

-- the end of a process sets only what is its own
pub end_unset : (p : ℕ) (status : Status) (q : Part) → has_part (process_parts p) q ≡ false → has_part (map part_of (end_updates p status)) q ≡ false
end_unset p status q h =
    let rest = outside_cons at_clock (at_proc p ∷ at_status p ∷ []) q h in
    let proc = outside_cons (at_proc p) (at_status p ∷ []) q rest.1 in
    let stat = outside_cons (at_status p) [] q proc.1 in
    ap (λ b. b || (same_part (at_proc p) q || false)) stat.0 ∙ ap (λ b. b || false) proc.0

-- nothing of it is another process's
other_proc : (p q : ℕ) → q ≢ p → has_part (process_parts p) (at_proc q) ≡ false
other_proc p q apart = ap (λ b. b || false) (number_apart p q apart)

other_status : (p q : ℕ) → q ≢ p → has_part (process_parts p) (at_status q) ≡ false
other_status p q apart = ap (λ b. b || false) (number_apart p q apart)

pub end_others : (p : ℕ) (status : Status) (q : ℕ) → q ≢ p
    → (has_part (map part_of (end_updates p status)) (at_proc q) ≡ false) × (has_part (map part_of (end_updates p status)) (at_status q) ≡ false)
end_others p status q apart =
    (end_unset p status (at_proc q) (other_proc p q apart), end_unset p status (at_status q) (other_status p q apart))

exit_is_not_live : (code : ℕ) → Some (Exit code) ≢ Some Live
exit_is_not_live code e = cc

-- so it isn't live
pub ended_live : (statuses : FinMap nat_cmp Status) (p code : ℕ) → get (insert statuses p (Exit code)) p ≢ Some Live
ended_live statuses p code live = exit_is_not_live code (sym (get-insert-same statuses p (Exit code)) ∙ live)

-- and has nothing of its own any more
pub exits_own : (S : State) (p code : ℕ)
    → (get (put_all (end_updates p (Exit code)) S).statuses p ≢ Some Live) × (get (put_all (end_updates p (Exit code)) S).processes p ≡ None)
exits_own S p code = (ended_live S.statuses p code, get-remove-same S.processes p)

pub proc_exit_is_proper : (code : ℕ) → IsProper (proc_exit code)
proc_exit_is_proper code = record {
  names = tt;
  sees = tt;
  reads = λ constants S who table. refl;
  walks = λ S who table. refl;
  sets = λ constants S who table part h. end_unset who.pid (Exit code) part (beyond_process who.pid [] part h).0;
  touched = λ S table part h. absurd (not_true h);
  plain = λ constants v who table. (refl, inl refl);
  waits = λ h. absurd (not_true h);
  lacks = λ h. absurd (not_true h);
  others = λ constants v who table q apart _. end_others who.pid (Exit code) q apart;
  own = λ constants S who table. inr (exits_own S who.pid code);
  allows = λ constants S who table. tt;
  carries = λ constants S who table nearly. (tt, (tt, tt));
  valid = λ constants S who table there nearly. end_nearly_valid S who.pid (Exit code) (λ e. cc) (holder_is_made S who.pid table nearly there) nearly;
}

-- ---- proc_raise

abbrev pub raise_errors : List Errno
raise_errors = Inval ∷ Notsup ∷ []

killed_is_not_live : (signal : Signal) → Some (Killed signal) ≢ Some Live
killed_is_not_live signal e = cc

-- what holds of each outcome of it
pub raise_holds : (P : Outcome → Type 0) (p : ℕ) → ((errno : Errno) → IsIn errno raise_errors → P (replies (refused errno)))
    → P (replies (success 0 0)) → ((signal : Signal) → P (record { answer = answer.Reply (success 0 0); updates = end_updates p (Killed signal) }))
    → (found : Option Signal) → P (raise_of p found)
raise_holds P p refuses passes_by ends_by None = refuses Inval ([], Notsup ∷ [], refl)
raise_holds P p refuses passes_by ends_by (Some signal) = by_kind (raised_by signal) where
  by_kind : (kind : Raised) → P (raise_as kind p signal)
  by_kind stops = refuses Notsup (Inval ∷ [], [], refl)
  by_kind passes = passes_by
  by_kind ends = ends_by signal

pub proc_raise_is_proper : (number : ℕ) → IsProper (proc_raise number)
proc_raise_is_proper number = record {
  names = tt;
  sees = tt;
  reads = λ constants S who table. refl;
  walks = λ S who table. refl;
  sets = λ constants S who table part h.
      raise_holds (λ o. IsUnset o part) who.pid (λ errno here. refl) refl
      (λ signal. end_unset who.pid (Killed signal) part (beyond_process who.pid [] part h).0) (signal_of number);
  touched = λ S table part h. absurd (not_true h);
  plain = λ constants v who table.
      raise_holds (IsPlain raise_errors) who.pid (λ errno here. (refl, inr (refl, here))) (refl, inl refl) (λ signal. (refl, inl refl))
      (signal_of number);
  waits = λ h. absurd (not_true h);
  lacks = λ h. absurd (not_true h);
  others = λ constants v who table q apart _.
      raise_holds (λ o. IsUnset o (at_proc q) × IsUnset o (at_status q)) who.pid (λ errno here. (refl, refl)) (refl, refl)
      (λ signal. end_others who.pid (Killed signal) q apart) (signal_of number);
  own = λ constants S who table.
      raise_holds (λ o. LeavesOwn keeps_own who.pid who.tid o.answer S (put_all o.updates S)) who.pid
      (λ errno here. inl (own_stays (get S.processes who.pid))) (inl (own_stays (get S.processes who.pid)))
      (λ signal. inr (
        (λ live. killed_is_not_live signal (sym (get-insert-same S.statuses who.pid (Killed signal)) ∙ live)),
        get-remove-same S.processes who.pid,
      )) (signal_of number);
  allows = λ constants S who table. tt;
  carries = λ constants S who table nearly.
      raise_holds (AllCarryOn S (table, [], false)) who.pid (λ errno here. tt) tt (λ signal. (tt, (tt, tt))) (signal_of number);
  valid = λ constants S who table there nearly.
      raise_holds (λ o. IsNearlyValid (put_all o.updates S)) who.pid (λ errno here. nearly) nearly
      (λ signal. end_nearly_valid S who.pid (Killed signal) (λ e. cc) (holder_is_made S who.pid table nearly there) nearly) (signal_of number);
}
