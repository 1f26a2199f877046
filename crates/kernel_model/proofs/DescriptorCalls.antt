-- The meanings of the calls on descriptors themselves are proper.
use Rattle.std.proofs.Common.{◌≡◌, ◌≢◌, ◌⊎◌, inl, inr, ℕ, zero, suc, ◌+◌, ◌==◌, ◌||◌, Bool, true, false, cond, List, [], ◌∷◌, ◌++◌, map, Option, Some, None, is_some, refl, sym, ap, subst, ◌∙◌}
use Rattle.std.proofs.lemmas.Bool.{eq-eqb}
use Rattle.std.proofs.lemmas.Bool.Decides.{eqb_tells}
use Rattle.std.proofs.lemmas.Nat.{and_assoc}
use Rattle.std.specs.Int.Bits.{and_self}
use Rattle.std.specs.Prelude.{bit_and}
use Rattle.std.specs.FinMap.{get, insert, remove}
use Rattle.std.specs.List.{AllByRecursion}
use Rattle.abi_base.specs.declared.errno.Errno.{Errno}
use Rattle.abi_base.specs.declared.errno.Errno.TheVariants.{Badf, Mfile, Nomem}
use Rattle.abi_base.specs.Rights.{has_all, meet_of}
use Rattle.abi_structures.specs.declared.structures.FdStat.{FdStat}
use Rattle.abi_types.specs.declared.descriptor.Descriptor.{Descriptor}
use Rattle.abi_types.specs.declared.open_kind.OpenKind.{OpenKind}
use Rattle.abi_types.specs.declared.open_kind.OpenKind.TheVariants.{File, Directory, End, Terminal, Process}
use Rattle.maps.specs.Maps.{get-insert-same, get-insert-other, get-remove-same, get-remove-other}
use Rattle.kernel_model.specs.Families.DescriptorCalls.{with_table, fd_close, free_from, lowest_free, dup_at, dup_of, fd_dup, replaced_by, fd_replace, stat_open, stat_get, fd_stat_get, stat_put_row, with_flags, lowered_to, stat_set, stat_put, open_part, fd_stat_put}
use Rattle.kernel_model.specs.Outcome.{Outcome, replies}
use Rattle.kernel_model.specs.OwnChanges.{keeps_own}
use Rattle.kernel_model.specs.Proper.{IsIn, IsUnset, IsPlain, IsProper, AllCarryOn, CarriesOn, may_send}
use Rattle.kernel_model.specs.Reply.{refused}
use Rattle.kernel_model.specs.Sight.{process_parts, behind, reached_by}
use Rattle.kernel_model.specs.State.{State, Table, Part, Update, at_clock, at_proc, at_status, at_open, same_part, has_part, part_of, put_all, set_open, set_table}
use Rattle.kernel_model.specs.Step.{tick}
use Rattle.kernel_model.specs.Valid.{IsNearlyValid}
use Rattle.kernel_model.specs.View.{View, restrict, whole}
use Rattle.kernel_model.proofs.Parts.{KeepsOwn, own_stays, outside_cons, has_of_both, beyond_process, number_apart}
use Rattle.kernel_model.proofs.Sights.{open_seen}
use Rattle.kernel_model.proofs.Tests.{not_true, none_is_no, or_false, same_some}
use Rattle.kernel_model.proofs.Valids.{IsWithin, ComesFromTable, IsSameBehind, set_open_nearly_valid, set_table_nearly_valid}

-- ---- where descriptors come from

within_itself : (d : Descriptor) → IsWithin d d
within_itself d = (refl, eq-eqb _ _ (and_self d.base.0), eq-eqb _ _ (and_self d.inheriting.0))

pub from_itself : (table : Table) → ComesFromTable table table
from_itself table n d here = (n, d, here, within_itself d)

pub removed_from : (table : Table) (fd : ℕ) → ComesFromTable table (remove table fd)
removed_from table fd n d here =
    elim (eqb_tells n fd) [
      | inl is ↦ absurd (none_is_no d (sym (get-remove-same table fd) ∙ sym (ap (get (remove table fd)) is.1) ∙ here))
      | inr other ↦ (n, d, sym (get-remove-other table fd n other.1) ∙ here, within_itself d)
    ]

-- a descriptor that comes from the table, put under any number
pub inserted_from : (table : Table) (fd number : ℕ) (d e : Descriptor) → get table fd ≡ Some d → IsWithin e d → ComesFromTable table (insert table number e)
inserted_from table fd number d e there within n x here =
    elim (eqb_tells n number) [
      | inl is ↦ (
          let one : e ≡ x = same_some e x (sym (get-insert-same table number e) ∙ sym (ap (get (insert table number e)) is.1) ∙ here) in
          (fd, d, there, subst (λ (y : Descriptor). IsWithin y d) one within))
      | inr other ↦ (n, x, sym (get-insert-other table number e n other.1) ∙ here, within_itself x)
    ]

pub met_within : (a b : ℕ) → has_all a (meet_of a b) ≡ true
met_within a b = eq-eqb _ _ (sym (and_assoc b a a) ∙ ap (λ x. bit_and x b) (and_self a))

pub lowered_within : (d : Descriptor) (stat : FdStat) → IsWithin (lowered_to d stat) d
lowered_within d stat = (refl, met_within d.base.0 stat.base.0, met_within d.inheriting.0 stat.inheriting.0)

-- ---- calls that set their process's table alone

-- it answers one of these errors, or sets a table whose descriptors come from the old one
abbrev pub IsOfTable : List Errno → ℕ → Table → Outcome → Type 0
IsOfTable errors p table o =
    ((errno : Errno) × (o ≡ replies (refused errno)) × IsIn errno errors)
    ⊎ ((result : ℕ) × (new : Table) × (o ≡ with_table p result new) × ComesFromTable table new)

-- what holds of each such outcome
of_table : (P : Outcome → Type 0) (errors : List Errno) (p : ℕ) (table : Table) (o : Outcome) → IsOfTable errors p table o
    → ((errno : Errno) → IsIn errno errors → P (replies (refused errno)))
    → ((result : ℕ) (new : Table) → ComesFromTable table new → P (with_table p result new)) → P o
of_table P errors p table o (inl error) refuses sets = subst P (sym error.1) (refuses error.0 error.2)
of_table P errors p table o (inr done) refuses sets = subst P (sym done.2) (sets done.0 done.1 done.3)

-- it leaves a nearly valid state so
pub setting_valid : (errors : List Errno) (S : State) (p : ℕ) (table : Table) (o : Outcome) → IsOfTable errors p table o → get S.tables p ≡ Some table
    → IsNearlyValid S → IsNearlyValid (put_all o.updates S)
setting_valid errors S p table o is there nearly =
    of_table (λ (x : Outcome). IsNearlyValid (put_all x.updates S)) errors p table o is (λ errno _. nearly)
    (λ result new from. set_table_nearly_valid S p table new there from nearly)

-- the table is the process's own
pub process_table : (p : ℕ) (q : Part) → has_part (process_parts p) q ≡ false → has_part (at_proc p ∷ []) q ≡ false
process_table p q h =
    let rest = outside_cons at_clock (at_proc p ∷ at_status p ∷ []) q h in
    let proc = outside_cons (at_proc p) (at_status p ∷ []) q rest.1 in
    ap (λ b. b || false) proc.0

pub other_table : (p q : ℕ) → q ≢ p → has_part (at_proc p ∷ []) (at_proc q) ≡ false
other_table p q apart = ap (λ b. b || false) (number_apart p q apart)

setting_is_proper : (named : List ℕ) (errors : List Errno) (takes : Bool) (f : ℕ → Table → Outcome) → ((p : ℕ) (table : Table) → IsOfTable errors p table (f p table))
    → (takes ≡ true → AllByRecursion (λ errno. errno ≢ Nomem) errors)
    → IsProper (record {
      named = named;
      need = [];
      seen = [];
      effect = λ constants v who table. f who.pid table;
      outside = λ v table. None;
      touched = λ S table. [];
      numbers = 0;
      own = keeps_own;
      errors = errors;
      takes_memory = takes;
      may_wait = false;
      by_stage = false;
      deadline = λ constants since. None;
      sends = [];
    })
setting_is_proper named errors takes f is lacks = record {
  names = tt;
  sees = tt;
  reads = λ constants S who table. refl;
  walks = λ S who table. refl;
  sets = λ constants S who table part h.
      of_table (λ o. IsUnset o part) errors who.pid table (f who.pid table) (is who.pid table) (λ errno _. refl)
      (λ result new _. process_table who.pid part (beyond_process who.pid [] part h).0);
  touched = λ S table part h. absurd (not_true h);
  plain = λ constants v who table.
      of_table (IsPlain errors) errors who.pid table (f who.pid table) (is who.pid table) (λ errno here. (refl, inr (refl, here))) (λ result new _. (refl, inl refl));
  waits = λ h. absurd (not_true h);
  lacks = lacks;
  others = λ constants v who table q apart _.
      of_table (λ o. IsUnset o (at_proc q) × IsUnset o (at_status q)) errors who.pid table (f who.pid table) (is who.pid table) (λ errno _. (refl, refl))
      (λ result new _. (other_table who.pid q apart, refl));
  own = λ constants S who table.
      inl (of_table (KeepsOwn S who.pid) errors who.pid table (f who.pid table) (is who.pid table) (λ errno _. own_stays (get S.processes who.pid))
      (λ result new _. own_stays (get S.processes who.pid)));
  allows = λ constants S who table. tt;
  carries = λ constants S who table nearly.
      of_table (AllCarryOn S (table, [], may_send errors)) errors who.pid table (f who.pid table) (is who.pid table) (λ errno _. tt) (λ result new _. (tt, tt));
  valid = λ constants S who table there nearly. setting_valid errors S who.pid table (f who.pid table) (is who.pid table) there nearly;
}

pub close_is : (p : ℕ) (table : Table) (fd : ℕ) → IsOfTable [] p table (with_table p 0 (remove table fd))
close_is p table fd = inr (0, remove table fd, refl, removed_from table fd)

pub fd_close_is_proper : (fd : ℕ) → IsProper (fd_close fd)
fd_close_is_proper fd =
    setting_is_proper (fd ∷ []) [] false (λ p table. with_table p 0 (remove table fd)) (λ p table. close_is p table fd) (λ h. absurd (not_true h))

-- fd_dup

-- the number that it gives was free
pub free_is_absent : (table : Table) (n k m : ℕ) → free_from table n k ≡ Some m → get table m ≡ None
unfolding free_from
free_is_absent table zero k m is = absurd (none_is_no m is)
free_is_absent table (suc n) k m is =
    elim (get table k) as (λ o. get table k ≡ o → cond (is_some o) (free_from table n (k + 1)) (Some k) ≡ Some m → get table m ≡ None) [
      | None ↦ λ here h. ap (get table) (sym (same_some k m h)) ∙ here
      | Some d ↦ λ here h. free_is_absent table n (k + 1) m h
    ] refl is

badf_is_no_lack : Badf ≢ Nomem
badf_is_no_lack e = cc

mfile_is_no_lack : Mfile ≢ Nomem
mfile_is_no_lack e = cc

abbrev pub dup_errors : List Errno
dup_errors = Badf ∷ Mfile ∷ []

dup_sets : (p : ℕ) (table : Table) (fd : ℕ) (d : Descriptor) (number : Option ℕ) → get table fd ≡ Some d → IsOfTable dup_errors p table (dup_at p table d number)
dup_sets p table fd d None there = inl (Mfile, refl, (Badf ∷ [], [], refl))
dup_sets p table fd d (Some number) there = inr (number, insert table number d, refl, inserted_from table fd number d d there (within_itself d))

pub dup_is : (p : ℕ) (table : Table) (fd : ℕ) (o : Option Descriptor) → get table fd ≡ o → IsOfTable dup_errors p table (dup_of p table o)
dup_is p table fd None there = inl (Badf, refl, ([], Mfile ∷ [], refl))
dup_is p table fd (Some d) there = dup_sets p table fd d (lowest_free table) there

pub fd_dup_is_proper : (fd : ℕ) → IsProper (fd_dup fd)
fd_dup_is_proper fd =
    setting_is_proper (fd ∷ []) dup_errors true (λ p table. dup_of p table (get table fd)) (λ p table. dup_is p table fd (get table fd) refl)
    (λ _. (badf_is_no_lack, (mfile_is_no_lack, tt)))

-- fd_replace
pub replaced_is : (p : ℕ) (table : Table) (from to : ℕ) (o : Option Descriptor) → get table from ≡ o → IsOfTable (Badf ∷ []) p table (replaced_by p table to o)
replaced_is p table from to None there = inl (Badf, refl, ([], [], refl))
replaced_is p table from to (Some d) there = inr (0, insert table to d, refl, inserted_from table from to d d there (within_itself d))

pub fd_replace_is_proper : (from to : ℕ) → IsProper (fd_replace from to)
fd_replace_is_proper from to =
    setting_is_proper (from ∷ to ∷ []) (Badf ∷ []) false (λ p table. replaced_by p table to (get table from))
    (λ p table. replaced_is p table from to (get table from) refl) (λ h. absurd (not_true h))

-- ---- fd_stat_get

open_stat : (P : Outcome → Type 0) (d : Descriptor) (o : Option OpenKind) → P (replies (refused Badf)) → ((kind : OpenKind) → P (stat_open d (Some kind))) → P (stat_open d o)
open_stat P d None absent done = absent
open_stat P d (Some kind) absent done = done kind

stat_holds : (P : Outcome → Type 0) (v : View) (o : Option Descriptor) → P (replies (refused Badf)) → ((d : Descriptor) (kind : OpenKind) → P (stat_open d (Some kind)))
    → P (stat_get v o)
stat_holds P v None absent done = absent
stat_holds P v (Some d) absent done = open_stat P d (v.opened d.id) absent (done d)

stat_reads : (S : State) (p : ℕ) (o : Option Descriptor) → stat_get (restrict S (process_parts p ++ (reached_by S o ++ []))) o ≡ stat_get (whole S) o
stat_reads S p None = refl
stat_reads S p (Some d) = ap (stat_open d) (open_seen S p d)

pub fd_stat_get_is_proper : (fd : ℕ) → IsProper (fd_stat_get fd)
fd_stat_get_is_proper fd = record {
  names = tt;
  sees = (inr (refl, ([], [], refl)), tt);
  reads = λ constants S who table. stat_reads S who.pid (get table fd);
  walks = λ S who table. refl;
  sets = λ constants S who table part h. stat_holds (λ o. IsUnset o part) (whole (tick S)) (get table fd) refl (λ d kind. refl);
  touched = λ S table part h. absurd (not_true h);
  plain = λ constants v who table. stat_holds (IsPlain (Badf ∷ [])) v (get table fd) (refl, inr (refl, ([], [], refl))) (λ d kind. (refl, inl refl));
  waits = λ h. absurd (not_true h);
  lacks = λ h. absurd (not_true h);
  others = λ constants v who table q apart _. (
    stat_holds (λ o. IsUnset o (at_proc q)) v (get table fd) refl (λ d kind. refl),
    stat_holds (λ o. IsUnset o (at_status q)) v (get table fd) refl (λ d kind. refl),
  );
  own = λ constants S who table.
      inl (stat_holds (KeepsOwn S who.pid) (whole S) (get table fd) (own_stays (get S.processes who.pid)) (λ d kind. own_stays (get S.processes who.pid)));
  allows = λ constants S who table. tt;
  carries = λ constants S who table nearly. stat_holds (AllCarryOn S (table, [], false)) (whole S) (get table fd) tt (λ d kind. tt);
  valid = λ constants S who table there nearly. stat_holds (λ (o : Outcome). IsNearlyValid (put_all o.updates S)) (whole S) (get table fd) nearly (λ d kind. nearly);
}

-- ---- fd_stat_put

-- the open's flags may be set
pub same_with_flags : (kind : OpenKind) (new : ℕ) → IsSameBehind kind (with_flags kind new)
same_with_flags (File node offset flags) new = record { base = refl; inheriting = refl; behind = λ S h. h; alike = λ k. (refl, refl, refl) }
same_with_flags (Directory node flags) new = record { base = refl; inheriting = refl; behind = λ S h. h; alike = λ k. (refl, refl, refl) }
same_with_flags (End None None flags form) new = record { base = refl; inheriting = refl; behind = λ S h. h; alike = λ k. (refl, refl, refl) }
same_with_flags (End None (Some writes) flags form) new = record { base = refl; inheriting = refl; behind = λ S h. h; alike = λ k. (refl, refl, refl) }
same_with_flags (End (Some reads) None flags form) new = record { base = refl; inheriting = refl; behind = λ S h. h; alike = λ k. (refl, refl, refl) }
same_with_flags (End (Some reads) (Some writes) flags form) new = record { base = refl; inheriting = refl; behind = λ S h. h; alike = λ k. (refl, refl, refl) }
same_with_flags (Terminal which flags) new = record { base = refl; inheriting = refl; behind = λ S h. h; alike = λ k. (refl, refl, refl) }
same_with_flags (Process p object) new = record { base = refl; inheriting = refl; behind = λ S h. h; alike = λ k. (refl, refl, refl) }

-- what holds of none, of either and of both of two updates
pub either_set : (P : List Update → Type 0) (no_first no_second : Bool) (u w : Update) → P [] → P (u ∷ []) → P (w ∷ []) → P (u ∷ w ∷ [])
    → P (cond no_first [] (u ∷ []) ++ cond no_second [] (w ∷ []))
either_set P true true u w none first second all = none
either_set P true false u w none first second all = second
either_set P false true u w none first second all = first
either_set P false false u w none first second all = all

-- what holds of the updates of fd_stat_put holds of its outcome
set_open_holds : (P : Outcome → Type 0) (p : ℕ) (table : Table) (fd : ℕ) (stat : FdStat) (flags : ℕ) (d : Descriptor) (o : Option OpenKind) → P (replies (refused Badf))
    → ((kind : OpenKind) → o ≡ Some kind → P (stat_set p table fd stat flags d (Some kind))) → P (stat_set p table fd stat flags d o)
set_open_holds P p table fd stat flags d None absent done = absent
set_open_holds P p table fd stat flags d (Some kind) absent done = done kind refl

pub put_holds : (P : Outcome → Type 0) (v : View) (p : ℕ) (table : Table) (fd : ℕ) (stat : FdStat) (flags : ℕ) (o : Option Descriptor) → P (replies (refused Badf))
    → ((d : Descriptor) (kind : OpenKind) → o ≡ Some d → v.opened d.id ≡ Some kind → P (stat_set p table fd stat flags d (Some kind)))
    → P (stat_put v p table fd stat flags o)
put_holds P v p table fd stat flags None absent done = absent
put_holds P v p table fd stat flags (Some d) absent done = set_open_holds P p table fd stat flags d (v.opened d.id) absent (λ kind. done d kind refl)

put_reads : (S : State) (p : ℕ) (table : Table) (fd : ℕ) (stat : FdStat) (flags : ℕ) (o : Option Descriptor)
    → stat_put (restrict S (process_parts p ++ (reached_by S o ++ []))) p table fd stat flags o ≡ stat_put (whole S) p table fd stat flags o
put_reads S p table fd stat flags None = refl
put_reads S p table fd stat flags (Some d) = ap (stat_set p table fd stat flags d) (open_seen S p d)

-- it sets its process's own and the open
put_unset : (S : State) (p : ℕ) (table : Table) (fd : ℕ) (stat : FdStat) (flags : ℕ) (o : Option Descriptor) (q : Part) → has_part (process_parts p ++ open_part o) q ≡ false
    → IsUnset (stat_put (whole (tick S)) p table fd stat flags o) q
put_unset S p table fd stat flags None q h = refl
put_unset S p table fd stat flags (Some d) q h =
    let apart = beyond_process p (at_open d.id ∷ []) q h in
    let proc = process_table p q apart.0 in
    set_open_holds (λ o. IsUnset o q) p table fd stat flags d (get S.opens d.id) refl
    (λ kind _. either_set (λ us. has_part (map part_of us) q ≡ false) (bit_and flags 1 == 0) (bit_and flags 2 == 0) (set_open d.id (with_flags kind stat.flags))
    (set_table p (insert table fd (lowered_to d stat))) refl apart.1 proc
    (ap (λ b. b || has_part (at_proc p ∷ []) q) (outside_cons (at_open d.id) [] q apart.1).0 ∙ proc))

-- what it changes it sees
open_reached : (S : State) (o : Option Descriptor) (q : Part) → has_part (open_part o) q ≡ true → has_part (reached_by S o ++ []) q ≡ true
open_reached S None q h = h
open_reached S (Some d) q h =
    has_of_both (reached_by S (Some d)) [] q ∙ or_false (has_part (reached_by S (Some d)) q)
    ∙ ap (λ b. b || has_part (behind S (get S.opens d.id)) q) (sym (or_false (same_part (at_open d.id) q)) ∙ h)

put_others : (v : View) (p : ℕ) (table : Table) (fd : ℕ) (stat : FdStat) (flags : ℕ) (o : Option Descriptor) (q : ℕ) → q ≢ p
    → IsUnset (stat_put v p table fd stat flags o) (at_proc q) × IsUnset (stat_put v p table fd stat flags o) (at_status q)
put_others v p table fd stat flags o q apart =
    put_holds (λ o. IsUnset o (at_proc q) × IsUnset o (at_status q)) v p table fd stat flags o (refl, refl)
    (λ d kind _ _. either_set (λ us. (has_part (map part_of us) (at_proc q) ≡ false) × (has_part (map part_of us) (at_status q) ≡ false))
    (bit_and flags 1 == 0) (bit_and flags 2 == 0) (set_open d.id (with_flags kind stat.flags)) (set_table p (insert table fd (lowered_to d stat)))
    (refl, refl) (refl, refl) (other_table p q apart, refl) (other_table p q apart, refl))

put_own : (S : State) (v : View) (p : ℕ) (table : Table) (fd : ℕ) (stat : FdStat) (flags : ℕ) (o : Option Descriptor) → KeepsOwn S p (stat_put v p table fd stat flags o)
put_own S v p table fd stat flags o =
    let same = own_stays (get S.processes p) in
    put_holds (KeepsOwn S p) v p table fd stat flags o same
    (λ d kind _ _. either_set (λ us. KeepsOwn S p (record { answer = (stat_set p table fd stat flags d (Some kind)).answer; updates = us }))
    (bit_and flags 1 == 0) (bit_and flags 2 == 0) (set_open d.id (with_flags kind stat.flags)) (set_table p (insert table fd (lowered_to d stat)))
    same same same same)

pub put_valid : (S : State) (p : ℕ) (table : Table) (fd : ℕ) (stat : FdStat) (flags : ℕ) → get S.tables p ≡ Some table → IsNearlyValid S
    → IsNearlyValid (put_all (stat_put (whole S) p table fd stat flags (get table fd)).updates S)
put_valid S p table fd stat flags there nearly =
    put_holds (λ (o : Outcome). IsNearlyValid (put_all o.updates S)) (whole S) p table fd stat flags (get table fd) nearly
    (λ d kind here at. (
    let set = set_open_nearly_valid S d.id kind (with_flags kind stat.flags) at (same_with_flags kind stat.flags) nearly in
    let from = inserted_from table fd fd d (lowered_to d stat) here (lowered_within d stat) in
    either_set (λ us. IsNearlyValid (put_all us S)) (bit_and flags 1 == 0) (bit_and flags 2 == 0) (set_open d.id (with_flags kind stat.flags))
    (set_table p (insert table fd (lowered_to d stat))) nearly set (set_table_nearly_valid S p table (insert table fd (lowered_to d stat)) there from nearly)
    (set_table_nearly_valid _ p table (insert table fd (lowered_to d stat)) there from set)))

pub fd_stat_put_is_proper : (fd : ℕ) (stat : FdStat) (flags : ℕ) → IsProper (fd_stat_put fd stat flags)
fd_stat_put_is_proper fd stat flags = record {
  names = (([], [], refl), tt);
  sees = (inl (stat_put_row fd stat flags, ([], [], refl), refl), tt);
  reads = λ constants S who table. put_reads S who.pid table fd stat flags (get table fd);
  walks = λ S who table. refl;
  sets = λ constants S who table part h. put_unset S who.pid table fd stat flags (get table fd) part h;
  touched = λ S table part h. open_reached S (get table fd) part h;
  plain = λ constants v who table.
      put_holds (IsPlain (Badf ∷ [])) v who.pid table fd stat flags (get table fd) (refl, inr (refl, ([], [], refl))) (λ d kind _ _. (refl, inl refl));
  waits = λ h. absurd (not_true h);
  lacks = λ h. absurd (not_true h);
  others = λ constants v who table q apart _. put_others v who.pid table fd stat flags (get table fd) q apart;
  own = λ constants S who table. inl (put_own S (whole S) who.pid table fd stat flags (get table fd));
  allows = λ constants S who table. tt;
  carries = λ constants S who table nearly.
      put_holds (AllCarryOn S (table, [], false)) (whole S) who.pid table fd stat flags (get table fd) tt
      (λ d kind _ _. either_set (λ us. AllByRecursion (CarriesOn S (table, [], false)) us) (bit_and flags 1 == 0) (bit_and flags 2 == 0)
      (set_open d.id (with_flags kind stat.flags)) (set_table who.pid (insert table fd (lowered_to d stat))) tt (tt, tt) (tt, tt) (tt, (tt, tt)));
  valid = λ constants S who table there nearly. put_valid S who.pid table fd stat flags there nearly;
}
