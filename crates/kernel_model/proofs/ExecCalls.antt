-- The meaning of proc_exec is proper.
--     listed_all      what holds of the descriptors that are listed
--     listed_at      what stands under each number then
--     exec_holds      what holds of each outcome of it
use Rattle.std.proofs.Common.{◌≡◌, inl, inr, ℕ, zero, suc, ◌+◌, ◌<◌, ◌==◌, ◌||◌, Bool, true, false, cond, List, [], ◌∷◌, ◌++◌, Option, Some, None, is_some, refl, sym, ap, subst, ◌∙◌, arith}
use Rattle.std.proofs.lemmas.Bool.Decides.{eqb_tells}
use Rattle.std.specs.Ordering.{nat_cmp}
use Rattle.std.specs.FinMap.{get, get-empty, insert, retain_keys}
use Rattle.std.specs.Prelude.{if◌then◌else◌}
use Rattle.elf_image.specs.Checks.{fault_of}
use Rattle.elf_image.specs.declared.fault.ElfFault.{ElfFault}
use Rattle.tree_model.specs.Changes.{bytes_in, bytes_of}
use Rattle.abi_base.specs.declared.errno.Errno.{Errno}
use Rattle.abi_base.specs.declared.errno.Errno.TheVariants.{Again, Badf, Noexec}
use Rattle.abi_base.specs.declared.rights.TheConstants.Rights.{PROC_EXEC}
use Rattle.abi_types.specs.declared.descriptor.Descriptor.{Descriptor}
use Rattle.abi_types.specs.declared.open_kind.OpenKind.{OpenKind}
use Rattle.abi_types.specs.declared.open_kind.OpenKind.TheVariants.{File, Directory, End, Terminal, Process}
use Rattle.abi_types.specs.declared.thread.Thread.{Thread}
use Rattle.maps.specs.Maps.{get-insert-same, get-insert-other, get-retain}
use Rattle.kernel_model.specs.Families.ClockCalls.{can_draw}
use Rattle.kernel_model.specs.Families.ForkCalls.{exec_checked, exec_if, exec_in, exec_open, listed, listed_from, proc_exec, put_where}
use Rattle.kernel_model.specs.Families.OpenMeaning.{at_descriptor}
use Rattle.kernel_model.specs.ForkLaws.{nth_held}
use Rattle.kernel_model.specs.Outcome.{Outcome, replies}
use Rattle.kernel_model.specs.OwnChanges.{begins_anew, begun_anew, is_success, own_by, AllowsChange, IsChangedBy}
use Rattle.kernel_model.specs.Proper.{IsIn, IsPlain, IsProper, IsUnset, AllCarryOn}
use Rattle.kernel_model.specs.Reply.{refused}
use Rattle.kernel_model.specs.Rows.{base_row}
use Rattle.kernel_model.specs.Sight.{behind, process_parts, reached_by}
use Rattle.kernel_model.specs.Start.{canary_words}
use Rattle.kernel_model.specs.State.{State, ProcessState, Table, Threads, Part, at_clock, at_open, at_proc, at_status, has_part, put_all, put_one, same_part, set_process, tree_of}
use Rattle.kernel_model.specs.Step.{tick}
use Rattle.kernel_model.specs.Valid.{IsNamed, IsNearlyValid}
use Rattle.kernel_model.specs.View.{View, restrict, whole}
use Rattle.kernel_model.proofs.Branches.{behind_is_seen, seen_parts}
use Rattle.kernel_model.proofs.OwnChanges.{Grows, set_process_nearly_valid}
use Rattle.kernel_model.proofs.Parts.{beyond_process, number_apart, outside_cons, own_becomes, own_stays}
use Rattle.kernel_model.proofs.Sights.{first_seen, open_seen}
use Rattle.kernel_model.proofs.Tests.{none_is_no, not_true}
use Rattle.kernel_model.proofs.Valids.{same_value, table_nearly_valid}

-- ---- the descriptors that are listed

listed_step : (P : Descriptor → Type 0) (o : Option Descriptor) (k : ℕ) (rest : Table) (n : ℕ) (d : Descriptor) → ((x : Descriptor) → o ≡ Some x → P x)
    → (get rest n ≡ Some d → P d) → get (put_where o k rest) n ≡ Some d → P d
listed_step P None k rest n d holds more here = more here
listed_step P (Some x) k rest n d holds more here =
    elim (eqb_tells n k) [
      | inl is ↦ subst P (same_value x d (get (insert rest k x) k) (get-insert-same rest k x)
          (subst (λ j. get (insert rest k x) j ≡ Some d) is.1 here)) (holds x refl)
      | inr other ↦ more (sym (get-insert-other rest k x n other.1) ∙ here)
    ]

-- what holds of all that a table has holds of what is listed
pub listed_all : (P : Descriptor → Type 0) (table : Table) → ((n : ℕ) (d : Descriptor) → get table n ≡ Some d → P d) → (k : ℕ) (fds : List ℕ)
    → (n : ℕ) (d : Descriptor) → get (listed_from table k fds) n ≡ Some d → P d
listed_all P table holds k [] n d at = absurd (none_is_no d (sym (get-empty nat_cmp n) ∙ at))
listed_all P table holds k (fd ∷ fds) n d at =
    listed_step P (get table fd) k (listed_from table (k + 1) fds) n d (holds fd) (listed_all P table holds (k + 1) fds n d) at

-- nothing stands under a number before the first
before_step : (o : Option Descriptor) (k : ℕ) (rest : Table) (n : ℕ) → n < k → get rest n ≡ None → get (put_where o k rest) n ≡ None
before_step None k rest n less none = none
before_step (Some x) k rest n less none = get-insert-other rest k x n (λ e. omega (arith, e, less)) ∙ none

none_before : (table : Table) (k : ℕ) (fds : List ℕ) (n : ℕ) → n < k → get (listed_from table k fds) n ≡ None
none_before table k [] n less = get-empty nat_cmp n
none_before table k (fd ∷ fds) n less =
    before_step (get table fd) k (listed_from table (k + 1) fds) n less (none_before table (k + 1) fds n (omega (arith, less)))

-- what is put first stands there, and what stands behind it stays
at_first : (o : Option Descriptor) (k : ℕ) (rest : Table) → get rest k ≡ None → get (put_where o k rest) k ≡ o
at_first None k rest none = none
at_first (Some d) k rest none = get-insert-same rest k d

at_later : (o : Option Descriptor) (k : ℕ) (rest : Table) (m : ℕ) → get (put_where o k rest) (k + suc m) ≡ get rest (k + suc m)
at_later None k rest m = refl
at_later (Some d) k rest m = get-insert-other rest k d (k + suc m) (λ e. omega (arith, e))

-- under each number is what the table has under the number that is listed there
from_at : (table : Table) (k : ℕ) (fds : List ℕ) (n : ℕ) → get (listed_from table k fds) (k + n) ≡ nth_held (get table) fds n
from_at table k [] n = get-empty nat_cmp (k + n)
from_at table k (fd ∷ fds) zero =
    let here : k + 0 ≡ k = omega arith in
    ap (get (listed_from table k (fd ∷ fds))) here
    ∙ at_first (get table fd) k (listed_from table (k + 1) fds) (none_before table (k + 1) fds k (omega arith))
from_at table k (fd ∷ fds) (suc m) =
    let behind : k + suc m ≡ k + 1 + m = omega arith in
    at_later (get table fd) k (listed_from table (k + 1) fds) m ∙ ap (get (listed_from table (k + 1) fds)) behind ∙ from_at table (k + 1) fds m

pub listed_at : (table : Table) (fds : List ℕ) (n : ℕ) → get (listed table fds) n ≡ nth_held (get table) fds n
listed_at table fds n =
    let behind : n ≡ 0 + n = omega arith in
    ap (get (listed table fds)) behind ∙ from_at table 0 fds n

-- ---- each outcome

abbrev exec_errors : List Errno
exec_errors = Badf ∷ Noexec ∷ Again ∷ []

-- the open is of a file that is a program
pub record IsProgram (v : View) (kind : Option OpenKind) (node : ℕ) : Type 0 where
  pub offset : ℕ
  pub flags : ℕ
  pub opened : kind ≡ Some (File node offset flags)
  pub sound : fault_of (bytes_of v.branch node) ≡ None

module _ (key : List ℕ) (p t : ℕ) (table : Table) (v : View) (P : Outcome → Type 0)
    (refuses : (errno : Errno) → IsIn errno exec_errors → is_success errno ≡ false → P (replies (refused errno))) where
  badf : P (replies (refused Badf))
  badf = refuses Badf ([], Noexec ∷ Again ∷ [], refl) refl

  own_holds : (elf : List ℕ) (o : Option ProcessState) → ((own : ProcessState) → o ≡ Some own → P (exec_if true key p t own table elf))
      → P (exec_in key p t table elf o)
  own_holds elf None begins = refuses Again (Badf ∷ Noexec ∷ [], [], refl) refl
  own_holds elf (Some own) begins =
      elim (can_draw canary_words own) as (λ b. P (exec_if b key p t own table elf)) [
        | true ↦ begins own refl
        | false ↦ refuses Again (Badf ∷ Noexec ∷ [], [], refl) refl
      ]

  checked_holds : (elf : List ℕ) (fault : Option ElfFault)
      → (fault ≡ None → (own : ProcessState) → v.process p ≡ Some own → P (exec_if true key p t own table elf))
      → P (exec_checked key p t table elf (v.process p) fault)
  checked_holds elf (Some fault) begins = refuses Noexec (Badf ∷ [], Again ∷ [], refl) refl
  checked_holds elf None begins = own_holds elf (v.process p) (begins refl)

  pub exec_holds : (kind : Option OpenKind)
      → ((node : ℕ) (own : ProcessState) → IsProgram v kind node → v.process p ≡ Some own → P (exec_if true key p t own table (bytes_of v.branch node)))
      → P (exec_open key p t table v kind)
  exec_holds None begins = badf
  exec_holds (Some (File node offset flags)) begins =
      checked_holds (bytes_of v.branch node) (fault_of (bytes_of v.branch node))
      (λ sound own there. begins node own (record { offset = offset; flags = flags; opened = refl; sound = sound }) there)
  exec_holds (Some (Directory node flags)) begins = badf
  exec_holds (Some (End reads writes flags form)) begins = badf
  exec_holds (Some (Terminal which flags)) begins = badf
  exec_holds (Some (Process q object)) begins = badf

  pub exec_at_holds : (d : Option Descriptor)
      → ((x : Descriptor) (node : ℕ) (own : ProcessState) → d ≡ Some x → IsProgram v (v.opened x.id) node → v.process p ≡ Some own
      → P (exec_if true key p t own table (bytes_of v.branch node)))
      → P (at_descriptor (λ o. exec_open key p t table v) v d)
  exec_at_holds None begins = badf
  exec_at_holds (Some x) begins = exec_holds (v.opened x.id) (λ node own program there. begins x node own refl program there)

-- ---- what it reads

exec_reads : (key : List ℕ) (p t : ℕ) (table : Table) (S : State) (o : ℕ) (kind : Option OpenKind)
    → exec_open key p t table (restrict S (seen_parts S p o kind)) kind ≡ exec_open key p t table (whole S) kind
exec_reads key p t table S o None = refl
exec_reads key p t table S o (Some (File node offset flags)) =
    let kind : Option OpenKind = Some (File node offset flags) in
    let bytes : bytes_of (restrict S (seen_parts S p o kind)).branch node ≡ bytes_of (tree_of S) node =
    ap bytes_in (sym (behind_is_seen S p o kind)) in
    let own : (restrict S (seen_parts S p o kind)).process p ≡ get S.processes p =
    first_seen p (has_part (at_status p ∷ at_open o ∷ (behind S kind ++ [])) (at_proc p)) (get S.processes p) in
    λ i. exec_checked key p t table (bytes i) (own i) (fault_of (bytes i))
exec_reads key p t table S o (Some (Directory node flags)) = refl
exec_reads key p t table S o (Some (End reads writes flags form)) = refl
exec_reads key p t table S o (Some (Terminal which flags)) = refl
exec_reads key p t table S o (Some (Process q object)) = refl

exec_reads_at : (key : List ℕ) (p t : ℕ) (table : Table) (S : State) (d : Option Descriptor)
    → at_descriptor (λ o. exec_open key p t table (restrict S (process_parts p ++ (reached_by S d ++ [])))) (restrict S (process_parts p ++ (reached_by S d ++ []))) d
    ≡ at_descriptor (λ o. exec_open key p t table (whole S)) (whole S) d
exec_reads_at key p t table S None = refl
exec_reads_at key p t table S (Some d) =
    ap (exec_open key p t table (restrict S (process_parts p ++ (reached_by S (Some d) ++ [])))) (open_seen S p d)
    ∙ exec_reads key p t table S d.id (get S.opens d.id)

-- ---- the state after it

-- the process has no other thread left
retained_was : (threads : Threads) (t u : ℕ) (thread : Thread) → get (retain_keys threads (λ k. k == t)) u ≡ Some thread → get threads u ≡ Some thread
retained_was threads t u thread at = of_test (u == t) (sym (get-retain threads (λ k. k == t) u) ∙ at) where
  of_test : (b : Bool) → cond b (get threads u) None ≡ Some thread → get threads u ≡ Some thread
  of_test true is = is
  of_test false is = absurd (none_is_no thread is)

anew_grows : (words t : ℕ) (own : ProcessState) → Grows own (begun_anew words t own)
anew_grows words t own = record {
  threads = λ u thread at. inl (retained_was own.threads t u thread at);
  numbered = omega arith;
  more = omega arith;
  children = (refl, omega arith);
}

exec_valid : (key : List ℕ) (p t fd : ℕ) (fds : List ℕ) (table : Table) (S : State) (d : Option Descriptor) → get table fd ≡ d → get S.tables p ≡ Some table
    → IsNearlyValid S → IsNearlyValid (put_all (at_descriptor (λ o. exec_open key p t (listed table fds) (whole S)) (whole S) d).updates S)
exec_valid key p t fd fds table S d at has v =
    exec_at_holds key p t (listed table fds) (whole S) (λ x. IsNearlyValid (put_all x.updates S)) (λ errno here other. v) d
    (λ x node own is program there.
    let anew = set_process_nearly_valid S p own (begun_anew canary_words t own) there
    (anew_grows canary_words t own) v in
    table_nearly_valid (put_one (set_process p (begun_anew canary_words t own)) S) p table (listed table fds) has
    (listed_all (λ y. IsNamed (get S.opens y.id) y) table (λ n y here. v.named p n table y has here) 0 fds) anew)

own_twice : (p : ℕ) (q : Part) → same_part (at_proc p) q ≡ false → (same_part (at_proc p) q || (same_part (at_proc p) q || false)) ≡ false
own_twice p q apart = ap (λ b. b || (b || false)) apart

exec_own : (key : List ℕ) (p t : ℕ) (table : Table) (S : State) (d : Option Descriptor)
    → IsChangedBy (own_by (begins_anew canary_words) t (at_descriptor (λ o. exec_open key p t table (whole S)) (whole S) d).answer) (get S.processes p)
    (get (put_all (at_descriptor (λ o. exec_open key p t table (whole S)) (whole S) d).updates S).processes p)
exec_own key p t table S d =
    exec_at_holds key p t table (whole S)
    (λ x. IsChangedBy (own_by (begins_anew canary_words) t x.answer) (get S.processes p) (get (put_all x.updates S).processes p))
    (λ errno here other. undone_own errno other) d
    (λ x node own is program there. own_becomes (begun_anew canary_words t) (get S.processes p) _ own there
    (get-insert-same S.processes p (begun_anew canary_words t own))) where
      undone_own : (errno : Errno) → is_success errno ≡ false
          → IsChangedBy (λ x. if is_success errno then begun_anew canary_words t x else x) (get S.processes p) (get S.processes p)
      undone_own errno other =
          subst (λ b. IsChangedBy (λ x. if b then begun_anew canary_words t x else x) (get S.processes p) (get S.processes p)) (sym other)
          (own_stays (get S.processes p))

pub proc_exec_is_proper : (fd : ℕ) (fds : List ℕ) → IsProper (proc_exec fd fds)
proc_exec_is_proper fd fds = record {
  names = (([], fds, refl), tt);
  sees = (inl (base_row fd PROC_EXEC, ([], [], refl), refl), tt);
  reads = λ constants S who table. exec_reads_at constants.key who.pid who.tid (listed table fds) S (get table fd);
  walks = λ S who table. refl;
  sets = λ constants S who table part h.
      let both = beyond_process who.pid [] part h in
      let proc = outside_cons (at_proc who.pid) (at_status who.pid ∷ []) part
      (outside_cons at_clock (at_proc who.pid ∷ at_status who.pid ∷ []) part both.0).1 in
      exec_at_holds constants.key who.pid who.tid (listed table fds) (whole (tick S)) (λ x. IsUnset x part) (λ errno here other. refl) (get table fd)
      (λ x node own is program there. own_twice who.pid part proc.0);
  touched = λ S table part h. absurd (not_true h);
  plain = λ constants v who table.
      exec_at_holds constants.key who.pid who.tid (listed table fds) v (IsPlain exec_errors) (λ errno here other. (refl, inr (refl, here))) (get table fd)
      (λ x node own is program there. (refl, inl refl));
  waits = λ h. absurd (not_true h);
  lacks = λ _. ((λ e. cc), ((λ e. cc), ((λ e. cc), tt)));
  others = λ constants v who table q apart _.
      exec_at_holds constants.key who.pid who.tid (listed table fds) v (λ x. IsUnset x (at_proc q) × IsUnset x (at_status q)) (λ errno here other. (refl, refl))
      (get table fd) (λ x node own is program there. (own_twice who.pid (at_proc q) (number_apart who.pid q apart), refl));
  own = λ constants S who table. inl (exec_own constants.key who.pid who.tid (listed table fds) S (get table fd));
  allows = λ constants S who table.
      exec_at_holds constants.key who.pid who.tid (listed table fds) (whole S)
      (λ x. AllowsChange (begins_anew canary_words) who.tid x.answer (get S.processes who.pid)) (λ errno here other done. absurd (not_true (sym other ∙ done)))
      (get table fd) (λ x node own is program there _. ap is_some there);
  carries = λ constants S who table nearly.
      exec_at_holds constants.key who.pid who.tid (listed table fds) (whole S) (AllCarryOn S (table, [], false)) (λ errno here other. tt) (get table fd)
      (λ x node own is program there. (tt, (tt, tt)));
  valid = λ constants S who table has nearly. exec_valid constants.key who.pid who.tid fd fds table S (get table fd) refl has nearly;
}
