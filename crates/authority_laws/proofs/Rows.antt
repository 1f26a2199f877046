-- What a state's tables are as rows, and what errors leave of a row.
use Rattle.std.proofs.Common.{◌≡◌, ◌≢◌, inl, inr, ℕ, cond, Option, Some, None, refl, sym, ap, subst, ◌∙◌}
use Rattle.std.proofs.lemmas.Bool.{eq-eqb}
use Rattle.std.proofs.lemmas.Bool.Decides.{eqb_tells}
use Rattle.std.specs.Ordering.{nat_cmp}
use Rattle.std.specs.FinMap.{FinMap, get, get-empty, insert, remove, empty}
use Rattle.abi_base.specs.declared.errno.Errno.{Errno}
use Rattle.abi_base.specs.declared.errno.Errno.TheVariants.{Success, Again, Badf, Mfile, Notcapable, Nosys, Perm}
use Rattle.abi_types.specs.declared.call.Call.{Call}
use Rattle.abi_types.specs.declared.descriptor.Descriptor.{Descriptor}
use Rattle.maps.specs.Maps.{get-insert-same, get-insert-other, get-remove-same, get-remove-other}
use Rattle.kernel_model.specs.Outcome.{Outcome, replies}
use Rattle.kernel_model.specs.Reply.{refused}
use Rattle.kernel_model.specs.State.{State, Table, put_all}
use Rattle.abi_base.specs.declared.signal.Signal.{Signal}
use Rattle.kernel_model.specs.Families.ProcessCalls.{Raised, stops, passes, ends, raised_by}
use Rattle.authority_laws.specs.Ledger.{Row, no_row, with_held, after_of, granted_row, by_success, answered_row, raised_as, raised_row}

-- what is under each number of a table, where there is a table
abbrev pub row_in : Option Table → Row
row_in None = no_row
row_in (Some table) = λ n. get table n

-- what each process has in its table
abbrev pub row_of : State → ℕ → Row
row_of S p = row_in (get S.tables p)

pub row_in_empty : row_in (Some empty) ≡ no_row
row_in_empty = λ i n. get-empty nat_cmp n i

pub row_dropped : (tables : FinMap nat_cmp Table) (p : ℕ) → row_in (get (remove tables p) p) ≡ no_row
row_dropped tables p = ap row_in (get-remove-same tables p)

-- ---- one number

pub held_here : (row : Row) (n : ℕ) (o : Option Descriptor) → with_held row n o n ≡ o
held_here row n o = ap (λ b. cond b o (row n)) (eq-eqb n n refl)

pub held_elsewhere : (row : Row) (n : ℕ) (o : Option Descriptor) (m : ℕ) → m ≢ n → with_held row n o m ≡ row m
held_elsewhere row n o m apart =
    elim (eqb_tells m n) [
      | inl is ↦ absurd (apart is.1)
      | inr other ↦ ap (λ b. cond b o (row m)) other.0
    ]

-- what is put under a number twice is what is put there last
twice_at : (row : Row) (n : ℕ) (o other last : Option Descriptor) (m : ℕ) → with_held (with_held row n o) n last m ≡ with_held (with_held row n other) n last m
twice_at row n o other last m =
    elim (eqb_tells m n) [
      | inl is ↦ subst (λ j. with_held (with_held row n o) n last j ≡ with_held (with_held row n other) n last j) (sym is.1)
          (held_here (with_held row n o) n last ∙ sym (held_here (with_held row n other) n last))
      | inr apart ↦ held_elsewhere (with_held row n o) n last m apart.1 ∙ held_elsewhere row n o m apart.1
          ∙ sym (held_elsewhere (with_held row n other) n last m apart.1 ∙ held_elsewhere row n other m apart.1)
    ]

pub put_twice : (row : Row) (n : ℕ) (o other last : Option Descriptor) → with_held (with_held row n o) n last ≡ with_held (with_held row n other) n last
put_twice row n o other last = λ i m. twice_at row n o other last m i

inserted_at : (table : Table) (n : ℕ) (d : Descriptor) (m : ℕ) → get (insert table n d) m ≡ with_held (row_in (Some table)) n (Some d) m
inserted_at table n d m =
    elim (eqb_tells m n) [
      | inl is ↦ ap (get (insert table n d)) is.1 ∙ get-insert-same table n d ∙ sym (ap (λ b. cond b (Some d) (get table m)) is.0)
      | inr other ↦ get-insert-other table n d m other.1 ∙ sym (ap (λ b. cond b (Some d) (get table m)) other.0)
    ]

-- a descriptor put into a table
pub row_inserted : (table : Table) (n : ℕ) (d : Descriptor) → row_in (Some (insert table n d)) ≡ with_held (row_in (Some table)) n (Some d)
row_inserted table n d = λ i m. inserted_at table n d m i

removed_at : (table : Table) (n m : ℕ) → get (remove table n) m ≡ with_held (row_in (Some table)) n None m
removed_at table n m =
    elim (eqb_tells m n) [
      | inl is ↦ ap (get (remove table n)) is.1 ∙ get-remove-same table n ∙ sym (ap (λ b. cond b None (get table m)) is.0)
      | inr other ↦ get-remove-other table n m other.1 ∙ sym (ap (λ b. cond b None (get table m)) other.0)
    ]

-- a descriptor taken out of a table
pub row_removed : (table : Table) (n : ℕ) → row_in (Some (remove table n)) ≡ with_held (row_in (Some table)) n None
row_removed table n = λ i m. removed_at table n m i

-- ---- errors

pub by_error : {X : Type 0} (errno : Errno) (done otherwise : X) → errno ≢ Success → by_success errno done otherwise ≡ otherwise
by_error Success done otherwise other = absurd (other refl)
by_error _ done otherwise other = refl

-- where nothing is granted it does not matter whether the call succeeded
pub by_either : {X : Type 0} (errno : Errno) (same : X) → by_success errno same same ≡ same
by_either Success same = refl
by_either _ same = refl

-- ---- what an outcome leaves

-- after the outcome's updates its process has what the ledger says after this answer
abbrev pub LeavesRow : State → ℕ → Call → Outcome → Type 0
LeavesRow S p call o = row_of (put_all o.updates S) p ≡ answered_row (after_of S (put_all o.updates S) p) (row_of S p) call o.answer

-- an error, after which its process has the table that it had
pub refused_reported : (S : State) (p : ℕ) (call : Call) (errno : Errno) → errno ≢ Success → LeavesRow S p call (replies (refused errno))
refused_reported S p call errno other = sym (by_error errno (granted_row (after_of S S p) (row_of S p) call (refused errno)) (row_of S p) other)

pub badf_is_error : Badf ≢ Success
badf_is_error e = cc

pub mfile_is_error : Mfile ≢ Success
mfile_is_error e = cc

pub perm_is_error : Perm ≢ Success
perm_is_error e = cc

pub again_is_error : Again ≢ Success
again_is_error e = cc

pub notcapable_is_error : Notcapable ≢ Success
notcapable_is_error e = cc

pub nosys_is_error : Nosys ≢ Success
nosys_is_error e = cc

-- ---- signals

-- what holds of the row that a process has and of one with nothing holds of what it holds once it has raised a signal
kind_cases : (P : Row → Type 0) (kind : Raised) (row : Row) → P row → P no_row → P (raised_as kind row)
kind_cases P stops row stays over = stays
kind_cases P passes row stays over = stays
kind_cases P ends row stays over = over

pub raised_cases : (P : Row → Type 0) (o : Option Signal) (row : Row) → P row → P no_row → P (raised_row o row)
raised_cases P None row stays over = stays
raised_cases P (Some signal) row stays over = kind_cases P (raised_by signal) row stays over
