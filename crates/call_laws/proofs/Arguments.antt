-- Each call names the descriptors of its arguments.
use Rattle.std.proofs.Common.{◌≡◌, ℕ, zero, suc, ◌==◌, ◌&&◌, true, false, ◌<◌, ◌%◌, List, [], ◌∷◌, map, refl, ap, arith}
use Rattle.std.proofs.lemmas.Nat.{and_mask}
use Rattle.std.specs.Prelude.{bit_and, if◌then◌else◌}
use Rattle.abi_base.specs.declared.rights.TheConstants.Rights.{FD_SEEK, FD_TELL}
use Rattle.abi_structures.specs.declared.events.Subscription.{Subscription}
use Rattle.abi_structures.specs.declared.events.What.{What}
use Rattle.abi_structures.specs.declared.events.What.TheVariants.{FdRead, FdWrite, ProcTerminate}
use Rattle.abi_types.specs.declared.call.Call.TheVariants as call
use Rattle.abi_types.specs.declared.needed.Needed.{Needed}
use Rattle.abi_types.specs.declared.place.Place.{Place}
use Rattle.kernel_model.specs.Families.FileMeaning.{on_open}
use Rattle.kernel_model.specs.Families.MemoryCalls.{map_row, map_zeros, mapping}
use Rattle.kernel_model.specs.Families.StreamCalls.{seek_row}
use Rattle.kernel_model.specs.Families.WaitCalls.{fds_of, wait_row, wait_rows}
use Rattle.kernel_model.specs.Meaning.{Meaning}
use Rattle.kernel_model.specs.Rows.{base_row, either_row}
use Rattle.call_laws.specs.ArgumentLaws.{awaited_by, awaited_fds, AllAreInOrder}

-- ---- polls

wait_names : (what : What) (rows : List Needed) (fds : List ℕ) → fds_of rows ≡ fds → fds_of (wait_row what rows) ≡ awaited_by what fds
wait_names (FdRead fd) rows fds is = ap (λ rest. fd ∷ rest) is
wait_names (FdWrite fd) rows fds is = ap (λ rest. fd ∷ rest) is
wait_names (ProcTerminate fd) rows fds is = ap (λ rest. fd ∷ rest) is
wait_names other rows fds is = is

poll_names : (subscriptions : List Subscription) → fds_of (wait_rows subscriptions) ≡ awaited_fds subscriptions
poll_names [] = refl
poll_names (subscription ∷ rest) = wait_names subscription.what (wait_rows rest) (awaited_fds rest) (poll_names rest)

-- ---- mappings

-- ANON is a bit that is set or not
one_bit : (flags : ℕ) → bit_and flags 1 < 2
one_bit flags = let is : bit_and flags 1 ≡ flags % 2 = and_mask flags 1 in omega (arith, is)

module _ (place : Place) (length prot fd offset : ℕ) where
  abbrev mapped : ℕ → Meaning
  mapped bit = if bit == 1 then map_zeros place else on_open (map_row fd prot) (mapping place length offset)

  abbrev mapped_by : ℕ → List ℕ
  mapped_by bit = if bit == 0 then fd ∷ [] else []

  map_names : (bit : ℕ) → bit < 2 → (mapped bit).named ≡ mapped_by bit
  map_names zero few = refl
  map_names (suc zero) few = refl
  map_names (suc (suc bit)) few = absurd (omega (arith, few))

  map_rows : (bit : ℕ) → bit < 2 → map (λ (row : Needed). row.fd) (mapped bit).need ≡ mapped_by bit
  map_rows zero few = refl
  map_rows (suc zero) few = refl
  map_rows (suc (suc bit)) few = absurd (omega (arith, few))

-- ---- all calls

pub all_are_in_order : AllAreInOrder
all_are_in_order (call.MemMap place length prot flags fd offset) = record {
  names = map_names place length prot fd offset (bit_and flags 1) (one_bit flags);
  rows = map_rows place length prot fd offset (bit_and flags 1) (one_bit flags);
}
all_are_in_order (call.Poll subscriptions) = record { names = poll_names subscriptions; rows = poll_names subscriptions }
all_are_in_order (call.FdSeek fd offset whence) = record { names = ap (λ n. n ∷ []) seek_fd; rows = ap (λ n. n ∷ []) seek_fd } where
  seek_fd : (seek_row fd offset whence).fd ≡ fd
  seek_fd = elim ((offset == 0) && (whence == 1)) as (λ b. (if b then either_row fd FD_TELL FD_SEEK else base_row fd FD_SEEK).fd ≡ fd) [ true ↦ refl | false ↦ refl ]
all_are_in_order c = record { names = refl; rows = refl }
