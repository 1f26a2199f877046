-- What is shown of the calls that work on the open of one descriptor.
--     IsOnOpen call fd      the call is such a one, of this descriptor
--     on_open_of      so it is where the call says that descriptor
use Rattle.std.proofs.Common.{◌≡◌, ℕ, ◌+◌, Bool, true, false, cond, Some, None, refl, ap}
use Rattle.abi_types.specs.declared.call.Call.{Call}
use Rattle.abi_types.specs.declared.call.Call.TheVariants as call
use Rattle.abi_types.specs.declared.needed.Needed.{Needed}
use Rattle.kernel_model.specs.Calls.{meaning_of}
use Rattle.kernel_model.specs.Families.FileCalls.{file_meaning, file_fd}
use Rattle.kernel_model.specs.Families.FileMeaning.{on_open}
use Rattle.kernel_model.specs.Families.FilePaths.{lookup_mode}
use Rattle.abi_types.specs.Families.{is_anonymous}
use Rattle.kernel_model.specs.Families.MemoryCalls.{map_row, map_zeros, mapping}
use Rattle.kernel_model.proofs.FileBytes.{read_keeps_well, write_keeps_well}
use Rattle.kernel_model.proofs.FileChanges.{allocate_keeps_well, put_open_keeps_well, put_by_path_keeps_well}
use Rattle.kernel_model.proofs.FileLooks.{list_keeps_well, read_link_keeps_well, report_in_keeps_well, report_open_keeps_well}
use Rattle.kernel_model.proofs.FileMeanings.{KeepsWell}
use Rattle.kernel_model.proofs.MemoryCalls.{mapping_keeps_well}
use Rattle.kernel_model.proofs.Tests.{none_is_no, same_some}

-- the call needs something of this descriptor, and works on its open; and its meaning there is as it must be
pub record IsOnOpen (call : Call) (fd : ℕ) : Type 0 where
  pub row : Needed
  pub of : row.fd ≡ fd
  pub means : meaning_of call ≡ on_open row (file_meaning call)
  pub well : KeepsWell (file_meaning call)

-- a mapping that works on an open isn't anonymous
not_anonymous : (anonymous : Bool) (n fd : ℕ) → cond anonymous None (Some n) ≡ Some fd → (anonymous ≡ false) × (n ≡ fd)
not_anonymous true n fd is = absurd (none_is_no fd is)
not_anonymous false n fd is = (refl, same_some n fd is)

pub on_open_of : (called : Call) (fd : ℕ) → file_fd called ≡ Some fd → IsOnOpen called fd
on_open_of (call.FileAllocate n offset length) fd is =
    record { row = _; of = same_some n fd is; means = refl; well = allocate_keeps_well (offset + length) }
on_open_of (call.FileReaddir n length cookie) fd is = record { row = _; of = same_some n fd is; means = refl; well = list_keeps_well length cookie }
on_open_of (call.FileReadlink n path length) fd is = record { row = _; of = same_some n fd is; means = refl; well = read_link_keeps_well path length }
on_open_of (call.FileStatFget n) fd is = record { row = _; of = same_some n fd is; means = refl; well = report_open_keeps_well }
on_open_of (call.FileStatFput n stat flags) fd is = record { row = _; of = same_some n fd is; means = refl; well = put_open_keeps_well flags stat }
on_open_of (call.FileStatGet lookup path) fd is =
    record { row = _; of = same_some lookup.fd fd is; means = refl; well = report_in_keeps_well (lookup_mode lookup.flags) path }
on_open_of (call.FileStatPut lookup path stat flags) fd is =
    record { row = _; of = same_some lookup.fd fd is; means = refl; well = put_by_path_keeps_well (lookup_mode lookup.flags) path flags stat }
on_open_of (call.FdPread n length offset) fd is = record { row = _; of = same_some n fd is; means = refl; well = read_keeps_well length offset }
on_open_of (call.FdPwrite n bytes offset) fd is = record { row = _; of = same_some n fd is; means = refl; well = write_keeps_well bytes offset }
on_open_of (call.MemMap place length prot flags n offset) fd is =
    let file = not_anonymous (is_anonymous flags) n fd is in
    record {
      row = map_row n prot;
      of = file.1;
      means = ap (λ b. cond b (map_zeros place) (on_open (map_row n prot) (mapping place length offset))) file.0;
      well = mapping_keeps_well place length offset;
    }
on_open_of other fd is = absurd (none_is_no fd is)
