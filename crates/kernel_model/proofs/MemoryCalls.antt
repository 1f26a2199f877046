-- The meanings of the calls on the caller's memory, and of those that are refused beforehand, are proper.
use Rattle.std.proofs.Common.{◌≡◌, ◌≢◌, inl, inr, ℕ, Bool, true, false, cond, List, [], ◌∷◌, Option, Some, None, refl, sym, ap}
use Rattle.std.specs.List.{AllByRecursion}
use Rattle.abi_base.specs.declared.errno.Errno.{Errno}
use Rattle.abi_base.specs.declared.errno.Errno.TheVariants.{Badf, Nomem}
use Rattle.abi_types.specs.declared.needed.Needed.{Needed}
use Rattle.abi_types.specs.declared.open_kind.OpenKind.{OpenKind}
use Rattle.abi_types.specs.declared.open_kind.OpenKind.TheVariants.{File, Directory, End, Terminal, Process}
use Rattle.abi_types.specs.declared.place.Place.{Place}
use Rattle.abi_types.specs.declared.place.Place.TheVariants as place
use Rattle.abi_types.specs.declared.place.Place.TheVariants.{At}
use Rattle.tree_model.specs.Changes.{bytes_in}
use Rattle.tree_model.specs.Files.{read_bytes}
use Rattle.kernel_model.specs.Families.FileBytes.{bytes_at, page_bytes}
use Rattle.kernel_model.specs.Families.FileMeaning.{on_open}
use Rattle.abi_types.specs.Families.{is_anonymous}
use Rattle.kernel_model.specs.Families.MemoryCalls.{decided, has_place, map_open, map_row, map_zeros, mapping, mem_map, place_errors, placed_with}
use Rattle.kernel_model.specs.Outcome.{replies}
use Rattle.kernel_model.specs.Proper.{IsProper}
use Rattle.kernel_model.specs.Reply.{success, refused}
use Rattle.kernel_model.specs.State.{Tree}
use Rattle.kernel_model.proofs.Answering.{answering_is_proper}
use Rattle.kernel_model.proofs.Branches.{IsSeen}
use Rattle.kernel_model.proofs.FileLooks.{Answers, answers_done, answers_refused, looks_keep_well}
use Rattle.kernel_model.proofs.FileMeanings.{KeepsWell, file_is_proper}
use Rattle.kernel_model.proofs.Tests.{not_true}

pub decided_is_proper : (errno : Errno) → IsProper (decided errno)
decided_is_proper errno = answering_is_proper (errno ∷ []) (refused errno) refl (inr ([], [], refl))

zeros_are_proper : (place : Place) → IsProper (map_zeros place)
zeros_are_proper (At address) = answering_is_proper [] (success address 0) refl (inl refl)
zeros_are_proper (place.Refused errno) = decided_is_proper errno

-- ---- a mapping of a file

map_alike : (place : Place) (length offset : ℕ) (t u : Tree) (kind : Option OpenKind) → IsSeen t u kind
    → map_open place length offset u kind ≡ map_open place length offset t kind
map_alike place length offset t u None seen = refl
map_alike place length offset t u (Some (File node at flags)) seen =
    ap (λ o. replies (placed_with place (read_bytes (bytes_in o) offset (page_bytes length)))) (sym seen)
map_alike place length offset t u (Some (Directory node flags)) seen = refl
map_alike place length offset t u (Some (End reads writes flags form)) seen = refl
map_alike place length offset t u (Some (Terminal which flags)) seen = refl
map_alike place length offset t u (Some (Process p object)) seen = refl

abbrev map_errors : Place → List Errno
map_errors place = Badf ∷ place_errors place

placed_answers : (place : Place) (bytes : List ℕ) → Answers (map_errors place) (replies (placed_with place bytes))
placed_answers (At address) bytes = answers_done (Badf ∷ []) _ refl refl
placed_answers (place.Refused errno) bytes = answers_refused (Badf ∷ errno ∷ []) errno (Badf ∷ [], [], refl)

map_answers : (place : Place) (length offset : ℕ) (t : Tree) (kind : Option OpenKind) → Answers (map_errors place) (map_open place length offset t kind)
map_answers place length offset t None = answers_refused (map_errors place) Badf ([], _, refl)
map_answers place length offset t (Some (File node at flags)) = placed_answers place (bytes_at t node offset (page_bytes length))
map_answers place length offset t (Some (Directory node flags)) = answers_refused (map_errors place) Badf ([], _, refl)
map_answers place length offset t (Some (End reads writes flags form)) = answers_refused (map_errors place) Badf ([], _, refl)
map_answers place length offset t (Some (Terminal which flags)) = answers_refused (map_errors place) Badf ([], _, refl)
map_answers place length offset t (Some (Process p object)) = answers_refused (map_errors place) Badf ([], _, refl)

-- memory may run out where the mapping has a place, and its one error is then another
map_lacks : (place : Place) → has_place place ≡ true → AllByRecursion (λ errno. errno ≢ Nomem) (map_errors place)
map_lacks (At address) takes = ((λ e. cc), tt)
map_lacks (place.Refused errno) takes = absurd (not_true takes)

pub mapping_keeps_well : (place : Place) (length offset : ℕ) → KeepsWell (mapping place length offset)
mapping_keeps_well place length offset =
    looks_keep_well (map_open place length offset) (map_errors place) (has_place place) (map_alike place length offset) (map_answers place length offset)
    (map_lacks place)

-- ---- mem_map

map_is_proper : (zeros : Bool) (place : Place) (length offset : ℕ) (row : Needed)
    → IsProper (cond zeros (map_zeros place) (on_open row (mapping place length offset)))
map_is_proper true place length offset row = zeros_are_proper place
map_is_proper false place length offset row = file_is_proper (mapping place length offset) (mapping_keeps_well place length offset) row

pub mem_map_is_proper : (place : Place) (length prot flags fd offset : ℕ) → IsProper (mem_map place length prot flags fd offset)
mem_map_is_proper place length prot flags fd offset = map_is_proper (is_anonymous flags) place length offset (map_row fd prot)
