-- The errors of the calls on clocks, for random bytes and on the process's memory are as listed.
use Rattle.std.proofs.Common.{◌≡◌, ◌⊎◌, ℕ, ◌+◌, ◌*◌, ◌/◌, ◌<◌, ◌≤◌, ◌^◌, ◌==◌, Bool, true, false, cond, Option, Some, None, inl, inr, refl, sym, ap, subst, ◌∙◌, arith}
use Rattle.std.proofs.lemmas.Nat.Bits.{and_pow}
use Rattle.std.specs.FinMap.{get}
use Rattle.std.specs.Prelude.{nat_lt}
use Rattle.abi_base.specs.Rights.{Has}
use Rattle.abi_base.specs.declared.errno.Errno.TheVariants.{Again, Nosys}
use Rattle.abi_types.specs.Families.{is_anonymous}
use Rattle.abi_types.specs.declared.call.Call.TheVariants.{ClockResGet, ClockTimeGet, MemMap, Memory, RandomGet, Refused, Unknown}
use Rattle.abi_types.specs.declared.constants.Constants.{Constants}
use Rattle.abi_types.specs.declared.open_kind.OpenKind.{OpenKind}
use Rattle.abi_types.specs.declared.open_kind.OpenKind.TheVariants.{File, Directory, End, Terminal, Process}
use Rattle.abi_types.specs.declared.place.Place.{Place}
use Rattle.abi_types.specs.declared.place.Place.TheVariants as place
use Rattle.kernel_model.specs.Families.ClockCalls.{drawn_by, drawn_if}
use Rattle.kernel_model.specs.Families.FileMeaning.{on_open}
use Rattle.kernel_model.specs.Families.MemoryCalls.{map_open, map_row, map_zeros, mapping, placed}
use Rattle.kernel_model.specs.Outcome.{replies}
use Rattle.kernel_model.specs.State.{ProcessState, Tree, tree_of}
use Rattle.kernel_model.specs.Step.{tick}
use Rattle.kernel_model.specs.View.{whole}
use Rattle.kernel_model.proofs.Tests.{not_true}
use Rattle.file_errors.specs.OwnErrors.{OwnErrorsAreListed, drawing_rows, map_rows, place_rows}
use Rattle.file_errors.specs.Tables.{Answers, refuses, row, succeeds}
use Rattle.file_errors.proofs.Flags.{bit_is}
use Rattle.file_errors.proofs.Rows.{Whatever, listed, listed_on, lt_tells}

-- ---- random bytes

draws : (constants : Constants) (p : ℕ) (own : ProcessState) (length words : ℕ) (b : Bool) → ((b ≡ true) × (words < 2 ^ 63)) ⊎ ((b ≡ false) × (2 ^ 63 ≤ words))
    → Answers (row (2 ^ 63 ≤ words) Again succeeds) (drawn_if b constants p own length).answer
draws constants p own length words true (inl few) = inr (λ many. omega (arith, many, few.1), refl)
draws constants p own length words true (inr many) = absurd (not_true (sym many.0))
draws constants p own length words false (inl few) = absurd (not_true few.0)
draws constants p own length words false (inr many) = inl (many.1, refl)

drawn_listed : (constants : Constants) (p length : ℕ) (o : Option ProcessState) → Answers (drawing_rows length o) (drawn_by constants p o length).answer
drawn_listed constants p length None = refl
drawn_listed constants p length (Some own) =
    let words : ℕ = own.counts.words + (length + 3) / 4 in
    draws constants p own length words (nat_lt words (2 ^ 63)) (lt_tells words (2 ^ 63))

-- ---- mappings

anonymous : (flags : ℕ) → Has flags 0 → is_anonymous flags ≡ true
anonymous flags has = ap (λ b. b == 1) (and_pow flags 0 ∙ ap (λ b. b * 2 ^ 0) has)

named_file : (flags : ℕ) → (¬ Has flags 0) → is_anonymous flags ≡ false
named_file flags hasnt =
    elim (bit_is flags 0) [
      | inl none ↦ ap (λ b. b == 1) (and_pow flags 0 ∙ ap (λ b. b * 2 ^ 0) none)
      | inr one ↦ absurd (hasnt one)
    ]

placed_listed : (place : Place) → Answers (place_rows place) (replies (placed place)).answer
placed_listed (place.At address) = refl
placed_listed (place.Refused errno) = refl

map_listed : (place : Place) (length offset : ℕ) (t : Tree) (k : Option OpenKind) → Answers (map_rows place k) (map_open place length offset t k).answer
map_listed place length offset t None = refl
map_listed (place.At address) length offset t (Some (File node at flags)) = refl
map_listed (place.Refused errno) length offset t (Some (File node at flags)) = refl
map_listed place length offset t (Some (Directory node flags)) = refl
map_listed place length offset t (Some (End reads writes flags form)) = refl
map_listed place length offset t (Some (Terminal which flags)) = refl
map_listed place length offset t (Some (Process p object)) = refl

-- ---- the law

pub own_errors_are_listed : OwnErrorsAreListed
own_errors_are_listed = record {
  clock_res_get = λ clock. listed (ClockResGet clock) (λ S who table. succeeds) (λ constants S who has. refl);
  clock_time_get = λ clock precision. listed (ClockTimeGet clock precision) (λ S who table. succeeds) (λ constants S who has. refl);
  random_get = λ length.
      listed (RandomGet length) (λ S who table. drawing_rows length (get S.processes who.pid))
      (λ constants S who has. drawn_listed constants who.pid length (get S.processes who.pid));
  mapped_zeros = λ place length prot flags fd offset zeros.
      listed (MemMap place length prot flags fd offset) (λ S who table. place_rows place)
      (λ constants S who has.
      subst (λ (b : Bool). Answers (place_rows place)
      ((cond b (map_zeros place) (on_open (map_row fd prot) (mapping place length offset))).effect constants (whole (tick S)) who has.table).answer)
      (sym (anonymous flags zeros)) (placed_listed place));
  mapped_file = λ place length prot flags fd offset file.
      listed_on Whatever (MemMap place length prot flags fd offset) fd (λ S who table. map_rows place)
      (λ constants S who table. map_open place length offset (tree_of S))
      (λ constants S who table.
      ap (λ (b : Bool). (cond b (map_zeros place) (on_open (map_row fd prot) (mapping place length offset))).effect constants (whole (tick S)) who table)
      (named_file flags file))
      (λ constants S who table kind is. map_listed place length offset (tree_of S) kind);
  memory = λ number errno. listed (Memory number errno) (λ S who table. refuses errno) (λ constants S who has. refl);
  refused = λ number errno. listed (Refused number errno) (λ S who table. refuses errno) (λ constants S who has. refl);
  unknown = λ number. listed (Unknown number) (λ S who table. refuses Nosys) (λ constants S who has. refl);
}
