-- The fault that the checks find is the first fault of the file.
use Rattle.std.proofs.Common.{◌≡◌, ℕ, zero, suc, ◌+◌, ◌*◌, ◌<◌, ◌==◌, ◌||◌, Bool, true, false, not, nat_lt, List, [], ◌∷◌, length, bit_and, Option, Some, None, Result, Ok, Err, IfOk, IfErr, refl, sym, ap, subst, ◌∙◌, arith}
use Rattle.std.proofs.lemmas.List.{length-append}
use Rattle.std.specs.Bool.{Decides}
use Rattle.lists.specs.declared.stop.Stop.{Stop}
use Rattle.lists.specs.declared.stop.Stop.TheVariants.{At, Memory}
use Rattle.std.specs.List.{list_any}
use Rattle.elf_image.specs.Checks.{fault_at, fault_if, fault_of, first_below, first_meeting, first_unloadable, is_class, is_entry, is_interp, is_magic, is_table, is_unloadable, meets_earlier, file_header, Reads}
use Rattle.elf_image.specs.Faults.{HasFault, HasNoFault, IsFirst, IsFirstFault, IsRefusal, base_of, entry_of, order}
use Rattle.elf_image.specs.Fields.{e_type, e_machine, e_phoff, e_phnum, e_flags, program_headers, program_headers_from, program_header_at}
use Rattle.elf_image.specs.Image.{image}
use Rattle.elf_image.specs.Laws.{ImageIsSound}
use Rattle.elf_image.specs.Sound.{IsSound}
use Rattle.elf_image.specs.declared.elf.Elf.{Elf}
use Rattle.elf_image.specs.declared.fault.ElfFault.{ElfFault}
use Rattle.elf_image.specs.declared.fault.ElfFault.TheVariants as fault
use Rattle.elf_image.specs.Segments.{IsUnloadable, MeetsEarlier}
use Rattle.elf_image.proofs.Deciding.{decides_short, decides_magic, decides_class, decides_machine, decides_kind, decides_table, decides_interp, decides_flag, decides_unloadable, decides_meets, decides_entry}
use Rattle.elf_image.proofs.FirstChecks.{first, nth, or_next-assoc, or_next-none, first_at, first_none, first_of}
use Rattle.elf_image.proofs.Soundness.{sound_image}
use Rattle.elf_image.proofs.Searches.{found_first, first_is_found}

-- what each check finds, in the order of the checks
abbrev checks : List ℕ → List (Option ElfFault)
checks bytes =
    fault_if (nat_lt (length bytes) 64) fault.TooShort
    ∷ fault_if (not (is_magic bytes)) fault.Magic
    ∷ fault_if (not (is_class bytes)) fault.Class
    ∷ fault_if (not (e_machine bytes == 243)) fault.Machine
    ∷ fault_if (not (e_type bytes == 2 || e_type bytes == 3)) fault.Kind
    ∷ fault_if (not (is_table (length bytes) (file_header bytes))) fault.Header
    ∷ fault_if (list_any is_interp (program_headers bytes)) fault.Interp
    ∷ fault_if (not (bit_and (e_flags bytes) 1 == 0)) fault.Compressed
    ∷ fault_if (not (bit_and (e_flags bytes) 6 == 0)) fault.FloatAbi
    ∷ fault_at fault.Segment (first_unloadable (base_of bytes) (length bytes) (program_headers bytes))
    ∷ fault_at fault.Overlap (first_meeting (base_of bytes) (program_headers bytes))
    ∷ fault_if (not (is_entry (base_of bytes) (program_headers bytes) (entry_of bytes))) fault.Entry
    ∷ []

first_of_checks : (bytes : List ℕ) → fault_of bytes ≡ first (checks bytes)
first_of_checks bytes = simp (or_next-assoc, or_next-none)

length_headers : (bytes : List ℕ) (offset n : ℕ) → length (program_headers_from bytes offset n) ≡ n
length_headers bytes offset zero = refl
length_headers bytes offset (suc n) =
    let rest = length_headers bytes offset n in
    let joined = length-append (program_headers_from bytes offset n) (program_header_at bytes (offset + 56 * n) ∷ []) in
    omega arith

-- what a check by a test found
if_found : (test : Bool) (found given : ElfFault) → fault_if test given ≡ Some found → (test ≡ true) × (given ≡ found)
if_found true found given e = (refl, cc)
if_found false found given e = absurd (cc)

at_found : (given : ℕ → ElfFault) (k : Option ℕ) (found : ElfFault) → fault_at given k ≡ Some found →
    (n : ℕ) × (k ≡ Some n) × (given n ≡ found)
at_found given None found e = absurd (cc)
at_found given (Some n) found e = (n, refl, cc)

-- a check that found a fault found one of the file's, which is its own
abbrev IsNamed : List ℕ → ℕ → ElfFault → Type 0
IsNamed bytes n found = (order found ≡ n) × HasFault bytes found

named_if : (bytes : List ℕ) (test : Bool) (given : ElfFault) → Decides test (HasFault bytes given) → (found : ElfFault) →
    fault_if test given ≡ Some found → IsNamed bytes (order given) found
named_if bytes test given decides found e =
    let parts = if_found test found given e in
    subst (λ f. IsNamed bytes (order given) f) parts.1 (refl, decides.0 parts.0)

decides_first : (test : ℕ → Bool) (P : ℕ → Type 0) (n m k : ℕ) → ((i : ℕ) → Decides (test i) (P i)) → n ≡ m →
    first_below test n ≡ Some k → IsFirst P m k
decides_first test P n m k each same found = subst (λ (o : ℕ). IsFirst P o k) same (found_first test P n k each found)

finds_first : (test : ℕ → Bool) (P : ℕ → Type 0) (n m k : ℕ) → ((i : ℕ) → Decides (test i) (P i)) → n ≡ m →
    IsFirst P m k → first_below test n ≡ Some k
finds_first test P n m k each same first =
    first_is_found test P n k each (subst (λ (o : ℕ). IsFirst P o k) (sym same) first)

count_headers : (bytes : List ℕ) → length (program_headers bytes) ≡ e_phnum bytes
count_headers bytes = length_headers bytes (e_phoff bytes) (e_phnum bytes)

named_segment : (bytes : List ℕ) (found : ElfFault) →
    fault_at fault.Segment (first_unloadable (base_of bytes) (length bytes) (program_headers bytes)) ≡ Some found →
    IsNamed bytes 9 found
named_segment bytes found e =
    let (k, at, given) =
    at_found fault.Segment (first_unloadable (base_of bytes) (length bytes) (program_headers bytes)) found e in
    subst (λ f. IsNamed bytes 9 f) given (
      refl,
      decides_first (is_unloadable (base_of bytes) (length bytes) (program_headers bytes))
          (IsUnloadable (base_of bytes) (length bytes) (program_headers bytes)) (length (program_headers bytes))
          (e_phnum bytes) k
          (decides_unloadable (base_of bytes) (length bytes) (program_headers bytes)) (count_headers bytes) at,
    )

named_overlap : (bytes : List ℕ) (found : ElfFault) →
    fault_at fault.Overlap (first_meeting (base_of bytes) (program_headers bytes)) ≡ Some found → IsNamed bytes 10 found
named_overlap bytes found e =
    let (k, at, given) = at_found fault.Overlap (first_meeting (base_of bytes) (program_headers bytes)) found e in
    subst (λ f. IsNamed bytes 10 f) given (
      refl,
      decides_first (meets_earlier (base_of bytes) (program_headers bytes))
          (MeetsEarlier (base_of bytes) (program_headers bytes))
          (length (program_headers bytes)) (e_phnum bytes) k (decides_meets (base_of bytes) (program_headers bytes))
          (count_headers bytes) at,
    )

-- each of these checks, counted from n on, is named
abbrev AreNamed : List ℕ → ℕ → List (Option ElfFault) → Type 0
AreNamed bytes n [] = Unit {0}
AreNamed bytes n (x ∷ xs) = ((found : ElfFault) → x ≡ Some found → IsNamed bytes n found) × AreNamed bytes (suc n) xs

infixr 4 ◌&◌
◌&◌ : {A B : Type 0} → A → B → A × B
a & b = (a, b)

all_named : (bytes : List ℕ) → AreNamed bytes 0 (checks bytes)
all_named bytes =
    named_if bytes (nat_lt (length bytes) 64) fault.TooShort (decides_short bytes)
    & named_if bytes (not (is_magic bytes)) fault.Magic (decides_magic bytes)
    & named_if bytes (not (is_class bytes)) fault.Class (decides_class bytes)
    & named_if bytes (not (e_machine bytes == 243)) fault.Machine (decides_machine bytes)
    & named_if bytes (not (e_type bytes == 2 || e_type bytes == 3)) fault.Kind (decides_kind bytes)
    & named_if bytes (not (is_table (length bytes) (file_header bytes))) fault.Header (decides_table bytes)
    & named_if bytes (list_any is_interp (program_headers bytes)) fault.Interp (decides_interp bytes)
    & named_if bytes (not (bit_and (e_flags bytes) 1 == 0)) fault.Compressed (decides_flag (e_flags bytes) 1)
    & named_if bytes (not (bit_and (e_flags bytes) 6 == 0)) fault.FloatAbi (decides_flag (e_flags bytes) 6)
    & named_segment bytes
    & named_overlap bytes
    & named_if bytes (not (is_entry (base_of bytes) (program_headers bytes) (entry_of bytes))) fault.Entry
    (decides_entry bytes)
    & tt {0}

named_from : (bytes : List ℕ) (n : ℕ) (xs : List (Option ElfFault)) (m : ℕ) (found : ElfFault) → AreNamed bytes n xs →
    nth xs m ≡ Some found → IsNamed bytes (n + m) found
named_from bytes n [] m found all e = absurd (cc)
named_from bytes n (x ∷ xs) zero found all e =
    let here : n ≡ n + 0 = omega arith in subst (λ (o : ℕ). IsNamed bytes o found) here (all.0 found e)
named_from bytes n (x ∷ xs) (suc m) found all e =
    let next : suc n + m ≡ n + suc m = omega arith in
    subst (λ (o : ℕ). IsNamed bytes o found) next (named_from bytes (suc n) xs m found all.1 e)

named : (bytes : List ℕ) (n : ℕ) (found : ElfFault) → nth (checks bytes) n ≡ Some found → IsNamed bytes n found
named bytes n found e =
    let here : 0 + n ≡ n = omega arith in
    subst (λ (o : ℕ). IsNamed bytes o found) here (named_from bytes 0 (checks bytes) n found (all_named bytes) e)

found_if : (bytes : List ℕ) (test : Bool) (given : ElfFault) → Decides test (HasFault bytes given) →
    HasFault bytes given → fault_if test given ≡ Some given
found_if bytes test given decides has = ap (λ b. fault_if b given) (decides.1 has)

-- the check of a fault that the file has finds it
known : (bytes : List ℕ) (found : ElfFault) → HasFault bytes found → nth (checks bytes) (order found) ≡ Some found
known bytes fault.TooShort has = found_if bytes _ fault.TooShort (decides_short bytes) has
known bytes fault.Magic has = found_if bytes _ fault.Magic (decides_magic bytes) has
known bytes fault.Class has = found_if bytes _ fault.Class (decides_class bytes) has
known bytes fault.Machine has = found_if bytes _ fault.Machine (decides_machine bytes) has
known bytes fault.Kind has = found_if bytes _ fault.Kind (decides_kind bytes) has
known bytes fault.Header has = found_if bytes _ fault.Header (decides_table bytes) has
known bytes fault.Interp has = found_if bytes _ fault.Interp (decides_interp bytes) has
known bytes fault.Compressed has = found_if bytes _ fault.Compressed (decides_flag (e_flags bytes) 1) has
known bytes fault.FloatAbi has = found_if bytes _ fault.FloatAbi (decides_flag (e_flags bytes) 6) has
known bytes (fault.Segment k) has =
    ap (fault_at fault.Segment)
    (finds_first (is_unloadable (base_of bytes) (length bytes) (program_headers bytes))
    (IsUnloadable (base_of bytes) (length bytes) (program_headers bytes))
    (length (program_headers bytes)) (e_phnum bytes) k
    (decides_unloadable (base_of bytes) (length bytes) (program_headers bytes)) (count_headers bytes) has)
known bytes (fault.Overlap k) has =
    ap (fault_at fault.Overlap)
    (finds_first (meets_earlier (base_of bytes) (program_headers bytes))
    (MeetsEarlier (base_of bytes) (program_headers bytes))
    (length (program_headers bytes)) (e_phnum bytes) k (decides_meets (base_of bytes) (program_headers bytes))
    (count_headers bytes) has)
known bytes fault.Entry has = found_if bytes _ fault.Entry (decides_entry bytes) has

some_not_none : (found : Option ElfFault) (given : ElfFault) → found ≡ Some given → found ≡ None → ⊥
some_not_none found given some none = cc

same_fault : (found : Option ElfFault) (one other : ElfFault) → found ≡ Some one → found ≡ Some other → other ≡ one
same_fault found one other some same = cc

pub is_first_fault : (bytes : List ℕ) (found : ElfFault) → fault_of bytes ≡ Some found → IsFirstFault bytes found
is_first_fault bytes found e =
    let (n, at) = first_at (checks bytes) found (sym (first_of_checks bytes) ∙ e) in
    let own = named bytes n found at.here in
    record {
      has = own.1;
      before = λ earlier below has.
          let place : order earlier < n = subst (λ (m : ℕ). order earlier < m) own.0 below in
          some_not_none (nth (checks bytes) (order earlier)) earlier (known bytes earlier has)
          (at.before (order earlier) place);
    }

pub has_no_fault : (bytes : List ℕ) → fault_of bytes ≡ None → HasNoFault bytes
has_no_fault bytes e any has =
    some_not_none (nth (checks bytes) (order any)) any (known bytes any has)
    (first_none (checks bytes) (sym (first_of_checks bytes) ∙ e) (order any))

-- a check before that of the first fault finds none
none_before : (bytes : List ℕ) (found : ElfFault) (m : ℕ) (earlier : Option ElfFault) → IsFirstFault bytes found →
    m < order found →
    nth (checks bytes) m ≡ earlier → earlier ≡ None
none_before bytes found m None first below e = refl
none_before bytes found m (Some earlier) first below e =
    let own = named bytes m earlier e in
    absurd (first.before earlier (subst (λ (o : ℕ). o < order found) (sym own.0) below) own.1)

pub first_fault_is_found : (bytes : List ℕ) (found : ElfFault) → IsFirstFault bytes found → fault_of bytes ≡ Some found
first_fault_is_found bytes found first =
    first_of_checks bytes
    ∙ first_of (checks bytes) found (order found) (record {
      here = known bytes found first.has;
      before = λ m below. none_before bytes found m (nth (checks bytes) m) first below refl;
    })

nothing_found : (bytes : List ℕ) (found : Option ElfFault) → fault_of bytes ≡ found → HasNoFault bytes → found ≡ None
nothing_found bytes None e none = refl
nothing_found bytes (Some found) e none = absurd (none found (is_first_fault bytes found e).has)

pub no_fault_is_found : (bytes : List ℕ) → HasNoFault bytes → fault_of bytes ≡ None
no_fault_is_found bytes none = nothing_found bytes (fault_of bytes) refl none

-- what a reading that answers right gives
pub complete : {A : Type 0} (bytes : List ℕ) (given : Result A (Stop ElfFault)) (value : A) (found : ElfFault) →
    Reads given (fault_of bytes) value →
    IsFirstFault bytes found → given ≡ Err (At found)
complete bytes (Ok x) value found reads first =
    absurd (some_not_none (fault_of bytes) found (first_fault_is_found bytes found first) reads.0)
complete bytes (Err (At e)) value found reads first =
    ap (λ fault. Err (At fault)) (same_fault (fault_of bytes) found e (first_fault_is_found bytes found first) reads)
complete bytes (Err Memory) value found reads first =
    absurd (some_not_none (fault_of bytes) found (first_fault_is_found bytes found first) reads)

pub ok_of : {A : Type 0} (bytes : List ℕ) (given : Result A (Stop ElfFault)) (value : A) → Reads given (fault_of bytes) value →
    IfOk given (λ made. HasNoFault bytes × (made ≡ value))
ok_of bytes (Ok x) value reads = (has_no_fault bytes reads.0, reads.1)
ok_of bytes (Err e) value reads = tt

pub err_of : {A : Type 0} (bytes : List ℕ) (given : Result A (Stop ElfFault)) (value : A) → Reads given (fault_of bytes) value →
    IfErr given (λ stop. IsRefusal bytes stop)
err_of bytes (Ok x) value reads = tt
err_of bytes (Err (At e)) value reads = is_first_fault bytes e reads
err_of bytes (Err Memory) value reads = has_no_fault bytes reads

at_none : (given : ℕ → ElfFault) (k : Option ℕ) → fault_at given k ≡ None → k ≡ None
at_none given None e = refl
at_none given (Some n) e = absurd (cc)

if_none : (test : Bool) (given : ElfFault) → fault_if (not test) given ≡ None → test ≡ true
if_none true given e = refl
if_none false given e = absurd (cc)

-- the image of a file without a fault is sound
pub image_sound : ImageIsSound
image_sound bytes e =
    let none = first_none (checks bytes) (sym (first_of_checks bytes) ∙ e) in
    sound_image bytes (at_none fault.Segment (first_unloadable (base_of bytes) (length bytes) (program_headers bytes))
    (none 9))
    (at_none fault.Overlap (first_meeting (base_of bytes) (program_headers bytes)) (none 10))
    (if_none (is_entry (base_of bytes) (program_headers bytes) (entry_of bytes)) fault.Entry (none 11))

pub sound_of : (bytes : List ℕ) (given : Result Elf (Stop ElfFault)) → Reads given (fault_of bytes) (image bytes) →
    IfOk given (λ elf. IsSound elf)
sound_of bytes (Ok elf) reads = subst IsSound (sym reads.1) (image_sound bytes reads.0)
sound_of bytes (Err e) reads = tt
