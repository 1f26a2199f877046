-- What readings come to: a value, or a refusal with an error that is listed here.
--     Gives      each value that a reading gives has a property, and each error is listed
--     readings      what is made of such readings is such a reading
--     front_refused, array_refused      the same of lists and arrays
--     passed, not_refused      a reading in two steps that gives a value has passed both
--     goes_on      after a step that gave a value comes the next
use Rattle.std.proofs.Common.{◌≡◌, ℕ, zero, suc, ◌+◌, ◌%◌, ◌^◌, Bool, true, false, cond, List, [], ◌∷◌, Result, Ok, Err, refl, subst}
use Rattle.abi_base.specs.declared.errno.Errno.{Errno}
use Rattle.abi_base.specs.declared.errno.Errno.TheVariants.{Fault, Inval, Nosys, Notsup, TooBig}
use Rattle.guest_memory.specs.declared.fault.MemFault.{MemFault}
use Rattle.codec_arguments.specs.Arrays.{array_at, in_front}
use Rattle.codec_arguments.specs.Reading.{◌>>=◌, or_fault, refuse_when}

-- an error with which a call is refused before the kernel sees it
abbrev pub IsListedRefusal : Errno → Type 0
IsListedRefusal Fault = Unit {0}
IsListedRefusal Inval = Unit {0}
IsListedRefusal Nosys = Unit {0}
IsListedRefusal Notsup = Unit {0}
IsListedRefusal TooBig = Unit {0}
IsListedRefusal other = ⊥

-- each value that the reading gives has the property, and each error with which it refuses is listed
pub record Gives {X : Type 0} (P : X → Type 0) (reading : Result X Errno) : Type 0 where
  pub value : (x : X) → reading ≡ Ok x → P x
  pub refused : (errno : Errno) → reading ≡ Err errno → IsListedRefusal errno

pub gives_value : {X : Type 0} (P : X → Type 0) (x : X) → P x → Gives P (Ok x)
gives_value P x h = record {
  value = λ y e. let same : x ≡ y = cc in subst P same h;
  refused = λ errno e. absurd (cc);
}

pub gives_error : {X : Type 0} (P : X → Type 0) (errno : Errno) → IsListedRefusal errno → Gives P (Err errno)
gives_error P errno h = record {
  value = λ x e. absurd (cc);
  refused = λ given e. let same : errno ≡ given = cc in subst IsListedRefusal same h;
}

pub gives_either : {X : Type 0} (P : X → Type 0) (test : Bool) (x y : Result X Errno) → Gives P x → Gives P y → Gives P (cond test x y)
gives_either P true x y h k = h
gives_either P false x y h k = k

pub gives_memory : {X : Type 0} (found : Result X MemFault) → Gives (λ x. Unit {0}) (or_fault found)
gives_memory (Ok x) = gives_value (λ x. Unit {0}) x tt
gives_memory (Err fault) = gives_error (λ x. Unit {0}) Fault tt

pub gives_after : {X Y : Type 0} (P : Y → Type 0) (first : Result X Errno) (rest : X → Result Y Errno) → Gives (λ x. Unit {0}) first
    → ((x : X) → Gives P (rest x)) → Gives P (first >>= rest)
gives_after P (Ok x) rest h k = k x
gives_after P (Err errno) rest h k = gives_error P errno (h.refused errno refl)

pub either_listed : (test : Bool) (this that : Errno) → IsListedRefusal this → IsListedRefusal that → IsListedRefusal (cond test this that)
either_listed true this that h k = h
either_listed false this that h k = k

pub ruleset readings = (gives_value, gives_error, gives_either, gives_memory, gives_after, either_listed)

-- ---- lists and arrays

-- the errors of the reading are listed, whatever it gives
abbrev pub IsRefusedAsListed : {X : Type 0} → Result X Errno → Type 0
IsRefusedAsListed {X} reading = Gives (λ (x : X). Unit {0}) reading

pub front_refused : {X : Type 0} (first : Result X Errno) (rest : Result (List X) Errno) → IsRefusedAsListed first → IsRefusedAsListed rest
    → IsRefusedAsListed (in_front first rest)
front_refused {X} (Ok x) (Ok xs) h k = gives_value (λ (all : List X). Unit {0}) (x ∷ xs) tt
front_refused {X} (Ok x) (Err errno) h k = gives_error (λ (all : List X). Unit {0}) errno (k.refused errno refl)
front_refused {X} (Err errno) rest h k = gives_error (λ (all : List X). Unit {0}) errno (h.refused errno refl)

pub array_refused : {X : Type 0} (element : ℕ → Result X Errno) (width a n : ℕ) → ((at : ℕ) → IsRefusedAsListed (element at))
    → IsRefusedAsListed (array_at element width a n)
unfolding array_at
array_refused {X} element width a zero each = gives_value (λ (all : List X). Unit {0}) [] tt
array_refused element width a (suc n) each =
    front_refused (element a) (array_at element width ((a + width) % 2 ^ 64) n) (each a) (array_refused element width ((a + width) % 2 ^ 64) n each)

-- ---- readings that gave a value

-- both steps gave one
pub passed : {X Y : Type 0} (first : Result X Errno) (rest : X → Result Y Errno) (y : Y) → (first >>= rest) ≡ Ok y
    → (x : X) × (first ≡ Ok x) × (rest x ≡ Ok y)
passed (Ok x) rest y e = (x, refl, e)
passed (Err errno) rest y e = absurd (cc)

-- the test refused nothing
pub not_refused : {Y : Type 0} (test : Bool) (errno : Errno) (rest : Unit {0} → Result Y Errno) (y : Y) → (refuse_when test errno >>= rest) ≡ Ok y
    → (test ≡ false) × (rest tt ≡ Ok y)
not_refused true errno rest y e = absurd (cc)
not_refused false errno rest y e = (refl, e)

pub test_false : (test : Bool) (errno : Errno) (x : Unit {0}) → refuse_when test errno ≡ Ok x → test ≡ false
test_false true errno x e = absurd (cc)
test_false false errno x e = refl

-- a step that passes gives what comes next
pub goes_on : {X Y : Type 0} (first : Result X Errno) (rest : X → Result Y Errno) (x : X) → first ≡ Ok x → (first >>= rest) ≡ rest x
goes_on first rest x e = rw e refl
