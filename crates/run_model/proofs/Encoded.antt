-- The errors that calls which registers encode answer of their own.
--     args_no_lack      none is lack of memory
--     args_not_denied      none is NOTCAPABLE
use Rattle.std.proofs.Common.{◌≡◌, ◌≢◌, ℕ, nat_le, ◌&&◌, Bool, true, false, cond, List, [], ◌∷◌, Option, Some, None, refl, sym, ap, subst, ◌∙◌}
use Rattle.std.specs.List.{AllByRecursion}
use Rattle.abi_types.specs.declared.call.Call.{Call}
use Rattle.abi_types.specs.declared.call.Call.TheVariants.{FileSymlink, MemMap, Memory, Refused, Poll}
use Rattle.abi_base.specs.declared.errno.Errno.{Errno}
use Rattle.abi_base.specs.declared.errno.Errno.TheVariants.{Success, Fault, Inval, Nobufs, Nomem, Nosys, Notcapable, Notsup, TooBig}
use Rattle.abi_types.specs.declared.needed.Needed.{Needed}
use Rattle.abi_types.specs.declared.place.Place.{Place}
use Rattle.abi_types.specs.declared.place.Place.TheVariants as place
use Rattle.abi_types.specs.declared.place.Place.TheVariants.{At}
use Rattle.abi_base.specs.Registers.{Registers}
use Rattle.abi_structures.specs.declared.events.Subscription.{Subscription}
use Rattle.kernel_model.specs.Families.Polls.{poll}
use Rattle.kernel_model.specs.Calls.{errors_of}
use Rattle.kernel_model.specs.Laws.{IsNotDeniedEarly}
use Rattle.kernel_model.specs.Families.FileMeaning.{on_open}
use Rattle.abi_types.specs.Families.{is_anonymous}
use Rattle.kernel_model.specs.Families.MemoryCalls.{map_row, map_zeros, mapping, place_errors}
use Rattle.kernel_model.specs.Families.NameMaking.{making, making_unless, text_error}
use Rattle.kernel_model.proofs.Lists.{all_weaker}
use Rattle.kernel_model.proofs.Polls.{poll_errors}
use Rattle.kernel_model.proofs.Refusals.{IsNoLackOf}
use Rattle.abi_types.specs.declared.node.NodeKind.TheVariants as kind
use Rattle.guest_memory.specs.Changes.{lowest_gap}
use Rattle.guest_memory.specs.Mapping.{page_limit}
use Rattle.guest_memory.specs.Page.{Pages}
use Rattle.guest_memory.proofs.PageRanges.{first_true, second_true}
use Rattle.codec_arguments.specs.Arguments.{argument, low}
use Rattle.call_codec.specs.Arguments.{args_of, read_of}
use Rattle.call_codec.specs.MemoryCalls.{has_bits, may_map, pages_in, place_at, place_in, place_in_gap, place_of}
use Rattle.call_codec.proofs.Calls.{IsEncodedBy, args_encoded}
use Rattle.call_codec.proofs.Puts.{IsMemoryErrno, memory_listed}
use Rattle.call_codec.proofs.Readings.{IsListedRefusal, passed}

-- an error of a call that registers encode
abbrev pub IsPlain : Errno → Type 0
IsPlain errno = (errno ≢ Nomem) × (errno ≢ Notcapable)

-- each error that the call answers of its own is one of those
abbrev pub IsPlainCall : Call → Type 0
IsPlainCall call = AllByRecursion IsPlain (errors_of call)

-- ---- tests of errors

abbrev is_plain : Errno → Bool
is_plain Nomem = false
is_plain Notcapable = false
is_plain errno = true

abbrev are_plain : List Errno → Bool
are_plain [] = true
are_plain (errno ∷ errnos) = is_plain errno && are_plain errnos

plain_is : (errno : Errno) → is_plain errno ≡ true → IsPlain errno
plain_is errno plain =
    (λ same. let not : false ≡ true = ap is_plain (sym same) ∙ plain in cc, λ same. let not : false ≡ true = ap is_plain (sym same) ∙ plain in cc)

all_plain : (errnos : List Errno) → are_plain errnos ≡ true → AllByRecursion IsPlain errnos
all_plain [] plain = tt
all_plain (errno ∷ errnos) plain =
    (plain_is errno (first_true (is_plain errno) (are_plain errnos) plain), all_plain errnos (second_true (is_plain errno) (are_plain errnos) plain))

-- ---- errors that hang on arguments

-- an error with which a call is refused
listed_plain : (errno : Errno) → IsListedRefusal errno → are_plain (errno ∷ []) ≡ true
listed_plain Fault listed = refl
listed_plain Inval listed = refl
listed_plain Nosys listed = refl
listed_plain Notsup listed = refl
listed_plain TooBig listed = refl
listed_plain _ listed = absurd listed

-- what a call about pages that are there answers
memory_plain : (errno : Errno) → IsMemoryErrno errno → are_plain (errno ∷ []) ≡ true
memory_plain Success listed = refl
memory_plain Fault listed = refl
memory_plain Inval listed = refl
memory_plain Notsup listed = refl
memory_plain _ listed = absurd listed

gap_plain : (gap : Option ℕ) → are_plain (place_errors (place_in gap)) ≡ true
gap_plain (Some a) = refl
gap_plain None = refl

either_place : (b : Bool) (x y : Place) → are_plain (place_errors x) ≡ true → are_plain (place_errors y) ≡ true → are_plain (place_errors (cond b x y)) ≡ true
either_place true x y h k = h
either_place false x y h k = k

place_plain : (m : Pages) (a flags k : ℕ) → are_plain (place_errors (place_of m a flags k)) ≡ true
place_plain m a flags k =
    either_place (has_bits flags 2) (place_at m a k) (place_in_gap m k)
    (either_place (nat_le (_) page_limit) (At a) (place.Refused Nobufs) refl refl)
    (either_place (nat_le (_) page_limit) (place_in (lowest_gap m k)) (place.Refused Nobufs) (gap_plain (lowest_gap m k)) refl)

either_map : (zeros : Bool) (place : Place) (length offset : ℕ) (row : Needed) → are_plain (place_errors place) ≡ true
    → are_plain (cond zeros (map_zeros place) (on_open row (mapping place length offset))).errors ≡ true
either_map true place length offset row h = h
either_map false place length offset row h = h

map_plain : (m : Pages) (r : Registers) (left : ℕ) (place : Place) (length prot flags fd offset : ℕ) → IsEncodedBy m r left (MemMap place length prot flags fd offset)
    → are_plain (errors_of (MemMap place length prot flags fd offset)) ≡ true
unfolding read_of
map_plain m r left place length prot flags fd offset is =
    let may = passed (may_map (argument r 0) (argument r 1) (low (argument r 2)) (low (argument r 3)) (argument r 5)) _ (MemMap place length prot flags fd offset) is in
    let placed : place_of m (argument r 0) (low (argument r 3)) (pages_in (argument r 1)) ≡ place = cc may.2 in
    either_map (is_anonymous flags) place length offset (map_row fd prot)
    (subst (λ p. are_plain (place_errors p) ≡ true) placed (place_plain m (argument r 0) (low (argument r 3)) (pages_in (argument r 1))))

-- a text that can't be a symlink's changes no error
symlink_plain : (error : Option Errno) (text path : List ℕ) → are_plain (making_unless error (making (kind.Link text) path)).errors ≡ true
symlink_plain None text path = refl
symlink_plain (Some errno) text path = refl

-- nor does what a poll waits for
poll_plain : (subscriptions : List Subscription) → are_plain (poll subscriptions).errors ≡ true
poll_plain subscriptions = ap are_plain (poll_errors subscriptions)

-- ---- all of them

call_plain : (m : Pages) (r : Registers) (left : ℕ) (call : Call) → IsEncodedBy m r left call → are_plain (errors_of call) ≡ true
call_plain m r left (MemMap place length prot flags fd offset) is = map_plain m r left place length prot flags fd offset is
call_plain m r left (Memory it errno) is = memory_plain errno (memory_listed m r left it errno is)
call_plain m r left (Refused it errno) is = listed_plain errno is
call_plain m r left (FileSymlink text fd path) is = symlink_plain (text_error text) text path
call_plain m r left (Poll subscriptions) is = poll_plain subscriptions
call_plain m r left call is = refl

pub args_plain : (m : Pages) (r : Registers) (left : ℕ) → IsPlainCall (args_of m r left)
args_plain m r left = all_plain (errors_of (args_of m r left)) (call_plain m r left (args_of m r left) (args_encoded m r left))

-- no error that a call which registers encode answers of its own is lack of memory
pub args_no_lack : (m : Pages) (r : Registers) (left : ℕ) → IsNoLackOf (args_of m r left)
args_no_lack m r left = all_weaker IsPlain (λ errno. errno ≢ Nomem) (λ errno h. h.0) (errors_of (args_of m r left)) (args_plain m r left)

-- no error that it answers of its own is NOTCAPABLE
pub args_not_denied : (m : Pages) (r : Registers) (left : ℕ) → IsNotDeniedEarly (args_of m r left)
args_not_denied m r left =
    all_weaker IsPlain (λ errno. errno ≢ Notcapable) (λ errno h. h.1) (errors_of (args_of m r left)) (args_plain m r left)
