-- Bytes that are laid out are the layout's fields written into zeros.
--     laid_is_written      for bytes, each of them below 256
--     fdstat_is, filestat_is, event_is, received_is, sent_is      the same for the state of a descriptor or of a file, for an event, and
--                     for how much was received or sent
--     fdstat_length, filestat_length, event_length, received_length, sent_length      how many bytes these have
use Rattle.std.proofs.Common.{◌≡◌, ℕ, zero, suc, ◌+◌, ◌^◌, ◌<◌, ◌≤◌, List, [], ◌∷◌, ◌++◌, length, take, drop, get_or-drop, replicate, refl, sym, subst, ◌∙◌, arith, rules}
use Rattle.std.proofs.Math.ListN.{length-replicate}
use Rattle.std.specs.Int.{byte_at, bytes_low_first}
use Rattle.abi_layout.specs.Layout.{Field, Fit, FollowFrom, IsLaidOut, IsProper, Layout, number_from, numbers, with_number, written}
use Rattle.abi_layout.specs.Events.{event_layout, event_values}
use Rattle.abi_layout.specs.Laws.{AreBytes}
use Rattle.abi_layout.specs.Structures.{fdstat_layout, fdstat_values, filestat_layout, filestat_values, recv_out_layout, recv_out_values, send_out_layout, send_out_values}
use Rattle.abi_layout.proofs.Bytes.{laid_out}
use Rattle.abi_layout.proofs.Proper.{event_proper}
use Rattle.abi_layout.proofs.Unique.{bytes_are_unique}
use Rattle.abi_layout.proofs.Written.{length-written}
use Rattle.abi_structures.specs.declared.events.Event.{Event}
use Rattle.abi_structures.specs.declared.structures.FdStat.{FdStat}
use Rattle.abi_structures.specs.declared.structures.FileStat.{FileStat}
use Rattle.abi_structures.specs.declared.structures.RecvOut.{RecvOut}
use Rattle.abi_structures.specs.declared.structures.SendOut.{SendOut}
use Rattle.call_codec.specs.Output.{event_bytes, fdstat_bytes, filestat_bytes, recv_out_bytes, send_out_bytes}

-- ---- bytes stay bytes

append_small : (xs ys : List ℕ) → AreBytes xs → AreBytes ys → AreBytes (xs ++ ys)
append_small [] ys small_x small_y place = small_y place
append_small (x ∷ xs) ys small_x small_y zero = small_x zero
append_small (x ∷ xs) ys small_x small_y (suc place) = append_small xs ys (λ k. small_x (suc k)) small_y place

take_small : (n : ℕ) (xs : List ℕ) → AreBytes xs → AreBytes (take n xs)
take_small zero xs small place = omega arith
take_small (suc n) [] small place = omega arith
take_small (suc n) (x ∷ xs) small zero = small zero
take_small (suc n) (x ∷ xs) small (suc place) = take_small n xs (λ k. small (suc k)) place

drop_small : (n : ℕ) (xs : List ℕ) → AreBytes xs → AreBytes (drop n xs)
drop_small n xs small place = subst (λ b. b < 256) (sym (get_or-drop n xs place 0)) (small (n + place))

byte_small : (i n : ℕ) → byte_at i n < 256
byte_small zero n = omega arith
byte_small (suc i) n = omega arith

low_first_small : (i n value : ℕ) → AreBytes (bytes_low_first i n value)
low_first_small i zero value place = omega arith
low_first_small i (suc n) value zero = byte_small i value
low_first_small i (suc n) value (suc place) = low_first_small (suc i) n value place

number_small : (bytes : List ℕ) (offset width value : ℕ) → AreBytes bytes → AreBytes (with_number bytes offset width value)
unfolding with_number
number_small bytes offset width value small =
    append_small (take offset bytes) (bytes_low_first 0 width value ++ drop (offset + width) bytes) (take_small offset bytes small)
    (append_small (bytes_low_first 0 width value) (drop (offset + width) bytes) (low_first_small 0 width value) (drop_small (offset + width) bytes small))

written_small : (fields : List Field) (values bytes : List ℕ) → AreBytes bytes → AreBytes (written fields values bytes)
written_small [] values bytes small = small
written_small (f ∷ fields) [] bytes small = small
written_small (f ∷ fields) (value ∷ values) bytes small =
    written_small fields values (with_number bytes f.offset f.width value) (number_small bytes f.offset f.width value small)

zeros_small : (n : ℕ) → AreBytes (replicate n 0)
zeros_small zero place = omega arith
zeros_small (suc n) zero = omega arith
zeros_small (suc n) (suc place) = zeros_small n place

-- ---- the numbers in bytes fit

number_fits : (width offset : ℕ) (bytes : List ℕ) → AreBytes bytes → number_from offset width bytes < 256 ^ width
unfolding number_from
number_fits zero offset bytes small = omega arith
number_fits (suc width) offset bytes small = let here = small offset in let rest = number_fits width (suc offset) bytes small in omega (arith, here, rest)

numbers_fit : (fields : List Field) (bytes : List ℕ) → AreBytes bytes → Fit fields (numbers fields bytes)
numbers_fit [] bytes small = tt
numbers_fit (f ∷ fields) bytes small = (number_fits f.width f.offset bytes small, numbers_fit fields bytes small)

-- ---- bytes that are laid out

pub laid_is_written : (layout : Layout) (values bytes : List ℕ) → IsProper layout → AreBytes bytes → IsLaidOut layout values bytes
    → bytes ≡ written layout.fields values (replicate layout.size 0)
laid_is_written layout values bytes proper small laid =
    let fit = subst (Fit layout.fields) laid.values_at (numbers_fit layout.fields bytes small) in
    bytes_are_unique layout values bytes (written layout.fields values (replicate layout.size 0)) small
    (written_small layout.fields values (replicate layout.size 0) (zeros_small layout.size)) laid
    (laid_out layout values (written layout.fields values (replicate layout.size 0)) refl proper fit)

pub fdstat_is : (stat : FdStat) (bytes : List ℕ) → AreBytes bytes → IsLaidOut fdstat_layout (fdstat_values stat) bytes → bytes ≡ fdstat_bytes stat
fdstat_is stat bytes small laid = laid_is_written fdstat_layout (fdstat_values stat) bytes (search rules) small laid

pub filestat_is : (stat : FileStat) (bytes : List ℕ) → AreBytes bytes → IsLaidOut filestat_layout (filestat_values stat) bytes → bytes ≡ filestat_bytes stat
filestat_is stat bytes small laid = laid_is_written filestat_layout (filestat_values stat) bytes (search rules) small laid

pub event_is : (event : Event) (bytes : List ℕ) → AreBytes bytes → IsLaidOut (event_layout event.kind) (event_values event) bytes → bytes ≡ event_bytes event
event_is event bytes small laid = laid_is_written (event_layout event.kind) (event_values event) bytes (event_proper event.kind) small laid

pub received_is : (out : RecvOut) (bytes : List ℕ) → AreBytes bytes → IsLaidOut recv_out_layout (recv_out_values out) bytes → bytes ≡ recv_out_bytes out
received_is out bytes small laid = laid_is_written recv_out_layout (recv_out_values out) bytes (search rules) small laid

pub sent_is : (out : SendOut) (bytes : List ℕ) → AreBytes bytes → IsLaidOut send_out_layout (send_out_values out) bytes → bytes ≡ send_out_bytes out
sent_is out bytes small laid = laid_is_written send_out_layout (send_out_values out) bytes (search rules) small laid

-- ---- how many bytes there are

follow_ends : (fields : List Field) (place size : ℕ) → FollowFrom place fields size → place ≤ size
follow_ends [] place size order = order
follow_ends (f ∷ fields) place size order = let rest = follow_ends fields (f.offset + f.width) size order.1 in omega (arith, order.0)

-- fields that are written leave as many bytes as there were
fields_length : (fields : List Field) (values bytes : List ℕ) (place size : ℕ) → FollowFrom place fields size → length bytes ≡ size
    → length (written fields values bytes) ≡ size
fields_length [] values bytes place size order is = is
fields_length (f ∷ fields) [] bytes place size order is = is
fields_length (f ∷ fields) (value ∷ values) bytes place size order is =
    let end = follow_ends fields (f.offset + f.width) size order.1 in
    fields_length fields values (with_number bytes f.offset f.width value) (f.offset + f.width) size order.1
    (length-written bytes f.offset f.width value (omega (arith, end, is)) ∙ is)

layout_length : (layout : Layout) (values : List ℕ) → IsProper layout → length (written layout.fields values (replicate layout.size 0)) ≡ layout.size
layout_length layout values proper =
    fields_length layout.fields values (replicate layout.size 0) 0 layout.size proper (length-replicate {A = ℕ} layout.size 0)

pub fdstat_length : (stat : FdStat) → length (fdstat_bytes stat) ≡ 24
fdstat_length stat = layout_length fdstat_layout (fdstat_values stat) (search rules)

pub filestat_length : (stat : FileStat) → length (filestat_bytes stat) ≡ 56
filestat_length stat = layout_length filestat_layout (filestat_values stat) (search rules)

pub event_length : (event : Event) → length (event_bytes event) ≡ 32
event_length event = layout_length (event_layout event.kind) (event_values event) (event_proper event.kind)

pub received_length : (out : RecvOut) → length (recv_out_bytes out) ≡ 24
received_length out = layout_length recv_out_layout (recv_out_values out) (search rules)

pub sent_length : (out : SendOut) → length (send_out_bytes out) ≡ 8
sent_length out = layout_length send_out_layout (send_out_values out) (search rules)
