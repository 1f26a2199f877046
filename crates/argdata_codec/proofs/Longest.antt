-- The place of a fault is that of the longest beginning of the bytes that begins some value's encoding.
use Rattle.std.proofs.Common.{ℕ, suc, ◌<◌, List, [], ◌∷◌, ◌++◌, take, get_or, None}
use Rattle.argdata_codec.specs.Encoding.{BeginsArgdata, IsLongest}
use Rattle.argdata_codec.specs.Reading.{value_at}
use Rattle.argdata_codec.specs.Places.{value_place}
use Rattle.argdata_codec.proofs.Fields.{AreBytes}
use Rattle.argdata_codec.proofs.Sound.{value_sound}
use Rattle.argdata_codec.proofs.Again.{value_again}
use Rattle.argdata_codec.proofs.Begins.{Begins, Sized, bytes_append, bytes_take}
use Rattle.argdata_codec.proofs.FieldPlaces.{Values}
use Rattle.argdata_codec.proofs.ValuePlaces.{value_longest}

pub from_each : (bytes : List ℕ) → ((i : ℕ) → get_or bytes i 0 < 256) → AreBytes bytes
from_each [] all = tt
from_each (b ∷ bs) all = (all 0, from_each bs (λ i. all (suc i)))

begins_encoding : (bytes : List ℕ) → AreBytes bytes → Begins (Sized (Values (value_at 64)) None) bytes → BeginsArgdata bytes
begins_encoding bytes all h =
    let r = value_sound 64 (bytes ++ h.0) h.2.0.0 (bytes_append bytes h.0 all h.1) h.2.0.1 in
    (h.0, h.2.0.0, h.1, (r.1, r.0))

begins_value : (bytes : List ℕ) → BeginsArgdata bytes → Begins (Sized (Values (value_at 64)) None) bytes
begins_value bytes h = (h.0, h.2, ((h.1, value_again 64 h.1 h.3.0 (bytes ++ h.0) h.3.1), tt))

pub fault_place : (bytes : List ℕ) → AreBytes bytes → IsLongest bytes (value_place 64 None bytes)
fault_place bytes all =
    let h = value_longest 64 None bytes all tt in
    record {
      inside = h.inside;
      begins = begins_encoding (take (value_place 64 None bytes) bytes) (bytes_take (value_place 64 None bytes) bytes all) h.begins;
      longest = λ len le k. h.longest len le (begins_value (take len bytes) k);
    }
