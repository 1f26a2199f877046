-- the number so far, and the rest of the bytes, bring the whole number
use Rattle.std.proofs.Common.{◌≡◌, ◌<◌, ◌^◌, drop}
use Rattle.argdata_codec.specs.Reading.{number_after}
use Rattle.argdata_codec.proofs.reading.number.Given as goal

abbrev pub invariant-loop-byte : goal.invariant-loop-byte
invariant-loop-byte l =
    (number_after l.number (drop l.byte-index l.body) ≡ number_after 0 l.body) × (l.top ≡ 256 ^ l.byte-index) × (l.number < l.top)
