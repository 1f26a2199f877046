use Rattle.std.proofs.Common.{◌≡◌, ◌++◌, List, ℕ, OnOk, ap, ◌∙◌, subst}
use Rattle.std.proofs.lemmas.Result.{on_ok_weaker}
use Rattle.std.specs.Int.{w64, to_le_bytes}
use Rattle.call_codec.proofs.Starts.{two_parts}
use Rattle.call_codec.proofs.start.append_entry.Goals as goal

pub returns : goal.returns
returns c =
    on_ok_weaker c.append-2.result
    (two_parts c.args.bytes.now c.append.new.self c.append-2.new.self (to_le_bytes w64 c.args.number) (to_le_bytes w64 c.args.value)
    (c.in_ok-append.ensures.ok ∙ ap (λ (xs : List ℕ). c.args.bytes.now ++ xs) c.to_le_bytes.ensures))
    (subst (λ (xs : List ℕ). OnOk c.append-2.result (c.append-2.new.self ≡ c.append.new.self ++ xs)) c.to_le_bytes-2.ensures c.append-2.ensures.ok)
