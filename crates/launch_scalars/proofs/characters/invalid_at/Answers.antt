use Rattle.std.proofs.Common.{sym, ap, if◌then◌else◌, Some, None}
use Rattle.std.proofs.lemmas.Str.{utf8_valid_len-IsUtf8}
use Rattle.std.proofs.lemmas.Bool.{eq-eqb}
use Rattle.std.specs.Str.Lossy.{utf8_valid_len}
use Rattle.launch_scalars.proofs.characters.invalid_at.Goals as goal

pub returns-in-Ok : goal.returns-in-Ok
returns-in-Ok c =
    ap (λ b. if b then None else Some (utf8_valid_len c.args.bytes.now))
    (sym (eq-eqb _ _ (utf8_valid_len-IsUtf8 _ c.in-Ok.ensures.cases.1)))
