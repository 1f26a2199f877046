-- A scalar in which nothing is bad says a text.
use Rattle.std.proofs.Common.{◌≡◌, ℕ, suc, ◌+◌, List, ◌∷◌, length, take, sym, ap, ◌∙◌, arith}
use Rattle.launch_scalars.specs.Characters.{bad_at}
use Rattle.launch_scalars.specs.Quoted.{quoted, taken_of}
use Rattle.launch_scalars.proofs.ScalarSteps.{quoted_good}
use Rattle.launch_scalars.proofs.scalars.quoted_scalar.Goals as goal

pub text-content-requires : goal.text-content-requires
text-content-requires c =
    let quote = c.args.quote in
    let inside = c.args.inside.now in
    let count : suc (taken_of (length inside) (quoted quote inside).rest) ≡ 1 + c.quoted_length-count.result = omega (arith, c.quoted_length-count.ensures.value) in
    (quoted_good quote inside c.in_ok-content.content.items c.in_ok-content.rest.now c.requires.quote c.in_ok-content.ensures.reads
    (ap (λ (k : ℕ). bad_at (take k (quote ∷ inside))) count
    ∙ ap (λ (bytes : List ℕ). bad_at (take (1 + c.quoted_length-count.result) bytes)) (sym c.requires.whole)
    ∙ sym c.in_default.ensures.value)).0
