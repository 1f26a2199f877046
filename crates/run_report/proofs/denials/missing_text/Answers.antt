use Rattle.std.proofs.Common.{◌≡◌, ◌++◌, List, ℕ, codes, ◌∙◌, refl}
use Rattle.std.proofs.lemmas.Result.{IfOk-weaker}
use Rattle.std.specs.Fmt.{decimal}
use Rattle.std.specs.String.{string_bytes}
use Rattle.run_report.specs.Denials.{missing_text}
use Rattle.run_report.proofs.denials.missing_text.Goals as goal

-- the same with equal texts of both sets
same_sets : (fd : ℕ) (a b c d : List ℕ) → a ≡ b → c ≡ d
    → codes "fd " ++ (decimal fd ++ (codes " base " ++ (a ++ (codes " inheriting " ++ c))))
    ≡ codes "fd " ++ (decimal fd ++ (codes " base " ++ (b ++ (codes " inheriting " ++ d))))
same_sets fd a b c d e f = rw (e, f) refl

pub returns : goal.returns
returns c =
    IfOk-weaker c.format.result
    (λ text. string_bytes text ≡ codes "fd " ++ (decimal c.args.fd ++ (codes " base " ++ (string_bytes c.in_ok-base.base ++ (codes " inheriting " ++ string_bytes c.in_ok-inheriting.inheriting)))))
    (λ text. string_bytes text ≡ missing_text c.args.fd c.args.base c.args.inheriting)
    (λ text h. h ∙ same_sets _ _ _ _ _ c.in_ok-base.ensures c.in_ok-inheriting.ensures) c.format.ensures.ok
