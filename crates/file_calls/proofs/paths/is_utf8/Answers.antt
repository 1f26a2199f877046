use Rattle.std.proofs.Common.{◌≡◌, ℕ, List, Result, Ok, Err, sym, ◌∙◌}
use Rattle.std.proofs.lemmas.Bool.{false_from_ne_true}
use Rattle.std.proofs.lemmas.Str.{IsUtf8-from_is_utf8, is_utf8-from_IsUtf8}
use Rattle.std.specs.Result.{MatchResult, is_ok}
use Rattle.std.specs.Str.{IsUtf8, is_utf8}
use Rattle.file_calls.proofs.paths.is_utf8.Goals as goal

-- what a call that makes a text of bytes says of the test
reported : {A E : Type 0} (bytes : List ℕ) (Q : A → Type 0) (R : E → Type 0) (r : Result A E)
    → MatchResult r (λ s. Q s × IsUtf8 bytes) (λ e. (IsUtf8 bytes → ⊥) × R e) → is_ok r ≡ is_utf8 bytes
reported bytes Q R (Ok s) h = sym (is_utf8-from_IsUtf8 bytes h.1)
reported bytes Q R (Err e) h = sym (false_from_ne_true (is_utf8 bytes) (λ is. h.0 (IsUtf8-from_is_utf8 bytes is)))

pub returns : goal.returns
returns c = c.is_ok.ensures.value ∙ reported c.args.bytes.now _ _ c.from_utf8.result c.from_utf8.ensures.cases
