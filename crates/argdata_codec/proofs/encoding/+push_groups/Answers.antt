-- one group more, or none
use Rattle.std.proofs.Common.{◌≡◌, ℕ, ◌<◌, ◌≤◌, ◌∷◌, [], ◌++◌, List, ap, sym, ◌∙◌, append_assoc, ◌/◌, ◌%◌, arith}
use Rattle.std.proofs.lemmas.List.{append-nil}
use Rattle.argdata_codec.specs.Writing.{groups_of}
use Rattle.argdata_codec.proofs.Groups.{no_groups, more_groups}
use Rattle.argdata_codec.proofs.encoding.+push_groups.Goals as goal

joined : (new before out : List ℕ) (n : ℕ) → new ≡ before ++ ((n % 128) ∷ []) → before ≡ out ++ groups_of (n / 128) → 0 < n → new ≡ out ++ groups_of n
joined new before out n h k lt =
    h ∙ ap (λ (xs : List ℕ). xs ++ ((n % 128) ∷ [])) k ∙ append_assoc out (groups_of (n / 128)) ((n % 128) ∷ []) ∙ ap (λ (xs : List ℕ). out ++ xs) (sym (more_groups n lt))

nothing : (out : List ℕ) (n : ℕ) → n ≤ 0 → out ≡ out ++ groups_of n
nothing out n le = let none : n ≡ 0 = omega arith in rw none (rw no_groups (sym (append-nil out)))

pub returns-in_ok-push : goal.returns-in_ok-push
returns-in_ok-push t c = joined _ _ _ _ c.in_ok-push.ensures.items c.in_ok-push_groups.ensures c.if-number-gt0.true

pub returns-else-number-gt0 : goal.returns-else-number-gt0
returns-else-number-gt0 t c = nothing _ _ c.if-number-gt0.false
