-- Parts of a quoted scalar that are read one after the other.
use Rattle.std.proofs.Common.{◌≡◌, ℕ, zero, suc, List, [], ◌∷◌, ◌++◌, length, drop, Option, Some, None, option_map, refl, sym, ap, ◌∙◌, append_assoc}
use Rattle.launch_scalars.specs.Quoted.{Quoted, put, spoiled, escape, escaped, in_double}
use Rattle.lists.proofs.Chosen.{some_is, none_some}

behind_taken : (taken : ℕ) (bytes : List ℕ) → in_double taken bytes ≡ in_double 0 (drop taken bytes)
behind_taken zero bytes = refl
behind_taken (suc taken) [] = refl
behind_taken (suc taken) (b ∷ bs) = behind_taken taken bs

-- an escape, and what stands behind it
abbrev pub with_rest : List ℕ → Option (List ℕ × ℕ) → Option (List ℕ × List ℕ)
with_rest bytes e = option_map (λ c. (c.0, drop c.1 bytes)) e

pub escape_said : (bytes piece after : List ℕ) → Some (piece, after) ≡ with_rest bytes (escape bytes) → in_double 0 (92 ∷ bytes) ≡ put piece (in_double 0 after)
escape_said bytes piece after = of_escape (escape bytes)
  where
    of_escape : (e : Option (List ℕ × ℕ)) → Some (piece, after) ≡ with_rest bytes e → escaped (suc (length bytes)) e (λ n. in_double n bytes) ≡ put piece (in_double 0 after)
    of_escape None h = absurd (none_some (piece, after) (sym h))
    of_escape (Some e) h =
        ap (put e.0) (behind_taken e.1 bytes) ∙ sym (ap (λ (p : List ℕ × List ℕ). put p.0 (in_double 0 p.1)) (some_is (piece, after) (e.0, drop e.1 bytes) h))

pub escape_is_wrong : (bytes : List ℕ) → None ≡ with_rest bytes (escape bytes) → in_double 0 (92 ∷ bytes) ≡ spoiled (suc (length bytes)) (in_double 0 (drop 1 bytes))
escape_is_wrong bytes = of_escape (escape bytes)
  where
    of_escape : (e : Option (List ℕ × ℕ)) → None ≡ with_rest bytes e → escaped (suc (length bytes)) e (λ n. in_double n bytes) ≡ spoiled (suc (length bytes)) (in_double 0 (drop 1 bytes))
    of_escape None h = ap (spoiled (suc (length bytes))) (behind_taken 1 bytes)
    of_escape (Some e) h = absurd (none_some (e.0, drop e.1 bytes) h)

-- what was read before, and what is read of a part and of the rest
pub put_more : (front piece : List ℕ) (q whole : Quoted) → put front (put piece q) ≡ whole → put (front ++ piece) q ≡ whole
put_more front piece q whole e = ap (λ (content : List ℕ). record { content = content; rest = q.rest; wrong = q.wrong }) (append_assoc front piece q.content) ∙ e
