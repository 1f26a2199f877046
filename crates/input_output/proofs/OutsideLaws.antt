-- Laws of faults and of bytes written, for what reads or writes more than once.
use Rattle.std.proofs.Common.{◌≡◌, ◌+◌, ◌≤◌, ◌∙◌, ℕ, List, ◌++◌, length, take, ap, arith, sym, refl, inl, inr, append_assoc}
use Rattle.std.specs.Prelude.{Option, None, Some}
use Rattle.std.proofs.Math.Seq.{take-append-add}
use Rattle.input_output.specs.Source.{Rose}
use Rattle.input_output.specs.Sink.{grown, GrewByPrefix}

-- a count that rose in a later part of a call rose in the call
pub rose_since : (first before after : ℕ) → first ≤ before → Rose before after → Rose first after
rose_since first before after early (inl more) = inl (omega arith)
rose_since first before after early (inr last) = inr last

-- bytes after bytes
pub grown_twice : (before : Option (List ℕ)) (first more : List ℕ) → grown (grown before first) more ≡ grown before (first ++ more)
grown_twice None first more = refl
grown_twice (Some bytes) first more = ap Some (append_assoc bytes first more)

-- after a first piece was written whole, a prefix of the second is one of both
pub grew_later : (before between after : Option (List ℕ)) (first second : List ℕ) → between ≡ grown before first →
    GrewByPrefix between after second → GrewByPrefix before after (first ++ second)
grew_later before between after first second whole more =
    record {
      count = length first + more.count;
      grew =
          more.grew ∙ ap (λ b. grown b (take more.count second)) whole ∙ grown_twice before first (take more.count second)
          ∙ ap (grown before) (sym (take-append-add first second more.count));
    }
