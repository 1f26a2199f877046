-- A text that is left has a component that is left.
use Rattle.std.proofs.Common.{◌≡◌, ◌∷◌, ◌++◌, ℕ, Bool, true, false, List, [], length, reverse, drop, refl, ap, sym, ◌∙◌, eqb}
use Rattle.std.proofs.lemmas.List.{length-reverse}
use Rattle.std.proofs.Math.Dec.{eqb-suc-zero}
use Rattle.path_lookup.proofs.Starts.{no_names, some_name, not_last}
use Rattle.path_lookup.specs.Reading.{components_from, rest_of, coming}
use Rattle.path_lookup.specs.Split.{Component, Piece, names_from}
use Rattle.path_lookup.specs.Walk.{is_last}
use Rattle.path_lookup.specs.declared.frames.Frame.{Frame}

some_components : (is_in_path : Bool) (index : ℕ) (ps : List Piece) → no_names ps ≡ false → is_last (components_from is_in_path index ps) ≡ false
some_components true index ps h = not_last index ps h
some_components false index [] h = cc
some_components false index (p ∷ ps) h = refl

some_before : (cs ds : List Component) → is_last cs ≡ false → is_last (cs ++ ds) ≡ false
some_before [] ds h = cc
some_before (c ∷ cs) ds h = refl

last_left : (fs : List Frame) → eqb (length fs) 0 ≡ is_last (coming fs)
last_left [] = refl
last_left (f ∷ fs) = eqb-suc-zero (length fs) ∙ sym (some_before (rest_of f) (coming fs) (some_components f.is_in_path f.index (names_from f.at [] (drop f.at f.text.now)) (some_name f.at [] (drop f.at f.text.now))))

-- no component is left exactly where no text is left
pub last_reversed : (fs : List Frame) → eqb (length fs) 0 ≡ is_last (coming (reverse fs))
last_reversed fs = ap (λ n. eqb n 0) (sym (length-reverse fs)) ∙ last_left (reverse fs)
