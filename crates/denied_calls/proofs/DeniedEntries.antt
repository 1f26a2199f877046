-- The denied calls of a history that grows.
use Rattle.std.proofs.Common.{◌≡◌, List, [], ◌∷◌, ◌++◌}
use Rattle.std.proofs.lemmas.List.Elements.{filter_map-append}
use Rattle.run_types.specs.declared.history.Entry.{Entry}
use Rattle.denied_calls.specs.DeniedCalls.{denied_calls, denied_entry}

-- of one entry more that entry is among them, if it is a denied call's
pub denied_more : (log : List Entry) (e : Entry) → denied_calls (log ++ e ∷ []) ≡ denied_calls log ++ denied_calls (e ∷ [])
denied_more log e = filter_map-append denied_entry log (e ∷ [])
