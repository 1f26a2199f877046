-- What is reported of a call that makes a node: it makes one where its path has a last name and the tree has no fault for that.
use Rattle.std.proofs.Common.{◌≡◌, ℕ, List, None, Ok, sym, ap, ◌∙◌}
use Rattle.abi_types.specs.declared.node.NodeKind.{NodeKind}
use Rattle.kernel_model.specs.Families.LastNames.{LastName, name_at}
use Rattle.kernel_model.specs.Families.NameMaking.{errno_of, make_in, with_node}
use Rattle.kernel_model.specs.Families.NameMeaning.{Changes, at_name, unless_fault}
use Rattle.kernel_model.specs.Families.TreeUpdates.{Change}
use Rattle.tree_model.specs.Changes.{first_fault, make_faults}
use Rattle.tree_model.specs.Tree.{Tree}
use Rattle.entry_calls.specs.Places.{last_of_place}
use Rattle.entry_calls.specs.declared.places.NamePlace.{NamePlace}

pub made_reported : (kind : NodeKind) (now new : ℕ) (t : Tree) (path name : List ℕ) (last : LastName) (place : NamePlace) → last_of_place path (Ok place) ≡ last
    → name ≡ name_at path place.from place.len → first_fault (make_faults t place.dir name) ≡ None
    → (change : Change) × (at_name (make_in kind now new t) last ≡ Changes change)
made_reported kind now new t path name last place is named none =
    let change : Change = with_node kind now new t place.dir name in (
      change,
      ap (at_name (make_in kind now new t)) (sym is) ∙ ap (make_in kind now new t place.dir) (sym named)
          ∙ ap (λ o. unless_fault errno_of o (Changes change)) none,
    )
