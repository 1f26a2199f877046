use Rattle.std.proofs.Common.{◌≡◌, ℕ, List, false, Option, None, Some, IsSome, is_none, refl, ap}
use Rattle.std.specs.FinMap.{get}
use Rattle.std.specs.Prelude.{if◌then◌else◌}
use Rattle.abi_base.specs.declared.errno.Errno.TheVariants.{Noent}
use Rattle.abi_types.specs.declared.node.Node.{Node}
use Rattle.tree_model.specs.Tree.{IsTree, Tree, entry_of}
use Rattle.kernel_model.specs.Families.NameMeaning.{NameOutcome, Refuses}
use Rattle.kernel_model.specs.Families.NameRemoving.{unless_lost}
use Rattle.entry_calls.proofs.entries.names_lead.Goals as goal

some_is_there : (o : Option Node) → IsSome o → is_none o ≡ false
some_is_there None is = cc
some_is_there (Some node) is = refl

leads : (t : Tree) (d : ℕ) (name : List ℕ) (comes : NameOutcome) → IsTree t → (o : Option ℕ) → entry_of t d name ≡ o → unless_lost t o comes ≡ comes
leads t d name comes tree None is = refl
leads t d name comes tree (Some n) is =
    ap (λ b. if b then Refuses Noent else comes) (some_is_there (get t.nodes n) (tree.led d name n is))

pub returns : goal.returns
returns c dir name comes = leads c.args.tree.now dir name comes c.node.ensures.tree (entry_of c.args.tree.now dir name) refl
