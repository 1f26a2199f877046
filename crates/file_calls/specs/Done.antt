-- What a call leaves of a file tree.
use Rattle.std.specs.Prelude.{◌≡◌, ℕ, Bool, true, List, [], ◌∷◌, Option, Result, Ok, Err}
use Rattle.std.specs.FinMap.{get, insert}
use Rattle.std.specs.Option.{option_map}
use Rattle.std.specs.declared.alloc.AllocError.{AllocError}
use Rattle.abi_types.specs.declared.node.Node.{Node}
use Rattle.abi_types.specs.declared.reply.Answer.TheVariants as answer
use Rattle.abi_types.specs.declared.reply.Reply.{Reply}
use Rattle.tree_model.specs.Tree.{Tree}
use Rattle.kernel_model.specs.Outcome.{Outcome, IsSuccess, replies}
use Rattle.kernel_model.specs.State.{Update, set_names, set_node}

-- the tree with its parts set, one after another; other parts of a state are none of a tree
abbrev pub tree_after : List Update → Tree → Tree
tree_after [] t = t
tree_after (set_node n node ∷ updates) t = tree_after updates (record t { nodes = insert t.nodes n node })
tree_after (set_names n names ∷ updates) t = tree_after updates (record t { names = insert t.names n names })
tree_after (_ ∷ updates) t = tree_after updates t

-- how many names the node of this number counts, where there is one
abbrev pub names_at : Tree → ℕ → Option ℕ
names_at t n = option_map (λ (node : Node). node.links) (get t.nodes n)

-- both trees have nodes of the same numbers, each with as many names in both
abbrev pub HasSameNodes : Tree → Tree → Type 0
HasSameNodes t u = (n : ℕ) → names_at u n ≡ names_at t n

-- the outcome's answer is this reply, and the tree u is what its updates make of t
abbrev pub IsDone : Outcome → Tree → Tree → Reply → Type 0
IsDone o t u reply = (answer.Reply reply ≡ o.answer) × (u ≡ tree_after o.updates t)

-- So it is; or memory runs out, which it may in a call that takes some and would else succeed, and the tree stays.
abbrev pub IsTreeDone : Bool → Outcome → Tree → Tree → Result Reply AllocError → Type 0
IsTreeDone takes o t u (Ok reply) = IsDone o t u reply
IsTreeDone takes o t u (Err error) = (takes ≡ true) × IsSuccess o.answer × (u ≡ t)

-- The same of a call that only reads.
abbrev pub IsReadDone : Bool → Outcome → Result Reply AllocError → Type 0
IsReadDone takes o (Ok reply) = replies reply ≡ o
IsReadDone takes o (Err error) = (takes ≡ true) × IsSuccess o.answer
