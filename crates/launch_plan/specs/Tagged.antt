-- The nodes of a document that have a tag, and what each asks for.
use Rattle.std.specs.Prelude.{ℕ, if◌then◌else◌, nat_eq, Bool, false, List, [], ◌∷◌, ◌++◌, codes, Option, Some, None, Result, Ok, Err}
use lib.Pointwise.{pointwise}
use Rattle.lists.specs.Results.{◌>>=◌}
use Rattle.abi_base.specs.declared.grant.Grant.{Grant}
use Rattle.abi_base.specs.declared.grant.GrantTarget.TheVariants.{Terminal}
use Rattle.abi_base.specs.Grants.{stream_rights}
use Rattle.tree_model.specs.Tree.{Tree}
use Rattle.launch_values.specs.Shape.{Shape, Content, Shapes, Pairs, node, null, boolean, integer, text, binary, mapping, sequence, no_items, item, no_pairs, pair}
use Rattle.launch_plan.specs.declared.fault.PlanFault.{PlanFault}
use Rattle.launch_plan.specs.declared.fault.PlanFault.TheVariants as faults
use Rattle.launch_plan.specs.Files.{file_grant}

pub record Tagged : Type 0 where
  pub line : ℕ
  pub name : List ℕ
  pub value : Content

-- The nodes with a tag, in document order: a key before its value. What is inside such a node isn't among them: the node asks
-- for one descriptor or is at fault.
abbrev mutual
  pub tagged : Shape → List Tagged
  tagged (node line None value) = tagged_in value
  tagged (node line (Some name) value) = record { line = line; name = name; value = value } ∷ []

  pub tagged_in : Content → List Tagged
  tagged_in null = []
  tagged_in (boolean b) = []
  tagged_in (integer i) = []
  tagged_in (text bytes) = []
  tagged_in (binary bytes) = []
  tagged_in (mapping ps) = tagged_in_pairs ps
  tagged_in (sequence xs) = tagged_in_items xs

  pub tagged_in_items : Shapes → List Tagged
  tagged_in_items no_items = []
  tagged_in_items (item x xs) = tagged x ++ tagged_in_items xs

  pub tagged_in_pairs : Pairs → List Tagged
  tagged_in_pairs no_pairs = []
  tagged_in_pairs (pair k v ps) = tagged k ++ (tagged v ++ tagged_in_pairs ps)

abbrev pub is_text : List ℕ → Content → Bool
is_text wanted (text bytes) = pointwise nat_eq bytes wanted
is_text wanted other = false

-- the standard stream that a node asks for: 0 is stdin, 1 is stdout, 2 is stderr
abbrev pub stream_of : Content → Option ℕ
stream_of value =
    if is_text (codes "stdin") value then Some 0
    else if is_text (codes "stdout") value then Some 1
    else if is_text (codes "stderr") value then Some 2
    else None

-- a stream with all rights of its type. Nothing is opened through it
abbrev pub stream_grant : ℕ → Grant
stream_grant which = record { target = Terminal which; base = record { 0 = stream_rights which }; inheriting = record { 0 = 0 } }

abbrev pub stream_or_fault : ℕ → Option ℕ → Result Grant PlanFault
stream_or_fault line None = Err (faults.BadFd line)
stream_or_fault line (Some which) = Ok (stream_grant which)

-- the descriptor that a node with a tag asks for, or what is wrong with it
abbrev pub grant_of : Tree → Tagged → Result Grant PlanFault
grant_of tree t =
    if pointwise nat_eq t.name (codes "fd") then stream_or_fault t.line (stream_of t.value)
    else if pointwise nat_eq t.name (codes "file") then file_grant tree t.line t.value
    else Err (faults.UnknownTag t.line)

-- the descriptors that nodes ask for, in their order, or the first fault
abbrev pub grants_of : Tree → List Tagged → Result (List Grant) PlanFault
grants_of tree [] = Ok []
grants_of tree (t ∷ ts) = grant_of tree t >>= λ grant. grants_of tree ts >>= λ grants. Ok (grant ∷ grants)

-- the same, behind descriptors that were asked for before
abbrev pub grants_behind : Tree → List Grant → List Tagged → Result (List Grant) PlanFault
grants_behind tree before [] = Ok before
grants_behind tree before (t ∷ ts) = grant_of tree t >>= λ grant. grants_behind tree (before ++ grant ∷ []) ts
