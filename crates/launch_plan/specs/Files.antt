-- What a node tagged `!file` asks for.
--     target_at t path      a descriptor of what a path leads to, with all rights of its type
--     listed items      the rights that a list names, or its first fault
--     parts_of pairs      what the pairs of the map say: the path and the two lists
--     asked_of t parts      what they ask for together, or the first fault of them
--     file_grant t line value      the descriptor that the node asks for, or what is wrong with it
use Rattle.std.specs.Prelude.{ℕ, ◌&&◌, ◌||◌, ◌==◌, if◌then◌else◌, nat_eq, Bool, true, false, List, [], ◌∷◌, codes, map}
use Rattle.std.specs.Prelude.{Option, Some, None, is_some, option_map, Result, Ok, Err}
use Rattle.std.specs.Option.{option_and_then}
use Rattle.std.specs.FinMap.{get}
use Rattle.std.specs.Int.RustNames.{bit_or}
use lib.Pointwise.{pointwise}
use Rattle.lists.specs.Results.{◌>>=◌}
use Rattle.bitflags.specs.Sets.{find_name}
use Rattle.abi_base.specs.declared.grant.Grant.{Grant}
use Rattle.abi_base.specs.declared.grant.GrantTarget.TheVariants as target
use Rattle.abi_base.specs.declared.rights.Rights.{Rights}
use Rattle.abi_base.specs.Rights.{meet_of, names}
use Rattle.abi_types.specs.declared.open_type.OpenType.{OpenType}
use Rattle.abi_types.specs.OpenTypes.{rights_of, inheriting_of}
use Rattle.launch_values.specs.Shape.{Shape, Content, Shapes, Pairs, node, null, boolean, integer, text, binary, mapping, sequence}
use Rattle.launch_values.specs.Shape.{no_items, item, no_pairs, pair, of_list}
use Rattle.launch_values.specs.Views.{shape_of}
use Rattle.path_lookup.specs.Split.{slash}
use Rattle.path_lookup.specs.Walk.{WalkEnd, walk_of}
use Rattle.path_lookup.specs.declared.ends.End.TheVariants as end
use Rattle.path_lookup.specs.declared.ends.WalkMode.TheVariants as mode
use Rattle.tree_model.specs.declared.limits.TheConstants.{ROOT}
use Rattle.tree_model.specs.Tree.{Tree}
use Rattle.tree_model.specs.Finds.{finds}
use Rattle.tree_model.specs.Grants.{type_of_node}
use Rattle.launch_plan.specs.declared.fault.PlanFault.{PlanFault}
use Rattle.launch_plan.specs.declared.fault.PlanFault.TheVariants as faults
use Rattle.launch_plan.specs.declared.files.Asked.{Asked}
use Rattle.launch_plan.specs.declared.files.Part as code
use Rattle.launch_plan.specs.declared.files.Part.TheVariants as parts

-- ---- what a path leads to

-- the path behind its leading slashes
abbrev pub without_slashes : List ℕ → List ℕ
without_slashes [] = []
without_slashes (b ∷ bs) = if b == slash then without_slashes bs else b ∷ bs

-- the node at which a walk ends
abbrev pub node_of_end : WalkEnd → Option ℕ
node_of_end (Ok (end.Found n)) = Some n
node_of_end (Ok (end.Absent dir from len)) = None
node_of_end (Ok (end.Last dir from len)) = None
node_of_end (Err fault) = None

-- the node to which such a rest leads from the root, where the last symlink is followed: nothing leads to the root itself
abbrev pub node_at : Tree → List ℕ → Option ℕ
node_at t [] = Some ROOT
node_at t (b ∷ bs) = node_of_end (walk_of (finds t) mode.Follow ROOT (b ∷ bs))

-- a descriptor of a node, with all rights of its type
abbrev pub whole : ℕ → OpenType → Grant
whole n type = record { target = target.Node n; base = record { 0 = rights_of type }; inheriting = record { 0 = inheriting_of type } }

-- the same, where the node is a directory or a file
abbrev pub whole_of : Tree → ℕ → Option Grant
whole_of t n = option_map (whole n) (type_of_node (get t.nodes n))

abbrev pub target_at : Tree → List ℕ → Option Grant
target_at t path = option_and_then (whole_of t) (node_at t (without_slashes path))

-- ---- lists of rights

abbrev pub line_of : Shape → ℕ
line_of (node line tag value) = line

-- the text that a value is
abbrev pub text_of_content : Content → Option (List ℕ)
text_of_content null = None
text_of_content (boolean b) = None
text_of_content (integer i) = None
text_of_content (text bytes) = Some bytes
text_of_content (binary bytes) = None
text_of_content (mapping ps) = None
text_of_content (sequence xs) = None

-- the items of the sequence that a value is
abbrev pub items_of_content : Content → Option Shapes
items_of_content null = None
items_of_content (boolean b) = None
items_of_content (integer i) = None
items_of_content (text bytes) = None
items_of_content (binary bytes) = None
items_of_content (mapping ps) = None
items_of_content (sequence xs) = Some xs

-- the value of a node without a tag
abbrev pub untagged : Shape → Option Content
untagged (node line None value) = Some value
untagged (node line (Some name) value) = None

abbrev pub text_of : Shape → Option (List ℕ)
text_of x = option_and_then text_of_content (untagged x)

abbrev pub items_of : Shape → Option Shapes
items_of x = option_and_then items_of_content (untagged x)

abbrev pub right_or_fault : ℕ → Option ℕ → Result ℕ PlanFault
right_or_fault line None = Err (faults.UnknownRight line)
right_or_fault line (Some right) = Ok right

-- the right that an item of a list names
abbrev pub right_of : Shape → Result ℕ PlanFault
right_of x = right_or_fault (line_of x) (option_and_then (find_name names) (text_of x))

-- all rights that a list names
abbrev pub listed : Shapes → Result ℕ PlanFault
listed no_items = Ok 0
listed (item x xs) = right_of x >>= λ right. listed xs >>= λ rights. Ok (bit_or right rights)

-- the same as the code has rights
abbrev pub as_rights : Result ℕ PlanFault → Result Rights PlanFault
as_rights r = r >>= λ rights. Ok (record { 0 = rights })

-- ---- the parts of the map

-- what a pair of the map says: the path, with the line on which it stands, or the base or inheriting rights
pub data Part : Type 0 where
  Path : ℕ → List ℕ → Part
  Base : Shapes → Part
  Inheriting : Shapes → Part

-- what the code's value says
abbrev pub part : code.Part → Part
part (parts.Path line path) = Path line path.now
part (parts.Base items) = Base (of_list (map shape_of items.now))
part (parts.Inheriting items) = Inheriting (of_list (map shape_of items.now))

abbrev pub part_named : List ℕ → Shape → Option Part
part_named name value =
    if pointwise nat_eq name (codes "path") then option_map (Path (line_of value)) (text_of value)
    else if pointwise nat_eq name (codes "rights") then option_map Base (items_of value)
    else if pointwise nat_eq name (codes "inheriting") then option_map Inheriting (items_of value)
    else None

-- the part that a key and its value are
abbrev pub part_of : Shape → Shape → Option Part
part_of key value = option_and_then (λ name. part_named name value) (text_of key)

abbrev pub with_part : Option Part → List Part → List Part
with_part None ps = ps
with_part (Some p) ps = p ∷ ps

-- the parts in their order, without the pairs that are none
abbrev pub parts_of : Pairs → List Part
parts_of no_pairs = []
parts_of (pair k v ps) = with_part (part_of k v) (parts_of ps)

-- whether each pair is a part
abbrev pub are_parts : Pairs → Bool
are_parts no_pairs = true
are_parts (pair k v ps) = is_some (part_of k v) && are_parts ps

abbrev pub is_path : Part → Bool
is_path (Path line path) = true
is_path (Base items) = false
is_path (Inheriting items) = false

-- whether the path is among the parts
abbrev pub has_path : List Part → Bool
has_path [] = false
has_path (p ∷ ps) = is_path p || has_path ps

-- ---- what they ask for

abbrev pub nothing : Asked
nothing = record { target = None; base = None; inheriting = None }

abbrev pub ask_target : ℕ → Option Grant → Result Asked PlanFault
ask_target line None = Err (faults.NoSuchPath line)
ask_target line (Some grant) = Ok (record { target = Some grant; base = None; inheriting = None })

-- what one part asks for, or what is wrong with it
abbrev pub asked_by : Tree → Part → Result Asked PlanFault
asked_by t (Path line path) = ask_target line (target_at t path)
asked_by t (Base items) = listed items >>= λ rights. Ok (record { target = None; base = Some (record { 0 = rights }); inheriting = None })
asked_by t (Inheriting items) = listed items >>= λ rights. Ok (record { target = None; base = None; inheriting = Some (record { 0 = rights }) })

-- the second where it is there, else the first
abbrev pub later : {X : Type 0} → Option X → Option X → Option X
later before None = before
later before (Some x) = Some x

-- what two ask for together. No document has two equal keys in a map; of two the second would stand
abbrev pub together : Asked → Asked → Asked
together a b = record { target = later a.target b.target; base = later a.base b.base; inheriting = later a.inheriting b.inheriting }

-- what is asked for behind what was asked for before
abbrev pub asked_with : Asked → Result Asked PlanFault → Result Asked PlanFault
asked_with before r = r >>= λ a. Ok (together before a)

-- what all parts ask for, or the first fault of them
abbrev pub asked_of : Tree → List Part → Result Asked PlanFault
asked_of t [] = Ok nothing
asked_of t (p ∷ ps) = asked_by t p >>= λ a. asked_with a (asked_of t ps)

-- ---- the descriptor

-- all rights, or those of them that are listed
abbrev pub met : Rights → Option Rights → Rights
met all None = all
met all (Some rights) = record { 0 = meet_of all.0 rights.0 }

abbrev pub with_rights : Grant → Option Rights → Option Rights → Grant
with_rights grant base inheriting =
    record { target = grant.target; base = met grant.base base; inheriting = met grant.inheriting inheriting }

abbrev pub granted_at : ℕ → Option Grant → Option Rights → Option Rights → Result Grant PlanFault
granted_at line None base inheriting = Err (faults.BadFile line)
granted_at line (Some grant) base inheriting = Ok (with_rights grant base inheriting)

abbrev pub granted : ℕ → Asked → Result Grant PlanFault
granted line asked = granted_at line asked.target asked.base asked.inheriting

-- the descriptor that a map asks for. What is no such map is reported before anything inside it
abbrev pub map_grant : Tree → ℕ → Pairs → Result Grant PlanFault
map_grant t line ps =
    if are_parts ps && has_path (parts_of ps) then asked_of t (parts_of ps) >>= granted line
    else Err (faults.BadFile line)

-- the descriptor that a node with this line and value asks for
unfoldable pub file_grant : Tree → ℕ → Content → Result Grant PlanFault
file_grant t line null = Err (faults.BadFile line)
file_grant t line (boolean b) = Err (faults.BadFile line)
file_grant t line (integer i) = Err (faults.BadFile line)
file_grant t line (text bytes) = Err (faults.BadFile line)
file_grant t line (binary bytes) = Err (faults.BadFile line)
file_grant t line (mapping ps) = map_grant t line ps
file_grant t line (sequence xs) = Err (faults.BadFile line)
