-- What each change of a tree makes of it, and the faults for which it is refused.
--     first_fault faults      the first fault of the table whose condition holds
--     IsRefusal first fault      a change is refused with its table's first fault, or where there is none for lack of memory
--     make_faults, made      a new node with its first name
--     link_faults, linked      one more name of a node
--     unlink_faults, unlinked      a name is taken away
--     rename_faults, renamed      a name is moved; what had the new name loses it
--     with_bytes, with_times      a file's bytes are others;  a node's times are
--     write_faults, size_faults      why a write, and a new size, are refused
--     forgotten      a node without a name is gone
--     nameless_after t n      the least node above n, the root aside, that has no name
use Rattle.std.specs.Prelude.{◌≡◌, ℕ, ◌+◌, ◌-◌, ◌==◌, ◌&&◌, nat_lt, nat_le, not, Bool, true, false, List, [], ◌∷◌, Option, None, Some, is_none, is_some, if◌then◌else◌}
use Rattle.std.specs.FinMap.{empty, get, insert, remove, len}
use Rattle.abi_types.specs.declared.node.Node.{Node}
use Rattle.abi_types.specs.declared.node.NodeKind.{NodeKind}
use Rattle.abi_types.specs.declared.node.NodeKind.TheVariants as kind
use Rattle.abi_types.specs.declared.node.Times.{Times}
use Rattle.maps.specs.Closure.{member}
use Rattle.maps.specs.Maps.{least_key}
use Rattle.tree_model.specs.declared.fault.TreeFault.{TreeFault}
use Rattle.tree_model.specs.declared.fault.TreeFault.TheVariants.{Absent, Taken, NotDirectory, IsDirectory, NotEmpty, Below, Links, TooLarge, NoMemory}
use Rattle.tree_model.specs.declared.limits.TheConstants.{ROOT, MOST_FILE_BYTES, MOST_LINKS}
use Rattle.tree_model.specs.Files.{is_beyond}
use Rattle.tree_model.specs.Tree.{Tree, below, entry_of, is_directory, is_directory_kind, links_of, names_of}

-- conditions, each with the fault that it is, in the order in which they are looked at
abbrev pub Faults : Type 0
Faults = List (Bool × TreeFault)

-- the first fault of which the condition holds
abbrev pub first_fault : Faults → Option TreeFault
first_fault [] = None
first_fault (f ∷ faults) = if f.0 then Some f.1 else first_fault faults

-- a change whose table has this first fault is refused with it; and for lack of memory only where the table has none
abbrev pub IsRefusal : Option TreeFault → TreeFault → Type 0
IsRefusal None fault = fault ≡ NoMemory
IsRefusal (Some first) fault = fault ≡ first

-- ---- conditions

-- whether there is no such node
abbrev pub is_absent : Tree → ℕ → Bool
is_absent t n = is_none (get t.nodes n)

-- whether the directory was removed: it has no name, and isn't the root
abbrev pub is_removed : Tree → ℕ → Bool
is_removed t d = (links_of t d == 0) && not (d == ROOT)

-- whether the directory has no such name
abbrev pub lacks_name : Tree → ℕ → List ℕ → Bool
lacks_name t d name = is_none (entry_of t d name)

-- whether there are names in the directory
abbrev pub has_names : Tree → ℕ → Bool
has_names t d = nat_lt 0 (len (names_of t d))

-- no directory has this number: no node at all, or another node
abbrev pub directory_faults : Tree → ℕ → Faults
directory_faults t d = (is_absent t d, Absent) ∷ (not (is_directory t d), NotDirectory) ∷ []

-- ---- parts of changes

abbrev pub put_node : Tree → ℕ → Node → Tree
put_node t n node = record t { nodes = insert t.nodes n node }

-- one name more in the directory
abbrev pub put_name : Tree → ℕ → List ℕ → ℕ → Tree
put_name t d name n = record t { names = insert t.names d (insert (names_of t d) name n) }

-- the name is gone from the directory
abbrev pub drop_name : Tree → ℕ → List ℕ → Tree
drop_name t d name = record t { names = insert t.names d (remove (names_of t d) name) }

-- a node that counts so many names
abbrev pub with_count : Node → ℕ → Node
with_count node links = record node { links = links }

-- the node counts one name more
abbrev pub one_more_in : Tree → ℕ → Option Node → Tree
one_more_in t n None = t
one_more_in t n (Some node) = put_node t n (with_count node (node.links + 1))

abbrev pub one_more : Tree → ℕ → Tree
one_more t n = one_more_in t n (get t.nodes n)

-- the node counts one name less
abbrev pub one_less_in : Tree → ℕ → Option Node → Tree
one_less_in t n None = t
one_less_in t n (Some node) = put_node t n (with_count node (node.links - 1))

abbrev pub one_less : Tree → ℕ → Tree
one_less t n = one_less_in t n (get t.nodes n)

-- ---- make: a new node with its first name

abbrev pub make_faults : Tree → ℕ → List ℕ → Faults
make_faults t d name =
    (is_absent t d, Absent) ∷ (not (is_directory t d), NotDirectory) ∷ (is_removed t d, Absent) ∷ (not (lacks_name t d name), Taken) ∷ []

-- the new node: a directory has no names yet
abbrev pub new_node : Tree → ℕ → Node → Tree
new_node t n node = record {
  nodes = insert t.nodes n (with_count node 1);
  names = if is_directory_kind node.kind then insert t.names n empty else t.names;
}

abbrev pub made : Tree → ℕ → List ℕ → ℕ → Node → Tree
made t d name n node = put_name (new_node t n node) d name n

-- ---- link: one more name of a node that is no directory

abbrev pub link_faults : Tree → ℕ → List ℕ → ℕ → Faults
link_faults t d name n =
    (is_absent t d, Absent) ∷ (not (is_directory t d), NotDirectory) ∷ (is_removed t d, Absent) ∷ (is_absent t n, Absent)
    ∷ (is_directory t n, IsDirectory) ∷ (not (lacks_name t d name), Taken) ∷ (nat_le MOST_LINKS (links_of t n), Links) ∷ []

abbrev pub linked : Tree → ℕ → List ℕ → ℕ → Tree
linked t d name n = put_name (one_more t n) d name n

-- ---- unlink: a name is taken away; a directory's only where it has no names in it

-- whether the name is of a directory with names in it
abbrev pub is_full : Tree → Option ℕ → Bool
is_full t None = false
is_full t (Some n) = has_names t n

abbrev pub unlink_faults : Tree → ℕ → List ℕ → Faults
unlink_faults t d name =
    (is_absent t d, Absent) ∷ (not (is_directory t d), NotDirectory) ∷ (lacks_name t d name, Absent) ∷ (is_full t (entry_of t d name), NotEmpty) ∷ []

-- the node of the name counts one name less
abbrev pub without_old : Tree → Option ℕ → Tree
without_old t None = t
without_old t (Some n) = one_less t n

abbrev pub unlinked : Tree → ℕ → List ℕ → Tree
unlinked t d name = drop_name (without_old t (entry_of t d name)) d name

-- ---- rename: a name is moved to another place, and what had the new name loses it

-- whether both are names of one node
abbrev pub is_same : Option ℕ → Option ℕ → Bool
is_same (Some n) (Some m) = n == m
is_same _ _ = false

-- whether the number is a directory's
abbrev pub leads_to_directory : Tree → Option ℕ → Bool
leads_to_directory t None = false
leads_to_directory t (Some n) = is_directory t n

-- whether the directory d is the node or stands below it
abbrev pub is_below : Tree → Option ℕ → ℕ → Bool
is_below t None d = false
is_below t (Some n) d = member d (below t n)

-- what is looked at once both names are known to differ in their nodes: where the new name is there, both must be directories,
-- or neither
abbrev pub replace_faults : Tree → Option ℕ → ℕ → Option ℕ → Faults
replace_faults t moved to old =
    (is_below t moved to, Below)
    ∷ (is_some old && (leads_to_directory t moved && not (leads_to_directory t old)), NotDirectory)
    ∷ (is_some old && (not (leads_to_directory t moved) && leads_to_directory t old), IsDirectory)
    ∷ (is_full t old, NotEmpty) ∷ []

abbrev pub rename_faults : Tree → ℕ → List ℕ → ℕ → List ℕ → Faults
rename_faults t from name to new =
    (is_absent t from, Absent) ∷ (not (is_directory t from), NotDirectory) ∷ (lacks_name t from name, Absent)
    ∷ (is_absent t to, Absent) ∷ (not (is_directory t to), NotDirectory) ∷ (is_removed t to, Absent)
    ∷ (if is_same (entry_of t from name) (entry_of t to new) then [] else replace_faults t (entry_of t from name) to (entry_of t to new))

-- the node of the old name, if there is one, moves; the node of the new name, if there is one, counts a name less
abbrev pub moved_to : Tree → ℕ → List ℕ → ℕ → List ℕ → Option ℕ → Tree
moved_to t from name to new None = t
moved_to t from name to new (Some n) = put_name (drop_name (without_old t (entry_of t to new)) from name) to new n

-- two names of one node stay as they are
abbrev pub renamed : Tree → ℕ → List ℕ → ℕ → List ℕ → Tree
renamed t from name to new =
    if is_same (entry_of t from name) (entry_of t to new) then t else moved_to t from name to new (entry_of t from name)

-- the node that lost its name to the moved one
abbrev pub replaced : Tree → ℕ → List ℕ → ℕ → List ℕ → Option ℕ
replaced t from name to new = if is_same (entry_of t from name) (entry_of t to new) then None else entry_of t to new

-- ---- what a node has

abbrev pub bytes_of_kind : NodeKind → List ℕ
bytes_of_kind (kind.File bytes) = bytes
bytes_of_kind kind.Directory = []
bytes_of_kind (kind.Link text) = []

abbrev pub bytes_in : Option Node → List ℕ
bytes_in None = []
bytes_in (Some node) = bytes_of_kind node.kind

-- the bytes of a file, and none of what is no file
abbrev pub bytes_of : Tree → ℕ → List ℕ
bytes_of t n = bytes_in (get t.nodes n)

abbrev pub is_file_kind : NodeKind → Bool
is_file_kind (kind.File bytes) = true
is_file_kind kind.Directory = false
is_file_kind (kind.Link text) = false

abbrev pub is_file_node : Option Node → Bool
is_file_node None = false
is_file_node (Some node) = is_file_kind node.kind

-- whether the number is a file's
abbrev pub is_file : Tree → ℕ → Bool
is_file t n = is_file_node (get t.nodes n)

-- a file's bytes are these
abbrev pub with_bytes_in : Tree → ℕ → List ℕ → Option Node → Tree
with_bytes_in t n bytes None = t
with_bytes_in t n bytes (Some node) = put_node t n (record node { kind = kind.File bytes })

abbrev pub with_bytes : Tree → ℕ → List ℕ → Tree
with_bytes t n bytes = with_bytes_in t n bytes (get t.nodes n)

abbrev pub with_times_in : Tree → ℕ → Times → Option Node → Tree
with_times_in t n times None = t
with_times_in t n times (Some node) = put_node t n (record node { times = times })

abbrev pub with_times : Tree → ℕ → Times → Tree
with_times t n times = with_times_in t n times (get t.nodes n)

-- a write of these bytes at this place of a file, and a file's new size
abbrev pub write_faults : ℕ → List ℕ → Faults
write_faults at new = (is_beyond at new, TooLarge) ∷ []

abbrev pub size_faults : ℕ → Faults
size_faults size = (nat_lt MOST_FILE_BYTES size, TooLarge) ∷ []

-- ---- nodes without a name

-- the node is gone, and a directory's names with it
abbrev pub forgotten : Tree → ℕ → Tree
forgotten t n = record { nodes = remove t.nodes n; names = remove t.names n }

abbrev pub is_above : Option ℕ → ℕ → Bool
is_above None n = true
is_above (Some k) n = nat_lt k n

-- the least node above the one named, the root aside, that has no name
abbrev pub nameless_after : Tree → Option ℕ → Option ℕ
nameless_after t after = least_key (λ n node. is_above after n && ((node.links == 0) && not (n == ROOT))) t.nodes
