-- No call but fd_read and fd_write touches a standard stream.
use Rattle.std.proofs.Common.{◌≡◌, ℕ, zero, suc, ◌||◌, Bool, true, false, cond, List, [], ◌∷◌, ◌++◌, Option, Some, None, refl, ◌∙◌}
use Rattle.std.specs.Prelude.{⊤}
use Rattle.std.specs.FinMap.{get}
use Rattle.abi_base.specs.declared.errno.Errno.{Errno}
use Rattle.abi_structures.specs.declared.events.Subscription.{Subscription}
use Rattle.abi_types.specs.Families.{is_anonymous}
use Rattle.abi_types.specs.declared.call.Call.{Call}
use Rattle.abi_types.specs.declared.call.Call.TheVariants as call
use Rattle.abi_types.specs.declared.descriptor.Descriptor.{Descriptor}
use Rattle.abi_types.specs.declared.node.NodeKind.{NodeKind}
use Rattle.abi_types.specs.declared.node.NodeKind.TheVariants.{Link}
use Rattle.abi_types.specs.declared.open_kind.OpenKind.{OpenKind}
use Rattle.abi_types.specs.declared.open_kind.OpenKind.TheVariants.{File, Directory, End}
use Rattle.abi_types.specs.declared.place.Place.{Place}
use Rattle.abi_types.specs.declared.reply.Reply.{Reply}
use Rattle.abi_types.specs.declared.who.Who.{Who}
use Rattle.path_lookup.specs.declared.ends.End.TheVariants as end
use Rattle.tree_model.specs.Changes.{is_absent}
use Rattle.tree_model.specs.Tree.{entry_of}
use Rattle.kernel_model.specs.Calls.{meaning_of, refusal}
use Rattle.kernel_model.specs.Families.ChannelCalls.{both_parts, received_part, sent_part}
use Rattle.kernel_model.specs.Families.DescriptorCalls.{open_part}
use Rattle.kernel_model.specs.Families.FileChanges.{node_part}
use Rattle.kernel_model.specs.Families.FileMeaning.{on_open, open_of}
use Rattle.kernel_model.specs.Families.FilePaths.{Walked, Ends, Fails, LeadsOutside, found_part, lookup_mode, walked}
use Rattle.kernel_model.specs.Families.LastNames.{LastName, StandsIn, IsNone, IsOutside, directory_parts, last_name}
use Rattle.kernel_model.specs.Families.MemoryCalls.{map_row, map_zeros, mapping}
use Rattle.kernel_model.specs.Families.NameMaking.{making, making_unless, text_error}
use Rattle.kernel_model.specs.Families.NameRemoving.{named_parts, node_parts_of}
use Rattle.kernel_model.specs.Families.Numbers.{new_parts}
use Rattle.kernel_model.specs.Families.OpenMeaning.{OpenMeaning, moved_part, touched_at}
use Rattle.kernel_model.specs.Families.Opening.{absent_parts, creates, open_mode, parts_where, truncates}
use Rattle.kernel_model.specs.Families.Polls.{begins_with_lock, poll_by}
use Rattle.kernel_model.specs.Families.SocketCalls.{receiving, sending, shutting}
use Rattle.kernel_model.specs.Families.StreamCalls.{seek_row, seeking}
use Rattle.kernel_model.specs.OwnChanges.{OwnChange, born_of, child_parts, made_parts}
use Rattle.kernel_model.specs.State.{ProcessState, State, Table, Part, Tree, at_node, at_term, has_part, tree_of}
use Rattle.kernel_model.specs.Step.{changed, made_on, touch, unless_refused}
use Rattle.kernel_model.specs.View.{whole}
use Rattle.kernel_model.proofs.Parts.{has_of_both}

-- no stream is among the parts
abbrev pub NoStream : ℕ → List Part → Type 0
NoStream k parts = has_part parts (at_term k) ≡ false

pub none_both : (k : ℕ) (xs ys : List Part) → NoStream k xs → NoStream k ys → NoStream k (xs ++ ys)
none_both k xs ys first second = has_of_both xs ys (at_term k) ∙ (λ i. first i || second i)

-- ---- what is made

child_none : (k : ℕ) (child : Option ℕ) → NoStream k (child_parts child)
child_none k None = refl
child_none k (Some q) = refl

new_none : (k p count : ℕ) (own : Option ProcessState) → NoStream k (new_parts p count own)
new_none k p zero own = refl
new_none k p (suc count) own = new_none k p count own

made_none : (k : ℕ) (change : OwnChange) (p count : ℕ) (own : Option ProcessState) → NoStream k (made_parts change p count own)
made_none k change p count own =
    none_both k (child_parts (born_of change p own)) (new_parts p count own) (child_none k (born_of change p own)) (new_none k p count own)

-- ---- what is changed

open_none : (k : ℕ) (d : Option Descriptor) → NoStream k (open_part d)
open_none k None = refl
open_none k (Some d) = refl

node_none : (k : ℕ) (t : Tree) (kind : Option OpenKind) → NoStream k (node_part t kind)
node_none k t (Some (File node offset flags)) = refl
node_none k t (Some (Directory node flags)) = refl
node_none k t other = refl

found_none : (k : ℕ) (w : Walked) → NoStream k (found_part w)
found_none k (Ends (end.Found n)) = refl
found_none k (Ends (end.Absent dir from len)) = refl
found_none k (Ends (end.Last dir from len)) = refl
found_none k (Fails errno) = refl
found_none k (LeadsOutside component) = refl

absent_none : (k : ℕ) (w : Walked) → NoStream k (absent_parts w)
absent_none k (Ends (end.Found n)) = refl
absent_none k (Ends (end.Absent dir from len)) = refl
absent_none k (Ends (end.Last dir from len)) = refl
absent_none k (Fails errno) = refl
absent_none k (LeadsOutside component) = refl

where_none : (k : ℕ) (b : Bool) (parts : List Part) → NoStream k parts → NoStream k (parts_where b parts)
where_none k true parts h = h
where_none k false parts h = refl

directory_none : (k : ℕ) (name : LastName) → NoStream k (directory_parts name)
directory_none k (StandsIn dir name) = refl
directory_none k (IsNone errno) = refl
directory_none k (IsOutside component) = refl

entry_none : (k : ℕ) (t : Tree) (n : Option ℕ) → NoStream k (node_parts_of t n)
entry_none k t None = refl
entry_none k t (Some n) = elim (is_absent t n) as (λ b. NoStream k (cond b [] (at_node n ∷ []))) [ true ↦ refl | false ↦ refl ]

named_none : (k : ℕ) (t : Tree) (name : LastName) → NoStream k (named_parts t name)
named_none k t (StandsIn dir name) = entry_none k t (entry_of t dir name)
named_none k t (IsNone errno) = refl
named_none k t (IsOutside component) = refl

making_none : (k : ℕ) (fault : Option Errno) (kind : NodeKind) (path : List ℕ) (t : Tree) (here there : Option OpenKind)
    → NoStream k ((making_unless fault (making kind path)).touched t here there)
making_none k None kind path t here there = directory_none k (last_name t path here)
making_none k (Some errno) kind path t here there = refl

moved_none : (k : ℕ) (b : Bool) (o : ℕ) → NoStream k (moved_part b o)
moved_none k true o = refl
moved_none k false o = refl

sent_none : (k : ℕ) (kind : Option OpenKind) → NoStream k (sent_part kind)
sent_none k (Some (End reads None flags form)) = refl
sent_none k (Some (End reads (Some c) flags form)) = refl
sent_none k other = refl

received_none : (k : ℕ) (kind : Option OpenKind) → NoStream k (received_part kind)
received_none k (Some (End None writes flags form)) = refl
received_none k (Some (End (Some c) writes flags form)) = refl
received_none k other = refl

both_none : (k : ℕ) (kind : Option OpenKind) → NoStream k (both_parts kind)
both_none k (Some (End None None flags form)) = refl
both_none k (Some (End None (Some w) flags form)) = refl
both_none k (Some (End (Some c) None flags form)) = refl
both_none k (Some (End (Some c) (Some w) flags form)) = refl
both_none k other = refl

at_none : (k : ℕ) (m : OpenMeaning) (S : State) (d : Option Descriptor) → ((kind : Option OpenKind) → NoStream k (m.touched kind))
    → NoStream k (touched_at m S d)
at_none k m S None each = refl
at_none k m S (Some d) each =
    none_both k (moved_part (m.moves (get S.opens d.id)) d.id) (m.touched (get S.opens d.id)) (moved_none k (m.moves (get S.opens d.id)) d.id)
    (each (get S.opens d.id))

map_none : (k : ℕ) (anonymous : Bool) (place : Place) (length prot fd offset : ℕ) (S : State) (table : Table)
    → NoStream k ((cond anonymous (map_zeros place) (on_open (map_row fd prot) (mapping place length offset))).touched S table)
map_none k true place length prot fd offset S table = refl
map_none k false place length prot fd offset S table = refl

poll_none : (k : ℕ) (lock : Bool) (subscriptions : List Subscription) (S : State) (table : Table)
    → NoStream k ((poll_by lock subscriptions).touched S table)
poll_none k true [] S table = refl
poll_none k true (first ∷ rest) S table = refl
poll_none k false subscriptions S table = refl

-- ---- calls

-- the call may read a standard stream or write one
abbrev pub IsOfStream : Call → Type 0
IsOfStream (call.FdRead fd length) = ⊤
IsOfStream (call.FdWrite fd bytes) = ⊤
IsOfStream other = ⊥

changes_none : (k : ℕ) (c : Call) → ¬ IsOfStream c → (S : State) (table : Table) → NoStream k ((meaning_of c).touched S table)
changes_none k (call.FdRead fd length) other S table = absurd (other tt)
changes_none k (call.FdWrite fd bytes) other S table = absurd (other tt)
changes_none k (call.FdPwrite fd bytes offset) other S table = node_none k (tree_of S) (open_of (whole S) (get table fd))
changes_none k (call.FdSeek fd offset whence) other S table =
    at_none k (seeking offset whence) S (get table (seek_row fd offset whence).fd) (λ kind. refl)
changes_none k (call.FdStatPut fd stat flags) other S table = open_none k (get table fd)
changes_none k (call.FileAllocate fd offset length) other S table = node_none k (tree_of S) (open_of (whole S) (get table fd))
changes_none k (call.FileCreate fd path kind) other S table = directory_none k (last_name (tree_of S) path (open_of (whole S) (get table fd)))
changes_none k (call.FileLink lookup path new_fd new_path) other S table =
    none_both k (found_part (walked (tree_of S) (lookup_mode lookup.flags) path (open_of (whole S) (get table lookup.fd))))
    (directory_parts (last_name (tree_of S) new_path (open_of (whole S) (get table new_fd))))
    (found_none k (walked (tree_of S) (lookup_mode lookup.flags) path (open_of (whole S) (get table lookup.fd))))
    (directory_none k (last_name (tree_of S) new_path (open_of (whole S) (get table new_fd))))
changes_none k (call.FileOpen lookup path oflags stat) other S table =
    let w : Walked = walked (tree_of S) (open_mode oflags lookup.flags) path (open_of (whole S) (get table lookup.fd)) in
    none_both k (parts_where (creates oflags) (absent_parts w)) (parts_where (truncates oflags) (found_part w))
    (where_none k (creates oflags) (absent_parts w) (absent_none k w)) (where_none k (truncates oflags) (found_part w) (found_none k w))
changes_none k (call.FileRename fd path new_fd new_path) other S table =
    let from : LastName = last_name (tree_of S) path (open_of (whole S) (get table fd)) in
    let to : LastName = last_name (tree_of S) new_path (open_of (whole S) (get table new_fd)) in
    none_both k (directory_parts from) (directory_parts to ++ named_parts (tree_of S) to) (directory_none k from)
    (none_both k (directory_parts to) (named_parts (tree_of S) to) (directory_none k to) (named_none k (tree_of S) to))
changes_none k (call.FileStatFput fd stat flags) other S table = node_none k (tree_of S) (open_of (whole S) (get table fd))
changes_none k (call.FileStatPut lookup path stat flags) other S table =
    found_none k (walked (tree_of S) (lookup_mode lookup.flags) path (open_of (whole S) (get table lookup.fd)))
changes_none k (call.FileSymlink text fd path) other S table =
    making_none k (text_error text) (Link text) path (tree_of S) (open_of (whole S) (get table fd)) None
changes_none k (call.FileUnlink fd path flags) other S table =
    let name : LastName = last_name (tree_of S) path (open_of (whole S) (get table fd)) in
    none_both k (directory_parts name) (named_parts (tree_of S) name) (directory_none k name) (named_none k (tree_of S) name)
changes_none k (call.MemMap place length prot flags fd offset) other S table = map_none k (is_anonymous flags) place length prot fd offset S table
changes_none k (call.Poll subscriptions) other S table = poll_none k (begins_with_lock subscriptions) subscriptions S table
changes_none k (call.SockRecv fd length fds flags) other S table = at_none k (receiving 0 table length fds flags) S (get table fd) (received_none k)
changes_none k (call.SockSend fd bytes fds flags) other S table = at_none k (sending bytes []) S (get table fd) (sent_none k)
changes_none k (call.SockShutdown fd how) other S table = at_none k (shutting how) S (get table fd) (both_none k)
changes_none k c other S table = refl

-- ---- what is touched

module _ (S : State) (who : Who) (c : Call) (k : ℕ) where
  unless_none : (r : Option Reply) (made parts : List Part) → NoStream k made → (r ≡ None → NoStream k parts)
      → NoStream k (unless_refused r made ++ unless_refused r parts)
  unless_none None made parts first second = none_both k made parts first (second refl)
  unless_none (Some reply) made parts first second = refl

  on_none : (t : Option Table) → ((table : Table) → t ≡ Some table → refusal table c ≡ None → NoStream k ((meaning_of c).touched S table))
      → NoStream k (made_on S who c t ++ changed S c t)
  on_none None each = refl
  on_none (Some table) each =
      unless_none (refusal table c) (made_parts (meaning_of c).own who.pid (meaning_of c).numbers (get S.processes who.pid)) ((meaning_of c).touched S table)
      (made_none k (meaning_of c).own who.pid (meaning_of c).numbers (get S.processes who.pid)) (each table refl)

  -- a call touches no stream where it isn't refused and says that it changes none
  pub touch_none : ((table : Table) → get S.tables who.pid ≡ Some table → refusal table c ≡ None → NoStream k ((meaning_of c).touched S table))
      → NoStream k (touch S who c)
  unfolding touch
  touch_none each = on_none (get S.tables who.pid) each

  pub other_touches_none : ¬ IsOfStream c → NoStream k (touch S who c)
  other_touches_none other = touch_none (λ table own allowed. changes_none k c other S table)
