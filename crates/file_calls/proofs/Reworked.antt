-- A call that has changed one node leaves the tree that its outcome says.
--     Still t u n      the trees both have a node of this number, with as many names in both, or both have none
--     nodes_stay      so it is of each number after a call that changes one node
--     becomes_is      a tree with another node is what setting that node makes of it
--     becomes_succeeds      a node that was there is set with success
--     unless_done, unless_succeeds, not_large      calls that might be refused
--     below_limit      some bytes below the limit have room
--     is_written, overwrites_is      they are written, and so a call is done
use Rattle.std.proofs.Common.{◌≡◌, ◌<◌, ◌≤◌, ℕ, ◌==◌, ◌&&◌, Bool, true, false, not, cond, List, [], ◌∷◌, length, Option, Some, None, is_some, refl, sym, ap, ◌∙◌, arith}
use Rattle.std.proofs.lemmas.Bool.{false_from_ne_true, lt-leb, ltb-true}
use Rattle.std.proofs.Math.Dec.{leb-suc-zero}
use Rattle.std.specs.Prelude.{bit_and, max, nat_le, nat_lt}
use Rattle.std.specs.FinMap.{get}
use Rattle.std.specs.Option.{option_map}
use Rattle.abi_base.specs.declared.errno.Errno.TheVariants.{Fbig}
use Rattle.abi_structures.specs.declared.structures.FileStat.{FileStat}
use Rattle.abi_types.specs.declared.node.Node.{Node}
use Rattle.abi_types.specs.declared.node.NodeKind.TheVariants as kind
use Rattle.abi_types.specs.declared.node.Times.{Times}
use Rattle.abi_types.specs.declared.reply.Answer.TheVariants as answer
use Rattle.abi_types.specs.declared.reply.Reply.{Reply}
use Rattle.maps.specs.Maps.{same_numbers}
use Rattle.tree_model.specs.Changes.{bytes_of, is_file, with_bytes, with_times}
use Rattle.tree_model.specs.Entries.{here_or_other, with_bytes-changes, with_times-changes}
use Rattle.tree_model.specs.Files.{after_write, is_beyond, resized}
use Rattle.tree_model.specs.Tree.{Tree}
use Rattle.tree_model.specs.declared.limits.TheConstants.{MOST_FILE_BYTES}
use Rattle.kernel_model.specs.Families.FileBytes.{overwritten, overwrites, write_bytes, written_count}
use Rattle.kernel_model.specs.Families.FileChanges.{allocated, becomes, becomes_in, has_size, modified, put_size, put_stat, put_times, retimed, retimed_in, sized, times_put}
use Rattle.kernel_model.specs.Outcome.{Outcome, IsSuccess, replies}
use Rattle.kernel_model.specs.Reply.{refused, success}
use Rattle.kernel_model.specs.State.{State, no_state}
use Rattle.kernel_model.specs.Families.TreeUpdates.{node_update}
use Rattle.kernel_model.proofs.FileBytes.{overwritten_reworks}
use Rattle.kernel_model.proofs.Reworks.{Reworks, put_tree}
use Rattle.kernel_model.proofs.Tests.{not_true}
use Rattle.file_calls.specs.Done.{HasSameNodes, IsDone, names_at, tree_after}

-- ---- a node that is there stays there, with its names

abbrev pub Still : Tree → Tree → ℕ → Type 0
Still t u n = names_at u n ≡ names_at t n

-- how many names a node counts
abbrev count : Option Node → Option ℕ
count o = option_map (λ (node : Node). node.links) o

mapped_still : (f : Node → Node) → ((node : Node) → (f node).links ≡ node.links) → (o : Option Node) → count (option_map f o) ≡ count o
mapped_still f same None = refl
mapped_still f same (Some node) = ap Some (same node)

with_times_still : (t : Tree) (n : ℕ) (times : Times) → Still t (with_times t n times) n
with_times_still t n times =
    ap count (with_times-changes t n times).node ∙ mapped_still (λ (node : Node). record node { times = times }) (λ node. refl) (get t.nodes n)

with_bytes_still : (t : Tree) (n : ℕ) (bytes : List ℕ) → Still t (with_bytes t n bytes) n
with_bytes_still t n bytes =
    ap count (with_bytes-changes t n bytes).node ∙ mapped_still (λ (node : Node). record node { kind = kind.File bytes }) (λ node. refl) (get t.nodes n)

retimed_in_still : (t : Tree) (n : ℕ) (new : Times → Times) (o : Option Node) → Still t (retimed_in t n new o) n
retimed_in_still t n new None = refl
retimed_in_still t n new (Some node) = with_times_still t n (new node.times)

retimed_still : (t : Tree) (n : ℕ) (new : Times → Times) → Still t (retimed t n new) n
retimed_still t n new = retimed_in_still t n new (get t.nodes n)

either_still : (b : Bool) (t u w : Tree) (n : ℕ) → Still t u n → Still t w n → Still t (cond b u w) n
either_still true t u w n first second = first
either_still false t u w n first second = second

sized_still : (t : Tree) (n now size : ℕ) → Still t (sized t n now size) n
sized_still t n now size =
    let other : Tree = with_bytes t n (resized (bytes_of t n) size) in
    either_still (length (bytes_of t n) == size) t t (retimed other n (modified now)) n refl
    (retimed_still other n (modified now) ∙ with_bytes_still t n (resized (bytes_of t n) size))

pub allocated_still : (t : Tree) (n now size : ℕ) → Still t (allocated t n now size) n
allocated_still t n now size = sized_still t n now (max (length (bytes_of t n)) size)

pub overwritten_still : (t : Tree) (n now at : ℕ) (bytes : List ℕ) → Still t (overwritten t n now at bytes) n
overwritten_still t n now at bytes =
    let other : Tree = with_bytes t n (after_write (bytes_of t n) at bytes) in
    retimed_still other n (modified now) ∙ with_bytes_still t n (after_write (bytes_of t n) at bytes)

module _ (flags : ℕ) (stat : FileStat) (now : ℕ) where
  pub put_times_still : (t : Tree) (n : ℕ) → Still t (put_times flags stat now t n) n
  put_times_still t n =
      either_still (bit_and flags 15 == 0) t t (retimed t n (times_put flags stat now)) n refl (retimed_still t n (times_put flags stat now))

  put_size_still : (t : Tree) (n : ℕ) → Still t (put_size flags stat now t n) n
  put_size_still t n = either_still (has_size flags) t (sized t n now stat.size) t n (sized_still t n now stat.size) refl

  pub put_stat_still : (t : Tree) (n : ℕ) → Still t (put_stat flags stat now t n) n
  put_stat_still t n = put_times_still (put_size flags stat now t n) n ∙ put_size_still t n

-- ---- the tree of an outcome

-- a state with this tree
abbrev bare : Tree → State
bare t = record no_state { nodes = t.nodes; names = t.names }

counts_none : (o : Option Node) → count o ≡ None → o ≡ None
counts_none None is = refl
counts_none (Some node) is = cc

becomes_updates : (n : ℕ) (o : Option Node) → (becomes n o).updates ≡ node_update n o
becomes_updates n None = refl
becomes_updates n (Some node) = refl

module _ (t u : Tree) (n : ℕ) (works : Reworks t u n) (still : Still t u n) where
  none_done : get u.nodes n ≡ None → u ≡ t
  none_done none =
      let before : get t.nodes n ≡ None = counts_none (get t.nodes n) (sym still ∙ ap count none) in
      let nodes = same_numbers u.nodes t.nodes (λ q. here_or_other (λ k. get u.nodes k ≡ get t.nodes k) n q (none ∙ sym before) (works.others q)) in
      λ i. record { nodes = nodes i; names = works.names i }

  done_by : (o : Option Node) → get u.nodes n ≡ o → u ≡ tree_after (node_update n o) t
  done_by None is = none_done is
  done_by (Some node) is = sym (put_tree (bare t) n node u works is)

  -- the tree u is what setting its node makes of t
  pub node_done : u ≡ tree_after (node_update n (get u.nodes n)) t
  node_done = done_by (get u.nodes n) refl

  -- each node is there as before, with as many names
  same_nodes : HasSameNodes t u
  same_nodes q = here_or_other (λ k. names_at u k ≡ names_at t k) n q still (λ other. ap count (works.others q other))

  pub becomes_done : u ≡ tree_after (becomes_in n u).updates t
  becomes_done = node_done ∙ ap (λ us. tree_after us t) (sym (becomes_updates n (get u.nodes n)))

-- ---- calls

pub nodes_stay : (t w u : Tree) (n : ℕ) → Reworks t w n → Still t w n → u ≡ w → HasSameNodes t u
nodes_stay t w u n works still is = λ q. ap (λ (x : Tree). names_at x q) is ∙ same_nodes t w n works still q

pub becomes_is : (t w u : Tree) (n : ℕ) (reply : Reply) → Reworks t w n → Still t w n → u ≡ w → answer.Reply reply ≡ (becomes_in n u).answer
    → IsDone (becomes_in n w) t u reply
becomes_is t w u n reply works still is answered = (answered ∙ ap (λ (x : Tree). (becomes_in n x).answer) is, is ∙ becomes_done t w n works still)

-- a node counts as many names as one that is there
succeeds_by : (n : ℕ) (o p : Option Node) → count o ≡ count p → is_some p ≡ true → IsSuccess (becomes n o).answer
succeeds_by n None None same there = absurd (not_true there)
succeeds_by n None (Some node) same there = cc
succeeds_by n (Some node) p same there = refl

pub becomes_succeeds : (t w : Tree) (n : ℕ) → Still t w n → is_some (get t.nodes n) ≡ true → IsSuccess (becomes_in n w).answer
becomes_succeeds t w n still there = succeeds_by n (get w.nodes n) (get t.nodes n) still there

-- a call that goes on where this test fails
pub unless_done : (b : Bool) (o p : Outcome) (t u : Tree) (reply : Reply) → b ≡ false → IsDone p t u reply → IsDone (cond b o p) t u reply
unless_done true o p t u reply fails done = cc
unless_done false o p t u reply fails done = done

pub unless_succeeds : (b : Bool) (o p : Outcome) → b ≡ false → IsSuccess p.answer → IsSuccess (cond b o p).answer
unless_succeeds true o p fails done = cc
unless_succeeds false o p fails done = done

pub not_large : (size : ℕ) → size ≤ MOST_FILE_BYTES → nat_lt MOST_FILE_BYTES size ≡ false
not_large size small = false_from_ne_true (nat_lt MOST_FILE_BYTES size) (λ is. let more : MOST_FILE_BYTES < size = ltb-true MOST_FILE_BYTES size is in omega arith)

-- ---- writes

pub below_limit : (at b : ℕ) (bytes : List ℕ) → at < MOST_FILE_BYTES → is_beyond at (b ∷ bytes) ≡ false
below_limit at b bytes below =
    ap (λ none. not none && nat_le MOST_FILE_BYTES at) (leb-suc-zero (length bytes)) ∙ lt-leb MOST_FILE_BYTES at below

-- a write of some bytes below it
pub is_written : (t : Tree) (n now at : ℕ) (bytes : List ℕ) → (length bytes == 0) ≡ false → at < MOST_FILE_BYTES
    → write_bytes t n now at bytes ≡ overwrites t n now at bytes
is_written t n now at [] some below = absurd (not_true (sym some))
is_written t n now at (b ∷ bytes) some below =
    ap (λ c. cond c (replies (refused Fbig)) (overwrites t n now at (b ∷ bytes))) (below_limit at b bytes below)

-- a call that has written so many bytes, and replies with their count
pub overwrites_is : (t u : Tree) (n now at : ℕ) (bytes : List ℕ) (count : ℕ) (reply : Reply) → is_file t n ≡ true → u ≡ overwritten t n now at bytes
    → count ≡ written_count at bytes → reply ≡ success count 0 → IsDone (overwrites t n now at bytes) t u reply
overwrites_is t u n now at bytes count reply file is counted answered = (
  ap answer.Reply (answered ∙ ap (λ k. success k 0) counted),
  is ∙ node_done t (overwritten t n now at bytes) n (overwritten_reworks t n now at bytes file) (overwritten_still t n now at bytes),
)
