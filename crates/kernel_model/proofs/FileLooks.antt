-- The meanings of the calls that look at files, directories and symlinks are proper.
use Rattle.std.proofs.Common.{◌≡◌, ◌≢◌, ◌⊎◌, ℕ, ◌+◌, Bool, true, List, [], ◌∷◌, ◌++◌, Option, Some, None, inl, inr, refl, sym, ap, subst, ◌∙◌}
use Rattle.std.specs.Prelude.{take, drop}
use Rattle.std.specs.FinMap.{entries, get}
use Rattle.std.specs.List.{AllByRecursion}
use Rattle.abi_base.specs.declared.errno.Errno.{Errno}
use Rattle.abi_base.specs.declared.errno.Errno.TheVariants.{Badf, Inval, Nomem, Success}
use Rattle.abi_types.specs.declared.call.Lookup.{Lookup}
use Rattle.abi_types.specs.declared.node.Node.{Node}
use Rattle.abi_types.specs.declared.node.NodeKind.{NodeKind}
use Rattle.abi_types.specs.declared.node.NodeKind.TheVariants as kind
use Rattle.abi_types.specs.declared.open_kind.OpenKind.{OpenKind}
use Rattle.abi_types.specs.declared.open_kind.OpenKind.TheVariants.{File, Directory, End, Terminal, Process}
use Rattle.abi_types.specs.declared.reply.Reply.{Reply}
use Rattle.path_lookup.specs.declared.ends.WalkMode.{WalkMode}
use Rattle.path_lookup.specs.declared.ends.WalkMode.TheVariants.{NoFollow}
use Rattle.tree_model.specs.Below.{below_self}
use Rattle.tree_model.specs.Finds.{HasSameBelow, named_alike}
use Rattle.tree_model.specs.Tree.{names_in}
use Rattle.kernel_model.specs.Families.FileLooks.{report_node, report_in, report_open, looking, file_advise, file_stat_fget, file_stat_get, read_link, read_node, read_link_in, file_readlink, room_of, entry_bytes, entries_bytes, list_names, list_open, file_readdir}
use Rattle.kernel_model.specs.Families.FilePaths.{by_path, lookup_mode, outside_of, path_errors, walked}
use Rattle.kernel_model.specs.Outcome.{Outcome, replies}
use Rattle.kernel_model.specs.Proper.{IsIn, IsPlain, IsProper, IsUnset}
use Rattle.kernel_model.specs.Reply.{content, refused}
use Rattle.kernel_model.specs.State.{State, Names, Tree, tree_of, Part, put_all}
use Rattle.kernel_model.specs.Valid.{IsNearlyValid}
use Rattle.kernel_model.proofs.Answering.{needing_is_proper}
use Rattle.kernel_model.proofs.Branches.{IsSeen}
use Rattle.kernel_model.proofs.FileMeanings.{KeepsWell, SetsTree, file_is_proper}
use Rattle.kernel_model.proofs.FilePaths.{GoesAlike, at_walked_holds, at_walked_plain, at_walked_reads, path_errors_lack, inval_among, badf_among, walked_plainly, walked_reads}
use Rattle.kernel_model.proofs.Listings.{all_dropped, entries_found}
use Rattle.kernel_model.proofs.Lists.{all_weaker}
use Rattle.kernel_model.proofs.Tests.{not_true}

-- ---- calls that set nothing

-- a reply that denies nothing, and is a success or one of these errors
abbrev pub Answers : List Errno → Outcome → Type 0
Answers errors o = (reply : Reply) × (o ≡ replies reply) × (reply.denial ≡ None) × ((reply.errno ≡ Success) ⊎ IsIn reply.errno errors)

pub answers_refused : (errors : List Errno) (errno : Errno) → IsIn errno errors → Answers errors (replies (refused errno))
answers_refused errors errno here = (refused errno, refl, refl, inr here)

pub answers_done : (errors : List Errno) (reply : Reply) → reply.denial ≡ None → reply.errno ≡ Success → Answers errors (replies reply)
answers_done errors reply plain success = (reply, refl, plain, inl success)

reply_plain : (errors : List Errno) (reply : Reply) → reply.denial ≡ None → (reply.errno ≡ Success) ⊎ IsIn reply.errno errors → IsPlain errors (replies reply)
reply_plain errors reply plain (inl success) = (plain, inl success)
reply_plain errors reply plain (inr here) = (plain, inr (refl, here))

answers_plainly : (errors : List Errno) (o : Outcome) → Answers errors o → IsPlain errors o
answers_plainly errors o h = subst (IsPlain errors) (sym h.1) (reply_plain errors h.0 h.2 h.3)

-- what holds of each reply with nothing set
answers_hold : (P : Outcome → Type 0) (errors : List Errno) (o : Outcome) → Answers errors o → ((reply : Reply) → P (replies reply)) → P o
answers_hold P errors o h all = subst P (sym h.1) (all h.0)

answers_tree : (errors : List Errno) (o : Outcome) → Answers errors o → SetsTree o
answers_tree errors o h = answers_hold SetsTree errors o h (λ reply. tt)

answers_unset : (errors : List Errno) (o : Outcome) (q : Part) → Answers errors o → IsUnset o q
answers_unset errors o q h = answers_hold (λ (x : Outcome). IsUnset x q) errors o h (λ reply. refl)

answers_valid : (errors : List Errno) (o : Outcome) (S : State) → Answers errors o → IsNearlyValid S → IsNearlyValid (put_all o.updates S)
answers_valid errors o S h nearly = answers_hold (λ (x : Outcome). IsNearlyValid (put_all x.updates S)) errors o h (λ reply. nearly)

-- a look at an open
module _ (looks : Tree → Option OpenKind → Outcome) (errors : List Errno) (takes : Bool)
    (alike : (t u : Tree) (kind : Option OpenKind) → IsSeen t u kind → looks u kind ≡ looks t kind)
    (answers : (t : Tree) (kind : Option OpenKind) → Answers errors (looks t kind))
    (lacks : takes ≡ true → AllByRecursion (λ errno. errno ≢ Nomem) errors) where
  pub looks_keep_well : KeepsWell (record (looking looks) { errors = errors; takes_memory = takes })
  looks_keep_well = record {
    reads = λ now t u kind seen. alike t u kind seen;
    walks = λ t u kind seen. refl;
    tree = λ now t kind. answers_tree errors (looks t kind) (answers t kind);
    sets = λ now t kind q h. answers_unset errors (looks t kind) q (answers t kind);
    seen = λ S kind q h. absurd (not_true h);
    plain = λ now t kind. answers_plainly errors (looks t kind) (answers t kind);
    lacks = lacks;
    valid = λ now S kind behind nearly. answers_valid errors (looks (tree_of S) kind) S (answers (tree_of S) kind) nearly;
  }

pub looking_keeps_well : (looks : Tree → Option OpenKind → Outcome) → ((t u : Tree) (kind : Option OpenKind) → IsSeen t u kind → looks u kind ≡ looks t kind)
    → ((t : Tree) (kind : Option OpenKind) → Answers (Badf ∷ []) (looks t kind)) → KeepsWell (looking looks)
looking_keeps_well looks alike answers = looks_keep_well looks (Badf ∷ []) true alike answers (λ _. ((λ e. cc), tt))

-- a look at what a path leads to
by_path_keeps_well : (mode : WalkMode) (path : List ℕ) (goes : Tree → ℕ → Outcome) → GoesAlike goes → ((t : Tree) (n : ℕ) → Answers path_errors (goes t n))
    → KeepsWell (by_path mode path (λ now. goes))
by_path_keeps_well mode path goes alike answers = record {
  reads = λ now t u kind seen. at_walked_reads goes alike t u mode path kind seen;
  walks = λ t u kind seen. ap outside_of (walked_reads t u mode path kind seen);
  tree = λ now t kind.
      at_walked_holds SetsTree (goes t) (λ reply. tt) (λ n. answers_tree path_errors (goes t n) (answers t n)) (walked t mode path kind);
  sets = λ now t kind q h.
      at_walked_holds (λ o. IsUnset o q) (goes t) (λ reply. refl) (λ n. answers_unset path_errors (goes t n) q (answers t n)) (walked t mode path kind);
  seen = λ S kind q h. absurd (not_true h);
  plain = λ now t kind.
      at_walked_plain (goes t) (λ n. answers_plainly path_errors (goes t n) (answers t n)) (walked t mode path kind) (walked_plainly t mode path kind);
  lacks = λ _. path_errors_lack;
  valid = λ now S kind behind nearly.
      at_walked_holds (λ (o : Outcome). IsNearlyValid (put_all o.updates S)) (goes (tree_of S)) (λ reply. nearly)
      (λ n. answers_valid path_errors (goes (tree_of S) n) S (answers (tree_of S) n) nearly) (walked (tree_of S) mode path kind);
}

-- ---- file_advise

pub file_advise_is_proper : (fd : ℕ) → IsProper (file_advise fd)
file_advise_is_proper fd = needing_is_proper fd _

-- ---- file_stat_fget and file_stat_get

report_answers : (errors : List Errno) → IsIn Badf errors → (n : ℕ) (o : Option Node) → Answers errors (report_node n o)
report_answers errors badf n None = answers_refused errors Badf badf
report_answers errors badf n (Some node) = answers_done errors _ refl refl

report_alike : GoesAlike report_in
report_alike t u n same = ap (report_node n) (sym same)

report_open_alike : (t u : Tree) (kind : Option OpenKind) → IsSeen t u kind → report_open u kind ≡ report_open t kind
report_open_alike t u None seen = refl
report_open_alike t u (Some (File node offset flags)) seen = report_alike t u node seen
report_open_alike t u (Some (Directory node flags)) seen = report_alike t u node (seen.nodes node (below_self t node))
report_open_alike t u (Some (End (Some reads) writes flags form)) seen = refl
report_open_alike t u (Some (End None (Some writes) flags form)) seen = refl
report_open_alike t u (Some (End None None flags form)) seen = refl
report_open_alike t u (Some (Terminal which flags)) seen = refl
report_open_alike t u (Some (Process p object)) seen = refl

report_open_answers : (t : Tree) (kind : Option OpenKind) → Answers (Badf ∷ []) (report_open t kind)
report_open_answers t None = answers_refused (Badf ∷ []) Badf ([], [], refl)
report_open_answers t (Some (File node offset flags)) = report_answers (Badf ∷ []) ([], [], refl) node (get t.nodes node)
report_open_answers t (Some (Directory node flags)) = report_answers (Badf ∷ []) ([], [], refl) node (get t.nodes node)
report_open_answers t (Some (End (Some reads) writes flags form)) = answers_done (Badf ∷ []) _ refl refl
report_open_answers t (Some (End None (Some writes) flags form)) = answers_done (Badf ∷ []) _ refl refl
report_open_answers t (Some (End None None flags form)) = answers_refused (Badf ∷ []) Badf ([], [], refl)
report_open_answers t (Some (Terminal which flags)) = answers_done (Badf ∷ []) _ refl refl
report_open_answers t (Some (Process p object)) = answers_done (Badf ∷ []) _ refl refl

pub report_open_keeps_well : KeepsWell (looking report_open)
report_open_keeps_well = looking_keeps_well report_open report_open_alike report_open_answers

pub file_stat_fget_is_proper : (fd : ℕ) → IsProper (file_stat_fget fd)
file_stat_fget_is_proper fd = file_is_proper (looking report_open) report_open_keeps_well _

pub report_in_keeps_well : (mode : WalkMode) (path : List ℕ) → KeepsWell (by_path mode path (λ now. report_in))
report_in_keeps_well mode path = by_path_keeps_well mode path report_in report_alike (λ t n. report_answers path_errors badf_among n (get t.nodes n))

pub file_stat_get_is_proper : (lookup : Lookup) (path : List ℕ) → IsProper (file_stat_get lookup path)
file_stat_get_is_proper lookup path =
    file_is_proper (by_path (lookup_mode lookup.flags) path (λ now. report_in)) (report_in_keeps_well (lookup_mode lookup.flags) path) _

-- ---- file_readlink

link_answers : (n : ℕ) (kind : NodeKind) → Answers path_errors (read_link n kind)
link_answers n (kind.File bytes) = answers_refused path_errors Inval inval_among
link_answers n kind.Directory = answers_refused path_errors Inval inval_among
link_answers n (kind.Link text) = answers_done path_errors _ refl refl

read_answers : (n : ℕ) (o : Option Node) → Answers path_errors (read_node n o)
read_answers n None = answers_refused path_errors Badf badf_among
read_answers n (Some node) = link_answers n node.kind

pub read_link_keeps_well : (path : List ℕ) (n : ℕ) → KeepsWell (by_path NoFollow path (λ now. read_link_in n))
read_link_keeps_well path n =
    by_path_keeps_well NoFollow path (read_link_in n) (λ t u node same. ap (read_node n) (sym same)) (λ t node. read_answers n (get t.nodes node))

pub file_readlink_is_proper : (fd : ℕ) (path : List ℕ) (n : ℕ) → IsProper (file_readlink fd path n)
file_readlink_is_proper fd path n = file_is_proper (by_path NoFollow path (λ now. read_link_in n)) (read_link_keeps_well path n) _

-- ---- file_readdir

-- entries whose nodes are the same in both trees have the same bytes
entries_alike : (t u : Tree) (position : ℕ) (es : List (List ℕ × ℕ)) → AllByRecursion (λ (e : List ℕ × ℕ). get t.nodes e.1 ≡ get u.nodes e.1) es
    → entries_bytes u position es ≡ entries_bytes t position es
entries_alike t u position [] same = refl
entries_alike t u position (e ∷ es) same =
    ap (λ o. entry_bytes o position e ++ entries_bytes u (position + 1) es) (sym same.0)
    ∙ ap (λ bytes. entry_bytes (get t.nodes e.1) position e ++ bytes) (entries_alike t u (position + 1) es same.1)

module _ (t u : Tree) (node : ℕ) (same : HasSameBelow t u node) where
  named_same : (names : Names) → get t.names node ≡ Some names → AllByRecursion (λ (e : List ℕ × ℕ). get t.nodes e.1 ≡ get u.nodes e.1) (entries names)
  named_same names there =
      all_weaker (λ (e : List ℕ × ℕ). get names e.0 ≡ Some e.1) (λ (e : List ℕ × ℕ). get t.nodes e.1 ≡ get u.nodes e.1)
      (λ e found. named_alike t u node same node e.0 e.1 (below_self t node) (ap (λ o. get (names_in o) e.0) there ∙ found)) (entries names) (entries_found names)

  list_alike : (n position : ℕ) (o : Option Names) → get t.names node ≡ o → list_names u n position o ≡ list_names t n position o
  list_alike n position None there = refl
  list_alike n position (Some names) there =
      ap (λ bytes. replies (content (take (room_of n) bytes)))
      (entries_alike t u position (drop position (entries names))
      (all_dropped (λ (e : List ℕ × ℕ). get t.nodes e.1 ≡ get u.nodes e.1) position (entries names) (named_same names there)))

list_open_alike : (n position : ℕ) (t u : Tree) (kind : Option OpenKind) → IsSeen t u kind → list_open n position u kind ≡ list_open n position t kind
list_open_alike n position t u None seen = refl
list_open_alike n position t u (Some (File node offset flags)) seen = refl
list_open_alike n position t u (Some (Directory node flags)) seen =
    ap (list_names u n position) (sym (seen.names node (below_self t node))) ∙ list_alike t u node seen n position (get t.names node) refl
list_open_alike n position t u (Some (End reads writes flags form)) seen = refl
list_open_alike n position t u (Some (Terminal which flags)) seen = refl
list_open_alike n position t u (Some (Process p object)) seen = refl

list_answers : (t : Tree) (n position : ℕ) (o : Option Names) → Answers (Badf ∷ []) (list_names t n position o)
list_answers t n position None = answers_refused (Badf ∷ []) Badf ([], [], refl)
list_answers t n position (Some names) = answers_done (Badf ∷ []) _ refl refl

list_open_answers : (n position : ℕ) (t : Tree) (kind : Option OpenKind) → Answers (Badf ∷ []) (list_open n position t kind)
list_open_answers n position t None = answers_refused (Badf ∷ []) Badf ([], [], refl)
list_open_answers n position t (Some (File node offset flags)) = answers_refused (Badf ∷ []) Badf ([], [], refl)
list_open_answers n position t (Some (Directory node flags)) = list_answers t n position (get t.names node)
list_open_answers n position t (Some (End reads writes flags form)) = answers_refused (Badf ∷ []) Badf ([], [], refl)
list_open_answers n position t (Some (Terminal which flags)) = answers_refused (Badf ∷ []) Badf ([], [], refl)
list_open_answers n position t (Some (Process p object)) = answers_refused (Badf ∷ []) Badf ([], [], refl)

pub list_keeps_well : (n cookie : ℕ) → KeepsWell (looking (list_open n cookie))
list_keeps_well n cookie = looking_keeps_well (list_open n cookie) (list_open_alike n cookie) (list_open_answers n cookie)

pub file_readdir_is_proper : (fd n cookie : ℕ) → IsProper (file_readdir fd n cookie)
file_readdir_is_proper fd n cookie = file_is_proper (looking (list_open n cookie)) (list_keeps_well n cookie) _
