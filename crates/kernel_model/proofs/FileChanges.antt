-- The meanings of the calls that change sizes and times are proper.
use Rattle.std.proofs.Common.{◌≡◌, ◌⊎◌, ℕ, ◌+◌, ◌==◌, ◌||◌, Bool, true, false, cond, List, [], ◌∷◌, length, map, Option, Some, None, inl, inr, refl, sym, ap, subst, ◌∙◌}
use Rattle.std.specs.Prelude.{⊤, bit_and, max, nat_lt}
use Rattle.std.specs.FinMap.{get}
use Rattle.std.specs.List.{AllByRecursion}
use Rattle.abi_base.specs.declared.errno.Errno.{Errno}
use Rattle.abi_base.specs.declared.errno.Errno.TheVariants.{Badf, Fbig}
use Rattle.abi_structures.specs.declared.structures.FileStat.{FileStat}
use Rattle.abi_types.specs.declared.call.Lookup.{Lookup}
use Rattle.abi_types.specs.declared.node.Node.{Node}
use Rattle.abi_types.specs.declared.open_kind.OpenKind.{OpenKind}
use Rattle.abi_types.specs.declared.open_kind.OpenKind.TheVariants.{File, Directory, End, Terminal, Process}
use Rattle.abi_types.specs.declared.reply.Answer.TheVariants as answer
use Rattle.path_lookup.specs.declared.ends.WalkMode.{WalkMode}
use Rattle.tree_model.specs.Below.{below_self}
use Rattle.tree_model.specs.Changes.{bytes_in, bytes_of, is_file, with_bytes}
use Rattle.tree_model.specs.Files.{resized}
use Rattle.tree_model.specs.Tree.{below}
use Rattle.tree_model.specs.declared.limits.TheConstants.{MOST_FILE_BYTES}
use Rattle.kernel_model.specs.Families.FileChanges.{retimed, modified, sized, allocated, times_put, put_times, has_size, put_size, put_stat, becomes, becomes_in, unless_large, node_part, changing, allocate, file_allocate, asked_size, put_open, file_stat_fput, put_found, put_by_path, file_stat_put}
use Rattle.kernel_model.specs.Families.FilePaths.{lookup_mode, outside_of, path_errors, walked}
use Rattle.kernel_model.specs.Outcome.{Outcome, replies}
use Rattle.kernel_model.specs.Proper.{IsIn, IsPlain, IsProper}
use Rattle.kernel_model.specs.Reply.{refused, success}
use Rattle.kernel_model.specs.Sight.{behind, node_parts}
use Rattle.kernel_model.specs.State.{State, Tree, tree_of, Part, Update, at_node, same_part, has_part, part_of, put_all}
use Rattle.kernel_model.specs.Families.TreeUpdates.{node_update}
use Rattle.kernel_model.specs.Valid.{HasBehind, IsNearlyValid}
use Rattle.kernel_model.proofs.Branches.{IsSeen, node_is_part}
use Rattle.kernel_model.proofs.FileMeanings.{IsOfTree, KeepsWell, SetsTree, file_is_proper}
use Rattle.kernel_model.proofs.FilePaths.{GoesAlike, at_walked_holds, at_walked_plain, at_walked_reads, at_walked_unset, badf_among, found_is_seen, path_errors_lack, walked_plainly, walked_reads}
use Rattle.kernel_model.proofs.Parts.{outside_cons, same_part_is}
use Rattle.kernel_model.proofs.Reworks.{Alike, Reworks, reworks_self, reworks_twice, retimed_alike, retimed_reworks, set_node_nearly_valid, with_bytes_alike, with_bytes_reworks}
use Rattle.kernel_model.proofs.Tests.{not_true, or_false}

-- ---- what is made of a tree

either_reworks : (b : Bool) (t u w : Tree) (n : ℕ) → Reworks t u n → Reworks t w n → Reworks t (cond b u w) n
either_reworks true t u w n first second = first
either_reworks false t u w n first second = second

either_alike : (b : Bool) (t u v w : Tree) (n : ℕ) → Alike t u n → Alike v w n → Alike (cond b t v) (cond b u w) n
either_alike true t u v w n first second = first
either_alike false t u v w n first second = second

pub sized_reworks : (t : Tree) (n now size : ℕ) → is_file t n ≡ true → Reworks t (sized t n now size) n
sized_reworks t n now size file =
    let other : Tree = with_bytes t n (resized (bytes_of t n) size) in
    either_reworks (length (bytes_of t n) == size) t t (retimed other n (modified now)) n (reworks_self t n)
    (reworks_twice t other (retimed other n (modified now)) n (with_bytes_reworks t n (resized (bytes_of t n) size) file)
    (retimed_reworks other n (modified now)))

-- the tree once the size of a file with these bytes is set
abbrev sized_by : Tree → ℕ → ℕ → ℕ → List ℕ → Tree
sized_by t n now size bytes = cond (length bytes == size) t (retimed (with_bytes t n (resized bytes size)) n (modified now))

pub sized_alike : (t u : Tree) (n now size : ℕ) → Alike t u n → Alike (sized t n now size) (sized u n now size) n
sized_alike t u n now size same =
    either_alike (length (bytes_of t n) == size) t u _ _ n same
    (retimed_alike (with_bytes t n (resized (bytes_of t n) size)) (with_bytes u n (resized (bytes_of t n) size)) n (modified now)
    (with_bytes_alike t u n (resized (bytes_of t n) size) same))
    ∙ ap (λ o. get (sized_by u n now size (bytes_in o)).nodes n) same

pub allocated_reworks : (t : Tree) (n now size : ℕ) → is_file t n ≡ true → Reworks t (allocated t n now size) n
allocated_reworks t n now size file = sized_reworks t n now (max (length (bytes_of t n)) size) file

allocated_alike : (t u : Tree) (n now size : ℕ) → Alike t u n → Alike (allocated t n now size) (allocated u n now size) n
allocated_alike t u n now size same =
    sized_alike t u n now (max (length (bytes_of t n)) size) same
    ∙ ap (λ o. get (sized u n now (max (length (bytes_in o)) size)).nodes n) same

module _ (flags : ℕ) (stat : FileStat) (now : ℕ) where
  pub put_times_reworks : (t : Tree) (n : ℕ) → Reworks t (put_times flags stat now t n) n
  put_times_reworks t n =
      either_reworks (bit_and flags 15 == 0) t t (retimed t n (times_put flags stat now)) n (reworks_self t n) (retimed_reworks t n (times_put flags stat now))

  put_times_alike : (t u : Tree) (n : ℕ) → Alike t u n → Alike (put_times flags stat now t n) (put_times flags stat now u n) n
  put_times_alike t u n same = either_alike (bit_and flags 15 == 0) t u _ _ n same (retimed_alike t u n (times_put flags stat now) same)

  put_size_reworks : (t : Tree) (n : ℕ) → is_file t n ≡ true → Reworks t (put_size flags stat now t n) n
  put_size_reworks t n file = either_reworks (has_size flags) t (sized t n now stat.size) t n (sized_reworks t n now stat.size file) (reworks_self t n)

  put_size_alike : (t u : Tree) (n : ℕ) → Alike t u n → Alike (put_size flags stat now t n) (put_size flags stat now u n) n
  put_size_alike t u n same =
      either_alike (has_size flags) (sized t n now stat.size) (sized u n now stat.size) t u n (sized_alike t u n now stat.size same) same

  pub put_stat_reworks : (t : Tree) (n : ℕ) → is_file t n ≡ true → Reworks t (put_stat flags stat now t n) n
  put_stat_reworks t n file =
      reworks_twice t (put_size flags stat now t n) (put_stat flags stat now t n) n (put_size_reworks t n file) (put_times_reworks (put_size flags stat now t n) n)

  put_stat_alike : (t u : Tree) (n : ℕ) → Alike t u n → Alike (put_stat flags stat now t n) (put_stat flags stat now u n) n
  put_stat_alike t u n same = put_times_alike (put_size flags stat now t n) (put_size flags stat now u n) n (put_size_alike t u n same)

-- ---- what a call makes of a node

node_tree : (n : ℕ) (o : Option Node) → AllByRecursion IsOfTree (node_update n o)
node_tree n None = tt
node_tree n (Some node) = (tt, tt)

node_unset : (n : ℕ) (o : Option Node) (q : Part) → same_part (at_node n) q ≡ false → has_part (map part_of (node_update n o)) q ≡ false
node_unset n None q h = refl
node_unset n (Some node) q h = ap (λ b. b || false) h

node_valid : (S : State) (n : ℕ) (u : Tree) (o : Option Node) → Reworks (tree_of S) u n → get u.nodes n ≡ o → IsNearlyValid S
    → IsNearlyValid (put_all (node_update n o) S)
node_valid S n u None works there nearly = nearly
node_valid S n u (Some node) works there nearly = set_node_nearly_valid S n node u works there nearly

becomes_holds : (P : List Update → Type 0) (n : ℕ) (o : Option Node) → P (node_update n o) → P (becomes n o).updates
becomes_holds P n None h = h
becomes_holds P n (Some node) h = h

becomes_plain : (errors : List Errno) → IsIn Badf errors → (n : ℕ) (o : Option Node) → IsPlain errors (becomes n o)
becomes_plain errors badf n None = (refl, inr (refl, badf))
becomes_plain errors badf n (Some node) = (refl, inl refl)

-- ---- what a call makes of an open's node

abbrev pub change_errors : List Errno
change_errors = Badf ∷ Fbig ∷ []

pub badf_among_changes : IsIn Badf change_errors
badf_among_changes = ([], Fbig ∷ [], refl)

pub fbig_among_changes : IsIn Fbig change_errors
fbig_among_changes = (Badf ∷ [], [], refl)

-- a file that is open is there
abbrev IsFileThere : Tree → Option OpenKind → Type 0
IsFileThere t (Some (File node offset flags)) = is_file t node ≡ true
IsFileThere t _ = ⊤

-- the outcome is plain, and it sets nothing, or the open's node becomes another one of the same kind
abbrev pub IsChange : Tree → Option OpenKind → Outcome → Type 0
IsChange t kind o =
    IsPlain change_errors o
    × ((o.updates ≡ [])
    ⊎ ((node : ℕ) × (w : Tree) × (o.updates ≡ node_update node (get w.nodes node)) × (node_part t kind ≡ at_node node ∷ [])
    × (IsFileThere t kind → Reworks t w node)))

pub refuses : (t : Tree) (kind : Option OpenKind) (errno : Errno) → IsIn errno change_errors → IsChange t kind (replies (refused errno))
refuses t kind errno here = ((refl, inr (refl, here)), inl refl)

pub succeeds : (t : Tree) (kind : Option OpenKind) (result : ℕ) → IsChange t kind (replies (success result 0))
succeeds t kind result = ((refl, inl refl), inl refl)

module _ (t : Tree) (kind : Option OpenKind) (node : ℕ) (w : Tree) (part : node_part t kind ≡ at_node node ∷ [])
    (works : IsFileThere t kind → Reworks t w node) where
  -- with a result
  pub new_nodes : (result : ℕ) → IsChange t kind (record { answer = answer.Reply (success result 0); updates = node_update node (get w.nodes node) })
  new_nodes result = ((refl, inl refl), inr (node, w, refl, part, works))

  remakes : IsChange t kind (becomes_in node w)
  remakes = (
    becomes_plain change_errors badf_among_changes node (get w.nodes node),
    inr (node, w, becomes_holds (λ us. us ≡ node_update node (get w.nodes node)) node (get w.nodes node) refl, part, works),
  )

-- what holds of what each such outcome sets
change_holds : (P : List Update → Type 0) (t : Tree) (kind : Option OpenKind) (o : Outcome) → IsChange t kind o → P []
    → ((node : ℕ) (w : Tree) → node_part t kind ≡ at_node node ∷ [] → (IsFileThere t kind → Reworks t w node) → P (node_update node (get w.nodes node)))
    → P o.updates
change_holds P t kind o is none changed =
    elim is.1 [
      | inl unset ↦ subst P (sym unset) none
      | inr made ↦ subst P (sym made.2) (changed made.0 made.1 made.3 made.4)
    ]

pub either_change : (b : Bool) (t : Tree) (kind : Option OpenKind) (errno : Errno) (o : Outcome) → IsIn errno change_errors → IsChange t kind o
    → IsChange t kind (cond b (replies (refused errno)) o)
either_change true t kind errno o here is = refuses t kind errno here
either_change false t kind errno o here is = is

file_there : (S : State) (kind : Option OpenKind) → ((k : OpenKind) → kind ≡ Some k → HasBehind S k) → IsFileThere (tree_of S) kind
file_there S None there = tt
file_there S (Some (File node offset flags)) there = there (File node offset flags) refl
file_there S (Some (Directory node flags)) there = tt
file_there S (Some (End reads writes flags form)) there = tt
file_there S (Some (Terminal which flags)) there = tt
file_there S (Some (Process p object)) there = tt

-- the open's node is seen
node_is_seen : (S : State) (kind : Option OpenKind) (q : Part) → has_part (node_part (tree_of S) kind) q ≡ true → has_part (behind S kind) q ≡ true
node_is_seen S None q h = h
node_is_seen S (Some (File node offset flags)) q h = h
node_is_seen S (Some (Directory node flags)) q h =
    let same : at_node node ≡ q = same_part_is (at_node node) q (sym (or_false (same_part (at_node node) q)) ∙ h) in
    subst (λ part. has_part (node_parts (below (tree_of S) node)) part ≡ true) same
    (node_is_part node (below (tree_of S) node) (below_self (tree_of S) node))
node_is_seen S (Some (End reads writes flags form)) q h = absurd (not_true h)
node_is_seen S (Some (Terminal which flags)) q h = absurd (not_true h)
node_is_seen S (Some (Process p object)) q h = absurd (not_true h)

pub changing_keeps_well : (effect : ℕ → Tree → Option OpenKind → Outcome)
    → ((now : ℕ) (t u : Tree) (kind : Option OpenKind) → IsSeen t u kind → effect now u kind ≡ effect now t kind)
    → ((now : ℕ) (t : Tree) (kind : Option OpenKind) → IsChange t kind (effect now t kind)) → KeepsWell (changing effect)
changing_keeps_well effect alike is = record {
  reads = alike;
  walks = λ t u kind seen. refl;
  tree = λ now t kind.
      change_holds (AllByRecursion IsOfTree) t kind (effect now t kind) (is now t kind) tt (λ node w part works. node_tree node (get w.nodes node));
  sets = λ now t kind q h.
      change_holds (λ us. has_part (map part_of us) q ≡ false) t kind (effect now t kind) (is now t kind) refl
      (λ node w part works.
      node_unset node (get w.nodes node) q (outside_cons (at_node node) [] q (sym (ap (λ parts. has_part parts q) part) ∙ h)).0);
  seen = node_is_seen;
  plain = λ now t kind. (is now t kind).0;
  lacks = λ _. ((λ e. cc), ((λ e. cc), tt));
  valid = λ now S kind behind nearly.
      change_holds (λ us. IsNearlyValid (put_all us S)) (tree_of S) kind (effect now (tree_of S) kind) (is now (tree_of S) kind) nearly
      (λ node w part works. node_valid S node w (get w.nodes node) (works (file_there S kind behind)) refl nearly);
}

-- ---- file_allocate

allocate_alike : (size now : ℕ) (t u : Tree) (kind : Option OpenKind) → IsSeen t u kind → allocate size now u kind ≡ allocate size now t kind
allocate_alike size now t u None seen = refl
allocate_alike size now t u (Some (File node offset flags)) seen =
    ap (λ o. unless_large size (becomes node o)) (sym (allocated_alike t u node now size seen))
allocate_alike size now t u (Some (Directory node flags)) seen = refl
allocate_alike size now t u (Some (End reads writes flags form)) seen = refl
allocate_alike size now t u (Some (Terminal which flags)) seen = refl
allocate_alike size now t u (Some (Process p object)) seen = refl

allocate_is : (size now : ℕ) (t : Tree) (kind : Option OpenKind) → IsChange t kind (allocate size now t kind)
allocate_is size now t None = refuses t None Badf badf_among_changes
allocate_is size now t (Some (File node offset flags)) =
    either_change (nat_lt MOST_FILE_BYTES size) t (Some (File node offset flags)) Fbig _ fbig_among_changes
    (remakes t (Some (File node offset flags)) node (allocated t node now size) refl (λ file. allocated_reworks t node now size file))
allocate_is size now t (Some (Directory node flags)) = refuses t (Some (Directory node flags)) Badf badf_among_changes
allocate_is size now t (Some (End reads writes flags form)) = refuses t (Some (End reads writes flags form)) Badf badf_among_changes
allocate_is size now t (Some (Terminal which flags)) = refuses t (Some (Terminal which flags)) Badf badf_among_changes
allocate_is size now t (Some (Process p object)) = refuses t (Some (Process p object)) Badf badf_among_changes

pub allocate_keeps_well : (size : ℕ) → KeepsWell (changing (allocate size))
allocate_keeps_well size = changing_keeps_well (allocate size) (allocate_alike size) (allocate_is size)

pub file_allocate_is_proper : (fd offset length : ℕ) → IsProper (file_allocate fd offset length)
file_allocate_is_proper fd offset length = file_is_proper (changing (allocate (offset + length))) (allocate_keeps_well (offset + length)) _

-- ---- file_stat_fput

module _ (flags : ℕ) (stat : FileStat) where
  put_open_alike : (now : ℕ) (t u : Tree) (kind : Option OpenKind) → IsSeen t u kind → put_open flags stat now u kind ≡ put_open flags stat now t kind
  put_open_alike now t u None seen = refl
  put_open_alike now t u (Some (File node offset f)) seen =
      ap (λ o. unless_large (asked_size flags stat) (becomes node o)) (sym (put_stat_alike flags stat now t u node seen))
  put_open_alike now t u (Some (Directory node f)) seen =
      ap (λ o. cond (has_size flags) (replies (refused Badf)) (becomes node o))
      (sym (put_times_alike flags stat now t u node (seen.nodes node (below_self t node))))
  put_open_alike now t u (Some (End reads writes f form)) seen = refl
  put_open_alike now t u (Some (Terminal which f)) seen = refl
  put_open_alike now t u (Some (Process p object)) seen = refl

  put_open_is : (now : ℕ) (t : Tree) (kind : Option OpenKind) → IsChange t kind (put_open flags stat now t kind)
  put_open_is now t None = refuses t None Badf badf_among_changes
  put_open_is now t (Some (File node offset f)) =
      either_change (nat_lt MOST_FILE_BYTES (asked_size flags stat)) t (Some (File node offset f)) Fbig _ fbig_among_changes
      (remakes t (Some (File node offset f)) node (put_stat flags stat now t node) refl (λ file. put_stat_reworks flags stat now t node file))
  put_open_is now t (Some (Directory node f)) =
      either_change (has_size flags) t (Some (Directory node f)) Badf _ badf_among_changes
      (remakes t (Some (Directory node f)) node (put_times flags stat now t node) refl (λ file. put_times_reworks flags stat now t node))
  put_open_is now t (Some (End reads writes f form)) = refuses t (Some (End reads writes f form)) Badf badf_among_changes
  put_open_is now t (Some (Terminal which f)) = refuses t (Some (Terminal which f)) Badf badf_among_changes
  put_open_is now t (Some (Process p object)) = refuses t (Some (Process p object)) Badf badf_among_changes

pub put_open_keeps_well : (flags : ℕ) (stat : FileStat) → KeepsWell (changing (put_open flags stat))
put_open_keeps_well flags stat = changing_keeps_well (put_open flags stat) (put_open_alike flags stat) (put_open_is flags stat)

pub file_stat_fput_is_proper : (fd : ℕ) (stat : FileStat) (flags : ℕ) → IsProper (file_stat_fput fd stat flags)
file_stat_fput_is_proper fd stat flags = file_is_proper (changing (put_open flags stat)) (put_open_keeps_well flags stat) _

-- ---- file_stat_put

put_found_alike : (flags : ℕ) (stat : FileStat) (now : ℕ) → GoesAlike (put_found flags stat now)
put_found_alike flags stat now t u n same = ap (becomes n) (sym (put_times_alike flags stat now t u n same))

pub put_by_path_keeps_well : (mode : WalkMode) (path : List ℕ) (flags : ℕ) (stat : FileStat) → KeepsWell (put_by_path mode path flags stat)
put_by_path_keeps_well mode path flags stat = record {
  reads = λ now t u kind seen. at_walked_reads (put_found flags stat now) (put_found_alike flags stat now) t u mode path kind seen;
  walks = λ t u kind seen. ap outside_of (walked_reads t u mode path kind seen);
  tree = λ now t kind. at_walked_holds SetsTree (put_found flags stat now t) (λ reply. tt) (λ n. becomes_holds (AllByRecursion IsOfTree) n _ (node_tree n _)) (walked t mode path kind);
  sets = λ now t kind q h. at_walked_unset (put_found flags stat now t) q (λ n apart. becomes_holds (λ us. has_part (map part_of us) q ≡ false) n _ (node_unset n _ q apart)) (walked t mode path kind) h;
  seen = λ S kind q h. found_is_seen S mode path kind q h;
  plain = λ now t kind.
      at_walked_plain (put_found flags stat now t) (λ n. becomes_plain path_errors badf_among n _) (walked t mode path kind) (walked_plainly t mode path kind);
  lacks = λ _. path_errors_lack;
  valid = λ now S kind behind nearly.
      at_walked_holds (λ (o : Outcome). IsNearlyValid (put_all o.updates S)) (put_found flags stat now (tree_of S)) (λ reply. nearly)
      (λ n.
      becomes_holds (λ us. IsNearlyValid (put_all us S)) n (get (put_times flags stat now (tree_of S) n).nodes n)
      (node_valid S n (put_times flags stat now (tree_of S) n) (get (put_times flags stat now (tree_of S) n).nodes n)
      (put_times_reworks flags stat now (tree_of S) n) refl nearly))
      (walked (tree_of S) mode path kind);
}

pub file_stat_put_is_proper : (lookup : Lookup) (path : List ℕ) (stat : FileStat) (flags : ℕ) → IsProper (file_stat_put lookup path stat flags)
file_stat_put_is_proper lookup path stat flags =
    file_is_proper (put_by_path (lookup_mode lookup.flags) path flags stat) (put_by_path_keeps_well (lookup_mode lookup.flags) path flags stat) _
