-- No call on a descriptor itself, and none on the open of one, answers BADF of its own in a valid state.
--     fd_close_found .. fd_stat_put_found      calls on descriptors
--     fd_pread_found .. file_stat_put_found      calls on files
--     file_stat_fput_found      one that sets no size and no time of a standard stream
use Rattle.std.proofs.Common.{◌≡◌, ℕ, ◌+◌, ◌<◌, ◌==◌, ◌||◌, not, Bool, true, false, cond, List, [], ◌∷◌, length, Option, Some, None, IsSome, T, is_some, refl, sym, subst, ◌∙◌, arith}
use Rattle.std.proofs.lemmas.Bool.{eqb-true}
use Rattle.std.proofs.lemmas.Nat.{and_comm, and_or_apart}
use Rattle.std.specs.Int.{bit_at}
use Rattle.std.specs.Prelude.{bit_and, nat_lt}
use Rattle.std.specs.FinMap.{get}
use Rattle.abi_base.specs.Rights.{Has}
use Rattle.abi_base.specs.declared.rights.TheConstants.Rights.{FD_READ, FD_SEEK, FD_WRITE, FILE_ALLOCATE, FILE_READDIR, FILE_READLINK, FILE_STAT_FGET, FILE_STAT_FPUT_SIZE, FILE_STAT_FPUT_TIMES, FILE_STAT_GET, FILE_STAT_PUT_TIMES, NONE}
use Rattle.abi_structures.specs.declared.structures.FdStat.{FdStat}
use Rattle.abi_structures.specs.declared.structures.FileStat.{FileStat}
use Rattle.abi_types.specs.declared.chan_kind.ChanKind.{ChanKind}
use Rattle.abi_types.specs.declared.call.Lookup.{Lookup}
use Rattle.abi_types.specs.declared.descriptor.Descriptor.{Descriptor}
use Rattle.abi_types.specs.declared.needed.Needed.{Needed}
use Rattle.abi_types.specs.declared.node.Node.{Node}
use Rattle.abi_types.specs.declared.node.NodeKind.{NodeKind}
use Rattle.abi_types.specs.declared.node.NodeKind.TheVariants as kind
use Rattle.abi_types.specs.OpenTypes.{rights_of}
use Rattle.abi_types.specs.declared.open_type.OpenType.TheVariants as type
use Rattle.abi_types.specs.declared.open_kind.OpenKind.{OpenKind}
use Rattle.abi_types.specs.declared.open_kind.OpenKind.TheVariants.{End}
use Rattle.path_lookup.specs.declared.ends.WalkMode.TheVariants.{NoFollow}
use Rattle.tree_model.specs.Changes.{is_file_node}
use Rattle.tree_model.specs.Files.{is_beyond}
use Rattle.tree_model.specs.declared.limits.TheConstants.{MOST_FILE_BYTES}
use Rattle.kernel_model.specs.Families.DescriptorCalls.{dup_at, dup_of, fd_close, fd_dup, fd_replace, fd_stat_get, fd_stat_put, lowest_free, replaced_by, stat_get, stat_open, stat_put, stat_set}
use Rattle.kernel_model.specs.Families.FileBytes.{fd_pread, fd_pwrite, read_at, write_at, write_bytes}
use Rattle.kernel_model.specs.Families.FileChanges.{allocate, allocated, asked_size, becomes, becomes_in, changing, file_allocate, file_stat_fput, file_stat_put, put_by_path, put_found, put_open, put_stat, put_times, unless_large}
use Rattle.kernel_model.specs.Families.FileLooks.{file_readdir, file_readlink, file_stat_fget, file_stat_get, list_names, list_open, looking, read_link, read_link_in, read_node, report_in, report_node, report_open}
use Rattle.kernel_model.specs.Families.FilePaths.{at_walked, by_path, lookup_mode, walked}
use Rattle.kernel_model.specs.Outcome.{Outcome}
use Rattle.kernel_model.specs.Rows.{base_row, both, where_set}
use Rattle.kernel_model.specs.State.{Names, State, Table, Tree, tree_of}
use Rattle.kernel_model.specs.Step.{tick}
use Rattle.kernel_model.specs.Fits.{fits}
use Rattle.kernel_model.specs.Valid.{HasBehind, IsNearlyValid}
use Rattle.kernel_model.specs.View.{whole}
use Rattle.kernel_model.proofs.FileChanges.{allocated_reworks, put_stat_reworks, put_times_reworks}
use Rattle.kernel_model.proofs.FoundOpens.{NeverBadf, OnlyWhere, at_directory, at_file, by_kind, either, granted_base, no_end, no_stream, on_open_found, open_there, zero_or_one}
use Rattle.kernel_model.proofs.FoundPaths.{by_path_found, directory_there, is_there}
use Rattle.kernel_model.proofs.Reworks.{Reworks}
use Rattle.kernel_model.proofs.Tests.{not_true}

-- ---- calls on descriptors

some_of : {X : Type 0} (o : Option X) → IsSome o → (x : X) × (o ≡ Some x)
some_of None some = absurd (subst T (sym some) tt)
some_of (Some x) some = (x, refl)

dup_found : (p : ℕ) (table : Table) (d : Descriptor) (free : Option ℕ) → OnlyWhere ⊥ (dup_at p table d free)
dup_found p table d None = λ e. cc
dup_found p table d (Some number) = λ e. cc

module _ (S : State) (nearly : IsNearlyValid S) where
  pub fd_close_found : (fd : ℕ) → NeverBadf ⊥ S (fd_close fd)
  fd_close_found fd constants who table own all met = λ e. cc

  pub fd_dup_found : (fd : ℕ) → NeverBadf ⊥ S (fd_dup fd)
  fd_dup_found fd constants who table own all met =
      let d = some_of (get table fd) all.0 in
      subst (λ o. OnlyWhere ⊥ (dup_of who.pid table o)) (sym d.1) (dup_found who.pid table d.0 (lowest_free table))

  pub fd_replace_found : (from to : ℕ) → NeverBadf ⊥ S (fd_replace from to)
  fd_replace_found from to constants who table own all met =
      let d = some_of (get table from) all.0 in
      subst (λ o. OnlyWhere ⊥ (replaced_by who.pid table to o)) (sym d.1) (λ e. cc)

  pub fd_stat_get_found : (fd : ℕ) → NeverBadf ⊥ S (fd_stat_get fd)
  fd_stat_get_found fd constants who table own all met =
      let d = some_of (get table fd) all.0 in
      let found = open_there S nearly who.pid fd table d.0 own d.1 in
      subst (λ o. OnlyWhere ⊥ (stat_get (whole (tick S)) o)) (sym d.1)
      (subst (λ o. OnlyWhere ⊥ (stat_open d.0 o)) (sym found.1) (λ e. cc))

  pub fd_stat_put_found : (fd : ℕ) (stat : FdStat) (flags : ℕ) → NeverBadf ⊥ S (fd_stat_put fd stat flags)
  fd_stat_put_found fd stat flags constants who table own all met =
      let d = some_of (get table fd) all.0 in
      let found = open_there S nearly who.pid fd table d.0 own d.1 in
      subst (λ o. OnlyWhere ⊥ (stat_put (whole (tick S)) who.pid table fd stat flags o)) (sym d.1)
      (subst (λ o. OnlyWhere ⊥ (stat_set who.pid table fd stat flags d.0 o)) (sym found.1) (λ e. cc))

-- ---- nodes that are there

file_there : (o : Option Node) → is_file_node o ≡ true → is_some o ≡ true
file_there None file = absurd (not_true file)
file_there (Some node) file = refl

becomes_found : (Q : Type 0) (n : ℕ) (o : Option Node) → is_some o ≡ true → OnlyWhere Q (becomes n o)
becomes_found Q n None there = absurd (not_true there)
becomes_found Q n (Some node) there = λ e. cc

-- a node that is there becomes another one
reworked_found : (Q : Type 0) (t u : Tree) (n : ℕ) → Reworks t u n → is_there t n ≡ true → OnlyWhere Q (becomes_in n u)
reworked_found Q t u n works there = becomes_found Q n (get u.nodes n) (works.here ∙ there)

large_found : (Q : Type 0) (size : ℕ) (o : Outcome) → OnlyWhere Q o → OnlyWhere Q (unless_large size o)
large_found Q size o found = either (OnlyWhere Q) (nat_lt MOST_FILE_BYTES size) _ o (λ e. cc) found

-- an end reads or writes a channel
end_found : (t : Tree) (reads writes : Option ℕ) (flags : ℕ) (form : ChanKind) → (is_some reads || is_some writes) ≡ true
    → OnlyWhere ⊥ (report_open t (Some (End reads writes flags form)))
end_found t (Some r) writes flags form some = λ e. cc
end_found t None (Some w) flags form some = λ e. cc
end_found t None None flags form some = absurd (not_true some)

report_found : (n : ℕ) (o : Option Node) → is_some o ≡ true → OnlyWhere ⊥ (report_node n o)
report_found n None there = absurd (not_true there)
report_found n (Some node) there = λ e. cc

link_found : (n : ℕ) (kind : NodeKind) → OnlyWhere ⊥ (read_link n kind)
link_found n (kind.Link text) = λ e. cc
link_found n (kind.File bytes) = λ e. cc
link_found n kind.Directory = λ e. cc

read_found : (n : ℕ) (o : Option Node) → is_some o ≡ true → OnlyWhere ⊥ (read_node n o)
read_found n None there = absurd (not_true there)
read_found n (Some node) there = link_found n node.kind

names_found : (t : Tree) (n position : ℕ) (o : Option Names) → IsSome o → OnlyWhere ⊥ (list_names t n position o)
names_found t n position None some = absurd (subst T (sym some) tt)
names_found t n position (Some names) some = λ e. cc

bytes_found : (t : Tree) (node now at : ℕ) (bytes : List ℕ) → OnlyWhere ⊥ (write_bytes t node now at bytes)
bytes_found t node now at [] = λ e. cc
bytes_found t node now at (b ∷ bytes) = either (OnlyWhere ⊥) (is_beyond at (b ∷ bytes)) _ _ (λ e. cc) (λ e. cc)

-- ---- calls on files

module _ (S : State) (nearly : IsNearlyValid S) where
  pub fd_pread_found : (fd n at : ℕ) → NeverBadf ⊥ S (fd_pread fd n at)
  fd_pread_found fd n at =
      let row = base_row fd (both FD_READ FD_SEEK) in
      on_open_found S nearly ⊥ row (looking (read_at n at))
      (λ now.
      at_file S (λ k. OnlyWhere ⊥ (read_at n at (tree_of S) (Some k))) 2 row refl refl ((omega arith, refl, refl, refl, refl), refl)
      (λ node offset flags file. λ e. cc))

  pub fd_pwrite_found : (fd : ℕ) (bytes : List ℕ) (at : ℕ) → NeverBadf ⊥ S (fd_pwrite fd bytes at)
  fd_pwrite_found fd bytes at =
      let row = base_row fd (both FD_WRITE FD_SEEK) in
      on_open_found S nearly ⊥ row (changing (write_at bytes at))
      (λ now.
      at_file S (λ k. OnlyWhere ⊥ (write_at bytes at now (tree_of S) (Some k))) 2 row refl refl ((omega arith, refl, refl, refl, refl), refl)
      (λ node offset flags file. bytes_found (tree_of S) node now at bytes))

  pub file_allocate_found : (fd offset length : ℕ) → NeverBadf ⊥ S (file_allocate fd offset length)
  file_allocate_found fd offset length =
      let row = base_row fd FILE_ALLOCATE in
      let size = offset + length in
      on_open_found S nearly ⊥ row (changing (allocate size))
      (λ now.
      at_file S (λ k. OnlyWhere ⊥ (allocate size now (tree_of S) (Some k))) 8 row refl refl ((omega arith, refl, refl, refl, refl), refl)
      (λ node at flags file.
      large_found ⊥ size _
      (reworked_found ⊥ (tree_of S) (allocated (tree_of S) node now size) node (allocated_reworks (tree_of S) node now size file)
      (file_there (get S.nodes node) file))))

  pub file_stat_fget_found : (fd : ℕ) → NeverBadf ⊥ S (file_stat_fget fd)
  file_stat_fget_found fd =
      on_open_found S nearly ⊥ (base_row fd FILE_STAT_FGET) (looking report_open)
      (λ now kind g.
      by_kind S (λ k. OnlyWhere ⊥ (report_open (tree_of S) (Some k)))
      (λ node offset flags file. report_found node (get S.nodes node) (file_there (get S.nodes node) file))
      (λ node flags directory. report_found node (get S.nodes node) (directory_there (get S.nodes node) directory))
      (λ reads writes flags form behind. end_found (tree_of S) reads writes flags form behind.0) (λ which flags stream. λ e. cc) (λ p object. λ e. cc) kind g.behind)

  pub file_readdir_found : (fd n cookie : ℕ) → NeverBadf ⊥ S (file_readdir fd n cookie)
  file_readdir_found fd n cookie =
      let row = base_row fd FILE_READDIR in
      on_open_found S nearly ⊥ row (looking (list_open n cookie))
      (λ now.
      at_directory S (λ k. OnlyWhere ⊥ (list_open n cookie (tree_of S) (Some k))) 15 row refl refl ((omega arith, refl, refl, refl, refl), refl)
      (λ node flags directory. names_found (tree_of S) n cookie (get S.names node) ((nearly.tree.directories node).1 directory)))

  pub file_stat_get_found : (lookup : Lookup) (path : List ℕ) → NeverBadf ⊥ S (file_stat_get lookup path)
  file_stat_get_found lookup path =
      let t : Tree = tree_of S in
      let row = base_row lookup.fd FILE_STAT_GET in
      let mode = lookup_mode lookup.flags in
      on_open_found S nearly ⊥ row (by_path mode path (λ now. report_in))
      (λ now.
      at_directory S (λ k. OnlyWhere ⊥ (at_walked (report_in t) (walked t mode path (Some k)))) 22 row refl refl ((omega arith, refl, refl, refl, refl), refl)
      (by_path_found t (report_in t) (λ n there. report_found n (get t.nodes n) there) mode path))

  pub file_readlink_found : (fd : ℕ) (path : List ℕ) (n : ℕ) → NeverBadf ⊥ S (file_readlink fd path n)
  file_readlink_found fd path n =
      let t : Tree = tree_of S in
      let row = base_row fd FILE_READLINK in
      on_open_found S nearly ⊥ row (by_path NoFollow path (λ now. read_link_in n))
      (λ now.
      at_directory S (λ k. OnlyWhere ⊥ (at_walked (read_link_in n t) (walked t NoFollow path (Some k)))) 16 row refl refl
      ((omega arith, refl, refl, refl, refl), refl)
      (by_path_found t (read_link_in n t) (λ m there. read_found n (get t.nodes m) there) NoFollow path))

  pub file_stat_put_found : (lookup : Lookup) (path : List ℕ) (stat : FileStat) (flags : ℕ) → NeverBadf ⊥ S (file_stat_put lookup path stat flags)
  file_stat_put_found lookup path stat flags =
      let t : Tree = tree_of S in
      let row = base_row lookup.fd FILE_STAT_PUT_TIMES in
      let mode = lookup_mode lookup.flags in
      on_open_found S nearly ⊥ row (put_by_path mode path flags stat)
      (λ now.
      at_directory S (λ k. OnlyWhere ⊥ (at_walked (put_found flags stat now t) (walked t mode path (Some k)))) 23 row refl refl
      ((omega arith, refl, refl, refl, refl), refl)
      (by_path_found t (put_found flags stat now t)
      (λ n there. reworked_found ⊥ t (put_times flags stat now t n) n (put_times_reworks flags stat now t n) there) mode path))

-- ---- file_stat_fput

-- the rights to set a size and times, where these tests say that none is set
abbrev put_rights : Bool → Bool → ℕ
put_rights no_size no_time = (both (cond no_size NONE FILE_STAT_FPUT_SIZE) (cond no_time NONE FILE_STAT_FPUT_TIMES)).0

-- the right to set a size is needed where one is set, and the right to set times where one of these is
size_needed : (no_time : Bool) → Has (put_rights false no_time) 20
size_needed true = refl
size_needed false = refl

time_needed : (no_size : Bool) → Has (put_rights no_size false) 21
time_needed true = refl
time_needed false = refl

-- a directory has no right to set a size
directory_put : (Q : Type 0) (no_size no_time : Bool) (refuses goes : Outcome) → (Has (put_rights no_size no_time) 20 → ⊥) → OnlyWhere Q goes
    → OnlyWhere Q (cond (not no_size) refuses goes)
directory_put Q true no_time refuses goes lacks found = found
directory_put Q false no_time refuses goes lacks found = absurd (lacks (size_needed no_time))

-- an open that has no right to set either sets nothing
nothing_asked : (no_size no_time : Bool) → (Has (put_rights no_size no_time) 20 → ⊥) → (Has (put_rights no_size no_time) 21 → ⊥)
    → (no_size ≡ true) × (no_time ≡ true)
nothing_asked true true size time = (refl, refl)
nothing_asked true false size time = absurd (time (time_needed true))
nothing_asked false no_time size time = absurd (size (size_needed no_time))

-- no size and no time
nothing_put : (flags : ℕ) → bit_and flags 16 ≡ 0 → bit_and flags 15 ≡ 0 → bit_and flags 31 ≡ 0
nothing_put flags size time =
    and_comm flags 31 ∙ and_or_apart flags 16 15 (and_comm 15 flags ∙ time) ∙ (and_comm 16 flags ∙ size)

module _ (S : State) (nearly : IsNearlyValid S) (fd : ℕ) (stat : FileStat) (flags : ℕ) where
  -- what the call needs
  abbrev put_row : Needed
  put_row = base_row fd (both (where_set flags 16 FILE_STAT_FPUT_SIZE) (where_set flags 15 FILE_STAT_FPUT_TIMES))

  put_open_found : (now : ℕ) (kind : OpenKind) → HasBehind S kind → ((k : ℕ) → k < 64 → Has put_row.base.0 k → Has (fits kind) k)
      → OnlyWhere (bit_and flags 31 ≡ 0) (put_open flags stat now (tree_of S) (Some kind))
  put_open_found now =
      let t : Tree = tree_of S in
      let Q : Type 0 = bit_and flags 31 ≡ 0 in
      by_kind S (λ kind. ((k : ℕ) → k < 64 → Has put_row.base.0 k → Has (fits kind) k) → OnlyWhere Q (put_open flags stat now t (Some kind)))
      (λ node offset open_flags file rights.
      large_found Q (asked_size flags stat) _
      (reworked_found Q t (put_stat flags stat now t node) node (put_stat_reworks flags stat now t node file) (file_there (get S.nodes node) file)))
      (λ node open_flags directory rights.
      directory_put Q (bit_and flags 16 == 0) (bit_and flags 15 == 0) _ _
      (λ size. zero_or_one (bit_at (rights_of type.Directory) 20) refl (rights 20 (omega arith) size))
      (reworked_found Q t (put_times flags stat now t node) node (put_times_reworks flags stat now t node) (directory_there (get S.nodes node) directory)))
      (λ reads writes open_flags form behind rights _.
      let none = nothing_asked (bit_and flags 16 == 0) (bit_and flags 15 == 0)
      (λ size. no_end reads writes 20 refl refl refl (rights 20 (omega arith) size))
      (λ time. no_end reads writes 21 refl refl refl (rights 21 (omega arith) time)) in
      nothing_put flags (eqb-true _ _ none.0) (eqb-true _ _ none.1))
      (λ which open_flags stream rights _.
      let none = nothing_asked (bit_and flags 16 == 0) (bit_and flags 15 == 0)
      (λ size. no_stream which 20 refl refl (rights 20 (omega arith) size)) (λ time. no_stream which 21 refl refl (rights 21 (omega arith) time)) in
      nothing_put flags (eqb-true _ _ none.0) (eqb-true _ _ none.1))
      (λ p object rights _.
      let none = nothing_asked (bit_and flags 16 == 0) (bit_and flags 15 == 0)
      (λ size. zero_or_one (bit_at (rights_of type.Process) 20) refl (rights 20 (omega arith) size))
      (λ time. zero_or_one (bit_at (rights_of type.Process) 21) refl (rights 21 (omega arith) time)) in
      nothing_put flags (eqb-true _ _ none.0) (eqb-true _ _ none.1))

  pub file_stat_fput_found : NeverBadf (bit_and flags 31 ≡ 0) S (file_stat_fput fd stat flags)
  file_stat_fput_found =
      on_open_found S nearly (bit_and flags 31 ≡ 0) put_row (changing (put_open flags stat))
      (λ now kind g. put_open_found now kind g.behind (λ k below needs. granted_base g k below refl needs))
