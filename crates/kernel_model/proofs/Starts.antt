-- The state that a launch starts from is valid.
use Rattle.std.proofs.Common.{◌≡◌, ◌≢◌, ◌⊎◌, inl, inr, ℕ, zero, suc, ◌+◌, ◌*◌, ◌^◌, ◌-◌, ◌<◌, ◌≤◌, Bool, true, false, cond, List, [], ◌∷◌, ◌++◌, length, Option, Some, None, IsSome, is_some, refl, sym, ap, subst, ◌∙◌, arith}
use Rattle.std.proofs.lemmas.Bool.Decides.{eqb_tells}
use Rattle.std.specs.Prelude.{option_map, slice_get, if◌then◌else◌}
use Rattle.std.specs.Ordering.{nat_cmp, eq_by_cmp, is_eq}
use Rattle.std.specs.Cmp.{nat_cmp_total, tied_itself}
use Rattle.std.specs.List.{AllByRecursion}
use Rattle.std.specs.FinMap.{FinMap, get, len, get-empty, get-from_entries, insert, empty, find, from_entries, from_entries_push, nat_cmp-IsAntisymmetric}
use Rattle.abi_types.specs.declared.descriptor.Descriptor.{Descriptor}
use Rattle.abi_base.specs.declared.grant.Grant.{Grant}
use Rattle.abi_base.specs.declared.grant.GrantTarget.{GrantTarget}
use Rattle.abi_base.specs.declared.grant.GrantTarget.TheVariants as target
use Rattle.abi_types.specs.declared.open_kind.OpenKind.{OpenKind}
use Rattle.abi_types.specs.declared.status.Status.{Status}
use Rattle.abi_types.specs.declared.status.Status.TheVariants.{Live}
use Rattle.abi_types.specs.declared.stream.Stream.{Stream}
use Rattle.abi_types.specs.declared.constants.Constants.{Constants}
use Rattle.abi_types.specs.declared.thread.Thread.{Thread}
use Rattle.abi_types.specs.declared.thread.Thread.TheVariants.{Runnable}
use Rattle.maps.specs.Maps.{get-insert-same, get-insert-other}
use Rattle.abi_types.specs.declared.node.Node.{Node}
use Rattle.abi_types.specs.declared.node.NodeKind.TheVariants as node_kind
use Rattle.abi_types.specs.declared.open_kind.OpenKind.TheVariants as kind
use Rattle.tree_model.specs.Tree.{is_directory_kind, is_directory_node}
use Rattle.kernel_model.specs.Release.{holders, is_channel_kept, is_of_process, is_reader, is_writer, lives}
use Rattle.tree_model.specs.Changes.{is_file_kind, is_file_node}
use Rattle.tree_model.specs.declared.limits.TheConstants.{ROOT}
use Rattle.tree_model.specs.Grants.{IsStartTree, IsGrant, IsGrantOf, AreGrants, HasRightsOfType, MayBegin, type_of_kind, type_of_node}
use Rattle.kernel_model.specs.Start.{first_open, numbered, granted_descriptor, open_of, open_of_node, granted_open, granted_table, first_process, unwritten, start_state}
use Rattle.kernel_model.specs.State.{State, Table, ProcessState, Tree, thread_in, thread_of, counts_in}
use Rattle.kernel_model.specs.Families.Children.{child_of, AreBorn, IsBorn}
use Rattle.kernel_model.specs.Families.Numbers.{object_of}
use Rattle.kernel_model.specs.Fits.{HasRightsOf}
use Rattle.kernel_model.specs.Valid.{AreSole, AtMostOne, IsNamed, HasBehind, IsValid}
use Rattle.kernel_model.specs.Waits.{MayWait, HasDeadline, HasDeadlines}
use Rattle.kernel_model.proofs.Tests.{none_is_no, not_true}
use Rattle.kernel_model.proofs.Valids.{same_value, held_or_carried, named_is_held, named_is_kept}
use Rattle.kernel_model.proofs.ChildLaws.{not_first}

-- ---- numbered values

tie_same : (k : ℕ) → eq_by_cmp nat_cmp k k ≡ true
tie_same k = ap is_eq (tied_itself nat_cmp_total k)

module _ {Y : Type 0} where
  find_own : (q : ℕ) (y : Y) (es : List (ℕ × Y)) → find nat_cmp q ((q, y) ∷ es) ≡ Some y
  find_own q y es = ap (λ b. cond b (Some y) (find nat_cmp q es)) (tie_same q)

  find_later : (q k : ℕ) (y : Y) (es : List (ℕ × Y)) → q ≢ k → find nat_cmp q ((k, y) ∷ es) ≡ find nat_cmp q es
  find_later q k y es other =
      sym (get-from_entries nat_cmp_total ((k, y) ∷ es) q) ∙ get-insert-other (from_entries es) k y q other ∙ get-from_entries nat_cmp_total es q

module _ {X Y : Type 0} where
  -- no number is below the first
  pub find_below : (f : ℕ → X → Y) (n : ℕ) (xs : List X) (q : ℕ) → q < n → find nat_cmp q (numbered f n xs) ≡ None
  find_below f n [] q below = refl
  find_below f n (x ∷ xs) q below = find_later q n (f n x) (numbered f (n + 1) xs) (λ e. omega (arith, below, e)) ∙ find_below f (n + 1) xs q (omega (arith, below))

  -- the value with a number
  pub find_numbered : (f : ℕ → X → Y) (n : ℕ) (xs : List X) (k q : ℕ) → q ≡ n + k → find nat_cmp q (numbered f n xs) ≡ option_map (f q) (slice_get xs k)
  find_numbered f n [] k q e = refl
  find_numbered f n (x ∷ xs) zero q e =
      let own : q ≡ n = omega (arith, e) in
      subst (λ j. find nat_cmp j (numbered f n (x ∷ xs)) ≡ Some (f j x)) (sym own) (find_own n (f n x) (numbered f (n + 1) xs))
  find_numbered f n (x ∷ xs) (suc k) q e =
      find_later q n (f n x) (numbered f (n + 1) xs) (λ same. omega (arith, e, same)) ∙ find_numbered f (n + 1) xs k q (omega (arith, e))

  -- no number is above the last
  pub find_above : (f : ℕ → X → Y) (n : ℕ) (xs : List X) (q : ℕ) → n + length xs ≤ q → find nat_cmp q (numbered f n xs) ≡ None
  find_above f n [] q above = refl
  find_above f n (x ∷ xs) q above =
      find_later q n (f n x) (numbered f (n + 1) xs) (λ e. omega (arith, above, e)) ∙ find_above f (n + 1) xs q (omega (arith, above))

  -- a value more has the next number
  numbered-push : (f : ℕ → X → Y) (n : ℕ) (xs : List X) (x : X) (m : ℕ) → m ≡ n + length xs
      → numbered f n (xs ++ x ∷ []) ≡ numbered f n xs ++ (m, f m x) ∷ []
  numbered-push f n [] x m e = let same : n ≡ m = omega (arith, e) in ap (λ j. (j, f j x) ∷ []) same
  numbered-push f n (y ∷ xs) x m e = ap (λ es. (n, f n y) ∷ es) (numbered-push f (n + 1) xs x m (omega (arith, e)))

  pub from_numbered-push : (f : ℕ → X → Y) (n : ℕ) (xs : List X) (x : X) (m : ℕ) → m ≡ n + length xs
      → from_entries {R = nat_cmp} (numbered f n (xs ++ x ∷ [])) ≡ insert (from_entries (numbered f n xs)) m (f m x)
  from_numbered-push f n xs x m e =
      ap (from_entries {R = nat_cmp}) (numbered-push f n xs x m e)
      ∙ from_entries_push nat_cmp_total nat_cmp-IsAntisymmetric (numbered f n xs) m (f m x) (find_above f n xs m (omega (arith, e)))

-- a value that is found has a number from the first on
at_number : {X Y : Type 0} (f : ℕ → X → Y) (n : ℕ) (xs : List X) (q : ℕ) (y : Y) → find nat_cmp q (numbered f n xs) ≡ Some y → (k : ℕ) × (q ≡ n + k)
at_number f n xs q y there = (
  q - n,
  elim (eqb_tells (n - q) 0) [
    | inl within ↦ (let reaches : n - q ≡ 0 = within.1 in omega arith)
    | inr below ↦ (let apart : n - q ≢ 0 = below.1 in absurd (none_is_no y (sym (find_below f n xs q (omega arith)) ∙ there)))
  ],
)

from_option_map : {X Y : Type 0} (f : X → Y) (o : Option X) (y : Y) → option_map f o ≡ Some y → (x : X) × (o ≡ Some x) × (f x ≡ y)
from_option_map f None y e = absurd (none_is_no y e)
from_option_map f (Some x) y e = (x, refl, same_value (f x) y (Some (f x)) refl e)

all_at : {X : Type 0} (P : X → Type 0) (xs : List X) (k : ℕ) (x : X) → AllByRecursion P xs → slice_get xs k ≡ Some x → P x
all_at P [] k x all e = absurd (none_is_no x e)
all_at P (y ∷ ys) zero x all e = subst P (same_value y x (Some y) refl e) all.0
all_at P (y ∷ ys) (suc k) x all e = all_at P ys k x all.1 e

some_of : {X : Type 0} (o : Option X) → IsSome o → (x : X) × (o ≡ Some x)
some_of None h = absurd (not_true h)
some_of (Some x) h = (x, refl)

-- ---- the launched process alone

-- what is at a key of a map of one is its value
only_one : {X : Type 0} (x y : X) (p : ℕ) → get (insert (empty {R = nat_cmp}) 0 x) p ≡ Some y → (p ≡ 0) × (x ≡ y)
only_one x y p there =
    elim (eqb_tells p 0) [
      | inl is ↦ (is.1, same_value x y _ (get-insert-same empty 0 x) (subst (λ j. get (insert (empty {R = nat_cmp}) 0 x) j ≡ Some y) is.1 there))
      | inr other ↦ absurd (none_is_no y (sym (get-insert-other empty 0 x p other.1 ∙ get-empty nat_cmp p) ∙ there))
    ]

-- ---- grants

-- what is granted under a number: its descriptor, and the open that it names
pub record IsGranted (tree : Tree) (grants : List Grant) (k : ℕ) (grant : Grant) : Type 0 where
  pub allowed : IsGrant tree grant
  pub held : get (granted_table tree grants) k ≡ Some (granted_descriptor tree k grant)
  pub opened : get (start_state tree grants []).opens (first_open tree + k) ≡ Some (open_of tree grant.target)

pub granted_at : (tree : Tree) (grants : List Grant) (k : ℕ) (grant : Grant) → AreGrants tree grants → slice_get grants k ≡ Some grant → IsGranted tree grants k grant
granted_at tree grants k grant all there = record {
  allowed = all_at (IsGrant tree) grants k grant all.1 there;
  held = get-from_entries nat_cmp_total _ k ∙ find_numbered (granted_descriptor tree) 0 grants k k (omega arith) ∙ ap (option_map (granted_descriptor tree k)) there;
  opened = get-from_entries nat_cmp_total _ (first_open tree + k)
      ∙ find_numbered (granted_open tree) (first_open tree) grants k (first_open tree + k) refl
      ∙ ap (option_map (granted_open tree (first_open tree + k))) there;
}

-- a descriptor of the table is that of a grant
of_descriptor : (tree : Tree) (grants : List Grant) (n : ℕ) (d : Descriptor) → AreGrants tree grants → get (granted_table tree grants) n ≡ Some d
    → (grant : Grant) × IsGranted tree grants n grant × (granted_descriptor tree n grant ≡ d)
of_descriptor tree grants n d all there =
    let at = from_option_map (granted_descriptor tree n) (slice_get grants n) d
    (sym (find_numbered (granted_descriptor tree) 0 grants n n (omega arith)) ∙ sym (get-from_entries nat_cmp_total _ n) ∙ there) in
    (at.0, granted_at tree grants n at.0 all at.1, at.2)

-- an open is that of a grant
of_open : (tree : Tree) (grants : List Grant) (o : ℕ) (kind : OpenKind) → AreGrants tree grants → get (start_state tree grants []).opens o ≡ Some kind
    → (k : ℕ) × (grant : Grant) × (o ≡ first_open tree + k) × IsGranted tree grants k grant × (open_of tree grant.target ≡ kind)
of_open tree grants o kind all there =
    let found = sym (get-from_entries nat_cmp_total (numbered (granted_open tree) (first_open tree) grants) o) ∙ there in
    let number = at_number (granted_open tree) (first_open tree) grants o kind found in
    let at = from_option_map (granted_open tree o) (slice_get grants number.0) kind
    (sym (find_numbered (granted_open tree) (first_open tree) grants number.0 o number.1) ∙ found) in
    (number.0, at.0, number.1, granted_at tree grants number.0 at.0 all at.1, at.2)

node_rights : (d : Descriptor) (n : ℕ) (grant : Grant) (o : Option Node) → d.base ≡ grant.base → d.inheriting ≡ grant.inheriting
    → HasRightsOfType grant (type_of_node o) → HasRightsOf d (open_of_node n o)
node_rights d n grant None base inheriting has = absurd has
node_rights d n grant (Some node) base inheriting has =
    elim node.kind as (λ k. HasRightsOfType grant (type_of_kind k) → HasRightsOf d (if is_directory_kind k then kind.Directory n 0 else kind.File n 0 0)) [
      | node_kind.File bytes ↦ λ h. rw base (rw inheriting h)
      | node_kind.Directory ↦ λ h. rw base (rw inheriting h)
      | node_kind.Link text ↦ λ h. absurd h
    ] has

has_rights : (tree : Tree) (k : ℕ) (grant : Grant) (t : GrantTarget) → IsGrantOf tree grant t → HasRightsOf (granted_descriptor tree k grant) (open_of tree t)
has_rights tree k grant (target.Terminal which) has = (has.1, has.2)
has_rights tree k grant (target.Node n) has = node_rights (granted_descriptor tree k grant) n grant (get tree.nodes n) refl refl has

named : (tree : Tree) (grants : List Grant) (k : ℕ) (grant : Grant) → IsGranted tree grants k grant
    → IsNamed (get (start_state tree grants []).opens (granted_descriptor tree k grant).id) (granted_descriptor tree k grant)
named tree grants k grant at = subst (λ o. IsNamed o (granted_descriptor tree k grant)) (sym at.opened) (has_rights tree k grant grant.target at.allowed)

-- ---- the standard streams

stream_there : (tree : Tree) (grants : List Grant) (stdin : List ℕ) (which : ℕ) → which < 3 → IsSome (get (start_state tree grants stdin).terms which)
stream_there tree grants stdin which few =
    elim (eqb_tells which 2) [
      | inl is ↦ ap (λ j. is_some (get (start_state tree grants stdin).terms j)) is.1 ∙ ap is_some (get-insert-same _ 2 _)
      | inr not_2 ↦ ap is_some (get-insert-other _ 2 _ which not_2.1) ∙ elim (eqb_tells which 1) [
        | inl is ↦ ap (λ j. is_some (get (insert (insert (empty {X = Stream} {R = nat_cmp}) 0 (unwritten stdin)) 1 (unwritten [])) j)) is.1
            ∙ ap is_some (get-insert-same _ 1 _)
        | inr not_1 ↦ ap is_some (get-insert-other _ 1 _ which not_1.1) ∙
            (let apart_2 : which ≢ 2 = not_2.1 in let apart_1 : which ≢ 1 = not_1.1 in let zeroth : which ≡ 0 = omega arith in
            ap (λ j. is_some (get (insert (empty {X = Stream} {R = nat_cmp}) 0 (unwritten stdin)) j)) zeroth ∙ ap is_some (get-insert-same _ 0 _))
      ]
    ]

-- ---- files and directories

node_behind : (S : State) (n : ℕ) (grant : Grant) (o : Option Node) → get S.nodes n ≡ o → HasRightsOfType grant (type_of_node o) → HasBehind S (open_of_node n o)
node_behind S n grant None is has = absurd has
node_behind S n grant (Some node) is has =
    elim node.kind as (λ k. node.kind ≡ k → HasRightsOfType grant (type_of_kind k) → HasBehind S (if is_directory_kind k then kind.Directory n 0 else kind.File n 0 0)) [
      | node_kind.File bytes ↦ λ e h. ap is_file_node is ∙ ap is_file_kind e
      | node_kind.Directory ↦ λ e h. ap is_directory_node is ∙ ap is_directory_kind e
      | node_kind.Link text ↦ λ e h. absurd h
    ] refl has

behind_there : (tree : Tree) (grants : List Grant) (stdin : List ℕ) (grant : Grant) (t : GrantTarget) → IsGrantOf tree grant t
    → HasBehind (start_state tree grants stdin) (open_of tree t)
behind_there tree grants stdin grant (target.Terminal which) has = (stream_there tree grants stdin which has.0, has.0)
behind_there tree grants stdin grant (target.Node n) has = node_behind (start_state tree grants stdin) n grant (get tree.nodes n) refl has

-- ---- the state

start_named : (tree : Tree) (grants : List Grant) → AreGrants tree grants → (p n : ℕ) (table : Table) (d : Descriptor)
    → get (start_state tree grants []).tables p ≡ Some table → get table n ≡ Some d → IsNamed (get (start_state tree grants []).opens d.id) d
start_named tree grants all p n table d there here =
    let own = only_one (granted_table tree grants) table p there in
    let at = of_descriptor tree grants n d all (ap (λ (m : Table). get m n) own.1 ∙ here) in
    subst (λ (e : Descriptor). IsNamed (get (start_state tree grants []).opens e.id) e) at.2 (named tree grants n at.0 at.1)

start_held : (tree : Tree) (grants : List Grant) → AreGrants tree grants → (o : ℕ) → IsSome (get (start_state tree grants []).opens o) → 0 < holders (start_state tree grants []) o
start_held tree grants all o h =
    let there = some_of (get (start_state tree grants []).opens o) h in
    let at = of_open tree grants o there.0 all there.1 in
    subst (λ r. 0 < holders (start_state tree grants []) r) (sym at.2)
    (named_is_held (start_state tree grants []) 0 at.0 (granted_table tree grants) (granted_descriptor tree at.0 at.1) (get-insert-same empty 0 _) at.3.held)

start_behind : (tree : Tree) (grants : List Grant) (stdin : List ℕ) → AreGrants tree grants → (o : ℕ) (kind : OpenKind) → get (start_state tree grants stdin).opens o ≡ Some kind
    → HasBehind (start_state tree grants stdin) kind
start_behind tree grants stdin all o kind there =
    let at = of_open tree grants o kind all there in
    subst (HasBehind (start_state tree grants stdin)) at.4 (behind_there tree grants stdin at.1 at.1.target at.3.allowed)

-- what is granted is of no process and no end of a channel
node_untested : (test : Option OpenKind → Bool) → ((node offset flags : ℕ) → test (Some (kind.File node offset flags)) ≡ false)
    → ((node flags : ℕ) → test (Some (kind.Directory node flags)) ≡ false) → (n : ℕ) (o : Option Node) → test (Some (open_of_node n o)) ≡ false
node_untested test file directory n None = file n 0 0
node_untested test file directory n (Some node) =
    elim (is_directory_kind node.kind) as (λ b. test (Some (if b then kind.Directory n 0 else kind.File n 0 0)) ≡ false) [
      | true ↦ directory n 0
      | false ↦ file n 0 0
    ]

untested : (test : Option OpenKind → Bool) → ((node offset flags : ℕ) → test (Some (kind.File node offset flags)) ≡ false)
    → ((node flags : ℕ) → test (Some (kind.Directory node flags)) ≡ false) → ((which flags : ℕ) → test (Some (kind.Terminal which flags)) ≡ false)
    → (tree : Tree) (t : GrantTarget) → test (Some (open_of tree t)) ≡ false
untested test file directory stream tree (target.Terminal which) = stream which 0
untested test file directory stream tree (target.Node n) = node_untested test file directory n (get tree.nodes n)

none_passes : (test : Option OpenKind → Bool) → test None ≡ false → (tree : Tree) (grants : List Grant) → AreGrants tree grants
    → ((t : GrantTarget) → test (Some (open_of tree t)) ≡ false) → (o : ℕ) → test (get (start_state tree grants []).opens o) ≡ false
none_passes test none tree grants all each o =
    elim (get (start_state tree grants []).opens o) as (λ x. get (start_state tree grants []).opens o ≡ x → test x ≡ false) [
      | None ↦ λ _. none
      | Some kind ↦ λ there. (let at = of_open tree grants o kind all there in ap (λ k. test (Some k)) (sym at.4) ∙ each at.1.target)
    ] refl

none_is_one : (test : Option OpenKind → Bool) (opens : FinMap nat_cmp OpenKind) → ((o : ℕ) → test (get opens o) ≡ false) → AtMostOne test opens
none_is_one test opens none o r passes other = absurd (not_true (sym (none o) ∙ passes))

start_sole : (tree : Tree) (grants : List Grant) → AreGrants tree grants → AreSole (start_state tree grants []).opens
start_sole tree grants all k = (
  none_is_one (is_of_process k) (start_state tree grants []).opens
      (none_passes (is_of_process k) refl tree grants all (untested (is_of_process k) (λ _ _ _. refl) (λ _ _. refl) (λ _ _. refl) tree)),
  none_is_one (is_reader k) (start_state tree grants []).opens
      (none_passes (is_reader k) refl tree grants all (untested (is_reader k) (λ _ _ _. refl) (λ _ _. refl) (λ _ _. refl) tree)),
  none_is_one (is_writer k) (start_state tree grants []).opens
      (none_passes (is_writer k) refl tree grants all (untested (is_writer k) (λ _ _ _. refl) (λ _ _. refl) (λ _ _. refl) tree)),
)

-- ---- what is numbered

-- thread 1 alone is there, and it is the one thread that was numbered
one_thread : (t : ℕ) → IsSome (get (insert (empty {R = nat_cmp}) 1 Runnable) t) → t ≤ 1
one_thread t there =
    elim (eqb_tells t 1) [
      | inl is ↦ (let same : t ≡ 1 = is.1 in omega arith)
      | inr other ↦ absurd (not_true (subst IsSome (get-insert-other empty 1 Runnable t other.1 ∙ get-empty nat_cmp t) there))
    ]

start_numbered : (tree : Tree) (grants : List Grant) (stdin : List ℕ) (p t : ℕ) → IsSome (thread_of (start_state tree grants stdin) p t)
    → t ≤ (counts_in (get (start_state tree grants stdin).processes p)).threads
start_numbered tree grants stdin p t there =
    elim (eqb_tells p 0) [
      | inl is ↦ subst (λ o. IsSome (thread_in (option_map (λ (own : ProcessState). own.threads) o) t) → t ≤ (counts_in o).threads)
          (sym (ap (get (start_state tree grants stdin).processes) is.1 ∙ get-insert-same empty 0 first_process)) (one_thread t) there
      | inr other ↦ absurd (not_true (subst (λ o. IsSome (thread_in (option_map (λ (own : ProcessState). own.threads) o) t))
          (get-insert-other empty 0 first_process p other.1 ∙ get-empty nat_cmp p) there))
    ]

-- ---- what threads do

-- each thread that is there runs
abbrev IsIdleOrRuns : Option Thread → Type 0
IsIdleOrRuns o = (o ≡ None) ⊎ (o ≡ Some Runnable)

one_runs : (t : ℕ) → IsIdleOrRuns (get (insert (empty {R = nat_cmp}) 1 Runnable) t)
one_runs t =
    elim (eqb_tells t 1) [
      | inl is ↦ inr (subst (λ k. get (insert (empty {R = nat_cmp}) 1 Runnable) k ≡ Some Runnable) (sym is.1) (get-insert-same empty 1 Runnable))
      | inr other ↦ inl (get-insert-other empty 1 Runnable t other.1 ∙ get-empty nat_cmp t)
    ]

pub start_runs : (tree : Tree) (grants : List Grant) (stdin : List ℕ) (p t : ℕ)
    → (thread_of (start_state tree grants stdin) p t ≡ None) ⊎ (thread_of (start_state tree grants stdin) p t ≡ Some Runnable)
start_runs tree grants stdin p t =
    elim (eqb_tells p 0) [
      | inl is ↦ subst (λ o. IsIdleOrRuns (thread_in (option_map (λ (own : ProcessState). own.threads) o) t))
          (sym (ap (get (start_state tree grants stdin).processes) is.1 ∙ get-insert-same empty 0 first_process)) (one_runs t)
      | inr other ↦ inl (ap (λ o. thread_in (option_map (λ (own : ProcessState). own.threads) o) t)
          (get-insert-other empty 0 first_process p other.1 ∙ get-empty nat_cmp p))
    ]

start_waits : (tree : Tree) (grants : List Grant) (stdin : List ℕ) (p t : ℕ) → MayWait (thread_of (start_state tree grants stdin) p t)
start_waits tree grants stdin p t =
    elim (start_runs tree grants stdin p t) [ inl none ↦ subst MayWait (sym none) tt | inr runs ↦ subst MayWait (sym runs) tt ]

-- so each has the deadline of its call
pub start_deadlines : (constants : Constants) (tree : Tree) (grants : List Grant) (stdin : List ℕ) → HasDeadlines constants (start_state tree grants stdin)
start_deadlines constants tree grants stdin p t =
    elim (start_runs tree grants stdin p t) [
      | inl none ↦ subst (HasDeadline constants) (sym none) tt
      | inr runs ↦ subst (HasDeadline constants) (sym runs) tt
    ]

-- the opens of the launch are of no process's number
start_made : (tree : Tree) (grants : List Grant) → AreGrants tree grants → (p k : ℕ) → p < 0xffffffff → k < 2 ^ 32 → get (start_state tree grants []).opens (object_of p k) ≡ None
start_made tree grants all p k small fits =
    elim (get (start_state tree grants []).opens (object_of p k)) as (λ o. get (start_state tree grants []).opens (object_of p k) ≡ o → o ≡ None) [
      | None ↦ λ e. refl
      | Some kind ↦ λ e. (
          let at = of_open tree grants (object_of p k) kind all e in
          let place : p * 2 ^ 32 + k ≡ 0xffffffff * 2 ^ 32 + (4 + len tree.nodes) + at.0 = at.2 in
          absurd (omega (arith, place, small, fits)))
    ] refl

-- and so are its nodes
start_nodes : (tree : Tree) → IsStartTree tree → (p k : ℕ) → p < 0xffffffff → k < 2 ^ 32 → get tree.nodes (object_of p k) ≡ None
start_nodes tree starts p k small fits =
    elim (get tree.nodes (object_of p k)) as (λ o. get tree.nodes (object_of p k) ≡ o → o ≡ None) [
      | None ↦ λ e. refl
      | Some node ↦ λ e. (
          let above : ROOT ≤ p * 2 ^ 32 + k = (starts.numbered (object_of p k) (ap is_some e)).0 in
          absurd (omega (arith, above, small, fits)))
    ] refl

-- process 0 is the one process
abbrev first_status : FinMap nat_cmp Status
first_status = insert empty 0 Live

some_is_first : (p : ℕ) → IsSome (get first_status p) → p ≡ 0
some_is_first p there =
    elim (eqb_tells p 0) [
      | inl is ↦ is.1
      | inr other ↦ absurd (not_true (sym (ap is_some (get-insert-other empty 0 Live p other.1 ∙ get-empty nat_cmp p)) ∙ there))
    ]

start_born : AreBorn first_status (insert (empty {R = nat_cmp}) 0 first_process)
start_born = record {
  made = λ p there. (0, some_is_first p there);
  deep = λ p own there.
      let is = only_one first_process own p there in subst (λ (x : ProcessState). IsBorn first_status x.depth p) is.1 is.0;
  counted = λ p i own there may some. absurd (not_first own.depth p i may (some_is_first (child_of p own.depth i) some));
}

one_lives : {X : Type 0} (x : X) (p : ℕ) → is_some (get (insert (empty {R = nat_cmp}) 0 x) p) ≡ lives (get first_status p)
one_lives x p =
    elim (eqb_tells p 0) [
      | inl is ↦ subst (λ j. is_some (get (insert (empty {R = nat_cmp}) 0 x) j) ≡ lives (get first_status j)) (sym is.1)
          (ap is_some (get-insert-same (empty {R = nat_cmp}) 0 x) ∙ sym (ap lives (get-insert-same (empty {R = nat_cmp}) 0 Live)))
      | inr other ↦ ap is_some (get-insert-other (empty {R = nat_cmp}) 0 x p other.1 ∙ get-empty nat_cmp p)
          ∙ sym (ap lives (get-insert-other (empty {R = nat_cmp}) 0 Live p other.1 ∙ get-empty nat_cmp p))
    ]

pub start_valid : (tree : Tree) (grants : List Grant) (stdin : List ℕ) → MayBegin tree grants → IsValid (start_state tree grants stdin)
start_valid tree grants stdin begins = record {
  nearly = record {
    named = start_named tree grants begins.grants;
    behind = start_behind tree grants stdin begins.grants;
    sole = start_sole tree grants begins.grants;
    tables = one_lives (granted_table tree grants);
    owns = one_lives first_process;
    numbered = start_numbered tree grants stdin;
    waits = start_waits tree grants stdin;
    made = λ p k small beyond fits. start_made tree grants begins.grants p k small fits;
    made_nodes = λ p k small beyond fits. start_nodes tree begins.tree p k small fits;
    born = start_born;
    tree = begins.tree.tree;
    channels = λ c channel there. absurd (none_is_no channel (sym (get-empty nat_cmp c) ∙ there));
    made_channels = λ p k small beyond fits. get-empty nat_cmp (object_of p k);
  };
  held = λ o there. held_or_carried (start_state tree grants stdin) o (start_held tree grants begins.grants o there);
  kept = λ n there. named_is_kept (start_state tree grants stdin) n (begins.tree.named n there);
  going = λ c. ap is_channel_kept (get-empty nat_cmp c);
}
