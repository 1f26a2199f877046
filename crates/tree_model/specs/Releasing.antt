-- How a tree loses the nodes that are no longer used, while opens end one after another.
--     IsReleasing final old kinds t      between: some opens have ended, and the nodes that these left unused are gone
--     releasing_start      at first all nodes are used
--     releasing_other, releasing_kept, releasing_gone      an open ends that is of no node;  of one that stays;  of one that goes
--     releasing_next      all three, by what becomes of the tree;  used-set      another open of the same node changes nothing
--     used_by_links, used_by_opens, used_more      a node is used by a name, or by an open;  and no less with more opens
--     releasing_end      in the end the nodes are left that are used
use Rattle.std.proofs.Common.{◌≡◌, ◌≢◌, ℕ, ◌+◌, ◌≤◌, ◌==◌, ◌||◌, Bool, true, false, cond, inl, inr, Option, None, Some, IsSome, is_some, refl, sym, ap, subst, ◌∙◌, arith}
use Rattle.std.proofs.lemmas.Bool.{false≢true, lt-ltb, ltb-true}
use Rattle.std.proofs.lemmas.Bool.Decides.{eqb_tells}
use Rattle.std.specs.Prelude.{nat_lt}
use Rattle.std.specs.Ordering.{nat_cmp}
use Rattle.std.specs.FinMap.{FinMap, get, insert, remove, retain_keys}
use Rattle.abi_types.specs.declared.open_kind.OpenKind.{OpenKind}
use Rattle.maps.specs.Closure.{total_below}
use Rattle.maps.specs.Maps.{get-remove-same, get-remove-other, get-retain, same_numbers, total-insert, total-remove, weight}
use Rattle.tree_model.specs.declared.limits.TheConstants.{ROOT}
use Rattle.tree_model.specs.Changes.{forgotten}
use Rattle.tree_model.specs.Facts.{directory_there}
use Rattle.tree_model.specs.Opens.{is_used, one_of_node, opens_of_node}
use Rattle.tree_model.specs.Retained.{retained}
use Rattle.tree_model.specs.Tree.{Tree, IsTree, links_in, links_of}

-- ---- maps

module _ {X : Type 0} where
  all_pass : (b : Bool) (o : Option X) → (IsSome o → b ≡ true) → cond b o None ≡ o
  all_pass true o h = refl
  all_pass false None h = refl
  all_pass false (Some x) h = absurd (false≢true (h refl))

  -- where each key passes, all are left
  pub retain_all : (m : FinMap nat_cmp X) (keep : ℕ → Bool) → ((q : ℕ) → IsSome (get m q) → keep q ≡ true) → retain_keys m keep ≡ m
  retain_all m keep pass = same_numbers _ _ (λ q. get-retain m keep q ∙ all_pass (keep q) (get m q) (pass q))

  none_passes : (b : Bool) (o p : Option X) → b ≡ false → cond b o None ≡ cond b p None
  none_passes false o p e = refl
  none_passes true o p e = absurd (false≢true (sym e))

  -- what doesn't pass may go before
  retain_removed : (m : FinMap nat_cmp X) (keep : ℕ → Bool) (n : ℕ) → keep n ≡ false → retain_keys (remove m n) keep ≡ retain_keys m keep
  retain_removed m keep n gone =
      same_numbers _ _ (λ q. get-retain (remove m n) keep q ∙ elim (eqb_tells q n) [
        | inl is ↦ none_passes (keep q) (get (remove m n) q) (get m q) (ap keep is.1 ∙ gone)
        | inr other ↦ ap (λ o. cond (keep q) o None) (get-remove-other m n q other.1)
      ] ∙ sym (get-retain m keep q))

-- a node that doesn't pass may go before
pub retained-forgotten : (t : Tree) (keep : ℕ → Bool) (n : ℕ) → keep n ≡ false → retained (forgotten t n) keep ≡ retained t keep
retained-forgotten t keep n gone = λ i. record { nodes = retain_removed t.nodes keep n gone i; names = retain_removed t.names keep n gone i }

-- where each node passes, all are left
pub retained-all : (t : Tree) (keep : ℕ → Bool) → IsTree t → ((n : ℕ) → IsSome (get t.nodes n) → keep n ≡ true) → retained t keep ≡ t
retained-all t keep tree pass =
    λ i. record {
      nodes = retain_all t.nodes keep pass i;
      names = retain_all t.names keep (λ n there. pass n (directory_there t n ((tree.directories n).0 there))) i;
    }

-- ---- how many opens a node has

-- an open that ends takes one from its own node
opens_less : (kinds : FinMap nat_cmp OpenKind) (o n : ℕ) (kind : OpenKind) → get kinds o ≡ Some kind
    → opens_of_node (remove kinds o) n + one_of_node n kind ≡ opens_of_node kinds n
opens_less kinds o n kind there =
    let own : weight (one_of_node n) (get kinds o) ≡ one_of_node n kind = ap (weight (one_of_node n)) there in
    let sums = total-remove (one_of_node n) kinds o in
    omega arith

-- among fewer opens no more are of a node
opens_below : (few many : FinMap nat_cmp OpenKind) (n : ℕ) → ((o : ℕ) (kind : OpenKind) → get few o ≡ Some kind → get many o ≡ Some kind)
    → opens_of_node few n ≤ opens_of_node many n
opens_below few many n within =
    total_below (one_of_node n) (one_of_node n) few many (λ o. elim (get few o) as (λ x. get few o ≡ x → weight (one_of_node n) x ≤ weight (one_of_node n) (get many o)) [
      | None ↦ λ _. omega arith
      | Some kind ↦ λ e. (let same : weight (one_of_node n) (get many o) ≡ one_of_node n kind = ap (weight (one_of_node n)) (within o kind e) in omega arith)
    ] refl)

-- ---- nodes that are used

or_true : (b : Bool) → (b || true) ≡ true
or_true true = refl
or_true false = refl

-- it is the root, or has a name, or is open
pub used_by_links : (kinds : FinMap nat_cmp OpenKind) (t : Tree) (n : ℕ) → 1 ≤ links_of t n → is_used kinds t n ≡ true
used_by_links kinds t n some =
    ap (λ b. (n == ROOT) || (b || nat_lt 0 (opens_of_node kinds n))) (lt-ltb 0 (links_of t n) (omega (arith, some))) ∙ or_true (n == ROOT)

pub used_by_opens : (kinds : FinMap nat_cmp OpenKind) (t : Tree) (n : ℕ) → 1 ≤ opens_of_node kinds n → is_used kinds t n ≡ true
used_by_opens kinds t n some =
    ap (λ b. (n == ROOT) || (nat_lt 0 (links_of t n) || b)) (lt-ltb 0 (opens_of_node kinds n) (omega (arith, some)))
    ∙ ap (λ b. (n == ROOT) || b) (or_true (nat_lt 0 (links_of t n))) ∙ or_true (n == ROOT)

-- more opens and as many names make no node less used
pub used_more : (few many : FinMap nat_cmp OpenKind) (t u : Tree) (n : ℕ) → links_of u n ≡ links_of t n → opens_of_node few n ≤ opens_of_node many n
    → is_used few t n ≡ true → is_used many u n ≡ true
used_more few many t u n links opens used =
    elim (n == ROOT) as (λ b. (b || (nat_lt 0 (links_of t n) || nat_lt 0 (opens_of_node few n))) ≡ true
    → (b || (nat_lt 0 (links_of u n) || nat_lt 0 (opens_of_node many n))) ≡ true) [
      | true ↦ λ _. refl
      | false ↦ λ h. ap (λ k. nat_lt 0 k || nat_lt 0 (opens_of_node many n)) links ∙ by_links (nat_lt 0 (links_of t n)) h
    ] used where
      by_links : (b : Bool) → (b || nat_lt 0 (opens_of_node few n)) ≡ true → (b || nat_lt 0 (opens_of_node many n)) ≡ true
      by_links true h = refl
      by_links false h = (let some = ltb-true 0 (opens_of_node few n) h in lt-ltb 0 (opens_of_node many n) (omega (arith, some, opens)))

false_unless : (b : Bool) → (b ≡ true → ⊥) → b ≡ false
false_unless true h = absurd (h refl)
false_unless false h = refl

-- ---- between

-- Of a tree `old` some nodes are gone, of which none is used once only the opens `final` are left; and with these opens each
-- node that is there is used.
pub record IsReleasing (final : FinMap nat_cmp OpenKind) (old : Tree) (kinds : FinMap nat_cmp OpenKind) (t : Tree) : Type 0 where
  pub within : (o : ℕ) (kind : OpenKind) → get final o ≡ Some kind → get kinds o ≡ Some kind
  pub before : (n : ℕ) → IsSome (get t.nodes n) → get t.nodes n ≡ get old.nodes n
  pub same : retained t (is_used final old) ≡ retained old (is_used final old)
  pub used : (n : ℕ) → IsSome (get t.nodes n) → is_used kinds t n ≡ true

pub releasing_start : (final kinds : FinMap nat_cmp OpenKind) (t : Tree) → ((o : ℕ) (kind : OpenKind) → get final o ≡ Some kind → get kinds o ≡ Some kind)
    → ((n : ℕ) → IsSome (get t.nodes n) → is_used kinds t n ≡ true) → IsReleasing final t kinds t
releasing_start final kinds t within used = record { within = within; before = λ n there. refl; same = refl; used = used }

module _ (final : FinMap nat_cmp OpenKind) (old : Tree) (kinds : FinMap nat_cmp OpenKind) (t : Tree) (o : ℕ) (kind : OpenKind) where
  -- another node than the open's has as many opens as before
  other_used : get kinds o ≡ Some kind → (u : Tree) (n : ℕ) → one_of_node n kind ≡ 0 → links_of u n ≡ links_of t n → is_used kinds t n ≡ true
      → is_used (remove kinds o) u n ≡ true
  other_used there u n other links used =
      let less = opens_less kinds o n kind there in
      used_more kinds (remove kinds o) t u n links (omega arith) used

  -- an open ends that is of no node
  pub releasing_other : get kinds o ≡ Some kind → ((n : ℕ) → one_of_node n kind ≡ 0)
      → ((r : ℕ) (k : OpenKind) → get final r ≡ Some k → get (remove kinds o) r ≡ Some k) → IsReleasing final old kinds t → IsReleasing final old (remove kinds o) t
  releasing_other there none within r = record {
    within = within;
    before = r.before;
    same = r.same;
    used = λ n some. other_used there t n (none n) refl (r.used n some);
  }

  -- an open ends that is of a node which is still used
  pub releasing_kept : (n : ℕ) → get kinds o ≡ Some kind → ((m : ℕ) → m ≢ n → one_of_node m kind ≡ 0)
      → ((r : ℕ) (k : OpenKind) → get final r ≡ Some k → get (remove kinds o) r ≡ Some k) → is_used (remove kinds o) t n ≡ true
      → IsReleasing final old kinds t → IsReleasing final old (remove kinds o) t
  releasing_kept n there others within kept r = record {
    within = within;
    before = r.before;
    same = r.same;
    used = λ m some. elim (eqb_tells m n) [
      | inl is ↦ subst (λ k. is_used (remove kinds o) t k ≡ true) (sym is.1) kept
      | inr other ↦ other_used there t m (others m other.1) refl (r.used m some)
    ];
  }

  -- an open ends that is of a node which isn't used any more
  pub releasing_gone : (n : ℕ) → get kinds o ≡ Some kind → ((m : ℕ) → m ≢ n → one_of_node m kind ≡ 0)
      → ((r : ℕ) (k : OpenKind) → get final r ≡ Some k → get (remove kinds o) r ≡ Some k) → is_used (remove kinds o) t n ≡ false → IsSome (get t.nodes n)
      → IsReleasing final old kinds t → IsReleasing final old (remove kinds o) (forgotten t n)
  releasing_gone n there others within gone here r = record {
    within = within;
    before = λ m some. elim (eqb_tells m n) [
      | inl is ↦ absurd (no_more m is.1 some)
      | inr other ↦ get-remove-other t.nodes n m other.1 ∙ r.before m (sym (ap is_some (get-remove-other t.nodes n m other.1)) ∙ some)
    ];
    same = retained-forgotten t (is_used final old) n unused ∙ r.same;
    used = λ m some. elim (eqb_tells m n) [
      | inl is ↦ absurd (no_more m is.1 some)
      | inr other ↦ other_used there (forgotten t n) m (others m other.1) (ap links_in (get-remove-other t.nodes n m other.1))
          (r.used m (sym (ap is_some (get-remove-other t.nodes n m other.1)) ∙ some))
    ];
  } where
    no_more : (m : ℕ) → m ≡ n → IsSome (get (remove t.nodes n) m) → ⊥
    no_more m is some = false≢true (sym (ap (λ k. is_some (get (remove t.nodes n) k)) is ∙ ap is_some (get-remove-same t.nodes n)) ∙ some)

    unused : is_used final old n ≡ false
    unused =
        false_unless (is_used final old n) (λ used.
        false≢true (sym gone ∙ used_more final (remove kinds o) old t n (ap links_in (r.before n here)) (opens_below final (remove kinds o) n within) used))

-- in the end those nodes are left that are used
pub releasing_end : (final : FinMap nat_cmp OpenKind) (old t : Tree) → IsTree t → IsReleasing final old final t → t ≡ retained old (is_used final old)
releasing_end final old t tree r =
    sym (retained-all t (is_used final old) tree (λ n there.
    used_more final final t old n (ap links_in (sym (r.before n there))) (omega arith) (r.used n there))) ∙ r.same

-- an open of this node ends: the tree is as before where the node is used or isn't there, and else without it
pub releasing_next : (final : FinMap nat_cmp OpenKind) (old : Tree) (kinds : FinMap nat_cmp OpenKind) (t new : Tree) (o n : ℕ) (kind : OpenKind)
    → get kinds o ≡ Some kind → ((m : ℕ) → m ≢ n → one_of_node m kind ≡ 0)
    → ((r : ℕ) (k : OpenKind) → get final r ≡ Some k → get (remove kinds o) r ≡ Some k)
    → (is_used (remove kinds o) t n ≡ true → new ≡ t) → (get t.nodes n ≡ None → new ≡ t)
    → (is_used (remove kinds o) t n ≡ false → IsSome (get t.nodes n) → new ≡ forgotten t n)
    → IsReleasing final old kinds t → IsReleasing final old (remove kinds o) new
releasing_next final old kinds t new o n kind there others within used absent unused r =
    elim (is_used (remove kinds o) t n) as (λ b. is_used (remove kinds o) t n ≡ b → IsReleasing final old (remove kinds o) new) [
      | true ↦ λ e. subst (IsReleasing final old (remove kinds o)) (sym (used e)) (releasing_kept final old kinds t o kind n there others within e r)
      | false ↦ λ e. elim (get t.nodes n) as (λ x. get t.nodes n ≡ x → IsReleasing final old (remove kinds o) new) [
        | None ↦ λ none. subst (IsReleasing final old (remove kinds o)) (sym (absent none)) (record {
          within = within;
          before = r.before;
          same = r.same;
          used = λ m some. elim (eqb_tells m n) [
            | inl is ↦ absurd (false≢true (sym (ap (λ k. is_some (get t.nodes k)) is.1 ∙ ap is_some none) ∙ some))
            | inr other ↦ other_used final old kinds t o kind there t m (others m other.1) refl (r.used m some)
          ];
        })
        | Some node ↦ λ here.
            (let some : IsSome (get t.nodes n) = ap is_some here in
            subst (IsReleasing final old (remove kinds o)) (sym (unused e some)) (releasing_gone final old kinds t o kind n there others within e some r))
      ] refl
    ] refl

-- an open that becomes another of the same node changes nothing of what is used
pub used-set : (kinds : FinMap nat_cmp OpenKind) (o : ℕ) (kind new : OpenKind) (t : Tree) (n : ℕ) → get kinds o ≡ Some kind
    → ((m : ℕ) → one_of_node m new ≡ one_of_node m kind) → is_used (insert kinds o new) t n ≡ is_used kinds t n
used-set kinds o kind new t n there same =
    let own : weight (one_of_node n) (get kinds o) ≡ one_of_node n kind = ap (weight (one_of_node n)) there in
    let sums = total-insert (one_of_node n) kinds o new in
    let as_many = same n in
    let opens : opens_of_node (insert kinds o new) n ≡ opens_of_node kinds n = omega arith in
    ap (λ k. (n == ROOT) || (nat_lt 0 (links_of t n) || nat_lt 0 k)) opens
