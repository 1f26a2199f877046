-- The numbers that are kept of nodes stay how many opens are of each.
use Rattle.std.proofs.Common.{◌≡◌, eq-eqb, ℕ, ◌+◌, ◌<◌, ◌≤◌, ◌^◌, cond, inl, inr, Option, Some, None, refl, sym, ap, ◌∙◌, arith}
use Rattle.std.proofs.lemmas.Bool.Decides.{eqb_tells}
use Rattle.std.specs.Ordering.{nat_cmp}
use Rattle.std.specs.FinMap.{FinMap, empty, get, get-empty, insert, remove, len}
use Rattle.abi_types.specs.declared.open_kind.OpenKind.{OpenKind}
use Rattle.abi_types.specs.declared.open_kind.OpenKind.TheVariants.{File, Directory, End, Terminal, Process}
use Rattle.maps.specs.Closure.{changed-empty, len-changed, total_below, total_ones}
use Rattle.maps.specs.Maps.{number, get-insert-same, get-insert-other, get-remove-same, get-remove-other, weight, total, total-empty, total-insert, total-insert_new, total-remove, total_at_least}
use Rattle.tree_model.specs.Opens.{one_of_node, opens_of_node}
use Rattle.tree_model.specs.Tree.{one_for}
use Rattle.object_store.specs.Entries.{kinds_of}
use Rattle.object_store.specs.Nodes.{AreCounted, HasNoZero, IsOfSameNode}
use Rattle.object_store.specs.declared.entry.Entry.{Entry}
use Rattle.object_store.proofs.Views.{kind_at, kind_absent, kinds-insert, kinds-remove, kinds_stay}

one_for_few : (n m : ℕ) → one_for n m ≤ 1
one_for_few n m = elim (eqb_tells m n) [
  | inl h ↦ let one : one_for n m ≡ 1 = ap (λ b. cond b 1 0) h.0 in omega (arith, one)
  | inr h ↦ let none : one_for n m ≡ 0 = ap (λ b. cond b 1 0) h.0 in omega (arith, none)
]

pub one_for_itself : (n : ℕ) → one_for n n ≡ 1
one_for_itself n = ap (λ b. cond b 1 0) (eq-eqb n n refl)

one_of_node_few : (n : ℕ) (kind : OpenKind) → one_of_node n kind ≤ 1
one_of_node_few n (File node offset flags) = one_for_few n node
one_of_node_few n (Directory node flags) = one_for_few n node
one_of_node_few n (End reads writes flags form) = omega arith
one_of_node_few n (Terminal which flags) = omega arith
one_of_node_few n (Process p object) = omega arith

one_each : (n : ℕ) (o : Option OpenKind) → weight (one_of_node n) o ≤ weight (λ (_ : OpenKind). 1) o
one_each n None = omega arith
one_each n (Some kind) = one_of_node_few n kind

-- no more opens are of a node than there are
pub opens_of_node_few : (kinds : FinMap nat_cmp OpenKind) (n : ℕ) → opens_of_node kinds n ≤ len kinds
opens_of_node_few kinds n =
    let fewer = total_below (one_of_node n) (λ (_ : OpenKind). 1) kinds kinds (λ q. one_each n (get kinds q)) in
    let ones = total_ones kinds in
    omega (arith, fewer, ones)

-- ---- what is kept of the nodes, by the entries

-- no number is too great for one more
pub counts_few : (m : FinMap nat_cmp Entry) (by_node : FinMap nat_cmp ℕ) → len m < 2 ^ 63 → AreCounted (kinds_of m) by_node
    → (n : ℕ) → number (get by_node n) < 2 ^ 63
counts_few m by_node short counted n =
    let fewer = opens_of_node_few (kinds_of m) n in
    let long = len-changed (λ (_ : ℕ) (e : Entry). e.kind) m in
    omega (arith, fewer, long, short, counted.right n)

-- a node counts each open that is of it
pub counts_open : (m : FinMap nat_cmp Entry) (by_node : FinMap nat_cmp ℕ) (k : ℕ) (e : Entry) → get m k ≡ Some e → AreCounted (kinds_of m) by_node
    → (n : ℕ) → one_of_node n e.kind ≤ number (get by_node n)
counts_open m by_node k e there counted n =
    let most = total_at_least (one_of_node n) (kinds_of m) k e.kind (kind_at m k e there) in
    omega (arith, most, counted.right n)

pub counted_new : AreCounted (kinds_of empty) empty
counted_new = record {
  right = λ n.
      ap number (get-empty nat_cmp n)
      ∙ sym (ap (total (one_of_node n)) (changed-empty (λ (_ : ℕ) (e : Entry). e.kind)) ∙ total-empty (one_of_node n));
  no_zero = λ n zero. let none = get-empty {X = ℕ} nat_cmp n in absurd (cc);
}

-- a new open
pub counted_add : (m : FinMap nat_cmp Entry) (by_node new : FinMap nat_cmp ℕ) (k : ℕ) (e : Entry) → get m k ≡ None
    → ((n : ℕ) → number (get new n) ≡ number (get by_node n) + one_of_node n e.kind) → (HasNoZero by_node → HasNoZero new)
    → AreCounted (kinds_of m) by_node → AreCounted (kinds_of (insert m k e)) new
counted_add m by_node new k e free more no_zero counted = record {
  right = λ n.
      let sums = ap (total (one_of_node n)) (kinds-insert m k e) ∙ total-insert_new (one_of_node n) (kinds_of m) k e.kind (kind_absent m k free) in
      omega (arith, sums, more n, counted.right n);
  no_zero = no_zero counted.no_zero;
}

-- an open that goes
pub counted_remove : (m : FinMap nat_cmp Entry) (by_node new : FinMap nat_cmp ℕ) (k : ℕ) (e : Entry) → get m k ≡ Some e
    → ((n : ℕ) → number (get new n) + one_of_node n e.kind ≡ number (get by_node n)) → (HasNoZero by_node → HasNoZero new)
    → AreCounted (kinds_of m) by_node → AreCounted (kinds_of (remove m k)) new
counted_remove m by_node new k e there less no_zero counted = record {
  right = λ n.
      let gone = ap (total (one_of_node n)) (kinds-remove m k) in
      let sums = total-remove (one_of_node n) (kinds_of m) k in
      let was = ap (weight (one_of_node n)) (kind_at m k e there) in
      omega (arith, gone, sums, was, less n, counted.right n);
  no_zero = no_zero counted.no_zero;
}

-- an open that becomes another one of the same node
pub counted_set : (m : FinMap nat_cmp Entry) (by_node : FinMap nat_cmp ℕ) (k : ℕ) (e new : Entry) → get m k ≡ Some e → IsOfSameNode new.kind e.kind
    → AreCounted (kinds_of m) by_node → AreCounted (kinds_of (insert m k new)) by_node
counted_set m by_node k e new there same counted = record {
  right = λ n.
      let now = ap (total (one_of_node n)) (kinds-insert m k new) in
      let sums = total-insert (one_of_node n) (kinds_of m) k new.kind in
      let was = ap (weight (one_of_node n)) (kind_at m k e there) in
      omega (arith, now, sums, was, same n, counted.right n);
  no_zero = counted.no_zero;
}

-- of opens that are the same
pub counted_as : (m n : FinMap nat_cmp Entry) (by_node : FinMap nat_cmp ℕ) → kinds_of n ≡ kinds_of m → AreCounted (kinds_of m) by_node → AreCounted (kinds_of n) by_node
counted_as m n by_node same counted = rw same counted

-- an entry that changes, with the same kind
pub counted_stay : (m : FinMap nat_cmp Entry) (by_node : FinMap nat_cmp ℕ) (k : ℕ) (e new : Entry) → get m k ≡ Some e → new.kind ≡ e.kind
    → AreCounted (kinds_of m) by_node → AreCounted (kinds_of (insert m k new)) by_node
counted_stay m by_node k e new there same = counted_as m (insert m k new) by_node (kinds_stay m k e new there same)

-- ---- one number changes

-- the number at k becomes another one, or goes
number_put : (by_node : FinMap nat_cmp ℕ) (k c n : ℕ) → k ≡ n → number (get (insert by_node k c) n) ≡ c
number_put by_node k c n same = ap (λ q. number (get (insert by_node k c) q)) (sym same) ∙ ap number (get-insert-same by_node k c)

number_gone : (by_node : FinMap nat_cmp ℕ) (k n : ℕ) → k ≡ n → number (get (remove by_node k) n) ≡ 0
number_gone by_node k n same = ap (λ q. number (get (remove by_node k) q)) (sym same) ∙ ap number (get-remove-same by_node k)

-- one more at k
pub one_more_at : (by_node : FinMap nat_cmp ℕ) (k c : ℕ) → c ≡ number (get by_node k) + 1
    → (n : ℕ) → number (get (insert by_node k c) n) ≡ number (get by_node n) + one_for n k
one_more_at by_node k c more n = elim (eqb_tells k n) [
  | inl h ↦
      let one : one_for n k ≡ 1 = ap (λ b. cond b 1 0) h.0 in
      let now = number_put by_node k c n h.1 in
      let was = ap (λ q. number (get by_node q)) h.1 in
      omega (arith, one, now, was, more)
  | inr h ↦
      let none : one_for n k ≡ 0 = ap (λ b. cond b 1 0) h.0 in
      let same = ap number (get-insert-other by_node k c n (λ e. h.1 (sym e))) in
      omega (arith, none, same)
]

-- one less at k, where more than one is counted
pub one_less_at : (by_node : FinMap nat_cmp ℕ) (k c : ℕ) → c + 1 ≡ number (get by_node k)
    → (n : ℕ) → number (get (insert by_node k c) n) + one_for n k ≡ number (get by_node n)
one_less_at by_node k c less n = elim (eqb_tells k n) [
  | inl h ↦
      let one : one_for n k ≡ 1 = ap (λ b. cond b 1 0) h.0 in
      let now = number_put by_node k c n h.1 in
      let was = ap (λ q. number (get by_node q)) h.1 in
      omega (arith, one, now, was, less)
  | inr h ↦
      let none : one_for n k ≡ 0 = ap (λ b. cond b 1 0) h.0 in
      let same = ap number (get-insert-other by_node k c n (λ e. h.1 (sym e))) in
      omega (arith, none, same)
]

-- and where one is counted
pub none_left_at : (by_node : FinMap nat_cmp ℕ) (k : ℕ) → number (get by_node k) ≡ 1
    → (n : ℕ) → number (get (remove by_node k) n) + one_for n k ≡ number (get by_node n)
none_left_at by_node k last n = elim (eqb_tells k n) [
  | inl h ↦
      let one : one_for n k ≡ 1 = ap (λ b. cond b 1 0) h.0 in
      let now = number_gone by_node k n h.1 in
      let was = ap (λ q. number (get by_node q)) h.1 in
      omega (arith, one, now, was, last)
  | inr h ↦
      let none : one_for n k ≡ 0 = ap (λ b. cond b 1 0) h.0 in
      let same = ap number (get-remove-other by_node k n (λ e. h.1 (sym e))) in
      omega (arith, none, same)
]

pub no_zero_put : (by_node : FinMap nat_cmp ℕ) (k c : ℕ) → 0 < c → HasNoZero by_node → HasNoZero (insert by_node k c)
no_zero_put by_node k c some no_zero n zero = elim (eqb_tells k n) [
  | inl h ↦
      let now = number_put by_node k c n h.1 in
      let none = ap number zero in
      omega (arith, some, now, none)
  | inr h ↦ no_zero n (sym (get-insert-other by_node k c n (λ e. h.1 (sym e))) ∙ zero)
]

pub no_zero_gone : (by_node : FinMap nat_cmp ℕ) (k : ℕ) → HasNoZero by_node → HasNoZero (remove by_node k)
no_zero_gone by_node k no_zero n zero = elim (eqb_tells k n) [
  | inl h ↦
      let none : get (remove by_node k) n ≡ None = ap (get (remove by_node k)) (sym h.1) ∙ get-remove-same by_node k in
      absurd (cc)
  | inr h ↦ no_zero n (sym (get-remove-other by_node k n (λ e. h.1 (sym e))) ∙ zero)
]
