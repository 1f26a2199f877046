-- Records that make a tree, one more at a time.
use Rattle.std.proofs.Common.{◌≡◌, ℕ, ◌+◌, ◌-◌, ◌^◌, ◌<◌, ◌≤◌, true, List, [], ◌∷◌, ◌++◌, length, Option, None, Some, is_none, refl, sym, ap, subst, ◌∙◌, append_assoc, length-append, arith}
use Rattle.std.specs.FinMap.{empty, get, get-empty}
use Rattle.std.specs.Ordering.{nat_cmp}
use Rattle.std.proofs.lemmas.Bool.{false≢true}
use Rattle.std.proofs.lemmas.List.{append-nil}
use Rattle.abi_types.specs.declared.node.Node.{Node}
use Rattle.abi_types.specs.declared.node.NodeKind.{NodeKind}
use Rattle.abi_types.specs.declared.node.Times.{Times}
use Rattle.maps.specs.Maps.{get-insert-other}
use Rattle.tree_model.specs.declared.limits.TheConstants.{ROOT}
use Rattle.tree_model.specs.Changes.{is_absent, one_more_in, with_count}
use Rattle.tree_model.specs.Start.{root_node}
use Rattle.tree_records.specs.Paths.{name_of, parent}
use Rattle.tree_records.specs.Records.{Record, IsRecord, dir, file, link, hard, encoded}
use Rattle.tree_records.proofs.RecordTexts.{encoded_some}
use Rattle.tree_document.specs.Building.{IsAllowed, IsFresh, Making, node_at, node_of, start, with_name_in, with_node_in, with_record}
use Rattle.tree_document.specs.Documents.{AreAllowed, IsFaultyAt, IsNoRecord, Means, document, with_records}

-- ---- one record more

with_records_push : (m : Making) (rs : List Record) (r : Record) → with_records m (rs ++ r ∷ []) ≡ with_record (with_records m rs) r
with_records_push m [] r = refl
with_records_push m (s ∷ rs) r = with_records_push (with_record m s) rs r

allowed_push : (m : Making) (rs : List Record) (r : Record) → AreAllowed m rs → IsRecord r → IsAllowed (with_records m rs) r → AreAllowed m (rs ++ r ∷ [])
allowed_push m [] r h fits here = (fits, here, tt)
allowed_push m (s ∷ rs) r h fits here = (h.0, h.1, allowed_push (with_record m s) rs r h.2 fits here)

document_push : (rs : List Record) (r : Record) (rest : List ℕ) → document rs ++ (encoded r ++ rest) ≡ document (rs ++ r ∷ []) ++ rest
document_push [] r rest = ap (λ (bs : List ℕ). bs ++ rest) (sym (append-nil (encoded r)))
document_push (s ∷ rs) r rest =
    append_assoc (encoded s) (document rs) (encoded r ++ rest) ∙ ap (λ (bs : List ℕ). encoded s ++ bs) (document_push rs r rest)
    ∙ sym (append_assoc (encoded s) (document (rs ++ r ∷ [])) rest)

-- ---- the numbers from the next one on are no nodes'

fresh_start : (times : Times) → IsFresh (start times)
fresh_start times k far = ap is_none (get-insert-other empty ROOT (root_node times) k (omega arith) ∙ get-empty nat_cmp k)

fresh_node : (m : Making) (name : List ℕ) (kind : NodeKind) (o : Option ℕ) → IsFresh m → IsFresh (with_node_in m name kind o)
fresh_node m name kind None h = h
fresh_node m name kind (Some d) h = λ k far. ap is_none (get-insert-other m.tree.nodes m.next (with_count (node_of m.times kind) 1) k (omega arith)) ∙ h k (omega arith)

fresh_one_more : (m : Making) (n k : ℕ) (o : Option Node) → get m.tree.nodes n ≡ o → is_absent m.tree k ≡ true → is_absent (one_more_in m.tree n o) k ≡ true
fresh_one_more m n k None here h = h
fresh_one_more m n k (Some node) here h =
    ap is_none (get-insert-other m.tree.nodes n (with_count node (node.links + 1)) k
    (λ e. false≢true (sym (ap is_none (ap (get m.tree.nodes) e ∙ here)) ∙ h))) ∙ h

fresh_name : (m : Making) (name : List ℕ) (o p : Option ℕ) → IsFresh m → IsFresh (with_name_in m name o p)
fresh_name m name None p h = h
fresh_name m name (Some d) None h = h
fresh_name m name (Some d) (Some n) h = λ k far. fresh_one_more m n k (get m.tree.nodes n) refl (h k far)

fresh_more : (m : Making) (r : Record) → IsFresh m → IsFresh (with_record m r)
fresh_more m (dir p) h = fresh_node m (name_of p) _ (node_at m.tree ROOT (parent p)) h
fresh_more m (file p bytes) h = fresh_node m (name_of p) _ (node_at m.tree ROOT (parent p)) h
fresh_more m (link p text) h = fresh_node m (name_of p) _ (node_at m.tree ROOT (parent p)) h
fresh_more m (hard p target) h = fresh_name m (name_of p) (node_at m.tree ROOT (parent p)) (node_at m.tree ROOT target) h

fresh_records : (m : Making) (rs : List Record) → IsFresh m → IsFresh (with_records m rs)
fresh_records m [] h = h
fresh_records m (r ∷ rs) h = fresh_records (with_record m r) rs (fresh_more m r h)

-- ---- each record takes one number at most, and one byte at least

next_node : (m : Making) (name : List ℕ) (kind : NodeKind) (o : Option ℕ) → (with_node_in m name kind o).next ≤ m.next + 1
next_node m name kind None = omega arith
next_node m name kind (Some d) = omega arith

next_name : (m : Making) (name : List ℕ) (o p : Option ℕ) → (with_name_in m name o p).next ≤ m.next + 1
next_name m name None p = omega arith
next_name m name (Some d) None = omega arith
next_name m name (Some d) (Some n) = omega arith

next_more : (m : Making) (r : Record) → (with_record m r).next ≤ m.next + 1
next_more m (dir p) = next_node m (name_of p) _ (node_at m.tree ROOT (parent p))
next_more m (file p bytes) = next_node m (name_of p) _ (node_at m.tree ROOT (parent p))
next_more m (link p text) = next_node m (name_of p) _ (node_at m.tree ROOT (parent p))
next_more m (hard p target) = next_name m (name_of p) (node_at m.tree ROOT (parent p)) (node_at m.tree ROOT target)

pub next_records : (m : Making) (rs : List Record) → (with_records m rs).next ≤ m.next + length (document rs)
next_records m [] = omega arith
next_records m (r ∷ rs) =
    let later = next_records (with_record m r) rs in
    let one = next_more m r in
    let some = encoded_some r (document rs) in
    omega arith

-- ---- what a reader has read

-- the records before the rest of a text made this
pub record Behind (times : Times) (bytes rest : List ℕ) (m : Making) : Type 0 where
  pub before : List Record
  pub allowed : AreAllowed (start times) before
  pub text : bytes ≡ document before ++ rest
  pub made : m ≡ with_records (start times) before

pub behind_start : (times : Times) (bytes : List ℕ) (m : Making) → m ≡ start times → Behind times bytes bytes m
behind_start times bytes m e = record { before = []; allowed = tt; text = refl; made = e }

pub behind_more : (times : Times) (bytes text rest : List ℕ) (m new : Making) (r : Record) → Behind times bytes text m → IsRecord r → IsAllowed m r → text ≡ encoded r ++ rest
    → new ≡ with_record m r → Behind times bytes rest new
behind_more times bytes text rest m new r h fits here front e = record {
  before = h.before ++ r ∷ [];
  allowed = allowed_push (start times) h.before r h.allowed fits (subst (λ (x : Making). IsAllowed x r) h.made here);
  text = h.text ∙ ap (λ (bs : List ℕ). document h.before ++ bs) front ∙ document_push h.before r rest;
  made = e ∙ ap (λ (x : Making). with_record x r) h.made ∙ sym (with_records_push (start times) h.before r);
}

pub behind_fresh : (times : Times) (bytes rest : List ℕ) (m : Making) → Behind times bytes rest m → IsFresh m
behind_fresh times bytes rest m h = subst IsFresh (sym h.made) (fresh_records (start times) h.before (fresh_start times))

pub behind_room : (times : Times) (bytes rest : List ℕ) (m : Making) → Behind times bytes rest m → length bytes < 2 ^ 31 → m.next + 1 < 2 ^ 64
behind_room times bytes rest m h few =
    let last = next_records (start times) h.before in
    let same = ap (λ (x : Making). x.next) h.made in
    let size = ap length h.text ∙ length-append (document h.before) rest in
    omega arith

pub behind_end : (times : Times) (bytes rest : List ℕ) (m : Making) → Behind times bytes rest m → rest ≡ [] → Means times bytes m.tree
behind_end times bytes rest m h none = record {
  records = h.before;
  allowed = h.allowed;
  text = h.text ∙ ap (λ (bs : List ℕ). document h.before ++ bs) none ∙ append-nil (document h.before);
  tree = ap (λ (x : Making). x.tree) h.made;
}

pub behind_fault : (times : Times) (bytes rest : List ℕ) (m : Making) (byte : ℕ) → Behind times bytes rest m → 0 < length rest → byte ≡ length bytes - length rest → IsNoRecord m rest
    → IsFaultyAt times bytes byte
behind_fault times bytes rest m byte h some place none = record {
  before = h.before;
  rest = rest;
  allowed = h.allowed;
  text = h.text;
  place = let size = ap length h.text ∙ length-append (document h.before) rest in omega arith;
  some = λ e. let no = ap length e in omega arith;
  none = subst (λ (x : Making). IsNoRecord x rest) h.made none;
}
