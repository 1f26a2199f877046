use Rattle.std.proofs.Common.{◌≡◌, ℕ, None, ◌+◌, ◌≤◌, ◌++◌, ◌∷◌, [], vec_capacity, refl, sym, ap, ◌∙◌, arith}
use Rattle.std.specs.Ordering.{nat_cmp}
use Rattle.std.specs.FinMap.{FinMap, get, insert, remove, len}
use Rattle.maps.specs.Closure.{len-changed}
use Rattle.maps.specs.Maps.{remove-inserted}
use Rattle.object_store.specs.Entries.{kinds_of, counts_of, held_of}
use Rattle.object_store.specs.declared.entry.Entry.{Entry}
use Rattle.object_store.proofs.Kept.{kept_as, kept_add, kept_room, unheld_few}
use Rattle.object_store.proofs.Nodes.{counted_add, counted_as, counts_few}
use Rattle.object_store.proofs.Views.{entry_of_free, seen_put}
use Rattle.object_store.proofs.objects.Objects.add.Goals as goal

-- as many counts as entries
counts_len : (m : FinMap nat_cmp Entry) → len (counts_of m) ≡ len m
counts_len m = len-changed (λ _ e. e.count) m

pub overflow_sub-more : goal.overflow_sub-more
overflow_sub-more c =
    let few = unheld_few (counts_of c.self.inside.entries) in
    let long = counts_len c.self.inside.entries in
    omega (arith, few, long, c.self.invariant.list.counted, c.len.ensures.len, c.len-2.ensures, c.self.inside.unheld.ok.0)

pub count_open-requires : goal.count_open-requires
count_open-requires c =
    counts_few c.self.inside.entries _ (omega (arith, c.len.ensures.len, c.len.ensures.small)) c.self.invariant.nodes

-- the open that came goes again
taken_back : (m came gone : FinMap nat_cmp Entry) (k : ℕ) (e : Entry) → get m k ≡ None → came ≡ insert m k e → gone ≡ remove came k → gone ≡ m
taken_back m came gone k e free put taken = taken ∙ ap (λ n. remove n k) put ∙ remove-inserted m k e free

pub invariant_of-self-in-Err : goal.invariant_of-self-in-Err
invariant_of-self-in-Err c =
    let free = entry_of_free _ _ _ _ c.self.view_is c.id.view_is c.requires in
    let same = taken_back _ _ _ c.id.inside.0 _ free c.in_ok-insert.ensures.ok c.remove.ensures.new in
    let enough : len (counts_of c.self.inside.entries) ≤ vec_capacity c.reserve.new.self =
    omega (arith, c.reserve.ensures.capacity, c.self.invariant.list.roomy) in
    record {
      list = kept_as _ _ _ _ _ _ same c.reserve.ensures.items refl (kept_room _ _ _ _ enough c.self.invariant.list);
      nodes = rw c.in-Err.ensures.err (counted_as _ _ _ (ap kinds_of same) c.self.invariant.nodes);
    }

pub returns-in-Err-clause-err : goal.returns-in-Err-clause-err
returns-in-Err-clause-err c =
    let free = entry_of_free _ _ _ _ c.self.view_is c.id.view_is c.requires in
    ap held_of (taken_back _ _ _ c.id.inside.0 _ free c.in_ok-insert.ensures.ok c.remove.ensures.new) ∙ c.self.view_is

pub push_reserved-requires : goal.push_reserved-requires
push_reserved-requires c =
    let few = unheld_few (counts_of c.self.inside.entries) in
    let long = counts_len c.self.inside.entries in
    omega (arith, few, long, c.in_ok-reserve.ensures.ok, c.self.invariant.list.counted, c.len.ensures.len, c.len-2.ensures, c.self.inside.unheld.ok.0)

pub invariant_of-self-2 : goal.invariant_of-self-2
invariant_of-self-2 c =
    let list = c.self.inside.unheld.items in
    let few = unheld_few (counts_of c.self.inside.entries) in
    let long = counts_len c.self.inside.entries in
    let last = c.len-3.ensures ∙ c.reserve.ensures.len ∙ c.self.inside.unheld.ok.0 in
    let enough : len (counts_of c.self.inside.entries) + 1 ≤ vec_capacity c.reserve.new.self =
    omega (arith, few, long, c.in_ok-reserve.ensures.ok, c.reserve.ensures.len, c.self.invariant.list.counted, c.len.ensures.len, c.len-2.ensures, c.self.inside.unheld.ok.0) in
    let free = entry_of_free _ _ _ _ c.self.view_is c.id.view_is c.requires in
    let kept =
    kept_as _ _ _ _ _ _ c.in_ok-insert.ensures.ok
    (c.push_reserved.ensures.items ∙ ap (λ xs. xs ++ c.args.id ∷ []) c.reserve.ensures.items ∙ ap (λ o. list ++ o ∷ []) (sym c.id.view_is))
    c.push_reserved.ensures.capacity
    (kept_add c.self.inside.entries list _ _ c.id.inside.0 _ free refl last enough c.self.invariant.list) in
    let nodes = counted_add _ _ _ c.id.inside.0 _ free c.in_default.ensures.more c.in_default.ensures.no_zero c.self.invariant.nodes in
    record { list = kept; nodes = counted_as _ _ _ (ap kinds_of c.in_ok-insert.ensures.ok) nodes }

pub returns-clause-ok : goal.returns-clause-ok
returns-clause-ok c = ap held_of c.in_ok-insert.ensures.ok ∙ seen_put _ _ _ _ c.self.view_is c.id.view_is _
