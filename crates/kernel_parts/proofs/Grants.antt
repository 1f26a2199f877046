-- What a launch's grants leave in the table and among the opens, one after another.
use Rattle.std.proofs.Common.{◌≡◌, ℕ, ◌+◌, ◌<◌, List, [], ◌∷◌, ◌++◌, length, take, get_or, Option, None, Some, sym, ap, ◌∙◌, arith}
use Rattle.std.proofs.lemmas.List.{take_more, length-take-le}
use Rattle.std.specs.Cmp.{nat_cmp_total}
use Rattle.std.specs.FinMap.{get, get-from_entries, insert}
use Rattle.abi_base.specs.declared.grant.Grant.{Grant}
use Rattle.abi_types.specs.declared.open_kind.OpenKind.{OpenKind}
use Rattle.maps.specs.Maps.{number, get-insert-same, insert-again}
use Rattle.object_store.specs.Objects.{Held}
use Rattle.kernel_parts.specs.Start.{granted_objects}
use Rattle.kernel_model.specs.Start.{first_open, granted_descriptor, granted_open, granted_table}
use Rattle.kernel_model.specs.State.{Table, Tree}
use Rattle.kernel_model.proofs.Starts.{find_above, from_numbered-push}

-- a new open that is then held once
pub new_count : (before after : Held) (o : ℕ) (kind : OpenKind) → after ≡ record { kinds = insert before.kinds o kind; counts = insert before.counts o 0 }
    → get after.counts o ≡ Some 0
new_count before after o kind added = ap (λ (h : Held). get h.counts o) added ∙ get-insert-same before.counts o 0

pub held_once : (before added after : Held) (o : ℕ) (kind : OpenKind)
    → added ≡ record { kinds = insert before.kinds o kind; counts = insert before.counts o 0 }
    → after ≡ record added { counts = insert added.counts o (number (get added.counts o) + 1) }
    → after ≡ record { kinds = insert before.kinds o kind; counts = insert before.counts o 1 }
held_once before added after o kind is then =
    let once : insert (insert before.counts o 0) o (number (get (insert before.counts o 0) o) + 1) ≡ insert before.counts o 1 =
    insert-again before.counts o 0 _ ∙ ap (λ (c : Option ℕ). insert before.counts o (number c + 1)) (get-insert-same before.counts o 0) in
    then
    ∙ ap (λ (h : Held). record h { counts = insert h.counts o (number (get h.counts o) + 1) }) is
    ∙ (λ i. record { kinds = insert before.kinds o kind; counts = once i })

-- the next grant's open is not there yet
pub next_free : (tree : Tree) (grants : List Grant) (n : ℕ) → n ≡ length grants → get (granted_objects tree grants).kinds (first_open tree + n) ≡ None
next_free tree grants n e =
    get-from_entries nat_cmp_total _ (first_open tree + n) ∙ find_above (granted_open tree) (first_open tree) grants (first_open tree + n) (omega (arith, e))

pub table-push : (tree : Tree) (grants : List Grant) (grant : Grant) (n : ℕ) → n ≡ length grants
    → granted_table tree (grants ++ grant ∷ []) ≡ insert (granted_table tree grants) n (granted_descriptor tree n grant)
table-push tree grants grant n e = from_numbered-push (granted_descriptor tree) 0 grants grant n (omega (arith, e))

pub objects-push : (tree : Tree) (grants : List Grant) (grant : Grant) (n : ℕ) → n ≡ length grants
    → granted_objects tree (grants ++ grant ∷ []) ≡ record {
      kinds = insert (granted_objects tree grants).kinds (first_open tree + n) (granted_open tree n grant);
      counts = insert (granted_objects tree grants).counts (first_open tree + n) 1;
    }
objects-push tree grants grant n e =
    let place : first_open tree + n ≡ first_open tree + length grants = omega (arith, e) in
    let kinds = from_numbered-push (granted_open tree) (first_open tree) grants grant (first_open tree + n) place in
    let counts = from_numbered-push (λ (_ : ℕ) (_ : Grant). 1) (first_open tree) grants grant (first_open tree + n) place in
    λ i. record { kinds = kinds i; counts = counts i }

-- one grant more of a list
pub table_next : (tree : Tree) (grants : List Grant) (i : ℕ) (d : Grant) (before after : Table) → i < length grants → before ≡ granted_table tree (take i grants)
    → after ≡ insert before i (granted_descriptor tree i (get_or grants i d)) → after ≡ granted_table tree (take (i + 1) grants)
table_next tree grants i d before after within so_far then =
    then
    ∙ ap (λ (t : Table). insert t i (granted_descriptor tree i (get_or grants i d))) so_far
    ∙ sym (ap (granted_table tree) (take_more grants i d within) ∙ table-push tree (take i grants) (get_or grants i d) i (sym (length-take-le i grants (omega (arith, within)))))

pub objects_next : (tree : Tree) (grants : List Grant) (i : ℕ) (d : Grant) (before after : Held) → i < length grants → before ≡ granted_objects tree (take i grants)
    → after ≡ record {
      kinds = insert before.kinds (first_open tree + i) (granted_open tree i (get_or grants i d));
      counts = insert before.counts (first_open tree + i) 1;
    }
    → after ≡ granted_objects tree (take (i + 1) grants)
objects_next tree grants i d before after within so_far then =
    then
    ∙ ap (λ (h : Held). record { kinds = insert h.kinds (first_open tree + i) (granted_open tree i (get_or grants i d)); counts = insert h.counts (first_open tree + i) 1 }) so_far
    ∙ sym (ap (granted_objects tree) (take_more grants i d within) ∙ objects-push tree (take i grants) (get_or grants i d) i (sym (length-take-le i grants (omega (arith, within)))))
