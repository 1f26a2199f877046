-- The order of keys distinguishes what means different things.
use Rattle.std.proofs.lemmas.Map.Lookups.{exact_signed, exact_bytes}
use Rattle.std.proofs.Common.{rules, ℤ, ◌≡◌, sym, ap, ◌∙◌, Bool, true, false, List, [], ◌∷◌, map, ◌||◌, refl}
use Rattle.std.specs.List.{list_any}
use Rattle.std.specs.declared.cmp.Ordering.{Ordering}
use Rattle.std.specs.declared.cmp.Ordering.TheVariants.{Less, Equal, Greater}
use Rattle.std.specs.Ordering.{is_eq, int_cmp, int_eq, bool_cmp, match_ordering}
use Rattle.std.specs.Bool.{beq}
use Rattle.std.specs.BTreeMap.{is_at}
use Rattle.std.specs.BTreeSet.{insert_key}
use Rattle.std.specs.Cmp.Lexicographic.{texts_ties}
use Rattle.launch_values.specs.declared.key.Key.{Key}
use Rattle.launch_values.specs.declared.key.Key.TheVariants as keys
use Rattle.launch_values.specs.contracts.key.KeyOrd.TheImpl as key_ord
use Rattle.launch_values.specs.Shape.{Content, boolean, integer, text}
use Rattle.launch_values.specs.Keys.{same_key}
use Rattle.launch_values.specs.KeyViews.{content_of_key}

abbrev pub order : Key → Key → Ordering
order = (key_ord.ghosts).cmp

bool_ties : (a b : Bool) → is_eq (bool_cmp a b) ≡ beq a b
bool_ties true true = refl
bool_ties true false = refl
bool_ties false true = refl
bool_ties false false = refl

int_ties : (i j : ℤ) → is_eq (int_cmp i j) ≡ int_eq i j
int_ties i j = search rules

pub ties : (x y : Key) → is_eq (order x y) ≡ same_key (content_of_key x) (content_of_key y)
ties keys.Null keys.Null = refl
ties keys.Null (keys.Bool b) = refl
ties keys.Null (keys.Int j) = refl
ties keys.Null (keys.Str cs) = refl
ties (keys.Bool a) keys.Null = refl
ties (keys.Bool a) (keys.Bool b) = bool_ties a b
ties (keys.Bool a) (keys.Int j) = refl
ties (keys.Bool a) (keys.Str cs) = refl
ties (keys.Int i) keys.Null = refl
ties (keys.Int i) (keys.Bool b) = refl
ties (keys.Int i) (keys.Int j) = int_ties i j
ties (keys.Int i) (keys.Str cs) = refl
ties (keys.Str bs) keys.Null = refl
ties (keys.Str bs) (keys.Bool b) = refl
ties (keys.Str bs) (keys.Int j) = refl
ties (keys.Str bs) (keys.Str cs) = sym (texts_ties bs.items cs.items)

exact_bool : (a b : Bool) → bool_cmp a b ≡ Equal → a ≡ b
exact_bool true true h = refl
exact_bool false false h = refl
exact_bool true false h = cc (h)
exact_bool false true h = cc (h)

-- keys at one place of the order mean the same
pub same_meaning : (x y : Key) → order x y ≡ Equal → content_of_key x ≡ content_of_key y
same_meaning keys.Null keys.Null h = refl
same_meaning keys.Null (keys.Bool b) h = cc (h)
same_meaning keys.Null (keys.Int j) h = cc (h)
same_meaning keys.Null (keys.Str cs) h = cc (h)
same_meaning (keys.Bool a) keys.Null h = cc (h)
same_meaning (keys.Bool a) (keys.Bool b) h = ap boolean (exact_bool a b h)
same_meaning (keys.Bool a) (keys.Int j) h = cc (h)
same_meaning (keys.Bool a) (keys.Str cs) h = cc (h)
same_meaning (keys.Int i) keys.Null h = cc (h)
same_meaning (keys.Int i) (keys.Bool b) h = cc (h)
same_meaning (keys.Int i) (keys.Int j) h = ap integer (exact_signed i j h)
same_meaning (keys.Int i) (keys.Str cs) h = cc (h)
same_meaning (keys.Str bs) keys.Null h = cc (h)
same_meaning (keys.Str bs) (keys.Bool b) h = cc (h)
same_meaning (keys.Str bs) (keys.Int j) h = cc (h)
same_meaning (keys.Str bs) (keys.Str cs) h = ap text (exact_bytes bs.items cs.items h)

either : {a b c d : Bool} → a ≡ b → c ≡ d → (a || c) ≡ (b || d)
either {a} {b} {c} {d} first second = ap (λ x. x || c) first ∙ ap (λ y. b || y) second

-- a set has a key where it has one that means the same
pub found : (key : Key) (xs : List Key) → list_any (is_at (order key)) xs ≡ list_any (same_key (content_of_key key)) (map content_of_key xs)
found key [] = refl
found key (x ∷ xs) = either (ties key x) (found key xs)

again : (a b c : Bool) → a ≡ b → (b || c) ≡ (a || (b || c))
again true true c h = refl
again true false c h = cc (h)
again false b c h = refl

later : (a b c d : Bool) → d ≡ (a || c) → (b || d) ≡ (a || (b || c))
later true true c d h = refl
later true false c d h = h
later false true c d h = refl
later false false c d h = h

placed : (k : Content) (key x : Key) (xs after : List Key) (o : Ordering) → order key x ≡ o
    → list_any (same_key k) (map content_of_key after) ≡ (same_key k (content_of_key key) || list_any (same_key k) (map content_of_key xs))
    → list_any (same_key k) (map content_of_key (match_ordering o (key ∷ x ∷ xs) (x ∷ xs) (x ∷ after)))
    ≡ (same_key k (content_of_key key) || list_any (same_key k) (map content_of_key (x ∷ xs)))
placed k key x xs after Less is h = refl
placed k key x xs after Equal is h = again _ _ _ (ap (same_key k) (same_meaning key x is))
placed k key x xs after Greater is h = later _ _ _ _ h

-- what a set has with a key more
pub inserted : (k : Content) (key : Key) (xs : List Key)
    → list_any (same_key k) (map content_of_key (insert_key order xs key)) ≡ (same_key k (content_of_key key) || list_any (same_key k) (map content_of_key xs))
inserted k key [] = refl
inserted k key (x ∷ xs) = placed k key x xs (insert_key order xs key) (order key x) refl (inserted k key xs)
