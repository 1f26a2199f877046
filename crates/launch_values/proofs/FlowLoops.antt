-- Items and pairs that are read one after the other, as a loop reads them.
use Rattle.std.proofs.Common.{◌≡◌, ℕ, zero, suc, ◌+◌, ◌-◌, ◌<◌, ◌≤◌, ◌||◌, if◌then◌else◌, Bool, true, false, List, [], ◌∷◌, ◌++◌, length, take, drop, slice_index_or, ◌==◌, Result, Ok, Err, refl, sym, ap, subst, ◌∙◌, append_assoc, arith}
use Rattle.std.proofs.lemmas.Bool.{eq-eqb}
use Rattle.std.proofs.lemmas.List.{append-nil, take_all}
use Rattle.launch_scalars.specs.declared.kind.YamlKind.TheVariants as kinds
use Rattle.launch_scalars.specs.declared.fault.LineFault.{LineFault}
use Rattle.lists.specs.declared.stop.Stop.{Stop}
use Rattle.lists.specs.declared.stop.Stop.TheVariants.{At, Memory}
use Rattle.lists.specs.Results.{◌>>=◌, IsStopOf, Gives}
use Rattle.lists.proofs.Steps.{bind_alike}
use Rattle.launch_scalars.specs.Results.{fault}
use Rattle.launch_scalars.specs.Spaces.{begins_with, after_gap}
use Rattle.std.specs.Prelude.{Some, None}
use Rattle.std.specs.List.{list_any}
use Rattle.launch_values.specs.Shape.{Shape, Content, content_of, node}
use Rattle.launch_values.specs.Keys.{same_key}
use Rattle.launch_values.specs.Flow.{Node, separator, with_more, goes_on, items_with, items_of, key_with, after_colon, keyed_with, pair_with, pairs_with, pairs_of, node_with, sequence_with, mapping_with, collection_with, collection_at}

-- what was read before, and what is still read
abbrev pub with_front : {A : Type 0} → List A → Result (List A × List ℕ) LineFault → Result (List A × List ℕ) LineFault
with_front front read = read >>= λ more. Ok (front ++ more.0, more.1)

-- one more of what a flow value contains, and what is behind it
abbrev pub step_with : {A : Type 0} → ℕ → (List ℕ → Result (A × List ℕ) LineFault) → (A → List ℕ → Result (List A × List ℕ) LineFault) → List ℕ → Result (List A × List ℕ) LineFault
step_with closing one further bytes =
    if begins_with closing (after_gap bytes) then Ok ([], drop 1 (after_gap bytes))
    else one (after_gap bytes) >>= λ x. goes_on closing (further x.0) x.0 (after_gap x.1)

regroup : {A : Type 0} (front : List A) (x : A) (read : Result (List A × List ℕ) LineFault) → with_front front (read >>= λ more. Ok (x ∷ more.0, more.1)) ≡ with_front (front ++ x ∷ []) read
regroup {A = A} front x (Err e) = refl
regroup {A = A} front x (Ok more) = ap (λ (xs : List A). Ok (xs, more.1)) (simp append_assoc)

-- the closing character stands where a value may begin
pub step_closed : {A : Type 0} (closing : ℕ) (one : List ℕ → Result (A × List ℕ) LineFault) (further : A → List ℕ → Result (List A × List ℕ) LineFault) (bytes : List ℕ) (front : List A)
    → begins_with closing (after_gap bytes) ≡ true → with_front front (step_with closing one further bytes) ≡ Ok (front, drop 1 (after_gap bytes))
step_closed {A = A} closing one further bytes front e = rw e (ap (λ (xs : List A). Ok (xs, drop 1 (after_gap bytes))) (append-nil front))

-- a value that is refused
pub step_refused : {A : Type 0} (closing : ℕ) (one : List ℕ → Result (A × List ℕ) LineFault) (further : A → List ℕ → Result (List A × List ℕ) LineFault) (bytes : List ℕ) (front : List A) (e : Stop LineFault)
    → begins_with closing (after_gap bytes) ≡ false → IsStopOf e (one (after_gap bytes)) → IsStopOf e (with_front front (step_with closing one further bytes))
step_refused closing one further bytes front Memory unclosed h = tt
step_refused closing one further bytes front (At f) unclosed h = rw (unclosed, h) refl

step_one : {A : Type 0} (closing : ℕ) (one : List ℕ → Result (A × List ℕ) LineFault) (further : A → List ℕ → Result (List A × List ℕ) LineFault) (bytes behind : List ℕ) (x : A) (front : List A)
    → begins_with closing (after_gap bytes) ≡ false → one (after_gap bytes) ≡ Ok (x, behind)
    → with_front front (step_with closing one further bytes) ≡ with_front front (goes_on closing (further x) x (after_gap behind))
step_one closing one further bytes behind x front unclosed h = rw (unclosed, h) refl

-- what stands behind a value is refused
pub step_wrong : {A : Type 0} (closing : ℕ) (one : List ℕ → Result (A × List ℕ) LineFault) (further : A → List ℕ → Result (List A × List ℕ) LineFault) (bytes behind : List ℕ) (x : A) (front : List A) (e : Stop LineFault)
    → begins_with closing (after_gap bytes) ≡ false → one (after_gap bytes) ≡ Ok (x, behind) → IsStopOf e (separator closing (after_gap behind))
    → IsStopOf e (with_front front (step_with closing one further bytes))
step_wrong closing one further bytes behind x front Memory unclosed h wrong = tt
step_wrong closing one further bytes behind x front (At f) unclosed h wrong = step_one closing one further bytes behind x front unclosed h ∙ rw wrong refl

-- the closing character stands behind a value
pub step_last : {A : Type 0} (closing : ℕ) (one : List ℕ → Result (A × List ℕ) LineFault) (further : A → List ℕ → Result (List A × List ℕ) LineFault) (bytes behind after : List ℕ) (x : A) (front : List A)
    → begins_with closing (after_gap bytes) ≡ false → one (after_gap bytes) ≡ Ok (x, behind) → separator closing (after_gap behind) ≡ Ok (false, after)
    → with_front front (step_with closing one further bytes) ≡ Ok (front ++ x ∷ [], after)
step_last closing one further bytes behind after x front unclosed h last = step_one closing one further bytes behind x front unclosed h ∙ rw last refl

-- a comma stands behind a value
pub step_more : {A : Type 0} (closing : ℕ) (one : List ℕ → Result (A × List ℕ) LineFault) (further : A → List ℕ → Result (List A × List ℕ) LineFault) (bytes behind after : List ℕ) (x : A) (front : List A)
    → begins_with closing (after_gap bytes) ≡ false → one (after_gap bytes) ≡ Ok (x, behind) → separator closing (after_gap behind) ≡ Ok (true, after)
    → with_front front (step_with closing one further bytes) ≡ with_front (front ++ x ∷ []) (further x after)
step_more closing one further bytes behind after x front unclosed h more =
    step_one closing one further bytes behind x front unclosed h ∙ rw more (regroup front x (further x after))

-- ---- a loop's steps

found : (b : Bool) (x after : List ℕ) → Some after ≡ (if b then Some x else None) → (b ≡ true) × (after ≡ x)
found true x after e = (refl, cc)
found false x after e = absurd cc

lost : (b : Bool) (x : List ℕ) → None ≡ (if b then Some x else None) → b ≡ false
lost true x e = absurd cc
lost false x e = refl

closed_at : (closing : ℕ) (gone bytes : List ℕ) (b : Bool) → gone ≡ after_gap bytes → begins_with closing gone ≡ b → begins_with closing (after_gap bytes) ≡ b
closed_at closing gone bytes b is e = sym (ap (begins_with closing) is) ∙ e

moved : {A : Type 0} (f : List ℕ → A) (x : A) (a b : List ℕ) → a ≡ b → f a ≡ x → f b ≡ x
moved f x a b is e = sym (ap f is) ∙ e

pub loop_closed : {A : Type 0} (closing : ℕ) (one : List ℕ → Result (A × List ℕ) LineFault) (further : A → List ℕ → Result (List A × List ℕ) LineFault) (bytes gone after : List ℕ) (front : List A) (total : Result (List A × List ℕ) LineFault)
    → gone ≡ after_gap bytes → Some after ≡ (if begins_with closing gone then Some (drop 1 gone) else None)
    → with_front front (step_with closing one further bytes) ≡ total → total ≡ Ok (front, after)
loop_closed closing one further bytes gone after front total is here so_far =
    let f = found (begins_with closing gone) (drop 1 gone) after here in
    sym so_far ∙ step_closed closing one further bytes front (closed_at closing gone bytes true is f.0)
    ∙ ap (λ (rest : List ℕ). Ok (front, rest)) (ap (drop 1) (sym is) ∙ sym f.1)

pub loop_refused : {A : Type 0} (closing : ℕ) (one : List ℕ → Result (A × List ℕ) LineFault) (further : A → List ℕ → Result (List A × List ℕ) LineFault) (bytes gone : List ℕ) (front : List A) (total : Result (List A × List ℕ) LineFault) (e : Stop LineFault)
    → gone ≡ after_gap bytes → None ≡ (if begins_with closing gone then Some (drop 1 gone) else None) → IsStopOf e (one gone)
    → with_front front (step_with closing one further bytes) ≡ total → IsStopOf e total
loop_refused {A = A} closing one further bytes gone front total e is none wrong so_far =
    subst (λ (r : Result (List A × List ℕ) LineFault). IsStopOf e r) so_far
    (step_refused closing one further bytes front e (closed_at closing gone bytes false is (lost (begins_with closing gone) (drop 1 gone) none))
    (subst (λ (g : List ℕ). IsStopOf e (one g)) is wrong))

pub loop_wrong : {A : Type 0} (closing : ℕ) (one : List ℕ → Result (A × List ℕ) LineFault) (further : A → List ℕ → Result (List A × List ℕ) LineFault) (bytes gone behind beyond : List ℕ) (x : A) (front : List A) (total : Result (List A × List ℕ) LineFault) (e : Stop LineFault)
    → gone ≡ after_gap bytes → None ≡ (if begins_with closing gone then Some (drop 1 gone) else None) → one gone ≡ Ok (x, behind)
    → beyond ≡ after_gap behind → IsStopOf e (separator closing beyond) → with_front front (step_with closing one further bytes) ≡ total → IsStopOf e total
loop_wrong {A = A} closing one further bytes gone behind beyond x front total e is none read next wrong so_far =
    subst (λ (r : Result (List A × List ℕ) LineFault). IsStopOf e r) so_far
    (step_wrong closing one further bytes behind x front e (closed_at closing gone bytes false is (lost (begins_with closing gone) (drop 1 gone) none))
    (moved one (Ok (x, behind)) gone (after_gap bytes) is read) (subst (λ (b : List ℕ). IsStopOf e (separator closing b)) next wrong))

pub loop_last : {A : Type 0} (closing : ℕ) (one : List ℕ → Result (A × List ℕ) LineFault) (further : A → List ℕ → Result (List A × List ℕ) LineFault) (bytes gone behind beyond after : List ℕ) (x : A) (front : List A) (total : Result (List A × List ℕ) LineFault)
    → gone ≡ after_gap bytes → None ≡ (if begins_with closing gone then Some (drop 1 gone) else None) → one gone ≡ Ok (x, behind)
    → beyond ≡ after_gap behind → separator closing beyond ≡ Ok (false, after) → with_front front (step_with closing one further bytes) ≡ total → total ≡ Ok (front ++ x ∷ [], after)
loop_last closing one further bytes gone behind beyond after x front total is none read next last so_far =
    sym so_far
    ∙ step_last closing one further bytes behind after x front (closed_at closing gone bytes false is (lost (begins_with closing gone) (drop 1 gone) none))
    (moved one (Ok (x, behind)) gone (after_gap bytes) is read) (moved (separator closing) (Ok (false, after)) beyond (after_gap behind) next last)

pub loop_more : {A : Type 0} (closing : ℕ) (one : List ℕ → Result (A × List ℕ) LineFault) (further : A → List ℕ → Result (List A × List ℕ) LineFault) (bytes gone behind beyond after : List ℕ) (x : A) (front : List A) (total : Result (List A × List ℕ) LineFault)
    → gone ≡ after_gap bytes → None ≡ (if begins_with closing gone then Some (drop 1 gone) else None) → one gone ≡ Ok (x, behind)
    → beyond ≡ after_gap behind → separator closing beyond ≡ Ok (true, after) → with_front front (step_with closing one further bytes) ≡ total
    → with_front (front ++ x ∷ []) (further x after) ≡ total
loop_more closing one further bytes gone behind beyond after x front total is none read next more so_far =
    sym (step_more closing one further bytes behind after x front (closed_at closing gone bytes false is (lost (begins_with closing gone) (drop 1 gone) none))
    (moved one (Ok (x, behind)) gone (after_gap bytes) is read) (moved (separator closing) (Ok (true, after)) beyond (after_gap behind) next more)) ∙ so_far

pub front_none : {A : Type 0} (read : Result (List A × List ℕ) LineFault) → with_front [] read ≡ read
front_none (Ok more) = refl
front_none (Err e) = refl

-- ---- items

no_less : (n : ℕ) → suc n - 0 ≡ suc n
no_less n = omega arith

pub items_start : (read : List ℕ → Node) (bytes : List ℕ) → with_front [] (items_with read (suc (length bytes) - 0) bytes) ≡ items_of read bytes
unfolding items_of
items_start read bytes = ap (λ (m : ℕ). with_front [] (items_with read m bytes)) (no_less (length bytes)) ∙ front_none (items_with read (suc (length bytes)) bytes)

-- while the count isn't over, one step more
pub items_step : (read : List ℕ → Node) (front : List Shape) (count n : ℕ) (bytes : List ℕ) → count < n + 1
    → with_front front (items_with read (suc n - count) bytes) ≡ with_front front (step_with 93 read (λ x. items_with read (suc n - (count + 1))) bytes)
items_step read front count n bytes below =
    let fuel : suc n - count ≡ suc (suc n - (count + 1)) = omega (arith, below) in
    ap (λ (m : ℕ). with_front front (items_with read m bytes)) fuel

pub items_over : (read : List ℕ → Node) (front : List Shape) (count n : ℕ) (bytes : List ℕ) → n + 1 ≤ count
    → with_front front (items_with read (suc n - count) bytes) ≡ fault 0 kinds.Flow
items_over read front count n bytes over =
    let fuel : suc n - count ≡ 0 = omega (arith, over) in
    ap (λ (m : ℕ). with_front front (items_with read m bytes)) fuel

-- ---- pairs

pub pairs_start : (read : List ℕ → Node) (line : ℕ) (bytes : List ℕ) → with_front [] (pairs_with read line [] (suc (length bytes) - 0) bytes) ≡ pairs_of read line bytes
unfolding pairs_of
pairs_start read line bytes =
    ap (λ (m : ℕ). with_front [] (pairs_with read line [] m bytes)) (no_less (length bytes)) ∙ front_none (pairs_with read line [] (suc (length bytes)) bytes)

pub pairs_step : (read : List ℕ → Node) (line : ℕ) (keys : List Content) (front : List (Shape × Shape)) (count n : ℕ) (bytes : List ℕ) → count < n + 1
    → with_front front (pairs_with read line keys (suc n - count) bytes)
    ≡ with_front front (step_with 125 (pair_with read line keys) (λ p. pairs_with read line (content_of p.0 ∷ keys) (suc n - (count + 1))) bytes)
pairs_step read line keys front count n bytes below =
    let fuel : suc n - count ≡ suc (suc n - (count + 1)) = omega (arith, below) in
    ap (λ (m : ℕ). with_front front (pairs_with read line keys m bytes)) fuel

pub pairs_over : (read : List ℕ → Node) (line : ℕ) (keys : List Content) (front : List (Shape × Shape)) (count n : ℕ) (bytes : List ℕ) → n + 1 ≤ count
    → with_front front (pairs_with read line keys (suc n - count) bytes) ≡ fault 0 kinds.Flow
pairs_over read line keys front count n bytes over =
    let fuel : suc n - count ≡ 0 = omega (arith, over) in
    ap (λ (m : ℕ). with_front front (pairs_with read line keys m bytes)) fuel

-- ---- keys that answer alike

-- each key is in both lists or in none
abbrev pub SameKeys : List Content → List Content → Type 0
SameKeys a b = (k : Content) → list_any (same_key k) a ≡ list_any (same_key k) b

more_alike : {A : Type 0} (f g : List ℕ → Result (List A × List ℕ) LineFault) (x : A) → ((rest : List ℕ) → f rest ≡ g rest) → (s : Bool × List ℕ) → with_more f x s ≡ with_more g x s
more_alike {A = A} f g x h (true, rest) = ap (λ (r : Result (List A × List ℕ) LineFault). r >>= λ more. Ok (x ∷ more.0, more.1)) (h rest)
more_alike f g x h (false, rest) = refl

pair_alike : (read : List ℕ → Node) (line : ℕ) (a b : List Content) (bytes : List ℕ) → SameKeys a b → pair_with read line a bytes ≡ pair_with read line b bytes
pair_alike read line a b bytes same =
    bind_alike (key_with bytes) _ _ (λ k. bind_alike (after_colon (after_gap k.1)) _ _ (λ rest.
    let value : Result ((Shape × Shape) × List ℕ) LineFault = keyed_with read line (after_gap rest) >>= λ v. Ok ((node line None k.0, v.0), v.1) in
    ap (λ (there : Bool). if there then fault (length bytes) kinds.DuplicateKey else value) (same k.0)))

pub pairs_alike : (read : List ℕ → Node) (line : ℕ) (n : ℕ) (a b : List Content) (bytes : List ℕ) → SameKeys a b → pairs_with read line a n bytes ≡ pairs_with read line b n bytes
pairs_alike read line zero a b bytes same = refl
pairs_alike read line (suc n) a b bytes same =
    let gone = after_gap bytes in
    let further : List Content → (Shape × Shape) × List ℕ → Result (List (Shape × Shape) × List ℕ) LineFault =
    λ keys p. goes_on 125 (pairs_with read line (content_of p.0.0 ∷ keys) n) p.0 (after_gap p.1) in
    ap (λ (r : Result (List (Shape × Shape) × List ℕ) LineFault). if begins_with 125 gone then Ok ([], drop 1 gone) else r)
    (ap (λ (r : Result ((Shape × Shape) × List ℕ) LineFault). r >>= further a) (pair_alike read line a b gone same)
    ∙ bind_alike (pair_with read line b gone) (further a) (further b) (λ p. bind_alike (separator 125 (after_gap p.1)) _ _ (more_alike _ _ p.0
    (λ rest. pairs_alike read line n (content_of p.0.0 ∷ a) (content_of p.0.0 ∷ b) rest (λ k. ap (λ (t : Bool). same_key k (content_of p.0.0) || t) (same k))))))

-- ---- depth

pub too_deep : (depth line : ℕ) (bytes : List ℕ) → depth ≡ 0 → collection_at depth line bytes ≡ fault (length bytes) kinds.Depth
unfolding collection_at
too_deep depth line bytes e = ap (λ (d : ℕ). collection_at d line bytes) e

pub one_deeper : (depth line : ℕ) (bytes : List ℕ) → 0 < depth
    → collection_at depth line bytes ≡ collection_with (node_with (collection_at (depth - 1) line) line) line bytes
unfolding collection_at
one_deeper zero line bytes some = absurd (omega (arith, some))
one_deeper (suc depth) line bytes some =
    let same : depth ≡ suc depth - 1 = omega arith in
    ap (λ (d : ℕ). collection_with (node_with (collection_at d line) line) line bytes) same

whole : (b : ℕ) (bs : List ℕ) → take (length (b ∷ bs) - 1) (drop 1 (b ∷ bs)) ≡ bs
whole b bs = take_all (suc (length bs) - 1) bs (omega arith)

opened : (read : List ℕ → Node) (line : ℕ) (first : Bool) (b : ℕ) (bs : List ℕ) → (b == 91) ≡ first
    → collection_with read line (b ∷ bs) ≡ (if first then sequence_with read (take (length (b ∷ bs) - 1) (drop 1 (b ∷ bs))) else mapping_with read line (take (length (b ∷ bs) - 1) (drop 1 (b ∷ bs))))
opened read line first b bs e =
    ap (λ (t : Bool). if t then sequence_with read bs else mapping_with read line bs) e
    ∙ ap (λ (rest : List ℕ). if first then sequence_with read rest else mapping_with read line rest) (sym (whole b bs))

pub at_bracket : {X : Type 0} (view : X → Content × List ℕ) (result : Result X (Stop LineFault)) (read : List ℕ → Node) (line : ℕ) (bytes : List ℕ) → 1 ≤ length bytes → slice_index_or bytes 0 0 ≡ 91
    → Gives view result (sequence_with read (take (length bytes - 1) (drop 1 bytes))) → Gives view result (collection_with read line bytes)
at_bracket view result read line [] some is h = absurd (omega (arith, some))
at_bracket view result read line (b ∷ bs) some is h = subst (λ (r : Result (Content × List ℕ) LineFault). Gives view result r) (sym (opened read line true b bs (eq-eqb b 91 is))) h

pub at_brace : {X : Type 0} (view : X → Content × List ℕ) (result : Result X (Stop LineFault)) (read : List ℕ → Node) (line : ℕ) (bytes : List ℕ) → 1 ≤ length bytes → (slice_index_or bytes 0 0 == 91) ≡ false
    → Gives view result (mapping_with read line (take (length bytes - 1) (drop 1 bytes))) → Gives view result (collection_with read line bytes)
at_brace view result read line [] some is h = absurd (omega (arith, some))
at_brace view result read line (b ∷ bs) some is h = subst (λ (r : Result (Content × List ℕ) LineFault). Gives view result r) (sym (opened read line false b bs is)) h
