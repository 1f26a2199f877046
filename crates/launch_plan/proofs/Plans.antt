-- The plan, case by case.
use Rattle.std.proofs.Common.{◌≡◌, ℕ, ◌<◌, ◌≤◌, Bool, true, false, List, length, nat_lt, if◌then◌else◌, Option, Some, None, Result, Ok, Err, refl, sym, ap, subst, ◌∙◌, arith}
use Rattle.std.specs.Prelude.{is_some}
use Rattle.std.proofs.lemmas.Bool.{lt-ltb, le-ltb, ltb-false}
use Rattle.abi_base.specs.declared.grant.Grant.{Grant}
use Rattle.argdata_codec.specs.Writing.{encoding}
use Rattle.tree_model.specs.Grants.{AreGrants}
use Rattle.tree_model.specs.Tree.{Tree}
use Rattle.launch_values.specs.Shape.{Shape}
use Rattle.launch_plan.specs.declared.fault.PlanFault.{PlanFault}
use Rattle.launch_plan.specs.declared.fault.PlanFault.TheVariants as faults
use Rattle.lists.specs.Results.{◌>>=◌}
use Rattle.launch_plan.specs.Tagged.{tagged, grants_of}
use Rattle.launch_plan.specs.Values.{value_of}
use Rattle.launch_plan.specs.Plan.{plan_of, unless_large}
use Rattle.launch_plan.specs.Sizes.{values_in, IsLeft}
use Rattle.launch_plan.proofs.Asked.{asked_are}
use Rattle.launch_plan.proofs.LeastSizes.{at_least}

abbrev plan_ok : List ℕ × List Grant → Result (List ℕ × List Grant) PlanFault
plan_ok p = Ok p

abbrev pub IsPlan : Tree → List ℕ × List Grant → Type 0
IsPlan tree p = (length p.0 ≤ 65536) × AreGrants tree p.1

pub faulty : (tree : Tree) (x : Shape) (e : PlanFault) → grants_of tree (tagged x) ≡ Err e → plan_of tree x ≡ Err e
unfolding plan_of
faulty tree x e h = ap (λ (r : Result (List Grant) PlanFault). r >>= λ grants. if nat_lt 1024 (length grants) then Err faults.TooMany else unless_large (encoding (value_of 0 x)) grants) h

asked : (tree : Tree) (x : Shape) (grants : List Grant) → grants_of tree (tagged x) ≡ Ok grants
    → plan_of tree x ≡ (if nat_lt 1024 (length grants) then Err faults.TooMany else unless_large (encoding (value_of 0 x)) grants)
unfolding plan_of
asked tree x grants h = ap (λ (r : Result (List Grant) PlanFault). r >>= λ gs. if nat_lt 1024 (length gs) then Err faults.TooMany else unless_large (encoding (value_of 0 x)) gs) h

pub too_many : (tree : Tree) (x : Shape) (grants : List Grant) → grants_of tree (tagged x) ≡ Ok grants → 1024 < length grants → plan_of tree x ≡ Err faults.TooMany
too_many tree x grants h many = asked tree x grants h ∙ ap (λ (b : Bool). if b then Err faults.TooMany else unless_large (encoding (value_of 0 x)) grants) (lt-ltb _ _ many)

few : (tree : Tree) (x : Shape) (grants : List Grant) → grants_of tree (tagged x) ≡ Ok grants → length grants ≤ 1024 → plan_of tree x ≡ unless_large (encoding (value_of 0 x)) grants
few tree x grants h le = asked tree x grants h ∙ ap (λ (b : Bool). if b then Err faults.TooMany else unless_large (encoding (value_of 0 x)) grants) (le-ltb _ _ le)

pub too_large : (tree : Tree) (x : Shape) (grants : List Grant) (bytes : List ℕ) → grants_of tree (tagged x) ≡ Ok grants → length grants ≤ 1024
    → bytes ≡ encoding (value_of 0 x) → 65536 < length bytes → plan_of tree x ≡ Err faults.TooLarge
too_large tree x grants bytes h le encoded many =
    few tree x grants h le ∙ ap (λ (b : List ℕ). unless_large b grants) (sym encoded)
    ∙ ap (λ (b : Bool). if b then Err faults.TooLarge else Ok (bytes, grants)) (lt-ltb _ _ many)

-- where nothing is left of the room, more is taken
pub none_left : (room taken : ℕ) (left : Option ℕ) → is_some left ≡ false → IsLeft room taken left → room < taken
none_left room taken None none h = h
none_left room taken (Some n) none h = absurd (cc (none))

-- the values in lists alone are too many
pub too_many_values : (tree : Tree) (x : Shape) (grants : List Grant) → grants_of tree (tagged x) ≡ Ok grants → length grants ≤ 1024
    → 65536 < values_in x → plan_of tree x ≡ Err faults.TooLarge
too_many_values tree x grants h le many = too_large tree x grants (encoding (value_of 0 x)) h le refl (omega (arith, many, at_least 0 x))

pub planned : (tree : Tree) (x : Shape) (grants : List Grant) (bytes : List ℕ) → grants_of tree (tagged x) ≡ Ok grants → length grants ≤ 1024
    → bytes ≡ encoding (value_of 0 x) → length bytes ≤ 65536 → plan_of tree x ≡ Ok (bytes, grants)
planned tree x grants bytes h le encoded small =
    few tree x grants h le ∙ ap (λ (b : List ℕ). unless_large b grants) (sym encoded)
    ∙ ap (λ (b : Bool). if b then Err faults.TooLarge else Ok (bytes, grants)) (le-ltb _ _ small)

-- ---- what a plan is

either : (x : Shape) (grants : List Grant) (p : List ℕ × List Grant) (many large : Bool)
    → (if many then Err faults.TooMany else if large then Err faults.TooLarge else Ok (encoding (value_of 0 x), grants)) ≡ plan_ok p
    → (many ≡ false) × (large ≡ false) × ((encoding (value_of 0 x), grants) ≡ p)
either x grants p true large e = absurd (cc)
either x grants p false true e = absurd (cc)
either x grants p false false e = (refl, refl, cc)

of_asked : (tree : Tree) (x : Shape) (p : List ℕ × List Grant) (r : Result (List Grant) PlanFault) → grants_of tree (tagged x) ≡ r
    → (r >>= λ grants. if nat_lt 1024 (length grants) then Err faults.TooMany else unless_large (encoding (value_of 0 x)) grants) ≡ Ok p → IsPlan tree p
of_asked tree x p (Err e) is h = absurd (cc)
of_asked tree x p (Ok grants) is h =
    let parts = either x grants p (nat_lt 1024 (length grants)) (nat_lt 65536 (length (encoding (value_of 0 x)))) h in
    subst (IsPlan tree) parts.2 (ltb-false _ _ parts.1, (ltb-false _ _ parts.0, asked_are tree (tagged x) grants is))

-- a plan has at most 65,536 bytes of argument data, and at most 1024 descriptors, of what is there
pub plan_is : (tree : Tree) (x : Shape) (p : List ℕ × List Grant) → plan_of tree x ≡ Ok p → IsPlan tree p
unfolding plan_of
plan_is tree x p e = of_asked tree x p (grants_of tree (tagged x)) refl e
