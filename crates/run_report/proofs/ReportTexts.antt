-- Texts that the standard library's calls give, in the words of the report.
use Rattle.std.proofs.Common.{◌≡◌, ℕ, ◌-◌, ◌^◌, true, false, List, [], ◌∷◌, ◌++◌, map, length, replicate, codes, cond, refl, sym, ap, ◌∙◌, arith, Bor}
use Rattle.std.proofs.lemmas.List.{append-nil}
use Rattle.std.proofs.lemmas.List.Folds.{flat_map-map}
use Rattle.std.specs.Fmt.{padded_integral, format_spec, char_count}
use Rattle.std.specs.List.{join_by, filter}
use Rattle.abi_base.specs.declared.rights.Rights.{Rights}
use Rattle.abi_base.specs.Rights.{has_all, names}
use Rattle.bitflags.specs.declared.traits.Flag.{Flag}
use Rattle.run_report.specs.Denials.{listed, right_names}

-- what `{:08x}` writes of these digits
pub padded_eight : (ds : List ℕ) → padded_integral (format_spec 32 0 4 8 (2 ^ 64 - 1)) false [] ds ≡ replicate (8 - length ds) 48 ++ ds
unfolding padded_integral char_count
padded_eight ds = let e : 8 - length ds - 0 - 0 ≡ 8 - length ds = omega arith in simp (e, append-nil)

-- texts of values, joined
pub join_by-map : {X : Type 0} (f : X → List ℕ) (sep : List ℕ) (xs : List X) → join_by f sep xs ≡ join_by (λ x. x) sep (map f xs)
join_by-map f sep [] = refl
join_by-map f sep (x ∷ xs) = ap (λ rest. f x ++ rest) (sym (flat_map-map (λ y. sep ++ y) f xs))

-- no name
pub listed_none : {X : Type 0} (f : X → List ℕ) (xs : List X) → length xs ≡ 0 → listed (map f xs) ≡ codes "-"
listed_none f [] none = refl
listed_none f (x ∷ xs) none = absurd (omega arith)

-- some names
pub listed_some : {X : Type 0} (f : X → List ℕ) (xs : List X) → ¬ (length xs ≡ 0) → listed (map f xs) ≡ join_by f (codes ",") xs
listed_some f [] some = absurd (some refl)
listed_some f (x ∷ xs) some = sym (join_by-map f (codes ",") (x ∷ xs))

pub ruleset listing = (listed_none, listed_some)

-- the names of the flags that a set has, by the flags' rows
named_of : (rights : ℕ) (flags : List (Flag Rights)) → map (λ (name : Bor (List ℕ)). name.now) (map (λ (flag : Flag Rights). flag.name) (filter (λ flag. has_all rights flag.value.0) flags))
    ≡ map (λ (row : List ℕ × ℕ). row.0) (filter (λ row. has_all rights row.1) (map (λ flag. (flag.name.now, flag.value.0)) flags))
named_of rights [] = refl
named_of rights (flag ∷ flags) =
    elim (has_all rights flag.value.0) as (λ b. map (λ (name : Bor (List ℕ)). name.now) (map (λ (flag : Flag Rights). flag.name) (cond b (flag ∷ filter (λ flag. has_all rights flag.value.0) flags) (filter (λ flag. has_all rights flag.value.0) flags)))
    ≡ map (λ (row : List ℕ × ℕ). row.0) (cond b ((flag.name.now, flag.value.0) ∷ filter (λ row. has_all rights row.1) (map (λ flag. (flag.name.now, flag.value.0)) flags)) (filter (λ row. has_all rights row.1) (map (λ flag. (flag.name.now, flag.value.0)) flags)))) [
      | true ↦ ap (λ rest. flag.name.now ∷ rest) (named_of rights flags)
      | false ↦ named_of rights flags
    ]

-- the names of the rights in a set, where the flags are those of the rights
pub right_names_of : (rights : ℕ) (flags : List (Flag Rights)) → map (λ flag. (flag.name.now, flag.value.0)) flags ≡ names
    → map (λ (name : Bor (List ℕ)). name.now) (map (λ (flag : Flag Rights). flag.name) (filter (λ flag. has_all rights flag.value.0) flags)) ≡ right_names rights
unfolding right_names
right_names_of rights flags e = named_of rights flags ∙ ap (λ rows. map (λ (row : List ℕ × ℕ). row.0) (filter (λ row. has_all rights row.1) rows)) e
