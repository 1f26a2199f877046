-- The rights of a descriptor that is held are words of 64 bits.
--     held_lacks_exactly      so what is missing of it is exact
use Rattle.std.proofs.Common.{◌≡◌, ℕ, ◌^◌, ◌<◌, ◌≤◌, ◌==◌, true, false, cond, List, None, Some, bit_and, arith}
use Rattle.std.proofs.lemmas.Bool.{eqb-true}
use Rattle.std.proofs.lemmas.Nat.{and_le_l}
use Rattle.abi_base.specs.Grants.{stream_rights}
use Rattle.abi_base.specs.Rights.{has_all}
use Rattle.tree_model.specs.Grants.{MayBegin}
use Rattle.abi_types.specs.declared.descriptor.Descriptor.{Descriptor}
use Rattle.abi_types.specs.declared.needed.Needed.{Needed}
use Rattle.abi_types.specs.declared.open_kind.OpenKind.{OpenKind}
use Rattle.abi_types.specs.declared.open_kind.OpenKind.TheVariants.{Directory, End, File, Process, Terminal}
use Rattle.run_types.specs.declared.history.Entry.{Entry}
use Rattle.run_types.specs.declared.launch.Launch.{Launch}
use Rattle.kernel_model.specs.Fits.{fits, fits_inheriting}
use Rattle.kernel_model.proofs.FoundOpens.{open_there}
use Rattle.run_model.specs.Legal.{Legal}
use Rattle.run_model.specs.World.{world}
use Rattle.run_model.proofs.Worlds.{world_is_valid}
use Rattle.authority_laws.specs.Recorded.{ledger}
use Rattle.authority_laws.proofs.Histories.{ledger_reports}
use Rattle.confinement_laws.specs.Headline.{LacksExactly}
use Rattle.confinement_laws.proofs.Missing.{missing_is_exact}

-- ---- the rights of types

stream_is_word : (which : ℕ) → stream_rights which < 2 ^ 64
stream_is_word which = elim (which == 0) as (λ b. cond b 0x1008000a 0x10080048 < 2 ^ 64) [ true ↦ omega arith | false ↦ omega arith ]

fits_is_word : (kind : OpenKind) → fits kind < 2 ^ 64
fits_is_word (File node offset flags) = omega arith
fits_is_word (Directory node flags) = omega arith
fits_is_word (End (Some reads) (Some writes) flags form) = omega arith
fits_is_word (End (Some reads) None flags form) = omega arith
fits_is_word (End None writes flags form) = omega arith
fits_is_word (Terminal which flags) = stream_is_word which
fits_is_word (Process p object) = omega arith

inheriting_is_word : (kind : OpenKind) → fits_inheriting kind < 2 ^ 64
inheriting_is_word (Directory node flags) = omega arith
inheriting_is_word _ = omega arith

-- rights that are all among a word's are a word
among_word : (all rights : ℕ) → all < 2 ^ 64 → has_all all rights ≡ true → rights < 2 ^ 64
among_word all rights small has =
    let same : bit_and all rights ≡ rights = eqb-true (bit_and all rights) rights has in
    let most : bit_and all rights ≤ all = and_le_l all rights in
    omega (arith, same, most, small)

-- ---- what is held

pub held_lacks_exactly : (launch : Launch) (front : List Entry) → MayBegin launch.tree launch.grants → Legal launch front → (p n : ℕ) (d : Descriptor)
    → (ledger launch front).held p n ≡ Some d → (row : Needed) → LacksExactly d row
held_lacks_exactly launch front begins legal p n d held row =
    let at = (ledger_reports launch front begins legal).held p n d held in
    let of = open_there (world launch front).state (world_is_valid launch front begins legal).nearly p n at.1 d at.2 at.3 in
    missing_is_exact d row (among_word (fits of.0) d.base.0 (fits_is_word of.0) of.2.0)
    (among_word (fits_inheriting of.0) d.inheriting.0 (inheriting_is_word of.0) of.2.1)
