-- What is missing of a descriptor, bit by bit.
--     missing_is_exact      the law
use Rattle.std.proofs.Common.{◌↔◌, sym, ap, subst, cond}
use Rattle.abi_base.specs.Rights.{Has, minus_of}
use Rattle.abi_base.proofs.Bits.{has-minus}
use Rattle.confinement_laws.specs.Laws.{MissingIsExact}

pub missing_is_exact : MissingIsExact
missing_is_exact d row base inheriting = record {
  base = λ none k below.
      subst (λ rights. Has rights k ↔ (Has row.base.0 k × ¬ Has d.base.0 k)) (sym (ap (λ b. cond b 0 (minus_of row.base.0 d.base.0)) none))
      (has-minus row.base.0 d.base.0 k base below);
  inheriting = λ k below. has-minus row.inheriting.0 d.inheriting.0 k inheriting below;
}
