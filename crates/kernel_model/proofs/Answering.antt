-- The meanings of calls that only answer, and of one that isn't offered, are proper.
use Rattle.std.proofs.Common.{◌≡◌, ◌⊎◌, inl, inr, ℕ, List, [], ◌∷◌, None, refl}
use Rattle.std.specs.FinMap.{get}
use Rattle.std.specs.List.{AllByRecursion}
use Rattle.abi_base.specs.declared.errno.Errno.{Errno}
use Rattle.abi_base.specs.declared.errno.Errno.TheVariants.{Success, Nosys}
use Rattle.abi_types.specs.declared.needed.Needed.{Needed}
use Rattle.abi_types.specs.declared.reply.Reply.{Reply}
use Rattle.kernel_model.specs.Meaning.{answering, unbuilt, unbuilt_naming}
use Rattle.kernel_model.specs.Proper.{IsIn, IsProper, NeedsOf}
use Rattle.kernel_model.specs.Families.DescriptorCalls.{needing}
use Rattle.kernel_model.specs.Rows.{base_row}
use Rattle.abi_base.specs.declared.rights.Rights.{Rights}
use Rattle.kernel_model.specs.Reply.{refused, success}
use Rattle.kernel_model.specs.Families.WaitCalls.{fds_of}
use Rattle.kernel_model.proofs.Lists.{all_weaker, in_more}
use Rattle.kernel_model.proofs.Parts.{own_stays}
use Rattle.kernel_model.proofs.Tests.{not_true}

-- the rows' descriptors are named, and a right is needed of each that is seen
abbrev AreNamed : List ℕ → List Needed → Type 0
AreNamed named need = AllByRecursion (λ (row : Needed). IsIn row.fd named) need

abbrev AreNeeded : List Needed → List ℕ → Type 0
AreNeeded need seen = AllByRecursion (NeedsOf need) seen

-- a call that answers this once no descriptor and no right is missing, and changes nothing
replying_is_proper : (named : List ℕ) (need : List Needed) (seen : List ℕ) (errors : List Errno) (reply : Reply) → AreNamed named need → AreNeeded need seen
    → reply.denial ≡ None → (reply.errno ≡ Success) ⊎ IsIn reply.errno errors
    → IsProper (record (answering errors reply) { named = named; need = need; seen = seen })
replying_is_proper named need seen errors reply names sees plain listed = record {
  names = names;
  sees = all_weaker (NeedsOf need) _ (λ fd needs. inl needs) seen sees;
  reads = λ constants S who table. refl;
  walks = λ S who table. refl;
  sets = λ constants S who table part h. refl;
  touched = λ S table part h. absurd (not_true h);
  plain = λ constants v who table. (plain, elim listed [ inl done ↦ inl done | inr here ↦ inr (refl, here) ]);
  waits = λ h. absurd (not_true h);
  lacks = λ h. absurd (not_true h);
  others = λ constants v who table q apart _. (refl, refl);
  own = λ constants S who table. inl (own_stays (get S.processes who.pid));
  allows = λ constants S who table. tt;
  carries = λ constants S who table nearly. tt;
  valid = λ constants S who table there nearly. nearly;
}

pub answering_is_proper : (errors : List Errno) (reply : Reply) → reply.denial ≡ None → (reply.errno ≡ Success) ⊎ IsIn reply.errno errors
    → IsProper (answering errors reply)
answering_is_proper errors reply plain listed = replying_is_proper [] [] [] errors reply tt tt plain listed

-- ---- a call that isn't offered

unbuilt_is_proper : (named : List ℕ) (need : List Needed) (seen : List ℕ) → AreNamed named need → AreNeeded need seen → IsProper (unbuilt named need seen)
unbuilt_is_proper named need seen names sees = replying_is_proper named need seen (Nosys ∷ []) (refused Nosys) names sees refl (inr ([], [], refl))

pub naming_is_proper : (fds : List ℕ) → IsProper (unbuilt_naming fds)
naming_is_proper fds = unbuilt_is_proper fds [] [] tt tt

-- the rows' own descriptors
fds_named : (rows : List Needed) → AreNamed (fds_of rows) rows
fds_named [] = tt
fds_named (row ∷ rows) = (
  ([], fds_of rows, refl),
  all_weaker (λ (other : Needed). IsIn other.fd (fds_of rows)) (λ other. IsIn other.fd (row.fd ∷ fds_of rows))
      (λ other here. in_more other.fd row.fd (fds_of rows) here) rows (fds_named rows),
)

needed_more : (row : Needed) (rows : List Needed) (fd : ℕ) → NeedsOf rows fd → NeedsOf (row ∷ rows) fd
needed_more row rows fd h = (h.0, in_more h.0 row rows h.1, h.2)

fds_needed : (rows : List Needed) → AreNeeded rows (fds_of rows)
fds_needed [] = tt
fds_needed (row ∷ rows) = (
  (row, ([], rows, refl), refl),
  all_weaker (NeedsOf rows) (NeedsOf (row ∷ rows)) (needed_more row rows) (fds_of rows) (fds_needed rows),
)

pub each_row_is_proper : (rows : List Needed) → IsProper (unbuilt (fds_of rows) rows (fds_of rows))
each_row_is_proper rows = unbuilt_is_proper (fds_of rows) rows (fds_of rows) (fds_named rows) (fds_needed rows)

-- a call that needs base rights of one descriptor, and does no more
pub needing_is_proper : (fd : ℕ) (base : Rights) → IsProper (needing fd base)
needing_is_proper fd base =
    replying_is_proper (fd ∷ []) (base_row fd base ∷ []) (fd ∷ []) [] (success 0 0) (([], [], refl), tt) ((base_row fd base, ([], [], refl), refl), tt) refl (inl refl)
