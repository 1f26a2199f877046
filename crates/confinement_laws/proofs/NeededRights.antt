-- Where a call needs a right by which trees are changed, of a descriptor that has all that is needed of it, the descriptor has the right.
--     none_stands      no other right may stand in place of one of these that a call needs
--     meant_of_written      so a descriptor by which a call writes a tree has one of these rights, or passes one on
use Rattle.std.proofs.Common.{◌≡◌, inl, inr, ℕ, ◌-◌, ◌^◌, ◌<◌, ◌&&◌, ◌==◌, not, Bool, true, false, cond, List, [], ◌∷◌, refl, sym, ap, subst, ◌∙◌, arith, rules}
use Rattle.std.proofs.lemmas.Bool.{eqb-true}
use Rattle.std.proofs.lemmas.Bool.Decides.{eqb_tells}
use Rattle.std.proofs.lemmas.Nat.{and_le_l}
use Rattle.std.proofs.lemmas.Nat.Bits.{bit_at_above, bit_at-zero}
use Rattle.std.specs.Int.{bit_at}
use Rattle.std.specs.Prelude.{bit_and}
use Rattle.std.specs.List.{AllByRecursion}
use Rattle.abi_base.proofs.Bits.{has-meet}
use Rattle.abi_base.specs.Rights.{Has, has_all, minus_of}
use Rattle.abi_base.specs.declared.rights.Rights.{Rights}
use Rattle.abi_base.specs.declared.rights.TheConstants.Rights.{FD_SEEK, FD_TELL}
use Rattle.abi_structures.specs.declared.events.Subscription.{Subscription}
use Rattle.abi_structures.specs.declared.events.What.{What}
use Rattle.abi_structures.specs.declared.events.What.TheVariants.{FdRead, FdWrite, ProcTerminate}
use Rattle.abi_types.specs.Families.{is_anonymous}
use Rattle.abi_types.specs.declared.call.Call.{Call}
use Rattle.abi_types.specs.declared.call.Call.TheVariants as call
use Rattle.abi_types.specs.declared.descriptor.Descriptor.{Descriptor}
use Rattle.abi_types.specs.declared.needed.Needed.{Needed}
use Rattle.abi_types.specs.declared.open_kind.OpenKind.{OpenKind}
use Rattle.abi_types.specs.declared.open_kind.OpenKind.TheVariants.{File, Directory, End, Terminal, Process}
use Rattle.abi_types.specs.declared.who.Who.{Who}
use Rattle.kernel_model.specs.Calls.{need}
use Rattle.kernel_model.specs.Families.FileMeaning.{on_open}
use Rattle.kernel_model.specs.Families.MemoryCalls.{map_row, map_zeros, mapping}
use Rattle.kernel_model.specs.Families.WaitCalls.{wait_row, wait_rows}
use Rattle.kernel_model.specs.Fits.{HasRightsOf, fits, fits_inheriting}
use Rattle.kernel_model.specs.Meaning.{Meaning}
use Rattle.kernel_model.specs.Need.{has_instead, has_needed, lack_base, lack_inheriting}
use Rattle.kernel_model.specs.Rows.{base_row, either_row}
use Rattle.kernel_model.specs.State.{State, Part}
use Rattle.kernel_model.specs.Valid.{IsValid}
use Rattle.kernel_model.proofs.FoundOpens.{fits_small, lacks_none, open_there, zero_or_one}
use Rattle.kernel_model.proofs.Lists.{in_all}
use Rattle.kernel_model.proofs.Tests.{not_true}
use Rattle.confinement_laws.specs.Leading.{IsWriting, MayWrite, writing_rights}
use Rattle.confinement_laws.specs.Untouched.{IsWrittenBy}

-- ---- the rights by which trees are changed

-- none of them is numbered 64 or more
all_small : AllByRecursion (λ (right : Rights). right.0 < 2 ^ 64) writing_rights
all_small = search rules

writing_below : (k : ℕ) → IsWriting k → k < 64
writing_below k w =
    let small : w.0.0 < 2 ^ 64 = in_all (λ (right : Rights). right.0 < 2 ^ 64) w.0 writing_rights all_small w.1 in
    elim (eqb_tells (64 - k) 0) [
      | inl past ↦ (
          let above : 64 - k ≡ 0 = past.1 in
          absurd (zero_or_one (bit_at w.0.0 k) (bit_at_above w.0.0 64 k small (omega (arith, above))) w.2))
      | inr within ↦ (let apart : (64 - k ≡ 0) → ⊥ = within.1 in omega (arith, apart))
    ]

-- and none is FD_TELL, for which FD_SEEK may stand
none_tells : AllByRecursion (λ (right : Rights). bit_and FD_TELL.0 right.0 ≡ 0) writing_rights
none_tells = search rules

no_tell : (k : ℕ) → IsWriting k → Has FD_TELL.0 k → ⊥
no_tell k w has =
    let none : bit_and FD_TELL.0 w.0.0 ≡ 0 = in_all (λ (right : Rights). bit_and FD_TELL.0 right.0 ≡ 0) w.0 writing_rights none_tells w.1 in
    zero_or_one (bit_at 0 k) (bit_at-zero k) (subst (λ n. Has n k) none ((has-meet FD_TELL.0 w.0.0 k).1 (has, w.2)))

-- ---- rows

-- where the row needs such a right, no other may stand in its place
abbrev NoneStands : Needed → Type 0
NoneStands row = (k : ℕ) → IsWriting k → Has row.base.0 k → row.instead.0 ≡ 0

-- in none of the rows may any other right stand in place of the one that is needed
abbrev none_instead : List Needed → Bool
none_instead [] = true
none_instead (row ∷ rows) = (row.instead.0 == 0) && none_instead rows

both_hold : (a b : Bool) → (a && b) ≡ true → (a ≡ true) × (b ≡ true)
both_hold true b h = (refl, h)
both_hold false b h = absurd (not_true h)

rows_stand : (rows : List Needed) → none_instead rows ≡ true → AllByRecursion NoneStands rows
rows_stand [] h = tt
rows_stand (row ∷ rows) h =
    let both = both_hold (row.instead.0 == 0) (none_instead rows) h in (λ k w has. eqb-true _ _ both.0, rows_stand rows both.1)

wait_stands : (what : What) (rows : List Needed) → none_instead rows ≡ true → none_instead (wait_row what rows) ≡ true
wait_stands (FdRead fd) rows h = h
wait_stands (FdWrite fd) rows h = h
wait_stands (ProcTerminate fd) rows h = h
wait_stands what rows h = h

waits_stand : (subscriptions : List Subscription) → none_instead (wait_rows subscriptions) ≡ true
waits_stand [] = refl
waits_stand (first ∷ rest) = wait_stands first.what (wait_rows rest) (waits_stand rest)

seek_stands : (fd : ℕ) (reports : Bool) → NoneStands (cond reports (either_row fd FD_TELL FD_SEEK) (base_row fd FD_SEEK))
seek_stands fd true k w has = absurd (no_tell k w has)
seek_stands fd false k w has = refl

map_stands : (anonymous : Bool) (zeros mapped : Meaning) → none_instead zeros.need ≡ true → none_instead mapped.need ≡ true
    → none_instead (cond anonymous zeros mapped).need ≡ true
map_stands true zeros mapped a b = a
map_stands false zeros mapped a b = b

none_stands : (c : Call) → AllByRecursion NoneStands (need c)
none_stands (call.FdSeek fd bits whence) = (seek_stands fd ((bits == 0) && (whence == 1)), tt)
none_stands (call.Poll subscriptions) = rows_stand (wait_rows subscriptions) (waits_stand subscriptions)
none_stands (call.MemMap place length prot flags fd offset) =
    rows_stand (need (call.MemMap place length prot flags fd offset))
    (map_stands (is_anonymous flags) (map_zeros place) (on_open (map_row fd prot) (mapping place length offset)) refl refl)
none_stands c = rows_stand (need c) refl

-- ---- a descriptor that has what is needed

inheriting_small : (kind : OpenKind) → fits_inheriting kind < 2 ^ 64
inheriting_small (File node offset flags) = omega arith
inheriting_small (Directory node flags) = omega arith
inheriting_small (End reads writes flags form) = omega arith
inheriting_small (Terminal which flags) = omega arith
inheriting_small (Process p object) = omega arith

base_of : (d : Descriptor) (kind : OpenKind) → HasRightsOf d kind → d.base.0 < 2 ^ 64
base_of d kind rights =
    let same : bit_and (fits kind) d.base.0 ≡ d.base.0 = eqb-true _ _ rights.0 in
    let most = and_le_l (fits kind) d.base.0 in
    let small = fits_small kind in
    omega (arith, same, most, small)

inheriting_of : (d : Descriptor) (kind : OpenKind) → HasRightsOf d kind → d.inheriting.0 < 2 ^ 64
inheriting_of d kind rights =
    let same : bit_and (fits_inheriting kind) d.inheriting.0 ≡ d.inheriting.0 = eqb-true _ _ rights.1 in
    let most = and_le_l (fits_inheriting kind) d.inheriting.0 in
    let small = inheriting_small kind in
    omega (arith, same, most, small)

has_base : (d : Descriptor) (row : Needed) (k : ℕ) → d.base.0 < 2 ^ 64 → k < 64 → row.instead.0 ≡ 0 → has_needed d row ≡ true → Has row.base.0 k
    → Has d.base.0 k
has_base d row k small below alone has needs =
    let none = eqb-true _ _ (both_hold ((lack_base d row).0 == 0) ((lack_inheriting d row).0 == 0) has).0 in
    let instead : has_instead d row ≡ false = ap (λ n. not (n == 0) && has_all d.base.0 n) alone in
    lacks_none row.base.0 d.base.0 k small below (sym (ap (λ b. cond b 0 (minus_of row.base.0 d.base.0)) instead) ∙ none) needs

has_inheriting : (d : Descriptor) (row : Needed) (k : ℕ) → d.inheriting.0 < 2 ^ 64 → k < 64 → has_needed d row ≡ true → Has row.inheriting.0 k
    → Has d.inheriting.0 k
has_inheriting d row k small below has needs =
    lacks_none row.inheriting.0 d.inheriting.0 k small below
    (eqb-true _ _ (both_hold ((lack_base d row).0 == 0) ((lack_inheriting d row).0 == 0) has).1) needs

pub meant_of_written : (S : State) (who : Who) (c : Call) (part : Part) → IsValid S → (w : IsWrittenBy S who c part) → MayWrite w.d.base w.d.inheriting
meant_of_written S who c part valid w =
    let opened = open_there S valid.nearly who.pid w.row.fd w.table w.d w.own w.there in
    let below = writing_below w.k w.writing in
    let alone : NoneStands w.row = in_all NoneStands w.row (need c) (none_stands c) w.asked in
    record {
      k = w.k;
      writing = w.writing;
      has = elim w.needs [
        | inl base ↦ inl (has_base w.d w.row w.k (base_of w.d opened.0 opened.2) below (alone w.k w.writing base) w.has base)
        | inr inheriting ↦ inr (has_inheriting w.d w.row w.k (inheriting_of w.d opened.0 opened.2) below w.has inheriting)
      ];
    }
