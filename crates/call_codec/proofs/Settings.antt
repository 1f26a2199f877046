-- What file_stat_fput sets, where registers and memory encode it.
--     fput_sets_something      its flags have a size or a time
use Rattle.std.proofs.Common.{◌≡◌, ◌≢◌, ℕ, ◌==◌, ◌||◌, not, Bool, true, false, T, inl, inr, refl, sym, ap, subst, ◌∙◌}
use Rattle.std.proofs.lemmas.Bool.Decides.{eqb_tells}
use Rattle.std.specs.Int.RustNames.{bit_and}
use Rattle.abi_base.specs.Registers.{Registers}
use Rattle.abi_base.specs.declared.errno.Errno.TheVariants.{Inval}
use Rattle.abi_structures.specs.declared.structures.FileStat.{FileStat}
use Rattle.abi_types.specs.declared.call.Call.TheVariants.{FileStatFput}
use Rattle.codec_arguments.specs.Arguments.{argument, low}
use Rattle.codec_arguments.specs.Structures.{filestat_at}
use Rattle.codec_calls.specs.Flags.{has_unknown}
use Rattle.codec_files.specs.ByNode.{sets_wrongly}
use Rattle.codec_files.specs.declared.by_node.TheConstants.{ATIM_BOTH, MTIM_BOTH}
use Rattle.guest_memory.specs.Page.{Pages}
use Rattle.call_codec.specs.Arguments.{read_of}
use Rattle.call_codec.proofs.Calls.{IsEncodedBy}
use Rattle.call_codec.proofs.Readings.{not_refused, passed}

-- neither of two tests holds where not one of them does
neither : (a b : Bool) → (a || b) ≡ false → (a ≡ false) × (b ≡ false)
neither true b h = absurd (subst T h tt)
neither false b h = (refl, h)

-- flags that are known, and of which there are some, set a size or a time
some_set : (flags : ℕ) → has_unknown flags 31 ≡ false → (flags == 0) ≡ false → bit_and flags 31 ≢ 0
some_set flags known some none =
    elim (eqb_tells (bit_and flags 31) flags) [
      | inl same ↦
          let zero : flags ≡ 0 = sym same.1 ∙ none in
          let both : true ≡ false = sym (ap (λ n. n == 0) zero) ∙ some in
          absurd (subst T both tt)
      | inr other ↦
          let both : true ≡ false = sym (ap not other.0) ∙ known in
          absurd (subst T both tt)
    ]

fine_sets : (flags : ℕ) → sets_wrongly flags ≡ false → bit_and flags 31 ≢ 0
fine_sets flags fine =
    let last = neither _ (bit_and flags MTIM_BOTH == MTIM_BOTH) fine in
    let third = neither _ (bit_and flags ATIM_BOTH == ATIM_BOTH) last.0 in
    let first = neither (has_unknown flags 31) (flags == 0) third.0 in
    some_set flags first.0 first.1

pub fput_sets_something : (m : Pages) (r : Registers) (left : ℕ) (fd : ℕ) (stat : FileStat) (flags : ℕ) → IsEncodedBy m r left (FileStatFput fd stat flags)
    → bit_and flags 31 ≢ 0
unfolding read_of
fput_sets_something m r left fd stat flags is =
    let fine = not_refused (sets_wrongly (low (argument r 2))) Inval _ (FileStatFput fd stat flags) is in
    let read = passed (filestat_at m (argument r 1)) _ (FileStatFput fd stat flags) fine.1 in
    let same : low (argument r 2) ≡ flags = cc read.2 in
    subst (λ n. bit_and n 31 ≢ 0) same (fine_sets (low (argument r 2)) fine.0)
