use Rattle.std.proofs.Common.{◌≡◌, None, subst, sym, ap, arith, ◌∙◌}
use Rattle.elf_image.specs.Checks.{fault_of}
use Rattle.elf_image.specs.Image.{image}
use Rattle.rv_asm.specs.ElfFile.{HasHeaders, one_segment}
use Rattle.rv_asm.proofs.ElfHeaders.{has_headers}
use Rattle.rv_asm.proofs.ElfLoading.{is_program, program_loads}
use Rattle.rv_asm.proofs.elf_file.write_elf.Goals as goal

pub returns-clause-headers : goal.returns-clause-headers
returns-clause-headers c =
    let same = c.from_vec.ensures ∙ c.in_ok-elf_bytes.ensures in
    subst (λ file. HasHeaders file c.args.code.now c.args.at c.args.flags) (sym same)
    (has_headers c.args.code.now c.args.at c.args.flags (omega arith) (omega arith) (omega arith))

pub returns-clause-program : goal.returns-clause-program
returns-clause-program c =
    let same = c.from_vec.ensures ∙ c.in_ok-elf_bytes.ensures in
    let has = has_headers c.args.code.now c.args.at c.args.flags (omega arith) (omega arith) (omega arith) in
    λ program. subst (λ file. (fault_of file ≡ None) × (image file ≡ one_segment c.args.code.now c.args.at)) (sym same)
    (program_loads c.args.code.now c.args.at c.args.flags has program)

pub returns-clause-only : goal.returns-clause-only
returns-clause-only c =
    let same = c.from_vec.ensures ∙ c.in_ok-elf_bytes.ensures in
    let has = has_headers c.args.code.now c.args.at c.args.flags (omega arith) (omega arith) (omega arith) in
    λ none. is_program c.args.code.now c.args.at c.args.flags has (sym (ap fault_of same) ∙ none)
