-- The mnemonics, and what each stands for.
use Rattle.std.specs.Prelude.{ℕ, List, [], ◌∷◌, Option, None, Some, option_map, cond, codes}
use Rattle.std.specs.Str.{bytes_eq}
use Rattle.rv_code.specs.declared.instr.Op.{Op}
use Rattle.rv_code.specs.declared.instr.Op.TheVariants as op
use Rattle.rv_syntax.specs.declared.form.Form.{Form}
use Rattle.rv_syntax.specs.declared.form.Form.TheVariants.{Registers, Immediate, Shift, WordShift, Offset, Store, Upper, Branch, Jump, Reserve, Atomic, Plain, La, Byte, Word, Dword, Zero, Ascii}
use Rattle.rv_words.specs.declared.order.Order.{Order}
use Rattle.rv_words.specs.declared.order.Order.TheVariants.{Relaxed, Release, Acquire, AcquireRelease}
use Rattle.rv_syntax.specs.Chain.{◌>>=◌}
use Rattle.rv_syntax.specs.Names.{lookup}
use Rattle.rv_syntax.specs.Text.{split_at}

-- the mnemonics but those of atomic instructions
abbrev pub mnemonics : List (List ℕ × Form)
mnemonics =
    (codes "add", Registers op.Add) ∷
    (codes "sub", Registers op.Sub) ∷
    (codes "sll", Registers op.Sll) ∷
    (codes "slt", Registers op.Slt) ∷
    (codes "sltu", Registers op.Sltu) ∷
    (codes "xor", Registers op.Xor) ∷
    (codes "srl", Registers op.Srl) ∷
    (codes "sra", Registers op.Sra) ∷
    (codes "or", Registers op.Or) ∷
    (codes "and", Registers op.And) ∷
    (codes "mul", Registers op.Mul) ∷
    (codes "mulh", Registers op.Mulh) ∷
    (codes "mulhsu", Registers op.Mulhsu) ∷
    (codes "mulhu", Registers op.Mulhu) ∷
    (codes "div", Registers op.Div) ∷
    (codes "divu", Registers op.Divu) ∷
    (codes "rem", Registers op.Rem) ∷
    (codes "remu", Registers op.Remu) ∷
    (codes "addw", Registers op.Addw) ∷
    (codes "subw", Registers op.Subw) ∷
    (codes "sllw", Registers op.Sllw) ∷
    (codes "srlw", Registers op.Srlw) ∷
    (codes "sraw", Registers op.Sraw) ∷
    (codes "mulw", Registers op.Mulw) ∷
    (codes "divw", Registers op.Divw) ∷
    (codes "divuw", Registers op.Divuw) ∷
    (codes "remw", Registers op.Remw) ∷
    (codes "remuw", Registers op.Remuw) ∷
    (codes "addi", Immediate op.Addi) ∷
    (codes "slti", Immediate op.Slti) ∷
    (codes "sltiu", Immediate op.Sltiu) ∷
    (codes "xori", Immediate op.Xori) ∷
    (codes "ori", Immediate op.Ori) ∷
    (codes "andi", Immediate op.Andi) ∷
    (codes "addiw", Immediate op.Addiw) ∷
    (codes "slli", Shift op.Slli) ∷
    (codes "srli", Shift op.Srli) ∷
    (codes "srai", Shift op.Srai) ∷
    (codes "slliw", WordShift op.Slliw) ∷
    (codes "srliw", WordShift op.Srliw) ∷
    (codes "sraiw", WordShift op.Sraiw) ∷
    (codes "lb", Offset op.Lb) ∷
    (codes "lh", Offset op.Lh) ∷
    (codes "lw", Offset op.Lw) ∷
    (codes "ld", Offset op.Ld) ∷
    (codes "lbu", Offset op.Lbu) ∷
    (codes "lhu", Offset op.Lhu) ∷
    (codes "lwu", Offset op.Lwu) ∷
    (codes "jalr", Offset op.Jalr) ∷
    (codes "sb", Store op.Sb) ∷
    (codes "sh", Store op.Sh) ∷
    (codes "sw", Store op.Sw) ∷
    (codes "sd", Store op.Sd) ∷
    (codes "lui", Upper op.Lui) ∷
    (codes "auipc", Upper op.Auipc) ∷
    (codes "beq", Branch op.Beq) ∷
    (codes "bne", Branch op.Bne) ∷
    (codes "blt", Branch op.Blt) ∷
    (codes "bge", Branch op.Bge) ∷
    (codes "bltu", Branch op.Bltu) ∷
    (codes "bgeu", Branch op.Bgeu) ∷
    (codes "jal", Jump) ∷
    (codes "ecall", Plain op.Ecall) ∷
    (codes "ebreak", Plain op.Ebreak) ∷
    (codes "fence", Plain op.Fence) ∷
    (codes "fence.i", Plain op.FenceI) ∷
    (codes "la", La) ∷
    (codes ".byte", Byte) ∷
    (codes ".word", Word) ∷
    (codes ".dword", Dword) ∷
    (codes ".zero", Zero) ∷
    (codes ".ascii", Ascii) ∷
    []

-- the atomic instructions on words, by the first part of their mnemonics
abbrev pub word_atomics : List (List ℕ × Op)
word_atomics =
    (codes "lr", op.LrW) ∷
    (codes "sc", op.ScW) ∷
    (codes "amoswap", op.AmoswapW) ∷
    (codes "amoadd", op.AmoaddW) ∷
    (codes "amoxor", op.AmoxorW) ∷
    (codes "amoand", op.AmoandW) ∷
    (codes "amoor", op.AmoorW) ∷
    (codes "amomin", op.AmominW) ∷
    (codes "amomax", op.AmomaxW) ∷
    (codes "amominu", op.AmominuW) ∷
    (codes "amomaxu", op.AmomaxuW) ∷
    []

-- the atomic instructions on double words, by the first part of their mnemonics
abbrev pub double_atomics : List (List ℕ × Op)
double_atomics =
    (codes "lr", op.LrD) ∷
    (codes "sc", op.ScD) ∷
    (codes "amoswap", op.AmoswapD) ∷
    (codes "amoadd", op.AmoaddD) ∷
    (codes "amoxor", op.AmoxorD) ∷
    (codes "amoand", op.AmoandD) ∷
    (codes "amoor", op.AmoorD) ∷
    (codes "amomin", op.AmominD) ∷
    (codes "amomax", op.AmomaxD) ∷
    (codes "amominu", op.AmominuD) ∷
    (codes "amomaxu", op.AmomaxuD) ∷
    []

-- the orders, by the last part of a mnemonic
abbrev pub orders : List (List ℕ × Order)
orders = (codes "rl", Release) ∷ (codes "aq", Acquire) ∷ (codes "aqrl", AcquireRelease) ∷ []

-- what an atomic operation stands for, with its order
abbrev pub atomic_form : Order → Op → Form
atomic_form order op.LrW = Reserve op.LrW order
atomic_form order op.LrD = Reserve op.LrD order
atomic_form order operation = Atomic operation order

-- the form of an atomic instruction by the parts of its mnemonic: the operation's name, `w` or `d`, and the order
unfoldable pub atomic_at : List ℕ → List ℕ → Order → Option Form
atomic_at name width order =
    cond (bytes_eq width (codes "w")) (option_map (atomic_form order) (lookup word_atomics name))
    (cond (bytes_eq width (codes "d")) (option_map (atomic_form order) (lookup double_atomics name))
    None)

-- the form by the operation's name and what stands behind the full stop after it: the width, or the width, a full stop
-- and the order
abbrev pub atomic_ordered : List ℕ → List ℕ → Option (List ℕ × List ℕ) → Option Form
atomic_ordered name width None = atomic_at name width Relaxed
atomic_ordered name width (Some parts) = lookup orders parts.1 >>= atomic_at name parts.0

-- the form of an atomic instruction's mnemonic (46 is the full stop)
unfoldable pub atomic_of : List ℕ → Option Form
atomic_of mnemonic = split_at 46 mnemonic >>= λ parts. atomic_ordered parts.0 parts.1 (split_at 46 parts.1)

-- a form, or where there is none the other one
abbrev pub or_else : Option Form → Option Form → Option Form
or_else None other = other
or_else (Some form) other = Some form

-- what a mnemonic stands for; nothing, where it is none
unfoldable pub form_of : List ℕ → Option Form
form_of mnemonic = or_else (lookup mnemonics mnemonic) (atomic_of mnemonic)
