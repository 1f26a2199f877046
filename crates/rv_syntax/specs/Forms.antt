-- Forms: directives, and those whose operation has the form's operands.
use Rattle.std.specs.Prelude.{Bool, true, false}
use Rattle.rv_syntax.specs.declared.form.Form.{Form}
use Rattle.rv_syntax.specs.declared.form.Form.TheVariants.{Registers, Immediate, Shift, WordShift, Offset, Store, Upper, Branch, Reserve, Atomic, Plain, Byte, Word, Dword, Zero, Ascii}
use Rattle.rv_words.specs.Ops.{is_register, is_immediate, is_shift, is_word_shift, is_store, is_upper, is_branch, is_atomic, is_reserve, is_plain}

-- whether a form's operation is one of those that have the form's operands
abbrev pub is_fit : Form → Bool
is_fit (Registers op) = is_register op
is_fit (Immediate op) = is_immediate op
is_fit (Shift op) = is_shift op
is_fit (WordShift op) = is_word_shift op
is_fit (Offset op) = is_immediate op
is_fit (Store op) = is_store op
is_fit (Upper op) = is_upper op
is_fit (Branch op) = is_branch op
is_fit (Reserve op order) = is_reserve op
is_fit (Atomic op order) = is_atomic op
is_fit (Plain op) = is_plain op
is_fit _ = true

-- whether a form is a directive, which may be placed anywhere
abbrev pub is_directive : Form → Bool
is_directive Byte = true
is_directive Word = true
is_directive Dword = true
is_directive Zero = true
is_directive Ascii = true
is_directive _ = false
