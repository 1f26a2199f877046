-- How many bytes a line takes.
use Rattle.std.specs.Prelude.{ℕ, List, length, Option, None, Some, option_map}
use Rattle.rv_syntax.specs.declared.form.Form.{Form}
use Rattle.rv_syntax.specs.declared.form.Form.TheVariants.{Byte, Word, Dword, Zero, Ascii, La}
use Rattle.rv_asm.specs.Directives.{zeros_of, quoted_of}

-- a number, or 0 where there is none
abbrev pub or_zero : Option ℕ → ℕ
or_zero None = 0
or_zero (Some n) = n

-- how many bytes a form with these operands takes
abbrev pub size_of_form : Form → List ℕ → ℕ
size_of_form Byte text = 1
size_of_form Word text = 4
size_of_form Dword text = 8
size_of_form Zero text = or_zero (zeros_of text)
size_of_form Ascii text = or_zero (option_map (λ inner. length inner) (quoted_of text))
size_of_form La text = 8
size_of_form form text = 4

abbrev pub size_in : Option Form → List ℕ → ℕ
size_in None text = 0
size_in (Some form) text = size_of_form form text
