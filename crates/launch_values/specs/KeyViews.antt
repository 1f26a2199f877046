-- A key of the program as the value that it means.
use Rattle.std.specs.Prelude.{List, []}
use Rattle.std.proofs.Common.{ap}
use Rattle.std.specs.Coded.{Coded, code_by, coded_ℕ, coded_ℤ, coded_list, coded×}
use Rattle.launch_values.specs.declared.key.Key.{Key}
use Rattle.launch_values.specs.declared.key.Key.TheVariants as keys
use Rattle.launch_values.specs.Shape.{Content, null, boolean, integer, text, content_of}
use Rattle.launch_values.specs.Code.{Part, content_parts, nodes_of_parts, first_or_null, again_content}

abbrev pub content_of_key : Key → Content
content_of_key keys.Null = null
content_of_key (keys.Bool b) = boolean b
content_of_key (keys.Int i) = integer i
content_of_key (keys.Str bytes) = text bytes.items

-- the code of a value: that of a node, without the node's own part
abbrev pub content_code : Coded Content
content_code =
    code_by (List Part) (coded_list (coded× coded_ℕ (coded× coded_ℤ (coded_list coded_ℕ)))) (λ c. content_parts c [])
    (λ ps. content_of (first_or_null (nodes_of_parts ps)))
    (λ c. ap (λ xs. content_of (first_or_null xs)) (again_content c []))
