-- A document that is read can be printed.
use Rattle.std.proofs.Common.{◌≡◌, ℕ, ◌==◌, Bool, true, false, ◌||◌, List, [], ◌∷◌, codes, Option, Some, None, Result, Ok, Err, subst}
use Rattle.std.specs.Prelude.{IfOk}
use Rattle.std.specs.List.{AllByRecursion, take_while}
use Rattle.lists.proofs.Steps.{on_bind, on_any}
use Rattle.launch_scalars.specs.Spaces.{is_one_of}
use Rattle.launch_values.specs.Documents.{IsDocument}
use Rattle.launch_values.specs.Shape.{Shape, Content, Shapes, Pairs, node, null, boolean, integer, text, binary, mapping, sequence, no_items, item, no_pairs, pair}
use Rattle.launch_values.specs.Tags.{ends_name}
use Rattle.launch_lines.specs.declared.fault.Fault.{Fault}
use Rattle.launch_lines.specs.Faults.{unless, beside}
use Rattle.launch_lines.specs.Lines.{lines, plain_fault}
use Rattle.launch_lines.specs.Rows.{Row, rows_from}
use Rattle.launch_yaml.specs.Document.{after_head, first_column, is_inside, root_of, after_document, body_of, document_of, parse_at}
use Rattle.launch_yaml.specs.Entries.{after_while}
use Rattle.launch_yaml.proofs.SoundRows.{parsed_is_document}
use Rattle.launch_laws.specs.PrintingLaws.{ReadIsEncodable, ReadIsPrintable}
use Rattle.launch_laws.specs.Printed.{IsTagOn, IsEncodable, IsEncodableRoot, IsEncodableValue, AreEncodableItems, AreEncodablePairs, HasFlowName, HasFlowNamesInside, NodeHasFlowNames, ItemsHaveFlowNames, PairsHaveFlowNames, HasFlowNames}
use Rattle.launch_laws.proofs.ReadRows.{on_unless, NodeRead, root_at_read}

-- ---- documents

root_is_read : (rows : List Row) → IfOk (root_of rows) NodeRead
root_is_read [] = (tt, tt)
root_is_read (r ∷ rows) = root_at_read r rows

body_is_read : (rows : List Row) → IfOk (body_of rows) NodeRead
body_is_read rows =
    let test = is_inside (first_column rows) in
    let further = λ (x : Shape). unless (after_document (after_while test rows)) (Ok x) in
    on_bind NodeRead NodeRead (root_of (take_while test rows)) further (root_is_read (take_while test rows)) (λ x h. on_unless NodeRead (after_document (after_while test rows)) (Ok x) h)

on_beside : (e : Option Fault) (r : Result Shape Fault) → IfOk r NodeRead → IfOk (beside e r) NodeRead
on_beside None r h = h
on_beside (Some e) (Ok x) h = tt
on_beside (Some e) (Err f) h = tt

document_is_read : (bytes : List ℕ) → IfOk (parse_at bytes) NodeRead
unfolding parse_at
document_is_read bytes = on_beside (plain_fault (lines bytes)) (document_of (rows_from 1 (lines bytes))) (on_any NodeRead (after_head (rows_from 1 (lines bytes))) body_of body_is_read)

-- ---- names in flow values

flow_ends : (name : List ℕ) → AllByRecursion (λ b. ends_name false b ≡ false) name → AllByRecursion (λ b. is_one_of (codes ",[]{}") b ≡ false) name → AllByRecursion (λ b. ends_name true b ≡ false) name
flow_ends [] h k = tt
flow_ends (b ∷ bs) h k = (neither (b == 32) (is_one_of (codes ",[]{}") b) h.0 k.0, flow_ends bs h.1 k.1)
  where
    neither : (t u : Bool) → (t || false) ≡ false → u ≡ false → (t || u) ≡ false
    neither true u p q = cc (p)
    neither false u p q = q

flow_tag : (tag : Option (List ℕ)) (value : Content) → IsTagOn false tag value → HasFlowName tag → IsTagOn true tag value
flow_tag None value h k = tt
flow_tag (Some name) value h k = ((h.0.0, h.0.1, h.0.2, flow_ends name h.0.3 k), h.1)

mutual
  flow_node : (x : Shape) → IsEncodable false x → NodeHasFlowNames x → IsEncodable true x
  flow_node (node line tag value) h k = (flow_tag tag value h.0 k.0, flow_value value h.1 k.1)

  flow_value : (value : Content) → IsEncodableValue false value → HasFlowNamesInside value → IsEncodableValue true value
  flow_value null h k = tt
  flow_value (boolean b) h k = tt
  flow_value (integer i) h k = tt
  flow_value (text bytes) h k = tt
  flow_value (binary bytes) h k = h
  flow_value (mapping ps) h k = (h.0, flow_pairs ps h.1 k)
  flow_value (sequence xs) h k = flow_items xs h k

  flow_items : (xs : Shapes) → AreEncodableItems false xs → ItemsHaveFlowNames xs → AreEncodableItems true xs
  flow_items no_items h k = tt
  flow_items (item x xs) h k = (flow_node x h.0 k.0, flow_items xs h.1 k.1)

  flow_pairs : (ps : Pairs) → AreEncodablePairs false ps → PairsHaveFlowNames ps → AreEncodablePairs true ps
  flow_pairs no_pairs h k = tt
  flow_pairs (pair x v ps) h k = (h.0, flow_node v h.1 k.0, flow_pairs ps h.2 k.1)

flow_root : (x : Shape) → IsEncodable false x → HasFlowNames x → IsEncodableRoot x
flow_root (node line tag value) h k = (h.0, flow_value value h.1 k)

-- ---- the whole

pub read_is_encodable : ReadIsEncodable
read_is_encodable bytes x e = (
  subst (λ (r : Result Shape Fault). IfOk r IsDocument) e (parsed_is_document bytes),
  subst (λ (r : Result Shape Fault). IfOk r NodeRead) e (document_is_read bytes),
)

pub read_is_printable : ReadIsPrintable
read_is_printable bytes x e names = let both = read_is_encodable bytes x e in (both.0, flow_root x both.1 names)
