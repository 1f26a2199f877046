-- The arguments can be encoded, and have one encoding.
use Rattle.std.proofs.Common.{sym, subst}
use Rattle.std.specs.Prelude.{IfOk, Result, Ok, Err}
use Rattle.argdata_codec.specs.Encoding.{Encodes, CanBeEncoded}
use Rattle.argdata_codec.specs.Writing.{encoding}
use Rattle.argdata_codec.proofs.Encoded.{is_encoded}
use Rattle.argdata_codec.proofs.Only.{one_encoding}
use Rattle.launch_values.specs.Views.{shape_of}
use Rattle.launch_plan.specs.Values.{value_of}
use Rattle.launch_plan.proofs.Soundness.{can_be_encoded}
use Rattle.launch_plan.proofs.planning.argdata.Goals as goal

on_ok : {X E : Type 0} {P Q : X → Type 0} (r : Result X E) → ((x : X) → P x → Q x) → IfOk r P → IfOk r Q
on_ok (Ok x) f h = f x h
on_ok (Err e) f h = tt

pub encode-requires : goal.encode-requires
encode-requires c =
    subst CanBeEncoded (sym c.in_ok-argument.ensures.value) (can_be_encoded (shape_of c.args.root.now) c.requires.document c.requires.few)

pub returns : goal.returns
returns c =
    on_ok c.encode.result (λ bytes encoded. one_encoding _ bytes _ encoded (subst (λ x. Encodes x (encoding (value_of 0 (shape_of c.args.root.now)))) (sym c.in_ok-argument.ensures.value)
    (is_encoded (value_of 0 (shape_of c.args.root.now)) (can_be_encoded (shape_of c.args.root.now) c.requires.document c.requires.few).1))) c.encode.ensures
