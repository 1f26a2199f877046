-- What is written to the standard streams and read from them.
use Rattle.std.proofs.Common.{◌≡◌, ℕ, List, [], take, drop, Some, sym, ap, ◌∙◌, arith}
use Rattle.std.proofs.lemmas.List.{length-take, take-append-drop}
use Rattle.std.specs.FinMap.{empty, insert}
use Rattle.abi_types.specs.declared.call.Call.TheVariants.{FdRead, FdWrite}
use Rattle.abi_types.specs.declared.constants.Constants.{Constants}
use Rattle.abi_types.specs.declared.stream.Stream.{Stream}
use Rattle.abi_types.specs.declared.who.Who.{Who}
use Rattle.maps.specs.Maps.{get-insert-same, get-insert-other}
use Rattle.kernel_model.specs.Families.ClockCalls.{real_time}
use Rattle.kernel_model.specs.Families.OpenMeaning.{at_descriptor}
use Rattle.kernel_model.specs.Families.StreamCalls.{read_open, read_term, write_open, write_term}
use Rattle.kernel_model.specs.Start.{unwritten}
use Rattle.kernel_model.specs.State.{State}
use Rattle.kernel_model.specs.Step.{outcome, tick}
use Rattle.kernel_model.specs.View.{whole}
use Rattle.transfer_laws.specs.StreamLaws.{HasStream, ReadsTakeFirst, StreamsBegin, WritesAppend}
use Rattle.transfer_laws.proofs.Outcomes.{answer_by, outcome_allowed, state_by}

write_outcome : (constants : Constants) (S : State) (who : Who) (fd which : ℕ) (bytes : List ℕ) (stream : Stream)
    → HasStream S who (FdWrite fd bytes) fd which stream → outcome constants S who (FdWrite fd bytes) ≡ write_term bytes which (Some stream)
write_outcome constants S who fd which bytes stream has =
    outcome_allowed constants S who (FdWrite fd bytes) has.table has.own has.allowed
    ∙ ap (λ d. at_descriptor (write_open (real_time constants (tick S).clock) (whole (tick S)) bytes) (whole (tick S)) d) has.there
    ∙ ap (λ kind. write_open (real_time constants (tick S).clock) (whole (tick S)) bytes has.d.id kind) has.opened
    ∙ ap (λ x. write_term bytes which x) has.stream_there

pub writes_append : WritesAppend
writes_append constants S who fd which bytes stream has =
    let is = write_outcome constants S who fd which bytes stream has in
    (answer_by constants S who (FdWrite fd bytes) _ is, state_by constants S who (FdWrite fd bytes) _ is)

read_outcome : (constants : Constants) (S : State) (who : Who) (fd which n : ℕ) (stream : Stream) → HasStream S who (FdRead fd n) fd which stream
    → outcome constants S who (FdRead fd n) ≡ read_term n which (Some stream)
read_outcome constants S who fd which n stream has =
    outcome_allowed constants S who (FdRead fd n) has.table has.own has.allowed
    ∙ ap (λ d. at_descriptor (read_open (whole (tick S)) n) (whole (tick S)) d) has.there
    ∙ ap (λ kind. read_open (whole (tick S)) n has.d.id kind) has.opened
    ∙ ap (λ x. read_term n which x) has.stream_there

pub reads_take_first : ReadsTakeFirst
reads_take_first constants S who fd which n stream has =
    let is = read_outcome constants S who fd which n stream has in (
      take n stream.left,
      drop n stream.left,
      record { first = sym (take-append-drop n stream.left); count = length-take n stream.left },
      answer_by constants S who (FdRead fd n) _ is,
      state_by constants S who (FdRead fd n) _ is,
    )

pub streams_begin : StreamsBegin
streams_begin = record {
  input = λ tree grants stdin.
      get-insert-other (insert (insert empty 0 (unwritten stdin)) 1 (unwritten [])) 2 (unwritten []) 0 (λ e. omega (arith, e))
      ∙ get-insert-other (insert empty 0 (unwritten stdin)) 1 (unwritten []) 0 (λ e. omega (arith, e)) ∙ get-insert-same empty 0 (unwritten stdin);
  output = λ tree grants stdin.
      get-insert-other (insert (insert empty 0 (unwritten stdin)) 1 (unwritten [])) 2 (unwritten []) 1 (λ e. omega (arith, e))
      ∙ get-insert-same (insert empty 0 (unwritten stdin)) 1 (unwritten []);
  error = λ tree grants stdin. get-insert-same (insert (insert empty 0 (unwritten stdin)) 1 (unwritten [])) 2 (unwritten []);
}
