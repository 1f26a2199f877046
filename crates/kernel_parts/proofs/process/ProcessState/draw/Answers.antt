use Rattle.std.proofs.Common.{◌≡◌, ℕ, ◌+◌, Some, refl, sym, ap, subst, ◌∙◌}
use Rattle.clock_random.specs.Random.{random_bytes, words_of}
use Rattle.abi_types.specs.declared.reply.Answer.TheVariants as answer
use Rattle.kernel_model.specs.Families.ClockCalls.{drawn_by, random_reply}
use Rattle.kernel_model.specs.Outcome.{Outcome, IsSuccess}
use Rattle.kernel_model.specs.OwnChanges.{drawn_more}
use Rattle.kernel_model.specs.State.{ProcessState}
use Rattle.kernel_parts.specs.OwnCalls.{own_after}
use Rattle.kernel_parts.specs.contracts.process.ProcessState.{the_view}
use Rattle.kernel_parts.proofs.Done.{own_lacked}
use Rattle.kernel_parts.proofs.OwnCalls.{drawn_with, not_drawn, words_are}
use Rattle.kernel_parts.proofs.process.ProcessState.draw.Goals as goal

pub returns-in_default : goal.returns-in_default
returns-in_default c =
    let own = c.args.self.now in
    let words : c.div_ceil.result ≡ words_of c.args.length = c.div_ceil.ensures ∙ words_are c.args.length in
    let none = not_drawn c.args.constants.now c.args.pid c.args.length c.div_ceil.result own words c.in_default.ensures in (
      ap answer.Reply c.refused.ensures ∙ sym (ap (λ (o : Outcome). o.answer) none),
      sym (ap (λ (o : Outcome). own_after o.updates own) none),
    )

pub returns : goal.returns
returns c =
    let own = c.args.self.now in
    let V : ProcessState = the_view c.self.inside in
    let key = c.args.constants.now.key in
    let length = c.args.length in
    let words : c.div_ceil.result ≡ words_of length = c.div_ceil.ensures ∙ words_are length in
    let drawn = drawn_with c.args.constants.now c.args.pid length c.div_ceil.result c.in-Some.after own words c.in-Some.ensures in
    let count : c.in-Some.after ≡ V.counts.words + words_of length = drawn.1 ∙ ap (λ (X : ProcessState). X.counts.words + words_of length) (sym c.self.view_is) in
    let bytes : c.in_ok-bytes.bytes ≡ random_bytes key c.args.pid own.counts.words length =
    c.in_ok-bytes.ensures ∙ ap (λ (stream : ℕ). random_bytes key stream V.counts.words length) c.pid.view_is
    ∙ ap (λ (X : ProcessState). random_bytes key c.args.pid X.counts.words length) c.self.view_is in (
      ap answer.Reply (c.success_with.ensures ∙ ap random_reply bytes) ∙ sym (ap (λ (o : Outcome). o.answer) drawn.0),
      (λ i. record V { counts = record V.counts { words = count i } }) ∙ ap (drawn_more (words_of length)) c.self.view_is
          ∙ sym (ap (λ (o : Outcome). own_after o.updates own) drawn.0),
    )

pub returns-in_err-bytes : goal.returns-in_err-bytes
returns-in_err-bytes c =
    let words : c.div_ceil.result ≡ words_of c.args.length = c.div_ceil.ensures ∙ words_are c.args.length in
    own_lacked (drawn_by c.args.constants.now c.args.pid (Some c.args.self.now) c.args.length) c.args.self.now _ c.from_residual.result c.from_residual.ensures.0
    (subst (λ (o : Outcome). IsSuccess o.answer) (sym (drawn_with c.args.constants.now c.args.pid c.args.length c.div_ceil.result c.in-Some.after c.args.self.now words c.in-Some.ensures).0) refl)
    refl
