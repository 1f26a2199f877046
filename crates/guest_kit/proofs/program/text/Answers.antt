use Rattle.std.proofs.Common.{◌++◌, ap, ap₂, ◌∙◌}
use Rattle.guest_kit.specs.Programs.{program_text}
use Rattle.guest_kit.specs.declared.program_text.TheConstants.{START, PARENT, CHILD, ROUTINES}
use Rattle.guest_kit.proofs.program.text.Goals as goal

pub returns : goal.returns
unfolding program_text
returns c =
    let start = c.in_ok-push_str.ensures.bytes ∙ ap (λ bs. bs ++ START.now) c.new-text.ensures.bytes in
    let number = c.in_ok-push_str-2.ensures.bytes ∙ ap₂ (λ bs ds. bs ++ ds) start c.format.ensures.text in
    let parent = c.in_ok-push_str-3.ensures.bytes ∙ ap (λ bs. bs ++ PARENT.now) number in
    let child = c.in_ok-push_str-4.ensures.bytes ∙ ap (λ bs. bs ++ CHILD.now) parent in
    c.in_ok-push_str-5.ensures.bytes ∙ ap (λ bs. bs ++ ROUTINES.now) child
