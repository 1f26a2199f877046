use Rattle.std.proofs.Common.{refl, subst}
use Rattle.kernel_parts.proofs.Forgetting.{AreUsedBut, forgetting_none, forgetting_one}
use Rattle.kernel_parts.proofs.releasing.forget_nameless.Goals as goal

pub returns-in-Some : goal.returns-in-Some
returns-in-Some c =
    let kinds = c.args.objects.now.kinds in
    let t = c.args.tree.now in
    forgetting_one kinds t c.forget_unused.new.tree c.in-Some.node c.requires.tree (subst (AreUsedBut kinds t) c.in-Some.is c.requires.others)
    c.forget_unused.ensures.tree c.forget_unused.ensures.used c.forget_unused.ensures.absent c.forget_unused.ensures.unused

pub returns-in_default : goal.returns-in_default
returns-in_default c =
    let kinds = c.args.objects.now.kinds in
    let t = c.args.tree.now in
    forgetting_none kinds t t c.requires.tree (subst (AreUsedBut kinds t) c.in_default.is c.requires.others) refl
