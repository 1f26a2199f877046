use Rattle.std.proofs.Common.{ℕ, ◌<◌, Option, Some, None, IsSome, Bor, sym, ap, subst, ◌∙◌, arith}
use Rattle.std.specs.Option.{option_copied}
use Rattle.page_table.proofs.Indexes.{IsCopied, behind_next, copied_all, copied_more, copied_none, fewer_behind, next_there}
use Rattle.page_table.proofs.table.copy_index.Goals as goal

some_copied : {X : Type 0} (r : Option (Bor X)) → IsSome (option_copied r) → IsSome r
some_copied None h = h
some_copied (Some x) h = h

pub loop-next-init : goal.loop-next-init
loop-next-init c = record {
  copied = copied_none c.args.index.now c.new-made.result c.first_from-next.result c.new-made.ensures c.first_from-next.ensures;
  there = next_there c.args.index.now 0 c.first_from-next.result c.first_from-next.ensures;
}

pub unwrap-requires : goal.unwrap-requires
unwrap-requires c = some_copied c.get.result (subst IsSome (sym c.get.ensures.value) (c.loop-next.invariant.there c.in-Some.number c.in-Some.is))

pub loop-next-smaller : goal.loop-next-smaller
loop-next-smaller c =
    subst (λ (x : Option ℕ). behind_next c.first_after-next.result < behind_next x) (sym c.in-Some.is)
    (fewer_behind c.args.index.now c.in-Some.number c.first_after-next.result (omega arith) c.first_after-next.ensures)

pub loop-next-preserved : goal.loop-next-preserved
loop-next-preserved c = record {
  copied =
      subst (λ x. IsCopied c.args.index.now x c.first_after-next.result) (sym c.in_ok-insert.ensures.ok)
      (copied_more c.args.index.now c.loop-next.made c.in-Some.number c.unwrap.result.now c.first_after-next.result
      (sym c.get.ensures.value ∙ ap option_copied c.unwrap.ensures) c.first_after-next.ensures
      (subst (IsCopied c.args.index.now c.loop-next.made) c.in-Some.is c.loop-next.invariant.copied));
  there = next_there c.args.index.now _ c.first_after-next.result c.first_after-next.ensures;
}

pub returns : goal.returns
returns c = copied_all c.args.index.now c.loop-next.made c.loop-next.next c.in_default.is c.loop-next.invariant.copied
