use Rattle.std.proofs.Common.{◌≡◌, ◌+◌, ◌<◌, ◌≤◌, length, slice_get, Some, refl, sym, ap, ◌∙◌, arith}
use Rattle.std.proofs.lemmas.Option.{slice_get_read}
use Rattle.object_store.proofs.Places.{listed_cut, moved_there, listed_moved}
use Rattle.object_store.proofs.Views.{kinds_stay, counts_stay}
use Rattle.object_store.proofs.objects.unlist.Goals as goal

pub get_mut-requires : goal.get_mut-requires
get_mut-requires c =
    let short = c.swap_remove.new.self.items in
    let within : c.args.place < length short = omega (arith, c.if-place-len.true, c.len.ensures, c.swap_remove.new.self.ok.0) in
    let long : length short + 1 ≡ _ = ap (λ n. n + 1) (sym c.swap_remove.new.self.ok.0) ∙ c.swap_remove.ensures.len in
    let filled : slice_get short c.args.place ≡ Some c.moved.inside.0 =
    slice_get_read short _ c.args.place _ c.swap_remove.new.self.ok.0 (omega (arith, within, c.swap_remove.new.self.ok.0)) c.index-moved.ensures ∙ ap Some (sym c.moved.view_is) in
    moved_there _ c.args.unheld.now.items short _ c.args.place c.moved.inside.0 c.args.unheld.now.ok.0 long within filled
    c.swap_remove.ensures.by_index.0 c.requires.others

pub returns-then-place-len-clause-listed : goal.returns-then-place-len-clause-listed
returns-then-place-len-clause-listed c =
    let short = c.swap_remove.new.self.items in
    let within : c.args.place < length short = omega (arith, c.if-place-len.true, c.len.ensures, c.swap_remove.new.self.ok.0) in
    let long : length short + 1 ≡ _ = ap (λ n. n + 1) (sym c.swap_remove.new.self.ok.0) ∙ c.swap_remove.ensures.len in
    let filled : slice_get short c.args.place ≡ Some c.moved.inside.0 =
    slice_get_read short _ c.args.place _ c.swap_remove.new.self.ok.0 (omega (arith, within, c.swap_remove.new.self.ok.0)) c.index-moved.ensures ∙ ap Some (sym c.moved.view_is) in
    listed_moved _ c.args.unheld.now.items short _ c.args.place c.moved.inside.0 c.args.unheld.now.ok.0 long within filled
    c.swap_remove.ensures.by_index.0 c.requires.others c.get_mut.result.now _ (λ i d. c.swap_remove.ensures.by_index.1 i d) (sym c.get_mut.ensures.value) refl refl

pub returns-then-place-len-clause-kinds : goal.returns-then-place-len-clause-kinds
returns-then-place-len-clause-kinds c = kinds_stay _ _ c.get_mut.result.now _ (sym c.get_mut.ensures.value) refl

pub returns-then-place-len-clause-counts : goal.returns-then-place-len-clause-counts
returns-then-place-len-clause-counts c = counts_stay _ _ c.get_mut.result.now _ (sym c.get_mut.ensures.value) refl

pub returns-else-place-len-clause-listed : goal.returns-else-place-len-clause-listed
returns-else-place-len-clause-listed c =
    let short = c.swap_remove.new.self.items in
    let long : length short + 1 ≡ _ = ap (λ n. n + 1) (sym c.swap_remove.new.self.ok.0) ∙ c.swap_remove.ensures.len in
    let most : length short ≤ c.args.place = omega (arith, c.if-place-len.false, c.len.ensures, c.swap_remove.new.self.ok.0) in
    listed_cut _ c.args.unheld.now.items short _ c.args.place c.args.unheld.now.ok.0 long most c.requires.there
    (λ i d. c.swap_remove.ensures.by_index.1 i d) c.requires.others
