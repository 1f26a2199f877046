use Rattle.std.proofs.Common.{ℕ, Some, option_copied, ap, ◌∙◌}
use Rattle.kernel_model.specs.Families.FilePaths.{lookup_mode, walked}
use Rattle.kernel_model.specs.Families.LastNames.{last_name}
use Rattle.kernel_model.specs.Families.NameMeaning.{NameOutcome, at_name}
use Rattle.kernel_model.specs.Families.NameMoving.{at_found, link_in}
use Rattle.file_calls.specs.Walks.{node_or_refusal}
use Rattle.entry_calls.proofs.Endings.{done_as, found_comes, place_done}
use Rattle.entry_calls.proofs.moving.file_link.Goals as goal

pub returns : goal.returns
returns c new =
    let t = c.args.tree.now in
    let u = c.link_in.new.tree in
    let node = c.in_ok-node.node in
    let last = last_name t c.args.new_path.now (option_copied c.args.there) in
    let goes : ℕ → NameOutcome = λ n. at_name (link_in c.args.now t n) last in
    let way = walked t (lookup_mode c.args.lookup_flags) c.args.path.now (Some c.args.here.now) in
    done_as t u c.link_in.result (goes node) (at_found goes way)
    (found_comes goes way node
    (c.in_ok-node.ensures ∙ ap (λ mode. node_or_refusal (walked t mode c.args.path.now (Some c.args.here.now))) c.lookup_mode.ensures))
    (place_done t u c.link_in.result (link_in c.args.now t node) c.args.new_path.now c.name_at.result.now last c.in_ok-place.place
    c.in_ok-place.ensures c.name_at.ensures c.link_in.ensures)
