use Rattle.std.proofs.Common.{◌≡◌, ℕ, List, ap, ◌∙◌}
use Rattle.std.specs.FinMap.{get}
use Rattle.guest_memory.specs.Page.{Pages}
use Rattle.guest_memory.specs.Room.{without_each}
use Rattle.guest_memory.specs.Written.{KeepsCode}
use Rattle.guest_memory.proofs.ListedPages.{same_without}
use Rattle.rv_interp.proofs.Slots.{all_kept}
use Rattle.guest_process.proofs.guest.Guest.make_room.Goals as goal

-- room changes no page that was there
kept_with_room : (room : List ℕ) (m n : Pages) → without_each room n ≡ m → KeepsCode m n
kept_with_room room m n without q p there locked exec = same_without room n q p (ap (λ (x : Pages). get x q) without ∙ there)

pub invariant_of-self-in-Ok : goal.invariant_of-self-in-Ok
invariant_of-self-in-Ok c =
    all_kept c.self.inside.memory c.make_room.new.memory c.self.inside.code
    (kept_with_room c.in-Ok.pages c.self.inside.memory c.make_room.new.memory c.in-Ok.ensures.without)
    c.self.invariant
