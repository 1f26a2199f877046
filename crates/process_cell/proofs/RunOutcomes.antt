-- The answer of a run, from the book that was closed.
use Rattle.std.proofs.Common.{◌≡◌, ◌≢◌, ◌<◌, Bool, List, [], ◌∷◌, length, refl, sym, ap, subst, ◌∙◌, arith}
use Rattle.abi_types.specs.declared.constants.Constants.{Constants}
use Rattle.call_codec.specs.Bounded.{IsBounded}
use Rattle.run_types.specs.declared.history.Entry.{Entry}
use Rattle.run_types.specs.declared.launch.Launch.{Launch}
use Rattle.kernel_model.specs.Ends.{NoneLive, SomeLive}
use Rattle.kernel_model.specs.State.{State}
use Rattle.kernel_model.specs.Waits.{HasDeadlines}
use Rattle.kernel_model.specs.Wakes.{IsStalled}
use Rattle.run_model.specs.Ends.{Stalled}
use Rattle.run_model.specs.World.{World, world}
use Rattle.run_model.proofs.Histories.{world_constants, world_none}
use Rattle.run_model.proofs.Worlds.{clock_counts, first_clock, world_has_deadlines}
use Rattle.kernel_cell.specs.Cell.{IsBookOf}
use Rattle.kernel_cell.specs.declared.cell.Book.{Book}
use Rattle.process_cell.specs.Driven.{IsDriven, ComesOut}
use Rattle.process_cell.specs.declared.workers.Driven.{Driven}
use Rattle.process_cell.specs.declared.workers.Driven.TheVariants as driven

-- where the clock has moved there is an entry
some_entry : (launch : Launch) (all : Bool) (book : Book) → IsBookOf launch all book → 0 < book.kernel.clock → book.history ≢ []
some_entry launch all book is moved none =
    let still : book.kernel.clock ≡ 0 =
    ap (λ (S : State). S.clock) is.state
    ∙ ap (λ (h : List Entry). (world launch h).state.clock) none
    ∙ ap (λ (w : World). w.state.clock) (world_none launch)
    ∙ first_clock launch in
    omega arith

-- where it stands still there is none
no_entry : (launch : Launch) (all : Bool) (book : Book) → IsBookOf launch all book → book.kernel.clock ≡ 0 → book.history ≡ []
no_entry launch all book is still =
    none_by book.history (omega (
      arith,
      (clock_counts launch book.history is.legal).0,
      ap (λ (S : State). S.clock) is.state,
      still,
    ))
  where
    none_by : (history : List Entry) → length history ≡ 0 → history ≡ []
    none_by [] none = refl
    none_by (e ∷ es) none = absurd (cc none)

-- a book's constants and kernel are those of its history's world
same_world : (launch : Launch) (all : Bool) (book : Book) → IsBookOf launch all book
    → ◌≡◌ {A = Constants × State} (book.launch.constants, book.kernel) ((world launch book.history).constants, (world launch book.history).state)
same_world launch all book is =
    let constants : book.launch.constants ≡ (world launch book.history).constants =
    ap (λ (l : Launch). l.constants) is.launch_is ∙ sym (world_constants launch book.history) in
    λ i. (constants i, is.state i)

-- each thread of it that waits does until its call's deadline
pub book_has_deadlines : (launch : Launch) (all : Bool) (book : Book) → IsBounded launch → IsBookOf launch all book
    → HasDeadlines book.launch.constants book.kernel
book_has_deadlines launch all book bounded is =
    subst (λ (x : Constants × State). HasDeadlines x.0 x.1) (sym (same_world launch all book is))
    (world_has_deadlines launch book.history bounded.begins is.legal)

-- the kernel of a book is stalled where its history is
stalled_there : (launch : Launch) (all : Bool) (book : Book) → IsBookOf launch all book → IsStalled book.launch.constants book.kernel
    → Stalled launch book.history
stalled_there launch all book is stalled = subst (λ (x : Constants × State). IsStalled x.0 x.1) (same_world launch all book is) stalled

stalled_here : (launch : Launch) (all : Bool) (book : Book) → IsBookOf launch all book → Stalled launch book.history
    → IsStalled book.launch.constants book.kernel
stalled_here launch all book is stalled = subst (λ (x : Constants × State). IsStalled x.0 x.1) (sym (same_world launch all book is)) stalled

pub driven_is : (launch : Launch) (all : Bool) (book : Book) (answer : Driven) → IsBookOf launch all book → ComesOut book answer → IsDriven launch all answer
driven_is launch all book (driven.Ended b) is out = (
  subst (IsBookOf launch all) (sym out.0) is,
  subst (λ (x : Book). NoneLive x.kernel) (sym out.0) out.1,
)
driven_is launch all book (driven.Stalled b) is out = (
  subst (IsBookOf launch all) (sym out.0) is,
  subst (λ (x : Book). Stalled launch x.history) (sym out.0) (stalled_there launch all book is out.1),
)
driven_is launch all book (driven.Lacking b) is out = (
  subst (IsBookOf launch all) (sym out.0) is,
  subst (λ (x : Book). x.history ≢ []) (sym out.0) (some_entry launch all book is out.3),
  subst (λ (x : Book). SomeLive x.kernel) (sym out.0) out.1,
  subst (λ (x : Book). ¬ Stalled launch x.history) (sym out.0)
      (λ stalled. out.2 (stalled_here launch all book is stalled)),
)
driven_is launch all book (driven.NotBegun b) is out = (
  subst (IsBookOf launch all) (sym out.0) is,
  subst (λ (x : Book). x.history ≡ []) (sym out.0) (no_entry launch all book is out.3),
  subst (λ (x : Book). SomeLive x.kernel) (sym out.0) out.1,
  subst (λ (x : Book). ¬ Stalled launch x.history) (sym out.0)
      (λ stalled. out.2 (stalled_here launch all book is stalled)),
)
