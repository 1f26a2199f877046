-- What a table of pages ends as after one of its pages was borrowed.
use Rattle.std.specs.Prelude.{ℕ}
use Rattle.std.specs.Borrow.{Lends, MutBor, Fml}
use Rattle.std.specs.FinMap.{insert}
use Rattle.page_table.specs.Page.{Page, Pages}
use Rattle.page_table.specs.contracts.table.PageTable.{the_row}
use Rattle.page_table.specs.contracts.mapped_page.MappedPage as page

-- the table behind t ends with the last page behind r under the number q
abbrev pub LendsPage : MutBor Pages → ℕ → MutBor Page → Fml
LendsPage t q r = Lends the_row page.the_row t r (λ p. insert t.now q p)
