-- What a view of a call's needs says.
use Rattle.std.specs.Prelude.{ℕ, List, [], ◌∷◌, Option, None, Some}
use Rattle.abi_types.specs.declared.needed.Needed.{Needed}
use Rattle.kernel_model.specs.Families.WaitCalls.{fds_of, wait_rows}
use Rattle.right_rules.specs.declared.needs.Needs.{Needs}
use Rattle.right_rules.specs.declared.needs.Needs.TheVariants as needs

-- the value, if there is one
abbrev pub of_option : {X : Type 0} → Option X → List X
of_option None = []
of_option (Some x) = x ∷ []

-- the descriptors that must be there
abbrev pub named_in : Needs → List ℕ
named_in needs.Nothing = []
named_in (needs.Named fd) = fd ∷ []
named_in (needs.NamedTwo first second) = first ∷ second ∷ []
named_in (needs.One row) = row.fd ∷ []
named_in (needs.Two first second) = first.fd ∷ second.fd ∷ []
named_in (needs.OneAndNamed row rest) = row.fd ∷ rest.now
named_in (needs.Waited subscriptions) = fds_of (wait_rows subscriptions.now)

-- the rights that are needed of them
abbrev pub rows_in : Needs → List Needed
rows_in needs.Nothing = []
rows_in (needs.Named fd) = []
rows_in (needs.NamedTwo first second) = []
rows_in (needs.One row) = row ∷ []
rows_in (needs.Two first second) = first ∷ second ∷ []
rows_in (needs.OneAndNamed row rest) = row ∷ []
rows_in (needs.Waited subscriptions) = wait_rows subscriptions.now
