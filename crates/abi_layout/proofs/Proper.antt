-- The layouts of events and subscriptions are proper for each kind.
use Rattle.std.proofs.Common.{ℕ, Bool, true, false, [], ◌∷◌, if◌then◌else◌, rules}
use Rattle.std.specs.Prelude.{codes}
use Rattle.abi_structures.specs.declared.events.What.{What}
use Rattle.abi_structures.specs.declared.events.What.TheVariants as what
use Rattle.abi_layout.specs.Layout.{field, FollowFrom, IsProper}
use Rattle.abi_layout.specs.Events.{event_layout, is_transfer, is_end, subscription_layout}

-- the fields that stand after an event's kind, by what its kind is
outcome_follows : (transfer end : Bool)
    → FollowFrom 11 (if transfer
    then field (codes "nbytes") 8 16 ∷ field (codes "flags") 2 24 ∷ []
    else (if end then field (codes "signal") 1 16 ∷ field (codes "code") 4 20 ∷ [] else [])) 32
outcome_follows true end = search rules
outcome_follows false true = search rules
outcome_follows false false = search rules

pub event_proper : (kind : ℕ) → IsProper (event_layout kind)
event_proper kind = let rest = outcome_follows (is_transfer kind) (is_end kind) in search rules

pub subscription_proper : (w : What) → IsProper (subscription_layout w)
subscription_proper (what.Clock clock timeout precision flags) = search rules
subscription_proper (what.Condvar condvar condvar_word lock lock_word condvar_scope lock_scope) = search rules
subscription_proper (what.FdRead fd) = search rules
subscription_proper (what.FdWrite fd) = search rules
subscription_proper (what.LockRdlock lock word scope) = search rules
subscription_proper (what.LockWrlock lock word scope) = search rules
subscription_proper (what.ProcTerminate fd) = search rules
