-- How many descriptors a call sends.
use Rattle.std.proofs.Common.{◌≡◌, ℕ, ◌+◌, List, [], ◌∷◌, length, Option, None, Some, IsSome, refl, arith}
use Rattle.std.specs.List.{AllByRecursion}
use Rattle.std.specs.FinMap.{get}
use Rattle.abi_types.specs.declared.descriptor.Descriptor.{Descriptor}
use Rattle.maps.specs.Halves.{not_true}
use Rattle.kernel_model.specs.Families.ChannelCalls.{added, picked}
use Rattle.kernel_model.specs.State.{Table}

-- a table that has each of the numbers has a descriptor for each
picked_each : (o : Option Descriptor) (ds : List Descriptor) → IsSome o → length (added o ds) ≡ length ds + 1
picked_each None ds h = absurd (not_true h)
picked_each (Some d) ds h = omega arith

pub picked_all : (table : Table) (fds : List ℕ) → AllByRecursion (λ (fd : ℕ). IsSome (get table fd)) fds → length (picked table fds) ≡ length fds
picked_all table [] h = refl
picked_all table (fd ∷ fds) h = omega (arith, picked_each (get table fd) (picked table fds) h.0, picked_all table fds h.1)
