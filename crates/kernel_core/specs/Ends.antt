-- The pair of ends that a call makes.
use Rattle.std.specs.Prelude.{◌≡◌, true}
use Rattle.std.specs.FinMap.{get, insert}
use Rattle.abi_types.specs.declared.descriptor.Descriptor.{Descriptor}
use Rattle.abi_types.specs.declared.who.Who.{Who}
use Rattle.channel_calls.specs.Pairs.{model_of}
use Rattle.channel_calls.specs.declared.pairs.Pair.{Pair}
use Rattle.channel_calls.specs.declared.pairs.PairKind.{PairKind}
use Rattle.fd_table.specs.Table.{IsLowestFree}
use Rattle.kernel_model.specs.Families.Numbers.{next_object}
use Rattle.kernel_model.specs.Families.SocketCalls.{can_create, count_of}
use Rattle.kernel_model.specs.State.{State, Table}

-- that pair: of this kind, at the two lowest free numbers, with the numbers of objects that the process makes next
pub record IsPair (S : State) (who : Who) (table : Table) (kind : PairKind) (pair : Pair) : Type 0 where
  pub kind_is : pair.kind ≡ kind
  pub one : IsLowestFree table pair.one
  pub two : (d : Descriptor) → IsLowestFree (insert table pair.one d) pair.two
  pub can : can_create who.pid who.tid (count_of (model_of kind)) (get S.processes who.pid) ≡ true
  pub first : pair.first ≡ next_object who.pid (get S.processes who.pid) 1
