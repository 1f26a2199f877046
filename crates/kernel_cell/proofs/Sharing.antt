-- Threads may share a cell: a kernel may go to another thread, and many may read a launch. Written out, since the search that the
-- prover makes of itself breaks off at the tree of names, whose nodes lie in one another.
use denote.RattleType.{RattleType}
use denote.Param.Send.{IsSend, IsSync, sendable, view_send, view_sync}
use denote.Param.SendFields.{declared_send, declared_sync, as_row_send, as_row_sync}
use denote.Builtin.{usize, unit, u8, u64}
use denote.Struct.Field.{row_field}
use Rattle.std.proofs.alloc.Global.TheSendSync as heap
use Rattle.std.proofs.Crossing.{frees}
use Rattle.std.proofs.boxed.Box.TheSendSync as boxes
use Rattle.std.proofs.vec.Vec.TheSendSync as vectors
use Rattle.std.proofs.option.Option.TheSendSync as options
use Rattle.std.specs.contracts.boxed.Box as box
use Rattle.std.specs.contracts.vec.Vec as vec
use Rattle.std.specs.contracts.alloc.Global as global
use Rattle.std.specs.contracts.impls.GlobalAllocator.TheImpl.{ghosts}
use Rattle.maps.proofs.name_tree.NameTree.TheLaws.TheKnot.{send-NameTree, sync-NameTree}
use Rattle.maps.proofs.num_map.NumMap.TheSendSync as num_map
use Rattle.maps.specs.contracts.name_map.NameMap as name_map
use Rattle.maps.specs.contracts.name_map.NameMap.TheInside as inside
use Rattle.abi_base.specs.contracts.ids.ObjId as number
use Rattle.file_tree.specs.contracts.slot.Slot as slot
use Rattle.file_tree.specs.contracts.slots.Slots as slots
use Rattle.file_tree.specs.contracts.slots.Slots.TheInside as slots_inside
use Rattle.abi_types.proofs.node.Node.TheSendSync as nodes
use Rattle.slab.proofs.Slab.TheSendSync as slab
use Rattle.file_tree.specs.contracts.tree.Tree as tree
use Rattle.file_tree.specs.contracts.tree.Tree.TheInside as tree_inside
use Rattle.fd_table.specs.contracts.table.FdTable as table
use Rattle.fd_table.proofs.table.FdTable.TheSendSync as tables
use Rattle.kernel_parts.specs.contracts.process.ProcessState as process
use Rattle.kernel_parts.proofs.process.ProcessState.TheSendSync as processes
use Rattle.kernel_parts.specs.contracts.terminal.Terminal as terminal
use Rattle.kernel_parts.proofs.terminal.Terminal.TheSendSync as terminals
use Rattle.abi_types.specs.contracts.status.Status as status
use Rattle.abi_types.proofs.status.Status.TheSendSync as statuses
use Rattle.abi_types.proofs.constants.Constants.TheSendSync as constants
use Rattle.object_store.proofs.objects.Objects.TheSendSync as objects
use Rattle.channel_calls.proofs.kept.Channels.TheSendSync as channels
use Rattle.wait_set.proofs.wait_set.WaitSet.TheSendSync as waits
use Rattle.run_types.specs.contracts.launch.Launch as launch
use Rattle.elf_image.proofs.elf.Elf.TheSendSync as elf
use Rattle.lists.proofs.bytes.Bytes.TheSendSync as bytes
use Rattle.lists.proofs.items.Items.TheSendSync as items
use Rattle.abi_base.specs.contracts.grant.Grant as grant
use Rattle.abi_base.proofs.grant.Grant.TheSendSync as grants
use Rattle.std.proofs.sync.Mutex.TheSendSync as mutexes
use Rattle.kernel_core.specs.contracts.kernel.Kernel as kernel
use Rattle.kernel_core.specs.contracts.kernel.Kernel.TheInside as kernel_inside
use Rattle.shared_history.specs.declared.passes.Naming.{Ghosts}
use Rattle.shared_history.proofs.keeper.Keeper.TheSendSync as keepers
use Rattle.shared_history.proofs.kept.Kept.TheSendSync as kept
use Rattle.shared_history.proofs.passes.Passes.TheSendSync as passes
use Rattle.kernel_cell.specs.contracts.locked.Locked as locked
use Rattle.kernel_cell.specs.contracts.cell.Guarded as guarded
use Rattle.kernel_cell.specs.contracts.cell.Guarded.TheInside as guarded_inside
use Rattle.kernel_cell.specs.contracts.cell.Cell as cell

usize_send : IsSend usize
usize_send = search sendable

byte_send : IsSend u8
byte_send = search sendable

box_send : (T : RattleType) → IsSend T → IsSend (box.the_row T global.the_row ghosts)
box_send T s = boxes.the_send T global.the_row ghosts s heap.the_send frees

vec_send : (T : RattleType) → IsSend T → IsSend (vec.the_row T global.the_row ghosts)
vec_send T s = vectors.the_send T global.the_row ghosts s heap.the_send frees

inside_send : (V : RattleType) → IsSend V → IsSend (inside.the_row V)
inside_send V s = declared_send (inside.the_type V) (send-NameTree V box_send (vec_send u8 byte_send) (as_row_send (row_field V) s) usize_send, (heap.the_send, tt))

name_map_send : (V : RattleType) → IsSend V → IsSend (name_map.the_row V)
name_map_send V s = view_send _ _ _ _ _ (inside_send V s)

number_send : IsSend number.the_row
number_send = search sendable

unit_send : IsSend unit
unit_send = search sendable

slot_send : IsSend slot.the_row
slot_send = declared_send slot.the_type (nodes.the_send, (name_map_send number.the_row number_send, (options.the_send number.the_row number_send, tt)))

slots_send : IsSend slots.the_row
slots_send = view_send _ _ _ _ _ (declared_send slots_inside.the_type (slab.the_send slot.the_row global.the_row ghosts slot_send heap.the_send frees, (num_map.the_send usize usize_send, tt)))

tree_send : IsSend tree.the_row
tree_send = view_send _ _ _ _ _ (declared_send tree_inside.the_type (slots_send, (num_map.the_send unit unit_send, (heap.the_send, tt))))

usize_sync : IsSync usize
usize_sync = search sendable

byte_sync : IsSync u8
byte_sync = search sendable

unit_sync : IsSync unit
unit_sync = search sendable

number_sync : IsSync number.the_row
number_sync = search sendable

box_sync : (T : RattleType) → IsSync T → IsSync (box.the_row T global.the_row ghosts)
box_sync T y = boxes.the_sync T global.the_row ghosts y heap.the_sync

vec_sync : (T : RattleType) → IsSync T → IsSync (vec.the_row T global.the_row ghosts)
vec_sync T y = vectors.the_sync T global.the_row ghosts y heap.the_sync

name_map_sync : (V : RattleType) → IsSync V → IsSync (name_map.the_row V)
name_map_sync V y = view_sync _ _ _ _ _ (declared_sync (inside.the_type V) (sync-NameTree V box_sync (vec_sync u8 byte_sync) (as_row_sync (row_field V) y) usize_sync, (heap.the_sync, tt)))

slot_sync : IsSync slot.the_row
slot_sync = declared_sync slot.the_type (nodes.the_sync, (name_map_sync number.the_row number_sync, (options.the_sync number.the_row number_sync, tt)))

slots_sync : IsSync slots.the_row
slots_sync = view_sync _ _ _ _ _ (declared_sync slots_inside.the_type (slab.the_sync slot.the_row global.the_row ghosts slot_sync heap.the_sync, (num_map.the_sync usize usize_sync, tt)))

tree_sync : IsSync tree.the_row
tree_sync = view_sync _ _ _ _ _ (declared_sync tree_inside.the_type (slots_sync, (num_map.the_sync unit unit_sync, (heap.the_sync, tt))))

word_sync : IsSync u64
word_sync = search sendable

launch_sync : IsSync launch.the_row
launch_sync = declared_sync launch.the_type (elf.the_sync, (bytes.the_sync, (items.the_sync grant.the_row grants.the_sync, (tree_sync, (bytes.the_sync, (constants.the_sync, (word_sync, tt)))))))

word_send : IsSend u64
word_send = search sendable

kernel_send : IsSend kernel.the_row
kernel_send = view_send _ _ _ _ _ (declared_send kernel_inside.the_type (
  word_send,
  (
    num_map.the_send table.the_row tables.the_send,
    (
      num_map.the_send process.the_row processes.the_send,
      (
        num_map.the_send status.the_row statuses.the_send,
        (
          objects.the_send,
          (
            tree_send,
            (num_map.the_send terminal.the_row terminals.the_send, (channels.the_send, (waits.the_send, (heap.the_send, tt)))),
          ),
        ),
      ),
    ),
  ),
))

module _ (J : RattleType) (g : Ghosts J.Denot) where
  locked_send : IsSend (locked.the_row J g)
  locked_send = declared_send (locked.the_type J g) (kernel_send, (constants.the_send, (keepers.the_send J g, (kept.the_send, (heap.the_send, tt)))))

  guarded_send : IsSend (guarded.the_row J g)
  guarded_send = view_send _ _ _ _ _ (declared_send (guarded_inside.the_type J g) (locked_send, tt))

  pub cell_sync : IsSync (cell.the_row J g)
  cell_sync = declared_sync (cell.the_type J g) (passes.the_sync J g, (mutexes.the_sync (guarded.the_row J g) guarded_send, (launch_sync, tt)))
