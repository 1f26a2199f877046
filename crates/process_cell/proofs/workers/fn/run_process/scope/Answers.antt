use denote.Param.Send.{sendable}
use Rattle.kernel_cell.proofs.Sharing.{cell_sync}
use Rattle.process_cell.proofs.workers.Workplace.TheSendSync as workplace
use Rattle.std.proofs.alloc.Global.TheSendSync as heap
use Rattle.process_cell.proofs.workers.fn.run_process.scope.Goals as goal

pub spawn-spawned-requires-send-F : goal.spawn-spawned-requires-send-F
spawn-spawned-requires-send-F g c κs within = search (cell_sync, workplace.the_sync, heap.the_send, sendable) depth 12
