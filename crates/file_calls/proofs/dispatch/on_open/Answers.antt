-- The calls that only read.
use Rattle.std.proofs.Common.{true, Some, sym, subst}
use Rattle.abi_types.specs.Families.{call_of_file}
use Rattle.abi_types.specs.declared.family.FileCall.{FileCall}
use Rattle.path_lookup.specs.declared.ends.WalkMode.TheVariants.{NoFollow}
use Rattle.kernel_model.specs.Families.FileBytes.{read_at}
use Rattle.kernel_model.specs.Families.FileCalls.{file_meaning}
use Rattle.kernel_model.specs.Families.FileLooks.{list_open, read_link_in}
use Rattle.kernel_model.specs.Families.FilePaths.{at_walked, walked}
use Rattle.kernel_model.specs.Families.MemoryCalls.{has_place, map_open}
use Rattle.file_calls.specs.Done.{IsTreeDone}
use Rattle.file_calls.proofs.Done.{read_as_done}
use Rattle.file_calls.proofs.dispatch.on_open.Goals as goal

pub returns-in-FdPread-clause-done : goal.returns-in-FdPread-clause-done
returns-in-FdPread-clause-done c =
    let t = c.args.tree.now in
    let kind = c.args.kind.now in
    let s = c.in-FdPread in
    subst (λ (call : FileCall). IsTreeDone (file_meaning (call_of_file call)).takes_memory ((file_meaning (call_of_file call)).effect c.args.now t (Some kind)) t t c.fd_pread.result)
    (sym s.is) (read_as_done true (read_at s.length s.offset t (Some kind)) t c.fd_pread.result c.fd_pread.ensures)

pub returns-in-FileReaddir-clause-done : goal.returns-in-FileReaddir-clause-done
returns-in-FileReaddir-clause-done c =
    let t = c.args.tree.now in
    let kind = c.args.kind.now in
    let s = c.in-FileReaddir in
    subst (λ (call : FileCall). IsTreeDone (file_meaning (call_of_file call)).takes_memory ((file_meaning (call_of_file call)).effect c.args.now t (Some kind)) t t c.file_readdir.result)
    (sym s.is) (read_as_done true (list_open s.length s.cookie t (Some kind)) t c.file_readdir.result c.file_readdir.ensures)

pub returns-in-FileReadlink-clause-done : goal.returns-in-FileReadlink-clause-done
returns-in-FileReadlink-clause-done c =
    let t = c.args.tree.now in
    let kind = c.args.kind.now in
    let s = c.in-FileReadlink in
    subst (λ (call : FileCall). IsTreeDone (file_meaning (call_of_file call)).takes_memory ((file_meaning (call_of_file call)).effect c.args.now t (Some kind)) t t c.file_readlink.result)
    (sym s.is) (read_as_done true (at_walked (read_link_in s.length t) (walked t NoFollow s.path.now (Some kind))) t c.file_readlink.result c.file_readlink.ensures)

pub returns-in-MemMap-clause-done : goal.returns-in-MemMap-clause-done
returns-in-MemMap-clause-done c =
    let t = c.args.tree.now in
    let kind = c.args.kind.now in
    let s = c.in-MemMap in
    subst (λ (call : FileCall). IsTreeDone (file_meaning (call_of_file call)).takes_memory ((file_meaning (call_of_file call)).effect c.args.now t (Some kind)) t t c.map_file.result)
    (sym s.is) (read_as_done (has_place s.place) (map_open s.place s.length s.offset t (Some kind)) t c.map_file.result c.map_file.ensures)
