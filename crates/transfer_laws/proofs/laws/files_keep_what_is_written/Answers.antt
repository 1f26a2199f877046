use Rattle.transfer_laws.proofs.Files as files
use Rattle.transfer_laws.proofs.laws.files_keep_what_is_written.Goals as goal

pub returns-clause-reads : goal.returns-clause-reads
returns-clause-reads c = files.files_are_read

pub returns-clause-writes : goal.returns-clause-writes
returns-clause-writes c = files.files_are_written

pub returns-clause-seeks : goal.returns-clause-seeks
returns-clause-seeks c = files.seeks_move
