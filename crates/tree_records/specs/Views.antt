-- A record of the program as the record that contracts speak of.
use Rattle.std.specs.Prelude.{ℕ, List}
use Rattle.std.specs.Borrow.{Bor}
use Rattle.tree_records.specs.declared.record.Record.{Record as DeclaredRecord}
use Rattle.tree_records.specs.declared.record.Record.TheVariants as records
use Rattle.tree_records.specs.Records.{Record, dir, file, link, hard}

abbrev pub record_seen : DeclaredRecord → Record
record_seen (records.Dir p) = dir p
record_seen (records.File p bytes) = file p bytes.now
record_seen (records.Link p text) = link p text.now
record_seen (records.Hard p target) = hard p target

-- a record, and the bytes behind it
abbrev pub read_seen : DeclaredRecord × Bor (List ℕ) → Record × List ℕ
read_seen x = (record_seen x.0, x.1.now)
