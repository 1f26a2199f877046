-- What each status of a top call says, what a record is that it keeps, and when its answer is complete.
use Rattle.std.specs.Prelude.{◌≡◌, ◌⊎◌, ◌==◌, ◌≤◌, ◌+◌, ◌*◌, ⊤, ℕ, List, length, Option, None, Some, Contains, if◌then◌else◌}
use Rattle.std.specs.FinMap.{get}
use Rattle.abi_types.specs.declared.status.Status.{Status}
use Rattle.abi_types.specs.declared.status.Status.TheVariants.{Live, Exit, Killed}
use Rattle.kernel_cell.specs.declared.record.Record.{Record}
use Rattle.shared_history.specs.Kept.{IsKeptOf}
use Rattle.run_model.specs.Confined.{IsConfined}
use Rattle.run_model.specs.Ends.{Ended, Stalled}
use Rattle.run_model.specs.Legal.{Legal}
use Rattle.authority_laws.specs.Laws.{IsRecorded}
use Rattle.confinement_laws.specs.Headline.{IsConfinedHistory}
use Rattle.confinement_laws.specs.Untouched.{UnwrittenStays}
use Rattle.command_line.specs.Settings.{Settings}
use Rattle.elf_image.specs.declared.fault.ElfFault.{ElfFault}
use Rattle.launch_reading.specs.Launch.{Described, unknown, refuses, describes, history_with, IsKnownAs, IsBuiltBy}
use Rattle.launch_reading.specs.Refusal.{input_line, program_line, tree_line, launch_line, too_long_line}
use Rattle.launch_reading.specs.declared.launch_text.LaunchFault.{LaunchFault}
use Rattle.book_report.specs.Ends.{IsOver}
use Rattle.book_report.specs.Growth.{Growth, FaultsRose, Wrote, WrotePrefix, WroteWhole}
use Rattle.book_report.specs.Shown.{state_of}

-- ---- refusals

-- one of the statuses that a call may answer
abbrev pub IsTopStatus : ℕ → Type 0
IsTopStatus status =
    (status ≡ 0) ⊎ (status ≡ 1) ⊎ (status ≡ 2) ⊎ (status ≡ 65) ⊎ (status ≡ 66) ⊎ (status ≡ 67) ⊎ (status ≡ 68) ⊎ (status ≡ 69) ⊎ (status ≡ 70) ⊎ (status ≡ 71)

-- An input could not be read, and the source's count of faults rose; or an input is too long, as it is described, where
-- anything is known of it. The line names the input.
abbrev pub IsInputRefused : List (List ℕ) → Described → Type 0 → Growth → Type 0
IsInputRefused names described rose growth =
    (name : List ℕ) × Contains names name
    × ((rose × Wrote growth (input_line name)) ⊎ (IsKnownAs described (refuses 66 (too_long_line name)) × Wrote growth (too_long_line name)))

-- the program is refused for a fault of its file, which is the first refusal that is described, where anything is known of it,
-- and its line was written
abbrev pub IsProgramRefused : Described → Growth → Type 0
IsProgramRefused described growth =
    (found : ElfFault) × IsKnownAs described (refuses 67 (program_line found)) × Wrote growth (program_line found)

-- the tree document is refused for a record that begins at a byte, which is the first refusal that is described, where anything
-- is known of it, and its line was written
abbrev pub IsTreeRefused : Described → Growth → Type 0
IsTreeRefused described growth = (byte : ℕ) × IsKnownAs described (refuses 68 (tree_line byte)) × Wrote growth (tree_line byte)

-- the launch text is refused for a fault, which is the first refusal that is described, where anything is known of it, and its
-- line was written
abbrev pub IsTextRefused : Described → Growth → Type 0
IsTextRefused described growth =
    (fault : LaunchFault) × IsKnownAs described (refuses 65 (launch_line fault)) × Wrote growth (launch_line fault)

-- ---- runs that are over

-- the status of a run whose process 0 has this status: 0 where it exited with 0
abbrev pub status_number : Option Status → ℕ
status_number None = 1
status_number (Some Live) = 1
status_number (Some (Exit code)) = if code == 0 then 0 else 1
status_number (Some (Killed signal)) = 1

-- the run of the record has ended, the status is that of its process 0, and exactly this text of it was written
pub record HasReported (text : Record → List ℕ) (growth : Growth) (status : ℕ) (r : Record) : Type 0 where
  pub ended : Ended r.launch r.history
  pub status_is : status ≡ status_number (get (state_of r).statuses 0)
  pub written : WroteWhole growth (text r)

-- the run of the record is stalled, and exactly this text of it was written
pub record HasStalled (text : Record → List ℕ) (growth : Growth) (r : Record) : Type 0 where
  pub stalled : Stalled r.launch r.history
  pub written : WroteWhole growth (text r)

-- the run of the record is over, and a prefix of this text of it was written
pub record HasFailed (text : Record → List ℕ) (growth : Growth) (r : Record) : Type 0 where
  pub over : IsOver r.launch r.history
  pub prefix : WrotePrefix growth (text r)

-- ---- records that are kept

-- What every record that is kept is: its history is legal, each entry is confined to what its process's descriptors reach with the rights
-- needed, who holds which descriptors is shown by the entries, each descriptor is traced, of a file, a directory or a standard stream to one
-- of the launch's grants, and at each entry copies are equal, rights are lowered to those asked and what is opened is bounded; it has at most
-- six entries for each turn of the launch, and two more; and its launch is the one that is described, where anything is known of it, and in
-- any case one of these settings. In memory are its denied calls, and its entries where the settings ask for the history.
pub record IsKept (given : Option Settings) (described : Described) (r : Record) : Type 0 where
  pub legal : Legal r.launch r.history
  pub confined : IsConfined r.launch r.history
  pub recorded : IsRecorded r.launch r.history
  pub short : length r.history ≤ 6 * r.launch.turns + 2
  pub launch_described : IsKnownAs described (describes r.launch)
  pub built : IsBuiltBy given r.launch
  pub kept_is : IsKeptOf (history_with given) r.history r.kept

-- The record's history is as the headline has it: one history of its launch, by which no entry reads or changes anything but its process's
-- own and what that process's descriptors reach with the rights needed, traced through recorded grants, along which rights never grow; of
-- memories and registers it reads and changes its process's alone; and every rights refusal names exactly those missing.
abbrev pub IsConfinedRecord : Record → Type 0
IsConfinedRecord r = IsConfinedHistory r.launch r.history

-- what no grant lets the run of the record change is as its launch had it
abbrev pub LeavesUnwritten : Record → Type 0
LeavesUnwritten r = UnwrittenStays r.launch r.history

-- ---- complete answers

-- a refusal that is described is answered, and a launch that is described is run to its text where the sink's count of faults did not rise
abbrev pub Completes : Described → Growth → ℕ → Type 0
Completes unknown growth status = ⊤
Completes (refuses refused line) growth status = status ≡ refused
Completes (describes launch) growth status = ¬ FaultsRose growth → (status ≡ 0) ⊎ (status ≡ 1) ⊎ (status ≡ 71)
