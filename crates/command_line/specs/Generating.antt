-- The words of a run whose program, launch text and tree document are generated:
-- `cloudabi-run --generate N` or `cloudabi-run --generate N --workers W`.
use Rattle.std.specs.Prelude.{◌≤◌, Bool, false, List, [], ◌∷◌, codes, Option, None, Some, if◌then◌else◌}
use Rattle.std.specs.Str.{bytes_eq}
use Rattle.command_line.specs.Settings.{or_default, ◌>>=◌}
use Rattle.command_line.specs.Values.{Word, number_of}
use Rattle.command_line.specs.declared.generating.GenerateSettings.{GenerateSettings}

-- the numbers that these words give: of processes 1 to 128, and of workers 1 to 64, or 4 where no word gives it
abbrev pub numbers_in : Word → Option Word → Option GenerateSettings
numbers_in processes workers = do
  n ← number_of 1 128 processes
  w ← or_default 4 (number_of 1 64) workers
  Some (record { processes = n; workers = w })

-- whether the word behind the program's own name is `--generate`
abbrev pub asks_to_generate : List Word → Bool
asks_to_generate (own ∷ word ∷ words) = bytes_eq word (codes "--generate")
asks_to_generate _ = false

-- what stands behind `--generate`: a number, or a number and `--workers` with another one
abbrev pub numbers_of : List Word → Option GenerateSettings
numbers_of (processes ∷ []) = numbers_in processes None
numbers_of (processes ∷ option ∷ workers ∷ []) = if bytes_eq option (codes "--workers") then numbers_in processes (Some workers) else None
numbers_of _ = None

-- The numbers of a generated run that words stand for, or nothing. The first word is the running program's own name and is not looked at.
abbrev pub generate_of : List Word → Option GenerateSettings
generate_of (own ∷ word ∷ words) = if bytes_eq word (codes "--generate") then numbers_of words else None
generate_of _ = None

-- the numbers are in their ranges
pub record IsGenerateWithin (settings : GenerateSettings) : Type 0 where
  pub processes : (1 ≤ settings.processes) × (settings.processes ≤ 128)
  pub workers : (1 ≤ settings.workers) × (settings.workers ≤ 64)
