-- What a sink did in a call: what it shows of its bytes before and after, and whether its count of faults rose. What it shows is as its trait
-- says (a sink may show nothing). The count rose where it is greater afterwards, or stands at its last value.
use Rattle.std.specs.Prelude.{◌≡◌, ◌⊎◌, ℕ, List, Option}
use Rattle.input_output.specs.Sink.{grown, GrewByPrefix}
use Rattle.input_output.specs.Source.{Rose}

-- what a sink shows of its bytes before and after a call, and its counts of faults then
pub record Growth : Type 0 where
  pub before : Option (List ℕ)
  pub after : Option (List ℕ)
  pub faults_before : ℕ
  pub faults_after : ℕ

-- what a sink did from one of its states to another, by what its trait says of each: its bytes and its count of faults
abbrev pub growth : {S : Type 0} → (S → Option (List ℕ)) → (S → ℕ) → S → S → Growth
growth written faults old new = record { before = written old; after = written new; faults_before = faults old; faults_after = faults new }

-- its count of faults rose
abbrev pub FaultsRose : Growth → Type 0
FaultsRose growth = Rose growth.faults_before growth.faults_after

-- nothing was written
abbrev pub WroteNothing : Growth → Type 0
WroteNothing growth = growth.after ≡ growth.before

-- exactly this text was written
abbrev pub WroteWhole : Growth → List ℕ → Type 0
WroteWhole growth text = growth.after ≡ grown growth.before text

-- a prefix of the text was written: none, some or all of it
abbrev pub WrotePrefix : Growth → List ℕ → Type 0
WrotePrefix growth text = GrewByPrefix growth.before growth.after text

-- the text was written whole, or a prefix of it where the sink's count of faults rose
abbrev pub Wrote : Growth → List ℕ → Type 0
Wrote growth text = WroteWhole growth text ⊎ (FaultsRose growth × WrotePrefix growth text)
