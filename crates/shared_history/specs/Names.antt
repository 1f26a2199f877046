-- What a name stands for: a table of passes, the launch of its run, and whether every entry is kept in memory.
use Rattle.std.specs.Prelude.{Bool, [], refl}
use Rattle.std.specs.Coded.{Coded, code_by, coded×, coded_bool}
use Rattle.std.specs.FinMap.{empty}
use Rattle.atomic_table.specs.Seated.{TableId, table_id_coded}
use Rattle.run_types.specs.contracts.launch.Launch as launch
use Rattle.run_types.specs.declared.history.Act.TheVariants as act
use Rattle.run_types.specs.declared.history.Entry.{Entry}
use Rattle.run_types.specs.declared.launch.Launch.{Launch}

pub record Name : Type 0 where
  pub table : TableId
  pub launch : Launch
  pub keeps_all : Bool

-- ---- what the marker of no name stands for

abbrev pub no_table : TableId
no_table = record { words = 0; slots = 0; views_name = 0; atom = 0; block = 0; offset = 0; slot_names = [] }

abbrev pub no_launch : Launch
no_launch = record {
  elf = record { base = 0; entry = 0; phdr = 0; phnum = 0; segments = [] };
  argdata = [];
  grants = [];
  tree = record { nodes = empty; names = empty };
  stdin = [];
  constants = record { key = []; epoch = 0 };
  turns = 0;
}

abbrev pub no_entry : Entry
no_entry = record { moment = 0; pid = 0; tid = 0; turns = []; act = act.Idle }

-- ---- the code of a name, by which proofs distinguish names: the tuple of its parts

abbrev pub launch_code : Coded Launch
launch_code = launch.the_row.coded

abbrev pub name_code : Coded Name
name_code =
    code_by (TableId × (Launch × Bool)) (coded× table_id_coded (coded× launch_code coded_bool)) (λ n. (n.table, (n.launch, n.keeps_all)))
    (λ f. record { table = f.0; launch = f.1.0; keeps_all = f.1.1 }) (λ _. refl)
