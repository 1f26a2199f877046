use Rattle.elf_image.specs.Image.{image}
use Rattle.elf_image.proofs.FaultOrder.{complete, err_of, ok_of, sound_of}
use Rattle.elf_image.proofs.reading.read_elf.Goals as goal

pub returns-clause-ok : goal.returns-clause-ok
returns-clause-ok c = ok_of c.args.bytes.now c.read.result (image c.args.bytes.now) c.read.ensures

pub returns-clause-fault : goal.returns-clause-fault
returns-clause-fault c = err_of c.args.bytes.now c.read.result (image c.args.bytes.now) c.read.ensures

pub returns-clause-complete : goal.returns-clause-complete
returns-clause-complete c =
    λ found first. complete c.args.bytes.now c.read.result (image c.args.bytes.now) found c.read.ensures first

pub returns-clause-sound : goal.returns-clause-sound
returns-clause-sound c = sound_of c.args.bytes.now c.read.result c.read.ensures
