use Rattle.elf_image.proofs.FaultOrder.{image_sound}
use Rattle.elf_image.proofs.laws.image_is_sound.Goals as goal

pub returns : goal.returns
returns c = image_sound
