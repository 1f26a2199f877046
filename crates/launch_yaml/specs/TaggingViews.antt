-- What stands before a value in the program, as contracts speak of it.
use Rattle.launch_yaml.specs.declared.tagging.Tagging.{Tagging}
use Rattle.launch_yaml.specs.declared.tagging.Tagging.TheVariants as taggings
use Rattle.launch_yaml.specs.Blocks as blocks

abbrev pub tagging_view : Tagging → blocks.Tagging
tagging_view taggings.Untagged = blocks.untagged
tagging_view (taggings.Tagged line name) = blocks.tagged line name
tagging_view (taggings.Base64 place) = blocks.in_base64 place
