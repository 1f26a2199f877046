-- A tag of the program as the tag that contracts speak of.
use Rattle.launch_values.specs.declared.tags.Tag.{Tag}
use Rattle.launch_values.specs.declared.tags.Tag.TheVariants as tags
use Rattle.launch_values.specs.Tags as defined

abbrev pub tag_view : Tag → defined.Tag
tag_view (tags.Named name) = defined.named name
tag_view tags.Base64 = defined.bytes_in_base64
