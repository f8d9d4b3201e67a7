-- Each JANI file that a text without fault of shape spells has short names.
use Rattle.decimal_json.proofs.Yields.{spelled_normal}
use Rattle.jani_table.specs.Node.{node}
use Rattle.jani_tree.proofs.Normal.{normal_node}
use Rattle.jani_tree.proofs.Formed.{file_read}
use Rattle.short_names.specs.Laws.{JaniNamesAreShort}

pub jani_names : JaniNamesAreShort
jani_names bytes value tokens f j c p = file_read (node value) f c (normal_node value (spelled_normal bytes value tokens j)) p
