use Rattle.std.proofs.Common.{◌∙◌, ap, sym, map}
use Rattle.std.specs.List.{list_any}
use Rattle.process_core.specs.Product.{map-map}
use Rattle.prism_tree.specs.Syntax.{module_of}
use Rattle.name_table.specs.Asks.{contents}
use Rattle.name_table.specs.Gathered.{body_in}
use Rattle.jani_translation.specs.Automata.{has_silent}
use Rattle.jani_edges.proofs.silent.has_silent_modules.Goals as goal

pub returns : goal.returns
returns c =
    c.is_some_module_silent.ensures
    ∙ ap (list_any has_silent) (ap (map body_in) c.as_slice.ensures ∙ sym (map-map contents module_of c.args.file.now.modules))
