use Rattle.std.proofs.Common.{◌∙◌, ap, sym, ℕ, List, ◌++◌, map}
use Rattle.process_core.specs.Product.{map-map}
use Rattle.process_core.specs.Instance.{numbered, only_if}
use Rattle.prism_tree.specs.Syntax.{Body, file_of, module_of}
use Rattle.jani_tree.specs.Syntax as jani
use Rattle.name_table.specs.Asks.{contents}
use Rattle.name_table.specs.Gathered.{body_in}
use Rattle.jani_automata.specs.Automata.{has_silent}
use Rattle.jani_automata.specs.Translated.{silent_vector}
use Rattle.prism_to_jani.proofs.syncs.add_silent_vectors.Goals as goal

pub loop-i-init : goal.loop-i-init
loop-i-init c =
    ap (λ (l : List Body). map jani.vector_of c.args.all.now ++ numbered (λ (i : ℕ) (m : Body). only_if (has_silent m) (silent_vector (file_of c.args.file.now) i)) 0 l)
    (ap (map body_in) c.as_slice-m-items.ensures ∙ sym (map-map contents module_of c.args.file.now.modules))
