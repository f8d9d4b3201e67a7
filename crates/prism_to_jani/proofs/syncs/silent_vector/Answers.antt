use Rattle.std.proofs.Common.{◌∙◌, ap, sym, List, ◌∷◌, [], ◌++◌, map, Option, Some, None}
use Rattle.std.specs.Prelude.{nat_eq}
use Rattle.bridge_io.specs.declared.reason.Named.{Named}
use Rattle.process_core.specs.Product.{map-map}
use Rattle.process_core.specs.Instance.{numbered}
use Rattle.prism_tree.specs.Syntax.{module_of}
use Rattle.name_table.specs.Asks.{contents}
use Rattle.name_table.specs.Gathered.{body_in}
use Rattle.jani_automata.specs.Automata.{zz_silent}
use Rattle.jani_automata.specs.Translated.{part_if}
use Rattle.prism_to_jani.proofs.syncs.silent_vector.Goals as goal

pub returns : goal.returns
returns c =
    ap (λ (l : List (Option Named)). record { parts = l; result = None; at = 0 })
    (c.in_ok-push.ensures.ok
    ∙ ap (λ (z : Named). c.in_ok-parts.parts ++ Some z ∷ []) c.in_ok-zz_silent.ensures
    ∙ ap (λ (l : List (Option Named)). l ++ Some zz_silent ∷ [])
    (c.in_ok-parts.ensures
    ∙ ap (numbered (λ k m. part_if (nat_eq c.args.number k) zz_silent ∷ []) 0) (ap (map body_in) c.as_slice.ensures ∙ sym (map-map contents module_of c.args.file.now.modules))))
