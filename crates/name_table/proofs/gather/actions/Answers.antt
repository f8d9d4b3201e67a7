use Rattle.std.proofs.Common.{◌∙◌, ap, sym, map, ℕ, List}
use Rattle.std.specs.Prelude.{bytes_eq}
use Rattle.std.specs.Borrow.{Bor}
use Rattle.std.specs.List.{flat_map}
use Rattle.process_core.specs.Product.{map-map}
use Rattle.basics.specs.Options.{if_some}
use Rattle.process_core.specs.Ready.{firsts}
use Rattle.prism_tree.specs.Syntax.{Body, Command, module_of}
use Rattle.name_table.specs.Asks.{contents, action_of}
use Rattle.name_table.specs.Gathered.{body_in}
use Rattle.name_table.proofs.gather.actions.Goals as goal

pub returns : goal.returns
returns c =
    c.in_ok-all.ensures
    ∙ ap (firsts bytes_eq)
    (ap (map (λ (x : Bor (List ℕ)). x.now)) c.as_slice-2.ensures.value
    ∙ c.in_ok-occurring.ensures
    ∙ ap (flat_map (λ (m : Body). flat_map (λ (k : Command). if_some (action_of k)) m.commands))
    (ap (map body_in) c.as_slice.ensures ∙ sym (map-map contents module_of c.args.file.now.modules)))
