use Rattle.std.specs.Prelude.{List, map}
use Rattle.std.specs.List.{list_any}
use Rattle.std.proofs.Common.{◌∙◌, ap, sym}
use Rattle.process_core.specs.Product.{map-map}
use Rattle.prism_tree.specs.declared.syntax.PrismModule.{PrismModule}
use Rattle.prism_tree.specs.declared.syntax.PrismRewards.{PrismRewards}
use Rattle.prism_tree.specs.Syntax.{Item, Rewards, module_of, rewards_of}
use Rattle.name_table.specs.Asks.{contents}
use Rattle.name_table.specs.Gathered.{body_in}
use Rattle.jani_translation.specs.Automata.{for_action}
use Rattle.jani_translation.specs.Translated.{has_command}
use Rattle.jani_edges.proofs.partners.Partners.of.Goals as goal

pub returns : goal.returns
returns c = record {
  modules = λ x.
      c.in_ok-modules.ensures x
      ∙ ap (λ (l : List PrismModule). map (has_command x) (map body_in l)) c.as_slice.ensures
      ∙ ap (map (has_command x)) (sym (map-map contents module_of c.args.file.now.modules));
  items = λ x.
      c.in_ok-items.ensures x
      ∙ ap (λ (l : List PrismRewards). list_any (λ (r : Rewards). list_any (λ (i : Item). for_action x i.on) r.items) (map rewards_of l)) c.as_slice-2.ensures;
}
