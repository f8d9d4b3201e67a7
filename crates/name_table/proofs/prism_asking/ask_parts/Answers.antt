use Rattle.std.proofs.Common.{◌∙◌, ap, List, map, refl}
use Rattle.jani_tree.specs.Syntax.{file_of, const_of, element_names}
use Rattle.jani_meaning.specs.Elements.{lasting, labels, structures}
use Rattle.jani_tree.specs.declared.syntax.JaniElement.{JaniElement}
use Rattle.name_table.proofs.JaniGathering.{names_are}
use Rattle.name_table.specs.declared.class.NameClass.TheVariants.{Constant, Variable, Module as OfModule, Label, Reward}
use Rattle.name_table.specs.Gathered.{told}
use Rattle.name_table.specs.JaniParts.{owned_of}
use Rattle.name_table.specs.PrismAsks.{ask_for, constant_ask, location_ask, module_ask}
use Rattle.name_table.proofs.Joined.{asked, six}
use Rattle.name_table.proofs.prism_asking.ask_parts.Goals as goal

pub returns : goal.returns
returns c =
    let file = file_of c.args.file.now in
    six c.args.table.now c.ask_each.new.table c.ask_each-2.new.table c.ask_locations.new.table c.ask_each-3.new.table c.ask_each-4.new.table c.ask_each-5.new.table
    (map constant_ask file.constants) (map (ask_for Variable) (lasting file)) (map location_ask (element_names file)) (map module_ask (element_names file)) (map (ask_for Label) (labels file)) (map (ask_for Reward) (structures file))
    (asked Constant _ constant_ask const_of _ _ _ _ c.in_ok-ask_each.ensures (ap (map const_of) c.as_slice.ensures) (λ x. refl))
    (asked Variable _ (ask_for Variable) owned_of _ _ _ _ c.in_ok-ask_each-2.ensures c.requires.values (λ x. refl))
    (c.in_ok-ask_locations.ensures ∙ ap (λ (l : List JaniElement). told c.ask_each-2.new.table (map location_ask (map (λ e. e.name) l))) c.as_slice-2.ensures ∙ ap (λ ns. told c.ask_each-2.new.table (map location_ask ns)) (names_are c.args.file.now.elements))
    (asked OfModule _ module_ask (λ (e : JaniElement). e.name) _ _ _ _ c.in_ok-ask_each-3.ensures (ap (map (λ (e : JaniElement). e.name)) c.as_slice-3.ensures ∙ names_are c.args.file.now.elements) (λ x. refl))
    (asked Label _ (ask_for Label) owned_of _ _ _ _ c.in_ok-ask_each-4.ensures c.requires.marks (λ x. refl))
    (asked Reward _ (ask_for Reward) owned_of _ _ _ _ c.in_ok-ask_each-5.ensures c.requires.rewards (λ x. refl))
