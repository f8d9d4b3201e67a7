use Rattle.std.specs.Prelude.{is_some}
use Rattle.std.specs.List.{list_any}
use Rattle.std.specs.Option.{option_map}
use Rattle.std.proofs.Common.{◌≡◌, ◌∙◌, ◌||◌, ap, ap₂, sym, refl, false}
use Rattle.basics.specs.Mapped.{any_mapped}
use Rattle.basics.specs.Options.{is_some-map}
use Rattle.op_trees.specs.Tree.{tree}
use Rattle.jani_tree.specs.Syntax.{file_of}
use Rattle.jani_loops.specs.Elements.{element_view}
use Rattle.jani_meaning.specs.Elements.{elements, has_several_starts, lasting}
use Rattle.jani_meaning.specs.Scene.{begins_anywhere}
use Rattle.name_table.specs.JaniParts.{owned_of}
use Rattle.edge_tables.proofs.starts.has_condition.Goals as goal

pub returns-else-is_some : goal.returns-else-is_some
returns-else-is_some c =
    let file = file_of c.args.file.now in
    let several = sym (any_mapped element_view has_several_starts (λ a. has_several_starts (element_view a)) (λ a. refl) c.args.automata.now) ∙ ap (list_any has_several_starts) c.requires.automata in
    let anywhere = sym (any_mapped owned_of begins_anywhere (λ o. begins_anywhere (owned_of o)) (λ o. refl) c.args.lasting.now) ∙ ap (list_any begins_anywhere) c.requires.lasting in
    let none : is_some (option_map tree c.args.file.now.restrict) ≡ false = is_some-map tree c.args.file.now.restrict ∙ sym c.is_some.ensures ∙ c.if-is_some.false in
    c.begins_openly.ensures ∙ ap₂ (λ a b. a || b) several anywhere ∙ sym (ap (λ r. r || (list_any has_several_starts (elements file) || list_any begins_anywhere (lasting file))) none)
