use Rattle.std.proofs.Common.{◌≡◌, ◌∙◌, ◌||◌, ap, ap₂, sym, refl, false}
use Rattle.std.specs.Prelude.{is_some}
use Rattle.std.specs.List.{list_any}
use Rattle.std.specs.Option.{option_map}
use Rattle.op_trees.specs.Tree.{tree}
use Rattle.basics.specs.Mapped.{any_mapped}
use Rattle.basics.specs.Options.{is_some-map}
use Rattle.jani_tree.specs.Syntax.{file_of}
use Rattle.jani_meaning.specs.Elements.{elements, has_several_starts, lasting}
use Rattle.jani_meaning.specs.Scene.{begins_anywhere}
use Rattle.jani_instance.specs.Parts.{automaton_at, owned_at}
use Rattle.jani_instance.proofs.initial.has_condition.Goals as goal

pub returns-else-is_some : goal.returns-else-is_some
returns-else-is_some c =
    let file = file_of c.args.file.now in
    let several = sym (any_mapped automaton_at has_several_starts (λ p. has_several_starts (automaton_at p)) (λ p. refl) c.args.parts.now) ∙ ap (list_any has_several_starts) c.requires.parts in
    let anywhere = sym (any_mapped owned_at begins_anywhere (λ o. begins_anywhere (owned_at o)) (λ o. refl) c.args.vars.now) ∙ ap (list_any begins_anywhere) c.requires.vars in
    let none : is_some (option_map tree c.args.file.now.restrict) ≡ false = is_some-map tree c.args.file.now.restrict ∙ sym c.is_some.ensures ∙ c.if-is_some.false in
    c.begins_openly.ensures ∙ ap₂ (λ a b. a || b) several anywhere ∙ sym (ap (λ r. r || (list_any has_several_starts (elements file) || list_any begins_anywhere (lasting file))) none)
