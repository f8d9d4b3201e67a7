use Rattle.std.proofs.Common.{◌∙◌, ◌+◌, ap, ap₂, sym, map, length}
use Rattle.std.specs.Prelude.{ℕ}
use Rattle.std.specs.List.{position}
use Rattle.std.specs.Option.{option_map, option_or}
use Rattle.std.proofs.lemmas.List.{length-map}
use Rattle.instance_start.specs.declared.data.Place.TheVariants.{Variable}
use Rattle.jani_tree.specs.Syntax.{const_of, file_of}
use Rattle.jani_meaning.specs.Elements.{is_global, lasting}
use Rattle.jani_instance.specs.Constants.{constant_place}
use Rattle.jani_instance.specs.Parts.{automaton_at, owned_at}
use Rattle.jani_meaning.specs.LoopLaws.{element_count}
use Rattle.jani_instance.proofs.start.places.Goals as goal

pub returns : goal.returns
returns c =
    let file = file_of c.args.file.now in
    let listed = c.requires.listed in
    let size = ap length c.as_slice-first.ensures.value ∙ sym (length-map c.args.listed.now.parts.items automaton_at) ∙ ap length listed.parts_are ∙ element_count file in
    let vars = ap (map owned_at) c.as_slice.ensures.value ∙ listed.kinds_are.lasting_are in
    λ x.
    c.in_ok-add_constants.ensures x
    ∙ ap₂ option_or
    (c.in_ok-places.ensures x
    ∙ ap (λ l. option_map (λ (k : ℕ). Variable (length c.as_slice-first.result.now + k)) (position (is_global x) l)) vars
    ∙ ap (λ n. option_map (λ (k : ℕ). Variable (n + k)) (position (is_global x) (lasting file))) size)
    (ap (λ l. constant_place (map const_of l) x) c.as_slice-2.ensures)
