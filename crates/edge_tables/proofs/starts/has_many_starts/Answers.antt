use Rattle.std.specs.Prelude.{ℕ, ◌+◌, ◌&&◌, ◌||◌, Bool, true, length, nat_lt}
use Rattle.std.specs.List.{list_any}
use Rattle.std.proofs.Common.{◌≡◌, ◌∙◌, ap, ap₂, refl, sym}
use Rattle.std.proofs.lemmas.List.{length-map}
use Rattle.basics.specs.Mapped.{any_mapped}
use Rattle.jani_tree.specs.Syntax.{Automaton, file_of, element_names, element_of}
use Rattle.jani_loops.specs.Elements.{element_view}
use Rattle.jani_meaning.specs.Elements.{lasting}
use Rattle.jani_meaning.specs.Scene.{has_condition}
use Rattle.name_table.specs.JaniParts.{owned_of}
use Rattle.jani_tree.specs.Laws.{element_count}
use Rattle.edge_tables.proofs.starts.has_many_starts.Goals as goal

abbrev crowded : Automaton → Bool
crowded a = nat_lt 1024 (length a.initial)

pub returns-then-some_crowded : goal.returns-then-some_crowded
returns-then-some_crowded c =
    let file = file_of c.args.file.now in
    let condition : has_condition file ≡ true = sym c.has_condition.ensures ∙ c.if-has_condition.true in
    let several = sym (sym (any_mapped element_view crowded (λ a. crowded (element_view a)) (λ a. refl) c.args.automata.now) ∙ ap (list_any crowded) c.requires.automata) ∙ sym c.some_crowded.ensures ∙ c.if-some_crowded.true in
    c.if-some_crowded.true ∙ sym (ap₂ (λ h r. h && (r || nat_lt 1024 (length (element_names file) + length (lasting file)))) condition several)

pub returns-else-some_crowded : goal.returns-else-some_crowded
returns-else-some_crowded c =
    let file = file_of c.args.file.now in
    let condition : has_condition file ≡ true = sym c.has_condition.ensures ∙ c.if-has_condition.true in
    let several = sym (sym (any_mapped element_view crowded (λ a. crowded (element_view a)) (λ a. refl) c.args.automata.now) ∙ ap (list_any crowded) c.requires.automata) ∙ sym c.some_crowded.ensures ∙ c.if-some_crowded.false in
    c.is_above_1024.ensures
    ∙ ap₂ (λ (m : ℕ) n. nat_lt 1024 (m + n)) (c.len.ensures ∙ sym (length-map c.args.file.now.elements element_of) ∙ sym (element_count file)) (sym (length-map c.args.lasting.now owned_of) ∙ ap length c.requires.lasting)
    ∙ sym (ap₂ (λ h r. h && (r || nat_lt 1024 (length (element_names file) + length (lasting file)))) condition several)
