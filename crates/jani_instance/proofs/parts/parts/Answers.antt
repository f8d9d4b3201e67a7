use Rattle.std.specs.Prelude.{◌≡◌, List, IfOk, map}
use Rattle.std.proofs.Common.{◌∙◌, ap, subst, sym}
use Rattle.name_rules.specs.Names.{Name}
use Rattle.jani_tree.specs.declared.syntax.JaniElement.{JaniElement}
use Rattle.jani_tree.specs.Syntax.{Automaton, automaton_of, file_of}
use Rattle.jani_check.specs.Participants.{automaton_in, automaton_under}
use Rattle.jani_loops.specs.Looped.{IsLooped}
use Rattle.jani_instance.specs.Parts.{automaton_at, automaton_by, looped_by}
use Rattle.jani_instance.proofs.Looped.{all_looped, all_plain}
use Rattle.jani_instance.proofs.parts.parts.Goals as goal

pub looped_parts-requires : goal.looped_parts-requires
looped_parts-requires c =
    let file = file_of c.args.file.now in
    let t = c.in_ok-automata.automata in
    let known : (x : Name) → automaton_under t x ≡ automaton_in file.automata x = λ x. c.in_ok-automata.ensures x ∙ ap (λ l. automaton_in (map automaton_of l) x) c.as_slice.ensures in
    let whole : IsLooped file c.args.looped.now = c.requires in
    ap (map automaton_of) c.as_slice-in-Some-2.ensures
    ∙ subst (IsLooped file) c.in-Some.is whole
    ∙ sym (ap (map (λ (e : JaniElement). looped_by t e)) c.as_slice-in-Some.ensures ∙ all_looped file t known c.args.file.now.elements)

pub returns-in-Some : goal.returns-in-Some
returns-in-Some c =
    let file = file_of c.args.file.now in
    let t = c.in_ok-automata.automata in
    let known : (x : Name) → automaton_under t x ≡ automaton_in file.automata x = λ x. c.in_ok-automata.ensures x ∙ ap (λ l. automaton_in (map automaton_of l) x) c.as_slice.ensures in
    subst (λ (l : List Automaton). IfOk c.looped_parts.result (λ ps. map automaton_at ps.items ≡ l))
    (ap (map (λ (e : JaniElement). looped_by t e)) c.as_slice-in-Some.ensures ∙ all_looped file t known c.args.file.now.elements) c.looped_parts.ensures

pub returns : goal.returns
returns c =
    let file = file_of c.args.file.now in
    let t = c.in_ok-automata.automata in
    let known : (x : Name) → automaton_under t x ≡ automaton_in file.automata x = λ x. c.in_ok-automata.ensures x ∙ ap (λ l. automaton_in (map automaton_of l) x) c.as_slice.ensures in
    let whole : IsLooped file c.args.looped.now = c.requires in
    subst (λ (l : List Automaton). IfOk c.plain_parts.result (λ ps. map automaton_at ps.items ≡ l))
    (ap (map (λ (e : JaniElement). automaton_by t e.name)) c.as_slice-in-None.ensures ∙ all_plain file t known c.args.file.now.elements (subst (IsLooped file) c.in-None.is whole)) c.plain_parts.ensures
