use Rattle.std.proofs.Common.{◌∷◌, [], ◌++◌, ◌∙◌, ap, ap₂, sym, subst, map, refl, take_all, arith, List}
use Rattle.std.specs.List.{All}
use Rattle.std.proofs.lemmas.List.{map-append}
use Rattle.std.proofs.lemmas.List.Elements.{All-push}
use Rattle.jani_loops.specs.declared.accepting.ElementAutomaton.{ElementAutomaton}
use Rattle.jani_loops.specs.Elements.{element_view}
use Rattle.process_core.specs.Instance.{numbered}
use Rattle.edge_tables.specs.Elements.{Element}
use Rattle.gathering.proofs.Loops.{numbered_more, none_left, taken}
use Rattle.module_parts.specs.declared.element.Element.{Element as CodeElement}
use Rattle.module_parts.specs.Code.{element_of, element_with, IsElement}
use Rattle.module_parts.proofs.element.elements.Goals as goal

pub loop-i-preserved : goal.loop-i-preserved
loop-i-preserved c = record {
  are =
      numbered_more element_of element_with element_view _ c.args.automata.now c.loop-i.i c.index-automata-i.result c.loop-i.all.items _
      (c.in_ok-of.field-0 ∷ []) (omega arith) c.index-automata-i.is c.loop-i.invariant.are
      (ap (λ (el : Element). el ∷ []) c.in_ok-of.ensures.element) c.in_ok-push.ensures.items;
  located =
      subst (All IsElement) (sym c.in_ok-push.ensures.items)
      (All-push IsElement c.loop-i.all.items c.in_ok-of.field-0 c.loop-i.invariant.located c.in_ok-of.ensures.numbers);
  automata =
      ap (map (λ (el : CodeElement). el.automaton)) c.in_ok-push.ensures.items
      ∙ map-append (λ (el : CodeElement). el.automaton) c.loop-i.all.items (c.in_ok-of.field-0 ∷ [])
      ∙ ap₂ (λ (l : List ElementAutomaton) (a : ElementAutomaton). l ++ a ∷ []) c.loop-i.invariant.automata c.in_ok-of.ensures.automaton
      ∙ sym (taken c.args.automata.now c.loop-i.i c.index-automata-i.result (omega arith) c.index-automata-i.is);
}

pub returns : goal.returns
returns c = record {
  elements = record {
    elements_are =
        none_left (λ (l : List ElementAutomaton). numbered element_with c.loop-i.i (map element_view l)) _ (map element_of c.loop-i.all.items) c.args.automata.now c.loop-i.i refl
        (omega arith) c.loop-i.invariant.are;
    located = c.loop-i.invariant.located;
  };
  automata = c.loop-i.invariant.automata ∙ take_all c.loop-i.i c.args.automata.now (omega arith);
}
