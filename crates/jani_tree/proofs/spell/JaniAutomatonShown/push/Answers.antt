use Rattle.std.proofs.Common.{refl}
use Rattle.std.specs.Prelude.{codes}
use Rattle.jani_tree.specs.Syntax.{automaton_of}
use Rattle.jani_tree.proofs.Pieces.{spelt, ends, automaton_pieces, automaton_text}
use Rattle.jani_tree.proofs.Kept.{written, kept_automaton}
use Rattle.jani_tree.proofs.spell.JaniAutomatonShown.push.Goals as goal

pub returns-clause-text : goal.returns-clause-text
returns-clause-text c =
    ends c.extend_from_slice.result _ c.push_list-3.new.out.items (codes "}") c.extend_from_slice.ensures.items
    (λ h. spelt c.args.out.now.items (automaton_pieces (automaton_of c.args.self.now)) _ _ (automaton_text (automaton_of c.args.self.now))
    (_, c.in_ok-push_named.ensures.text, (_, c.in_ok-push_some_list.ensures.text, (_, c.in_ok-push_list.ensures.text, (_, c.in_ok-push_list-2.ensures.text, (_, c.in_ok-push_list-3.ensures.text, (_, h, refl)))))))

pub returns-clause-kept : goal.returns-clause-kept
returns-clause-kept c =
    written c.extend_from_slice.result (kept_automaton (automaton_of c.args.self.now) c.in_ok-push_named.ensures.utf8 c.in_ok-push_some_list.ensures.kept c.in_ok-push_list.ensures.kept c.in_ok-push_list-2.ensures.kept c.in_ok-push_list-3.ensures.kept)
