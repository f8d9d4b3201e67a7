use Rattle.std.proofs.Common.{refl}
use Rattle.std.specs.Prelude.{codes}
use Rattle.jani_tree.specs.Syntax.{element_of}
use Rattle.jani_tree.proofs.Pieces.{spelt, ends, element_pieces, element_text}
use Rattle.jani_tree.proofs.Kept.{written, kept_element}
use Rattle.jani_tree.proofs.spell.JaniElementShown.push.Goals as goal

pub returns-clause-text : goal.returns-clause-text
returns-clause-text c =
    ends c.extend_from_slice.result _ c.push_some_list.new.out.items (codes "}") c.extend_from_slice.ensures.items
    (λ h. spelt c.args.out.now.items (element_pieces (element_of c.args.self.now)) _ _ (element_text (element_of c.args.self.now))
    (_, c.in_ok-push_named.ensures.text, (_, c.in_ok-push_some_list.ensures.text, (_, h, refl))))

pub returns-clause-kept : goal.returns-clause-kept
returns-clause-kept c =
    written c.extend_from_slice.result (kept_element (element_of c.args.self.now) c.in_ok-push_named.ensures.utf8 c.in_ok-push_some_list.ensures.kept)
