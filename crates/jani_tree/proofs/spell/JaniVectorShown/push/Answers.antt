use Rattle.std.proofs.Common.{refl}
use Rattle.std.specs.Prelude.{codes}
use Rattle.jani_tree.specs.Syntax.{vector_of}
use Rattle.jani_tree.proofs.Pieces.{spelt, ends, vector_pieces, vector_text}
use Rattle.jani_tree.proofs.Kept.{written, kept_vector}
use Rattle.jani_tree.proofs.spell.JaniVectorShown.push.Goals as goal

pub returns-clause-text : goal.returns-clause-text
returns-clause-text c =
    ends c.extend_from_slice.result _ c.push_some_name.new.out.items (codes "}") c.extend_from_slice.ensures.items
    (λ h. spelt c.args.out.now.items (vector_pieces (vector_of c.args.self.now)) _ _ (vector_text (vector_of c.args.self.now))
    (_, c.in_ok-push_list.ensures.text, (_, c.in_ok-push_some_name.ensures.text, (_, h, refl))))

pub returns-clause-kept : goal.returns-clause-kept
returns-clause-kept c =
    written c.extend_from_slice.result (kept_vector (vector_of c.args.self.now) c.in_ok-push_list.ensures.kept c.in_ok-push_some_name.ensures.kept)
