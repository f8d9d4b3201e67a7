use Rattle.std.proofs.Common.{refl}
use Rattle.std.specs.Prelude.{codes}
use Rattle.std.specs.Prelude.{map}
use Rattle.jani_tree.specs.Syntax.{element_of, vector_of}
use Rattle.jani_tree.proofs.Pieces.{spelt, ends, system_pieces, system_text}
use Rattle.jani_tree.proofs.Kept.{written, kept_system}
use Rattle.jani_tree.proofs.spell.push_system.Goals as goal

pub returns-clause-text : goal.returns-clause-text
returns-clause-text c =
    ends c.extend_from_slice.result _ c.push_list-2.new.out.items (codes "}") c.extend_from_slice.ensures.items
    (λ h. spelt c.args.out.now.items (system_pieces (map element_of c.args.file.now.elements) (map vector_of c.args.file.now.vectors)) _ _ (system_text (map element_of c.args.file.now.elements) 0 (map vector_of c.args.file.now.vectors))
    (_, c.in_ok-push_list.ensures.text, (_, c.in_ok-push_list-2.ensures.text, (_, h, refl))))

pub returns-clause-kept : goal.returns-clause-kept
returns-clause-kept c =
    written c.extend_from_slice.result (kept_system (map element_of c.args.file.now.elements) (map vector_of c.args.file.now.vectors) c.in_ok-push_list.ensures.kept c.in_ok-push_list-2.ensures.kept)
