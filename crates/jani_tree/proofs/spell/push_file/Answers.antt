use Rattle.std.proofs.Common.{refl}
use Rattle.std.specs.Prelude.{codes}
use Rattle.std.proofs.Common.{ap, ◌∙◌, ℕ, List, ◌++◌}
use Rattle.jani_tree.specs.Syntax.{file_of}
use Rattle.jani_tree.proofs.Text.{text_of_node}
use Rattle.jani_tree.proofs.Pieces.{spelt, ends, file_pieces, file_text}
use Rattle.jani_tree.proofs.Kept.{written, kept_value, kept_whole}
use Rattle.jani_tree.proofs.spell.push_file.Goals as goal

pub returns-clause-text : goal.returns-clause-text
returns-clause-text c =
    ends c.extend_from_slice-4.result _ c.push_system.new.out.items (codes "}") c.extend_from_slice-4.ensures.items
    (λ h. spelt c.args.out.now.items (file_pieces (file_of c.args.file.now)) _ _ (file_text (file_of c.args.file.now))
    (_, c.in_ok-extend_from_slice.ensures.items, (_, c.in_ok-push_keyed_list.ensures.text, (_, c.in_ok-push_list.ensures.text, (_, c.in_ok-push_list-2.ensures.text, (_, c.in_ok-push_some_boxed.ensures.text, (_, c.in_ok-extend_from_slice-2.ensures.items, (_, (c.in_ok-push_value.ensures.text ∙ ap (λ (u : List ℕ). c.extend_from_slice-2.new.self.items ++ u) (text_of_node _)), (_, c.in_ok-push_list-3.ensures.text, (_, c.in_ok-extend_from_slice-3.ensures.items, (_, c.in_ok-push_system.ensures.text, (_, h, refl))))))))))))

pub returns-clause-kept : goal.returns-clause-kept
returns-clause-kept c =
    written c.extend_from_slice-4.result (kept_whole (file_of c.args.file.now) c.in_ok-push_keyed_list.ensures.kept c.in_ok-push_list.ensures.kept c.in_ok-push_list-2.ensures.kept c.in_ok-push_some_boxed.ensures.kept (kept_value c.args.file.now.properties c.in_ok-push_value.ensures.kept) c.in_ok-push_list-3.ensures.kept c.in_ok-push_system.ensures.kept)
