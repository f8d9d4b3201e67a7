use Rattle.std.proofs.Common.{refl}
use Rattle.std.specs.Prelude.{codes}
use Rattle.jani_tree.specs.Syntax.{var_of}
use Rattle.jani_tree.proofs.Pieces.{spelt, ends, var_pieces, var_text}
use Rattle.jani_tree.proofs.Kept.{written, kept_var}
use Rattle.jani_tree.proofs.spell.JaniVarShown.push.Goals as goal

pub returns-clause-text : goal.returns-clause-text
returns-clause-text c =
    ends c.extend_from_slice-2.result _ c.push_some_note.new.out.items (codes "}") c.extend_from_slice-2.ensures.items
    (λ h. spelt c.args.out.now.items (var_pieces (var_of c.args.self.now)) _ _ (var_text (var_of c.args.self.now))
    (_, c.in_ok-push_named.ensures.text, (_, c.in_ok-extend_from_slice.ensures.items, (_, c.in_ok-push_kind.ensures.text, (_, c.in_ok-push_flag.ensures, (_, c.in_ok-push_some_expression.ensures.text, (_, c.in_ok-push_some_note.ensures.text, (_, h, refl))))))))

pub returns-clause-kept : goal.returns-clause-kept
returns-clause-kept c =
    written c.extend_from_slice-2.result (kept_var (var_of c.args.self.now) c.in_ok-push_named.ensures.utf8 c.in_ok-push_kind.ensures.kept c.in_ok-push_some_expression.ensures.kept c.in_ok-push_some_note.ensures.kept)
