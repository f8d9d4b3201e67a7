use Rattle.jani_tree.specs.Syntax.{write_of}
use Rattle.jani_tree.proofs.Kept.{written, kept_write}
use Rattle.jani_tree.proofs.spell.JaniWriteShown.push.Goals as goal

pub returns-clause-kept : goal.returns-clause-kept
returns-clause-kept c =
    written c.extend_from_slice.result (kept_write (write_of c.args.self.now) c.in_ok-push_named.ensures.utf8 c.in_ok-push_expression.ensures.kept)
