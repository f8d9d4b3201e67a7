use Rattle.std.proofs.Common.{ℕ, List, ◌++◌, ap, ◌∙◌}
use Rattle.jani_tree.specs.Syntax.{file_of}
use Rattle.jani_tree.specs.Text.{jani_text}
use Rattle.jani_tree.proofs.Back.{spelled_file}
use Rattle.jani_tree.proofs.spell.write_jani.Goals as goal

pub returns-clause-value : goal.returns-clause-value
returns-clause-value c h =
    spelled_file (file_of c.args.file.now) _ h (c.from_vec.ensures ∙ c.in_ok-push_file.ensures.text ∙ ap (λ (u : List ℕ). u ++ jani_text (file_of c.args.file.now)) c.in_ok-out.ensures.items)
    c.in_ok-push_file.ensures.kept
