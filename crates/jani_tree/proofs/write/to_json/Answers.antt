use Rattle.std.proofs.Common.{sym, subst}
use Rattle.jani_tree.specs.Syntax.{file_of}
use Rattle.jani_tree.specs.Jani.{IsFile}
use Rattle.jani_tree.proofs.Again.{file_again}
use Rattle.jani_tree.proofs.Back.{clean_value}
use Rattle.jani_tree.proofs.write.to_json.Goals as goal

pub returns-clause-again : goal.returns-clause-again
returns-clause-again c = λ h. subst (λ w. IsFile w (file_of c.args.file.now)) (sym c.in_ok-value.ensures) (file_again (file_of c.args.file.now) h)

pub returns-clause-clean : goal.returns-clause-clean
returns-clause-clean c = λ h. clean_value (file_of c.args.file.now) c.in_ok-value.value c.in_ok-value.ensures h
