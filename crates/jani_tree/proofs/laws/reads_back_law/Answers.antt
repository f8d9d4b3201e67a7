use Rattle.std.proofs.Common.{subst}
use Rattle.jani_tree.proofs.Back.{reads_back}
use Rattle.decimal_json.specs.Proper.{SameValue}
use Rattle.jani_tree.proofs.laws.reads_back_law.Goals as goal

pub returns-clause-value : goal.returns-clause-value
returns-clause-value c = reads_back

pub returns-clause-text : goal.returns-clause-text
returns-clause-text c = λ f x y bytes h short e s w. reads_back f x y h short e (subst (λ z. SameValue z x) (w.only s.0 s.1 s.2) s.3)
