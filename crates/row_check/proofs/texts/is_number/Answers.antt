use Rattle.std.proofs.Common.{refl, subst, eq-eqb, eqb-true}
use Rattle.row_check.specs.Texts.{IsNumber}
use Rattle.row_check.proofs.Parts.{number_once}
use Rattle.row_check.proofs.texts.is_number.Goals as goal

pub returns-in-Some : goal.returns-in-Some
returns-in-Some c =
    let text = c.args.text.now in (
      λ e. subst (IsNumber text) (eqb-true c.in-Some.m c.args.n e) c.in-Some.ensures,
      λ i. eq-eqb c.in-Some.m c.args.n (number_once text text c.in-Some.m c.args.n refl c.in-Some.ensures i),
    )
