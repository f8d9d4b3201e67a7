use Rattle.std.proofs.Common.{subst}
use Rattle.std.specs.Prelude.{Err}
use Rattle.std.proofs.lemmas.List.{length-map}
use Rattle.prism_exprs.specs.Kept.{seen}
use Rattle.prism_exprs.specs.declared.tokens.Stop.{Stop}
use Rattle.prism_exprs.specs.declared.tokens.Stop.TheVariants.{At}
use Rattle.prop_reader.specs.Parts.{PropertiesIn}
use Rattle.prop_reader.proofs.reasons.read_properties.Goals as goal

pub returns-in-Err-At-clause-err : goal.returns-in-Err-At-clause-err
returns-in-Err-At-clause-err c =
    let F : Stop → Type 0 = λ e. PropertiesIn (seen c.args.tokens) (Err e) in
    let stop : F (At c.in-Err-At.rest c.in-Err-At.cause) = subst F c.in-Err-At.field-0-is c.in-Err-At.ensures in
    c.fault_at.ensures (seen c.in-Err-At.rest) (length-map c.in-Err-At.rest.found.now _) stop
