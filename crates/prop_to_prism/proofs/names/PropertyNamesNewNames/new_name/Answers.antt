use Rattle.std.proofs.Common.{◌∙◌, sym, arith}
use Rattle.std.proofs.lemmas.Str.Pattern.{strip_prefix_char}
use Rattle.prop_to_prism.proofs.NewNames.{stripped_some, stripped_none}
use Rattle.prop_to_prism.proofs.names.PropertyNamesNewNames.new_name.Goals as goal

pub returns-in-Some : goal.returns-in-Some
returns-in-Some c =
    c.model_name.ensures
    ∙ sym (stripped_some c.args.self.now c.args.old.now c.strip_prefix.result c.in-Some.name c.in-Some.is
    (strip_prefix_char 46 c.args.old.now c.strip_prefix.result c.strip_prefix.ensures.cases (omega arith)))

pub returns-in-None : goal.returns-in-None
returns-in-None c =
    c.given_label.ensures
    ∙ sym (stripped_none c.args.self.now c.args.old.now c.strip_prefix.result c.in-None.is (strip_prefix_char 46 c.args.old.now c.strip_prefix.result c.strip_prefix.ensures.cases (omega arith)))
