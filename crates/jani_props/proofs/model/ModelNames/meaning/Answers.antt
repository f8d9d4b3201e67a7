use Rattle.std.proofs.Common.{◌∙◌, sym, arith}
use Rattle.std.proofs.lemmas.Str.Pattern.{strip_prefix_char}
use Rattle.jani_props.specs.Model.{things_of}
use Rattle.jani_props.proofs.Meanings.{plain_meaning}
use Rattle.jani_props.proofs.model.ModelNames.meaning.Goals as goal

pub returns-in-None : goal.returns-in-None
returns-in-None c =
    c.built_in.ensures
    ∙ sym (plain_meaning (things_of c.args.self.now) c.args.name.now c.strip_prefix.result (strip_prefix_char 46 c.args.name.now c.strip_prefix.result c.strip_prefix.ensures.cases (omega arith)) c.in-None.is)
