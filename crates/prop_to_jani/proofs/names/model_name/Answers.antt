use Rattle.std.proofs.Common.{arith}
use Rattle.std.proofs.lemmas.Str.Pattern.{strip_prefix_char}
use Rattle.prop_to_jani.proofs.Stripped.{model_stripped}
use Rattle.prop_to_jani.proofs.names.model_name.Goals as goal

pub returns : goal.returns
returns c = model_stripped c.args.name.now c.strip_prefix.result (strip_prefix_char 46 c.args.name.now c.strip_prefix.result c.strip_prefix.ensures.cases (omega arith))
