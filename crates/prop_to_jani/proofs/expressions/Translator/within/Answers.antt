use Rattle.prop_to_jani.proofs.Bounding.{bound_made}
use Rattle.prop_to_jani.proofs.expressions.Translator.within.Goals as goal

pub returns : goal.returns
returns c = bound_made c.no_members.result c.with-upper.result c.args.path c.with.result c.json.result c.object.result _ c.no_members.ensures c.json.ensures c.with-upper.ensures c.object.ensures c.with.ensures
