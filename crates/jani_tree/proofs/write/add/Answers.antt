use Rattle.std.proofs.Common.{◌∙◌, refl}
use Rattle.jani_tree.proofs.write.add.Goals as goal
use Rattle.jani_tree.proofs.Members.{fields_push}

pub returns : goal.returns
returns c = fields_push _ _ (record { key = record { name = c.in_ok-name.name; at = 0 }; value = c.args.value }) _ _ c.in_ok-push.ensures.ok (c.in_ok-name.ensures ∙ c.text.ensures) refl refl
