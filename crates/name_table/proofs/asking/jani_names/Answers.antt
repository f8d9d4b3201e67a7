use Rattle.std.proofs.Common.{◌∙◌, ap}
use Rattle.prism_check.specs.Flat.{flat}
use Rattle.prism_check.proofs.Contents.{if_ok}
use Rattle.name_table.specs.Asks.{entries}
use Rattle.name_table.proofs.Bare.{entries_alike}
use Rattle.name_table.proofs.asking.jani_names.Goals as goal

pub returns : goal.returns
returns c =
    if_ok _ _ (λ t h. (h.0, h.1 ∙ ap entries c.file.ensures.tree ∙ entries_alike c.in_ok-flat.flat (flat c.args.checked.now.file) c.in_ok-flat.ensures.tree)) c.found_names.result c.found_names.ensures
