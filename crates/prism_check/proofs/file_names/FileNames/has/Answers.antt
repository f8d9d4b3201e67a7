use Rattle.std.proofs.Common.{◌∙◌, ap}
use Rattle.name_rules.proofs.Maps.{at}
use Rattle.prism_check.specs.Checked.{Checked}
use Rattle.prism_check.specs.NameFaults.{is_among, values}
use Rattle.prism_check.proofs.file_names.FileNames.has.Goals as goal

pub returns : goal.returns
returns c =
    let name = c.args.name.now in
    c.has.ensures ∙ at c.self.invariant.names.known name ∙ ap (λ (k : Checked). is_among (values k.file) name) c.self.view_is
