use Rattle.std.specs.Prelude.{◌+◌, replicate, if◌then◌else◌}
use Rattle.std.proofs.Common.{◌∙◌, ap, sym}
use Rattle.std.proofs.lemmas.List.{length-map}
use Rattle.prism_tree.specs.Syntax.{file_of, module_of}
use Rattle.prism_to_jani.proofs.Mapped.{one_location_each}
use Rattle.prism_to_jani.proofs.carry.locations.Goals as goal

pub returns : goal.returns
returns c =
    c.in_ok-all.ensures
    ∙ ap (λ b. replicate (c.len.result + (if b then 1 else 0)) 1) c.in_ok-watched.ensures
    ∙ one_location_each (file_of c.args.file.now) c.len.result (c.len.ensures ∙ sym (length-map c.args.file.now.modules module_of))
