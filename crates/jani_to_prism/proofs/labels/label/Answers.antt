use Rattle.std.proofs.Common.{◌∙◌, ap, ap₂, map, List}
use Rattle.bridge_io.specs.declared.reason.Named.{Named}
use Rattle.process_core.specs.Ready.{Name}
use Rattle.prism_tree.specs.Syntax as prism
use Rattle.name_table.specs.JaniParts.{owned_of}
use Rattle.prism_targets.specs.Parts.{instead}
use Rattle.prism_targets.specs.Marks.{Given, label_body}
use Rattle.prism_modules.specs.Code.{file_in, names_in}
use Rattle.jani_to_prism.specs.Given.{given_of}
use Rattle.jani_to_prism.proofs.GivenTo.{given_is}
use Rattle.jani_to_prism.proofs.labels.label.Goals as goal

pub returns : goal.returns
returns c =
    let f = file_in c.args.names.now in
    let n = names_in c.args.names.now in
    let both = c.in_ok-name.ensures.ok in
    ap₂ {C = prism.Label} (λ (x : Named) (b : prism.Expression). record { name = x; body = b })
    ((rw both.0 at c.instead.ensures) ∙ ap (λ (x : Name). instead c.args.var.now.var.now.name x) c.as_str.ensures)
    ((rw both.1 at c.label_body-body.ensures)
    ∙ ap₂ (λ (e : prism.Expression) (gs : List Given). label_body f n e gs) c.in_ok-first.ensures
    (ap (map given_of) c.given.ensures ∙ given_is c.args.table.now f (owned_of c.args.var.now) c.requires.given))
