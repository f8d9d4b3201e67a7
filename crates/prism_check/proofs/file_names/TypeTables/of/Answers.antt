use Rattle.std.specs.Prelude.{map}
use Rattle.std.proofs.Common.{◌∙◌, ap}
use Rattle.prism_tree.specs.Syntax.{file_of, formula_of}
use Rattle.prism_flat.specs.Places.{at_places}
use Rattle.prism_check.specs.Typing.{declared_type, is_declared_variable, known_after}
use Rattle.prism_check.proofs.TypedTables.{typed_tables}
use Rattle.prism_check.proofs.file_names.TypeTables.of.Goals as goal

pub returns-in-Ok : goal.returns-in-Ok
returns-in-Ok c =
    let order = c.args.order.now in
    let d = c.in_ok-declared.declared in
    typed_tables (file_of c.args.file.now) order d c.in-Ok.formulas c.requires c.in_ok-declared.ensures
    (λ x. c.in-Ok.ensures x ∙ ap (λ fs. known_after (declared_type d) (is_declared_variable d) (at_places (map formula_of fs) order) x) c.as_slice.ensures)
