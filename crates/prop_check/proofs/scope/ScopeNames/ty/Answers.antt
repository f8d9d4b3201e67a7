use Rattle.std.proofs.Common.{◌∙◌, ap}
use Rattle.prism_check.specs.Checked.{Checked}
use Rattle.prism_check.specs.TypeFaults.{types}
use Rattle.prop_trees.specs.PrismFaults.{name_types}
use Rattle.prop_check.proofs.Knowing.{typed_label, typed_value}
use Rattle.prop_check.proofs.scope.ScopeNames.ty.Goals as goal

pub returns-then-has_quotes : goal.returns-then-has_quotes
returns-then-has_quotes c = typed_label c.args.self.now.file c.args.name.now c.has_quotes.result c.has_quotes.ensures c.if-has_quotes.true

pub returns-else-has_quotes : goal.returns-else-has_quotes
returns-else-has_quotes c =
    let x = c.args.name.now in
    typed_value c.self.inside.names.value.file x c.has_quotes.result c.ty.result c.has_quotes.ensures c.if-has_quotes.false
    (c.ty.ensures ∙ ap (λ (k : Checked). types k.file x) c.deref.ensures)
    ∙ ap (λ (k : Checked). name_types k.file x) c.self.view_is
