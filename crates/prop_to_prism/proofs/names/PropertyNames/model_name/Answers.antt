use Rattle.std.proofs.Common.{◌∙◌, ap, sym, ℕ, List, Option}
use Rattle.name_table.specs.PrismAsks.{outside}
use Rattle.module_parts.specs.Code.{file_in, value_in}
use Rattle.prop_trees.specs.Trees.{Name}
use Rattle.prop_to_prism.specs.Code.{text_at, label_text, model_name_in}
use Rattle.prop_to_prism.proofs.names.PropertyNames.model_name.Goals as goal

pub returns-in-Some : goal.returns-in-Some
unfolding model_name_in
returns-in-Some c =
    let n = c.args.self.now in
    let v = n.values.now in
    c.text_at.ensures
    ∙ ap (λ (ts : List Name). text_at ts c.in-Some.i) c.as_slice.ensures.value
    ∙ ap (λ (o : Option ℕ). label_text n.quoted.items o (value_in v (outside (file_in v)) c.args.name.now)) (sym c.in-Some.is ∙ c.get.ensures)

pub returns-in-None : goal.returns-in-None
unfolding model_name_in
returns-in-None c =
    let n = c.args.self.now in
    let v = n.values.now in
    c.value.ensures
    ∙ ap (λ (k : ℕ). value_in v k c.args.name.now) c.outside.ensures
    ∙ ap (λ (o : Option ℕ). label_text n.quoted.items o (value_in v (outside (file_in v)) c.args.name.now)) (sym c.in-None.is ∙ c.get.ensures)
