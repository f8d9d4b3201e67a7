use Rattle.std.proofs.Common.{◌∙◌, ap, sym, map, ◌++◌, List, take_all}
use Rattle.std.specs.List.{flat_map}
use Rattle.std.proofs.lemmas.List.Folds.{flat_map-map}
use Rattle.process_core.specs.Product.{map-map}
use Rattle.prism_tree.specs.declared.syntax.PrismModule.{PrismModule}
use Rattle.prism_tree.specs.Syntax.{Body, Var, var_of, module_of}
use Rattle.name_table.specs.Asks.{contents}
use Rattle.name_table.specs.Gathered.{body_in}
use Rattle.name_table.proofs.gather.variables.Goals as goal

pub returns : goal.returns
returns c =
    let ms = c.args.file.now.modules in
    c.loop-m.invariant
    ∙ ap (λ (l : List PrismModule). map var_of c.args.file.now.globals ++ flat_map (λ (m : PrismModule). (body_in m).vars) l)
    (take_all c.loop-m.m-index c.as_slice-m-items.result.now c.loop-m-test.false ∙ c.as_slice-m-items.ensures)
    ∙ ap (λ (l : List Var). map var_of c.args.file.now.globals ++ l)
    (sym (flat_map-map (λ (m : Body). m.vars) body_in ms) ∙ ap (flat_map (λ (m : Body). m.vars)) (sym (map-map contents module_of ms)))
