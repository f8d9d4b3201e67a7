use Rattle.std.proofs.Common.{◌∙◌, sym, subst, ap, map, take_all, arith, List}
use Rattle.prism_tree.specs.Syntax as prism
use Rattle.prism_tree.specs.Syntax.{plain}
use Rattle.std.proofs.lemmas.List.Elements.{All-get_or}
use Rattle.gathering.proofs.Loops.{mapped_more}
use Rattle.prism_targets.specs.Elements.{Element}
use Rattle.prism_targets.specs.Modules.{module_of}
use Rattle.module_parts.specs.declared.element.Element.{Element as CodeElement}
use Rattle.module_parts.specs.Code.{file_in, names_in, element_of, IsElement}
use Rattle.prism_modules.proofs.ByServing.{elements_many, element_at, shape_at}
use Rattle.prism_modules.proofs.element_modules.modules.Goals as goal

pub bounds-serving-i : goal.bounds-serving-i
bounds-serving-i c =
    let many = elements_many c.args.names.now c.args.els.now c.args.serving.now c.requires.elements c.requires.serving in
    omega (arith, many)

pub module-requires-clause-element : goal.module-requires-clause-element
module-requires-clause-element c =
    subst IsElement (sym c.index-els-i.is) (All-get_or IsElement c.args.els.now c.loop-i.i c.index-els-i.result (omega arith) c.requires.located)

pub module-requires-clause-shape : goal.module-requires-clause-shape
module-requires-clause-shape c =
    shape_at c.args.els.now c.args.serving.now c.loop-i.i c.index-els-i.result c.index-serving-i.result c.requires.shapes (omega arith) c.index-els-i.is c.index-serving-i.is

pub module-requires-clause-serving : goal.module-requires-clause-serving
module-requires-clause-serving c =
    element_at c.args.names.now c.args.els.now c.args.serving.now c.loop-i.i c.index-els-i.result c.index-serving-i.result c.requires.elements c.requires.serving (omega arith)
    c.index-els-i.is c.index-serving-i.is

pub loop-i-preserved : goal.loop-i-preserved
loop-i-preserved c =
    mapped_more prism.module_of (λ (el : Element). plain (module_of (file_in c.args.names.now) (names_in c.args.names.now) el)) element_of c.args.els.now c.loop-i.all c.push.new.self c.loop-i.i
    c.index-els-i.result c.in_ok-module.field-0 (omega arith) c.index-els-i.is c.loop-i.invariant c.in_ok-module.ensures c.in_ok-push.ensures.ok

pub returns : goal.returns
returns c =
    c.loop-i.invariant
    ∙ ap (λ (l : List CodeElement). map (λ (el : Element). plain (module_of (file_in c.args.names.now) (names_in c.args.names.now) el)) (map element_of l))
    (take_all c.loop-i.i c.args.els.now (omega arith))
    ∙ ap (map (λ (el : Element). plain (module_of (file_in c.args.names.now) (names_in c.args.names.now) el))) c.requires.elements
