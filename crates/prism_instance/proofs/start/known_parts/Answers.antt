use Rattle.std.proofs.Common.{ap, map, subst, sym}
use Rattle.std.proofs.lemmas.Result.{IfOk-weaker}
use Rattle.name_rules.specs.Names.{under}
use Rattle.process_core.specs.Ready.{Name}
use Rattle.instance_start.specs.Columns.{column_of}
use Rattle.prism_tree.specs.Syntax.{file_of}
use Rattle.prism_instance.specs.Built.{AreParts}
use Rattle.prism_instance.specs.Views.{FindsIn}
use Rattle.prism_instance.proofs.start.known_parts.Goals as goal

pub built-requires : goal.built-requires
built-requires c = subst (FindsIn c.args.known.now.places) (sym c.as_slice.ensures.value) c.requires

pub returns : goal.returns
returns c =
    let file = file_of c.args.file.now in
    let places = λ (x : Name). under c.args.known.now.places x in
    IfOk-weaker c.built.result (AreParts file places (map column_of c.as_slice.result.now)) (AreParts file places (map column_of c.args.known.now.columns.items))
    (λ p h. subst (λ k. AreParts file places k p) (ap (map column_of) c.as_slice.ensures.value) h)
    c.built.ensures
