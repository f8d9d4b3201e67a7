use Rattle.std.proofs.Common.{[], ◌∙◌, ap, take_all, arith, List}
use Rattle.std.specs.Prelude.{Bool, is_none}
use Rattle.std.specs.List.{flat_map, filter}
use Rattle.std.proofs.lemmas.List.Elements.{filter_agree}
use Rattle.process_core.specs.Instance.{only_if}
use Rattle.edge_tables.specs.Elements.{Lasting, lasting_variables, home}
use Rattle.edge_tables.proofs.OnlyIf.{map-only_if}
use Rattle.gathering.proofs.Loops.{flat_after}
use Rattle.module_parts.specs.declared.parts.LastingVar.{LastingVar}
use Rattle.module_parts.specs.Code.{file_in, lasting_of}
use Rattle.module_parts.specs.Homes.{home_by_table}
use Rattle.module_parts.proofs.Kept.{kept_walk, home_same}
use Rattle.module_parts.proofs.homes.shared.Goals as goal

pub loop-x-preserved : goal.loop-x-preserved
loop-x-preserved c =
    let x : LastingVar = c.x-item.result in
    let stays : Lasting → Bool = λ y. is_none (home_by_table c.args.writers.now y) in
    flat_after lasting_of (λ (y : LastingVar). only_if (stays (lasting_of y)) (lasting_of y)) [] c.args.vars.now c.loop-x.x-index x c.loop-x.all.items c.add_shared.new.all.items
    (only_if (stays (lasting_of x)) x) c.loop-x-test.true c.x-item.is c.loop-x.invariant c.in_ok-add_shared.ensures (map-only_if lasting_of (stays (lasting_of x)) x)

pub returns : goal.returns
returns c =
    let f = file_in c.args.names.now in
    let stays : Lasting → Bool = λ x. is_none (home_by_table c.args.writers.now x) in
    c.loop-x.invariant
    ∙ ap (λ (l : List LastingVar). flat_map (λ x. only_if (stays (lasting_of x)) (lasting_of x)) l) (take_all c.loop-x.x-index c.args.vars.now (omega arith))
    ∙ kept_walk stays lasting_of c.args.vars.now
    ∙ ap (λ (l : List Lasting). filter stays l) c.requires.vars
    ∙ filter_agree stays (λ x. is_none (home f x)) (λ x. ap is_none (home_same c.args.writers.now f x c.requires.writers)) (lasting_variables f)
