use Rattle.std.proofs.Common.{◌++◌, ◌∙◌, ap, map, take_all, arith, List}
use Rattle.std.specs.List.{flat_map}
use Rattle.process_core.specs.Instance.{only_if}
use Rattle.jani_meaning.specs.Elements.{is_owner}
use Rattle.edge_tables.specs.Elements.{Lasting, is_at}
use Rattle.edge_tables.proofs.OnlyIf.{map-only_if}
use Rattle.gathering.proofs.Loops.{flat_after}
use Rattle.module_parts.specs.declared.parts.LastingVar.{LastingVar}
use Rattle.gathering.specs.Lists.{list_for}
use Rattle.module_parts.specs.Code.{lasting_of}
use Rattle.module_parts.proofs.Kept.{at_owner, kept_walk}
use Rattle.module_parts.proofs.homes.add_own.Goals as goal

pub loop-x-preserved : goal.loop-x-preserved
loop-x-preserved c = λ k.
    flat_after lasting_of (λ (x : LastingVar). only_if (is_owner k x.owned.owner) (lasting_of x)) (map lasting_of (list_for c.args.all.now k)) c.args.vars.now c.loop-x.x-index c.x-item.result
    (list_for c.loop-x.all k) (list_for c.add_to.new.all k) (only_if (is_at k c.x-item.result.owned.owner) c.x-item.result) c.loop-x-test.true c.x-item.is (c.loop-x.invariant k) (c.in_ok-add_to.ensures k)
    (map-only_if lasting_of (is_at k c.x-item.result.owned.owner) c.x-item.result ∙ ap (λ b. only_if b (lasting_of c.x-item.result)) (at_owner k c.x-item.result.owned.owner))

pub returns : goal.returns
returns c = λ k.
    c.loop-x.invariant k
    ∙ ap (λ l. map lasting_of (list_for c.args.all.now k) ++ l)
    (ap (λ (l : List LastingVar). flat_map (λ x. only_if (is_owner k x.owned.owner) (lasting_of x)) l) (take_all c.loop-x.x-index c.args.vars.now (omega arith))
    ∙ kept_walk (λ (x : Lasting). is_owner k x.owned.owner) lasting_of c.args.vars.now)
