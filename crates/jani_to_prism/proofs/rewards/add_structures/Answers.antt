use Rattle.std.proofs.Common.{◌∷◌, [], ◌∙◌, ap, map, arith, ℕ}
use Rattle.process_core.specs.Ready.{Name}
use Rattle.prism_tree.specs.Syntax as prism
use Rattle.jani_meaning.specs.Elements.{Owned}
use Rattle.name_table.specs.JaniParts.{owned_of}
use Rattle.name_table.specs.PrismAsks.{name_at}
use Rattle.prism_targets.specs.Marks.{structure}
use Rattle.gathering.proofs.Loops.{numbered_more}
use Rattle.prism_modules.specs.Code.{file_in, names_in}
use Rattle.jani_to_prism.specs.Given.{given_of}
use Rattle.jani_to_prism.specs.Gains.{gain_of}
use Rattle.jani_to_prism.proofs.GivenTo.{given_is}
use Rattle.jani_to_prism.proofs.GainItems.{structure_is}
use Rattle.jani_to_prism.proofs.rewards.add_structures.Goals as goal

pub loop-j-preserved : goal.loop-j-preserved
loop-j-preserved c =
    let f = file_in c.args.names.now in
    let n = names_in c.args.names.now in
    let j = c.loop-j.j in
    let o = owned_of c.index-vars-j.result in
    numbered_more prism.rewards_of (λ (j : ℕ) (o : Owned). structure f n j o (name_at n.rewards j) ∷ []) owned_of _ c.args.vars.now j c.index-vars-j.result c.loop-j.all _
    (c.in_ok-structure.field-0 ∷ []) (omega arith) c.index-vars-j.is c.loop-j.invariant
    (ap (λ (r : prism.Rewards). r ∷ [])
    (c.in_ok-structure.ensures
    ∙ structure_is f n j o (map given_of c.given.result.now) (map gain_of c.get.result.now) c.name_at-name.result.now c.requires.actions.actions_long
    (ap (map given_of) c.given.ensures ∙ given_is c.args.table.now f o c.requires.given)
    (ap (map gain_of) c.get.ensures ∙ c.requires.gains j)
    ∙ ap (λ (x : Name). structure f n j o x) c.name_at-name.ensures))
    c.in_ok-push.ensures.ok
