use Rattle.std.proofs.Common.{◌∷◌, [], map, refl, arith, List}
use Rattle.process_core.specs.Instance.{numbered}
use Rattle.name_table.specs.declared.jani_parts.OwnedVar.{OwnedVar}
use Rattle.name_table.specs.JaniParts.{owned_of}
use Rattle.gathering.proofs.Loops.{numbered_more, none_left}
use Rattle.module_parts.specs.Code.{lasting_of, lasting_with}
use Rattle.module_parts.proofs.homes.lasting_variables.Goals as goal

pub loop-i-preserved : goal.loop-i-preserved
loop-i-preserved c =
    numbered_more lasting_of lasting_with owned_of _ c.args.vars.now c.loop-i.i c.index-vars-i.result c.loop-i.all.items _ (record { number = c.loop-i.i; owned = c.index-vars-i.result } ∷ [])
    (omega arith) c.index-vars-i.is c.loop-i.invariant refl c.in_ok-push.ensures.items

pub returns : goal.returns
returns c =
    none_left (λ (l : List OwnedVar). numbered lasting_with c.loop-i.i (map owned_of l)) _ (map lasting_of c.loop-i.all.items) c.args.vars.now c.loop-i.i refl (omega arith) c.loop-i.invariant
