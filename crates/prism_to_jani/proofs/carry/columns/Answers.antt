use Rattle.std.proofs.Common.{◌∙◌, ap, sym, List, [], ◌∷◌, ◌++◌}
use Rattle.carry_maps.specs.declared.map.Column.{Column}
use Rattle.carry_maps.specs.declared.map.Column.TheVariants.{Variable}
use Rattle.prism_to_jani.proofs.Counted.{columns_more}
use Rattle.prism_to_jani.proofs.carry.columns.Goals as goal

pub loop-i-preserved : goal.loop-i-preserved
loop-i-preserved c = c.in_ok-push.ensures.ok ∙ ap (λ (l : List Column). l ++ Variable c.loop-i.i ∷ []) c.loop-i.invariant ∙ sym (columns_more c.loop-i.i)
