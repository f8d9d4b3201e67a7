use Rattle.std.specs.Prelude.{take}
use Rattle.std.specs.List.{AllZip}
use Rattle.constant_folding.specs.Tables.{given_in, known_in}
use Rattle.specialise_prism.proofs.parts.all_folded.Given as goal

abbrev pub invariant-loop-part : goal.invariant-loop-part
invariant-loop-part g l = AllZip (g.T.Folded.IsFolded (given_in l.table) (known_in l.table)) (take l.part-index l.parts) l.list
