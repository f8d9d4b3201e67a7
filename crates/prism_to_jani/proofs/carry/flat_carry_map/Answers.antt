use Rattle.std.specs.Prelude.{IfOk}
use Rattle.std.proofs.Common.{subst}
use Rattle.prism_tree.specs.Syntax as prism
use Rattle.prism_to_jani.specs.Maps.{IsMapToJani}
use Rattle.prism_to_jani.proofs.carry.flat_carry_map.Goals as goal

pub returns : goal.returns
returns c = subst (λ (f : prism.File). IfOk c.file_map.result (IsMapToJani f)) c.file.ensures.tree c.file_map.ensures
