use Rattle.std.proofs.Common.{refl, Box, Global}
use Rattle.op_trees.proofs.Made.{two_made}
use Rattle.op_trees.proofs.rebuild.two.Goals as goal

pub returns : goal.returns
returns g c =
    two_made (λ (p : Box _ Global). p.value) _ _ _ _ _ c.in_ok-first.first c.in_ok-first.second
    c.boxed.ensures c.boxed-2.ensures c.in_ok-first.ensures.ok.0 c.in_ok-first.ensures.ok.1 refl
