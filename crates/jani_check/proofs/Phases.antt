-- The least fault of the first kind that there is any of.
use Rattle.std.specs.Prelude.{List, Option, None}
use Rattle.std.proofs.Common.{◌≡◌, sym, ap, ◌∙◌}
use Rattle.bridge_io.specs.declared.reason.Fault.{Fault}
use Rattle.name_rules.specs.Least.{soonest, or_else}
use Rattle.name_rules.proofs.Soonest.{soonest_none}

pub none_first : (a b : List Fault) (o : Option Fault) → None ≡ soonest None a → o ≡ soonest None b → o ≡ soonest None (or_else a b)
none_first a b o h k = k ∙ ap (λ fs. soonest None (or_else fs b)) (sym (soonest_none a (sym h)))
