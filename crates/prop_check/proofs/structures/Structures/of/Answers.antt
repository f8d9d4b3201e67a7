use Rattle.std.specs.Prelude.{None, Some, length, map, nat_lt}
use Rattle.std.proofs.Common.{◌≡◌}
use Rattle.prism_tree.specs.Syntax.{rewards_of}
use Rattle.prop_check.specs.Tables.{place_in, place_by}
use Rattle.prop_check.proofs.Placing.{first_is}
use Rattle.prop_check.proofs.structures.Structures.of.Goals as goal

pub returns : goal.returns
returns c = λ n.
    elim n as (λ m. place_in (record { places = c.in_ok-places.places; has_any = nat_lt 0 (length c.args.all.now) }) m ≡ place_by (map rewards_of c.args.all.now) m) [
      | None ↦ first_is c.args.all.now
      | Some x ↦ c.in_ok-places.ensures x
    ]
