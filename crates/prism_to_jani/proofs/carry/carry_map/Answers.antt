use Rattle.std.proofs.lemmas.Result.{IfOk-weaker}
use Rattle.prism_names.specs.Flat.{flat}
use Rattle.prism_to_jani.specs.Maps.{IsMapToJani}
use Rattle.prism_to_jani.proofs.Mapped.{map_aside}
use Rattle.prism_to_jani.proofs.carry.carry_map.Goals as goal

pub returns : goal.returns
returns c =
    IfOk-weaker c.flat_carry_map.result (IsMapToJani c.in_ok-written.written) (IsMapToJani (flat c.args.checked.now.file))
    (λ m. map_aside c.in_ok-written.written (flat c.args.checked.now.file) m c.in_ok-written.ensures.tree) c.flat_carry_map.ensures
