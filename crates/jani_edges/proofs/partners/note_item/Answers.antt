use Rattle.std.specs.Prelude.{◌||◌, List, ℕ, bytes_eq}
use Rattle.std.proofs.Common.{◌∙◌, ap, sym}
use Rattle.std.proofs.Math.Bool.{or_comm}
use Rattle.std.proofs.lemmas.Result.{on_ok_weaker}
use Rattle.name_rules.specs.Names.{has_name}
use Rattle.name_rules.proofs.Maps.{at}
use Rattle.jani_translation.specs.Automata.{for_action}
use Rattle.jani_edges.proofs.partners.note_item.Goals as goal

pub returns-in-Action : goal.returns-in-Action
returns-in-Action c =
    let old = has_name c.args.seen.now in
    on_ok_weaker c.add.result
    (λ h. λ x.
    at h x
    ∙ ap (λ (n : List ℕ). bytes_eq n x || old x) c.as_str.ensures
    ∙ or_comm (bytes_eq c.in-Action.a.name x) (old x)
    ∙ sym (ap (λ o. old x || for_action x o) c.in-Action.is))
    c.add.ensures
