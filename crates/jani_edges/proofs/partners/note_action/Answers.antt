use Rattle.std.specs.Prelude.{◌||◌, Some, List, ℕ, bytes_eq}
use Rattle.std.specs.Option.{option_map}
use Rattle.std.proofs.Common.{◌∙◌, ap, sym}
use Rattle.std.proofs.Math.Bool.{or_comm}
use Rattle.std.proofs.lemmas.Result.{on_ok_weaker}
use Rattle.basics.specs.Texts.{bytes_eq_comm}
use Rattle.bridge_io.specs.declared.reason.Named.{Named}
use Rattle.process_core.specs.Ready.{same_label}
use Rattle.name_rules.specs.Names.{has_name}
use Rattle.name_rules.proofs.Maps.{at}
use Rattle.jani_edges.proofs.partners.note_action.Goals as goal

pub returns-in-Some : goal.returns-in-Some
returns-in-Some c =
    let old = has_name c.args.seen.now in
    on_ok_weaker c.add.result
    (λ h. λ x.
    at h x
    ∙ ap (λ (n : List ℕ). bytes_eq n x || old x) c.as_str.ensures
    ∙ or_comm (bytes_eq c.in-Some.a.name x) (old x)
    ∙ ap (λ b. old x || b) (bytes_eq_comm c.in-Some.a.name x)
    ∙ sym (ap (λ o. old x || same_label (Some x) (option_map (λ (n : Named). n.name) o)) c.in-Some.is))
    c.add.ensures
