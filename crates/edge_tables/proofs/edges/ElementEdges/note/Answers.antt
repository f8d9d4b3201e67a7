use Rattle.std.specs.Prelude.{◌||◌, ◌&&◌, not, Some, List, ℕ, Bool, bytes_eq}
use Rattle.std.proofs.Common.{◌∙◌, ap, ap₂, sym}
use Rattle.std.proofs.Math.Bool.{or_comm, and-true}
use Rattle.std.proofs.lemmas.Result.{on_ok_weaker}
use Rattle.basics.specs.Texts.{bytes_eq_comm}
use Rattle.process_core.specs.Ready.{same_label}
use Rattle.name_rules.specs.Names.{has_name}
use Rattle.name_rules.proofs.Maps.{at}
use Rattle.edge_tables.specs.Code.{name_in}
use Rattle.edge_tables.proofs.edges.ElementEdges.note.Goals as goal

pub returns-in-Some-false-clause-plain : goal.returns-in-Some-false-clause-plain
returns-in-Some-false-clause-plain c =
    let old = has_name c.args.self.now.plain in
    on_ok_weaker c.add-in-Some-false.result
    (λ h. λ x.
    at h x
    ∙ ap (λ (n : List ℕ). bytes_eq n x || old x) c.as_str-in-Some-false.ensures
    ∙ or_comm (bytes_eq c.in-Some-false.a.name x) (old x)
    ∙ ap (λ b. old x || b) (bytes_eq_comm c.in-Some-false.a.name x ∙ sym (and-true (bytes_eq x c.in-Some-false.a.name)))
    ∙ sym (ap₂ (λ o (b : Bool). old x || (same_label (Some x) (name_in o) && not b)) c.in-Some-false.is-0 c.in-Some-false.is-1))
    c.add-in-Some-false.ensures
