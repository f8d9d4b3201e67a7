use Rattle.std.specs.Prelude.{◌≡◌, ℕ, Bool, map, is_some, IfOk}
use Rattle.std.proofs.Common.{ap, subst}
use Rattle.std.proofs.Math.Path.{fun_ext}
use Rattle.process_core.specs.Ready.{Name}
use Rattle.jani_loops.specs.Elements.{element_view}
use Rattle.edge_tables.specs.Counts.{crowded_from}
use Rattle.prism_targets.proofs.refused.has_large_labels.Goals as goal

pub returns : goal.returns
returns c =
    subst (λ (y : Bool). IfOk c.has_many_values.result (λ b. b ≡ y))
    (ap (λ (usable : ℕ → Name → Bool). crowded_from usable 0 (map element_view c.args.automata.now)) (fun_ext (λ k. fun_ext (λ x. ap is_some (c.in_ok-places.ensures k x)))))
    c.has_many_values.ensures
