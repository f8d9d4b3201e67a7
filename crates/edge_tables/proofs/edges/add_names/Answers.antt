use Rattle.std.specs.Prelude.{◌||◌, ◌∷◌, [], ℕ, List, bytes_eq, take}
use Rattle.std.proofs.Common.{◌∙◌, ap, sym}
use Rattle.std.proofs.Math.Bool.{or-false, or_assoc, or_comm}
use Rattle.std.proofs.lemmas.List.Folds.{list_any-append}
use Rattle.bridge_io.specs.declared.reason.Named.{Named}
use Rattle.gathering.proofs.Loops.{taken}
use Rattle.name_rules.specs.Names.{has_name, is_among}
use Rattle.name_rules.proofs.Maps.{at}
use Rattle.op_trees.specs.Names.{is_called}
use Rattle.edge_tables.proofs.edges.add_names.Goals as goal

pub loop-a-preserved : goal.loop-a-preserved
loop-a-preserved c = λ x.
    let a = c.a-item.result in
    let i = c.loop-a.a-index in
    let before = take i c.args.actions.now in
    at c.in_ok-add.ensures x
    ∙ ap (λ (n : List ℕ). bytes_eq n x || has_name c.loop-a.names x) c.as_str.ensures
    ∙ or_comm (bytes_eq a.name x) (has_name c.loop-a.names x)
    ∙ ap (λ b. b || bytes_eq a.name x) (c.loop-a.invariant x)
    ∙ or_assoc (has_name c.args.names.now x) (is_among before x) (bytes_eq a.name x)
    ∙ ap (λ b. has_name c.args.names.now x || b)
    (sym (ap (λ (l : List Named). is_among l x) (taken c.args.actions.now i a c.loop-a-test.true c.a-item.is)
    ∙ list_any-append (is_called x) before (a ∷ []) ∙ ap (λ b. is_among before x || b) (or-false (is_called x a))))
