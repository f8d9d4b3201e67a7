use Rattle.std.proofs.Common.{[], map, subst}
use Rattle.expr_store.specs.Alike.{IsMade, alike_later}
use Rattle.expr_store.specs.NodeLaws.{grown_then}
use Rattle.expr_store.specs.Views.{nodes}
use Rattle.prism_tree.specs.Operators.{prism_meaning}
use Rattle.prism_tree.specs.Syntax.{file_of, label_of}
use Rattle.prism_names.specs.Names.{see}
use Rattle.network.specs.Views.{sum_at, value_by}
use Rattle.prism_instance.specs.Shapes.{earned_in_states, sum_under}
use Rattle.prism_instance.specs.Views.{places_in}
use Rattle.prism_instance.proofs.parts.built_marks.Goals as goal

pub returns-clause-grown : goal.returns-clause-grown
returns-clause-grown c = grown_then (grown_then (c.in_ok-labels.ensures []).grown c.in_ok-sums.ensures.grown) c.in_ok-condition.ensures.grown

pub returns-clause-parts : goal.returns-clause-parts
returns-clause-parts c =
    let file = file_of c.args.file.now in
    let places = places_in c.args.names.now in
    let start = nodes c.args.store.now in
    let first = nodes c.labels.new.store in
    let ls = c.in_ok-labels.labels.items in
    let rs = c.in_ok-sums.sums.items in
    record {
      labelled = λ s.
          let made = subst (λ l. IsMade prism_meaning places start first (λ at. map (λ l. value_by at s l) ls) (λ seen. map (λ l. see l.body seen) (map label_of l))) c.as_slice.ensures (c.in_ok-labels.ensures s) in
          alike_later (λ at. map (λ l. value_by at s l) ls) (λ seen. map (λ l. see l.body seen) file.labels) (grown_then c.in_ok-sums.ensures.grown c.in_ok-condition.ensures.grown) made.made;
      summed = alike_later (λ at. map (λ is. sum_at at is.items) rs) (λ seen. map (λ is. sum_under seen is) (earned_in_states file.rewards)) c.in_ok-condition.ensures.grown c.in_ok-sums.ensures.made;
      condition = c.in_ok-condition.ensures.made;
    }
