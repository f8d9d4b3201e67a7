use Rattle.std.proofs.Common.{◌≡◌, ◌∙◌, List, map, ap}
use Rattle.std.specs.List.{filter, flat_map, range_with_len}
use Rattle.basics.specs.Lists.{map_agree}
use Rattle.jani_tree.specs.Syntax as syntax
use Rattle.jani_tree.specs.Syntax.{Expression}
use Rattle.jani_instance.specs.Actions.{acted_by, acts_as, lent_edge, number_in}
use Rattle.jani_instance.specs.Parts.{automaton_at}
use Rattle.instance_start.specs.Numbered.{by_number, of_number}
use Rattle.jani_instance.specs.Shapes.{Edge, Located, edge_by}
use Rattle.jani_instance.proofs.Acted.{acted_are}
use Rattle.jani_instance.proofs.Numbering.{parts_are}
use Rattle.jani_instance.proofs.located.located.Goals as goal

same_located : (s t : List (Edge Expression)) (p q : List (List (Edge Expression))) → s ≡ t → p ≡ q → ◌≡◌ {A = Located Expression} (record { silent = s; parts = p }) (record { silent = t; parts = q })
same_located s t p q e f = cc

pub returns : goal.returns
returns c =
    let es = map lent_edge c.args.these.now in
    let s = c.args.site.now in
    let t = c.args.actions.now in
    let F = λ (l : List syntax.Edge). map (edge_by s) l in
    same_located _ _ _ _ c.in_ok-silent.ensures
    (ap (by_number t.count) c.in_ok-acting.ensures
    ∙ map_agree (λ k. of_number k (flat_map (acted_by (number_in t) s) es)) (λ k. F (filter (acts_as (number_in t) k) es)) (λ k. acted_are (number_in t) s k es) (range_with_len 0 t.count)
    ∙ parts_are F t (automaton_at s.part).edges es c.requires)
