use Rattle.std.proofs.Common.{◌++◌, ◌∙◌, ap, sym, map, append-nil, List}
use Rattle.std.specs.Prelude.{Option}
use Rattle.std.specs.List.{filter}
use Rattle.std.specs.Option.{option_map}
use Rattle.process_core.specs.Product.{map-map}
use Rattle.jani_tree.specs.declared.syntax.JaniEdge.{JaniEdge}
use Rattle.jani_tree.specs.Syntax.{Write, edge_of}
use Rattle.jani_meaning.specs.Elements.{structure_number}
use Rattle.prism_targets.specs.Elements.{Placed, is_at}
use Rattle.prism_targets.specs.Marks.{first_writes}
use Rattle.gathering.specs.Lists.{list_for}
use Rattle.prism_modules.specs.Code.{file_in, element_of}
use Rattle.jani_to_prism.specs.Gains.{Gain, gain_of, gain_with, gain_by, gains_of}
use Rattle.prism_modules.proofs.ByPlaces.{placed_with}
use Rattle.jani_to_prism.proofs.GainItems.{gained_there}
use Rattle.jani_to_prism.proofs.gains.add_edge.Goals as goal

pub returns-in_ok-add_writes : goal.returns-in_ok-add_writes
returns-in_ok-add_writes c = λ j.
    let f = file_in c.args.names.now in
    let k = c.args.el.now.number in
    let q = λ (w : Write). is_at j (structure_number f k w.target.name) in
    let at = ap (option_map (λ (e : JaniEdge). placed_with (element_of c.args.el.now) c.args.edge (edge_of e))) (sym c.in-Some.ensures) in
    c.in_ok-add_writes.ensures j
    ∙ ap (λ (l : List Gain). map gain_of (list_for c.args.all.now j) ++ l)
    (ap (λ (ws : List Write). map (gain_with c.args.target k) (filter q ws)) c.first_writes.ensures
    ∙ sym (map-map (gain_by c.args.target k) (λ (w : Write). w.value) (filter q (first_writes (edge_of c.in-Some.e.now).destinations)))
    ∙ sym (gained_there f j c.args.target c.args.el.now c.args.edge ∙ ap (λ (o : Option Placed). gains_of f j c.args.target o) at))

pub returns-in_default : goal.returns-in_default
returns-in_default c = λ j.
    let f = file_in c.args.names.now in
    let at = ap (option_map (λ (e : JaniEdge). placed_with (element_of c.args.el.now) c.args.edge (edge_of e))) (sym c.in_default.ensures) in
    sym (append-nil (map gain_of (list_for c.args.all.now j)))
    ∙ ap (λ (l : List Gain). map gain_of (list_for c.args.all.now j) ++ l)
    (sym (gained_there f j c.args.target c.args.el.now c.args.edge ∙ ap (λ (o : Option Placed). gains_of f j c.args.target o) at))
