use Rattle.std.proofs.Common.{◌≡◌, ◌++◌, ◌∙◌, ap, sym, map, append-nil, arith}
use Rattle.std.specs.Prelude.{Option, Some, None, slice_get}
use Rattle.std.specs.Option.{option_map}
use Rattle.std.proofs.lemmas.Option.{slice_get_past}
use Rattle.prism_targets.specs.Elements.{Element, elements}
use Rattle.prism_targets.specs.Made.{edge_at}
use Rattle.gathering.specs.Lists.{list_for}
use Rattle.prism_modules.specs.Code.{file_in, element_of}
use Rattle.jani_to_prism.specs.Gains.{gain_of, gains_of}
use Rattle.jani_to_prism.proofs.GainItems.{element_in, get_there}
use Rattle.jani_to_prism.proofs.gains.add_maker.Goals as goal

pub returns : goal.returns
returns c = λ j.
    let f = file_in c.args.names.now in
    let m = c.args.maker in
    let at : slice_get (elements f) m.element ≡ Some (element_of c.index-els-maker.result) =
    element_in f c.args.els.now m.element c.requires.elements
    ∙ ap (option_map element_of) (get_there c.args.els.now m.element c.index-els-maker.result (omega arith) c.index-els-maker.is) in
    c.in_ok-add_edge.ensures j
    ∙ ap (λ (o : Option Element). map gain_of (list_for c.args.all.now j) ++ gains_of f j c.args.target (edge_at o m.edge)) (sym at)

pub returns-then-maker-els : goal.returns-then-maker-els
returns-then-maker-els c = λ j.
    let f = file_in c.args.names.now in
    let m = c.args.maker in
    let at : slice_get (elements f) m.element ≡ None =
    element_in f c.args.els.now m.element c.requires.elements ∙ ap (option_map element_of) (slice_get_past c.args.els.now m.element (omega arith)) in
    sym (append-nil (map gain_of (list_for c.args.all.now j)))
    ∙ ap (λ (o : Option Element). map gain_of (list_for c.args.all.now j) ++ gains_of f j c.args.target (edge_at o m.edge)) (sym at)
