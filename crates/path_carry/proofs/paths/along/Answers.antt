use Rattle.std.proofs.Common.{◌≡◌, ap, ap₂, sym, subst, ◌∙◌, length, arith}
use Rattle.std.specs.List.{All}
use Rattle.std.specs.Option.{IfSome}
use Rattle.std.proofs.lemmas.List.{length-map}
use Rattle.std.proofs.lemmas.List.Elements.{All-from_recursion}
use Rattle.carry_maps.specs.Maps.{prism_state}
use Rattle.path_carry.specs.Carried.{state, chosen_labels, prism_states}
use Rattle.path_carry.specs.Texts.{IsShort}
use Rattle.path_carry.specs.Written.{AreReadable}
use Rattle.path_carry.proofs.Whole.{chosen_length, chosen_labels_short}
use Rattle.path_carry.proofs.paths.along.Goals as goal

pub path_text-requires : goal.path_text-requires
path_text-requires g c =
    let p = g.T.Steps.process c.args.prism.now in
    let ps = c.args.index.now.pairs.now in
    let ss = c.args.states.now in
    let ls = c.as_slice.result.now in
    let ll = ap length c.as_slice.ensures in
    let nl = ap length c.as_slice-in-Ok.ensures in
    let cl = ap length c.requires.carried in
    let ml = length-map c.args.path.now.states (λ u. state (prism_state c.args.map.now u.values)) in
    let whole = c.requires.whole in
    let f = ap length c.in-Ok.ensures.1 in
    let e = chosen_length p ps ss ls (omega arith) in
    omega arith

pub returns-in_ok-text-in-Ok-clause-back : goal.returns-in_ok-text-in-Ok-clause-back
returns-in_ok-text-in-Ok-clause-back g c = λ names.
    let p = g.T.Steps.process c.args.prism.now in
    let m = c.args.map.now in
    let path = c.args.path.now in
    let ss = c.args.states.now in
    let ls = c.as_slice.result.now in
    let e : c.as_slice-in-Ok.result.now ≡ chosen_labels p m.labels (prism_states m path.states) path.labels =
    c.as_slice-in-Ok.ensures ∙ c.in-Ok.ensures.1 ∙ ap (λ x. chosen_labels p x ss ls) c.requires.pairs ∙ ap₂ (λ a b. chosen_labels p m.labels a b) c.requires.carried c.as_slice.ensures in
    subst AreReadable e
    (c.in_ok-text-in-Ok.ensures.back (subst (All (λ l. IfSome l IsShort)) (sym e) (All-from_recursion (λ l. IfSome l IsShort) _ (chosen_labels_short p m.labels names (prism_states m path.states) path.labels))))
