use Rattle.std.proofs.Common.{◌≡◌, ap, sym, subst, ◌∙◌, length, None}
use Rattle.std.specs.List.{All}
use Rattle.std.specs.Option.{IfSome}
use Rattle.std.proofs.lemmas.List.Elements.{All-from_recursion}
use Rattle.row_check.specs.declared.data.ReadPath.{ReadPath}
use Rattle.path_carry.specs.Carried.{lost_line}
use Rattle.carry_maps.specs.Maps.{has_pair}
use Rattle.path_carry.specs.Texts.{IsShort}
use Rattle.path_carry.specs.Written.{AreReadable}
use Rattle.path_carry.proofs.Walked.{none_is_lost}
use Rattle.path_carry.proofs.Whole.{lengths_here, jani_labels_short}
use Rattle.path_carry.proofs.paths.indexed_to_jani.Goals as goal

pub jani_path-requires-clause-lengths : goal.jani_path-requires-clause-lengths
jani_path-requires-clause-lengths g c =
    let p = g.S.Steps.process c.args.prism.now in
    let m = c.args.map.now in
    let path = c.args.path.now in
    let none : lost_line p.is_state (has_pair m.labels) path ≡ None = ap (λ ps. lost_line p.is_state (has_pair ps) path) (sym c.requires.pairs) ∙ sym c.in-None.ensures in
    lengths_here p (g.met.S.Steps.lawful c.args.prism.now) (length m.columns) (sym c.requires.same.columns.each) path.states (none_is_lost p.is_state (has_pair m.labels) path c.requires.whole none).states

pub returns-in_ok-text-in-None-clause-back : goal.returns-in_ok-text-in-None-clause-back
returns-in_ok-text-in-None-clause-back g c = λ names.
    let m = c.args.map.now in
    let e = c.as_slice-in-None.ensures ∙ ap (λ (q : ReadPath). q.labels) c.in_ok-new-in-None.ensures in
    subst AreReadable e (c.in_ok-text-in-None.ensures.back (subst (All (λ l. IfSome l IsShort)) (sym e) (All-from_recursion (λ l. IfSome l IsShort) _ (jani_labels_short m.labels names c.args.path.now.labels))))
