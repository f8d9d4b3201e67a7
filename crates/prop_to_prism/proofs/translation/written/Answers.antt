use Rattle.std.proofs.Common.{◌≡◌, sym, subst, map, List}
use Rattle.std.specs.Prelude.{IfOk}
use Rattle.std.proofs.Math.Path.{fun_ext}
use Rattle.jani_meaning.specs.Elements.{Owned}
use Rattle.module_parts.specs.declared.entries.Names.{Names}
use Rattle.prop_trees.specs.Trees.{Name, JaniProperty}
use Rattle.prop_trees.specs.Syntax.{jani_property_of}
use Rattle.prop_to_prism.specs.Code.{all_written, names_of, IsReadyFor}
use Rattle.prop_to_prism.proofs.NewNames.{name_same}
use Rattle.prop_to_prism.proofs.translation.written.Goals as goal

pub returns : goal.returns
returns c =
    let v : Names = c.args.names.now in
    let ps : List JaniProperty = map jani_property_of c.args.props.now in
    let own = c.in_ok-own.own in
    let ready = subst (λ (os : List Owned). IsReadyFor own v os) c.requires.labels c.in_ok-own.ensures in
    subst (λ (f : Name → Name). IfOk c.all_text.result (λ text. text.items ≡ all_written f (names_of v.entries.rewards.now) ps v.entries.actions.now))
    (sym (fun_ext (name_same own v c.requires.ready ready))) c.all_text.ensures
