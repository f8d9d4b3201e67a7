use Rattle.std.proofs.Common.{◌≡◌, ◌∙◌, [], map, ap, sym, subst}
use Rattle.std.specs.Prelude.{IfOk}
use Rattle.std.specs.List.{position}
use Rattle.std.proofs.Math.Path.{fun_ext}
use Rattle.op_trees.specs.Seen.{Seen, known}
use Rattle.process_core.specs.Product.{map-map}
use Rattle.process_core.specs.Ready.{Name}
use Rattle.state_choices.specs.Trimmed.{computed}
use Rattle.jani_tree.specs.Syntax.{Const, const_of}
use Rattle.op_trees.specs.Names.{is_called}
use Rattle.jani_meaning.specs.Scene.{constant_seen}
use Rattle.instance_start.specs.Columns.{value_at}
use Rattle.name_rules.specs.Names.{under}
use Rattle.jani_instance.specs.Constants.{names_by}
use Rattle.jani_instance.proofs.StartLaws.{constant_at}
use Rattle.jani_instance.proofs.constants.constant_values.Goals as goal

pub returns : goal.returns
returns c =
    let cs = map const_of c.args.constants.now in
    let v = under c.args.given.now in
    let table = c.args.table.now in
    let e = c.constants_alone-run.ensures ∙ fun_ext (λ (x : Name). ap known (ap (value_at [] table) (c.requires x) ∙ constant_at table (position (λ d. is_called x d.name) cs))) in
    subst (λ l. IfOk c.each_value.result (λ rs. rs.items ≡ l))
    (ap (λ (names : Name → Seen). map (λ d. computed (constant_seen (v d.name.name) names d.value)) cs) e
    ∙ sym (map-map computed (λ (d : Const). constant_seen (v d.name.name) (names_by cs table) d.value) cs))
    c.each_value.ensures
