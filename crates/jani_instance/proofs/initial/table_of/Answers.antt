use Rattle.std.proofs.Common.{◌≡◌, ◌+◌, ◌∙◌, drop, map, ap, sym}
use Rattle.std.specs.Prelude.{unwrap_or}
use Rattle.std.proofs.lemmas.List.{at_drop_all}
use Rattle.basics.specs.Lists.{drop_item}
use Rattle.bridge_io.specs.declared.reason.Named.{Named}
use Rattle.name_rules.specs.Names.{under}
use Rattle.jani_instance.specs.Initial.{entered, table_with}
use Rattle.jani_instance.proofs.initial.table_of.Goals as goal

pub loop-name-preserved : goal.loop-name-preserved
unfolding table_with
loop-name-preserved c =
    let f = λ (n : Named). unwrap_or (under c.args.by_name.now n.name) 0 in
    let names = c.args.names.now in
    let i = c.loop-name.name-index in
    let number : c.unwrap_or.result ≡ f c.name-item.result = c.unwrap_or.ensures ∙ ap (λ o. unwrap_or o 0) (c.get.ensures ∙ ap (under c.args.by_name.now) c.as_str.ensures) in
    c.loop-name.invariant
    ∙ ap (λ ns. table_with (map f ns) c.loop-name.table.items) (drop_item names i c.name-item.result c.loop-name-test.true c.name-item.is)
    ∙ ap (table_with (map f (drop (i + 1) names))) (ap (λ n. entered n c.loop-name.table.items) (sym number) ∙ sym c.in_ok-enter.ensures)

pub returns : goal.returns
unfolding table_with
returns c =
    let f = λ (n : Named). unwrap_or (under c.args.by_name.now n.name) 0 in
    sym (c.loop-name.invariant ∙ at_drop_all (λ ns. table_with (map f ns) c.loop-name.table.items) c.args.names.now c.loop-name.name-index c.loop-name-test.false)
