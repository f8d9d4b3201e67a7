use Rattle.std.proofs.Common.{◌∙◌, ap, length, map}
use Rattle.choice_laws.specs.Columns.{counting}
use Rattle.carry_maps.specs.declared.map.Column.TheVariants.{Variable}
use Rattle.prism_to_jani.proofs.Statements.{actions_are, pairs_are, variable_count}
use Rattle.prism_to_jani.proofs.carry.map_by.Goals as goal

pub locations-requires : goal.locations-requires
locations-requires c = actions_are c.as_slice.result.now c.args.acts.now.items c.args.file.now c.as_slice.ensures.value c.requires.acts

pub returns : goal.returns
returns c = record {
  locations = c.in_ok-locations.ensures;
  columns = c.in_ok-columns.ensures ∙ ap (λ n. map Variable (counting 0 n)) (ap length c.as_slice-2.ensures.value ∙ variable_count c.args.vars.now.items c.args.file.now c.requires.vars);
  labels =
      c.in_ok-labels.ensures
      ∙ pairs_are c.args.names.now c.as_slice-3.result.now c.args.acts.now.items c.args.file.now c.as_slice-3.ensures.value c.requires.acts c.requires.names;
}
