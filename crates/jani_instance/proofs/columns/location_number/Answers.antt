use Rattle.std.proofs.Common.{◌∙◌, ap, sym, refl}
use Rattle.std.specs.Prelude.{bytes_eq, unwrap_or}
use Rattle.std.specs.List.{position}
use Rattle.basics.specs.Mapped.{position_mapped}
use Rattle.jani_tree.specs.Syntax.{location_of}
use Rattle.op_trees.specs.Names.{is_called}
use Rattle.jani_instance.proofs.columns.location_number.Goals as goal

pub returns : goal.returns
returns c =
    let x = c.args.name.now in
    c.unwrap_or.ensures
    ∙ ap (λ o. unwrap_or o 0)
    (c.place_in.ensures
    ∙ sym (position_mapped location_of (λ l. is_called x l.name) (λ l. bytes_eq l.name.name x) (λ l. refl) c.locations.result.now)
    ∙ ap (position (λ l. is_called x l.name)) c.locations.ensures)
