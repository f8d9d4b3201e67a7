use Rattle.std.specs.Prelude.{map}
use Rattle.std.proofs.Common.{◌∙◌, ap, sym, subst}
use Rattle.jani_tree.specs.Syntax.{const_of, file_of}
use Rattle.name_rules.specs.Names.{under}
use Rattle.jani_instance.specs.Constants.{AreWithin, first_table}
use Rattle.jani_instance.proofs.Tables.{within_none}
use Rattle.jani_instance.proofs.constants.ordered_table.Goals as goal

pub loop-k-init : goal.loop-k-init
loop-k-init c =
    let file = file_of c.args.file.now in
    let v = under c.args.given.now in
    subst (AreWithin file v 0) (sym (c.in_ok-table.ensures ∙ ap (λ l. first_table (map const_of l)) c.as_slice-constants.ensures)) (within_none file v)
