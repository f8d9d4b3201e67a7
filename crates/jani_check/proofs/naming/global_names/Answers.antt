use Rattle.std.specs.Prelude.{map}
use Rattle.std.proofs.Common.{ap}
use Rattle.jani_tree.specs.Syntax.{const_of, var_of}
use Rattle.name_rules.specs.Names.{named_by}
use Rattle.jani_check.proofs.Parts.{added_of, each_name, two_from_none}
use Rattle.jani_check.proofs.naming.global_names.Goals as goal

pub returns : goal.returns
returns c =
    let f = c.args.file.now in
    two_from_none (map (λ c. c.name) (map const_of f.constants)) (map (λ x. x.name) (map var_of f.variables)) _ _ _
    (ap (map named_by) c.new-list.ensures.items)
    (added_of _ _ _ _ c.in_ok-add_names_of.ensures (each_name (λ c. c.name) const_of _ f.constants c.as_slice.ensures))
    (added_of _ _ _ _ c.in_ok-add_names_of-2.ensures (each_name (λ x. x.name) var_of _ f.variables c.as_slice-2.ensures))
