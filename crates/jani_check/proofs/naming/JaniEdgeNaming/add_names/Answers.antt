use Rattle.std.specs.Prelude.{[], ◌∷◌, map}
use Rattle.std.proofs.lemmas.Result.{on_ok_weaker}
use Rattle.jani_tree.specs.Syntax.{destination_of}
use Rattle.name_rules.specs.Names.{named_by}
use Rattle.jani_check.proofs.Parts.{added_of, each_name, two_added}
use Rattle.jani_check.proofs.naming.JaniEdgeNaming.add_names.Goals as goal

pub returns : goal.returns
returns c =
    let e = c.args.self.now in
    on_ok_weaker c.add_names_of.result
    (λ h. two_added (e.location ∷ []) (map (λ d. d.location) (map destination_of e.destinations))
    (map named_by c.args.list.now.items) (map named_by c.add_name.new.list.items) (map named_by c.add_names_of.new.list.items) c.in_ok-add_name.ensures
    (added_of (map named_by c.add_name.new.list.items) (map named_by c.add_names_of.new.list.items) _ _ h
    (each_name (λ d. d.location) destination_of c.as_slice.result.now e.destinations c.as_slice.ensures)))
    c.add_names_of.ensures
