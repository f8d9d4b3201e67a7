use Rattle.std.proofs.Common.{◌≡◌, map, take}
use Rattle.std.specs.List.{flat_map}
use Rattle.basics.specs.Options.{if_some}
use Rattle.prism_check.specs.Moment.{action_of}
use Rattle.prism_names.specs.Names.{unchanged}
use Rattle.prism_tree.specs.Syntax.{module_of}
use Rattle.prism_instance.specs.Shapes.{bodies}
use Rattle.prism_instance.specs.Sites.{texts_of}
use Rattle.prism_instance.proofs.modules.acting.Given as goal

abbrev pub invariant-loop-one : goal.invariant-loop-one
invariant-loop-one l = texts_of l.occurring.items ≡ flat_map (λ m. flat_map (λ c. if_some (action_of unchanged c)) m) (bodies (map module_of (take l.one-index l.modules)))
