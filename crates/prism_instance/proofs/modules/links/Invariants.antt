use Rattle.std.proofs.Common.{◌≡◌, ◌++◌, List, ℕ, drop, map}
use Rattle.gathering.specs.Lists.{list_under}
use Rattle.process_core.specs.Instance.{numbered}
use Rattle.prism_instance.specs.Sites.{actions_in, links_among, links_of}
use Rattle.prism_instance.proofs.modules.links.Given as goal

abbrev pub invariant-loop-component : goal.invariant-loop-component
invariant-loop-component l = (x : List ℕ) → list_under l.links x ++ numbered (links_of x) l.component (map actions_in (drop l.component l.modules)) ≡ links_among x (map actions_in l.modules)
