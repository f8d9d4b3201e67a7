use Rattle.std.proofs.Common.{◌≡◌, ◌++◌, List, ℕ, drop}
use Rattle.gathering.specs.Lists.{list_under}
use Rattle.process_core.specs.Instance.{numbered}
use Rattle.prism_instance.specs.Sites.{link_if, texts_of}
use Rattle.prism_instance.proofs.modules.add_links.Given as goal

abbrev pub invariant-loop-part : goal.invariant-loop-part
invariant-loop-part l = (x : List ℕ) → list_under l.links x ++ numbered (link_if x l.component) l.part (texts_of (drop l.part l.actions)) ≡ list_under l.initial.links x ++ numbered (link_if x l.component) 0 (texts_of l.actions)
