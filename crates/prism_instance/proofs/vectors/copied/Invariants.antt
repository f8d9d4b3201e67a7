use Rattle.std.proofs.Common.{◌≡◌, take}
use Rattle.prism_instance.proofs.vectors.copied.Given as goal

abbrev pub invariant-loop-link : goal.invariant-loop-link
invariant-loop-link l = l.all.items ≡ take l.link-index l.links
