use Rattle.std.proofs.Common.{◌≡◌, ◌++◌, map, take}
use Rattle.std.specs.List.{flat_map}
use Rattle.jani_tree.specs.Syntax as jani
use Rattle.jani_edges.specs.Code.{names_in, share_writes}
use Rattle.jani_edges.proofs.shares.add_sums.Given as goal

abbrev pub invariant-loop-share : goal.invariant-loop-share
invariant-loop-share l = map jani.write_of l.all ≡ map jani.write_of l.initial.all ++ flat_map (share_writes (names_in l.names)) (take l.share-index l.shares)
