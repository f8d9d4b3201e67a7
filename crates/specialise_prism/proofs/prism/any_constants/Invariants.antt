use Rattle.std.proofs.Common.{◌≡◌, map, take}
use Rattle.prism_tree.specs.Syntax.{const_of}
use Rattle.constant_folding.specs.Constants as folding
use Rattle.specialise_prism.specs.Specialised.{any_const}
use Rattle.specialise_prism.proofs.prism.any_constants.Given as goal

abbrev pub invariant-loop-constant : goal.invariant-loop-constant
invariant-loop-constant l = map folding.const_of l.all.items ≡ map any_const (map const_of (take l.constant-index l.constants))
