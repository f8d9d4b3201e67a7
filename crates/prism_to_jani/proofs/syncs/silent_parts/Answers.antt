use Rattle.std.proofs.Common.{ℕ, ◌∷◌, [], arith}
use Rattle.std.specs.Prelude.{nat_eq}
use Rattle.gathering.proofs.Loops.{numbered_all}
use Rattle.prism_tree.specs.Syntax.{Body}
use Rattle.name_table.specs.Gathered.{body_in}
use Rattle.jani_automata.specs.Automata.{zz_silent}
use Rattle.jani_automata.specs.Translated.{part_if}
use Rattle.prism_to_jani.proofs.syncs.silent_parts.Goals as goal

pub returns : goal.returns
returns c = numbered_all (λ (k : ℕ) (m : Body). part_if (nat_eq c.args.number k) zz_silent ∷ []) body_in _ _ c.args.modules.now c.loop-k.k (omega arith) c.loop-k.invariant
