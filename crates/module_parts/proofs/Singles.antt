-- Lists with one member.
use Rattle.std.proofs.Common.{◌≡◌, [], ◌∷◌, List, refl, arith, tests}
use Rattle.std.specs.Prelude.{map, false, length, nat_eq, ℕ, suc}
use Rattle.jani_tree.specs.declared.syntax.JaniDestination.{JaniDestination}
use Rattle.jani_tree.specs.Syntax.{File, destination_of}
use Rattle.name_table.specs.PrismAsks.{NewNames}
use Rattle.edge_tables.specs.Elements.{Element}
use Rattle.edge_tables.specs.Modules.{is_single}
use Rattle.module_parts.specs.Code.{is_one}

several : (n : ℕ) → nat_eq (suc (suc n)) 1 ≡ false
several n = grind (arith, tests)

pub one_is_single : (file : File) (names : NewNames) (el : Element) (ds : List JaniDestination) → is_one ds ≡ is_single file names el (map destination_of ds)
one_is_single file names el [] = refl
one_is_single file names el (d ∷ []) = refl
one_is_single file names el (d ∷ e ∷ ds) = several (length ds)
