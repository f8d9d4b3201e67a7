-- Files without fault, and lists that nothing is in.
use Rattle.std.proofs.Common.{◌≡◌, refl, List, [], ◌∷◌, inl}
use Rattle.process_core.specs.Process.{IsIn}
use Rattle.jani_tree.specs.Syntax.{File}
use Rattle.jani_check.specs.Faults.{IsChecked, faults}
use Rattle.jani_check.specs.NameFaults.{name_faults}
use Rattle.jani_check.proofs.Profiled.{first_none}

pub no_name_fault_in : (file : File) → faults file ≡ [] → name_faults file ≡ []
no_name_fault_in file e = first_none (name_faults file) _ e

pub no_name_fault : (file : File) → IsChecked file → name_faults file ≡ []
no_name_fault file h = no_name_fault_in file h.clean

pub none_in : {X : Type 0} (xs : List X) → ((x : X) → IsIn x xs → ⊥) → xs ≡ []
none_in [] h = refl
none_in (x ∷ xs) h = absurd (h x (inl refl))
