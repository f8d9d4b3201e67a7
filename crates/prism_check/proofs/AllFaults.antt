-- The faults of the first kind that a file has any of, kind by kind.
use Rattle.std.specs.Prelude.{◌≡◌, List, [], ◌∷◌, Some, None}
use Rattle.std.proofs.Common.{sym, ap, subst, ◌∙◌}
use Rattle.bridge_io.specs.declared.reason.Fault.{Fault}
use Rattle.prism_tree.specs.Syntax.{File}
use Rattle.name_rules.specs.Least.{soonest, IsLeast, or_else}
use Rattle.prism_check.specs.NameFaults.{name_faults}
use Rattle.prism_check.specs.SizeFaults.{size_faults}
use Rattle.prism_check.specs.TypeFaults.{type_faults}
use Rattle.prism_check.specs.Faults.{faults}
use Rattle.name_rules.proofs.Soonest.{soonest_some, soonest_none}

-- the least of some is the least of all
least_of : (fs others : List Fault) (f : Fault) → soonest None fs ≡ Some f → IsLeast (or_else fs others) f
least_of [] others f h = absurd (cc)
least_of (g ∷ gs) others f h = soonest_some (g ∷ gs) f h

pub least_name : (file : File) (f : Fault) → soonest None (name_faults file) ≡ Some f → IsLeast (faults file) f
least_name file f h = least_of (name_faults file) (or_else (size_faults file) (type_faults file)) f h

past_names : (file : File) → name_faults file ≡ [] → faults file ≡ or_else (size_faults file) (type_faults file)
past_names file h = ap (λ fs. or_else fs (or_else (size_faults file) (type_faults file))) h

past_sizes : (file : File) → name_faults file ≡ [] → size_faults file ≡ [] → faults file ≡ type_faults file
past_sizes file h k = past_names file h ∙ ap (λ fs. or_else fs (type_faults file)) k

pub least_size : (file : File) (f : Fault) → name_faults file ≡ [] → size_faults file ≡ f ∷ [] → IsLeast (faults file) f
least_size file f h k =
    subst (λ fs. IsLeast fs f) (sym (past_names file h))
    (least_of (size_faults file) (type_faults file) f (ap (soonest None) k))

pub least_type : (file : File) (f : Fault) → name_faults file ≡ [] → size_faults file ≡ [] → soonest None (type_faults file) ≡ Some f → IsLeast (faults file) f
least_type file f h k t = subst (λ fs. IsLeast fs f) (sym (past_sizes file h k)) (soonest_some (type_faults file) f t)

pub no_faults : (file : File) → name_faults file ≡ [] → size_faults file ≡ [] → soonest None (type_faults file) ≡ None → faults file ≡ []
no_faults file h k t = past_sizes file h k ∙ soonest_none (type_faults file) t
