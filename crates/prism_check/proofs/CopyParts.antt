-- The faults of a copy, part by part.
use Rattle.std.specs.Prelude.{List, ◌++◌, Bool, not, Option}
use Rattle.std.specs.List.{flat_map, list_any}
use Rattle.std.proofs.Math.Path.{fun_ext}
use Rattle.std.proofs.Common.{◌≡◌, refl, sym, ap, ap₂, ◌∙◌}
use Rattle.bridge_io.specs.declared.reason.Reason.TheVariants.{RenameMissing, RenameOfRenamed}
use Rattle.bridge_io.specs.declared.reason.Fault.{Fault}
use Rattle.process_core.specs.Ready.{Name}
use Rattle.prism_tree.specs.declared.syntax.CopiedModule.{CopiedModule}
use Rattle.prism_tree.specs.Syntax.{Var, Module, plain, copied, File}
use Rattle.prism_tree.specs.declared.syntax.NamePair.{NamePair}
use Rattle.prism_flat.specs.Names.{renaming, module_called, part_of}
use Rattle.name_rules.specs.Least.{fault_if, soonest}
use Rattle.prism_check.specs.NameFaults.{is_copy, has_pair, copy_faults}
use Rattle.prism_check.specs.Tables.{pair_for, vars_in, lacks_pair_by, copy_faults_by}
use Rattle.name_rules.proofs.Append.{soonest_then}
use Rattle.prism_check.proofs.Declared.{has_pair_is, vars_in_is}

pub copy_judged : (called : Name → Option Module) (m : CopiedModule) (before first last : Option Fault) (lacks copies : Bool) →
    first ≡ soonest before (fault_if lacks m.name.at RenameMissing) → last ≡ soonest first (fault_if copies m.from.at RenameOfRenamed) →
    lacks ≡ lacks_pair_by (pair_for m.pairs) (vars_in (called m.from.name)) → copies ≡ is_copy (called m.from.name) →
    last ≡ soonest before (copy_faults_by called (copied m))
copy_judged called m before first last lacks copies p q e f =
    q ∙ soonest_then before first (fault_if lacks m.name.at RenameMissing) (fault_if copies m.from.at RenameOfRenamed) p
    ∙ ap₂ (λ a b. soonest before (fault_if a m.name.at RenameMissing ++ fault_if b m.from.at RenameOfRenamed)) e f

lacks_is : (ps : List NamePair) (xs ys : List Var) → xs ≡ ys → lacks_pair_by (pair_for ps) xs ≡ list_any (λ x. not (has_pair ps x.name.name)) ys
lacks_is ps xs ys e =
    ap (lacks_pair_by (pair_for ps)) e ∙ ap (λ f. list_any f ys) (fun_ext (λ x. ap not (sym (has_pair_is ps x.name.name))))

copy_faults_is : (file : File) (m : Module) → copy_faults_by (module_called file) m ≡ copy_faults file m
copy_faults_is file (plain m) = refl
copy_faults_is file (copied m) =
    ap (λ b. fault_if b m.name.at RenameMissing ++ fault_if (is_copy (module_called file m.from.name)) m.from.at RenameOfRenamed)
    (lacks_is m.pairs (vars_in (module_called file m.from.name)) (part_of file (copied m)).vars (vars_in_is (renaming m.pairs) (module_called file m.from.name)))

pub copies_are : (file : File) (called : Name → Option Module) (ms : List Module) → ((x : Name) → called x ≡ module_called file x) →
    flat_map (copy_faults_by called) ms ≡ flat_map (copy_faults file) ms
copies_are file called ms h = ap (λ k. flat_map (copy_faults_by k) ms) (fun_ext h) ∙ ap (λ f. flat_map f ms) (fun_ext (copy_faults_is file))
