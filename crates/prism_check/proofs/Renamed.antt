-- The faults of a copy in a file without formulas: those of the module that it copies, with each name read as the new one.
use Rattle.std.specs.Prelude.{ℕ, List, [], ◌∷◌, ◌++◌, map, length, Bool, ◌&&◌, ◌||◌, Option, Some, None, is_some, unwrap_or, if◌then◌else◌}
use Rattle.std.specs.Borrow.{Bor}
use Rattle.std.specs.List.{flat_map, find}
use Rattle.std.specs.Option.{option_map}
use Rattle.std.proofs.Common.{◌≡◌, refl, sym, ap, ap₂, ◌∙◌}
use Rattle.std.proofs.Math.Path.{fun_ext}
use Rattle.std.proofs.lemmas.List.{nil_from_length}
use Rattle.bridge_io.specs.declared.reason.Reason.TheVariants.{WrongType, NotConstant, WrittenTwice}
use Rattle.bridge_io.specs.declared.reason.Fault.{Fault}
use Rattle.op_trees.specs.declared.tree.Ty.{Ty}
use Rattle.op_trees.specs.Tree.{Truth, Number, Name as At, One, Two, Three, renamed, written_out}
use Rattle.op_trees.specs.Types.{Types, sort_one, sort_two, sort_three, misfit_at}
use Rattle.op_trees.specs.TypeLaws.{type-renamed}
use Rattle.op_trees.specs.Names.{offset_of, some_name, is_called}
use Rattle.op_trees.specs.NameLaws.{offset-renamed, some_name-renamed}
use Rattle.process_core.specs.Ready.{Name}
use Rattle.process_core.specs.Product.{map-map}
use Rattle.prism_tree.specs.declared.syntax.CopiedModule.{CopiedModule}
use Rattle.prism_tree.specs.Operators.{prism_meaning}
use Rattle.prism_tree.specs.Syntax.{Expression, Formula, Var, Branch, Command, Module, plain, copied, File}
use Rattle.prism_flat.specs.Names.{formula_body, renaming, written_name, module_called, Part, copy_of}
use Rattle.prism_flat.specs.Flat.{flat_expression, flat_write, flat_branch, flat_command}
use Rattle.prism_flat.specs.Laws.{flat_part}
use Rattle.op_trees.specs.declared.wanted.Wanted.{Wanted}
use Rattle.prism_check.specs.declared.tables.Renaming.{Renaming}
use Rattle.prism_check.specs.declared.typing.Names.{Names}
use Rattle.name_rules.specs.Least.{fault, fault_if, soonest}
use Rattle.prism_check.specs.Demands.{Demand, fixed, varying, written, part_demands}
use Rattle.name_rules.specs.Doubled.{doubled}
use Rattle.prism_check.specs.Tables.{pair_for, vars_in, commands_in, new_name}
use Rattle.op_trees.specs.Wanted.{is_unwanted}
use Rattle.prism_check.specs.TypeFaults.{types, misfits, type_faults_of, has_variable, Target, target, wanted_at, write_faults, demand_faults, repeated_writes, part_faults, module_faults}
use Rattle.prism_check.specs.Typing.{AreNames, read_in, type_under, varies_under, target_under, type_of, varies_in, target_in, faults_in, repeated_in, repeated_by, contents_in, soonest_at}
use Rattle.prism_check.proofs.Declared.{renaming_is}
use Rattle.prism_check.proofs.FlatDemands.{flat_demand, part-flat}

-- ---- expressions
misfits-renamed : (new : Name → Name) (ty : Types) (e : Expression) → misfits ty (renamed new e) ≡ misfits (λ x. ty (new x)) e
misfits-renamed new ty (Truth at b) = refl
misfits-renamed new ty (Number at d) = refl
misfits-renamed new ty (At at x) = refl
misfits-renamed new ty (One at o a) =
    ap₂ (λ ms t. ms ++ misfit_at at (is_some t) (sort_one prism_meaning o t)) (misfits-renamed new ty a) (type-renamed prism_meaning new ty a)
misfits-renamed new ty (Two at o a b) =
    ap₂ (λ ms r. ms ++ r) (misfits-renamed new ty a)
    (ap₂ (λ ms r. ms ++ r) (misfits-renamed new ty b)
    (ap₂ (λ s t. misfit_at at (is_some s && is_some t) (sort_two prism_meaning o s t)) (type-renamed prism_meaning new ty a) (type-renamed prism_meaning new ty b)))
misfits-renamed new ty (Three at o a b c) =
    ap₂ (λ ms r. ms ++ r) (misfits-renamed new ty a)
    (ap₂ (λ ms r. ms ++ r) (misfits-renamed new ty b)
    (ap₂ (λ ms r. ms ++ r) (misfits-renamed new ty c)
    (ap₂ {B = Option Ty → List ℕ} (λ s g. g s) (type-renamed prism_meaning new ty a)
    (ap₂ (λ t u s. misfit_at at (is_some s && (is_some t && is_some u)) (sort_three prism_meaning o s t u))
    (type-renamed prism_meaning new ty b) (type-renamed prism_meaning new ty c)))))

type_faults-renamed : (new : Name → Name) (ty : Types) (w : Wanted) (e : Expression) → type_faults_of (λ x. ty (new x)) w e ≡ type_faults_of ty w (renamed new e)
type_faults-renamed new ty w e =
    ap₂ (λ ms r. map (λ at. fault at WrongType) ms ++ r) (sym (misfits-renamed new ty e))
    (ap₂ (λ t at. fault_if (is_unwanted w t) at WrongType) (sym (type-renamed prism_meaning new ty e)) (sym (offset-renamed new e)))

-- ---- where there is no formula nothing is written out
abbrev part_with : (Name → Name) → List Var → List Command → Part
part_with rename vars commands = record { rename = rename; vars = vars; commands = commands }

by_function : {A B : Type 0} (p : A → List Fault) (q : B → List Fault) (f : A → B) → ((x : A) → p x ≡ q (f x)) → (xs : List A) →
    flat_map p xs ≡ flat_map q (map f xs)
by_function p q f h [] = refl
by_function p q f h (x ∷ xs) = ap₂ (λ a b. a ++ b) (h x) (by_function p q f h xs)

module _ (file : File) (none : length file.formulas ≡ 0) (new : Name → Name) where
  expression_is : (e : Expression) → renamed new e ≡ flat_expression file new e
  expression_is e = ap (λ n. renamed new (written_out (formula_body file) n e)) (sym none)

  name_is : (x : Name) → new x ≡ written_name file new x
  name_is x =
      ap (λ (fs : List Formula). if is_some (option_map (λ f. f.body) (find (λ f. is_called x f.name) fs)) then x else new x) (sym (nil_from_length file.formulas none))

  module _ (n : Names) (names : AreNames n file) (i : ℕ) (reads : (x : Name) → read_in n x ≡ new x) where
    types_are : type_of n ≡ (λ x. types file (new x))
    types_are = fun_ext (λ x. names.typed (read_in n x) ∙ ap (types file) (reads x))

    varies_is : (e : Expression) → some_name (varies_in n) e ≡ has_variable file (renamed new e)
    varies_is e =
        ap (λ (f : Name → Bool). some_name f e) (fun_ext (λ x. ap (varies_under n) (reads x)))
        ∙ sym (some_name-renamed new (varies_under n) e) ∙ names.varies (renamed new e)

    target_is : (x : Name) → target_in n i x ≡ target file i (written_name file new x)
    target_is x = names.targets i (read_in n x) ∙ ap (target file i) (reads x ∙ name_is x)

    typed_is : (w : Wanted) (e : Expression) → type_faults_of (type_of n) w e ≡ type_faults_of (types file) w (renamed new e)
    typed_is w e = ap (λ ty. type_faults_of ty w e) types_are ∙ type_faults-renamed new (types file) w e

    demand_is : (d : Demand) → faults_in n i d ≡ demand_faults file i (flat_demand file new d)
    demand_is (fixed w e) =
        ap₂ (λ fs (b : Bool). fs ++ fault_if b (offset_of e) NotConstant) (typed_is w e) (varies_is e)
        ∙ ap (λ at. type_faults_of (types file) w (renamed new e) ++ fault_if (has_variable file (renamed new e)) at NotConstant) (sym (offset-renamed new e))
        ∙ ap (λ f. type_faults_of (types file) w f ++ fault_if (has_variable file f) (offset_of f) NotConstant) (expression_is e)
    demand_is (varying w e) = typed_is w e ∙ ap (type_faults_of (types file) w) (expression_is e)
    demand_is (written acts w) =
        ap (λ (t : Target). write_faults t acts w.name.at ++ type_faults_of (type_of n) (wanted_at t) w.value) (target_is w.name.name)
        ∙ ap (λ fs. write_faults (target file i (written_name file new w.name.name)) acts w.name.at ++ fs)
        (typed_is (wanted_at (target file i (written_name file new w.name.name))) w.value
        ∙ ap (type_faults_of (types file) (wanted_at (target file i (written_name file new w.name.name)))) (expression_is w.value))

    branch_is : (b : Branch) → repeated_in (read_in n) b ≡ doubled WrittenTwice (map (λ w. w.name) (flat_branch file new b).writes)
    branch_is b =
        ap (λ (read : Name → Name). repeated_in read b) (fun_ext (λ x. reads x ∙ name_is x))
        ∙ ap (doubled WrittenTwice) (sym (map-map (λ w. w.name) (flat_write file new) b.writes))

    command_is : (c : Command) → repeated_by (read_in n) c ≡ repeated_writes (flat_command file new c)
    command_is c =
        by_function (repeated_in (read_in n)) (λ (b : Branch). doubled WrittenTwice (map (λ w. w.name) b.writes)) (flat_branch file new) branch_is c.branches

    contents_are : (vars : List Var) (commands : List Command) →
        contents_in n i vars commands ≡ part_faults file i (flat_part file (part_with new vars commands))
    contents_are vars commands =
        let p = part_with new vars commands in
        ap₂ (λ a b. a ++ b)
        (by_function (faults_in n i) (demand_faults file i) (flat_demand file new) demand_is (part_demands p) ∙ ap (flat_map (demand_faults file i)) (sym (part-flat file p)))
        (by_function (repeated_by (read_in n)) repeated_writes (flat_command file new) command_is commands)

-- the tables of a file serve with any renaming
pub with_renaming : (n : Names) (file : File) (r : Option (Bor Renaming)) → AreNames n file →
    AreNames (record { declared = n.declared; formulas = n.formulas; renaming = r }) file
unfolding type_under varies_under target_under
with_renaming n file r h = record { typed = h.typed; varies = h.varies; targets = h.targets }

part_is : (rename : Name → Name) (o : Option Module) → part_with rename (vars_in o) (commands_in o) ≡ copy_of rename o
part_is rename None = refl
part_is rename (Some (plain m)) = refl
part_is rename (Some (copied m)) = refl

pub renamed_is : (file : File) → length file.formulas ≡ 0 → (n : Names) (r : Bor Renaming) → AreNames n file → (i : ℕ) (m : CopiedModule) (o : Option Module)
    (place : Option ℕ) (vars : List Var) (commands : List Command) (before last : Option Fault) → ((x : Name) → new_name r.now x ≡ pair_for m.pairs x) →
    place ≡ Some m.name.at → o ≡ module_called file m.from.name → vars ≡ vars_in o → commands ≡ commands_in o →
    last ≡ soonest_at place before (contents_in (record { declared = n.declared; formulas = n.formulas; renaming = Some r }) i vars commands) →
    last ≡ soonest before (module_faults file i (copied m))
renamed_is file none n r names i m o place vars commands before last reads here found vs cs h =
    let rename = renaming m.pairs in
    let at = m.name.at in
    let own : Names = record { declared = n.declared; formulas = n.formulas; renaming = Some r } in
    h
    ∙ ap (λ p. soonest_at p before (contents_in own i vars commands)) here
    ∙ ap₂ (λ xs ys. soonest_at (Some at) before (contents_in own i xs ys)) vs cs
    ∙ ap (soonest_at (Some at) before)
    (contents_are file none rename own (with_renaming n file (Some r) names) i (λ x. ap (λ y. unwrap_or y x) (reads x) ∙ sym (renaming_is m.pairs x)) (vars_in o) (commands_in o))
    ∙ ap (λ p. soonest_at (Some at) before (part_faults file i (flat_part file p))) (part_is rename o ∙ ap (copy_of rename) found)
