-- The faults of types by the tables of a file.
use Rattle.std.specs.Prelude.{ℕ, ◌<◌, ◌+◌, List, [], ◌∷◌, ◌++◌, map, length, drop, Bool, Option, Some, None, is_some, if◌then◌else◌}
use Rattle.std.specs.List.{flat_map}
use Rattle.std.specs.Option.{option_map, option_or as or_else}
use Rattle.std.proofs.Common.{◌≡◌, refl, sym, ap, ap₂, ◌∙◌, get_or}
use Rattle.std.proofs.Math.Path.{fun_ext}
use Rattle.std.proofs.lemmas.List.{at_drop_more}
use Rattle.bridge_io.specs.declared.reason.Reason.TheVariants.{NotConstant}
use Rattle.bridge_io.specs.declared.reason.Fault.{Fault}
use Rattle.process_core.specs.Ready.{Name}
use Rattle.prism_tree.specs.declared.syntax.PrismFile.{PrismFile}
use Rattle.prism_tree.specs.declared.syntax.PrismModule.{PrismModule}
use Rattle.prism_tree.specs.declared.syntax.CopiedModule.{CopiedModule}
use Rattle.op_trees.specs.Names.{offset_of, some_name}
use Rattle.prism_tree.specs.Syntax.{Expression, Body, Module, plain, copied, File, file_of, module_of, formula_of}
use Rattle.prism_flat.specs.Names.{formula_body}
use Rattle.prism_flat.specs.Flat.{flat_module}
use Rattle.prism_flat.specs.Places.{at_places, IsPlaceOrder}
use Rattle.prism_check.specs.declared.variables.Owned.{Owned}
use Rattle.prism_check.specs.declared.variables.Declared.{Declared}
use Rattle.prism_check.specs.declared.typing.Known.{Known}
use Rattle.prism_check.specs.declared.typing.Names.{Names}
use Rattle.prism_check.specs.Demands.{Demand, fixed, varying, written, formula_demands, outer_demands}
use Rattle.name_rules.specs.Least.{fault_if, soonest}
use Rattle.name_rules.specs.Names.{under}
use Rattle.prism_check.specs.TypeFaults.{Variable, variable_called, declared_types, types, type_faults_of, is_variable, has_variable, Target, target_of, target, wanted_at, write_faults, demand_faults, repeated_writes, module_faults, numbered_faults, type_faults}
use Rattle.prism_check.specs.Typing.{owned, IsDeclared, declared_type, is_declared_variable, known_after, type_under, varies_under, target_found, target_under, type_of, varies_in, target_in, read_by, read_in, AreNames, soonest_at, faults_in, repeated_by, contents_by, contents_faults}
use Rattle.name_rules.proofs.Append.{soonest_then, three_parts}
use Rattle.prism_check.proofs.TypesInOrder.{formula_known, whole_known, reads_type, reads_varies, known_whole}
use Rattle.prism_check.proofs.TypesPlaced.{unplaced}
use Rattle.prism_check.proofs.Levels.{in_written_out}

-- ---- what is declared
declared_is : (d : Declared) (file : File) → IsDeclared d file → (x : Name) → declared_type d x ≡ declared_types file x
unfolding declared_type
declared_is d file h x = ap₂ or_else (h.constants x) (ap (option_map (λ v. v.ty)) (h.variables x) ∙ twice (variable_called file x))
  where
    twice : (o : Option Variable) → option_map (λ (v : Owned). v.ty) (option_map owned o) ≡ option_map (λ v. v.ty) o
    twice None = refl
    twice (Some v) = refl

variable_is : (d : Declared) (file : File) → IsDeclared d file → (x : Name) → is_declared_variable d x ≡ is_some (variable_called file x)
unfolding is_declared_variable
variable_is d file h x = ap is_some (h.variables x) ∙ still (variable_called file x)
  where
    still : (o : Option Variable) → is_some (option_map owned o) ≡ is_some o
    still None = refl
    still (Some v) = refl

-- ---- the names of a file
target_is : (i : ℕ) (bodies : Option Expression) (known : Expression → Known) (v : Option Variable) →
    target_found i (option_map known bodies) (option_map owned v) ≡ target_of i (if is_some bodies then None else v)
target_is i (Some b) known v = refl
target_is i None known None = refl
target_is i None known (Some v) = refl

pub are_names : (file : File) (places : List ℕ) (n : Names) → IsPlaceOrder file places → IsDeclared n.declared.now file →
    ((x : Name) → under n.formulas.now x ≡ known_after (declared_type n.declared.now) (is_declared_variable n.declared.now) (at_places file.formulas places) x) →
    AreNames n file
unfolding type_under varies_under target_under
are_names file places n ordered declared learned =
    let d = n.declared.now in
    let ty = declared_type d in
    let is_such = is_declared_variable d in
    let typed = declared_is d file declared in
    let varied = variable_is d file declared in
    let all : (x : Name) → under n.formulas.now x ≡ formula_known file x = λ x. learned x ∙ known_whole file places ordered ty is_such typed varied x in
    record {
      typed = λ x. reads_type file places ordered ty is_such typed varied x (under n.formulas.now x) (all x);
      varies =
          λ e.
          ap (λ (f : Name → Bool). some_name f e) (fun_ext (λ x. reads_varies file places ordered ty is_such typed varied x (under n.formulas.now x) (all x)))
          ∙ sym (in_written_out (formula_body file) (is_variable file) (length file.formulas) e);
      targets =
          λ i x.
          ap₂ (target_found i) (all x) (declared.variables x) ∙ target_is i (formula_body file x) (whole_known file) (variable_called file x);
    }

-- ---- demands
module _ (n : Names) (file : File) (names : AreNames n file) (unchanged : n.renaming ≡ None) (i : ℕ) where
  reads : (x : Name) → read_in n x ≡ x
  reads x = ap (λ r. read_by r x) unchanged

  types_are : type_of n ≡ types file
  types_are = fun_ext (λ x. ap (type_under n) (reads x) ∙ names.typed x)

  varies_is : (e : Expression) → some_name (varies_in n) e ≡ has_variable file e
  varies_is e = ap (λ (f : Name → Bool). some_name f e) (fun_ext (λ x. ap (varies_under n) (reads x))) ∙ names.varies e

  targets_are : (x : Name) → target_in n i x ≡ target file i x
  targets_are x = ap (target_under n i) (reads x) ∙ names.targets i x

  demand_is : (d : Demand) → faults_in n i d ≡ demand_faults file i d
  demand_is (fixed w e) =
      ap₂ (λ ty (b : Bool). type_faults_of ty w e ++ fault_if b (offset_of e) NotConstant) types_are (varies_is e)
  demand_is (varying w e) = ap (λ ty. type_faults_of ty w e) types_are
  demand_is (written acts w) =
      ap₂ (λ ty (t : Target). write_faults t acts w.name.at ++ type_faults_of ty (wanted_at t) w.value) types_are (targets_are w.name.name)

  pub faults_are : faults_in n i ≡ demand_faults file i
  faults_are = fun_ext demand_is

  -- ---- modules
  abbrev own_faults : Module → List Fault
  own_faults (plain m) = contents_by (demand_faults file i) repeated_writes m.vars m.commands
  own_faults (copied m) = []

  contents_are : (s : Module) → contents_faults n i s ≡ own_faults s
  contents_are (plain m) =
      ap (λ f. contents_by f (repeated_by (read_in n)) m.vars m.commands) faults_are
      ∙ ap (λ (read : Name → Name). contents_by (demand_faults file i) (repeated_by read) m.vars m.commands) (fun_ext reads)
  contents_are (copied m) = refl

  pub plain_is : (m : Body) (s : Module) (before last : Option Fault) → s ≡ plain m →
      last ≡ soonest_at None before (contents_faults n i s) → last ≡ soonest before (module_faults file i s)
  plain_is m s before last e h =
      h
      ∙ ap (soonest before) (unplaced (contents_faults n i s))
      ∙ ap (soonest before) (contents_are s)
      ∙ ap (λ t. soonest before (own_faults t)) e
      ∙ ap (λ t. soonest before (module_faults file i t)) (sym e)

  pub copy_is : (m : CopiedModule) (s t : Module) (before last : Option Fault) → s ≡ copied m → t ≡ flat_module file s →
      last ≡ soonest_at (Some m.name.at) before (contents_faults n i t) → last ≡ soonest before (module_faults file i s)
  copy_is m s t before last e w h =
      h
      ∙ ap (soonest_at (Some m.name.at) before) (contents_are t)
      ∙ ap (λ u. soonest_at (Some m.name.at) before (own_faults u)) (w ∙ ap (flat_module file) e)
      ∙ ap (λ u. soonest before (module_faults file i u)) (sym e)

-- one module of a list more
pub module_next : (file : File) (ms : List PrismModule) (i : ℕ) (m : PrismModule) (best next whole : Option Fault) → i < length ms → m ≡ get_or ms i m →
    next ≡ soonest best (module_faults file i (module_of m)) → soonest best (numbered_faults file i (map module_of (drop i ms))) ≡ whole →
    soonest next (numbered_faults file (i + 1) (map module_of (drop (i + 1) ms))) ≡ whole
module_next file ms i m best next whole h is judged so_far =
    let rest = numbered_faults file (i + 1) (map module_of (drop (i + 1) ms)) in
    soonest_then best next (module_faults file i (module_of m)) rest judged
    ∙ sym (at_drop_more (λ ys. soonest best (numbered_faults file i (map module_of ys))) ms i m h
    ∙ ap (λ y. soonest best (numbered_faults file i (map module_of (y ∷ drop (i + 1) ms)))) (sym is))
    ∙ so_far

-- ---- the whole file
pub file_is : (f : PrismFile) (n : Names) → AreNames n (file_of f) → n.renaming ≡ None → (outer bodies : List Demand) (ms : List PrismModule) (first second last : Option Fault) →
    outer ≡ outer_demands (file_of f) → bodies ≡ flat_map formula_demands (map formula_of f.formulas) → ms ≡ f.modules →
    first ≡ soonest_at None None (flat_map (faults_in n 0) outer) → second ≡ soonest_at None first (flat_map (faults_in n 0) bodies) →
    last ≡ soonest second (numbered_faults (file_of f) 0 (map module_of ms)) → last ≡ soonest None (type_faults (file_of f))
file_is f n names unchanged outer bodies ms first second last eo eb em p q r =
    let file = file_of f in
    let judged : (ds es : List Demand) (best : Option Fault) → ds ≡ es → soonest_at None best (flat_map (faults_in n 0) ds) ≡ soonest best (flat_map (demand_faults file 0) es) =
    λ ds es best e.
    ap (soonest best) (unplaced (flat_map (faults_in n 0) ds)) ∙ ap₂ (λ g zs. soonest best (flat_map g zs)) (faults_are n file names unchanged 0) e in
    r
    ∙ ap (λ l. soonest second (numbered_faults file 0 (map module_of l))) em
    ∙ three_parts (flat_map (demand_faults file 0) (outer_demands file)) (flat_map (demand_faults file 0) (flat_map formula_demands file.formulas))
    (numbered_faults file 0 file.modules) None first second (p ∙ judged outer (outer_demands file) None eo)
    (q ∙ judged bodies (flat_map formula_demands file.formulas) first eb)
