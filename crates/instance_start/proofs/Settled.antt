-- The columns that are settled are those of a scene where nothing is wide and nothing is at fault.
use Rattle.std.proofs.Common.{◌≡◌, ◌≢◌, ℕ, ◌+◌, List, [], ◌∷◌, ◌++◌, map, length, false, ◌||◌, Option, Some, None, Result, Ok, Err, refl, sym, ap, ap₂, ◌∙◌, arith}
use Rattle.std.proofs.lemmas.List.{length-map}
use Rattle.std.specs.Prelude.{Bool, MatchResult}
use Rattle.std.specs.Option.{option_map}
use Rattle.std.specs.List.{flat_map, list_any}
use Rattle.state_choices.proofs.Narrow.{narrow_seen}
use Rattle.basics.specs.Booleans.{first_false, second_false}
use Rattle.basics.specs.Lists.{append_parts, empty_map}
use Rattle.op_trees.specs.Seen.{Seen}
use Rattle.op_trees.specs.declared.tree.Value.{Value}
use Rattle.op_trees.specs.declared.tree.Value.TheVariants as V
use Rattle.op_trees.specs.declared.tree.EvalFail.{EvalFail}
use Rattle.op_trees.specs.declared.tree.EvalFail.TheVariants.{Undef, Wide}
use Rattle.process_core.specs.Instance as core
use Rattle.process_core.specs.Instance.{Scene, Domain, Truths, Between, is_wide_column, is_wide_domain, is_wide_first, is_wide_instance, instance_faults, numbered, constant_faults, column_faults, domain_faults, first_faults}
use Rattle.process_core.specs.Product.{map-map}
use Rattle.process_core.specs.declared.data.InstanceFault.{InstanceFault}
use Rattle.process_core.specs.declared.data.StartFail.{StartFail}
use Rattle.process_core.specs.declared.data.StartFail.TheVariants.{Memory, Faults, Word}
use Rattle.process_core.specs.declared.data.StartFail.TheVariants as S
use Rattle.state_choices.specs.Views.{seen_of}
use Rattle.state_choices.specs.Trimmed.{trimmed_seen}
use Rattle.instance_start.specs.Description.{Constant}
use Rattle.instance_start.specs.Started.{FailsIn, named_fault, named_faults}
use Rattle.instance_start.specs.Columns.{AreColumns, IsMemory, bounds_of, column_of, constant_of, domain_of, first_of, range_of, scene_of, settled_column, settled_domain, settled_first, trimmed_column, trimmed_domain, variable_of}
use Rattle.instance_start.specs.Kinds.{column_named, constants_named, named_are}
use Rattle.instance_start.specs.declared.data.Bounds.{Bounds}
use Rattle.instance_start.specs.declared.data.Column.{Column}
use Rattle.instance_start.specs.declared.data.Constant as code_constant
use Rattle.instance_start.specs.declared.data.Variable.{Variable}

-- ---- one column
between : (i : ℕ) (l h : Result Value EvalFail) → domain_faults i (Between (seen_of l) (seen_of h)) ≡ [] →
    domain_of (settled_domain (range_of (Between (seen_of l) (seen_of h)))) ≡ Between (seen_of l) (seen_of h)
between i (Ok (V.Number x)) (Ok (V.Number y)) e = refl
between i (Ok (V.Number x)) (Ok (V.Truth b)) e = absurd cc
between i (Ok (V.Number x)) (Err Undef) e = absurd cc
between i (Ok (V.Number x)) (Err Wide) e = absurd cc
between i (Ok (V.Truth b)) h e = absurd cc
between i (Err Undef) h e = absurd cc
between i (Err Wide) h e = absurd cc

domain_settled : (i : ℕ) (b : Option Bounds) → domain_faults i (bounds_of b) ≡ [] → domain_of (settled_domain (range_of (bounds_of b))) ≡ bounds_of b
domain_settled i None e = refl
domain_settled i (Some b) e = between i b.low b.high e

first_settled : (o : Option (Result Value EvalFail)) → is_wide_first (option_map seen_of o) ≡ false → first_of (settled_first o) ≡ option_map seen_of o
first_settled None e = refl
first_settled (Some (Ok v)) e = refl
first_settled (Some (Err Undef)) e = refl
first_settled (Some (Err Wide)) e = absurd cc

pub columns_settled : (r : Bool) (i : ℕ) (vs : List Variable) → numbered (column_faults r) i (map variable_of vs) ≡ [] → list_any is_wide_column (map variable_of vs) ≡ false →
    map column_of (map settled_column vs) ≡ map variable_of vs
columns_settled r i [] e w = refl
columns_settled r i (v ∷ vs) e w =
    let parts = append_parts (column_faults r i (variable_of v)) (numbered (column_faults r) (i + 1) (map variable_of vs)) e in
    let here = append_parts (domain_faults i (bounds_of v.bounds)) (first_faults r i (bounds_of v.bounds) (option_map seen_of v.first)) parts.0 in
    let narrow_here = first_false (is_wide_column (variable_of v)) (list_any is_wide_column (map variable_of vs)) w in
    ap₂ (λ (c : core.Column) l. c ∷ l)
    (ap₂ (λ d f. record { name = v.name.now; domain = d; first = f }) (domain_settled i v.bounds here.0)
    (first_settled v.first (second_false (is_wide_domain (bounds_of v.bounds)) (is_wide_first (option_map seen_of v.first)) narrow_here)))
    (columns_settled r (i + 1) vs parts.1 (second_false (is_wide_column (variable_of v)) (list_any is_wide_column (map variable_of vs)) w))

-- ---- what is trimmed
domain_wide : (d : Domain) → is_wide_domain (trimmed_domain d) ≡ is_wide_domain d
domain_wide Truths = refl
domain_wide (Between l h) = refl

any_wide : (ss : List Seen) → list_any (λ s. s.wide) (map trimmed_seen ss) ≡ list_any (λ s. s.wide) ss
any_wide [] = refl
any_wide (s ∷ ss) = ap (λ b. s.wide || b) (any_wide ss)

first_wide : (o : Option Seen) → is_wide_first (option_map trimmed_seen o) ≡ is_wide_first o
first_wide None = refl
first_wide (Some s) = refl

any_wide_column : (cs : List core.Column) → list_any is_wide_column (map trimmed_column cs) ≡ list_any is_wide_column cs
any_wide_column [] = refl
any_wide_column (c ∷ cs) = ap₂ (λ a b. a || b) (ap₂ (λ a b. a || b) (domain_wide c.domain) (first_wide c.first)) (any_wide_column cs)

domain_kept : (d : Domain) → is_wide_domain d ≡ false → trimmed_domain d ≡ d
domain_kept Truths h = refl
domain_kept (Between l h) e = ap₂ Between (narrow_seen l (first_false l.wide h.wide e)) (narrow_seen h (second_false l.wide h.wide e))

constants_kept : (ss : List Seen) → list_any (λ s. s.wide) ss ≡ false → map trimmed_seen ss ≡ ss
constants_kept [] h = refl
constants_kept (s ∷ ss) h = ap₂ (λ x l. x ∷ l) (narrow_seen s (first_false s.wide _ h)) (constants_kept ss (second_false s.wide _ h))

first_kept : (o : Option Seen) → is_wide_first o ≡ false → option_map trimmed_seen o ≡ o
first_kept None h = refl
first_kept (Some s) h = ap Some (narrow_seen s h)

columns_kept : (cs : List core.Column) → list_any is_wide_column cs ≡ false → map trimmed_column cs ≡ cs
columns_kept [] h = refl
columns_kept (c ∷ cs) h =
    let here = first_false (is_wide_column c) (list_any is_wide_column cs) h in
    ap₂ (λ (x : core.Column) l. x ∷ l)
    (ap₂ (λ d f. record { name = c.name; domain = d; first = f }) (domain_kept c.domain (first_false (is_wide_domain c.domain) (is_wide_first c.first) here)) (first_kept c.first (second_false (is_wide_domain c.domain) (is_wide_first c.first) here)))
    (columns_kept cs (second_false (is_wide_column c) (list_any is_wide_column cs) h))

-- ---- what the program sees is the scene
module _ (k : Scene) (r : Bool) (values : List (Result Value EvalFail)) (variables : List Variable) (c : r ≡ k.has_condition) (e : map seen_of values ≡ map trimmed_seen k.constants) (f : map variable_of variables ≡ map trimmed_column k.columns) where
  pub same_wide : is_wide_instance (scene_of r values variables) ≡ is_wide_instance k
  same_wide =
      ap₂ (λ a b. list_any (λ (s : Seen). s.wide) a || list_any is_wide_column b) e f
      ∙ ap₂ (λ a b. a || b) (any_wide k.constants) (any_wide_column k.columns)

  pub same_scene : is_wide_instance k ≡ false → scene_of r values variables ≡ k
  same_scene h =
      ap₂ (λ a b. record { constants = a; columns = b; has_condition = r }) (e ∙ constants_kept k.constants (first_false (list_any (λ s. s.wide) k.constants) _ h))
      (f ∙ columns_kept k.columns (second_false (list_any (λ s. s.wide) k.constants) _ h))
      ∙ ap (λ b. record { constants = k.constants; columns = k.columns; has_condition = b }) c

-- ---- faults
pub faults_are : (r : Bool) (constants : List code_constant.Constant) (values : List (Result Value EvalFail)) (variables : List Variable) → length constants ≡ length values →
    named_faults (map constant_of constants) (scene_of r values variables) ≡ constants_named (map (λ (c : code_constant.Constant). c.name.now) constants) (map seen_of values) ++ flat_map (column_named r) (map variable_of variables)
faults_are r constants values variables l =
    let names = map-map (λ (c : Constant). c.name) constant_of constants in
    named_are (map constant_of constants) (scene_of r values variables) (length-map (map constant_of constants) (λ (c : Constant). c.name) ∙ length-map constants constant_of ∙ l ∙ sym (length-map values seen_of))
    ∙ ap (λ ns. constants_named ns (map seen_of values) ++ flat_map (column_named r) (map variable_of variables)) names

nothing_long : {A : Type 0} (xs : List A) → length xs ≡ 0 → xs ≡ []
nothing_long [] h = refl
nothing_long (x ∷ xs) h = absurd (omega (arith, h))

pub no_faults : (constants : List Constant) (k : Scene) (fs : List InstanceFault) → fs ≡ named_faults constants k → length fs ≡ 0 → instance_faults k ≡ []
no_faults constants k fs e l = empty_map _ (instance_faults k) (sym e ∙ nothing_long fs l)

pub some_fault : (constants : List Constant) (k : Scene) (fs : List InstanceFault) → fs ≡ named_faults constants k → length fs ≢ 0 → instance_faults k ≢ []
some_fault constants k fs e l h = l (ap length (e ∙ ap (map (named_fault (map (λ (c : Constant). c.name) constants) (map (λ (c : core.Column). c.name) k.columns))) h))

-- ---- the answer
pub settled_answer : {C : Type 0} (items : C → List Column) (constants : List Constant) (k : Scene) (variables : List Variable) (r : Result C StartFail) →
    MatchResult r (λ cs. items cs ≡ map settled_column variables) IsMemory → is_wide_instance k ≡ false → instance_faults k ≡ [] → map variable_of variables ≡ k.columns →
    MatchResult r (λ cs. AreColumns k (map column_of (items cs))) (λ fail. FailsIn constants k fail)
settled_answer items constants k variables (Ok cs) h w s e = record {
  narrow = w;
  sound = s;
  columns =
      ap (map column_of) h
      ∙ columns_settled k.has_condition 0 variables (ap (numbered (column_faults k.has_condition) 0) e ∙ (append_parts (numbered constant_faults 0 k.constants) (numbered (column_faults k.has_condition) 0 k.columns) s).1)
      (ap (list_any is_wide_column) e ∙ second_false (list_any (λ s. s.wide) k.constants) (list_any is_wide_column k.columns) w)
      ∙ e;
}
settled_answer items constants k variables (Err (Memory e)) h w s f = tt
settled_answer items constants k variables (Err S.Wide) h w s f = absurd h
settled_answer items constants k variables (Err (Faults fs)) h w s f = absurd h
settled_answer items constants k variables (Err (Word i)) h w s f = absurd h
