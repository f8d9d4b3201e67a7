-- The values of constants have their types, so a boolean variable that lasts begins with a truth value.
use Rattle.std.proofs.Common.{◌≡◌, ℕ, zero, suc, ◌+◌, List, [], ◌∷◌, ◌++◌, map, length, Bool, true, false, not, Option, Some, None, is_none, IsTrue, unwrap_or, cond, refl, sym, ap, subst, ◌∙◌}
use Rattle.std.specs.Prelude.{bytes_eq}
use Rattle.std.specs.List.{find, filter, flat_map, AllByRecursion as Each}
use Rattle.std.specs.Option.{option_and_then, option_map, option_or}
use Rattle.std.proofs.lemmas.Bool.{not-false}
use Rattle.std.proofs.lemmas.List.Elements.{All-map, All-append, All-from_recursion}
use Rattle.basics.specs.Options.{has_some, if_some, IfAny as OfSome}
use Rattle.basics.specs.Lists.{append_parts, empty_map, IsNotEmpty as HasItems}
use Rattle.basics.specs.Each.{each_then, each_with, each_any, each_map, each_join, each_parts, each_of, empty_each, each_found}
use Rattle.bridge_io.specs.declared.reason.Fault.{Fault}
use Rattle.bridge_io.specs.declared.reason.Reason.TheVariants.{WrongType, NotConstant}
use Rattle.op_trees.specs.declared.tree.Ty.{Ty}
use Rattle.op_trees.specs.declared.tree.Ty.TheVariants as T
use Rattle.op_trees.specs.declared.tree.Value.{Value}
use Rattle.op_trees.specs.Meaning.{Environment, value_of}
use Rattle.op_trees.specs.Seen.{known_names}
use Rattle.op_trees.specs.SeenLaws.{names_all, seen_is}
use Rattle.op_trees.specs.Names.{offset_of, is_called}
use Rattle.op_trees.specs.Types.{Types, AgreesWith, has_type, type_in, misfits}
use Rattle.op_trees.specs.TypeLaws.{misfits_none, value_agrees}
use Rattle.name_rules.specs.Least.{fault, fault_if, or_else}
use Rattle.name_rules.proofs.Plain.{no_fault}
use Rattle.process_core.specs.Ready.{Name}
use Rattle.process_core.specs.Instance.{Truths, Column, numbered, first_value}
use Rattle.process_core.specs.declared.data.Given.{Given}
use Rattle.instance_start.specs.Description.{Constant}
use Rattle.instance_start.specs.Firsts.{BeginRight, begins_right}
use Rattle.instance_start.proofs.Givens.{none_misfits, given_typed, bool_right}
use Rattle.instance_start.specs.Given.{given_by, misfit}
use Rattle.jani_table.specs.Operators.{jani_meaning}
use Rattle.jani_table.specs.OperatorLaws.{jani_lawful}
use Rattle.bridge_io.specs.declared.reason.Named.{Named}
use Rattle.jani_tree.specs.Syntax.{Expression, Const, VarKind, boolean, integer, number, real_bounded, one_sided, bounded, Var, Automaton, File}
use Rattle.jani_tree.specs.Form.{ExprForm, ConstRead, VarRead, AutomatonRead}
use Rattle.jani_tree.proofs.Literals.{literals}
use Rattle.basics.specs.Mapped.{found_mapped}
use Rattle.op_trees.specs.declared.wanted.Wanted.TheVariants as W
use Rattle.op_trees.specs.Wanted.{wider, is_wanted, is_unwanted, wanted_by}
use Rattle.jani_check.specs.Things.{kind_type, const_thing, var_thing, var_called, global_thing, beside, thing_type, types_by}
use Rattle.jani_check.specs.Demands.{Demand, fixed, varying, const_demands, bound_demands, var_demands, automaton_demands, outer_demands}
use Rattle.jani_check.specs.NameFaults.{name_faults}
use Rattle.jani_check.specs.TypeFaults.{var_faults, kind_fault, type_faults_of, has_variable, demand_faults, automaton_faults, clashing_writes, type_faults}
use Rattle.jani_check.specs.ProfileFaults.{profile_faults}
use Rattle.jani_check.specs.Faults.{IsChecked}
use Rattle.jani_check.proofs.Profiled.{first_none, rest_none}
use Rattle.jani_meaning.specs.LoopLaws.{same_variables}
use Rattle.jani_meaning.specs.Elements.{nothing_called, automaton_called, element_automaton, elements, owned_by, variables, is_lasting, lasting}
use Rattle.jani_meaning.specs.Scene.{see, constant_called, constant_seen, constant_value, constant_within, constant, constant_names, location_column, domain_of, first_of, column, columns_of}
use Rattle.jani_instance.specs.Described.{jani_description}

-- ---- facts of each member of a list

some_else : {A : Type 0} (P : A → Type 0) (o : Option A) (d : A) → OfSome P o → P d → P (unwrap_or o d)
some_else P None d h k = k
some_else P (Some x) d h k = h

-- what is kept has what it has where it passes the test
each_kept : {A : Type 0} (P : A → Type 0) (test : A → Bool) (xs : List A) → Each (λ x. test x ≡ true → P x) xs → Each P (filter test xs)
each_kept P test [] h = tt
each_kept {A = A} P test (x ∷ xs) h = by_test (test x) refl (each_kept P test xs h.1)
  where
    by_test : (b : Bool) → test x ≡ b → Each P (filter test xs) → Each P (cond b (x ∷ filter test xs) (filter test xs))
    by_test true e r = (h.0 e, r)
    by_test false e r = r

each_numbered : {A B : Type 0} (P : A → Type 0) (Q : B → Type 0) (f : ℕ → A → List B) → ((i : ℕ) (x : A) → P x → Each Q (f i x)) → (i : ℕ) (xs : List A) → Each P xs → Each Q (numbered f i xs)
each_numbered P Q f h i [] p = tt
each_numbered P Q f h i (x ∷ xs) p = each_join Q (f i x) (numbered f (i + 1) xs) (h i x p.0) (each_numbered P Q f h (i + 1) xs p.1)

-- ---- a value of a type that is wanted

seen_value : (e : Expression) (env : Environment) → (see e (known_names env)).value ≡ value_of jani_meaning e env
unfolding see
seen_value e env = ap (λ s. s.value) (seen_is jani_meaning env e)

-- ---- expressions without a fault
-- the value is of the type, where there is one
abbrev HasType : Environment → Ty → Expression → Type 0
HasType env w e = (v : Value) → value_of jani_meaning e env ≡ Some v → IsTrue (has_type w v)

record IsFine (types : Types) (w : Ty) (e : Expression) : Type 0 where
  form : ExprForm HasItems e
  clean : type_faults_of types (wanted_by w) e ≡ []

fine_value : (types : Types) (env : Environment) → ((x : Name) → AgreesWith (types x) (env x)) → (w : Ty) (e : Expression) → IsFine types w e → HasType env w e
fine_value types env agree w e h v k =
    let t = type_in jani_meaning types e in
    let r = append_parts (map (λ at. fault at WrongType) (misfits jani_meaning types e)) (fault_if (is_unwanted (wanted_by w) t) (offset_of e) WrongType) h.clean in
    let s = has_some t ((misfits_none jani_meaning types e).0 (empty_map (λ at. fault at WrongType) (misfits jani_meaning types e) r.0)) in
    let wanted = not-false (is_wanted (wanted_by w) s.0) (sym (ap (is_unwanted (wanted_by w)) s.1) ∙ no_fault (is_unwanted (wanted_by w) t) (offset_of e) WrongType r.1) in
    wider w s.0 v wanted
    ((value_agrees jani_meaning jani_lawful types env e (literals e h.form) (names_all (λ x. AgreesWith (types x) (env x)) agree e)).agrees s.0 v s.1 k)

-- where a demand for a type has no fault, its expression has none
abbrev Judges : Types → (Demand → List Fault) → Type 0
Judges types judged = (w : Ty) (e : Expression) → judged (fixed (wanted_by w) e) ≡ [] → type_faults_of types (wanted_by w) e ≡ []

abbrev HasNone : (Demand → List Fault) → Demand → Type 0
HasNone judged d = judged d ≡ []

some_fine : (types : Types) (judged : Demand → List Fault) → Judges types judged → (w : Ty) (o : Option Expression) → OfSome (ExprForm HasItems) o →
    Each (HasNone judged) (map (fixed (wanted_by w)) (if_some o)) → OfSome (IsFine types w) o
some_fine types judged j w None f h = tt
some_fine types judged j w (Some e) f h = record { form = f; clean = j w e h.0 }

-- ---- constants: what one has is of its type, and no other name has a value
abbrev IsTyped : Option Const → Option Value → Type 0
IsTyped None o = o ≡ None
IsTyped (Some c) o = (v : Value) → o ≡ Some v → IsTrue (has_type c.ty v)

none_typed : (c : Option Const) → IsTyped c None
none_typed None = refl
none_typed (Some c) = λ v k. absurd cc

module _ (file : File) where
  -- the names of constants have their types
  abbrev HasConstants : Types → Type 0
  HasConstants types = (x : Name) (c : Const) → constant_called file x ≡ Some c → types x ≡ Some c.ty

  abbrev global_types : Types
  global_types = types_by (global_thing file)

  abbrev types_beside : List Var → Types
  types_beside own = types_by (beside (global_thing file) own)

  abbrev global_faults : Demand → List Fault
  global_faults = demand_faults (global_thing file)

  abbrev faults_beside : List Var → Demand → List Fault
  faults_beside own = demand_faults (beside (global_thing file) own)

  global_constants : HasConstants global_types
  global_constants x c e = ap (λ o. option_map thing_type (option_or (option_map const_thing o) (option_map var_thing (var_called file.variables x)))) e

  beside_constants : (own : List Var) → HasConstants (types_beside own)
  beside_constants own x c e =
      ap (λ o. option_map thing_type (option_or (option_or (option_map const_thing o) (option_map var_thing (var_called file.variables x))) (option_map var_thing (var_called own x)))) e

  global_judges : Judges global_types global_faults
  global_judges w e h = (append_parts (type_faults_of global_types (wanted_by w) e) (fault_if (has_variable (global_thing file) e) (offset_of e) NotConstant) h).0

  beside_judges : (own : List Var) → Judges (types_beside own) (faults_beside own)
  beside_judges own w e h =
      (append_parts (type_faults_of (types_beside own) (wanted_by w) e) (fault_if (has_variable (beside (global_thing file) own) e) (offset_of e) NotConstant) h).0

  names_agree : (types : Types) → HasConstants types → (env : Environment) → ((x : Name) → IsTyped (constant_called file x) (env x)) → (x : Name) → AgreesWith (types x) (env x)
  names_agree types has env h x = by_const (constant_called file x) refl (h x)
    where
      by_const : (o : Option Const) → constant_called file x ≡ o → IsTyped o (env x) → AgreesWith (types x) (env x)
      by_const None e k = record { agrees = λ t v p q. absurd (let z : None ≡ Some v = sym k ∙ q in cc) }
      by_const (Some c) e k = record {
        agrees = λ t v p q.
            let s : Some c.ty ≡ Some t = sym (has x c e) ∙ p in
            subst (λ u. IsTrue (has_type u v)) (let z : c.ty ≡ t = cc in z) (k v q);
      }

  -- a variable is a bool or has bounds where it lasts, and what it begins with has its type
  record BeginsTyped (env : Environment) (x : Var) : Type 0 where
    kind : var_faults x ≡ []
    start : OfSome (HasType env (kind_type x.kind)) x.start

  module _ (checked : IsChecked file) where
    -- ---- no fault of types
    type_clean : type_faults file ≡ []
    type_clean =
        let later = or_else (type_faults file) (profile_faults file) in
        first_none (type_faults file) (profile_faults file) (rest_none (name_faults file) later checked.clean)

    -- after that of the kinds of global variables
    demands_clean : flat_map global_faults (outer_demands file) ++ (flat_map (automaton_faults (global_thing file)) file.automata ++ flat_map (clashing_writes file) file.vectors) ≡ []
    demands_clean = (append_parts (flat_map var_faults file.variables) _ type_clean).1

    outer_none : Each (HasNone global_faults) (outer_demands file)
    outer_none = empty_each global_faults (outer_demands file) (append_parts (flat_map global_faults (outer_demands file)) _ demands_clean).0

    automata_none : Each (λ a. automaton_faults (global_thing file) a ≡ []) file.automata
    automata_none =
        empty_each (automaton_faults (global_thing file)) file.automata
        (append_parts (flat_map (automaton_faults (global_thing file)) file.automata) _ (append_parts (flat_map global_faults (outer_demands file)) _ demands_clean).1).0

    consts_fine : Each (λ c. OfSome (IsFine global_types c.ty) c.value) file.constants
    consts_fine =
        each_with (ConstRead HasItems) (λ c. Each (HasNone global_faults) (const_demands c)) (λ c. OfSome (IsFine global_types c.ty) c.value)
        (λ c f h. some_fine global_types global_faults global_judges c.ty c.value f.value h) file.constants (checked.form.constants)
        (each_of (HasNone global_faults) const_demands file.constants
        (each_parts (HasNone global_faults) (flat_map const_demands file.constants) (flat_map var_demands file.variables ++ map (varying W.Bool) (if_some file.restrict)) outer_none).0)

    module _ (given : List Given) (m : misfit (jani_description file).constants given ≡ None) where
      -- ---- constants have their types
      abbrev opened : Const → Constant
      opened c = record { name = c.name.name; ty = c.ty; is_open = is_none c.value }

      opened_typed : (x : Name) (c : Const) → constant_called file x ≡ Some c → (v : Value) → given_by given x ≡ Some v → IsTrue (has_type c.ty v)
      opened_typed x c e v k =
          given_typed (map opened file.constants) given (none_misfits (map opened file.constants) given m) x (opened c)
          (found_mapped opened (λ d. bytes_eq d.name x) (λ d. is_called x d.name) (λ d. refl) file.constants ∙ ap (option_map opened) e) v k

      const_typed : (n : ℕ) (x : Name) → IsTyped (constant_called file x) (constant_within file (given_by given) n x)
      const_typed zero x = none_typed (constant_called file x)
      const_typed (suc n) x =
          by_const (const_typed n) (constant_called file x) refl
          (each_found (λ c. OfSome (IsFine global_types c.ty) c.value) (λ c. is_called x c.name) file.constants consts_fine)
        where
          env : Environment
          env = constant_within file (given_by given) n

          by_value : ((y : Name) → IsTyped (constant_called file y) (env y)) → (c : Const) → constant_called file x ≡ Some c → (o : Option Expression) → OfSome (IsFine global_types c.ty) o →
              (v : Value) → (constant_seen (given_by given x) (known_names env) o).value ≡ Some v → IsTrue (has_type c.ty v)
          by_value r c e None f v k = opened_typed x c e v k
          by_value r c e (Some b) f v k =
              fine_value global_types env (names_agree global_types global_constants env r) c.ty b f v (sym (seen_value b env) ∙ k)

          by_const : ((y : Name) → IsTyped (constant_called file y) (env y)) → (o : Option Const) → constant_called file x ≡ o →
              OfSome (λ c. OfSome (IsFine global_types c.ty) c.value) o → IsTyped o (constant_value (given_by given x) (known_names env) o)
          by_const r None e f = refl
          by_const r (Some c) e f = λ v k. by_value r c e c.value f v k

      abbrev values : Environment
      values = constant file (given_by given)

      values_agree : (types : Types) → HasConstants types → (x : Name) → AgreesWith (types x) (values x)
      values_agree types has = names_agree types has values (const_typed (length file.constants))

      -- ---- variables begin with values of their types
      start_typed : (types : Types) → HasConstants types → (w : Ty) (o : Option Expression) → OfSome (IsFine types w) o → OfSome (HasType values w) o
      start_typed types has w None f = tt
      start_typed types has w (Some e) f = λ v k. fine_value types values (values_agree types has) w e f v k

      vars_typed : (types : Types) (judged : Demand → List Fault) → HasConstants types → Judges types judged → (xs : List Var) → Each (VarRead HasItems) xs → flat_map var_faults xs ≡ [] →
          Each (HasNone judged) (flat_map var_demands xs) → Each (BeginsTyped values) xs
      vars_typed types judged has j xs f k h =
          each_with (λ x. VarRead HasItems x × (var_faults x ≡ [])) (λ x. Each (HasNone judged) (var_demands x)) (BeginsTyped values)
          (λ x p d. record {
            kind = p.1;
            start = start_typed types has (kind_type x.kind) x.start
                (some_fine types judged j (kind_type x.kind) x.start p.0.start (each_parts (HasNone judged) (bound_demands x.kind) (map (fixed (wanted_by (kind_type x.kind))) (if_some x.start)) d).1);
          }) xs
          (each_with (VarRead HasItems) (λ x. var_faults x ≡ []) (λ x. VarRead HasItems x × (var_faults x ≡ [])) (λ x p q. (p, q)) xs
          (f) (empty_each var_faults xs k))
          (each_of (HasNone judged) var_demands xs h)

      globals_typed : Each (BeginsTyped values) file.variables
      globals_typed =
          vars_typed global_types global_faults global_constants global_judges file.variables checked.form.variables (append_parts (flat_map var_faults file.variables) _ type_clean).0
          (each_parts (HasNone global_faults) (flat_map var_demands file.variables) (map (varying W.Bool) (if_some file.restrict))
          (each_parts (HasNone global_faults) (flat_map const_demands file.constants) (flat_map var_demands file.variables ++ map (varying W.Bool) (if_some file.restrict)) outer_none).1).0

      own_typed : (a : Automaton) → AutomatonRead HasItems a → automaton_faults (global_thing file) a ≡ [] → Each (BeginsTyped values) a.variables
      own_typed a f h =
          let judged = faults_beside a.variables in
          let r = append_parts (flat_map var_faults a.variables) _ h in
          let d = empty_each judged (automaton_demands a) (append_parts (flat_map judged (automaton_demands a)) _ r.1).0 in
          vars_typed (types_beside a.variables) judged (beside_constants a.variables) (beside_judges a.variables) a.variables f.variables r.0
          (each_parts (HasNone judged) (flat_map var_demands a.variables) _ d).0

      called_typed : (n : Named) → Each (BeginsTyped values) (automaton_called file n).variables
      called_typed n =
          some_else (λ a. Each (BeginsTyped values) a.variables) (find (λ a. is_called n.name a.name) file.automata) (nothing_called n)
          (each_found (λ a. Each (BeginsTyped values) a.variables) (λ a. is_called n.name a.name) file.automata
          (each_with (AutomatonRead HasItems) (λ a. automaton_faults (global_thing file) a ≡ []) (λ a. Each (BeginsTyped values) a.variables) own_typed file.automata
          (checked.form.automata) automata_none)) tt

      elements_typed : Each (λ a. Each (BeginsTyped values) a.variables) (elements file)
      elements_typed =
          each_any (λ a. Each (BeginsTyped values) a.variables) (element_automaton file)
          (λ e. subst (Each (BeginsTyped values)) (sym (same_variables e.enable (automaton_called file e.name))) (called_typed e.name))
          file.elements

      owned_typed : (owner : Option ℕ) (xs : List Var) → Each (BeginsTyped values) xs → Each (λ o. BeginsTyped values o.var) (owned_by owner xs)
      owned_typed owner xs h = each_map (BeginsTyped values) (λ o. BeginsTyped values o.var) (λ x. record { owner = owner; var = x }) (λ x p. p) xs h

      all_typed : Each (λ o. BeginsTyped values o.var) (variables file)
      all_typed =
          each_join (λ o. BeginsTyped values o.var) (owned_by None file.variables) (numbered (λ i a. owned_by (Some i) a.variables) 0 (elements file))
          (owned_typed None file.variables globals_typed)
          (each_numbered (λ a. Each (BeginsTyped values) a.variables) (λ o. BeginsTyped values o.var) (λ i a. owned_by (Some i) a.variables)
          (λ i a h. owned_typed (Some i) a.variables h) 0 (elements file) elements_typed)

      -- ---- columns begin right
      abbrev IsRightColumn : Column → Type 0
      IsRightColumn c = begins_right c.domain (first_value c) ≡ true

      -- the first value, if there is one and it is known
      abbrev begun : Option Expression → Option Value
      begun o = option_and_then (λ s. s.value) (first_of (constant_names file (given_by given)) o)

      start_right : (o : Option Expression) → OfSome (HasType values T.Bool) o → begins_right Truths (begun o) ≡ true
      start_right None h = refl
      start_right (Some e) h = bool_right (see e (constant_names file (given_by given))).value (λ v k. h v (sym (seen_value e values) ∙ k))

      kind_right : (k : VarKind) (at : ℕ) (t : Bool) → not t ≡ true → map (fault at) (if_some (kind_fault t k)) ≡ [] → (o : Option Expression) → OfSome (HasType values (kind_type k)) o →
          begins_right (domain_of (constant_names file (given_by given)) k) (begun o) ≡ true
      kind_right k at true l h o s = absurd cc
      kind_right boolean at false l h o s = start_right o s
      kind_right integer at false l h o s = absurd cc
      kind_right number at false l h o s = absurd cc
      kind_right real_bounded at false l h o s = absurd cc
      kind_right one_sided at false l h o s = absurd cc
      kind_right (bounded low high) at false l h o s = refl

      lasting_right : Each (λ o. IsRightColumn (column (constant_names file (given_by given)) o.var)) (lasting file)
      lasting_right =
          each_kept (λ o. IsRightColumn (column (constant_names file (given_by given)) o.var)) is_lasting (variables file)
          (each_then (λ o. BeginsTyped values o.var) (λ o. is_lasting o ≡ true → IsRightColumn (column (constant_names file (given_by given)) o.var))
          (λ o h l. kind_right o.var.kind o.var.kind_at o.var.transient l h.kind o.var.start h.start) (variables file) all_typed)

      pub begin_right : BeginRight (columns_of file (given_by given))
      begin_right =
          All-append IsRightColumn (map location_column (elements file)) (map (λ o. column (constant_names file (given_by given)) o.var) (lasting file))
          (All-from_recursion IsRightColumn (map location_column (elements file)) (each_any IsRightColumn location_column (λ a. refl) (elements file)))
          (All-map IsRightColumn (λ o. column (constant_names file (given_by given)) o.var) (lasting file)
          (All-from_recursion (λ o. IsRightColumn (column (constant_names file (given_by given)) o.var)) (lasting file) lasting_right))
