-- What new names stand for in the translated file.
use Rattle.std.specs.Prelude.{◌≡◌, ℕ, zero, suc, List, [], ◌∷◌, ◌++◌, map, length, drop, Bool, true, false, not, ◌&&◌, is_some, cond, if◌then◌else◌, Option, Some, None, slice_get, bytes_eq}
use Rattle.std.specs.List.{find, zip}
use Rattle.std.specs.Option.{option_map, option_or as or_else}
use Rattle.std.proofs.Common.{refl, sym, ap, ap₂, ◌∙◌, append-nil}
use Rattle.basics.specs.Texts.{bytes_ne}
use Rattle.bridge_io.specs.declared.reason.Named.{Named}
use Rattle.op_trees.specs.declared.tree.Ty.{Ty}
use Rattle.process_core.specs.Ready.{Name}
use Rattle.prism_tree.specs.Syntax as prism
use Rattle.prism_check.specs.Demands.{type_by, var_type}
use Rattle.prism_check.specs.TypeFaults as source
use Rattle.prism_check.specs.TypeFaults.{types}
use Rattle.prism_check.specs.Flattened.{IsFlat}
use Rattle.prism_flat.specs.Scene.{has_condition}
use Rattle.jani_tree.specs.Syntax.{Expression, Const, VarKind, boolean, integer, Var}
use Rattle.jani_check.specs.Things.{is_called, kind_type, const_thing, var_thing, thing_type, global_thing, types_by, is_transient}
use Rattle.jani_check.specs.TypeFaults.{is_variable}
use Rattle.jani_translation.specs.Entry.{Entry}
use Rattle.jani_translation.specs.Asks.{variables, entries, new_name, value_names, new_names, labels_at, rewards_at}
use Rattle.jani_translation.specs.Parts.{instead_if, kind_of, constant, variable, label, structure}
use Rattle.jani_translation.specs.Translated.{translated}
use Rattle.jani_translation.proofs.Fresh.{Agrees, no_empty, values_agree, agrees_front, agrees_back}
use Rattle.jani_translation.proofs.SameSeen.{zip-take}
use Rattle.jani_translation_laws.specs.TypeLaws.{NamesTypedAlike, NamesStayConstant, NamesAreNotTransient}
use Rattle.jani_translation.proofs.Clean.{values_distinct, variable_types}
use Rattle.prism_check.proofs.Typed.{no_formula, types_declared}

-- ---- what names of the source become: constants, and variables that are not transient
abbrev pub kind_by : Option prism.Range → VarKind
kind_by None = boolean
kind_by (Some r) = integer

abbrev pub source_const : prism.Const → Const
source_const c = record { name = c.name; ty = c.ty; value = None; note = None }

abbrev pub source_var : prism.Var → Var
source_var v = record { name = v.name; kind = kind_by v.range; kind_at = 0; transient = false; start = None; note = None }

-- ---- constants
const_step : (c : prism.Const) (k : Const) (o : Option Const) (p : Option prism.Const) (s t : Bool) → s ≡ t → const_thing k ≡ const_thing (source_const c) →
    option_map const_thing o ≡ option_map (λ d. const_thing (source_const d)) p → option_map const_thing (cond s (Some k) o) ≡ option_map (λ d. const_thing (source_const d)) (cond t (Some c) p)
const_step c k o p true true e q r = ap Some q
const_step c k o p true false e q r = absurd cc
const_step c k o p false true e q r = absurd cc
const_step c k o p false false e q r = r

consts_found : (new : Name → Name) (x z : Name) (cs : List prism.Const) (es : List Entry) → Agrees x z (map (λ c. c.name.name) cs) es →
    option_map const_thing (find (λ k. is_called z k.name) (map (λ p. constant new p.0 p.1) (zip cs es)))
    ≡ option_map (λ c. const_thing (source_const c)) (find (λ c. is_called x c.name) cs)
consts_found new x z [] es a = refl
consts_found new x z (c ∷ cs) [] a = absurd a
consts_found new x z (c ∷ cs) (e ∷ es) a =
    const_step c (constant new c e) _ _ (bytes_eq e.name z) (bytes_eq c.name.name x) a.0 refl (consts_found new x z cs es a.1)

-- ---- variables
kind_same : (new : Name → Name) (r : Option prism.Range) (n m : Named) (o : Option Expression) (c : Option (List ℕ)) →
    var_thing (record { name = n; kind = kind_of new r; kind_at = 0; transient = false; start = o; note = c })
    ≡ var_thing (record { name = m; kind = kind_by r; kind_at = 0; transient = false; start = None; note = None })
kind_same new None n m o c = refl
kind_same new (Some r) n m o c = refl

pub kind_typed : (r : Option prism.Range) → kind_type (kind_by r) ≡ type_by r
kind_typed None = refl
kind_typed (Some r) = refl

var_step : (v : prism.Var) (k : Var) (o : Option Var) (p : Option prism.Var) (s t : Bool) → s ≡ t → var_thing k ≡ var_thing (source_var v) →
    (t ≡ false → option_map var_thing o ≡ option_map (λ v. var_thing (source_var v)) p) →
    option_map var_thing (cond s (Some k) o) ≡ option_map (λ v. var_thing (source_var v)) (cond t (Some v) p)
var_step v k o p true true e q r = ap Some q
var_step v k o p true false e q r = absurd cc
var_step v k o p false true e q r = absurd cc
var_step v k o p false false e q r = r refl

vars_found : (new : Name → Name) (any : Bool) (x z : Name) (vs : List prism.Var) (es : List Entry) (rest : List Var) → Agrees x z (map (λ v. v.name.name) vs) es →
    (find (λ v. is_called x v.name) vs ≡ None → find (λ v. is_called z v.name) rest ≡ None) →
    option_map var_thing (find (λ v. is_called z v.name) (map (λ p. variable new any p.0 p.1) (zip vs es) ++ rest))
    ≡ option_map (λ v. var_thing (source_var v)) (find (λ v. is_called x v.name) vs)
vars_found new any x z [] es rest a h = ap (option_map var_thing) (h refl)
vars_found new any x z (v ∷ vs) [] rest a h = absurd a
vars_found new any x z (v ∷ vs) (e ∷ es) rest a h =
    var_step v (variable new any v e) _ _ (bytes_eq e.name z) (bytes_eq v.name.name x) a.0 (kind_same new v.range v.name v.name None None)
    (λ f. vars_found new any x z vs es rest a.1 (λ n. h (ap (λ b. cond b (Some v) (find (λ v. is_called x v.name) vs)) f ∙ n)))

-- ---- a name that is none of them becomes the empty name
none_step : {A : Type 0} (v : A) (o : Option A) (b : Bool) (n m : Name) → (o ≡ None → m ≡ []) → cond b (Some v) o ≡ None → (if b then n else m) ≡ []
none_step v o true n m r h = absurd cc
none_step v o false n m r h = r h

none_new : {A : Type 0} (f : A → Name) (xs : List A) (more : List Name) (es : List Entry) (x : Name) → find (λ v. bytes_eq (f v) x) xs ≡ None →
    ((us : List Entry) → new_name more us x ≡ []) → new_name (map f xs ++ more) es x ≡ []
none_new f [] more es x h r = r es
none_new f (v ∷ vs) more [] x h r = refl
none_new f (v ∷ vs) more (e ∷ es) x h r =
    none_step v (find (λ v. bytes_eq (f v) x) vs) (bytes_eq (f v) x) e.name _ (λ n. none_new f vs more es x n r) h

no_new : {A : Type 0} (f : A → Name) (xs : List A) (es : List Entry) (x : Name) → find (λ v. bytes_eq (f v) x) xs ≡ None → new_name (map f xs) es x ≡ []
no_new f [] es x h = refl
no_new f (v ∷ vs) [] x h = refl
no_new f (v ∷ vs) (e ∷ es) x h =
    none_step v (find (λ v. bytes_eq (f v) x) vs) (bytes_eq (f v) x) e.name _ (λ n. no_new f vs es x n) h

-- ---- no label and no structure has the empty name
abbrev pub HaveNames : List Entry → Type 0
HaveNames es = (i : ℕ) (e : Entry) → slice_get es i ≡ Some e → e.name ≡ [] → ⊥

pub drop_names : (n : ℕ) (es : List Entry) → HaveNames es → HaveNames (drop n es)
drop_names zero es h = h
drop_names (suc n) [] h = h
drop_names (suc n) (e ∷ es) h = drop_names n es (λ i u g. h (suc i) u g)

none_called : {X : Type 0} (z : Name) (made : X → Entry → Var) → ((x : X) (e : Entry) → (made x e).name.name ≡ e.name) → z ≡ [] →
    (xs : List X) (es : List Entry) (rest : List Var) → HaveNames es →
    find (λ v. is_called z v.name) rest ≡ None → find (λ v. is_called z v.name) (map (λ p. made p.0 p.1) (zip xs es) ++ rest) ≡ None
none_called z made n none [] es rest h r = r
none_called z made n none (x ∷ xs) [] rest h r = r
none_called z made n none (x ∷ xs) (e ∷ es) rest h r =
    ap (λ b. cond b (Some (made x e)) (find (λ v. is_called z v.name) (map (λ p. made p.0 p.1) (zip xs es) ++ rest)))
    (ap (λ y. bytes_eq y z) (n x e) ∙ bytes_ne e.name z (λ q. h 0 e refl (q ∙ none)))
    ∙ none_called z made n none xs es rest (λ i u g. h (suc i) u g) r

-- ---- both
else_alike : {A : Type 0} (a b v w : Option A) → a ≡ b → (b ≡ None → v ≡ w) → or_else a v ≡ or_else b w
else_alike a None v w e h = ap₂ or_else e (h refl)
else_alike a (Some t) v w e h = ap (λ o. or_else o v) e

mapped_none : {A B : Type 0} (f : A → B) (o : Option A) → option_map f o ≡ None → o ≡ None
mapped_none f None e = refl
mapped_none f (Some a) e = absurd cc

pub structure_name : (r : prism.Rewards) (e : Entry) → (structure r e).name.name ≡ e.name
structure_name r e = by_name r.name
  where
    by_name : (o : Option Named) → (instead_if o e.name).name ≡ e.name
    by_name None = refl
    by_name (Some n) = refl

module _ (file : prism.File) (flat : IsFlat file) (x : Name) where
  agree : Agrees x ((new_names file).value x) (value_names file) (entries file)
  agree = values_agree file (values_distinct file flat) x

  becomes_empty : find (λ c. is_called x c.name) file.constants ≡ None → find (λ v. is_called x v.name) (variables file) ≡ None →
      (new_names file).value x ≡ []
  becomes_empty h k =
      none_new (λ c. c.name.name) file.constants (map (λ v. v.name.name) (variables file)) (entries file) x h
      (λ us. no_new (λ v. v.name.name) (variables file) us x k)

  structures_none : (new_names file).value x ≡ [] →
      find (λ v. is_called ((new_names file).value x) v.name) (map (λ p. structure p.0 p.1) (zip file.rewards (new_names file).rewards)) ≡ None
  structures_none h =
      let z = (new_names file).value x in
      ap (λ ps. find (λ v. is_called z v.name) (map (λ p. structure p.0 p.1) ps)) (zip-take file.rewards (drop (rewards_at file (entries file)) (entries file)))
      ∙ ap (find (λ v. is_called z v.name)) (sym (append-nil (map (λ p. structure p.0 p.1) (zip file.rewards (drop (rewards_at file (entries file)) (entries file))))))
      ∙ none_called z structure structure_name h file.rewards (drop (rewards_at file (entries file)) (entries file)) []
      (drop_names (rewards_at file (entries file)) (entries file) (no_empty file)) refl

  rest_none : (new_names file).value x ≡ [] →
      find (λ v. is_called ((new_names file).value x) v.name)
      (map (λ p. label p.0 p.1) (zip file.labels (new_names file).labels) ++ map (λ p. structure p.0 p.1) (zip file.rewards (new_names file).rewards)) ≡ None
  rest_none h =
      let z = (new_names file).value x in
      let structures = map (λ p. structure p.0 p.1) (zip file.rewards (new_names file).rewards) in
      ap (λ ps. find (λ v. is_called z v.name) (map (λ p. label p.0 p.1) ps ++ structures)) (zip-take file.labels (drop (labels_at file (entries file)) (entries file)))
      ∙ none_called z label (λ l e. refl) h file.labels (drop (labels_at file (entries file)) (entries file)) structures
      (drop_names (labels_at file (entries file)) (entries file) (no_empty file)) (structures_none h)

  pub stand_alike : global_thing (translated file) ((new_names file).value x)
      ≡ or_else (option_map (λ c. const_thing (source_const c)) (find (λ c. is_called x c.name) file.constants))
      (option_map (λ v. var_thing (source_var v)) (find (λ v. is_called x v.name) (variables file)))
  stand_alike =
      let z = (new_names file).value x in
      let new = (new_names file).value in
      let constants = map (λ c. c.name.name) file.constants in
      let rest = map (λ p. label p.0 p.1) (zip file.labels (new_names file).labels) ++ map (λ p. structure p.0 p.1) (zip file.rewards (new_names file).rewards) in
      else_alike _ _ _ _
      (ap (λ ps. option_map const_thing (find (λ k. is_called z k.name) (map (λ p. constant new p.0 p.1) ps))) (zip-take file.constants (entries file))
      ∙ consts_found new x z file.constants (entries file) (agrees_front x z constants (map (λ v. v.name.name) (variables file)) (entries file) agree))
      (λ none.
      ap (λ ps. option_map var_thing (find (λ v. is_called z v.name) (map (λ p. variable new (has_condition file) p.0 p.1) ps ++ rest))) (zip-take (variables file) (drop (length file.constants) (entries file)))
      ∙ vars_found new (has_condition file) x z (variables file) (drop (length file.constants) (entries file)) rest
      (agrees_back (λ c. c.name.name) x z file.constants (map (λ v. v.name.name) (variables file)) (entries file) agree)
      (λ h. rest_none (becomes_empty (mapped_none (λ c. const_thing (source_const c)) (find (λ c. is_called x c.name) file.constants) none) h)))

  -- ---- types, and which things they are
  else_typed : (c : Option prism.Const) (v : Option prism.Var) (w : Option Ty) → option_map var_type v ≡ w →
      option_map thing_type (or_else (option_map (λ c. const_thing (source_const c)) c) (option_map (λ v. var_thing (source_var v)) v))
      ≡ or_else (option_map (λ c. c.ty) c) w
  else_typed None None w e = e
  else_typed None (Some v) w e = ap Some (kind_typed v.range) ∙ e
  else_typed (Some c) v w e = refl

  pub typed_alike : types_by (global_thing (translated file)) ((new_names file).value x) ≡ types file x
  typed_alike =
      ap (option_map thing_type) stand_alike
      ∙ else_typed (find (λ c. is_called x c.name) file.constants) (find (λ v. is_called x v.name) (variables file)) _ (sym (variable_types file flat x))
      ∙ sym (types_declared file flat x)

  else_lasts : (c : Option prism.Const) (v : Option prism.Var) →
      is_transient (or_else (option_map (λ c. const_thing (source_const c)) c) (option_map (λ v. var_thing (source_var v)) v)) ≡ false
  else_lasts None None = refl
  else_lasts None (Some v) = refl
  else_lasts (Some c) v = refl

  pub lasts : is_transient (global_thing (translated file) ((new_names file).value x)) ≡ false
  lasts = ap is_transient stand_alike ∙ else_lasts (find (λ c. is_called x c.name) file.constants) (find (λ v. is_called x v.name) (variables file))

  else_stays : (c : Option prism.Const) (v : Option prism.Var) (w : Option source.Variable) → option_map (λ u. u.ty) w ≡ option_map var_type v → is_some w ≡ false →
      is_variable (or_else (option_map (λ c. const_thing (source_const c)) c) (option_map (λ v. var_thing (source_var v)) v)) ≡ false
  else_stays None None w e h = refl
  else_stays None (Some v) None e h = absurd cc
  else_stays None (Some v) (Some u) e h = absurd cc
  else_stays (Some c) v w e h = refl

  pub stays : source.is_variable file x ≡ false → is_variable (global_thing (translated file) ((new_names file).value x)) ≡ false
  stays h =
      ap is_variable stand_alike
      ∙ else_stays (find (λ c. is_called x c.name) file.constants) (find (λ v. is_called x v.name) (variables file))
      (source.variable_called file x) (variable_types file flat x)
      (ap (λ o. not (is_some o) && is_some (source.variable_called file x)) (sym (no_formula file flat x)) ∙ h)

pub names_typed_alike : (file : prism.File) → NamesTypedAlike file
names_typed_alike file flat x = typed_alike file flat x

pub names_stay_constant : (file : prism.File) → NamesStayConstant file
names_stay_constant file flat x h = stays file flat x h

pub names_are_not_transient : (file : prism.File) → NamesAreNotTransient file
names_are_not_transient file flat x = lasts file flat x
