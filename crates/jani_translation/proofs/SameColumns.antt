-- The scenes of a file and of the translated file: constants, columns and instance faults.
use Rattle.std.specs.Prelude.{◌≡◌, ℕ, suc, ◌+◌, List, [], ◌∷◌, ◌++◌, map, length, drop, Bool, true, false, not, ◌||◌, cond, Option, Some, None, is_some, IfSome}
use Rattle.std.specs.List.{All, AllByRecursion, filter, list_any, zip}
use Rattle.std.proofs.Common.{refl, sym, ap, ap₂, ◌∙◌, append-nil, subst}
use Rattle.std.proofs.lemmas.List.Elements.{All-nil, All-cons, All-append, All-head, All-tail}
use Rattle.std.proofs.lemmas.Bool.{or_right}
use Rattle.op_trees.specs.Seen.{Seen, known}
use Rattle.process_core.specs.Ready.{Name}
use Rattle.prism_tree.specs.Syntax as prism
use Rattle.prism_names.specs.Names.{unchanged}
use Rattle.process_core.specs.Instance.{Valuation, Domain, Between, Column, numbered, only_if, constant_faults, column_faults}
use Rattle.prism_flat.specs.Scene as prism_scene
use Rattle.prism_flat.specs.Scene.{has_condition}
use Rattle.jani_tree.specs.Syntax.{Automaton, Var, Write, File, element_names}
use Rattle.jani_meaning.specs.Elements.{elements, has_several_starts, Owned, owned_by, is_lasting, lasting}
use Rattle.jani_meaning.specs.Scene as jani_scene
use Rattle.jani_meaning.specs.Scene.{begins_anywhere, location_column}
use Rattle.jani_meaning.proofs.Columns.{locations_have_no_fault}
use Rattle.name_table.specs.declared.entry.Entry.{Entry}
use Rattle.name_table.specs.Asks.{bodies, variables, entries, NewNames, new_names}
use Rattle.jani_translation.specs.Parts.{constant, variable, kind_of, restriction, start_of, start_under}
use Rattle.jani_translation.specs.Automata.{module_automata, monitor_edges, automaton, zz_monitor, earns_silently, has_monitor, location_values}
use Rattle.jani_translation.specs.Translated.{translated}
use Rattle.jani_translation.specs.SeenLaws.{IsSound, IsSoundUnder, GivesAlike, renamed_column, SameConstants, ConstantsSeenAlike, ColumnsSeenAlike, FaultsAlike}
use Rattle.jani_translation.proofs.Fresh.{Takes, takes_from}
use Rattle.jani_translation.proofs.SameSeen.{image_seen, constant_alike, zip-take, constants_agree, variables_agree, constant_same, names_alike, names_plain}
use Rattle.jani_translation.proofs.Each.{for_variables}
use Rattle.jani_translation.proofs.Elements.{IsOne, automata_one, elements_are}
use Rattle.jani_translation.proofs.OneForOne.{lasting_are}
use Rattle.jani_translation.proofs.StateNames.{lasting_owned, new_variables}
use Rattle.jani_translation.proofs.Written.{variable_columns}

-- ---- constants, in order
constants_alike : (new : Name → Name) (v w : Valuation) (old env : Name → Seen) (cs : List prism.Const) (es : List Entry) → ((x : Name) → env (new x) ≡ old x) →
    Takes new (map (λ c. c.name.name) cs) es → All (λ c. c.value ≡ None → w (new c.name.name) ≡ v c.name.name) cs → All (λ c. IfSome c.value (IsSound old)) cs →
    map (λ c. jani_scene.constant_seen (w c.name.name) env c.value) (map (λ p. constant new p.0 p.1) (zip cs es)) ≡ map (λ c. prism_scene.constant_seen (v c.name.name) old c.value) cs
constants_alike new v w old env [] es n t a s = refl
constants_alike new v w old env (c ∷ cs) [] n t a s = absurd t
constants_alike new v w old env (c ∷ cs) (e ∷ es) n t a s =
    ap₂ (λ x r. x ∷ r)
    (constant_alike new old env (w e.name) (v c.name.name) c.value n
    (λ k. ap w t.0 ∙ All-head (λ c. c.value ≡ None → w (new c.name.name) ≡ v c.name.name) c cs a k) (All-head (λ c. IfSome c.value (IsSound old)) c cs s))
    (constants_alike new v w old env cs es n t.1 (All-tail (λ c. c.value ≡ None → w (new c.name.name) ≡ v c.name.name) c cs a) (All-tail (λ c. IfSome c.value (IsSound old)) c cs s))

pub constants_seen_alike : (file : prism.File) → ConstantsSeenAlike file
constants_seen_alike file v w sound alike =
    let new = (new_names file).value in
    let old : Name → Seen = λ x. known (prism_scene.constant file v x) in
    let env = jani_scene.constant_names (translated file) w in
    ap (λ ps. map (λ c. jani_scene.constant_seen (w c.name.name) env c.value) (map (λ p. constant new p.0 p.1) ps)) (zip-take file.constants (entries file))
    ∙ constants_alike new v w old env file.constants (entries file) (names_alike file v w sound alike)
    (takes_from new (map (λ c. c.name.name) file.constants) (entries file) (constants_agree file v w sound alike)) alike
    (λ k d lt. sound.constants k d lt (length file.constants))
    ∙ ap (λ names. map (λ c. prism_scene.constant_seen (v c.name.name) names c.value) file.constants) (sym (names_plain file v w sound alike))

pub same_constants : (file : prism.File) → SameConstants file
same_constants file v w sound alike x = constant_same file v w sound alike x

-- ---- columns
same_column : (n m : Name) (d e : Domain) (f g : Option Seen) → n ≡ m → d ≡ e → f ≡ g →
    ◌≡◌ {A = Column} (record { name = n; domain = d; first = f }) (record { name = m; domain = e; first = g })
same_column n m d e f g p q r = cc

module _ (new : Name → Name) (any : Bool) (old env : Name → Seen) (n : (x : Name) → env (new x) ≡ old x) where
  domain_alike : (r : Option prism.Range) → IfSome r (λ r. IsSound old r.low × IsSound old r.high) → jani_scene.domain_of env (kind_of new r) ≡ prism_scene.domain_of old r
  domain_alike None s = refl
  domain_alike (Some r) s = ap₂ (λ l h. Between l h) (image_seen new r.low old env n s.0) (image_seen new r.high old env n s.1)

  first_alike : (o : Option prism.Expression) (r : Option prism.Range) → IfSome r (λ r. IsSound old r.low × IsSound old r.high) → IfSome o (IsSound old) →
      jani_scene.start_of env (Some (start_of new o r)) ≡ prism_scene.first_of old o r
  unfolding jani_scene.see
  first_alike (Some e) r s t = image_seen new e old env n t
  first_alike None (Some r) s t = image_seen new r.low old env n s.0
  first_alike None None s t = refl

  start_alike : (b : Bool) (o : Option prism.Expression) (r : Option prism.Range) → IfSome r (λ r. IsSound old r.low × IsSound old r.high) → IfSome o (IsSound old) →
      jani_scene.first_of env (start_under new b o r) ≡ prism_scene.first_under b (prism_scene.first_of old o r)
  start_alike true o r s t = refl
  start_alike false o r s t = ap Some (first_alike o r s t)

  columns_alike : (vs : List prism.Var) (es : List Entry) → Takes new (map (λ x. x.name.name) vs) es →
      All (λ x. IfSome x.range (λ r. IsSound old r.low × IsSound old r.high) × IfSome x.start (IsSound old)) vs →
      map (jani_scene.column env) (map (λ p. variable new any p.0 p.1) (zip vs es)) ≡ map (renamed_column new) (map (prism_scene.column any unchanged old) vs)
  columns_alike [] es t s = refl
  columns_alike (x ∷ vs) [] t s = absurd t
  columns_alike (x ∷ vs) (e ∷ es) t s =
      let here = All-head (λ x. IfSome x.range (λ r. IsSound old r.low × IsSound old r.high) × IfSome x.start (IsSound old)) x vs s in
      let rest = All-tail (λ x. IfSome x.range (λ r. IsSound old r.low × IsSound old r.high) × IfSome x.start (IsSound old)) x vs s in
      ap₂ (λ c r. c ∷ r) (same_column _ _ _ _ _ _ t.0 (domain_alike x.range here.0) (start_alike any x.start x.range here.0 here.1)) (columns_alike vs es t.1 rest)

-- ---- no automaton has variables of its own
no_owned : (i : ℕ) (as_ : List Automaton) → All (λ a. a.variables ≡ []) as_ → numbered (λ k a. owned_by (Some k) a.variables) i as_ ≡ []
no_owned i [] h = refl
no_owned i (a ∷ as_) h =
    ap₂ (λ x y. x ++ y) (ap (owned_by (Some i)) (All-head (λ a. a.variables ≡ []) a as_ h)) (no_owned (i + 1) as_ (All-tail (λ a. a.variables ≡ []) a as_ h))

module_owns : (names : NewNames) (silently : Bool) (ws : List Write) (ms : List prism.Body) (es : List Entry) → All (λ a. a.variables ≡ []) (module_automata names silently ws ms es)
module_owns names silently ws [] es = All-nil (λ a. a.variables ≡ [])
module_owns names silently ws (m ∷ ms) [] = All-nil (λ a. a.variables ≡ [])
module_owns names silently ws (m ∷ ms) (e ∷ es) = All-cons (λ a. a.variables ≡ []) _ _ refl (module_owns names silently [] ms es)

monitor_owns : (b : Bool) (a : Automaton) → a.variables ≡ [] → All (λ a. a.variables ≡ []) (only_if b a)
monitor_owns true a h = All-cons (λ a. a.variables ≡ []) a [] h (All-nil (λ a. a.variables ≡ []))
monitor_owns false a h = All-nil (λ a. a.variables ≡ [])

automata_own : (file : prism.File) → All (λ a. a.variables ≡ []) (translated file).automata
automata_own file =
    let names = new_names file in
    All-append (λ a. a.variables ≡ []) _ _ (module_owns names (earns_silently file) (location_values names file) (bodies file) names.modules)
    (monitor_owns (has_monitor file) (automaton names zz_monitor [] (monitor_edges names file)) refl)

elements_own : (file : prism.File) → All (λ a. a.variables ≡ []) (elements (translated file))
elements_own file = subst (All (λ a. a.variables ≡ [])) (sym (elements_are file)) (automata_own file)

-- ---- the variables that are not transient
kept_alike : (b : Bool) (f : Var → Column) (x : Var) (os : List Owned) (xs : List Var) → map (λ o. f o.var) os ≡ map f xs →
    map (λ o. f o.var) (cond b (record { owner = None; var = x } ∷ os) os) ≡ map f (cond b (x ∷ xs) xs)
kept_alike true f x os xs h = ap (λ r. f x ∷ r) h
kept_alike false f x os xs h = h

owned_lasting : (f : Var → Column) (vs : List Var) → map (λ o. f o.var) (filter is_lasting (owned_by None vs)) ≡ map f (filter (λ x. not x.transient) vs)
owned_lasting f [] = refl
owned_lasting f (x ∷ vs) = kept_alike (not x.transient) f x _ _ (owned_lasting f vs)

lasting_alike : (file : prism.File) (f : Var → Column) →
    map (λ o. f o.var) (lasting (translated file)) ≡ map f (map (λ p. variable (new_names file).value (has_condition file) p.0 p.1) (zip (variables file) (new_names file).variables))
lasting_alike file f =
    let g = translated file in
    ap (λ r. map (λ o. f o.var) (filter is_lasting (owned_by None g.variables ++ r)))
    (no_owned 0 (elements g) (elements_own file))
    ∙ ap (λ r. map (λ o. f o.var) (filter is_lasting r)) (append-nil (owned_by None g.variables))
    ∙ owned_lasting f g.variables
    ∙ ap (map f) (lasting_are file)

-- the columns of the variables
variables_seen : (file : prism.File) (v w : Valuation) → IsSoundUnder file v → GivesAlike file v w →
    map (λ o. jani_scene.column (jani_scene.constant_names (translated file) w) o.var) (lasting (translated file))
    ≡ map (renamed_column (new_names file).value) (prism_scene.columns_of file v)
variables_seen file v w sound alike =
    let new = (new_names file).value in
    let old : Name → Seen = λ x. known (prism_scene.constant file v x) in
    let env = jani_scene.constant_names (translated file) w in
    let es = drop (length file.constants) (entries file) in
    lasting_alike file (jani_scene.column env)
    ∙ ap (λ ps. map (jani_scene.column env) (map (λ p. variable new (has_condition file) p.0 p.1) ps)) (zip-take (variables file) es)
    ∙ columns_alike new (has_condition file) old env (names_alike file v w sound alike) (variables file) es
    (takes_from new (map (λ x. x.name.name) (variables file)) es (variables_agree file v w sound alike)) sound.variables
    ∙ ap (map (renamed_column new))
    (ap (λ names. map (prism_scene.column (has_condition file) unchanged names) (variables file)) (sym (names_plain file v w sound alike))
    ∙ sym (variable_columns file v sound.written.modules))

pub columns_seen_alike : (file : prism.File) → ColumnsSeenAlike file
columns_seen_alike file v w sound alike =
    ap (λ r. map location_column (elements (translated file)) ++ r) (variables_seen file v w sound alike)

-- ---- faults do not tell the names of columns
faults_renamed : (r : Bool) (new : Name → Name) (i : ℕ) (cs : List Column) → numbered (column_faults r) i (map (renamed_column new) cs) ≡ numbered (column_faults r) i cs
faults_renamed r new i [] = refl
faults_renamed r new i (c ∷ cs) = ap (λ l. column_faults r i c ++ l) (faults_renamed r new (i + 1) cs)

-- ---- both have an initial condition, or none, but for a file without variables, whose condition may be left out
anywhere_none : (new : Name → Name) (ps : List (prism.Var × Entry)) → list_any begins_anywhere (owned_by None (map (λ p. variable new false p.0 p.1) ps)) ≡ false
anywhere_none new [] = refl
anywhere_none new (p ∷ ps) = anywhere_none new ps

one_start : (names : NewNames) (as_ : List Automaton) → AllByRecursion (IsOne names) as_ → list_any has_several_starts as_ ≡ false
one_start names [] h = refl
one_start names (a ∷ as_) h = ap₂ (λ x y. x || y) (ap has_several_starts h.0.1) (one_start names as_ h.1)

module _ (file : prism.File) where
  abbrev g : File
  g = translated file

  -- the flag of the translated file by its parts
  flag_is : jani_scene.has_condition g
      ≡ (is_some (restriction (new_names file).value file.init) || list_any begins_anywhere (owned_by None (new_variables file)))
  flag_is =
      ap₂ (λ a b. is_some g.restrict || (a || b)) (ap (list_any has_several_starts) (elements_are file) ∙ one_start (new_names file) g.automata (automata_one file))
      (ap (list_any begins_anywhere) (lasting_owned file))

  without : file.init ≡ None → jani_scene.has_condition g ≡ false
  without e =
      flag_is
      ∙ ap₂ (λ o c. is_some (restriction (new_names file).value o) || list_any begins_anywhere (owned_by None (map (λ p. variable (new_names file).value c p.0 p.1) (zip (variables file) (drop (length file.constants) (entries file))))))
      e (ap is_some e)
      ∙ anywhere_none (new_names file).value (zip (variables file) (drop (length file.constants) (entries file)))

  with_variables : (x : prism.Expression) → file.init ≡ Some x → (y : prism.Var) (ys : List prism.Var) → variables file ≡ y ∷ ys → jani_scene.has_condition g ≡ true
  with_variables x e y ys k =
      flag_is
      ∙ or_right (is_some (restriction (new_names file).value file.init)) _
      (ap₂ (λ c ps. list_any begins_anywhere (owned_by None (map (λ p. variable (new_names file).value c p.0 p.1) ps))) (ap is_some e)
      (sym (zip-take (variables file) (drop (length file.constants) (entries file))) ∙ ap (λ vs. zip vs (new_names file).variables) k)
      ∙ some_one (new_names file).variables (sym (for_variables file) ∙ ap length k))
    where
      some_one : (es : List Entry) → length es ≡ suc (length ys) → list_any begins_anywhere (owned_by None (map (λ p. variable (new_names file).value true p.0 p.1) (zip (y ∷ ys) es))) ≡ true
      some_one [] l = absurd cc
      some_one (u ∷ es) l = refl

  flags_alike : (n : ℕ) (cs : List Column) → (variables file ≡ [] → cs ≡ []) →
      numbered (column_faults (jani_scene.has_condition g)) n cs ≡ numbered (column_faults (has_condition file)) n cs
  flags_alike n cs none = by_init file.init refl
    where
      by_variables : (x : prism.Expression) → file.init ≡ Some x → (vs : List prism.Var) → variables file ≡ vs →
          numbered (column_faults (jani_scene.has_condition g)) n cs ≡ numbered (column_faults (has_condition file)) n cs
      by_variables x e [] k =
          ap (numbered (column_faults (jani_scene.has_condition g)) n) (none k) ∙ sym (ap (numbered (column_faults (has_condition file)) n) (none k))
      by_variables x e (y ∷ ys) k = ap (λ b. numbered (column_faults b) n cs) (with_variables x e y ys k ∙ sym (ap is_some e))

      by_init : (o : Option prism.Expression) → file.init ≡ o → numbered (column_faults (jani_scene.has_condition g)) n cs ≡ numbered (column_faults (has_condition file)) n cs
      by_init None e = ap (λ b. numbered (column_faults b) n cs) (without e ∙ sym (ap is_some e))
      by_init (Some x) e = by_variables x e (variables file) refl

pub faults_alike : (file : prism.File) → FaultsAlike file
faults_alike file v w sound alike =
    let n = length (element_names (translated file)) in
    let b = jani_scene.has_condition (translated file) in
    let cs = prism_scene.columns_of file v in
    locations_have_no_fault (translated file) w
    ∙ ap₂ (λ ks vs. numbered constant_faults 0 ks ++ numbered (column_faults b) n vs) (constants_seen_alike file v w sound alike) (variables_seen file v w sound alike)
    ∙ ap (λ r. numbered constant_faults 0 (prism_scene.scene file v).constants ++ r)
    (faults_renamed b (new_names file).value n cs
    ∙ flags_alike file n cs
    (λ e. variable_columns file v sound.written.modules ∙ ap (map (prism_scene.column (has_condition file) unchanged (prism_scene.constant_names file v unchanged))) e))
