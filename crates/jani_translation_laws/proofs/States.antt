-- At a state each name has a value of its type; so the expressions of commands, labels and items are sound at it.
use Rattle.std.specs.Prelude.{◌≡◌, ℕ, zero, suc, ◌<◌, List, [], ◌∷◌, map, length, Bool, true, false, cond, nat_eq, if◌then◌else◌, Option, Some, None, IsTrue, is_some, IfSome, Contains, bytes_eq, not}
use Rattle.std.specs.List.{All, find, filter, AllByRecursion as Each}
use Rattle.std.specs.Option.{option_map, option_or}
use Rattle.std.proofs.Common.{refl, sym, ap, subst, ◌∙◌, arith}
use Rattle.std.proofs.lemmas.List.Elements.{All-filter, Contains-append_right}
use Rattle.op_trees.specs.TypeLaws.{some_agrees}
use Rattle.basics.specs.Booleans.{first_true, second_true}
use Rattle.basics.specs.Texts.{bytes_eq-true}
use Rattle.basics.specs.Each.{each_with}
use Rattle.bridge_io.specs.declared.reason.Reason.TheVariants.{Nothing}
use Rattle.op_trees.specs.declared.tree.Ty.{Ty}
use Rattle.op_trees.specs.declared.tree.Ty.TheVariants as T
use Rattle.op_trees.specs.declared.tree.Value.{Value}
use Rattle.op_trees.specs.declared.tree.Value.TheVariants as V
use Rattle.op_trees.specs.Types.{AgreesWith, has_type}
use Rattle.op_trees.specs.Seen.{Seen, known}
use Rattle.name_rules.proofs.Plain.{no_fault}
use Rattle.process_core.specs.Ready.{Values, Name}
use Rattle.prism_tree.specs.Syntax as prism
use Rattle.op_trees.specs.Names.{is_called}
use Rattle.prism_names.specs.Names.{unchanged, see}
use Rattle.process_core.specs.Instance as instance
use Rattle.process_core.specs.Instance.{Valuation, is_in, is_state, range_has, range_from}
use Rattle.prism_flat.specs.Scene.{constant_called, constant, constant_names, column, columns_of, domain_of, has_condition}
use Rattle.prism_flat.specs.Moment.{value_in, names_in}
use Rattle.prism_flat.specs.Process.{model}
use Rattle.basics.specs.Options.{IfAny}
use Rattle.prism_print.specs.Printable.{IsPrintableExpression, IsPrintableItem, IsPrintableRewards}
use Rattle.prism_check.specs.Demands.{type_by, var_type}
use Rattle.prism_check.specs.TypeFaults.{types}
use Rattle.prism_check.specs.Flattened.{IsFlat}
use Rattle.prism_images.specs.Laws.{IsNoNumber}
use Rattle.prism_images.proofs.Typed.{agreeing}
use Rattle.jani_translation.specs.Asks.{bodies, variables}
use Rattle.jani_translation.specs.Automata.{for_states}
use Rattle.jani_translation.specs.SeenLaws.{IsSound}
use Rattle.jani_translation.specs.StateLaws.{ConditionIsSound, IsSoundHere, SoundWrite, SoundBranch, SoundCommand, CommandsAreSound, SoundItem, MarksAreSound, ItemsAreSound}
use Rattle.jani_translation.proofs.Written.{given_reading, variable_columns}
use Rattle.jani_translation.proofs.Clean.{values_distinct, variable_types, declared_type}
use Rattle.prism_check.proofs.Typed.{HasType, no_name_fault, types_declared}
use Rattle.jani_translation_laws.proofs.Sources.{init_fine, IsFineLabel, IsFineItem, bodies_fine, labels_fine, rewards_fine}
use Rattle.jani_translation_laws.proofs.Writes.{IsFineWrite, no_constant}
use Rattle.jani_translation_laws.proofs.Edges.{IsFineBranch, IsFineCommand, commands_fine}
use Rattle.jani_translation_laws.specs.MeaningLaws.{FlatConditionIsSound, GivesTyped, FlatCommandsAreSound, FlatMarksAreSound, FlatItemsAreSound}
use Rattle.jani_translation_laws.proofs.Agreeing.{all_then, AreTyped, sound, value_typed}
use Rattle.jani_translation_laws.proofs.Constants.{constant_typed}

-- ---- a variable's name is no constant's
-- so the type of a name is the variable's, or else the constant's
either : (c d : Option Ty) → (IsTrue (is_some d) → c ≡ None) → option_or c d ≡ option_or d c
either None None h = refl
either None (Some d) h = refl
either (Some c) None h = refl
either (Some c) (Some d) h = absurd (let e : ◌≡◌ {A = Option Ty} (Some c) None = h refl in cc)

first_agrees : (c d : Option Ty) (v : Option Value) → AgreesWith (option_or c d) v → AgreesWith c v
first_agrees None d v a = record { agrees = λ t x h k. cc }
first_agrees (Some c) d v a = a

some_contained : (x : Name) (vs : List prism.Var) → IsTrue (is_some (declared_type x vs)) → Contains (map (λ y. y.name.name) vs) x
some_contained x [] h = absurd cc
some_contained x (y ∷ vs) h = by_test (bytes_eq y.name.name x) refl (some_contained x vs) h
  where
    by_test : (b : Bool) → bytes_eq y.name.name x ≡ b → (IsTrue (is_some (declared_type x vs)) → Contains (map (λ y. y.name.name) vs) x) →
        IsTrue (is_some (option_map var_type (cond b (Some y) (find (λ v. is_called x v.name) vs)))) →
        Contains (map (λ y. y.name.name) (y ∷ vs)) x
    by_test true e r k = (0, omega arith, bytes_eq-true y.name.name x e)
    by_test false e r k = Contains-append_right (y.name.name ∷ []) (map (λ y. y.name.name) vs) x (r k)

-- ---- values of columns
ranged : (o : Option instance.Range) (u : Value) → range_has o u ≡ true → IsTrue (has_type T.Int u)
ranged None u h = absurd cc
ranged (Some r) (V.Truth b) h = absurd cc
ranged (Some r) (V.Number q) h = first_true (nat_eq q.den 1) _ h

module _ (any : Bool) (old : Name → Seen) where
  in_domain : (r : Option prism.Range) (u : Value) → is_in (domain_of old r) u ≡ true → IsTrue (has_type (type_by r) u)
  in_domain None (V.Truth b) h = refl
  in_domain None (V.Number q) h = absurd cc
  in_domain (Some r) u h = ranged (range_from (see r.low old) (see r.high old)) u h

  length_is : (vs : List prism.Var) (s : Values) → is_state (map (column any unchanged old) vs) s ≡ true → length s ≡ length vs
  length_is [] [] h = refl
  length_is [] (u ∷ s) h = absurd cc
  length_is (y ∷ vs) [] h = absurd cc
  length_is (y ∷ vs) (u ∷ s) h = ap suc (length_is vs s (second_true (is_in (domain_of old y.range) u) (is_state (map (column any unchanged old) vs) s) h))

  in_typed : (x : Name) (constants : Name → Option Value) (t : Option Ty) → AgreesWith t (constants x) → (vs : List prism.Var) (s : Values) →
      is_state (map (column any unchanged old) vs) s ≡ true → AgreesWith (option_or (declared_type x vs) t) (value_in (map (column any unchanged old) vs) s constants x)
  in_typed x constants t a [] s h = a
  in_typed x constants t a (y ∷ vs) [] h = absurd cc
  in_typed x constants t a (y ∷ vs) (u ∷ s) h =
      by_test (bytes_eq y.name.name x) (in_typed x constants t a vs s (second_true (is_in (domain_of old y.range) u) (is_state (map (column any unchanged old) vs) s) h))
    where
      by_test : (b : Bool) → AgreesWith (option_or (declared_type x vs) t) (value_in (map (column any unchanged old) vs) s constants x) →
          AgreesWith (option_or (option_map var_type (cond b (Some y) (find (λ v. is_called x v.name) vs))) t)
          (if b then Some u else value_in (map (column any unchanged old) vs) s constants x)
      by_test true r = some_agrees (var_type y) u (in_domain y.range u (first_true (is_in (domain_of old y.range) u) (is_state (map (column any unchanged old) vs) s) h))
      by_test false r = r

module _ (file : prism.File) (flat : IsFlat file) (v : Valuation) (gives : GivesTyped file v) (s : Values) (state : (model file).is_state v s ≡ true) where
  -- the value of each name at the state
  abbrev here : Name → Option Value
  here x = value_in (columns_of file v) s (constant file v) x

  columns_state : is_state (map (column (has_condition file) unchanged (constant_names file v unchanged)) (variables file)) s ≡ true
  columns_state = subst (λ cs. is_state cs s ≡ true) (variable_columns file v flat.form.modules) state

  values : length s ≡ length (variables file)
  values = length_is (has_condition file) (constant_names file v unchanged) (variables file) s columns_state

  types_are : (x : Name) → types file x ≡ option_or (option_map (λ c. c.ty) (constant_called file x)) (declared_type x (variables file))
  types_are x = types_declared file flat x ∙ ap (option_or (option_map (λ c. c.ty) (constant_called file x))) (variable_types file flat x)

  types_turned : (x : Name) → types file x ≡ option_or (declared_type x (variables file)) (option_map (λ c. c.ty) (constant_called file x))
  types_turned x =
      types_are x
      ∙ either (option_map (λ c. c.ty) (constant_called file x)) (declared_type x (variables file))
      (λ h. ap (option_map (λ c. c.ty)) (no_constant x file.constants (variables file) (values_distinct file flat) h))

  here_typed : AreTyped file flat here
  here_typed x =
      let c = option_map (λ c. c.ty) (constant_called file x) in
      let a = first_agrees c (declared_type x (variables file)) (constant file v x)
      (subst (λ t. AgreesWith t (constant file v x)) (types_are x) (constant_typed file flat v gives x)) in
      subst (λ t. AgreesWith t (here x)) (sym (types_turned x))
      (subst (λ cs. AgreesWith (option_or (declared_type x (variables file)) c) (value_in cs s (constant file v) x)) (sym (variable_columns file v flat.form.modules))
      (in_typed (has_condition file) (constant_names file v unchanged) x (constant file v) c a (variables file) s columns_state))

  names_are : names_in file v s unchanged ≡ (λ x. known (here x))
  names_are = given_reading file (λ x. known (here x)) flat.form.formulas

  sound_here : (w : Ty) (e : prism.Expression) → HasType file w e → IsSoundHere file v s e
  sound_here w e h = subst (λ n. IsSound n e) (sym names_are) (sound file flat here here_typed w e h)

  no_number_here : (e : prism.Expression) → IsPrintableExpression e → HasType file T.Bool e → IsNoNumber (see e (names_in file v s unchanged)).value
  no_number_here e p h =
      subst (λ n. IsNoNumber (see e n).value) (sym names_are)
      (agreeing (Some T.Bool) (see e (λ x. known (here x))).value (value_typed file flat here here_typed T.Bool e p h))

  sound_if : (w : Ty) (o : Option prism.Expression) → IfAny (HasType file w) o → IfSome o (IsSoundHere file v s)
  sound_if w None h = tt
  sound_if w (Some e) h = sound_here w e h

  pub condition_sound : ConditionIsSound file v s
  condition_sound = sound_if T.Bool file.init (init_fine file flat)

  -- ---- commands
  some_true : (o : Option Ty) (t : Ty) → o ≡ Some t → IsTrue (is_some o)
  some_true o t e = subst (λ p. IsTrue (is_some p)) (sym e) refl

  write_sound : (y : prism.Write) → IsFineWrite file flat y → SoundWrite file v s y
  write_sound y h = (
    some_contained y.name.name (variables file) (some_true (declared_type y.name.name (variables file)) h.ty h.variable),
    sound_here h.ty y.value h.value,
  )

  branch_sound : (b : prism.Branch) → IsFineBranch file flat b → SoundBranch file v s b
  branch_sound b h = (sound_if T.Real b.weight h.0, all_then (IsFineWrite file flat) (SoundWrite file v s) write_sound b.writes h.1)

  command_sound : (c : prism.Command) → IsFineCommand file flat c → SoundCommand file v s c
  command_sound c h = (sound_here T.Bool c.guard h.0, all_then (IsFineBranch file flat) (SoundBranch file v s) branch_sound c.branches h.1)

  pub commands_sound : CommandsAreSound file v s
  commands_sound = record {
    values = values;
    commands =
        all_then (λ m. Each (IsFineCommand file flat) m.commands) (λ m. All (SoundCommand file v s) m.commands)
        (λ m h. all_then (IsFineCommand file flat) (SoundCommand file v s) command_sound m.commands h) (bodies file)
        (commands_fine file flat 0 (bodies file) (bodies_fine file flat));
  }

  -- ---- marks
  not_empty : (n : ℕ) → nat_eq n 0 ≡ false → 0 < n
  not_empty zero h = absurd cc
  not_empty (suc n) h = omega arith

  some_module : 0 < length file.modules
  some_module = not_empty (length file.modules) (no_fault (nat_eq (length file.modules) 0) file.end Nothing (no_name_fault file flat).modules)

  abbrev IsGoodItem : prism.Item → Type 0
  IsGoodItem i = IsPrintableItem i × IsFineItem file flat i

  item_sound : (i : prism.Item) → IsGoodItem i → SoundItem file v s i
  item_sound i h = (sound_here T.Bool i.guard h.1.0, no_number_here i.guard h.0.1 h.1.0, sound_here T.Real i.value h.1.1)

  items_sound : (wanted : prism.Item → Bool) (r : prism.Rewards) → Each IsGoodItem r.items → All (SoundItem file v s) (filter wanted r.items)
  items_sound wanted r h = All-filter wanted (SoundItem file v s) r.items (all_then IsGoodItem (SoundItem file v s) item_sound r.items h)

  good_items : Each (λ r. Each IsGoodItem r.items) file.rewards
  good_items =
      each_with IsPrintableRewards (λ r. Each (IsFineItem file flat) r.items) (λ r. Each IsGoodItem r.items)
      (λ r p q. each_with IsPrintableItem (IsFineItem file flat) IsGoodItem (λ i a b. (a, b)) r.items p.1 q) file.rewards
      flat.checked.form.rewards (rewards_fine file flat)

  pub marks_sound : MarksAreSound file v s
  marks_sound = record {
    values = values;
    some_module = some_module;
    labels = all_then (IsFineLabel file flat) (λ l. IsSoundHere file v s l.body) (λ l h. sound_here T.Bool l.body h) file.labels (labels_fine file flat);
    items = all_then (λ r. Each IsGoodItem r.items) (λ r. All (SoundItem file v s) (filter (λ i. for_states i.on) r.items)) (items_sound (λ i. for_states i.on)) file.rewards good_items;
  }

  pub choice_items_sound : ItemsAreSound file v s
  choice_items_sound = record { items = λ m. all_then (λ r. Each IsGoodItem r.items) (λ r. All (SoundItem file v s) (filter (λ i. not (for_states i.on)) r.items)) (items_sound (λ i. not (for_states i.on))) file.rewards good_items }

pub condition_is_sound : (file : prism.File) → FlatConditionIsSound file
condition_is_sound file flat v gives s state = condition_sound file flat v gives s state

pub commands_are_sound : (file : prism.File) → FlatCommandsAreSound file
commands_are_sound file flat v gives s state = commands_sound file flat v gives s state

pub marks_are_sound : (file : prism.File) → FlatMarksAreSound file
marks_are_sound file flat v gives s state = marks_sound file flat v gives s state

pub items_are_sound : (file : prism.File) → FlatItemsAreSound file
items_are_sound file flat v gives s state = choice_items_sound file flat v gives s state
