-- Names of a translated file at a state: each is seen as its old name is.
use Rattle.std.specs.Prelude.{◌≡◌, ℕ, zero, suc, ◌+◌, List, [], ◌∷◌, ◌++◌, map, length, drop, Bool, true, false, not, cond, Option, Some, None, slice_get, bytes_eq, if◌then◌else◌}
use Rattle.std.specs.List.{filter, zip, position, AllByRecursion}
use Rattle.std.specs.Option.{option_map, option_or}
use Rattle.std.proofs.Common.{refl, sym, ap, ap₂, ◌∙◌, arith, append-nil}
use Rattle.basics.specs.Members.{position_cons}
use Rattle.op_trees.specs.Seen.{Seen, known}
use Rattle.op_trees.specs.declared.tree.Value.{Value}
use Rattle.process_core.specs.Ready.{Values, Name}
use Rattle.prism_tree.specs.Syntax as prism
use Rattle.prism_names.specs.Names.{unchanged}
use Rattle.process_core.specs.Instance.{numbered}
use Rattle.prism_flat.specs.Scene.{has_condition}
use Rattle.prism_flat.specs.Scene as prism_scene
use Rattle.prism_flat.specs.Moment as prism_moment
use Rattle.jani_tree.specs.Syntax.{Automaton, Var, element_names}
use Rattle.op_trees.specs.Names.{is_called}
use Rattle.jani_meaning.specs.Elements.{elements, owned_by, is_lasting, is_own, is_global, lasting, place_of, column_number}
use Rattle.jani_meaning.specs.Scene as jani_scene
use Rattle.jani_meaning.specs.Moment as jani_moment
use Rattle.name_table.specs.declared.entry.Entry.{Entry}
use Rattle.name_table.specs.Asks.{variables, entries, NewNames, new_names}
use Rattle.jani_translation.specs.Parts.{variable}
use Rattle.jani_translation.specs.Translated.{translated}
use Rattle.jani_translation.specs.StateLaws.{at_home, state_of, NamesSeenAlike}
use Rattle.jani_translation.proofs.Fresh.{Agrees}
use Rattle.jani_translation.proofs.SameSeen.{zip-take, variables_agree, constant_same}
use Rattle.jani_translation.proofs.OneForOne.{lasting_are}
use Rattle.jani_translation.proofs.Elements.{elements_are, IsOne, automata_one}
use Rattle.jani_translation.proofs.Written.{given_reading, variable_columns}

-- ---- no variable belongs to an element
pub none_owned : (i : ℕ) (z : Name) (vs : List Var) → position (is_own i z) (owned_by None vs) ≡ None
none_owned i z [] = refl
none_owned i z (x ∷ vs) = position_cons (is_own i z) (record { owner = None; var = x }) (owned_by None vs) ∙ ap (option_map suc) (none_owned i z vs)

pub global_owned : (z : Name) (vs : List Var) → position (is_global z) (owned_by None vs) ≡ position (λ y. is_called z y.name) vs
global_owned z [] = refl
global_owned z (x ∷ vs) =
    position_cons (is_global z) (record { owner = None; var = x }) (owned_by None vs)
    ∙ ap (λ r. cond (is_called z x.name) (Some 0) (option_map suc r)) (global_owned z vs)
    ∙ sym (position_cons (λ y. is_called z y.name) x vs)

pub place_owned : (i : ℕ) (z : Name) (vs : List Var) → place_of (owned_by None vs) i z ≡ position (λ y. is_called z y.name) vs
place_owned i z vs = ap₂ option_or (none_owned i z vs) (global_owned z vs)

none_more : (names : NewNames) (i : ℕ) (as_ : List Automaton) → AllByRecursion (IsOne names) as_ → numbered (λ k a. owned_by (Some k) a.variables) i as_ ≡ []
none_more names i [] h = refl
none_more names i (a ∷ as_) h =
    ap₂ (λ x y. x ++ y) (ap (λ (b : Automaton). owned_by (Some i) b.variables) h.0.1) (none_more names (i + 1) as_ h.1)

pub owned_more : (file : prism.File) → numbered (λ k a. owned_by (Some k) a.variables) 0 (elements (translated file)) ≡ []
owned_more file = ap (numbered (λ k a. owned_by (Some k) a.variables) 0) (elements_are file) ∙ none_more (new_names file) 0 (translated file).automata (automata_one file)

owned_filter : (vs : List Var) → filter is_lasting (owned_by None vs) ≡ owned_by None (filter (λ x. not x.transient) vs)
owned_filter [] = refl
owned_filter (x ∷ vs) = kept (not x.transient) (owned_filter vs)
  where
    kept : (b : Bool) → filter is_lasting (owned_by None vs) ≡ owned_by None (filter (λ x. not x.transient) vs) →
        cond b (record { owner = None; var = x } ∷ filter is_lasting (owned_by None vs)) (filter is_lasting (owned_by None vs))
        ≡ owned_by None (cond b (x ∷ filter (λ x. not x.transient) vs) (filter (λ x. not x.transient) vs))
    kept true e = ap (λ r. record { owner = None; var = x } ∷ r) e
    kept false e = e

-- the variables that last, under their new names
abbrev pub new_variables : prism.File → List Var
new_variables file = map (λ p. variable (new_names file).value (has_condition file) p.0 p.1) (zip (variables file) (drop (length file.constants) (entries file)))

pub lasting_owned : (file : prism.File) → lasting (translated file) ≡ owned_by None (new_variables file)
lasting_owned file =
    let g = translated file in
    ap (λ r. filter is_lasting (owned_by None g.variables ++ r)) (owned_more file)
    ∙ ap (filter is_lasting) (append-nil (owned_by None g.variables))
    ∙ owned_filter g.variables
    ∙ ap (owned_by None) (lasting_are file ∙ ap (map (λ p. variable (new_names file).value (has_condition file) p.0 p.1)) (zip-take (variables file) (drop (length file.constants) (entries file))))

pub column_is : (file : prism.File) (i : ℕ) (z : Name) →
    column_number (translated file) i z ≡ option_map (λ k. length (element_names (translated file)) + k) (position (λ y. is_called z y.name) (new_variables file))
column_is file i z =
    ap (λ os. option_map (λ k. length (element_names (translated file)) + k) (place_of os i z)) (lasting_owned file)
    ∙ ap (option_map (λ k. length (element_names (translated file)) + k)) (place_owned i z (new_variables file))

-- ---- values behind the locations
pub get_behind : {X Y : Type 0} (f : X → Y) (xs : List X) (s : List Y) (k : ℕ) → slice_get (map f xs ++ s) (length xs + k) ≡ slice_get s k
get_behind f [] s k = let on : zero + k ≡ k = omega arith in ap (slice_get s) on
get_behind f (x ∷ xs) s k =
    let on : suc (length xs) + k ≡ suc (length xs + k) = omega arith in
    ap (slice_get (f x ∷ (map f xs ++ s))) on ∙ get_behind f xs s k

value_behind : {X : Type 0} (f : X → Value) (xs : List X) (s : Values) (p : Option ℕ) (d : Option Value) →
    jani_moment.value_in (map f xs ++ s) (option_map (λ k. length xs + k) p) d ≡ jani_moment.value_in s p d
value_behind f xs s None d = refl
value_behind f xs s (Some k) d = get_behind f xs s k

value_next : (u : Value) (s : Values) (p : Option ℕ) (d : Option Value) → jani_moment.value_in (u ∷ s) (option_map suc p) d ≡ jani_moment.value_in s p d
value_next u s None d = refl
value_next u s (Some k) d = refl

module _ (new : Name → Name) (any : Bool) (old : Name → Seen) (constants : Name → Option Value) (x z : Name) where
  value_alike : (vs : List prism.Var) (es : List Entry) (s : Values) (d : Option Value) → Agrees x z (map (λ y. y.name.name) vs) es → length s ≡ length vs → d ≡ constants x →
      jani_moment.value_in s (position (λ y. is_called z y.name) (map (λ p. variable new any p.0 p.1) (zip vs es))) d
      ≡ prism_moment.value_in (map (prism_scene.column any unchanged old) vs) s constants x
  value_alike [] es s d a l e = e
  value_alike (y ∷ vs) [] s d a l e = absurd a
  value_alike (y ∷ vs) (k ∷ es) [] d a l e = absurd cc
  value_alike (y ∷ vs) (k ∷ es) (u ∷ s) d a l e =
      ap (λ p. jani_moment.value_in (u ∷ s) p d) (position_cons (λ y. is_called z y.name) (variable new any y k) (map (λ p. variable new any p.0 p.1) (zip vs es)))
      ∙ by_test (bytes_eq k.name z) (bytes_eq y.name.name x) (position (λ y. is_called z y.name) (map (λ p. variable new any p.0 p.1) (zip vs es))) a.0
      (value_alike vs es s d a.1 (omega arith) e)
    where
      by_test : (b c : Bool) (p : Option ℕ) → b ≡ c → jani_moment.value_in s p d ≡ prism_moment.value_in (map (prism_scene.column any unchanged old) vs) s constants x →
          jani_moment.value_in (u ∷ s) (cond b (Some 0) (option_map suc p)) d
          ≡ (if c then Some u else prism_moment.value_in (map (prism_scene.column any unchanged old) vs) s constants x)
      by_test true true p h r = refl
      by_test true false p h r = absurd cc
      by_test false true p h r = absurd cc
      by_test false false p h r = value_next u s p d ∙ r

pub names_seen_alike : (file : prism.File) → NamesSeenAlike file
names_seen_alike file v w sound alike s l i x =
    let g = translated file in
    let new = (new_names file).value in
    let z = new x in
    let found = position (λ y. is_called z y.name) (new_variables file) in
    ap known
    (ap (λ p. jani_moment.value_in (state_of file s) p (jani_scene.constant g w z)) (column_is file i z)
    ∙ value_behind (λ a. at_home) (element_names g) s found (jani_scene.constant g w z)
    ∙ value_alike new (has_condition file) (prism_scene.constant_names file v unchanged) (prism_scene.constant file v) x z (variables file) (drop (length file.constants) (entries file)) s (jani_scene.constant g w z)
    (variables_agree file v w sound alike x) l (constant_same file v w sound alike x)
    ∙ ap (λ cs. prism_moment.value_in cs s (prism_scene.constant file v) x) (sym (variable_columns file v sound.written.modules)))
    ∙ ap (λ f. f x) (sym (given_reading file (λ y. known (prism_moment.value_in (prism_scene.columns_of file v) s (prism_scene.constant file v) y)) sound.written.formulas))
