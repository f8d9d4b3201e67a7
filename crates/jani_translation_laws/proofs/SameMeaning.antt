-- What a file without faults is translated to means the same.
use Rattle.std.specs.Prelude.{◌≡◌, ℕ, ◌+◌, is_none, List, [], ◌∷◌, ◌++◌, map, length, Bool, true, false, Option, Some, None, IsTrue}
use Rattle.std.specs.List.{All, AllZip}
use Rattle.std.specs.Option.{option_map}
use Rattle.std.proofs.Common.{refl, sym, ap, ap₂, subst, ◌∙◌, arith}
use Rattle.std.proofs.lemmas.List.{map-append, length-map}
use Rattle.std.proofs.lemmas.List.Elements.{All-nil, All-cons}
use Rattle.frac_core.specs.Fraction.{Fraction}
use Rattle.op_trees.specs.Seen.{Seen}
use Rattle.op_trees.specs.Types.{AgreesWith}
use Rattle.op_trees.specs.declared.tree.Value.{Value}
use Rattle.process_core.specs.Process.{Model, under, SameAt, SameProcess, IsIn}
use Rattle.process_core.specs.declared.data.FaultKind.TheVariants.{ConstUndef, EmptyRange, InitOutside}
use Rattle.process_core.specs.declared.data.Mark.{Mark}
use Rattle.process_core.specs.Product.{map-map}
use Rattle.process_core.specs.Ready.{Values, Name}
use Rattle.prism_tree.specs.Syntax as prism
use Rattle.process_core.specs.Instance.{Valuation, Fault, Domain, Truths, Between, Range, Column, is_empty, is_outside, fault_of, numbered, only_if, range_from, constant_faults, range_faults, domain_faults, value_faults, column_faults, first_faults}
use Rattle.prism_flat.specs.Scene as prism_scene
use Rattle.prism_flat.specs.Process as prism_process
use Rattle.prism_names.specs.Names.{unchanged}
use Rattle.prism_names.specs.Flat.{flat, flat_constant, flat_expression}
use Rattle.prism_flat.specs.FlatLaws.{model-flat, is_written_out}
use Rattle.prism_check.proofs.CleanFile.{flat_is_checked}
use Rattle.prism_check.specs.Flattened.{IsFlat}
use Rattle.jani_tree.specs.Syntax as jani
use Rattle.op_trees.specs.Names.{bare_name}
use Rattle.jani_tree.specs.Places.{bare_const, bare_file}
use Rattle.jani_meaning.proofs.Bare.{places_mean_nothing}
use Rattle.jani_meaning.specs.Process as jani_process
use Rattle.jani_translation.specs.Asks.{new_names}
use Rattle.jani_translation.specs.Translated.{translated}
use Rattle.jani_translation.specs.SeenLaws.{GivesAlike}
use Rattle.jani_translation.specs.StateLaws.{at_home, state_of}
use Rattle.jani_translation.proofs.Differ.{names_of_constants}
use Rattle.jani_translation.proofs.Clean.{values_distinct}
use Rattle.jani_translation.proofs.SameColumns.{faults_alike}
use Rattle.jani_translation.proofs.States.{states_alike, initial_alike, states_are_these, states_differ}
use Rattle.jani_translation.proofs.Marks.{marks_alike}
use Rattle.jani_translation.proofs.WatchedSilently.{choices_watched}
use Rattle.jani_translation_laws.specs.MeaningLaws.{GivesTyped}
use Rattle.jani_translation.specs.Correspond.{GivenAlike, Correspond}
use Rattle.jani_translation_laws.specs.SameMeaning.{placed, homes, label_in, MeansTheSame, TranslationMeansTheSame}
use Rattle.jani_translation_laws.proofs.Constants.{flat_is_sound}
use Rattle.jani_translation_laws.proofs.States.{commands_are_sound, marks_are_sound, items_are_sound, condition_is_sound}
use Rattle.jani_tree.specs.Syntax.{element_names}
use Rattle.jani_tree.specs.Laws.{element_names-bare}

-- ---- faults
module _ (n : ℕ) where
  -- what may stand behind the elements, and its place there
  one_placed : (b : Bool) (f g : Fault) → placed n f ≡ g → map (placed n) (only_if b f) ≡ only_if b g
  one_placed true f g e = ap (λ x. x ∷ []) e
  one_placed false f g e = refl

  both_placed : (xs ys vs ws : List Fault) → map (placed n) xs ≡ vs → map (placed n) ys ≡ ws → map (placed n) (xs ++ ys) ≡ vs ++ ws
  both_placed xs ys vs ws e f = map-append (placed n) xs ys ∙ ap₂ (λ a b. a ++ b) e f

  constants_placed : (i : ℕ) (cs : List Seen) → map (placed n) (numbered constant_faults i cs) ≡ numbered constant_faults i cs
  constants_placed i [] = refl
  constants_placed i (c ∷ cs) =
      both_placed (constant_faults i c) (numbered constant_faults (i + 1) cs) (constant_faults i c) (numbered constant_faults (i + 1) cs)
      (one_placed (is_none c.value) (fault_of ConstUndef i) (fault_of ConstUndef i) refl) (constants_placed (i + 1) cs)

  range_placed : (i : ℕ) (r : Option Range) → map (placed n) (range_faults i r) ≡ range_faults (n + i) r
  range_placed i None = refl
  range_placed i (Some r) = one_placed (is_empty r) (fault_of EmptyRange i) (fault_of EmptyRange (n + i)) refl

  domain_placed : (i : ℕ) (d : Domain) → map (placed n) (domain_faults i d) ≡ domain_faults (n + i) d
  domain_placed i Truths = refl
  domain_placed i (Between l h) = range_placed i (range_from l h)

  value_placed : (i : ℕ) (d : Domain) (v : Option Value) → map (placed n) (value_faults i d v) ≡ value_faults (n + i) d v
  value_placed i d None = refl
  value_placed i d (Some v) = one_placed (is_outside d v) (fault_of InitOutside i) (fault_of InitOutside (n + i)) refl

  first_placed : (r : Bool) (i : ℕ) (d : Domain) (o : Option Seen) → map (placed n) (first_faults r i d o) ≡ first_faults r (n + i) d o
  first_placed true i d o = refl
  first_placed false i d None = refl
  first_placed false i d (Some s) = value_placed i d s.value

  columns_placed : (r : Bool) (i j : ℕ) (cs : List Column) → j ≡ n + i → map (placed n) (numbered (column_faults r) i cs) ≡ numbered (column_faults r) j cs
  columns_placed r i j [] e = refl
  columns_placed r i j (c ∷ cs) e =
      both_placed (column_faults r i c) (numbered (column_faults r) (i + 1) cs) (column_faults r j c) (numbered (column_faults r) (j + 1) cs)
      (both_placed (domain_faults i c.domain) (first_faults r i c.domain c.first) (domain_faults (n + i) c.domain) (first_faults r (n + i) c.domain c.first) (domain_placed i c.domain) (first_placed r i c.domain c.first)
      ∙ ap (λ k. column_faults r k c) (sym e))
      (columns_placed r (i + 1) (j + 1) cs (on i j e))
    where
      on : (i j : ℕ) → j ≡ n + i → j + 1 ≡ n + (i + 1)
      on i j e = omega (arith, e)

  none : n ≡ n + 0
  none = omega arith

-- ---- a file that is written out
module _ (file : prism.File) (flat : IsFlat file) (v w : Valuation) (gives : GivesTyped file v) (alike : GivesAlike file v w) where
  abbrev elements : ℕ
  elements = length (element_names (translated file))

  same_faults : map (placed elements) ((prism_process.model file).faults v) ≡ (jani_process.model (translated file)).faults w
  same_faults =
      let condition = (prism_scene.scene file v).has_condition in
      both_placed elements (numbered constant_faults 0 (prism_scene.scene file v).constants) (numbered (column_faults condition) 0 (prism_scene.scene file v).columns)
      (numbered constant_faults 0 (prism_scene.scene file v).constants) (numbered (column_faults condition) elements (prism_scene.scene file v).columns)
      (constants_placed elements 0 (prism_scene.scene file v).constants) (columns_placed elements condition 0 elements (prism_scene.scene file v).columns (none elements))
      ∙ sym (faults_alike file v w (flat_is_sound file flat v gives) alike)

  fault_there : (f : Fault) → IsIn f (map (placed elements) ((prism_process.model file).faults v)) → IsIn f ((jani_process.model (translated file)).faults w)
  fault_there f h = let F : List Fault → Type 0 = λ xs. IsIn f xs in subst F same_faults h

  fault_back : (f : Fault) → IsIn f ((jani_process.model (translated file)).faults w) → IsIn f (map (placed elements) ((prism_process.model file).faults v))
  fault_back f h = let F : List Fault → Type 0 = λ xs. IsIn f xs in subst F (sym same_faults) h

  state_in : (s : Values) → IsTrue ((prism_process.model file).is_state v s) → IsTrue ((jani_process.model (translated file)).is_state w (state_of file s))
  state_in s h = let F : Bool → Type 0 = λ b. IsTrue b in subst F (sym (states_alike file v w (flat_is_sound file flat v gives) alike s)) h

  same_at : SameAt (under (prism_process.model file) v) (under (jani_process.model (translated file)) w) (option_map (new_names file).action) (state_of file)
  same_at = record {
    into = state_in;
    one = λ s t a b e. states_differ file s t e;
    onto = λ u h. states_are_these file v w (flat_is_sound file flat v gives) alike u h;
    initial = λ s h. sym (initial_alike file v w (flat_is_sound file flat v gives) alike s h (condition_is_sound file flat v gives s h));
    marks = λ s h. sym (marks_alike file v w (flat_is_sound file flat v gives) alike s (marks_are_sound file flat v gives s h));
    choices = λ s h. choices_watched file v w (flat_is_sound file flat v gives) alike s (commands_are_sound file flat v gives s h) (items_are_sound file flat v gives s h);
  }

-- ---- valuations that correspond
module _ (v w : Valuation) where
  typed : (cs : List prism.Const) (xs : List Name) → AllZip (GivenAlike v w) cs xs → All (λ c. c.value ≡ None → AgreesWith (Some c.ty) (v c.name.name)) cs
  typed [] xs h = All-nil _
  typed (c ∷ cs) [] h = absurd h
  typed (c ∷ cs) (x ∷ xs) h =
      All-cons (λ c. c.value ≡ None → AgreesWith (Some c.ty) (v c.name.name)) c cs (λ e. (h.0 e).0) (typed cs xs h.1)

  alike_by : (new : Name → Name) (cs : List prism.Const) (xs : List Name) → AllZip (GivenAlike v w) cs xs → xs ≡ map (λ c. new c.name.name) cs →
      All (λ c. c.value ≡ None → w (new c.name.name) ≡ v c.name.name) cs
  alike_by new [] xs h e = All-nil _
  alike_by new (c ∷ cs) [] h e = absurd h
  alike_by new (c ∷ cs) (x ∷ xs) h e =
      let first : x ≡ new c.name.name = cc in
      let rest : xs ≡ map (λ c. new c.name.name) cs = cc in
      All-cons (λ c. c.value ≡ None → w (new c.name.name) ≡ v c.name.name) c cs (λ k. ap w (sym first) ∙ (h.0 k).1) (alike_by new cs xs h.1 rest)

  is_none-mapped : {A B : Type 0} (f : A → B) (o : Option A) → option_map f o ≡ None → o ≡ None
  is_none-mapped f None e = refl
  is_none-mapped f (Some x) e = absurd cc

  written_out : (file : prism.File) (cs : List prism.Const) (xs : List Name) → AllZip (GivenAlike v w) cs xs → AllZip (GivenAlike v w) (map (flat_constant file) cs) xs
  written_out file [] [] h = h
  written_out file [] (x ∷ xs) h = h
  written_out file (c ∷ cs) [] h = absurd h
  written_out file (c ∷ cs) (x ∷ xs) h = (λ e. h.0 (is_none-mapped (flat_expression file unchanged) c.value e), written_out file cs xs h.1)

-- a file that is written out, and its translation
flat_means_the_same : (file : prism.File) → IsFlat file →
    SameProcess (prism_process.model file) (jani_process.model (translated file)) (Correspond file (translated file)) (placed (length (element_names (translated file))))
    (option_map (new_names file).action) (state_of file)
flat_means_the_same file flat = record {
  faults = λ v w c f. (fault_there file flat v w (gives v w c) (alike v w c) f, fault_back file flat v w (gives v w c) (alike v w c) f);
  process = λ v w c e. same_at file flat v w (gives v w c) (alike v w c);
}
  where
    gives : (v w : Valuation) → Correspond file (translated file) v w → GivesTyped file v
    gives v w c = typed v w file.constants (map (λ d. d.name.name) (translated file).constants) c

    alike : (v w : Valuation) → Correspond file (translated file) v w → GivesAlike file v w
    alike v w c =
        alike_by v w (new_names file).value file.constants (map (λ d. d.name.name) (translated file).constants) c (names_of_constants file (values_distinct file flat))

-- ---- any file without faults
module _ (old : prism.File) where
  -- the statement of a model whose constants have these names, and whose locations begin its states
  abbrev Means : Model Valuation Fault Name Fraction Mark Values → List Name → ℕ → Values → Type 0
  Means q names n at_homes =
      SameProcess (prism_process.model old) q (λ v w. AllZip (GivenAlike v w) old.constants names) (placed n) (label_in old) (λ s. at_homes ++ s)

  from_flat : IsFlat (flat old) → MeansTheSame old (translated (flat old))
  from_flat h =
      let s = flat_means_the_same (flat old) h in
      let P : Model Valuation Fault Name Fraction Mark Values → Type 0 =
      λ p. SameProcess p (jani_process.model (translated (flat old))) (Correspond old (translated (flat old))) (placed (length (element_names (translated (flat old))))) (label_in old)
      (λ s. homes (translated (flat old)) ++ s) in
      subst P (model-flat old) (record {
        faults = λ v w c. s.faults v w (written_out v w old old.constants (map (λ d. d.name.name) (translated (flat old)).constants) c);
        process = λ v w c. s.process v w (written_out v w old old.constants (map (λ d. d.name.name) (translated (flat old)).constants) c);
      })

  names-bare : (f : jani.File) → map (λ d. d.name.name) (bare_file f).constants ≡ map (λ d. d.name.name) f.constants
  names-bare f = map-map (λ d. d.name.name) bare_const f.constants

  homes-bare : (f : jani.File) → homes (bare_file f) ≡ homes f
  homes-bare f = ap (map (λ a. at_home)) (element_names-bare f) ∙ map-map (λ a. at_home) bare_name (element_names f)

  count-bare : (f : jani.File) → length (element_names (bare_file f)) ≡ length (element_names f)
  count-bare f = ap length (element_names-bare f) ∙ length-map (element_names f) bare_name

  -- files that are the same but for their places
  pub moved : (f g : jani.File) → bare_file f ≡ bare_file g → MeansTheSame old f → MeansTheSame old g
  moved f g e h =
      let names = sym (names-bare f) ∙ ap (λ x. map (λ d. d.name.name) x.constants) e ∙ names-bare g in
      let count = sym (count-bare f) ∙ ap (λ x. length (element_names x)) e ∙ count-bare g in
      let at_homes = sym (homes-bare f) ∙ ap homes e ∙ homes-bare g in
      subst (λ q. Means q (map (λ d. d.name.name) g.constants) (length (element_names g)) (homes g)) (places_mean_nothing f g e)
      (subst (λ x. Means (jani_process.model f) x (length (element_names g)) (homes g)) names
      (subst (λ n. Means (jani_process.model f) (map (λ d. d.name.name) f.constants) n (homes g)) count
      (subst (Means (jani_process.model f) (map (λ d. d.name.name) f.constants) (length (element_names f))) at_homes h)))

pub translation_means_the_same : TranslationMeansTheSame
translation_means_the_same c h new e =
    moved c.file (translated (flat c.file)) new (sym e) (from_flat c.file (record { checked = flat_is_checked c h; form = is_written_out c.file }))
