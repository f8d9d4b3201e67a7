-- What is written for a PRISM file with its properties.
use Rattle.std.specs.Prelude.{◌≡◌, ◌<◌, ◌^◌, ℕ, List, ◌++◌, length}
use Rattle.std.proofs.Common.{sym, ap, subst, ◌∙◌, arith, length-append}
use Rattle.std.proofs.lemmas.List.{length-map}
use Rattle.basics.specs.Each.{any_map, each_join, each_map}
use Rattle.basics.specs.Options.{IfAny}
use Rattle.prism_tree.specs.Syntax.{File}
use Rattle.prism_names.specs.Flat.{flat}
use Rattle.prism_check.specs.Checked as prism
use Rattle.prism_check.specs.Checked.{Checked}
use Rattle.jani_table.specs.Node.{Node}
use Rattle.jani_tree.specs.Syntax as jani
use Rattle.jani_tree.specs.Form.{FileShort, KeysOnce, NormalNode}
use Rattle.jani_tree.specs.Places.{bare_node}
use Rattle.jani_check.specs.Faults.{IsChecked}
use Rattle.jani_check.proofs.Profiled.{places_aside}
use Rattle.prism_to_jani.specs.Promise.{IsJaniOf}
use Rattle.prop_trees.specs.Trees.{PrismProperty}
use Rattle.prop_to_jani.specs.Laws as properties
use Rattle.prop_trees.specs.PrismFaults.{filed}
use Rattle.prop_check.specs.Read.{AreProperties}
use Rattle.name_table.specs.declared.class.NameClass.TheVariants.{Property as OfProperty}
use Rattle.name_table.specs.Asks.{asks}
use Rattle.name_table.specs.Entries.{Ask}
use Rattle.prop_to_jani.specs.ToJani.{property_asks}
use Rattle.prop_to_jani.specs.ReadBack.{with_properties, AreShort}
use Rattle.short_names.specs.ShortNames.{HasShortNames, IsShort, ShortNamed}
use Rattle.short_names.specs.Laws.{HasShortTitle, PropertyNamesAreShort}
use Rattle.short_names.specs.TranslationLaws.{AsksAreFew, FlatNamesAreShort, IsHeld, TranslatedNamesAreShort}
use Rattle.model_translation.specs.Translation.{IsText}
use Rattle.model_translation.specs.WithProperties.{HaveShortNames, IsWrittenWith}

-- a file has no fault of its own whatever its properties are
pub checked_with : (f : jani.File) (v : Node) → IsChecked f → NormalNode v → KeysOnce v → IsChecked (with_properties f v)
checked_with f v h normal once = record {
  clean = h.clean;
  form = record {
    actions = h.form.actions;
    constants = h.form.constants;
    variables = h.form.variables;
    restrict = h.form.restrict;
    automata = h.form.automata;
    elements = h.form.elements;
    vectors = h.form.vectors;
    properties = normal;
  };
  once = once;
}

-- the text of the translated file with the value of the translated properties
pub is_written_with : (c : Checked) (ps : List PrismProperty) (text : List ℕ) (model : jani.File) (value : Node) → IsJaniOf c.file model → properties.IsTranslated c ps value →
    IsText text (with_properties model value) → AreShort (asks (flat c.file) ++ property_asks ps) → IsWrittenWith c ps text model value
is_written_with c ps text model value m p t short = record {
  written = t;
  translated = m;
  properties = p;
  same = m.same;
  read = λ other s.
      let same = t.spells.only other s in
      let back = p.read other (places_aside (with_properties model value) other (sym same) (checked_with model value m.clean p.normal p.once))
      (same ∙ ap (λ f. with_properties f (bare_node value)) m.shape) in
      record { back = back; shaped = back.short short; read = back.read (back.short short) };
}

-- ---- names
-- those of properties that are read
pub short_titles : PropertyNamesAreShort → (bytes : List ℕ) (file : File) (ps : List PrismProperty) → AreProperties bytes file ps → HaveShortNames ps
short_titles law bytes file ps h =
    subst HaveShortNames (sym h.are)
    (each_map HasShortTitle (λ p. IfAny IsShort p.name) (filed file) (λ w k. any_map ShortNamed IsShort (λ n. n.name) (λ n s. s) w.name k) h.written
    (law bytes h.written h.spelled.clean h.spelled.spells))

-- no more lists are counted with the properties than without
model_held : (model : jani.File) (value : Node) → IsHeld (with_properties model value) → IsHeld model
model_held model value h = record { actions = h.actions; constants = h.constants; variables = h.variables; automata = h.automata }

-- what the file and so many properties ask for
pub short_asks : FlatNamesAreShort → AsksAreFew → (c : Checked) → HasShortNames c.file → (ps : List PrismProperty) → HaveShortNames ps → length ps < 2 ^ 64 → (full model : jani.File) (value : Node) →
    full ≡ with_properties model value → IsJaniOf c.file model → IsHeld full → AreShort (asks (flat c.file) ++ property_asks ps)
short_asks names few c short ps titles many full model value same m held =
    let n = few (flat c.file) model m.shape (model_held model value (subst IsHeld same held)) in
    let l = length-append (asks (flat c.file)) (property_asks ps) in
    let asked : PrismProperty → Ask = λ p. (OfProperty, p.name) in
    let k : length (property_asks ps) ≡ length ps = length-map ps asked in
    record {
      few = omega (arith, n, l, k, many);
      names =
          each_join (λ a. IfAny IsShort a.1) (asks (flat c.file)) (property_asks ps) (names c.file short)
          (each_map (λ p. IfAny IsShort p.name) (λ a. IfAny IsShort a.1) asked (λ p h. h) ps titles);
    }

-- the names of the translated file are short, as those of the PRISM file are, whatever the value of its properties is
pub short_with : TranslatedNamesAreShort → (c : Checked) → prism.IsChecked c → HasShortNames c.file → (full model : jani.File) (value : Node) → full ≡ with_properties model value →
    IsJaniOf c.file model → NormalNode value → IsHeld full → FileShort full
short_with law c checked names full model value same m normal held =
    let short : FileShort model = law c checked names model m.shape (model_held model value (subst IsHeld same held)) in
    let all : FileShort (with_properties model value) = record {
      actions = short.actions;
      constants = short.constants;
      variables = short.variables;
      restrict = short.restrict;
      automata = short.automata;
      elements = short.elements;
      vectors = short.vectors;
      properties = normal;
    } in
    subst FileShort (sym same) all
