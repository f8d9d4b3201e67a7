-- What is written for files is fixed by their bytes, and so is the fault at which they are refused.
use Rattle.std.specs.Prelude.{◌≡◌, ℕ, List, [], ◌∷◌, ◌++◌, map}
use Rattle.std.proofs.Common.{sym, ap, ap₂, subst, ◌∙◌}
use Rattle.bridge_io.specs.declared.reason.Fault.{Fault}
use Rattle.name_rules.specs.Least.{IsLeast}
use Rattle.name_rules.proofs.Plain.{no_least}
use Rattle.prism_names.specs.Flat.{flat}
use Rattle.jani_table.specs.Node.{Node}
use Rattle.jani_tree.specs.Syntax as jani
use Rattle.jani_tree.specs.Places.{bare_file, bare_node}
use Rattle.jani_tree.specs.Text.{jani_text}
use Rattle.prop_trees.specs.JaniText.{AreProperties}
use Rattle.prop_trees.specs.PrismFaults.{filed}
use Rattle.prop_trees.specs.Text.{properties_text}
use Rattle.prop_trees.specs.Trees.{PrismProperty}
use Rattle.prop_check.specs.Read.{FaultsOf}
use Rattle.prop_check.specs.Laws.{OneListOfFaults}
use Rattle.jani_props.specs.Faults.{name_faults, structures, type_faults}
use Rattle.jani_props.specs.Reading.{IsFirst, of_names, of_shape, of_types}
use Rattle.jani_props.proofs.Only.{one_written}
use Rattle.prop_to_jani.specs.ReadBack.{with_properties}
use Rattle.prop_to_jani.specs.ToJani.{to_jani_node}
use Rattle.jani_translation.specs.Translated.{translated}
use Rattle.prop_to_prism.specs.ToPrism.{reward_names, to_prism}
use Rattle.model_files.proofs.Once.{faulty_or_jani, one_jani_fault, one_jani_tree, one_least, one_prism_tree}
use Rattle.model_translation.specs.JaniProperties.{of_file, of_properties}
use Rattle.model_translation.specs.Once.{OnePropertiesFault, OnePropertiesRefused, OnePropertiesText, OneTranslation, OneTranslationWith}
use Rattle.model_translation.proofs.JaniTexts.{one_jani_text}

-- ---- texts
one_text : (m n : jani.File) (text other : List ℕ) → text ≡ jani_text m ++ 10 ∷ [] → other ≡ jani_text n ++ 10 ∷ [] → bare_file m ≡ bare_file n → text ≡ other
one_text m n text other e f same = e ∙ ap (λ t. t ++ 10 ∷ []) (one_jani_text m n same) ∙ sym f

pub one_translation : OneTranslation
one_translation bytes text other (t, m, h) (u, n, k) =
    one_text m n text other h.written.text_is k.written.text_is
    (h.written.translated.shape ∙ ap (λ x. bare_file (translated (flat x))) (one_prism_tree bytes t u h.faultless k.faultless) ∙ sym k.written.translated.shape)

pub one_translation_with : OneTranslationWith
one_translation_with model properties text other (c, ps, h) (d, qs, k) =
    let trees : c.file ≡ d.file = one_prism_tree model c.file d.file h.faultless k.faultless in
    let spelled : h.read.written ≡ k.read.written = k.read.spelled.only h.read.written h.read.spelled.spells in
    let props : ps ≡ qs = h.read.are ∙ ap₂ (λ x w. map (filed x) w) trees spelled ∙ sym k.read.are in
    let models : bare_file h.jani ≡ bare_file k.jani = h.written.translated.shape ∙ ap (λ x. bare_file (translated (flat x))) trees ∙ sym k.written.translated.shape in
    let values : bare_node h.value ≡ bare_node k.value =
    h.written.properties.same ∙ ap₂ (λ x (p : List PrismProperty). bare_node (to_jani_node x p)) trees props ∙ sym k.written.properties.same in
    one_text (with_properties h.jani h.value) (with_properties k.jani k.value) text other h.written.written.text_is k.written.written.text_is
    (ap₂ (λ (m : jani.File) (v : Node). with_properties m v) models values)

pub one_properties_text : OnePropertiesText
one_properties_text bytes text other (t, ps, h) (u, qs, k) =
    let trees : t ≡ u = one_jani_tree bytes t u h.holds.faultless k.holds.faultless in
    let props : ps ≡ qs = k.holds.read.only ps (subst (λ x. AreProperties (structures x) x.properties ps) trees h.holds.read.spelled) in
    h.written.same ∙ ap₂ (λ x p. properties_text (reward_names x) (to_prism x p)) trees props ∙ sym k.written.same

-- ---- faults
pub one_properties_fault : OneListOfFaults → OnePropertiesFault
one_properties_fault one model properties f g (t, r, h) (u, s, k) =
    let lists : k.all ≡ h.all = one properties t k.all h.all (subst (λ x. FaultsOf properties x k.all) (one_prism_tree model u t s r) k.are) h.are in
    one_least h.all f g h.least (subst (λ fs. IsLeast fs g) lists k.least)

one_first : (file : jani.File) (f g : Fault) → IsFirst file f → IsFirst file g → f ≡ g
one_first file f g (of_shape l) (of_shape m) = one_least _ f g l m
one_first file f g (of_shape l) (of_names qs s w m) = absurd (no_least _ f s l)
one_first file f g (of_shape l) (of_types qs s w n m) = absurd (no_least _ f s l)
one_first file f g (of_names ps r v l) (of_shape m) = absurd (no_least _ g r m)
one_first file f g (of_names ps r v l) (of_names qs s w m) = one_least _ f g l (subst (λ x. IsLeast (name_faults file x) g) (one_written file.properties qs ps w v) m)
one_first file f g (of_names ps r v l) (of_types qs s w n m) =
    absurd (no_least _ f (subst (λ x. name_faults file x ≡ []) (one_written file.properties qs ps w v) n) l)
one_first file f g (of_types ps r v n l) (of_shape m) = absurd (no_least _ g r m)
one_first file f g (of_types ps r v n l) (of_names qs s w m) =
    absurd (no_least _ g (subst (λ x. name_faults file x ≡ []) (one_written file.properties ps qs v w) n) m)
one_first file f g (of_types ps r v n l) (of_types qs s w o m) =
    one_least _ f g l (subst (λ x. IsLeast (type_faults file x) g) (one_written file.properties qs ps w v) m)

pub one_properties_refused : OnePropertiesRefused
one_properties_refused bytes f g (of_file h) (of_file k) = one_jani_fault bytes f g h k
one_properties_refused bytes f g (of_file h) (of_properties t r l) = absurd (faulty_or_jani bytes f t h r)
one_properties_refused bytes f g (of_properties t r l) (of_file k) = absurd (faulty_or_jani bytes g t k r)
one_properties_refused bytes f g (of_properties t r l) (of_properties u s m) = one_first t f g l (subst (λ x. IsFirst x g) (one_jani_tree bytes u t s r) m)
