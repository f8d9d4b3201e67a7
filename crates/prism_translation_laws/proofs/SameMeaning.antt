-- A file without faults means the same as what it is translated to.
use Rattle.std.specs.Prelude.{◌≡◌, ℕ, zero, suc, List, [], ◌∷◌, map, Option, Some, None, slice_get}
use Rattle.std.specs.List.{AllZip, zip}
use Rattle.std.specs.Option.{option_map}
use Rattle.std.proofs.Common.{refl, sym, ap, subst, ◌∙◌}
use Rattle.std.proofs.lemmas.Option.{same_Some}
use Rattle.frac_core.specs.Fraction.{Fraction}
use Rattle.process_core.specs.Process.{Model, SameProcess}
use Rattle.process_core.specs.Ready.{Values, Name}
use Rattle.process_core.specs.declared.data.Mark.{Mark}
use Rattle.prism_tree.specs.Syntax as prism
use Rattle.process_core.specs.Instance.{Valuation, Fault}
use Rattle.prism_print.specs.Same.{bare_const, bare_file}
use Rattle.jani_tree.specs.Syntax.{Const, File}
use Rattle.jani_check.specs.Faults.{IsChecked}
use Rattle.jani_meaning.specs.Process as jani_process
use Rattle.prism_translation.specs.Entry.{Entry}
use Rattle.prism_translation.specs.Correspond.{GivenAlike, Correspond}
use Rattle.prism_translation.specs.PrismAsks.{name_at}
use Rattle.prism_translation.specs.Names.{new_names}
use Rattle.prism_translation.specs.Parts.{constant}
use Rattle.prism_translation.specs.SameMeaning as translation
use Rattle.prism_translation.specs.SameMeaning.{placed}
use Rattle.prism_translation.specs.Sound.{GivesAlike}
use Rattle.prism_translation.specs.StateLaws.{state_of, old_label}
use Rattle.prism_translation.specs.Translated.{translated}
use Rattle.prism_translation.proofs.Clean.{has_element}
use Rattle.prism_translation_laws.specs.SameMeaning.{CheckedIsSound, CorrespondingAreAlike, MeansTheSame, TranslationMeansTheSame, MeaningStays}
use Rattle.prism_translation_laws.proofs.KnownValues.{begins_sound, constants_named, constants_sound, kinds_sound, restrict_sound, starts_sound, edges_sound}
use Rattle.prism_translation_laws.proofs.Marks.{marks_are_sound}
use Rattle.prism_translation_laws.proofs.Pays.{assigned_once, edges_pay_alike}
use Rattle.prism_translation_laws.proofs.Writers.{vectors_have_parts, one_writer_each_vector}

pub file_is_sound : CheckedIsSound
file_is_sound file c = record {
  named = constants_named file c;
  some_element = has_element file c;
  constants = constants_sound file c;
  kinds = kinds_sound file c;
  starts = starts_sound file c;
  restrict = restrict_sound file c;
  begins = begins_sound file c;
  edges = edges_sound file c;
  vectors = vectors_have_parts file c;
  one_writer = one_writer_each_vector file c;
  once = assigned_once file c;
}

-- ---- valuations that correspond
module _ (file : File) (v w : Valuation) where
  given_at : (cs : List Const) (es : List Entry) → AllZip (GivenAlike v w) (map (λ p. constant file (new_names file) p.0 p.1.name) (zip cs es)) (map (λ d. d.name.name) cs) →
      (i : ℕ) (c : Const) → slice_get cs i ≡ Some c → c.value ≡ None → v (name_at es i) ≡ w c.name.name
  given_at [] es h i c e n = absurd cc
  given_at (d ∷ cs) [] h i c e n = absurd h
  given_at (d ∷ cs) (x ∷ es) h zero c e n =
      let same = same_Some d c e in
      sym (h.0 (ap (option_map _) (ap (λ (k : Const). k.value) same ∙ n))).1 ∙ ap (λ (k : Const). w k.name.name) same
  given_at (d ∷ cs) (x ∷ es) h (suc i) c e n = given_at cs es h.1 i c e n

  gives_alike : Correspond (translated file) file v w → GivesAlike file v w
  gives_alike h = given_at file.constants (new_names file).constants h

pub corresponding_are_alike : CorrespondingAreAlike
corresponding_are_alike file c v w h = record { gives = gives_alike file v w h; pays = λ u is. edges_pay_alike file c w u }

-- ---- the same process
-- by what is proved of files that meet what is asked
module _ (meant : (file : File) → translation.SoundMeansTheSame file) where
  as_translated : (file : File) → IsChecked file → MeansTheSame file (translated file)
  as_translated file c =
      let same = meant file (file_is_sound file c) (marks_are_sound file c) in
      record {
        faults = λ v w h f. same.faults v w (corresponding_are_alike file c v w h) f;
        process = λ v w h none. same.process v w (corresponding_are_alike file c v w h) none;
      }

  pub translation_means_the_same : TranslationMeansTheSame
  translation_means_the_same file c new e = subst (MeansTheSame file) (sym e) (as_translated file c)

-- ---- places aside
module _ (v w : Valuation) where
  is_none-mapped : {A B : Type 0} (f : A → B) (o : Option A) → option_map f o ≡ None → o ≡ None
  is_none-mapped f None e = refl
  is_none-mapped f (Some x) e = absurd cc

  to_bare : (cs : List prism.Const) (xs : List Name) → AllZip (GivenAlike v w) cs xs → AllZip (GivenAlike v w) (map bare_const cs) xs
  to_bare [] [] h = h
  to_bare [] (x ∷ xs) h = h
  to_bare (c ∷ cs) [] h = h
  to_bare (c ∷ cs) (x ∷ xs) h = ((λ e. h.0 (is_none-mapped _ c.value e)), to_bare cs xs h.1)

  from_bare : (cs : List prism.Const) (xs : List Name) → AllZip (GivenAlike v w) (map bare_const cs) xs → AllZip (GivenAlike v w) cs xs
  from_bare [] [] h = h
  from_bare [] (x ∷ xs) h = h
  from_bare (c ∷ cs) [] h = h
  from_bare (c ∷ cs) (x ∷ xs) h = ((λ e. h.0 (ap (option_map _) e)), from_bare cs xs h.1)

  moved : (old : File) (f g : prism.File) → bare_file f ≡ bare_file g → Correspond g old v w → Correspond f old v w
  moved old f g e h =
      let names = map (λ (d : Const). d.name.name) old.constants in
      from_bare f.constants names (subst (λ cs. AllZip (GivenAlike v w) cs names) (ap (λ (x : prism.File). x.constants) (sym e)) (to_bare g.constants names h))

pub meaning_stays : MeaningStays
meaning_stays old new other e m same =
    let P : Model Valuation Fault Name Fraction Mark Values → Type 0 =
    λ p. SameProcess p (jani_process.model old) (Correspond other old) (placed old) (old_label old) (state_of old) in
    subst P m (record {
      faults = λ v w h f. same.faults v w (moved v w old new other e h) f;
      process = λ v w h none. same.process v w (moved v w old new other e h) none;
    })
