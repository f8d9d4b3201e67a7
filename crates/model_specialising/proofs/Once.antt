-- How specialising a model ends is fixed by the bytes of its file and the words.
use Rattle.std.specs.Prelude.{◌≡◌, ℕ, ◌+◌, List, [], ◌∷◌, ◌++◌}
use Rattle.std.proofs.Common.{sym, ap, subst, ◌∙◌}
use Rattle.std.proofs.lemmas.Option.{same_Some}
use Rattle.bridge_io.specs.declared.reason.Fault.{Fault}
use Rattle.process_core.specs.Instance.{Valuation}
use Rattle.instance_start.specs.Description.{Constant}
use Rattle.prism_tree.specs.Syntax as prism
use Rattle.jani_tree.specs.Syntax as jani
use Rattle.jani_tree.specs.Text.{jani_text}
use Rattle.command_words.specs.declared.request.Lang.{Lang}
use Rattle.command_words.specs.declared.request.Lang.TheVariants.{Prism, Jani}
use Rattle.command_words.specs.Given.{Assignment}
use Rattle.model_files.proofs.Once.{faulty_or_jani, faulty_or_prism, one_jani_tree, one_prism_tree}
use Rattle.model_process.specs.Models.{IsModelFault}
use Rattle.model_process.specs.declared.ending.Ending.{Ending}
use Rattle.model_process.specs.declared.ending.Ending.TheVariants.{Done, Word}
use Rattle.model_specialising.specs.Specialised.{SpecialisesPrism, SpecialisesJani}
use Rattle.model_specialising.specs.Ends.{EndsSpecialised, unfit, done, EndsOnPrism, EndsOnJani, EndsIn}
use Rattle.model_specialising.specs.Once.{OneSpecialiseEnd, SpecialiseEndOrFault}
use Rattle.model_specialising.proofs.PrismTexts.{one_prism_text}

-- ---- texts
one_prism : (tree : prism.File) (given : Valuation) (t u : List ℕ) → SpecialisesPrism tree given t → SpecialisesPrism tree given u → t ≡ u
one_prism tree given t u (f, h) (g, k) = h.text_is ∙ one_prism_text f g (h.shape ∙ sym k.shape) ∙ sym k.text_is

one_jani : (tree : jani.File) (given : Valuation) (t u : List ℕ) → SpecialisesJani tree given t → SpecialisesJani tree given u → t ≡ u
one_jani tree given t u (f, h) (g, k) = h.text_is ∙ ap (λ x. jani_text x ++ 10 ∷ []) (h.shape ∙ sym k.shape) ∙ sym k.text_is

-- ---- ends
module _ (cs : List Constant) (given : List Assignment) (IsWritten : List ℕ → Type 0) (one : (t u : List ℕ) → IsWritten t → IsWritten u → t ≡ u) where
  one_of : (e g : Ending) → EndsSpecialised cs given IsWritten e → EndsSpecialised cs given IsWritten g → e ≡ g
  one_of e g (unfit i w p) (unfit j v q) = p ∙ ap (λ n. Word (3 + 1 + n)) (same_Some i j (sym w ∙ v)) ∙ sym q
  one_of e g (unfit i w p) (done n u s q) = absurd (let x = sym n ∙ w in cc)
  one_of e g (done n t r p) (unfit j v q) = absurd (let x = sym n ∙ v in cc)
  one_of e g (done n t r p) (done m u s q) = p ∙ ap Done (one t u r s) ∙ sym q

one_in : (lang : Lang) (given : List Assignment) (bytes : List ℕ) (e g : Ending) → EndsIn lang given bytes e → EndsIn lang given bytes g → e ≡ g
one_in Prism given bytes e g (t, h, x) (u, k, y) = one_of _ _ _ (one_prism t _) e g x (subst (λ z. EndsOnPrism z given g) (one_prism_tree bytes u t k h) y)
one_in Jani given bytes e g (t, h, x) (u, k, y) = one_of _ _ _ (one_jani t _) e g x (subst (λ z. EndsOnJani z given g) (one_jani_tree bytes u t k h) y)

pub one_specialise_end : OneSpecialiseEnd
one_specialise_end p bytes e g h k = one_in p.lang p.given bytes e g h k

-- ---- and no fault
end_or_fault_in : (lang : Lang) (given : List Assignment) (bytes : List ℕ) (e : Ending) (f : Fault) → EndsIn lang given bytes e → IsModelFault lang bytes f → ⊥
end_or_fault_in Prism given bytes e f (t, h, x) k = faulty_or_prism bytes f t k h
end_or_fault_in Jani given bytes e f (t, h, x) k = faulty_or_jani bytes f t k h

pub specialise_end_or_fault : SpecialiseEndOrFault
specialise_end_or_fault p bytes e f h k = end_or_fault_in p.lang p.given bytes e f h k
