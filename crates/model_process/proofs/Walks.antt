-- How a walk ends on a model, and on the bytes of its file.
use Rattle.std.proofs.Common.{◌≡◌, refl, subst, List, ℕ}
use Rattle.std.specs.Prelude.{Result, Ok, Err, IfOk}
use Rattle.process_core.specs.Steps.{Process}
use Rattle.instance_start.specs.Description.{Description}
use Rattle.walk_texts.specs.declared.report.Report.{Report}
use Rattle.command_words.specs.Words.{Walking}
use Rattle.command_words.specs.declared.request.Lang.TheVariants.{Prism, Jani}
use Rattle.prism_tree.specs.Syntax as prism
use Rattle.jani_tree.specs.Syntax as jani
use Rattle.model_files.specs.PrismFile.{IsFaultless}
use Rattle.model_files.specs.JaniFile.{IsFaultlessJani}
use Rattle.prism_instance.specs.Described.{prism_description}
use Rattle.jani_instance.specs.Described.{jani_description}
use Rattle.model_process.specs.Starts.{IsStartable, process_for}
use Rattle.model_process.specs.Walks.{EndsOnModel, EndsOnBytes, IsReport, ending_of, shown}
use Rattle.model_process.specs.declared.ending.Ending.{Ending}

-- ---- what is shown of a process that is started
pub if_shown : {E : Type 0} (d : Description) (w : Walking) (p : Process) (r : Result Ending E) → IsStartable d w.given × (p ≡ process_for d w.given) →
    IfOk r (λ e. (report : Report) × IsReport p w.job report × (e ≡ ending_of w.job report)) → IfOk r (EndsOnModel d w)
if_shown d w p (Ok e) h s = shown h.0 s.0 (subst (λ q. IsReport q w.job s.0) h.1 s.1) s.2
if_shown d w p (Err x) h s = tt

-- ---- from a model to the bytes of its file
pub of_prism : (w : Walking) (bytes : List ℕ) (flat tree : prism.File) → IsFaultless bytes tree → prism_description flat ≡ prism_description tree → (e : Ending) →
    EndsOnModel (prism_description flat) w e → EndsOnBytes Prism w bytes e
of_prism w bytes flat tree ok same e h = (prism_description tree, (tree, ok, refl), subst (λ d. EndsOnModel d w e) same h)

pub of_jani : (w : Walking) (bytes : List ℕ) (tree : jani.File) → IsFaultlessJani bytes tree → (e : Ending) → EndsOnModel (jani_description tree) w e → EndsOnBytes Jani w bytes e
of_jani w bytes tree ok e h = (jani_description tree, (tree, ok, refl), h)
