-- What is written for a JANI file.
use Rattle.std.specs.Prelude.{◌≡◌, ℕ, List, [], ◌++◌, Result, Ok, Err, IfOk, IfErr}
use Rattle.std.proofs.Common.{sym, ap, subst, ◌∙◌}
use Rattle.bridge_io.specs.declared.reason.Refused.{Refused}
use Rattle.bridge_io.specs.declared.reason.Refused.TheVariants.{Memory, At}
use Rattle.prism_tree.specs.Syntax as prism
use Rattle.prism_parse.specs.Laws.{OneTree}
use Rattle.prism_print.specs.Text.{file_text}
use Rattle.prism_print.specs.Same.{bare_file, SpellsFile}
use Rattle.prism_print.specs.Comments.{lines_text, CommentedSpells}
use Rattle.jani_tree.specs.Syntax as jani
use Rattle.jani_tree.specs.Faults.{FailsFor}
use Rattle.jani_to_prism.specs.Lines.{lines}
use Rattle.jani_to_prism.specs.Refused.{refused}
use Rattle.jani_to_prism.specs.NameLaws.{LinesAreComments}
use Rattle.jani_to_prism.specs.Promise.{IsPrismOf, PlacesAside}
use Rattle.command_words.specs.declared.request.Task.TheVariants.{ToPrism}
use Rattle.model_files.specs.JaniFile.{IsFaultlessJani, RefusesJani}
use Rattle.model_command.specs.Tasks.{Judged}
use Rattle.model_command.specs.ToPrism.{IsPrismText, of_file, of_result}

-- the text of a translation
pub written : (tree : jani.File) (model : prism.File) (text : List ℕ) → PlacesAside → CommentedSpells → OneTree → LinesAreComments tree → IsPrismOf tree model →
    text ≡ lines_text (lines tree) ++ file_text model → IsPrismText tree text model
written tree model text aside behind one comments h e =
    let spelled : SpellsFile text model = subst (λ t. SpellsFile t model) (sym e) (behind (lines tree) model comments h.clean.printable) in
    record {
      text_is = e;
      spells = spelled;
      translated = h;
      only = λ other s.
          let same : bare_file other ≡ bare_file model = ap bare_file (one text other spelled.0 s spelled.1) ∙ spelled.2 in
          (same, aside tree model other (sym same) h);
    }

-- what a judged file's text, or the fault of its translation, is of the bytes
pub judged : (bytes : List ℕ) (tree : jani.File) → IsFaultlessJani bytes tree → (r : Result (List ℕ) Refused) →
    IfOk r (λ text. (refused tree ≡ []) × ((model : prism.File) × IsPrismText tree text model)) → IfErr r (FailsFor (refused tree)) → Judged ToPrism bytes r
judged bytes tree read (Ok text) ok err = (tree, ok.1.0, record { translatable = record { faultless = read; accepted = ok.0 }; written = ok.1.1 })
judged bytes tree read (Err (Memory e)) ok err = tt
judged bytes tree read (Err (At f)) ok err = of_result tree read err

pub refuses : (bytes : List ℕ) (r : Refused) → RefusesJani bytes r → Judged ToPrism bytes (Err r)
refuses bytes (Memory e) h = tt
refuses bytes (At f) h = of_file h
