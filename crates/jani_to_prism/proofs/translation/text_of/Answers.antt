use Rattle.std.proofs.Common.{◌∙◌, ap, ap₂}
use Rattle.std.proofs.lemmas.Result.{IfOk-weaker}
use Rattle.prism_print.specs.Same.{bare_file}
use Rattle.jani_tree.specs.Syntax.{File, file_of}
use Rattle.name_table.specs.PrismAsks.{NewNames}
use Rattle.prism_targets.specs.Translated.{translated_by}
use Rattle.prism_targets.specs.Lines.{lines_by}
use Rattle.prism_modules.specs.Code.{names_in, file_in}
use Rattle.jani_to_prism.specs.Translation.{IsTranslation, IsTextBy}
use Rattle.jani_to_prism.proofs.translation.text_of.Goals as goal

pub returns : goal.returns
returns c =
    let f : File = file_of c.args.file.now in
    let k : NewNames = names_in c.in_ok-names.names in
    let g : File = file_in c.in_ok-names.names in
    IfOk-weaker c.text_by.result (λ t. IsTextBy t k g) (λ t. IsTranslation t f)
    (λ t h. record {
      file_is = ap bare_file (h.text_is ∙ ap₂ (λ (n : NewNames) (x : File). translated_by n x) c.in_ok-names.ensures.names c.in_ok-names.ensures.file);
      lines_are = h.told ∙ ap₂ (λ (n : NewNames) (x : File). lines_by n x) c.in_ok-names.ensures.names c.in_ok-names.ensures.file;
    })
    c.text_by.ensures
