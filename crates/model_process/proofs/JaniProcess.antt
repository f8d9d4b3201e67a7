-- The process that a JANI file without fault describes keeps the laws of processes, and has walks that are read back.
use Rattle.std.proofs.Common.{◌≡◌, ℕ, zero, suc, ◌+◌, List, map, length, Option, Some, None, Ok, true, codes, decimal, refl, arith}
use Rattle.std.specs.List.{AllByRecursion as Each}
use Rattle.std.specs.Option.{option_map}
use Rattle.std.specs.Str.{is_utf8}
use Rattle.basics.specs.Each.{each_join, each_map, each_with}
use Rattle.basics.specs.Options.{IfAny}
use Rattle.bridge_io.specs.declared.reason.Named.{Named}
use Rattle.decimal_json.proofs.Once.{reads_once}
use Rattle.jani_tree.specs.Node.{node}
use Rattle.jani_tree.specs.Syntax.{File, element_names}
use Rattle.jani_tree.specs.Form.{FileShort, IsShortName, NameForm, VectorRead}
use Rattle.jani_tree.proofs.Formed.{file_once}
use Rattle.jani_tree.proofs.Once.{once_node}
use Rattle.jani_tree.proofs.Wider.{short_is_read}
use Rattle.jani_check.specs.Faults.{IsChecked}
use Rattle.jani_meaning.specs.Elements.{lasting}
use Rattle.jani_meaning.specs.Scene.{columns_of}
use Rattle.jani_meaning.specs.Moment.{moment, vector_of}
use Rattle.jani_meaning.specs.Process.{choices, no_reward}
use Rattle.process_core.specs.Instance.{Valuation}
use Rattle.process_core.specs.Ready.{Values}
use Rattle.process_core.specs.Steps.{IsProcess}
use Rattle.process_texts.specs.Texts.{header_text}
use Rattle.instance_start.specs.Given.{given_by}
use Rattle.jani_instance.specs.Described.{column_texts, jani_description, texts_from}
use Rattle.jani_instance.specs.Lawful.{described_is}
use Rattle.jani_instance.proofs.Typed.{begin_right}
use Rattle.short_names.specs.Laws.{HasTextLabel, JaniLabelsAreTexts, JaniNamesAreShort}
use Rattle.command_words.specs.Given.{Assignment}
use Rattle.model_files.specs.JaniFile.{IsFaultlessJani}
use Rattle.model_process.specs.Constants.{givens}
use Rattle.model_process.specs.Starts.{IsStartable, process_for}
use Rattle.model_process.proofs.ChoiceLabels.{elements_labelled}
use Rattle.model_process.proofs.ColumnTexts.{decimal_no_feed, names_no_feed}
use Rattle.model_process.proofs.Constants.{none_wrong}
use Rattle.model_process.proofs.ReadNames.{IsReadName}
use Rattle.model_process.proofs.ReadableProcess.{IsReadableProcess, states_whole}
use Rattle.process_texts.proofs.StateTexts.{Lacks, lacks_join}

-- ---- columns
texts_no_feed : (mark : List ℕ) → Lacks 10 mark → (i n : ℕ) → Each (Lacks 10) (texts_from mark i n)
texts_no_feed mark h i zero = tt
texts_no_feed mark h i (suc n) = (lacks_join 10 mark (decimal i) h (decimal_no_feed i), texts_no_feed mark h (i + 1) n)

pub header_read : (file : File) → Lacks 10 (header_text (column_texts file))
header_read file =
    names_no_feed (column_texts file)
    (each_join (Lacks 10) (texts_from (codes "@") 0 (length (element_names file))) (texts_from (codes "#") 0 (length (lasting file)))
    (texts_no_feed (codes "@") refl 0 (length (element_names file))) (texts_no_feed (codes "#") refl 0 (length (lasting file))))

-- ---- labels
label_read : (o : Option Named) → IfAny (NameForm IsShortName) o → IfAny (λ n. is_utf8 n.name ≡ true) o → IfAny IsReadName (option_map (λ x. x.name) o)
label_read None s u = tt
label_read (Some n) s u = let l = s.short in record { utf8 = u; short = omega (arith, l) }

labels_read : (file : File) → FileShort file → Each HasTextLabel file.vectors → (v : Valuation) (s : Values) → Each (λ c. IfAny IsReadName c.label) (choices (moment file v s) s)
labels_read file short texts v s =
    elements_labelled IsReadName s (map (λ r. no_reward) (moment file v s).rewards) (moment file v s).vectors (moment file v s).elements
    (each_map (λ x. VectorRead IsShortName x × HasTextLabel x) (λ x. IfAny IsReadName x.result) vector_of (λ x h. label_read x.result h.0.result h.1) file.vectors
    (each_with (VectorRead IsShortName) HasTextLabel (λ x. VectorRead IsShortName x × HasTextLabel x) (λ x a b. (a, b)) file.vectors short.vectors texts))

-- ---- files
module _ (names : JaniNamesAreShort) (bytes : List ℕ) (tree : File) (ok : IsFaultlessJani bytes tree) where
  short : FileShort tree
  short = names bytes ok.value ok.read.whole.tokens tree ok.read.whole.spells ok.read.shaped ok.read.spells

  checked : IsChecked tree
  checked = record {
    clean = ok.sound;
    form = short_is_read tree short;
    once = file_once (node ok.value) tree ok.read.spells (once_node ok.value (reads_once bytes (Ok ok.value) ok.read.whole));
  }

  pub jani_lawful : (given : List Assignment) → IsStartable (jani_description tree) given → IsProcess (process_for (jani_description tree) given)
  jani_lawful given s =
      described_is tree (given_by (givens given)) (begin_right tree checked (givens given) (none_wrong (jani_description tree).constants given s.fits)) s.faultless

  pub jani_readable : JaniLabelsAreTexts → (given : List Assignment) → IsStartable (jani_description tree) given → IsReadableProcess (process_for (jani_description tree) given)
  jani_readable labels given s =
      let v = given_by (givens given) in
      let is = jani_lawful given s in
      record {
        header = header_read tree;
        whole = states_whole (columns_of tree v);
        initial = is.initial;
        proper = is.proper;
        labels = labels_read tree short (labels bytes ok.value ok.read.whole.tokens tree ok.read.whole.spells ok.read.spells) v;
      }
