use Rattle.jani_tree.specs.Syntax.{file_of}
use Rattle.model_files.specs.JaniFile.{IsJaniRead}
use Rattle.model_files.proofs.JaniFiles.{refuses_value, faultless, refuses}
use Rattle.model_files.proofs.reading.read_jani.Goals as goal

pub returns-in-Err-from_json-clause-refused : goal.returns-in-Err-from_json-clause-refused
returns-in-Err-from_json-clause-refused c =
    refuses_value c.args.bytes.now c.in-Ok.value c.in-Ok.ensures.reads c.in-Err-from_json.refused c.in-Err-from_json.ensures.least

pub returns-clause-ok : goal.returns-clause-ok
returns-clause-ok c =
    let read : IsJaniRead c.args.bytes.now c.in-Ok.value (file_of c.in-Ok-from_json.file) = record {
      whole = c.in-Ok.ensures.reads;
      shaped = c.in-Ok-from_json.ensures.clean;
      spells = c.in-Ok-from_json.ensures.spelled;
      only = c.in-Ok-from_json.ensures.only;
    } in
    faultless _ _ c.in-Ok-from_json.file read c.check_jani.result c.check_jani.ensures.ok c.check_jani.ensures.clean

pub returns-clause-refused : goal.returns-clause-refused
returns-clause-refused c =
    let read : IsJaniRead c.args.bytes.now c.in-Ok.value (file_of c.in-Ok-from_json.file) = record {
      whole = c.in-Ok.ensures.reads;
      shaped = c.in-Ok-from_json.ensures.clean;
      spells = c.in-Ok-from_json.ensures.spelled;
      only = c.in-Ok-from_json.ensures.only;
    } in
    refuses _ _ c.in-Ok-from_json.file read c.check_jani.result c.check_jani.ensures.least
