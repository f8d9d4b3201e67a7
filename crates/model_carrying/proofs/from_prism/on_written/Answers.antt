use Rattle.std.proofs.Common.{refl}
use Rattle.prism_names.specs.Flat.{flat}
use Rattle.prism_check.proofs.NoFaults.{no_faults}
use Rattle.prism_instance.specs.Described.{prism_description}
use Rattle.jani_tree.specs.Syntax.{file_of}
use Rattle.jani_instance.specs.Described.{jani_description}
use Rattle.command_words.specs.Words.{carrying_of}
use Rattle.model_carrying.specs.Counterparts.{IsJaniCounterpart}
use Rattle.model_carrying.specs.Pairs.{counterpart_of}
use Rattle.model_carrying.proofs.Ended.{for_some}
use Rattle.model_carrying.proofs.from_prism.on_written.Goals as goal

pub returns : goal.returns
returns c =
    for_some (IsJaniCounterpart c.args.checked.now.file) (λ f. ⊥) (prism_description c.args.written.now) (prism_description c.args.checked.now.file)
    (counterpart_of (jani_description (file_of c.in_ok-model.model)) c.in_ok-map.map) (carrying_of c.args.carrying.now) c.args.path.now c.by_map.result
    (c.described_law.ensures c.args.written.now c.args.checked.now.file c.requires.written)
    (record {
      file = file_of c.in_ok-model.model;
      translated = c.in_ok-model.ensures;
      description = refl;
      map = c.carry_law.ensures.places c.args.written.now (flat c.args.checked.now.file) c.in_ok-map.map c.requires.written c.in_ok-map.ensures;
    })
    c.by_map.ensures

pub by_map-requires-clause-pair : goal.by_map-requires-clause-pair
by_map-requires-clause-pair c = (
  c.args.checked.now.file,
  record {
    named = (no_faults c.args.checked.now.file c.file.ensures.checked.sound).names;
    flattened = c.file-2.ensures.flat;
    shape = c.requires.written;
    translated = c.in_ok-model.ensures;
    short = c.translated_names_law.ensures c.args.checked.now c.file.ensures.checked c.requires.names (file_of c.in_ok-model.model) c.in_ok-model.ensures.shape c.held.ensures;
  },
)
