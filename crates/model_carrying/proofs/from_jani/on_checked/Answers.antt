use Rattle.std.proofs.Common.{refl, sym, subst}
use Rattle.std.specs.Prelude.{Err}
use Rattle.basics.specs.Each.{each_then}
use Rattle.prism_instance.specs.Described.{prism_description}
use Rattle.jani_tree.specs.Syntax.{file_of}
use Rattle.jani_instance.specs.Described.{jani_description}
use Rattle.path_carry.specs.Texts.{IsShort}
use Rattle.command_words.specs.Words.{carrying_of}
use Rattle.model_carrying.specs.Counterparts.{IsPrismCounterpart}
use Rattle.model_carrying.specs.Pairs.{CarriesFor, IsUntranslated, counterpart_of}
use Rattle.model_carrying.proofs.Ended.{for_some, untranslated}
use Rattle.model_carrying.proofs.Faultless.{no_name_fault}
use Rattle.model_carrying.proofs.from_jani.on_checked.Goals as goal

pub returns-in-Err : goal.returns-in-Err
returns-in-Err c =
    subst (λ x. CarriesFor (IsPrismCounterpart (file_of c.args.checked.now)) (IsUntranslated (file_of c.args.checked.now)) (jani_description (file_of c.args.checked.now)) (carrying_of c.args.carrying.now) c.args.path.now (Err x))
    (sym c.at_file.ensures) (untranslated (file_of c.args.checked.now) (jani_description (file_of c.args.checked.now)) (carrying_of c.args.carrying.now) c.args.path.now c.in-Err.refused c.in-Err.ensures.refused)

pub returns : goal.returns
returns c =
    let is = c.in-Ok.ensures.ok in
    for_some (IsPrismCounterpart (file_of c.args.checked.now)) (IsUntranslated (file_of c.args.checked.now)) (jani_description (file_of c.args.checked.now)) (jani_description (file_of c.args.checked.now))
    (counterpart_of (prism_description c.in-Ok.written) c.in_ok-map.map) (carrying_of c.args.carrying.now) c.args.path.now c.by_map.result refl
    (record {
      accepted = is.0;
      file = is.1.0;
      translated = is.1.1;
      sized = is.1.2;
      description = c.described_law.ensures c.in-Ok.written is.1.0 is.1.3;
      map = c.in_ok-map.ensures.map;
    })
    c.by_map.ensures

pub by_map-requires-clause-pair : goal.by_map-requires-clause-pair
by_map-requires-clause-pair c =
    let is = c.in-Ok.ensures.ok in (
      is.1.0,
      record { named = no_name_fault (file_of c.args.checked.now) c.file.ensures.checked; flattened = c.file-2.ensures.flat; shape = is.1.3; translated = is.1.1 },
    )

pub by_map-requires-clause-short : goal.by_map-requires-clause-short
by_map-requires-clause-short c = each_then _ (λ p. IsShort p.prism) (λ p h i. h) _ c.in_ok-map.ensures.short
