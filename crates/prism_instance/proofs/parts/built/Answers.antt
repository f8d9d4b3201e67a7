use Rattle.expr_store.specs.Views.{nodes}
use Rattle.prism_tree.specs.Syntax.{file_of}
use Rattle.prism_instance.specs.Views.{columns_in, places_in}
use Rattle.prism_instance.proofs.Built.{choices_later}
use Rattle.prism_instance.proofs.parts.built.Goals as goal

pub returns : goal.returns
returns c = record {
  choosing = choices_later (file_of c.args.file.now) (places_in c.args.names.now) (columns_in c.args.names.now) (nodes c.built_choices.new.store) (nodes c.built_marks.new.store) c.in_ok-choosing.choosing
      c.in_ok-marking.ensures.grown c.in_ok-choosing.ensures;
  marking = c.in_ok-marking.ensures.parts;
}
