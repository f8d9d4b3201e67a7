use Rattle.std.proofs.Common.{◌∙◌, sym, subst, ap}
use Rattle.jani_table.specs.Node.{node}
use Rattle.prop_trees.specs.Syntax.{jani_path_of}
use Rattle.prop_trees.specs.JaniText.{IsProbability, compared_by}
use Rattle.jani_props.specs.declared.words.OpWord.TheVariants.{Property}
use Rattle.jani_props.specs.Words.{prop_text, side_of, side_op}
use Rattle.jani_props.proofs.Cleaned.{has_operator, left_op, left_clean}
use Rattle.jani_props.proofs.Parts.{is_at, side_name}
use Rattle.jani_props.proofs.paths.compared.Goals as goal

pub probability-requires-clause-op : goal.probability-requires-clause-op
probability-requires-clause-op c =
    left_op (side_of c.args.compare) (node c.args.value.now) (node c.required-left.result.now) c.requires.clean c.required-left.ensures.member
    ∙ ap Property (sym (c.side_op.ensures ∙ ap side_op c.side_of-side.ensures))

pub probability-requires-clause-clean : goal.probability-requires-clause-clean
probability-requires-clause-clean c = left_clean (side_of c.args.compare) (node c.args.value.now) (node c.required-left.result.now) c.requires.clean c.required-left.ensures.member

pub returns : goal.returns
returns c = (
  has_operator (node c.args.value.now) (compared_by c.args.compare) c.requires.op,
  is_at _ _ _ c.required-left.ensures.member
      (
      subst (λ s. IsProbability s (node c.required-left.result.now) (jani_path_of c.in_ok-path.path))
      (ap prop_text (c.side_op.ensures ∙ ap side_op c.side_of-side.ensures) ∙ side_name c.args.compare) c.in_ok-path.ensures
      ),
  is_at _ _ _ c.required.ensures.member c.in_ok-bound.ensures,
)
