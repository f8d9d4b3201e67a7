use Rattle.std.proofs.Common.{◌∙◌, sym}
use Rattle.std.specs.Prelude.{Ok}
use Rattle.prism_lex.specs.declared.token.TokenKind.TheVariants as K
use Rattle.prism_lex.specs.declared.words.Reserved.TheVariants as W
use Rattle.prism_tree.specs.Syntax.{module_of}
use Rattle.prism_exprs.specs.Kept.{seen}
use Rattle.prism_items.specs.Parts.{in_scope, module_rest}
use Rattle.prism_exprs.proofs.Outer.{leaves_in}
use Rattle.prism_items.proofs.Leading.{followed}
use Rattle.prism_items.proofs.Ending.{IsUpToEnd, copy_to_end, body_to_end, up_to_end}
use Rattle.prism_items.proofs.modules.parse_rest.Goals.{then-symbol_next, else-symbol_next}
use Rattle.prism_items.proofs.modules.parse_rest.Goals as goal

pub returns-in_err-module : goal.returns-in_err-module
returns-in_err-module c = leaves_in _ _ _ _ _ _ c.from_residual.ensures (λ s.
    elim c.if-symbol_next.branch [
      | then-symbol_next w ↦ up_to_end s c.args.name (seen c.args.tokens) _ _ (sym c.in_err-module.was ∙ w.read-is) (copy_to_end s _ _ w.parse_copy-read.result (sym c.symbol_next.ensures ∙ w.if-symbol_next.true) w.parse_copy-read.ensures)
      | else-symbol_next w ↦ up_to_end s c.args.name (seen c.args.tokens) _ _ (sym c.in_err-module.was ∙ w.read-is) (body_to_end s _ _ w.parse_body-read.result (sym c.symbol_next.ensures ∙ w.if-symbol_next.false) w.parse_body-read.ensures)
    ])

pub returns : goal.returns
returns c =
    followed module_of (in_scope (module_rest c.args.name)) _ (K.Word W.Endmodule) c.in_ok-module.module _ _ c.read_word.result c.followed_by.result
    (λ s.
    let l : IsUpToEnd s c.args.name (seen c.args.tokens) (Ok (c.in_ok-module.module, c.in_ok-module.rest)) =
    elim c.if-symbol_next.branch [
      | then-symbol_next w ↦ up_to_end s c.args.name (seen c.args.tokens) _ _ (sym c.in_ok-module.was ∙ w.read-is) (copy_to_end s _ _ w.parse_copy-read.result (sym c.symbol_next.ensures ∙ w.if-symbol_next.true) w.parse_copy-read.ensures)
      | else-symbol_next w ↦ up_to_end s c.args.name (seen c.args.tokens) _ _ (sym c.in_ok-module.was ∙ w.read-is) (body_to_end s _ _ w.parse_body-read.result (sym c.symbol_next.ensures ∙ w.if-symbol_next.false) w.parse_body-read.ensures)
    ] in
    l)
    c.read_word.ensures c.followed_by.ensures
