use Rattle.std.proofs.Common.{◌≡◌, sym, ap, ◌∙◌, rules}
use Rattle.prism_exprs.specs.declared.tokens.Kept.TheVariants.{Ident}
use Rattle.prism_parse.specs.Reasons.{is_left_out_text}
use Rattle.prism_parse.proofs.Seen.{name_kept}
use Rattle.prism_parse.proofs.reasons.is_left_out_name.Goals as goal

pub returns-then-eq : goal.returns-then-eq
returns-then-eq c =
    let kind : c.args.token.kind ≡ Ident = search rules in
    c.is_left_out_text.ensures ∙ ap is_left_out_text c.text.ensures ∙ sym (name_kept c.args.tokens.source.now.bytes.now c.args.tokens.source.now.literals.now c.args.token.kind c.args.token.at c.args.token.size kind)
