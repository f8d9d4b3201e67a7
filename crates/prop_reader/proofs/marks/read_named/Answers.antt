use Rattle.std.proofs.Common.{◌≡◌, ap, map, length, List, subst, ◌∙◌}
use Rattle.std.specs.Prelude.{IfOk, IfErr}
use Rattle.prism_lex.specs.Tokens.{Lexeme}
use Rattle.prism_exprs.specs.declared.tokens.Found.{Found}
use Rattle.prism_exprs.specs.Kept.{seen, lexeme_at}
use Rattle.prop_grammar.specs.Grammar.{as_name}
use Rattle.prop_grammar.specs.Syntax.{written_of}
use Rattle.prop_reader.specs.Parts.{IsWholeFile}
use Rattle.prop_reader.specs.Reasons.{IsRefusal}
use Rattle.prop_reader.proofs.Marking.{marked_seen}
use Rattle.prop_reader.proofs.marks.read_named.Goals as goal

marked : (c : goal.After-drop-named-inside) → map (lexeme_at c.args.tokens.source.now.bytes.now c.args.tokens.source.now.literals.now) c.as_slice.result.now ≡ map as_name (seen c.args.tokens)
marked c =
    let view : Found → Lexeme = lexeme_at c.args.tokens.source.now.bytes.now c.args.tokens.source.now.literals.now in
    ap (map view) (c.as_slice.ensures ∙ c.in_ok-named.ensures)
    ∙ marked_seen c.args.tokens.source.now.bytes.now c.args.tokens.source.now.literals.now c.args.tokens.found.now

pub returns-clause-ok : goal.returns-clause-ok
returns-clause-ok c =
    let F : List Lexeme → Type 0 = λ ts. IfOk c.read_properties.result (λ ps. IsWholeFile ts (map written_of ps)) in
    subst F (marked c) c.read_properties.ensures.ok

pub returns-clause-err : goal.returns-clause-err
returns-clause-err c =
    let F : List Lexeme → Type 0 = λ ts. IfErr c.read_properties.result (IsRefusal (length c.args.tokens.source.now.bytes.now) ts) in
    subst F (marked c) c.read_properties.ensures.err
