use Rattle.std.proofs.Common.{◌∙◌, ◌++◌, ◌∷◌, [], List, refl, sym, ap, append_assoc, arith, rules}
use Rattle.std.proofs.lemmas.List.{length-append}
use Rattle.prism_lex.specs.declared.token.TokenKind.TheVariants as K
use Rattle.prism_exprs.specs.declared.tokens.Found.{Found}
use Rattle.prism_exprs.specs.Reading.{is_kind}
use Rattle.prism_tree.specs.Grammar.{symbol}
use Rattle.prism_exprs.proofs.Loops.{many_begin}
use Rattle.prism_exprs.proofs.Symbols.{sign_leads, signs_read, starts_empty, starts_another}
use Rattle.prism_exprs.proofs.parts.read_signs.Goals as goal
use Rattle.prism_exprs.proofs.parts.read_signs.Goals.{in-Some+then-not-is_symbol, in_default}

pub signs-init : goal.signs-init
signs-init c = record { done = []; parts = refl; few = refl; leads = many_begin (symbol c.args.sign) (is_kind (K.Symbol c.args.sign)) _ }

pub signs-preserved : goal.signs-preserved
signs-preserved c =
    let i = c.signs.invariant in
    let x = c.in-Some.first.now in
    record {
      done = i.done ++ x ∷ [];
      parts = i.parts ∙ ap (λ (u : List Found). i.done ++ u) c.in-Some.ensures.cases.0 ∙ sym (append_assoc i.done (x ∷ []) c.in-Some.behind.now);
      few = (let n = length-append i.done (x ∷ []) in let m = i.few in omega arith);
      leads = sign_leads _ _ c.args.sign _ i.done _ _ x c.in-Some.ensures.cases.0 (search rules) i.leads;
    }

pub returns : goal.returns
returns c =
    let i = c.signs.invariant in
    signs_read _ _ c.args.sign _ _ _ c.args.tokens.found.now i.done c.signs.rest.now _ c.signs.count i.leads
    (elim c.match-split_first.branch [
      | in-Some+then-not-is_symbol w ↦ starts_another _ _ c.args.sign w.in-Some.first.now _ _ w.in-Some.ensures.cases.0 (search rules)
      | in_default w ↦ starts_empty _ _ _ w.in_default.ensures.cases
    ])
    i.parts i.few c.split_at.ensures.front c.with.ensures c.with-2.ensures
