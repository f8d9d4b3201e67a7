use Rattle.std.proofs.Common.{refl}
use Rattle.std.proofs.lemmas.Result.{IfOk-weaker}
use Rattle.prism_lex.proofs.Keeping.{token_kept}
use Rattle.prism_lex.proofs.kept.Lexer.keep.Goals as goal

pub returns : goal.returns
returns c = IfOk-weaker c.push.result _ _
    (λ _ pushed ls l keeps of. token_kept c.args.self.now.lexed c.kept.new.self.lexed c.args.kind c.args.name.now c.args.at c.in_ok-at.at _ _ ls l c.in_ok-kind.ensures c.in_ok-at.ensures keeps of _ refl refl pushed)
    c.push.ensures.ok
