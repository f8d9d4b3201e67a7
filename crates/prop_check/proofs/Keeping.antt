-- What the expressions have that tokens spell whose numbers are literals, whatever their names are.
use Rattle.std.proofs.Common.{◌≡◌, ℕ, true, subst}
use Rattle.frac_core.specs.Decimal.{is_normal}
use Rattle.op_trees.specs.Tree.{Truth, Number, Name, One, Two, Three}
use Rattle.prism_lex.specs.declared.token.TokenKind.{TokenKind}
use Rattle.prism_lex.specs.declared.token.TokenKind.TheVariants as K
use Rattle.prism_lex.specs.Tokens.{Lexeme}
use Rattle.prism_tree.specs.Operators.{arity}
use Rattle.prism_tree.specs.Syntax.{Expression, moved}
use Rattle.prism_print.proofs.Keeping.{IsKept}
use Rattle.prop_trees.specs.Form.{HasForm}

-- a number's literal is in normal form
abbrev pub KindHolds : TokenKind → Type 0
KindHolds (K.Number d) = is_normal d ≡ true
KindHolds k = Unit {0}

abbrev pub Holds : Lexeme → Type 0
Holds t = KindHolds t.kind

abbrev pub Good : Expression → Type 0
Good e = HasForm arity e

moved_good : (at : ℕ) (e : Expression) → Good e → Good (moved at e)
moved_good at (Truth from b) p = record { literals = tt; operands = tt }
moved_good at (Number from d) p = record { literals = p.literals; operands = tt }
moved_good at (Name from x) p = record { literals = tt; operands = tt }
moved_good at (One from o a) p = record { literals = p.literals; operands = p.operands }
moved_good at (Two from o a b) p = record { literals = p.literals; operands = p.operands }
moved_good at (Three from o a b c) p = record { literals = p.literals; operands = p.operands }

pub formed : IsKept Holds Good
formed = record {
  a_truth = λ at b. record { literals = tt; operands = tt };
  a_number = λ t d h e. let F : TokenKind → Type 0 = λ k. KindHolds k in record { literals = subst F e h; operands = tt };
  a_name = λ t h e. record { literals = tt; operands = tt };
  over_one = λ at o a h p. record { literals = p.literals; operands = (h, p.operands) };
  over_two = λ at o a b h p q. record { literals = (p.literals, q.literals); operands = (h, p.operands, q.operands) };
  over_three = λ at o a b c h p q r. record { literals = (p.literals, q.literals, r.literals); operands = (h, p.operands, q.operands, r.operands) };
  elsewhere = moved_good;
}
