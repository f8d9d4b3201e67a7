-- The same languages, their parts grouped in another way.
use Rattle.std.proofs.Common.{List, [], ◌++◌, refl, sym, ap, subst, ◌∙◌, append_assoc}
use Rattle.prism_lex.specs.Tokens.{Lexeme}
use Rattle.prism_tree.specs.Lang.{Lang, gives, ◌>>=◌}
use Rattle.prism_exprs.proofs.Choice.{Same}

pub same_trans : {A : Type 0} {L M N : Lang A} → Same L M → Same M N → Same L N
same_trans p q = record { to = λ w x h. q.to w x (p.to w x h); from = λ w x h. p.from w x (q.from w x h) }

pub same_sym : {A : Type 0} {L M : Lang A} → Same L M → Same M L
same_sym p = record { to = p.from; from = p.to }

pub assoc : {A B D : Type 0} (L : Lang A) (M : A → Lang B) (N : B → Lang D) → Same ((L >>= M) >>= N) (L >>= λ x. M x >>= N)
unfolding ◌>>=◌
assoc L M N = record {
  to = λ w y h. let i = h.4 in (i.0, i.1, i.2 ++ h.2, h.3 ∙ ap (λ (u : List Lexeme). u ++ h.2) i.3 ∙ append_assoc i.1 i.2 h.2, i.4, (h.0, i.2, h.2, refl, i.5, h.5));
  from = λ w y h. let i = h.5 in (i.0, h.1 ++ i.1, i.2, h.3 ∙ ap (λ (u : List Lexeme). h.1 ++ u) i.3 ∙ sym (append_assoc h.1 i.1 i.2), (h.0, h.1, i.1, refl, h.4, i.4), i.5);
}

pub same_then : {A B : Type 0} (L : Lang A) (M N : A → Lang B) → ((x : A) → Same (M x) (N x)) → Same (L >>= M) (L >>= N)
unfolding ◌>>=◌
same_then L M N s = record {
  to = λ w y h. (h.0, h.1, h.2, h.3, h.4, (s h.0).to h.2 y h.5);
  from = λ w y h. (h.0, h.1, h.2, h.3, h.4, (s h.0).from h.2 y h.5);
}

pub gives_then : {A B : Type 0} (a : A) (M : A → Lang B) → Same (gives a >>= M) (M a)
unfolding ◌>>=◌ gives
gives_then {A} a M = record {
  to = λ w y h.
      let F : List Lexeme → Type 0 = λ u. M a u y in
      let G : A → Type 0 = λ x. M x h.2 y in
      subst F (sym (h.3 ∙ ap (λ (u : List Lexeme). u ++ h.2) h.4.0)) (subst G h.4.1 h.5);
  from = λ w y h. (a, [], w, refl, (refl, refl), h);
}
