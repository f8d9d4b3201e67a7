-- From the tokens of the bytes to their tree, or their least fault.
use Rattle.std.proofs.Common.{◌≡◌, ℕ, List, [], ◌∷◌, ◌++◌, length, map, refl, sym, subst, ◌∙◌, inl, append_assoc}
use Rattle.std.specs.Prelude.{Contains}
use Rattle.std.proofs.lemmas.List.Elements.{Contains-append_left, Contains-push}
use Rattle.bridge_io.specs.declared.reason.Fault.{Fault}
use Rattle.bridge_io.specs.declared.reason.Refused.{Refused}
use Rattle.bridge_io.specs.declared.reason.Refused.TheVariants.{Memory, At}
use Rattle.prism_lex.specs.Tokens.{Lexeme, Tokens, TokenFaults}
use Rattle.prism_lex.specs.Laws.{OneList, OneFaults, AllBehind}
use Rattle.prism_tree.specs.Syntax.{File}
use Rattle.prism_tree.specs.Faults.{file_within, IsGrammarFault, Spells, SyntaxFaults, of_tokens, of_grammar, none}
use Rattle.prism_exprs.specs.declared.tokens.Cause.{Cause}
use Rattle.prism_exprs.specs.declared.tokens.Found.{Found}
use Rattle.prism_exprs.specs.declared.tokens.Literal.{Literal}
use Rattle.prism_exprs.specs.Kept.{lexeme_at}
use Rattle.prism_exprs.specs.Scope.{Scope}
use Rattle.prism_items.specs.Files.{file_in, plain, IsWhole, Refuses as Stops}
use Rattle.prism_parse.specs.Lexed.{IsLexed, IsTokenRefusal}
use Rattle.prism_parse.specs.Parsed.{IsSpelled, IsLeastFault, UpToAll, Refuses}
use Rattle.prism_parse.proofs.Fitting.{grammar_fits}
use Rattle.prism_parse.proofs.Stopped.{limited, stopped_limited}
use Rattle.prism_parse.proofs.Trees.{one_tree}

-- Bytes without a fault have tokens that are sound as a whole.
clean_whole : OneList → (bytes : List ℕ) (ts : List Lexeme) → Tokens bytes ts → SyntaxFaults bytes [] → (x : File) × file_within (length bytes) ts ts x
clean_whole one bytes ts are (none us x clean tokens spelled) =
    let F : List Lexeme → Type 0 = λ vs. file_within (length bytes) vs vs x in
    (x, subst F (one bytes us ts tokens are) spelled)

no_token_fault : OneFaults → (bytes : List ℕ) (f : Fault) (fs : List Fault) → TokenFaults bytes (f ∷ fs) → SyntaxFaults bytes [] → ⊥
no_token_fault one bytes f fs faults (none us x clean tokens spelled) = let e = one bytes (f ∷ fs) [] faults clean in absurd cc

-- ---- token faults

pub up_to_all : (f : Fault) (fs : List Fault) → AllBehind f.at fs → UpToAll f fs
up_to_all f [] h = tt
up_to_all f (g ∷ gs) h = (inl h.0, up_to_all f gs h.1)

pub token_refusal : OneFaults → (bytes : List ℕ) (e : Refused) → IsTokenRefusal bytes e → Refuses bytes e
token_refusal one bytes (Memory m) h = tt
token_refusal one bytes (At f) h = record {
  others = h.0.0;
  faults = of_tokens f h.0.0 h.0.1;
  least = up_to_all f h.0.0 h.0.2;
  within = h.1;
  faulty = no_token_fault one bytes f h.0.0 h.0.1;
}

-- ---- the grammar

module _ (one : OneList) (bytes : List ℕ) (literals : List Literal) (found : List Found) (lexed : IsLexed bytes literals found) where
  abbrev ts : List Lexeme
  ts = map (lexeme_at bytes literals) found

  pub tree_spelled : (x : File) → ((s : Scope) → IsWhole (file_in (length bytes) s) ts x) → IsSpelled bytes x
  tree_spelled x whole =
      let within : file_within (length bytes) ts ts x = (whole (limited ts)).spells in
      let spells : Spells bytes x = record { tokens = ts; are_tokens = lexed.tokens; spelled = (whole plain).spells } in
      record {
        clean = none ts x lexed.faultless lexed.tokens within;
        spells = spells;
        only = λ y other. one_tree one bytes y x other spells;
      }

  -- The tokens are not sound as a whole.
  stopped_early : (rest : List Lexeme) (c : Cause) → Stops (length bytes) ts rest c → (x : File) → file_within (length bytes) ts ts x → ⊥
  stopped_early [] c stop x spelled = stop.ends refl (limited ts) x spelled
  stopped_early (t ∷ others) c stop x spelled =
      let parts : ts ≡ (stop.before ++ t ∷ []) ++ others = stop.parts ∙ sym (append_assoc stop.before (t ∷ []) others) in
      let F : List Lexeme → Type 0 = λ us. Contains us t in
      let G : List Lexeme → Type 0 = λ us. file_in (length bytes) (limited ts) us x in
      stop.first (limited ts) (stopped_limited c ts t others (subst F (sym parts) (Contains-append_left (stop.before ++ t ∷ []) others t (Contains-push stop.before t)))) t others refl
      (others, x, subst G parts spelled)

  pub grammar_refusal : (rest : List Lexeme) (c : Cause) (f : Fault) → Stops (length bytes) ts rest c → IsGrammarFault (length bytes) ts f → IsLeastFault bytes f
  grammar_refusal rest c f stop fault = record {
    others = [];
    faults = of_grammar ts f lexed.faultless lexed.tokens fault;
    least = tt;
    within = grammar_fits bytes ts f lexed.tokens fault;
    faulty = λ clean. (let w = clean_whole one bytes ts lexed.tokens clean in stopped_early rest c stop w.0 w.1);
  }
