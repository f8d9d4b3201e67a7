-- From the tokens of the bytes to their properties, or their least fault.
use Rattle.std.proofs.Common.{arith, ◌≡◌, ℕ, ◌≤◌, List, [], ◌∷◌, ◌++◌, length, map, refl, ap, subst}
use Rattle.std.specs.Prelude.{Result, Ok, Err, IfOk, IfErr}
use Rattle.bridge_io.specs.declared.reason.Fault.{Fault}
use Rattle.bridge_io.specs.declared.reason.Refused.{Refused}
use Rattle.bridge_io.specs.declared.reason.Refused.TheVariants.{Memory, At}
use Rattle.prism_lex.specs.Tokens.{Lexeme, Tokens, TokenFaults}
use Rattle.prism_lex.specs.Laws.{OneList, OneFaults}
use Rattle.prism_exprs.specs.declared.tokens.Found.{Found}
use Rattle.prism_exprs.specs.declared.tokens.Literal.{Literal}
use Rattle.prism_exprs.specs.Kept.{lexeme_at}
use Rattle.prism_items.specs.Files.{plain}
use Rattle.prism_parse.specs.Lexed.{IsLexed, IsTokenRefusal}
use Rattle.prism_parse.proofs.Stopped.{limited}
use Rattle.prism_parse.proofs.Fitting.{token_fits}
use Rattle.prism_parse.proofs.Whole.{up_to_all}
use Rattle.prop_grammar.specs.declared.syntax.Written.{Written}
use Rattle.prop_grammar.specs.Syntax.{WrittenProperty, written_of}
use Rattle.prop_grammar.specs.Grammar.{as_name}
use Rattle.prop_grammar.specs.Faults.{file_within, IsGrammarFault, at_token, at_end, Spells, SyntaxFaults, of_tokens, of_grammar, none}
use Rattle.prop_reader.specs.Parts.{IsWholeFile}
use Rattle.prop_reader.specs.Reasons.{IsRefusal}
use Rattle.prop_reader.specs.Parsed.{IsSpelled, Refuses}
use Rattle.prop_reader.proofs.OneSyntax.{not_both, one_file}

-- ---- token faults

no_token_fault : OneFaults → (bytes : List ℕ) (f : Fault) (fs : List Fault) → TokenFaults bytes (f ∷ fs) → SyntaxFaults bytes [] → ⊥
no_token_fault one bytes f fs faults (none us x clean tokens spelled) = let e = one bytes (f ∷ fs) [] faults clean in absurd cc

pub token_refusal : OneFaults → (bytes : List ℕ) (e : Refused) → IsTokenRefusal bytes e → Refuses bytes e
token_refusal one bytes (Memory m) h = tt
token_refusal one bytes (At f) h = record {
  others = h.0.0;
  faults = of_tokens f h.0.0 h.0.1;
  least = up_to_all f h.0.0 h.0.2;
  within = h.1;
  faulty = no_token_fault one bytes f h.0.0 h.0.1;
}

-- ---- places

-- where a token stands that is read as a name if it is a quoted one
named_parts : (ts us rest : List Lexeme) (t : Lexeme) → map as_name ts ≡ us ++ t ∷ rest → (vs : List Lexeme) × (s : Lexeme) × (others : List Lexeme) × (ts ≡ vs ++ s ∷ others) × (s.at ≡ t.at)
named_parts [] [] rest t e = absurd cc
named_parts [] (u ∷ us) rest t e = absurd cc
named_parts (s ∷ ts) [] rest t e = let h : as_name s ≡ t = cc in ([], s, ts, refl, ap (λ (l : Lexeme). l.at) h)
named_parts (s ∷ ts) (u ∷ us) rest t e =
    let n = named_parts ts us rest t (cc) in
    (s ∷ n.0, n.1, n.2, ap (λ (l : List Lexeme). s ∷ l) n.3, n.4)

grammar_fits : (bytes : List ℕ) (ts : List Lexeme) (f : Fault) → Tokens bytes ts → IsGrammarFault (length bytes) (map as_name ts) f → f.at ≤ length bytes
grammar_fits bytes ts f r (at_token us rest t parts sound not e reason) =
    let n = named_parts ts us rest t parts in
    let F : List Lexeme → Type 0 = λ vs. Tokens bytes vs in
    let a = token_fits bytes 0 n.0 n.1 n.2 _ (omega arith) (subst F n.3 r) in
    omega (arith, a, e, n.4)
grammar_fits bytes ts f r (at_end sound no_file e reason) = omega (arith, e)

-- ---- the grammar

module _ (one : OneList) (bytes : List ℕ) (literals : List Literal) (found : List Found) (lexed : IsLexed bytes literals found) where
  abbrev ts : List Lexeme
  ts = map (lexeme_at bytes literals) found

  spelled : (x : List WrittenProperty) → IsWholeFile (map as_name ts) x → IsSpelled bytes x
  spelled x whole =
      let within : file_within (map as_name ts) (map as_name ts) x = (whole (limited (map as_name ts))).spells in
      let spells : Spells bytes x = record { tokens = ts; are_tokens = lexed.tokens; spelled = (whole plain).spells } in
      record {
        clean = none ts x lexed.faultless lexed.tokens within;
        spells = spells;
        only = λ y other. one_file one bytes y x other spells;
      }

  -- Bytes with a fault of the grammar have some fault.
  not_clean : (f : Fault) → IsGrammarFault (length bytes) (map as_name ts) f → SyntaxFaults bytes [] → ⊥
  not_clean f fault (none us x clean tokens within) =
      let F : List Lexeme → Type 0 = λ vs. file_within (map as_name vs) (map as_name vs) x in
      not_both (length bytes) (map as_name ts) f x fault (subst F (one bytes us ts tokens lexed.tokens) within)

  refused : (e : Refused) → IsRefusal (length bytes) (map as_name ts) e → Refuses bytes e
  refused (Memory m) h = tt
  refused (At f) h = record {
    others = [];
    faults = of_grammar ts f lexed.faultless lexed.tokens h;
    least = tt;
    within = grammar_fits bytes ts f lexed.tokens h;
    faulty = not_clean f h;
  }

  pub all_spelled : (r : Result (List Written) Refused) → IfOk r (λ ps. IsWholeFile (map as_name ts) (map written_of ps)) → IfOk r (λ ps. IsSpelled bytes (map written_of ps))
  all_spelled (Ok ps) h = spelled (map written_of ps) h
  all_spelled (Err e) h = h

  pub all_refused : (r : Result (List Written) Refused) → IfErr r (IsRefusal (length bytes) (map as_name ts)) → IfErr r (Refuses bytes)
  all_refused (Ok ps) h = h
  all_refused (Err e) h = refused e h
