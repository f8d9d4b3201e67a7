-- The reader of a text that spells properties in which no fault of names and of types is found has none to tell but that a limit is passed.
use Rattle.std.specs.Prelude.{◌≡◌, ℕ, List, [], ◌∷◌, ◌++◌, map, length, Bool, true, false, nat_lt, ◌||◌, max, Option, Some, None, if◌then◌else◌}
use Rattle.std.specs.List.{AllByRecursion as Each, fold, sum}
use Rattle.std.proofs.Common.{refl, sym, ap, subst, ◌∙◌, append_assoc}
use Rattle.basics.specs.Options.{IfAny}
use Rattle.bridge_io.specs.declared.reason.Reason.{Reason}
use Rattle.bridge_io.specs.declared.reason.Reason.TheVariants.{TooLong, BadNumber, TooLarge}
use Rattle.bridge_io.specs.declared.reason.Fault.{Fault}
use Rattle.op_trees.specs.Tree.{node_count, height_of}
use Rattle.name_rules.specs.Least.{fault_if, or_else}
use Rattle.frac_core.specs.Numeral.{is_beyond}
use Rattle.prism_lex.specs.declared.token.TokenKind.{TokenKind}
use Rattle.prism_lex.specs.declared.token.TokenKind.TheVariants as K
use Rattle.prism_lex.specs.Tokens.{Lexeme, Ending, finished, Reads, refusal, refusal_of, with_fault, faults_of}
use Rattle.prism_lex.proofs.Once.{reads_one}
use Rattle.prism_tree.specs.Lang.{Begins}
use Rattle.prism_tree.specs.Syntax as prism
use Rattle.prop_grammar.specs.Syntax.{WrittenProperty}
use Rattle.prop_grammar.specs.Grammar.{as_name}
use Rattle.prop_grammar.specs.Faults as grammar
use Rattle.prop_grammar.specs.Faults.{Spells, IsReason, too_deep, left_out, no_form, IsGrammarFault, at_token, at_end, SyntaxFaults, of_tokens, of_grammar, none}
use Rattle.prism_check.specs.SizeFaults.{height_limit}
use Rattle.prop_trees.specs.PrismFaults.{expressions, name_faults, size_faults, type_faults, faults}
use Rattle.prop_check.specs.Read.{FaultsOf, of_text, of_properties}
use Rattle.prop_to_prism.specs.Laws.{is_limit}

-- the fault tells that a limit is passed
abbrev pub IsOfLimit : Fault → Type 0
IsOfLimit f = is_limit f.reason ≡ true

-- ---- of tokens
by_test : (b : Bool) (r : Reason) → is_limit r ≡ true → IfAny (λ r. is_limit r ≡ true) (if b then Some r else None)
by_test true r h = h
by_test false r h = tt

refused : (k : TokenKind) (w : List ℕ) → IfAny (λ r. is_limit r ≡ true) (refusal k w)
refused (K.Word r) w = tt
refused K.Ident w = by_test (nat_lt 255 (length w)) TooLong refl
refused K.Quoted w = by_test (nat_lt 257 (length w)) TooLong refl
refused (K.Number d) w = by_test (is_beyond w) BadNumber refl
refused (K.Symbol s) w = tt
refused K.End w = tt

of_refusal : (o : Option Reason) (at : ℕ) (fs : List Fault) → IfAny (λ r. is_limit r ≡ true) o → Each IsOfLimit fs → Each IsOfLimit (with_fault o at fs)
of_refusal None at fs h rest = rest
of_refusal (Some r) at fs h rest = (h, rest)

of_lexemes : (ls : List Lexeme) → Each IsOfLimit (faults_of ls finished)
of_lexemes [] = tt
of_lexemes (l ∷ ls) = of_refusal (refusal_of l) l.at (faults_of ls finished) (refused l.kind l.text) (of_lexemes ls)

-- ---- of the grammar: where the tokens spell a file, each of them goes on with what is before
of_reason : (us : List Lexeme) (t : Lexeme) (r : Reason) → Begins grammar.file (us ++ t ∷ []) → IsReason us t r → is_limit r ≡ true
of_reason us t r begins (too_deep b) = refl
of_reason us t r begins (left_out n w) = absurd (n begins)
of_reason us t r begins (no_form n w) = absurd (n begins)

of_grammar_fault : (end : ℕ) (ts : List Lexeme) (written : List WrittenProperty) (f : Fault) → grammar.file ts written → IsGrammarFault end ts f → IsOfLimit f
of_grammar_fault end ts written f spelled (at_end p n e h) = absurd (n written spelled)
of_grammar_fault end ts written f spelled (at_token us rest t parts q m d k) =
    of_reason us t f.reason (rest, written, subst (λ ws. grammar.file ws written) (parts ∙ sym (append_assoc us (t ∷ []) rest)) spelled) k

module _ (text : List ℕ) (written : List WrittenProperty) (spells : Spells text written) where
  of_token_faults : (fs : List Fault) (ls : List Lexeme) (e : Ending) → Reads text 0 ls e → fs ≡ faults_of ls e → Each IsOfLimit fs
  of_token_faults fs ls e reads is =
      let one = reads_one text 0 ls spells.tokens e finished reads spells.are_tokens in
      subst (Each IsOfLimit) (sym (is ∙ ap (faults_of ls) one.1)) (of_lexemes ls)

  of_syntax : (fs : List Fault) → SyntaxFaults text fs → Each IsOfLimit fs
  of_syntax fs (of_tokens f others h) = of_token_faults (f ∷ others) h.0 h.1 h.2 h.3
  of_syntax fs (of_grammar ts f clean are h) = (
    of_grammar_fault (length text) (map as_name ts) written f
        (subst (λ us. grammar.file (map as_name us) written) (reads_one text 0 spells.tokens ts finished finished spells.are_tokens are).0 spells.spelled) h,
    tt,
  )
  of_syntax fs (none ts x clean are w) = tt

  -- ---- of the size
  of_size : (b : Bool) → Each IsOfLimit (or_else (fault_if b 0 TooLarge) [])
  of_size true = (refl, tt)
  of_size false = tt

  -- ---- all that the reader may find
  module _ (only : (others : List WrittenProperty) → Spells text others → others ≡ written) (model : prism.File) (names : name_faults model written ≡ []) (types : type_faults model written ≡ []) where
    of_sizes : Each IsOfLimit (faults model written)
    of_sizes =
        let es = expressions model written in
        subst (λ ns. Each IsOfLimit (or_else ns (or_else (size_faults model written) (type_faults model written)))) (sym names)
        (subst (λ ts. Each IsOfLimit (or_else (size_faults model written) ts)) (sym types) (of_size (nat_lt 2000000 (sum (map node_count es)) || nat_lt height_limit (fold max 0 (map height_of es)))))

    pub of_limits : (fs : List Fault) → FaultsOf text model fs → Each IsOfLimit fs
    of_limits fs (of_text f others h) = of_syntax (f ∷ others) h
    of_limits fs (of_properties ws h) = subst (λ us. Each IsOfLimit (faults model us)) (sym (only ws h.spells)) of_sizes
