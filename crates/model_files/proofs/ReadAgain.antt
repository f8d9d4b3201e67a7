-- A text that spells a file without fault has no fault but that a limit is passed.
use Rattle.std.specs.Prelude.{◌≡◌, ◌<◌, ◌+◌, ◌⊎◌, ℕ, List, [], ◌∷◌, ◌++◌, length, take, drop, Bool, true, false, nat_lt, Contains, Option, Some, None, if◌then◌else◌}
use Rattle.std.specs.List.{AllByRecursion as Each}
use Rattle.std.proofs.Common.{arith, refl, sym, ap, subst, ◌∙◌, append_assoc, inl, inr}
use Rattle.std.proofs.lemmas.List.{take-append-drop}
use Rattle.basics.specs.Options.{IfAny}
use Rattle.bridge_io.specs.declared.reason.Reason.{Reason}
use Rattle.bridge_io.specs.declared.reason.Reason.TheVariants.{TooLong, BadNumber, TooDeep, TooLarge}
use Rattle.bridge_io.specs.declared.reason.Fault.{Fault}
use Rattle.frac_core.specs.Numeral.{is_beyond}
use Rattle.name_rules.specs.Least.{fault_if, or_else, IsAmong, IsLeast}
use Rattle.name_rules.proofs.Plain.{no_least}
use Rattle.prism_lex.specs.declared.token.TokenKind.{TokenKind}
use Rattle.prism_lex.specs.declared.token.TokenKind.TheVariants as K
use Rattle.prism_lex.specs.Tokens.{Lexeme, Ending, finished, Reads, refusal, refusal_of, with_fault, faults_of}
use Rattle.prism_lex.proofs.Once.{reads_one}
use Rattle.prism_tree.specs.Lang.{Begins}
use Rattle.prism_tree.specs.Syntax as prism
use Rattle.prism_tree.specs.Faults as grammar
use Rattle.prism_tree.specs.Faults.{Spells, IsReason, too_deep, not_read, no_form, IsGrammarFault, at_token, at_end, SyntaxFaults, of_tokens, of_grammar, none}
use Rattle.prism_parse.specs.Laws.{OneTree}
use Rattle.prism_names.specs.Flat.{flat}
use Rattle.prism_check.specs.Clean.{IsClean}
use Rattle.prism_check.specs.Faults.{faults as prism_faults}
use Rattle.prism_check.specs.SizeFaults.{passes_limit, size_faults}
use Rattle.prism_check.specs.TypeFaults.{type_faults}
use Rattle.prism_check.specs.PlacesLaws.{CleanAlike}
use Rattle.decimal_json.specs.declared.tree.Json.{Json}
use Rattle.decimal_json.specs.Lang.{Mark}
use Rattle.decimal_json.specs.Proper.{bare, SpellsValue}
use Rattle.decimal_json.proofs.Single.{one_value}
use Rattle.decimal_json.specs.Faults.{BeginsJson, IsFault, IsJson, IsSyntaxFault, IsTokenFault}
use Rattle.jani_table.specs.declared.table.Form.TheVariants as F
use Rattle.jani_table.specs.Node.{node}
use Rattle.jani_table.specs.Faults.{faults as shape_faults}
use Rattle.jani_tree.specs.Syntax as jani
use Rattle.jani_tree.specs.Back.{IsWritable}
use Rattle.jani_tree.specs.Canonical.{file_node}
use Rattle.jani_tree.specs.Form.{FileShort}
use Rattle.jani_tree.proofs.Back.{clean_value, reads_back}
use Rattle.jani_check.specs.Faults.{faults as jani_faults}
use Rattle.jani_check.specs.Laws.{PlacesAside}
use Rattle.model_files.specs.PrismFile.{of_text, of_tree}
use Rattle.model_files.specs.JaniFile.{of_json, of_shape, of_model}
use Rattle.model_files.specs.ReadAgain.{limits, IsShaped, PrismReadAgain, JaniReadAgain}

-- ---- PRISM
-- the fault tells that a limit is passed
abbrev IsLimit : Reason → Type 0
IsLimit r = Contains limits r

abbrev IsOfLimit : Fault → Type 0
IsOfLimit f = IsLimit f.reason

long : IsLimit TooLong
long = (0, omega arith, refl)

beyond : IsLimit BadNumber
beyond = (1, omega arith, refl)

deep : IsLimit TooDeep
deep = (2, omega arith, refl)

large : IsLimit TooLarge
large = (3, omega arith, refl)

-- of tokens
by_test : (b : Bool) (r : Reason) → IsLimit r → IfAny IsLimit (if b then Some r else None)
by_test true r h = h
by_test false r h = tt

refused : (k : TokenKind) (w : List ℕ) → IfAny IsLimit (refusal k w)
refused (K.Word r) w = tt
refused K.Ident w = by_test (nat_lt 255 (length w)) TooLong long
refused K.Quoted w = by_test (nat_lt 257 (length w)) TooLong long
refused (K.Number d) w = by_test (is_beyond w) BadNumber beyond
refused (K.Symbol s) w = tt
refused K.End w = tt

of_refusal : (o : Option Reason) (at : ℕ) (fs : List Fault) → IfAny IsLimit o → Each IsOfLimit fs → Each IsOfLimit (with_fault o at fs)
of_refusal None at fs h rest = rest
of_refusal (Some r) at fs h rest = (h, rest)

of_lexemes : (ls : List Lexeme) → Each IsOfLimit (faults_of ls finished)
of_lexemes [] = tt
of_lexemes (l ∷ ls) = of_refusal (refusal_of l) l.at (faults_of ls finished) (refused l.kind l.text) (of_lexemes ls)

-- of the grammar: where the tokens spell a file, each of them goes on with what is before
of_reason : (end : ℕ) (us : List Lexeme) (t : Lexeme) (r : Reason) → Begins (grammar.file end) (us ++ t ∷ []) → IsReason end us t r → IsLimit r
of_reason end us t r begins (too_deep b) = deep
of_reason end us t r begins (not_read s n w) = absurd (n begins)
of_reason end us t r begins (no_form n w) = absurd (n begins)

of_grammar_fault : (end : ℕ) (ts : List Lexeme) (x : prism.File) (f : Fault) → grammar.file end ts x → IsGrammarFault end ts f → IsOfLimit f
of_grammar_fault end ts x f spelled (at_end p n e h) = absurd (n x spelled)
of_grammar_fault end ts x f spelled (at_token us rest t parts q m d k) =
    of_reason end us t f.reason (rest, x, subst (λ ws. grammar.file end ws x) (parts ∙ sym (append_assoc us (t ∷ []) rest)) spelled) k

module _ (text : List ℕ) (x : prism.File) (spells : Spells text x) where
  of_token_faults : (fs : List Fault) (ls : List Lexeme) (e : Ending) → Reads text 0 ls e → fs ≡ faults_of ls e → Each IsOfLimit fs
  of_token_faults fs ls e reads is =
      let one = reads_one text 0 ls spells.tokens e finished reads spells.are_tokens in
      subst (Each IsOfLimit) (sym (is ∙ ap (faults_of ls) one.1)) (of_lexemes ls)

  of_syntax : (fs : List Fault) → SyntaxFaults text fs → Each IsOfLimit fs
  of_syntax fs (of_tokens f others h) = of_token_faults (f ∷ others) h.0 h.1 h.2 h.3
  of_syntax fs (of_grammar ts f clean are h) = (
    of_grammar_fault (length text) ts x f
        (subst (λ us. grammar.file (length text) us x) (reads_one text 0 spells.tokens ts finished finished spells.are_tokens are).0 spells.spelled) h,
    tt,
  )
  of_syntax fs (none ts y clean are w) = tt

-- of the size
of_size : (b : Bool) (f : Fault) → IsAmong f (or_else (fault_if b 0 TooLarge) []) → IsOfLimit f
of_size true f (inl e) = subst IsOfLimit (sym e) large
of_size true f (inr h) = absurd h
of_size false f h = absurd h

of_clean : (file : prism.File) → IsClean file → (f : Fault) → IsLeast (prism_faults file) f → IsOfLimit f
of_clean file clean f least =
    of_size (passes_limit (flat file)) f
    (subst (λ ts. IsAmong f (or_else (size_faults file) ts)) clean.types
    (subst (λ ns. IsAmong f (or_else ns (or_else (size_faults file) (type_faults file)))) clean.names least.among))

pub prism_read_again : OneTree → CleanAlike → PrismReadAgain
prism_read_again one alike text file (g, spells, same) clean f (of_text h) = (of_syntax text g spells (f ∷ h.others) h.faults).0
prism_read_again one alike text file (g, spells, same) clean f (of_tree tree read least) =
    of_clean tree (subst IsClean (one text g tree spells read.spells) (alike file g (sym same) clean)) f least

-- ---- JANI
-- each front of a JSON text begins one
front_begins : (text : List ℕ) (x : Json) (tokens : List Mark) → IsJson text x tokens → (i : ℕ) → BeginsJson (take i text)
front_begins text x tokens j i = record { behind = drop i text; tree = x; tokens = tokens; spells = subst (λ w. IsJson w x tokens) (sym (take-append-drop i text)) j }

no_syntax_fault : (text : List ℕ) (x : Json) (tokens : List Mark) → IsJson text x tokens → (i : ℕ) → IsSyntaxFault text i → ⊥
no_syntax_fault text x tokens j i f = by_place (le_or (length text) i)
  where
    le_or : (a b : ℕ) → (b < a) ⊎ (a ≡ b) ⊎ (a < b)
    le_or a b = grind arith

    by_place : (i < length text) ⊎ (length text ≡ i) ⊎ (length text < i) → ⊥
    by_place (inl l) = f.byte l (front_begins text x tokens j (i + 1))
    by_place (inr (inl e)) = f.end (sym e) x tokens j
    by_place (inr (inr l)) = let w = f.within in omega (arith, w, l)

of_json_fault : (text : List ℕ) (x : Json) (tokens : List Mark) → IsJson text x tokens → (i : ℕ) (r : Reason) → IsFault text i r → IsTokenFault text i r
of_json_fault text x tokens j i r (inl f) = absurd (no_syntax_fault text x tokens j i f.0)
of_json_fault text x tokens j i r (inr f) = f

pub jani_read_again : PlacesAside → JaniReadAgain
jani_read_again aside text file spells shaped checked f (of_json h) =
    of_json_fault text shaped.spelled.0 shaped.spelled.1 shaped.spelled.2 f.at f.reason h.fault
jani_read_again aside text file spells shaped checked f (of_shape value whole least) =
    absurd (no_least (shape_faults F.Model (node value)) f (shaped.faultless value whole.tokens whole.spells) least)
jani_read_again aside text file spells shaped checked f (of_model value tree read least) =
    let same = spells.only tree (value, read.whole.tokens, read.whole.spells, read.spells) in
    absurd (no_least (jani_faults tree) f (aside file tree (sym same) checked).clean least)

-- what spells the canonical value of a tree whose names are short has no fault of shape
pub shaped : (f : jani.File) (x : Json) (text : List ℕ) → IsWritable f → FileShort f → node x ≡ file_node f → SpellsValue text x → IsShaped text
shaped f x text ready names e s =
    record {
      value = x;
      spelled = s;
      clean = clean_value f x e ready;
      faultless = λ other tokens j.
          let one : other ≡ s.0 = (one_value text other s.0 tokens s.1 j s.2).0 in
          (reads_back f x other ready names e (ap bare one ∙ s.3)).shape;
    }
