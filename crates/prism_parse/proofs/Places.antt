-- The fault of kept tokens, from the number of those that are left.
use Rattle.std.proofs.Common.{arith, ◌≡◌, ℕ, ◌-◌, Bool, List, [], ◌∷◌, ◌++◌, length, map, take, drop, refl, sym, ap, subst, ◌∙◌}
use Rattle.std.specs.Prelude.{Some, None, slice_get}
use Rattle.std.proofs.lemmas.List.{map-append, length-append, length-drop, length-map, take-append-drop}
use Rattle.bridge_io.specs.declared.reason.Reason.{Reason}
use Rattle.bridge_io.specs.declared.reason.Reason.TheVariants.{Syntax}
use Rattle.prism_lex.specs.Tokens.{Lexeme}
use Rattle.prism_tree.specs.Faults.{IsGrammarFault}
use Rattle.prism_exprs.specs.declared.tokens.Cause.{Cause}
use Rattle.prism_exprs.specs.declared.tokens.Found.{Found}
use Rattle.prism_exprs.specs.declared.tokens.Literal.{Literal}
use Rattle.prism_exprs.specs.Kept.{lexeme_at}
use Rattle.prism_items.specs.Files.{Refuses}
use Rattle.prism_parse.specs.Reasons.{form_reason, kept_reason, unless_deep, is_left_out_name, ends_with}
use Rattle.prism_parse.proofs.Told.{ends_last}
use Rattle.prism_parse.proofs.Stopped.{parts_same, token_fault, end_fault}
use Rattle.prism_parse.proofs.Seen.{reason_kept}
use Rattle.prism_exprs.proofs.Keeping.{place_kept}

pub ends_seen : (view : Found → Lexeme) (p : Lexeme → Bool) (found front : List Found) (last : Found) → found ≡ front ++ last ∷ [] → ends_with p (map view found) ≡ p (view last)
ends_seen view p found front last e = ap (λ (fs : List Found). ends_with p (map view fs)) e ∙ ap (ends_with p) (map-append view front (last ∷ [])) ∙ ends_last p (map view front) (view last)

pub none_left : {X : Type 0} (xs : List X) → None ≡ slice_get xs 0 → xs ≡ []
none_left [] e = refl
none_left (x ∷ xs) e = absurd cc

pub some_left : {X : Type 0} (xs : List X) (x : X) → Some x ≡ slice_get xs 0 → (ys : List X) × (xs ≡ x ∷ ys)
some_left [] x e = absurd cc
some_left (y ∷ ys) x e = (ys, cc)

-- the tokens before those that are left, and these
pub cut_where_left : (view : Found → Lexeme) (found : List Found) (left place : ℕ) (before rest : List Lexeme) → place ≡ length found - left → length rest ≡ left → map view found ≡ before ++ rest → (map view (take place found) ≡ before) × (map view (drop place found) ≡ rest)
cut_where_left view found left place before rest is size parts =
    let whole : map view (take place found) ++ map view (drop place found) ≡ map view found = sym (map-append view (take place found) (drop place found)) ∙ ap (map view) (take-append-drop place found) in
    let a = ap length parts in
    let b = length-append before rest in
    let d = length-map found view in
    parts_same (map view (take place found)) (map view (drop place found)) before rest (whole ∙ parts) (length-map (drop place found) view ∙ length-drop place found ∙ omega arith)

module _ (end : ℕ) (bytes : List ℕ) (literals : List Literal) (found : List Found) (left place : ℕ) (rest : List Lexeme) (c : Cause) (is : place ≡ length found - left) (size : length rest ≡ left) where
  abbrev view : Found → Lexeme
  view = lexeme_at bytes literals

  module _ (stop : Refuses end (map view found) rest c) where
    split : (map view (take place found) ≡ stop.before) × (map view (drop place found) ≡ rest)
    split = cut_where_left view found left place stop.before rest is size stop.parts

    pub fault_at_end : None ≡ slice_get (drop place found) 0 → IsGrammarFault end (map view found) (record { reason = Syntax; at = end })
    fault_at_end e = end_fault end (map view found) rest c stop (sym split.1 ∙ ap (map view) (none_left (drop place found) e))

    pub fault_at_token : (first : Found) (called : Bool) (reason : Reason) → Some first ≡ slice_get (drop place found) 0 → called ≡ ends_with is_left_out_name (map view (take place found))
        → reason ≡ unless_deep c (kept_reason c first.kind called) → IsGrammarFault end (map view found) (record { reason = reason; at = first.at })
    fault_at_token first called reason e f g =
        let r = some_left (drop place found) first e in
        let same : called ≡ ends_with is_left_out_name stop.before = f ∙ ap (ends_with is_left_out_name) split.0 in
        let told : unless_deep c (form_reason c (view first).kind (ends_with is_left_out_name stop.before)) ≡ reason =
        ap (unless_deep c) (reason_kept bytes literals first.at first.size c first.kind (ends_with is_left_out_name stop.before) ∙ ap (kept_reason c first.kind) (sym same)) ∙ sym g in
        let F : Reason → Type 0 = λ x. IsGrammarFault end (map view found) (record { reason = x; at = first.at }) in
        let G : ℕ → Type 0 = λ at. IsGrammarFault end (map view found) (record { reason = unless_deep c (form_reason c (view first).kind (ends_with is_left_out_name stop.before)); at = at }) in
        subst F told (subst G (place_kept bytes literals first.kind first.at first.size)
        (token_fault end (map view found) rest c stop (view first) (map view r.0) (sym split.1 ∙ ap (map view) r.1)))
