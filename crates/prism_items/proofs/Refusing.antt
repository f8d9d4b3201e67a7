-- Where reading stops inside an item, no other could stand.
use Rattle.std.proofs.Common.{◌≡◌, ◌≢◌, ℕ, Bool, true, false, List, [], ◌∷◌, ◌++◌, Option, Some, None, refl, sym, ap, subst, ◌∙◌, append_assoc, append-nil, length, arith, drop, map, inl, inr}
use Rattle.std.specs.Prelude.{Err}
use Rattle.std.proofs.lemmas.List.{length-append, append_cancel_left}
use Rattle.prism_lex.specs.declared.token.TokenKind.{TokenKind}
use Rattle.prism_lex.specs.declared.token.TokenKind.TheVariants as K
use Rattle.prism_lex.specs.declared.words.Reserved.TheVariants as W
use Rattle.prism_lex.specs.Tokens.{Lexeme}
use Rattle.prism_tree.specs.Syntax.{File}
use Rattle.prism_tree.specs.Lang.{Lang, ◌>>=◌, Begins}
use Rattle.prism_tree.specs.Grammar.{Section, section, with_section, init_item, items}
use Rattle.prism_exprs.specs.declared.tokens.Cause.{Cause}
use Rattle.prism_exprs.specs.declared.tokens.Cause.TheVariants as C
use Rattle.prism_exprs.specs.Reading.{none, next, Dead, starts, is_kind}
use Rattle.prism_exprs.specs.declared.tokens.Stop.{Stop}
use Rattle.prism_exprs.specs.declared.tokens.Stop.TheVariants.{Memory, At}
use Rattle.prism_exprs.specs.Kept.{seen}
use Rattle.prism_exprs.specs.Scope.{Scope, IsStopped, IsPassed, GoesOn, Halts, StopsIn}
use Rattle.prism_exprs.proofs.Laws.{IsOne, none_ends, none_follows}
use Rattle.prism_exprs.proofs.Loops.{starts_cons}
use Rattle.prism_items.specs.Parts.{in_scope}
use Rattle.prism_items.specs.Files.{plain}
use Rattle.prism_items.specs.Sections.{is_item, sections_from, inside_cause, inside, IsBlocked, IsPlaced, Blocks}
use Rattle.prism_items.proofs.Leading.{Leads, leads_on, another, then_dead}
use Rattle.prism_items.proofs.Declaring.{init_one}
use Rattle.prism_items.proofs.Sectioning.{Behind, section_one, section_b, section_begins, init_b, init_begins}
use Rattle.prism_items.proofs.Lacking.{Free, free_inside}

-- ---- where an item was refused

-- a scope that is stopped there
stopping : Cause → List Lexeme → Scope
stopping C.Form r = plain
stopping C.Item r = plain
stopping C.Type r = plain
stopping C.Deep r = record { counted = Some r; int_too = false }

is_stopping : (c : Cause) (t : Lexeme) (r : List Lexeme) → IsStopped c (stopping c (t ∷ r)) (t ∷ r)
unfolding stopping
is_stopping C.Form t r = tt
is_stopping C.Item t r = tt
is_stopping C.Type t r = refl
is_stopping C.Deep t r = search Rattle.std.proofs.Common.rules

-- Of two ways to cut a list, one cuts later.
pub data Cut (a b c d : List Lexeme) : Type 0 where
  longer : (p : Lexeme) (q : List Lexeme) → c ≡ a ++ p ∷ q → b ≡ (p ∷ q) ++ d → Cut a b c d
  shorter : (q : List Lexeme) → a ≡ c ++ q → d ≡ q ++ b → Cut a b c d

pub cut : (a b c d : List Lexeme) → a ++ b ≡ c ++ d → Cut a b c d
cut [] b [] d e = shorter [] refl (sym e)
cut [] b (p ∷ q) d e = longer p q refl e
cut (t ∷ a) b [] d e = shorter (t ∷ a) refl (sym e)
cut (t ∷ a) b (u ∷ c) d e = go (cut a b c d (append_cancel_left (t ∷ []) (a ++ b) (c ++ d) (e ∙ ap (λ (x : Lexeme). x ∷ (c ++ d)) (sym same))))
  where
    same : t ≡ u
    same = cc

    go : Cut a b c d → Cut (t ∷ a) b (u ∷ c) d
    go (longer p q f g) = longer p q (ap (λ (x : Lexeme). x ∷ c) (sym same) ∙ ap (λ (x : List Lexeme). t ∷ x) f) g
    go (shorter q f g) = shorter q (ap (λ (x : List Lexeme). t ∷ x) f ∙ ap (λ (x : Lexeme). x ∷ (c ++ q)) same) g

nothing_before : (us b r : List Lexeme) → us ≡ b ++ r → us ≡ r → b ≡ []
nothing_before us [] r e f = refl
nothing_before us (t ∷ b) r e f = absurd (omega (arith, ap length (sym f ∙ e), length-append b r))

pub some_next : (u a b : List Lexeme) → u ≢ [] → next (u ++ a) ≡ next (u ++ b)
some_next [] a b some = absurd (some refl)
some_next (t ∷ u) a b some = refl

pub second_empty : (a b : List Lexeme) → a ++ b ≡ [] → b ≡ []
second_empty [] b e = e
second_empty (t ∷ a) b e = absurd cc

-- items that each begin with a word of their own, and in which the word module stands nowhere else
pub record AreItems {A : Type 0} (L : Scope → Lang A) (first : TokenKind → Bool) : Type 0 where
  pub one : (s : Scope) → IsOne (L s) none
  pub behind : (s : Scope) → Behind (L s)
  pub begins : (s : Scope) (t : Lexeme) → first t.kind ≡ true → Begins (L s) (t ∷ [])

sections_items : AreItems (in_scope section) is_item
sections_items = record { one = section_one; behind = section_b; begins = section_begins }

pub init_items : AreItems (in_scope init_item) (is_kind (K.Word W.Init))
init_items = record { one = init_one; behind = init_b; begins = init_begins }

module _ {A : Type 0} (L : Scope → Lang A) (first : TokenKind → Bool) (items : AreItems L first) (c : Cause) (us r : List Lexeme) (h : (s : Scope) → Halts s c (L s) none us r) where
  abbrev pub refused_part : List Lexeme
  refused_part = (h plain).before

  first_read : (t : Lexeme) (v : List Lexeme) → us ≡ t ∷ v → first t.kind ≡ true → us ≡ r → ⊥
  first_read t v e i f =
      let at : r ≡ t ∷ v = sym f ∙ e in
      let s : Scope = stopping c (t ∷ v) in
      let F : List Lexeme → Type 0 = λ u. IsStopped c s u in
      let stopped : IsStopped c s r = subst F (sym at) (is_stopping c t v) in
      let d = (h s).dead stopped in
      let none_before : (h s).before ≡ [] = nothing_before us (h s).before r (h s).parts f in
      let b = items.begins s t i in
      d (t ∷ b.0) (t ∷ b.0) [] b.1 (ap next (sym at)) (ap (λ (u : List Lexeme). u ++ t ∷ b.0) none_before ∙ sym (append-nil (t ∷ b.0))) b.2 tt

  pub refused_some : starts first us ≡ true → refused_part ≢ []
  refused_some e none_part =
      let n = starts_cons first us e in
      first_read n.0 n.1 n.2 n.3 ((h plain).parts ∙ ap (λ (u : List Lexeme). u ++ r) none_part)

  -- A whole item does not stand before the place.
  not_whole : (w q : List Lexeme) (x : A) → refused_part ≡ w ++ q → L plain w x → ⊥
  not_whole w q x e g = by_cause c refl
    where
      by_dead : IsStopped c plain r → ⊥
      by_dead stopped =
          (h plain).dead stopped r w (q ++ r) x refl (ap (λ (u : List Lexeme). u ++ r) e ∙ append_assoc w q r) g (none_ends (q ++ r))

      by_one : GoesOn (L plain) refused_part r → ⊥
      by_one n =
          let t = n.0 in
          let b = n.3 in
          let long : List Lexeme = (refused_part ++ t ∷ []) ++ b.0 in
          let same = (items.one plain).one w (q ++ (t ∷ b.0)) long [] x b.1 g b.2
          (sym (append_assoc w q (t ∷ b.0)) ∙ ap (λ (u : List Lexeme). u ++ t ∷ b.0) (sym e) ∙ sym (append_assoc refused_part (t ∷ []) b.0) ∙ sym (append-nil long)) (none_ends (q ++ (t ∷ b.0))) tt in
          let k : length w ≡ length long = ap length same.0 in
          let m : length refused_part ≡ length (w ++ q) = ap length e in
          absurd (omega (arith, k, m, length-append w q, length-append (refused_part ++ t ∷ []) b.0, length-append refused_part (t ∷ [])))

      by_cause : (d : Cause) → c ≡ d → ⊥
      by_cause C.Form f = let F : Cause → Type 0 = λ k. IsStopped k plain r in by_dead (subst F (sym f) tt)
      by_cause C.Item f = let F : Cause → Type 0 = λ k. IsStopped k plain r in by_dead (subst F (sym f) tt)
      by_cause C.Type f = let F : Cause → Type 0 = λ k. IsStopped k plain r in by_dead (subst F (sym f) refl)
      by_cause C.Deep f = let F : Cause → Type 0 = λ k. IsPassed k plain in by_one ((h plain).goes (subst F (sym f) refl))

  -- Nor does one go on with the word module.
  pub no_module : starts first us ≡ true → (m : Lexeme) → m.kind ≡ K.Word W.Module → Dead (L plain) none refused_part (m ∷ [])
  no_module e m k other w z x n f g i = by_cut refused_part refl (refused_some e) (cut refused_part other w z f)
    where
      inside_word : (t : Lexeme) (b : List Lexeme) (p : Lexeme) (q : List Lexeme) → w ≡ (t ∷ b) ++ p ∷ q → p.kind ≡ K.Word W.Module → ⊥
      inside_word t b p q j l =
          let s = (items.behind plain).split w x g in
          let v : s.1 ≡ b ++ p ∷ q = append_cancel_left (t ∷ []) s.1 (b ++ p ∷ q) (ap (λ (u : Lexeme). u ∷ s.1) (head (sym j ∙ s.2)) ∙ sym s.2 ∙ j) in
          let F : List Lexeme → Type 0 = λ u. Free (K.Word W.Module) u in
          free_inside (K.Word W.Module) b q p (subst F v s.3) l
        where
          head : {a c : Lexeme} {b d : List Lexeme} → a ∷ b ≡ c ∷ d → a ≡ c
          head e = cc

      by_cut : (b : List Lexeme) → refused_part ≡ b → b ≢ [] → Cut refused_part other w z → ⊥
      by_cut [] j some u = some refl
      by_cut (t ∷ b) j some (longer p q l o) =
          let same : p ≡ m = some_is (ap next (sym o) ∙ n) in
          inside_word t b p q (l ∙ ap (λ (u : List Lexeme). u ++ p ∷ q) j) (ap (λ (u : Lexeme). u.kind) same ∙ k)
        where
          some_is : {a b : Lexeme} → Some a ≡ Some b → a ≡ b
          some_is e = cc
      by_cut (t ∷ b) j some (shorter q l o) = not_whole w q x l g

  -- So none can stand there, where the item is read next.
  pub blocked : (K : Lang File) (M : A → Lang File) (more : TokenKind → Bool) (ts : List Lexeme) → Leads more K ts (L plain >>= M) us → starts first us ≡ true → IsBlocked K more ts r
  blocked K M more ts k e = record {
    before = k.front ++ refused_part;
    parts = k.parts ∙ ap (λ (u : List Lexeme). k.front ++ u) (h plain).parts ∙ sym (append_assoc k.front refused_part r);
    some = λ none_all. refused_some e (second_empty k.front refused_part none_all);
    dead = λ m i. k.dead refused_part (m ∷ []) (some_next refused_part (m ∷ []) r (refused_some e) ∙ ap next (sym (h plain).parts))
        (then_dead (L plain) M refused_part (m ∷ []) (none_follows M more) (no_module e m i));
  }

-- ---- an item more

pub inside_stops : (s : Scope) {A : Type 0} (L : Lang A) (more : TokenKind → Bool) (ts : List Lexeme) (e : Stop) → StopsIn s L more ts e → StopsIn s L more ts (inside e)
inside_stops s L more ts Memory h = tt
inside_stops s L more ts (At r c) h = by_cause c h
  where
    by_cause : (c : Cause) → Halts s c L more ts (seen r) → Halts s (inside_cause c) L more ts (seen r)
    by_cause C.Form h = h
    by_cause C.Deep h = h
    by_cause C.Type h = h
    by_cause C.Item h = record { before = h.before; parts = h.parts; begins = h.begins; dead = h.dead; goes = h.goes }

pub blocks : {A : Type 0} (L : Scope → Lang A) (first : TokenKind → Bool) → AreItems L first → (K : Lang File) (M : A → Lang File) (more : TokenKind → Bool) (ts us : List Lexeme) (e : Stop) → Leads more K ts (L plain >>= M) us →
    starts first us ≡ true → ((s : Scope) → StopsIn s (L s) none us e) → Blocks K more ts (Err (inside e))
blocks L first items K M more ts us Memory l i h = tt
blocks L first items K M more ts us (At r c) l i h = by_cause c h
  where
    by_cause : (c : Cause) → ((s : Scope) → Halts s c (L s) none us (seen r)) → IsPlaced (inside_cause c) K more ts (seen r)
    by_cause C.Form h = blocked L first items C.Form us (seen r) h K M more ts l i
    by_cause C.Deep h = blocked L first items C.Deep us (seen r) h K M more ts l i
    by_cause C.Type h = blocked L first items C.Type us (seen r) h K M more ts l i
    by_cause C.Item h = blocked L first items C.Item us (seen r) h K M more ts l i

pub section_blocks : (ts us : List Lexeme) (f g : File) (e : Stop) → Leads is_item (sections_from f plain) ts (sections_from g plain) us → starts is_item us ≡ true → ((s : Scope) → StopsIn s (in_scope section s) none us e) →
    Blocks (sections_from f plain) is_item ts (Err (inside e))
section_blocks ts us f g e l i h = blocks (in_scope section) is_item sections_items _ _ is_item ts us e (leads_on l (another with_section (in_scope section plain) g i)) i h

pub added : {L : Lang File} {ts us : List Lexeme} (s : Scope) (f g : File) (x : Section) → g ≡ with_section f x → Leads is_item L ts (sections_from (with_section f x) s) us → Leads is_item L ts (sections_from g s) us
added {L} {ts} {us} s f g x e l = let F : File → Type 0 = λ u. Leads is_item L ts (sections_from u s) us in subst F (sym e) l
