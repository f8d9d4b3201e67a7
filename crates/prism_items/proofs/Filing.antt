-- Whole files.
use Rattle.std.proofs.Common.{◌≡◌, ◌≢◌, ℕ, Bool, true, false, List, [], ◌∷◌, ◌++◌, Some, None, refl, sym, ap, subst, ◌∙◌, append_assoc, append-nil, length, arith, drop, map, inl, inr}
use Rattle.std.specs.Prelude.{◌⊎◌, Result, Err, IsErr, IsErrAnd}
use Rattle.std.proofs.lemmas.Result.{err_from_is_err_and}
use Rattle.prism_tree.specs.declared.syntax.PrismFile.{PrismFile}
use Rattle.std.proofs.lemmas.List.{append_cancel_right, append_cancel_left}
use Rattle.prism_lex.specs.declared.token.TokenKind.{TokenKind}
use Rattle.prism_lex.specs.declared.token.TokenKind.TheVariants as K
use Rattle.prism_lex.specs.declared.words.Reserved.TheVariants as W
use Rattle.prism_lex.specs.Tokens.{Lexeme}
use Rattle.prism_tree.specs.Syntax.{Expression, File}
use Rattle.prism_tree.specs.Lang.{Lang, token, gives, ◌>>=◌, ◌or◌, many, folding, fold_left, Begins}
use Rattle.prism_tree.specs.Grammar.{Section, word, section, with_section, with_init, init_if, items, empty, file_over}
use Rattle.prism_exprs.specs.declared.tokens.Cause.{Cause}
use Rattle.prism_exprs.specs.declared.tokens.Cause.TheVariants as C
use Rattle.prism_exprs.specs.Reading.{Ends, none, next, Dead, Reads, starts, is_kind}
use Rattle.prism_exprs.specs.declared.tokens.Stop.{Stop}
use Rattle.prism_exprs.specs.declared.tokens.Stop.TheVariants.{Memory, At}
use Rattle.prism_exprs.specs.declared.tokens.Tokens.{Tokens}
use Rattle.prism_exprs.specs.declared.tokens.Found.{Found}
use Rattle.prism_exprs.specs.Kept.{seen, lexeme_at}
use Rattle.prism_exprs.specs.Scope.{Scope, expressions, also, IsStopped, IsPassed, Halts, StopsIn}
use Rattle.prism_exprs.proofs.Laws.{IsOne, HasWord, Follows, token_follows, then_one, then_word, step_one, token_one, token_word, token_reads, none_ends, Ends-next}
use Rattle.prism_exprs.proofs.Choice.{token_opens, then_opens}
use Rattle.prism_exprs.proofs.Loops.{starts_is}
use Rattle.prism_items.specs.Parts.{in_scope}
use Rattle.prism_items.specs.Files.{file_in, plain, IsWhole, TakesItem, ItemIsCause, Refuses, FileIn}
use Rattle.prism_items.specs.Sections.{is_item, is_item_or_init, sections_from, items_from, IsBlocked, IsBehind, IsPlaced, Blocks}
use Rattle.prism_items.proofs.Leading.{Leads, begin, then_dead, then_halts, halts_by, step, step_to}
use Rattle.prism_items.proofs.Sectioning.{section_begins}
use Rattle.prism_items.proofs.Closing.{passes}
use Rattle.prism_items.proofs.Choosing.{not_here}
pub use Rattle.prism_items.proofs.Refusing.{Cut, longer, shorter, cut}
use Rattle.prism_items.proofs.Refusing.{some_next}
use Rattle.prism_items.proofs.Listing.{items_one, items_word, items_alone, items_both, item_barred}

-- ---- whole files

-- anything goes on, so that a word is all that is left
abbrev pub any : TokenKind → Bool
any k = true

end_of_any : (z : List Lexeme) → Ends any z → z ≡ []
end_of_any [] h = refl
end_of_any (t ∷ z) h = absurd cc

ends_all : (more : TokenKind → Bool) (z : List Lexeme) → Ends any z → Ends more z
ends_all more z h = let F : List Lexeme → Type 0 = λ u. Ends more u in subst F (sym (end_of_any z h)) tt

dead_any : {A : Type 0} (L : Lang A) (more : TokenKind → Bool) (u r : List Lexeme) → Dead L more u r → Dead L any u r
dead_any L more u r d other w z x n f g h = d other w z x n f g (ends_all more z h)

pub halts_any : {A : Type 0} (s : Scope) (c : Cause) (L : Lang A) (more : TokenKind → Bool) (ts r : List Lexeme) → Halts s c L more ts r → Halts s c L any ts r
halts_any s c L more ts r h = record { before = h.before; parts = h.parts; begins = h.begins; dead = λ n. dead_any L more h.before r (h.dead n); goes = h.goes }

-- what stands behind the items before the word mdp
abbrev pub kind_and_items : Scope → File → Lang File
kind_and_items s f = word W.Mdp >>= λ t. items_from f s

items_follow : (s : Scope) (more : TokenKind → Bool) → Follows is_item_or_init (kind_and_items s) more
items_follow s more = token_follows is_item_or_init (K.Word W.Mdp) (λ f t. items_from f s) more refl

kind_word : (s : Scope) (f : File) → HasWord (kind_and_items s f)
kind_word s f = then_word (token_word _) (λ t. items_word s f)

pub file_begin : (end : ℕ) (s : Scope) (more : TokenKind → Bool) (ts : List Lexeme) → Leads more (file_in end s) ts (items_from (empty end) s >>= kind_and_items s) ts
unfolding file_over
file_begin end s more ts = begin (file_in end s) more ts

file_one : (end : ℕ) (s : Scope) → IsOne (file_in end s) is_item_or_init
unfolding file_over
file_one end s = then_one is_item_or_init (items_one s (empty end)) (λ f. step_one _ (token_one _) (λ t. items_one s f)) (items_follow s is_item_or_init)

-- The items before the word mdp are read.
pub front_read : (end : ℕ) (s : Scope) (more : TokenKind → Bool) (f : File) (ts us : List Lexeme) → Reads (items_from (empty end) s) is_item_or_init ts f us → Leads more (file_in end s) ts (kind_and_items s f) us
front_read end s more f ts us p = step_to _ _ (file_begin end s more ts) (items_one s (empty end)) (items_follow s more) p

-- So is that word.
pub kind_read : (end : ℕ) (s : Scope) (more : TokenKind → Bool) (f : File) (ts us vs : List Lexeme) → Reads (items_from (empty end) s) is_item_or_init ts f us → starts (is_kind (K.Word W.Mdp)) us ≡ true → vs ≡ drop 1 us → Leads more (file_in end s) ts (items_from f s) vs
kind_read end s more f ts us vs p e g =
    let n = starts_is (K.Word W.Mdp) us e in
    let rest : vs ≡ n.1 = g ∙ ap (drop 1) n.2 in
    let F : List Lexeme → Type 0 = λ u. Reads (word W.Mdp) none us n.0 u in
    step _ _ (front_read end s more f ts us p) (token_one _) (subst F (sym rest) (token_reads n.0 n.1 n.2 n.3))

-- All is read.
pub whole_file : (end : ℕ) (s : Scope) (f x : File) (ts us rest : List Lexeme) → Leads any (file_in end s) ts (items_from f s) us → Reads (items_from f s) is_item_or_init us x rest → rest ≡ [] → IsWhole (file_in end s) ts x
whole_file end s f x ts us rest l p e =
    let F : List Lexeme → Type 0 = λ u. Ends any u in
    let q : Reads (items_from f s) any us x rest = record { word = p.word; parts = p.parts; spells = p.spells; ends = subst F (sym e) tt } in
    let r = l.reads x rest q in
    let all : r.word ≡ ts = sym (append-nil r.word) ∙ ap (λ (u : List Lexeme). r.word ++ u) (sym e) ∙ sym r.parts in
    let G : List Lexeme → Type 0 = λ u. file_in end s u x in
    record {
      spells = subst G all r.spells;
      only = λ y h. ((file_one end s).one ts [] ts [] y x h (subst G all r.spells) refl tt tt).1;
    }

-- ---- from every scope to what is told of the file

-- the grammar in which a variable may be an int without bounds
abbrev unbounded : Scope
unbounded = record { counted = None; int_too = true }

before_same : (b d r ts : List Lexeme) → ts ≡ b ++ r → ts ≡ d ++ r → b ≡ d
before_same b d r ts e f = append_cancel_right b d r (sym e ∙ f)

module _ (end : ℕ) (ts r : List Lexeme) (c : Cause) (h : (s : Scope) → Halts s c (file_in end s) any ts r) where
  one_before : (s : Scope) → (h s).before ≡ (h plain).before
  one_before s = before_same (h s).before (h plain).before r ts (h s).parts (h plain).parts

  stopped_dead : (s : Scope) → IsStopped c s r → Dead (file_in end s) any (h plain).before r
  stopped_dead s n = let F : List Lexeme → Type 0 = λ u. Dead (file_in end s) any u r in subst F (one_before s) ((h s).dead n)

  at_end : r ≡ [] → (s : Scope) (x : File) → file_in end s ts x → ⊥
  at_end e s x g = by_cause c refl
    where
      by_dead : IsStopped c s r → ⊥
      by_dead n = stopped_dead s n r ts [] x refl (sym (h plain).parts ∙ sym (append-nil ts)) g tt

      by_goes : (u : Scope) → IsPassed c u → ⊥
      by_goes u n = let k = (h u).goes n in let i : ◌≡◌ {A = List Lexeme} [] (k.0 ∷ k.1) = sym e ∙ k.2 in absurd cc

      by_cause : (d : Cause) → c ≡ d → ⊥
      by_cause C.Form f = let F : Cause → Type 0 = λ k. IsStopped k s r in by_dead (subst F (sym f) tt)
      by_cause C.Item f = let F : Cause → Type 0 = λ k. IsStopped k s r in by_dead (subst F (sym f) tt)
      by_cause C.Deep f = let F : Cause → Type 0 = λ k. IsPassed k plain in by_goes plain (subst F (sym f) refl)
      by_cause C.Type f = let F : Cause → Type 0 = λ k. IsPassed k unbounded in by_goes unbounded (subst F (sym f) refl)

  pub refuses : ItemIsCause c end (h plain).before → Refuses end ts r c
  refuses item = record {
    before = (h plain).before;
    parts = (h plain).parts;
    begins = λ s. let F : List Lexeme → Type 0 = λ u. Begins (file_in end s) u in subst F (one_before s) (h s).begins;
    ends = at_end;
    first = λ s n t others e b.
        stopped_dead s n (t ∷ b.0) ((h plain).before ++ (t ∷ b.0)) [] b.1 (ap next (sym e)) (sym (append-nil ((h plain).before ++ (t ∷ b.0))))
        (let F : List Lexeme → Type 0 = λ u. file_in end s u b.1 in subst F (append_assoc (h plain).before (t ∷ []) b.0) b.2) tt;
    goes = λ s n.
        let k = (h s).goes n in
        let F : List Lexeme → Type 0 = λ u. Begins (file_in end s) (u ++ k.0 ∷ []) in
        (k.0, k.1, k.2, subst F (one_before s) k.3);
    item = item;
  }

-- a cause that tells that no item can stand
abbrev IsNoItem : Cause → Type 0
IsNoItem C.Item = ⊥
IsNoItem c = Unit {0}

-- Where no file goes on with the word module, no item can stand.
no_item_there : (end : ℕ) (c : Cause) (u : List Lexeme) → IsNoItem c → ((m : Lexeme) → m.kind ≡ K.Word W.Module → Dead (file_in end plain) any u (m ∷ [])) → ItemIsCause c end u
no_item_there end c u inner d = by_cause c inner
  where
    m : Lexeme
    m = record { kind = K.Word W.Module; text = []; at = 0 }

    none_goes : TakesItem (file_in end plain) u → ⊥
    none_goes t =
        let b = t m refl in
        let F : List Lexeme → Type 0 = λ v. file_in end plain v b.1 in
        d m refl (m ∷ b.0) (u ++ (m ∷ b.0)) [] b.1 refl (sym (append-nil (u ++ (m ∷ b.0)))) (subst F (append_assoc u (m ∷ []) b.0) b.2) tt

    by_cause : (c : Cause) → IsNoItem c → ItemIsCause c end u
    by_cause C.Form n = none_goes
    by_cause C.Deep n = none_goes
    by_cause C.Type n = none_goes
    by_cause C.Item n = absurd n

-- ---- where an item can stand

many_snoc : {A : Type 0} (L : Lang A) (xs : List A) (w v : List Lexeme) (x : A) → many L w xs → L v x → many L (w ++ v) (xs ++ x ∷ [])
unfolding many
many_snoc L [] w v x h g = (v, [], ap (λ (u : List Lexeme). u ++ v) h ∙ sym (append-nil v), g, refl)
many_snoc L (y ∷ xs) w v x h g = (h.0, h.1 ++ v, ap (λ (u : List Lexeme). u ++ v) h.2 ∙ append_assoc h.0 h.1 v, h.3, many_snoc L xs h.1 v x h.4 g)

fold_snoc : {S A : Type 0} (f : S → A → S) (xs : List A) (s : S) (x : A) → fold_left f s (xs ++ x ∷ []) ≡ f (fold_left f s xs) x
fold_snoc f [] s x = refl
fold_snoc f (y ∷ xs) s x = fold_snoc f xs (f s y) x

-- one item more behind others
sections_more : (s : Scope) (f g : File) (w v : List Lexeme) (x : Section) → sections_from f s w g → in_scope section s v x → sections_from f s (w ++ v) (with_section g x)
unfolding folding ◌>>=◌ gives
sections_more s f g w v x h k =
    let all : h.1 ≡ w = sym (append-nil h.1) ∙ ap (λ (u : List Lexeme). h.1 ++ u) (sym h.5.0) ∙ sym h.3 in
    let F : List Lexeme → Type 0 = λ u. many (in_scope section s) u h.0 in (
      h.0 ++ x ∷ [],
      w ++ v,
      [],
      sym (append-nil (w ++ v)),
      many_snoc (in_scope section s) h.0 w v x (subst F all h.4) k,
      (refl, ap (λ (y : File). with_section y x) h.5.1 ∙ sym (fold_snoc with_section h.0 f x)),
    )

items_more : (s : Scope) (f g : File) (w v : List Lexeme) (x : Section) → items_from f s w g → in_scope section s v x → items_from f s (w ++ v) (with_section g x)
unfolding items ◌>>=◌ ◌or◌ gives
items_more s f g w v x h k = go h.0 h.1 h.2 h.3 h.4 h.5
  where
    go : (d : File) (a b : List Lexeme) → w ≡ a ++ b → sections_from f s a d → ((b ≡ []) × (g ≡ d)) ⊎ ((e : Expression) × (p q : List Lexeme) × (b ≡ p ++ q) × init_if (expressions s) (also s) d.init p e × sections_from (with_init d e) s q g) →
        items_from f s (w ++ v) (with_section g x)
    go d a b e i (inl j) =
        let all : w ≡ a = e ∙ ap (λ (u : List Lexeme). a ++ u) j.0 ∙ append-nil a in
        let F : List Lexeme → Type 0 = λ u. items_from f s (u ++ v) (with_section g x) in
        let G : File → Type 0 = λ u. items_from f s (a ++ v) (with_section u x) in
        subst F (sym all) (subst G (sym j.1) (items_alone s f (with_section d x) (a ++ v) (sections_more s f d a v x i k)))
    go d a b e i (inr j) =
        let all : w ++ v ≡ a ++ (j.1 ++ (j.2 ++ v)) = ap (λ (u : List Lexeme). u ++ v) (e ∙ ap (λ (u : List Lexeme). a ++ u) j.3) ∙ append_assoc a (j.1 ++ j.2) v ∙ ap (λ (u : List Lexeme). a ++ u) (append_assoc j.1 j.2 v) in
        let F : List Lexeme → Type 0 = λ u. items_from f s u (with_section g x) in
        subst F (sym all) (items_both s f d (with_section g x) j.0 a j.1 (j.2 ++ v) i j.4 (sections_more s (with_init d j.0) g j.2 v x j.5 k))

no_items : (s : Scope) (f : File) → items_from f s [] f
unfolding folding ◌>>=◌ many gives
no_items s f = items_alone s f f [] ([], [], [], refl, refl, (refl, refl))

item_kind : (t : Lexeme) → t.kind ≡ K.Word W.Module → is_item t.kind ≡ true
item_kind t e = passes is_item (K.Word W.Module) true refl t.kind e

kind_token : Lexeme
kind_token = record { kind = K.Word W.Mdp; text = []; at = 0 }

-- before the word mdp
front_takes : (end : ℕ) (f : File) (w : List Lexeme) → items_from (empty end) plain w f → TakesItem (file_in end plain) w
unfolding file_over ◌>>=◌ token kind_token
front_takes end f w h t e =
    let b = section_begins plain t (item_kind t e) in
    let v : List Lexeme = b.0 ++ kind_token ∷ [] in
    let g : File = with_section f b.1 in
    let part : List Lexeme = w ++ (t ∷ b.0) in (
      v,
      g,
      (
        g,
        part,
        kind_token ∷ [],
        append_assoc w (t ∷ []) v ∙ sym (append_assoc w (t ∷ b.0) (kind_token ∷ [])),
        items_more plain (empty end) f w (t ∷ b.0) b.1 h b.2,
        (kind_token, kind_token ∷ [], [], refl, (refl, refl), no_items plain g),
      ),
    )

-- behind it
file_more : (end : ℕ) (s : Scope) (w v : List Lexeme) (x : File) (y : Section) → file_in end s w x → in_scope section s v y → file_in end s (w ++ v) (with_section x y)
unfolding file_over ◌>>=◌
file_more end s w v x y h k =
    let d = h.5 in (
      h.0,
      h.1,
      h.2 ++ v,
      ap (λ (u : List Lexeme). u ++ v) h.3 ∙ append_assoc h.1 h.2 v,
      h.4,
      (d.0, d.1, d.2 ++ v, ap (λ (u : List Lexeme). u ++ v) d.3 ∙ append_assoc d.1 d.2 v, d.4, items_more s h.0 x d.2 v y d.5 k),
    )

back_takes : (end : ℕ) (x : File) (w : List Lexeme) → file_in end plain w x → TakesItem (file_in end plain) w
back_takes end x w h t e =
    let b = section_begins plain t (item_kind t e) in
    let F : List Lexeme → Type 0 = λ u. file_in end plain u (with_section x b.1) in
    (b.0, with_section x b.1, subst F (sym (append_assoc w (t ∷ []) b.0)) (file_more end plain w (t ∷ b.0) x b.1 h b.2))

takes_same : (L : Lang File) (a b : List Lexeme) → a ≡ b → TakesItem L a → TakesItem L b
takes_same L a b e h = let F : List Lexeme → Type 0 = λ u. TakesItem L u in subst F e h

-- neither an item nor the word mdp stands there
pub front_missing : (end : ℕ) (f : File) (ts us : List Lexeme) → ((s : Scope) → Reads (items_from (empty end) s) is_item_or_init ts f us) → starts (is_kind (K.Word W.Mdp)) us ≡ false → Refuses end ts us C.Item
front_missing end f ts us p e =
    let k : (s : Scope) → Halts s C.Item (file_in end s) any ts us = λ s. halts_by s C.Item us (front_read end s any f ts us (p s)) (item_barred (kind_and_items s f) any us s (kind_word s f) (not_here _ any (K.Word W.Mdp) us (then_opens _ _ (token_opens _)) refl e)) in
    refuses end ts us C.Item k (takes_same (file_in end plain) (p plain).word (k plain).before (before_same (p plain).word (k plain).before us ts (p plain).parts (k plain).parts) (front_takes end f (p plain).word (p plain).spells))

-- behind the last item stands what begins none
pub back_missing : (end : ℕ) (f x : File) (ts us rest : List Lexeme) (t : Lexeme) (others : List Lexeme) → ((s : Scope) → Leads is_item_or_init (file_in end s) ts (items_from f s) us) → ((s : Scope) → Reads (items_from f s) is_item_or_init us x rest) → rest ≡ t ∷ others → Refuses end ts rest C.Item
back_missing end f x ts us rest t others l p e =
    let r : (s : Scope) → Reads (file_in end s) is_item_or_init ts x rest = λ s. (l s).reads x rest (p s) in
    let k : (s : Scope) → Halts s C.Item (file_in end s) any ts rest = λ s. record {
      before = (r s).word;
      parts = (r s).parts;
      begins = ([], x, let F : List Lexeme → Type 0 = λ u. file_in end s u x in subst F (sym (append-nil (r s).word)) (r s).spells);
      dead = λ n other w z y g h i j. no_longer s (r s).word other w z y g h (r s).spells i j (Ends-next is_item_or_init rest other g (r s).ends);
      goes = λ n. absurd n;
    } in
    refuses end ts rest C.Item k (back_takes end x (r plain).word (r plain).spells)
  where
    no_longer : (s : Scope) (word other w z : List Lexeme) (y : File) → next other ≡ next rest → word ++ other ≡ w ++ z → file_in end s word x → file_in end s w y → Ends any z → Ends is_item_or_init other → ⊥
    no_longer s word other w z y g h a b i j =
        let z_none : z ≡ [] = end_of_any z i in
        let same : word ≡ w = ((file_one end s).one word other w z x y a b h j (ends_all is_item_or_init z i)).0 in
        let other_none : other ≡ [] = append_cancel_left w other [] (ap (λ (u : List Lexeme). u ++ other) (sym same) ∙ h ∙ ap (λ (u : List Lexeme). w ++ u) z_none) in
        let some : next other ≡ Some t = g ∙ ap next e in
        let none' : next other ≡ None = ap next other_none in
        absurd cc

-- ---- where reading stops among items

-- refused among the items before the word mdp
front_refused : (end : ℕ) (ts r : List Lexeme) (c : Cause) → ((s : Scope) → Halts s c (items_from (empty end) s) is_item_or_init ts r) → IsPlaced c (items_from (empty end) plain) is_item_or_init ts r → Refuses end ts r c
unfolding file_over
front_refused end ts r c h p = refuses end ts r c k (by_cause c refl)
  where
    k : (s : Scope) → Halts s c (file_in end s) any ts r
    k s = then_halts (items_from (empty end) s) (kind_and_items s) s c (kind_word s) (items_follow s any) (h s)

    inside_item : IsNoItem c → IsBlocked (items_from (empty end) plain) is_item_or_init ts r → ItemIsCause c end (k plain).before
    inside_item inner b = no_item_there end c (k plain).before inner (λ m e.
        let F : List Lexeme → Type 0 = λ u. Dead (file_in end plain) any u (m ∷ []) in
        subst F (before_same b.before (k plain).before r ts b.parts (k plain).parts) (then_dead (items_from (empty end) plain) (kind_and_items plain) b.before (m ∷ []) (items_follow plain any) (b.dead m e)))

    by_cause : (d : Cause) → c ≡ d → ItemIsCause c end (k plain).before
    by_cause C.Form e = let F : Cause → Type 0 = λ d. IsPlaced d (items_from (empty end) plain) is_item_or_init ts r in let G : Cause → Type 0 = λ d. IsNoItem d in inside_item (subst G (sym e) tt) (subst F e p)
    by_cause C.Deep e = let F : Cause → Type 0 = λ d. IsPlaced d (items_from (empty end) plain) is_item_or_init ts r in let G : Cause → Type 0 = λ d. IsNoItem d in inside_item (subst G (sym e) tt) (subst F e p)
    by_cause C.Type e = let F : Cause → Type 0 = λ d. IsPlaced d (items_from (empty end) plain) is_item_or_init ts r in let G : Cause → Type 0 = λ d. IsNoItem d in inside_item (subst G (sym e) tt) (subst F e p)
    by_cause C.Item e =
        let F : Cause → Type 0 = λ d. IsPlaced d (items_from (empty end) plain) is_item_or_init ts r in
        let G : Cause → Type 0 = λ d. ItemIsCause d end (k plain).before in
        let b = subst F e p in
        subst G (sym e) (takes_same (file_in end plain) b.before (k plain).before (before_same b.before (k plain).before r ts b.parts (k plain).parts) (front_takes end b.file b.before b.spells))

-- refused among the items behind it
back_refused : (end : ℕ) (f : File) (ts us r : List Lexeme) (c : Cause) → ((s : Scope) (more : TokenKind → Bool) → Leads more (file_in end s) ts (items_from f s) us) → ((s : Scope) → Halts s c (items_from f s) is_item_or_init us r) →
    IsPlaced c (items_from f plain) is_item_or_init us r → Refuses end ts r c
back_refused end f ts us r c l h p = refuses end ts r c k (by_cause c refl)
  where
    k : (s : Scope) → Halts s c (file_in end s) any ts r
    k s = halts_by s c r (l s any) (halts_any s c _ is_item_or_init us r (h s))

    m : Leads any (file_in end plain) ts (items_from f plain) us
    m = l plain any

    inside_item : IsNoItem c → IsBlocked (items_from f plain) is_item_or_init us r → ItemIsCause c end (k plain).before
    inside_item inner b =
        let q : ts ≡ (m.front ++ b.before) ++ r = m.parts ∙ ap (λ (u : List Lexeme). m.front ++ u) b.parts ∙ sym (append_assoc m.front b.before r) in
        no_item_there end c (k plain).before inner (λ t e.
        let F : List Lexeme → Type 0 = λ u. Dead (file_in end plain) any u (t ∷ []) in
        subst F (before_same (m.front ++ b.before) (k plain).before r ts q (k plain).parts)
        (m.dead b.before (t ∷ []) (some_next b.before (t ∷ []) r b.some ∙ ap next (sym b.parts)) (dead_any (items_from f plain) is_item_or_init b.before (t ∷ []) (b.dead t e))))

    behind_items : IsBehind (items_from f plain) us r → TakesItem (file_in end plain) (k plain).before
    behind_items b =
        let q = (l plain none).reads b.file r (record { word = b.before; parts = b.parts; spells = b.spells; ends = none_ends r }) in
        takes_same (file_in end plain) q.word (k plain).before (before_same q.word (k plain).before r ts q.parts (k plain).parts) (back_takes end b.file q.word q.spells)

    by_cause : (d : Cause) → c ≡ d → ItemIsCause c end (k plain).before
    by_cause C.Form e = let F : Cause → Type 0 = λ d. IsPlaced d (items_from f plain) is_item_or_init us r in let G : Cause → Type 0 = λ d. IsNoItem d in inside_item (subst G (sym e) tt) (subst F e p)
    by_cause C.Deep e = let F : Cause → Type 0 = λ d. IsPlaced d (items_from f plain) is_item_or_init us r in let G : Cause → Type 0 = λ d. IsNoItem d in inside_item (subst G (sym e) tt) (subst F e p)
    by_cause C.Type e = let F : Cause → Type 0 = λ d. IsPlaced d (items_from f plain) is_item_or_init us r in let G : Cause → Type 0 = λ d. IsNoItem d in inside_item (subst G (sym e) tt) (subst F e p)
    by_cause C.Item e =
        let F : Cause → Type 0 = λ d. IsPlaced d (items_from f plain) is_item_or_init us r in
        let G : Cause → Type 0 = λ d. ItemIsCause d end (k plain).before in
        subst G (sym e) (behind_items (subst F e p))

-- ---- what a file's reader returned

pub front_stops : (end : ℕ) (ts : List Lexeme) (e : Stop) → ((s : Scope) → StopsIn s (items_from (empty end) s) is_item_or_init ts e) → Blocks (items_from (empty end) plain) is_item_or_init ts (Err e) → FileIn end ts (Err e)
front_stops end ts Memory h b = tt
front_stops end ts (At r c) h b = front_refused end ts (seen r) c h b

pub back_stops : (end : ℕ) (f : File) (ts us : List Lexeme) (e : Stop) → ((s : Scope) (more : TokenKind → Bool) → Leads more (file_in end s) ts (items_from f s) us) → ((s : Scope) → StopsIn s (items_from f s) is_item_or_init us e) → Blocks (items_from f plain) is_item_or_init us (Err e) → FileIn end ts (Err e)
back_stops end f ts us Memory l h b = tt
back_stops end f ts us (At r c) l h b = back_refused end f ts us (seen r) c l h b

pub leaves_file : (end : ℕ) (ts : List Lexeme) (r : Result PrismFile Stop) (e : Stop) → IsErr r × IsErrAnd r (λ x. x ≡ e) → FileIn end ts (Err e) → FileIn end ts r
leaves_file end ts r e h p =
    let q = err_from_is_err_and r h.1 in
    rw (q.1, q.2) p

-- the file that the reader begins with
pub front_from : (end : ℕ) (g : File) (ts : List Lexeme) (e : Stop) → g ≡ empty end → ((s : Scope) → StopsIn s (items_from g s) is_item_or_init ts e) → (s : Scope) → StopsIn s (items_from (empty end) s) is_item_or_init ts e
front_from end g ts e h p s = let F : File → Type 0 = λ f. StopsIn s (items_from f s) is_item_or_init ts e in subst F h (p s)

pub front_blocks : (end : ℕ) (g : File) (ts : List Lexeme) (e : Stop) → g ≡ empty end → Blocks (items_from g plain) is_item_or_init ts (Err e) → Blocks (items_from (empty end) plain) is_item_or_init ts (Err e)
front_blocks end g ts e h p = let F : File → Type 0 = λ f. Blocks (items_from f plain) is_item_or_init ts (Err e) in subst F h p

pub front_reads : (end : ℕ) (g x : File) (ts us : List Lexeme) → g ≡ empty end → ((s : Scope) → Reads (items_from g s) is_item_or_init ts x us) → (s : Scope) → Reads (items_from (empty end) s) is_item_or_init ts x us
front_reads end g x ts us h p s = let F : File → Type 0 = λ f. Reads (items_from f s) is_item_or_init ts x us in subst F h (p s)

-- whether tokens are left
pub some_left : (r : Tokens) → length r.found.now ≢ 0 → (t : Lexeme) × (others : List Lexeme) × (seen r ≡ t ∷ others)
some_left r h = by_list (λ f. lexeme_at r.source.now.bytes.now r.source.now.literals.now f) r.found.now h
  where
    by_list : (f : Found → Lexeme) (xs : List Found) → length xs ≢ 0 → (t : Lexeme) × (others : List Lexeme) × (map f xs ≡ t ∷ others)
    by_list f [] h = absurd (h refl)
    by_list f (x ∷ xs) h = (f x, map f xs, refl)

pub none_left : (r : Tokens) → length r.found.now ≡ 0 → seen r ≡ []
none_left r h = by_list (λ f. lexeme_at r.source.now.bytes.now r.source.now.literals.now f) r.found.now h
  where
    by_list : (f : Found → Lexeme) (xs : List Found) → length xs ≡ 0 → map f xs ≡ []
    by_list f [] h = refl
    by_list f (x ∷ xs) h = absurd (omega (arith, h))
