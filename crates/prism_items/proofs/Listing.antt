-- Lists of items, in which an initial condition may stand once.
use Rattle.std.proofs.Common.{◌≡◌, Bool, true, false, List, [], ◌∷◌, ◌++◌, Option, Some, None, refl, sym, ap, subst, ◌∙◌, append_assoc, append-nil, inl, inr}
use Rattle.std.specs.Prelude.{IsErr, IsErrAnd, ◌||◌, is_some, Result, Ok, Err}
use Rattle.basics.specs.Booleans.{second_false}
use Rattle.std.proofs.lemmas.Result.{err_from_is_err_and}
use Rattle.prism_tree.specs.declared.syntax.PrismFile.{PrismFile}
use Rattle.std.proofs.lemmas.List.{append_cancel_left}
use Rattle.prism_lex.specs.declared.token.TokenKind.{TokenKind}
use Rattle.prism_lex.specs.declared.token.TokenKind.TheVariants as K
use Rattle.prism_lex.specs.declared.words.Reserved.TheVariants as W
use Rattle.prism_lex.specs.Tokens.{Lexeme}
use Rattle.prism_tree.specs.Syntax.{Expression, File, file_of}
use Rattle.prism_tree.specs.Lang.{Lang, gives, never, ◌>>=◌, ◌or◌}
use Rattle.prism_tree.specs.Grammar.{word, section, with_section, with_init, init_item, init_if, items}
use Rattle.prism_exprs.specs.declared.tokens.Cause.{Cause}
use Rattle.prism_exprs.specs.declared.tokens.Cause.TheVariants as C
use Rattle.prism_exprs.specs.Reading.{Ends, none, next, Dead, Reads, starts, is_kind}
use Rattle.prism_exprs.specs.declared.tokens.Stop.{Stop}
use Rattle.prism_exprs.specs.declared.tokens.Stop.TheVariants.{Memory, At}
use Rattle.prism_exprs.specs.declared.tokens.Tokens.{Tokens}
use Rattle.prism_exprs.specs.Kept.{seen}
use Rattle.prism_exprs.specs.Scope.{Scope, expressions, also, Halts, StopsIn, ParsesIn}
use Rattle.prism_exprs.proofs.Laws.{IsOne, HasWord, Follows, then_one, then_word, step_one, gives_word, Ends-next}
use Rattle.prism_exprs.proofs.Choice.{Barred, Opens, folding_one, folding_word, then_opens, or_word, or_barred, or_reads_left}
use Rattle.prism_exprs.proofs.Cut.{gives_or_one}
use Rattle.prism_exprs.proofs.Exprs.{one_within}
use Rattle.prism_exprs.proofs.Loops.{begun_repeats}
use Rattle.prism_items.specs.Parts.{in_scope}
use Rattle.prism_items.specs.Files.{plain}
use Rattle.prism_items.specs.Sections.{is_item, is_item_or_init, sections_from, items_from, inside, IsBlocked, IsBehind, IsPlaced, Blocks}
use Rattle.prism_items.proofs.Leading.{Leads, leads_on, begin, then_dead, halts_by, or_right, step, step_to, halt, halt_at, parses_by}
use Rattle.prism_items.proofs.Declaring.{init_one, init_opens}
use Rattle.prism_items.proofs.Sectioning.{section_one, section_begun}
use Rattle.prism_items.proofs.Closing.{passes}
use Rattle.prism_items.proofs.Choosing.{gives_off, gives_here}
use Rattle.prism_items.proofs.Refusing.{some_next, second_empty, init_items, inside_stops, blocks}

-- ---- an initial condition among items

past_item : (k : TokenKind) → is_item_or_init k ≡ false → is_item k ≡ false
past_item k h = second_false (is_kind (K.Word W.Init) k) (is_item k) h

ends_item : (z : List Lexeme) → Ends is_item_or_init z → Ends is_item z
ends_item [] h = tt
ends_item (t ∷ z) h = past_item t.kind h

ends_both : (z : List Lexeme) → Ends is_item z → starts (is_kind (K.Word W.Init)) z ≡ false → Ends is_item_or_init z
ends_both [] h e = tt
ends_both (t ∷ z) h e = ap (λ (b : Bool). b || is_item t.kind) e ∙ h

dead_past : (L : Lang File) (u r : List Lexeme) → Dead L is_item u r → Dead L is_item_or_init u r
dead_past L u r d other w z x n f g h = d other w z x n f g (ends_item z h)

-- what stands behind the items before an Init
abbrev pub behind_sections : Scope → File → Lang File
behind_sections s g = gives g or (init_if (expressions s) (also s) g.init >>= λ e. sections_from (with_init g e) s)

sections_one : (s : Scope) (f : File) → IsOne (sections_from f s) is_item
sections_one s f = folding_one with_section f (section_begun s) (begun_repeats is_item) (section_one s)

sections_word : (s : Scope) (f : File) → HasWord (sections_from f s)
sections_word s f = folding_word with_section (in_scope section s) f

last_one : (s : Scope) (f : File) → IsOne (sections_from f s) is_item_or_init
last_one s f = one_within past_item (sections_one s f)

init_if_opens : (s : Scope) (o : Option Expression) → Opens (init_if (expressions s) (also s) o) (λ k. k ≡ K.Word W.Init)
unfolding never
init_if_opens s None = init_opens s
init_if_opens s (Some e) = λ w x h. absurd h

init_if_one : (s : Scope) (o : Option Expression) → IsOne (init_if (expressions s) (also s) o) none
unfolding never
init_if_one s None = init_one s
init_if_one s (Some e) = record { one = λ w z v y a b p. absurd p }

behind_one : (s : Scope) (g : File) → IsOne (behind_sections s g) is_item_or_init
behind_one s g =
    gives_or_one g (λ k. k ≡ K.Word W.Init) (then_opens _ _ (init_if_opens s g.init)) (passes is_item_or_init (K.Word W.Init) true refl) (step_one _ (init_if_one s g.init) (λ e. last_one s (with_init g e)))

behind_word : (s : Scope) (g : File) → HasWord (behind_sections s g)
behind_word s g = or_word _ _ (gives_word g)

behind_follows : (s : Scope) → Follows is_item (behind_sections s) is_item_or_init
unfolding ◌or◌ gives
behind_follows s = record { ends = go }
  where
    go : (x : File) (w z : List Lexeme) (y : File) → behind_sections s x w y → Ends is_item_or_init z → Ends is_item (w ++ z)
    go x w z y (inl h) e = let F : List Lexeme → Type 0 = λ u. Ends is_item (u ++ z) in subst F (sym h.0) (ends_item z e)
    go x w z y (inr h) e =
        let n = then_opens _ _ (init_if_opens s x.init) w y h in
        let F : List Lexeme → Type 0 = λ u. Ends is_item (u ++ z) in
        subst F (sym n.2) (passes is_item (K.Word W.Init) false refl (n.0).kind n.3)

pub items_one : (s : Scope) (f : File) → IsOne (items_from f s) is_item_or_init
unfolding items
items_one s f = then_one is_item (sections_one s f) (behind_one s) (behind_follows s)

pub items_word : (s : Scope) (f : File) → HasWord (items_from f s)
unfolding items
items_word s f = then_word (sections_word s f) (behind_word s)

items_begin : (s : Scope) (f : File) (ts : List Lexeme) → Leads is_item_or_init (items_from f s) ts (sections_from f s >>= behind_sections s) ts
unfolding items
items_begin s f ts = begin (items_from f s) is_item_or_init ts

-- the items before an Init are read
front_leads : (s : Scope) (f g : File) (ts us : List Lexeme) → Reads (sections_from f s) is_item ts g us → Leads is_item_or_init (items_from f s) ts (behind_sections s g) us
front_leads s f g ts us p = step_to _ _ (items_begin s f ts) (sections_one s f) (behind_follows s) p

-- words of items
pub items_alone : (s : Scope) (f g : File) (w : List Lexeme) → sections_from f s w g → items_from f s w g
unfolding items ◌>>=◌ ◌or◌ gives
items_alone s f g w h = (g, w, [], sym (append-nil w), h, inl (refl, refl))

pub items_both : (s : Scope) (f g x : File) (e : Expression) (a b c : List Lexeme) → sections_from f s a g → init_if (expressions s) (also s) g.init b e → sections_from (with_init g e) s c x → items_from f s (a ++ (b ++ c)) x
unfolding items ◌>>=◌ ◌or◌
items_both s f g x e a b c h i k = (g, a, b ++ c, refl, h, inr (e, b, c, refl, i, k))

-- No Init stands next.
pub front_done : (s : Scope) (f g : File) (ts us : List Lexeme) → Reads (sections_from f s) is_item ts g us → starts (is_kind (K.Word W.Init)) us ≡ false → Reads (items_from f s) is_item_or_init ts g us
front_done s f g ts us p e = (front_leads s f g ts us p).reads g us (or_reads_left _ _ (gives_here g is_item_or_init us (ends_both us p.ends e)))

init_off : (g : File) (us : List Lexeme) → starts (is_kind (K.Word W.Init)) us ≡ true → Barred (gives g) is_item_or_init us
init_off g us e = gives_off g is_item_or_init (K.Word W.Init) us refl e

-- An Init stands next, and there is one already.
second_barred : (s : Scope) (g : File) (o : Option Expression) (us : List Lexeme) → is_some o ≡ true → starts (is_kind (K.Word W.Init)) us ≡ true →
    Barred (gives g or (init_if (expressions s) (also s) o >>= λ e. sections_from (with_init g e) s)) is_item_or_init us
unfolding never ◌>>=◌
second_barred s g None us h e = absurd cc
second_barred s g (Some i) us h e = or_barred _ _ is_item_or_init us (init_off g us e) (λ other w z x n f p. absurd p.4)

pub item_barred : {A : Type 0} (L : Lang A) (more : TokenKind → Bool) (ts : List Lexeme) (s : Scope) → HasWord L → Barred L more ts → Halts s C.Item L more ts ts
item_barred L more ts s word b = record { before = []; parts = refl; begins = word; dead = λ t. b; goes = λ p. absurd p }

pub second_refused : (s : Scope) (f g : File) (ts us : List Lexeme) → Reads (sections_from f s) is_item ts g us → is_some g.init ≡ true → starts (is_kind (K.Word W.Init)) us ≡ true → Halts s C.Item (items_from f s) is_item_or_init ts us
second_refused s f g ts us p h e =
    halts_by s C.Item us (front_leads s f g ts us p) (item_barred (behind_sections s g) is_item_or_init us s (behind_word s g) (second_barred s g g.init us h e))

pub second_placed : (f g : File) (ts us : List Lexeme) → Reads (sections_from f plain) is_item ts g us → IsBehind (items_from f plain) ts us
second_placed f g ts us p = record { before = p.word; file = g; parts = p.parts; spells = items_alone plain f g p.word p.spells }

-- An Init stands next, and there is none yet.
init_next : (s : Scope) (g : File) (o : Option Expression) (us : List Lexeme) → is_some o ≡ false → starts (is_kind (K.Word W.Init)) us ≡ true →
    Leads is_item_or_init (gives g or (init_if (expressions s) (also s) o >>= λ e. sections_from (with_init g e) s)) us (in_scope init_item s >>= λ e. sections_from (with_init g e) s) us
init_next s g None us h e = or_right _ _ is_item_or_init us (init_off g us e)
init_next s g (Some i) us h e = absurd cc

pub init_leads : (s : Scope) (f g : File) (ts us : List Lexeme) → Reads (sections_from f s) is_item ts g us → is_some g.init ≡ false → starts (is_kind (K.Word W.Init)) us ≡ true →
    Leads is_item_or_init (items_from f s) ts (in_scope init_item s >>= λ e. sections_from (with_init g e) s) us
init_leads s f g ts us p h e = leads_on (front_leads s f g ts us p) (init_next s g g.init us h e)

pub init_stops : (s : Scope) (f g : File) (ts us : List Lexeme) (stop : Stop) → Leads is_item_or_init (items_from f s) ts (in_scope init_item s >>= λ e. sections_from (with_init g e) s) us → StopsIn s (in_scope init_item s) none us stop →
    StopsIn s (items_from f s) is_item_or_init ts (inside stop)
init_stops s f g ts us stop l p = inside_stops s _ _ _ stop (halt _ _ s l (λ e. sections_word s (with_init g e)) stop p)

pub init_blocks : (f g : File) (ts us : List Lexeme) (stop : Stop) → Leads is_item_or_init (items_from f plain) ts (in_scope init_item plain >>= λ e. sections_from (with_init g e) plain) us → starts (is_kind (K.Word W.Init)) us ≡ true →
    ((s : Scope) → StopsIn s (in_scope init_item s) none us stop) → Blocks (items_from f plain) is_item_or_init ts (Err (inside stop))
init_blocks f g ts us stop l i h = blocks (in_scope init_item) (is_kind (K.Word W.Init)) init_items _ _ is_item_or_init ts us stop l i h

-- Reading stops before that.
pub front_halts : (s : Scope) (f : File) (ts : List Lexeme) (stop : Stop) → StopsIn s (sections_from f s) is_item ts stop → StopsIn s (items_from f s) is_item_or_init ts stop
front_halts s f ts stop p = halt_at _ _ s (items_begin s f ts) (behind_word s) (behind_follows s) stop p

behind_dead : (f : File) (u r : List Lexeme) → Dead (sections_from f plain) is_item u r → Dead (items_from f plain) is_item_or_init u r
unfolding items
behind_dead f u r d = then_dead (sections_from f plain) (behind_sections plain) u r (behind_follows plain) d

pub front_placed : (f : File) (ts : List Lexeme) (stop : Stop) → Blocks (sections_from f plain) is_item ts (Err stop) → Blocks (items_from f plain) is_item_or_init ts (Err stop)
front_placed f ts Memory b = tt
front_placed f ts (At r c) b = by_cause c b
  where
    still : IsBlocked (sections_from f plain) is_item ts (seen r) → IsBlocked (items_from f plain) is_item_or_init ts (seen r)
    still b = record { before = b.before; parts = b.parts; some = b.some; dead = λ m i. behind_dead f b.before (m ∷ []) (b.dead m i) }

    by_cause : (c : Cause) → IsPlaced c (sections_from f plain) is_item ts (seen r) → IsPlaced c (items_from f plain) is_item_or_init ts (seen r)
    by_cause C.Form b = still b
    by_cause C.Deep b = still b
    by_cause C.Type b = still b
    by_cause C.Item b = record { before = b.before; file = b.file; parts = b.parts; spells = items_alone plain f b.file b.before b.spells }

-- where what was called before stopped
pub leaves_blocks : (L : Lang File) (more : TokenKind → Bool) (ts : List Lexeme) (r : Result (PrismFile × Tokens) Stop) (e : Stop) → IsErr r × IsErrAnd r (λ x. x ≡ e) → Blocks L more ts (Err e) → Blocks L more ts r
leaves_blocks L more ts r e h b =
    let q = err_from_is_err_and r h.1 in
    rw (q.1, q.2) b

-- The items behind it are read.
pub init_parses : (f g h : File) (e : Expression) (ts us vs : List Lexeme) (r : Result (PrismFile × Tokens) Stop) → h ≡ with_init g e →
    ((s : Scope) → Leads is_item_or_init (items_from f s) ts (in_scope init_item s >>= λ e. sections_from (with_init g e) s) us) → ((s : Scope) → Reads (in_scope init_item s) none us e vs) →
    ParsesIn file_of (sections_from h) is_item_or_init vs r → ParsesIn file_of (items_from f) is_item_or_init ts r
init_parses f g h e ts us vs r same l p q =
    let F : File → Type 0 = λ u. ParsesIn file_of (sections_from u) is_item_or_init vs r in
    parses_by file_of (items_from f) (sections_from (with_init g e)) is_item_or_init ts vs r (λ s. step _ _ (l s) (init_one s) (p s)) (subst F same q)

init_there : (s : Scope) (o : Option Expression) (e : Expression) (w : List Lexeme) → is_some o ≡ false → in_scope init_item s w e → init_if (expressions s) (also s) o w e
init_there s None e w h i = i
init_there s (Some x) e w h i = absurd cc

pub init_placed : (f g h : File) (e : Expression) (ts us vs : List Lexeme) (r : Result (PrismFile × Tokens) Stop) → h ≡ with_init g e → Reads (sections_from f plain) is_item ts g us → is_some g.init ≡ false → starts (is_kind (K.Word W.Init)) us ≡ true →
    Reads (in_scope init_item plain) none us e vs → Blocks (sections_from h plain) is_item_or_init vs r → Blocks (items_from f plain) is_item_or_init ts r
init_placed f g h e ts us vs (Ok y) same p i n q b = tt
init_placed f g h e ts us vs (Err Memory) same p i n q b = tt
init_placed f g h e ts us vs (Err (At r c)) same p i n q b =
    let F : File → Type 0 = λ u. IsPlaced c (sections_from u plain) is_item_or_init vs (seen r) in
    by_cause c (subst F same b)
  where
    l : Leads is_item_or_init (items_from f plain) ts (sections_from (with_init g e) plain) vs
    l = step _ _ (init_leads plain f g ts us p i n) (init_one plain) q

    still : IsBlocked (sections_from (with_init g e) plain) is_item_or_init vs (seen r) → IsBlocked (items_from f plain) is_item_or_init ts (seen r)
    still b = record {
      before = l.front ++ b.before;
      parts = l.parts ∙ ap (λ (u : List Lexeme). l.front ++ u) b.parts ∙ sym (append_assoc l.front b.before (seen r));
      some = λ none_all. b.some (second_empty l.front b.before none_all);
      dead = λ m k. l.dead b.before (m ∷ []) (some_next b.before (m ∷ []) (seen r) b.some ∙ ap next (sym b.parts)) (b.dead m k);
    }

    by_cause : (c : Cause) → IsPlaced c (sections_from (with_init g e) plain) is_item_or_init vs (seen r) → IsPlaced c (items_from f plain) is_item_or_init ts (seen r)
    by_cause C.Form b = still b
    by_cause C.Deep b = still b
    by_cause C.Type b = still b
    by_cause C.Item b = record {
      before = p.word ++ (q.word ++ b.before);
      file = b.file;
      parts = p.parts ∙ ap (λ (u : List Lexeme). p.word ++ u) (q.parts ∙ ap (λ (u : List Lexeme). q.word ++ u) b.parts ∙ sym (append_assoc q.word b.before (seen r))) ∙ sym (append_assoc p.word (q.word ++ b.before) (seen r));
      spells = items_both plain f g b.file e p.word q.word b.before p.spells (init_there plain g.init e q.word i q.spells) b.spells;
    }

-- ---- the items behind an initial condition

pub last_done : (s : Scope) (f g : File) (ts us : List Lexeme) → Reads (sections_from f s) is_item ts g us → starts (is_kind (K.Word W.Init)) us ≡ false → Reads (sections_from f s) is_item_or_init ts g us
last_done s f g ts us p e = record { word = p.word; parts = p.parts; spells = p.spells; ends = ends_both us p.ends e }

pub last_halts : (s : Scope) (f : File) (ts : List Lexeme) (stop : Stop) → StopsIn s (sections_from f s) is_item ts stop → StopsIn s (sections_from f s) is_item_or_init ts stop
last_halts s f ts Memory p = tt
last_halts s f ts (At r c) p = record { before = p.before; parts = p.parts; begins = p.begins; dead = λ n. dead_past _ p.before (seen r) (p.dead n); goes = p.goes }

pub last_placed : (f : File) (ts : List Lexeme) (stop : Stop) → Blocks (sections_from f plain) is_item ts (Err stop) → Blocks (sections_from f plain) is_item_or_init ts (Err stop)
last_placed f ts Memory b = tt
last_placed f ts (At r c) b = by_cause c b
  where
    still : IsBlocked (sections_from f plain) is_item ts (seen r) → IsBlocked (sections_from f plain) is_item_or_init ts (seen r)
    still b = record { before = b.before; parts = b.parts; some = b.some; dead = λ m i. dead_past _ b.before (m ∷ []) (b.dead m i) }

    by_cause : (c : Cause) → IsPlaced c (sections_from f plain) is_item ts (seen r) → IsPlaced c (sections_from f plain) is_item_or_init ts (seen r)
    by_cause C.Form b = still b
    by_cause C.Deep b = still b
    by_cause C.Type b = still b
    by_cause C.Item b = b

-- An Init can't stand behind them.
pub last_refused : (s : Scope) (f g : File) (ts us : List Lexeme) → Reads (sections_from f s) is_item ts g us → starts (is_kind (K.Word W.Init)) us ≡ true → Halts s C.Item (sections_from f s) is_item_or_init ts us
last_refused s f g ts us p e = record {
  before = p.word;
  parts = p.parts;
  begins = ([], g, let F : List Lexeme → Type 0 = λ u. sections_from f s u g in subst F (sym (append-nil p.word)) p.spells);
  dead = λ n other w z x i j k h.
      let same = (sections_one s f).one p.word other w z g x p.spells k j (Ends-next is_item us other i p.ends) (ends_item z h) in
      let rest : other ≡ z = append_cancel_left p.word other z (j ∙ ap (λ (u : List Lexeme). u ++ z) (sym same.0)) in
      no_init z (ap next (sym rest) ∙ i) h;
  goes = λ n. absurd n;
}
  where
    no_init : (z : List Lexeme) → next z ≡ next us → Ends is_item_or_init z → ⊥
    no_init z h i = init_goes_on us e (Ends-next is_item_or_init z us (sym h) i)
      where
        init_goes_on : (us : List Lexeme) → starts (is_kind (K.Word W.Init)) us ≡ true → Ends is_item_or_init us → ⊥
        init_goes_on [] e h = absurd cc
        init_goes_on (t ∷ us) e h = let k : is_item_or_init t.kind ≡ true = ap (λ (b : Bool). b || is_item t.kind) e in absurd cc

pub last_behind : (f g : File) (ts us : List Lexeme) → Reads (sections_from f plain) is_item ts g us → IsBehind (sections_from f plain) ts us
last_behind f g ts us p = record { before = p.word; file = g; parts = p.parts; spells = p.spells }
