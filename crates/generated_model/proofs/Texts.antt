-- The text of the generated model, as the code puts it together.
use Rattle.std.proofs.Common.{arith, ◌≡◌, ◌≢◌, ◌∙◌, refl, sym, ap, ap₂, ℕ, zero, suc, ◌+◌, ◌-◌, List, [], ◌∷◌, ◌++◌, map, codes, append_assoc, append-nil}
use Rattle.std.specs.Prelude.{decimal}
use Rattle.std.specs.List.{range_with_len}
use Rattle.std.proofs.lemmas.List.FromFn.{map-range_with_len_more}
use Rattle.frac_core.specs.Text.{digits}
use Rattle.prism_tree.specs.Syntax.{Command, Module}
use Rattle.prism_print.specs.Text.{command_text, listed, module_text, var_text}
use Rattle.generated_model.specs.Pieces.{back_text, front_text, handed_text}
use Rattle.generated_model.specs.Generated.{action, by_chance, counter, generated_module, generated_text, handed_to, hands_on, is_handed, module_name, variable}

-- ---- texts put together, whatever they are
surely_joined : (o a c x g r p q v s z : List ℕ) → o ++ (a ++ (c ++ ((x ++ g) ++ (r ++ ((((p ++ (x ++ (q ++ (v ++ s)))) ++ []) ++ []) ++ z)))))
    ≡ o ++ (a ++ (c ++ (x ++ (g ++ (r ++ (p ++ (x ++ (q ++ (v ++ (s ++ z))))))))))
surely_joined o a c x g r p q v s z = simp (append_assoc, append-nil)

chance_joined : (o x g r h c p q v s j t z : List ℕ) → o ++ ((x ++ g) ++ (r ++ ((((h ++ c) ++ ((p ++ (x ++ (q ++ (v ++ s)))) ++ [])) ++ (j ++ (((h ++ c) ++ t) ++ []))) ++ z)))
    ≡ o ++ (x ++ (g ++ (r ++ (h ++ (c ++ (p ++ (x ++ (q ++ (v ++ (s ++ (j ++ (h ++ (c ++ (t ++ z))))))))))))))
chance_joined o x g r h c p q v s j t z = simp (append_assoc, append-nil)

body_joined : (f m n i v l c h y e : List ℕ) → f ++ (m ++ (n ++ ((i ++ (v ++ [])) ++ ((l ++ (c ++ (h ++ (i ++ (y ++ []))))) ++ e))))
    ≡ f ++ (m ++ (n ++ (i ++ (v ++ (l ++ (c ++ (h ++ (i ++ (y ++ e)))))))))
body_joined f m n i v l c h y e = simp (append_assoc, append-nil)

-- ---- commands
is_handed-text : (a x : List ℕ) → command_text (is_handed a x) ≡ codes "[" ++ (a ++ (codes "] " ++ (x ++ (codes " < K -> (" ++ (x ++ (codes "'=" ++ (x ++ codes " + 1);\n")))))))
unfolding digits
is_handed-text a x =
    surely_joined (codes "[") a (codes "] ") x (codes " < K") (codes " -> ") (codes "(") (codes "'=") (x ++ codes " + 1") (codes ")") (codes ";\n")
    ∙ ap (λ t. codes "[" ++ (a ++ (codes "] " ++ (x ++ (codes " < K -> (" ++ (x ++ (codes "'=" ++ t))))))) (append_assoc x (codes " + 1") (codes ");\n"))

hands_on-text : (a x : List ℕ) → command_text (hands_on a x) ≡ codes "[" ++ (a ++ (codes "] " ++ (x ++ (codes " = K -> (" ++ (x ++ codes "'=0);\n")))))
unfolding digits
hands_on-text a x = surely_joined (codes "[") a (codes "] ") x (codes " = K") (codes " -> ") (codes "(") (codes "'=") (codes "0") (codes ")") (codes ";\n")

by_chance-text : (x : List ℕ) → command_text (by_chance x) ≡ codes "[] " ++ (x ++ (codes " < K -> 1 / 2 : (" ++ (x ++ (codes "'=" ++ (x ++ codes " + 1) + 1 / 2 : true;\n")))))
unfolding digits
by_chance-text x =
    chance_joined (codes "[] ") x (codes " < K") (codes " -> ") (codes "1 / 2") (codes " : ") (codes "(") (codes "'=") (x ++ codes " + 1") (codes ")") (codes " + ") (codes "true") (codes ";\n")
    ∙ ap (λ t. codes "[] " ++ (x ++ (codes " < K -> 1 / 2 : (" ++ (x ++ (codes "'=" ++ t))))) (append_assoc x (codes " + 1") (codes ") + 1 / 2 : true;\n"))

counter-text : (x : List ℕ) → var_text (counter x) ≡ x ++ codes " : [0..3] init 0;\n"
unfolding digits
counter-text x = refl

pub handed_behind : (k : ℕ) → k ≢ 0 → codes "  [a" ++ (decimal (k - 1) ++ (codes "] x" ++ (decimal k ++ (codes " < K -> (x" ++ (decimal k ++ (codes "'=x" ++ (decimal k ++ codes " + 1);\n")))))))
    ≡ handed_text k
handed_behind zero some = absurd (some refl)
handed_behind (suc k) some =
    let e : suc k - 1 ≡ k = omega arith in
    ap (λ j. codes "  [a" ++ (decimal j ++ (codes "] x" ++ (decimal (suc k) ++ (codes " < K -> (x" ++ (decimal (suc k) ++ (codes "'=x" ++ (decimal (suc k) ++ codes " + 1);\n")))))))) e
    ∙ sym (ap (λ t. codes "  " ++ t) (append-nil _ ∙ is_handed-text (action k) (variable (suc k))))

-- ---- modules
listed_more : {A : Type 0} (between : List ℕ) (f : A → List ℕ) (xs ys : List A) → listed between between f (xs ++ ys) ≡ listed between between f xs ++ listed between between f ys
listed_more between f [] ys = refl
listed_more between f (x ∷ xs) ys = ap (λ t. between ++ (f x ++ t)) (listed_more between f xs ys) ∙ simp append_assoc

abbrev between : List ℕ
between = codes "  "

-- from the texts of its parts
body_of : (m v w c d y e : List ℕ) (hs : List Command) (z : Command) → v ≡ w → c ≡ d → command_text z ≡ y →
    codes "module " ++ (m ++ (codes "\n" ++ ((between ++ (v ++ [])) ++ ((codes "\n  " ++ (c ++ listed between between command_text (hs ++ z ∷ []))) ++ e))))
    ≡ codes "module " ++ (m ++ (codes "\n" ++ (between ++ (w ++ (codes "\n  " ++ (d ++ (listed between between command_text hs ++ (between ++ (y ++ e)))))))))
body_of m v w c d y e hs z same first last =
    ap (λ t. codes "module " ++ (m ++ (codes "\n" ++ ((between ++ (v ++ [])) ++ ((codes "\n  " ++ (c ++ t)) ++ e))))) (listed_more between command_text hs (z ∷ []))
    ∙ body_joined (codes "module ") m (codes "\n") between v (codes "\n  ") c (listed between between command_text hs) (command_text z) e
    ∙ ap₂ (λ t u. codes "module " ++ (m ++ (codes "\n" ++ (between ++ (t ++ (codes "\n  " ++ (u ++ (listed between between command_text hs ++ (between ++ (command_text z ++ e)))))))))) same first
    ∙ ap (λ u. codes "module " ++ (m ++ (codes "\n" ++ (between ++ (w ++ (codes "\n  " ++ (d ++ (listed between between command_text hs ++ (between ++ (u ++ e)))))))))) last

-- the same in three pieces
in_pieces : (f m n i x v l o g q t h p a r b s e : List ℕ) → f ++ (m ++ (n ++ (i ++ ((x ++ v) ++ (l ++ ((o ++ (x ++ (g ++ (x ++ (q ++ (x ++ t)))))) ++ (h ++ (i ++ ((p ++ (a ++ (r ++ (x ++ (b ++ (x ++ s)))))) ++ e)))))))))
    ≡ (f ++ (m ++ (n ++ (i ++ (x ++ (v ++ (l ++ (o ++ (x ++ (g ++ (x ++ (q ++ (x ++ t))))))))))))) ++ (h ++ (i ++ (p ++ (a ++ (r ++ (x ++ (b ++ (x ++ (s ++ e)))))))))
in_pieces f m n i x v l o g q t h p a r b s e = simp append_assoc

body_text : (k : ℕ) → front_text k ++ (handed_text k ++ back_text k) ≡ codes "\n" ++ module_text (generated_module k)
body_text k =
    sym (ap (λ t. codes "\n" ++ t)
    (body_of (module_name k) (var_text (counter (variable k))) (variable k ++ codes " : [0..3] init 0;\n") (command_text (by_chance (variable k)))
    (codes "[] " ++ (variable k ++ (codes " < K -> 1 / 2 : (" ++ (variable k ++ (codes "'=" ++ (variable k ++ codes " + 1) + 1 / 2 : true;\n"))))))
    (codes "[" ++ (action k ++ (codes "] " ++ (variable k ++ (codes " = K -> (" ++ (variable k ++ codes "'=0);\n")))))) (codes "endmodule\n") (handed_to k) (hands_on (action k) (variable k))
    (counter-text (variable k)) (by_chance-text (variable k)) (hands_on-text (action k) (variable k))
    ∙ in_pieces (codes "module ") (module_name k) (codes "\n") between (variable k) (codes " : [0..3] init 0;\n") (codes "\n  ") (codes "[] ") (codes " < K -> 1 / 2 : (") (codes "'=")
    (codes " + 1) + 1 / 2 : true;\n") (handed_text k) (codes "[") (action k) (codes "] ") (codes " = K -> (") (codes "'=0);\n") (codes "endmodule\n")))

-- the module behind what stands there, as its pieces are written one after another
pub module_written : (k : ℕ) (before f h b one two three : List ℕ) → one ≡ before ++ f → two ≡ one ++ h → three ≡ two ++ b → f ≡ front_text k → h ≡ handed_text k → b ≡ back_text k →
    three ≡ before ++ (codes "\n" ++ module_text (generated_module k))
module_written k before f h b one two three d e g p q r =
    let whole : three ≡ before ++ (f ++ (h ++ b)) = g ∙ ap (λ t. t ++ b) (e ∙ ap (λ t. t ++ h) d) ∙ simp append_assoc in
    whole ∙ ap (λ t. before ++ t) (ap₂ (λ x y. x ++ y) p (ap₂ (λ x y. x ++ y) q r) ∙ body_text k)

-- ---- the file
-- the text up to the module of this number
abbrev pub text_before : ℕ → List ℕ
text_before k = codes "mdp\n\nconst int K = 3;\n" ++ listed (codes "\n") (codes "\n") module_text (map generated_module (range_with_len 0 k))

-- behind an empty line
apart : (m : List ℕ) (ms : List Module) (k : ℕ) → m ++ listed (codes "\n") (codes "\n") module_text (ms ++ generated_module k ∷ []) ≡ (m ++ listed (codes "\n") (codes "\n") module_text ms) ++ (codes "\n" ++ module_text (generated_module k))
apart m ms k =
    ap (λ t. m ++ t) (listed_more (codes "\n") module_text ms (generated_module k ∷ []) ∙ ap (λ t. listed (codes "\n") (codes "\n") module_text ms ++ (codes "\n" ++ t)) (append-nil (module_text (generated_module k))))
    ∙ sym (append_assoc m (listed (codes "\n") (codes "\n") module_text ms) (codes "\n" ++ module_text (generated_module k)))

pub one_more : (k : ℕ) → text_before (k + 1) ≡ text_before k ++ (codes "\n" ++ module_text (generated_module k))
one_more k =
    ap (λ ms. codes "mdp\n\nconst int K = 3;\n" ++ listed (codes "\n") (codes "\n") module_text ms) (map-range_with_len_more generated_module 0 k k (let z : 0 + k ≡ k = omega arith in z))
    ∙ apart (codes "mdp\n\nconst int K = 3;\n") (map generated_module (range_with_len 0 k)) k

pub whole_text : (n : ℕ) → text_before n ≡ generated_text n
unfolding digits
whole_text n = ap (λ t. codes "mdp\n\nconst int K = 3;\n" ++ t) (sym (append-nil (listed (codes "\n") (codes "\n") module_text (map generated_module (range_with_len 0 n)))))
