-- The pairs of a copy in a table.
use Rattle.std.specs.Prelude.{ℕ, ◌<◌, ◌+◌, List, ◌∷◌, length, drop, Bool, true, false, Option, Some, None, bytes_eq, if◌then◌else◌}
use Rattle.std.specs.Option.{option_map, option_or}
use Rattle.std.specs.Borrow.{Bor}
use Rattle.std.proofs.Common.{◌≡◌, refl, sym, ap, ◌∙◌, get_or}
use Rattle.std.proofs.lemmas.List.{at_drop_more}
use Rattle.process_core.specs.Ready.{Name}
use Rattle.prism_tree.specs.declared.syntax.NamePair.{NamePair}
use Rattle.name_rules.specs.Names.{put_first}
use Rattle.name_rules.proofs.Maps.{at}
use Rattle.prism_check.specs.Tables.{pair_for}

step : (o : Option (Bor (List ℕ))) (b : Bool) (x : Bor (List ℕ)) (y : Name) (rest : Option Name) → x.now ≡ y →
    option_or (option_map (λ s. s.now) (option_or o (if b then Some x else None))) rest ≡ option_or (option_map (λ s. s.now) o) (if b then Some y else rest)
step (Some z) b x y rest h = refl
step None true x y rest h = ap Some h
step None false x y rest h = refl

pub pair_more : (old new : Name → Option (Bor (List ℕ))) (q name : Name) (value : Bor (List ℕ)) (ps : List NamePair) (i : ℕ) (p : NamePair) → i < length ps →
    p ≡ get_or ps i p → name ≡ p.old.name → value.now ≡ p.new.name → new ≡ put_first old name value →
    option_or (option_map (λ s. s.now) (old q)) (pair_for (drop i ps) q) ≡ pair_for ps q →
    option_or (option_map (λ s. s.now) (new q)) (pair_for (drop (i + 1) ps) q) ≡ pair_for ps q
pair_more old new q name value ps i p h is same gives e so_far =
    let rest = pair_for (drop (i + 1) ps) q in
    ap (λ o. option_or (option_map (λ s. s.now) o) rest) (at e q)
    ∙ ap (λ n. option_or (option_map (λ s. s.now) (option_or (old q) (if bytes_eq n q then Some value else None))) rest) same
    ∙ step (old q) (bytes_eq p.old.name q) value p.new.name rest gives
    ∙ sym (at_drop_more (λ ys. option_or (option_map (λ s. s.now) (old q)) (pair_for ys q)) ps i p h
    ∙ ap (λ y. option_or (option_map (λ s. s.now) (old q)) (pair_for (y ∷ drop (i + 1) ps) q)) (sym is))
    ∙ so_far

-- the first pair of this name, told of those that are left
pub pair_step : (ps : List NamePair) (i : ℕ) (p : NamePair) (x : Name) (b : Bool) → i < length ps → p ≡ get_or ps i p → bytes_eq p.old.name x ≡ b → pair_for ps x ≡ pair_for (drop i ps) x →
    pair_for ps x ≡ (if b then Some p.new.name else pair_for (drop (i + 1) ps) x)
pair_step ps i p x b h is t so_far =
    so_far
    ∙ at_drop_more (λ ys. pair_for ys x) ps i p h
    ∙ ap (λ y. pair_for (y ∷ drop (i + 1) ps) x) (sym is)
    ∙ ap (λ c. if c then Some p.new.name else pair_for (drop (i + 1) ps) x) t
