-- Assignments, of one list of them after another.
use Rattle.std.proofs.Common.{◌≡◌, ℕ, ◌+◌, ◌<◌, List, [], ◌∷◌, ◌++◌, map, length, get_or, drop, slice_set, unwrap_or, refl, sym, ap, ◌∙◌}
use Rattle.std.specs.List.{flat_map}
use Rattle.basics.specs.Lists.{drop_item}
use Rattle.frac_core.specs.Fraction.{Fraction, nought}
use Rattle.process_core.specs.Ready.{Values, Write, Reward}
use Rattle.process_core.specs.Choices.{written, assigned, number_of}

pub written-append : (s : Values) (vs ws : List Write) → written s (vs ++ ws) ≡ written (written s vs) ws
written-append s [] ws = refl
written-append s (v ∷ vs) ws = written-append _ vs ws

pub assigned-append : (own : List Fraction) (vs ws : List Reward) → assigned own (vs ++ ws) ≡ assigned (assigned own vs) ws
assigned-append own [] ws = refl
assigned-append own (v ∷ vs) ws = assigned-append (slice_set own v.structure (unwrap_or (number_of v.value.value) nought)) vs ws

-- one more member of a list, each of which has a list of assignments
pub put_step : {S W A B : Type 0} (put : S → List W → S) → ((s : S) (vs ws : List W) → put s (vs ++ ws) ≡ put (put s vs) ws) → (g : B → List W) (f : A → B) (xs : List A) (i : ℕ) (x : A) (s t p : S) →
    i < length xs → x ≡ get_or xs i x → put s (flat_map g (map f (drop i xs))) ≡ p → t ≡ put s (g (f x)) → put t (flat_map g (map f (drop (i + 1) xs))) ≡ p
put_step put append g f xs i x s t p h e so_far next =
    ap (λ a. put a (flat_map g (map f (drop (i + 1) xs)))) next
    ∙ sym (append s (g (f x)) (flat_map g (map f (drop (i + 1) xs))))
    ∙ ap (λ l. put s (flat_map g (map f l))) (sym (drop_item xs i x h e))
    ∙ so_far
