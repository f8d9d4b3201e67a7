use Rattle.std.proofs.Common.{◌≡◌, ◌∙◌, ◌+◌, ◌<◌, ℕ, Bool, List, length, get_or, take, refl, ap₂}
use Rattle.state_choices.specs.declared.flaws.Flaws.{Flaws}
use Rattle.state_choices.specs.Flaws.{both, flaws_in}
use Rattle.state_choices.proofs.Gathering.{any_more}
use Rattle.state_choices.proofs.flaws.flaws_in.Goals as goal

same_flaws : (a b c d e f : Bool) → a ≡ b → c ≡ d → e ≡ f → ◌≡◌ {A = Flaws} (record { wide = a; undef = c; range = e }) (record { wide = b; undef = d; range = f })
same_flaws a b c d e f p q r = cc

-- the flaws of one item more
flaws_more : {X : Type 0} (f : X → Flaws) (xs : List X) (i : ℕ) (x : X) (all one : Flaws) → i < length xs → x ≡ get_or xs i x → all ≡ flaws_in f (take i xs) → one ≡ f x →
    both all one ≡ flaws_in f (take (i + 1) xs)
flaws_more f xs i x all one h e so_far here =
    ap₂ both so_far here
    ∙ same_flaws _ _ _ _ _ _ (any_more (λ x. (f x).wide) xs i x _ h e refl) (any_more (λ x. (f x).undef) xs i x _ h e refl) (any_more (λ x. (f x).range) xs i x _ h e refl)

pub loop-item-preserved : goal.loop-item-preserved
loop-item-preserved g c =
    c.or-all.ensures
    ∙ flaws_more g.T.Flawed.flaws c.args.items.now c.loop-item.item-index c.item-item.result c.loop-item.all c.flaws.result c.loop-item-test.true c.item-item.is c.loop-item.invariant c.flaws.ensures
