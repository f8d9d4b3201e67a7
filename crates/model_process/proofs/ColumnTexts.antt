-- The texts of columns, and so headers, have no line feed.
use Rattle.std.proofs.Common.{◌≡◌, ℕ, zero, suc, ◌+◌, ◌/◌, ◌%◌, Bool, true, false, ◌||◌, nat_eq, nat_lt, List, [], ◌∷◌, codes, decimal, if◌then◌else◌, refl, ap₂, arith}
use Rattle.std.specs.Fmt.{digits, digits_onto, digit_glyph}
use Rattle.std.specs.List.{AllByRecursion as Each}
use Rattle.std.proofs.lemmas.Bool.{ne_eqb}
use Rattle.decimal_json.specs.Text.{behind_commas, with_commas}
use Rattle.process_core.specs.Ready.{Name}
use Rattle.process_texts.specs.Texts.{header_text}
use Rattle.process_texts.proofs.StateTexts.{Lacks, lacks_join}

glyph_no_feed : (d : ℕ) → nat_eq 10 (digit_glyph false d) ≡ false
glyph_no_feed d = by_test (nat_lt d 10)
  where
    by_test : (b : Bool) → nat_eq 10 (if b then 48 + d else 87 + d) ≡ false
    by_test true = ne_eqb 10 (48 + d) (λ e. (let f : 10 ≡ 48 + d = e in omega arith))
    by_test false = ne_eqb 10 (87 + d) (λ e. (let f : 10 ≡ 87 + d = e in omega arith))

onto_no_feed : (k n : ℕ) (acc : List ℕ) → Lacks 10 acc → Lacks 10 (digits_onto k 10 false n acc)
onto_no_feed zero n acc h = h
onto_no_feed (suc k) n acc h = by_test (nat_eq (n / 10) 0) (ap₂ (λ a b. a || b) (glyph_no_feed (n % 10)) h) (onto_no_feed k (n / 10) (digit_glyph false (n % 10) ∷ acc))
  where
    by_test : (b : Bool) → Lacks 10 (digit_glyph false (n % 10) ∷ acc) →
        (Lacks 10 (digit_glyph false (n % 10) ∷ acc) → Lacks 10 (digits_onto k 10 false (n / 10) (digit_glyph false (n % 10) ∷ acc))) →
        Lacks 10 (if b then digit_glyph false (n % 10) ∷ acc else digits_onto k 10 false (n / 10) (digit_glyph false (n % 10) ∷ acc))
    by_test true l ih = l
    by_test false l ih = ih l

pub decimal_no_feed : (n : ℕ) → Lacks 10 (decimal n)
unfolding digits
decimal_no_feed n = onto_no_feed 64 n [] refl

-- ---- a header, where no name of a column has one
behind_no_feed : (xs : List Name) → Each (Lacks 10) xs → Lacks 10 (behind_commas xs)
behind_no_feed [] h = refl
behind_no_feed (x ∷ xs) h = lacks_join 10 x (behind_commas xs) h.0 (behind_no_feed xs h.1)

inner_no_feed : (xs : List Name) → Each (Lacks 10) xs → Lacks 10 (with_commas xs)
inner_no_feed [] h = refl
inner_no_feed (x ∷ xs) h = lacks_join 10 x (behind_commas xs) h.0 (behind_no_feed xs h.1)

pub names_no_feed : (columns : List Name) → Each (Lacks 10) columns → Lacks 10 (header_text columns)
names_no_feed columns h = lacks_join 10 (with_commas columns) (codes ")") (inner_no_feed columns h) refl
