-- A gap is separators and comments.
use Rattle.std.proofs.Common.{◌≡◌, ℕ, Bool, true, false, cond, List, [], ◌∷◌, ◌++◌, Option, Some, None, refl, sym, ap, subst, ◌∙◌, inl, inr, append_assoc, append-nil, eqb-true}
use Rattle.std.specs.Prelude.{◌⊎◌, ◌&&◌, ◌==◌, not}
use Rattle.prism_lex.specs.declared.gap.Gap.TheVariants.{Between, FirstSlash, Comment, Other}
use Rattle.prism_lex.specs.Gaps.{is_separator, may_end, gap_after, IsGap, Piece, separator, comment, has_no_lf, AllPieces, pieces_text, cut_text, IsCut, HasPieces, GapIsPieces}

-- ---- pieces are a gap

inside_comment : (text rest : List ℕ) → has_no_lf text ≡ true → gap_after Comment (text ++ rest) ≡ gap_after Comment rest
inside_comment [] rest h = refl
inside_comment (b ∷ text) rest h = go (b == 10) (inside_comment text rest) h
  where
    go : (t : Bool) → (has_no_lf text ≡ true → gap_after Comment (text ++ rest) ≡ gap_after Comment rest) → (not t && has_no_lf text) ≡ true → gap_after (cond t Between Comment) (text ++ rest) ≡ gap_after Comment rest
    go true r h = absurd cc
    go false r h = r h

comment_over : (text rest : List ℕ) → has_no_lf text ≡ true → gap_after Between (47 ∷ 47 ∷ (text ++ 10 ∷ rest)) ≡ gap_after Between rest
comment_over text rest h = inside_comment text (10 ∷ rest) h

cut_end : (last : Option (List ℕ)) → IsCut last → IsGap (cut_text last)
cut_end None h = refl
cut_end (Some text) h = let a = inside_comment text [] h in ap (λ (u : List ℕ). may_end (gap_after Comment u)) (sym (append-nil text)) ∙ ap may_end a

pieces_gap : (ps : List Piece) (last : Option (List ℕ)) → AllPieces ps → IsCut last → IsGap (pieces_text ps ++ cut_text last)
pieces_gap [] last h k = cut_end last k
pieces_gap (separator b ∷ ps) last h k = let F : Bool → Type 0 = λ t. may_end (gap_after (cond t Between (cond (b == 47) FirstSlash Other)) (pieces_text ps ++ cut_text last)) ≡ true in subst F (sym h.0) (pieces_gap ps last h.1 k)
pieces_gap (comment text ∷ ps) last h k =
    let r = pieces_gap ps last h.1 k in
    let a : (text ++ 10 ∷ pieces_text ps) ++ cut_text last ≡ text ++ 10 ∷ (pieces_text ps ++ cut_text last) = append_assoc text (10 ∷ pieces_text ps) (cut_text last) in
    ap (λ (u : List ℕ). may_end (gap_after Comment u)) a ∙ ap may_end (comment_over text (pieces_text ps ++ cut_text last) h.0) ∙ r

-- ---- a gap is pieces

-- bytes of a comment to their end, or to an LF behind which pieces stand
abbrev HasComment : List ℕ → Type 0
HasComment bytes = (has_no_lf bytes ≡ true) ⊎ ((text : List ℕ) × (rest : List ℕ) × (has_no_lf text ≡ true) × (bytes ≡ text ++ 10 ∷ rest) × HasPieces rest)

abbrev HasSlash : List ℕ → Type 0
HasSlash bytes = (rest : List ℕ) × (bytes ≡ 47 ∷ rest) × HasComment rest

record Backs (bytes : List ℕ) : Type 0 where
  between : may_end (gap_after Between bytes) ≡ true → HasPieces bytes
  slash : may_end (gap_after FirstSlash bytes) ≡ true → HasSlash bytes
  within : may_end (gap_after Comment bytes) ≡ true → HasComment bytes

other_no : {A : Type 0} (bytes : List ℕ) → may_end (gap_after Other bytes) ≡ true → A
other_no [] h = absurd cc
other_no (b ∷ bytes) h = other_no bytes h

with_comment : (b : ℕ) (bytes : List ℕ) → b ≡ 47 → HasSlash bytes → HasPieces (b ∷ bytes)
with_comment b bytes e h = go h.2
  where
    two : b ∷ bytes ≡ 47 ∷ 47 ∷ h.0
    two = let i = h.1 in cc

    go : HasComment h.0 → HasPieces (b ∷ bytes)
    go (inl n) = ([], Some h.0, tt, n, two)
    go (inr r) =
        let p = r.4 in
        let a : (r.0 ++ 10 ∷ pieces_text p.0) ++ cut_text p.1 ≡ r.0 ++ 10 ∷ (pieces_text p.0 ++ cut_text p.1) = append_assoc r.0 (10 ∷ pieces_text p.0) (cut_text p.1) in
        let c : h.0 ≡ (r.0 ++ 10 ∷ pieces_text p.0) ++ cut_text p.1 = r.3 ∙ ap (λ (u : List ℕ). r.0 ++ 10 ∷ u) p.4 ∙ sym a in
        (comment r.0 ∷ p.0, p.1, (r.2, p.2), p.3, two ∙ ap (λ (u : List ℕ). 47 ∷ 47 ∷ u) c)

comment_more : (b : ℕ) (bytes : List ℕ) → (b == 10) ≡ false → HasComment bytes → HasComment (b ∷ bytes)
comment_more b bytes f (inl n) = inl (rw f n)
comment_more b bytes f (inr q) = inr (b ∷ q.0, q.1, rw f q.2, ap (λ (u : List ℕ). b ∷ u) q.3, q.4)

backs : (bytes : List ℕ) → Backs bytes
backs [] = record { between = λ h. ([], None, tt, tt, refl); slash = λ h. absurd cc; within = λ h. inl refl }
backs (b ∷ bytes) = let r = backs bytes in record { between = go_between r (is_separator b) refl (b == 47) refl; slash = go_slash r (b == 47) refl; within = go_within r (b == 10) refl }
  where
    go_between : Backs bytes → (t : Bool) → is_separator b ≡ t → (s : Bool) → (b == 47) ≡ s → may_end (gap_after (cond t Between (cond s FirstSlash Other)) bytes) ≡ true → HasPieces (b ∷ bytes)
    go_between r true e s f h = let p = r.between h in (separator b ∷ p.0, p.1, (e, p.2), p.3, ap (λ (u : List ℕ). b ∷ u) p.4)
    go_between r false e true f h = with_comment b bytes (eqb-true b 47 f) (r.slash h)
    go_between r false e false f h = other_no bytes h

    go_slash : Backs bytes → (s : Bool) → (b == 47) ≡ s → may_end (gap_after (cond s Comment Other) bytes) ≡ true → HasSlash (b ∷ bytes)
    go_slash r true f h = (bytes, (let i = eqb-true b 47 f in cc), r.within h)
    go_slash r false f h = other_no bytes h

    go_within : Backs bytes → (s : Bool) → (b == 10) ≡ s → may_end (gap_after (cond s Between Comment) bytes) ≡ true → HasComment (b ∷ bytes)
    go_within r true f h = inr ([], bytes, refl, (let i = eqb-true b 10 f in cc), r.between h)
    go_within r false f h = comment_more b bytes f (r.within h)

pub gap_pieces : GapIsPieces
gap_pieces bytes = (λ h. (backs bytes).between h, λ p. let F : List ℕ → Type 0 = λ u. IsGap u in subst F (sym p.4) (pieces_gap p.0 p.1 p.2 p.3))
