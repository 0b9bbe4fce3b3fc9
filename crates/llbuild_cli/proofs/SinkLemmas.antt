-- Bytes that are told, and counts that rise.
use Rattle.std.proofs.Common.{◌≡◌, ◌+◌, ℕ, zero, suc, List, [], ◌∷◌, ◌++◌, take, drop, length, sym, ap, ◌∙◌, append_assoc, append-nil, zero-add, suc-add, subst, inl, inr, arith}
use Rattle.std.proofs.Math.Seq.{take-nil}
use Rattle.std.proofs.lemmas.List.{take_all}
use Rattle.std.specs.Prelude.{Result, Ok, Err, OnOk, OnErr}
use Rattle.outside.specs.View.{Grew, SinkView, SinkFailed}
use Rattle.llbuild_cli.specs.Growth.{GrewByPart, WroteUnlessFault}

pub Grew-none : (o : SinkView) → Grew o o []
Grew-none o b e = (b, e, sym (append-nil b))

pub Grew-both : (o p q : SinkView) (xs ys : List ℕ) → Grew o p xs → Grew p q ys → Grew o q (xs ++ ys)
Grew-both o p q xs ys f h b e =
    let second = h b e in
    let first = f second.0 second.1 in
    (first.0, first.1, second.2 ∙ ap (λ (z : List ℕ). z ++ ys) first.2 ∙ append_assoc first.0 xs ys)

pub take-both : (xs : List ℕ) (i n : ℕ) → take (i + n) xs ≡ take i xs ++ take n (drop i xs)
take-both xs zero n = simp zero-add
take-both [] (suc i) n = simp (suc-add, take-nil)
take-both (x ∷ xs) (suc i) n = simp suc-add (ap (λ (z : List ℕ). x ∷ z) (take-both xs i n))

pub part_none : (o : SinkView) (text : List ℕ) → GrewByPart o o text
part_none o text = (0, λ b e. (b, e, sym (append-nil b)))

pub part_whole : (o p : SinkView) (text : List ℕ) → Grew o p text → GrewByPart o p text
part_whole o p text grew = (length text, subst (λ (t : List ℕ). Grew o p t) (sym (take_all (length text) text (omega arith))) grew)

written : {T E : Type 0} (r : Result T E) (old new : SinkView) (piece : List ℕ)
    → OnOk r (Grew old new piece) → OnErr r (GrewByPart old new piece) → OnErr r (SinkFailed old new) → WroteUnlessFault old new piece
written (Ok x) old new piece whole part rose = inl whole
written (Err e) old new piece whole part rose = inr (part, rose)

-- the same of an equal text
pub written_text : {T E : Type 0} (r : Result T E) (old new : SinkView) (piece text : List ℕ)
    → piece ≡ text → OnOk r (Grew old new piece) → OnErr r (GrewByPart old new piece) → OnErr r (SinkFailed old new) → WroteUnlessFault old new text
written_text r old new piece text same whole part rose = subst (λ (t : List ℕ). WroteUnlessFault old new t) same (written r old new piece whole part rose)
