-- Registers that are written one after the other.
use Rattle.std.proofs.Common.{◌≡◌, ℕ, ◌+◌, ◌-◌, ◌<◌, List, [], ◌∷◌, ◌++◌, length, map, drop, set}
use Rattle.std.proofs.Common.{sym, ap, ◌∙◌, arith, append_assoc}
use Rattle.std.specs.List.{range_with_len}
use Rattle.std.proofs.lemmas.List.{set-append_right, drop_more}
use Rattle.std.proofs.lemmas.List.FromFn.{map-range_with_len_more, length-map-range_with_len}

pub wrote_more : {X : Type 0} → (f : ℕ → X) (h : ℕ) (old now : List X) (x : X) → h < length old
    → now ≡ map f (range_with_len 0 h) ++ drop h old → x ≡ f h
    → set now h x ≡ map f (range_with_len 0 (h + 1)) ++ drop (h + 1) old
wrote_more f h old now x lt e is =
    let xs = map f (range_with_len 0 h) in
    let none : h - h ≡ 0 = omega arith in
    ap (λ c. set c h x) e
    ∙ (set-append_right xs (drop h old) h h x (length-map-range_with_len f 0 h) (omega arith)
    ∙ (ap (λ i. xs ++ set (drop h old) i x) none
    ∙ (ap (λ ys. xs ++ set ys 0 x) (drop_more old h x lt)
    ∙ (sym (append_assoc xs (x ∷ []) (drop (h + 1) old))
    ∙ ap (λ ys. ys ++ drop (h + 1) old)
    (ap (λ y. xs ++ y ∷ []) is ∙ sym (map-range_with_len_more f 0 h h (omega arith)))))))
