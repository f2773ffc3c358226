-- A line that stands whole in the buffer of a feed.
use Rattle.std.proofs.Common.{◌≡◌, ℕ, zero, suc, ◌+◌, ◌-◌, ◌<◌, ◌≤◌, true, false, eqb, List, []}
use Rattle.std.proofs.Common.{◌∷◌, ◌++◌, length, take, drop, get_or, Option, Some, None, refl, sym}
use Rattle.std.proofs.Common.{ap, ◌∙◌, append_assoc, arith}
use Rattle.std.specs.List.{position}
use Rattle.std.specs.Io.KnownBytes.{prepend_known, Consumes}
use Rattle.std.proofs.lemmas.List.{drop-drop, drop-take, length-take, length-take-le}
use Rattle.std.proofs.lemmas.List.{take-append-drop}
use Rattle.std.proofs.lemmas.List.Quantifiers.{position-Some}
use Rattle.std.proofs.lemmas.Bool.{eqb-true}
use Rattle.texts.specs.Lines.{is_one_line}
use Rattle.edge_io.specs.HeldLines.{IsLineOf}

one_from : (n : ℕ) (bytes : List ℕ) → n ≤ length bytes
    → ((k : ℕ) → k < n → eqb (get_or bytes k 0) 10 ≡ false) → is_one_line (take n bytes) ≡ true
one_from zero bytes within none = refl
one_from (suc n) [] within none = absurd (omega (arith, within))
one_from (suc n) (b ∷ bytes) within none =
    rw (none 0 (omega arith))
    (one_from n bytes (omega (arith, within)) (λ k lt. none (suc k) (omega (arith, lt))))

front_is : (n : ℕ) (bytes : List ℕ) (b : ℕ) → n < length bytes → get_or bytes n 0 ≡ b
    → take (suc n) bytes ≡ take n bytes ++ b ∷ []
front_is zero [] b lt is = absurd (omega (arith, lt))
front_is zero (c ∷ bytes) b lt is = ap (λ x. x ∷ []) is
front_is (suc n) [] b lt is = absurd (omega (arith, lt))
front_is (suc n) (c ∷ bytes) b lt is = ap (λ xs. c ∷ xs) (front_is n bytes b (omega (arith, lt)) is)

-- the bytes before the first newline
pub line_of : (bytes : List ℕ) (end most : ℕ) → position (λ b. eqb b 10) bytes ≡ Some end
    → end < most → IsLineOf bytes most (take end bytes) (end + 1)
line_of bytes end most found lt =
    let at = position-Some (λ b. eqb b 10) bytes end 0 found in
    let long = length-take-le end bytes (omega (arith, at.0)) in
    let more : end + 1 ≡ suc end = omega arith in
    record {
      within = omega (arith, at.0);
      few = omega (arith, lt);
      size = omega (arith, long);
      front = ap (λ n. take n bytes) more ∙ front_is end bytes 10 at.0 (eqb-true _ _ at.1);
      one = one_from end bytes (omega (arith, at.0)) at.2;
    }

-- so many bytes of the buffer are passed
pub buffer_passed : (buffer : List ℕ) (at end count : ℕ) → count ≤ end - at
    → take (end - (at + count)) (drop (at + count) buffer)
    ≡ drop count (take (end - at) (drop at buffer))
buffer_passed buffer at end count le =
    let size : end - at ≡ count + (end - (at + count)) = omega (arith, le) in
    sym (ap (λ n. drop count (take n (drop at buffer))) size
    ∙ (drop-take count (end - (at + count)) (drop at buffer)
    ∙ ap (take (end - (at + count))) (drop-drop count at buffer)))

-- so many bytes of the buffer were read
pub buffer_read : (buffer : List ℕ) (left : Option (List ℕ)) (at end count : ℕ)
    → count ≤ end - at
    → Consumes (prepend_known (take (end - at) (drop at buffer)) left)
    (prepend_known (take (end - (at + count)) (drop (at + count) buffer)) left)
    (take count (take (end - at) (drop at buffer)))
buffer_read buffer None at end count le = tt
buffer_read buffer (Some ys) at end count le =
    let held = take (end - at) (drop at buffer) in
    ap (λ xs. xs ++ ys) (sym (take-append-drop count held))
    ∙ (append_assoc (take count held) (drop count held) ys
    ∙ ap (λ xs. take count held ++ (xs ++ ys)) (sym (buffer_passed buffer at end count le)))

-- no more bytes are held than stand there
pub held_few : (buffer : List ℕ) (at end count : ℕ)
    → count ≤ length (take (end - at) (drop at buffer)) → count ≤ end - at
held_few buffer at end count le = omega (arith, le, length-take (end - at) (drop at buffer))
