-- One text after another, by a writer.
use Rattle.std.proofs.Common.{◌≡◌, ℕ, zero, suc, ◌+◌, ◌-◌, ◌<◌, ◌≤◌, List, [], ◌∷◌, ◌++◌, length}
use Rattle.std.proofs.Common.{take, get_or, Bool, true, false, Result, Ok, Err, refl, sym, ap}
use Rattle.std.proofs.Common.{◌∙◌, subst, append-nil, arith}
use Rattle.std.specs.Prelude.{MatchResult}
use Rattle.std.specs.List.{flat_map, range_with_len}
use Rattle.std.proofs.lemmas.List.{take_more}
use Rattle.std.proofs.lemmas.List.Concat.{flat_map-append}
use Rattle.texts.specs.Growth.{SinkState, gathering, Wrote, Cut, Puts}
use Rattle.texts.proofs.Ranges.{range_more}
use Rattle.texts.proofs.Growth.{wrote_none, wrote_then, cut_then, cut_more, puts_lent}
use Rattle.edge_io.specs.Gathering.{held, gathered_told}
use Rattle.edge_io.specs.Writing.{Proceeds, Writes, IsFresh, Finishes}
use Rattle.edge_io.specs.declared.writer.Writer.{Writer}

proceeds_then : (before mid now : Bool) (a b : List ℕ) (s t u : SinkState)
    → Proceeds before mid a s t
    → Proceeds mid now b t u → Proceeds before now (a ++ b) s u
proceeds_then true true true a b s t u p q = q ∙ p
proceeds_then true true false a b s t u p q = absurd q
proceeds_then true false now a b s t u p q = absurd p
proceeds_then false true true a b s t u p q =
    subst (λ (x : SinkState). Cut (a ++ b) s x) (sym q) (cut_more s t a b p)
proceeds_then false true false a b s t u p q = absurd q
proceeds_then false false true a b s t u p q = cut_then s t u a b p q
proceeds_then false false false a b s t u p q = wrote_then s t u a b p q

proceeds_none : (failed : Bool) (s : SinkState) → Proceeds failed failed [] s s
proceeds_none true s = refl
proceeds_none false s = wrote_none s

-- once a write has failed, it is as if any more had been written
proceeds_more : (before now : Bool) (a b : List ℕ) (s t : SinkState) → now ≡ true
    → Proceeds before now a s t → Proceeds before now (a ++ b) s t
proceeds_more true true a b s t is p = p
proceeds_more true false a b s t is p = absurd p
proceeds_more false true a b s t is p = cut_more s t a b p
proceeds_more false false a b s t is p = absurd cc

-- one text and then another
pub writes_then : {K : Type 0} {told : K → SinkState} {a b : List ℕ} {x y z : Writer K}
    → Writes told a x y → Writes told b y z → Writes told (a ++ b) x z
writes_then {a = a} {b = b} {x = x} {y = y} {z = z} p q = record {
  so = proceeds_then x.failed y.failed z.failed a b _ _ _ p.so q.so;
}

-- no text
pub writes_none : {K : Type 0} {told : K → SinkState} {x : Writer K} → Writes told [] x x
writes_none {x = x} = record { so = proceeds_none x.failed _ }

-- what is held back is written, if no write has failed
pub writes_held : {K : Type 0} {told : K → SinkState} {a : List ℕ} {x y : Writer K}
    → x.failed ≡ false → y.failed ≡ x.failed → Wrote a (gathered_told told x) (gathered_told told y)
    → Writes told a x y
writes_held {told = told} {a = a} {x = x} {y = y} unfailed still wrote = record {
  so = subst (λ (b : Bool). Proceeds b y.failed a (gathered_told told x) (gathered_told told y))
      (sym unfailed)
      (subst (λ (b : Bool). Proceeds false b a (gathered_told told x) (gathered_told told y))
      (sym (still ∙ unfailed)) wrote);
}

-- the last of a list of texts
pub writes_last : {K : Type 0} {told : K → SinkState} {a : List ℕ} {x y : Writer K}
    → Writes told a x y → Writes told (a ++ []) x y
writes_last p = writes_then p writes_none

-- what is written under another name
pub writes_is : {K : Type 0} {told : K → SinkState} {a b : List ℕ} {x y : Writer K} → a ≡ b
    → Writes told a x y → Writes told b x y
writes_is {told = told} {x = x} {y = y} is p = subst (λ (l : List ℕ). Writes told l x y) is p

-- what was not written any more, since a write had failed
pub writes_more : {K : Type 0} {told : K → SinkState} {a : List ℕ} {x y : Writer K} (rest : List ℕ)
    → y.failed ≡ true → Writes told a x y → Writes told (a ++ rest) x y
writes_more {a = a} {x = x} {y = y} rest is p = record {
  so = proceeds_more x.failed y.failed a rest _ _ is p.so;
}

-- the texts of a list up to a place, and that of the place
pub writes_at : {K X : Type 0} {told : K → SinkState} (f : X → List ℕ) (xs : List X) (i : ℕ) (d : X)
    {x y z : Writer K} → i < length xs → Writes told (flat_map f (take i xs)) x y
    → Writes told (f (get_or xs i d)) y z → Writes told (flat_map f (take (i + 1) xs)) x z
writes_at f xs i d lt before one =
    let parts : flat_map f (take (i + 1) xs) ≡ flat_map f (take i xs) ++ f (get_or xs i d) =
    ap (flat_map f) (take_more xs i d lt) ∙ flat_map-append f (take i xs) (get_or xs i d ∷ [])
    ∙ ap (λ l. flat_map f (take i xs) ++ l) (append-nil (f (get_or xs i d))) in
    writes_is (sym parts) (writes_then before one)

-- the texts of so many numbers from one on, and that of the next
pub writes_next : {K : Type 0} {told : K → SinkState} (f : ℕ → List ℕ) (first i j : ℕ)
    {x y z : Writer K} → Writes told (flat_map f (range_with_len first i)) x y
    → Writes told (f j) y z → first + i ≡ j
    → Writes told (flat_map f (range_with_len first (i + 1))) x z
writes_next f first i j before one at =
    let parts : flat_map f (range_with_len first (i + 1))
    ≡ flat_map f (range_with_len first i) ++ f j = ap (flat_map f) (range_more first i j at)
    ∙ flat_map-append f (range_with_len first i) (j ∷ [])
    ∙ ap (λ l. flat_map f (range_with_len first i) ++ l) (append-nil (f j)) in
    writes_is (sym parts) (writes_then before one)

range_both : (a i n : ℕ) → range_with_len a (i + n) ≡ range_with_len a i ++ range_with_len (a + i) n
range_both a zero n =
    let all : 0 + n ≡ n = omega arith in
    let same : a + 0 ≡ a = omega arith in
    ap (range_with_len a) all ∙ ap (λ (k : ℕ). range_with_len k n) (sym same)
range_both a (suc i) n =
    let all : suc i + n ≡ suc (i + n) = omega arith in
    let next : (a + 1) + i ≡ a + suc i = omega arith in
    ap (range_with_len a) all
    ∙ ap (λ (l : List ℕ). a ∷ l) (range_both (a + 1) i n
    ∙ ap (λ (k : ℕ). range_with_len (a + 1) i ++ range_with_len k n) next)

-- the texts of all numbers of a range, if a write failed in those before one of them
pub writes_stopped : {K : Type 0} {told : K → SinkState} (f : ℕ → List ℕ) (first i all : ℕ)
    {x y : Writer K} → Writes told (flat_map f (range_with_len first i)) x y → y.failed ≡ true
    → i ≤ all → Writes told (flat_map f (range_with_len first all)) x y
writes_stopped f first i all before failed le =
    let size : i + (all - i) ≡ all = omega arith in
    let parts : flat_map f (range_with_len first i)
    ++ flat_map f (range_with_len (first + i) (all - i)) ≡ flat_map f (range_with_len first all) =
    sym (ap (λ (k : ℕ). flat_map f (range_with_len first k)) (sym size)
    ∙ ap (flat_map f) (range_both first i (all - i))
    ∙ flat_map-append f (range_with_len first i) (range_with_len (first + i) (all - i))) in
    writes_is parts (writes_more _ failed before)

ends_written : {T E : Type 0} (r : Result T E) (failed : Bool) (text : List ℕ) (s t : SinkState)
    → Proceeds false failed text s t
    → MatchResult r (λ _. failed ≡ false) (λ _. failed ≡ true) → Puts r text s t
ends_written (Ok x) true text s t p answer = absurd cc
ends_written (Ok x) false text s t p answer = p
ends_written (Err e) true text s t p answer = p
ends_written (Err e) false text s t p answer = absurd cc

-- A writer was made of a sink, wrote a text and was finished. The sink was lent to it, and is what
-- stands under its name at the end.
pub writes_all : {K T E : Type 0} {told : K → SinkState} {r : Result T E} {lent : ℕ}
    {start : SinkState} {text : List ℕ} {x y z : Writer K} {final : K} → IsFresh told lent start x
    → Writes told text x y → Finishes told r y z
    → (lent ≡ z.sink.ghost_name → final ≡ z.sink.now)
    → Puts r text start (told final)
writes_all {told = told} {r = r} {lent = lent} {start = start} {text = text} {x = x} {y = y}
    {z = z} {final = final} fresh writes finishes ends =
    let all : Proceeds x.failed z.failed text (gathered_told told x) (gathered_told told z) =
    (writes_is (append-nil text) (writes_then writes finishes.rest)).so in
    let from_start : Proceeds false z.failed text (gathering lent [] start) (gathered_told told z) =
    subst (λ (s : SinkState). Proceeds false z.failed text s (gathered_told told z)) fresh.tells
    (subst (λ (b : Bool). Proceeds b z.failed text (gathered_told told x) (gathered_told told z))
    fresh.unfailed all) in
    puts_lent told r lent z.sink.ghost_name (held z) text start
    z.sink.now final ends
    (ends_written r z.failed text _ _ from_start finishes.answer) finishes.none_held

-- what the proof of a function that writes a text mostly takes
pub ruleset writing = (writes_then, writes_none)
