-- Lists: sections of sections, and what is read of each element.
use Rattle.std.proofs.Common.{◌≡◌, ℕ, ◌+◌, ◌-◌, ◌<◌, ◌≤◌, Bool, true, false, cond, List, [], ◌∷◌}
use Rattle.std.proofs.Common.{length, map, take, drop}
use Rattle.std.proofs.Common.{get_or, count_by, refl, sym, ap, ap₂, ◌∙◌, arith}
use Rattle.std.proofs.lemmas.List.{drop-take, take-take, drop-drop, take-map, drop-map, get_or-take}
use Rattle.std.proofs.lemmas.List.{get_or-drop, length-take-le, length-drop}
use Rattle.std.proofs.lemmas.List.Sums.{sum_by-cons, sum_by_more}
use Rattle.halving_plan.specs.GroupStates.{section}

pub map_map : {X Y Z : Type 0} (f : Y → Z) (g : X → Y) (xs : List X)
    → map f (map g xs) ≡ map (λ x. f (g x)) xs
map_map f g [] = refl
map_map f g (x ∷ xs) = ap (λ ys. f (g x) ∷ ys) (map_map f g xs)

pub map_same : {X Y : Type 0} (f g : X → Y) (same : (x : X) → f x ≡ g x) (xs : List X)
    → map f xs ≡ map g xs
map_same f g same [] = refl
map_same f g same (x ∷ xs) = ap₂ (λ y ys. y ∷ ys) (same x) (map_same f g same xs)

counted : {X : Type 0} (p : X → Bool) (x : X) (xs : List X)
    → count_by p (x ∷ xs) ≡ cond (p x) 1 0 + count_by p xs
counted p x xs = sum_by-cons (λ y. cond (p y) 1 0) x xs

pub count_by-map : {X Y : Type 0} (p : Y → Bool) (f : X → Y) (xs : List X)
    → count_by p (map f xs) ≡ count_by (λ x. p (f x)) xs
count_by-map p f [] = refl
count_by-map p f (x ∷ xs) =
    counted p (f x) (map f xs)
    ∙ (ap (λ n. cond (p (f x)) 1 0 + n) (count_by-map p f xs) ∙ sym (counted (λ y. p (f y)) x xs))

pub count_same : {X : Type 0} (p q : X → Bool) (same : (x : X) → p x ≡ q x) (xs : List X)
    → count_by p xs ≡ count_by q xs
count_same p q same [] = refl
count_same p q same (x ∷ xs) =
    counted p x xs
    ∙ (ap₂ (λ b n. cond b 1 0 + n) (same x) (count_same p q same xs) ∙ sym (counted q x xs))

-- a section of a section
pub section_in : {X : Type 0} (a n m first : ℕ) (xs : List X) → a + n ≤ m
    → section a n (section first m xs) ≡ section (first + a) n xs
section_in a n m first xs le =
    let more : m ≡ a + (m - a) = omega arith in
    ap (λ k. take n (drop a (take k (drop first xs)))) more
    ∙ (ap (take n) (drop-take a (m - a) (drop first xs))
    ∙ (take-take n (m - a) (drop a (drop first xs)) (omega arith)
    ∙ ap (take n) (drop-drop a first xs)))

pub section-map : {X Y : Type 0} (f : X → Y) (a n : ℕ) (xs : List X)
    → section a n (map f xs) ≡ map f (section a n xs)
section-map f a n xs = ap (take n) (drop-map f a xs) ∙ take-map f n (drop a xs)

-- an element of a section
pub get_or-section : {X : Type 0} (first n i : ℕ) (xs : List X) (d : X) → i < n
    → get_or (section first n xs) i d ≡ get_or xs (first + i) d
get_or-section first n i xs d lt = get_or-take n (drop first xs) i d lt ∙ get_or-drop first xs i d

pub length-section : {X : Type 0} (first n : ℕ) (xs : List X) → first + n ≤ length xs
    → length (section first n xs) ≡ n
length-section first n xs le =
    length-take-le n (drop first xs) (omega (arith, length-drop first xs))

-- one more element of a section is counted
pub one_more_counted : {X : Type 0} (p : X → Bool) (first i : ℕ) (xs : List X) (x d : X)
    (count one : ℕ)
    → first + i < length xs → x ≡ get_or xs (first + i) d
    → count ≡ count_by p (take i (drop first xs)) → one ≡ cond (p x) 1 0
    → count + one ≡ count_by p (take (i + 1) (drop first xs))
one_more_counted p first i xs x d count one lt at e o =
    ap₂ (λ a b. a + b) e (o ∙ ap (λ y. cond (p y) 1 0) (at ∙ sym (get_or-drop first xs i d)))
    ∙ sym (sum_by_more (λ y. cond (p y) 1 0) (drop first xs) i d
    (omega (arith, length-drop first xs)))

pub one_at_most : (b : Bool) (n : ℕ) → n ≡ cond b 1 0 → n ≤ 1
one_at_most true n e = omega arith
one_at_most false n e = omega arith
