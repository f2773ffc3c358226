-- One write after another.
use Rattle.std.proofs.Common.{◌≡◌, ℕ, ◌+◌, ◌<◌, ◌≤◌, length, take, drop, get_or, List, [], ◌∷◌}
use Rattle.std.proofs.Common.{◌++◌, Option, Some, None, Result, Ok, Err, refl, sym, ap, ◌∙◌, subst}
use Rattle.std.proofs.Common.{append_assoc, length-append, length-drop, arith}
use Rattle.std.specs.Prelude.{OnOk}
use Rattle.std.specs.Result.{IsErrAnd}
use Rattle.std.proofs.lemmas.Result.{err_from_is_err_and}
use Rattle.std.specs.List.{flat_map}
use Rattle.std.proofs.lemmas.List.{append-nil, append_cancel_left, take-append-drop, drop_more}
use Rattle.std.proofs.lemmas.List.{take_more}
use Rattle.std.proofs.lemmas.List.Concat.{flat_map-append}
use Rattle.std.specs.Io.KnownBytes.{Appends, Keeps, append_known}
use Rattle.texts.specs.Causes.{Counted}
use Rattle.texts.specs.Growth.{SinkState, gathering, Grows, EachGrows, Follows, AppendsFront}
use Rattle.texts.specs.Growth.{arrived, IsMissed, Wrote, Cut, Puts}

-- known bytes grow by nothing
pub appends_none : (s : Option (List ℕ)) → Appends s s []
appends_none None = tt
appends_none (Some xs) = sym (append-nil xs)

-- they grow by one text and then by another
pub appends_then : (s t u : Option (List ℕ)) (a b : List ℕ) → Appends s t a → Appends t u b
    → Appends s u (a ++ b)
appends_then None t u a b p q = tt
appends_then (Some xs) None u a b p q = absurd p
appends_then (Some xs) (Some ys) None a b p q = absurd q
appends_then (Some xs) (Some ys) (Some zs) a b p q = q ∙ ap (λ (l : List ℕ). l ++ b) p
    ∙ append_assoc xs a b

-- each of a list of known bytes grows by nothing
pub each_grows_none : (xs : List (Option (List ℕ))) → EachGrows xs xs
each_grows_none [] = tt
each_grows_none (x ∷ xs) = (record { more = []; bytes = appends_none x }, each_grows_none xs)

-- each grows once and then again
pub each_grows_then : (xs ys zs : List (Option (List ℕ))) → EachGrows xs ys → EachGrows ys zs
    → EachGrows xs zs
each_grows_then [] [] [] p q = tt
each_grows_then [] [] (z ∷ zs) p q = absurd q
each_grows_then [] (y ∷ ys) zs p q = absurd p
each_grows_then (x ∷ xs) [] zs p q = absurd p
each_grows_then (x ∷ xs) (y ∷ ys) [] p q = absurd q
each_grows_then (x ∷ xs) (y ∷ ys) (z ∷ zs) p q = (
  record {
    more = p.0.more ++ q.0.more;
    bytes = appends_then x y z p.0.more q.0.more p.0.bytes q.0.bytes;
  },
  each_grows_then xs ys zs p.1 q.1,
)

-- no write
pub follows_none : (s : SinkState) → Follows s s
follows_none s = record { same = refl; grows = each_grows_none s.passed }

-- one change after another
pub follows_then : (s t u : SinkState) → Follows s t → Follows t u → Follows s u
follows_then s t u p q = record {
  same = q.same ∙ p.same;
  grows = each_grows_then s.passed t.passed u.passed p.grows q.grows;
}

-- no text was written
pub wrote_none : (s : SinkState) → Wrote [] s s
wrote_none s = record {
  bytes = appends_none s.taken;
  still = refl;
  lasts = omega arith;
  follows = follows_none s;
}

-- a text was written and then another
pub wrote_then : (s t u : SinkState) (a b : List ℕ) → Wrote a s t → Wrote b t u → Wrote (a ++ b) s u
wrote_then s t u a b p q =
    record {
      bytes = appends_then s.taken t.taken u.taken a b p.bytes q.bytes;
      still = q.still ∙ p.still;
      lasts = omega (arith, length-append a b, p.lasts, q.lasts);
      follows = follows_then s t u p.follows q.follows;
    }

-- what is missed of a text is missed of what was written before and this text
missed_then : (s t end : Option (List ℕ)) (a b : List ℕ) → Appends s t a → IsMissed t end b
    → IsMissed s end (a ++ b)
missed_then None t end a b p q = tt
missed_then (Some xs) None end a b p q = absurd p
missed_then (Some xs) (Some ys) None a b p q = tt
missed_then (Some xs) (Some ys) (Some zs) a b p q =
    let size : length ys ≡ length xs + length a = ap length p ∙ length-append xs a in
    omega (arith, q, size, length-append a b)

-- and of any longer text
missed_more : (s end : Option (List ℕ)) (a b : List ℕ) → IsMissed s end a → IsMissed s end (a ++ b)
missed_more None end a b q = tt
missed_more (Some xs) None a b q = tt
missed_more (Some xs) (Some zs) a b q = omega (arith, q, length-append a b)

-- what is missed of bytes that are held back is missed of what was taken
missed_held : (s end : Option (List ℕ)) (held : List ℕ) → IsMissed s end held
    → IsMissed (append_known s held) end []
missed_held None end held q = tt
missed_held (Some xs) None held q = tt
missed_held (Some xs) (Some zs) held q =
    let goal : length zs < length (xs ++ held) + 0 = omega (arith, q, length-append xs held) in goal

-- if nothing was held back, what is missed is missed of what was passed on
missed_behind : (s end : Option (List ℕ)) (text : List ℕ) → IsMissed (append_known s []) end text
    → IsMissed s end text
missed_behind None end text q = tt
missed_behind (Some xs) None text q = tt
missed_behind (Some xs) (Some zs) text q = omega (arith, q, length-append xs [])

-- a cut after a whole write
pub cut_then : (s t u : SinkState) (a b : List ℕ) → Wrote a s t → Cut b t u → Cut (a ++ b) s u
cut_then s t u a b p q = record {
  front = record {
    front = a ++ q.front.front;
    rest = q.front.rest;
    parts = ap (λ (l : List ℕ). a ++ l) q.front.parts
        ∙ sym (append_assoc a q.front.front q.front.rest);
    bytes = appends_then s.taken t.taken u.taken a q.front.front p.bytes q.front.bytes;
  };
  missed = missed_then s.taken t.taken (arrived u) a b p.bytes q.missed;
  cause = subst (λ (x : ℕ). Counted x u.faults) p.still q.cause;
  uncertain = omega (arith, length-append a b, p.lasts, q.uncertain);
  follows = follows_then s t u p.follows q.follows;
}

-- a cut of a text is one of any longer text
pub cut_more : (s t : SinkState) (a b : List ℕ) → Cut a s t → Cut (a ++ b) s t
cut_more s t a b q = record {
  front = record {
    front = q.front.front;
    rest = q.front.rest ++ b;
    parts = ap (λ (l : List ℕ). l ++ b) q.front.parts ∙ append_assoc q.front.front q.front.rest b;
    bytes = q.front.bytes;
  };
  missed = missed_more s.taken (arrived t) a b q.missed;
  cause = q.cause;
  uncertain = omega (arith, length-append a b, q.uncertain);
  follows = q.follows;
}

-- the text of a list, parted at its i-th part
pub flat_map_at : {X : Type 0} (f : X → List ℕ) (xs : List X) (i : ℕ) (d : X) → i < length xs
    → flat_map f xs ≡ flat_map f (take i xs) ++ (f (get_or xs i d) ++ flat_map f (drop (i + 1) xs))
flat_map_at f xs i d lt = ap (flat_map f) (sym (take-append-drop i xs))
    ∙ flat_map-append f (take i xs) (drop i xs)
    ∙ ap (λ l. flat_map f (take i xs) ++ flat_map f l) (drop_more xs i d lt)

-- the text of a list is cut in its i-th part
pub cut_at : {X : Type 0} (f : X → List ℕ) (xs : List X) (i : ℕ) (d : X) (s t u : SinkState)
    → i < length xs → Wrote (flat_map f (take i xs)) s t → Cut (f (get_or xs i d)) t u
    → Cut (flat_map f xs) s u
cut_at f xs i d s t u lt p q =
    let part = f (get_or xs i d) in
    let rest = flat_map f (drop (i + 1) xs) in
    rw (flat_map_at f xs i d lt)
    (cut_then s t u (flat_map f (take i xs)) (part ++ rest) p (cut_more t u part rest q))

-- one more part of the text of a list
pub wrote_at : {X : Type 0} (f : X → List ℕ) (xs : List X) (i : ℕ) (d : X) (s t u : SinkState)
    → i < length xs → Wrote (flat_map f (take i xs)) s t → Wrote (f (get_or xs i d)) t u
    → Wrote (flat_map f (take (i + 1) xs)) s u
wrote_at f xs i d s t u lt p q =
    let parts : flat_map f (take (i + 1) xs) ≡ flat_map f (take i xs) ++ f (get_or xs i d) =
    ap (flat_map f) (take_more xs i d lt) ∙ flat_map-append f (take i xs) (get_or xs i d ∷ [])
    ∙ ap (λ l. flat_map f (take i xs) ++ l) (append-nil (f (get_or xs i d))) in
    rw parts (wrote_then s t u (flat_map f (take i xs)) (f (get_or xs i d)) p q)

-- a last call after a text that was written
pub puts_then : {T E : Type 0} (r : Result T E) (s t u : SinkState) (a b : List ℕ) → Wrote a s t
    → Puts r b t u → Puts r (a ++ b) s u
puts_then (Ok x) s t u a b p q = wrote_then s t u a b p q
puts_then (Err e) s t u a b p q = cut_then s t u a b p q

-- the exit of a `?`
pub puts_exit : {T E : Type 0} (Q : E → Type 0) (r : Result T E) (s t : SinkState) (a : List ℕ)
    → IsErrAnd r Q → Cut a s t → Puts r a s t
puts_exit Q r s t a h cut = let p = err_from_is_err_and r h in rw p.1 cut

-- what is kept grows by nothing
pub kept_is : (s t : Option (List ℕ)) → Keeps s t → Appends s t []
kept_is None t p = tt
kept_is (Some xs) None p = absurd p
kept_is (Some xs) (Some ys) p = p ∙ sym (append-nil xs)

-- bytes that were held back and then passed on are taken as before
kept_taken : (s t : Option (List ℕ)) (n : ℕ) (held : List ℕ) → Appends s t (take n held)
    → Appends (append_known s held) (append_known t (drop n held)) []
kept_taken None t n held p = tt
kept_taken (Some xs) None n held p = absurd p
kept_taken (Some xs) (Some ys) n held p = ap (λ (l : List ℕ). l ++ drop n held) p
    ∙ append_assoc xs (take n held) (drop n held)
    ∙ ap (λ (l : List ℕ). xs ++ l) (take-append-drop n held) ∙ sym (append-nil (xs ++ held))

-- what is taken grows by what is held back
appends_held : (s : Option (List ℕ)) (held more : List ℕ)
    → Appends (append_known s held) (append_known s (held ++ more)) more
appends_held None held more = tt
appends_held (Some xs) held more = sym (append_assoc xs held more)

-- the sinks behind a gathering one only grow
gathering_follows : (name : ℕ) (held other : List ℕ) (s t : SinkState) (more : List ℕ)
    → Appends s.taken t.taken more → Follows s t
    → Follows (gathering name held s) (gathering name other t)
gathering_follows name held other s t more bytes follows = record {
  same = ap (λ (l : List ℕ). name ∷ l) follows.same;
  grows = (record { more = more; bytes = bytes }, follows.grows);
}

-- ---- a sink that gathers what it takes, before it passes it on

-- what was passed on is a prefix of what was taken
passed_front : (xs ys held more front : List ℕ) → ys ++ held ≡ xs ++ front → ys ≡ xs ++ more
    → front ≡ more ++ held
passed_front xs ys held more front p q =
    append_cancel_left xs front (more ++ held) (sym p ∙ ap (λ (l : List ℕ). l ++ held) q
    ∙ append_assoc xs more held)

-- a prefix of the text was passed on, if what was taken is a prefix of it
passed_on : (s u : Option (List ℕ)) (held text : List ℕ)
    → AppendsFront (append_known s []) (append_known u held) text → Grows s u
    → AppendsFront s u text
passed_on None u held text p q =
    record { front = text; rest = []; parts = sym (append-nil text); bytes = tt }
passed_on (Some xs) None held text p q = absurd q.bytes
passed_on (Some xs) (Some ys) held text p q =
    let taken : ys ++ held ≡ xs ++ p.front = p.bytes
    ∙ ap (λ (l : List ℕ). l ++ p.front) (append-nil xs) in
    let here = passed_front xs ys held q.more p.front taken q.bytes in
    record {
      front = q.more;
      rest = held ++ p.rest;
      parts = p.parts ∙ ap (λ (l : List ℕ). l ++ p.rest) here ∙ append_assoc q.more held p.rest;
      bytes = q.bytes;
    }

abbrev tail_of : List ℕ → List ℕ
tail_of [] = []
tail_of (x ∷ xs) = xs

-- the sinks behind the one behind only grow
behind_follows : (name other : ℕ) (held more : List ℕ) (s u : SinkState)
    → Follows (gathering name held s) (gathering other more u) → Follows s u
behind_follows name other held more s u p = record { same = ap tail_of p.same; grows = p.grows.1 }

-- the sink behind was cut, if the gathering one was
pub cut_behind : (name other : ℕ) (held text : List ℕ) (s u : SinkState)
    → Cut text (gathering name [] s) (gathering other held u) → Cut text s u
cut_behind name other held text s u p = record {
  front = passed_on s.taken u.taken held text p.front p.follows.grows.0;
  missed = missed_behind s.taken (arrived u) text p.missed;
  cause = p.cause;
  uncertain = omega (arith, p.uncertain);
  follows = behind_follows name other [] held s u p.follows;
}

-- if nothing is held back, all that was taken was passed on
all_passed : (s u : Option (List ℕ)) (text : List ℕ)
    → Appends (append_known s []) (append_known u []) text → Grows s u → Appends s u text
all_passed None u text p q = tt
all_passed (Some xs) None text p q = absurd q.bytes
all_passed (Some xs) (Some ys) text p q = sym (append-nil ys) ∙ p
    ∙ ap (λ (l : List ℕ). l ++ text) (append-nil xs)

-- the sink behind took all, if nothing is held back
pub wrote_behind : (name other : ℕ) (text : List ℕ) (s u : SinkState)
    → Wrote text (gathering name [] s) (gathering other [] u) → Wrote text s u
wrote_behind name other text s u p = record {
  bytes = all_passed s.taken u.taken text p.bytes p.follows.grows.0;
  still = p.still;
  lasts = omega (arith, p.lasts);
  follows = behind_follows name other [] [] s u p.follows;
}

-- the sink behind took a prefix of what is held back
pub passed_more : (name n : ℕ) (held : List ℕ) (s t : SinkState) → n ≤ length held
    → Appends s.taken t.taken (take n held) → t.faults ≡ s.faults → s.certain ≤ t.certain + n
    → Follows s t → Wrote [] (gathering name held s) (gathering name (drop n held) t)
passed_more name n held s t most bytes still lasts follows = record {
  bytes = kept_taken s.taken t.taken n held bytes;
  still = still;
  lasts = omega (arith, length-drop n held);
  follows = gathering_follows name held (drop n held) s t (take n held) bytes follows;
}

-- the sink behind failed
pub passed_none : (name : ℕ) (held : List ℕ) (s t : SinkState) → Keeps s.taken t.taken
    → Counted s.faults t.faults → s.certain ≤ length held → Follows s t
    → IsMissed s.taken (arrived t) held → Cut [] (gathering name held s) (gathering name held t)
passed_none name held s t keeps cause uncertain follows missed = record {
  front = record {
    front = [];
    rest = [];
    parts = refl;
    bytes = kept_taken s.taken t.taken 0 held (kept_is s.taken t.taken keeps);
  };
  missed = missed_held s.taken (arrived t) held missed;
  cause = cause;
  uncertain = omega arith;
  follows = gathering_follows name held held s t [] (kept_is s.taken t.taken keeps) follows;
}

-- bytes are held back
pub held_more : (name : ℕ) (held more : List ℕ) (s : SinkState)
    → Wrote more (gathering name held s) (gathering name (held ++ more) s)
held_more name held more s = record {
  bytes = appends_held s.taken held more;
  still = refl;
  lasts = omega (arith, length-append held more);
  follows = gathering_follows name held (held ++ more) s s [] (appends_none s.taken)
      (follows_none s);
}

abbrev head_of : List ℕ → ℕ
head_of [] = 0
head_of (x ∷ xs) = x

-- A text was put into a gathering sink that held nothing, and at Ok it holds nothing again. The
-- sink behind it was lent to it, and is what stands under the name at the end.
pub puts_lent : {K T E : Type 0} (told : K
    → SinkState) (r : Result T E) (lent other : ℕ) (held text : List ℕ) (s : SinkState)
    (now final : K)
    → (lent ≡ other → final ≡ now)
    → Puts r text (gathering lent [] s) (gathering other held (told now)) → OnOk r (held ≡ [])
    → Puts r text s (told final)
puts_lent told (Ok x) lent other held text s now final ends p none =
    let q = subst (λ (h : List ℕ). Wrote text (gathering lent [] s) (gathering other h (told now)))
    none p in
    rw (ends (sym (ap head_of p.follows.same))) (wrote_behind lent other text s (told now) q)
puts_lent told (Err e) lent other held text s now final ends p none =
    rw (ends (sym (ap head_of p.follows.same))) (cut_behind lent other held text s (told now) p)
