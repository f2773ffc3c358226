-- What the loops over a source and a sink keep.
use Rattle.std.proofs.Common.{◌≡◌, ℕ, ◌≤◌, ◌<◌, ◌-◌, ◌+◌, List, [], ◌++◌, length, take, drop}
use Rattle.std.proofs.Common.{Option, refl, ap, sym, ◌∙◌, append_assoc, length-append, arith}
use Rattle.std.specs.Io.KnownBytes.{Consumes, Keeps, Appends}
use Rattle.std.specs.Prelude.{Result, Ok, Err, OnErr}
use Rattle.std.proofs.KnownBytes.{Consumes-kept, Consumes-trans}
use Rattle.texts.specs.Causes.{Counted}
use Rattle.edge_io.specs.Reading.{LosesFront, LosesWithin, LosesMore}
use Rattle.std.proofs.lemmas.List.{take-append-drop, take_rest, length-take-le}
use Rattle.texts.specs.Growth.{SinkState, Follows, Wrote, Cut, IsMissed, arrived}
use Rattle.texts.proofs.Growth.{wrote_none, wrote_then, cut_then, kept_is}

-- so far a prefix of the text was written
pub record Putting (text rest : List ℕ) (old now : SinkState) : Type 0 where
  pub done : List ℕ
  pub parts : text ≡ done ++ rest
  pub wrote : Wrote done old now

-- some more bytes were written
pub put_more : (text rest : List ℕ) (n : ℕ) (old mid new : SinkState) → n ≤ length rest
    → Putting text rest old mid → Appends mid.taken new.taken (take n rest)
    → new.faults ≡ mid.faults → mid.certain ≤ new.certain + n → Follows mid new
    → Putting text (take (length rest - n) (drop n rest)) old new
put_more text rest n old mid new most p bytes still lasts follows = record {
  done = p.done ++ take n rest;
  parts = p.parts ∙ ap (λ (l : List ℕ). p.done ++ l) (sym (take-append-drop n rest)
      ∙ ap (λ (l : List ℕ). take n rest ++ l) (sym (take_rest rest n)))
      ∙ sym (append_assoc p.done (take n rest) (take (length rest - n) (drop n rest)));
  wrote = wrote_then old mid new p.done (take n rest) p.wrote (record {
    bytes = bytes;
    still = still;
    lasts = omega (arith, length-take-le n rest most);
    follows = follows;
  });
}

-- nothing was written yet
pub put_none : (text : List ℕ) (s : SinkState) → Putting text text s s
put_none text s = record { done = []; parts = refl; wrote = wrote_none s }

-- a write failed
pub put_cut : (text rest : List ℕ) (old mid new : SinkState) → Putting text rest old mid
    → Keeps mid.taken new.taken → Counted mid.faults new.faults → mid.certain ≤ length rest
    → Follows mid new → IsMissed mid.taken (arrived new) rest → Cut text old new
put_cut text rest old mid new p keeps cause uncertain follows missed =
    rw p.parts (cut_then old mid new p.done rest p.wrote (record {
      front = record {
        front = [];
        rest = rest;
        parts = refl;
        bytes = kept_is mid.taken new.taken keeps;
      };
      missed = missed;
      cause = cause;
      uncertain = uncertain;
      follows = follows;
    }))

-- a read failed after some that did not
pub lost_before : (old mid new : Option (List ℕ)) (bytes : List ℕ) → Consumes old mid bytes
    → Keeps mid new → LosesFront old new
lost_before old mid new bytes read keeps =
    record { front = bytes; read = Consumes-kept old mid new bytes read keeps }

-- and then no more than the limit was read
pub lost_within : (limit : ℕ) (old mid new : Option (List ℕ)) (bytes : List ℕ)
    → Consumes old mid bytes
    → Keeps mid new → length bytes ≤ limit → LosesWithin limit old new
lost_within limit old mid new bytes read keeps short =
    record { front = bytes; read = Consumes-kept old mid new bytes read keeps; within = short }

-- so too if the bytes of one more read are within it
pub kept_within : (limit : ℕ) (old mid new : Option (List ℕ)) (bytes piece : List ℕ) (count : ℕ)
    → Consumes old mid bytes → Consumes mid new (take count piece) → count ≤ length piece
    → length bytes ≤ limit → count ≤ limit - length bytes → LosesWithin limit old new
kept_within limit old mid new bytes piece count read then most short fits = record {
  front = bytes ++ take count piece;
  read = Consumes-trans old mid new bytes (take count piece) read then;
  within = omega (
    arith,
    length-append bytes (take count piece),
    length-take-le count piece most,
    short,
    fits,
  );
}

-- some more bytes were read
pub lost_with : (old mid new : Option (List ℕ)) (bytes more : List ℕ) → Consumes old mid bytes
    → Consumes mid new more → LosesFront old new
lost_with old mid new bytes more read then =
    record { front = bytes ++ more; read = Consumes-trans old mid new bytes more read then }

-- with those bytes, more than the limit was read
pub lost_past : (limit : ℕ) (old mid new : Option (List ℕ)) (bytes piece : List ℕ) (count : ℕ)
    → Consumes old mid bytes → Consumes mid new (take count piece) → count ≤ length piece
    → length piece ≡ 4096 → length bytes ≤ limit → limit - length bytes < count
    → LosesMore limit old new
lost_past limit old mid new bytes piece count read then most size short past =
    let all = length-append bytes (take count piece) in
    let more = length-take-le count piece most in
    record {
      front = bytes ++ take count piece;
      read = Consumes-trans old mid new bytes (take count piece) read then;
      past = omega (arith, all, more);
      soon = omega (arith, all, more, most, size, short);
    }

-- what holds at each answer holds at an error
pub at_error : {T E : Type 0} {P : Type 0} (r : Result T E) → P → OnErr r P
at_error (Ok x) p = tt
at_error (Err e) p = p
