-- What was read of a feed, of its source.
use Rattle.std.proofs.Common.{◌≡◌, ℕ, ◌+◌, ◌-◌, ◌^◌, ◌≤◌, Bool, true, false, List, [], ◌∷◌, ◌++◌}
use Rattle.std.proofs.Common.{length, take, drop, Option, Some, None, Result, Ok, Err, refl, sym}
use Rattle.std.proofs.Common.{ap, ◌∙◌, subst, append_assoc, append-nil, length-append, arith}
use Rattle.std.specs.Prelude.{min, nat_lt}
use Rattle.std.specs.Io.KnownBytes.{prepend_known, Consumes, Keeps, IsAtEnd}
use Rattle.std.proofs.lemmas.Bool.{le-ltb}
use Rattle.texts.specs.Pending.{AllButLast, AtOnce}
use Rattle.edge_io.specs.declared.feed.Feed.{Feed}
use Rattle.edge_io.specs.Feeds.{buffered}
use Rattle.edge_io.specs.FedParts.{MayFollow}
use Rattle.edge_io.specs.EndedReads.{WholeText, RefusedText, LongText, LostText, HaltedText}
use Rattle.run_checker.specs.declared.Verdict.{Verdict}
use Rattle.run_checker.specs.Checking.{unread, line_step, checked}
use Rattle.run_checker.proofs.Answers.{texts_checked}
use Rattle.run_checker.specs.Checks.{Pending, ReadAhead, DecidesAtOnce, checked_by, unlimited}
use Rattle.run_checker.specs.Checks.{IsChecked, IsRefused, IsTooLong, IsLost, IsHalted}
use Rattle.run_checker.proofs.MoreRoom.{more_room}
use Rattle.run_checker.proofs.PendingTexts.{pending_short}
use Rattle.run_checker.proofs.Unlimited.{limits_matter_beyond}

-- bytes read of a feed and those in its buffer were read of its source
pub read_of : (s f l : Option (List ℕ)) (held bytes : List ℕ) → Keeps s f
    → Consumes f (prepend_known held l) bytes
    → Consumes s l (bytes ++ held)
read_of None f l held bytes keeps read = tt
read_of (Some xs) None l held bytes keeps read = absurd keeps
read_of (Some xs) (Some ys) None held bytes keeps read = absurd read
read_of (Some xs) (Some ys) (Some zs) held bytes keeps read =
    sym keeps ∙ read ∙ sym (append_assoc bytes held zs)

reads_nothing : (s : Option (List ℕ)) → Consumes s s []
reads_nothing None = tt
reads_nothing (Some xs) = refl

nothing_left : (xs ys : List ℕ) → xs ++ ys ≡ [] → (xs ≡ []) × (ys ≡ [])
nothing_left [] ys e = (refl, e)
nothing_left (x ∷ xs) ys e = absurd cc

-- at its end all was read
read_all_of : (s f l : Option (List ℕ)) (held bytes : List ℕ) → Keeps s f
    → Consumes f (prepend_known held l) bytes
    → IsAtEnd (prepend_known held l) → Consumes s l bytes × IsAtEnd l
read_all_of None f None held bytes keeps read end = (tt, tt)
read_all_of None f (Some zs) held bytes keeps read end = (tt, (nothing_left held zs end).1)
read_all_of (Some xs) None l held bytes keeps read end = absurd keeps
read_all_of (Some xs) (Some ys) None held bytes keeps read end = absurd read
read_all_of (Some xs) (Some ys) (Some zs) held bytes keeps read end =
    let e = nothing_left held zs end in (
      sym keeps ∙ read ∙ ap (λ (h : List ℕ). bytes ++ h) end
          ∙ ap (λ (h : List ℕ). bytes ++ h) (sym (e.1)),
      e.1,
    )

verdict_back : (r : Result Verdict ℕ) (v : Verdict) → unlimited r ≡ Ok v → r ≡ Ok v
verdict_back (Ok w) v e = let same : w ≡ v = cc in ap Ok same
verdict_back (Err n) v e = absurd cc

-- ---- a greater limit

pending_more : (most limit : ℕ) (bytes : List ℕ) → most ≤ limit → Pending most bytes
    → Pending limit bytes
pending_more most limit bytes le p =
    let within = p.room.within in
    record {
      lines = p.lines;
      room = record { short = p.room.short; within = omega (arith, le, within) };
    }

all_but_last_more : (most limit : ℕ) (bytes : List ℕ) → most ≤ limit
    → AllButLast (λ bs. Pending most bs) bytes → AllButLast (λ bs. Pending limit bs) bytes
all_but_last_more most limit bytes le p = record {
  front = p.front;
  last = p.last;
  parts = p.parts;
  pending = pending_more most limit p.front le p.pending;
}

at_once_more : (most limit : ℕ) (ended : Bool) (bytes : List ℕ) → most ≤ limit
    → AtOnce ended (λ bs. Pending most bs) bytes → AtOnce ended (λ bs. Pending limit bs) bytes
at_once_more most limit true bytes le p = pending_more most limit bytes le p
at_once_more most limit false bytes le (p, shown) = (all_but_last_more most limit bytes le p, shown)

-- no text goes beyond a limit that is greater than a certificate
pub long_within : (limit most : ℕ) (f l : Option (List ℕ)) → most ≡ min limit (2 ^ 45)
    → LongText line_step tt unread most f l → most ≡ limit
long_within limit most f l is h =
    let once = h.at_once in
    let short = pending_short once.front texts_checked most once.pending in
    let past = h.past in
    let parts : length h.bytes ≡ length once.front + 1 =
    ap length once.parts ∙ length-append once.front (once.last ∷ []) in
    omega (arith, is, short, past, parts)

-- ---- of a source whose feed was read within the least of both limits

module _ (limit most : ℕ) (le : most ≤ limit) (s f l : Option (List ℕ)) (held : List ℕ)
    (keeps : Keeps s f) where
  pub whole_checked : (v : Verdict) → WholeText line_step tt unread most f (prepend_known held l) v
      → IsChecked limit s l v
  whole_checked v h =
      let all = read_all_of s f l held h.bytes keeps h.read h.at_end in
      let within = h.within in
      let short : nat_lt most (length h.bytes) ≡ false = le-ltb most (length h.bytes) within in
      record {
        text = h.bytes;
        read = all.0;
        at_end = all.1;
        within = omega (arith, within, le);
        is = verdict_back (checked h.bytes) v (sym (limits_matter_beyond most h.bytes within)
            ∙ ap (λ (b : Bool). checked_by most b h.bytes) short ∙ h.is);
      }

  -- with the bytes in the feed's buffer
  ahead : (Are : List ℕ → Type 0) → length held ≤ 4096 → (bytes : List ℕ) → Are bytes
      → ReadAhead false Are (bytes ++ held)
  ahead Are few bytes once = record {
    front = bytes;
    ahead = held;
    parts = refl;
    few = few;
    none = λ same. absurd cc;
    are = once;
  }

  -- and if there are none
  none_ahead : (bytes : List ℕ) → Pending most bytes → DecidesAtOnce limit true bytes
  none_ahead bytes once = record {
    front = bytes;
    ahead = [];
    parts = sym (append-nil bytes);
    few = omega arith;
    none = λ same. refl;
    are = pending_more most limit bytes le once;
  }

  refused_by : length held ≤ 4096
      → (line : ℕ) (r : Unit {0})
      (h : RefusedText line_step tt unread most f (prepend_known held l) line r) (ended : Bool)
      → h.ended ≡ ended → IsRefused limit s l line
  refused_by few line r h true e =
      let all = read_all_of s f l held h.bytes keeps h.read (h.at_end e) in
      let within = h.within in
      record {
        bytes = h.bytes;
        ended = true;
        read = all.0;
        at_end = λ same. all.1;
        within = λ same. omega (arith, within, le);
        at_once =
            none_ahead h.bytes
            (subst (λ (b : Bool). AtOnce b (λ bs. Pending most bs) h.bytes) e h.at_once);
        decides = λ longer rest follows. more_room (h.bytes ++ rest) line longer most limit le
            (h.decides longer rest (subst (λ (b : Bool). MayFollow b longer rest) (sym e) follows));
      }
  refused_by few line r h false e = record {
    bytes = h.bytes ++ held;
    ended = false;
    read = read_of s f l held h.bytes keeps h.read;
    at_end = λ same. absurd (not_both same);
    within = λ same. absurd (not_both same);
    at_once =
        ahead (AtOnce false (Pending limit)) few h.bytes (at_once_more most limit false h.bytes le
        (subst (λ (b : Bool). AtOnce b (λ bs. Pending most bs) h.bytes) e h.at_once));
    decides = λ longer rest follows. ap (checked_by limit longer) (append_assoc h.bytes held rest)
        ∙ more_room (h.bytes ++ (held ++ rest)) line longer most limit le
        (h.decides longer (held ++ rest)
        (subst (λ (b : Bool). MayFollow b longer (held ++ rest)) (sym e) tt));
  } where
    not_both : false ≡ true → ⊥
    not_both e = absurd cc

  pub text_refused : length held ≤ 4096 → (line : ℕ) (r : Unit {0})
      → RefusedText line_step tt unread most f (prepend_known held l) line r
      → IsRefused limit s l line
  text_refused few line r h = refused_by few line r h h.ended refl

  pub text_too_long : length held ≤ 4096 → most ≡ limit
      → LongText line_step tt unread most f (prepend_known held l) → IsTooLong limit s l
  text_too_long few same h =
      let past = h.past in
      record {
        bytes = h.bytes ++ held;
        line = h.line;
        read = read_of s f l held h.bytes keeps h.read;
        past = omega (arith, length-append h.bytes held, past, same);
        at_once = ahead (AllButLast (Pending limit)) few h.bytes
            (all_but_last_more most limit h.bytes le h.at_once);
        decides = λ rest. ap (checked_by limit true) (append_assoc h.bytes held rest)
            ∙ ap (λ (most : ℕ). checked_by most true (h.bytes ++ (held ++ rest))) (sym same)
            ∙ h.decides (held ++ rest);
      }

  -- if a read failed, the buffer is empty
  pub text_lost : held ≡ [] → LostText line_step tt unread most f (prepend_known held l)
      → IsLost limit s l
  text_lost none h = record {
    bytes = h.bytes;
    read = subst (Consumes s l) (ap (λ (more : List ℕ). h.bytes ++ more) none ∙ append-nil h.bytes)
        (read_of s f l held h.bytes keeps h.read);
    pending = pending_more most limit h.bytes le h.lost;
  }

  pub text_halted : length held ≤ 4096
      → HaltedText line_step tt unread most f (prepend_known held l) → IsHalted limit s l
  text_halted few h = record {
    bytes = h.bytes ++ held;
    none = false;
    read = read_of s f l held h.bytes keeps h.read;
    before = λ same. absurd cc;
    at_once = ahead (AtOnce false (Pending limit)) few h.bytes
        (at_once_more most limit false h.bytes le h.at_once);
  }

-- no byte decides before the first
pub nothing_halted : (limit : ℕ) (s : Option (List ℕ)) → IsHalted limit s s
nothing_halted limit s = record {
  bytes = [];
  none = true;
  read = reads_nothing s;
  before = λ same. refl;
  at_once = record {
    front = [];
    ahead = [];
    parts = refl;
    few = omega arith;
    none = λ same. refl;
    are = record { lines = refl; room = record { short = omega arith; within = omega arith } };
  };
}

-- a feed's buffer that is read to its end
pub held_none : {S : Type 0} (f : Feed S) → f.at ≡ f.end → buffered f ≡ []
held_none f dry =
    let none : f.end - f.at ≡ 0 = omega (arith, dry) in
    ap (λ (n : ℕ). take n (drop f.at f.buffer)) none

-- the source that was lent ends as what stands under its name
pub lent_back : {X : Type 0} (P : X → Type 0) (final now : X) (lent other : ℕ)
    → (lent ≡ other → final ≡ now) → lent ≡ other
    → P now → P final
lent_back P final now lent other given same h = subst P (sym (given same)) h
