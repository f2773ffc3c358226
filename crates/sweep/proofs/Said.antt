-- What is said of how many runs were played, write by write.
use Rattle.std.proofs.Common.{◌≡◌, ℕ, ◌-◌, ◌<◌, ◌≤◌, length, get_or, List, [], ◌∷◌, ◌++◌, Bool}
use Rattle.std.proofs.Common.{true, false, inl, inr, refl, sym, ap, ◌∙◌, subst, arith}
use Rattle.std.specs.List.{flat_map}
use Rattle.std.proofs.lemmas.Bool.{true≢false}
use Rattle.std.proofs.lemmas.List.{append-nil}
use Rattle.std.proofs.lemmas.List.Concat.{flat_map-append}
use Rattle.std.proofs.lemmas.List.Elements.{All-push}
use Rattle.sync_types.proofs.RisingIds.{rising_push}
use Rattle.texts.specs.Growth.{SinkState, Wrote, Cut}
use Rattle.texts.proofs.Growth.{wrote_none, wrote_then, cut_then, cut_more}
use Rattle.sweep.specs.Progress.{Saying, SaidBy, SaidSoFar, SaysBy, Says, has_line, progress_line}
use Rattle.sweep.specs.Progress.{progress_text, wiping}

-- lines of some numbers, and that of one more
lines_more : (name : List ℕ) (count : ℕ) (dones : List ℕ) (done : ℕ)
    → flat_map (progress_line name count) (dones ++ done ∷ [])
    ≡ flat_map (progress_line name count) dones ++ progress_line name count done
lines_more name count dones done = flat_map-append (progress_line name count) dones (done ∷ [])
    ∙ ap (λ (l : List ℕ). flat_map (progress_line name count) dones ++ l)
    (append-nil (progress_line name count done))

has_last : (dones : List ℕ) (done : ℕ) → has_line (dones ++ done ∷ []) ≡ true
has_last [] done = refl
has_last (d ∷ dones) done = refl

-- one more write after what was said
said_then : (was : Bool) (a b : List ℕ) (s t u : SinkState) → SaidBy was true a s t → Wrote b t u
    → SaidBy was true (a ++ b) s u
said_then true a b s t u p q = wrote_then s t u a b p q
said_then false a b s t u p q = absurd p

-- and one that failed
said_cut : (was : Bool) (a b : List ℕ) (s t u : SinkState) → SaidBy was true a s t → Cut b t u
    → SaidBy was false (a ++ b) s u
said_cut true a b s t u p q = cut_then s t u a b p q
said_cut false a b s t u p q = absurd p

-- one more write, that may have failed
said_by : (was is_on : Bool) (a b : List ℕ) (s t u : SinkState) → SaidBy was true a s t
    → SaidBy true is_on b t u → SaidBy was is_on (a ++ b) s u
said_by was true a b s t u p q = said_then was a b s t u p q
said_by was false a b s t u p q = said_cut was a b s t u p q

-- nothing was said yet
said_none : (is_on : Bool) (s : SinkState) → SaidBy is_on is_on [] s s
said_none true s = wrote_none s
said_none false s = refl

-- if no line stands there is none
no_line : (dones : List ℕ) → has_line dones ≡ false → dones ≡ []
no_line [] none = refl
no_line (d ∷ dones) none = absurd (true≢false none)

-- nothing is left to be said if progress is off, or no line stands
says_still : (name : List ℕ) (was is_on : Bool) (count : ℕ) (dones : List ℕ) (s t : SinkState)
    → (is_on ≡ true → dones ≡ []) → SaidBy was is_on (flat_map (progress_line name count) dones) s t
    → SaysBy was (progress_text name count dones) s t
says_still name true true count [] s t none p = inl p
says_still name true true count (d ∷ dones) s t none p =
    absurd (true≢false (ap has_line (none refl)))
says_still name true false count [] s t none p = inr p
says_still name true false count (d ∷ dones) s t none p =
    inr (cut_more s t (flat_map (progress_line name count) (d ∷ dones)) wiping p)
says_still name false true count dones s t none p = absurd p
says_still name false false count dones s t none p = p

-- the line is wiped, or a prefix of the blanks is written
says_wiped : (name : List ℕ) (was is_on : Bool) (count : ℕ) (dones : List ℕ) (s t u : SinkState)
    → has_line dones ≡ true → SaidBy was true (flat_map (progress_line name count) dones) s t
    → SaidBy true is_on wiping t u → SaysBy was (progress_text name count dones) s u
says_wiped name was is_on count [] s t u some p q = absurd (true≢false (sym some))
says_wiped name true true count (d ∷ dones) s t u some p q =
    inl (wrote_then s t u (flat_map (progress_line name count) (d ∷ dones)) wiping p q)
says_wiped name true false count (d ∷ dones) s t u some p q =
    inr (cut_then s t u (flat_map (progress_line name count) (d ∷ dones)) wiping p q)
says_wiped name false is_on count (d ∷ dones) s t u some p q = absurd p

-- if nothing is said
pub says_nothing : (name : List ℕ) (is_on : Bool) (count : ℕ) (s : SinkState)
    → Says name is_on count s s
says_nothing name true count s = record {
  dones = [];
  rising = λ k lt. absurd (omega arith);
  among = λ k d lt. absurd (omega arith);
  said = inl (wrote_none s);
}
says_nothing name false count s = record {
  dones = [];
  rising = λ k lt. absurd (omega arith);
  among = λ k d lt. absurd (omega arith);
  said = refl;
}

module _ {K : Type 0} (told : K → SinkState) (count : ℕ) (start now : Saying K) where
  -- the lines so far, of progress that is on
  said_on : (dones : List ℕ) → now.is_on ≡ true
      → SaidBy start.is_on now.is_on (flat_map (progress_line start.name count) dones)
      (told start.sink) (told now.sink)
      → SaidBy start.is_on true (flat_map (progress_line start.name count) dones)
      (told start.sink) (told now.sink)
  said_on dones on said = subst (λ (b : Bool). SaidBy start.is_on b
      (flat_map (progress_line start.name count) dones) (told start.sink) (told now.sink)) on said

  -- a line was written, or a prefix of it
  pub said_more : (next : Saying K) (wrote : Bool) (before done : ℕ) → before < done
      → now.is_on ≡ true → next.name ≡ now.name → next.is_shown ≡ true → next.is_on ≡ wrote
      → SaidBy true wrote (progress_line now.name count done) (told now.sink) (told next.sink)
      → SaidSoFar told count before start now → SaidSoFar told count done start next
  said_more next wrote before done later on named shown is line so =
      let behind : SaidBy true wrote (progress_line start.name count done)
      (told now.sink) (told next.sink) =
      subst (λ (name : List ℕ). SaidBy true wrote (progress_line name count done)
      (told now.sink) (told next.sink)) so.named line in
      record {
        dones = so.dones ++ done ∷ [];
        rising = rising_push so.dones done so.rising (λ some.
            let most : get_or so.dones (length so.dones - 1) 0 ≤ before =
            so.among (length so.dones - 1) 0 (omega arith) in omega arith);
        among = All-push (λ (d : ℕ). d ≤ done) so.dones done (λ k d lt.
            let most : get_or so.dones k d ≤ before = so.among k d lt in omega arith) (omega arith);
        named = named ∙ so.named;
        shown = shown ∙ sym (has_last so.dones done);
        said = rw (lines_more start.name count so.dones done, is) (said_by start.is_on wrote
            (flat_map (progress_line start.name count) so.dones)
            (progress_line start.name count done)
            (told start.sink) (told now.sink) (told next.sink)
            (said_on so.dones on so.said) behind);
      }

  -- it ends if no line stands, or progress is off
  pub said_off : (now.is_on ≡ true → now.is_shown ≡ false) → SaidSoFar told count count start now
      → Says start.name start.is_on count (told start.sink) (told now.sink)
  said_off none so = record {
    dones = so.dones;
    rising = so.rising;
    among = so.among;
    said = says_still start.name start.is_on now.is_on count so.dones (told start.sink)
        (told now.sink) (λ on. no_line so.dones (sym so.shown ∙ none on)) so.said;
  }

  -- it ends when the line is wiped
  pub said_wiped : (after : K) (wrote : Bool) → now.is_on ≡ true → now.is_shown ≡ true
      → SaidBy true wrote wiping (told now.sink) (told after)
      → SaidSoFar told count count start now
      → Says start.name start.is_on count (told start.sink) (told after)
  said_wiped after wrote on shown wiped so = record {
    dones = so.dones;
    rising = so.rising;
    among = so.among;
    said = says_wiped start.name start.is_on wrote count so.dones (told start.sink) (told now.sink)
        (told after) (sym so.shown ∙ shown) (said_on so.dones on so.said) wiped;
  }

-- it begins, and nothing was said
pub said_begin : {K : Type 0} (told : K → SinkState) (count : ℕ) (start now : Saying K)
    → now ≡ record start { is_shown = false } → SaidSoFar told count 0 start now
said_begin told count start now same = rw same (record {
  dones = [];
  rising = λ k lt. absurd (omega arith);
  among = λ k d lt. absurd (omega arith);
  named = refl;
  shown = refl;
  said = said_none start.is_on (told start.sink);
})
