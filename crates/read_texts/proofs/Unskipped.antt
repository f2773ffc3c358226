-- Lines behind a part: where all are skipped nothing counts, and else the first that is not is
-- found.
use Rattle.std.proofs.Common.{◌≡◌, ℕ, ◌+◌, Bool, true, false, List, [], ◌∷◌, ◌++◌, length, not}
use Rattle.std.proofs.Common.{Option, Some, None, Result, Ok, Err, inl, inr, refl, sym, ap, ◌∙◌}
use Rattle.std.proofs.Common.{arith}
use Rattle.std.specs.Prelude.{◌||◌, nat_lt, if◌then◌else◌}
use Rattle.std.proofs.lemmas.List.{append-nil}
use Rattle.std.proofs.lemmas.List.Elements.{filter-append}
use Rattle.texts.specs.Parts.{is_skipped, Found, At}
use Rattle.part_lines.specs.TakenLines.{counting}
use Rattle.plan_reader.specs.Skipped.{first_unskipped}
use Rattle.read_texts.specs.Unskipped.{stands_out, IsFirstUnskipped, IsFollowed, IsRefusedAlone}

none_by : (long skipped : Bool) (line : List ℕ) (lines : List (List ℕ)) (number : ℕ)
    → is_skipped line ≡ skipped
    → (if long || not skipped then Some number else first_unskipped (number + 1) lines) ≡ None
    → (first_unskipped (number + 1) lines ≡ None → counting lines ≡ [])
    → counting (line ∷ lines) ≡ []
none_by true skipped line lines number is e more = absurd cc
none_by false false line lines number is e more = absurd cc
none_by false true line lines number is e more = rw is (more e)

none_count : (number : ℕ) (lines : List (List ℕ)) → first_unskipped number lines ≡ None
    → counting lines ≡ []
none_count number [] e = refl
none_count number (line ∷ lines) e =
    none_by (nat_lt 4096 (length line)) (is_skipped line) line lines number refl e
    (none_count (number + 1) lines)

-- so what counts is what the part took
pub none_behind : (lines front behind : List (List ℕ)) (number : ℕ) → lines ≡ front ++ behind
    → first_unskipped number behind ≡ None → counting lines ≡ counting front
none_behind lines front behind number parts none =
    ap counting parts
    ∙ filter-append (λ line. not (is_skipped line)) front behind
    ∙ ap (λ ls. counting front ++ ls) (none_count number behind none)
    ∙ append-nil (counting front)

-- ---- the first that is not skipped

first_by : (out : Bool) (line : List ℕ) (lines : List (List ℕ)) (number n : ℕ)
    → stands_out line ≡ out
    → (if out then Some number else first_unskipped (number + 1) lines) ≡ Some n
    → (first_unskipped (number + 1) lines ≡ Some n → IsFirstUnskipped (number + 1) lines n)
    → IsFirstUnskipped number (line ∷ lines) n
first_by true line lines number n out e more = record {
  front = [];
  line = line;
  behind = lines;
  parts = refl;
  is = let same : number ≡ n = cc in omega (arith, same);
  skipped = tt;
  stands = out;
}
first_by false line lines number n out e more =
    let h = more e in
    record {
      front = line ∷ h.front;
      line = h.line;
      behind = h.behind;
      parts = ap (λ ls. line ∷ ls) h.parts;
      is = omega (arith, h.is);
      skipped = (out, h.skipped);
      stands = h.stands;
    }

pub first_is : (number : ℕ) (lines : List (List ℕ)) (n : ℕ) → first_unskipped number lines ≡ Some n
    → IsFirstUnskipped number lines n
first_is number [] n e = absurd cc
first_is number (line ∷ lines) n e =
    first_by (stands_out line) line lines number n refl e (first_is (number + 1) lines n)

-- a part that is refused for what follows it
pub followed_at : {V R : Type 0} (form : R) (first : ℕ) (part : Result (Found V) (At R))
    (found : Found V) (at : At R) (n : ℕ) → part ≡ Ok found
    → first_unskipped (first + found.taken) found.behind ≡ Some n
    → record { line = n; rule = form } ≡ at → IsRefusedAlone form first part at
followed_at {R = R} form first part found at n is there same =
    let line : n ≡ at.line = ap (λ (a : At R). a.line) same in
    let h = first_is (first + found.taken) found.behind n there in
    inr (record {
      found = found;
      is = is;
      line = record {
        front = h.front;
        line = h.line;
        behind = h.behind;
        parts = h.parts;
        is = sym line ∙ h.is;
        skipped = h.skipped;
        stands = h.stands;
      };
      rule = sym (ap (λ (a : At R). a.rule) same);
    })
