-- Each text is answered as it is to be.
use Rattle.std.proofs.Common.{◌≡◌, ℕ, ◌+◌, ◌≤◌, List, [], ◌∷◌, ◌++◌, length, map, Option, Some}
use Rattle.std.proofs.Common.{None, Result, Ok, Err, refl, sym, ap, subst, ◌∙◌, append_assoc, arith}
use Rattle.std.specs.Prelude.{All}
use Rattle.std.specs.List.{AllByRecursion}
use Rattle.std.proofs.lemmas.List.{append-nil, length-map, map-append}
use Rattle.std.proofs.lemmas.List.Elements.{All-head, All-tail, All-append}
use Rattle.texts.specs.Parts.{goes, ends, refuses, Found, At}
use Rattle.run_checker.specs.declared.Verdict.{Verdict}
use Rattle.texts.specs.Lines.{whole_lines}
use Rattle.texts.specs.Words.{text_of, open_rest}
use Rattle.run_checker.specs.Items.{Item, HasLine, item_words, item_line}
use Rattle.run_checker.specs.Certificates.{Certificate, items_of, certificate_text}
use Rattle.run_checker.specs.Grammar.{IsCertificate, AreFirstLines}
use Rattle.run_checker.specs.Stated.{verdict_of}
use Rattle.run_checker.specs.Checking.{Stage, unread, Onward, step, line_step, accepts}
use Rattle.run_checker.specs.Checking.{unless_followed, alone, checked}
use Rattle.run_checker.specs.Laws.{IsOf, IsRefusedAt, IsAnswer, Stops}
use Rattle.texts.proofs.Texts.{IsOneLine, whole_text, cut_again}
use Rattle.texts.proofs.LineWords.{joined_is_one}
use Rattle.run_checker.proofs.Lexical.{item_is_words}
use Rattle.run_checker.proofs.Complete.{following, followed}
use Rattle.run_checker.proofs.Head.{opened, certificate_read, read_whole}
use Rattle.run_checker.proofs.Whole.{read_lines, lines_following, done, lines_read}
use Rattle.run_checker.proofs.Whole.{lines_taken, reaches, Read, Taken, Stopped}
use Rattle.run_checker.proofs.Verdicts.{verdict_seen}
use Rattle.run_checker.proofs.Good.{good_reach, end_from}

-- ---- the lines of a certificate have no newline

plain_lines : (items : List Item) → All HasLine items
    → AllByRecursion IsOneLine (map item_line items)
plain_lines [] h = tt
plain_lines (item ∷ items) h = (
  joined_is_one (item_words item) (item_is_words item (All-head HasLine item items h).words),
  plain_lines items (All-tail HasLine item items h),
)

-- ---- the text of a certificate is answered by what follows from it

abbrev seen : Certificate → Verdict
seen c = followed (opened c) c.turns

certificate_lines : (c : Certificate) → IsCertificate c
    → read_lines unread 0 1 (map item_line (items_of c)) ≡ done (seen c) 0 (items_of c) []
certificate_lines c is =
    ap (read_lines unread 0 1) (sym (append-nil (map item_line (items_of c))))
    ∙ lines_read (items_of c) unread 0 1 [] (seen c) is.lines (certificate_read c is)

pub certificate_checked : (c : Certificate) → IsCertificate c
    → checked (certificate_text c) ≡ Ok (seen c)
certificate_checked c is =
    let lines = map item_line (items_of c) in
    let cut = cut_again lines [] (plain_lines (items_of c) is.lines) refl in
    let text : text_of lines ++ [] ≡ certificate_text c = append-nil (text_of lines) in
    ap (λ t. alone (open_rest t) (read_lines unread 0 1 (whole_lines t))) (sym text)
    ∙ ap (λ r. alone r (read_lines unread 0 1 (whole_lines (text_of lines ++ [])))) cut.1
    ∙ ap (λ l. alone [] (read_lines unread 0 1 l)) cut.0
    ∙ ap (alone []) (certificate_lines c is)

-- ---- items that lead to a stage begin a certificate

reach_then : (items more : List Item) (s t : Stage) → reaches s items ≡ Some t
    → accepts s (items ++ more) ≡ accepts t more
reach_then [] more s t e = let same : s ≡ t = cc in ap (λ u. accepts u more) same
reach_then (item ∷ items) more s t e = by (step s item) e (λ u f. reach_then items more u t f) where
  by : (next : Onward)
      → (elim next as (λ _. Option Stage)
      [ goes u ↦ reaches u items | ends v ↦ None | refuses r ↦ None ])
      ≡ Some t
      → ((u : Stage) → reaches u items ≡ Some t → accepts u (items ++ more) ≡ accepts t more)
      → following next (items ++ more) ≡ accepts t more
  by (goes u) e rest = rest u e
  by (ends v) e rest = absurd cc
  by (refuses r) e rest = absurd cc

begin_by : (items more : List Item) (v : Verdict) → accepts unread (items ++ more) ≡ Some v
    → All HasLine (items ++ more) → AreFirstLines (map item_line items)
begin_by items more v e lines =
    let r = read_whole (items ++ more) v e in
    record {
      certificate = r.certificate;
      is = r.is lines;
      rest = map item_line more;
      parts = ap (map item_line) (sym r.items_are)
          ∙ map-append item_line items more;
    }

stage_begins : (items : List Item) (t : Stage) → reaches unread items ≡ Some t → All HasLine items
    → AreFirstLines (map item_line items)
stage_begins items t e lines =
    let end = end_from t (good_reach items unread t tt e) in
    begin_by items end.items end.verdict (reach_then items end.items unread t e ∙ end.read)
    (All-append HasLine items end.items lines end.lines)

whole_begins : (items : List Item) (v : Verdict) → accepts unread items ≡ Some v → All HasLine items
    → AreFirstLines (map item_line items)
whole_begins items v e lines =
    begin_by items [] v (ap (accepts unread) (append-nil items) ∙ e)
    (subst (All HasLine) (sym (append-nil items)) lines)

-- ---- a refused line begins none, whatever follows

abbrev Answer : Type 0
Answer = Result (Found Verdict) (At (Unit {0}))

later_line : (lines : List (List ℕ)) (s : Stage) (taken number : ℕ) (at : At (Unit {0}))
    → read_lines s taken number lines ≡ Err at → number ≤ at.line
later_line lines s taken number at e =
    by (read_lines s taken number lines) (lines_taken lines s taken number) e where
      by : (answer : Answer) → Read s taken number lines answer → answer ≡ Err at → number ≤ at.line
      by (Ok found) r e = absurd cc
      by (Err stopped) r e =
          let same : stopped.line
          ≡ at.line = ap (λ (a : Answer). elim a as (λ _. ℕ) [ Ok x ↦ 0 | Err x ↦ x.line ]) e in
          omega (arith, r.count)

same_refusal : (front : List (List ℕ)) (line : List ℕ) (x y : List (List ℕ)) (s : Stage)
    (taken number : ℕ) (at : At (Unit {0}))
    → at.line ≡ number + length front
    → read_lines s taken number (front ++ line ∷ x) ≡ Err at
    → (b : At (Unit {0})) × (read_lines s taken number (front ++ line ∷ y) ≡ Err b)
same_refusal [] line x y s taken number at here e = by (line_step s line) e where
  by : (next : Onward) → lines_following next taken number x ≡ Err at
      → (b : At (Unit {0})) × (lines_following next taken number y ≡ Err b)
  by (goes t) e =
      absurd
      (let l : number + 1 ≤ at.line = later_line x t (taken + 1) (number + 1) at e in
      omega (arith, here))
  by (ends v) e = absurd cc
  by (refuses r) e = (record { line = number; rule = r }, refl)
same_refusal (f ∷ fs) line x y s taken number at here e =
    by (line_step s f) e
    (λ t h. same_refusal fs line x y t (taken + 1) (number + 1) at (omega (arith, here)) h) where
      by : (next : Onward) → lines_following next taken number (fs ++ line ∷ x) ≡ Err at
          → ((t : Stage) → read_lines t (taken + 1) (number + 1) (fs ++ line ∷ x) ≡ Err at
          → (b : At (Unit {0})) × (read_lines t (taken + 1) (number + 1) (fs ++ line ∷ y) ≡ Err b))
          → (b : At (Unit {0})) × (lines_following next taken number (fs ++ line ∷ y) ≡ Err b)
      by (goes t) e more = more t e
      by (ends v) e more = absurd cc
      by (refuses r) e more = (record { line = number; rule = r }, refl)

regroup : (front : List (List ℕ)) (line : List ℕ) (rest : List (List ℕ))
    → front ++ line ∷ [] ++ rest ≡ front ++ line ∷ rest
regroup front line rest = append_assoc front (line ∷ []) rest

stops_at : (front : List (List ℕ)) (line : List ℕ) (x : List (List ℕ)) (at : At (Unit {0}))
    → at.line ≡ 1 + length front → read_lines unread 0 1 (front ++ line ∷ x) ≡ Err at
    → AreFirstLines (front ++ line ∷ []) → ⊥
stops_at front line x at here e f =
    let (b, other) = same_refusal front line x f.rest unread 0 1 at here e in
    absurd
    (ok_err _ _
    (sym (certificate_lines f.certificate f.is)
    ∙ ap (read_lines unread 0 1) (f.parts ∙ regroup front line f.rest) ∙ other))
  where
    ok_err : (found : Found Verdict) (at : At (Unit {0})) → Ok found ≡ Err at → ⊥
    ok_err found at e = absurd cc

ends_at : (items : List Item) (v : Verdict) (line : List ℕ) → accepts unread items ≡ Some v
    → All HasLine items → AreFirstLines (map item_line items ++ line ∷ []) → ⊥
ends_at items v line e lines f =
    absurd
    (not_none (line ∷ f.rest) line f.rest refl
    (behind_same _ _
    (sym (certificate_lines f.certificate f.is)
    ∙ ap (read_lines unread 0 1) (f.parts ∙ regroup (map item_line items) line f.rest)
    ∙ lines_read items unread 0 1 (line ∷ f.rest) v lines e)))
  where
    behind_same : (a b : Found Verdict) → ◌≡◌ {A = Answer} (Ok a) (Ok b) → a.behind ≡ b.behind
    behind_same a b e =
        ap (λ (r : Answer). elim r as (λ _. List (List ℕ)) [ Ok x ↦ x.behind | Err x ↦ [] ]) e

    not_none : (l : List (List ℕ)) (x : List ℕ) (xs : List (List ℕ)) → l ≡ x ∷ xs → [] ≡ l → ⊥
    not_none l x xs a b = absurd cc

-- ---- the answer

pub certificates_checked : (c : Certificate) → IsCertificate c
    → checked (certificate_text c) ≡ Ok (verdict_of c)
certificates_checked c is = certificate_checked c is ∙ ap Ok (verdict_seen c is)

no_certificate : (text : List ℕ) (number : ℕ) → checked text ≡ Err number → (c : Certificate)
    → IsCertificate c → text ≡ certificate_text c → ⊥
no_certificate text number e c is same =
    ok_err _ _ (sym (certificates_checked c is) ∙ ap checked (sym same) ∙ e) where
      ok_err : (v : Verdict) (n : ℕ) → ◌≡◌ {A = Result Verdict ℕ} (Ok v) (Err n) → ⊥
      ok_err v n e = absurd cc

-- the lines were refused
stopped_answer : (text : List ℕ) (at : At (Unit {0}))
    → read_lines unread 0 1 (whole_lines text) ≡ Err at → Stopped unread 1 (whole_lines text) at
    → checked text ≡ Err at.line → IsRefusedAt text at.line
stopped_answer text at e r all =
    let front = map item_line r.items in
    let here : at.line ≡ 1 + length front = omega (arith, r.count, length-map r.items item_line) in
    record {
      front = front;
      rest = r.rest;
      cut = r.is;
      is = omega (arith, here);
      begins = stage_begins r.items r.reached r.reach r.has;
      stops = stops front r.rest (ap (read_lines unread 0 1) (sym r.is) ∙ e) here;
      none = no_certificate text at.line all;
    } where
      stops : (front rest : List (List ℕ)) → read_lines unread 0 1 (front ++ rest) ≡ Err at
          → at.line ≡ 1 + length front → Stops front rest
      stops front [] e here = tt
      stops front (line ∷ lines) e here = stops_at front line lines at here e

-- something stands after the last line
more_answer : (text : List ℕ) (found : Found Verdict) → Taken unread 0 (whole_lines text) found
    → checked text ≡ Err (found.taken + 1) → IsRefusedAt text (found.taken + 1)
more_answer text found r all = record {
  front = map item_line r.items;
  rest = found.behind;
  cut = r.is;
  is = omega (arith, r.count, length-map r.items item_line);
  begins = whole_begins r.items found.value r.read r.has;
  stops = stops found.behind;
  none = no_certificate text (found.taken + 1) all;
} where
  stops : (rest : List (List ℕ)) → Stops (map item_line r.items) rest
  stops [] = tt
  stops (line ∷ lines) = ends_at r.items found.value line r.read r.has

-- nothing does
whole_answer : (text : List ℕ) (found : Found Verdict) → Taken unread 0 (whole_lines text) found
    → found.behind ≡ [] → open_rest text ≡ [] → IsOf text found.value
whole_answer text found r behind rest =
    let c = read_whole r.items found.value r.read in
    let is : IsCertificate c.certificate = c.is r.has in
    let lines : whole_lines text ≡ map item_line (items_of c.certificate) = r.is
    ∙ ap (λ l. map item_line r.items ++ l) behind ∙ append-nil (map item_line r.items)
    ∙ ap (map item_line) c.items_are in
    record {
      certificate = c.certificate;
      is = is;
      text_is =
          sym (whole_text text) ∙ ap (λ l. text_of (whole_lines text) ++ l) rest
          ∙ append-nil (text_of (whole_lines text)) ∙ ap text_of lines;
      comes_to = sym c.verdict ∙ verdict_seen c.certificate is;
    }

followed_answer : (text : List ℕ) (found : Found Verdict) (behind : List (List ℕ))
    → found.behind ≡ behind → Taken unread 0 (whole_lines text) found → open_rest text ≡ []
    → checked text ≡ unless_followed found.value found.taken behind
    → IsAnswer text (unless_followed found.value found.taken behind)
followed_answer text found [] b h r all = whole_answer text found h b r
followed_answer text found (line ∷ lines) b h r all = more_answer text found h all

answer_by : (text rest : List ℕ) (answer : Answer) → open_rest text ≡ rest
    → read_lines unread 0 1 (whole_lines text) ≡ answer → Read unread 0 1 (whole_lines text) answer
    → checked text ≡ alone rest answer → IsAnswer text (alone rest answer)
answer_by text rest (Err at) r e h all = stopped_answer text at e h all
answer_by text (b ∷ rest) (Ok found) r e h all = more_answer text found h all
answer_by text [] (Ok found) r e h all = followed_answer text found found.behind refl h r all

pub texts_checked : (text : List ℕ) → IsAnswer text (checked text)
texts_checked text =
    answer_by text (open_rest text) (read_lines unread 0 1 (whole_lines text)) refl refl
    (lines_taken (whole_lines text) unread 0 1) refl
