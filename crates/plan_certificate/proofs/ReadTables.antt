-- A text that is read as a table is the table text of the plan that was read.
use Rattle.std.proofs.Common.{◌≡◌, ℕ, zero, suc, ◌+◌, ◌≤◌, inl, inr, Bool, true, false, cond, List}
use Rattle.std.proofs.Common.{[], ◌∷◌, ◌++◌, Option, Some, None, Result, Ok, Err, decimal, codes}
use Rattle.std.proofs.Common.{refl, sym, ap, subst, ◌∙◌, append_assoc, arith}
use Rattle.std.specs.Prelude.{⊤, if◌then◌else◌, slice_index}
use Rattle.std.specs.Str.{bytes_eq}
use Rattle.std.proofs.lemmas.List.{append-nil}
use Rattle.std.proofs.lemmas.List.Elements.{All-cons}
use Rattle.std.proofs.lemmas.Fmt.{decimal_digit}
use Rattle.std.proofs.lemmas.Slice.Eq.{bytes_eq-Decides}
use Rattle.texts.specs.Lines.{words_of, whole_lines}
use Rattle.texts.specs.Numbers.{number_of}
use Rattle.texts.specs.Shapes.{numbers_after, numbers_of, onto_numbers}
use Rattle.texts.specs.Parts.{Next, goes, ends, refuses, Found, At, part_from}
use Rattle.texts.specs.Words.{joined, text_of, open_rest}
use Rattle.texts.proofs.Texts.{whole_text}
use Rattle.texts.proofs.LineWords.{words_back, number_back}
use Rattle.sync_types.specs.declared.answers.Cause.{Cause}
use Rattle.sync_types.specs.declared.answers.Cause.TheVariants as cause
use Rattle.sync_types.specs.declared.answers.Premise.{Premise}
use Rattle.sync_types.specs.declared.answers.Premise.TheVariants.{Form}
use Rattle.construction.specs.Plans.{Plan}
use Rattle.plan_numbers.specs.Numbers.{numbers_below, with_level}
use Rattle.plan_numbers.specs.Premises.{IsAccepted, FitsVersion, base_premise, first_premise}
use Rattle.plan_certificate.specs.declared.table_stages.TableStage.{TableStage}
use Rattle.plan_certificate.specs.declared.table_stages.TableStage.TheVariants.{Unread, Begun}
use Rattle.plan_certificate.specs.declared.table_stages.TableStage.TheVariants.{Built, Stated}
use Rattle.plan_certificate.specs.Tables.{table_text}
use Rattle.plan_certificate.specs.TableLines.{same_numbers, level_in, level_stated, plan_stated}
use Rattle.plan_certificate.specs.TableLines.{plan_values, values_over, unless_premise, based}
use Rattle.plan_certificate.specs.TableLines.{goes_with, built_by, begins, table_step, alone}
use Rattle.plan_certificate.specs.TableLines.{unless_followed, table_of}
use Rattle.plan_certificate.proofs.TableWords.{level_words, plan_words, level_back, plan_back}
use Rattle.plan_certificate.proofs.StatedTables.{IsVersion, first_of, base_of, whole_of}
use Rattle.plan_certificate.proofs.StatedTables.{built_lines, stage_lines, table_lines}
use Rattle.plan_certificate.proofs.StatedTables.{table_text_is}

-- what holds of a stage
abbrev IsSound : TableStage → Type 0
IsSound Unread = ⊤
IsSound (Begun version) = IsVersion version
IsSound (Built plan) = IsAccepted plan
IsSound (Stated plan) = IsAccepted plan

-- what a line leads to
abbrev Leads : TableStage → List ℕ → Next TableStage Plan Cause → Type 0
Leads s line (goes t) = IsSound t × (stage_lines t ≡ stage_lines s ++ line ∷ [])
Leads s line (ends plan) = IsAccepted plan × (table_lines plan ≡ stage_lines s ++ line ∷ [])
Leads s line (refuses r) = ⊤

first_leads : (one two : Bool) (line : List ℕ) → bytes_eq line (codes "table 1") ≡ one
    → bytes_eq line (codes "table 2") ≡ two
    → Leads Unread line (begins (cond one (Some 1) (cond two (Some 2) None)))
unfolding stage_lines
first_leads true two line p q =
    let is = (bytes_eq-Decides line (codes "table 1")).0 p in
    (inl refl, rw (is, decimal_digit 1 (omega arith)) refl)
first_leads false true line p q =
    let is = (bytes_eq-Decides line (codes "table 2")).0 q in
    (inr refl, rw (is, decimal_digit 2 (omega arith)) refl)
first_leads false false line p q = tt

-- ---- the base

one_number : (n : Option ℕ) (base : ℕ) (ns : List ℕ) → onto_numbers n (Some []) ≡ Some (base ∷ ns)
    → n ≡ Some base
one_number None base ns e = absurd cc
one_number (Some n) base ns e = cc

base_by : (same : Bool) (key : List ℕ) (words : List (List ℕ)) (base : ℕ) (ns : List ℕ)
    → bytes_eq key (codes "base") ≡ same → cond same (numbers_of 1 words) None ≡ Some (base ∷ ns)
    → codes "base" ∷ decimal base ∷ [] ≡ key ∷ words
base_by false key words base ns s e = absurd cc
base_by true key [] base ns s e = absurd cc
base_by true key (w ∷ v ∷ ws) base ns s e = absurd (none_more (number_of w) e) where
  none_more : (n : Option ℕ) → onto_numbers n None ≡ Some (base ∷ ns) → ⊥
  none_more None e = absurd cc
  none_more (Some n) e = absurd cc
base_by true key (w ∷ []) base ns s e =
    let key_is = (bytes_eq-Decides key (codes "base")).0 s in
    let is = number_back w base (one_number (number_of w) base ns e) in
    rw (is.0, key_is) refl

base_words : (words : List (List ℕ)) (base : ℕ) (ns : List ℕ)
    → numbers_after (codes "base") 1 words ≡ Some (base ∷ ns)
    → codes "base" ∷ decimal base ∷ [] ≡ words
base_words [] base ns e = absurd cc
base_words (key ∷ words) base ns e = base_by (bytes_eq key (codes "base")) key words base ns refl e

oldest : (version : ℕ) → IsVersion version → 1 ≤ version
oldest version (inl one) = omega (arith, one)
oldest version (inr two) = omega (arith, two)

newest : (version : ℕ) → IsVersion version → version ≤ 2
newest version (inl one) = omega (arith, one)
newest version (inr two) = omega (arith, two)

begun_by : (version base : ℕ) (line : List ℕ) (premise : Option Premise) → IsVersion version
    → base_premise base ≡ premise → base_of base ≡ line
    → Leads (Begun version) line
    (goes_with
    (unless_premise premise (Ok (record { version = version; base = base; levels = [] }))))
unfolding stage_lines built_lines
begun_by version base line (Some p) known e is = tt
begun_by version base line None known e is = (
  record {
    oldest = oldest version known;
    newest = newest version known;
    fits = λ k d lt. absurd (omega arith);
    levels = e;
  },
  ap (λ l. first_of version ∷ l ∷ []) is,
)

base_leads : (version : ℕ) (line : List ℕ) (found : Option (List ℕ)) → IsVersion version
    → numbers_after (codes "base") 1 (words_of line) ≡ found
    → Leads (Begun version) line (goes_with (based version found))
base_leads version line None known e = tt
base_leads version line (Some []) known e = tt
base_leads version line (Some (base ∷ n ∷ ns)) known e = tt
base_leads version line (Some (base ∷ [])) known e =
    begun_by version base line (base_premise base) known refl
    (ap joined (base_words (words_of line) base [] e) ∙ words_back line)

-- ---- levels, and the whole plan

level_made : (plan : Plan) (line ns : List ℕ) (same : Bool) → IsAccepted plan
    → first_premise (numbers_below plan) (level_in ns) ≡ None
    → same_numbers ns (values_over plan (level_in ns)) ≡ same
    → joined (level_words plan.version ns) ≡ line
    → (plan.version ≡ 1 → slice_index ns 10 ≡ 0)
    → Leads (Built plan) line
    (goes_with (if same then Ok (with_level plan (level_in ns)) else Err cause.Value))
unfolding stage_lines built_lines
level_made plan line ns false sound none e is fits = tt
level_made plan line ns true sound none e is fits =
    let equal : ns ≡ values_over plan (level_in ns) =
    (bytes_eq-Decides ns (values_over plan (level_in ns))).0 e in (
      record {
        oldest = sound.oldest;
        newest = sound.newest;
        fits = All-cons (FitsVersion plan.version) (level_in ns) plan.levels fits sound.fits;
        levels = (sound.levels, none);
      },
      ap (λ l. built_lines plan.version plan.base plan.levels ++ l ∷ [])
          (ap (λ xs. joined (level_words plan.version xs)) (sym equal) ∙ is),
    )

level_leads_by : (plan : Plan) (line ns : List ℕ) (premise : Option Premise) → IsAccepted plan
    → first_premise (numbers_below plan) (level_in ns) ≡ premise
    → joined (level_words plan.version ns) ≡ line
    → (plan.version ≡ 1 → slice_index ns 10 ≡ 0)
    → Leads (Built plan) line (goes_with (unless_premise premise
    (if same_numbers ns (values_over plan (level_in ns)) then Ok (with_level plan (level_in ns))
    else Err cause.Value)))
level_leads_by plan line ns (Some p) sound e is fits = tt
level_leads_by plan line ns None sound e is fits =
    level_made plan line ns (same_numbers ns (values_over plan (level_in ns))) sound e refl is fits

whole_by : (plan : Plan) (line ns : List ℕ) (same : Bool) → IsAccepted plan
    → same_numbers ns (plan_values plan) ≡ same → joined (plan_words ns) ≡ line
    → Leads (Built plan) line (if same then goes (Stated plan) else refuses cause.Value)
unfolding stage_lines
whole_by plan line ns false sound e is = tt
whole_by plan line ns true sound e is =
    let equal : ns ≡ plan_values plan = (bytes_eq-Decides ns (plan_values plan)).0 e in (
      sound,
      ap (λ l. built_lines plan.version plan.base plan.levels ++ l ∷ [])
          (ap (λ xs. joined (plan_words xs)) (sym equal) ∙ is),
    )

built_leads : (plan : Plan) (line : List ℕ) (level whole : Option (List ℕ)) → IsAccepted plan
    → level_stated plan.version (words_of line) ≡ level → plan_stated (words_of line) ≡ whole
    → Leads (Built plan) line (built_by plan level whole)
built_leads plan line None None sound p q = tt
built_leads plan line (Some ns) whole sound p q =
    let h = level_back plan.version (words_of line) ns p in
    level_leads_by plan line ns (first_premise (numbers_below plan) (level_in ns)) sound refl
    (ap joined h.0 ∙ words_back line) h.1
built_leads plan line None (Some ns) sound p q =
    whole_by plan line ns (same_numbers ns (plan_values plan)) sound refl
    (ap joined (plan_back (words_of line) ns q) ∙ words_back line)

end_by : (plan : Plan) (line : List ℕ) (same : Bool) → IsAccepted plan
    → bytes_eq line (codes "end") ≡ same
    → Leads (Stated plan) line (if same then ends plan else refuses (cause.Premise Form))
unfolding stage_lines table_lines
end_by plan line false sound e = tt
end_by plan line true sound e =
    let is = (bytes_eq-Decides line (codes "end")).0 e in (
      sound,
      ap (λ l. (built_lines plan.version plan.base plan.levels ++ whole_of plan ∷ []) ++ l ∷ [])
          (sym is),
    )

line_leads : (s : TableStage) (line : List ℕ) → IsSound s → Leads s line (table_step s line)
line_leads Unread line sound =
    first_leads (bytes_eq line (codes "table 1")) (bytes_eq line (codes "table 2")) line refl refl
line_leads (Begun version) line sound =
    base_leads version line (numbers_after (codes "base") 1 (words_of line)) sound refl
line_leads (Built plan) line sound =
    built_leads plan line (level_stated plan.version (words_of line)) (plan_stated (words_of line))
    sound refl refl
line_leads (Stated plan) line sound = end_by plan line (bytes_eq line (codes "end")) sound refl

-- ---- all lines

-- what was read from a stage on
record IsRead (s : TableStage) (lines : List (List ℕ)) (found : Found Plan) : Type 0 where
  front : List (List ℕ)
  cut : lines ≡ front ++ found.behind
  are : table_lines found.value ≡ stage_lines s ++ front
  accepted : IsAccepted found.value

abbrev read : TableStage → (taken number : ℕ) → List (List ℕ) → Result (Found Plan) (At Cause)
read s taken number lines = part_from table_step (cause.Premise Form) s taken number lines

not_both : (at : At Cause) (found : Found Plan) → Err at ≡ Ok found → ⊥
not_both at found e = cc

read_one : (s : TableStage) (line : List ℕ) (lines : List (List ℕ)) (taken number : ℕ)
    (found : Found Plan)
    (next : Next TableStage Plan Cause) → table_step s line ≡ next → Leads s line next
    →
    ((t : TableStage) → IsSound t → read t (taken + 1) (number + 1) lines ≡ Ok found
    → IsRead t lines found)
    → read s taken number (line ∷ lines) ≡ Ok found → IsRead s (line ∷ lines) found
read_one s line lines taken number found (refuses r) is leads more e =
    let no : read s taken number (line ∷ lines)
    ≡ Err (record { line = number; rule = r }) = rw (part_from, is) refl in
    absurd (not_both _ _ (sym no ∙ e))
read_one s line lines taken number found (ends plan) is leads more e =
    let made : Ok (record { value = plan; taken = taken + 1; behind = lines }) ≡ Ok found =
    sym (rw (part_from, is) refl) ∙ e in
    let same : record { value = plan; taken = taken + 1; behind = lines } ≡ found = cc in
    subst (λ f. IsRead s (line ∷ lines) f) same
    (record { front = line ∷ []; cut = refl; are = leads.1; accepted = leads.0 })
read_one s line lines taken number found (goes t) is leads more e =
    let on : read t (taken + 1) (number + 1) lines ≡ Ok found = sym (rw (part_from, is) refl) ∙ e in
    let h = more t leads.0 on in
    record {
      front = line ∷ h.front;
      cut = ap (λ l. line ∷ l) h.cut;
      are =
          h.are ∙ ap (λ l. l ++ h.front) leads.1 ∙ append_assoc (stage_lines s) (line ∷ []) h.front;
      accepted = h.accepted;
    }

read_all : (lines : List (List ℕ)) (s : TableStage) (taken number : ℕ) (found : Found Plan)
    → IsSound s
    → read s taken number lines ≡ Ok found → IsRead s lines found
read_all [] s taken number found sound e = absurd cc
read_all (line ∷ lines) s taken number found sound e =
    read_one s line lines taken number found (table_step s line) refl (line_leads s line sound)
    (λ t good on. read_all lines t (taken + 1) (number + 1) found good on) e

version_known : (plan : Plan) → IsAccepted plan → IsVersion plan.version
version_known plan accepted = by plan.version accepted.oldest accepted.newest where
  by : (version : ℕ) → 1 ≤ version → version ≤ 2 → IsVersion version
  by zero p q = absurd (omega arith)
  by (suc zero) p q = inl refl
  by (suc (suc zero)) p q = inr refl
  by (suc (suc (suc version))) p q = absurd (omega arith)

alone_by : (lines : List (List ℕ)) (rest : List ℕ) (plan out : Plan) (last : ℕ)
    → unless_followed lines rest plan last ≡ Ok out → (lines ≡ []) × (rest ≡ []) × (plan ≡ out)
alone_by [] [] plan out last e = (refl, refl, cc)
alone_by [] (b ∷ rest) plan out last e = absurd cc
alone_by (line ∷ lines) rest plan out last e = absurd cc

only_by : (text : List ℕ) (plan : Plan) (found : Result (Found Plan) (At Cause))
    → read Unread 0 1 (whole_lines text) ≡ found → alone (open_rest text) found ≡ Ok plan
    → IsAccepted plan × (text ≡ table_text plan)
unfolding stage_lines
only_by text plan (Err at) is e = absurd cc
only_by text plan (Ok found) is e =
    let h = read_all (whole_lines text) Unread 0 1 found tt is in
    let (none, closed, same) = alone_by found.behind (open_rest text) found.value plan found.taken
    e in
    let lines : whole_lines text ≡ table_lines found.value =
    h.cut ∙ ap (λ l. h.front ++ l) none ∙ append-nil h.front ∙ sym h.are in
    subst (λ p. IsAccepted p × (text ≡ table_text p)) same (
      h.accepted,
      sym (whole_text text)
          ∙ ap (λ r. text_of (whole_lines text) ++ r) closed
          ∙ append-nil (text_of (whole_lines text))
          ∙ ap text_of lines
          ∙ table_text_is found.value (version_known found.value h.accepted),
    )

-- a text that is read as a table of a plan is the table text of that plan, which is accepted
pub only_tables : (text : List ℕ) (plan : Plan) → table_of text ≡ Ok plan
    → IsAccepted plan × (text ≡ table_text plan)
only_tables text plan e = only_by text plan (read Unread 0 1 (whole_lines text)) refl e
