-- What holds of the answer to every text.
use Rattle.std.specs.Prelude.{◌≡◌, ⊤, ℕ, ◌+◌, ◌-◌, ◌%◌, ◌<◌, ◌≤◌, List, [], ◌∷◌, ◌++◌, length, map}
use Rattle.std.specs.Prelude.{All, Option, Some, None, IsSome, Result, Ok, Err, slice_index_or}
use Rattle.std.specs.Prelude.{if◌then◌else◌}
use Rattle.std.specs.List.{range_with_len}
use Rattle.construction.specs.Plans.{Plan, plan_nodes, plan_bound, plan_modulus}
use Rattle.construction.specs.Runs.{is_in, Run, IsLocked}
use Rattle.round_runner.specs.Laws.{IsUpTo}
use Rattle.run_checker.specs.declared.Verdict.{Verdict}
use Rattle.run_checker.specs.declared.Verdict.TheVariants as verdict
use Rattle.texts.specs.Lines.{whole_lines}
use Rattle.run_checker.specs.Certificates.{Turn, Certificate, certificate_text}
use Rattle.run_checker.specs.Grammar.{IsCertificate, AreFirstLines}
use Rattle.run_checker.specs.Stated.{Snapshot, stand_behind, first_stand, stands_behind, stated}
use Rattle.run_checker.specs.Stated.{rows_of, verdict_of}
use Rattle.run_checker.specs.Checking.{checked}

-- the text is that of a certificate, which comes to this verdict
pub record IsOf (text : List ℕ) (verdict : Verdict) : Type 0 where
  pub certificate : Certificate
  pub is : IsCertificate certificate
  pub text_is : text ≡ certificate_text certificate
  pub comes_to : verdict ≡ verdict_of certificate

-- with one more line, the lines are not the first of a certificate
abbrev pub Stops : (front rest : List (List ℕ)) → Type 0
Stops front [] = Unit {0}
Stops front (line ∷ lines) = AreFirstLines (front ++ line ∷ []) → ⊥

-- the text is no certificate, and the lines before this number are the last that begin one
pub record IsRefusedAt (text : List ℕ) (number : ℕ) : Type 0 where
  pub front : List (List ℕ)
  pub rest : List (List ℕ)
  pub cut : whole_lines text ≡ front ++ rest
  pub is : number ≡ length front + 1
  pub begins : AreFirstLines front
  pub stops : Stops front rest
  pub none : (c : Certificate) → IsCertificate c → text ≡ certificate_text c → ⊥

abbrev pub IsAnswer : List ℕ → Result Verdict ℕ → Type 0
IsAnswer text (Ok verdict) = IsOf text verdict
IsAnswer text (Err number) = IsRefusedAt text number

-- each text is answered by the verdict of the certificate whose text it is, or refused at the first
-- line at which its lines begin no certificate
abbrev pub TextsAreChecked : Type 0
TextsAreChecked = (text : List ℕ) → IsAnswer text (checked text)

-- and the text of each certificate is answered by its verdict
abbrev pub CertificatesAreChecked : Type 0
CertificatesAreChecked =
    (c : Certificate) → IsCertificate c → checked (certificate_text c) ≡ Ok (verdict_of c)

-- ---- the stated run

-- after these rounds no era begins
abbrev pub AreQuiet : List Turn → Type 0
AreQuiet turns = All (λ turn. turn.era ≡ None) turns

-- the configuration after rounds
abbrev pub stand_after : Plan → Snapshot → List Turn → Snapshot
stand_after plan stand [] = stand
stand_after plan stand (turn ∷ turns) = stand_after plan (stand_behind plan stand turn) turns

-- Each stretch of rounds after which no era begins is a run of the plan, with the faulty nodes that
-- the stretch begins with; the lies of each round are the stated ones.
abbrev pub StretchesAreRuns : Type 0
StretchesAreRuns =
    (c : Certificate) → IsCertificate c → (before stretch after : List Turn)
    → c.turns ≡ before ++ (stretch ++ after) → AreQuiet stretch
    → Run c.plan (stand_after c.plan (first_stand c) before).faulty
    (map (λ stand. stand.config)
    (stand_after c.plan (first_stand c) before
    ∷ stands_behind c.plan (stand_after c.plan (first_stand c) before) stretch))

-- From place `from` of such a stretch on, counted from its first configuration, the rows are one
-- number for all correct nodes, which grows by one modulo C from row to row.
pub record StretchCountsFrom (c : Certificate) (before stretch : List Turn)
    (from : ℕ) : Type 0 where
  pub output : ℕ → ℕ
  pub shows : (i : ℕ) → from ≤ i → i ≤ length stretch
      → slice_index_or (rows_of c) (length before + i) []
      ≡ map
      (λ v. if is_in (stand_after c.plan (first_stand c) before).faulty v then None
      else Some (output i)) (range_with_len 0 (plan_nodes c.plan))
  pub grows : (i : ℕ) → from ≤ i → i + 1 ≤ length stretch
      → output (i + 1) ≡ (output i + 1) % plan_modulus c.plan

-- they do so from the plan's bound on
abbrev pub StretchCounts : Certificate → (before stretch : List Turn) → Type 0
StretchCounts c before stretch = StretchCountsFrom c before stretch (plan_bound c.plan)

-- In a certificate that is true, the rows of each such stretch do.
abbrev pub TrueRowsCount : Type 0
TrueRowsCount =
    (c : Certificate) → IsCertificate c → (rows : ℕ) (locked : Option ℕ)
    → verdict_of c ≡ verdict.True rows locked
    → (before stretch after : List Turn) → c.turns ≡ before ++ (stretch ++ after) → AreQuiet stretch
    → StretchCounts c before stretch

-- ---- the last era

-- there are no rounds, or an era begins after the last of them
abbrev pub EndWithEra : List Turn → Type 0
EndWithEra [] = ⊤
EndWithEra (turn ∷ []) = IsSome turn.era
EndWithEra (turn ∷ next ∷ turns) = EndWithEra (next ∷ turns)

-- configuration t of the stated run is locked
abbrev pub LockedAt : Certificate → (t : ℕ) → Type 0
LockedAt c t =
    let stand = slice_index_or (stated c) t (first_stand c) in
    IsLocked c.plan stand.faulty stand.config

-- none of the configurations from `from` on and before `end` is locked
abbrev pub NoneLocked : Certificate → (from end : ℕ) → Type 0
NoneLocked c from end = (t : ℕ) → from ≤ t → t < end → LockedAt c t → ⊥

-- configuration t is locked, and none before it from `from` on
pub record IsLockedFirst (c : Certificate) (from t : ℕ) : Type 0 where
  pub late : from ≤ t
  pub inside : t ≤ length c.turns
  pub locked : LockedAt c t
  pub first : NoneLocked c from t

-- the first locked one of the configurations from `from` on; none, if none of them is
abbrev pub IsFirstLocked : Certificate → (from : ℕ) → Option ℕ → Type 0
IsFirstLocked c from (Some t) = IsLockedFirst c from t
IsFirstLocked c from None = NoneLocked c from (length c.turns + 1)

-- What is locked first is the first locked configuration of the last era, which begins after the
-- rounds before the last stretch. The rows count from there to the end; and if that era is as long
-- as the bound, it is locked by then.
pub record LastEraLocks (c : Certificate) (locked : Option ℕ) : Type 0 where
  pub before : List Turn
  pub stretch : List Turn
  pub parts : c.turns ≡ before ++ stretch
  pub begins : EndWithEra before
  pub quiet : AreQuiet stretch
  pub first : IsFirstLocked c (length before) locked
  pub counts : (t : ℕ) → locked ≡ Some t → StretchCountsFrom c before stretch (t - length before)
  pub by_bound : plan_bound c.plan ≤ length stretch
      → IsUpTo (length before + plan_bound c.plan) locked

-- In a certificate that is true, the locked configuration that its verdict has is that.
abbrev pub TrueLocksAreFirst : Type 0
TrueLocksAreFirst = (c : Certificate) → IsCertificate c → (rows : ℕ) (locked : Option ℕ)
    → verdict_of c ≡ verdict.True rows locked → LastEraLocks c locked
